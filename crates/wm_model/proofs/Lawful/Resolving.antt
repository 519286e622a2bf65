-- The four calls that resolve conflicts leave a lawful state.
use Rattle.std.proofs.Common.{◌≡◌, ℕ, ◌+◌, ◌-◌, Bool, List, [], ◌∷◌, length, map, unwrap_or, Option, Some, None, refl, ◌∙◌}
use Rattle.std.specs.List.{find, flat_map}
use Rattle.wm_syntax.specs.Trees.{Cond}
use Rattle.wm_syntax.specs.declared.statement.Arg.{Arg}
use Rattle.wm_base.specs.declared.refusal.Refusal.{Refusal}
use Rattle.wm_decided.specs.Deciding.{decisions_in}
use Rattle.wm_decided.specs.Keys.{meets_key}
use Rattle.wm_decided.specs.Netted.{entries_decided, marks_of}
use Rattle.wm_decided.specs.declared.keep.Keep.{Keep}
use Rattle.wm_net.specs.Conflicts.{Settled}
use Rattle.wm_outline.specs.Outline.{outline}
use Rattle.wm_print.specs.Texts.{Done, Fine}
use Rattle.wm_spec.specs.Lists.{Entry}
use Rattle.wm_spec.specs.declared.record.table.Table.{Table}
use Rattle.wm_state.specs.State.{Decision, Savepoint, Session, Workspace, content, fresh_live, with_entries, with_space, workspace_of}
use Rattle.wm_state.proofs.Changing.{differ-changed}
use Rattle.wm_model.specs.Lawful.{Each, Holds, IsSound, LawfulMark, LawfulSpace, LawfulState, staged_of}
use Rattle.wm_model.specs.Step.{Answer, State, begin_resolve_plan, cells_of, claim_of, commit, commit_resolve, decide, decide_on, decisions_of, lock_fault, parent_in, resolve_conflicts, resolved, rollback_resolve_plan, run, set_of, setting, sides, unresolved_fault}
use Rattle.wm_model.specs.Step.Sessions as settings
use Rattle.wm_model.proofs.Lawful.Deciding.{decisions_sound, entries_sound}
use Rattle.wm_model.proofs.Lawful.Entries.{all_swapped, each_append, holds_appended}
use Rattle.wm_model.proofs.Lawful.Leaves.{AreSound, Keeps, Leaves, leaves_durably, leaves_run, leaves_set, leaves_unless, leaves_with_named, leaving, stays}
use Rattle.wm_model.proofs.Lawful.Plans.{keeping, keeps_setting}
use Rattle.wm_model.proofs.Lawful.Saving.{space_appended}
use Rattle.wm_model.proofs.Lawful.Spaces.{Goes, changed, seats_kept, spaces_kept}
use Rattle.wm_model.proofs.Lawful.Staging.{staged_found}

-- ---- a resolve is opened and closed

keeps_begun : (faults : List (Option Refusal)) (session : Session) (n : ℕ) (s : State) → LawfulState s → Keeps s (setting faults session (settings.Begin n))
keeps_begun faults session n s l = keeps_setting faults session (settings.Begin n) s l (λ x old. old) tt

pub leaves_begin_resolve : (session : Session) (args : List Arg) (s : State) → LawfulState s → Leaves (run (begin_resolve_plan session args (outline s)) s)
leaves_begin_resolve session args s l = leaves_run (begin_resolve_plan session args (outline s)) s l (search (keeping, keeps_begun) depth 10)

keeps_ended : (faults : List (Option Refusal)) (session : Session) (s : State) → LawfulState s → Keeps s (setting faults session settings.End)
keeps_ended faults session s l = keeps_setting faults session settings.End s l (λ x old. old) tt

pub leaves_rollback_resolve : (session : Session) (args : List Arg) (s : State) → LawfulState s → Leaves (run (rollback_resolve_plan session args (outline s)) s)
leaves_rollback_resolve session args s l = leaves_run (rollback_resolve_plan session args (outline s)) s l (search (keeping, keeps_ended) depth 10)

-- ---- decisions

leaves_decide : (session : Session) (ds : List Decision) (s : State) (l : LawfulState s) → AreSound s l (flat_map staged_of ds) → Leaves (decide session ds s)
leaves_decide session [] s l each = stays s _ l
leaves_decide session (d ∷ ds) s l each = leaves_set session.name (settings.Decide (d ∷ ds)) s (Done (length (d ∷ ds))) l (λ x old. old) each

-- what a workspace of the state holds is sound, and so is what its parent does
parent_sound : (s : State) (w : Workspace) (l : LawfulState s) → AreSound s l (content (parent_in s w))
parent_sound s w l = by_parent (workspace_of s.durable.spaces w.parent) refl
  where
    by_parent : (o : Option Workspace) → workspace_of s.durable.spaces w.parent ≡ o → AreSound s l (content (unwrap_or o fresh_live))
    by_parent None is = tt
    by_parent (Some p) is =
        let h = l.durable.entries.each w.parent p is in each_append (IsSound l.durable.entries.tells s.durable.next_stamp) p.lists.base p.lists.own h.base h.own

leaves_decide_on : (session : Session) (table : Table) (condition : Option Cond) (keep : Keep) (s : State) (w : Workspace) → LawfulState s → workspace_of s.durable.spaces w.number ≡ Some w → Leaves (decide_on session table condition keep s w)
leaves_decide_on session table condition keep s w l found =
    leaves_decide session (decisions_in keep (sides (parent_in s w) w) table.number (meets_key table condition)) s l
    (decisions_sound l.durable.entries.tells s.durable.next_stamp keep (sides (parent_in s w) w) table.number (meets_key table condition) (l.durable.entries.each w.number w found).base (parent_sound s w l))

pub leaves_resolve_conflicts : (session : Session) (workspace name : List ℕ) (condition : Option Cond) (keep : Keep) (fault : Option (List ℕ) → Option (List ℕ)) (empty : Bool) (s : State) → LawfulState s
    → Leaves (resolve_conflicts session workspace name condition keep fault empty s)
leaves_resolve_conflicts session workspace name condition keep fault empty s l = search (leaving, leaves_decide_on) depth 14

-- ---- what was decided

leaves_ended : (session : Session) (s : State) → LawfulState s → Leaves (set_of session settings.End s, Fine)
leaves_ended session s l = leaves_set session.name settings.End s Fine l (λ x old. old) tt

space_resolved : (es : List Entry) (ms : List Settled) (w : Workspace) → LawfulSpace w → LawfulSpace (resolved es ms w)
space_resolved es ms w l = let v = space_appended w es l in record {
  latest = v.latest;
  marks = λ P k found. mark k (v.marks P k found);
  rises = v.rises;
  made = v.made;
  first = v.first;
  last = v.last;
  live = v.live;
  turns = v.turns;
}
  where
    mark : (k : Savepoint) → LawfulMark (with_entries es w) k → LawfulMark (resolved es ms w) k
    mark k m = record { alike = m.alike; within = m.within; past = m.past; place = m.place; turn = m.turn; base = m.base; since = m.since }

holds_resolved : (P : Entry → Type 0) (es : List Entry) (ms : List Settled) (w : Workspace) → Holds P w → Each P es → Holds P (resolved es ms w)
holds_resolved P es ms w h each = let v = holds_appended P es w h each in record { at_birth = v.at_birth; base = v.base; own = v.own; log = v.log; marks = v.marks; turns = v.turns }

goes_resolved : (es : List Entry) (ms : List Settled) (w : Workspace) → Goes w (resolved es ms w)
goes_resolved es ms w = record { number = refl; parent = refl; from = refl; rebases = refl; turns = refl; first = refl; more = es; log = refl; marks = λ making there. there }

leaves_resolved : (w : Workspace) (es : List Entry) (ms : List Settled) (s : State) (answer : Answer) (l : LawfulState s) → workspace_of s.durable.spaces w.number ≡ Some w → AreSound s l es
    → Leaves (record s { durable = record s.durable { spaces = with_space w.number (resolved es ms) s.durable.spaces } }, answer)
leaves_resolved w es ms s answer l found each =
    let P = IsSound l.durable.entries.tells s.durable.next_stamp in
    let ws = s.durable.spaces in
    let vs = with_space w.number (resolved es ms) ws in
    let k = changed ws w.number (resolved es ms) w (λ _. refl) found (goes_resolved es ms w) in
    record {
      lawful = record {
        durable = record {
          spaces = spaces_kept ws vs w.number w (resolved es ms w) l.durable.spaces k (differ-changed w.number (resolved es ms) (λ _. refl) ws ∙ l.durable.spaces.once) (space_resolved es ms w (l.durable.spaces.each w.number w found));
          entries = record {
            tells = l.durable.entries.tells;
            each = all_swapped P ws vs w.number w (resolved es ms w) l.durable.entries.each k.swap (holds_resolved P es ms w (l.durable.entries.each w.number w found) each);
            staged = l.durable.entries.staged;
          };
        };
        seats = seats_kept ws vs w.number w (resolved es ms w) s.sessions k l.seats;
      };
    }

leaves_commit : (session : Session) (ds : List Decision) (w : Workspace) (s : State) (l : LawfulState s) → workspace_of s.durable.spaces w.number ≡ Some w → AreSound s l (flat_map staged_of ds) → Leaves (commit session ds w s)
leaves_commit session [] w s l found each = leaves_ended session s l
leaves_commit session (d ∷ ds) w s l found each =
    let es = entries_decided s.moment session.user (d ∷ ds) in
    let ms = marks_of (w.next_place - 1) (d ∷ ds) in
    let t = leaves_resolved w es ms s Fine l found (entries_sound l.durable.entries.tells s.durable.next_stamp s.moment session.user (d ∷ ds) each) in
    leaves_unless (lock_fault (outline s) (claim_of session w.number) (map cells_of es)) s _ l
    (leaves_durably s (length w.lists.log + length es) _ l (leaves_ended session (record s { durable = record s.durable { spaces = with_space w.number (resolved es ms) s.durable.spaces } }) t.lawful))

-- the session is one of the state's
pub leaves_commit_resolve : (session : Session) (name : List ℕ) (s : State) → LawfulState s → (test : Session → Bool) → find test s.sessions ≡ Some session → Leaves (commit_resolve session name s)
leaves_commit_resolve session name s l test is =
    leaves_with_named s name _ l
    (λ w found.
    leaves_unless (unresolved_fault session w) s _ l
    (leaves_commit session (decisions_of session) w s l found (staged_found (IsSound l.durable.entries.tells s.durable.next_stamp) test s.sessions session l.durable.entries.staged is)))
