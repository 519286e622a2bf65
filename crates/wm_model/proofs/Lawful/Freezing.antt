-- FreezeWorkspace and UnfreezeWorkspace leave a lawful state.
use Rattle.std.proofs.Common.{◌≡◌, ℕ, Bool, true, false, cond, List, [], ◌∷◌, Option, Some, None, refl, sym, ap, ◌∙◌, subst, append-nil, ◌==◌}
use Rattle.wm_guard.specs.Access.{Hold, Free, NoAccess, ReadOnly, OneWriter, OneSession, WmOnly}
use Rattle.wm_outline.specs.Outline.{SpaceOutline, outline}
use Rattle.wm_print.specs.Texts.{Fine}
use Rattle.wm_spec.specs.Lists.{Entry}
use Rattle.wm_spec.specs.declared.record.space.FreezeMode.{FreezeMode}
use Rattle.wm_state.specs.Editing.{frozen, frozen_in}
use Rattle.wm_state.specs.State.{Savepoint, Session, Workspace, with_space, workspace_of}
use Rattle.wm_state.specs.declared.edit.Edit.TheVariants as edits
use Rattle.wm_state.proofs.Changing.{differ-changed}
use Rattle.wm_syntax.specs.declared.statement.Arg.{Arg}
use Rattle.wm_model.specs.Lawful.{Holds, IsSound, LawfulMark, LawfulSpace, LawfulState}
use Rattle.wm_model.specs.Seating.{Stay, planned}
use Rattle.wm_model.specs.Step.Sessions as settings
use Rattle.wm_model.specs.Step.{State, freeze_plan, freezing, freezing_edits, freezing_seating, hold_on, run, thawing, unfreeze_plan}
use Rattle.wm_model.proofs.Lawful.Entries.{all_swapped}
use Rattle.wm_model.proofs.Lawful.Leaves.{IsLawful, Keeps, Leaves, leaves_run, leaves_set, leaves_thawed}
use Rattle.wm_model.proofs.Lawful.Plans.{keeping, planned_edit}
use Rattle.wm_model.proofs.Lawful.Spaces.{Goes, changed, seats_kept, spaces_kept}

-- ---- a workspace that is frozen, or is free again

-- where no workspace has the number, none is changed
none_changed : (n : ℕ) (act : Workspace → Workspace) (ws : List Workspace) → workspace_of ws n ≡ None → with_space n act ws ≡ ws
none_changed n act [] none = refl
none_changed n act (w ∷ ws) none = by_number (w.number == n) none (none_changed n act ws)
  where
    by_number : (b : Bool) → cond b (Some w) (workspace_of ws n) ≡ None → (workspace_of ws n ≡ None → with_space n act ws ≡ ws) → cond b (act w ∷ ws) (w ∷ with_space n act ws) ≡ w ∷ ws
    by_number true e rest = absurd (cc)
    by_number false e rest = ap (λ (vs : List Workspace). w ∷ vs) (rest e)

goes_frozen : (mode : FreezeMode) (writer : List ℕ) (w : Workspace) → Goes w (frozen mode writer w)
goes_frozen mode writer w = record {
  number = refl;
  parent = refl;
  from = refl;
  rebases = refl;
  turns = refl;
  first = refl;
  more = [];
  log = sym (append-nil w.lists.log);
  marks = λ making there. there;
}

space_frozen : (mode : FreezeMode) (writer : List ℕ) (w : Workspace) → LawfulSpace w → LawfulSpace (frozen mode writer w)
space_frozen mode writer w l = record {
  latest = l.latest;
  marks = λ P k found. mark k (l.marks P k found);
  rises = l.rises;
  made = l.made;
  first = l.first;
  last = l.last;
  live = l.live;
  turns = l.turns;
}
  where
    mark : (k : Savepoint) → LawfulMark w k → LawfulMark (frozen mode writer w) k
    mark k m = record { alike = m.alike; within = m.within; past = m.past; place = m.place; turn = m.turn; base = m.base; since = m.since }

holds_frozen : (P : Entry → Type 0) (mode : FreezeMode) (writer : List ℕ) (w : Workspace) → Holds P w → Holds P (frozen mode writer w)
holds_frozen P mode writer w h = record { at_birth = h.at_birth; base = h.base; own = h.own; log = h.log; marks = h.marks; turns = h.turns }

-- the state with a change of the workspace of a number
abbrev with_changed : ℕ → (Workspace → Workspace) → State → State
with_changed n act s = record s { durable = record s.durable { spaces = with_space n act s.durable.spaces } }

pub lawful_frozen : (n : ℕ) (mode : FreezeMode) (writer : List ℕ) (s : State) → LawfulState s → LawfulState (record s { durable = frozen_in n mode writer s.durable })
lawful_frozen n mode writer s l = by_space (workspace_of s.durable.spaces n) refl
  where
    act : Workspace → Workspace
    act = frozen mode writer

    vs : List Workspace
    vs = with_space n act s.durable.spaces

    by_space : (o : Option Workspace) → workspace_of s.durable.spaces n ≡ o → LawfulState (with_changed n act s)
    by_space None is = subst (λ (ws : List Workspace). LawfulState (record s { durable = record s.durable { spaces = ws } })) (sym (none_changed n act s.durable.spaces is)) l
    by_space (Some w) is =
        let P = IsSound l.durable.entries.tells s.durable.next_stamp in
        let k = changed s.durable.spaces n act w (λ _. refl) is (goes_frozen mode writer w) in
        record {
          durable = record {
            spaces = spaces_kept s.durable.spaces vs n w (act w) l.durable.spaces k (differ-changed n act (λ _. refl) s.durable.spaces ∙ l.durable.spaces.once) (space_frozen mode writer w (l.durable.spaces.each n w is));
            entries = record {
              tells = l.durable.entries.tells;
              each = all_swapped P s.durable.spaces vs n w (act w) l.durable.entries.each k.swap (holds_frozen P mode writer w (l.durable.entries.each n w is));
              staged = l.durable.entries.staged;
            };
          };
          seats = seats_kept s.durable.spaces vs n w (act w) s.sessions k l.seats;
        }

-- ---- plans

planned_frozen : (n : ℕ) (mode : FreezeMode) (writer : List ℕ) (s : State) → LawfulState s → LawfulState (planned s.moment s.moment (edits.Freeze n mode writer ∷ []) Stay s)
planned_frozen n mode writer s l = planned_edit (edits.Freeze n mode writer) s (lawful_frozen n mode writer s l)

-- ---- FreezeWorkspace

planned_freezing : (hold : Hold) (n : ℕ) (s : State) → LawfulState s → LawfulState (planned s.moment s.moment (freezing_edits hold n) (freezing_seating hold n) s)
planned_freezing (OneSession session) n s l = (leaves_set session (settings.Freeze n) s Fine l (λ x old. old) tt).lawful
planned_freezing Free n s l = planned_frozen n _ _ s l
planned_freezing NoAccess n s l = planned_frozen n _ _ s l
planned_freezing ReadOnly n s l = planned_frozen n _ _ s l
planned_freezing (OneWriter user) n s l = planned_frozen n _ _ s l
planned_freezing WmOnly n s l = planned_frozen n _ _ s l

keeps_freezing : (hold : Hold) (x : SpaceOutline) (s : State) → LawfulState s → Keeps s (freezing hold (outline s) x)
keeps_freezing hold x s l = record { lawful = λ clear. planned_freezing hold x.number s l }

pub leaves_freeze : (session : Session) (args : List Arg) (s : State) → LawfulState s → Leaves (run (freeze_plan session args (outline s)) s)
leaves_freeze session args s l = leaves_run (freeze_plan session args (outline s)) s l (search (keeping, keeps_freezing) depth 10)

-- ---- UnfreezeWorkspace

planned_thawing : (x : SpaceOutline) (s : State) → LawfulState s → IsLawful s (thawing (outline s) x)
planned_thawing x s l = by_hold (hold_on s.sessions x) refl
  where
    by_hold : (hold : Hold) → hold_on s.sessions x ≡ hold → IsLawful s (thawing (outline s) x)
    by_hold Free is = rw is l
    by_hold NoAccess is = rw is (planned_frozen x.number _ _ s l)
    by_hold ReadOnly is = rw is (planned_frozen x.number _ _ s l)
    by_hold (OneWriter user) is = rw is (planned_frozen x.number _ _ s l)
    by_hold (OneSession session) is = rw is ((leaves_thawed x.number s Fine l).lawful)
    by_hold WmOnly is = rw is (planned_frozen x.number _ _ s l)

keeps_thawing : (x : SpaceOutline) (s : State) → LawfulState s → Keeps s (thawing (outline s) x)
keeps_thawing x s l = record { lawful = λ clear. planned_thawing x s l }

pub leaves_unfreeze : (args : List Arg) (s : State) → LawfulState s → Leaves (run (unfreeze_plan args (outline s)) s)
leaves_unfreeze args s l = leaves_run (unfreeze_plan args (outline s)) s l (search (keeping, keeps_thawing) depth 10)
