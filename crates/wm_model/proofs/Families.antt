-- A workspace beside its parent, in each state that the records stand for: what the lines over both look up.
use Rattle.std.proofs.Common.{arith, ◌≡◌, ℕ, ◌<◌, ◌==◌, nat_le, Bool, true, false, ◌+◌, cond, if◌then◌else◌, List, [], ◌∷◌, Option, Some, None, unwrap_or, refl, sym, ap, subst, ◌∙◌}
use Rattle.std.specs.List.{find}
use Rattle.std.specs.Option.{option_map}
use Rattle.std.specs.Str.{bytes_eq}
use Rattle.wm_base.proofs.Plain.{nonzero}
use Rattle.wm_graph.specs.Parts.{parts_of, space_of, table_of}
use Rattle.wm_graph.specs.Rules.{keep_rules}
use Rattle.wm_net.specs.Nets.{Stamped, net}
use Rattle.wm_net.specs.Conflicts.{Stamps}
use Rattle.wm_net.specs.Groups.{Group}
use Rattle.wm_net.specs.Listed.{Stretch}
use Rattle.wm_print.specs.Texts.{Answer}
use Rattle.wm_spec.specs.Lists.{Cell, Entry, Told, told}
use Rattle.wm_spec.specs.declared.record.space.Space.{Space}
use Rattle.wm_spec.specs.declared.record.stored.Stored.{Stored}
use Rattle.wm_spec.specs.declared.record.table.Table.{Table}
use Rattle.wm_state.specs.Drafts.{CanDraft}
use Rattle.wm_state.specs.Editing.{all_edited, drafted, line_work, locks_in}
use Rattle.wm_state.specs.declared.edit.Edit.{Edit}
use Rattle.wm_state.specs.Standing.{HasRows, SpaceFields, held_of, seen}
use Rattle.wm_state.specs.State.{Session, State, Workspace, fresh_live, workspace_of}
use Rattle.wm_state.proofs.Ready.{tables_found}
use Rattle.wm_state.proofs.Spaces.{IsSpace, named_no_space, space_is}
use Rattle.wm_telling.specs.Telling.{IsHeldListing, gained_held, own_held}
use Rattle.wm_telling.proofs.Beside.{Beside}
use Rattle.wm_telling.proofs.Clashing.{clash_listed, clash_none}
use Rattle.wm_telling.proofs.Relisting.{gained_listed, net_listed}
use Rattle.wm_model.specs.Merged.{Clashed, IsClash, NamesFamily, clash_answer, clash_fault, is_quiet_at}
use Rattle.wm_model.specs.Planning.{StandsAt, Does, Seating, SeatsStaged, Stay, seated}
use Rattle.wm_model.specs.Step.{conflict_fault, conflict_told, gained_of, is_quiet, no_parent, no_workspace, parent_in, refusal_of, refused_for, with_named}
use Rattle.wm_model.specs.Undone.{NamesSpace}
use Rattle.wm_model.proofs.Doing.{does_nothing}
use Rattle.wm_model.proofs.Lawful.Nets.{sound_stamped}
use Rattle.wm_model.proofs.Lawful.Spaces.{number_is}
use Rattle.wm_model.proofs.Recorded.{home}
use Rattle.wm_model.proofs.Telling.{holds_base, rows_base}

-- ---- lines over a workspace and its parent

-- what is done with the workspace of a name, which is not LIVE, and its parent
abbrev pub over_family : (Workspace → Workspace → State → State × Answer) → List ℕ → State → State × Answer
over_family to name s = with_named s name (λ w. if w.number == 0 then (s, no_parent name) else to (parent_in s w) w s)

-- no workspace has the name
pub does_homeless : (rs : List Stored) (xs : List Session) (m : ℕ) (workspace : List ℕ) (to : Workspace → Workspace → State → State × Answer) → keep_rules (parts_of rs) ≡ true
    → find (λ (r : Space). bytes_eq workspace r.name) (parts_of rs).spaces ≡ None → Does rs xs m [] Stay (no_workspace workspace) (over_family to workspace)
does_homeless rs xs m workspace to rules none =
    does_nothing rs xs m (no_workspace workspace) (over_family to workspace) (λ s st. rw (named_no_space (parts_of rs) s.durable workspace st.stands none) refl)

-- the workspace of the name, by whether it is LIVE
by_number : (rs : List Stored) (xs : List Session) (m : ℕ) (workspace : List ℕ) (a : Space) (s : State) (to : Workspace → Workspace → State → State × Answer) (names : NamesSpace rs workspace a) (st : StandsAt rs xs m s) (b : Bool)
    → (a.number == 0) ≡ b → let w : Workspace = (home rs xs m workspace a s names st).workspace in
    over_family to workspace s ≡ cond b (s, no_parent workspace) (to (parent_in s w) w s)
by_number rs xs m workspace a s to names st b is =
    let h = home rs xs m workspace a s names st in
    rw (h.named) (ap (λ c. cond c (s, no_parent workspace) (to (parent_in s h.workspace) h.workspace s)) (ap (λ n. n == 0) h.is.number ∙ is))

pub does_liveless : (rs : List Stored) (xs : List Session) (m : ℕ) (workspace : List ℕ) (a : Space) (to : Workspace → Workspace → State → State × Answer) → NamesSpace rs workspace a → a.number ≡ 0
    → Does rs xs m [] Stay (no_parent workspace) (over_family to workspace)
does_liveless rs xs m workspace a to names live =
    does_nothing rs xs m (no_parent workspace) (over_family to workspace) (λ s st. by_number rs xs m workspace a s to names st true (ap (λ n. n == 0) live))

-- ---- what a state has of both

-- a workspace that is not LIVE and its parent, by their records: what the workspace sees under its own is its base
pub record Related (rs : List Stored) (a b : Space) (s : State) (w : Workspace) : Type 0 where
  pub q : Workspace
  pub above : IsSpace (parts_of rs) s.durable b.number b q
  pub beside : Beside (parts_of rs) s.durable a.number w q a b
  pub parent_is : parent_in s w ≡ q
  pub base : (c : Cell) → seen (parts_of rs) a.base_version c ≡ option_map held_of (told w.lists.base c)
  pub rows : HasRows (parts_of rs) w.lists.base

pub related : (rs : List Stored) (xs : List Session) (m : ℕ) (a b : Space) (s : State) (w : Workspace) → IsSpace (parts_of rs) s.durable a.number a w → 0 < a.number → space_of (parts_of rs).spaces a.parent ≡ Some b → StandsAt rs xs m s
    → Related rs a b s w
related rs xs m a b s w is child recorded st =
    let u = space_is (parts_of rs) s.durable a.parent b st.stands recorded in
    let l = st.lawful.durable in
    let there : workspace_of s.durable.spaces w.parent ≡ Some u.workspace = ap (λ (f : SpaceFields). workspace_of s.durable.spaces f.parent) (sym is.fields) ∙ u.is.found in
    record {
      q = u.workspace;
      above = subst (λ n. IsSpace (parts_of rs) s.durable n b u.workspace) (sym u.is.record_number) u.is;
      beside = record {
        stands = st.stands;
        is = is.found;
        above = there;
        family = record { child = is.recorded; parent = recorded };
        number = refl;
        alike = (l.spaces.each a.parent u.workspace u.is.found).latest;
      };
      parent_is = ap (λ (o : Option Workspace). unwrap_or o fresh_live) there;
      base = λ c. holds_base (parts_of rs) s.durable a.number w a c st.stands l child is.found is.recorded;
      rows = rows_base (parts_of rs) s.durable a.number w a st.stands l child is.found is.recorded;
    }

-- the workspace of a name and its parent, which is older; one stamp tells one row in what is own and in the parent's log
pub record Family (rs : List Stored) (workspace : List ℕ) (a b : Space) (s : State) : Type 0 where
  pub w : Workspace
  pub q : Workspace
  pub is : IsSpace (parts_of rs) s.durable a.number a w
  pub above : IsSpace (parts_of rs) s.durable b.number b q
  pub beside : Beside (parts_of rs) s.durable a.number w q a b
  pub line : (to : Workspace → Workspace → State → State × Answer) → over_family to workspace s ≡ to q w s
  pub base : (c : Cell) → seen (parts_of rs) a.base_version c ≡ option_map held_of (told w.lists.base c)
  pub child : 0 < a.number
  pub parent : w.parent ≡ q.number
  pub older : q.number < w.number
  pub tells : ℕ → Told
  pub own : Stamped tells w.lists.own
  pub log : Stamped tells q.lists.log

pub family : (rs : List Stored) (xs : List Session) (m : ℕ) (workspace : List ℕ) (a b : Space) (s : State) → NamesFamily rs workspace a b → StandsAt rs xs m s → Family rs workspace a b s
family rs xs m workspace a b s names st =
    let h = home rs xs m workspace a s names.space st in
    let r = related rs xs m a b s h.workspace h.is names.child names.parent st in
    let l = st.lawful.durable in
    let parent : h.workspace.parent ≡ r.q.number = sym (number_is s.durable.spaces h.workspace.parent r.q r.beside.above) in
    record {
      w = h.workspace;
      q = r.q;
      is = h.is;
      above = r.above;
      beside = r.beside;
      line = λ to.
          by_number rs xs m workspace a s to names.space st false (nonzero a.number names.child)
          ∙ ap (λ (q : Workspace). to q h.workspace s) r.parent_is;
      base = r.base;
      child = names.child;
      parent = parent;
      older = let older = (l.spaces.bases a.number h.workspace names.child h.is.found).older in omega (arith, older, parent);
      tells = l.entries.tells;
      own = sound_stamped l.entries.tells s.durable.next_stamp h.workspace.lists.own (l.entries.each a.number h.workspace h.is.found).own;
      log = sound_stamped l.entries.tells s.durable.next_stamp r.q.lists.log (l.entries.each b.number r.q r.above.found).log;
    }

-- ---- several edits

-- edits are made, one at least and none that locks, and something becomes of the sessions
pub does_edits : (rs : List Stored) (xs : List Session) (m : ℕ) (es : List Edit) (seating : Seating) (answer : Answer) (act : State → State × Answer) → SeatsStaged (parts_of rs) seating → CanDraft rs m es → (es ≡ [] → ⊥) → locks_in es ≡ 0
    → ((s : State) → StandsAt rs xs m s → act s ≡ (record s { durable = record (all_edited m es s.durable) { last_moment = m; work = s.durable.work + line_work }; sessions = seated s.sessions seating }, answer))
    → Does rs xs m es seating answer act
does_edits rs xs m [] seating answer act staged can some lockless same = absurd (some refl)
does_edits rs xs m (e ∷ es) seating answer act staged can some lockless same = record {
  can = can;
  seats = staged;
  does = λ s st.
      same s st
      ∙ ap (λ k. (record s { durable = record (all_edited m (e ∷ es) s.durable) { last_moment = m; work = s.durable.work + (k + line_work) }; sessions = seated s.sessions seating }, answer)) (sym lockless)
      ∙ ap (λ n. (record s { durable = drafted m (e ∷ es) s.durable; sessions = seated s.sessions seating; moment = n }, answer)) (sym st.moment_is);
}

-- ---- what is asked of both

module _ (rs : List Stored) (workspace : List ℕ) (a b : Space) (s : State) (f : Family rs workspace a b s) where
  -- whether the parent changed something since
  pub quiet_same : is_quiet f.q f.w ≡ is_quiet_at a b
  quiet_same = ap (λ (x : SpaceFields). nat_le x.log_length f.w.from) (sym f.above.fields) ∙ ap (λ (x : SpaceFields). nat_le b.log_length x.from) (sym f.is.fields)

  -- the first conflict
  pub conflict_same : (found : Option Clashed) → IsClash (parts_of rs) a b found → conflict_fault s f.q f.w ≡ clash_fault (parts_of rs) found
  conflict_same None none = ap (refused_for (conflict_told s.durable.tables)) (clash_none (parts_of rs) s.durable a.number f.w f.q a b f.beside f.base none)
  conflict_same (Some x) clash =
      ap (refused_for (conflict_told s.durable.tables)) (clash_listed (parts_of rs) s.durable a.number f.w f.q a b f.beside f.base x.table x.key x.period.from x.period.till clash)
      ∙ by_table (table_of (parts_of rs).tables x.table) (tables_found (parts_of rs) s.durable f.beside.stands.tables x.table)
    where
      hit : Group × Stretch Stamps
      hit = (record { table = x.table; key = x.key }, record { from = x.period.from; till = x.period.till; value = clash.stamps })

      by_table : (o : Option Table) → table_of s.durable.tables x.table ≡ o → refusal_of (conflict_told s.durable.tables hit) ≡ refusal_of (clash_answer x o)
      by_table None is = rw is refl
      by_table (Some table) is = rw is refl

  -- what is gained
  pub gained_same : (m : ℕ) (user : List ℕ) (es : List Entry) → IsHeldListing (parts_of rs) m user (gained_held (parts_of rs) a b) es → es ≡ gained_of m user f.q f.w
  gained_same m user es listed = gained_listed (parts_of rs) s.durable a.number f.w f.q a b m user f.tells es f.beside listed f.log

  -- and what is own
  pub own_same : (m : ℕ) (user : List ℕ) (own : List Entry) → IsHeldListing (parts_of rs) m user (own_held (parts_of rs) a) own → own ≡ net m user f.w.lists.own
  own_same m user own listed = net_listed (parts_of rs) s.durable a.number f.w a m user f.tells own f.beside.stands f.is.found f.is.recorded listed f.own
