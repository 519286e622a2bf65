-- What ResolveConflicts does to each state that the records stand for, over a table in which nothing is wrong.
use Rattle.std.proofs.Common.{◌≡◌, ℕ, ◌==◌, Bool, true, false, if◌then◌else◌, List, [], ◌∷◌, length, Option, None, Some, refl, sym, ap, ◌∙◌, subst}
use Rattle.std.specs.List.{All, find}
use Rattle.std.specs.Str.{bytes_eq}
use Rattle.wm_syntax.specs.Trees.{Cond}
use Rattle.wm_decided.specs.Staged.{IsStaged}
use Rattle.wm_decided.specs.declared.keep.Keep.{Keep}
use Rattle.wm_graph.specs.Parts.{parts_of}
use Rattle.wm_graph.specs.Rules.{keep_rules}
use Rattle.wm_net.specs.Conflicts.{Stamps, conflict_at, conflicts_in, grouped, in_table, same_stamps}
use Rattle.wm_net.specs.Groups.{Group}
use Rattle.wm_net.specs.Listed.{IsListing, Stretch}
use Rattle.wm_net.proofs.Owing.{listing_alike}
use Rattle.wm_net.proofs.Tabled.{conflicts_in_is}
use Rattle.wm_print.specs.Texts.{Answer, Done}
use Rattle.wm_spec.specs.Lists.{Entry}
use Rattle.wm_spec.specs.declared.record.space.Space.{Space}
use Rattle.wm_spec.specs.declared.record.stored.Stored.{Stored}
use Rattle.wm_spec.specs.declared.record.table.Table.{Table}
use Rattle.wm_state.specs.Standing.{Newest, SpaceFields}
use Rattle.wm_state.specs.State.{Decision, Session, State, Workspace, content, workspace_of}
use Rattle.wm_telling.specs.Sides.{sides}
use Rattle.wm_telling.specs.Telling.{clash_held}
use Rattle.wm_telling.proofs.Beside.{parent_holds}
use Rattle.wm_telling.proofs.Clashing.{clash_is}
use Rattle.wm_model.specs.Lawful.{Each, IsSound}
use Rattle.wm_model.specs.Planning.{StandsAt, Does, Set, Stay}
use Rattle.wm_model.specs.Step.{altered, decide, decide_on, empty_period, has_open, no_resolve, no_workspace, unless, unless_empty_period, unresolved_fault}
use Rattle.wm_model.specs.Step.Sessions as settings
use Rattle.wm_model.specs.Undone.{NamesSpace}
use Rattle.wm_model.proofs.Doing.{does_nothing, does_seat}
use Rattle.wm_model.proofs.Families.{Related}
use Rattle.wm_model.proofs.Lawful.Entries.{each_append}
use Rattle.wm_model.proofs.Lawful.Nets.{sound_stamped}
use Rattle.wm_model.proofs.Recorded.{home}
use Rattle.wm_resolve.proofs.OpeningLine.{nameless, resolve_closed}
use Rattle.wm_resolve.specs.Deciding.{Decides, resolve_to}
use Rattle.wm_resolve.specs.Telling.{TellSides}

-- ---- what it is refused for

pub resolve_homeless : (rs : List Stored) (xs : List Session) (m : ℕ) (session : Session) (workspace : List ℕ) (table : Table) (condition : Option Cond) (keep : Keep) (empty : Bool) → keep_rules (parts_of rs) ≡ true
    → find (λ (r : Space). bytes_eq workspace r.name) (parts_of rs).spaces ≡ None → Does rs xs m [] Stay (no_workspace workspace) (resolve_to session workspace table condition keep empty)
resolve_homeless rs xs m session workspace table condition keep empty rules none =
    nameless rs xs m workspace (λ s w. unless_empty_period empty s (unless (unresolved_fault session w) s (decide_on session table condition keep s w))) rules none

pub resolve_empty : (rs : List Stored) (xs : List Session) (m : ℕ) (session : Session) (workspace : List ℕ) (table : Table) (condition : Option Cond) (keep : Keep) (empty : Bool) (a : Space) → NamesSpace rs workspace a → empty ≡ true
    → Does rs xs m [] Stay empty_period (resolve_to session workspace table condition keep empty)
resolve_empty rs xs m session workspace table condition keep empty a names is =
    does_nothing rs xs m empty_period (resolve_to session workspace table condition keep empty)
    (λ s st. let h = home rs xs m workspace a s names st in
    rw (h.named) (ap (λ b. unless_empty_period b s (unless (unresolved_fault session h.workspace) s (decide_on session table condition keep s h.workspace))) is))

abbrev pub decide_to : Session → Table → Option Cond → Keep → Workspace → State → State × Answer
decide_to session table condition keep w s = decide_on session table condition keep s w

pub resolve_unopened : (rs : List Stored) (xs : List Session) (m : ℕ) (session : Session) (workspace : List ℕ) (table : Table) (condition : Option Cond) (keep : Keep) (empty : Bool) (a : Space) → NamesSpace rs workspace a → empty ≡ false
    → has_open a.number session ≡ false → Does rs xs m [] Stay (no_resolve a.name) (resolve_to session workspace table condition keep empty)
resolve_unopened rs xs m session workspace table condition keep empty a names full none =
    subst (λ b. Does rs xs m [] Stay (no_resolve a.name) (resolve_to session workspace table condition keep b)) (sym full) (resolve_closed rs xs m session workspace (decide_to session table condition keep) a names none)

-- ---- what is decided

module _ (rs : List Stored) (xs : List Session) (m : ℕ) (session : Session) (ds : List Decision) (act : State → State × Answer) (decides : Decides rs xs m session ds act) where
  pub decides_none : ds ≡ [] → Does rs xs m [] Stay (Done 0) act
  decides_none none = does_nothing rs xs m (Done 0) act (λ s st. decides.made s st ∙ ap (λ ys. decide session ys s) none)

  pub decides_unstaged : (answer : Answer) → (All (IsStaged (parts_of rs)) ds → ⊥) → Does rs xs m [] Stay answer act
  decides_unstaged answer never = does_nothing rs xs m answer act (λ s st. absurd (never (decides.staged s st)))

  pub does_decide : ((ds ≡ []) → ⊥) → All (IsStaged (parts_of rs)) ds → Does rs xs m [] (Set session.name (settings.Decide ds)) (Done (length ds)) act
  does_decide some staged = does_seat rs xs m (Set session.name (settings.Decide ds)) (Done (length ds)) act staged (λ s st. decides.made s st ∙ decided ds some s)
    where
      decided : (ys : List Decision) → ((ys ≡ []) → ⊥) → (s : State)
          → decide session ys s ≡ (record s { sessions = altered session.name (settings.Decide ys) s.sessions }, Done (length ys))
      decided [] some s = absurd (some refl)
      decided (y ∷ ys) some s = refl

-- ---- what records tell

module _ (rs : List Stored) (xs : List Session) (m : ℕ) (a b : Space) (s : State) (w : Workspace) (st : StandsAt rs xs m s) (r : Related rs a b s w) where
  abbrev sound : List Entry → Type 0
  sound es = Each (IsSound st.lawful.durable.entries.tells s.durable.next_stamp) es

  pub base_sound : sound w.lists.base
  base_sound = (st.lawful.durable.entries.each a.number w own_found).base
    where
      own_found : workspace_of s.durable.spaces a.number ≡ Some w
      own_found = r.beside.is

  pub parent_sound : sound (content r.q)
  parent_sound =
      let h = st.lawful.durable.entries.each b.number r.q r.above.found in
      each_append (IsSound st.lawful.durable.entries.tells s.durable.next_stamp) r.q.lists.base r.q.lists.own h.base h.own

  pub tell_sides : TellSides (parts_of rs) a b (sides r.q w)
  tell_sides = record {
    parent = record {
      holds = parent_holds (parts_of rs) s.durable a.number w r.q a b r.beside;
      rows = (st.stands.named.tells _ _ _ _ (Newest r.q r.above.found)).rows;
      tells = st.lawful.durable.entries.tells;
      stamped = sound_stamped st.lawful.durable.entries.tells s.durable.next_stamp (content r.q) parent_sound;
    };
    base = record {
      holds = r.base;
      rows = r.rows;
      tells = st.lawful.durable.entries.tells;
      stamped = sound_stamped st.lawful.durable.entries.tells s.durable.next_stamp w.lists.base base_sound;
    };
    log = ap (λ (x : SpaceFields). x.log_length) r.above.fields;
  }

  -- conflicts that are found are those of the state
  pub found_same : (table : ℕ) (found : List (Group × Stretch Stamps)) → IsListing same_stamps grouped (in_table table (clash_held (parts_of rs) a b)) found → found ≡ conflicts_in table (sides r.q w)
  found_same table found l =
      conflicts_in_is table (sides r.q w) found
      (listing_alike same_stamps grouped (in_table table (clash_held (parts_of rs) a b)) (in_table table (conflict_at (sides r.q w))) found
      (λ c. ap (λ (o : Option Stamps). if c.table == table then o else None) (clash_is (parts_of rs) s.durable a.number w r.q a b r.beside r.base c)) l)
