-- The tables and workspaces that lines name, in the records and in each state that they stand for.
use Rattle.std.proofs.Common.{◌≡◌, ℕ, true, List, [], Option, Some, None, is_some, refl, sym, ap, ◌∙◌}
use Rattle.std.proofs.lemmas.Option.{same_Some}
use Rattle.std.proofs.lemmas.Bool.{true≢false}
use Rattle.std.specs.Option.{option_map}
use Rattle.wm_base.proofs.Plain.{none_some}
use Rattle.wm_graph.specs.Parts.{Parts, parts_of, space_of}
use Rattle.wm_print.specs.Texts.{Answer}
use Rattle.wm_spec.specs.declared.record.space.Space.{Space}
use Rattle.wm_spec.specs.declared.record.stored.Stored.{Stored}
use Rattle.wm_spec.specs.declared.record.table.Table.{Table}
use Rattle.wm_state.specs.State.{Durable, State, Session, Workspace, table_named, workspace_of}
use Rattle.wm_state.specs.Standing.{SpaceFields, SpacesStand, fields_of, fields_in}
use Rattle.wm_model.specs.Step.{at_home, session_of, with_table, no_table}
use Rattle.wm_model.specs.Lawful.{IsPlace}
use Rattle.wm_model.specs.Planning.{Does, IsOpen, StandsAt, Stay, named}
use Rattle.wm_model.proofs.Doing.{does_nothing}
use Rattle.wm_model.proofs.Lawful.Places.{place_of}
use Rattle.wm_model.proofs.Lawful.Spaces.{number_is}

-- ---- the table of a name

pub with_none : (rs : List Stored) (xs : List Session) (m : ℕ) (s : State) (name : List ℕ) (act : Table → State × Answer) → StandsAt rs xs m s → named rs name ≡ None → with_table s name act ≡ (s, no_table name)
with_none rs xs m s name act st none = rw (ap (table_named name) (sym st.stands.tables.same) ∙ none) refl

pub with_some : (rs : List Stored) (xs : List Session) (m : ℕ) (s : State) (name : List ℕ) (act : Table → State × Answer) (t : Table) → StandsAt rs xs m s → named rs name ≡ Some t → with_table s name act ≡ act t
with_some rs xs m s name act t st some = rw (ap (table_named name) (sym st.stands.tables.same) ∙ some) refl

-- ---- the workspace of a number

-- the workspace of a record
pub record HomeIs (s : State) (n : ℕ) (r : Space) : Type 0 where
  pub space : Workspace
  pub is : workspace_of s.durable.spaces n ≡ Some space
  pub fields : fields_of r ≡ fields_in space
  pub number : space.number ≡ n

pub home_is : (rs : List Stored) (xs : List Session) (m : ℕ) (s : State) (n : ℕ) (r : Space) → StandsAt rs xs m s → space_of (parts_of rs).spaces n ≡ Some r → HomeIs s n r
home_is rs xs m s n r st found = by_space (workspace_of s.durable.spaces n) refl (sym (ap (option_map fields_of) found) ∙ st.stands.spaces.same n)
  where
    by_space : (o : Option Workspace) → workspace_of s.durable.spaces n ≡ o → Some (fields_of r) ≡ option_map fields_in (workspace_of s.durable.spaces n) → HomeIs s n r
    by_space None none same = absurd (none_some (option_map fields_in (workspace_of s.durable.spaces n)) (fields_of r) (ap (option_map fields_in) none) (sym same))
    by_space (Some w) is same = record { space = w; is = is; fields = same_Some (fields_of r) (fields_in w) (same ∙ ap (option_map fields_in) is); number = number_is s.durable.spaces n w is }

no_home : (p : Parts) (s : Durable) (n : ℕ) → SpacesStand p s → space_of p.spaces n ≡ None → workspace_of s.spaces n ≡ None
no_home p s n stand none = by_space (workspace_of s.spaces n) refl (sym (ap (option_map fields_of) none) ∙ stand.same n)
  where
    by_space : (o : Option Workspace) → workspace_of s.spaces n ≡ o → (let nothing : Option SpaceFields = None in nothing) ≡ option_map fields_in (workspace_of s.spaces n) → workspace_of s.spaces n ≡ None
    by_space None is same = is
    by_space (Some w) is same = absurd (none_some (option_map fields_in (workspace_of s.spaces n)) (fields_in w) (sym same) (ap (option_map fields_in) is))

-- what is done in the session's workspace
pub home_some : (rs : List Stored) (xs : List Session) (m : ℕ) (s : State) (session : Session) (act : Workspace → State × Answer) (r : Space) (st : StandsAt rs xs m s) (found : space_of (parts_of rs).spaces session.space ≡ Some r)
    → at_home s session act ≡ act (home_is rs xs m s session.space r st found).space
home_some rs xs m s session act r st found = rw (home_is rs xs m s session.space r st found).is refl

-- ---- where an open session stands

pub open_place : (rs : List Stored) (xs : List Session) (m : ℕ) (s : State) (session : Session) → StandsAt rs xs m s → IsOpen xs session → IsPlace s.durable.spaces session.space session.stand
open_place rs xs m s session st among = place_of s among.name session st.lawful (ap (session_of among.name) (sym st.sessions_are) ∙ among.found)

-- its workspace has a record
pub home_recorded : (rs : List Stored) (xs : List Session) (m : ℕ) (s : State) (session : Session) → StandsAt rs xs m s → IsOpen xs session → is_some (space_of (parts_of rs).spaces session.space) ≡ true
home_recorded rs xs m s session st among = by_record (space_of (parts_of rs).spaces session.space) refl
  where
    by_record : (o : Option Space) → space_of (parts_of rs).spaces session.space ≡ o → is_some o ≡ true
    by_record None none =
        let p = open_place rs xs m s session st among in
        absurd (none_some (workspace_of s.durable.spaces session.space) p.space (no_home (parts_of rs) s.durable session.space st.stands.spaces none) p.is)
    by_record (Some r) some = refl

-- so what is done where there is none does whatever is said
pub does_homeless : (rs : List Stored) (xs : List Session) (m : ℕ) (session : Session) (answer : Answer) (act : State → State × Answer) → IsOpen xs session → space_of (parts_of rs).spaces session.space ≡ None
    → Does rs xs m [] Stay answer act
does_homeless rs xs m session answer act among none =
    does_nothing rs xs m answer act (λ s st. absurd (true≢false (sym (home_recorded rs xs m s session st among) ∙ ap (λ o. is_some o) none)))
