-- What a plan over the records of a store says that a line does and answers.
use Rattle.std.specs.Prelude.{◌≡◌, ◌==◌, ℕ, Bool, true, false, List, Option, None, Some}
use Rattle.std.specs.Option.{option_map_or}
use Rattle.std.specs.List.{All}
use Rattle.wm_decided.specs.Staged.{AreStaged, IsStaged, IsStagedResolve}
use Rattle.wm_graph.specs.Parts.{Parts, parts_of}
use Rattle.wm_print.specs.Texts.{Answer, Nothing, Fine, Done, Listing, Refused}
use Rattle.wm_spec.specs.declared.record.stored.Stored.{Stored}
use Rattle.wm_state.specs.Drafts.{CanDraft}
use Rattle.wm_state.specs.State.{State, Session, table_named}
use Rattle.wm_model.specs.Lawful.{LawfulState}
use Rattle.wm_model.specs.Step.{Setting, session_of}
pub use Rattle.wm_model.specs.Seating.{Seating, Stay, Open, Close, Set, Thaw, seated, thawed, planned}
use Rattle.wm_model.specs.Step.Sessions as settings
use Rattle.wm_state.specs.Standing.{Stands, by_number, latest, saved_as}
use Rattle.wm_spec.specs.declared.record.savepoint.Savepoint.{Savepoint}
use Rattle.wm_spec.specs.declared.record.table.Table.{Table}
use Rattle.wm_state.specs.declared.edit.Edit.{Edit}

-- records, sessions and a moment stand for a lawful state
pub record StandsAt (records : List Stored) (sessions : List Session) (moment : ℕ) (s : State) : Type 0 where
  pub stands : Stands (parts_of records) s.durable
  pub lawful : LawfulState s
  pub sessions_are : sessions ≡ s.sessions
  pub moment_is : moment ≡ s.moment
  pub staged : AreStaged (parts_of records) sessions

-- the session is one of these
pub record IsOpen (sessions : List Session) (session : Session) : Type 0 where
  pub name : List ℕ
  pub found : session_of name sessions ≡ Some session

-- what is set of a session leaves it with nothing but decisions that are staged
abbrev pub SetsStaged : Parts → Setting → Type 0
SetsStaged p (settings.Decide ds) = All (IsStaged p) ds
SetsStaged p setting = Unit {0}

-- so does what becomes of the sessions
abbrev pub SeatsStaged : Parts → Seating → Type 0
SeatsStaged p (Open session) = IsStagedResolve p session.resolve
SeatsStaged p (Set name setting) = SetsStaged p setting
SeatsStaged p seating = Unit {0}

-- the edits of the plan may be drafted of the records, and it does and answers what a function of the state does and answers, for each state that these
-- stand for
pub record DoesAt (records : List Stored) (sessions : List Session) (moment : ℕ) (edits : List Edit) (seating : Seating) (after : ℕ) (answer : Answer) (act : State → State × Answer) : Type 0 where
  pub can : CanDraft records moment edits
  pub seats : SeatsStaged (parts_of records) seating
  pub does : (s : State) → StandsAt records sessions moment s → act s ≡ (planned moment after edits seating s, answer)

-- so, and the moment stays
abbrev pub Does : List Stored → List Session → ℕ → List Edit → Seating → Answer → (State → State × Answer) → Type 0
Does records sessions moment edits seating answer act = DoesAt records sessions moment edits seating moment answer act

-- the answer of a line that is refused, that reads, that changes no row, or that says nothing
abbrev pub is_idle : Answer → Bool
is_idle Nothing = true
is_idle Fine = false
is_idle (Done count) = count == 0
is_idle (Listing rows) = true
is_idle (Refused refusal) = true

-- ---- what plans are told by

-- the tables of the records, in the order of their making
abbrev pub tables_in : List Stored → List Table
tables_in rs = by_number (parts_of rs).tables

-- the table of a name among records
abbrev pub named : List Stored → List ℕ → Option Table
named rs name = table_named name (tables_in rs)

-- the version that is read at what is newest in a workspace, or at the savepoint of a making: where that is not there it is 0, the number
-- of none
abbrev pub version_read : Parts → ℕ → Option ℕ → ℕ
version_read p n None = latest p n
version_read p n (Some making) = option_map_or (λ (x : Savepoint). x.version) (saved_as p n making) 0
