-- What LockRows locks.
use Rattle.std.specs.Prelude.{ℕ, ◌≡◌, ◌&&◌, nat_le, nat_lt, Bool, true, List, [], ◌∷◌, length, Some}
use Rattle.std.specs.List.{list_all}
use Rattle.wm_base.specs.declared.instant.TheConstants.{END}
use Rattle.wm_base.specs.declared.row.Row.{Row}
use Rattle.wm_chosen.specs.Chosen.{AreChosen}
use Rattle.wm_decided.specs.Keys.{columns_of_keys}
use Rattle.wm_dml.specs.Changing.{declared_values, row_key}
use Rattle.wm_dml.specs.declared.change.RowChange.{RowChange}
use Rattle.wm_graph.specs.Parts.{parts_of, space_of, table_of}
use Rattle.wm_graph.specs.Rules.{is_table}
use Rattle.wm_ground.specs.Grounds.{outline_on}
use Rattle.wm_ground.specs.Outcomes.{outcome_view}
use Rattle.wm_ground.specs.declared.ground.Ground.{Ground}
use Rattle.wm_model.specs.Seating.{Stay}
use Rattle.wm_model.specs.Step.{Asking, Outcome, Plan, claim_of, lock_edits, lock_fault, lock_parts, locking, locks_spent, outcome, refused_or, within}
use Rattle.wm_outline.specs.Outline.{Outline, SpaceOutline, outline_by}
use Rattle.wm_plan.specs.declared.planned.Planned.{Planned}
use Rattle.wm_print.specs.Texts.{Done}
use Rattle.wm_spec.specs.declared.record.cell_range.CellRange.{CellRange}
use Rattle.wm_spec.specs.declared.record.lock.LockMode.{LockMode}
use Rattle.wm_spec.specs.declared.record.space.Space.{Space}
use Rattle.wm_spec.specs.declared.record.stored.Stored.{Stored}
use Rattle.wm_spec.specs.declared.record.table.Table.{Table}
use Rattle.wm_state.specs.Drafts.{can_keep}
use Rattle.wm_state.specs.Standing.{latest}
use Rattle.wm_state.specs.State.{Session}
use Rattle.wm_state.specs.declared.edit.NewLock.{NewLock}
use Rattle.wm_typing.specs.Types.{is_filter_typed}
use Rattle.wm_locking.specs.declared.asked.Site.{Site}
use Rattle.wm_locking.specs.declared.lock_rows.Locking.{Locking}

-- ---- cells

-- the cells of a change of the table of a number
abbrev pub cells_changed : ℕ → RowChange → CellRange
cells_changed n c = record { table = n; key = c.key; from = c.period.from; till = c.period.till }

-- a lock is over a period
abbrev pub is_lasting_lock : NewLock → Bool
is_lasting_lock x = nat_lt x.period.from x.period.till && nat_le x.period.till END

-- no text in the key of a row is empty
abbrev pub keeps_key : Table → Row → Bool
keeps_key t r = list_all can_keep (row_key t (declared_values t r.values))

-- ---- the rows that are meant

-- rows of a table are those that the newest version of a workspace shows in the session's period and the condition chooses, and their keys
-- can be kept
pub record AreMeant (rs : List Stored) (session : Session) (m : ℕ) (a : Asking) (t : Table) (x : Space) (rows : List Row) : Type 0 where
  pub chosen : (out : List Row) → AreChosen rs (latest (parts_of rs) x.number) t (within m session t) a.condition out → rows ≡ out
  pub kept : list_all (keeps_key t) rows ≡ true

-- so are those that are told of each table and workspace of the records
abbrev pub AreRowsMeant : Ground → Session → Asking → (Table → SpaceOutline → List Row) → Type 0
AreRowsMeant g session a rows =
    (t : Table) (x : Space) → table_of (parts_of g.image.now).tables t.number ≡ Some t → space_of (parts_of g.image.now).spaces x.number ≡ Some x
    → AreMeant g.image.now session g.moment a t x (rows t (outline_by (parts_of g.image.now) x))

-- ---- what comes of it

-- cells are locked, a row for each
abbrev pub locking_cells : Session → LockMode → Outline → List CellRange → ℕ → Plan
locking_cells session mode o cells n =
    let parts = lock_parts o (record { space = n; mode = mode; user = session.user }) cells in
    record { faults = lock_fault o (claim_of session n) cells ∷ locks_spent parts o ∷ []; edits = lock_edits n mode session.user parts; seating = Stay; answer = Done (length cells) }

-- where no lock bars it
abbrev pub locking_parts : List ℕ → LockMode → ℕ → List NewLock → ℕ → Outline → Outcome
locking_parts user mode n parts count o = refused_or (locks_spent parts o) (record { edits = lock_edits n mode user parts; seating = Stay; answer = Done count })

-- rows of a table are to be locked in a workspace, both of the records
pub record IsLocking (g : Ground) (l : Locking) (s : Site) (a : Asking) : Type 0 where
  pub well : is_table s.table.now ≡ true
  pub there : table_of (parts_of g.image.now).tables s.table.now.number ≡ Some s.table.now
  pub home : space_of (parts_of g.image.now).spaces s.space.now.number ≡ Some s.space.now
  pub typed : is_filter_typed (columns_of_keys s.table.now) a.condition ≡ true
  pub same : l.space ≡ s.space.now.number

-- the rows that are meant are locked
abbrev pub LocksAt : Ground → Locking → Site → Asking → Planned → Type 0
LocksAt g l s a p =
    (rows : List Row) → AreMeant g.image.now l.session.now g.moment a s.table.now s.space.now rows
    → outcome_view p ≡ outcome (locking l.session.now l.mode (outline_on g) s.table.now rows (outline_by (parts_of g.image.now) s.space.now))
