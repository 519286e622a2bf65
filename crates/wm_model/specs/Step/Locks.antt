-- Locks: whom they keep from cells, and what changes of cells lock.
use Rattle.std.specs.Prelude.{ℕ, ◌==◌, Bool, true, false, not, ◌&&◌, List, [], ◌∷◌, map, Option, None}
use Rattle.std.specs.List.{filter, find, flat_map, list_any}
use Rattle.std.specs.Option.{option_and_then, option_map_or, option_or}
use Rattle.std.specs.Str.{bytes_eq}
use Rattle.wm_base.specs.Period.{Span}
use Rattle.wm_base.specs.declared.refusal.Refusal.{Refusal}
use Rattle.wm_graph.specs.Parts.{table_of}
use Rattle.wm_guard.specs.Barring.{bars, is_mode, lock_word, locks_at, meets, span_of}
use Rattle.wm_outline.specs.Outline.{Outline, SpaceOutline}
use Rattle.wm_print.specs.Texts.{Answer}
use Rattle.wm_spec.specs.Lists.{Entry}
use Rattle.wm_spec.specs.declared.record.cell_range.CellRange.{CellRange}
use Rattle.wm_spec.specs.declared.record.lock.Lock.{Lock}
use Rattle.wm_spec.specs.declared.record.lock.LockMode.{LockMode}
use Rattle.wm_spec.specs.declared.record.table.Table.{Table}
use Rattle.wm_state.specs.Editing.{is_other, locked_in}
use Rattle.wm_state.specs.State.{Durable, Session}
use Rattle.wm_state.specs.declared.edit.Edit.{Edit}
use Rattle.wm_state.specs.declared.edit.Edit.TheVariants as edits
use Rattle.wm_state.specs.declared.edit.NewLock.{NewLock}
use Rattle.wm_temporal.specs.Uncovered.{free}
use Rattle.wm_model.specs.Step.Periods.{told_period}
use Rattle.wm_model.specs.Step.Plans.{space_numbered}
use Rattle.wm_model.specs.Step.Refusing.{locked, refused_for}

-- the cells of an entry
abbrev pub cells_of : Entry → CellRange
cells_of e = record { table = e.table; key = e.key; from = e.from; till = e.till }

-- ---- whom locks keep from cells

-- a user is to change cells of the workspace of a number; the locks of one workspace may be left out
pub record Claim : Type 0 where
  pub space : ℕ
  pub user : List ℕ
  pub except : Option ℕ

-- so a session, and none is left out
abbrev pub claim_of : Session → ℕ → Claim
claim_of session n = record { space = n; user = session.user; except = None }

-- a workspace is a child of the one of a number; the parent of LIVE is told as its own number
abbrev pub is_child_of : ℕ → SpaceOutline → Bool
is_child_of n x = (x.fields.parent == n) && not (x.number == n)

abbrev pub has_parent : Outline → ℕ → ℕ → Bool
has_parent o n child = option_map_or (is_child_of n) (space_numbered child o) false

-- a lock keeps the user from cells that it covers
abbrev pub bars_claim : Outline → Claim → Lock → Bool
bars_claim o c x = bars (has_parent o c.space x.space) c.space c.user x && option_map_or (λ n. is_other n x.space) c.except true

-- the first lock that does, on one stretch of cells: by from, workspace and making
abbrev pub barring_at : Outline → Claim → CellRange → Option Lock
barring_at o c cells = find (λ (x : Lock). meets cells x.cells && bars_claim o c x) (locks_at cells.table cells.key o.locks)

-- and that of the first stretch on which there is one, where they stand by table, key and from
abbrev pub barring : Outline → Claim → List CellRange → Option Lock
barring o c [] = None
barring o c (x ∷ xs) = option_or (barring_at o c x) (barring o c xs)

-- ---- how it is told

-- the name of the workspace of a number
abbrev pub name_numbered : Outline → ℕ → List ℕ
name_numbered o n = option_map_or (λ (x : SpaceOutline). x.fields.name) (space_numbered n o) []

-- the period of cells, where their table has valid time
abbrev pub period_told : Outline → CellRange → Option Span
period_told o c = option_and_then (λ (t : Table). told_period t (span_of c)) (table_of o.tables c.table)

-- the workspace and the table of a lock are there in each state that lines lead to
abbrev pub locked_told : Outline → Lock → Answer
locked_told o x = locked (name_numbered o x.space) x.user (lock_word x.mode) x.cells.key (period_told o x.cells)

-- what a change of cells is refused for since a lock bars it
abbrev pub lock_fault : Outline → Claim → List CellRange → Option Refusal
lock_fault o c cells = refused_for (locked_told o) (barring o c cells)

-- ---- what is locked

-- a user locks cells of the workspace of a number in a mode
pub record Holder : Type 0 where
  pub space : ℕ
  pub mode : LockMode
  pub user : List ℕ

-- a lock is of the same workspace, mode and user
abbrev pub is_held_by : Holder → Lock → Bool
is_held_by h x = ((x.space == h.space) && is_mode h.mode x.mode) && bytes_eq h.user x.user

-- the periods of these locks on a key, by from
abbrev pub spans_held : Outline → Holder → CellRange → List Span
spans_held o h c = map (λ (x : Lock). span_of x.cells) (filter (is_held_by h) (locks_at c.table c.key o.locks))

-- cells over another period, as a new lock has them
abbrev pub lock_over : CellRange → Span → NewLock
lock_over c period = record { table = c.table; key = c.key; period = period }

-- what of cells is to be locked: the longest parts that none of these locks covers
abbrev pub parts_at : Outline → Holder → CellRange → List NewLock
parts_at o h c = map (lock_over c) (free c.from c.till (spans_held o h c))

abbrev pub lock_parts : Outline → Holder → List CellRange → List NewLock
lock_parts o h cells = flat_map (parts_at o h) cells

-- what a session's changes of cells of a workspace lock, where they lock
abbrev pub parts_locked : Outline → Session → ℕ → List CellRange → List NewLock
parts_locked o session n cells = option_map_or (λ mode. lock_parts o (record { space = n; mode = mode; user = session.user }) cells) session.locking []

-- the session has locked this
abbrev pub locked_by : Session → ℕ → List NewLock → Durable → Durable
locked_by session n parts d = option_map_or (λ mode. locked_in n mode session.user parts d) session.locking d

-- a workspace has locks
abbrev pub has_locks : ℕ → List Lock → Bool
has_locks n xs = list_any (λ (x : Lock). x.space == n) xs

-- ---- what is unlocked

-- locks go by their makings, where there are some
abbrev pub unlock_edits : List ℕ → List Edit
unlock_edits [] = []
unlock_edits (making ∷ makings) = edits.Unlock (making ∷ makings) ∷ []
