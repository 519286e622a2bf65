-- Whom locks keep from cells, and how locks stand in order.
use Rattle.std.specs.Prelude.{ℕ, ◌==◌, Bool, true, false, not, ◌&&◌, ◌||◌, nat_lt, List, codes, map}
use Rattle.std.specs.List.{filter}
use Rattle.std.specs.Ordering.{is_eq, is_lt}
use Rattle.std.specs.Str.{bytes_eq}
use Rattle.wm_base.specs.Key.{key_order}
use Rattle.wm_base.specs.Period.{Span}
use Rattle.wm_base.specs.declared.value.Value.{Value}
use Rattle.wm_ordering.specs.Sorting.{sorted}
use Rattle.wm_spec.specs.declared.record.cell_range.CellRange.{CellRange}
use Rattle.wm_spec.specs.declared.record.lock.Lock.{Lock}
use Rattle.wm_spec.specs.declared.record.lock.LockMode.{LockMode}
use Rattle.wm_spec.specs.declared.record.lock.LockMode.TheVariants as modes

-- ---- modes

abbrev pub lock_word : LockMode → List ℕ
lock_word modes.Exclusive = codes "E"
lock_word modes.Shared = codes "S"
lock_word modes.WorkspaceExclusive = codes "WE"
lock_word modes.VersionExclusive = codes "VE"

abbrev pub is_mode : LockMode → LockMode → Bool
is_mode modes.Exclusive modes.Exclusive = true
is_mode modes.Shared modes.Shared = true
is_mode modes.WorkspaceExclusive modes.WorkspaceExclusive = true
is_mode modes.VersionExclusive modes.VersionExclusive = true
is_mode mode other = false

-- the table of the modes; other: the lock is of another user, in the workspace where cells are changed; child: it is in a child of that
-- workspace; apart: it is of another user
abbrev pub keeps_off : LockMode → (other child apart : Bool) → Bool
keeps_off modes.Exclusive other child apart = other || child
keeps_off modes.Shared other child apart = child
keeps_off modes.WorkspaceExclusive other child apart = other
keeps_off modes.VersionExclusive other child apart = apart

-- a lock keeps a user from cells in the workspace of a number; child: the workspace of the lock is a child of that one
abbrev pub bars : Bool → ℕ → List ℕ → Lock → Bool
bars child space user x = keeps_off x.mode (space == x.space && not (bytes_eq user x.user)) child (not (bytes_eq user x.user))

-- ---- cells

-- two stretches of one key share a moment
abbrev pub meets : CellRange → CellRange → Bool
meets a b = nat_lt a.from b.till && nat_lt b.from a.till

abbrev pub span_of : CellRange → Span
span_of c = record { from = c.from; till = c.till }

-- ---- in order

-- a number comes before another one, or is the same and what is asked besides holds
abbrev pub lex : ℕ → ℕ → Bool → Bool
lex m n also = nat_lt m n || (m == n && also)

-- on one key, a lock comes before another one: by from, then by workspace, then by making
abbrev pub comes_before : Lock → Lock → Bool
comes_before x y = lex x.cells.from y.cells.from (lex x.space y.space (nat_lt x.making y.making))

-- and in one table: by key first
abbrev pub stands_before : Lock → Lock → Bool
stands_before x y = is_lt (key_order x.cells.key y.cells.key) || (is_eq (key_order x.cells.key y.cells.key) && comes_before x y)

-- a lock is on a key of a table, or on any
abbrev pub is_on : ℕ → List Value → Lock → Bool
is_on table key x = x.cells.table == table && is_eq (key_order key x.cells.key)

abbrev pub is_of : ℕ → Lock → Bool
is_of table x = x.cells.table == table

-- the locks on a key, in order, and those on a table
abbrev pub locks_at : ℕ → List Value → List Lock → List Lock
locks_at table key xs = sorted comes_before (filter (is_on table key) xs)

abbrev pub locks_in : ℕ → List Lock → List Lock
locks_in table xs = sorted stands_before (filter (is_of table) xs)

-- the makings of those in the workspace of a number
abbrev pub makings_of : ℕ → List Lock → List ℕ
makings_of n xs = map (λ (x : Lock). x.making) (filter (λ (x : Lock). x.space == n) xs)
