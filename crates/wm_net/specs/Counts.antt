-- How many stretches the cells that pass a test fall into where they are cut at every end of some entries: what the length of a list of
-- stretches is measured by.
use Rattle.std.specs.Prelude.{ℕ, ◌≡◌, ◌<◌, ◌≤◌, Bool, true, false, ◌&&◌, ◌||◌, ◌==◌, nat_le, nat_lt, List, [], ◌∷◌, length}
use Rattle.std.specs.Bool.{then_some}
use Rattle.std.specs.List.{count_by, list_all, list_any}
use Rattle.std.specs.Ordering.{is_eq}
use Rattle.wm_base.specs.Key.{key_order}
use Rattle.wm_base.specs.declared.value.Value.{Value}
use Rattle.wm_spec.specs.Lists.{Entry, Cell, is_of}
use Rattle.wm_spec.specs.Stretches.{cuts}
use Rattle.wm_spec.specs.declared.record.cell_range.CellRange.{CellRange}
use Rattle.wm_net.specs.Groups.{Group, cell}
use Rattle.wm_net.specs.Listed.{Stretch, listing}

-- ---- counts

-- nothing is joined, so every cut stays
abbrev pub never : Bool → Bool → Bool
never x y = false

-- the first cell of a stretch
abbrev pub first_cell : Group → Stretch Bool → Cell
first_cell g s = cell g s.from

-- the first cells of the stretches into which the cells that pass a test fall
abbrev pub first_cells : List Entry → (Cell → Bool) → List Cell
first_cells es f = listing never first_cell es (λ c. then_some (f c) true)

-- into how many stretches they fall
abbrev pub cut_count : List Entry → (Cell → Bool) → ℕ
cut_count es f = length (first_cells es f)

-- ---- tests that change at cuts alone

-- a test of the moment changes at the cuts alone, and fails behind the last
abbrev pub SteadyTest : (ℕ → Bool) → ℕ → List ℕ → Type 0
SteadyTest p low [] = (t : ℕ) → low ≤ t → p t ≡ false
SteadyTest p low (cut ∷ cs) = ((t : ℕ) → low ≤ t → t < cut → p t ≡ p low) × SteadyTest p cut cs

-- so does a test of the cell in each group, where the ends of the entries cut: it fails where no entry is of the group
pub record IsSteady (es : List Entry) (f : Cell → Bool) : Type 0 where
  pub steady : (g : Group) → SteadyTest (λ t. f (cell g t)) 0 (cuts es g.table g.key)

-- ---- what is cut at ends of entries

-- one of the entries ends or begins at a moment for a table and key
abbrev pub is_end : List Entry → ℕ → List Value → ℕ → Bool
is_end es table key moment = list_any (λ (e : Entry). is_of table key e && ((e.from == moment) || (e.till == moment))) es

-- both ends of the cells are ends of entries
abbrev pub has_ends : List Entry → CellRange → Bool
has_ends es r = is_end es r.table r.key r.from && is_end es r.table r.key r.till

-- and so are those of other entries
abbrev pub has_cuts : List Entry → List Entry → Bool
has_cuts es own = list_all (λ (e : Entry). is_end es e.table e.key e.from && is_end es e.table e.key e.till) own

-- ---- things apart

-- some cell passes both tests
pub record Meet (f g : Cell → Bool) : Type 0 where
  pub shared : Cell
  pub one : f shared ≡ true
  pub two : g shared ≡ true

-- no cell is covered by two of the list
pub record AreApart {X : Type 0} (covers : X → Cell → Bool) (xs : List X) : Type 0 where
  pub once : (c : Cell) → count_by (λ x. covers x c) xs ≤ 1

-- the cells have this one
abbrev pub has_cell : CellRange → Cell → Bool
has_cell r c = ((r.table == c.table) && is_eq (key_order r.key c.key)) && (nat_le r.from c.time && nat_lt c.time r.till)
