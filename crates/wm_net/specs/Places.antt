-- Last positions: where in a list a cell was touched last.
use Rattle.std.specs.Prelude.{ℕ, ◌≡◌, ◌+◌, true, false, List, [], ◌∷◌, Option, None, option_map}
use Rattle.std.specs.Bool.{then_some}
use Rattle.std.specs.Option.{option_or}
use Rattle.wm_spec.specs.Lists.{Entry, Cell, covers, touched}

-- the last position of an entry that covers the cell
abbrev pub last_position : List Entry → Cell → Option ℕ
last_position [] c = None
last_position (e ∷ es) c = option_or (option_map (λ (n : ℕ). n + 1) (last_position es c)) (then_some (covers e c) 0)

-- each cell is covered by one entry at most
abbrev pub Once : List Entry → Type 0
Once [] = Unit {0}
Once (e ∷ es) = ((c : Cell) → covers e c ≡ true → touched es c ≡ false) × Once es
