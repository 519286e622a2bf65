-- What is copied of what pieces say.
use Rattle.std.specs.Prelude.{ℕ, ◌≡◌, ◌==◌, ◌&&◌, max, min, nat_lt, Bool, if◌then◌else◌, List, [], ◌∷◌, Some, None}
use Rattle.std.specs.Option.{option_map}
use Rattle.wm_graph.specs.Parts.{Parts}
use Rattle.wm_net.specs.Listed.{IsJoined, Ordered, Stretch, value_at, within}
use Rattle.wm_net.specs.Nets.{one_stamp}
use Rattle.wm_period.specs.Pieces.{Held, held, held_at}
use Rattle.wm_period.specs.declared.piece.Piece.{Piece}
use Rattle.wm_spec.specs.Lists.{Told}
use Rattle.wm_telling.specs.Telling.{told_by}

-- a stretch behind others, made one with the last of them where it meets it and the test says that the two values are one
abbrev pub extended : {A : Type 0} → (A → A → Bool) → List (Stretch A) → Stretch A → List (Stretch A)
extended same [] s = s ∷ []
extended same (x ∷ []) s = if (x.till == s.from) && same x.value s.value then record { from = x.from; till = s.till; value = x.value } ∷ [] else x ∷ s ∷ []
extended same (x ∷ y ∷ ys) s = x ∷ extended same (y ∷ ys) s

-- what a piece says over a period, as it is copied
abbrev pub copy_in : Parts → ℕ → ℕ → Piece → Stretch Told
copy_in p from till x = record { from = max x.period.from from; till = min x.period.till till; value = told_by p (held x) }

-- a piece has something of a period
abbrev pub shares : ℕ → ℕ → Piece → Bool
shares from till x = nat_lt (max x.period.from from) (min x.period.till till)

-- copies with what a piece says over a period behind them
abbrev pub laid : Parts → ℕ → ℕ → List (Stretch Told) → Piece → List (Stretch Told)
laid p from till ss x = if shares from till x then extended one_stamp ss (copy_in p from till x) else ss

-- pieces of one stamp say one thing
abbrev pub SayOne : List Piece → Type 0
SayOne ps = (t u : ℕ) (x y : Held) → held_at ps t ≡ Some x → held_at ps u ≡ Some y → x.stamp.number ≡ y.stamp.number → x ≡ y

-- copies say what pieces do over a period, each as long as can be
pub record AreCopies (p : Parts) (from till : ℕ) (ps : List Piece) (ss : List (Stretch Told)) : Type 0 where
  pub ordered : Ordered 0 ss
  pub joined : IsJoined one_stamp ss
  pub holds : SayOne ps → (t : ℕ) → value_at ss t ≡ (if within from till t then option_map (told_by p) (held_at ps t) else None)
