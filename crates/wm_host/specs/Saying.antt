-- What was said over a stretch of a run in which the station did nothing else.
use Rattle.std.specs.Prelude.{ℕ, ◌≡◌, List, [], ◌∷◌, ◌++◌, take}
use Rattle.wm_station.specs.History.{History, Said}
use Rattle.wm_model.specs.Running.{IsPart}

-- the history behind these calls of say, each a piece and how many of its bytes were said
abbrev pub after_says : History → List (List ℕ × ℕ) → History
after_says history [] = history
after_says history (call ∷ calls) = after_says (Said history call.0 call.1) calls

-- the bytes that these calls said
abbrev pub said_by : List (List ℕ × ℕ) → List ℕ
said_by [] = []
said_by (call ∷ calls) = take call.1 call.0 ++ said_by calls

-- the station did nothing but say these bytes
pub record OnlySaid (old new : History) (out : List ℕ) : Type 0 where
  pub calls : List (List ℕ × ℕ)
  pub told : new ≡ after_says old calls
  pub out_is : out ≡ said_by calls

-- a part of these bytes was said, and not all; where the station tells, it did nothing else
pub record SaidPart (tells : Type 0) (old new : History) (bytes : List ℕ) : Type 0 where
  pub part : List ℕ
  pub is_part : IsPart part bytes
  pub only : tells → OnlySaid old new part
