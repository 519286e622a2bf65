-- What is said of calls of a closure that judges rows.
use Rattle.std.specs.Prelude.{◌≡◌}
use Rattle.std.specs.Fn.{Shared}
use Rattle.std.proofs.Common.{Bor}

-- f may be called at each reference to x
abbrev pub MayTakeAt : {F T R : Type 0} → Shared F (Bor T × Unit {0}) R → F → T → Type 0
MayTakeAt {F} {T} g f x = (p : Bor T) → p.now ≡ x → g.pre f (p, tt)
