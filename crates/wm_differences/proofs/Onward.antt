-- Paths of points, one point after another.
use Rattle.std.proofs.Common.{◌≡◌, ℕ, zero, suc, ◌<◌, ◌+◌, ◌-◌, ◌++◌, List, [], ◌∷◌, Option, Some, refl, sym, ap, ◌∙◌, arith}
use Rattle.std.proofs.Math.Seq.{append_snoc}
use Rattle.std.specs.Option.{option_map_or}
use Rattle.wm_points.specs.Points.{Point, path}

-- what comes behind a point on its path
abbrev pub onward : (Point ℕ → Option (Point ℕ)) → ℕ → Point ℕ → List (Point ℕ)
onward climb zero x = []
onward climb (suc n) x = option_map_or (path climb n) (climb x) []

path-onward : (climb : Point ℕ → Option (Point ℕ)) (n : ℕ) (x : Point ℕ) → path climb n x ≡ x ∷ onward climb n x
path-onward climb zero x = refl
path-onward climb (suc n) x = refl

pub path_more : (climb : Point ℕ → Option (Point ℕ)) (n k : ℕ) (x y : Point ℕ) (xs ys whole : List (Point ℕ)) → k < n → Some y ≡ climb x → ys ≡ xs ++ y ∷ []
    → xs ++ onward climb (n - k) x ≡ whole → ys ++ onward climb (n - (k + 1)) y ≡ whole
path_more climb n k x y xs ys whole less above more before =
    ap (λ zs. zs ++ onward climb (n - (k + 1)) y) more
    ∙ append_snoc xs y (onward climb (n - (k + 1)) y)
    ∙ ap (λ zs. xs ++ zs) (sym (path-onward climb (n - (k + 1)) y))
    ∙ ap (λ (o : Option (Point ℕ)). xs ++ option_map_or (path climb (n - (k + 1))) o []) above
    ∙ ap (λ m. xs ++ onward climb m x) (let same : suc (n - (k + 1)) ≡ n - k = omega (arith, less) in same)
    ∙ before
