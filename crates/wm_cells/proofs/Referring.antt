-- What holds of the items that references refer to, said of the references.
use Rattle.std.proofs.Common.{◌≡◌, ℕ, ◌+◌, ◌<◌, Bool, List, [], ◌∷◌, ◌++◌, length, suc, refl, ap, take, get_or}
use Rattle.std.proofs.lemmas.List.{take_more, map-append}
use Rattle.std.specs.List.{list_any}
use Rattle.wm_cells.specs.Lookups.{referred}
use Rattle.wm_graph.specs.Rules.{differ}
use denote.Ref.{Bor}

-- one more reference
pub referred_more : {A : Type 0} (xs : List (Bor A)) (i : ℕ) (d : Bor A) → i < length xs → referred (take (i + 1) xs) ≡ referred (take i xs) ++ (get_or xs i d).now ∷ []
referred_more {A} xs i d h = rw (take_more xs i d h) (map-append (λ (r : Bor A). r.now) (take i xs) (get_or xs i d ∷ []))

pub length_referred : {A : Type 0} (xs : List (Bor A)) → length (referred xs) ≡ length xs
length_referred [] = refl
length_referred (x ∷ xs) = ap (λ n. suc n) (length_referred xs)

any_referred : {A : Type 0} (test : A → Bool) (xs : List (Bor A)) → list_any test (referred xs) ≡ list_any (λ x. test x.now) xs
any_referred test [] = refl
any_referred test (x ∷ xs) = rw (any_referred test xs) refl

pub differ_referred : {A : Type 0} (same : A → A → Bool) (xs : List (Bor A)) → differ same (referred xs) ≡ differ (λ x y. same x.now y.now) xs
differ_referred same [] = refl
differ_referred same (x ∷ xs) = rw (any_referred (same x.now) xs, differ_referred same xs) refl
