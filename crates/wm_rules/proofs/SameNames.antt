-- Savepoints are equal in their order where they have one name in one workspace.
use Rattle.std.proofs.Common.{◌≡◌, ℕ, Bool, true, false, ◌&&◌, ◌==◌, List, refl, ap, ◌∙◌, arith}
use Rattle.std.proofs.lemmas.Bool.Decides.{nat_tests}
use Rattle.std.proofs.lemmas.Cmp.{same_from_slice_cmp}
use Rattle.std.specs.Cmp.Lexicographic.{slice_cmp}
use Rattle.std.specs.Ordering.{nat_cmp, is_eq, ordering_then}
use Rattle.std.specs.Str.{bytes_eq}
use Rattle.std.specs.declared.cmp.Ordering.{Ordering}
use Rattle.std.specs.declared.cmp.Ordering.TheVariants.{Less, Equal, Greater}
use Rattle.wm_graph.specs.Rules.{differ, same_savepoint}
use Rattle.wm_spec.specs.declared.record.savepoint.Savepoint.{Savepoint}

-- texts that stand in one place of their order have the same bytes
same_text : (s t : List ℕ) → is_eq (slice_cmp nat_cmp s t) ≡ bytes_eq s t
same_text s t = same_from_slice_cmp nat_cmp is_eq bytes_eq refl (λ _ _. refl) (λ _ _. refl) (λ x y xs ys o h. grind (arith, nat_tests)) s t (slice_cmp nat_cmp s t) refl

-- savepoints are equal where they have one name in one workspace
pub same_name : (x y : Savepoint) → is_eq (ordering_then (nat_cmp x.space y.space) (slice_cmp nat_cmp x.name y.name)) ≡ same_savepoint x y
same_name x y = by_test (x.space == y.space) refl
  where
    first : (o p : Ordering) → is_eq o ≡ true → is_eq (ordering_then o p) ≡ is_eq p
    first Less p e = cc
    first Equal p e = refl
    first Greater p e = cc

    other : (o p : Ordering) → is_eq o ≡ false → is_eq (ordering_then o p) ≡ false
    other Less p e = refl
    other Equal p e = cc
    other Greater p e = refl

    same_number : (m n : ℕ) → is_eq (nat_cmp m n) ≡ (m == n)
    same_number m n = grind (arith, nat_tests)

    by_test : (b : Bool) → (x.space == y.space) ≡ b → is_eq (ordering_then (nat_cmp x.space y.space) (slice_cmp nat_cmp x.name y.name)) ≡ (b && bytes_eq x.name y.name)
    by_test true e = first (nat_cmp x.space y.space) _ (same_number x.space y.space ∙ e) ∙ same_text x.name y.name
    by_test false e = other (nat_cmp x.space y.space) _ (same_number x.space y.space ∙ e)

pub names_told : (xs : List Savepoint) → differ (λ (x y : Savepoint). is_eq (ordering_then (nat_cmp x.space y.space) (slice_cmp nat_cmp x.name y.name))) xs ≡ differ same_savepoint xs
names_told xs = ap (λ (same : Savepoint → Savepoint → Bool). differ same xs) (λ i x y. same_name x y i)
