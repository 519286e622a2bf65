-- The least number that passes a test.
use Rattle.std.proofs.Common.{◌≡◌, ℕ, zero, suc, ◌==◌, nat_lt, Bool, true, false, not, ◌&&◌, cond, List, [], ◌∷◌, Option, Some, None, refl, sym, ap, ◌∙◌, arith}
use Rattle.std.proofs.lemmas.Bool.{eqb-true, true≢false}
use Rattle.std.proofs.lemmas.Option.{same_Some}
use Rattle.std.specs.Bool.{then_some}
use Rattle.std.specs.List.{find, list_all}
use Rattle.std.specs.Option.{option_map_or, option_or}
use Rattle.wm_graph.specs.Parts.{Parts, space_of}
use Rattle.wm_graph.specs.Rules.{keep_rules}
use Rattle.wm_spec.specs.declared.record.space.Space.{Space}
use Rattle.wm_state.specs.Firsts.{least_below}
use Rattle.wm_state.specs.Standing.{space_after}
use Rattle.wm_state.proofs.Apart.{found-passes}
use Rattle.wm_state.proofs.Mapped.{all-found}
use Rattle.wm_state.proofs.Spaces.{numbers_under, ruled_spaces}

some_passes : (b : Bool) (n m : ℕ) → then_some b n ≡ Some m → (b ≡ true) × (n ≡ m)
some_passes true n m e = (refl, same_Some n m e)
some_passes false n m e = absurd (cc)

-- it passes
pub least_passes : (n : ℕ) (test : ℕ → Bool) (m : ℕ) → least_below n test ≡ Some m → test m ≡ true
unfolding least_below
least_passes zero test m found = absurd (cc)
least_passes (suc n) test m found = by_least (least_below n test) refl found (least_passes n test m)
  where
    by_least : (o : Option ℕ) → least_below n test ≡ o → option_or o (then_some (test n) n) ≡ Some m → (least_below n test ≡ Some m → test m ≡ true) → test m ≡ true
    by_least None is e rest = let h = some_passes (test n) n m e in ap test (sym h.1) ∙ h.0
    by_least (Some k) is e rest = rest (is ∙ e)

-- tests that say the same of each number
pub tests_same : (n : ℕ) (f g : ℕ → Bool) → ((k : ℕ) → f k ≡ g k) → least_below n f ≡ least_below n g
tests_same n f g same = ap (least_below n) (λ i k. same k i)

-- where there is none, no number below passes
pub least_none : (n : ℕ) (test : ℕ → Bool) → least_below n test ≡ None → (k : ℕ) → nat_lt k n ≡ true → test k ≡ false
unfolding least_below
least_none zero test none k lt = absurd (under_zero k lt)
  where
    under_zero : (m : ℕ) → nat_lt m 0 ≡ true → ⊥
    under_zero m e = grind (arith, e)
least_none (suc n) test none k lt = by_rest (least_below n test) refl none (k == n) refl (least_none n test)
  where
    under : (a b : ℕ) → nat_lt a (suc b) ≡ true → (a == b) ≡ false → nat_lt a b ≡ true
    under a b e away = grind (arith, e, away)

    by_test : (b : Bool) → then_some b n ≡ None → b ≡ false
    by_test true h = cc
    by_test false h = refl

    by_rest : (o : Option ℕ) → least_below n test ≡ o → option_or o (then_some (test n) n) ≡ None → (b : Bool) → (k == n) ≡ b → (least_below n test ≡ None → (i : ℕ) → nat_lt i n ≡ true → test i ≡ false) → test k ≡ false
    by_rest (Some i) is h b e rest = cc
    by_rest None is h true e rest = ap test (eqb-true k n e) ∙ by_test (test n) h
    by_rest None is h false e rest = rest is k (under k n lt e)

-- the number of a record is below the one that comes next
pub number_under : (p : Parts) (n : ℕ) (r : Space) → space_of p.spaces n ≡ Some r → nat_lt n (space_after p.spaces) ≡ true
number_under p n r found =
    let h = found-passes (λ (q : Space). q.number == n) (λ (q : Space). nat_lt q.number (space_after p.spaces)) p.spaces r found (numbers_under p.spaces) in
    ap (λ k. nat_lt k (space_after p.spaces)) (sym (eqb-true r.number n h.0)) ∙ h.1

-- of records: where no number passes, none is found
pub none_first : (p : Parts) (Q : Space → Bool) → keep_rules p ≡ true → least_below (space_after p.spaces) (λ n. option_map_or Q (space_of p.spaces n) false) ≡ None → find Q p.spaces ≡ None
none_first p Q rules none = none_is Q p.spaces (all-found (λ (r : Space). r.number) (λ (r : Space). not (Q r)) p.spaces (ruled_spaces p rules).numbers (λ n r found. ap not (fails n r found)))
  where
    fails : (n : ℕ) (r : Space) → space_of p.spaces n ≡ Some r → Q r ≡ false
    fails n r found = sym (ap (λ o. option_map_or Q o false) found) ∙ least_none (space_after p.spaces) (λ k. option_map_or Q (space_of p.spaces k) false) none n (number_under p n r found)

    none_is : {A : Type 0} (P : A → Bool) (xs : List A) → list_all (λ x. not (P x)) xs ≡ true → find P xs ≡ None
    none_is P [] all = refl
    none_is P (x ∷ xs) all = by_test (P x) all (none_is P xs)
      where
        by_test : (b : Bool) → (not b && list_all (λ y. not (P y)) xs) ≡ true → (list_all (λ y. not (P y)) xs ≡ true → find P xs ≡ None) → cond b (Some x) (find P xs) ≡ None
        by_test true e rest = absurd (true≢false (sym e))
        by_test false e rest = rest e
