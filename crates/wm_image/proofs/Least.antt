-- The workspace of the least number that passes a test.
use Rattle.std.proofs.Common.{◌≡◌, ℕ, zero, suc, ◌+◌, ◌<◌, ◌≤◌, ◌==◌, nat_le, Bool, true, false, cond, not, ◌&&◌, List, [], ◌∷◌, length, Option, Some, None, is_some, refl, sym, ap, ◌∙◌, ◌⊎◌, inl, inr, arith}
use Rattle.std.proofs.lemmas.Bool.{cases_eq, eq-eqb, eqb-true, le-leb, lt-leb, and_parts, not-true, true≢false}
use Rattle.std.specs.Bool.{then_some}
use Rattle.std.specs.List.{filter_map, list_any}
use Rattle.std.specs.Option.{option_and_then, option_map_or, option_or}
use Rattle.wm_base.proofs.Plain.{nat_le-trans}
use Rattle.wm_graph.specs.Parts.{Parts, as_space, space_of}
use Rattle.wm_graph.specs.Rules.{are_spaces, differ, keep_rules}
use Rattle.wm_spec.specs.Records.{record_at}
use Rattle.wm_spec.specs.declared.record.space.Space.{Space}
use Rattle.wm_spec.specs.declared.record.stored.Stored.{Stored}
use Rattle.wm_state.specs.Firsts.{first_recorded, least_below}
use Rattle.wm_state.specs.Standing.{space_after}
use Rattle.wm_state.proofs.Apart.{ruled}
use Rattle.wm_state.proofs.Mapped.{found-fails}
use Rattle.wm_image.proofs.Coming.{spaces_over}
use Rattle.wm_index.specs.Kinds.{kind_at, passing}
use Rattle.wm_image.specs.Shown.{least, lesser}

-- ---- the lesser of two

pub lesser-none : (o : Option Space) → lesser o None ≡ o
lesser-none None = refl
lesser-none (Some r) = refl

lesser-assoc : (a b c : Option Space) → lesser (lesser a b) c ≡ lesser a (lesser b c)
lesser-assoc None b c = refl
lesser-assoc (Some r) None c = refl
lesser-assoc (Some r) (Some q) None = lesser-none (lesser (Some r) (Some q))
lesser-assoc (Some r) (Some q) (Some s) = by_tests (nat_le r.number q.number) (nat_le q.number s.number) (nat_le r.number s.number) refl refl refl
  where
    apart : (a b c : ℕ) → nat_le a b ≡ false → nat_le b c ≡ false → nat_le a c ≡ false
    apart a b c e f = grind (arith, e, f)

    by_tests : (a b c : Bool) → nat_le r.number q.number ≡ a → nat_le q.number s.number ≡ b → nat_le r.number s.number ≡ c
        → lesser (cond a (Some r) (Some q)) (Some s) ≡ lesser (Some r) (cond b (Some q) (Some s))
    by_tests true true c e f g = rw (e, nat_le-trans r.number q.number s.number e f) refl
    by_tests true false c e f g = refl
    by_tests false true c e f g = rw (e, f) refl
    by_tests false false c e f g = rw (f, apart r.number q.number s.number e f) refl

-- by the order of their numbers
pub lesser_first : (r q : Space) → r.number ≤ q.number → Some r ≡ lesser (Some r) (Some q)
lesser_first r q le = sym (ap (λ b. cond b (Some r) (Some q)) (le-leb r.number q.number le))

pub lesser_second : (r q : Space) → q.number < r.number → Some q ≡ lesser (Some r) (Some q)
lesser_second r q lt = sym (ap (λ b. cond b (Some r) (Some q)) (lt-leb r.number q.number lt))

-- one more of the ids
pub least-next : (p : Space → Bool) (ss : List Stored) (id : ℕ) (ids : List ℕ) (best : Option Space)
    → lesser (lesser best (passing p (option_and_then as_space (record_at ss id)))) (least p (kind_at as_space ss ids)) ≡ lesser best (least p (kind_at as_space ss (id ∷ ids)))
least-next p ss id ids best = by_record (record_at ss id) refl
  where
    one : (o : Option Space) → lesser (lesser best (passing p o)) (least p (kind_at as_space ss ids)) ≡ lesser best (lesser (passing p o) (least p (kind_at as_space ss ids)))
    one o = lesser-assoc best (passing p o) (least p (kind_at as_space ss ids))

    by_record : (o : Option _) → record_at ss id ≡ o
        → lesser (lesser best (passing p (option_and_then as_space o))) (least p (kind_at as_space ss ids)) ≡ lesser best (least p (kind_at as_space ss (id ∷ ids)))
    by_record None is = rw is (one None)
    by_record (Some r) is = rw is (by_kind (as_space r) refl)
      where
        by_kind : (o : Option Space) → as_space r ≡ o
            → lesser (lesser best (passing p o)) (least p (kind_at as_space ss ids)) ≡ lesser best (least p (filter_map as_space (r ∷ filter_map (record_at ss) ids)))
        by_kind None e = rw e (one None)
        by_kind (Some x) e = rw e (one (Some x))

-- ---- what the least is

-- the workspace of a number passes the test
abbrev passes : (Space → Bool) → List Space → ℕ → Bool
passes p rs n = option_map_or p (space_of rs n) false

abbrev IsLeast : (Space → Bool) → List Space → Option Space → Type 0
IsLeast p rs None = (n : ℕ) → passes p rs n ≡ false
IsLeast p rs (Some r) = (space_of rs r.number ≡ Some r) × (p r ≡ true) × ((n : ℕ) → passes p rs n ≡ true → r.number ≤ n)

least_is : (p : Space → Bool) (rs : List Space) → differ (λ (r q : Space). r.number == q.number) rs ≡ true → IsLeast p rs (least p rs)
least_is p [] apart = λ n. refl
least_is p (r ∷ rs) apart = by_test (p r) refl (least p rs) (least_is p rs two.1)
  where
    two : (not (list_any (λ (q : Space). r.number == q.number) rs) ≡ true) × (differ (λ (s q : Space). s.number == q.number) rs ≡ true)
    two = and_parts (not (list_any (λ (q : Space). r.number == q.number) rs)) (differ (λ (s q : Space). s.number == q.number) rs) apart

    here : (n : ℕ) → (r.number == n) ≡ true → passes p (r ∷ rs) n ≡ p r
    here n same = rw same refl

    away : (n : ℕ) → (r.number == n) ≡ false → passes p (r ∷ rs) n ≡ passes p rs n
    away n other = rw other refl

    first : space_of (r ∷ rs) r.number ≡ Some r
    first = rw (eq-eqb r.number r.number refl) refl

    later : (q : Space) → space_of rs q.number ≡ Some q → space_of (r ∷ rs) q.number ≡ Some q
    later q found = rw (found-fails (λ (s : Space). s.number == q.number) (λ (s : Space). r.number == s.number) rs q found (not-true (list_any (λ (s : Space). r.number == s.number) rs) two.0)) found

    by_test : (b : Bool) → p r ≡ b → (o : Option Space) → IsLeast p rs o → IsLeast p (r ∷ rs) (lesser (then_some b r) o)
    by_test false e None none = λ n. by_number n (r.number == n) refl
      where
        by_number : (n : ℕ) (c : Bool) → (r.number == n) ≡ c → passes p (r ∷ rs) n ≡ false
        by_number n true same = here n same ∙ e
        by_number n false other = away n other ∙ none n
    by_test false e (Some q) is = (later q is.0, is.1, λ n pass. by_number n (r.number == n) refl pass)
      where
        by_number : (n : ℕ) (c : Bool) → (r.number == n) ≡ c → passes p (r ∷ rs) n ≡ true → q.number ≤ n
        by_number n true same pass = absurd (true≢false (sym pass ∙ here n same ∙ e))
        by_number n false other pass = is.2 n (sym (away n other) ∙ pass)
    by_test true e None none = (first, e, λ n pass. by_number n (r.number == n) refl pass)
      where
        by_number : (n : ℕ) (c : Bool) → (r.number == n) ≡ c → passes p (r ∷ rs) n ≡ true → r.number ≤ n
        by_number n true same pass = let is = eqb-true r.number n same in omega (arith, is)
        by_number n false other pass = absurd (true≢false (sym pass ∙ away n other ∙ none n))
    by_test true e (Some q) is = by_order (nat_le r.number q.number) refl
      where
        at_most : (a b n : ℕ) → nat_le a b ≡ true → b ≤ n → a ≤ n
        at_most a b n le less = grind (arith, le, less)

        above : (a b n : ℕ) → nat_le a b ≡ false → a ≡ n → b ≤ n
        above a b n more same = grind (arith, more, same)

        by_order : (d : Bool) → nat_le r.number q.number ≡ d → IsLeast p (r ∷ rs) (cond d (Some r) (Some q))
        by_order true le = (first, e, λ n pass. by_number n (r.number == n) refl pass)
          where
            by_number : (n : ℕ) (c : Bool) → (r.number == n) ≡ c → passes p (r ∷ rs) n ≡ true → r.number ≤ n
            by_number n true same pass = let is = eqb-true r.number n same in omega (arith, is)
            by_number n false other pass = at_most r.number q.number n le (is.2 n (sym (away n other) ∙ pass))
        by_order false more = (later q is.0, is.1, λ n pass. by_number n (r.number == n) refl pass)
          where
            by_number : (n : ℕ) (c : Bool) → (r.number == n) ≡ c → passes p (r ∷ rs) n ≡ true → q.number ≤ n
            by_number n true same pass = above r.number q.number n more (eqb-true r.number n same)
            by_number n false other pass = is.2 n (sym (away n other) ∙ pass)

-- ---- the least number below a bound

below_none : (n : ℕ) (test : ℕ → Bool) → ((k : ℕ) → k < n → test k ≡ false) → least_below n test ≡ None
unfolding least_below
below_none zero test none = refl
below_none (suc n) test none = rw (below_none n test (λ k less. none k (omega (arith, less))), none n (omega arith)) refl

below_some : (n : ℕ) (test : ℕ → Bool) (m : ℕ) → m < n → test m ≡ true → ((k : ℕ) → test k ≡ true → m ≤ k) → least_below n test ≡ Some m
unfolding least_below
below_some zero test m within pass first = absurd (omega (arith, within))
below_some (suc n) test m within pass first = by_number (cases_eq m n) (below_some n test m)
  where
    none : (k : ℕ) → k < m → (b : Bool) → test k ≡ b → b ≡ false
    none k less true e = absurd (let le = first k e in omega (arith, less, le))
    none k less false e = refl

    by_number : (m ≡ n) ⊎ (m ≡ n → ⊥) → (m < n → test m ≡ true → ((k : ℕ) → test k ≡ true → m ≤ k) → least_below n test ≡ Some m) → option_or (least_below n test) (then_some (test n) n) ≡ Some m
    by_number (inl same) rest =
        rw (below_none n test (λ k less. none k (omega (arith, less, same)) (test k) refl), ap test (sym same) ∙ pass) (ap (λ k. Some k) (sym same))
    by_number (inr other) rest = rw (rest (omega (arith, within, other)) pass first) refl

-- the least of workspaces whose numbers differ is the first that passes
least_first : (p : Space → Bool) (rs : List Space) (o : Option Space) → IsLeast p rs o → o ≡ first_recorded p rs
least_first p rs None none = sym (ap (option_and_then (space_of rs)) (below_none (space_after rs) (passes p rs) (λ k less. none k)))
least_first p rs (Some r) is =
    sym
    (ap (option_and_then (space_of rs)) (below_some (space_after rs) (passes p rs) r.number (within (space_after rs) (spaces_over rs r.number (ap is_some is.0))) (ap (λ o. option_map_or p o false) is.0 ∙ is.1) is.2)
    ∙ is.0)
  where
    within : (n : ℕ) → r.number + 1 ≤ n → r.number < n
    within n le = omega (arith, le)

pub least_told : (p : Parts) → keep_rules p ≡ true → (test : Space → Bool) → least test p.spaces ≡ first_recorded test p.spaces
least_told p rules test = least_first test p.spaces (least test p.spaces) (least_is test p.spaces (numbers (ruled p rules).spaces))
  where
    numbers : are_spaces p.spaces ≡ true → differ (λ (r q : Space). r.number == q.number) p.spaces ≡ true
    numbers e = (and_parts (differ (λ (r q : Space). r.number == q.number) p.spaces) _ (and_parts (nat_le (length p.spaces) 1024 && is_some (space_of p.spaces 0)) _ e).1).0
