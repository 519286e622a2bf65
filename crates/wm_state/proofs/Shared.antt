-- What a period shares with the first stretch that it overlaps.
use Rattle.std.proofs.Common.{◌≡◌, ℕ, ◌<◌, ◌&&◌, nat_lt, nat_le, Bool, true, false, if◌then◌else◌, List, [], ◌∷◌, ◌++◌, Option, Some, None, is_some, max, refl, sym, ap, ◌∙◌, arith}
use Rattle.std.proofs.lemmas.Option.{same_Some, none-some}
use Rattle.std.proofs.lemmas.Bool.{true≢false}
use Rattle.std.specs.Bool.{then_some}
use Rattle.std.specs.Option.{option_or}
use Rattle.wm_base.specs.Period.{Span, covers, overlaps, shared}
use Rattle.wm_base.specs.declared.value.Value.{Value}
use Rattle.wm_graph.specs.Parts.{Parts}
use Rattle.wm_spec.specs.Lists.{Entry, stamp_at}
use Rattle.wm_spec.specs.Stretches.{Stretch, value_at, AreMaximal, rows_of_key}
use Rattle.wm_state.specs.Listing.{AreRowsOf, first_shared, span_on}
use Rattle.wm_state.proofs.Listed.{HoldsAll, key_rows, seen_is}

-- of stretches one behind others the first that it overlaps is one of the first, where it overlaps one of them
pub shared-append : (period : Span) (xs ys : List Stretch) → first_shared period (xs ++ ys) ≡ option_or (first_shared period xs) (first_shared period ys)
shared-append period [] ys = refl
shared-append period (x ∷ xs) ys = by_test (overlaps (span_on x) period) (shared-append period xs ys)
  where
    by_test : (b : Bool) → first_shared period (xs ++ ys) ≡ option_or (first_shared period xs) (first_shared period ys)
        → (if b then Some (shared (span_on x) period) else first_shared period (xs ++ ys)) ≡ option_or (if b then Some (shared (span_on x) period) else first_shared period xs) (first_shared period ys)
    by_test true rest = refl
    by_test false rest = rest

-- what it shares with the rows of a key in a version is what it shares with those of the list
pub shared_of : (p : Parts) (version : ℕ) (es : List Entry) (table : ℕ) (key : List Value) (period : Span) (ss : List Stretch) → HoldsAll p version es → AreRowsOf p version table key ss
    → first_shared period ss ≡ first_shared period (rows_of_key es table key)
shared_of p version es table key period ss holds are = ap (first_shared period) (sym (key_rows p version es table key ss holds are))

-- ---- it shares something exactly where a row is held at one of its moments

abbrev has : ℕ → ℕ → ℕ → Bool
has from till t = nat_le from t && nat_lt t till

-- where it shares nothing, nothing is held at its moments
pub shared-none : (period : Span) (ss : List Stretch) → first_shared period ss ≡ None → (t : ℕ) → covers period t ≡ true → value_at ss t ≡ None
shared-none period [] none t in_it = refl
shared-none period (s ∷ ss) none t in_it = by_test (overlaps (span_on s) period) refl none (shared-none period ss)
  where
    apart : (a b c d t : ℕ) → (nat_lt a d && nat_lt c b) ≡ false → has c d t ≡ true → has a b t ≡ false
    apart a b c d t e h = grind (arith, e, h)

    by_test : (b : Bool) → overlaps (span_on s) period ≡ b → (if b then Some (shared (span_on s) period) else first_shared period ss) ≡ None
        → (first_shared period ss ≡ None → (t : ℕ) → covers period t ≡ true → value_at ss t ≡ None) → option_or (value_at ss t) (then_some (has s.from s.till t) s.stamp) ≡ None
    by_test true e h rest = absurd (none-some (shared (span_on s) period) (sym h))
    by_test false e h rest = rw (rest h t in_it, apart s.from s.till period.from period.till t e in_it) refl

-- what it shares begins at a moment of it, at which a row is held
pub shared-some : (period : Span) (ss : List Stretch) (low : ℕ) (found : Span) → period.from < period.till → AreMaximal low ss → first_shared period ss ≡ Some found
    → (covers period found.from ≡ true) × (is_some (value_at ss found.from) ≡ true)
shared-some period [] low found lasts maximal e = absurd (none-some found (sym (sym e)))
shared-some period (s ∷ ss) low found lasts maximal e = by_test (overlaps (span_on s) period) refl e (shared-some period ss s.till found lasts maximal.3)
  where
    -- the later of two beginnings lies in both
    in_first : (a b c d : ℕ) → a < b → (nat_lt a d && nat_lt c b) ≡ true → has a b (max a c) ≡ true
    in_first a b c d one e = grind (arith, one, e)

    in_second : (a b c d : ℕ) → c < d → (nat_lt a d && nat_lt c b) ≡ true → has c d (max a c) ≡ true
    in_second a b c d two e = grind (arith, two, e)

    either : (o : Option ℕ) (stamp : ℕ) → is_some (option_or o (Some stamp)) ≡ true
    either None stamp = refl
    either (Some n) stamp = refl

    more : (o : Option ℕ) (p : Option ℕ) → is_some o ≡ true → is_some (option_or o p) ≡ true
    more None p e = absurd (true≢false (sym e))
    more (Some n) p e = refl

    by_test : (b : Bool) → overlaps (span_on s) period ≡ b → (if b then Some (shared (span_on s) period) else first_shared period ss) ≡ Some found
        → (first_shared period ss ≡ Some found → (covers period found.from ≡ true) × (is_some (value_at ss found.from) ≡ true))
        → (covers period found.from ≡ true) × (is_some (option_or (value_at ss found.from) (then_some (has s.from s.till found.from) s.stamp)) ≡ true)
    by_test true e h rest =
        let from : max s.from period.from ≡ found.from = ap (λ (p : Span). p.from) (same_Some (shared (span_on s) period) found h) in
        rw (
          sym from,
          in_first s.from s.till period.from period.till maximal.1 e,
          in_second s.from s.till period.from period.till lasts e,
        ) (refl, either (value_at ss (max s.from period.from)) s.stamp)
    by_test false e h rest = let both = rest h in (both.0, more (value_at ss found.from) (then_some (has s.from s.till found.from) s.stamp) both.1)

-- ---- the same of what a list of entries holds

pub free_of : (p : Parts) (version : ℕ) (es : List Entry) (table : ℕ) (key : List Value) (period : Span) (ss : List Stretch) → HoldsAll p version es → AreRowsOf p version table key ss → first_shared period ss ≡ None
    → (t : ℕ) → covers period t ≡ true → stamp_at es table key t ≡ None
free_of p version es table key period ss holds are none t in_it = sym (are.held t ∙ seen_is p version es holds table key t) ∙ shared-none period ss none t in_it

pub met_of : (p : Parts) (version : ℕ) (es : List Entry) (table : ℕ) (key : List Value) (period : Span) (ss : List Stretch) (found : Span) → HoldsAll p version es → AreRowsOf p version table key ss
    → period.from < period.till → first_shared period ss ≡ Some found → (covers period found.from ≡ true) × (is_some (stamp_at es table key found.from) ≡ true)
met_of p version es table key period ss found holds are lasts some =
    let met = shared-some period ss 0 found lasts are.maximal some in
    (met.0, ap is_some (sym (are.held found.from ∙ seen_is p version es holds table key found.from)) ∙ met.1)
