-- The rows of a table are determined by what is held at each cell, and by any keys that have all that hold something.
use Rattle.std.proofs.Common.{◌≡◌, ◌≢◌, ℕ, ◌<◌, ◌≤◌, ◌==◌, ◌&&◌, ◌||◌, nat_lt, nat_le, Bool, true, false, if◌then◌else◌, List, [], ◌∷◌, ◌++◌, map, Option, Some, refl, sym, ap, subst, ◌∙◌, ◌⊎◌, inl, inr, arith}
use Rattle.std.proofs.lemmas.Bool.{cases_eq, or_parts}
use Rattle.std.proofs.lemmas.Option.{same_Some}
use Rattle.std.specs.Option.{option_and_then}
use Rattle.std.specs.Ordering.{is_eq}
use Rattle.std.specs.declared.cmp.Ordering.{Ordering}
use Rattle.std.specs.declared.cmp.Ordering.TheVariants.{Less, Equal, Greater}
use Rattle.wm_base.proofs.Plain.{none_some, option_or-none}
use Rattle.wm_base.specs.Key.{key_order}
use Rattle.wm_base.specs.Orders.{key_order_total, key_order-itself, key_order-equal}
use Rattle.wm_base.specs.declared.value.Value.{Value}
use Rattle.wm_graph.specs.Parts.{Parts}
use Rattle.wm_period.specs.Pieces.{Held}
use Rattle.wm_spec.specs.Lists.{Cell, Entry, stamp_at}
use Rattle.wm_spec.specs.Stretches.{Stretch, value_at, AreMaximal, ComesBefore, KeysAscend, is_key_in, rows_from, rows_of_key, keys, key_in, cuts, stretches}
use Rattle.wm_spec.proofs.Keys.{before-more, key_in-has}
use Rattle.wm_spec.proofs.Stretches.{value-rows, AreMaximal-rows, value-before}
use Rattle.wm_state.specs.Listing.{stamp_seen, AreRowsBy, AreRowsOf, listed, standing}
use Rattle.wm_state.specs.Standing.{seen}
use Rattle.wm_state.proofs.Laying.{key_same}

-- ---- stretches are determined by what they hold

abbrev has : ℕ → ℕ → ℕ → Bool
has from till t = nat_le from t && nat_lt t till

-- the first is held from its beginning to its end
pub first-held : (low : ℕ) (s : Stretch) (ss : List Stretch) (t : ℕ) → AreMaximal low (s ∷ ss) → s.from ≤ t → t < s.till → value_at (s ∷ ss) t ≡ Some s.stamp
first-held low s ss t max le lt = rw (value-before t s.till ss lt max.3, within s.from s.till t le lt) refl
  where
    within : (from till t' : ℕ) → from ≤ t' → t' < till → has from till t' ≡ true
    within from till t' le lt = grind (arith, le, lt)

-- behind it what is held is what the others hold
pub behind-held : (s : Stretch) (ss : List Stretch) (t : ℕ) → s.till ≤ t → value_at (s ∷ ss) t ≡ value_at ss t
behind-held s ss t le = rw (past s.from s.till t le) (option_or-none (value_at ss t))
  where
    past : (from till t' : ℕ) → till ≤ t' → has from till t' ≡ false
    past from till t' le = grind (arith, le)

stretch_same : (a b : Stretch) → a.from ≡ b.from → a.till ≡ b.till → a.stamp ≡ b.stamp → a ≡ b
stretch_same a b e f g = ap (λ (k : ℕ). made k a.till a.stamp) e ∙ ap (λ (k : ℕ). made b.from k a.stamp) f ∙ ap (λ (k : ℕ). made b.from b.till k) g
  where
    made : ℕ → ℕ → ℕ → Stretch
    made f t s = record { from = f; till = t; stamp = s }

-- ends that differ: the shorter one's end is held by the other, and not by a neighbour of the shorter one that says the same
end_apart : (a b : Stretch) (xs ys : List Stretch) (low : ℕ) → AreMaximal low (a ∷ xs) → AreMaximal low (b ∷ ys) → a.from ≡ b.from → a.stamp ≡ b.stamp
    → ((t : ℕ) → low ≤ t → value_at (a ∷ xs) t ≡ value_at (b ∷ ys) t) → a.till < b.till → ⊥
end_apart a b [] ys low one two from stamp same lt =
    none_some (value_at (a ∷ []) a.till) b.stamp (behind-held a [] a.till (omega arith)) (same a.till (omega (arith, one.0, one.1)) ∙ first-held low b ys a.till two (omega (arith, one.1, from)) lt)
end_apart a b (c ∷ xs) ys low one two from stamp same lt = by_place (cases_eq a.till c.from)
  where
    at_end : value_at (c ∷ xs) a.till ≡ Some b.stamp
    at_end = sym (behind-held a (c ∷ xs) a.till (omega arith)) ∙ same a.till (omega (arith, one.0, one.1)) ∙ first-held low b ys a.till two (omega (arith, one.1, from)) lt

    by_place : (a.till ≡ c.from) ⊎ (a.till ≢ c.from) → ⊥
    by_place (inl meets) =
        one.2 meets (stamp ∙ same_Some b.stamp c.stamp (sym at_end ∙ first-held a.till c xs a.till one.3 (omega (arith, meets)) (omega (arith, meets, one.3.1))))
    by_place (inr gap) = none_some (value_at (c ∷ xs) a.till) b.stamp (value-before a.till c.from (c ∷ xs) (omega (arith, one.3.0, gap)) (omega arith, one.3.1, one.3.2, one.3.3)) at_end

-- beginnings that differ: the earlier one is held by the other, which begins later
begin_apart : (a b : Stretch) (xs ys : List Stretch) (low : ℕ) → AreMaximal low (a ∷ xs) → AreMaximal low (b ∷ ys) → ((t : ℕ) → low ≤ t → value_at (a ∷ xs) t ≡ value_at (b ∷ ys) t) → a.from < b.from → ⊥
begin_apart a b xs ys low one two same lt =
    none_some (value_at (b ∷ ys) a.from) a.stamp (value-before a.from b.from (b ∷ ys) lt (omega arith, two.1, two.2, two.3)) (sym (same a.from one.0) ∙ first-held low a xs a.from one (omega arith) one.1)

compared : (m n : ℕ) → (m < n) ⊎ ((m ≡ n) ⊎ (n < m))
compared m n = by_test (nat_lt m n) refl (nat_lt n m) refl
  where
    by_test : (a : Bool) → nat_lt m n ≡ a → (b : Bool) → nat_lt n m ≡ b → (m < n) ⊎ ((m ≡ n) ⊎ (n < m))
    by_test true e b f = inl (grind (arith, e))
    by_test false e true f = inr (inr (grind (arith, f)))
    by_test false e false f = inr (inl (grind (arith, e, f)))

pub one_rows : (xs ys : List Stretch) (low : ℕ) → AreMaximal low xs → AreMaximal low ys → ((t : ℕ) → low ≤ t → value_at xs t ≡ value_at ys t) → xs ≡ ys
one_rows [] [] low one two same = refl
one_rows [] (b ∷ ys) low one two same = absurd (none_some (value_at [] b.from) b.stamp refl (same b.from two.0 ∙ first-held low b ys b.from two (omega arith) two.1))
one_rows (a ∷ xs) [] low one two same = absurd (none_some (value_at [] a.from) a.stamp refl (sym (same a.from one.0) ∙ first-held low a xs a.from one (omega arith) one.1))
one_rows (a ∷ xs) (b ∷ ys) low one two same = by_from (compared a.from b.from) (one_rows xs ys)
  where
    turned : (t : ℕ) → low ≤ t → value_at (b ∷ ys) t ≡ value_at (a ∷ xs) t
    turned t le = sym (same t le)

    by_till : a.from ≡ b.from → a.stamp ≡ b.stamp → (a.till < b.till) ⊎ ((a.till ≡ b.till) ⊎ (b.till < a.till))
        → ((low : ℕ) → AreMaximal low xs → AreMaximal low ys → ((t : ℕ) → low ≤ t → value_at xs t ≡ value_at ys t) → xs ≡ ys) → (a ∷ xs) ≡ (b ∷ ys)
    by_till from stamp (inl shorter) rest = absurd (end_apart a b xs ys low one two from stamp same shorter)
    by_till from stamp (inr (inr longer)) rest = absurd (end_apart b a ys xs low two one (sym from) (sym stamp) turned longer)
    by_till from stamp (inr (inl till)) rest =
        ap (λ (s : Stretch). s ∷ xs) (stretch_same a b from till stamp)
        ∙ ap (λ (ss : List Stretch). b ∷ ss) (rest a.till one.3 (by_low (sym till) two.3)
        (λ t le. sym (behind-held a xs t le) ∙ same t (omega (arith, one.0, one.1, le)) ∙ behind-held b ys t (omega (arith, till, le))))
      where
        by_low : b.till ≡ a.till → AreMaximal b.till ys → AreMaximal a.till ys
        by_low e max = rw (sym e) max

    by_from : (a.from < b.from) ⊎ ((a.from ≡ b.from) ⊎ (b.from < a.from))
        → ((low : ℕ) → AreMaximal low xs → AreMaximal low ys → ((t : ℕ) → low ≤ t → value_at xs t ≡ value_at ys t) → xs ≡ ys) → (a ∷ xs) ≡ (b ∷ ys)
    by_from (inl earlier) rest = absurd (begin_apart a b xs ys low one two same earlier)
    by_from (inr (inr later)) rest = absurd (begin_apart b a ys xs low two one turned later)
    by_from (inr (inl from)) rest =
        by_till from
        (same_Some a.stamp b.stamp (sym (first-held low a xs a.from one (omega arith) one.1) ∙ same a.from one.0 ∙ first-held low b ys a.from two (omega (arith, from)) (omega (arith, from, two.1))))
        (compared a.till b.till) rest

-- the rows of a key are those that are held
pub rows_by : (f : Cell → Option Held) (table : ℕ) (key : List Value) (es : List Entry) (ss : List Stretch) → ((t : ℕ) → option_and_then standing (f (record { table = table; key = key; time = t })) ≡ stamp_at es table key t) → AreRowsBy f table key ss
    → ss ≡ rows_of_key es table key
rows_by f table key es ss same are =
    one_rows ss (rows_of_key es table key) 0 are.maximal (AreMaximal-rows es table key) (λ t le. are.held t ∙ same t ∙ sym (value-rows es table key t))

pub rows_of : (p : Parts) (version table : ℕ) (key : List Value) (es : List Entry) (ss : List Stretch) → ((t : ℕ) → stamp_seen p version table key t ≡ stamp_at es table key t) → AreRowsOf p version table key ss → ss ≡ rows_of_key es table key
rows_of p version table key es ss same are = rows_by (seen p version) table key es ss same are

-- ---- keys

less_itself : (k : List Value) → key_order k k ≡ Less → ⊥
less_itself k e = less_apart (sym e ∙ key_order-itself k)
  where
    less_apart : Less ≡ Equal → ⊥
    less_apart e = cc

-- a key before all of these is none of them
pub before-out : (k : List Value) (ks : List (List Value)) → ComesBefore k ks → is_key_in k ks ≡ false
before-out k [] before = refl
before-out k (x ∷ ks) before = by_test (is_eq (key_order x k)) refl (before-out k ks before.1)
  where
    by_test : (b : Bool) → is_eq (key_order x k) ≡ b → is_key_in k ks ≡ false → (b || is_key_in k ks) ≡ false
    by_test true e rest = absurd (less_itself k (ap (key_order k) (sym (key_same x k e)) ∙ before.0))
    by_test false e rest = rest

-- each key that is none of the others lists nothing
abbrev pub Covers : (List Value → List Stretch) → List (List Value) → List (List Value) → Type 0
Covers f [] ys = Unit {0}
Covers f (x ∷ xs) ys = (is_key_in x ys ≡ false → f x ≡ []) × Covers f xs ys

covers-drop : (f : List Value → List Stretch) (y : List Value) (xs ys : List (List Value)) → ComesBefore y xs → Covers f xs (y ∷ ys) → Covers f xs ys
covers-drop f y [] ys before covers = tt
covers-drop f y (x ∷ xs) ys before covers = ((λ out. covers.0 (by_test (is_eq (key_order y x)) refl out)), covers-drop f y xs ys before.1 covers.1)
  where
    by_test : (b : Bool) → is_eq (key_order y x) ≡ b → is_key_in x ys ≡ false → (b || is_key_in x ys) ≡ false
    by_test true e out = absurd (less_itself y (ap (key_order y) (key_same y x e) ∙ before.0))
    by_test false e out = out

nothing_more : (f : List Value → List Stretch) (xs : List (List Value)) → Covers f xs [] → listed f xs ≡ []
nothing_more f [] covers = refl
nothing_more f (x ∷ xs) covers = rw (covers.0 refl) (nothing_more f xs covers.1)

-- two lists of keys that ascend list the same, where a key that is in one alone lists nothing
pub listed_same : (f : List Value → List Stretch) (xs ys : List (List Value)) → KeysAscend xs → KeysAscend ys → Covers f xs ys → Covers f ys xs → listed f xs ≡ listed f ys
listed_same f [] ys one two left right = sym (nothing_more f ys right)
listed_same f (x ∷ xs) [] one two left right = nothing_more f (x ∷ xs) left
listed_same f (x ∷ xs) (y ∷ ys) one two left right = by_order (key_order x y) refl (listed_same f xs (y ∷ ys) one.1 two left.1) (listed_same f (x ∷ xs) ys one two.1) (listed_same f xs ys one.1 two.1)
  where
    turned : key_order x y ≡ Greater → key_order y x ≡ Less
    turned e = key_order_total.antisymm y x ∙ rw e refl

    by_order : (o : Ordering) → key_order x y ≡ o → (Covers f (y ∷ ys) xs → listed f xs ≡ listed f (y ∷ ys)) → (Covers f (x ∷ xs) ys → Covers f ys (x ∷ xs) → listed f (x ∷ xs) ≡ listed f ys)
        → (Covers f xs ys → Covers f ys xs → listed f xs ≡ listed f ys) → listed f (x ∷ xs) ≡ listed f (y ∷ ys)
    by_order Less e skip_x skip_y both =
        let before : ComesBefore x (y ∷ ys) = (e, before-more x y ys e two.0) in
        rw (left.0 (before-out x (y ∷ ys) before)) (skip_x (covers-drop f x (y ∷ ys) xs before right))
    by_order Greater e skip_x skip_y both =
        let before : ComesBefore y (x ∷ xs) = (turned e, before-more y x xs (turned e) one.0) in
        skip_y (covers-drop f y (x ∷ xs) ys before left) right.1 ∙ sym (ap (λ ss. map (λ s. (y, s)) ss ++ listed f ys) (right.0 (before-out y (x ∷ xs) before)))
    by_order Equal e skip_x skip_y both =
        let same : x ≡ y = key_order-equal x y e in
        ap (λ k. map (λ s. (k, s)) (f k) ++ listed f xs) same
        ∙ ap (λ rest. map (λ s. (y, s)) (f y) ++ rest)
        (both (covers-drop f y xs ys (subst (λ k. ComesBefore k xs) same one.0) left.1) (covers-drop f x ys xs (subst (λ k. ComesBefore k ys) (sym same) two.0) right.1))

-- ---- the keys of a list of entries

pub first-listed : (es : List Entry) (table : ℕ) (ks : List (List Value)) → rows_from es table ks ≡ listed (rows_of_key es table) ks
first-listed es table [] = refl
first-listed es table (k ∷ ks) = ap (λ rest. map (λ s. (k, s)) (rows_of_key es table k) ++ rest) (first-listed es table ks)

-- a key that no entry has has no rows
no_cuts : (es : List Entry) (table : ℕ) (k : List Value) → is_key_in k (keys es table) ≡ false → cuts es table k ≡ []
no_cuts [] table k out = refl
no_cuts (e ∷ es) table k out = by_table (e.table == table) refl (no_cuts es table k)
  where
    by_table : (b : Bool) → (e.table == table) ≡ b → (is_key_in k (keys es table) ≡ false → cuts es table k ≡ []) → cuts (e ∷ es) table k ≡ []
    by_table true same rest =
        let h = or_parts (is_eq (key_order e.key k)) (is_key_in k (keys es table)) (sym (key_in-has e.key k (keys es table)) ∙ ap (is_key_in k) (sym (ap (λ b. if b then key_in e.key (keys es table) else keys es table) same)) ∙ out) in
        rw (same, h.0) (rest h.1)
    by_table false other rest = rw other (rest (ap (is_key_in k) (sym (ap (λ b. if b then key_in e.key (keys es table) else keys es table) other)) ∙ out))

pub no_rows_of : (es : List Entry) (table : ℕ) (k : List Value) → is_key_in k (keys es table) ≡ false → rows_of_key es table k ≡ []
no_rows_of es table k out = ap (stretches (stamp_at es table k) 0) (no_cuts es table k out)
