-- Pieces that new ones touch, and those that are clear of them.
use Rattle.std.proofs.Common.{◌≡◌, ℕ, ◌==◌, nat_lt, nat_le, Bool, true, false, not, ◌&&◌, ◌||◌, cond, List, [], ◌∷◌, ◌++◌, Option, None, refl, sym, ap, ◌∙◌, ◌⊎◌, inl, inr, arith}
use Rattle.std.proofs.lemmas.Bool.{eq-eqb, eqb-true, and_from, and_parts, not-true, or_from, or_left, or_parts, or_right, true≢false}
use Rattle.std.specs.Bool.{then_some}
use Rattle.std.specs.List.{filter, list_all, list_any}
use Rattle.std.specs.Option.{option_or}
use Rattle.std.specs.Ordering.{is_eq}
use Rattle.wm_base.specs.Key.{key_order}
use Rattle.wm_base.specs.declared.value.Value.{Value}
use Rattle.wm_graph.specs.Rules.{differ, collide}
use Rattle.wm_period.specs.Pieces.{Held}
use Rattle.wm_spec.specs.Lists.{Cell}
use Rattle.wm_spec.specs.declared.record.piece.PieceRecord.{PieceRecord}
use Rattle.wm_state.specs.Batches.{is_in}
use Rattle.wm_state.specs.Drawing.{is_clear, stored_last, touched}
use Rattle.wm_state.specs.Standing.{covers_at, held_by, stored_at}
use Rattle.wm_state.proofs.Appending.{all_append, all_kept}
use Rattle.wm_written.proofs.DrawingHeld.{met_there, place_of, turned}
use Rattle.wm_state.proofs.Laying.{false_if, key_itself, key_same, stored-append}
use Rattle.wm_state.proofs.Tests.{all_if, any_filter, none_if}

abbrev nothing : Option Held
nothing = None

-- ---- two pieces

-- two that collide do so either way round
met-turned : (x y : PieceRecord) → collide x y ≡ true → collide y x ≡ true
met-turned x y hit =
    let h = and_parts ((x.version == y.version) && ((x.cells.table == y.cells.table) && is_eq (key_order x.cells.key y.cells.key))) (nat_lt x.cells.from y.cells.till && nat_lt y.cells.from x.cells.till) hit in
    let t = and_parts (nat_lt x.cells.from y.cells.till) (nat_lt y.cells.from x.cells.till) h.1 in
    and_from ((y.version == x.version) && ((y.cells.table == x.cells.table) && is_eq (key_order y.cells.key x.cells.key))) (nat_lt y.cells.from x.cells.till && nat_lt x.cells.from y.cells.till) (turned y x h.0)
    (and_from (nat_lt y.cells.from x.cells.till) (nat_lt x.cells.from y.cells.till) t.1 t.0)

apart-turned : (x y : PieceRecord) → collide x y ≡ false → collide y x ≡ false
apart-turned x y apart = false_if (collide y x) (λ hit. true≢false (sym (met-turned y x hit) ∙ apart))

-- and are of one version, table and key
pub met-place : (x y : PieceRecord) → collide x y ≡ true → (version table : ℕ) (key : List Value) → is_in version table key y ≡ is_in version table key x
met-place x y hit version table key = place_of x.version x.cells.table x.cells.key y (met_there x y hit) version table key

pub met-same : (x y : PieceRecord) → collide x y ≡ true → (x.version ≡ y.version) × ((x.cells.table ≡ y.cells.table) × (x.cells.key ≡ y.cells.key))
met-same x y hit =
    let h = and_parts ((x.version == y.version) && ((x.cells.table == y.cells.table) && is_eq (key_order x.cells.key y.cells.key))) (nat_lt x.cells.from y.cells.till && nat_lt y.cells.from x.cells.till) hit in
    let g = and_parts (x.version == y.version) ((x.cells.table == y.cells.table) && is_eq (key_order x.cells.key y.cells.key)) h.0 in
    let k = and_parts (x.cells.table == y.cells.table) (is_eq (key_order x.cells.key y.cells.key)) g.1 in
    (eqb-true x.version y.version g.0, (eqb-true x.cells.table y.cells.table k.0, key_same x.cells.key y.cells.key k.1))

-- two that cover one cell of a version collide
covers-meet : (x y : PieceRecord) (w : ℕ) (c : Cell) → covers_at x w c ≡ true → covers_at y w c ≡ true → collide x y ≡ true
covers-meet x y w c one two =
    let h = and_parts (x.version == w) _ one in
    let g = and_parts ((x.cells.table == c.table) && is_eq (key_order x.cells.key c.key)) (nat_le x.cells.from c.time && nat_lt c.time x.cells.till) h.1 in
    let k = and_parts (x.cells.table == c.table) (is_eq (key_order x.cells.key c.key)) g.0 in
    let m = and_parts (y.version == w) _ two in
    let n = and_parts ((y.cells.table == c.table) && is_eq (key_order y.cells.key c.key)) (nat_le y.cells.from c.time && nat_lt c.time y.cells.till) m.1 in
    let o = and_parts (y.cells.table == c.table) (is_eq (key_order y.cells.key c.key)) n.0 in
    and_from ((x.version == y.version) && ((x.cells.table == y.cells.table) && is_eq (key_order x.cells.key y.cells.key))) (nat_lt x.cells.from y.cells.till && nat_lt y.cells.from x.cells.till)
    (and_from (x.version == y.version) _ (eq-eqb x.version y.version (eqb-true x.version w h.0 ∙ sym (eqb-true y.version w m.0)))
    (and_from (x.cells.table == y.cells.table) (is_eq (key_order x.cells.key y.cells.key)) (eq-eqb x.cells.table y.cells.table (eqb-true x.cells.table c.table k.0 ∙ sym (eqb-true y.cells.table c.table o.0)))
    (sym (ap (λ (l : List Value). is_eq (key_order x.cells.key l)) (key_same x.cells.key c.key k.1 ∙ sym (key_same y.cells.key c.key o.1))) ∙ key_itself x.cells.key)))
    (meet x.cells.from x.cells.till y.cells.from y.cells.till c.time g.1 n.1)
  where
    meet : (f u g v t : ℕ) → (nat_le f t && nat_lt t u) ≡ true → (nat_le g t && nat_lt t v) ≡ true → (nat_lt f v && nat_lt g u) ≡ true
    meet f u g v t a b = grind (arith, a, b)

-- ---- tests

-- what passes with more passes with fewer
all_fewer : {A : Type 0} (test P Q : A → Bool) → ((x : A) → P x ≡ true → Q x ≡ true) → (xs : List A) → list_all test (filter Q xs) ≡ true → list_all test (filter P xs) ≡ true
all_fewer test P Q to [] all = refl
all_fewer {A = A} test P Q to (x ∷ xs) all = by_tests (P x) (Q x) (to x) all (all_fewer test P Q to xs)
  where
    by_tests : (p q : Bool) → (p ≡ true → q ≡ true) → list_all test (cond q (x ∷ filter Q xs) (filter Q xs)) ≡ true
        → (list_all test (filter Q xs) ≡ true → list_all test (filter P xs) ≡ true) → list_all test (cond p (x ∷ filter P xs) (filter P xs)) ≡ true
    by_tests true true so passed rest = let h = and_parts (test x) (list_all test (filter Q xs)) passed in and_from (test x) (list_all test (filter P xs)) h.0 (rest h.1)
    by_tests true false so passed rest = absurd (true≢false (sym (so refl)))
    by_tests false true so passed rest = rest (and_parts (test x) (list_all test (filter Q xs)) passed).1
    by_tests false false so passed rest = rest passed

-- all pass a test that follows from two that all pass
all_both : {A : Type 0} (P Q R : A → Bool) → ((x : A) → P x ≡ true → Q x ≡ true → R x ≡ true) → (xs : List A) → list_all P xs ≡ true → list_all Q xs ≡ true → list_all R xs ≡ true
all_both P Q R to [] one two = refl
all_both P Q R to (x ∷ xs) one two =
    let h = and_parts (P x) (list_all P xs) one in
    let g = and_parts (Q x) (list_all Q xs) two in
    and_from (R x) (list_all R xs) (to x h.0 g.0) (all_both P Q R to xs h.1 g.1)

none_all : {A : Type 0} (P : A → Bool) (xs : List A) → list_any P xs ≡ false → list_all (λ x. not (P x)) xs ≡ true
none_all P [] none = refl
none_all P (x ∷ xs) none = let h = or_parts (P x) (list_any P xs) none in and_from (not (P x)) (list_all (λ y. not (P y)) xs) (ap not h.0) (none_all P xs h.1)

-- ---- pieces that are clear of others

-- a piece is clear of new pieces, one behind the other, where it is so of both
pub clear-append : (news more : List PieceRecord) (y : PieceRecord) → is_clear (news ++ more) y ≡ (is_clear news y && is_clear more y)
clear-append [] more y = refl
clear-append (n ∷ ns) more y = ap (λ b. not (collide n y) && b) (clear-append ns more y) ∙ sym (and_assoc (not (collide n y)) (is_clear ns y) (is_clear more y))
  where
    and_assoc : (a b d : Bool) → ((a && b) && d) ≡ (a && (b && d))
    and_assoc true b d = refl
    and_assoc false b d = refl

-- a piece that is touched passes what new pieces pass and hand on to those that they touch
pub touched-passes : (P : PieceRecord → Bool) → ((n y : PieceRecord) → collide n y ≡ true → P n ≡ true → P y ≡ true) → (news : List PieceRecord) → list_all P news ≡ true → (y : PieceRecord) → is_clear news y ≡ false → P y ≡ true
touched-passes P to [] all y reached = absurd (true≢false reached)
touched-passes P to (n ∷ ns) all y reached = let h = and_parts (P n) (list_all P ns) all in by_test (collide n y) refl h.0 (touched-passes P to ns h.1 y)
  where
    by_test : (b : Bool) → collide n y ≡ b → P n ≡ true → (is_clear ns y ≡ false → P y ≡ true) → P y ≡ true
    by_test true hit own rest = to n y hit own
    by_test false apart own rest = rest (sym (ap (λ b. not b && is_clear ns y) apart) ∙ reached)

pub touched-all : (P : PieceRecord → Bool) → ((n y : PieceRecord) → collide n y ≡ true → P n ≡ true → P y ≡ true) → (news : List PieceRecord) → list_all P news ≡ true → (xs : List PieceRecord) → list_all P (touched news xs) ≡ true
touched-all P to news all xs = all_kept P (λ y. not (is_clear news y)) (λ y reached. touched-passes P to news all y (not-true (is_clear news y) reached)) xs

-- a piece that covers a cell and is clear of new ones is not covered by them there
last-clear : (news : List PieceRecord) (y : PieceRecord) (w : ℕ) (c : Cell) → covers_at y w c ≡ true → is_clear news y ≡ true → stored_last news w c ≡ nothing
last-clear [] y w c covered clear = refl
last-clear (n ∷ ns) y w c covered clear =
    let h = and_parts (not (collide n y)) (is_clear ns y) clear in
    rw (last-clear ns y w c covered h.1, false_if (covers_at n w c) (λ also. true≢false (sym (covers-meet n y w c also covered) ∙ not-true (collide n y) h.0))) refl

-- so at a cell only the new ones say something, or only those that are clear of them
pub clear-held : (news xs : List PieceRecord) (w : ℕ) (c : Cell) → (stored_last news w c ≡ nothing) ⊎ (stored_at (filter (is_clear news) xs) w c ≡ nothing)
clear-held news [] w c = inr refl
clear-held news (x ∷ xs) w c = by_tests (is_clear news x) (covers_at x w c) refl refl (clear-held news xs w c)
  where
    by_tests : (b d : Bool) → is_clear news x ≡ b → covers_at x w c ≡ d → (stored_last news w c ≡ nothing) ⊎ (stored_at (filter (is_clear news) xs) w c ≡ nothing)
        → (stored_last news w c ≡ nothing) ⊎ (stored_at (cond b (x ∷ filter (is_clear news) xs) (filter (is_clear news) xs)) w c ≡ nothing)
    by_tests true true clear covered rest = inl (last-clear news x w c covered clear)
    by_tests true false clear away (inl none) = inl none
    by_tests true false clear away (inr none) = inr (rw (away, none) refl)
    by_tests false d reached covered rest = rest

-- ---- pieces of which no two collide

-- no piece of one list collides with one of the other
abbrev pub AreApart : List PieceRecord → List PieceRecord → Type 0
AreApart xs ys = list_all (λ x. not (list_any (collide x) ys)) xs ≡ true

pub are-turned : (xs ys : List PieceRecord) → AreApart xs ys → AreApart ys xs
are-turned [] ys apart = none_there ys
  where
    none_there : (zs : List PieceRecord) → list_all (λ z. not (list_any (collide z) [])) zs ≡ true
    none_there [] = refl
    none_there (z ∷ zs) = none_there zs
are-turned (x ∷ xs) ys apart =
    let h = and_parts (not (list_any (collide x) ys)) (list_all (λ z. not (list_any (collide z) ys)) xs) apart in
    all_both (λ y. not (collide x y)) (λ y. not (list_any (collide y) xs)) (λ y. not (list_any (collide y) (x ∷ xs)))
    (λ y one rest. ap not (or_from (collide y x) (list_any (collide y) xs) (apart-turned x y (not-true (collide x y) one)) (not-true (list_any (collide y) xs) rest)))
    ys (none_all (collide x) ys (not-true (list_any (collide x) ys) h.0)) (are-turned xs ys h.1)

-- new pieces do not collide with those that are clear of them
pub clear-apart : (news xs : List PieceRecord) → list_all (is_clear news) xs ≡ true → AreApart news xs
clear-apart [] xs clear = refl
clear-apart (n ∷ ns) xs clear =
    and_from (not (list_any (collide n) xs)) (list_all (λ x. not (list_any (collide x) xs)) ns)
    (ap not (none_if (is_clear (n ∷ ns)) (collide n) (λ y all. not-true (collide n y) (and_parts (not (collide n y)) (is_clear ns y) all).0) xs clear))
    (clear-apart ns xs (all_if (is_clear (n ∷ ns)) (is_clear ns) (λ y all. (and_parts (not (collide n y)) (is_clear ns y) all).1) xs clear))

-- nor do those of them that pass a test with those that fail it
pub filters-apart : (P Q : PieceRecord → Bool) → ((x : PieceRecord) → P x ≡ true → Q x ≡ true → ⊥) → (xs : List PieceRecord) → differ collide xs ≡ true → AreApart (filter P xs) (filter Q xs)
filters-apart P Q not_both [] apart = refl
filters-apart P Q not_both (x ∷ xs) apart =
    let h = and_parts (not (list_any (collide x) xs)) (differ collide xs) apart in
    by_tests (P x) (Q x) refl refl (not-true (list_any (collide x) xs) h.0) (filters-apart P Q not_both xs h.1)
  where
    by_tests : (p q : Bool) → P x ≡ p → Q x ≡ q → list_any (collide x) xs ≡ false → AreApart (filter P xs) (filter Q xs) → AreApart (cond p (x ∷ filter P xs) (filter P xs)) (cond q (x ∷ filter Q xs) (filter Q xs))
    by_tests true true one two free rest = absurd (not_both x one two)
    by_tests true false one two free rest =
        and_from (not (list_any (collide x) (filter Q xs))) (list_all (λ y. not (list_any (collide y) (filter Q xs))) (filter P xs)) (ap not (any_filter (collide x) Q xs free)) rest
    by_tests false true one two free rest =
        all_both (λ y. not (collide x y)) (λ y. not (list_any (collide y) (filter Q xs))) (λ y. not (list_any (collide y) (x ∷ filter Q xs)))
        (λ y own others. ap not (or_from (collide y x) (list_any (collide y) (filter Q xs)) (apart-turned x y (not-true (collide x y) own)) (not-true (list_any (collide y) (filter Q xs)) others)))
        (filter P xs) (none_all (collide x) (filter P xs) (any_filter (collide x) P xs free)) rest
    by_tests false false one two free rest = rest

-- ---- what some of them hold

-- where one covers a cell, no other does
pub only-one : (x : PieceRecord) (w : ℕ) (c : Cell) → covers_at x w c ≡ true → (ys : List PieceRecord) → list_any (collide x) ys ≡ false → stored_at ys w c ≡ nothing
only-one x w c covered [] free = refl
only-one x w c covered (y ∷ ys) free =
    let h = or_parts (collide x y) (list_any (collide x) ys) free in
    rw (false_if (covers_at y w c) (λ also. true≢false (sym (covers-meet x y w c covered also) ∙ h.0)), only-one x w c covered ys h.1) refl

-- those that pass one of two tests hold what those of the first and those of the second do
parted-held : (P Q R : PieceRecord → Bool) → ((x : PieceRecord) → R x ≡ (P x || Q x)) → (w : ℕ) (c : Cell) (xs : List PieceRecord) → differ collide xs ≡ true
    → option_or (stored_at (filter P xs) w c) (stored_at (filter Q xs) w c) ≡ stored_at (filter R xs) w c
parted-held P Q R either w c [] apart = refl
parted-held P Q R either w c (x ∷ xs) apart =
    let h = and_parts (not (list_any (collide x) xs)) (differ collide xs) apart in
    ap (λ o. option_or o (stored_at (filter Q (x ∷ xs)) w c)) (first (P x) (filter P xs))
    ∙ ap (option_or (option_or (then_some (P x && covers_at x w c) (held_by x)) (stored_at (filter P xs) w c))) (first (Q x) (filter Q xs))
    ∙ step (P x) (Q x) (covers_at x w c) (held_by x) (stored_at (filter P xs) w c) (stored_at (filter Q xs) w c) (stored_at (filter R xs) w c)
    (λ covered. only-one x w c covered (filter P xs) (any_filter (collide x) P xs (not-true (list_any (collide x) xs) h.0))) (parted-held P Q R either w c xs h.1)
    ∙ ap (λ b. option_or (then_some (b && covers_at x w c) (held_by x)) (stored_at (filter R xs) w c)) (sym (either x))
    ∙ sym (first (R x) (filter R xs))
  where
    first : (b : Bool) (ys : List PieceRecord) → stored_at (cond b (x ∷ ys) ys) w c ≡ option_or (then_some (b && covers_at x w c) (held_by x)) (stored_at ys w c)
    first true ys = refl
    first false ys = refl

    step : (p q v : Bool) (h : Held) (a b r : Option Held) → (v ≡ true → a ≡ nothing) → option_or a b ≡ r
        → option_or (option_or (then_some (p && v) h) a) (option_or (then_some (q && v) h) b) ≡ option_or (then_some ((p || q) && v) h) r
    step true q true h a b r none is = refl
    step true true false h a b r none is = is
    step true false false h a b r none is = is
    step false true true h a b r none is = rw (none refl) refl
    step false true false h a b r none is = is
    step false false v h a b r none is = is

pub either-held : (P Q R : PieceRecord → Bool) → ((x : PieceRecord) → R x ≡ (P x || Q x)) → (xs : List PieceRecord) → differ collide xs ≡ true → (w : ℕ) (c : Cell)
    → stored_at (filter P xs ++ filter Q xs) w c ≡ stored_at (filter R xs) w c
either-held P Q R either xs apart w c = stored-append (filter P xs) (filter Q xs) w c ∙ parted-held P Q R either w c xs apart

-- and pass each test that those do
pub either-pass : (P Q R : PieceRecord → Bool) → ((x : PieceRecord) → R x ≡ (P x || Q x)) → (xs : List PieceRecord) (test : PieceRecord → Bool) → list_all test (filter R xs) ≡ true → list_all test (filter P xs ++ filter Q xs) ≡ true
either-pass P Q R either xs test all =
    all_append test (filter P xs) (filter Q xs) (all_fewer test P R (λ x is. either x ∙ or_left (P x) (Q x) is) xs all) (all_fewer test Q R (λ x is. either x ∙ or_right (P x) (Q x) is) xs all)

-- pieces that pass a test and those that fail it hold what all do
pub all-held : (P : PieceRecord → Bool) (xs : List PieceRecord) → differ collide xs ≡ true → (w : ℕ) (c : Cell) → option_or (stored_at (filter P xs) w c) (stored_at (filter (λ x. not (P x)) xs) w c) ≡ stored_at xs w c
all-held P xs apart w c = parted-held P (λ x. not (P x)) (λ x. true) (λ x. either (P x)) w c xs apart ∙ ap (λ ys. stored_at ys w c) (all_of xs)
  where
    either : (b : Bool) → true ≡ (b || not b)
    either true = refl
    either false = refl

    all_of : (ys : List PieceRecord) → filter (λ x. true) ys ≡ ys
    all_of [] = refl
    all_of (y ∷ ys) = ap (λ zs. y ∷ zs) (all_of ys)
