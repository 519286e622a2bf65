-- Pieces that are drawn begin and end where old or new ones do.
use Rattle.std.proofs.Common.{◌≡◌, ℕ, ◌<◌, ◌≤◌, ◌==◌, nat_lt, min, max, Bool, true, false, not, ◌&&◌, ◌||◌, cond, List, [], ◌∷◌, ◌++◌, refl, sym, ap, ◌∙◌, ◌⊎◌, inl, inr, arith}
use Rattle.std.proofs.lemmas.Bool.{cases_lt, eq-eqb, and_from, and_parts, not-true, or_cases, or_left, or_right, true≢false}
use Rattle.std.specs.List.{filter, flat_map, list_all, list_any}
use Rattle.std.specs.Ordering.{is_eq}
use Rattle.wm_base.specs.Key.{key_order}
use Rattle.wm_graph.specs.Rules.{collide}
use Rattle.wm_spec.specs.declared.record.piece.PieceRecord.{PieceRecord}
use Rattle.wm_state.specs.Batches.{is_in}
use Rattle.wm_state.specs.Drawing.{between, part, around, left_by, ends_at, end_with}
use Rattle.wm_state.proofs.Appending.{all_append}
use Rattle.wm_state.proofs.Laying.{key_itself}
use Rattle.wm_state.proofs.Tests.{all_if, all_filter}

-- ---- some of a list

-- what passes a test in the first list passes it in the second
abbrev pub More : {A : Type 0} → List A → List A → Type 0
More {A = A} xs ys = (P : A → Bool) → list_any P xs ≡ true → list_any P ys ≡ true

pub more-front : {A : Type 0} (xs ys : List A) → More xs (xs ++ ys)
more-front [] ys P e = absurd (true≢false (sym e))
more-front (x ∷ xs) ys P e = by_first (or_cases (P x) (list_any P xs) e) (more-front xs ys P)
  where
    by_first : (P x ≡ true) ⊎ (list_any P xs ≡ true) → (list_any P xs ≡ true → list_any P (xs ++ ys) ≡ true) → (P x || list_any P (xs ++ ys)) ≡ true
    by_first (inl h) rest = or_left (P x) (list_any P (xs ++ ys)) h
    by_first (inr h) rest = or_right (P x) (list_any P (xs ++ ys)) (rest h)

pub more-behind : {A : Type 0} (xs ys : List A) → More ys (xs ++ ys)
more-behind [] ys P e = e
more-behind (x ∷ xs) ys P e = or_right (P x) (list_any P (xs ++ ys)) (more-behind xs ys P e)

-- what passes in two lists, one behind the other, passes in one of them
pub any-apart : {A : Type 0} (P : A → Bool) (xs ys : List A) → list_any P (xs ++ ys) ≡ true → (list_any P xs ≡ true) ⊎ (list_any P ys ≡ true)
any-apart P [] ys e = inr e
any-apart P (x ∷ xs) ys e = by_first (or_cases (P x) (list_any P (xs ++ ys)) e) (any-apart P xs ys)
  where
    later : (list_any P xs ≡ true) ⊎ (list_any P ys ≡ true) → ((P x || list_any P xs) ≡ true) ⊎ (list_any P ys ≡ true)
    later (inl h) = inl (or_right (P x) (list_any P xs) h)
    later (inr h) = inr h

    by_first : (P x ≡ true) ⊎ (list_any P (xs ++ ys) ≡ true) → (list_any P (xs ++ ys) ≡ true → (list_any P xs ≡ true) ⊎ (list_any P ys ≡ true)) → ((P x || list_any P xs) ≡ true) ⊎ (list_any P ys ≡ true)
    by_first (inl h) rest = inl (or_left (P x) (list_any P xs) h)
    by_first (inr h) rest = later (rest h)

pub more-both : {A : Type 0} (xs ys zs : List A) → More xs zs → More ys zs → More (xs ++ ys) zs
more-both xs ys zs first second P e = by_part (any-apart P xs ys e)
  where
    by_part : (list_any P xs ≡ true) ⊎ (list_any P ys ≡ true) → list_any P zs ≡ true
    by_part (inl h) = first P h
    by_part (inr h) = second P h

-- one list passes each test that another passes: it has no more than that
pub more-passed : {A : Type 0} (xs ys : List A) → ((P : A → Bool) → list_all P ys ≡ true → list_all P xs ≡ true) → More xs ys
more-passed {A = A} xs ys passed P e = by_any (list_any P ys) refl
  where
    none_passes : (zs : List A) → list_any P zs ≡ false → list_all (λ z. not (P z)) zs ≡ true
    none_passes [] h = refl
    none_passes (z ∷ zs) h = by_test (P z) (list_any P zs) h (none_passes zs)
      where
        by_test : (a b : Bool) → (a || b) ≡ false → (b ≡ false → list_all (λ y. not (P y)) zs ≡ true) → (not a && list_all (λ y. not (P y)) zs) ≡ true
        by_test true b g rest = absurd (true≢false g)
        by_test false b g rest = rest g

    passes_none : (zs : List A) → list_all (λ z. not (P z)) zs ≡ true → list_any P zs ≡ false
    passes_none [] h = refl
    passes_none (z ∷ zs) h = let g = and_parts (not (P z)) (list_all (λ y. not (P y)) zs) h in rw (not-true (P z) g.0, passes_none zs g.1) refl

    by_any : (b : Bool) → list_any P ys ≡ b → list_any P ys ≡ true
    by_any true h = h
    by_any false h = absurd (true≢false (sym e ∙ passes_none xs (passed (λ z. not (P z)) (none_passes ys h))))

-- ---- ends of pieces

-- a piece begins or ends at a moment, and is of the version, table and key of another
abbrev is_end_of : PieceRecord → ℕ → PieceRecord → Bool
is_end_of x moment y = is_in x.version x.cells.table x.cells.key y && ((y.cells.from == moment) || (y.cells.till == moment))

-- a piece begins and ends where some do
abbrev pub has_both : List PieceRecord → PieceRecord → Bool
has_both xs x = ends_at xs x x.cells.from && ends_at xs x x.cells.till

-- more pieces have more ends
pub ends-more : (xs ys drawn : List PieceRecord) → More xs ys → end_with xs drawn ≡ true → end_with ys drawn ≡ true
ends-more xs ys drawn more e =
    all_if (has_both xs) (has_both ys)
    (λ x h. let g = and_parts (ends_at xs x x.cells.from) (ends_at xs x x.cells.till) h in
    and_from (ends_at ys x x.cells.from) (ends_at ys x x.cells.till) (more (is_end_of x x.cells.from) g.0) (more (is_end_of x x.cells.till) g.1))
    drawn e

-- a piece is of its own place
same_place : (x : PieceRecord) → is_in x.version x.cells.table x.cells.key x ≡ true
same_place x =
    and_from (x.version == x.version) ((x.cells.table == x.cells.table) && is_eq (key_order x.cells.key x.cells.key)) (eq-eqb x.version x.version refl)
    (and_from (x.cells.table == x.cells.table) (is_eq (key_order x.cells.key x.cells.key)) (eq-eqb x.cells.table x.cells.table refl) (key_itself x.cells.key))

-- a piece among others ends where they do, at a place of its own or of another
begins_here : (y x : PieceRecord) (xs : List PieceRecord) → More (y ∷ []) xs → is_in x.version x.cells.table x.cells.key y ≡ true → ends_at xs x y.cells.from ≡ true
begins_here y x xs among inside =
    among (is_end_of x y.cells.from) (or_left (is_end_of x y.cells.from y) false
    (and_from (is_in x.version x.cells.table x.cells.key y) _ inside (or_left (y.cells.from == y.cells.from) (y.cells.till == y.cells.from) (eq-eqb y.cells.from y.cells.from refl))))

ends_here : (y x : PieceRecord) (xs : List PieceRecord) → More (y ∷ []) xs → is_in x.version x.cells.table x.cells.key y ≡ true → ends_at xs x y.cells.till ≡ true
ends_here y x xs among inside =
    among (is_end_of x y.cells.till) (or_left (is_end_of x y.cells.till y) false
    (and_from (is_in x.version x.cells.table x.cells.key y) _ inside (or_right (y.cells.from == y.cells.till) (y.cells.till == y.cells.till) (eq-eqb y.cells.till y.cells.till refl))))

one_both : (y : PieceRecord) (xs : List PieceRecord) → More (y ∷ []) xs → has_both xs y ≡ true
one_both y xs among = and_from (ends_at xs y y.cells.from) (ends_at xs y y.cells.till) (begins_here y y xs among (same_place y)) (ends_here y y xs among (same_place y))

-- pieces end where they do
pub ends-of : (ys xs : List PieceRecord) → More ys xs → end_with xs ys ≡ true
ends-of [] xs among = refl
ends-of (y ∷ ys) xs among =
    and_from (has_both xs y) (end_with xs ys) (one_both y xs (λ P e. among P (more-front (y ∷ []) ys P e))) (ends-of ys xs (λ P e. among P (more-behind (y ∷ []) ys P e)))

-- what is drawn for some pieces ends, beside the others, where all or new ones do
pub ends-beside : (keep : PieceRecord → Bool) (xs news drawn : List PieceRecord) → end_with (filter (λ y. not (keep y)) xs ++ news) drawn ≡ true → end_with (xs ++ news) (filter keep xs ++ drawn) ≡ true
ends-beside keep xs news drawn e =
    all_append (has_both (xs ++ news)) (filter keep xs) drawn
    (ends-of (filter keep xs) (xs ++ news) (λ P h. more-front xs news P (more-passed (filter keep xs) xs (λ Q. all_filter Q keep xs) P h)))
    (ends-more (filter (λ y. not (keep y)) xs ++ news) (xs ++ news) drawn
    (more-both (filter (λ y. not (keep y)) xs) news (xs ++ news) (λ P h. more-front xs news P (more-passed (filter (λ y. not (keep y)) xs) xs (λ Q. all_filter Q (λ y. not (keep y)) xs) P h)) (more-behind xs news)) e)

-- ---- a new piece over others

at_min : (P : ℕ → Bool) (a b : ℕ) → P a ≡ true → P b ≡ true → P (min a b) ≡ true
at_min P a b first second = by_order (cases_lt a b)
  where
    by_order : (a < b) ⊎ (b ≤ a) → P (min a b) ≡ true
    by_order (inl lt) = let e : min a b ≡ a = omega (arith, lt) in ap P e ∙ first
    by_order (inr le) = let e : min a b ≡ b = omega (arith, le) in ap P e ∙ second

at_max : (P : ℕ → Bool) (a b : ℕ) → P a ≡ true → P b ≡ true → P (max a b) ≡ true
at_max P a b first second = by_order (cases_lt a b)
  where
    by_order : (a < b) ⊎ (b ≤ a) → P (max a b) ≡ true
    by_order (inl lt) = let e : max a b ≡ b = omega (arith, lt) in ap P e ∙ second
    by_order (inr le) = let e : max a b ≡ a = omega (arith, le) in ap P e ∙ first

part_both : (xs : List PieceRecord) (from till : ℕ) (x : PieceRecord) → ends_at xs x from ≡ true → ends_at xs x till ≡ true → list_all (has_both xs) (part from till x) ≡ true
part_both xs from till x first second = by_test (nat_lt from till)
  where
    by_test : (b : Bool) → list_all (has_both xs) (cond b (between from till x ∷ []) []) ≡ true
    by_test true = and_from (has_both xs (between from till x)) true (and_from (ends_at xs x from) (ends_at xs x till) first second) refl
    by_test false = refl

left_both : (xs : List PieceRecord) (new x : PieceRecord) → More (new ∷ []) xs → has_both xs x ≡ true → list_all (has_both xs) (left_by new x) ≡ true
left_both xs new x among has = by_place (collide new x) refl
  where
    own : (ends_at xs x x.cells.from ≡ true) × (ends_at xs x x.cells.till ≡ true)
    own = and_parts (ends_at xs x x.cells.from) (ends_at xs x x.cells.till) has

    by_place : (b : Bool) → collide new x ≡ b → list_all (has_both xs) (cond b (around new x) (x ∷ [])) ≡ true
    by_place true hit =
        let here = (and_parts (is_in x.version x.cells.table x.cells.key new) (nat_lt new.cells.from x.cells.till && nat_lt x.cells.from new.cells.till) hit).0 in
        all_append (has_both xs) (part x.cells.from (min x.cells.till new.cells.from) x) (part (max x.cells.from new.cells.till) x.cells.till x)
        (part_both xs x.cells.from (min x.cells.till new.cells.from) x own.0 (at_min (ends_at xs x) x.cells.till new.cells.from own.1 (begins_here new x xs among here)))
        (part_both xs (max x.cells.from new.cells.till) x.cells.till x (at_max (ends_at xs x) x.cells.from new.cells.till own.0 (ends_here new x xs among here)) own.1)
    by_place false away = and_from (has_both xs x) true has refl

-- what is left of pieces beside the new one ends where these or it do
pub ends-over : (xs : List PieceRecord) (new : PieceRecord) (drawn : List PieceRecord) → More (new ∷ []) xs → end_with xs drawn ≡ true → end_with xs (new ∷ flat_map (left_by new) drawn) ≡ true
ends-over xs new drawn among e = and_from (has_both xs new) (end_with xs (flat_map (left_by new) drawn)) (one_both new xs among) (over drawn e)
  where
    over : (ys : List PieceRecord) → list_all (has_both xs) ys ≡ true → list_all (has_both xs) (flat_map (left_by new) ys) ≡ true
    over [] h = refl
    over (y ∷ ys) h =
        let g = and_parts (has_both xs y) (list_all (has_both xs) ys) h in all_append (has_both xs) (left_by new y) (flat_map (left_by new) ys) (left_both xs new y among g.0) (over ys g.1)
