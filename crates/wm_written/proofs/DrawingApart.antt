-- No two pieces collide with a new one over them.
use Rattle.std.proofs.Common.{◌≡◌, ℕ, ◌<◌, ◌≤◌, ◌==◌, nat_lt, min, max, Bool, true, false, not, ◌&&◌, cond, List, [], ◌∷◌, ◌++◌, refl, ap, arith, le_refl}
use Rattle.std.proofs.lemmas.Bool.{and_from, and_parts, ltb-true, not-true, or_parts}
use Rattle.std.proofs.Math.Nat.{le-max_left}
use Rattle.std.specs.List.{flat_map, list_all, list_any}
use Rattle.std.specs.Ordering.{is_eq}
use Rattle.wm_base.specs.Key.{key_order}
use Rattle.wm_graph.specs.Rules.{differ, collide}
use Rattle.wm_spec.specs.declared.record.piece.PieceRecord.{PieceRecord}
use Rattle.wm_state.specs.Drawing.{between, part, around, left_by, has_moments, PassesParts}
use Rattle.wm_state.proofs.Appending.{all_append, any_append, differ_append}

-- two pieces are of one version, table and key
abbrev at_one_place : PieceRecord → PieceRecord → Bool
at_one_place x y = (x.version == y.version) && ((x.cells.table == y.cells.table) && is_eq (key_order x.cells.key y.cells.key))

-- ---- a part collides with nothing that its piece does not

fewer : (s : Bool) (from till less more f u : ℕ) → from ≤ less → more ≤ till → (s && (nat_lt from u && nat_lt f till)) ≡ false → (s && (nat_lt less u && nat_lt f more)) ≡ false
fewer false from till less more f u a b e = refl
fewer true from till less more f u a b e = grind (arith, a, b, e)

fewer_behind : (s : Bool) (from till less more f u : ℕ) → from ≤ less → more ≤ till → (s && (nat_lt f till && nat_lt from u)) ≡ false → (s && (nat_lt f more && nat_lt less u)) ≡ false
fewer_behind false from till less more f u a b e = refl
fewer_behind true from till less more f u a b e = grind (arith, a, b, e)

part_apart : (x y : PieceRecord) (from till : ℕ) → x.cells.from ≤ from → till ≤ x.cells.till → collide x y ≡ false → collide (between from till x) y ≡ false
part_apart x y from till after before apart = fewer (at_one_place x y) x.cells.from x.cells.till from till y.cells.from y.cells.till after before apart

apart_part : (y x : PieceRecord) (from till : ℕ) → x.cells.from ≤ from → till ≤ x.cells.till → collide y x ≡ false → collide y (between from till x) ≡ false
apart_part y x from till after before apart = fewer_behind (at_one_place y x) x.cells.from x.cells.till from till y.cells.from y.cells.till after before apart

pub part_apart_all : (x : PieceRecord) (from till : ℕ) → x.cells.from ≤ from → till ≤ x.cells.till → (ys : List PieceRecord) → list_any (collide x) ys ≡ false → list_any (collide (between from till x)) ys ≡ false
part_apart_all x from till after before [] apart = refl
part_apart_all x from till after before (y ∷ ys) apart =
    let h = or_parts (collide x y) (list_any (collide x) ys) apart in
    rw (part_apart x y from till after before h.0, part_apart_all x from till after before ys h.1) refl

-- ---- tests over what is left of a piece

-- the ends of the two parts are between those of the piece
first_end : (till over : ℕ) → min till over ≤ till
first_end till over = omega arith

none_part : (P : PieceRecord → Bool) (from till : ℕ) (x : PieceRecord) → P (between from till x) ≡ false → list_any P (part from till x) ≡ false
none_part P from till x apart = by_test (nat_lt from till)
  where
    by_test : (b : Bool) → list_any P (cond b (between from till x ∷ []) []) ≡ false
    by_test true = rw apart refl
    by_test false = refl

all_part : (P : PieceRecord → Bool) (from till : ℕ) (x : PieceRecord) → (from < till → P (between from till x) ≡ true) → list_all P (part from till x) ≡ true
all_part P from till x passes = by_test (nat_lt from till) refl
  where
    by_test : (b : Bool) → nat_lt from till ≡ b → list_all P (cond b (between from till x ∷ []) []) ≡ true
    by_test true e = rw (passes (ltb-true from till e)) refl
    by_test false e = refl

-- what passes with all its parts passes where a new piece is over it
pub all_left : (P : PieceRecord → Bool) (new x : PieceRecord) → P x ≡ true → ((from till : ℕ) → x.cells.from ≤ from → from < till → till ≤ x.cells.till → P (between from till x) ≡ true) → list_all P (left_by new x) ≡ true
all_left P new x whole parts = by_place (collide new x)
  where
    by_place : (b : Bool) → list_all P (cond b (around new x) (x ∷ [])) ≡ true
    by_place true =
        all_append P (part x.cells.from (min x.cells.till new.cells.from) x) (part (max x.cells.from new.cells.till) x.cells.till x)
        (all_part P x.cells.from (min x.cells.till new.cells.from) x (λ some. parts x.cells.from (min x.cells.till new.cells.from) (le_refl x.cells.from) some (first_end x.cells.till new.cells.from)))
        (all_part P (max x.cells.from new.cells.till) x.cells.till x (λ some. parts (max x.cells.from new.cells.till) x.cells.till (le-max_left x.cells.from new.cells.till) some (le_refl x.cells.till)))
    by_place false = and_from (P x) true whole refl

pub all_over : (P : PieceRecord → Bool) (new : PieceRecord) → PassesParts P → (xs : List PieceRecord) → list_all P xs ≡ true → list_all P (flat_map (left_by new) xs) ≡ true
all_over P new parts [] passed = refl
all_over P new parts (x ∷ xs) passed =
    let h = and_parts (P x) (list_all P xs) passed in
    all_append P (left_by new x) (flat_map (left_by new) xs) (all_left P new x h.0 (λ from till after some before. parts x from till h.0 after some before)) (all_over P new parts xs h.1)

-- ---- what is left collides with nothing that the pieces did not

apart_left : (y new x : PieceRecord) → collide y x ≡ false → list_any (collide y) (left_by new x) ≡ false
apart_left y new x apart = by_place (collide new x)
  where
    by_place : (b : Bool) → list_any (collide y) (cond b (around new x) (x ∷ [])) ≡ false
    by_place true =
        any_append (collide y) (part x.cells.from (min x.cells.till new.cells.from) x) (part (max x.cells.from new.cells.till) x.cells.till x)
        (none_part (collide y) x.cells.from (min x.cells.till new.cells.from) x (apart_part y x x.cells.from (min x.cells.till new.cells.from) (le_refl x.cells.from) (first_end x.cells.till new.cells.from) apart))
        (none_part (collide y) (max x.cells.from new.cells.till) x.cells.till x (apart_part y x (max x.cells.from new.cells.till) x.cells.till (le-max_left x.cells.from new.cells.till) (le_refl x.cells.till) apart))
    by_place false = rw apart refl

apart_over : (y new : PieceRecord) (xs : List PieceRecord) → list_any (collide y) xs ≡ false → list_any (collide y) (flat_map (left_by new) xs) ≡ false
apart_over y new [] apart = refl
apart_over y new (x ∷ xs) apart =
    let h = or_parts (collide y x) (list_any (collide y) xs) apart in any_append (collide y) (left_by new x) (flat_map (left_by new) xs) (apart_left y new x h.0) (apart_over y new xs h.1)

-- ---- the two parts of a piece, and the new piece between them

-- the first part ends where the new piece begins, or before, and the last one begins where it ends, or behind
parts_apart : (s : Bool) (from till over_from over_till : ℕ) → over_from < over_till → (s && (nat_lt from till && nat_lt (max from over_till) (min till over_from))) ≡ false
parts_apart false from till over_from over_till lasts = refl
parts_apart true from till over_from over_till lasts = grind (arith, lasts)

first_apart : (s b : Bool) (till over_from : ℕ) → (s && (nat_lt over_from (min till over_from) && b)) ≡ false
first_apart false b till over_from = refl
first_apart true b till over_from = grind arith

last_apart : (s b : Bool) (from over_till : ℕ) → (s && (b && nat_lt (max from over_till) over_till)) ≡ false
last_apart false b from over_till = refl
last_apart true false from over_till = refl
last_apart true true from over_till = grind arith

differ_left : (new x : PieceRecord) → has_moments new ≡ true → differ collide (left_by new x) ≡ true
differ_left new x lasts = by_place (collide new x)
  where
    by_parts : (a b : Bool) → differ collide (cond a (between x.cells.from (min x.cells.till new.cells.from) x ∷ []) [] ++ cond b (between (max x.cells.from new.cells.till) x.cells.till x ∷ []) []) ≡ true
    by_parts true true = rw (parts_apart (at_one_place x x) x.cells.from x.cells.till new.cells.from new.cells.till (ltb-true new.cells.from new.cells.till lasts)) refl
    by_parts true false = refl
    by_parts false true = refl
    by_parts false false = refl

    by_place : (b : Bool) → differ collide (cond b (around new x) (x ∷ [])) ≡ true
    by_place true = by_parts (nat_lt x.cells.from (min x.cells.till new.cells.from)) (nat_lt (max x.cells.from new.cells.till) x.cells.till)
    by_place false = refl

pub new_apart : (new : PieceRecord) (xs : List PieceRecord) → list_any (collide new) (flat_map (left_by new) xs) ≡ false
new_apart new [] = refl
new_apart new (x ∷ xs) = any_append (collide new) (left_by new x) (flat_map (left_by new) xs) (by_place (collide new x) refl) (new_apart new xs)
  where
    by_place : (b : Bool) → collide new x ≡ b → list_any (collide new) (cond b (around new x) (x ∷ [])) ≡ false
    by_place true e =
        any_append (collide new) (part x.cells.from (min x.cells.till new.cells.from) x) (part (max x.cells.from new.cells.till) x.cells.till x)
        (none_part (collide new) x.cells.from (min x.cells.till new.cells.from) x (first_apart (at_one_place new x) (nat_lt x.cells.from new.cells.till) x.cells.till new.cells.from))
        (none_part (collide new) (max x.cells.from new.cells.till) x.cells.till x (last_apart (at_one_place new x) (nat_lt new.cells.from x.cells.till) x.cells.from new.cells.till))
    by_place false e = rw e refl

differ_over : (new : PieceRecord) → has_moments new ≡ true → (xs : List PieceRecord) → differ collide xs ≡ true → differ collide (flat_map (left_by new) xs) ≡ true
differ_over new lasts [] apart = refl
differ_over new lasts (x ∷ xs) apart =
    let h = and_parts (not (list_any (collide x) xs)) (differ collide xs) apart in
    let free = not-true (list_any (collide x) xs) h.0 in
    differ_append collide (left_by new x) (flat_map (left_by new) xs) (differ_left new x lasts) (differ_over new lasts xs h.1)
    (all_left (λ p. not (list_any (collide p) (flat_map (left_by new) xs))) new x (ap not (apart_over x new xs free))
    (λ from till after some before. ap not (apart_over (between from till x) new xs (part_apart_all x from till after before xs free))))

-- no two collide with a new piece over them, where none did before
pub over_differ : (new : PieceRecord) → has_moments new ≡ true → (xs : List PieceRecord) → differ collide xs ≡ true → differ collide (new ∷ flat_map (left_by new) xs) ≡ true
over_differ new lasts xs apart = and_from (not (list_any (collide new) (flat_map (left_by new) xs))) (differ collide (flat_map (left_by new) xs)) (ap not (new_apart new xs)) (differ_over new lasts xs apart)
