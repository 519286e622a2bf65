-- How many pieces are drawn: a new one splits at most one of those that it comes over.
use Rattle.std.proofs.Common.{◌≡◌, ℕ, ◌+◌, ◌≤◌, ◌==◌, nat_lt, min, max, Bool, true, false, not, ◌&&◌, cond, List, [], ◌∷◌, ◌++◌, length, Option, None, Some, refl, sym, ◌∙◌, arith}
use Rattle.std.proofs.lemmas.Bool.{eq-eqb, and_from, and_parts, not-true, or_parts, true≢false}
use Rattle.std.proofs.lemmas.List.{length-append}
use Rattle.std.proofs.lemmas.List.Folds.{list_any-append}
use Rattle.std.specs.List.{cons_option, filter_map, flat_map, list_any}
use Rattle.std.specs.Ordering.{is_eq}
use Rattle.wm_base.specs.Key.{key_order}
use Rattle.wm_graph.specs.Rules.{differ, collide}
use Rattle.wm_spec.specs.Records.{record_at}
use Rattle.wm_spec.specs.declared.record.piece.PieceRecord.{PieceRecord}
use Rattle.wm_spec.specs.declared.record.stored.Stored.{Stored}
use Rattle.wm_state.specs.Batches.{is_in}
use Rattle.wm_state.specs.Drawing.{around, between, left_by}
use Rattle.wm_state.proofs.Laying.{key_itself}
use Rattle.wm_written.proofs.Touched.{met-place}
use Rattle.wm_append.specs.Redraw.{AreFew}
use Rattle.wm_append.specs.Views.{View}
use Rattle.wm_index.specs.Kinds.{kind_at}

-- ---- two pieces with a part before the new one

-- the piece has a moment before the new one
abbrev is_before : PieceRecord → PieceRecord → Bool
is_before new x = nat_lt x.cells.from (min x.cells.till new.cells.from)

-- what it has there
abbrev before : PieceRecord → PieceRecord → PieceRecord
before new x = between x.cells.from (min x.cells.till new.cells.from) x

-- two that the new one meets are of one place
one_place : (new x y : PieceRecord) → collide new x ≡ true → collide new y ≡ true → is_in y.version y.cells.table y.cells.key x ≡ true
one_place new x y meets_x meets_y =
    met-place new x meets_x y.version y.cells.table y.cells.key
    ∙ sym (met-place new y meets_y y.version y.cells.table y.cells.key)
    ∙ and_from (y.version == y.version) ((y.cells.table == y.cells.table) && is_eq (key_order y.cells.key y.cells.key)) (eq-eqb y.version y.version refl)
    (and_from (y.cells.table == y.cells.table) (is_eq (key_order y.cells.key y.cells.key)) (eq-eqb y.cells.table y.cells.table refl) (key_itself y.cells.key))

-- and both have the last moment before it, so these parts collide
before_meet : (new x y : PieceRecord) → collide new x ≡ true → collide new y ≡ true → is_before new x ≡ true → is_before new y ≡ true → collide (before new x) (before new y) ≡ true
before_meet new x y meets_x meets_y first second =
    and_from (is_in y.version y.cells.table y.cells.key x) (nat_lt x.cells.from (min y.cells.till new.cells.from) && nat_lt y.cells.from (min x.cells.till new.cells.from)) (one_place new x y meets_x meets_y)
    (and_from (nat_lt x.cells.from (min y.cells.till new.cells.from)) (nat_lt y.cells.from (min x.cells.till new.cells.from)) (reaches x.cells.from x.cells.till y.cells.till new.cells.from first (goes_on y meets_y))
    (reaches y.cells.from y.cells.till x.cells.till new.cells.from second (goes_on x meets_x)))
  where
    -- a piece that the new one meets goes on till it begins
    goes_on : (z : PieceRecord) → collide new z ≡ true → nat_lt new.cells.from z.cells.till ≡ true
    goes_on z meets =
        (and_parts (nat_lt new.cells.from z.cells.till) (nat_lt z.cells.from new.cells.till)
        (and_parts ((new.version == z.version) && ((new.cells.table == z.cells.table) && is_eq (key_order new.cells.key z.cells.key))) (nat_lt new.cells.from z.cells.till && nat_lt z.cells.from new.cells.till) meets).1).0

    reaches : (from till other begin : ℕ) → nat_lt from (min till begin) ≡ true → nat_lt begin other ≡ true → nat_lt from (min other begin) ≡ true
    reaches from till other begin e f = grind (arith, e, f)

-- ---- what is left is counted

-- no two parts are left of a piece, where none of them collides with what another piece has before the new one
one_left : (new x y : PieceRecord) → collide new x ≡ true → is_before new x ≡ true → list_any (collide (before new x)) (left_by new y) ≡ false → length (left_by new y) ≤ 1
one_left new x y meets first = by_place (collide new y) refl
  where
    by_parts : (a b : Bool) → collide new y ≡ true → is_before new y ≡ a
        → list_any (collide (before new x)) (cond a (before new y ∷ []) [] ++ cond b (between (max y.cells.from new.cells.till) y.cells.till y ∷ []) []) ≡ false
        → length (cond a (before new y ∷ []) [] ++ cond b (between (max y.cells.from new.cells.till) y.cells.till y ∷ []) []) ≤ 1
    by_parts true b met second free =
        absurd (true≢false (sym (before_meet new x y meets met first second) ∙ (or_parts (collide (before new x) (before new y)) (list_any (collide (before new x)) (cond b (between (max y.cells.from new.cells.till) y.cells.till y ∷ []) [])) free).0))
    by_parts false true met second free = omega arith
    by_parts false false met second free = omega arith

    by_place : (b : Bool) → collide new y ≡ b → list_any (collide (before new x)) (cond b (around new y) (y ∷ [])) ≡ false → length (cond b (around new y) (y ∷ [])) ≤ 1
    by_place true met free = by_parts (is_before new y) (nat_lt (max y.cells.from new.cells.till) y.cells.till) met refl free
    by_place false met free = omega arith

-- so where one piece has a part before it, no other one is split
others_left : (new x : PieceRecord) → collide new x ≡ true → is_before new x ≡ true → (ys : List PieceRecord) → list_any (collide (before new x)) (flat_map (left_by new) ys) ≡ false → length (flat_map (left_by new) ys) ≤ length ys
others_left new x meets first [] free = omega arith
others_left new x meets first (y ∷ ys) free =
    let h = or_parts (list_any (collide (before new x)) (left_by new y)) (list_any (collide (before new x)) (flat_map (left_by new) ys))
    (sym (list_any-append (collide (before new x)) (left_by new y) (flat_map (left_by new) ys)) ∙ free) in
    let one = one_left new x y meets first h.0 in
    let rest = others_left new x meets first ys h.1 in
    omega (arith, length-append (left_by new y) (flat_map (left_by new) ys), one, rest)

-- where no two of what is left collide, that is one more than there were, at most
pub few_left : (new : PieceRecord) (xs : List PieceRecord) → differ collide (flat_map (left_by new) xs) ≡ true → length (flat_map (left_by new) xs) ≤ length xs + 1
few_left new [] apart = omega arith
few_left new (x ∷ xs) apart = by_place (λ e. few_left new xs e) (collide new x) refl apart
  where
    rest : List PieceRecord
    rest = flat_map (left_by new) xs

    behind : PieceRecord
    behind = between (max x.cells.from new.cells.till) x.cells.till x

    by_parts : (differ collide rest ≡ true → length rest ≤ length xs + 1) → (a b : Bool) → collide new x ≡ true → is_before new x ≡ a → differ collide ((cond a (before new x ∷ []) [] ++ cond b (behind ∷ []) []) ++ rest) ≡ true
        → length ((cond a (before new x ∷ []) [] ++ cond b (behind ∷ []) []) ++ rest) ≤ length (x ∷ xs) + 1
    by_parts more true true meets first e =
        let free = not-true (list_any (collide (before new x)) (behind ∷ rest)) (and_parts (not (list_any (collide (before new x)) (behind ∷ rest))) (differ collide (behind ∷ rest)) e).0 in
        let kept = others_left new x meets first xs (or_parts (collide (before new x) behind) (list_any (collide (before new x)) rest) free).1 in
        omega (arith, kept)
    by_parts more true false meets first e = let kept = more (and_parts (not (list_any (collide (before new x)) rest)) (differ collide rest) e).1 in omega (arith, kept)
    by_parts more false true meets first e = let kept = more (and_parts (not (list_any (collide behind) rest)) (differ collide rest) e).1 in omega (arith, kept)
    by_parts more false false meets first e = let kept = more e in omega (arith, kept)

    by_place : (differ collide rest ≡ true → length rest ≤ length xs + 1) → (b : Bool) → collide new x ≡ b → differ collide (cond b (around new x) (x ∷ []) ++ rest) ≡ true → length (cond b (around new x) (x ∷ []) ++ rest) ≤ length (x ∷ xs) + 1
    by_place more true meets e = by_parts more (is_before new x) (nat_lt (max x.cells.from new.cells.till) x.cells.till) meets refl e
    by_place more false meets e = let kept = more (and_parts (not (list_any (collide x) rest)) (differ collide rest) e).1 in omega (arith, kept)

-- ---- what is drawn is counted

few_kept : {A B : Type 0} (f : A → Option B) (xs : List A) → length (filter_map f xs) ≤ length xs
few_kept {B = B} f [] = omega arith
few_kept {B = B} f (x ∷ xs) = by_value (f x) (few_kept f xs)
  where
    by_value : (o : Option B) → length (filter_map f xs) ≤ length xs → length (cons_option o (filter_map f xs)) ≤ length (x ∷ xs)
    by_value None rest = omega (arith, rest)
    by_value (Some y) rest = omega (arith, rest)

-- no more records of a kind than ids
few_of_kind : (view : View) (ss : List Stored) (ids : List ℕ) → length (kind_at view ss ids) ≤ length ids
few_of_kind view ss ids = let kept = few_kept view (filter_map (record_at ss) ids) in let found = few_kept (record_at ss) ids in omega (arith, kept, found)

-- a new piece comes over those at hand and those that records are drawn as, which go
pub few_more : (view : View) (ss : List Stored) (news : List PieceRecord) (dropped ids : List ℕ) (finished hand : List PieceRecord) (new : PieceRecord) → differ collide (new ∷ flat_map (left_by new) (hand ++ kind_at view ss ids)) ≡ true
    → AreFew news dropped (finished ++ hand) → AreFew (news ++ new ∷ []) (dropped ++ ids) (finished ++ new ∷ flat_map (left_by new) (hand ++ kind_at view ss ids))
few_more view ss news dropped ids finished hand new apart few =
    let under = hand ++ kind_at view ss ids in
    let kept = few_left new under (and_parts (not (list_any (collide new) (flat_map (left_by new) under))) (differ collide (flat_map (left_by new) under)) apart).1 in
    let going = few_of_kind view ss ids in
    omega (arith, few, kept, going, length-append hand (kind_at view ss ids), length-append finished hand, length-append finished (new ∷ flat_map (left_by new) under), length-append news (new ∷ []), length-append dropped ids)
