-- The pieces of many rows in one list.
use Rattle.std.proofs.Common.{◌≡◌, ◌≤◌, ℕ, true, false, ◌&&◌, ◌||◌, leb, List, [], ◌∷◌, ◌++◌, map, Option, None, refl, sym, ap, ◌∙◌, subst, ◌⊎◌, inl, inr}
use Rattle.std.proofs.lemmas.Bool.{le-leb, or_right}
use Rattle.std.proofs.lemmas.Map.Keys.{sorted_head, sorted_tail}
use Rattle.std.specs.Bool.{then_some}
use Rattle.std.specs.List.{AllByRecursion}
use Rattle.std.specs.List.Sorted.{IsStrictlySortedBy}
use Rattle.std.specs.Map.{keys_of}
use Rattle.std.specs.Option.{option_or, unwrap_or}
use Rattle.std.specs.Ordering.{is_lt}
use Rattle.std.specs.declared.cmp.Ordering.TheVariants.{Less}
use Rattle.wm_base.proofs.Plain.{option_or-none, option_or_assoc}
use Rattle.wm_base.specs.Period.{covers}
use Rattle.wm_base.specs.declared.instant.TheConstants.{END}
use Rattle.wm_period.specs.Pieces.{Held, held, held_at, Between}
use Rattle.wm_period.specs.declared.piece.Piece.{Piece}
use Rattle.wm_rows.proofs.Lookups.{cases_row, is_same-itself, is_same-symm, group_in-first, group_in-other, group_in-past}
use Rattle.wm_rows.specs.Own.{own_piece, row_of, own_list, own_at, precedes, GoesBefore, IsInOrder, AllInOrder}
use Rattle.wm_rows.specs.Rows.{Groups, row_order, is_same, pieces_in}
use Rattle.wm_rows.specs.declared.own.OwnPiece.{OwnPiece}
use Rattle.wm_rows.specs.declared.row_key.RowKey.{RowKey}

-- ---- the loop

-- where the loop stands: behind the pieces that are listed, those of `rest` are still to come
pub record Flattening (all rest : Groups) (list : List OwnPiece) : Type 0 where
  pub same : list ++ own_list rest ≡ own_list all
  pub order : AllInOrder rest → AllInOrder all

-- ---- what the list holds

own_at-append : (ps qs : List OwnPiece) (row : RowKey) (t : ℕ) → own_at (ps ++ qs) row t ≡ option_or (own_at ps row t) (own_at qs row t)
own_at-append [] qs row t = refl
own_at-append (p ∷ ps) qs row t =
    ap (option_or (then_some (is_same (row_of p) row && covers p.piece.period t) (held p.piece))) (own_at-append ps qs row t)
    ∙ sym (option_or_assoc (then_some (is_same (row_of p) row && covers p.piece.period t) (held p.piece)) (own_at ps row t) (own_at qs row t))

own_at-here : (k row : RowKey) (ps : List Piece) (t : ℕ) → is_same k row ≡ true → own_at (map (own_piece k) ps) row t ≡ held_at ps t
own_at-here k row [] t same = refl
own_at-here k row (p ∷ ps) t same =
    ap (λ b. option_or (then_some (b && covers p.period t) (held p)) (own_at (map (own_piece k) ps) row t)) same
    ∙ ap (option_or (then_some (covers p.period t) (held p))) (own_at-here k row ps t same)

own_at-away : (k row : RowKey) (ps : List Piece) (t : ℕ) → is_same k row ≡ false → own_at (map (own_piece k) ps) row t ≡ None
own_at-away k row [] t apart = refl
own_at-away k row (p ∷ ps) t apart =
    ap (λ b. option_or (then_some (b && covers p.period t) (held p)) (own_at (map (own_piece k) ps) row t)) apart
    ∙ own_at-away k row ps t apart

pub own_at-list : (groups : Groups) (row : RowKey) (t : ℕ) → IsStrictlySortedBy row_order (keys_of groups) → own_at (own_list groups) row t ≡ held_at (pieces_in groups row) t
own_at-list [] row t order = refl
own_at-list (group ∷ rest) row t order =
    own_at-append (map (own_piece group.0) group.1) (own_list rest) row t
    ∙ ap (option_or (own_at (map (own_piece group.0) group.1) row t)) (own_at-list rest row t (sorted_tail row_order group.0 (keys_of rest) order))
    ∙ by_row group.0 group.1 order (cases_row group.0 row)
  where
    by_row : (k : RowKey) (ps : List Piece) → IsStrictlySortedBy row_order (keys_of ((k, ps) ∷ rest)) → (k ≡ row) ⊎ (is_same k row ≡ false)
        → option_or (own_at (map (own_piece k) ps) row t) (held_at (pieces_in rest row) t) ≡ held_at (pieces_in ((k, ps) ∷ rest) row) t
    by_row k ps order (inl same) =
        let P : RowKey → Type 0 = λ r. option_or (own_at (map (own_piece k) ps) r t) (held_at (pieces_in rest r) t) ≡ held_at (pieces_in ((k, ps) ∷ rest) r) t in
        subst P same
        (ap (λ (o : Option Held). option_or o (held_at (pieces_in rest k) t)) (own_at-here k k ps t (is_same-itself k))
        ∙ ap (λ (o : Option (List Piece)). option_or (held_at ps t) (held_at (unwrap_or o []) t)) (group_in-past k ps rest order)
        ∙ option_or-none (held_at ps t)
        ∙ ap (λ (o : Option (List Piece)). held_at (unwrap_or o []) t) (sym (group_in-first k ps rest)))
    by_row k ps order (inr apart) =
        ap (λ (o : Option Held). option_or o (held_at (pieces_in rest row) t)) (own_at-away k row ps t apart)
        ∙ ap (λ (o : Option (List Piece)). held_at (unwrap_or o []) t) (sym (group_in-other row k ps rest (is_same-symm row k ∙ apart)))

-- ---- its order

-- a row is below that of the first of a list
abbrev Below : RowKey → List OwnPiece → Type 0
Below k [] = Unit {0}
Below k (q ∷ qs) = row_order k (row_of q) ≡ Less

below-list : (k : RowKey) (groups : Groups) → AllByRecursion (λ y. row_order k y ≡ Less) (keys_of groups) → Below k (own_list groups)
below-list k [] less = tt
below-list k (group ∷ rest) less = by_pieces group.1 less.0 (below-list k rest less.1)
  where
    by_pieces : (ps : List Piece) → row_order k group.0 ≡ Less → Below k (own_list rest) → Below k (map (own_piece group.0) ps ++ own_list rest)
    by_pieces [] first later = later
    by_pieces (p ∷ ps) first later = first

precedes_row : (p q : OwnPiece) → row_order (row_of p) (row_of q) ≡ Less → precedes p q ≡ true
precedes_row p q less = ap (λ o. is_lt o || (is_same (row_of p) (row_of q) && leb p.piece.period.till q.piece.period.from)) less

precedes_piece : (k : RowKey) (p q : Piece) → p.period.till ≤ q.period.from → precedes (own_piece k p) (own_piece k q) ≡ true
precedes_piece k p q ended =
    or_right (is_lt (row_order k k)) (is_same k k && leb p.period.till q.period.from)
    (ap (λ b. b && leb p.period.till q.period.from) (is_same-itself k) ∙ le-leb _ _ ended)

in_order-row : (k : RowKey) (ps : List Piece) (low high : ℕ) (l : List OwnPiece) → Between low ps high → Below k l → IsInOrder l → IsInOrder (map (own_piece k) ps ++ l)
in_order-row k [] low high l between below order = order
in_order-row k (p ∷ ps) low high l between below order = (first ps l between.2 below, in_order-row k ps p.period.till high l between.2 below order)
  where
    first : (qs : List Piece) (l : List OwnPiece) → Between p.period.till qs high → Below k l → GoesBefore (own_piece k p) (map (own_piece k) qs ++ l)
    first [] [] between below = tt
    first [] (q ∷ l) between below = precedes_row (own_piece k p) q below
    first (q ∷ qs) l between below = precedes_piece k p q between.0

pub in_order-list : (groups : Groups) → IsStrictlySortedBy row_order (keys_of groups) → AllInOrder groups → IsInOrder (own_list groups)
in_order-list [] rows order = tt
in_order-list (group ∷ rest) rows order =
    in_order-row group.0 group.1 0 END (own_list rest) order.0 (below-list group.0 rest (sorted_head row_order group.0 (keys_of rest) rows))
    (in_order-list rest (sorted_tail row_order group.0 (keys_of rest) rows) order.1)
