-- Groups laid under others, one after another.
use Rattle.std.proofs.Common.{◌≡◌, ℕ, false, cond, List, [], ◌∷◌, Option, Some, sym, ap, ◌∙◌, subst, ◌⊎◌, inl, inr}
use Rattle.std.proofs.lemmas.Map.Keys.{sorted_tail}
use Rattle.std.specs.List.Sorted.{IsStrictlySortedBy}
use Rattle.std.specs.Map.{keys_of}
use Rattle.std.specs.Option.{option_or, unwrap_or}
use Rattle.wm_base.proofs.Plain.{option_or-none}
use Rattle.wm_period.specs.Pieces.{held_at}
use Rattle.wm_period.specs.declared.piece.Piece.{Piece}
use Rattle.wm_rows.proofs.Lookups.{cases_row, is_same-itself, is_same-symm, group_in-first, group_in-other, group_in-past}
use Rattle.wm_rows.specs.Rows.{Groups, row_order, is_same, group_in, pieces_in}
use Rattle.wm_rows.specs.declared.row_key.RowKey.{RowKey}

-- where the laying stands: over what is laid so far, `rest` is still to come
pub record Laying (upper start lower rest : Groups) : Type 0 where
  pub same : (row : RowKey) (t : ℕ) → option_or (held_at (pieces_in upper row) t) (held_at (pieces_in rest row) t) ≡ option_or (held_at (pieces_in start row) t) (held_at (pieces_in lower row) t)
  pub order : IsStrictlySortedBy row_order (keys_of rest)

pub laying_more : (upper next start lower rest left : Groups) (k : RowKey) (pieces both : List Piece) → Laying upper start lower rest → rest ≡ (k, pieces) ∷ left
    → ((q : RowKey) → group_in next q ≡ cond (is_same k q) (Some both) (group_in upper q))
    → ((t : ℕ) → held_at both t ≡ option_or (held_at (pieces_in upper k) t) (held_at pieces t))
    → Laying next start lower left
laying_more upper next start lower rest left k pieces both so is put cells = record {
  same = λ row t. by_row row t (cases_row k row);
  order = sorted_tail row_order k (keys_of left) ordered;
}
  where
    ordered : IsStrictlySortedBy row_order (keys_of ((k, pieces) ∷ left))
    ordered = let P : Groups → Type 0 = λ l. IsStrictlySortedBy row_order (keys_of l) in subst P is so.order

    here : (t : ℕ) → option_or (held_at (pieces_in next k) t) (held_at (pieces_in left k) t) ≡ option_or (held_at (pieces_in start k) t) (held_at (pieces_in lower k) t)
    here t =
        ap (λ (o : Option (List Piece)). option_or (held_at (unwrap_or o []) t) (held_at (pieces_in left k) t)) (put k ∙ ap (λ b. cond b (Some both) (group_in upper k)) (is_same-itself k))
        ∙ ap (λ (o : Option (List Piece)). option_or (held_at both t) (held_at (unwrap_or o []) t)) (group_in-past k pieces left ordered)
        ∙ option_or-none (held_at both t)
        ∙ cells t
        ∙ ap (λ (o : Option (List Piece)). option_or (held_at (pieces_in upper k) t) (held_at (unwrap_or o []) t)) (sym (group_in-first k pieces left))
        ∙ ap (λ (l : Groups). option_or (held_at (pieces_in upper k) t) (held_at (pieces_in l k) t)) (sym is)
        ∙ so.same k t

    away : (row : RowKey) (t : ℕ) → is_same k row ≡ false → option_or (held_at (pieces_in next row) t) (held_at (pieces_in left row) t) ≡ option_or (held_at (pieces_in start row) t) (held_at (pieces_in lower row) t)
    away row t apart =
        ap (λ (o : Option (List Piece)). option_or (held_at (unwrap_or o []) t) (held_at (pieces_in left row) t)) (put row ∙ ap (λ b. cond b (Some both) (group_in upper row)) apart)
        ∙ ap (λ (o : Option (List Piece)). option_or (held_at (pieces_in upper row) t) (held_at (unwrap_or o []) t)) (sym (group_in-other row k pieces left (is_same-symm row k ∙ apart)))
        ∙ ap (λ (l : Groups). option_or (held_at (pieces_in upper row) t) (held_at (pieces_in l row) t)) (sym is)
        ∙ so.same row t

    by_row : (row : RowKey) (t : ℕ) → (k ≡ row) ⊎ (is_same k row ≡ false)
        → option_or (held_at (pieces_in next row) t) (held_at (pieces_in left row) t) ≡ option_or (held_at (pieces_in start row) t) (held_at (pieces_in lower row) t)
    by_row row t (inl same) = rw (← same) (here t)
    by_row row t (inr apart) = away row t apart
