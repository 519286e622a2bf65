-- Rows that move, in the places of old ones, from some place on.
use Rattle.std.proofs.Common.{◌≡◌, ℕ, ◌+◌, List, [], ◌∷◌, ◌++◌, length, refl, sym, ap, ◌∙◌, arith}
use Rattle.std.proofs.lemmas.List.{append-nil, append_assoc}
use Rattle.wm_syntax.specs.Trees.{Set}
use Rattle.wm_base.specs.declared.row.Row.{Row}
use Rattle.wm_base.specs.declared.value.Value.{Value}
use Rattle.wm_spec.specs.declared.record.table.Table.{Table}
use Rattle.wm_dml.specs.Moving.{move_of, moves_of}
use Rattle.wm_dml.specs.declared.moving.Move.{Move}

-- these are the moves of the rows that are done; of the new rows so many are left
pub record Moving (t : Table) (sets : List Set) (olds : List Row) (rows : List (List Value)) (moves : List Move) (olds_left : List Row) (rows_left : List (List Value)) (left : ℕ) : Type 0 where
  pub same : moves_of t sets olds rows ≡ moves ++ moves_of t sets olds_left rows_left
  pub counted : left ≡ length rows_left

-- none is done
pub moving_begins : {t : Table} {sets : List Set} {olds : List Row} {rows : List (List Value)} {moves : List Move} {olds_left : List Row} {rows_left : List (List Value)} {left : ℕ} →
    moves ≡ [] → olds_left ≡ olds → rows_left ≡ rows → left ≡ length rows → Moving t sets olds rows moves olds_left rows_left left
moving_begins {t} {sets} {olds} {rows} {moves} {olds_left} {rows_left} {left} none first second counted = record {
  same = sym (ap (λ ms. ms ++ moves_of t sets olds_left rows_left) none ∙ ap (λ os. moves_of t sets os rows_left) first ∙ ap (λ rs. moves_of t sets olds rs) second);
  counted = counted ∙ ap length (sym second);
}

-- one more is done
pub moving_more : {t : Table} {sets : List Set} {olds : List Row} {rows : List (List Value)} {moves : List Move} {olds_left : List Row} {rows_left : List (List Value)} {left : ℕ} {old : Row} {others : List Row} {row : List Value} {more : List (List Value)} {fewer : ℕ} {one : Move} {next : List Move} →
    Moving t sets olds rows moves olds_left rows_left left → olds_left ≡ old ∷ others → rows_left ≡ row ∷ more → fewer + 1 ≡ left → one ≡ move_of t sets old row → next ≡ moves ++ one ∷ [] →
    Moving t sets olds rows next others more fewer
moving_more {t} {sets} {olds} {rows} {moves} {olds_left} {rows_left} {left} {old} {others} {row} {more} {fewer} {one} {next} f is new less made all = record {
  same = f.same ∙ ap (λ os. moves ++ moves_of t sets os rows_left) is ∙ ap (λ rs. moves ++ moves_of t sets (old ∷ others) rs) new ∙ sym (append_assoc moves (move_of t sets old row ∷ []) (moves_of t sets others more))
      ∙ sym (ap (λ ms. ms ++ moves_of t sets others more) (all ∙ ap (λ (m : Move). moves ++ m ∷ []) made));
  counted = omega (arith, less, f.counted, ap length new);
}

nothing_left : (t : Table) (sets : List Set) (olds : List Row) (rows : List (List Value)) → length rows ≡ 0 → moves_of t sets olds rows ≡ []
nothing_left t sets [] rows none = refl
nothing_left t sets (old ∷ olds) [] none = refl
nothing_left t sets (old ∷ olds) (row ∷ rows) none = absurd (omega (arith, none))

no_old_left : (t : Table) (sets : List Set) (olds : List Row) (rows : List (List Value)) → length olds ≡ 0 → moves_of t sets olds rows ≡ []
no_old_left t sets [] rows none = refl
no_old_left t sets (old ∷ olds) rows none = absurd (omega (arith, none))

-- all are done where no old row is left
pub moving_ends : {t : Table} {sets : List Set} {olds : List Row} {rows : List (List Value)} {moves : List Move} {olds_left : List Row} {rows_left : List (List Value)} {left : ℕ} →
    Moving t sets olds rows moves olds_left rows_left left → length olds_left ≡ 0 → moves ≡ moves_of t sets olds rows
moving_ends {t} {sets} {olds} {rows} {moves} {olds_left} {rows_left} {left} f none =
    sym (f.same ∙ ap (λ ms. moves ++ ms) (no_old_left t sets olds_left rows_left none) ∙ append-nil moves)

-- or no new one
pub moving_stops : {t : Table} {sets : List Set} {olds : List Row} {rows : List (List Value)} {moves : List Move} {olds_left : List Row} {rows_left : List (List Value)} {left : ℕ} →
    Moving t sets olds rows moves olds_left rows_left left → left ≡ 0 → moves ≡ moves_of t sets olds rows
moving_stops {t} {sets} {olds} {rows} {moves} {olds_left} {rows_left} {left} f none =
    sym (f.same ∙ ap (λ ms. moves ++ ms) (nothing_left t sets olds_left rows_left (sym f.counted ∙ none)) ∙ append-nil moves)
