-- New rows in the places of old ones, from some place on.
use Rattle.std.proofs.Common.{◌≡◌, ℕ, ◌+◌, true, List, [], ◌∷◌, ◌++◌, length, refl, sym, ap, ◌∙◌, arith}
use Rattle.std.proofs.lemmas.Bool.{and_parts}
use Rattle.std.proofs.lemmas.List.{append-nil, append_assoc}
use Rattle.wm_base.specs.Period.{Span, overlaps}
use Rattle.wm_base.specs.declared.row.Row.{Row}
use Rattle.wm_base.specs.declared.value.Value.{Value}
use Rattle.wm_spec.specs.declared.record.table.Table.{Table}
use Rattle.wm_dml.specs.Changing.{all_overlap, row_period, replaced, replacing}
use Rattle.wm_dml.specs.declared.change.RowChange.{RowChange}

-- the changes are those of the rows that are done; of the new rows so many are left
pub record Replacing (t : Table) (within : Span) (olds : List Row) (rows : List (List Value)) (changes : List RowChange) (olds_left : List Row) (rows_left : List (List Value)) (left : ℕ) : Type 0 where
  pub same : replacing t within olds rows ≡ changes ++ replacing t within olds_left rows_left
  pub overlap : all_overlap t within olds_left ≡ true
  pub counted : left ≡ length rows_left

-- none is done
pub replacing_begins : {t : Table} {within : Span} {olds : List Row} {rows : List (List Value)} {changes : List RowChange} {olds_left : List Row} {rows_left : List (List Value)} {left : ℕ} →
    all_overlap t within olds ≡ true → changes ≡ [] → olds_left ≡ olds → rows_left ≡ rows → left ≡ length rows → Replacing t within olds rows changes olds_left rows_left left
replacing_begins {t} {within} {olds} {rows} {changes} {olds_left} {rows_left} {left} overlap none first second counted = record {
  same = sym (ap (λ cs. cs ++ replacing t within olds_left rows_left) none ∙ ap (λ os. replacing t within os rows_left) first ∙ ap (λ rs. replacing t within olds rs) second);
  overlap = ap (all_overlap t within) first ∙ overlap;
  counted = counted ∙ ap length (sym second);
}

-- an old row that is left overlaps the period
pub replacing_one : {t : Table} {within : Span} {olds : List Row} {rows : List (List Value)} {changes : List RowChange} {olds_left : List Row} {rows_left : List (List Value)} {left : ℕ} {old : Row} {others : List Row} →
    Replacing t within olds rows changes olds_left rows_left left → olds_left ≡ old ∷ others → overlaps (row_period t old) within ≡ true
replacing_one {t} {within} {olds} {rows} {changes} {olds_left} {rows_left} {left} {old} {others} f is =
    (and_parts (overlaps (row_period t old) within) (all_overlap t within others) (sym (ap (all_overlap t within) is) ∙ f.overlap)).0

-- one more is done
pub replacing_more : {t : Table} {within : Span} {olds : List Row} {rows : List (List Value)} {changes : List RowChange} {olds_left : List Row} {rows_left : List (List Value)} {left : ℕ} {old : Row} {others : List Row} {row : List Value} {more : List (List Value)} {fewer : ℕ} {change : RowChange} {next : List RowChange} →
    Replacing t within olds rows changes olds_left rows_left left → olds_left ≡ old ∷ others → rows_left ≡ row ∷ more → fewer + 1 ≡ left → change ≡ replaced t within old row → next ≡ changes ++ change ∷ [] →
    Replacing t within olds rows next others more fewer
replacing_more {t} {within} {olds} {rows} {changes} {olds_left} {rows_left} {left} {old} {others} {row} {more} {fewer} {change} {next} f is new less one all = record {
  same = f.same ∙ ap (λ os. changes ++ replacing t within os rows_left) is ∙ ap (λ rs. changes ++ replacing t within (old ∷ others) rs) new ∙ sym (append_assoc changes (replaced t within old row ∷ []) (replacing t within others more))
      ∙ sym (ap (λ cs. cs ++ replacing t within others more) (all ∙ ap (λ (x : RowChange). changes ++ x ∷ []) one));
  overlap = (and_parts (overlaps (row_period t old) within) (all_overlap t within others) (sym (ap (all_overlap t within) is) ∙ f.overlap)).1;
  counted = omega (arith, less, f.counted, ap length new);
}

nothing_left : (t : Table) (within : Span) (olds : List Row) (rows : List (List Value)) → length rows ≡ 0 → replacing t within olds rows ≡ []
nothing_left t within [] rows none = refl
nothing_left t within (old ∷ olds) [] none = refl
nothing_left t within (old ∷ olds) (row ∷ rows) none = absurd (omega (arith, none))

no_old_left : (t : Table) (within : Span) (olds : List Row) (rows : List (List Value)) → length olds ≡ 0 → replacing t within olds rows ≡ []
no_old_left t within [] rows none = refl
no_old_left t within (old ∷ olds) rows none = absurd (omega (arith, none))

-- all are done where no old row is left
pub replacing_ends : {t : Table} {within : Span} {olds : List Row} {rows : List (List Value)} {changes : List RowChange} {olds_left : List Row} {rows_left : List (List Value)} {left : ℕ} →
    Replacing t within olds rows changes olds_left rows_left left → length olds_left ≡ 0 → changes ≡ replacing t within olds rows
replacing_ends {t} {within} {olds} {rows} {changes} {olds_left} {rows_left} {left} f none =
    sym (f.same ∙ ap (λ cs. changes ++ cs) (no_old_left t within olds_left rows_left none) ∙ append-nil changes)

-- or no new one
pub replacing_stops : {t : Table} {within : Span} {olds : List Row} {rows : List (List Value)} {changes : List RowChange} {olds_left : List Row} {rows_left : List (List Value)} {left : ℕ} →
    Replacing t within olds rows changes olds_left rows_left left → left ≡ 0 → changes ≡ replacing t within olds rows
replacing_stops {t} {within} {olds} {rows} {changes} {olds_left} {rows_left} {left} f none =
    sym (f.same ∙ ap (λ cs. changes ++ cs) (nothing_left t within olds_left rows_left (sym f.counted ∙ none)) ∙ append-nil changes)
