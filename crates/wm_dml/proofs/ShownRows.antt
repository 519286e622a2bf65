-- What is known of shown rows: they fit the columns of their table, and the period of each lasts.
use Rattle.std.proofs.Common.{◌≡◌, ℕ, zero, suc, Bool, true, false, cond, List, [], ◌∷◌, ◌++◌, length, map, take, drop, refl, sym, ap, ◌∙◌}
use Rattle.std.proofs.lemmas.Bool.{and_from, and_parts}
use Rattle.std.specs.Prelude.{◌&&◌, ◌==◌, slice_get, unwrap_or}
use Rattle.std.specs.List.{list_all}
use Rattle.std.specs.Option.{option_and_then}
use Rattle.std.proofs.lemmas.List.{append-nil, take-append-drop}
use Rattle.wm_base.specs.Period.{Span, always}
use Rattle.wm_base.specs.declared.row.Row.{Row}
use Rattle.wm_base.specs.declared.value.Value.{Value}
use Rattle.wm_base.specs.declared.value.Value.TheVariants as values
use Rattle.wm_graph.specs.Rules.{type_of, fits_column, fit_columns, is_row_of, is_key_of}
use Rattle.wm_making.proofs.Fitted.{of_type}
use Rattle.wm_making.proofs.Written.{turned_test}
use Rattle.wm_making.specs.Rows.{is_filled}
use Rattle.wm_joining.proofs.FitLemmas.{fits_append}
use Rattle.wm_spec.specs.Conditions.{fits}
use Rattle.wm_spec.specs.Operands.{fits_columns, period_of}
use Rattle.wm_spec.specs.declared.record.column.TableColumn.{TableColumn}
use Rattle.wm_spec.specs.declared.record.table.Table.{Table}
use Rattle.wm_typing.specs.Columns.{declared_column, valid_column}
use Rattle.wm_dml.specs.Changing.{own_columns, declared_values, row_period, row_key}
use Rattle.wm_dml.specs.Standing.{stands_in, is_lasting, is_period_alone, is_shown, all_stand}

-- ---- the parts

-- its declared values stand in the table
pub shown_parts : (t : Table) (vs : List Value) → is_shown t vs ≡ true →
    (is_row_of (declared_values t vs) t ≡ true) × (is_key_of (row_key t (declared_values t vs)) t ≡ true) × (list_all is_filled (declared_values t vs) ≡ true)
shown_parts t vs shown =
    let stand = (and_parts (stands_in t (declared_values t vs)) (cond t.valid (is_period_alone (drop (length t.columns) vs)) true) shown).0 in
    let row = and_parts (is_row_of (declared_values t vs) t) (is_key_of (row_key t (declared_values t vs)) t && list_all is_filled (declared_values t vs)) stand in
    let key = and_parts (is_key_of (row_key t (declared_values t vs)) t) (list_all is_filled (declared_values t vs)) row.1 in
    (row.0, key.0, key.1)

alone : (vs : List Value) → is_period_alone vs ≡ true → (p : Span) × (vs ≡ values.Span p ∷ []) × (is_lasting p ≡ true)
alone [] is = absurd (cc)
alone (values.Span p ∷ []) is = (p, refl, is)
alone (values.Span p ∷ v ∷ vs) is = absurd (cc)
alone (values.Null ∷ vs) is = absurd (cc)
alone (values.Num n ∷ vs) is = absurd (cc)
alone (values.Text text ∷ vs) is = absurd (cc)
alone (values.Time instant ∷ vs) is = absurd (cc)

-- ---- they fit the columns

-- NULL, or a value of the column's type
pub of_column : (c : TableColumn) (v : Value) → fits_column c v ≡ true → of_type v (type_of c.kind) ≡ true
of_column c values.Null fit = refl
of_column c (values.Num n) fit = fit
of_column c (values.Text text) fit = turned_test (type_of c.kind) 2 (and_parts (type_of c.kind == 2) _ fit).0
of_column c (values.Time instant) fit = fit
of_column c (values.Span period) fit = fit

-- a row of the table fits its columns
pub declared_fit : (source : List ℕ) (cs : List TableColumn) (vs : List Value) → fit_columns cs vs ≡ true → fits_columns (map (declared_column source) cs) vs ≡ true
declared_fit source [] [] fit = refl
declared_fit source [] (v ∷ vs) fit = absurd (cc)
declared_fit source (c ∷ cs) [] fit = absurd (cc)
declared_fit source (c ∷ cs) (v ∷ vs) fit =
    let parts = and_parts (fits_column c v) (fit_columns cs vs) fit in
    and_from _ _ (of_column c v parts.0) (declared_fit source cs vs parts.1)

period_fits : (source : List ℕ) (vs : List Value) → is_period_alone vs ≡ true → fits_columns (valid_column source ∷ []) vs ≡ true
period_fits source vs is = let one = alone vs is in ap (λ ws. fits_columns (valid_column source ∷ []) ws) one.1

values_fit : (valid : Bool) (source : List ℕ) (cs : List TableColumn) (vs : List Value) → fit_columns cs (cond valid (take (length cs) vs) vs) ≡ true → cond valid (is_period_alone (drop (length cs) vs)) true ≡ true →
    fits_columns (map (declared_column source) cs ++ cond valid (valid_column source ∷ []) []) vs ≡ true
values_fit true source cs vs fit last =
    ap (λ ws. fits_columns (map (declared_column source) cs ++ valid_column source ∷ []) ws) (sym (take-append-drop (length cs) vs))
    ∙ fits_append (map (declared_column source) cs) (valid_column source ∷ []) (take (length cs) vs) (drop (length cs) vs) (declared_fit source cs (take (length cs) vs) fit) (period_fits source (drop (length cs) vs) last)
values_fit false source cs vs fit last = ap (λ ds. fits_columns ds vs) (append-nil (map (declared_column source) cs)) ∙ declared_fit source cs vs fit

-- a shown row fits the columns of its table
pub shown_fits : (t : Table) (vs : List Value) → is_shown t vs ≡ true → fits_columns (own_columns t) vs ≡ true
shown_fits t vs shown =
    values_fit t.valid t.name t.columns vs (and_parts (fit_columns t.columns (declared_values t vs)) _ (shown_parts t vs shown).0).0
    (and_parts (stands_in t (declared_values t vs)) (cond t.valid (is_period_alone (drop (length t.columns) vs)) true) shown).1

pub rows_fit : (t : Table) (rows : List Row) → all_stand t rows ≡ true → list_all (fits (own_columns t)) rows ≡ true
unfolding fits
rows_fit t [] all = refl
rows_fit t (row ∷ rows) all =
    let parts = and_parts (is_shown t row.values) (all_stand t rows) all in
    and_from _ _ (shown_fits t row.values parts.0) (rows_fit t rows parts.1)

-- ---- their periods last

got_dropped : {A : Type 0} (n : ℕ) (xs : List A) → slice_get xs n ≡ slice_get (drop n xs) 0
got_dropped zero xs = refl
got_dropped (suc n) [] = refl
got_dropped (suc n) (x ∷ xs) = got_dropped n xs

period_lasts : (valid : Bool) (n : ℕ) (vs : List Value) → cond valid (is_period_alone (drop n vs)) true ≡ true → is_lasting (cond valid (unwrap_or (option_and_then period_of (slice_get vs n)) always) always) ≡ true
period_lasts true n vs last =
    let one = alone (drop n vs) last in
    ap (λ o. is_lasting (unwrap_or (option_and_then period_of o) always)) (got_dropped n vs ∙ ap (λ ws. slice_get ws 0) one.1) ∙ one.2
period_lasts false n vs last = refl

pub shown_lasts : (t : Table) (row : Row) → is_shown t row.values ≡ true → is_lasting (row_period t row) ≡ true
shown_lasts t row shown =
    period_lasts t.valid (length t.columns) row.values (and_parts (stands_in t (declared_values t row.values)) (cond t.valid (is_period_alone (drop (length t.columns) row.values)) true) shown).1
