-- What is known of a row that is shown: its declared values are a row of its table, it fits the columns, its key is that of its declared values, and
-- its period overlaps the asked one.
use Rattle.std.proofs.Common.{◌≡◌, ℕ, zero, suc, ◌==◌, ◌||◌, Bool, true, false, if◌then◌else◌, List, [], ◌∷◌, ◌++◌, map, length, take, drop, slice_get, Option, Some, None, option_and_then, option_map, unwrap_or, refl, sym, ap, ◌∙◌, append-nil}
use Rattle.std.proofs.lemmas.List.{take-append-drop}
use Rattle.std.proofs.lemmas.Bool.{and_from, and_parts, true≢false}
use Rattle.std.proofs.lemmas.Option.{none-some}
use Rattle.wm_base.specs.Period.{Span, always, overlaps}
use Rattle.wm_base.specs.Value.{type_place}
use Rattle.wm_listing.specs.declared.columns.Column.{Column}
use Rattle.wm_base.specs.declared.row.Row.{Row}
use Rattle.wm_base.specs.declared.value.Value.{Value}
use Rattle.wm_base.specs.declared.value.Value.TheVariants as values
use Rattle.wm_dml.proofs.Changed.{same_key}
use Rattle.wm_dml.specs.Changing.{declared_values, row_key, row_period}
use Rattle.wm_dml.specs.Standing.{is_lasting, is_period_alone}
use Rattle.wm_graph.specs.Rules.{fit_columns, fits_column, has_key, is_key, is_key_of, is_row_of, key_of, type_of, values_at}
use Rattle.wm_spec.specs.Conditions.{fits}
use Rattle.wm_spec.specs.Operands.{fits_columns, period_of}
use Rattle.wm_spec.specs.declared.record.column.ColumnKind.{ColumnKind}
use Rattle.wm_spec.specs.declared.record.column.ColumnKind.TheVariants as kinds
use Rattle.wm_spec.specs.declared.record.column.TableColumn.{TableColumn}
use Rattle.wm_spec.specs.declared.record.table.Table.{Table}
use Rattle.wm_state.specs.Listing.{with_span}
use Rattle.wm_typing.specs.Columns.{columns_of_table, declared_column, valid_column}
use Rattle.wm_chosen.proofs.Stood.{IsShownUnder}
use Rattle.wm_chosen.specs.Chosen.{is_keyed_row, is_keyed_shown}

-- ---- values with more behind them

took : (cs : List TableColumn) (vs more : List Value) → fit_columns cs vs ≡ true → take (length cs) (vs ++ more) ≡ vs
took [] [] more fit = refl
took [] (v ∷ vs) more fit = absurd (true≢false (sym fit))
took (c ∷ cs) [] more fit = absurd (true≢false (sym fit))
took (c ∷ cs) (v ∷ vs) more fit = ap (λ ws. v ∷ ws) (took cs vs more (and_parts (fits_column c v) (fit_columns cs vs) fit).1)

dropped : (cs : List TableColumn) (vs more : List Value) → fit_columns cs vs ≡ true → drop (length cs) (vs ++ more) ≡ more
dropped [] [] more fit = refl
dropped [] (v ∷ vs) more fit = absurd (true≢false (sym fit))
dropped (c ∷ cs) [] more fit = absurd (true≢false (sym fit))
dropped (c ∷ cs) (v ∷ vs) more fit = dropped cs vs more (and_parts (fits_column c v) (fit_columns cs vs) fit).1

-- the first of them
got : (cs : List TableColumn) (vs : List Value) (w : Value) → fit_columns cs vs ≡ true → slice_get (vs ++ w ∷ []) (length cs) ≡ Some w
got [] [] w fit = refl
got [] (v ∷ vs) w fit = absurd (true≢false (sym fit))
got (c ∷ cs) [] w fit = absurd (true≢false (sym fit))
got (c ∷ cs) (v ∷ vs) w fit = got cs vs w (and_parts (fits_column c v) (fit_columns cs vs) fit).1

-- what stood at a place stands there
kept : (vs more : List Value) (i : ℕ) (v : Value) → slice_get vs i ≡ Some v → slice_get (vs ++ more) i ≡ Some v
kept [] more i v e = absurd (none-some v e)
kept (w ∷ vs) more zero v e = e
kept (w ∷ vs) more (suc i) v e = kept vs more i v e

-- a value in front of others, where all of them are there
abbrev in_front : Option Value → Option (List Value) → Option (List Value)
in_front o rest = option_and_then (λ v. option_map (λ ws. v ∷ ws) rest) o

-- so do the values at places
values_kept : (places : List ℕ) (vs more : List Value) → (values_at places vs ≡ None → ⊥) → values_at places (vs ++ more) ≡ values_at places vs
values_kept [] vs more there = refl
values_kept (place ∷ places) vs more there = by_value (slice_get vs place) refl (values_kept places vs more)
  where
    by_value : (o : Option Value) → slice_get vs place ≡ o → ((values_at places vs ≡ None → ⊥) → values_at places (vs ++ more) ≡ values_at places vs) → values_at (place ∷ places) (vs ++ more) ≡ values_at (place ∷ places) vs
    by_value None e rest = absurd (there (ap (λ (o : Option Value). in_front o (values_at places vs)) e))
    by_value (Some v) e rest =
        ap (λ (o : Option Value). in_front o (values_at places (vs ++ more))) (kept vs more place v e)
        ∙ ap (in_front (Some v)) (rest (λ (none : values_at places vs ≡ None). there (ap (λ (o : Option Value). in_front o (values_at places vs)) e ∙ ap (in_front (Some v)) none)))
        ∙ ap (λ (o : Option Value). in_front o (values_at places vs)) (sym e)

-- so the key is what it was, where there was one
key_kept : (t : Table) (vs more : List Value) → (key_of t vs ≡ None → ⊥) → key_of t (vs ++ more) ≡ key_of t vs
key_kept t vs more there = by_key (has_key t) there
  where
    by_key : (b : Bool) → ((if b then values_at t.key_columns vs else None) ≡ None → ⊥) → (if b then values_at t.key_columns (vs ++ more) else None) ≡ (if b then values_at t.key_columns vs else None)
    by_key true there = values_kept t.key_columns vs more there
    by_key false there = refl

-- ---- a row of a table fits its columns

value_fits : (name : List ℕ) (c : TableColumn) (v : Value) → fits_column c v ≡ true → ((type_place v == 0) || (type_place v == (declared_column name c).kind)) ≡ true
value_fits name c values.Null is = refl
value_fits name c (values.Num n) is = is
value_fits name c (values.Text t) is = by_kind c.kind (and_parts (type_of c.kind == 2) _ is).0
  where
    by_kind : (k : ColumnKind) → (type_of k == 2) ≡ true → (2 == type_of k) ≡ true
    by_kind kinds.Number e = e
    by_kind kinds.Text e = refl
    by_kind kinds.Time e = e
value_fits name c (values.Time i) is = is
value_fits name c (values.Span s) is = is

-- with more behind, that fits more columns
columns_fit : (name : List ℕ) (cs : List TableColumn) (vs : List Value) (columns : List Column) (more : List Value) → fit_columns cs vs ≡ true → fits_columns columns more ≡ true
    → fits_columns (map (declared_column name) cs ++ columns) (vs ++ more) ≡ true
columns_fit name [] [] columns more is rest = rest
columns_fit name [] (v ∷ vs) columns more is rest = absurd (true≢false (sym is))
columns_fit name (c ∷ cs) [] columns more is rest = absurd (true≢false (sym is))
columns_fit name (c ∷ cs) (v ∷ vs) columns more is rest = let h = and_parts (fits_column c v) (fit_columns cs vs) is in rw (value_fits name c v h.0) (columns_fit name cs vs columns more h.1 rest)

-- ---- a row that is shown

-- its values, by whether the table has valid time
abbrev seen_values : Bool → Span → List Value → List Value
seen_values valid period vs = if valid then vs ++ values.Span period ∷ [] else vs

values_seen : (t : Table) (within : Span) (key : List Value) (shown : Row) → (is : IsShownUnder t within key shown) → shown.values ≡ seen_values t.valid is.period is.row.values
values_seen t within key shown is = ap (λ (r : Row). r.values) is.is ∙ by_valid t.valid
  where
    by_valid : (valid : Bool) → (let r : Row = if valid then with_span is.period is.row else is.row in r).values ≡ seen_values valid is.period is.row.values
    by_valid true = refl
    by_valid false = refl

fitting : (t : Table) (row : List Value) → is_keyed_row t row ≡ true → fit_columns t.columns row ≡ true
fitting t row is = (and_parts (fit_columns t.columns row) _ (and_parts (is_row_of row t) (is_key_of (row_key t row) t) is).0).0

-- what is asked of rows that are shown, by whether the table has valid time
abbrev declared_in : Bool → List TableColumn → List Value → List Value
declared_in valid cs vs = if valid then take (length cs) vs else vs

declared_are : (valid : Bool) (cs : List TableColumn) (period : Span) (vs : List Value) → fit_columns cs vs ≡ true → declared_in valid cs (seen_values valid period vs) ≡ vs
declared_are true cs period vs fit = took cs vs (values.Span period ∷ []) fit
declared_are false cs period vs fit = refl

-- its declared values are the row's own
pub shown_declared : (t : Table) (within : Span) (key : List Value) (shown : Row) → (is : IsShownUnder t within key shown) → declared_values t shown.values ≡ is.row.values
shown_declared t within key shown is = ap (declared_in t.valid t.columns) (values_seen t within key shown is) ∙ declared_are t.valid t.columns is.period is.row.values (fitting t is.row.values is.keyed)

period_behind : (valid : Bool) (cs : List TableColumn) (period : Span) (vs : List Value) → fit_columns cs vs ≡ true → is_lasting period ≡ true
    → (if valid then is_period_alone (drop (length cs) (seen_values valid period vs)) else true) ≡ true
period_behind true cs period vs fit lasts = ap is_period_alone (dropped cs vs (values.Span period ∷ []) fit) ∙ lasts
period_behind false cs period vs fit lasts = refl

-- it is keyed
pub shown_keyed : (t : Table) (within : Span) (key : List Value) (shown : Row) → IsShownUnder t within key shown → is_keyed_shown t shown ≡ true
shown_keyed t within key shown is =
    and_from (is_keyed_row t (declared_values t shown.values)) (if t.valid then is_period_alone (drop (length t.columns) shown.values) else true)
    (ap (is_keyed_row t) (shown_declared t within key shown is) ∙ is.keyed)
    (ap (λ vs. if t.valid then is_period_alone (drop (length t.columns) vs) else true) (values_seen t within key shown is)
    ∙ period_behind t.valid t.columns is.period is.row.values (fitting t is.row.values is.keyed) is.lasts)

-- its key is that of its declared values
pub shown_key : (t : Table) (within : Span) (key : List Value) (shown : Row) → IsShownUnder t within key shown → key_of t shown.values ≡ key_of t (declared_values t shown.values)
shown_key t within key shown is = ap (key_of t) (values_seen t within key shown is) ∙ by_valid t.valid ∙ sym (ap (key_of t) (shown_declared t within key shown is))
  where
    by_valid : (valid : Bool) → key_of t (seen_values valid is.period is.row.values) ≡ key_of t is.row.values
    by_valid true = key_kept t is.row.values (values.Span is.period ∷ []) (λ none. true≢false (sym is.under ∙ ap (is_key key) none))
    by_valid false = refl

-- and is the one under which it is shown
pub shown_under : (t : Table) (within : Span) (key : List Value) (shown : Row) → IsShownUnder t within key shown → is_key key (key_of t shown.values) ≡ true
shown_under t within key shown is = ap (is_key key) (shown_key t within key shown is ∙ ap (key_of t) (shown_declared t within key shown is)) ∙ is.under

-- so is that of any row that is keyed
pub keyed_key : (t : Table) (r : Row) → is_keyed_shown t r ≡ true → key_of t r.values ≡ key_of t (declared_values t r.values)
keyed_key t r is = by_valid t.valid (and_parts (is_row_of (declared_values t r.values) t) (is_key_of (row_key t (declared_values t r.values)) t) row).1
  where
    row : is_keyed_row t (declared_values t r.values) ≡ true
    row = (and_parts (is_keyed_row t (declared_values t r.values)) (if t.valid then is_period_alone (drop (length t.columns) r.values) else true) is).0

    by_valid : (valid : Bool) → is_key_of (row_key t (declared_in valid t.columns r.values)) t ≡ true → key_of t r.values ≡ key_of t (declared_in valid t.columns r.values)
    by_valid true e =
        ap (key_of t) (sym (take-append-drop (length t.columns) r.values))
        ∙ key_kept t (take (length t.columns) r.values) (drop (length t.columns) r.values) (λ none. true≢false (sym (same_key t (take (length t.columns) r.values) e) ∙ ap (is_key (row_key t (take (length t.columns) r.values))) none))
    by_valid false e = refl

abbrev period_in : Bool → List TableColumn → List Value → Span
period_in valid cs vs = if valid then unwrap_or (option_and_then period_of (slice_get vs (length cs))) always else always

-- it holds somewhere in the asked period, which is all of time where the table has no valid time
pub shown_overlaps : (t : Table) (within : Span) (key : List Value) (shown : Row) → (t.valid ≡ false → within ≡ always) → IsShownUnder t within key shown → overlaps (row_period t shown) within ≡ true
shown_overlaps t within key shown plain is = ap (λ vs. overlaps (period_in t.valid t.columns vs) within) (values_seen t within key shown is) ∙ by_valid t.valid refl
  where
    by_valid : (valid : Bool) → t.valid ≡ valid → overlaps (period_in valid t.columns (seen_values valid is.period is.row.values)) within ≡ true
    by_valid true e =
        ap (λ o. overlaps (unwrap_or (option_and_then period_of o) always) within) (got t.columns is.row.values (values.Span is.period) (fitting t is.row.values is.keyed)) ∙ is.overlapping e
    by_valid false e = ap (overlaps always) (plain e)

-- and it fits the columns of the table
pub shown_fits : (name : List ℕ) (t : Table) (within : Span) (key : List Value) (shown : Row) → IsShownUnder t within key shown → fits (columns_of_table name t) shown ≡ true
unfolding fits
shown_fits name t within key shown is = ap (fits_columns (columns_of_table name t)) (values_seen t within key shown is) ∙ by_valid t.valid
  where
    fit : fit_columns t.columns is.row.values ≡ true
    fit = fitting t is.row.values is.keyed

    by_valid : (valid : Bool) → fits_columns (map (declared_column name) t.columns ++ (if valid then valid_column name ∷ [] else [])) (seen_values valid is.period is.row.values) ≡ true
    by_valid true = columns_fit name t.columns is.row.values (valid_column name ∷ []) (values.Span is.period ∷ []) fit refl
    by_valid false =
        ap (fits_columns (map (declared_column name) t.columns ++ [])) (sym (append-nil is.row.values)) ∙ columns_fit name t.columns is.row.values [] [] fit refl
