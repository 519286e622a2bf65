-- The row of the items is made of their values.
use Rattle.std.proofs.Common.{◌≡◌, List, [], ◌∷◌, map, Option, None, Some, option_map, option_and_then, refl, ap, sym, ◌∙◌}
use Rattle.std.specs.List.{zip}
use Rattle.wm_listing.specs.declared.columns.Column.{Column}
use Rattle.wm_base.specs.declared.row.Row.{Row}
use Rattle.wm_base.specs.declared.value.Value.{Value}
use Rattle.wm_syntax.specs.Trees.{Projection, Out, Outs}
use Rattle.wm_ordering.specs.declared.shown.Shown.{Shown}
use Rattle.wm_ordering.specs.Keys.{row_of, shown_by}
use Rattle.wm_select.specs.Query.{all_there, item_value, projected, shown_of}
use Rattle.wm_ordering.proofs.KeyLemmas.{map_map}

pub projected_outs : (projection : Projection) (outs : List Out) (columns : List Column) (group : List Row) (values found : List Value) → projection ≡ Outs outs → all_there (map (λ (o : Out). item_value o.item columns group) outs) ≡ Some found → values ≡ found → projected projection columns group ≡ Some (record { values = values })
projected_outs projection outs columns group values found is there same =
    let row_of : List Value → Row = λ vs. record { values = vs } in
    ap (λ (p : Projection). projected p columns group) is ∙ ap (λ (vs : Option (List Value)). option_map row_of vs) there ∙ ap (λ (vs : List Value). Some (row_of vs)) (sym same)

-- ---- tuples that stand alone

abbrev beside_row : Row → Row → Shown
beside_row t row = record { tuple = t; row = row }

shown_there : (f : Row → Option Row) (ts : List Row) → all_there (map (λ t. option_map (beside_row t) (f t)) ts) ≡ option_map (λ rows. map shown_by (zip (map (λ (r : Row). r.values) rows) ts)) (all_there (map f ts))
shown_there f [] = refl
shown_there f (t ∷ ts) = by_first (f t) (all_there (map f ts)) (all_there (map (λ u. option_map (beside_row u) (f u)) ts)) (shown_there f ts)
  where
    by_first : (o : Option Row) (rest : Option (List Row)) (shown : Option (List Shown)) → shown ≡ option_map (λ rows. map shown_by (zip (map (λ (r : Row). r.values) rows) ts)) rest
        → option_and_then (λ s. option_map (λ ss. s ∷ ss) shown) (option_map (beside_row t) o) ≡ option_map (λ rows. map shown_by (zip (map (λ (r : Row). r.values) rows) (t ∷ ts))) (option_and_then (λ row. option_map (λ rows. row ∷ rows) rest) o)
    by_first None rest shown e = refl
    by_first (Some row) None shown e = ap (λ (ss : Option (List Shown)). option_map (λ all. beside_row t row ∷ all) ss) e
    by_first (Some row) (Some rows) shown e = ap (λ (ss : Option (List Shown)). option_map (λ all. beside_row t row ∷ all) ss) e

shown_rows : (projection : Projection) (columns : List Column) (ts : List Row) → all_there (map (shown_of projection columns) (map (λ (t : Row). t ∷ []) ts)) ≡ option_map (λ rows. map shown_by (zip (map (λ (r : Row). r.values) rows) ts)) (all_there (map (λ (t : Row). projected projection columns (t ∷ [])) ts))
shown_rows projection columns ts =
    ap (λ (os : List (Option Shown)). all_there os) (map_map (λ (t : Row). t ∷ []) (shown_of projection columns) ts) ∙ shown_there (λ t. projected projection columns (t ∷ [])) ts

values_again : (vs : List (List Value)) → map (λ (r : Row). r.values) (map row_of vs) ≡ vs
values_again [] = refl
values_again (v ∷ vs) = ap (λ ws. v ∷ ws) (values_again vs)

rows_again : (rows : List Row) → map row_of (map (λ (r : Row). r.values) rows) ≡ rows
rows_again [] = refl
rows_again (row ∷ rows) = ap (λ rs. row ∷ rs) (rows_again rows)

-- the rows are those of their values
pub there_again : (o : Option (List Row)) (rows : List Row) → o ≡ Some rows → o ≡ Some (map row_of (map (λ (r : Row). r.values) rows))
there_again o rows e = e ∙ ap (λ (rs : List Row). Some rs) (sym (rows_again rows))

-- they are shown beside the rows that they show
pub alone_shown : (projection : Projection) (columns : List Column) (ts : List Row) (vs : List (List Value)) → all_there (map (λ (t : Row). projected projection columns (t ∷ [])) ts) ≡ Some (map row_of vs) → all_there (map (shown_of projection columns) (map (λ (t : Row). t ∷ []) ts)) ≡ Some (map shown_by (zip vs ts))
alone_shown projection columns ts vs e =
    shown_rows projection columns ts ∙ ap (λ (o : Option (List Row)). option_map (λ rows. map shown_by (zip (map (λ (r : Row). r.values) rows) ts)) o) e
    ∙ ap (λ ws. Some (map shown_by (zip ws ts))) (values_again vs)

pub alone_none : (projection : Projection) (columns : List Column) (ts : List Row) → all_there (map (λ (t : Row). projected projection columns (t ∷ [])) ts) ≡ None → all_there (map (shown_of projection columns) (map (λ (t : Row). t ∷ []) ts)) ≡ None
alone_none projection columns ts e = shown_rows projection columns ts ∙ ap (λ (o : Option (List Row)). option_map (λ rows. map shown_by (zip (map (λ (r : Row). r.values) rows) ts)) o) e
