-- No text is empty in what is written of rows in which none is.
use Rattle.std.proofs.Common.{◌≡◌, ◌&&◌, Bool, true, List, [], ◌∷◌, map, refl}
use Rattle.std.proofs.lemmas.Bool.{and_from, and_parts}
use Rattle.std.specs.List.{list_all}
use Rattle.wm_base.specs.Period.{Span}
use Rattle.wm_base.specs.declared.row.Row.{Row}
use Rattle.wm_base.specs.declared.value.Value.{Value}
use Rattle.wm_dml.specs.Changing.{added, declared_values, gone, replaced, replacing, row_key}
use Rattle.wm_dml.specs.Standing.{all_stand, is_shown, stands_in}
use Rattle.wm_graph.specs.Rules.{is_key_of, is_row_of}
use Rattle.wm_making.specs.Rows.{is_filled}
use Rattle.wm_spec.specs.declared.record.table.Table.{Table}
use Rattle.wm_change.specs.Changing.{is_filled_change}
use Rattle.wm_chosen.specs.Chosen.{are_keyed, is_keyed_row, is_keyed_shown}
use Rattle.wm_model.proofs.Filled.{declared_filled, filled_key}

abbrev pub are_filled : List Row → Bool
are_filled rows = list_all (λ (r : Row). list_all is_filled r.values) rows

-- in a row that goes
pub gone_filled : (t : Table) (within : Span) (rows : List Row) → are_filled rows ≡ true → list_all is_filled_change (map (gone t within) rows) ≡ true
gone_filled t within [] all = refl
gone_filled t within (r ∷ rs) all =
    let h = and_parts (list_all is_filled r.values) (are_filled rs) all in
    and_from (is_filled_change (gone t within r)) (list_all is_filled_change (map (gone t within) rs))
    (and_from (list_all is_filled (row_key t (declared_values t r.values))) true (filled_key t (declared_values t r.values) (declared_filled t r.values h.0)) refl) (gone_filled t within rs h.1)

-- in rows that take the places of others
pub replacing_filled : (t : Table) (within : Span) (olds : List Row) (news : List (List Value)) → list_all (stands_in t) news ≡ true → list_all is_filled_change (replacing t within olds news) ≡ true
replacing_filled t within [] news all = refl
replacing_filled t within (o ∷ olds) [] all = refl
replacing_filled t within (o ∷ olds) (r ∷ rs) all =
    let h = and_parts (stands_in t r) (list_all (stands_in t) rs) all in
    let k = and_parts (is_row_of r t) (is_key_of (row_key t r) t && list_all is_filled r) h.0 in
    let f = (and_parts (is_key_of (row_key t r) t) (list_all is_filled r) k.1).1 in
    and_from (is_filled_change (replaced t within o r)) (list_all is_filled_change (replacing t within olds rs)) (and_from (list_all is_filled (row_key t r)) (list_all is_filled r) (filled_key t r f) f)
    (replacing_filled t within olds rs h.1)

-- in a new row
pub added_filled : (t : Table) (period : Span) (row : List Value) → list_all is_filled row ≡ true → list_all is_filled_change (added t period row ∷ []) ≡ true
added_filled t period row filled =
    and_from (is_filled_change (added t period row)) true (and_from (list_all is_filled (row_key t row)) (list_all is_filled row) (filled_key t row filled) filled) refl

-- rows of the table under keys of it, in which no text is empty, stand in it
pub keyed_stand : (t : Table) (rows : List Row) → are_keyed t rows ≡ true → are_filled rows ≡ true → all_stand t rows ≡ true
keyed_stand t [] keyed filled = refl
keyed_stand t (r ∷ rs) keyed filled =
    let k = and_parts (is_keyed_shown t r) (are_keyed t rs) keyed in
    let f = and_parts (list_all is_filled r.values) (are_filled rs) filled in
    let vs = declared_values t r.values in
    let shown = and_parts (is_keyed_row t vs) _ k.0 in
    let row = and_parts (is_row_of vs t) (is_key_of (row_key t vs) t) shown.0 in
    and_from (is_shown t r.values) (all_stand t rs)
    (and_from (stands_in t vs) _
    (and_from (is_row_of vs t) (is_key_of (row_key t vs) t && list_all is_filled vs) row.0 (and_from (is_key_of (row_key t vs) t) (list_all is_filled vs) row.1 (declared_filled t r.values f.0))) shown.1)
    (keyed_stand t rs k.1 f.1)
