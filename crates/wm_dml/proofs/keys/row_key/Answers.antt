use Rattle.std.proofs.Common.{◌≡◌, ◌+◌, ◌<◌, ◌∙◌, ◌++◌, ◌∷◌, [], length, drop, get_or, slice_get, Some, None, sym, ap, arith}
use Rattle.std.proofs.lemmas.Grind.{common_steps}
use Rattle.std.proofs.lemmas.Option.{gets}
use Rattle.std.specs.Prelude.{option_map}
use Rattle.wm_graph.specs.Rules.{values_at}
use Rattle.wm_dml.proofs.Gathered.{lacking, gathered}
use Rattle.wm_dml.proofs.keys.row_key.Goals as goal

pub returns-in-None : goal.returns-in-None
returns-in-None c =
    let items : c.as_slice-places.result.now ≡ c.args.table.now.key_columns = c.as_slice-places.ensures in
    let near : c.loop-place.place-index < length c.args.table.now.key_columns = omega (arith, ap length items) in
    let none : slice_get c.args.row.now (get_or c.as_slice-places.result.now c.loop-place.place-index 0) ≡ None = grind (arith, common_steps, gets, c.in-None.ensures.lookup.3) in
    let empty = lacking c.args.table.now c.args.row.now c.loop-place.key c.loop-place.place-index near
    (ap (λ places. slice_get c.args.row.now (get_or places c.loop-place.place-index 0)) (sym items) ∙ none) c.loop-place.invariant in
    c.from_values.ensures ∙ c.new.ensures ∙ sym empty

pub loop-place-preserved : goal.loop-place-preserved
loop-place-preserved c =
    let items : c.as_slice-places.result.now ≡ c.args.table.now.key_columns = c.as_slice-places.ensures in
    let near : c.loop-place.place-index < length c.args.table.now.key_columns = omega (arith, ap length items) in
    let held : slice_get c.args.row.now (get_or c.as_slice-places.result.now c.loop-place.place-index 0) ≡ Some c.in-Some.value.now = grind (arith, common_steps, gets, c.in-Some.ensures.lookup.1) in
    let copied : c.in_ok-copy-in-Some.field-0 ≡ c.in-Some.value.now = c.in_ok-copy-in-Some.ensures in
    let pushed : c.push.new.self ≡ c.loop-place.key ++ c.in_ok-copy-in-Some.field-0 ∷ [] = c.in_ok-push-in-Some.ensures.ok in
    gathered c.args.table.now.key_columns c.args.row.now c.loop-place.key c.loop-place.place-index c.in_ok-copy-in-Some.field-0 near
    (ap (λ places. slice_get c.args.row.now (get_or places c.loop-place.place-index 0)) (sym items) ∙ held ∙ ap (λ v. Some v) (sym copied)) c.loop-place.invariant
    ∙ ap (λ key. option_map (λ vs. key ++ vs) (values_at (drop (c.loop-place.place-index + 1) c.args.table.now.key_columns) c.args.row.now)) (sym pushed)
