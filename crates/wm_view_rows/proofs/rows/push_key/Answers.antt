use Rattle.std.proofs.Common.{◌+◌, ◌<◌, ◌++◌, ◌∷◌, [], List, ℕ, drop, length, ap, ◌∙◌, arith}
use Rattle.wm_base.specs.declared.value.Value.{Value}
use Rattle.wm_view_rows.specs.Rows.{key_value, key_values}
use Rattle.wm_view_rows.proofs.Keys.{keys_more}
use Rattle.wm_view_rows.proofs.rows.push_key.Goals as goal

pub loop-place-preserved : goal.loop-place-preserved
loop-place-preserved c =
    let places : List ℕ = c.args.table.now.key_columns in
    let key : List Value = c.args.key.now in
    let n : ℕ = c.loop-place.place in
    let within : n < length c.args.table.now.columns = omega (arith, c.loop-place-test.true, c.len-place-end.ensures) in
    let value = c.in_ok-key_value.ensures ∙ ap (λ (ps : List ℕ). key_value ps c.values.result.now n) c.as_slice-places.ensures ∙ ap (λ (k : List Value). key_value places k n) c.values.ensures in
    ap (λ (vs : List Value). vs ++ key_values places key (n + 1) (drop (n + 1) c.args.table.now.columns)) (c.in_ok-push.ensures.ok ∙ ap (λ (v : Value). c.loop-place.values ++ v ∷ []) value)
    ∙ keys_more places key c.loop-place.values n c.args.table.now.columns within ∙ c.loop-place.invariant
