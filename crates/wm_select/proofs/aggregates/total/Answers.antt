use Rattle.std.proofs.Common.{◌≡◌, ℤ, ◌+◌, ◌+ℤ◌, ◌∷◌, List, drop, arith, ap, sym, ◌∙◌}
use Rattle.std.proofs.lemmas.Int.{ints}
use Rattle.std.proofs.lemmas.List.{drop_more}
use Rattle.wm_base.specs.declared.value.Value.{Value}
use Rattle.wm_select.specs.Aggregates.{present, total}
use Rattle.wm_select.proofs.TotalLemmas.{total_more}
use Rattle.wm_select.proofs.aggregates.total.Goals as goal

pub loop-value-preserved : goal.loop-value-preserved
loop-value-preserved c =
    let values = c.args.values.now in
    let rest : List Value = drop (c.loop-value.value-index + 1) values in
    let front : drop c.loop-value.value-index values ≡ c.value-item.result ∷ rest =
    drop_more values c.loop-value.value-index c.value-item.result c.loop-value-test.true ∙ ap (λ (v : Value). v ∷ rest) (sym c.value-item.is) in
    let one : total (present (drop c.loop-value.value-index values)) ≡ c.number.result +ℤ total (present rest) =
    ap (λ (vs : List Value). total (present vs)) front ∙ total_more c.value-item.result rest ∙ ap (λ (n : ℤ). n +ℤ total (present rest)) (sym c.number.ensures) in
    record { sum = omega (arith, ints, one); low = omega (arith, ints); high = omega (arith, ints) }
