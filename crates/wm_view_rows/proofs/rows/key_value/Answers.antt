use Rattle.std.proofs.Common.{◌≡◌, ◌==◌, false, get_or, sym, ◌∙◌, arith}
use Rattle.std.proofs.lemmas.Bool.{ne_eqb}
use Rattle.wm_view_rows.proofs.Keys.{key_next}
use Rattle.wm_view_rows.proofs.rows.key_value.Goals as goal

pub loop-index-preserved : goal.loop-index-preserved
loop-index-preserved c =
    let other : (get_or c.args.places.now c.loop-index.index 0 == c.args.place) ≡ false =
    ne_eqb (get_or c.args.places.now c.loop-index.index 0) c.args.place (λ same. absurd (omega (arith, same, c.from.ensures, c.if-from-place.false))) in
    sym (key_next c.args.places.now c.args.key.now c.loop-index.index c.args.place c.loop-index-test.true other) ∙ c.loop-index.invariant
