use Rattle.std.proofs.Common.{ℕ, ◌||◌, List, Bool, Option, get_or, take, sym, ap, ◌∙◌, arith}
use Rattle.std.proofs.lemmas.List.{take_more}
use Rattle.std.specs.BTreeSet.{contains}
use Rattle.std.specs.Option.{option_and_then, option_to_list}
use Rattle.wm_graph.specs.Parts.{as_touch}
use Rattle.wm_spec.specs.Records.{record_at}
use Rattle.wm_spec.specs.declared.record.Record.{Record}
use Rattle.wm_pending.proofs.Touching.{any_at, any_at-push}
use Rattle.wm_pending.specs.Keys.{place_order}
use Rattle.wm_pending.specs.Touched.{has_touch_of, is_touch_of}
use Rattle.wm_pending.proofs.touched.keys_of.Goals as goal

pub loop-id-preserved : goal.loop-id-preserved
loop-id-preserved c = λ q.
    let i = c.loop-id.id-index in
    let ids = c.args.ids.now in
    c.in_ok-add_key.ensures q
    ∙ ap (λ (o : Option Record). contains place_order c.loop-id.keys q || has_touch_of q (option_to_list (option_and_then as_touch o))) c.record.ensures
    ∙ ap (λ (b : Bool). b || has_touch_of q (option_to_list (option_and_then as_touch (record_at c.args.image.now (get_or ids i 0))))) (c.loop-id.invariant q)
    ∙ sym (any_at-push as_touch (is_touch_of q) c.args.image.now (take i ids) (get_or ids i 0))
    ∙ ap (λ (l : List ℕ). any_at as_touch (is_touch_of q) c.args.image.now l) (sym (take_more ids i 0 (omega (arith, c.loop-id-test.true))))
