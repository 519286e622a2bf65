use Rattle.std.proofs.Common.{◌≡◌, ℕ, List, ap, ◌∙◌}
use Rattle.std.proofs.lemmas.Result.{IfOk-weaker}
use Rattle.std.specs.BTreeSet.{contains}
use Rattle.wm_graph.specs.Parts.{as_touch, parts_of}
use Rattle.wm_index.specs.Kinds.{kind_at}
use Rattle.wm_pending.proofs.Touching.{any_at, keys_touched}
use Rattle.wm_pending.specs.Keys.{Place, place_order}
use Rattle.wm_pending.specs.Touched.{has_touch_of, has_touched, is_touch_of}
use Rattle.wm_pending.proofs.touched.touched_keys.Goals as goal

pub returns : goal.returns
returns c =
    IfOk-weaker c.keys_of.result
    (λ keys. (q : Place) → contains place_order keys q ≡ has_touch_of q (kind_at as_touch c.args.image.now c.as_slice.result.now))
    (λ keys. (q : Place) → contains place_order keys q ≡ has_touched (parts_of c.args.image.now).touches c.args.since q)
    (λ keys same q.
    same q
    ∙ ap (λ (ids : List ℕ). any_at as_touch (is_touch_of q) c.args.image.now ids) c.as_slice.ensures.value
    ∙ keys_touched c.args.since q c.args.image.now _ c.law_of_order.ensures c.in_ok-ids.ensures)
    c.keys_of.ensures
