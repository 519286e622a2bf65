use Rattle.std.proofs.Common.{ℕ, List, ap, ◌∙◌}
use Rattle.wm_base.specs.Key.{key_order}
use Rattle.wm_base.specs.declared.value.Value.{Value}
use Rattle.wm_ids.proofs.TableLists.{keys_found}
use Rattle.wm_ids.specs.Ids.{ids_in}
use Rattle.wm_index.specs.Sought.{LocksOn, ids_with, is_sought}
use Rattle.wm_image.proofs.image.Image.locked_keys.Goals as goal

pub returns : goal.returns
returns c = λ key.
    ap (λ (es : List (List Value × List ℕ)). ids_in key_order es key) (ap keys_found c.get.ensures.value)
    ∙ c.self.invariant.0.told (LocksOn c.args.table key)
    ∙ ap (ids_with (is_sought (LocksOn c.args.table key))) c.self.view_is
