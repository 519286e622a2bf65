use Rattle.std.proofs.Common.{◌↔◌, List, sym, ◌∙◌, subst}
use Rattle.std.specs.List.{Contains}
use Rattle.wm_base.specs.declared.value.Value.{Value}
use Rattle.wm_rows.proofs.CountLaws.{keys_stored}
use Rattle.wm_rows.specs.Maps.{maps_of}
use Rattle.wm_rows.specs.Rows.{Layers, IsStored}
use Rattle.wm_rows.proofs.rows.Rows.keys.Goals as goal

pub returns-clause-stored : goal.returns-clause-stored
returns-clause-stored c = λ key.
    let P : List (List Value) → Type 0 = λ keys. Contains keys key ↔ IsStored (maps_of c.self.inside.layers.entries) c.args.table key in
    let Q : Layers → Type 0 = λ layers. Contains c.from_vec.result key ↔ IsStored layers c.args.table key in
    subst Q c.self.view_is
    (subst P (sym (c.from_vec.ensures ∙ c.in_ok-keys.ensures.keys))
    (keys_stored (maps_of c.self.inside.layers.entries) (maps_of c.self.inside.counts.entries) c.args.table key c.self.invariant))
