use Rattle.std.proofs.Common.{List, sym, ap, subst}
use Rattle.std.specs.declared.alloc.Global.{Global}
use Rattle.std.specs.declared.vec.Vec.{Vec}
use Rattle.wm_base.specs.declared.value.Value.{Value}
use Rattle.wm_ids.proofs.TableLists.{keys_found}
use Rattle.wm_ids.specs.Ids.{keyed_at}
use Rattle.wm_ids.specs.declared.versioned.Versioned.{Versioned}
use Rattle.wm_spec.specs.declared.record.stored.Stored.{Stored}
use Rattle.wm_image.proofs.Keyed.{keys_told}
use Rattle.wm_image.specs.Shown.{AreKeysOf}
use Rattle.wm_image.proofs.image.Image.keys_of.Goals as goal

pub returns : goal.returns
returns c =
    subst (λ (es : List (List Value × Vec Versioned Global)). AreKeysOf c.args.self.now c.args.table es) (sym (ap keys_found c.get.ensures.value))
    (subst (λ (ss : List Stored). AreKeysOf ss c.args.table (keyed_at c.self.inside.index.pieces.entries c.args.table)) c.self.view_is
    (keys_told c.self.inside.kept c.self.inside.index c.self.invariant.0 c.args.table))
