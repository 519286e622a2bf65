use Rattle.std.proofs.Common.{List, subst}
use Rattle.std.specs.Option.{IfSome}
use Rattle.wm_graph.specs.Parts.{parts_of}
use Rattle.wm_records.proofs.Hopping.{hop_told}
use Rattle.wm_records.specs.Hops.{IsHop}
use Rattle.wm_index.specs.Indexed.{listed}
use Rattle.wm_spec.specs.declared.record.stored.Stored.{Stored}
use Rattle.wm_image.proofs.image.Image.hop.Goals as goal

pub returns : goal.returns
returns c =
    subst (λ (ss : List Stored). IfSome c.hop.result (IsHop (parts_of ss).versions c.args.number)) c.self.view_is
    (hop_told (parts_of (listed c.self.inside.kept.entries)).versions c.self.inside.hops c.args.number c.hop.result c.hop.ensures c.self.invariant.2)
