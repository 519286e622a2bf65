use Rattle.wm_records.proofs.Hopping.{no_hops}
use Rattle.wm_records.proofs.Pieced.{none_indexed}
use Rattle.wm_image.proofs.image.Image.of.Goals as goal

pub put_with_catalog-requires-clause-indexed : goal.put_with_catalog-requires-clause-indexed
put_with_catalog-requires-clause-indexed c =
    none_indexed c.new-kept.result c.new-index.result c.new-kept.ensures.ordered c.new-kept.ensures.empty c.new-index.ensures.ids c.new-index.ensures.pieces

pub put_with_catalog-requires-clause-hops : goal.put_with_catalog-requires-clause-hops
put_with_catalog-requires-clause-hops c = no_hops c.new-kept.result.entries c.new-hops.result c.new-kept.ensures.empty c.new-hops.ensures
