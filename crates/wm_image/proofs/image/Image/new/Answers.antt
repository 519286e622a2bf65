use Rattle.wm_records.proofs.Cataloguing.{no_catalog}
use Rattle.wm_records.proofs.Hopping.{no_hops}
use Rattle.wm_records.proofs.Pieced.{none_indexed}
use Rattle.wm_index.specs.Indexed.{IsIndexed}
use Rattle.wm_image.proofs.image.Image.new.Goals as goal

pub invariant_of-result : goal.invariant_of-result
invariant_of-result c =
    let indexed : IsIndexed c.new.result c.new-2.result = none_indexed c.new.result c.new-2.result c.new.ensures.ordered c.new.ensures.empty c.new-2.ensures.ids c.new-2.ensures.pieces in
    (indexed, no_catalog c.new.result.entries c.new-4.result c.new.ensures.empty c.new-4.ensures, no_hops c.new.result.entries c.new-3.result c.new.ensures.empty c.new-3.ensures)
