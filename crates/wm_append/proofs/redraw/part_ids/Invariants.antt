-- those that were taken are parted
use Rattle.std.proofs.Common.{◌≡◌}
use Rattle.wm_append.specs.Layers.{view_of}
use Rattle.wm_append.specs.Redraw.{met, unmet}
use Rattle.wm_append.proofs.redraw.part_ids.Given as goal

abbrev pub invariant-loop-id : goal.invariant-loop-id
invariant-loop-id l = record {
  met : l.met.items ≡ met (view_of l.layer) l.image l.new l.yielded;
  unmet : l.unmet.items ≡ unmet (view_of l.layer) l.image l.new l.yielded;
}
