use Rattle.std.proofs.Common.{◌≡◌, drop}
use Rattle.std.specs.Option.{option_copied}
use Rattle.wm_graph.specs.Parts.{as_space, parts_of}
use Rattle.wm_image.specs.Shown.{least, lesser}
use Rattle.wm_index.specs.Kinds.{kind_at}
use Rattle.wm_space.proofs.Depending.{takes}
use Rattle.wm_state.specs.Firsts.{first_recorded}
use Rattle.wm_space.proofs.dependent.first_dependent.Given as goal

abbrev pub invariant-loop-id : goal.invariant-loop-id
invariant-loop-id l =
    lesser (option_copied l.first) (least (takes l.ground l.space l.savepoint) (kind_at as_space l.ground.image.now (drop l.id-index l.id-items)))
    ≡ first_recorded (takes l.ground l.space l.savepoint) (parts_of l.ground.image.now).spaces
