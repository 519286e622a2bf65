use Rattle.std.proofs.Common.{arith}
use Rattle.std.specs.Option.{option_copied}
use Rattle.wm_making.proofs.Shapes.{near_place}
use Rattle.wm_making.proofs.table.key_places.Goals as goal

pub overflow_cast-place : goal.overflow_cast-place
overflow_cast-place c = omega (arith, near_place (option_copied c.args.key) c.args.columns.now c.requires.some)
