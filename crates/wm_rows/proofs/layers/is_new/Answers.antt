use Rattle.std.proofs.Common.{◌≤◌, ◌≡◌, length, arith}
use Rattle.wm_rows.proofs.Times.{times-le, length-maps_of}
use Rattle.wm_rows.specs.Counts.{times}
use Rattle.wm_rows.specs.Maps.{maps_of}
use Rattle.wm_rows.proofs.layers.is_new.Goals as goal

pub returns-clause-few : goal.returns-clause-few
returns-clause-few c =
    let few : times (maps_of c.args.layers.now.entries) c.args.row.now ≤ length (maps_of c.args.layers.now.entries) = times-le (maps_of c.args.layers.now.entries) c.args.row.now in
    let long : length (maps_of c.args.layers.now.entries) ≡ length c.args.layers.now.entries = length-maps_of c.args.layers.now.entries in
    omega arith
