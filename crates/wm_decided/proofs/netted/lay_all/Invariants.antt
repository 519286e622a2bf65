use Rattle.std.proofs.Common.{◌≡◌, map, take}
use Rattle.std.specs.List.{All}
use Rattle.std.specs.Option.{option_map}
use Rattle.wm_decided.specs.Counted.{IsSound, held_under, placed}
use Rattle.wm_decided.specs.Netted.{cells_decided}
use Rattle.wm_net.specs.Places.{last_position}
use Rattle.wm_spec.specs.Lists.{Cell}
use Rattle.wm_decided.proofs.netted.lay_all.Given as goal

abbrev pub invariant-loop-place : goal.invariant-loop-place
invariant-loop-place l =
    ((c : Cell) → held_under l.by_key.entries (c.table, c.key) c.time ≡ option_map placed (last_position (map cells_decided (take l.place l.decisions)) c)) × All IsSound (take l.place l.decisions)
