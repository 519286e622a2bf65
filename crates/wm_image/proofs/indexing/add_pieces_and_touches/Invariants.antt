use Rattle.std.proofs.Common.{Bor, map, reverse}
use Rattle.wm_image.proofs.Gaining.{HasFrom}
use Rattle.wm_spec.specs.declared.record.stored.Stored.{Stored}
use Rattle.wm_image.proofs.indexing.add_pieces_and_touches.Given as goal

abbrev pub invariant-loop-one : goal.invariant-loop-one
invariant-loop-one l = HasFrom l.records (reverse (map (λ (y : Bor Stored). y.now) l.yielded)) l.index
