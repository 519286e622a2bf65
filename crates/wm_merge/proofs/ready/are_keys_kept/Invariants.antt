use Rattle.std.proofs.Common.{◌≡◌, drop, map}
use Rattle.wm_model.specs.Merged.{are_keys_kept}
use Rattle.wm_pending.specs.Owned.{key_pieces}
use Rattle.wm_merge.proofs.ready.are_keys_kept.Given as goal

abbrev pub invariant-loop-key : goal.invariant-loop-key
invariant-loop-key l = are_keys_kept (map key_pieces (drop l.key-index l.own)) ≡ are_keys_kept (map key_pieces l.own)
