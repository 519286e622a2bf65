-- the pieces of the keys that were gone through are behind the others
use Rattle.std.proofs.Common.{◌≡◌, ◌++◌, map, take}
use Rattle.wm_pending.specs.Owned.{key_pieces}
use Rattle.wm_spec.specs.declared.record.Record.TheVariants as records
use Rattle.wm_state.specs.Copied.{pieces_for}
use Rattle.wm_replay.proofs.rebases.push_keys.Given as goal

abbrev pub invariant-loop-key : goal.invariant-loop-key
invariant-loop-key l = l.news.items ≡ l.initial.news.items ++ map records.Piece (pieces_for l.version (map key_pieces (take l.key-index l.own)))
