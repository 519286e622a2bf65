-- What a workspace has of its own, as the code has it.
use Rattle.wm_state.specs.Copied.{KeyPieces}
use Rattle.wm_pending.specs.declared.own.OwnKey.{OwnKey}

abbrev pub key_pieces : OwnKey → KeyPieces
key_pieces k = record { table = k.table; key = k.key; pieces = k.pieces }
