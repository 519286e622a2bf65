use Rattle.wm_rows.proofs.EntryLaws.{held_at-pieces_of}
use Rattle.wm_rows.proofs.laws.a_list_holds_what_its_pieces_hold.Goals as goal

pub returns : goal.returns
returns c = held_at-pieces_of
