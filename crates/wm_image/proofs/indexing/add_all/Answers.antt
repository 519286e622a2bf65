use Rattle.std.proofs.lemmas.Result.{on_ok_weaker}
use Rattle.wm_image.proofs.Gaining.{index_of_all}
use Rattle.wm_image.proofs.indexing.add_all.Goals as goal

pub returns : goal.returns
returns c = on_ok_weaker c.add_pieces_and_touches.result (index_of_all c.args.records.now c.add_pieces_and_touches.new.index) c.add_pieces_and_touches.ensures
