use Rattle.wm_append.proofs.Entering.{marks_more, pieces_more}
use Rattle.std.proofs.Common.{◌-◌}
use Rattle.wm_changes.proofs.Putting.{one_more}
use Rattle.wm_graph.specs.Parts.{parts_of}
use Rattle.wm_replay.proofs.Entering.{hists_more}
use Rattle.wm_replay.proofs.entered.enter.Goals as goal

pub loop-entry-preserved : goal.loop-entry-preserved
loop-entry-preserved c = record {
  pieces = pieces_more c.args.version c.loop-entry.yielded c.in-Some.entry c.loop-entry.entered.pieces.items c.add_entry.new.entered.pieces.items c.loop-entry.invariant.pieces c.in_ok-add_entry.ensures.pieces;
  marks = marks_more (c.args.space.now.next_place - 1) c.args.space.now.log_length c.loop-entry.position c.loop-entry.yielded c.in-Some.entry c.loop-entry.entered.marks.items c.add_entry.new.entered.marks.items c.loop-entry.invariant.marks
      c.loop-entry.invariant.position c.in_ok-add_entry.ensures.marks;
  hists = hists_more (parts_of c.args.image.now).tables c.has_history.result c.args.space.now.number c.args.space.now.log_length c.loop-entry.position c.loop-entry.yielded c.in-Some.entry c.loop-entry.entered.hists.items c.add_entry.new.entered.hists.items
      c.loop-entry.invariant.hists c.loop-entry.invariant.position c.has_history.ensures c.in_ok-add_entry.ensures.hists;
  position = one_more c.args.space.now.log_length c.loop-entry.position c.loop-entry.yielded c.in-Some.entry c.loop-entry.invariant.position;
}
