use Rattle.wm_append.proofs.Entering.{hists_more, marks_more, pieces_more, rows_more}
use Rattle.wm_changes.proofs.Putting.{one_more}
use Rattle.wm_append.proofs.append.entered.enter.Goals as goal

pub loop-entry-preserved : goal.loop-entry-preserved
loop-entry-preserved c = record {
  rows = rows_more c.loop-entry.yielded c.in-Some.entry c.loop-entry.entered.rows.items c.add_entry.new.entered.rows.items c.loop-entry.invariant.rows c.in_ok-add_entry.ensures.rows;
  pieces = pieces_more c.args.target.version c.loop-entry.yielded c.in-Some.entry c.loop-entry.entered.pieces.items c.add_entry.new.entered.pieces.items c.loop-entry.invariant.pieces c.in_ok-add_entry.ensures.pieces;
  marks = marks_more c.args.target.place c.args.position c.loop-entry.position c.loop-entry.yielded c.in-Some.entry c.loop-entry.entered.marks.items c.add_entry.new.entered.marks.items c.loop-entry.invariant.marks c.loop-entry.invariant.position
      c.in_ok-add_entry.ensures.marks;
  hists = hists_more c.args.target.history c.args.target.space c.args.position c.loop-entry.position c.loop-entry.yielded c.in-Some.entry c.loop-entry.entered.hists.items c.add_entry.new.entered.hists.items c.loop-entry.invariant.hists
      c.loop-entry.invariant.position c.in_ok-add_entry.ensures.hists;
  position = one_more c.args.position c.loop-entry.position c.loop-entry.yielded c.in-Some.entry c.loop-entry.invariant.position;
}
