use Rattle.std.proofs.Common.{sym, ◌∙◌}
use Rattle.wm_grammar.specs.Literals.{is_bad_in_line}
use Rattle.wm_literals.specs.Places.{before}
use Rattle.wm_literals.proofs.Scanning.{room_starts, room_goes_on, line_starts, moved}
use Rattle.wm_literals.proofs.literals.bad_literal.Goals as goal

pub symbols-init : goal.symbols-init
symbols-init c = record {
  same = line_starts (before c.beginning-place.result) c.new-cursor.result c.args.line.now c.beginning-place.ensures c.new-cursor.ensures;
  room = room_starts (before c.beginning-place.result) c.new-cursor.result c.args.line.now c.beginning-place.ensures c.new-cursor.ensures c.requires;
}

pub symbols-preserved : goal.symbols-preserved
symbols-preserved c = record {
  same = c.symbols.invariant.same
      ∙ moved is_bad_in_line (before c.symbols.place) c.symbols.cursor (before c.after-place.result) c.advance.new.self (sym c.symbols-test.ensures) (sym c.in_ok-bad.ensures ∙ c.if-bad.false) c.after-place.ensures c.advance.ensures;
  room = room_goes_on (before c.symbols.place) c.symbols.cursor (before c.after-place.result) c.advance.new.self (sym c.symbols-test.ensures) c.after-place.ensures c.advance.ensures c.symbols.invariant.room;
}
