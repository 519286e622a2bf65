use Rattle.std.proofs.Common.{sym, ap, ◌∙◌, Option, ℕ}
use Rattle.std.specs.Prelude.{is_some}
use Rattle.wm_grammar.specs.Literals.{is_bad}
use Rattle.wm_literals.specs.Places.{before}
use Rattle.wm_literals.proofs.Scanning.{room_starts, room_goes_on, within_starts, moved}
use Rattle.wm_literals.proofs.literals.is_bad_within.Goals as goal

pub symbols-init : goal.symbols-init
symbols-init c = record {
  same = within_starts (before c.beginning-place.result) c.new-cursor.result c.args.bytes.now c.beginning-place.ensures c.new-cursor.ensures;
  room = room_starts (before c.beginning-place.result) c.new-cursor.result c.args.bytes.now c.beginning-place.ensures c.new-cursor.ensures c.requires;
}

pub symbols-preserved : goal.symbols-preserved
symbols-preserved c = record {
  same = c.symbols.invariant.same ∙ ap (λ (o : Option ℕ). is_some o)
      (moved is_bad (before c.symbols.place) c.symbols.cursor (before c.after-place.result) c.advance.new.self (sym c.symbols-test.ensures) (sym c.if-is_bad.ensures) c.after-place.ensures c.advance.ensures);
  room = room_goes_on (before c.symbols.place) c.symbols.cursor (before c.after-place.result) c.advance.new.self (sym c.symbols-test.ensures) c.after-place.ensures c.advance.ensures c.symbols.invariant.room;
}
