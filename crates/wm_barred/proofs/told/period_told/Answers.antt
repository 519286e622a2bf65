use Rattle.std.proofs.Common.{◌≡◌, if◌then◌else◌, Option, Some, None, sym, ap, ◌∙◌}
use Rattle.wm_base.specs.Period.{Span}
use Rattle.wm_graph.specs.Parts.{parts_of}
use Rattle.wm_guard.specs.Barring.{span_of}
use Rattle.wm_barred.proofs.Looks.{period_is}
use Rattle.wm_barred.proofs.told.period_told.Goals as goal

pub returns-then-table : goal.returns-then-table
returns-then-table c =
    ap (λ (s : Span). Some s) c.period_of.ensures
    ∙ ap (λ b. if b then Some (span_of c.args.cells.now) else None) (sym c.if-table.true)
    ∙ sym (period_is (parts_of c.args.image.now) c.args.cells.now (Some c.in-Some.table.now) c.in-Some.ensures)

pub returns-else-table : goal.returns-else-table
returns-else-table c =
    ap (λ b. if b then Some (span_of c.args.cells.now) else None) (sym c.if-table.false)
    ∙ sym (period_is (parts_of c.args.image.now) c.args.cells.now (Some c.in-Some.table.now) c.in-Some.ensures)

pub returns-in-None : goal.returns-in-None
returns-in-None c = sym (period_is (parts_of c.args.image.now) c.args.cells.now None c.in-None.ensures)
