use Rattle.std.proofs.Common.{List, ap, ◌∙◌}
use Rattle.wm_base.specs.Period.{Span}
use Rattle.wm_dml.specs.Moving.{clash_in}
use Rattle.wm_dml.specs.declared.moving.Shift.{Shift}
use Rattle.wm_graph.specs.Parts.{parts_of}
use Rattle.wm_change.proofs.MovedRows.{finds_at}
use Rattle.wm_change.proofs.moving.clash_at.Goals as goal

pub returns : goal.returns
returns c =
    finds_at (parts_of c.args.image.now) c.args.version c.args.table.now c.args.key.now c.in_ok-spans.spans.items c.args.shifts.now c.in_ok-found.found c.in_ok-spans.ensures
    (c.in_ok-found.ensures ∙ ap (λ (ps : List Span). clash_in c.of.result.now ps) c.as_slice.ensures.value ∙ ap (λ (xs : List Shift). clash_in xs c.in_ok-spans.spans.items) c.of.ensures)
