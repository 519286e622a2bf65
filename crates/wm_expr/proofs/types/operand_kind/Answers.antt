use Rattle.std.proofs.Common.{ap, sym, ◌∙◌}
use Rattle.wm_spec.specs.Operands.{suffixed_kind, kind_of, operand_kind}
use Rattle.wm_expr.proofs.types.operand_kind.Goals as goal

pub returns-in-Col : goal.returns-in-Col
returns-in-Col c =
    c.kind_at_end.ensures
    ∙ ap (λ kind. suffixed_kind c.in-Col.col.suffix kind) (c.kind_of.ensures ∙ ap (λ name. kind_of c.in-Col.col.source name c.args.columns.now) c.as_bytes.ensures)
    ∙ sym (ap (λ operand. operand_kind operand c.args.columns.now) c.in-Col.is)
