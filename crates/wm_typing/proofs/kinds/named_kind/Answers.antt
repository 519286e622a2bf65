use Rattle.std.proofs.Common.{ap, sym, ◌∙◌}
use Rattle.wm_spec.specs.Operands.{suffixed_kind}
use Rattle.wm_typing.specs.Names.{kind_named, named_kind}
use Rattle.wm_typing.proofs.kinds.named_kind.Goals as goal

pub returns-in-Col : goal.returns-in-Col
returns-in-Col c =
    c.kind_at_end.ensures
    ∙ ap (λ kind. suffixed_kind c.in-Col.col.suffix kind) (c.kind_named.ensures ∙ ap (λ name. kind_named c.in-Col.col.source name c.args.columns.now) c.as_bytes.ensures)
    ∙ sym (ap (λ operand. named_kind operand c.args.columns.now) c.in-Col.is)
