use Rattle.std.proofs.Common.{ap, ◌∙◌}
use Rattle.wm_rules.proofs.Keeping.{spaces_told}
use Rattle.wm_cells.specs.Lookups.{collected, referred}
use Rattle.wm_rules.proofs.keeps.spaces_keep.Goals as goal

pub returns-then-indexes : goal.returns-then-indexes
returns-then-indexes c =
    c.are_spaces.ensures
    ∙ spaces_told (collected c.args.kinds.now) c.args.indexes.now (referred c.as_slice.result.now) c.requires (ap (λ l. referred l) c.as_slice.ensures.value) c.if-indexes.true
