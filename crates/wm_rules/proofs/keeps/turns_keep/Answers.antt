use Rattle.std.proofs.Common.{ap, ◌∙◌}
use Rattle.wm_rules.proofs.Keeping.{turns_told}
use Rattle.wm_cells.specs.Lookups.{collected, referred}
use Rattle.wm_rules.proofs.keeps.turns_keep.Goals as goal

pub returns : goal.returns
returns c =
    c.in_ok-kept.ensures
    ∙ turns_told (collected c.args.kinds.now) c.args.indexes.now (referred c.as_slice-spaces.result.now) (referred c.as_slice.result.now) c.requires (ap (λ l. referred l) c.as_slice-spaces.ensures.value) (ap (λ l. referred l) c.as_slice.ensures.value)
