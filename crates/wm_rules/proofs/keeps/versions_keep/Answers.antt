use Rattle.std.proofs.Common.{sym, ap, ◌∙◌}
use Rattle.wm_rules.proofs.Keeping.{versions_told, two_held}
use Rattle.wm_cells.specs.Lookups.{collected, referred}
use Rattle.wm_rules.proofs.keeps.versions_keep.Goals as goal
use Rattle.wm_rules.proofs.keeps.versions_keep.Goals.{then-indexes, else-indexes}

pub returns-then-each_is_version : goal.returns-then-each_is_version
returns-then-each_is_version c =
    elim c.if-indexes.branch [
      | then-indexes w ↦
          c.each_has_versions.ensures
          ∙ two_held c.args.indexes.now.versions.differ _ _ w.if-indexes.true (sym w.each_is_version.ensures ∙ sym w.value-is ∙ c.if-each_is_version.true)
          ∙ versions_told (collected c.args.kinds.now) c.args.indexes.now c.args.next (referred w.as_slice.result.now) (referred c.as_slice-then-each_is_version.result.now) c.requires (ap (λ l. referred l) w.as_slice.ensures.value) (ap (λ l. referred l) c.as_slice-then-each_is_version.ensures.value)
      | else-indexes w ↦ cc w.if-indexes.false
    ]
