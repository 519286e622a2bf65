use Rattle.std.proofs.Common.{sym, ◌∙◌}
use Rattle.wm_rules.proofs.Keeping.{marks_last}
use Rattle.wm_cells.specs.Lookups.{found, referred}
use Rattle.wm_rules.proofs.keeps.marks_keep.Goals as goal

pub are_apart-requires : goal.are_apart-requires
are_apart-requires c =
    marks_last (found c.args.indexes.now.tables.index.entries) (found c.args.indexes.now.spaces.index.entries) (referred c.as_slice-list.result.now) (sym c.each_is_mark.ensures ∙ c.if-not-each_is_mark.false)
