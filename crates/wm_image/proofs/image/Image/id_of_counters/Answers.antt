use Rattle.std.proofs.Common.{ap, ◌∙◌, subst}
use Rattle.wm_index.proofs.Finding.{one_id}
use Rattle.wm_records.proofs.Listed.{Ascend-listed}
use Rattle.wm_ids.specs.Ids.{head_of}
use Rattle.wm_state.specs.ById.{Ascend}
use Rattle.wm_image.proofs.image.Image.id_of_counters.Goals as goal

pub unwrap-requires : goal.unwrap-requires
unwrap-requires c =
    (one_id c.self.inside.kept c.self.inside.index c.self.invariant.0 c.args.self.now c.self.view_is c.requires c.first_id-found.result
    (c.first_id-found.ensures ∙ ap head_of c.as_slice.ensures.value)).0

pub returns-clause-there : goal.returns-clause-there
returns-clause-there c =
    (one_id c.self.inside.kept c.self.inside.index c.self.invariant.0 c.args.self.now c.self.view_is c.requires c.first_id-found.result
    (c.first_id-found.ensures ∙ ap head_of c.as_slice.ensures.value)).1 c.unwrap.result c.unwrap.ensures

pub returns-clause-ascend : goal.returns-clause-ascend
returns-clause-ascend c = subst Ascend c.self.view_is (Ascend-listed c.self.inside.kept.entries c.self.invariant.0.ordered)
