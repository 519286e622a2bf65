use Rattle.std.proofs.Common.{ap, ◌∙◌}
use Rattle.std.specs.Option.{option_copied}
use Rattle.wm_graph.specs.Parts.{parts_of}
use Rattle.wm_index.proofs.Finding.{counters_told, one_counters}
use Rattle.wm_index.specs.Indexed.{listed}
use Rattle.wm_index.specs.Sought.{first_of}
use Rattle.wm_image.proofs.image.Image.counters.Goals as goal

pub unwrap-requires : goal.unwrap-requires
unwrap-requires c =
    (one_counters (parts_of c.args.self.now) c.counters_of-found.result c.requires
    (counters_told c.self.inside.kept c.self.inside.index c.self.invariant.0 c.args.self.now c.self.view_is (option_copied c.first.result) c.counters_of-found.result
    (c.first.ensures ∙ ap (first_of (listed c.self.inside.kept.entries)) c.as_slice.ensures.value) c.counters_of-found.ensures)).0

pub returns : goal.returns
returns c =
    (one_counters (parts_of c.args.self.now) c.counters_of-found.result c.requires
    (counters_told c.self.inside.kept c.self.inside.index c.self.invariant.0 c.args.self.now c.self.view_is (option_copied c.first.result) c.counters_of-found.result
    (c.first.ensures ∙ ap (first_of (listed c.self.inside.kept.entries)) c.as_slice.ensures.value) c.counters_of-found.ensures)).1 c.unwrap.result c.unwrap.ensures
