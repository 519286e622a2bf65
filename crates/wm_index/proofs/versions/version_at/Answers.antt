use Rattle.std.proofs.Common.{ap, ◌∙◌}
use Rattle.std.specs.Option.{option_and_then}
use Rattle.wm_graph.specs.Parts.{as_version}
use Rattle.wm_index.proofs.Finding.{version_found}
use Rattle.wm_index.specs.Indexed.{listed}
use Rattle.wm_index.specs.Sought.{first_of}
use Rattle.wm_index.proofs.versions.version_at.Goals as goal

pub returns : goal.returns
returns c =
    c.version_of.ensures
    ∙ ap (option_and_then as_version) (c.first.ensures ∙ ap (first_of (listed c.args.kept.now.entries)) c.ids_of.ensures)
    ∙ version_found c.args.kept.now c.args.index.now c.requires c.args.number
