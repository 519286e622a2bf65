use Rattle.std.proofs.Common.{refl, sym, ap, ◌∙◌, arith}
use Rattle.std.specs.Option.{option_copied}
use Rattle.wm_graph.specs.Parts.{parts_of}
use Rattle.wm_views.proofs.Querying.{parent_found}
use Rattle.wm_views.proofs.looking.family_of.Goals as goal

pub unwrap-parent-requires : goal.unwrap-parent-requires
unwrap-parent-requires c = parent_found (parts_of c.args.image.now) c.args.space.now c.space.result c.requires.rules (omega (arith, c.if-space-eq0.false)) c.requires.there c.space.ensures

pub returns : goal.returns
returns c = (refl, (omega (arith, c.if-space-eq0.false), sym c.space.ensures ∙ ap option_copied c.unwrap-parent.ensures))
