use Rattle.std.proofs.Common.{sym, ◌∙◌}
use Rattle.wm_graph.specs.Parts.{parts_of}
use Rattle.wm_differences.proofs.FirstOn.{first_ends, first_further, first_goes_on, first_here}
use Rattle.wm_differences.proofs.points.first_on_path.Goals as goal

pub returns-then-found-space : goal.returns-then-found-space
returns-then-found-space c =
    first_here (parts_of c.args.image.now) c.args.space c.loop-found.number c.in-Some.found c.requires c.in-Some.ensures c.if-found-space.true ∙ c.loop-found.invariant

pub loop-found-smaller : goal.loop-found-smaller
loop-found-smaller c = (first_goes_on (parts_of c.args.image.now) c.args.space c.loop-found.number c.in-Some.found c.requires (sym c.in-Some.ensures)).1

pub loop-found-preserved : goal.loop-found-preserved
loop-found-preserved c =
    first_further (parts_of c.args.image.now) c.args.space c.loop-found.number c.in-Some.found c.requires c.in-Some.ensures c.if-found-space.false ∙ c.loop-found.invariant

pub returns : goal.returns
returns c =
    sym (first_ends (parts_of c.args.image.now) c.args.space c.loop-found.number c.requires (sym c.version.ensures ∙ c.in_default.is)) ∙ c.loop-found.invariant
