use Rattle.std.proofs.Common.{ap, ◌∙◌}
use Rattle.wm_chunks.proofs.Joining.{last_in}
use Rattle.wm_chunks.specs.Numbers.{last_number}
use Rattle.wm_chunks.proofs.chunks.greatest.Goals as goal

pub returns-in-Some : goal.returns-in-Some
returns-in-Some g c =
    c.last.ensures ∙ ap last_number c.as_slice.ensures.value
    ∙ last_in c.args.chunks.now.entries c.in-Some.field-0-0.now c.in-Some.chunk.now c.requires c.in-Some.ensures.last c.in-Some.ensures.value
