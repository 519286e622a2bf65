use Rattle.std.proofs.Common.{sym, ap, ◌∙◌}
use Rattle.std.specs.Option.{option_copied}
use Rattle.wm_chunks.proofs.Joining.{found_in, found_none}
use Rattle.wm_chunks.specs.Numbers.{value_at}
use Rattle.wm_chunks.proofs.chunks.find.Goals as goal

pub returns-in-Some : goal.returns-in-Some
returns-in-Some g c =
    c.get-in-Some.ensures
    ∙ ap (λ es. value_at es c.args.number) c.as_slice.ensures.value
    ∙ sym (found_in c.args.chunks.now.entries c.args.number c.in-Some.chunk.now c.requires (sym c.get.ensures.value ∙ ap option_copied c.in-Some.is))

pub returns-in-None : goal.returns-in-None
returns-in-None g c = sym (found_none c.args.chunks.now.entries c.args.number c.requires (sym c.get.ensures.value ∙ ap option_copied c.in-None.is))
