use Rattle.std.proofs.Common.{ap, ◌∙◌}
use Rattle.std.specs.List.{filter}
use Rattle.wm_spec.specs.Records.{record_at}
use Rattle.wm_lifecycle.proofs.GoneBack.{found_back}
use Rattle.wm_lifecycle.specs.Gone.{goes_back}
use Rattle.wm_lifecycle.proofs.restores.dropped_back.Goals as goal

pub returns-in_default : goal.returns-in_default
returns-in_default c =
    c.new.ensures.items ∙ ap (filter (λ id. goes_back c.args.savepoint.now (record_at c.args.image.now id))) c.in_default.ensures ∙ found_back c.args.savepoint.now c.args.image.now c.requires

pub returns : goal.returns
returns c =
    c.in_ok-dropped.ensures ∙ ap (filter (λ id. goes_back c.args.savepoint.now (record_at c.args.image.now id))) c.in-Some.ensures ∙ found_back c.args.savepoint.now c.args.image.now c.requires
