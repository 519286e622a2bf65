use Rattle.std.proofs.Common.{rules}
use Rattle.std.proofs.lemmas.Fn.{filter_same}
use Rattle.wm_pending.proofs.Touching.{meant_kept}
use Rattle.wm_pending.specs.Touched.{is_meant, passes_at}
use Rattle.wm_pending.proofs.touched.touched_since.Goals as goal

pub returns : goal.returns
returns c =
    meant_kept c.args.since c.args.image.now _ _ c.in_ok-ids.ensures
    (filter_same _ (passes_at (is_meant c.args.since) c.args.image.now) _ (λ x b f' k. search rules) _ _ c.retain.ensures.filtered)
