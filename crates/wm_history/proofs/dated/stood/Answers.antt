use Rattle.std.proofs.Common.{List, ℕ, subst}
use Rattle.wm_history.proofs.Laying.{have_stood}
use Rattle.wm_history.specs.Laid.{IsPutOver}
use Rattle.wm_history.proofs.dated.stood.Goals as goal

pub returns : goal.returns
returns c =
    have_stood c.args.image.now c.args.space.now c.args.date c.args.table.now.number c.in_ok-ids.ids.items c.in_ok-laid.laid.entries c.put_all_early.new.laid.entries c.requires c.in_ok-ids.ensures c.in_ok-laid.ensures
    (subst (λ (ids : List ℕ). IsPutOver c.args.image.now ids c.args.date c.in_ok-laid.laid.entries c.put_all_early.new.laid.entries) c.as_slice.ensures.value c.in_ok-put_all_early.ensures)
