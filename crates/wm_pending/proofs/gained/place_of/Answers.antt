use Rattle.std.proofs.Common.{rules}
use Rattle.std.proofs.lemmas.Fn.{always_returns_same}
use Rattle.wm_net.specs.Groups.{Group, group_order}
use Rattle.wm_pending.proofs.Looking.{among, not_among, rises}
use Rattle.wm_pending.specs.Lookups.{group_own}
use Rattle.wm_pending.specs.declared.own.OwnKey.{OwnKey}
use Rattle.wm_pending.proofs.gained.place_of.Goals as goal

pub returns-in-Ok-clause-there : goal.returns-in-Ok-clause-there
returns-in-Ok-clause-there c =
    let g : Group = record { table = c.args.table; key = c.args.key.now } in
    among c.args.own.now g c.in-Ok.place c.in-Ok.ensures.bound
    (c.in-Ok.ensures.position (λ (k : OwnKey). group_order (group_own k) g) (always_returns_same _ _ _ (λ a r q e. search rules)))

pub returns-in-Err-clause-none : goal.returns-in-Err-clause-none
returns-in-Err-clause-none c =
    let g : Group = record { table = c.args.table; key = c.args.key.now } in
    not_among c.args.own.now g c.in-Err.field-0
    (c.in-Err.ensures.position (λ (k : OwnKey). group_order (group_own k) g) (always_returns_same _ _ _ (λ a r q e. search rules)) (rises c.args.own.now g c.requires))
