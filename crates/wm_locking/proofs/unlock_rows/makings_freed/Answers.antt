use Rattle.std.proofs.Common.{ap, ◌∙◌}
use Rattle.std.proofs.lemmas.Result.{IfOk-weaker}
use Rattle.wm_graph.specs.Parts.{parts_of}
use Rattle.wm_guard.specs.Barring.{locks_in}
use Rattle.wm_guard.specs.Orders.{nows}
use Rattle.wm_state.specs.Standing.{locks_by_making}
use Rattle.wm_syntax.specs.Views.{filter_view}
use Rattle.wm_typing.specs.Types.{is_filter_typed}
use Rattle.wm_locking.proofs.Unlocking.{freed_are, keys_fit}
use Rattle.wm_locking.proofs.unlock_rows.makings_freed.Goals as goal

pub makings_meant-requires-clause-typed : goal.makings_meant-requires-clause-typed
makings_meant-requires-clause-typed c = ap (λ cs. is_filter_typed cs (filter_view c.args.condition.now)) c.in_ok-columns.ensures ∙ c.requires.typed

pub makings_meant-requires-clause-fitting : goal.makings_meant-requires-clause-fitting
makings_meant-requires-clause-fitting c =
    keys_fit (parts_of c.args.image.now) c.requires.rules c.args.site.table.now c.requires.there c.args.session.now c.args.site.space.now.number c.in_ok-columns.columns (nows c.as_slice.result.now) (nows c.as_slice-2.result.now) c.in_ok-columns.ensures
    (ap nows c.as_slice.ensures.value ∙ c.in_ok-locks.ensures) (ap nows c.as_slice-2.ensures.value ∙ c.in_ok-held.ensures)

pub returns : goal.returns
returns c =
    IfOk-weaker c.makings_meant.result _ _
    (λ makings told.
    freed_are c.args.session.now (filter_view c.args.condition.now) c.args.site.table.now c.args.site.space.now.number c.in_ok-columns.columns (nows c.as_slice.result.now) (nows c.as_slice-2.result.now)
    (locks_in c.args.site.table.now.number (locks_by_making (parts_of c.args.image.now).locks)) makings.items c.in_ok-columns.ensures (ap nows c.as_slice.ensures.value ∙ c.in_ok-locks.ensures) (ap nows c.as_slice-2.ensures.value ∙ c.in_ok-held.ensures) told)
    c.makings_meant.ensures
