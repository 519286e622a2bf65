use Rattle.std.proofs.Common.{List, ap, ◌∙◌}
use Rattle.std.proofs.lemmas.Result.{IfOk-weaker}
use Rattle.wm_base.specs.declared.value.Value.{Value}
use Rattle.wm_graph.specs.Parts.{parts_of}
use Rattle.wm_pending.specs.Clashes.{conflict_pair}
use Rattle.wm_state.specs.Standing.{seen}
use Rattle.wm_resolve.proofs.ToldOn.{told_given}
use Rattle.wm_resolve.proofs.deciding.copies_of.Goals as goal

pub returns-clause-ordered : goal.returns-clause-ordered
returns-clause-ordered c = IfOk-weaker c.copies_on-copies.result _ _ (λ copies are. are.ordered) c.copies_on-copies.ensures

pub returns-clause-joined : goal.returns-clause-joined
returns-clause-joined c = IfOk-weaker c.copies_on-copies.result _ _ (λ copies are. are.joined) c.copies_on-copies.ensures

pub returns-clause-told : goal.returns-clause-told
returns-clause-told c =
    IfOk-weaker c.copies_on-copies.result _ _
    (λ copies are es tells.
    told_given (parts_of c.args.image.now) c.args.version es tells (conflict_pair c.args.table c.args.conflict.now).0 (conflict_pair c.args.table c.args.conflict.now).1 c.list.result.now c.in_ok-shown.shown.pieces c.list.ensures.value c.list.ensures.in_order
    (λ t lt. c.in_ok-shown.ensures.shows t lt ∙ ap (λ (k : List Value). seen (parts_of c.args.image.now) c.args.version (record { table = c.args.table; key = k; time = t })) c.in_ok-shown.ensures.key)
    copies.items c.till-till.ensures.bound are)
    c.copies_on-copies.ensures
