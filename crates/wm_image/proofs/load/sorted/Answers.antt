use Rattle.std.proofs.Common.{refl, sym, subst}
use Rattle.wm_spec.specs.Records.{AreRecords}
use Rattle.wm_state.specs.ById.{Ascend}
use Rattle.wm_image.proofs.Sorting.{ascending_by_id, twice_permuted}
use Rattle.wm_image.proofs.load.sorted.Goals as goal

pub returns-then-not-ascend-clause-twice : goal.returns-then-not-ascend-clause-twice
returns-then-not-ascend-clause-twice c = λ graph.
    twice_permuted c.args.records c.in_ok-ordered.ordered c.in_ok-ordered.ensures.moved (λ are. c.if-not-ascend.ensures.twice refl (subst AreRecords (sym c.as_slice.ensures) are))

pub returns-clause-by_id : goal.returns-clause-by_id
returns-clause-by_id c =
    (ascending_by_id c.args.records c.in_ok-ordered.ordered c.in_ok-ordered.ensures.moved (subst Ascend c.as_slice.ensures (c.if-not-ascend.ensures.up refl))).0

pub returns-clause-differ : goal.returns-clause-differ
returns-clause-differ c =
    (ascending_by_id c.args.records c.in_ok-ordered.ordered c.in_ok-ordered.ensures.moved (subst Ascend c.as_slice.ensures (c.if-not-ascend.ensures.up refl))).1
