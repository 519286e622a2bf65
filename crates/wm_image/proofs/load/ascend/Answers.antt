use Rattle.std.proofs.Common.{nat_lt, rules}
use Rattle.std.proofs.lemmas.Fn.{always_returns_same}
use Rattle.wm_spec.specs.declared.record.stored.Stored.{Stored}
use Rattle.wm_image.proofs.Sorting.{told_up, told_twice}
use Rattle.wm_image.proofs.load.ascend.Goals as goal

pub returns-clause-up : goal.returns-clause-up
returns-clause-up c =
    told_up c.args.records.now c.is_sorted_by.result c.requires
    (c.is_sorted_by.ensures.cases (λ (x y : Stored). nat_lt x.id y.id) (always_returns_same _ _ _ (λ a r f k. search rules)))

pub returns-clause-twice : goal.returns-clause-twice
returns-clause-twice c =
    told_twice c.args.records.now c.is_sorted_by.result c.requires
    (c.is_sorted_by.ensures.cases (λ (x y : Stored). nat_lt x.id y.id) (always_returns_same _ _ _ (λ a r f k. search rules)))
