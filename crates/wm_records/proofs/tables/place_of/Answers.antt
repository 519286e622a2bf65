use Rattle.std.proofs.Common.{add-one, subst, arith}
use Rattle.std.proofs.lemmas.List.{take_all}
use Rattle.wm_records.proofs.Cataloguing.{Smaller, placed_before, placed_last, smaller_more}
use Rattle.wm_records.proofs.tables.place_of.Goals as goal

pub returns-then-table-other-clause-there : goal.returns-then-table-other-clause-there
returns-then-table-other-clause-there c =
    placed_before c.args.table.now c.args.tables.now c.loop-place.place c.index-tables-place.result c.loop-place.invariant (omega (arith, c.loop-place-test.true)) c.index-tables-place.is c.if-table-other.true

pub loop-place-preserved : goal.loop-place-preserved
loop-place-preserved c =
    rw add-one
    (smaller_more c.args.table.now.number c.args.tables.now c.loop-place.place c.index-tables-place.result c.loop-place.invariant (omega (arith, c.loop-place-test.true)) c.index-tables-place.is c.if-table-other.false)

pub returns-clause-there : goal.returns-clause-there
returns-clause-there c =
    placed_last c.args.table.now c.args.tables.now
    (subst (Smaller c.args.table.now.number) (take_all c.loop-place.place c.args.tables.now (omega (arith, c.loop-place-test.false))) c.loop-place.invariant)
