use Rattle.std.proofs.Common.{◌≡◌, List, insert, sym, ap, subst, ◌∙◌}
use Rattle.wm_records.proofs.Cataloguing.{placing, placing_all, placing_last}
use Rattle.wm_spec.specs.declared.record.table.Table.{Table}
use Rattle.wm_state.specs.Standing.{place_table}
use Rattle.wm_records.proofs.tables.sorted.Goals as goal

pub loop-table-init : goal.loop-table-init
loop-table-init c = ap (placing c.args.tables.items) c.in_ok-sorted.ensures.items ∙ placing_all c.args.tables.items

pub loop-table-preserved : goal.loop-table-preserved
loop-table-preserved c =
    let old = c.loop-table.sorted.items in
    let t = c.in-Some.table in
    let rest = c.pop.new.self.items in
    let there : insert old c.place_of-place.result t ≡ place_table t old =
    subst (λ (ts : List Table). insert ts c.place_of-place.result t ≡ place_table t ts) c.as_slice.ensures.value c.place_of-place.ensures.there in
    ap (placing rest) (c.in_ok-insert.ensures.items ∙ there)
    ∙ sym (placing_last rest old t)
    ∙ ap (λ (ts : List Table). placing ts old) (sym c.in-Some.ensures.items)
    ∙ c.loop-table.invariant
