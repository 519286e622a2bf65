use Rattle.std.proofs.Common.{ℕ, nat_lt, List, false, Option, sym, ap, ◌∙◌, arith}
use Rattle.std.specs.List.{list_any}
use Rattle.std.specs.Option.{option_and_then, option_map_or}
use Rattle.wm_graph.specs.Parts.{as_mark}
use Rattle.wm_index.specs.Kinds.{kind_at}
use Rattle.wm_spec.specs.declared.record.Record.{Record}
use Rattle.wm_spec.specs.declared.record.trace.Trace.{Trace}
use Rattle.wm_space.proofs.Marks.{any_beyond, marked-next}
use Rattle.wm_space.proofs.dependent.is_marked_beyond.Goals as goal

pub loop-id-init : goal.loop-id-init
loop-id-init c =
    ap (λ (ids : List ℕ). list_any (λ (m : Trace). nat_lt c.args.limit m.position) (kind_at as_mark c.args.image.now ids)) c.marks_in-id-items.ensures ∙ any_beyond c.args.limit c.args.space.now.number c.args.image.now c.law_of_order.ensures

pub loop-id-preserved : goal.loop-id-preserved
loop-id-preserved c =
    let test = λ (m : Trace). nat_lt c.args.limit m.position in
    marked-next test c.args.image.now c.marks_in-id-items.result.now c.loop-id.id-index (omega (arith, c.loop-id-test.true))
    (ap (λ (o : Option Record). option_map_or test (option_and_then as_mark o) false) (sym c.record.ensures) ∙ sym c.if-is_beyond.ensures)
    ∙ c.loop-id.invariant
