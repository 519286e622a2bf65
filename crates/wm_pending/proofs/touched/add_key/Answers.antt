use Rattle.std.proofs.Common.{rules, ◌≡◌, false, ◌||◌, List, Option, Some, ap, ◌∙◌}
use Rattle.std.specs.BTreeSet.{contains}
use Rattle.std.specs.Option.{option_and_then, option_copied, option_to_list}
use Rattle.std.specs.Ordering.{is_eq}
use Rattle.wm_base.specs.declared.value.Value.{Value}
use Rattle.wm_graph.specs.Parts.{as_touch}
use Rattle.wm_spec.specs.declared.record.Record.{Record}
use Rattle.wm_spec.specs.declared.record.Record.TheVariants as records
use Rattle.wm_pending.proofs.Keyed.{added}
use Rattle.wm_pending.specs.Keys.{place_order}
use Rattle.wm_pending.specs.Touched.{has_touch_of}
use Rattle.wm_pending.proofs.touched.add_key.Goals as goal

pub returns-in_ok-insert : goal.returns-in_ok-insert
returns-in_ok-insert c = λ q.
    let others = contains place_order c.args.keys.now q in
    let touch = c.in-Some-Touch.touch in
    c.in_ok-insert.ensures.updates.0 q
    ∙ added (is_eq (place_order (touch.cells.table, c.in_ok-copy.field-0) q)) others
    ∙ ap (λ (key : List Value). others || (is_eq (place_order (touch.cells.table, key) q) || false)) c.in_ok-copy.ensures
    ∙ ap (λ (found : Option Record). others || has_touch_of q (option_to_list (option_and_then as_touch found))) told
  where
    told : Some (records.Touch c.in-Some-Touch.touch) ≡ option_copied c.args.found
    told = search rules
