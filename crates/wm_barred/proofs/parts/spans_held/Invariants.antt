use Rattle.std.proofs.Common.{◌≡◌, ◌++◌, true, map, drop}
use Rattle.std.specs.List.{filter, list_all}
use Rattle.wm_guard.specs.Barring.{span_of}
use Rattle.wm_guard.specs.Orders.{nows}
use Rattle.wm_model.specs.Step.{is_held_by}
use Rattle.wm_spec.specs.declared.record.lock.Lock.{Lock}
use Rattle.wm_barred.specs.Alone.{is_timed}
use Rattle.wm_barred.specs.Views.{holder_view}
use Rattle.wm_barred.proofs.parts.spans_held.Given as goal

abbrev pub invariant-loop-lock : goal.invariant-loop-lock
invariant-loop-lock l = record {
  spans : l.spans.items ++ map (λ (x : Lock). span_of x.cells) (filter (is_held_by (holder_view l.holder)) (nows (drop l.lock-index l.locks))) ≡ map (λ (x : Lock). span_of x.cells) (filter (is_held_by (holder_view l.holder)) (nows l.locks));
  timed : list_all is_timed (nows (drop l.lock-index l.locks)) ≡ true;
}
