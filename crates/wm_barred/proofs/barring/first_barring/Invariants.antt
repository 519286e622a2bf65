use Rattle.std.proofs.Common.{◌≡◌, ◌&&◌, true, drop}
use Rattle.std.specs.List.{find, list_all}
use Rattle.wm_graph.specs.Parts.{parts_of}
use Rattle.wm_guard.specs.Barring.{meets}
use Rattle.wm_guard.specs.Orders.{nows}
use Rattle.wm_model.specs.Step.{bars_claim}
use Rattle.wm_spec.specs.declared.record.lock.Lock.{Lock}
use Rattle.wm_barred.specs.Alone.{is_timed, outline_alone}
use Rattle.wm_barred.specs.Views.{claim_view, stretch_view}
use Rattle.wm_barred.proofs.barring.first_barring.Given as goal

abbrev pub invariant-loop-lock : goal.invariant-loop-lock
invariant-loop-lock l = record {
  first : find (λ (x : Lock). meets (stretch_view l.cells) x.cells && bars_claim (outline_alone (parts_of l.image)) (claim_view l.claim) x) (nows (drop l.lock-index l.locks))
      ≡ find (λ (x : Lock). meets (stretch_view l.cells) x.cells && bars_claim (outline_alone (parts_of l.image)) (claim_view l.claim) x) (nows l.locks);
  timed : list_all is_timed (nows (drop l.lock-index l.locks)) ≡ true;
}
