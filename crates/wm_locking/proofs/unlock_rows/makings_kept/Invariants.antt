use Rattle.std.proofs.Common.{◌≡◌, ◌++◌, true, map, drop}
use Rattle.std.specs.List.{filter, list_all}
use Rattle.wm_decided.specs.Keys.{key_as_row}
use Rattle.wm_guard.specs.Orders.{nows}
use Rattle.wm_spec.specs.Conditions.{fits, is_yes, truth_of}
use Rattle.wm_spec.specs.declared.record.lock.Lock.{Lock}
use Rattle.wm_syntax.specs.Views.{cond_view}
use Rattle.wm_locking.proofs.unlock_rows.makings_kept.Given as goal

abbrev pub invariant-loop-lock : goal.invariant-loop-lock
invariant-loop-lock g l = record {
  kept : l.makings.items ++ map (λ (x : Lock). x.making) (filter (λ (x : Lock). is_yes (truth_of (cond_view l.test.cond.now) l.test.columns.now (key_as_row x.cells.key))) (nows (drop l.lock-index l.locks)))
      ≡ map (λ (x : Lock). x.making) (filter (λ (x : Lock). is_yes (truth_of (cond_view l.test.cond.now) l.test.columns.now (key_as_row x.cells.key))) (nows l.locks));
  fits : list_all (λ (x : Lock). fits l.test.columns.now (key_as_row x.cells.key)) (nows (drop l.lock-index l.locks)) ≡ true;
}
