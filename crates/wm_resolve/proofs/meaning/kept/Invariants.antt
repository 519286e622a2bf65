use Rattle.std.proofs.Common.{◌≡◌, filter}
use Rattle.wm_syntax.specs.Views.{cond_view}
use Rattle.wm_decided.specs.Keys.{key_as_row}
use Rattle.wm_pending.specs.declared.clash.Conflict.{Conflict}
use Rattle.wm_spec.specs.Conditions.{is_yes, truth_of}
use Rattle.wm_resolve.proofs.meaning.kept.Given as goal

abbrev pub invariant-loop-conflict : goal.invariant-loop-conflict
invariant-loop-conflict g l = l.kept.items ≡ filter (λ (c : Conflict). is_yes (truth_of (cond_view l.test.cond.now) l.test.columns.now (key_as_row c.key))) l.yielded
