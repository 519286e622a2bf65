use Rattle.std.proofs.Common.{◌≡◌, Bool, sym, ap, ◌∙◌}
use Rattle.wm_base.specs.declared.row.Row.{Row}
use Rattle.wm_decided.specs.Keys.{key_as_row}
use Rattle.wm_spec.specs.Conditions.{fits, is_yes, truth_of}
use Rattle.wm_spec.specs.declared.record.lock.Lock.{Lock}
use Rattle.wm_syntax.specs.Views.{cond_view}
use Rattle.wm_locking.proofs.Unlocking.{fits_more, kept_more, passed_more}
use Rattle.wm_locking.proofs.unlock_rows.makings_kept.Goals.{then-keep+in_ok-push, else-keep}
use Rattle.wm_locking.proofs.unlock_rows.makings_kept.Goals as goal

pub loop-lock-preserved : goal.loop-lock-preserved
loop-lock-preserved g c =
    let is_meant : Lock → Bool = λ x. is_yes (truth_of (cond_view c.args.test.now.cond.now) c.args.test.now.columns.now (key_as_row x.cells.key)) in
    let fits_key : Lock → Bool = λ x. fits c.args.test.now.columns.now (key_as_row x.cells.key) in
    let tested : c.keep.result ≡ is_meant c.lock-item.result.now =
    c.keep.ensures ∙ ap (λ (r : Row). is_yes (truth_of (cond_view c.args.test.now.cond.now) c.args.test.now.columns.now r)) c.in_ok-row.ensures in
    record {
      kept =
          elim c.if-keep.branch [
            | then-keep+in_ok-push w ↦
                rw w.makings-is
                (kept_more is_meant c.args.locks.now c.loop-lock.lock-index c.lock-item.result c.loop-lock.makings.items _ _ c.loop-lock-test.true c.lock-item.is c.loop-lock.invariant.kept (sym tested ∙ w.if-keep.true) w.in_ok-push.ensures.items)
            | else-keep w ↦
                rw w.makings-is
                (passed_more is_meant c.args.locks.now c.loop-lock.lock-index c.lock-item.result c.loop-lock.makings.items _ c.loop-lock-test.true c.lock-item.is c.loop-lock.invariant.kept (sym tested ∙ w.if-keep.false))
          ];
      fits = fits_more fits_key c.args.locks.now c.loop-lock.lock-index c.lock-item.result c.loop-lock-test.true c.lock-item.is c.loop-lock.invariant.fits;
    }
