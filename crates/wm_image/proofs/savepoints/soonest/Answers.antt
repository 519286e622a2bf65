use Rattle.std.proofs.Common.{◌+◌, ℕ, List, Option, drop, get_or, refl, sym, ap, ◌∙◌, arith}
use Rattle.std.proofs.lemmas.List.{drop_all, drop_more}
use Rattle.std.specs.Option.{option_and_then, option_copied}
use Rattle.wm_graph.specs.Parts.{as_savepoint}
use Rattle.wm_image.proofs.Soonest.{soonest-next, sooner-none}
use Rattle.wm_image.specs.Soonest.{is_from, sooner, soonest}
use Rattle.wm_index.specs.Indexed.{listed}
use Rattle.wm_index.specs.Kinds.{kind_at, passing}
use Rattle.wm_spec.specs.declared.record.Record.{Record}
use Rattle.wm_spec.specs.declared.record.savepoint.Savepoint.{Savepoint}
use Rattle.wm_image.proofs.savepoints.soonest.Goals as goal

pub loop-id-init : goal.loop-id-init
loop-id-init c = refl

pub loop-id-preserved : goal.loop-id-preserved
loop-id-preserved c =
    ap (λ (o : Option Savepoint). sooner o (soonest c.args.date (kind_at as_savepoint (listed c.args.kept.now.entries) (drop (c.loop-id.id-index + 1) c.args.ids.now))))
    (c.sooner-soonest.ensures
    ∙ ap (sooner (option_copied c.loop-id.soonest)) (c.saved_from.ensures ∙ ap (λ (o : Option Record). passing (is_from c.args.date) (option_and_then as_savepoint o)) c.at.ensures))
    ∙ soonest-next c.args.date (listed c.args.kept.now.entries) (get_or c.args.ids.now c.loop-id.id-index 0) (drop (c.loop-id.id-index + 1) c.args.ids.now) (option_copied c.loop-id.soonest)
    ∙ ap (λ (ids : List ℕ). sooner (option_copied c.loop-id.soonest) (soonest c.args.date (kind_at as_savepoint (listed c.args.kept.now.entries) ids)))
    (sym (drop_more c.args.ids.now c.loop-id.id-index 0 (omega (arith, c.loop-id-test.true))))
    ∙ c.loop-id.invariant

pub returns : goal.returns
returns c =
    sym (sooner-none (option_copied c.loop-id.soonest))
    ∙ ap (λ (ids : List ℕ). sooner (option_copied c.loop-id.soonest) (soonest c.args.date (kind_at as_savepoint (listed c.args.kept.now.entries) ids)))
    (sym (drop_all c.loop-id.id-index c.args.ids.now (omega (arith, c.loop-id-test.false))))
    ∙ c.loop-id.invariant
