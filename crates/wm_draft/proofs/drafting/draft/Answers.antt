use Rattle.std.proofs.Common.{◌≡◌, List, sym, subst}
use Rattle.wm_prices.specs.Prices.{Spends}
use Rattle.wm_spec.specs.declared.record.batch.Change.{Change}
use Rattle.wm_state.specs.ById.{applied}
use Rattle.wm_state.specs.Drafts.{Drafts}
use Rattle.wm_draft.proofs.drafting.draft.Goals as goal

pub returns-clause-drafts : goal.returns-clause-drafts
returns-clause-drafts c = subst (λ (cs : List Change). Drafts c.args.image.now c.args.moment c.args.edits.items cs) (sym c.in_ok-changes.ensures) c.in_default.ensures.drafts

pub returns-clause-spends : goal.returns-clause-spends
returns-clause-spends c = subst (λ (cs : List Change). Spends c.args.moment c.args.image.now c.args.edits.items (applied cs c.args.image.now)) (sym c.in_ok-changes.ensures) c.in_default.ensures.spends

pub returns-clause-rest : goal.returns-clause-rest
returns-clause-rest c = subst (λ (cs : List Change). applied cs c.draft_each.new.image ≡ applied cs c.args.image.now) (sym c.in_ok-changes.ensures) c.in_default.ensures.rest
