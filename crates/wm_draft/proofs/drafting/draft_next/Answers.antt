use Rattle.std.proofs.Common.{◌≡◌, ◌+◌, true, List, sym, subst}
use Rattle.wm_graph.specs.Parts.{parts_of}
use Rattle.wm_graph.specs.Rules.{keep_rules}
use Rattle.wm_spec.specs.declared.record.stored.Stored.{Stored}
use Rattle.wm_state.specs.Drafts.{CanEdit, CanWork}
use Rattle.wm_state.specs.Editing.{locks_by}
use Rattle.wm_draft.proofs.drafting.draft_next.Goals as goal

pub draft_one-requires-clause-rules : goal.draft_one-requires-clause-rules
draft_one-requires-clause-rules c = subst (λ (ss : List Stored). keep_rules (parts_of ss) ≡ true) (sym c.in_default.ensures) c.requires.rules

pub draft_one-requires-clause-work : goal.draft_one-requires-clause-work
draft_one-requires-clause-work c =
    subst (λ k. CanWork (parts_of c.go_on.new.image) c.args.moment (1 + k)) (sym c.locks_by-work.ensures)
    (subst (λ (ss : List Stored). CanWork (parts_of ss) c.args.moment (1 + locks_by c.args.edit)) (sym c.in_default.ensures) c.requires.work)

pub draft_one-requires-clause-can : goal.draft_one-requires-clause-can
draft_one-requires-clause-can c = subst (λ (ss : List Stored). CanEdit (parts_of ss) c.args.moment c.args.edit) (sym c.in_default.ensures) c.requires.can
