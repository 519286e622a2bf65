use Rattle.std.proofs.Common.{cond, ◌++◌, ◌∷◌, [], sym, ap, ◌∙◌, subst}
use Rattle.std.specs.Option.{option_or}
use Rattle.wm_base.proofs.Plain.{option_or-none}
use Rattle.wm_version_rows.proofs.Along.{held-behind}
use Rattle.wm_period.specs.Pieces.{EndBy, held_at}
use Rattle.wm_version_rows.proofs.laying.lay_behind.Goals as goal

pub returns-in_default-clause-laid : goal.returns-in_default-clause-laid
returns-in_default-clause-laid c = λ done t less. sym (option_or-none (held_at c.args.run.now t)) ∙ ap (option_or (held_at c.args.run.now t)) (c.in_default.ensures t less)

pub returns-clause-laid : goal.returns-clause-laid
returns-clause-laid c = λ done t less.
    held-behind c.args.run.now c.push_behind.new.self c.in-Some.piece t _
    (c.in_ok-put.ensures.exact ∙ ap (λ b. cond b (c.args.run.now ++ c.in-Some.piece ∷ []) c.args.run.now) done) (c.in-Some.ensures t less)

pub returns-clause-left : goal.returns-clause-left
returns-clause-left c = λ left. c.in_ok-put.ensures.exact ∙ ap (λ b. cond b (c.args.run.now ++ c.in-Some.piece ∷ []) c.args.run.now) left

pub returns-clause-first : goal.returns-clause-first
returns-clause-first c = λ none. c.in_ok-put.ensures.behind.1 (subst (EndBy c.in-Some.piece.period.from) (sym none) tt)
