use Rattle.std.proofs.Common.{◌≡◌, ℕ, ◌==◌, ◌&&◌, not, Bool, true, false, refl, sym, ap, ◌∙◌}
use Rattle.std.proofs.lemmas.Bool.{eq-eqb, eqb-true}
use Rattle.wm_graph.specs.Parts.{parts_of}
use Rattle.wm_barred.proofs.Looks.{parent_none, parent_some}
use Rattle.wm_barred.proofs.barring.has_parent.Goals as goal

pub returns-then-space-parent : goal.returns-then-space-parent
returns-then-space-parent c =
    sym
    (parent_some (parts_of c.args.image.now) c.args.parent c.args.child c.in-Some.space.now c.in-Some.ensures
    ∙ ap (λ b. b && not (c.in-Some.space.now.number == c.args.parent)) (eq-eqb c.in-Some.space.now.parent c.args.parent c.if-space-parent.true))

pub returns-else-space-parent : goal.returns-else-space-parent
returns-else-space-parent c =
    by_test (c.in-Some.space.now.parent == c.args.parent) (λ e. c.if-space-parent.false (eqb-true c.in-Some.space.now.parent c.args.parent e))
    ∙ sym (parent_some (parts_of c.args.image.now) c.args.parent c.args.child c.in-Some.space.now c.in-Some.ensures)
  where
    by_test : (b : Bool) → (b ≡ true → ⊥) → b ≡ (b && not (c.in-Some.space.now.number == c.args.parent))
    by_test true not = absurd (not refl)
    by_test false not = refl

pub returns-in-None : goal.returns-in-None
returns-in-None c = sym (parent_none (parts_of c.args.image.now) c.args.parent c.args.child c.in-None.ensures)
