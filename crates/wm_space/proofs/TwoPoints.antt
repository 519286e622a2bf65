-- The plan of SetDiffVersions: its faults stand in the order of their rows.
use Rattle.std.proofs.Common.{◌≡◌, ℕ, List, [], ◌∷◌, length, Option, refl, ◌∙◌}
use Rattle.wm_base.specs.declared.refusal.Refusal.{Refusal}
use Rattle.wm_calls.specs.Faults.{argument_fault, count_asked}
use Rattle.wm_grammar.specs.declared.procedure.Procedure.TheVariants as procedures
use Rattle.wm_model.specs.Step.{Outcome, difference_given, done_so, first_fault, lost_savepoints, lost_workspaces, miscounted, mistyped, no_savepoint, no_workspace, outcome, refused_for, refused_or, set_difference_plan}
use Rattle.wm_outcome.proofs.Faults.{at_for, least_first}
use Rattle.wm_outcome.proofs.Named.{InOrder, told_first}
use Rattle.wm_outline.specs.Outline.{Outline}
use Rattle.wm_state.specs.State.{Session}
use Rattle.wm_syntax.specs.declared.statement.Arg.{Arg}

-- the faults, by what was found of each
abbrev pub faults_of : Option ℕ → (fault workspace savepoint : Option (List ℕ)) → List (Option Refusal)
faults_of count fault workspace savepoint = refused_for miscounted count ∷ refused_for mistyped fault ∷ refused_for no_workspace workspace ∷ refused_for no_savepoint savepoint ∷ []

in_order : (count : Option ℕ) (fault workspace savepoint : Option (List ℕ)) → InOrder (faults_of count fault workspace savepoint)
in_order count fault workspace savepoint =
    least_first (13 ∷ 14 ∷ 19 ∷ 21 ∷ []) _
    (at_for 13 miscounted (λ y. refl) count, (at_for 14 mistyped (λ y. refl) fault, (at_for 19 no_workspace (λ y. refl) workspace, (at_for 21 no_savepoint (λ y. refl) savepoint, tt)))) refl

-- what was found
pub record AreFound (args : List Arg) (o : Outline) (count : Option ℕ) (fault workspace savepoint : Option (List ℕ)) : Type 0 where
  pub count_is : count ≡ count_asked (length args)
  pub fault_is : fault ≡ argument_fault procedures.SetDiffVersions args
  pub workspace_is : workspace ≡ lost_workspaces o (difference_given args)
  pub savepoint_is : savepoint ≡ lost_savepoints o (difference_given args)

-- what comes of it
pub compares : (session : Session) (args : List Arg) (o : Outline) (q : Outcome) (count : Option ℕ) (fault workspace savepoint : Option (List ℕ)) (f : Option Refusal) → AreFound args o count fault workspace savepoint
    → f ≡ first_fault (faults_of count fault workspace savepoint) → q ≡ refused_or f (done_so (set_difference_plan session args o)) → q ≡ outcome (set_difference_plan session args o)
compares session args o q count fault workspace savepoint f are told says =
    told_first (set_difference_plan session args o) f q (in_order (count_asked (length args)) (argument_fault procedures.SetDiffVersions args) (lost_workspaces o (difference_given args)) (lost_savepoints o (difference_given args)))
    (told ∙ (λ i. first_fault (faults_of (are.count_is i) (are.fault_is i) (are.workspace_is i) (are.savepoint_is i)))) says
