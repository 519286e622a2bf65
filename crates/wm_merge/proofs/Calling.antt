-- What the two calls do, by what is wrong with their arguments.
use Rattle.std.proofs.Common.{◌≡◌, ℕ, List, [], Option, None, Some, unwrap_or, sym, ap, ◌∙◌}
use Rattle.wm_syntax.specs.declared.statement.Arg.{Arg}
use Rattle.wm_calls.specs.Arguments.{text_given}
use Rattle.wm_calls.specs.Faults.{argument_fault}
use Rattle.wm_grammar.specs.declared.procedure.Parameter.TheVariants as parameters
use Rattle.wm_grammar.specs.declared.procedure.Procedure.TheVariants as procedures
use Rattle.wm_model.specs.Step.{Asked, call, merge_asked, merge_workspace, mistyped, refresh_workspace, unless_mistyped}
use Rattle.wm_print.specs.Texts.{Answer}
use Rattle.wm_state.specs.State.{Session, State}

unless_some : (fault : Option (List ℕ)) (parameter : List ℕ) (s : State) (done : State × Answer) → fault ≡ Some parameter → unless_mistyped fault s done ≡ (s, mistyped parameter)
unless_some fault parameter s done some = ap (λ f. unless_mistyped f s done) some

unless_none : (fault : Option (List ℕ)) (s : State) (done : State × Answer) → fault ≡ None → unless_mistyped fault s done ≡ done
unless_none fault s done none = ap (λ f. unless_mistyped f s done) none

-- ---- RefreshWorkspace

pub refresh_mistyped : (session : Session) (args : List Arg) (s : State) (parameter : List ℕ) → argument_fault procedures.RefreshWorkspace args ≡ Some parameter
    → call session (Some procedures.RefreshWorkspace) args s ≡ (s, mistyped parameter)
refresh_mistyped session args s parameter wrong = unless_some (argument_fault procedures.RefreshWorkspace args) parameter s _ wrong

pub refresh_done : (session : Session) (args : List Arg) (s : State) (workspace : List ℕ) → argument_fault procedures.RefreshWorkspace args ≡ None → workspace ≡ unwrap_or (text_given procedures.RefreshWorkspace args parameters.Workspace) []
    → call session (Some procedures.RefreshWorkspace) args s ≡ refresh_workspace session workspace s
refresh_done session args s workspace right is = unless_none (argument_fault procedures.RefreshWorkspace args) s _ right ∙ ap (λ w. refresh_workspace session w s) (sym is)

-- ---- MergeWorkspace

pub merge_mistyped : (session : Session) (args : List Arg) (s : State) (parameter : List ℕ) → argument_fault procedures.MergeWorkspace args ≡ Some parameter
    → call session (Some procedures.MergeWorkspace) args s ≡ (s, mistyped parameter)
merge_mistyped session args s parameter wrong = unless_some (argument_fault procedures.MergeWorkspace args) parameter s _ wrong

pub merge_done : (session : Session) (args : List Arg) (s : State) (asked : Asked) (workspace : List ℕ) → argument_fault procedures.MergeWorkspace args ≡ None → asked ≡ merge_asked args
    → workspace ≡ unwrap_or (text_given procedures.MergeWorkspace args parameters.Workspace) [] → call session (Some procedures.MergeWorkspace) args s ≡ merge_workspace session asked workspace s
merge_done session args s asked workspace right asks is =
    unless_none (argument_fault procedures.MergeWorkspace args) s _ right
    ∙ ap (λ w. merge_workspace session (merge_asked args) w s) (sym is)
    ∙ ap (λ k. merge_workspace session k workspace s) (sym asks)
