-- What a call is given, and what is wrong with that.
use Rattle.std.specs.Prelude.{ℕ, Bool, not, List, [], ◌∷◌, Option, unwrap_or}
use Rattle.wm_base.specs.declared.refusal.Refusal.{Refusal}
use Rattle.wm_calls.specs.Arguments.{text_given}
use Rattle.wm_calls.specs.Faults.{argument_fault}
use Rattle.wm_grammar.specs.declared.procedure.Procedure.{Procedure}
use Rattle.wm_grammar.specs.declared.procedure.Parameter.TheVariants as parameters
use Rattle.wm_syntax.specs.declared.statement.Arg.{Arg}
use Rattle.wm_model.specs.Step.Naming.{is_name}
use Rattle.wm_model.specs.Step.Refusing.{bad_name, mistyped, refused_for, refused_if, reserved_name}

-- the workspace that a call names
abbrev pub workspace_given : Procedure → List Arg → List ℕ
workspace_given procedure args = unwrap_or (text_given procedure args parameters.Workspace) []

-- an argument does not fit its parameter, or is missing
abbrev pub misfit : Procedure → List Arg → Option Refusal
misfit procedure args = refused_for mistyped (argument_fault procedure args)

-- a name that is made is a name, and no reserved one
abbrev pub naming_faults : List ℕ → Bool → List (Option Refusal)
naming_faults name is_reserved = refused_if (not (is_name name)) bad_name ∷ refused_if is_reserved (reserved_name name) ∷ []
