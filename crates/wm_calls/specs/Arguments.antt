-- What a call gives for a parameter.
use Rattle.std.specs.Prelude.{ℕ, ◌+◌, Bool, false, if◌then◌else◌, length, List, [], ◌∷◌, Option, Some, None}
use Rattle.wm_syntax.specs.declared.constant.Const.{Const}
use Rattle.wm_syntax.specs.declared.constant.Const.TheVariants as consts
use Rattle.wm_syntax.specs.declared.statement.ArgValue.{ArgValue}
use Rattle.wm_syntax.specs.declared.statement.ArgValue.TheVariants as values
use Rattle.wm_syntax.specs.declared.statement.Arg.{Arg}
use Rattle.wm_grammar.specs.declared.procedure.Procedure.{Procedure}
use Rattle.wm_grammar.specs.declared.procedure.Parameter.{Parameter}
use Rattle.wm_grammar.specs.Calls.{is_some_same}
use Rattle.wm_calls.specs.Places.{parameter_at}

-- the value of the first of these arguments that is the parameter's; they stand from a place on, in a call with so many
abbrev pub argument_from : Procedure → Parameter → ℕ → ℕ → List Arg → Option ArgValue
argument_from procedure p count place [] = None
argument_from procedure p count place (a ∷ rest) = if is_some_same (parameter_at procedure count place a) p then Some a.value else argument_from procedure p count (place + 1) rest

-- what is given for the parameter, by its name or by its place
unfoldable pub argument : Procedure → List Arg → Parameter → Option ArgValue
argument procedure args p = argument_from procedure p (length args) 0 args

abbrev pub text_in : Const → Option (List ℕ)
text_in (consts.Text t) = Some t
text_in _ = None

abbrev pub text_of : Option ArgValue → Option (List ℕ)
text_of (Some (values.Const c)) = text_in c
text_of (Some (values.Bool b)) = None
text_of None = None

-- the text that is given for the parameter
abbrev pub text_given : Procedure → List Arg → Parameter → Option (List ℕ)
text_given procedure args p = text_of (argument procedure args p)

abbrev pub moment_in : Const → Option ℕ
moment_in (consts.Time seconds) = Some seconds
moment_in _ = None

abbrev pub moment_of : Option ArgValue → Option ℕ
moment_of (Some (values.Const c)) = moment_in c
moment_of (Some (values.Bool b)) = None
moment_of None = None

-- the time that is given for the parameter; the moment of the line stands in the place of SYSDATE before this is asked
abbrev pub moment_given : Procedure → List Arg → Parameter → Option ℕ
moment_given procedure args p = moment_of (argument procedure args p)

abbrev pub is_true : Option ArgValue → Bool
is_true (Some (values.Const c)) = false
is_true (Some (values.Bool b)) = b
is_true None = false

-- the parameter is given as TRUE
abbrev pub is_true_given : Procedure → List Arg → Parameter → Bool
is_true_given procedure args p = is_true (argument procedure args p)
