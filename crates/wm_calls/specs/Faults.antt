-- The first argument of a call that does not fit.
use Rattle.std.specs.Prelude.{ℕ, ◌+◌, Bool, ◌==◌, ◌||◌, if◌then◌else◌, length, is_none, List, [], ◌∷◌, Option, Some, None}
use Rattle.std.specs.Option.{option_or, option_map}
use Rattle.std.specs.List.{find}
use Rattle.wm_syntax.specs.declared.statement.ArgValue.{ArgValue}
use Rattle.wm_syntax.specs.declared.statement.Arg.{Arg}
use Rattle.wm_grammar.specs.declared.procedure.Procedure.{Procedure}
use Rattle.wm_grammar.specs.declared.procedure.Parameter.{Parameter}
use Rattle.wm_grammar.specs.Calls.{is_among, is_some_same}
use Rattle.wm_calls.specs.Takes.{takes_of, parameter_name, fits}
use Rattle.wm_calls.specs.Places.{is_diff, parameter_at, required_of}
use Rattle.wm_calls.specs.Arguments.{argument}

abbrev pub fits_parameter : Procedure → ℕ → Parameter → ArgValue → Bool
fits_parameter procedure count p value = fits (is_among (required_of procedure count) p) (takes_of p) value

-- the parameter, where the value is none that it takes
abbrev pub misfit : Procedure → ℕ → Option Parameter → ArgValue → Option Parameter
misfit procedure count None value = None
misfit procedure count (Some p) value = if fits_parameter procedure count p value then None else Some p

-- the parameter of the first of these arguments that does not fit; they stand from a place on, in a call with so many
abbrev pub misfit_from : Procedure → ℕ → ℕ → List Arg → Option Parameter
misfit_from procedure count place [] = None
misfit_from procedure count place (a ∷ rest) = option_or (misfit procedure count (parameter_at procedure count place a) a.value) (misfit_from procedure count (place + 1) rest)

-- the first required parameter that is not given; the arguments of SetDiffVersions are counted elsewhere
abbrev pub missing : Procedure → List Arg → Option Parameter
missing procedure args = if is_diff procedure then None else find (λ p. is_none (argument procedure args p)) (required_of procedure (length args))

-- the parameter whose value does not fit, the first in the line, or else the first that is missing
unfoldable pub faulty_parameter : Procedure → List Arg → Option Parameter
faulty_parameter procedure args = option_or (misfit_from procedure (length args) 0 args) (missing procedure args)

-- the parameter of the argument at a place is this one
abbrev pub is_given_for : Procedure → ℕ → Parameter → ℕ → Arg → Bool
is_given_for procedure count p place a = is_some_same (parameter_at procedure count place a) p

-- the arguments from a place on, in a call with so many, that stand before the one for a parameter
abbrev pub before_from : Procedure → Parameter → ℕ → ℕ → List Arg → List Arg
before_from procedure p count place [] = []
before_from procedure p count place (a ∷ rest) = if is_given_for procedure count p place a then [] else a ∷ before_from procedure p count (place + 1) rest

-- SetDiffVersions takes two arguments or four: how many it asks for where it is given another number
abbrev pub count_asked : ℕ → Option ℕ
count_asked count = if (count == 2) || (count == 4) then None else Some (if count == 3 then 4 else 2)

-- the name of the first parameter whose value does not fit, of those that are given before this one
abbrev pub misfit_before : Procedure → Parameter → List Arg → Option (List ℕ)
misfit_before procedure p args = option_map parameter_name (misfit_from procedure (length args) 0 (before_from procedure p (length args) 0 args))

-- its name in capitals
abbrev pub argument_fault : Procedure → List Arg → Option (List ℕ)
argument_fault procedure args = option_map parameter_name (faulty_parameter procedure args)
