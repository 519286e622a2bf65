-- Lines that refresh a workspace, or merge it and let it be: what they are is left by SYSDATE, and what others are not.
use Rattle.std.proofs.Common.{◌≡◌, ℕ, ◌+◌, ◌&&◌, Bool, true, false, cond, if◌then◌else◌, List, [], ◌∷◌, map, length, Option, Some, None, unwrap_or, refl, ap, ◌∙◌}
use Rattle.std.proofs.lemmas.List.{length-map}
use Rattle.std.specs.Option.{option_map}
use Rattle.wm_syntax.specs.Trees.{Line}
use Rattle.wm_syntax.specs.Trees as trees
use Rattle.wm_syntax.specs.declared.constant.Const.TheVariants as consts
use Rattle.wm_syntax.specs.declared.statement.Arg.{Arg}
use Rattle.wm_syntax.specs.declared.statement.ArgValue.{ArgValue}
use Rattle.wm_syntax.specs.declared.statement.ArgValue.TheVariants as values
use Rattle.wm_calls.specs.Arguments.{argument, argument_from, is_true, is_true_given, text_given, text_of}
use Rattle.wm_calls.specs.Places.{parameter_at, parameters_in}
use Rattle.wm_grammar.specs.Calls.{at_place, is_some_same, is_text, parameter_by, procedure_of}
use Rattle.wm_grammar.specs.declared.procedure.Parameter.{Parameter}
use Rattle.wm_grammar.specs.declared.procedure.Parameter.TheVariants as parameters
use Rattle.wm_grammar.specs.declared.procedure.Procedure.{Procedure}
use Rattle.wm_grammar.specs.declared.procedure.Procedure.TheVariants as procedures
use Rattle.wm_model.specs.Step.{timed_line}
use Rattle.wm_spending.specs.Nets.{merge_of, refresh_of}
use Rattle.wm_timed.specs.Timed.{timed_arg, timed_value}
use Rattle.wm_engine.specs.NetLines.{nets_call, nets_of_line}

-- ---- arguments with the moment in the place of SYSDATE

text_timed : (m : ℕ) (v : ArgValue) → is_text (timed_value m v) ≡ is_text v
text_timed m (values.Bool b) = refl
text_timed m (values.Const consts.Null) = refl
text_timed m (values.Const (consts.Num n)) = refl
text_timed m (values.Const (consts.Text t)) = refl
text_timed m (values.Const (consts.Time t)) = refl
text_timed m (values.Const consts.Sysdate) = refl
text_timed m (values.Const (consts.Span from till)) = refl

-- they are for the same parameters
place_timed : (m : ℕ) (procedure : Procedure) (count place : ℕ) (a : Arg) → parameter_at procedure count place (timed_arg m a) ≡ parameter_at procedure count place a
place_timed m procedure count place a = by_name a.name
  where
    at : Option Parameter
    at = at_place (parameters_in procedure count) place

    by_name : (o : Option (List ℕ)) → parameter_by o at (timed_value m a.value) ≡ parameter_by o at a.value
    by_name None = ap (λ b. if is_some_same at parameters.IsRefreshed && b then Some parameters.Description else at) (text_timed m a.value)
    by_name (Some n) = refl

from_timed : (m : ℕ) (procedure : Procedure) (p : Parameter) (count place : ℕ) (args : List Arg) → argument_from procedure p count place (map (timed_arg m) args) ≡ option_map (timed_value m) (argument_from procedure p count place args)
from_timed m procedure p count place [] = refl
from_timed m procedure p count place (a ∷ args) =
    ap (λ o. if is_some_same o p then Some (timed_value m a.value) else argument_from procedure p count (place + 1) (map (timed_arg m) args)) (place_timed m procedure count place a)
    ∙ by_test (is_some_same (parameter_at procedure count place a) p) (from_timed m procedure p count (place + 1) args)
  where
    by_test : (b : Bool) → argument_from procedure p count (place + 1) (map (timed_arg m) args) ≡ option_map (timed_value m) (argument_from procedure p count (place + 1) args)
        → cond b (Some (timed_value m a.value)) (argument_from procedure p count (place + 1) (map (timed_arg m) args)) ≡ option_map (timed_value m) (cond b (Some a.value) (argument_from procedure p count (place + 1) args))
    by_test true rest = refl
    by_test false rest = rest

argument_timed : (m : ℕ) (procedure : Procedure) (args : List Arg) (p : Parameter) → argument procedure (map (timed_arg m) args) p ≡ option_map (timed_value m) (argument procedure args p)
unfolding argument
argument_timed m procedure args p =
    ap (λ count. argument_from procedure p count 0 (map (timed_arg m) args)) (length-map args (timed_arg m)) ∙ from_timed m procedure p (length args) 0 args

texts_timed : (m : ℕ) (o : Option ArgValue) → text_of (option_map (timed_value m) o) ≡ text_of o
texts_timed m None = refl
texts_timed m (Some (values.Bool b)) = refl
texts_timed m (Some (values.Const consts.Null)) = refl
texts_timed m (Some (values.Const (consts.Num n))) = refl
texts_timed m (Some (values.Const (consts.Text t))) = refl
texts_timed m (Some (values.Const (consts.Time t))) = refl
texts_timed m (Some (values.Const consts.Sysdate)) = refl
texts_timed m (Some (values.Const (consts.Span from till))) = refl

truths_timed : (m : ℕ) (o : Option ArgValue) → is_true (option_map (timed_value m) o) ≡ is_true o
truths_timed m None = refl
truths_timed m (Some (values.Bool b)) = refl
truths_timed m (Some (values.Const c)) = refl

given_timed : (m : ℕ) (procedure : Procedure) (args : List Arg) (p : Parameter) → text_given procedure (map (timed_arg m) args) p ≡ text_given procedure args p
given_timed m procedure args p = ap text_of (argument_timed m procedure args p) ∙ texts_timed m (argument procedure args p)

true_timed : (m : ℕ) (procedure : Procedure) (args : List Arg) (p : Parameter) → is_true_given procedure (map (timed_arg m) args) p ≡ is_true_given procedure args p
true_timed m procedure args p = ap is_true (argument_timed m procedure args p) ∙ truths_timed m (argument procedure args p)

-- ---- calls and lines

call_timed : (m : ℕ) (o : Option Procedure) (args : List Arg) → nets_call o (map (timed_arg m) args) ≡ nets_call o args
call_timed m None args = refl
call_timed m (Some procedures.RefreshWorkspace) args = ap (λ (o : Option (List ℕ)). Some (refresh_of (unwrap_or o []))) (given_timed m procedures.RefreshWorkspace args parameters.Workspace)
call_timed m (Some procedures.MergeWorkspace) args =
    ap (λ b. if b then None else Some (merge_of (unwrap_or (text_given procedures.MergeWorkspace (map (timed_arg m) args) parameters.Workspace) []))) (true_timed m procedures.MergeWorkspace args parameters.RemoveWorkspace)
    ∙ ap (λ (o : Option (List ℕ)). if is_true_given procedures.MergeWorkspace args parameters.RemoveWorkspace then None else Some (merge_of (unwrap_or o []))) (given_timed m procedures.MergeWorkspace args parameters.Workspace)
call_timed m (Some _) args = refl

pub nets_timed : (m : ℕ) (l : Line) → nets_of_line (timed_line m l) ≡ nets_of_line l
nets_timed m (trees.Connect session user) = refl
nets_timed m (trees.Disconnect session) = refl
nets_timed m (trees.At n) = refl
nets_timed m (trees.Run session (trees.Create table items)) = refl
nets_timed m (trees.Run session (trees.Insert table names given)) = refl
nets_timed m (trees.Run session (trees.Update table sets filter)) = refl
nets_timed m (trees.Run session (trees.Delete table filter)) = refl
nets_timed m (trees.Run session (trees.Select query)) = refl
nets_timed m (trees.Run session (trees.Call procedure args condition)) = call_timed m (procedure_of procedure) args
