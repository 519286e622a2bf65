-- The readers of calls.
use Rattle.std.specs.Prelude.{ℕ, Bool, true, false, List, [], ◌∷◌, Option, Some, None, pos}
use Rattle.std.proofs.Math.IntN.{neg_ℤ}
use Rattle.wm_base.specs.declared.instant.TheConstants.{END}
use Rattle.wm_syntax.specs.declared.constant.Const.{Const}
use Rattle.wm_syntax.specs.declared.constant.Const.TheVariants as consts
use Rattle.wm_syntax.specs.declared.statement.ArgValue.{ArgValue}
use Rattle.wm_syntax.specs.declared.statement.ArgValue.TheVariants as values
use Rattle.wm_syntax.specs.declared.statement.Arg.{Arg}
use Rattle.wm_syntax.specs.Trees.{Cond, Statement}
use Rattle.wm_syntax.specs.Trees as trees
use Rattle.wm_grammar.specs.declared.procedure.Procedure.{Procedure}
use Rattle.wm_grammar.specs.declared.procedure.Parameter.{Parameter}
use Rattle.wm_grammar.specs.declared.procedure.Parameter.TheVariants as parameters
use Rattle.wm_grammar.specs.Sorts as sorts
use Rattle.wm_grammar.specs.Reading.{Reader, gives_at, never_at, one_for_at, mark_at, ◌>>=◌, ◌>>◌, choose_at, many_from_at}
use Rattle.wm_grammar.specs.OperandReaders.{integer_at, instant_at, until_changed_at, period_at, constant_at, instant_sorts}
use Rattle.wm_grammar.specs.Calls.{procedure_of, is_same, next_place, open_parameter, with_text, with_name, clause, gathered, one_more}

unfoldable pub constant_but_text_at : Reader Const
constant_but_text_at =
    choose_at (sorts.MINUS ∷ []) (do mark_at sorts.MINUS; n ← integer_at; gives_at (consts.Num (neg_ℤ (pos n))))
    (choose_at (sorts.INT ∷ []) (do n ← integer_at; gives_at (consts.Num (pos n)))
    (choose_at (sorts.NULL ∷ []) (do mark_at sorts.NULL; gives_at consts.Null)
    (choose_at (sorts.SYSDATE ∷ []) (do mark_at sorts.SYSDATE; gives_at consts.Sysdate)
    (choose_at (sorts.DBMS_WM ∷ []) (do until_changed_at; gives_at (consts.Time END))
    (choose_at instant_sorts (do t ← instant_at; gives_at (consts.Time t))
    (do p ← period_at; gives_at (consts.Span p.0 p.1)))))))

abbrev pub clause_at : Reader (ArgValue × Option Cond)
clause_at = one_for_at sorts.TEXT clause

unfoldable pub value_by_at : Bool → Reader (ArgValue × Option Cond)
value_by_at false =
    choose_at (sorts.TRUE ∷ []) (do mark_at sorts.TRUE; gives_at (values.Bool true, None))
    (choose_at (sorts.FALSE ∷ []) (do mark_at sorts.FALSE; gives_at (values.Bool false, None))
    (do k ← constant_at; gives_at (values.Const k, None)))
value_by_at true =
    choose_at (sorts.TRUE ∷ []) (do mark_at sorts.TRUE; gives_at (values.Bool true, None))
    (choose_at (sorts.FALSE ∷ []) (do mark_at sorts.FALSE; gives_at (values.Bool false, None))
    (choose_at (sorts.TEXT ∷ []) clause_at
    (do k ← constant_but_text_at; gives_at (values.Const k, None))))

abbrev pub value_for_at : Parameter → Reader (ArgValue × Option Cond)
value_for_at p = value_by_at (is_same p parameters.WhereClause)

abbrev pub parameter_at : Procedure → List Arg → ℕ → Reader (List ℕ × Parameter)
parameter_at procedure args sort = one_for_at sort (λ t. with_text t (open_parameter procedure args t.text))

unfoldable pub parameter_name_at : Procedure → List Arg → Reader (List ℕ × Parameter)
parameter_name_at procedure args =
    choose_at (sorts.ID ∷ []) (parameter_at procedure args sorts.ID)
    (choose_at (sorts.VALIDFROM ∷ []) (parameter_at procedure args sorts.VALIDFROM)
    (parameter_at procedure args sorts.VALIDTILL))

unfoldable pub placed_at : Option Parameter → Reader (Arg × Option Cond)
placed_at None = never_at
placed_at (Some p) = do v ← value_for_at p; gives_at (record { name = None; value = v.0 }, v.1)

abbrev pub parameter_sorts : List ℕ
parameter_sorts = sorts.ID ∷ sorts.VALIDFROM ∷ sorts.VALIDTILL ∷ []

unfoldable pub arg_at : Procedure → List Arg → Reader (Arg × Option Cond)
arg_at procedure args =
    choose_at parameter_sorts (do n ← parameter_name_at procedure args; mark_at sorts.ARROW; v ← value_for_at n.1; gives_at (record { name = Some n.0; value = v.0 }, v.1))
    (placed_at (next_place procedure args))

abbrev pub next_arg_at : Procedure → List Arg → Reader (Arg × Option Cond)
next_arg_at procedure args = mark_at sorts.COMMA >> arg_at procedure args

unfoldable pub arguments_at : Procedure → Reader (List Arg × Option Cond)
arguments_at procedure = do
  first ← arg_at procedure []
  others ← many_from_at one_more (λ _. sorts.COMMA ∷ []) (next_arg_at procedure) (first.0 ∷ [])
  gives_at (gathered (first.0 ∷ [], first.1) others)

unfoldable pub parenthesis_at : Procedure → Reader (List Arg × Option Cond)
parenthesis_at procedure =
    choose_at (sorts.CLOSE ∷ []) (do mark_at sorts.CLOSE; gives_at ([], None))
    (do found ← arguments_at procedure; mark_at sorts.CLOSE; gives_at found)

unfoldable pub arguments_of_at : Procedure → Reader (List Arg × Option Cond)
arguments_of_at procedure = choose_at (sorts.OPEN ∷ []) (do mark_at sorts.OPEN; parenthesis_at procedure) (gives_at ([], None))

abbrev pub procedure_name_at : Reader (List ℕ × Procedure)
procedure_name_at = one_for_at sorts.ID (λ t. with_name t (procedure_of t.text))

unfoldable pub package_call_at : Reader Statement
package_call_at = do
  mark_at sorts.DBMS_WM
  mark_at sorts.DOT
  n ← procedure_name_at
  found ← arguments_of_at n.1
  gives_at (trees.Call n.0 found.0 found.1)

unfoldable pub call_at : Reader Statement
call_at =
    choose_at (sorts.EXECUTE ∷ []) (do mark_at sorts.EXECUTE; package_call_at)
    (do mark_at sorts.EXEC; package_call_at)
