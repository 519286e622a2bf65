-- Calls.
use Rattle.std.specs.Prelude.{ℕ, Bool, true, false, List, [], ◌∷◌, Option, Some, None, pos}
use Rattle.std.proofs.Math.IntN.{neg_ℤ}
use Rattle.wm_base.specs.declared.instant.TheConstants.{END}
use Rattle.wm_syntax.specs.declared.constant.Const.{Const}
use Rattle.wm_syntax.specs.declared.constant.Const.TheVariants as consts
use Rattle.wm_syntax.specs.declared.statement.ArgValue.{ArgValue}
use Rattle.wm_syntax.specs.declared.statement.ArgValue.TheVariants as values
use Rattle.wm_syntax.specs.declared.statement.Arg.{Arg}
use Rattle.wm_syntax.specs.Trees.{Cond, Statement}
use Rattle.wm_syntax.specs.Trees as trees
use Rattle.wm_grammar.specs.declared.procedure.Procedure.{Procedure}
use Rattle.wm_grammar.specs.declared.procedure.Parameter.{Parameter}
use Rattle.wm_grammar.specs.declared.procedure.Parameter.TheVariants as parameters
use Rattle.wm_grammar.specs.Sorts as sorts
use Rattle.wm_grammar.specs.Forms.{Form, gives, one_for, mark, never, ◌>>=◌, ◌>>◌, ◌or◌, many_from}
use Rattle.wm_grammar.specs.Operands.{integer, instant, until_changed, period, constant}
use Rattle.wm_grammar.specs.Calls.{procedure_of, is_same, next_place, open_parameter, with_text, with_name, clause, gathered, one_more}

-- const, but for a text
unfoldable pub constant_but_text : Form Const
constant_but_text =
    (do mark sorts.MINUS; n ← integer; gives (consts.Num (neg_ℤ (pos n))))
    or (do n ← integer; gives (consts.Num (pos n)))
    or (do mark sorts.NULL; gives consts.Null)
    or (do mark sorts.SYSDATE; gives consts.Sysdate)
    or (do until_changed; gives (consts.Time END))
    or (do t ← instant; gives (consts.Time t))
    or (do p ← period; gives (consts.Span p.0 p.1))

-- const | TRUE | FALSE, and the condition where it is a where_clause that is one
unfoldable pub value_by : Bool → Form (ArgValue × Option Cond)
value_by false =
    (do mark sorts.TRUE; gives (values.Bool true, None))
    or (do mark sorts.FALSE; gives (values.Bool false, None))
    or (do k ← constant; gives (values.Const k, None))
value_by true =
    (do mark sorts.TRUE; gives (values.Bool true, None))
    or (do mark sorts.FALSE; gives (values.Bool false, None))
    or one_for sorts.TEXT clause
    or (do k ← constant_but_text; gives (values.Const k, None))

abbrev pub value_for : Parameter → Form (ArgValue × Option Cond)
value_for p = value_by (is_same p parameters.WhereClause)

-- the name of a parameter that has no argument yet; VALIDFROM and VALIDTILL are names of parameters too
unfoldable pub parameter_name : Procedure → List Arg → Form (List ℕ × Parameter)
parameter_name procedure args =
    one_for sorts.ID (λ t. with_text t (open_parameter procedure args t.text))
    or one_for sorts.VALIDFROM (λ t. with_text t (open_parameter procedure args t.text))
    or one_for sorts.VALIDTILL (λ t. with_text t (open_parameter procedure args t.text))

-- an argument by place, where one may follow
unfoldable pub placed : Option Parameter → Form (Arg × Option Cond)
placed None = never
placed (Some p) = do v ← value_for p; gives (record { name = None; value = v.0 }, v.1)

-- arg = [id "=>"] (const | TRUE | FALSE), behind these arguments
unfoldable pub arg : Procedure → List Arg → Form (Arg × Option Cond)
arg procedure args =
    (do n ← parameter_name procedure args; mark sorts.ARROW; v ← value_for n.1; gives (record { name = Some n.0; value = v.0 }, v.1))
    or placed (next_place procedure args)

abbrev pub next_arg : Procedure → List Arg → Form (Arg × Option Cond)
next_arg procedure args = mark sorts.COMMA >> arg procedure args

-- arg {"," arg}
unfoldable pub arguments : Procedure → Form (List Arg × Option Cond)
arguments procedure = do
  first ← arg procedure []
  others ← many_from one_more (next_arg procedure) (first.0 ∷ [])
  gives (gathered (first.0 ∷ [], first.1) others)

-- ["(" [arg {"," arg}] ")"]
unfoldable pub parenthesis : Procedure → Form (List Arg × Option Cond)
parenthesis procedure =
    (do mark sorts.CLOSE; gives ([], None))
    or (do found ← arguments procedure; mark sorts.CLOSE; gives found)

unfoldable pub arguments_of : Procedure → Form (List Arg × Option Cond)
arguments_of procedure = (do mark sorts.OPEN; parenthesis procedure) or gives ([], None)

-- the name of a procedure
abbrev pub procedure_name : Form (List ℕ × Procedure)
procedure_name = one_for sorts.ID (λ t. with_name t (procedure_of t.text))

-- DBMS_WM "." id ["(" [arg {"," arg}] ")"]
unfoldable pub package_call : Form Statement
package_call = do
  mark sorts.DBMS_WM
  mark sorts.DOT
  n ← procedure_name
  found ← arguments_of n.1
  gives (trees.Call n.0 found.0 found.1)

-- execute = (EXECUTE | EXEC) DBMS_WM "." id ["(" [arg {"," arg}] ")"]
unfoldable pub call : Form Statement
call =
    (do mark sorts.EXECUTE; package_call)
    or (do mark sorts.EXEC; package_call)
