-- Calls of DBMS_WM: the table of procedures and their parameters, and what an argument is.
use Rattle.std.specs.Prelude.{ℕ, ◌+◌, Bool, true, false, not, ◌||◌, ◌&&◌, ◌==◌, if◌then◌else◌, length, List, [], ◌∷◌, ◌++◌, Option, Some, None, is_some, Result, Ok, Err, codes, slice_get}
use Rattle.std.specs.Str.{str_eq_ignore_ascii_case}
use Rattle.wm_syntax.specs.declared.constant.Const.{Const}
use Rattle.wm_syntax.specs.declared.constant.Const.TheVariants as consts
use Rattle.wm_syntax.specs.declared.statement.ArgValue.{ArgValue}
use Rattle.wm_syntax.specs.declared.statement.ArgValue.TheVariants as values
use Rattle.wm_syntax.specs.declared.statement.Arg.{Arg}
use Rattle.wm_syntax.specs.Trees.{Cond}
use Rattle.wm_grammar.specs.declared.procedure.Procedure.{Procedure}
use Rattle.wm_grammar.specs.declared.procedure.Procedure.TheVariants as procedures
use Rattle.wm_grammar.specs.declared.procedure.Parameter.{Parameter}
use Rattle.wm_grammar.specs.declared.procedure.Parameter.TheVariants as parameters
use Rattle.wm_grammar.specs.Symbols.{Symbol}
use Rattle.wm_grammar.specs.Meaning.{folded, unquoted}
use Rattle.wm_grammar.specs.Scanned.{symbols_of}
use Rattle.wm_grammar.specs.Faults.{all_of}
use Rattle.wm_grammar.specs.ExpressionReaders.{condition_at}

-- ---- the table: each procedure with its parameters in order

abbrev pub parameters_of : Procedure → List Parameter
parameters_of procedures.EnableVersioning = parameters.TableName ∷ parameters.Hist ∷ parameters.IsTopology ∷ parameters.ValidTime ∷ []
parameters_of procedures.CreateWorkspace = parameters.Workspace ∷ parameters.IsRefreshed ∷ parameters.Description ∷ []
parameters_of procedures.CreateSavepoint = parameters.Workspace ∷ parameters.SavepointName ∷ parameters.Description ∷ []
parameters_of procedures.GotoWorkspace = parameters.Workspace ∷ []
parameters_of procedures.RefreshWorkspace = parameters.Workspace ∷ []
parameters_of procedures.RemoveWorkspace = parameters.Workspace ∷ []
parameters_of procedures.UnfreezeWorkspace = parameters.Workspace ∷ []
parameters_of procedures.SetConflictWorkspace = parameters.Workspace ∷ []
parameters_of procedures.BeginResolve = parameters.Workspace ∷ []
parameters_of procedures.CommitResolve = parameters.Workspace ∷ []
parameters_of procedures.RollbackResolve = parameters.Workspace ∷ []
parameters_of procedures.GotoSavepoint = parameters.SavepointName ∷ []
parameters_of procedures.GotoDate = parameters.InDate ∷ []
parameters_of procedures.RollbackToSp = parameters.Workspace ∷ parameters.SavepointName ∷ []
parameters_of procedures.MergeWorkspace = parameters.Workspace ∷ parameters.CreateSavepoint ∷ parameters.RemoveWorkspace ∷ []
parameters_of procedures.FreezeWorkspace = parameters.Workspace ∷ parameters.FreezeMode ∷ parameters.FreezeWriter ∷ []
parameters_of procedures.SetLockingOn = parameters.LockMode ∷ []
parameters_of procedures.SetLockingOff = []
parameters_of procedures.LockRows = parameters.Workspace ∷ parameters.TableName ∷ parameters.WhereClause ∷ parameters.RowLockMode ∷ []
parameters_of procedures.UnlockRows = parameters.Workspace ∷ parameters.TableName ∷ parameters.WhereClause ∷ []
parameters_of procedures.ResolveConflicts = parameters.Workspace ∷ parameters.TableName ∷ parameters.WhereClause ∷ parameters.Keep ∷ []
parameters_of procedures.SetDiffVersions = parameters.Workspace1 ∷ parameters.Savepoint1 ∷ parameters.Workspace2 ∷ parameters.Savepoint2 ∷ []
parameters_of procedures.SetValidTime = parameters.ValidFrom ∷ parameters.ValidTill ∷ []

-- the arguments of SetDiffVersions stand by place alone
abbrev pub takes_names : Procedure → Bool
takes_names procedures.SetDiffVersions = false
takes_names _ = true

-- ---- names, whatever their case

unfoldable pub procedure_of3 : List ℕ → Option Procedure
procedure_of3 w =
    if str_eq_ignore_ascii_case w (codes "SETLOCKINGON") then Some procedures.SetLockingOn else
    (if str_eq_ignore_ascii_case w (codes "SETLOCKINGOFF") then Some procedures.SetLockingOff else
    (if str_eq_ignore_ascii_case w (codes "LOCKROWS") then Some procedures.LockRows else
    (if str_eq_ignore_ascii_case w (codes "UNLOCKROWS") then Some procedures.UnlockRows else
    (if str_eq_ignore_ascii_case w (codes "RESOLVECONFLICTS") then Some procedures.ResolveConflicts else
    (if str_eq_ignore_ascii_case w (codes "SETDIFFVERSIONS") then Some procedures.SetDiffVersions else
    (if str_eq_ignore_ascii_case w (codes "SETVALIDTIME") then Some procedures.SetValidTime else
    None))))))

unfoldable pub procedure_of2 : List ℕ → Option Procedure
procedure_of2 w =
    if str_eq_ignore_ascii_case w (codes "BEGINRESOLVE") then Some procedures.BeginResolve else
    (if str_eq_ignore_ascii_case w (codes "COMMITRESOLVE") then Some procedures.CommitResolve else
    (if str_eq_ignore_ascii_case w (codes "ROLLBACKRESOLVE") then Some procedures.RollbackResolve else
    (if str_eq_ignore_ascii_case w (codes "GOTOSAVEPOINT") then Some procedures.GotoSavepoint else
    (if str_eq_ignore_ascii_case w (codes "GOTODATE") then Some procedures.GotoDate else
    (if str_eq_ignore_ascii_case w (codes "ROLLBACKTOSP") then Some procedures.RollbackToSp else
    (if str_eq_ignore_ascii_case w (codes "MERGEWORKSPACE") then Some procedures.MergeWorkspace else
    (if str_eq_ignore_ascii_case w (codes "FREEZEWORKSPACE") then Some procedures.FreezeWorkspace else
    procedure_of3 w)))))))

unfoldable pub procedure_of : List ℕ → Option Procedure
procedure_of w =
    if str_eq_ignore_ascii_case w (codes "ENABLEVERSIONING") then Some procedures.EnableVersioning else
    (if str_eq_ignore_ascii_case w (codes "CREATEWORKSPACE") then Some procedures.CreateWorkspace else
    (if str_eq_ignore_ascii_case w (codes "CREATESAVEPOINT") then Some procedures.CreateSavepoint else
    (if str_eq_ignore_ascii_case w (codes "GOTOWORKSPACE") then Some procedures.GotoWorkspace else
    (if str_eq_ignore_ascii_case w (codes "REFRESHWORKSPACE") then Some procedures.RefreshWorkspace else
    (if str_eq_ignore_ascii_case w (codes "REMOVEWORKSPACE") then Some procedures.RemoveWorkspace else
    (if str_eq_ignore_ascii_case w (codes "UNFREEZEWORKSPACE") then Some procedures.UnfreezeWorkspace else
    (if str_eq_ignore_ascii_case w (codes "SETCONFLICTWORKSPACE") then Some procedures.SetConflictWorkspace else
    procedure_of2 w)))))))

unfoldable pub parameter_of3 : List ℕ → Option Parameter
parameter_of3 w =
    if str_eq_ignore_ascii_case w (codes "SAVEPOINT1") then Some parameters.Savepoint1 else
    (if str_eq_ignore_ascii_case w (codes "WORKSPACE2") then Some parameters.Workspace2 else
    (if str_eq_ignore_ascii_case w (codes "SAVEPOINT2") then Some parameters.Savepoint2 else
    (if str_eq_ignore_ascii_case w (codes "VALIDFROM") then Some parameters.ValidFrom else
    (if str_eq_ignore_ascii_case w (codes "VALIDTILL") then Some parameters.ValidTill else
    None))))

unfoldable pub parameter_of2 : List ℕ → Option Parameter
parameter_of2 w =
    if str_eq_ignore_ascii_case w (codes "CREATE_SAVEPOINT") then Some parameters.CreateSavepoint else
    (if str_eq_ignore_ascii_case w (codes "REMOVE_WORKSPACE") then Some parameters.RemoveWorkspace else
    (if str_eq_ignore_ascii_case w (codes "FREEZEMODE") then Some parameters.FreezeMode else
    (if str_eq_ignore_ascii_case w (codes "FREEZEWRITER") then Some parameters.FreezeWriter else
    (if str_eq_ignore_ascii_case w (codes "LOCKMODE") then Some parameters.LockMode else
    (if str_eq_ignore_ascii_case w (codes "WHERE_CLAUSE") then Some parameters.WhereClause else
    (if str_eq_ignore_ascii_case w (codes "LOCK_MODE") then Some parameters.RowLockMode else
    (if str_eq_ignore_ascii_case w (codes "KEEP") then Some parameters.Keep else
    (if str_eq_ignore_ascii_case w (codes "WORKSPACE1") then Some parameters.Workspace1 else
    parameter_of3 w))))))))

unfoldable pub parameter_of : List ℕ → Option Parameter
parameter_of w =
    if str_eq_ignore_ascii_case w (codes "TABLE_NAME") then Some parameters.TableName else
    (if str_eq_ignore_ascii_case w (codes "HIST") then Some parameters.Hist else
    (if str_eq_ignore_ascii_case w (codes "ISTOPOLOGY") then Some parameters.IsTopology else
    (if str_eq_ignore_ascii_case w (codes "VALIDTIME") then Some parameters.ValidTime else
    (if str_eq_ignore_ascii_case w (codes "WORKSPACE") then Some parameters.Workspace else
    (if str_eq_ignore_ascii_case w (codes "ISREFRESHED") then Some parameters.IsRefreshed else
    (if str_eq_ignore_ascii_case w (codes "DESCRIPTION") then Some parameters.Description else
    (if str_eq_ignore_ascii_case w (codes "SAVEPOINT_NAME") then Some parameters.SavepointName else
    (if str_eq_ignore_ascii_case w (codes "IN_DATE") then Some parameters.InDate else
    parameter_of2 w))))))))

-- the number of a parameter
abbrev pub parameter_code : Parameter → ℕ
parameter_code parameters.TableName = 0
parameter_code parameters.Hist = 1
parameter_code parameters.IsTopology = 2
parameter_code parameters.ValidTime = 3
parameter_code parameters.Workspace = 4
parameter_code parameters.IsRefreshed = 5
parameter_code parameters.Description = 6
parameter_code parameters.SavepointName = 7
parameter_code parameters.InDate = 8
parameter_code parameters.CreateSavepoint = 9
parameter_code parameters.RemoveWorkspace = 10
parameter_code parameters.FreezeMode = 11
parameter_code parameters.FreezeWriter = 12
parameter_code parameters.LockMode = 13
parameter_code parameters.WhereClause = 14
parameter_code parameters.RowLockMode = 15
parameter_code parameters.Keep = 16
parameter_code parameters.Workspace1 = 17
parameter_code parameters.Savepoint1 = 18
parameter_code parameters.Workspace2 = 19
parameter_code parameters.Savepoint2 = 20
parameter_code parameters.ValidFrom = 21
parameter_code parameters.ValidTill = 22

abbrev pub is_same : Parameter → Parameter → Bool
is_same p q = parameter_code p == parameter_code q

-- ---- the parameter of an argument

abbrev pub at_place : List Parameter → ℕ → Option Parameter
at_place ps n = slice_get ps n

abbrev pub is_text : ArgValue → Bool
is_text (values.Const (consts.Text t)) = true
is_text _ = false

abbrev pub is_some_same : Option Parameter → Parameter → Bool
is_some_same None p = false
is_some_same (Some q) p = is_same q p

-- a text by place where isrefreshed stands is the description
abbrev pub is_description : Option Parameter → ArgValue → Bool
is_description p value = is_some_same p parameters.IsRefreshed && is_text value

-- the parameter of an argument by place
abbrev pub placed_parameter : Option Parameter → ArgValue → Option Parameter
placed_parameter p value = if is_description p value then Some parameters.Description else p

abbrev pub parameter_by : Option (List ℕ) → Option Parameter → ArgValue → Option Parameter
parameter_by (Some n) p value = parameter_of n
parameter_by None p value = placed_parameter p value

-- the parameter of the argument at a place
abbrev pub parameter_for : Procedure → ℕ → Arg → Option Parameter
parameter_for procedure place arg = parameter_by arg.name (at_place (parameters_of procedure) place) arg.value

-- the parameter has an argument among these, the first of which stands at the place
abbrev pub is_given_from : Procedure → Parameter → ℕ → List Arg → Bool
is_given_from procedure p place [] = false
is_given_from procedure p place (a ∷ rest) = if is_some_same (parameter_for procedure place a) p then true else is_given_from procedure p (place + 1) rest

unfoldable pub is_given : Procedure → Parameter → List Arg → Bool
is_given procedure p args = is_given_from procedure p 0 args

-- an argument that names its parameter, or is the description by place: no argument by place may follow
abbrev pub closes : Procedure → ℕ → Arg → Bool
closes procedure place arg = is_some arg.name || is_description (at_place (parameters_of procedure) place) arg.value

abbrev pub is_closed_from : Procedure → ℕ → List Arg → Bool
is_closed_from procedure place [] = false
is_closed_from procedure place (a ∷ rest) = if closes procedure place a then true else is_closed_from procedure (place + 1) rest

unfoldable pub is_closed : Procedure → List Arg → Bool
is_closed procedure args = is_closed_from procedure 0 args

-- the parameter of the next argument by place, behind these
unfoldable pub next_place : Procedure → List Arg → Option Parameter
next_place procedure args = if is_closed procedure args then None else at_place (parameters_of procedure) (length args)

-- ---- symbols of a call

abbrev pub is_among : List Parameter → Parameter → Bool
is_among [] p = false
is_among (q ∷ qs) p = is_same q p || is_among qs p

abbrev pub free_parameter : Procedure → List Arg → Option Parameter → Option Parameter
free_parameter procedure args None = None
free_parameter procedure args (Some p) = if takes_names procedure && is_among (parameters_of procedure) p && not (is_given procedure p args) then Some p else None

-- the parameter that a word names, where it is one of the procedure's and has no argument among these
unfoldable pub open_parameter : Procedure → List Arg → List ℕ → Option Parameter
open_parameter procedure args w = free_parameter procedure args (parameter_of w)

abbrev pub with_text : Symbol → Option Parameter → Option (List ℕ × Parameter)
with_text t None = None
with_text t (Some p) = Some (folded t, p)

abbrev pub with_name : Symbol → Option Procedure → Option (List ℕ × Procedure)
with_name t None = None
with_name t (Some p) = Some (folded t, p)

-- ---- where_clause

-- the condition that a text is, if it is one
abbrev pub condition_of : Result Cond ℕ → Option Cond
condition_of (Ok c) = Some c
condition_of (Err n) = None

abbrev pub clause_by : List ℕ → Option Cond → Option (ArgValue × Option Cond)
clause_by bytes None = None
clause_by bytes (Some c) = Some (values.Const (consts.Text bytes), Some c)

-- the text without a byte is NULL, which means every key; another one is a condition
abbrev pub clause_in : List ℕ → Option (ArgValue × Option Cond)
clause_in [] = Some (values.Const consts.Null, None)
clause_in (b ∷ bs) = clause_by (b ∷ bs) (condition_of (all_of (condition_at 64 (symbols_of (b ∷ bs)))))

unfoldable pub clause : Symbol → Option (ArgValue × Option Cond)
clause t = clause_in (unquoted t.text)

-- ---- arguments one after another

abbrev pub first_some : Option Cond → Option Cond → Option Cond
first_some (Some c) d = Some c
first_some None d = d

-- the arguments, and the condition of the where_clause among them
abbrev pub gathered : List Arg × Option Cond → List (Arg × Option Cond) → List Arg × Option Cond
gathered kept [] = kept
gathered kept (x ∷ xs) = gathered (kept.0 ++ x.0 ∷ [], first_some kept.1 x.1) xs

abbrev pub one_more : List Arg → Arg × Option Cond → List Arg
one_more args x = args ++ x.0 ∷ []
