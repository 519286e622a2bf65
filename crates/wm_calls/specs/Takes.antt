-- What each parameter takes, and its name.
use Rattle.std.specs.Prelude.{ℕ, Bool, true, false, not, ◌||◌, List, codes}
use Rattle.std.specs.Str.{str_eq_ignore_ascii_case}
use Rattle.wm_syntax.specs.declared.constant.Const.{Const}
use Rattle.wm_syntax.specs.declared.constant.Const.TheVariants as consts
use Rattle.wm_syntax.specs.declared.statement.ArgValue.{ArgValue}
use Rattle.wm_syntax.specs.declared.statement.ArgValue.TheVariants as values
use Rattle.wm_grammar.specs.declared.procedure.Parameter.{Parameter}
use Rattle.wm_grammar.specs.declared.procedure.Parameter.TheVariants as parameters
use Rattle.wm_calls.specs.declared.takes.Takes.{Takes}
use Rattle.wm_calls.specs.declared.takes.Takes.TheVariants as kinds

abbrev pub takes_of : Parameter → Takes
takes_of parameters.TableName = kinds.Text
takes_of parameters.Hist = kinds.History
takes_of parameters.IsTopology = kinds.False
takes_of parameters.ValidTime = kinds.Truth
takes_of parameters.Workspace = kinds.Text
takes_of parameters.IsRefreshed = kinds.False
takes_of parameters.Description = kinds.Text
takes_of parameters.SavepointName = kinds.Text
takes_of parameters.InDate = kinds.Moment
takes_of parameters.CreateSavepoint = kinds.Truth
takes_of parameters.RemoveWorkspace = kinds.Truth
takes_of parameters.FreezeMode = kinds.Freeze
takes_of parameters.FreezeWriter = kinds.Text
takes_of parameters.LockMode = kinds.Lock
takes_of parameters.WhereClause = kinds.Clause
takes_of parameters.RowLockMode = kinds.Lock
takes_of parameters.Keep = kinds.Side
takes_of parameters.Workspace1 = kinds.Text
takes_of parameters.Savepoint1 = kinds.Text
takes_of parameters.Workspace2 = kinds.Text
takes_of parameters.Savepoint2 = kinds.Text
takes_of parameters.ValidFrom = kinds.Moment
takes_of parameters.ValidTill = kinds.Moment

-- the name of a parameter in capitals
abbrev pub parameter_name : Parameter → List ℕ
parameter_name parameters.TableName = codes "TABLE_NAME"
parameter_name parameters.Hist = codes "HIST"
parameter_name parameters.IsTopology = codes "ISTOPOLOGY"
parameter_name parameters.ValidTime = codes "VALIDTIME"
parameter_name parameters.Workspace = codes "WORKSPACE"
parameter_name parameters.IsRefreshed = codes "ISREFRESHED"
parameter_name parameters.Description = codes "DESCRIPTION"
parameter_name parameters.SavepointName = codes "SAVEPOINT_NAME"
parameter_name parameters.InDate = codes "IN_DATE"
parameter_name parameters.CreateSavepoint = codes "CREATE_SAVEPOINT"
parameter_name parameters.RemoveWorkspace = codes "REMOVE_WORKSPACE"
parameter_name parameters.FreezeMode = codes "FREEZEMODE"
parameter_name parameters.FreezeWriter = codes "FREEZEWRITER"
parameter_name parameters.LockMode = codes "LOCKMODE"
parameter_name parameters.WhereClause = codes "WHERE_CLAUSE"
parameter_name parameters.RowLockMode = codes "LOCK_MODE"
parameter_name parameters.Keep = codes "KEEP"
parameter_name parameters.Workspace1 = codes "WORKSPACE1"
parameter_name parameters.Savepoint1 = codes "SAVEPOINT1"
parameter_name parameters.Workspace2 = codes "WORKSPACE2"
parameter_name parameters.Savepoint2 = codes "SAVEPOINT2"
parameter_name parameters.ValidFrom = codes "VALIDFROM"
parameter_name parameters.ValidTill = codes "VALIDTILL"

-- the word, whatever its case
abbrev pub is_written : List ℕ → List ℕ → Bool
is_written text word = str_eq_ignore_ascii_case text word

abbrev pub is_history : List ℕ → Bool
is_history t = is_written t (codes "NONE") || is_written t (codes "VIEW_WO_OVERWRITE")

abbrev pub is_freeze : List ℕ → Bool
is_freeze t = is_written t (codes "NO_ACCESS") || is_written t (codes "READ_ONLY") || is_written t (codes "1WRITER") || is_written t (codes "1WRITER_SESSION") || is_written t (codes "WM_ONLY")

abbrev pub is_lock : List ℕ → Bool
is_lock t = is_written t (codes "E") || is_written t (codes "S") || is_written t (codes "WE") || is_written t (codes "VE")

abbrev pub is_side : List ℕ → Bool
is_side t = is_written t (codes "PARENT") || is_written t (codes "CHILD") || is_written t (codes "BASE")

abbrev pub fits_text : Takes → List ℕ → Bool
fits_text kinds.Text t = true
fits_text kinds.Clause t = true
fits_text kinds.History t = is_history t
fits_text kinds.Freeze t = is_freeze t
fits_text kinds.Lock t = is_lock t
fits_text kinds.Side t = is_side t
fits_text kinds.Truth t = false
fits_text kinds.False t = false
fits_text kinds.Moment t = false

abbrev pub is_moment : Takes → Bool
is_moment kinds.Moment = true
is_moment _ = false

abbrev pub is_clause : Takes → Bool
is_clause kinds.Clause = true
is_clause _ = false

abbrev pub fits_truth : Takes → Bool → Bool
fits_truth kinds.Truth b = true
fits_truth kinds.False b = not b
fits_truth _ b = false

-- a constant is one that a parameter takes; NULL where it is not required, or is a condition
abbrev pub fits_const : Bool → Takes → Const → Bool
fits_const required takes consts.Null = not required || is_clause takes
fits_const required takes (consts.Text t) = fits_text takes t
fits_const required takes (consts.Time t) = is_moment takes
fits_const required takes consts.Sysdate = is_moment takes
fits_const required takes (consts.Num n) = false
fits_const required takes (consts.Span from till) = false

-- a value is one that a parameter takes
abbrev pub fits : Bool → Takes → ArgValue → Bool
fits required takes (values.Const c) = fits_const required takes c
fits required takes (values.Bool b) = fits_truth takes b
