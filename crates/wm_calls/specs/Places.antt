-- The parameter that an argument of a call is given for.
use Rattle.std.specs.Prelude.{ℕ, Bool, true, false, ◌&&◌, nat_lt, if◌then◌else◌, List, [], ◌∷◌, Option}
use Rattle.wm_syntax.specs.declared.statement.Arg.{Arg}
use Rattle.wm_grammar.specs.declared.procedure.Procedure.{Procedure}
use Rattle.wm_grammar.specs.declared.procedure.Procedure.TheVariants as procedures
use Rattle.wm_grammar.specs.declared.procedure.Parameter.{Parameter}
use Rattle.wm_grammar.specs.declared.procedure.Parameter.TheVariants as parameters
use Rattle.wm_grammar.specs.Calls.{parameters_of, at_place, parameter_by}

abbrev pub is_diff : Procedure → Bool
is_diff procedures.SetDiffVersions = true
is_diff _ = false

-- the parameters of a call with so many arguments: one or two of SetDiffVersions are the workspaces
abbrev pub parameters_in : Procedure → ℕ → List Parameter
parameters_in procedure count = if is_diff procedure && nat_lt count 3 then parameters.Workspace1 ∷ parameters.Workspace2 ∷ [] else parameters_of procedure

-- the parameter of the argument at a place of so many
abbrev pub parameter_at : Procedure → ℕ → ℕ → Arg → Option Parameter
parameter_at procedure count place arg = parameter_by arg.name (at_place (parameters_in procedure count) place) arg.value

-- validFrom is required where there is an argument
abbrev pub valid_time_required : ℕ → List Parameter
valid_time_required count = if nat_lt 0 count then parameters.ValidFrom ∷ [] else []

-- the parameters that have no default, in order
abbrev pub required_of : Procedure → ℕ → List Parameter
required_of procedures.EnableVersioning count = parameters.TableName ∷ []
required_of procedures.CreateWorkspace count = parameters.Workspace ∷ []
required_of procedures.CreateSavepoint count = parameters.Workspace ∷ parameters.SavepointName ∷ []
required_of procedures.GotoWorkspace count = parameters.Workspace ∷ []
required_of procedures.RefreshWorkspace count = parameters.Workspace ∷ []
required_of procedures.RemoveWorkspace count = parameters.Workspace ∷ []
required_of procedures.UnfreezeWorkspace count = parameters.Workspace ∷ []
required_of procedures.SetConflictWorkspace count = parameters.Workspace ∷ []
required_of procedures.BeginResolve count = parameters.Workspace ∷ []
required_of procedures.CommitResolve count = parameters.Workspace ∷ []
required_of procedures.RollbackResolve count = parameters.Workspace ∷ []
required_of procedures.GotoSavepoint count = []
required_of procedures.GotoDate count = parameters.InDate ∷ []
required_of procedures.RollbackToSp count = parameters.Workspace ∷ parameters.SavepointName ∷ []
required_of procedures.MergeWorkspace count = parameters.Workspace ∷ []
required_of procedures.FreezeWorkspace count = parameters.Workspace ∷ []
required_of procedures.SetLockingOn count = parameters.LockMode ∷ []
required_of procedures.SetLockingOff count = []
required_of procedures.LockRows count = parameters.Workspace ∷ parameters.TableName ∷ []
required_of procedures.UnlockRows count = parameters.Workspace ∷ parameters.TableName ∷ []
required_of procedures.ResolveConflicts count = parameters.Workspace ∷ parameters.TableName ∷ parameters.WhereClause ∷ parameters.Keep ∷ []
required_of procedures.SetDiffVersions count = parameters.Workspace1 ∷ parameters.Savepoint1 ∷ parameters.Workspace2 ∷ parameters.Savepoint2 ∷ []
required_of procedures.SetValidTime count = valid_time_required count
