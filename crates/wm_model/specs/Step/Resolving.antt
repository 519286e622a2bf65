-- BeginResolve, ResolveConflicts, CommitResolve and RollbackResolve.
use Rattle.std.specs.Prelude.{ℕ, ◌+◌, ◌-◌, ◌==◌, ◌&&◌, nat_lt, Bool, true, false, not, if◌then◌else◌, List, [], ◌∷◌, ◌++◌, length, map, Option, None}
use Rattle.std.specs.Option.{option_map_or}
use Rattle.wm_syntax.specs.Trees.{Cond}
use Rattle.wm_syntax.specs.declared.statement.Arg.{Arg}
use Rattle.wm_base.specs.declared.refusal.Refusal.{Refusal}
use Rattle.wm_decided.specs.Deciding.{decisions_in}
use Rattle.wm_decided.specs.Keys.{columns_of_keys, meets_key}
use Rattle.wm_decided.specs.Netted.{entries_decided, marks_of}
use Rattle.wm_decided.specs.declared.keep.Keep.{Keep}
use Rattle.wm_net.specs.Conflicts.{Settled}
use Rattle.wm_grammar.specs.declared.procedure.Procedure.TheVariants as procedures
use Rattle.wm_outline.specs.Outline.{Outline, SpaceOutline, outline}
use Rattle.wm_print.specs.Texts.{Answer, Fine, Done}
use Rattle.wm_spec.specs.Lists.{Entry}
use Rattle.wm_spec.specs.declared.record.table.Table.{Table}
use Rattle.wm_state.specs.State.{State, Session, Workspace, Resolve, Decision, with_entries, with_space}
use Rattle.wm_telling.specs.Sides.{sides}
use Rattle.wm_typing.specs.Types.{mistyped_in_filter}
use Rattle.wm_model.specs.Step.Refusing.{no_parent, no_resolve, no_workspace, refused_if, unless, unless_empty_period, unless_mistyped, versioning}
use Rattle.wm_model.specs.Step.Counting.{durably}
use Rattle.wm_model.specs.Step.Faulting.{unkeyed_fault}
use Rattle.wm_model.specs.Step.Locks.{cells_of, claim_of, lock_fault}
use Rattle.wm_model.specs.Step.Naming.{parent_in, with_named, with_table}
use Rattle.wm_model.specs.Step.Sessions.{altered}
use Rattle.wm_model.specs.Step.Sessions as settings
use Rattle.wm_model.specs.Step.Given.{misfit, workspace_given}
use Rattle.wm_model.specs.Step.Plans.{Plan, also, for_named, setting, space_named}
use Rattle.wm_model.specs.Step.Undoing.{resolve_fault, resolves}

-- this is set of a session, and nothing else changes
abbrev pub set_of : Session → settings.Setting → State → State
set_of session setting s = record s { sessions = altered session.name setting s.sessions }

-- ---- a resolve is opened and closed

-- BeginResolve opens a resolve of a workspace, which is not LIVE, for the session; another one that the session has open is closed
abbrev pub begin_resolve_plan : Session → List Arg → Outline → Plan
begin_resolve_plan session args o =
    let name = workspace_given procedures.BeginResolve args in
    also (misfit procedures.BeginResolve args ∷ [])
    (for_named (no_workspace name)
    (λ x. setting (refused_if (x.number == 0) (no_parent name) ∷ resolve_fault o x ∷ []) session (settings.Begin x.number))
    (space_named name o))

-- the session that asks has a resolve of the workspace of this number open, which none has of LIVE
abbrev pub has_open : ℕ → Session → Bool
has_open n session = nat_lt 0 n && resolves n session

-- it has none
abbrev pub unopened_fault : Session → SpaceOutline → Option Refusal
unopened_fault session x = refused_if (not (has_open x.number session)) (no_resolve x.fields.name)

-- RollbackResolve closes it
abbrev pub rollback_resolve_plan : Session → List Arg → Outline → Plan
rollback_resolve_plan session args o =
    let name = workspace_given procedures.RollbackResolve args in
    also (misfit procedures.RollbackResolve args ∷ [])
    (for_named (no_workspace name) (λ x. setting (unopened_fault session x ∷ []) session settings.End) (space_named name o))

-- so in the lists of a state
abbrev pub unresolved_fault : Session → Workspace → Option Refusal
unresolved_fault session w = if has_open w.number session then None else refused_if true (no_resolve w.name)

-- ---- decisions

-- decisions come behind those that the session has made, where there are any; told is how many
abbrev pub decide : Session → List Decision → State → State × Answer
decide session [] s = (s, Done 0)
decide session (d ∷ ds) s = (set_of session (settings.Decide (d ∷ ds)) s, Done (length (d ∷ ds)))

-- on the conflicts of a workspace in a table, those whose keys meet a condition
abbrev pub decide_on : Session → Table → Option Cond → Keep → State → Workspace → State × Answer
decide_on session table condition keep s w = decide session (decisions_in keep (sides (parent_in s w) w) table.number (meets_key table condition)) s

-- ResolveConflicts decides which side of conflicts stands; `fault` tells what is wrong with the arguments, by what is of a wrong type first in
-- the condition
abbrev pub resolve_conflicts : Session → List ℕ → List ℕ → Option Cond → Keep → (Option (List ℕ) → Option (List ℕ)) → Bool → State → State × Answer
resolve_conflicts session workspace name condition keep fault empty s =
    with_table s name (λ table.
    if not table.versioned then (s, versioning name false) else
    unless (unkeyed_fault table condition) s
    (unless_mistyped (fault (mistyped_in_filter (columns_of_keys table) condition)) s
    (with_named s workspace (λ w. unless_empty_period empty s (unless (unresolved_fault session w) s (decide_on session table condition keep s w))))))

-- ---- what was decided

-- a workspace with entries and marks more
abbrev pub resolved : List Entry → List Settled → Workspace → Workspace
resolved es ms w = record (with_entries es w) { settled = w.settled ++ ms }

-- the decisions of a resolve become changes and marks of its workspace, if there are any and no lock bars them, and the resolve is closed
abbrev pub commit : Session → List Decision → Workspace → State → State × Answer
commit session [] w s = (set_of session settings.End s, Fine)
commit session (d ∷ ds) w s =
    let es = entries_decided s.moment session.user (d ∷ ds) in
    let ms = marks_of (w.next_place - 1) (d ∷ ds) in
    unless (lock_fault (outline s) (claim_of session w.number) (map cells_of es)) s
    (durably s (length w.lists.log + length es)
    (record (set_of session settings.End s) { durable = record s.durable { spaces = with_space w.number (resolved es ms) s.durable.spaces } }, Fine))

-- the decisions that a session has made
abbrev pub decisions_of : Session → List Decision
decisions_of session = option_map_or (λ (r : Resolve). r.decisions) session.resolve []

-- CommitResolve makes what was decided part of the workspace
abbrev pub commit_resolve : Session → List ℕ → State → State × Answer
commit_resolve session name s = with_named s name (λ w. unless (unresolved_fault session w) s (commit session (decisions_of session) w s))
