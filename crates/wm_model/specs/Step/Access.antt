-- What lines ask of the workspaces that they are about: whether freezing allows it.
use Rattle.std.specs.Prelude.{ℕ, ◌==◌, Bool, not, List, [], ◌∷◌, Option, None, Some}
use Rattle.std.specs.List.{list_any}
use Rattle.std.specs.Option.{option_and_then}
use Rattle.wm_base.specs.declared.refusal.Refusal.{Refusal}
use Rattle.wm_grammar.specs.Calls.{procedure_of}
use Rattle.wm_grammar.specs.declared.procedure.Procedure.{Procedure}
use Rattle.wm_grammar.specs.declared.procedure.Procedure.TheVariants as procedures
use Rattle.wm_guard.specs.Access.{Hold, allows, held_by, word_of}
use Rattle.wm_guard.specs.declared.access.Class.{Class}
use Rattle.wm_guard.specs.declared.access.Class.TheVariants.{Enter, Write, Manage}
use Rattle.wm_outline.specs.Outline.{Outline, SpaceOutline}
use Rattle.wm_state.specs.State.{Session}
use Rattle.wm_syntax.specs.Trees.{Statement, Create, Insert, Update, Delete, Select, Call}
use Rattle.wm_syntax.specs.declared.statement.Arg.{Arg}
use Rattle.wm_model.specs.Step.Given.{workspace_given}
use Rattle.wm_model.specs.Step.Plans.{space_named, space_numbered}
use Rattle.wm_model.specs.Step.Refusing.{first_fault, frozen, refused_if}
use Rattle.wm_model.specs.Step.Undoing.{first_session}

-- ---- how a workspace is held

-- the session froze the workspace of a number for itself
abbrev pub holds : ℕ → Session → Bool
holds n session = list_any (λ k. k == n) session.freezes

abbrev pub hold_on : List Session → SpaceOutline → Hold
hold_on sessions x = held_by (first_session (holds x.number) sessions) x.fields.freeze x.fields.writer

-- what a session is refused for that does so in it
abbrev pub hold_fault : Class → Session → Outline → SpaceOutline → Option Refusal
hold_fault class session o x =
    refused_if (not (allows (hold_on o.sessions x) class session.user session.name)) (frozen x.fields.name (word_of (hold_on o.sessions x)))

-- ---- what a line asks

-- nothing; of the session's workspace; of the one that a call names, or of that and then of its parent
pub data Asks : Type 0 where
  Nothing : Asks
  Home : (class : Class) → Asks
  Named : (class : Class) → Asks
  Both : (class : Class) → Asks

abbrev pub asks_call : Procedure → Asks
asks_call procedures.GotoWorkspace = Named Enter
asks_call procedures.CreateWorkspace = Home Manage
asks_call procedures.CreateSavepoint = Named Manage
asks_call procedures.RollbackToSp = Named Manage
asks_call procedures.RemoveWorkspace = Named Manage
asks_call procedures.RefreshWorkspace = Named Manage
asks_call procedures.MergeWorkspace = Both Manage
asks_call procedures.BeginResolve = Named Manage
asks_call procedures.ResolveConflicts = Named Manage
asks_call procedures.CommitResolve = Named Manage
asks_call procedures.RollbackResolve = Named Manage
asks_call procedures.LockRows = Named Write
asks_call procedures.UnlockRows = Named Write
asks_call _ = Nothing

-- what the workspace of a number, or of a name, is frozen for; where it is not there another refusal is told
abbrev pub numbered_fault : Class → Session → Outline → ℕ → Option Refusal
numbered_fault class session o n = option_and_then (hold_fault class session o) (space_numbered n o)

abbrev pub named_fault : Class → Session → Outline → List ℕ → Option Refusal
named_fault class session o name = option_and_then (hold_fault class session o) (space_named name o)

-- and its parent
abbrev pub family_fault : Class → Session → Outline → SpaceOutline → Option Refusal
family_fault class session o x = first_fault (hold_fault class session o x ∷ numbered_fault class session o x.fields.parent ∷ [])

abbrev pub asked_fault : Asks → Session → List ℕ → Outline → Option Refusal
asked_fault Nothing session name o = None
asked_fault (Home class) session name o = numbered_fault class session o session.space
asked_fault (Named class) session name o = named_fault class session o name
asked_fault (Both class) session name o = option_and_then (family_fault class session o) (space_named name o)

abbrev pub frozen_call : Session → Option Procedure → List Arg → Outline → Option Refusal
frozen_call session None args o = None
frozen_call session (Some procedure) args o = asked_fault (asks_call procedure) session (workspace_given procedure args) o

-- what a statement is refused for since a workspace is frozen
abbrev pub frozen_fault : Session → Statement → Outline → Option Refusal
frozen_fault session (Create name items) o = None
frozen_fault session (Insert name names values) o = asked_fault (Home Write) session [] o
frozen_fault session (Update name sets filter) o = asked_fault (Home Write) session [] o
frozen_fault session (Delete name filter) o = asked_fault (Home Write) session [] o
frozen_fault session (Select query) o = None
frozen_fault session (Call procedure args condition) o = frozen_call session (procedure_of procedure) args o
