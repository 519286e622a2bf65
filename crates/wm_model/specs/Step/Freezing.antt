-- FreezeWorkspace and UnfreezeWorkspace.
use Rattle.std.specs.Prelude.{ℕ, Bool, true, false, not, ◌&&◌, ◌||◌, ◌==◌, if◌then◌else◌, List, [], ◌∷◌, Option, None, Some, option_map, unwrap_or, codes}
use Rattle.std.specs.Option.{option_map_or}
use Rattle.std.specs.Str.{bytes_eq}
use Rattle.wm_base.specs.declared.refusal.Refusal.{Refusal}
use Rattle.wm_calls.specs.Arguments.{argument, text_given}
use Rattle.wm_calls.specs.Faults.{argument_fault}
use Rattle.wm_calls.specs.Takes.{is_written}
use Rattle.wm_grammar.specs.declared.procedure.Procedure.TheVariants as procedures
use Rattle.wm_grammar.specs.declared.procedure.Parameter.TheVariants as parameters
use Rattle.wm_guard.specs.Access.{Hold, Free, NoAccess, ReadOnly, OneWriter, OneSession, WmOnly, is_free, mode_of, suits_live, writer_of}
use Rattle.wm_outline.specs.Outline.{Outline, SpaceOutline}
use Rattle.wm_print.specs.Texts.{Fine}
use Rattle.wm_reader.specs.Reading.{folded}
use Rattle.wm_spec.specs.declared.record.space.FreezeMode.TheVariants as modes
use Rattle.wm_state.specs.State.{Session}
use Rattle.wm_state.specs.declared.edit.Edit.{Edit}
use Rattle.wm_state.specs.declared.edit.Edit.TheVariants as edits
use Rattle.wm_syntax.specs.declared.constant.Const.TheVariants as consts
use Rattle.wm_syntax.specs.declared.statement.Arg.{Arg}
use Rattle.wm_syntax.specs.declared.statement.ArgValue.{ArgValue}
use Rattle.wm_syntax.specs.declared.statement.ArgValue.TheVariants as values
use Rattle.wm_model.specs.Seating.{Seating, Stay, Set, Thaw}
use Rattle.wm_model.specs.Step.Access.{hold_on}
use Rattle.wm_model.specs.Step.Naming.{is_name}
use Rattle.wm_model.specs.Step.Plans.{Plan, also, for_named, space_named, spent}
use Rattle.wm_model.specs.Step.Refusing.{already_frozen, bad_name, mistyped, no_workspace, not_frozen, refused_for, refused_if, reserved_name, session_inside}
use Rattle.wm_model.specs.Step.Sessions.{Freeze}
use Rattle.wm_model.specs.Step.Undoing.{first_session}

-- ---- what is asked for

-- the word of a mode that is given; NO_ACCESS where none is, or NULL; nothing where what is given is no text
abbrev pub mode_word : Option ArgValue → Option (List ℕ)
mode_word None = Some (codes "NO_ACCESS")
mode_word (Some (values.Const consts.Null)) = Some (codes "NO_ACCESS")
mode_word (Some (values.Const (consts.Text word))) = Some word
mode_word (Some _) = None

-- how a workspace is to be held, by the word of a mode; Free where the word is none
abbrev pub hold_worded : List ℕ → (writer session : List ℕ) → Hold
hold_worded word writer session =
    if is_written word (codes "NO_ACCESS") then NoAccess else
    (if is_written word (codes "READ_ONLY") then ReadOnly else
    (if is_written word (codes "1WRITER") then OneWriter writer else
    (if is_written word (codes "1WRITER_SESSION") then OneSession session else
    (if is_written word (codes "WM_ONLY") then WmOnly else Free))))

-- the one who may write, where one is given
abbrev pub writer_given : List Arg → Option (List ℕ)
writer_given args = option_map folded (text_given procedures.FreezeWorkspace args parameters.FreezeWriter)

-- the session's user may write where no other is given
abbrev pub hold_asked : Session → List Arg → Hold
hold_asked session args =
    option_map_or (λ word. hold_worded word (unwrap_or (writer_given args) session.user) session.name) (mode_word (argument procedures.FreezeWorkspace args parameters.FreezeMode)) Free

abbrev pub live : List ℕ
live = codes "LIVE"

-- LIVE may not be held so
abbrev pub spares_live : List ℕ → Hold → Bool
spares_live name hold = bytes_eq name live && not (suits_live hold || is_free hold)

-- ---- FreezeWorkspace

-- a session stands in a workspace that nobody is to enter
abbrev pub inside_fault : Hold → Outline → SpaceOutline → Option Refusal
inside_fault NoAccess o x = refused_for (session_inside x.fields.name) (first_session (λ (y : Session). y.space == x.number) o.sessions)
inside_fault hold o x = None

-- a session keeps what it freezes for itself; all else is kept by the store
abbrev pub work_fault : Hold → Outline → Option Refusal
work_fault (OneSession session) o = None
work_fault hold o = spent o

abbrev pub freezing_edits : Hold → ℕ → List Edit
freezing_edits (OneSession session) n = []
freezing_edits hold n = edits.Freeze n (mode_of hold) (writer_of hold) ∷ []

abbrev pub freezing_seating : Hold → ℕ → Seating
freezing_seating (OneSession session) n = Set session (Freeze n)
freezing_seating hold n = Stay

abbrev pub freezing : Hold → Outline → SpaceOutline → Plan
freezing hold o x = record {
  faults =
      refused_if (not (is_free (hold_on o.sessions x))) (already_frozen x.fields.name)
      ∷ inside_fault hold o x
      ∷ work_fault hold o
      ∷ [];
  edits = freezing_edits hold x.number;
  seating = freezing_seating hold x.number;
  answer = Fine;
}

-- what is wrong with what it is given: the one who may write is no name, LIVE is not held so, or an argument does not fit
abbrev pub freeze_faults : List ℕ → Option (List ℕ) → Hold → Option (List ℕ) → List (Option Refusal)
freeze_faults name writer hold fault =
    refused_if (option_map_or (λ (user : List ℕ). not (is_name user)) writer false) bad_name
    ∷ refused_if (spares_live name hold) (reserved_name name)
    ∷ refused_for mistyped fault
    ∷ []

-- FreezeWorkspace keeps hands off a workspace
abbrev pub freeze_plan : Session → List Arg → Outline → Plan
freeze_plan session args o =
    let name = unwrap_or (text_given procedures.FreezeWorkspace args parameters.Workspace) [] in
    let hold = hold_asked session args in
    also (freeze_faults name (writer_given args) hold (argument_fault procedures.FreezeWorkspace args))
    (for_named (no_workspace name) (freezing hold o) (space_named name o))

-- ---- UnfreezeWorkspace

abbrev pub thawing : Outline → SpaceOutline → Plan
thawing o x = of (hold_on o.sessions x)
  where
    of : Hold → Plan
    of Free = record { faults = refused_if true (not_frozen x.fields.name) ∷ []; edits = []; seating = Stay; answer = Fine }
    of (OneSession session) = record { faults = []; edits = []; seating = Thaw x.number; answer = Fine }
    of hold = record { faults = spent o ∷ []; edits = edits.Freeze x.number modes.Free [] ∷ []; seating = Stay; answer = Fine }

-- UnfreezeWorkspace lets a workspace go again, whoever froze it
abbrev pub unfreeze_plan : List Arg → Outline → Plan
unfreeze_plan args o =
    let name = unwrap_or (text_given procedures.UnfreezeWorkspace args parameters.Workspace) [] in
    also (refused_for mistyped (argument_fault procedures.UnfreezeWorkspace args) ∷ []) (for_named (no_workspace name) (thawing o) (space_named name o))
