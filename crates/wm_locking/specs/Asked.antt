-- What LockRows and UnlockRows ask first, whatever they do with rows.
use denote.Ref.{Bor}
use Rattle.std.specs.Prelude.{◌≡◌, nat_lt, Bool, true, false, not, List, [], ◌∷◌, Option, None, Some, Result, Ok, Err}
use Rattle.std.specs.List.{list_all}
use Rattle.wm_base.specs.declared.refusal.Refusal.{Refusal}
use Rattle.wm_decided.specs.Keys.{columns_of_keys}
use Rattle.wm_grammar.specs.declared.procedure.Procedure.{Procedure}
use Rattle.wm_graph.specs.Parts.{parts_of, space_of, table_of}
use Rattle.wm_graph.specs.Rules.{is_table}
use Rattle.wm_ground.specs.Grounds.{outline_on}
use Rattle.wm_ground.specs.Outcomes.{outcome_view}
use Rattle.wm_ground.specs.declared.ground.Ground.{Ground}
use Rattle.wm_model.specs.Seating.{Stay}
use Rattle.wm_model.specs.Step.Places.{place}
use Rattle.wm_model.specs.Step.{Asking, Plan, fault_around, for_rows, for_space, mistyped, outcome, refused_for, refused_if, unkeyed_fault, versioning}
use Rattle.wm_outline.specs.Outline.{SpaceOutline, outline_by}
use Rattle.wm_plan.specs.declared.given.Given.{Given}
use Rattle.wm_plan.specs.declared.planned.Planned.{Planned}
use Rattle.wm_print.specs.Texts.{Answer}
use Rattle.wm_spec.specs.declared.record.table.Table.{Table}
use Rattle.wm_syntax.specs.Views.{filter_view}
use Rattle.wm_typing.specs.Types.{is_filter_typed, mistyped_in_filter}
use Rattle.wm_locking.specs.declared.asked.Asking.{Asking as AskingOf}
use Rattle.wm_locking.specs.declared.asked.Site.{Site}

-- ---- what is asked

abbrev pub asking_view : AskingOf → Asking
asking_view a = record { procedure = a.procedure; args = a.args.now; condition = filter_view a.condition.now; empty = a.empty }

abbrev pub asking_of : Procedure → Given → Bool → Asking
asking_of procedure given empty = record { procedure = procedure; args = given.args.now; condition = filter_view given.condition.now; empty = empty }

-- what is wrong with that, before a workspace is looked for
abbrev pub given_faults : Asking → Table → List (Option Refusal)
given_faults a t =
    refused_if (not t.versioned) (versioning t.name false)
    ∷ unkeyed_fault t a.condition
    ∷ refused_for mistyped (fault_around a.procedure a.args (mistyped_in_filter (columns_of_keys t) a.condition))
    ∷ []

-- ---- what comes of it

-- what is done with rows of a table in a workspace
abbrev pub Acts : Type 0
Acts = Table → SpaceOutline → Plan

-- a fault stands behind that of an empty period
abbrev pub is_late : Option Refusal → Bool
is_late None = true
is_late (Some r) = nat_lt 27 (place r)

-- so does each of what is done
abbrev pub AreLate : Acts → Type 0
AreLate act = (t : Table) (x : SpaceOutline) → list_all is_late (act t x).faults ≡ true

-- nothing comes of the call but this, whatever is done with rows
pub record IsNothing (g : Ground) (a : Asking) (p : Planned) : Type 0 where
  pub tells : (act : Acts) → AreLate act → outcome_view p ≡ outcome (for_rows a act (outline_on g))
  pub answer : Answer
  pub says : outcome_view p ≡ record { edits = []; seating = Stay; answer = answer }

-- the table that is named, or that nothing comes of the call
pub record IsTable (g : Ground) (a : Asking) (t : Table) : Type 0 where
  pub well : is_table t ≡ true
  pub there : table_of (parts_of g.image.now).tables t.number ≡ Some t
  pub comes : (act : Acts) → for_rows a act (outline_on g) ≡ for_space a act (outline_on g) t

-- the table and the workspace, with a condition that is typed for the table
pub record IsSite (g : Ground) (a : Asking) (s : Site) : Type 0 where
  pub well : is_table s.table.now ≡ true
  pub there : table_of (parts_of g.image.now).tables s.table.now.number ≡ Some s.table.now
  pub home : space_of (parts_of g.image.now).spaces s.space.now.number ≡ Some s.space.now
  pub typed : is_filter_typed (columns_of_keys s.table.now) a.condition ≡ true
  pub comes : (act : Acts) → AreLate act → outcome (act s.table.now (outline_by (parts_of g.image.now) s.space.now)) ≡ outcome (for_rows a act (outline_on g))

abbrev pub IsTabled : Ground → Asking → Result (Bor Table) Planned → Type 0
IsTabled g a (Ok t) = IsTable g a t.now
IsTabled g a (Err p) = IsNothing g a p

abbrev pub IsAsked : Ground → Asking → Result Site Planned → Type 0
IsAsked g a (Ok s) = IsSite g a s
IsAsked g a (Err p) = IsNothing g a p
