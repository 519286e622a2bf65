-- Plans: what a line is refused for, and what it makes and answers where nothing refuses it.
use Rattle.std.specs.Prelude.{ℕ, ◌+◌, ◌==◌, nat_lt, Bool, false, if◌then◌else◌, List, [], ◌∷◌, ◌++◌, Option, None, Some, unwrap_or, codes}
use Rattle.std.specs.List.{find}
use Rattle.std.specs.Option.{option_map_or}
use Rattle.std.specs.Str.{bytes_eq}
use Rattle.wm_base.specs.declared.refusal.Refusal.{Refusal}
use Rattle.wm_outline.specs.Outline.{Outline, SpaceOutline}
use Rattle.wm_print.specs.Texts.{Answer, Fine, Refused}
use Rattle.wm_spec.specs.declared.record.table.Table.{Table}
use Rattle.wm_state.specs.Editing.{counter_limit, line_work}
use Rattle.wm_state.specs.Standing.{SavepointFields}
use Rattle.wm_state.specs.State.{Session, State}
use Rattle.wm_state.specs.declared.edit.Edit.{Edit}
use Rattle.wm_model.specs.Seating.{Seating, Set, Stay, planned}
use Rattle.wm_model.specs.Step.Places.{least, place}
use Rattle.wm_model.specs.Step.Refusing.{at_its_end, mistyped, no_workspace, refusal_of, refused_if}
use Rattle.wm_model.specs.Step.Sessions.{Setting}

-- faults in any order
pub record Plan : Type 0 where
  pub faults : List (Option Refusal)
  pub edits : List Edit
  pub seating : Seating
  pub answer : Answer

-- what comes of it
pub record Outcome : Type 0 where
  pub edits : List Edit
  pub seating : Seating
  pub answer : Answer

abbrev pub refused_with : Refusal → Outcome
refused_with refusal = record { edits = []; seating = Stay; answer = Refused refusal }

abbrev pub done_so : Plan → Outcome
done_so p = record { edits = p.edits; seating = p.seating; answer = p.answer }

-- the refusal where there is one
abbrev pub refused_or : Option Refusal → Outcome → Outcome
refused_or None o = o
refused_or (Some refusal) o = refused_with refusal

-- the fault of the least place, and else what the plan does
abbrev pub outcome : Plan → Outcome
outcome p = refused_or (least p.faults) (done_so p)

-- the state behind it, and the answer
abbrev pub comes : Outcome → State → State × Answer
comes o s = (planned s.moment s.moment o.edits o.seating s, o.answer)

abbrev pub run : Plan → State → State × Answer
run p s = comes (outcome p) s

-- ---- what plans have in common

-- a plan that makes these edits, and is answered that it is done
abbrev pub doing : List (Option Refusal) → List Edit → Plan
doing faults edits = record { faults = faults; edits = edits; seating = Stay; answer = Fine }

-- one that sets something of the session
abbrev pub setting : List (Option Refusal) → Session → Setting → Plan
setting faults session what = record { faults = faults; edits = []; seating = Set session.name what; answer = Fine }

-- a plan that is refused at once
abbrev pub refusing : Answer → Plan
refusing answer = record { faults = refusal_of answer ∷ []; edits = []; seating = Stay; answer = Fine }

-- a plan with faults more
abbrev pub also : List (Option Refusal) → Plan → Plan
also faults p = record p { faults = faults ++ p.faults }

-- the work is at its end, for a line that makes so many locks
abbrev pub is_spent_by : ℕ → Outline → Bool
is_spent_by locks o = nat_lt counter_limit (o.work + (locks + line_work))

abbrev pub spent_by : ℕ → Outline → Option Refusal
spent_by locks o = refused_if (is_spent_by locks o) (at_its_end (codes "WORK"))

-- for one that makes none
abbrev pub is_spent : Outline → Bool
is_spent o = is_spent_by 0 o

abbrev pub spent : Outline → Option Refusal
spent o = spent_by 0 o

abbrev pub space_named : List ℕ → Outline → Option SpaceOutline
space_named name o = find (λ (x : SpaceOutline). bytes_eq name x.fields.name) o.spaces

abbrev pub space_numbered : ℕ → Outline → Option SpaceOutline
space_numbered n o = find (λ (x : SpaceOutline). x.number == n) o.spaces

-- the plan for the workspace of a name
abbrev pub for_named : Answer → (SpaceOutline → Plan) → Option SpaceOutline → Plan
for_named lacks act None = refusing lacks
for_named lacks act (Some x) = act x

-- the plan for the workspace that a session stands in, which is there in each state that lines lead to
abbrev pub for_home : (SpaceOutline → Plan) → Session → Outline → Plan
for_home act session o = for_named (no_workspace []) act (space_numbered session.space o)

-- the savepoint of a name in a workspace, and that of a making
abbrev pub savepoint_called : List ℕ → SpaceOutline → Option SavepointFields
savepoint_called name x = find (λ (k : SavepointFields). bytes_eq name k.name) x.savepoints

abbrev pub savepoint_at : ℕ → SpaceOutline → Option SavepointFields
savepoint_at making x = find (λ (k : SavepointFields). k.making == making) x.savepoints

-- the plan for a savepoint
abbrev pub for_savepoint : Answer → (SavepointFields → Plan) → Option SavepointFields → Plan
for_savepoint lacks act None = refusing lacks
for_savepoint lacks act (Some k) = act k

-- the plan with a text that is given for a parameter that the call requires; where it is not, something is wrong with the arguments
abbrev pub for_text : Option (List ℕ) → Option (List ℕ) → (List ℕ → Plan) → Plan
for_text None fault act = refusing (mistyped (unwrap_or fault []))
for_text (Some text) fault act = act text

-- the plan for the table of a name
abbrev pub for_table : Answer → (Table → Plan) → Option Table → Plan
for_table lacks act None = refusing lacks
for_table lacks act (Some t) = act t

-- ---- a refusal that many lines share

-- the answer is a refusal that is told before another one
abbrev pub is_before : Answer → Refusal → Bool
is_before answer r = option_map_or (λ (q : Refusal). nat_lt (place q) (place r)) (refusal_of answer) false

-- what a line does where it is refused for this too
abbrev pub barred : Option Refusal → State → State × Answer → State × Answer
barred None s done = done
barred (Some r) s done = if is_before done.1 r then done else (s, Refused r)

-- and what comes of its plan
abbrev pub barred_outcome : Option Refusal → Outcome → Outcome
barred_outcome None o = o
barred_outcome (Some r) o = if is_before o.answer r then o else refused_with r
