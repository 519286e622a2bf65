-- What plans have in common: a plan does what is lawful where those that it is put together of do.
use Rattle.std.proofs.Common.{◌≡◌, ℕ, ◌==◌, Bool, true, false, if◌then◌else◌, List, [], ◌∷◌, ◌++◌, unwrap_or, Option, Some, None, option_map, refl, sym, ap, ◌∙◌, subst}
use Rattle.std.proofs.lemmas.Bool.{eqb-true}
use Rattle.std.specs.List.{find}
use Rattle.std.specs.Str.{bytes_eq}
use Rattle.wm_base.specs.declared.refusal.Refusal.{Refusal}
use Rattle.wm_outline.specs.Outline.{SpaceOutline, outline, outline_in}
use Rattle.wm_outline.proofs.Looks.{first_at}
use Rattle.wm_print.specs.Texts.{Answer, Fine}
use Rattle.wm_spec.specs.declared.record.table.Table.{Table}
use Rattle.wm_state.specs.Editing.{edited}
use Rattle.wm_state.specs.Firsts.{first_space}
use Rattle.wm_state.specs.Standing.{SavepointFields, fields_saved}
use Rattle.wm_state.specs.State.{Savepoint, Session, Stand, State, Workspace, workspace_of}
use Rattle.wm_state.specs.declared.edit.Edit.{Edit}
use Rattle.wm_model.specs.Lawful.{IsPlace, LawfulState}
use Rattle.wm_model.specs.Seating.{Stay, planned}
use Rattle.wm_model.specs.Step.Sessions as settings
use Rattle.wm_model.specs.Step.{Plan, Setting, also, doing, for_home, for_named, for_savepoint, for_table, for_text, mistyped, no_workspace, refusing, setting, space_named, with_setting}
use Rattle.wm_model.proofs.Lawful.Firsts.{NoFaults, first_there}
use Rattle.wm_model.proofs.Lawful.Leaves.{AreSound, Keeps, leaves_set}
use Rattle.wm_model.proofs.Lawful.Lists.{found_mapped}
use Rattle.wm_model.proofs.Lawful.Staging.{staged_with}

-- ---- plans that are refused, or may be

pub keeps_refusing : (answer : Answer) (s : State) → LawfulState s → Keeps s (refusing answer)
keeps_refusing answer s l = record { lawful = λ clear. l }

pub keeps_also : (front : List (Option Refusal)) (q : Plan) (s : State) → Keeps s q → Keeps s (also front q)
keeps_also front q s keeps = record { lawful = λ clear. keeps.lawful (behind front clear) }
  where
    behind : (fs : List (Option Refusal)) → NoFaults (fs ++ q.faults) → NoFaults q.faults
    behind [] none = none
    behind (f ∷ fs) none = behind fs none.1

pub keeps_if : (b : Bool) (p q : Plan) (s : State) → Keeps s p → Keeps s q → Keeps s (if b then p else q)
keeps_if true p q s one two = one
keeps_if false p q s one two = two

-- ---- for what is looked up

pub keeps_text : (text fault : Option (List ℕ)) (act : List ℕ → Plan) (s : State) → LawfulState s → ((name : List ℕ) → Keeps s (act name)) → Keeps s (for_text text fault act)
keeps_text None fault act s l each = keeps_refusing (mistyped (unwrap_or fault [])) s l
keeps_text (Some name) fault act s l each = each name

pub keeps_table : (lacks : Answer) (act : Table → Plan) (found : Option Table) (s : State) → LawfulState s → ((t : Table) → Keeps s (act t)) → Keeps s (for_table lacks act found)
keeps_table lacks act None s l each = keeps_refusing lacks s l
keeps_table lacks act (Some t) s l each = each t

-- the first workspace that passes a test is one of the state's
keeps_first : (P : SpaceOutline → Bool) (lacks : Answer) (act : SpaceOutline → Plan) (s : State) → LawfulState s
    → ((w : Workspace) → workspace_of s.durable.spaces w.number ≡ Some w → P (outline_in w) ≡ true → Keeps s (act (outline_in w))) → Keeps s (for_named lacks act (find P (outline s).spaces))
keeps_first P lacks act s l each = subst (λ (o : Option SpaceOutline). Keeps s (for_named lacks act o)) (sym (first_at s.durable P)) (by_first (first_space passes s.durable.spaces) refl)
  where
    passes : Workspace → Bool
    passes w = P (outline_in w)

    by_first : (o : Option Workspace) → first_space passes s.durable.spaces ≡ o → Keeps s (for_named lacks act (option_map outline_in o))
    by_first None is = keeps_refusing lacks s l
    by_first (Some w) is = let h = first_there passes s.durable.spaces w is in each w h.0 h.1

pub keeps_named : (lacks : Answer) (act : SpaceOutline → Plan) (name : List ℕ) (s : State) → LawfulState s → ((w : Workspace) → workspace_of s.durable.spaces w.number ≡ Some w → Keeps s (act (outline_in w)))
    → Keeps s (for_named lacks act (space_named name (outline s)))
keeps_named lacks act name s l each = keeps_first (λ (x : SpaceOutline). bytes_eq name x.fields.name) lacks act s l (λ w there passes. each w there)

pub keeps_home : (act : SpaceOutline → Plan) (session : Session) (s : State) → LawfulState s → ((w : Workspace) → workspace_of s.durable.spaces session.space ≡ Some w → Keeps s (act (outline_in w)))
    → Keeps s (for_home act session (outline s))
keeps_home act session s l each =
    keeps_first (λ (x : SpaceOutline). x.number == session.space) (no_workspace []) act s l (λ w there here. each w (ap (workspace_of s.durable.spaces) (sym (eqb-true w.number session.space here)) ∙ there))

-- the first savepoint that passes one is one of its workspace's
pub keeps_savepoint : (P : SavepointFields → Bool) (lacks : Answer) (act : SavepointFields → Plan) (w : Workspace) (s : State) → LawfulState s
    → ((k : Savepoint) → find (λ (y : Savepoint). P (fields_saved y)) w.savepoints ≡ Some k → Keeps s (act (fields_saved k))) → Keeps s (for_savepoint lacks act (find P (outline_in w).savepoints))
keeps_savepoint P lacks act w s l each = subst (λ (o : Option SavepointFields). Keeps s (for_savepoint lacks act o)) (found_mapped fields_saved P w.savepoints) (by_found (find passes w.savepoints) refl)
  where
    passes : Savepoint → Bool
    passes y = P (fields_saved y)

    by_found : (o : Option Savepoint) → find passes w.savepoints ≡ o → Keeps s (for_savepoint lacks act (option_map fields_saved o))
    by_found None is = keeps_refusing lacks s l
    by_found (Some k) is = each k is

-- ---- what they do

-- something is set of a session, which leaves it where something is, and stages what is sound
pub keeps_setting : (faults : List (Option Refusal)) (session : Session) (what : Setting) (s : State) (l : LawfulState s)
    → ((x : Session) → IsPlace s.durable.spaces x.space x.stand → IsPlace s.durable.spaces (with_setting what x).space (with_setting what x).stand) → AreSound s l (staged_with what)
    → Keeps s (setting faults session what)
keeps_setting faults session what s l to new = record { lawful = λ clear. (leaves_set session.name what s Fine l to new).lawful }

-- one edit, with its work
pub planned_edit : (e : Edit) (s : State) → LawfulState (record s { durable = edited s.moment e s.durable }) → LawfulState (planned s.moment s.moment (e ∷ []) Stay s)
planned_edit e s l = record { durable = record { spaces = l.durable.spaces; entries = l.durable.entries }; seats = l.seats }

pub keeps_doing : (faults : List (Option Refusal)) (e : Edit) (s : State) → LawfulState (record s { durable = edited s.moment e s.durable }) → Keeps s (doing faults (e ∷ []))
keeps_doing faults e s l = record { lawful = λ clear. planned_edit e s l }

-- a session goes to a place
pub keeps_gone : (faults : List (Option Refusal)) (session : Session) (n : ℕ) (stand : Stand) (s : State) → LawfulState s → IsPlace s.durable.spaces n stand → Keeps s (setting faults session (settings.Stand n stand))
keeps_gone faults session n stand s l p = keeps_setting faults session (settings.Stand n stand) s l (λ x old. p) tt

-- one rule for each of them
pub ruleset keeping = (keeps_also, keeps_if, keeps_text, keeps_table, keeps_named, keeps_home, keeps_savepoint, keeps_gone, keeps_doing)
