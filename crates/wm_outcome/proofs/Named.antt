-- What comes of a plan, by what was found of it; and so of the plan for the workspace of a name.
use Rattle.std.proofs.Common.{◌≡◌, ℕ, true, List, [], ◌∷◌, ◌++◌, Option, Some, None, refl, sym, ap, ◌∙◌, subst}
use Rattle.std.specs.List.{find}
use Rattle.std.specs.Option.{option_map}
use Rattle.std.specs.Str.{bytes_eq}
use Rattle.wm_base.specs.declared.refusal.Refusal.{Refusal}
use Rattle.wm_graph.specs.Parts.{Parts, parts_of}
use Rattle.wm_graph.specs.Rules.{keep_rules}
use Rattle.wm_outline.proofs.Looks.{named_by}
use Rattle.wm_outline.specs.Outline.{SpaceOutline, outline_by, outline_of}
use Rattle.wm_print.specs.Texts.{Answer, Refused}
use Rattle.wm_spec.specs.declared.record.space.Space.{Space}
use Rattle.wm_spec.specs.declared.record.stored.Stored.{Stored}
use Rattle.wm_state.specs.Drafts.{CanDraft}
use Rattle.wm_state.specs.State.{Session}
use Rattle.wm_model.specs.Planning.{SeatsStaged, Stay}
use Rattle.wm_model.specs.Step.{Outcome, Plan, also, done_so, first_fault, for_named, outcome, refusal_of, refused_or, refused_with, refusing, space_named}
use Rattle.wm_model.specs.Step.Places.{least}
use Rattle.wm_outcome.proofs.Faults.{first_before, first_behind, least_behind}

-- ---- a plan whose faults stand in the order of their rows

-- the fault that is told is the first one
abbrev pub InOrder : List (Option Refusal) → Type 0
InOrder fs = least fs ≡ first_fault fs

pub one_fault : (f : Option Refusal) → InOrder (f ∷ [])
unfolding least
one_fault None = refl
one_fault (Some r) = refl

pub told_first : (p : Plan) (f : Option Refusal) (q : Outcome) → InOrder p.faults → f ≡ first_fault p.faults → q ≡ refused_or f (done_so p) → q ≡ outcome p
told_first p f q order is says = says ∙ ap (λ g. refused_or g (done_so p)) (is ∙ sym order)

-- ---- what holds of what comes of a plan

-- its edits may be drafted where nothing refuses it
pub can_outcome : (rs : List Stored) (m : ℕ) (p : Plan) → (least p.faults ≡ None → CanDraft rs m p.edits) → CanDraft rs m (outcome p).edits
can_outcome rs m p can = by_least (least p.faults) refl
  where
    by_least : (f : Option Refusal) → least p.faults ≡ f → CanDraft rs m (refused_or f (done_so p)).edits
    by_least None clear = can clear
    by_least (Some refusal) told = tt

-- what it leaves the sessions with is staged
pub seats_outcome : (parts : Parts) (p : Plan) → SeatsStaged parts p.seating → SeatsStaged parts (outcome p).seating
seats_outcome parts p staged = by_least (least p.faults)
  where
    by_least : (f : Option Refusal) → SeatsStaged parts (refused_or f (done_so p)).seating
    by_least None = staged
    by_least (Some refusal) = tt

-- ---- the plan for the workspace of a name, with faults in front

module _ (front : List (Option Refusal)) (lacks : Answer) (act : SpaceOutline → Plan) where
  -- what holds of a plan that is refused at once, and of each of these plans, holds of this
  pub of_named : (P : Plan → Type 0) → P (also front (refusing lacks)) → ((x : SpaceOutline) → P (also front (act x))) → (o : Option SpaceOutline) → P (also front (for_named lacks act o))
  of_named P none some None = none
  of_named P none some (Some x) = some x

  pub seats_named : (parts : Parts) → ((x : SpaceOutline) → SeatsStaged parts (act x).seating) → (o : Option SpaceOutline) → SeatsStaged parts (outcome (also front (for_named lacks act o))).seating
  seats_named parts staged o = seats_outcome parts (also front (for_named lacks act o)) (of_named (λ p. SeatsStaged parts p.seating) tt staged o)

  -- a fault in front
  pub fronted : (o : Option SpaceOutline) (r : Refusal) (q : Outcome) → InOrder (front ++ (for_named lacks act o).faults) → Some r ≡ first_fault front → q ≡ refused_with r → q ≡ outcome (also front (for_named lacks act o))
  fronted o r q order is says = told_first (also front (for_named lacks act o)) (Some r) q order (first_before front (for_named lacks act o).faults r is) says

  -- no workspace has the name
  pub homeless : (o : Option SpaceOutline) (r : Refusal) (q : Outcome) → InOrder (front ++ refusal_of lacks ∷ []) → None ≡ first_fault front → o ≡ None → lacks ≡ Refused r → q ≡ record { edits = []; seating = Stay; answer = lacks }
      → q ≡ outcome (also front (for_named lacks act o))
  homeless o r q order clear none tells says =
      told_first (also front (refusing lacks)) (Some r) q order (first_behind front (refusal_of lacks ∷ []) (Some r) clear (ap (λ a. first_fault (refusal_of a ∷ [])) (sym tells)))
      (says ∙ ap (λ (a : Answer). let o : Outcome = record { edits = []; seating = Stay; answer = a } in o) tells)
      ∙ sym (ap (λ (x : Option SpaceOutline). outcome (also front (for_named lacks act x))) none)

  -- one has, and the plan for it is refused, or it is not
  pub found_so : (o : Option SpaceOutline) (x : SpaceOutline) (f : Option Refusal) (q : Outcome) → InOrder (front ++ (act x).faults) → None ≡ first_fault front → o ≡ Some x → f ≡ first_fault (act x).faults → q ≡ refused_or f (done_so (act x))
      → q ≡ outcome (also front (for_named lacks act o))
  found_so o x f q order clear found is says =
      told_first (also front (act x)) f q order (first_behind front (act x).faults f clear is) says ∙ sym (ap (λ (y : Option SpaceOutline). outcome (also front (for_named lacks act y))) found)

  -- its edits may be drafted
  pub can_named : (rs : List Stored) (xs : List Session) (m : ℕ) (name : List ℕ) → keep_rules (parts_of rs) ≡ true
      → ((r : Space) → find (λ (s : Space). bytes_eq name s.name) (parts_of rs).spaces ≡ Some r → least (act (outline_by (parts_of rs) r)).faults ≡ None → CanDraft rs m (act (outline_by (parts_of rs) r)).edits)
      → CanDraft rs m (outcome (also front (for_named lacks act (space_named name (outline_of (parts_of rs) xs m))))).edits
  can_named rs xs m name rules can =
      subst (λ (o : Option SpaceOutline). CanDraft rs m (outcome (also front (for_named lacks act o))).edits) (sym (named_by (parts_of rs) rules name)) (by_record (find (λ (s : Space). bytes_eq name s.name) (parts_of rs).spaces) refl)
    where
      by_record : (o : Option Space) → find (λ (s : Space). bytes_eq name s.name) (parts_of rs).spaces ≡ o → CanDraft rs m (outcome (also front (for_named lacks act (option_map (outline_by (parts_of rs)) o)))).edits
      by_record None none = can_outcome rs m (also front (refusing lacks)) (λ clear. tt)
      by_record (Some r) found = can_outcome rs m (also front (act (outline_by (parts_of rs) r))) (λ clear. can r found (least_behind front (act (outline_by (parts_of rs) r)).faults clear))
