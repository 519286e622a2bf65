-- What a call is refused for by the name that it gives to what it makes, in front of what else it is refused for.
use Rattle.std.proofs.Common.{◌≡◌, ℕ, nat_le, Bool, true, false, not, ◌&&◌, if◌then◌else◌, List, [], ◌∷◌, ◌++◌, length, Option, Some, None, unwrap_or, refl, sym, ap, ◌∙◌, subst}
use Rattle.std.proofs.lemmas.Bool.{and_parts}
use Rattle.std.specs.List.{list_all}
use Rattle.wm_base.specs.declared.refusal.Refusal.{Refusal}
use Rattle.wm_calls.specs.Faults.{argument_fault}
use Rattle.wm_grammar.specs.declared.procedure.Procedure.{Procedure}
use Rattle.wm_graph.specs.Parts.{parts_of}
use Rattle.wm_graph.specs.Rules.{is_short}
use Rattle.wm_model.specs.Planning.{SeatsStaged, Stay}
use Rattle.wm_model.specs.Step.{Outcome, Plan, also, bad_name, done_so, first_fault, for_text, is_name, misfit, mistyped, naming_faults, outcome, refused_if, refused_or, refused_with, reserved_name}
use Rattle.wm_model.specs.Step.Places.{least}
use Rattle.wm_outcome.proofs.Faults.{Ranked, at_for, at_if, least_none}
use Rattle.wm_outcome.proofs.Fitting.{fits_also}
use Rattle.wm_outcome.proofs.Ordered.{From, also_is}
use Rattle.wm_outcome.specs.Fitting.{Fits}
use Rattle.wm_spec.specs.declared.record.stored.Stored.{Stored}
use Rattle.wm_state.specs.Drafts.{CanDraft}
use Rattle.wm_syntax.specs.declared.statement.Arg.{Arg}

-- ---- faults that do not hold

-- what is not refused for a test does not pass it
pub untold : (b : Bool) (refusal : Refusal) → (if b then Some refusal else None) ≡ None → b ≡ false
untold true refusal e = cc
untold false refusal e = refl

-- where there is none at all, there is none of those in front
least_before : (gs fs : List (Option Refusal)) → least (gs ++ fs) ≡ None → least gs ≡ None
unfolding least
least_before [] fs e = refl
least_before (g ∷ gs) fs e = let h = least_none g (gs ++ fs) e in rw (h.0) (least_before gs fs h.1)

-- a plan fits behind faults where it fits once none of them holds
pub fits_behind : (rs : List Stored) (m : ℕ) (front : List (Option Refusal)) (q : Plan) → (least front ≡ None → Fits rs m q) → Fits rs m (also front q)
fits_behind rs m front q fits = by_least (least (front ++ q.faults)) refl
  where
    by_least : (f : Option Refusal) → least (front ++ q.faults) ≡ f → Fits rs m (also front q)
    by_least None clear = fits_also rs m front q (fits (least_before front q.faults clear))
    by_least (Some r) is = let told : outcome (also front q) ≡ refused_or (Some r) (done_so q) = ap (λ g. refused_or g (done_so q)) is in
        record {
          can = subst (λ (o : Outcome). CanDraft rs m o.edits) (sym told) tt;
          seats = subst (λ (o : Outcome). SeatsStaged (parts_of rs) o.seating) (sym told) tt;
          idle = λ said. (ap (λ (o : Outcome). o.edits) told, ap (λ (o : Outcome). o.seating) told);
        }

-- ---- names

module _ (procedure : Procedure) (args : List Arg) (name : List ℕ) (is_reserved : Bool) where
  -- what is wrong with the name and with the arguments
  abbrev pub front : List (Option Refusal)
  front = naming_faults name is_reserved ++ misfit procedure args ∷ []

  ranked : Ranked (7 ∷ 8 ∷ 14 ∷ []) front
  ranked = (at_if 7 (not (is_name name)) bad_name refl, (at_if 8 is_reserved (reserved_name name) refl, (at_for 14 mistyped (λ p. refl) (argument_fault procedure args), tt)))

  -- it is told before what the plan is refused for
  pub behind_name : (q : Plan) → From 19 q → outcome (also front q) ≡ refused_or (first_fault front) (outcome q)
  behind_name q later = also_is (7 ∷ 8 ∷ 14 ∷ []) 19 front q ranked refl refl later

  -- where nothing is, the name is short
  pub name_short : least front ≡ None → is_short name ≡ true
  name_short clear =
      let good = is_good (is_name name) (least_none _ _ clear).0 in
      let h = and_parts (nat_le 1 (length name) && nat_le (length name) 30) (list_all (λ b. nat_le 32 b && nat_le b 126) name) good in
      (and_parts (nat_le 1 (length name)) (nat_le (length name) 30) h.0).1
    where
      is_good : (b : Bool) → refused_if (not b) bad_name ≡ None → b ≡ true
      is_good true e = refl
      is_good false e = cc

-- ---- the plan with a name that is given

-- none is
pub text_lacks : (text fault : Option (List ℕ)) (act : List ℕ → Plan) (q : Outcome) → text ≡ None → q ≡ record { edits = []; seating = Stay; answer = mistyped (unwrap_or fault []) } → q ≡ outcome (for_text text fault act)
unfolding least
text_lacks text fault act q none is = is ∙ sym (ap (λ t. outcome (for_text t fault act)) none)

module _ (procedure : Procedure) (args : List Arg) (reserves : List ℕ → Bool) (act : List ℕ → Plan) where
  -- with what is wrong with the name in front
  abbrev pub fronted : List ℕ → Plan
  fronted name = also (front procedure args name (reserves name)) (act name)

  -- the name is refused, or an argument is
  pub name_told : (text fault : Option (List ℕ)) (name : List ℕ) (r : Refusal) (q : Outcome) → text ≡ Some name → From 19 (act name) → Some r ≡ first_fault (front procedure args name (reserves name)) → q ≡ refused_with r
      → q ≡ outcome (for_text text fault fronted)
  name_told text fault name r q some later is says =
      says ∙ ap (λ f. refused_or f (outcome (act name))) is ∙ sym (behind_name procedure args name (reserves name) (act name) later) ∙ sym (ap (λ t. outcome (for_text t fault fronted)) some)

  -- neither is
  pub name_clear : (text fault : Option (List ℕ)) (name : List ℕ) (q : Outcome) → text ≡ Some name → From 19 (act name) → None ≡ first_fault (front procedure args name (reserves name)) → q ≡ outcome (act name)
      → q ≡ outcome (for_text text fault fronted)
  name_clear text fault name q some later clear says =
      says ∙ ap (λ f. refused_or f (outcome (act name))) clear ∙ sym (behind_name procedure args name (reserves name) (act name) later) ∙ sym (ap (λ t. outcome (for_text t fault fronted)) some)
