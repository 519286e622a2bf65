-- The plan of RemoveWorkspace: its faults stand in the order of their rows, and it fits records that keep the rules.
use Rattle.std.proofs.Common.{◌≡◌, ℕ, ◌<◌, ◌==◌, nat_lt, Bool, true, false, not, ◌&&◌, List, [], ◌∷◌, Option, Some, None, is_some, refl, sym, ap, ◌∙◌, arith, codes}
use Rattle.std.proofs.lemmas.Bool.{eqb-true, ne_eqb}
use Rattle.std.specs.List.{find, list_all}
use Rattle.std.specs.Option.{option_map}
use Rattle.wm_base.specs.declared.instant.TheConstants.{END}
use Rattle.wm_calls.specs.Faults.{argument_fault}
use Rattle.wm_grammar.specs.declared.procedure.Procedure.TheVariants as procedures
use Rattle.wm_graph.specs.Parts.{parts_of, space_of}
use Rattle.wm_graph.specs.Rules.{keep_rules}
use Rattle.wm_outline.specs.Outline.{Outline, SpaceOutline, outline_by, outline_of}
use Rattle.wm_outline.proofs.Looks.{none_by}
use Rattle.wm_spec.specs.declared.record.space.Space.{Space}
use Rattle.wm_spec.specs.declared.record.stored.Stored.{Stored}
use Rattle.wm_state.proofs.Climbing.{parent_apart}
use Rattle.wm_state.proofs.Named.{space_number}
use Rattle.wm_state.specs.Drafts.{CanDraft}
use Rattle.wm_state.specs.Editing.{is_other}
use Rattle.wm_state.specs.State.{Session}
use Rattle.wm_syntax.specs.declared.statement.Arg.{Arg}
use Rattle.wm_model.specs.Step.{Outcome, Plan, at_its_end, first_fault, first_named, first_session, for_named, has_child, is_child_of, is_spent, least, misfit, mistyped, no_parent, no_workspace, outcome, refused_for, refused_if, refused_or, remove_plan, removing, removing_faults, resolve_open, resolves, session_inside, space_named, stands_in, workspace_given}
use Rattle.wm_outcome.proofs.Faults.{Ranked, at_for, at_if, least_first, least_none}
use Rattle.wm_outcome.proofs.Fitting.{fits_also, fits_done, fits_named}
use Rattle.wm_outcome.proofs.Named.{InOrder}
use Rattle.wm_outcome.proofs.Ordered.{also_is, from_named, from_ranked}
use Rattle.wm_outcome.proofs.Plans.{drafts_one}
use Rattle.wm_outcome.specs.Fitting.{Fits}

-- ---- in order

abbrev rows : List ℕ
rows = 23 ∷ 31 ∷ 32 ∷ 35 ∷ 49 ∷ []

removing_ranked : (name : List ℕ) (o : Outline) (x : SpaceOutline) → Ranked rows (removing_faults name o x)
removing_ranked name o x = (
  at_if 23 (x.number == 0) (no_parent name) refl,
  (
    at_for 31 (session_inside x.fields.name) (λ y. refl) (first_session (stands_in x.number) o.sessions),
    (
      at_for 32 (has_child x.fields.name) (λ y. refl) (first_named (is_child_of x.number) o),
      (at_for 35 (resolve_open x.fields.name) (λ y. refl) (first_session (resolves x.number) o.sessions), (at_if 49 (is_spent o) (at_its_end (codes "WORK")) refl, tt)),
    ),
  ),
)

pub removing_order : (name : List ℕ) (o : Outline) (x : SpaceOutline) → InOrder (removing_faults name o x)
removing_order name o x = least_first rows (removing_faults name o x) (removing_ranked name o x) refl

-- ---- what comes of it

-- the plan for the workspace of this name
abbrev pub removed : List ℕ → Outline → Plan
removed name o = for_named (no_workspace name) (removing name o) (space_named name o)

-- what comes of it, by what is wrong with the arguments
pub remove_is : (args : List Arg) (o : Outline) (fault : Option (List ℕ)) (q : Outcome) → fault ≡ argument_fault procedures.RemoveWorkspace args
    → q ≡ refused_or (first_fault (refused_for mistyped fault ∷ [])) (outcome (removed (workspace_given procedures.RemoveWorkspace args) o)) → q ≡ outcome (remove_plan args o)
remove_is args o fault q is says =
    let name = workspace_given procedures.RemoveWorkspace args in
    says
    ∙ ap (λ (f : Option (List ℕ)). refused_or (first_fault (refused_for mistyped f ∷ [])) (outcome (removed name o))) is
    ∙ sym
    (also_is (14 ∷ []) 19 (refused_for mistyped (argument_fault procedures.RemoveWorkspace args) ∷ []) (removed name o) (at_for 14 mistyped (λ y. refl) (argument_fault procedures.RemoveWorkspace args), tt) refl refl
    (from_named 19 (no_workspace name) (removing name o) (space_named name o) refl (λ x. from_ranked 19 rows (removing_faults name o x) (removing_ranked name o x) refl)))

-- ---- what it drafts

module _ (rs : List Stored) (xs : List Session) (m : ℕ) (rules : keep_rules (parts_of rs) ≡ true) (early : nat_lt m END ≡ true) where
  removes_one : (name : List ℕ) (r : Space) → space_of (parts_of rs).spaces r.number ≡ Some r → least (removing_faults name (outline_of (parts_of rs) xs m) (outline_by (parts_of rs) r)) ≡ None
      → CanDraft rs m (removing name (outline_of (parts_of rs) xs m) (outline_by (parts_of rs) r)).edits
  removes_one name r here clear =
      let live = least_none _ _ clear in
      let inside = least_none _ _ live.1 in
      let child = least_none _ _ inside.1 in
      let resolve = least_none _ _ child.1 in
      let work = least_none _ _ resolve.1 in
      drafts_one rs xs m _ rules early refl (unspent (is_spent (outline_of (parts_of rs) xs m)) work.0)
      (record { some = above r.number (not_live (r.number == 0) live.0); there = ap is_some here; childless = childless (above r.number (not_live (r.number == 0) live.0)) (no_child _ child.0) })
    where
      not_live : (b : Bool) → refused_if b (no_parent name) ≡ None → b ≡ false
      not_live true h = cc
      not_live false h = refl

      unspent : (b : Bool) → refused_if b (at_its_end (codes "WORK")) ≡ None → b ≡ false
      unspent true h = cc
      unspent false h = refl

      above : (n : ℕ) → (n == 0) ≡ false → 0 < n
      above n away = grind (arith, away)

      no_child : (o : Option SpaceOutline) → refused_for (has_child r.name) (option_map (λ (c : SpaceOutline). c.fields.name) o) ≡ None → o ≡ None
      no_child None h = refl
      no_child (Some x) h = cc

      outside : (b c : Bool) → c ≡ false → (b && not c) ≡ false → not b ≡ true
      outside false c away fails = refl
      outside true false away fails = cc
      outside true true away fails = cc

      childless : 0 < r.number → find (is_child_of r.number) (outline_of (parts_of rs) xs m).spaces ≡ None → list_all (λ (q : Space). is_other r.number q.parent) (parts_of rs).spaces ≡ true
      childless some none =
          none_by (parts_of rs) (is_child_of r.number) (λ (q : Space). is_other r.number q.parent) rules none
          (λ n q is fails. by_itself n q is fails (q.number == r.number) refl)
        where
          by_itself : (n : ℕ) (q : Space) → space_of (parts_of rs).spaces n ≡ Some q → is_child_of r.number (outline_by (parts_of rs) q) ≡ false → (b : Bool) → (q.number == r.number) ≡ b → is_other r.number q.parent ≡ true
          by_itself n q is fails true same =
              let number : n ≡ r.number = sym (space_number (parts_of rs) n q is) ∙ eqb-true q.number r.number same in
              ap not (ne_eqb q.parent r.number (λ e. parent_apart (parts_of rs) rules r.number q some (ap (space_of (parts_of rs).spaces) (sym number) ∙ is) (sym e)))
          by_itself n q is fails false other = outside (q.parent == r.number) (q.number == r.number) other fails

  pub fits_remove : (args : List Arg) → Fits rs m (remove_plan args (outline_of (parts_of rs) xs m))
  fits_remove args =
      let o = outline_of (parts_of rs) xs m in
      let name = workspace_given procedures.RemoveWorkspace args in
      fits_also rs m (misfit procedures.RemoveWorkspace args ∷ []) (removed name o) (fits_named rs xs m (no_workspace name) (removing name o) name rules (λ r here. fits_done rs m (removing name o (outline_by (parts_of rs) r)) (removes_one name r here) tt refl))
