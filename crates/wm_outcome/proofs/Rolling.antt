-- The plan of RollbackToSP: its faults stand in the order of their rows, and it fits records that keep the rules.
use Rattle.std.proofs.Common.{◌≡◌, ℕ, ◌==◌, ◌&&◌, nat_lt, Bool, true, false, not, cond, if◌then◌else◌, List, [], ◌∷◌, map, Option, Some, None, unwrap_or, refl, sym, ap, ◌∙◌, subst, codes}
use Rattle.std.proofs.lemmas.Bool.{and_from, and_parts, eq-eqb, eqb-true}
use Rattle.std.proofs.lemmas.Option.{same_Some}
use Rattle.std.specs.List.{find}
use Rattle.std.specs.Str.{bytes_eq}
use Rattle.wm_base.specs.declared.instant.TheConstants.{END}
use Rattle.wm_base.specs.declared.refusal.Refusal.{Refusal}
use Rattle.wm_calls.specs.Arguments.{text_given}
use Rattle.wm_calls.specs.Faults.{argument_fault}
use Rattle.wm_grammar.specs.declared.procedure.Parameter.TheVariants as parameters
use Rattle.wm_grammar.specs.declared.procedure.Procedure.TheVariants as procedures
use Rattle.wm_graph.specs.Parts.{Parts, parts_of, space_of}
use Rattle.wm_graph.specs.Rules.{differ, keep_rules}
use Rattle.wm_model.specs.Planning.{Stay}
use Rattle.wm_model.specs.Step.{Outcome, Plan, at_its_end, depends, also, first_fault, first_named, first_session, for_named, for_savepoint, for_text, is_spent, is_still, misfit, mistyped, dependent_child, no_savepoint, no_workspace, outcome, rebased_since, refused_if, refused_or, reserved_name, resolve_open, resolves, rollback_plan, rolling, rolling_faults, savepoint_called, session_inside, space_named, spent, stands_behind, workspace_given}
use Rattle.wm_model.specs.Step.Naming.{latest}
use Rattle.wm_model.specs.Step.Places.{least}
use Rattle.wm_outcome.proofs.Faults.{AtPlace, Ranked, at_for, at_if, least_first, least_none}
use Rattle.wm_outcome.proofs.Fitting.{fits_also, fits_doing, fits_named, fits_savepoint, fits_text}
use Rattle.wm_outcome.proofs.Named.{InOrder}
use Rattle.wm_outcome.proofs.Ordered.{From, also_is, from_named, from_ranked, from_savepoint}
use Rattle.wm_outcome.proofs.Plans.{drafts_one}
use Rattle.wm_outcome.specs.Fitting.{Fits}
use Rattle.wm_outline.specs.Outline.{Outline, SpaceOutline, outline_by, outline_of}
use Rattle.wm_spec.specs.declared.record.savepoint.Savepoint.{Savepoint}
use Rattle.wm_spec.specs.declared.record.space.Space.{Space}
use Rattle.wm_spec.specs.declared.record.stored.Stored.{Stored}
use Rattle.wm_state.proofs.Apart.{ruled}
use Rattle.wm_state.proofs.Making.{making-itself, same_making}
use Rattle.wm_state.proofs.Mapped.{find-again, find-else, find-passes}
use Rattle.wm_state.proofs.Named.{ruled_savepoints}
use Rattle.wm_state.proofs.SavedAs.{named_sorted}
use Rattle.wm_state.specs.Drafts.{CanDraft, CanRestore}
use Rattle.wm_state.specs.Standing.{SavepointFields, saved_as, saved_fields, saved_in}
use Rattle.wm_state.specs.State.{Session}
use Rattle.wm_state.specs.declared.edit.Edit.TheVariants as edits
use Rattle.wm_syntax.specs.declared.statement.Arg.{Arg}

-- ---- in order

abbrev rows : List ℕ
rows = 31 ∷ 33 ∷ 34 ∷ 35 ∷ 49 ∷ []

rolling_ranked : (o : Outline) (x : SpaceOutline) (k : SavepointFields) → Ranked rows (rolling_faults o x k)
rolling_ranked o x k = (
  at_for 31 (session_inside x.fields.name) (λ y. refl) (first_session (stands_behind x k) o.sessions),
  (
    at_for 33 dependent_child (λ y. refl) (first_named (depends o.sessions x k) o),
    (
      at_if 34 (not (k.rebases == x.fields.rebases)) (rebased_since k.name) refl,
      (at_for 35 (resolve_open x.fields.name) (λ y. refl) (first_session (resolves x.number) o.sessions), (at_work (is_still o x k), tt)),
    ),
  ),
)
  where
    at_work : (b : Bool) → AtPlace 49 (if b then None else spent o)
    at_work true = tt
    at_work false = at_if 49 (is_spent o) (at_its_end (codes "WORK")) refl

pub rolling_order : (o : Outline) (x : SpaceOutline) (k : SavepointFields) → InOrder (rolling_faults o x k)
rolling_order o x k = least_first rows (rolling_faults o x k) (rolling_ranked o x k) refl

-- the plan for the workspace and the savepoint of these names
abbrev pub rolled : (workspace name : List ℕ) → Outline → Plan
rolled workspace name o = for_named (no_workspace workspace) (λ x. for_savepoint (no_savepoint name) (rolling o x) (savepoint_called name x)) (space_named workspace o)

rolled_from : (workspace name : List ℕ) (o : Outline) → From 19 (rolled workspace name o)
rolled_from workspace name o =
    from_named 19 (no_workspace workspace) (λ x. for_savepoint (no_savepoint name) (rolling o x) (savepoint_called name x)) (space_named workspace o) refl
    (λ x. from_savepoint 19 (no_savepoint name) (rolling o x) (savepoint_called name x) refl (λ k. from_ranked 19 rows (rolling_faults o x k) (rolling_ranked o x k) refl))

-- ---- what comes of it

-- where no savepoint is named
pub rollback_lacks : (args : List Arg) (o : Outline) → text_given procedures.RollbackToSp args parameters.SavepointName ≡ None
    → let q : Outcome = record { edits = []; seating = Stay; answer = mistyped (unwrap_or (argument_fault procedures.RollbackToSp args) []) } in q ≡ outcome (rollback_plan args o)
unfolding least
rollback_lacks args o none = rw none refl

-- where one is, by what is wrong with what is given
pub rollback_is : (args : List Arg) (o : Outline) (name : List ℕ) → text_given procedures.RollbackToSp args parameters.SavepointName ≡ Some name
    → outcome (rollback_plan args o)
    ≡ refused_or (first_fault (refused_if (bytes_eq name latest) (reserved_name name) ∷ misfit procedures.RollbackToSp args ∷ [])) (outcome (rolled (workspace_given procedures.RollbackToSp args) name o))
rollback_is args o name some =
    ap (λ (text : Option (List ℕ)). outcome (for_text text (argument_fault procedures.RollbackToSp args) given)) some
    ∙ also_is (8 ∷ 14 ∷ []) 19 (front name) (rolled workspace name o) (at_if 8 (bytes_eq name latest) (reserved_name name) refl, (at_for 14 mistyped (λ y. refl) (argument_fault procedures.RollbackToSp args), tt)) refl refl
    (rolled_from workspace name o)
  where
    workspace : List ℕ
    workspace = workspace_given procedures.RollbackToSp args

    front : List ℕ → List (Option Refusal)
    front text = refused_if (bytes_eq text latest) (reserved_name text) ∷ misfit procedures.RollbackToSp args ∷ []

    given : List ℕ → Plan
    given text = also (front text) (rolled workspace text o)

-- ---- what it drafts

-- the savepoint of a name is found by its making
named_made : (p : Parts) (n : ℕ) (name : List ℕ) (x : Savepoint) → keep_rules p ≡ true → find (λ (y : Savepoint). bytes_eq name y.name) (saved_in p n) ≡ Some x → saved_as p n x.making ≡ Some x
named_made p n name x rules saved =
    find-else (λ (y : Savepoint). (y.space == n) && (y.making == x.making)) (λ (y : Savepoint). y.making == x.making) same_making
    (λ y z one other. eq-eqb y.making z.making (eqb-true _ _ (and_parts (y.space == n) (y.making == x.making) one).1 ∙ sym (eqb-true _ _ (and_parts (z.space == n) (z.making == x.making) other).1)))
    p.savepoints x makings (find-again same_making making-itself (λ (y : Savepoint). (y.space == n) && bytes_eq name y.name) p.savepoints x makings found)
    (and_from (x.space == n) (x.making == x.making)
    (and_parts (x.space == n) (bytes_eq name x.name) (find-passes (λ (y : Savepoint). (y.space == n) && bytes_eq name y.name) p.savepoints x found)).0
    (eq-eqb x.making x.making refl))
  where
    makings : differ same_making p.savepoints ≡ true
    makings = let r = ruled p rules in (ruled_savepoints p r.counters.work r.savepoints).makings

    found : find (λ (y : Savepoint). (y.space == n) && bytes_eq name y.name) p.savepoints ≡ Some x
    found = named_sorted p rules n name ∙ saved

-- what is found among their fields is found among savepoints
found_saved : (name : List ℕ) (ys : List Savepoint) (k : SavepointFields) → find (λ (j : SavepointFields). bytes_eq name j.name) (map saved_fields ys) ≡ Some k
    → (y : Savepoint) × (find (λ (j : Savepoint). bytes_eq name j.name) ys ≡ Some y) × (saved_fields y ≡ k)
found_saved name [] k found = absurd (cc)
found_saved name (y ∷ ys) k found = by_test (bytes_eq name y.name) found (found_saved name ys k)
  where
    named : Savepoint → Bool
    named j = bytes_eq name j.name

    rest : Option Savepoint
    rest = find named ys

    by_test : (b : Bool) → cond b (Some (saved_fields y)) (find (λ (j : SavepointFields). bytes_eq name j.name) (map saved_fields ys)) ≡ Some k
        → (find (λ (j : SavepointFields). bytes_eq name j.name) (map saved_fields ys) ≡ Some k → (z : Savepoint) × (rest ≡ Some z) × (saved_fields z ≡ k)) → (z : Savepoint) × (cond b (Some y) rest ≡ Some z) × (saved_fields z ≡ k)
    by_test true e more = (y, refl, same_Some (saved_fields y) k e)
    by_test false e more = more e

module _ (rs : List Stored) (xs : List Session) (m : ℕ) (rules : keep_rules (parts_of rs) ≡ true) (early : nat_lt m END ≡ true) where
  rolls_one : (name : List ℕ) (r : Space) (k : SavepointFields) → space_of (parts_of rs).spaces r.number ≡ Some r → savepoint_called name (outline_by (parts_of rs) r) ≡ Some k
      → least (rolling_faults (outline_of (parts_of rs) xs m) (outline_by (parts_of rs) r) k) ≡ None → CanDraft rs m (rolling (outline_of (parts_of rs) xs m) (outline_by (parts_of rs) r) k).edits
  rolls_one name r k here found clear =
      let inside = least_none _ _ clear in
      let child = least_none _ _ inside.1 in
      let rebased = least_none _ _ child.1 in
      let resolve = least_none _ _ rebased.1 in
      let work = least_none _ _ resolve.1 in
      by_still (is_still (outline_of (parts_of rs) xs m) (outline_by (parts_of rs) r) k) (based (k.rebases == r.rebases) rebased.0) work.0
    where
      based : (b : Bool) → refused_if (not b) (rebased_since k.name) ≡ None → b ≡ true
      based true h = refl
      based false h = cc

      unspent : (b : Bool) → refused_if b (at_its_end (codes "WORK")) ≡ None → b ≡ false
      unspent true h = cc
      unspent false h = refl

      can : (k.rebases == r.rebases) ≡ true → CanRestore (parts_of rs) r.number k.making
      can same = let h = found_saved name (saved_in (parts_of rs) r.number) k found in
          record {
            space = r;
            there = here;
            savepoint = h.0;
            saved = subst (λ (j : SavepointFields). saved_as (parts_of rs) r.number j.making ≡ Some h.0) h.2 (named_made (parts_of rs) r.number name h.0 rules h.1);
            based = ap (λ (j : SavepointFields). j.rebases) h.2 ∙ eqb-true k.rebases r.rebases same;
          }

      by_still : (b : Bool) → (k.rebases == r.rebases) ≡ true → (if b then None else spent (outline_of (parts_of rs) xs m)) ≡ None → CanDraft rs m (if b then [] else edits.Restore r.number k.making ∷ [])
      by_still true same room = tt
      by_still false same room = drafts_one rs xs m (edits.Restore r.number k.making) rules early refl (unspent (is_spent (outline_of (parts_of rs) xs m)) room) (can same)

  pub fits_rollback : (args : List Arg) → Fits rs m (rollback_plan args (outline_of (parts_of rs) xs m))
  fits_rollback args =
      let o = outline_of (parts_of rs) xs m in
      let workspace = workspace_given procedures.RollbackToSp args in
      fits_text rs m (text_given procedures.RollbackToSp args parameters.SavepointName) (argument_fault procedures.RollbackToSp args) _
      (λ name.
      fits_also rs m (refused_if (bytes_eq name latest) (reserved_name name) ∷ misfit procedures.RollbackToSp args ∷ []) (rolled workspace name o)
      (fits_named rs xs m (no_workspace workspace) (λ x. for_savepoint (no_savepoint name) (rolling o x) (savepoint_called name x)) workspace rules
      (λ r here.
      let x = outline_by (parts_of rs) r in
      fits_savepoint rs m (no_savepoint name) (rolling o x) (savepoint_called name x) (λ k found. fits_doing rs m (rolling_faults o x k) _ (λ clear. rolls_one name r k here found clear)))))
