-- The plan of CreateSavepoint: what it is refused for stands in the order of the rows, what it drafts can be drafted, and that is a
-- savepoint at most.
use Rattle.std.proofs.Common.{◌≡◌, ◌+◌, ◌≤◌, ℕ, nat_le, nat_lt, true, List, [], ◌∷◌, length, None, Some, is_some, refl, arith, codes}
use Rattle.std.specs.List.{list_all}
use Rattle.wm_base.specs.declared.instant.TheConstants.{END}
use Rattle.wm_calls.specs.Arguments.{text_given}
use Rattle.wm_calls.specs.Faults.{argument_fault}
use Rattle.wm_grammar.specs.declared.procedure.Parameter.TheVariants as parameters
use Rattle.wm_grammar.specs.declared.procedure.Procedure.TheVariants as procedures
use Rattle.wm_graph.specs.Parts.{parts_of, space_of}
use Rattle.wm_graph.specs.Rules.{is_short, keep_rules}
use Rattle.wm_model.specs.Step.{also, at_its_end, create_savepoint_plan, for_named, is_spent, least, most_savepoints, names_no_savepoint, no_workspace, number_limit, outcome, savepoint_called, savepoint_there, saving, saving_faults, space_named, workspace_given}
use Rattle.wm_outcome.proofs.Faults.{Ranked, at_if, least_first, least_none}
use Rattle.wm_outcome.proofs.Fitting.{fits_doing, fits_named, fits_text}
use Rattle.wm_outcome.proofs.Forking.{forks_named, forks_outcome, forks_text}
use Rattle.wm_outcome.proofs.Named.{InOrder}
use Rattle.wm_outcome.proofs.Naming.{fits_behind, front, name_short, untold}
use Rattle.wm_outcome.proofs.Ordered.{From, from_ranked}
use Rattle.wm_outcome.proofs.Plans.{drafts_one}
use Rattle.wm_outcome.proofs.Savepoints.{has_room}
use Rattle.wm_outcome.specs.Fitting.{Fits}
use Rattle.wm_outline.specs.Outline.{Outline, SpaceOutline, outline_by, outline_of}
use Rattle.wm_spec.specs.declared.record.space.Space.{Space}
use Rattle.wm_spec.specs.declared.record.stored.Stored.{Stored}
use Rattle.wm_state.specs.Drafts.{CanDraft, is_fork}
use Rattle.wm_state.specs.State.{Session}
use Rattle.wm_state.specs.declared.edit.Edit.TheVariants as edits
use Rattle.wm_syntax.specs.declared.statement.Arg.{Arg}

-- ---- its faults

saving_ranked : (name : List ℕ) (o : Outline) (x : SpaceOutline) → Ranked (22 ∷ 45 ∷ 49 ∷ 49 ∷ []) (saving_faults name o x)
saving_ranked name o x = (
  at_if 22 (is_some (savepoint_called name x)) (savepoint_there name) refl,
  (
    at_if 45 (nat_le 4096 (length x.savepoints)) most_savepoints refl,
    (at_if 49 (nat_lt number_limit (x.fields.next_place + 1)) (at_its_end (codes "PLACE")) refl, (at_if 49 (is_spent o) (at_its_end (codes "WORK")) refl, tt)),
  ),
)

pub saving_order : (name : List ℕ) (o : Outline) (x : SpaceOutline) → InOrder (saving_faults name o x)
saving_order name o x = least_first (22 ∷ 45 ∷ 49 ∷ 49 ∷ []) (saving_faults name o x) (saving_ranked name o x) refl

pub saving_from : (name : List ℕ) (o : Outline) (x : SpaceOutline) → From 19 (saving name o x)
saving_from name o x = from_ranked 19 (22 ∷ 45 ∷ 49 ∷ 49 ∷ []) (saving_faults name o x) (saving_ranked name o x) refl

-- ---- what it drafts

module _ (rs : List Stored) (xs : List Session) (m : ℕ) (rules : keep_rules (parts_of rs) ≡ true) (early : nat_lt m END ≡ true) where
  saves_one : (name : List ℕ) (r : Space) → is_short name ≡ true → space_of (parts_of rs).spaces r.number ≡ Some r → least (saving_faults name (outline_of (parts_of rs) xs m) (outline_by (parts_of rs) r)) ≡ None
      → CanDraft rs m (edits.Save r.number name ∷ [])
  saves_one name r short there clear =
      let new = least_none _ _ clear in
      let few = least_none _ _ new.1 in
      let places = least_none _ _ few.1 in
      let work = least_none _ _ places.1 in
      drafts_one rs xs m (edits.Save r.number name) rules early refl (untold _ _ work.0)
      (record { space = r; there = there; short = short; room = has_room (parts_of rs) r name (untold _ _ new.0) (untold _ _ few.0); places = untold _ _ places.0 })

  pub fits_create_savepoint : (args : List Arg) → Fits rs m (create_savepoint_plan args (outline_of (parts_of rs) xs m))
  fits_create_savepoint args =
      let o = outline_of (parts_of rs) xs m in
      let workspace = workspace_given procedures.CreateSavepoint args in
      fits_text rs m _ _ _
      (λ name. fits_behind rs m (front procedures.CreateSavepoint args name (names_no_savepoint name)) _
      (λ clear. fits_named rs xs m (no_workspace workspace) (saving name o) workspace rules
      (λ r there. fits_doing rs m (saving_faults name o (outline_by (parts_of rs) r)) (edits.Save r.number name ∷ []) (saves_one name r (name_short procedures.CreateSavepoint args name (names_no_savepoint name) clear) there))))

pub forks_create_savepoint : (args : List Arg) (o : Outline) → (list_all is_fork (outcome (create_savepoint_plan args o)).edits ≡ true) × (length (outcome (create_savepoint_plan args o)).edits ≤ 1)
forks_create_savepoint args o =
    let workspace = workspace_given procedures.CreateSavepoint args in
    forks_outcome (create_savepoint_plan args o)
    (forks_text (text_given procedures.CreateSavepoint args parameters.SavepointName) (argument_fault procedures.CreateSavepoint args)
    (λ name. also (front procedures.CreateSavepoint args name (names_no_savepoint name)) (for_named (no_workspace workspace) (saving name o) (space_named workspace o)))
    (λ name. forks_named (no_workspace workspace) (saving name o) (space_named workspace o) (λ x. (refl, omega arith))))
