-- The plans of BeginResolve and RollbackResolve: their faults stand in the order of their rows, and they fit the records.
use Rattle.std.proofs.Common.{◌≡◌, ℕ, ◌==◌, nat_lt, true, not, List, [], ◌∷◌, refl}
use Rattle.wm_base.specs.declared.instant.TheConstants.{END}
use Rattle.wm_grammar.specs.declared.procedure.Procedure.TheVariants as procedures
use Rattle.wm_graph.specs.Parts.{parts_of}
use Rattle.wm_graph.specs.Rules.{keep_rules}
use Rattle.wm_model.specs.Step.Sessions as settings
use Rattle.wm_model.specs.Step.{Plan, begin_resolve_plan, first_session, for_named, has_open, misfit, no_parent, no_resolve, no_workspace, refused_if, resolve_fault, resolve_open, resolves, rollback_resolve_plan, setting, space_named, unopened_fault, workspace_given}
use Rattle.wm_outcome.proofs.Faults.{Ranked, at_for, at_if, least_first}
use Rattle.wm_outcome.proofs.Fitting.{fits_also, fits_named, fits_setting}
use Rattle.wm_outcome.proofs.Named.{InOrder}
use Rattle.wm_outcome.proofs.Ordered.{From, from_named, from_ranked}
use Rattle.wm_outcome.specs.Fitting.{Fits}
use Rattle.wm_outline.specs.Outline.{Outline, SpaceOutline, outline_by, outline_of}
use Rattle.wm_spec.specs.declared.record.stored.Stored.{Stored}
use Rattle.wm_state.specs.State.{Session}
use Rattle.wm_syntax.specs.declared.statement.Arg.{Arg}

-- ---- BeginResolve

-- in a workspace that is there
abbrev pub beginning : Session → List ℕ → Outline → SpaceOutline → Plan
beginning session name o x = setting (refused_if (x.number == 0) (no_parent name) ∷ resolve_fault o x ∷ []) session (settings.Begin x.number)

beginning_ranked : (session : Session) (name : List ℕ) (o : Outline) (x : SpaceOutline) → Ranked (23 ∷ 35 ∷ []) (beginning session name o x).faults
beginning_ranked session name o x = (at_if 23 (x.number == 0) (no_parent name) refl, (at_for 35 (resolve_open x.fields.name) (λ y. refl) (first_session (resolves x.number) o.sessions), tt))

pub begin_resolve_order : (session : Session) (name : List ℕ) (o : Outline) (x : SpaceOutline) → InOrder (beginning session name o x).faults
begin_resolve_order session name o x = least_first (23 ∷ 35 ∷ []) (beginning session name o x).faults (beginning_ranked session name o x) refl

-- in the workspace of a name
abbrev pub beginning_named : Session → List ℕ → Outline → Plan
beginning_named session name o = for_named (no_workspace name) (beginning session name o) (space_named name o)

pub begin_resolve_from : (session : Session) (name : List ℕ) (o : Outline) → From 14 (beginning_named session name o)
begin_resolve_from session name o =
    from_named 14 (no_workspace name) (beginning session name o) (space_named name o) refl (λ x. from_ranked 14 (23 ∷ 35 ∷ []) (beginning session name o x).faults (beginning_ranked session name o x) refl)

-- ---- RollbackResolve

abbrev pub closing : Session → SpaceOutline → Plan
closing session x = setting (unopened_fault session x ∷ []) session settings.End

closing_ranked : (session : Session) (x : SpaceOutline) → Ranked (36 ∷ []) (closing session x).faults
closing_ranked session x = (at_if 36 (not (has_open x.number session)) (no_resolve x.fields.name) refl, tt)

abbrev pub closing_named : Session → List ℕ → Outline → Plan
closing_named session name o = for_named (no_workspace name) (closing session) (space_named name o)

pub rollback_resolve_from : (session : Session) (name : List ℕ) (o : Outline) → From 14 (closing_named session name o)
rollback_resolve_from session name o =
    from_named 14 (no_workspace name) (closing session) (space_named name o) refl (λ x. from_ranked 14 (36 ∷ []) (closing session x).faults (closing_ranked session x) refl)

-- ---- they fit the records

module _ (rs : List Stored) (xs : List Session) (m : ℕ) (rules : keep_rules (parts_of rs) ≡ true) (early : nat_lt m END ≡ true) (session : Session) (args : List Arg) where
  abbrev o : Outline
  o = outline_of (parts_of rs) xs m

  pub begin_resolve_fits : Fits rs m (begin_resolve_plan session args o)
  begin_resolve_fits =
      let name = workspace_given procedures.BeginResolve args in
      fits_also rs m (misfit procedures.BeginResolve args ∷ []) (beginning_named session name o)
      (fits_named rs xs m (no_workspace name) (beginning session name o) name rules
      (λ r found. fits_setting rs m (beginning session name o (outline_by (parts_of rs) r)).faults session (settings.Begin r.number) tt))

  pub rollback_resolve_fits : Fits rs m (rollback_resolve_plan session args o)
  rollback_resolve_fits =
      let name = workspace_given procedures.RollbackResolve args in
      fits_also rs m (misfit procedures.RollbackResolve args ∷ []) (closing_named session name o)
      (fits_named rs xs m (no_workspace name) (closing session) name rules (λ r found. fits_setting rs m (closing session (outline_by (parts_of rs) r)).faults session settings.End tt))
