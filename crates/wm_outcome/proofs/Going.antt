-- The plans of calls that say where a session stands, and what it looks at: what they are refused for behind their arguments, and that they
-- fit the records.
use Rattle.std.proofs.Common.{◌≡◌, ℕ, nat_lt, Bool, true, false, not, if◌then◌else◌, List, [], ◌∷◌, Option, Some, None, unwrap_or, refl, sym, ap, ◌∙◌, subst}
use Rattle.std.specs.Str.{bytes_eq}
use Rattle.wm_base.specs.declared.instant.TheConstants.{END}
use Rattle.wm_calls.specs.Arguments.{moment_given, text_given}
use Rattle.wm_calls.specs.Faults.{argument_fault}
use Rattle.wm_grammar.specs.declared.procedure.Parameter.TheVariants as parameters
use Rattle.wm_grammar.specs.declared.procedure.Procedure.TheVariants as procedures
use Rattle.wm_graph.specs.Parts.{parts_of}
use Rattle.wm_graph.specs.Rules.{keep_rules}
use Rattle.wm_model.specs.Planning.{Set, Stay}
use Rattle.wm_model.specs.Step.Sessions as settings
use Rattle.wm_model.specs.Step.{Outcome, Plan, also, done_so, empty_period, for_home, for_named, for_savepoint, goto_date_plan, goto_savepoint_plan, goto_workspace_plan, latest, misfit, mistyped, no_savepoint, no_workspace, outcome, refused_if, refused_or, savepoint_called, set_conflict_plan, set_difference_plan, set_valid_time_plan, setting, space_named, standing, workspace_given}
use Rattle.wm_outcome.proofs.Fitting.{fits_also, fits_done, fits_home, fits_named, fits_savepoint, fits_setting}
use Rattle.wm_outcome.proofs.Ordered.{From, from_home, from_named, from_savepoint}
use Rattle.wm_outcome.proofs.Told.{misfit_clear, misfit_told, told_one, told_set}
use Rattle.wm_outcome.specs.Fitting.{Fits}
use Rattle.wm_outline.specs.Outline.{Outline, SpaceOutline, outline_by, outline_of}
use Rattle.wm_print.specs.Texts.{Fine}
use Rattle.wm_spec.specs.declared.record.stored.Stored.{Stored}
use Rattle.wm_state.specs.State.{At, Latest, Session}
use Rattle.wm_syntax.specs.declared.statement.Arg.{Arg}

-- ---- behind the arguments

-- in the workspace of a name
abbrev pub entering : Session → List ℕ → Outline → Plan
entering session name o = for_named (no_workspace name) (λ (x : SpaceOutline). setting [] session (settings.Stand x.number Latest)) (space_named name o)

pub entering_from : (session : Session) (name : List ℕ) (o : Outline) → From 14 (entering session name o)
entering_from session name o = from_named 14 (no_workspace name) (λ (x : SpaceOutline). setting [] session (settings.Stand x.number Latest)) (space_named name o) refl (λ x. refl)

-- looking at its conflicts
abbrev pub looking : Session → List ℕ → Outline → Plan
looking session name o = for_named (no_workspace name) (λ (x : SpaceOutline). setting [] session (settings.Conflict name)) (space_named name o)

pub looking_from : (session : Session) (name : List ℕ) (o : Outline) → From 14 (looking session name o)
looking_from session name o = from_named 14 (no_workspace name) (λ (x : SpaceOutline). setting [] session (settings.Conflict name)) (space_named name o) refl (λ x. refl)

-- at the savepoint of a name in the session's workspace, or at what is newest there
abbrev pub standing_in : Session → List ℕ → SpaceOutline → Plan
standing_in session name x = for_savepoint (no_savepoint name) (λ k. standing session (At k.making)) (savepoint_called name x)

abbrev pub standing_home : Session → List ℕ → Outline → Plan
standing_home session name o = for_home (standing_in session name) session o

abbrev pub standing_by : Session → List ℕ → Outline → Plan
standing_by session name o = if bytes_eq name latest then standing session Latest else standing_home session name o

pub standing_from : (session : Session) (name : List ℕ) (o : Outline) → From 14 (standing_by session name o)
standing_from session name o = by_test (bytes_eq name latest)
  where
    by_test : (b : Bool) → From 14 (if b then standing session Latest else standing_home session name o)
    by_test true = refl
    by_test false = from_home 14 (standing_in session name) session o refl (λ x. from_savepoint 14 (no_savepoint name) (λ k. standing session (At k.making)) (savepoint_called name x) refl (λ k. refl))

-- the name that is given for a savepoint
abbrev pub savepoint_given : List Arg → List ℕ
savepoint_given args = unwrap_or (text_given procedures.GotoSavepoint args parameters.SavepointName) latest

-- ---- SetValidTime

abbrev pub from_given : List Arg → Option ℕ
from_given args = moment_given procedures.SetValidTime args parameters.ValidFrom

abbrev pub till_given : List Arg → ℕ
till_given args = unwrap_or (moment_given procedures.SetValidTime args parameters.ValidTill) END

-- the period from a moment to another, or none
abbrev pub limiting : Session → Option ℕ → ℕ → Plan
limiting session None till = setting [] session (settings.Period None)
limiting session (Some from) till = setting (refused_if (not (nat_lt from till)) empty_period ∷ []) session (settings.Period (Some (record { from = from; till = till })))

limiting_is : (session : Session) (args : List Arg) → set_valid_time_plan session args ≡ also (misfit procedures.SetValidTime args ∷ []) (limiting session (from_given args) (till_given args))
limiting_is session args = by_given (from_given args) refl
  where
    by_given : (o : Option ℕ) → from_given args ≡ o → set_valid_time_plan session args ≡ also (misfit procedures.SetValidTime args ∷ []) (limiting session (from_given args) (till_given args))
    by_given None is = rw is refl
    by_given (Some from) is = rw is refl

limiting_from : (session : Session) (from : Option ℕ) (till : ℕ) → From 14 (limiting session from till)
limiting_from session None till = refl
limiting_from session (Some from) till = by_test (nat_lt from till)
  where
    by_test : (b : Bool) → From 14 (setting (refused_if (not b) empty_period ∷ []) session (settings.Period (Some (record { from = from; till = till }))))
    by_test true = refl
    by_test false = refl

module _ (session : Session) (args : List Arg) (q : Outcome) where
  pub limits_misfit : (parameter : List ℕ) → Some parameter ≡ argument_fault procedures.SetValidTime args → q ≡ record { edits = []; seating = Stay; answer = mistyped parameter } → q ≡ outcome (set_valid_time_plan session args)
  limits_misfit parameter is says =
      misfit_told procedures.SetValidTime args (limiting session (from_given args) (till_given args)) q parameter (limiting_from session (from_given args) (till_given args)) is says ∙ ap outcome (sym (limiting_is session args))

  -- by the moments that are given
  clear : (from : Option ℕ) (till : ℕ) → None ≡ argument_fault procedures.SetValidTime args → from ≡ from_given args → till ≡ till_given args → q ≡ outcome (limiting session from till) → q ≡ outcome (set_valid_time_plan session args)
  clear from till right starts ends says =
      misfit_clear procedures.SetValidTime args (limiting session (from_given args) (till_given args)) q right (says ∙ (λ i. outcome (limiting session (starts i) (ends i)))) ∙ ap outcome (sym (limiting_is session args))

  pub limits_none : None ≡ argument_fault procedures.SetValidTime args → None ≡ from_given args → q ≡ record { edits = []; seating = Set session.name (settings.Period None); answer = Fine } → q ≡ outcome (set_valid_time_plan session args)
  limits_none right starts says = clear None (till_given args) right starts refl (told_set session (settings.Period None) q says)

  module _ (from till : ℕ) (right : None ≡ argument_fault procedures.SetValidTime args) (starts : Some from ≡ from_given args) (ends : till ≡ till_given args) where
    limits : (b : Bool) → nat_lt from till ≡ b → q ≡ refused_or (refused_if (not b) empty_period) (done_so (limiting session (Some from) till)) → q ≡ outcome (set_valid_time_plan session args)
    limits b is says =
        clear (Some from) till right starts ends
        (told_one (limiting session (Some from) till) (refused_if (not b) empty_period) (refused_if (not (nat_lt from till)) empty_period) q refl (ap (λ b. refused_if (not b) empty_period) (sym is)) says)

    pub limits_empty : nat_lt from till ≡ false → q ≡ record { edits = []; seating = Stay; answer = empty_period } → q ≡ outcome (set_valid_time_plan session args)
    limits_empty is says = limits false is says

    pub limits_some : nat_lt from till ≡ true → q ≡ record { edits = []; seating = Set session.name (settings.Period (Some (record { from = from; till = till }))); answer = Fine } → q ≡ outcome (set_valid_time_plan session args)
    limits_some is says = limits true is says

-- ---- they fit the records

module _ (rs : List Stored) (xs : List Session) (m : ℕ) (rules : keep_rules (parts_of rs) ≡ true) (early : nat_lt m END ≡ true) (session : Session) (args : List Arg) where
  abbrev o : Outline
  o = outline_of (parts_of rs) xs m

  pub goto_workspace_fits : Fits rs m (goto_workspace_plan session args o)
  goto_workspace_fits =
      let name = workspace_given procedures.GotoWorkspace args in
      fits_also rs m (misfit procedures.GotoWorkspace args ∷ []) (entering session name o)
      (fits_named rs xs m (no_workspace name) (λ (x : SpaceOutline). setting [] session (settings.Stand x.number Latest)) name rules (λ r found. fits_setting rs m [] session (settings.Stand r.number Latest) tt))

  pub set_conflict_fits : Fits rs m (set_conflict_plan session args o)
  set_conflict_fits =
      let name = workspace_given procedures.SetConflictWorkspace args in
      fits_also rs m (misfit procedures.SetConflictWorkspace args ∷ []) (looking session name o)
      (fits_named rs xs m (no_workspace name) (λ (x : SpaceOutline). setting [] session (settings.Conflict name)) name rules (λ r found. fits_setting rs m [] session (settings.Conflict name) tt))

  pub goto_savepoint_fits : Fits rs m (goto_savepoint_plan session args o)
  goto_savepoint_fits = fits_also rs m (misfit procedures.GotoSavepoint args ∷ []) (standing_by session (savepoint_given args) o) (by_test (savepoint_given args) (bytes_eq (savepoint_given args) latest))
    where
      by_test : (name : List ℕ) (b : Bool) → Fits rs m (if b then standing session Latest else standing_home session name o)
      by_test name true = fits_setting rs m [] session (settings.Stand session.space Latest) tt
      by_test name false =
          fits_home rs xs m (standing_in session name) session rules
          (λ r found. fits_savepoint rs m (no_savepoint name) (λ k. standing session (At k.making)) (savepoint_called name (outline_by (parts_of rs) r)) (λ k is. fits_setting rs m [] session (settings.Stand session.space (At k.making)) tt))

  pub set_valid_time_fits : Fits rs m (set_valid_time_plan session args)
  set_valid_time_fits =
      subst (Fits rs m) (sym (limiting_is session args))
      (fits_also rs m (misfit procedures.SetValidTime args ∷ []) (limiting session (from_given args) (till_given args)) (by_given (from_given args)))
    where
      by_given : (from : Option ℕ) → Fits rs m (limiting session from (till_given args))
      by_given None = fits_setting rs m [] session (settings.Period None) tt
      by_given (Some from) = fits_setting rs m _ session _ tt

  pub fits_goto_date : Fits rs m (goto_date_plan session args o)
  fits_goto_date = fits_done rs m (goto_date_plan session args o) (λ clear. tt) tt refl

  pub fits_set_difference : Fits rs m (set_difference_plan session args o)
  fits_set_difference = fits_done rs m (set_difference_plan session args o) (λ clear. tt) tt refl
