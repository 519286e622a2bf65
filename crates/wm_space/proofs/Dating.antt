-- The plan of GotoDate: its faults stand in the order of their rows.
use Rattle.std.proofs.Common.{◌≡◌, ℕ, ◌≤◌, ◌↔◌, nat_lt, min, List, [], ◌∷◌, Option, Some, None, IsSome, IfSome, unwrap_or, refl, ◌∙◌, arith}
use Rattle.std.specs.Option.{option_and_then}
use Rattle.wm_base.specs.declared.instant.TheConstants.{END}
use Rattle.wm_base.specs.declared.refusal.Refusal.{Refusal}
use Rattle.wm_calls.specs.Arguments.{moment_given}
use Rattle.wm_calls.specs.Faults.{argument_fault}
use Rattle.wm_grammar.specs.declared.procedure.Parameter.TheVariants as parameters
use Rattle.wm_grammar.specs.declared.procedure.Procedure.TheVariants as procedures
use Rattle.wm_model.specs.Step.{Outcome, date_before, done_so, early_fault, first_fault, goto_date_plan, mistyped, outcome, refused_for, refused_or, space_numbered}
use Rattle.wm_outcome.proofs.Faults.{AtPlace, at_for, at_if, least_first}
use Rattle.wm_outcome.proofs.Named.{InOrder, told_first}
use Rattle.wm_outline.specs.Outline.{Outline, SpaceOutline}
use Rattle.wm_state.specs.State.{Session}
use Rattle.wm_syntax.specs.declared.statement.Arg.{Arg}

-- ---- the birth

-- the instant of a birth, or the end of time where it is none
pub birth_told : (born end : ℕ) (birth : Option ℕ) → end ≡ END → IsSome birth ↔ (born ≤ END) → IfSome birth (λ n. n ≡ born) → unwrap_or birth end ≡ min born END
birth_told born end None is valid value = grind (arith, is, valid)
birth_told born end (Some n) is valid value = grind (arith, valid, value)

-- ---- the faults

abbrev pub date_in : List Arg → ℕ
date_in args = unwrap_or (moment_given procedures.GotoDate args parameters.InDate) 0

at_early : (date : ℕ) (found : Option SpaceOutline) → AtPlace 26 (option_and_then (early_fault date) found)
at_early date None = tt
at_early date (Some x) = at_if 26 (nat_lt date x.fields.born) (date_before x.fields.name (min x.fields.born END)) refl

date_order : (fault : Option (List ℕ)) (date : ℕ) (found : Option SpaceOutline) → InOrder (refused_for mistyped fault ∷ option_and_then (early_fault date) found ∷ [])
date_order fault date found = least_first (14 ∷ 26 ∷ []) _ (at_for 14 mistyped (λ y. refl) fault, (at_early date found, tt)) refl

-- what comes of it, by what was found
pub goes_dated : (session : Session) (args : List Arg) (o : Outline) (q : Outcome) (fault : Option (List ℕ)) (early f : Option Refusal) → fault ≡ argument_fault procedures.GotoDate args
    → early ≡ option_and_then (early_fault (date_in args)) (space_numbered session.space o) → f ≡ first_fault (refused_for mistyped fault ∷ early ∷ []) → q ≡ refused_or f (done_so (goto_date_plan session args o)) → q ≡ outcome (goto_date_plan session args o)
goes_dated session args o q fault early f is soon told says =
    told_first (goto_date_plan session args o) f q (date_order (argument_fault procedures.GotoDate args) (date_in args) (space_numbered session.space o)) (told ∙ (λ i. first_fault (refused_for mistyped (is i) ∷ soon i ∷ []))) says
