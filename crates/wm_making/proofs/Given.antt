-- What is known of the period of an INSERT that is refused for nothing.
use Rattle.std.proofs.Common.{◌≡◌, ℕ, Bool, true, false, List, sym, ap, ◌∙◌}
use Rattle.std.specs.Prelude.{Option, None, ◌&&◌, not, is_some}
use Rattle.std.specs.List.{list_all}
use Rattle.std.specs.Option.{option_and_then}
use Rattle.wm_base.proofs.Plain.{none_since}
use Rattle.wm_syntax.specs.Trees.{Expr}
use Rattle.wm_spec.specs.Expressions.{has_no_empty_period}
use Rattle.wm_spec.specs.declared.record.table.Table.{Table}
use Rattle.wm_making.specs.Inserting.{value_for_period, has_no_place, no_valid_time, insert_fault}
use Rattle.wm_making.specs.Rows.{written_period, period_given}
use Rattle.wm_making.proofs.Nones.{if_none}
use Rattle.wm_making.proofs.Placed.{periods_last, period_written}
use Rattle.wm_making.proofs.Written.{insert_parts}

no_place : (given valid : Bool) → (given && not valid) ≡ false → valid ≡ false → given ≡ false
no_place true true none plain = absurd (cc)
no_place true false none plain = absurd (cc)
no_place false valid none plain = cc

-- it is written where there is a value for WM_VALID
pub given_written : (t : Table) (names : Option (List (List ℕ))) (xs : List Expr) → insert_fault t names xs ≡ None → is_some (period_given t names xs) ≡ is_some (value_for_period t names 0 xs)
unfolding period_given
given_written t names xs none = period_written t names 0 xs (insert_parts t names xs none).3

-- a table without valid time takes none
pub given_plain : (t : Table) (names : Option (List (List ℕ))) (xs : List Expr) → insert_fault t names xs ≡ None → t.valid ≡ false → period_given t names xs ≡ None
unfolding period_given
given_plain t names xs none plain =
    let place = (if_none (has_no_place t names xs) (no_valid_time t) None (insert_parts t names xs none).4).0 in
    let nowhere = none_since (value_for_period t names 0 xs) (no_place (is_some (value_for_period t names 0 xs)) t.valid place plain) in
    ap (λ o. option_and_then written_period o) nowhere

-- all others that are written have their first ends below their second
pub others_last : (t : Table) (names : Option (List (List ℕ))) (xs : List Expr) → insert_fault t names xs ≡ None → period_given t names xs ≡ None → list_all has_no_empty_period xs ≡ true
others_last t names xs none nothing =
    let nowhere = none_since (value_for_period t names 0 xs) (sym (given_written t names xs none) ∙ ap is_some nothing) in
    periods_last t names 0 xs (insert_parts t names xs none).3 nowhere
