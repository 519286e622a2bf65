-- Where no WM_VALID is lacking, the kinds by the names are those of the columns.
use Rattle.std.proofs.Common.{◌≡◌, ℕ, Bool, true, false, ◌&&◌, ◌==◌, List, [], ◌∷◌, Option, None, Some, is_some, refl, ap, ◌∙◌, if◌then◌else◌}
use Rattle.std.proofs.lemmas.Bool.{or_parts}
use Rattle.std.specs.Prelude.{not, option_and_then, unwrap_or}
use Rattle.std.specs.List.{list_all}
use Rattle.wm_base.proofs.Plain.{none_since, option_or_parts}
use Rattle.wm_listing.specs.declared.columns.Column.{Column}
use Rattle.wm_syntax.specs.declared.operand.Operand.{Operand}
use Rattle.wm_syntax.specs.declared.operand.Operand.TheVariants as operands
use Rattle.wm_syntax.specs.declared.operand.Per.{Per}
use Rattle.wm_syntax.specs.declared.operand.Per.TheVariants as periods
use Rattle.wm_syntax.specs.Trees.{Set}
use Rattle.wm_spec.specs.Operands.{wm_valid, kind_of, suffixed_kind, is_period, operand_kind}
use Rattle.wm_typing.specs.Lacking.{lacking_period, lacking_in_operand, lacking_in_expr, lacks_in_set, lacks_in_sets}
use Rattle.wm_typing.specs.Names.{lacks_period, kind_named, is_kind_of_periods, named_period, named_kind}

there : (lacks : Bool) (kind : Option ℕ) → lacks ≡ false → (if lacks then Some 4 else kind) ≡ kind
there false kind e = refl
there true kind e = cc

pub kind_is : (source : Option (List ℕ)) (name : List ℕ) (columns : List Column) → lacks_period source name columns ≡ false → kind_named source name columns ≡ kind_of source name columns
kind_is source name columns e = there (lacks_period source name columns) (kind_of source name columns) e

-- the name was not found to be lacking
has : (lacks : Bool) (source : Option (List ℕ)) → (if lacks then Some source else None) ≡ None → lacks ≡ false
has false source e = refl
has true source e = cc

is_of_periods : (kind : Option ℕ) → is_kind_of_periods kind ≡ unwrap_or (option_and_then (λ k. Some (k == 4)) kind) false
is_of_periods None = refl
is_of_periods (Some kind) = refl

pub period_is : (columns : List Column) (period : Per) → lacking_period columns period ≡ None → named_period period columns ≡ is_period period columns
period_is columns (periods.Valid source) e =
    ap is_kind_of_periods (kind_is source wm_valid columns (has (lacks_period source wm_valid columns) source e)) ∙ is_of_periods (kind_of source wm_valid columns)
period_is columns (periods.Span from till) e = refl

both_are : (a b c d : Bool) → a ≡ c → b ≡ d → a && b ≡ c && d
both_are a b c d e f = ap (λ x. x && b) e ∙ ap (λ x. c && x) f

abbrev number_if : Bool → Option ℕ
number_if test = if test then Some 1 else None

-- an operand in which no WM_VALID is lacking has its own kind
pub operand_is : (columns : List Column) (x : Operand) → lacking_in_operand columns x ≡ None → named_kind x columns ≡ operand_kind x columns
operand_is columns (operands.Col col) e =
    ap (λ kind. suffixed_kind col.suffix kind) (kind_is col.source col.name columns (has (lacks_period col.source col.name columns) col.source e))
operand_is columns (operands.Const constant) e = refl
operand_is columns (operands.Test operator left right) e =
    ap (λ test. number_if test)
    (both_are (named_period left columns) (named_period right columns) (is_period left columns) (is_period right columns)
    (period_is columns left (option_or_parts (lacking_period columns left) (lacking_period columns right) e).0)
    (period_is columns right (option_or_parts (lacking_period columns left) (lacking_period columns right) e).1))

pub set_kind_is : (columns : List Column) (set : Set) → lacks_in_set columns set ≡ false → (kind_named None set.name columns ≡ kind_of None set.name columns) × (lacking_in_expr columns set.becomes ≡ None)
set_kind_is columns set e =
    let parts = or_parts (lacks_period None set.name columns) (is_some (lacking_in_expr columns set.becomes)) e in
    (kind_is None set.name columns parts.0, none_since (lacking_in_expr columns set.becomes) parts.1)

-- none of the sets lacks it where they do not
pub each_served : (columns : List Column) (sets : List Set) → lacks_in_sets columns sets ≡ false → list_all (λ (set : Set). not (lacks_in_set columns set)) sets ≡ true
each_served columns [] e = refl
each_served columns (set ∷ sets) e =
    let parts = or_parts (lacks_in_set columns set) (lacks_in_sets columns sets) e in
    both_are (not (lacks_in_set columns set)) (list_all (λ (set : Set). not (lacks_in_set columns set)) sets) true true (ap not parts.0) (each_served columns sets parts.1)
