-- What is known of the sets of an UPDATE that is refused for nothing by its names and its types.
use Rattle.std.proofs.Common.{◌≡◌, ℕ, Bool, true, false, List, [], ◌∷◌, refl, sym, ◌∙◌}
use Rattle.std.proofs.lemmas.Bool.{or_parts}
use Rattle.std.specs.Prelude.{Option, Some, None, ◌&&◌, ◌||◌, ◌==◌, not}
use Rattle.std.specs.Option.{option_or}
use Rattle.wm_base.proofs.Plain.{option_or_parts}
use Rattle.wm_listing.specs.declared.columns.Column.{Column}
use Rattle.wm_syntax.specs.Trees.{Cond, Set, Expr, Of, Neg, Add, Sub, Mul}
use Rattle.wm_spec.specs.Operands.{kind_of}
use Rattle.wm_spec.specs.declared.record.table.Table.{Table}
use Rattle.wm_typing.proofs.ByName.{operand_is, set_kind_is}
use Rattle.wm_typing.proofs.Nones.{holds}
use Rattle.wm_typing.proofs.Typed.{update_served}
use Rattle.wm_typing.specs.Changing.{lacking_anywhere, may_stand, mistyped_in_set, mistyped_in_sets, key_set, unknown_in_sets, update_fault}
use Rattle.wm_typing.specs.Lacking.{lacking_in_expr, lacks_in_set, lacks_in_sets}
use Rattle.wm_typing.specs.Names.{kind_named, unless, unknown_in_filter}
use Rattle.wm_typing.specs.Refusals.{first_refusal}
use Rattle.wm_typing.specs.Types.{expr_kind, mistyped_in_expr, mistyped_in_filter}
use Rattle.wm_dml.specs.Changing.{own_columns}
use Rattle.wm_dml.proofs.Valued.{kind_in}

-- the value that is set has the type of its column, or is NULL
pub record Fits (columns : List Column) (s : Set) : Type 0 where
  pub column : ℕ
  pub value : ℕ
  pub named : kind_of None s.name columns ≡ Some column
  pub typed : expr_kind columns s.becomes ≡ Some value
  pub kind : kind_in columns s.becomes ≡ Some value
  pub suits : ((value == 0) || (value == column)) ≡ true
  pub marks : mistyped_in_expr columns s.becomes ≡ None

-- so each of them
abbrev pub EachFits : List Column → List Set → Type 0
EachFits columns [] = Unit {0}
EachFits columns (s ∷ ss) = Fits columns s × EachFits columns ss

swapped : (a b c : Bool) → (a || (b && c)) ≡ true → (b || a) ≡ true
swapped true true c is = refl
swapped true false c is = refl
swapped false true c is = refl
swapped false false c is = absurd (cc)

-- a value that may stand in a column has its type, or is NULL
stand_kinds : (column kind : Option ℕ) → may_stand column kind ≡ true → (j k : ℕ) × (column ≡ Some j) × (kind ≡ Some k) × (((k == 0) || (k == j)) ≡ true)
stand_kinds None kind is = absurd (cc)
stand_kinds (Some j) None is = absurd (cc)
stand_kinds (Some j) (Some k) is = (j, k, refl, refl, swapped (k == j) (k == 0) (not (j == 4)) is)

same_kind : (columns : List Column) (x : Expr) → lacking_in_expr columns x ≡ None → kind_in columns x ≡ expr_kind columns x
same_kind columns (Of operand) here = sym (operand_is columns operand here)
same_kind columns (Neg x) here = refl
same_kind columns (Add x y) here = refl
same_kind columns (Sub x y) here = refl
same_kind columns (Mul x y) here = refl

one_fits : (columns : List Column) (s : Set) → mistyped_in_set columns s ≡ None → lacks_in_set columns s ≡ false → Fits columns s
one_fits columns s none served =
    let parts = option_or_parts (unless (may_stand (kind_named None s.name columns) (expr_kind columns s.becomes)) s.name) (mistyped_in_expr columns s.becomes) none in
    let kinds = stand_kinds (kind_named None s.name columns) (expr_kind columns s.becomes) (holds (may_stand (kind_named None s.name columns) (expr_kind columns s.becomes)) s.name parts.0) in
    let here = set_kind_is columns s served in
    record {
      column = kinds.0;
      value = kinds.1;
      named = sym here.0 ∙ kinds.2;
      typed = kinds.3;
      kind = same_kind columns s.becomes here.1 ∙ kinds.3;
      suits = kinds.4;
      marks = parts.1;
    }

each_fits : (columns : List Column) (sets : List Set) → mistyped_in_sets columns sets ≡ None → lacks_in_sets columns sets ≡ false → EachFits columns sets
each_fits columns [] none served = tt
each_fits columns (s ∷ ss) none served =
    let parts = option_or_parts (mistyped_in_set columns s) (mistyped_in_sets columns ss) none in
    let each = or_parts (lacks_in_set columns s) (lacks_in_sets columns ss) served in
    (one_fits columns s parts.0 each.0, each_fits columns ss parts.1 each.1)

refusal_parts : (u m k t : Option (List ℕ)) → first_refusal u m k t ≡ None → (u ≡ None) × (m ≡ None) × (k ≡ None)
refusal_parts None None None t none = (refl, refl, refl)
refusal_parts None None (Some x) t none = absurd (cc)
refusal_parts None (Some x) k t none = absurd (cc)
refusal_parts (Some x) m k t none = absurd (cc)

-- they have the types of their columns, name no WM_VALID that the table lacks, and set no key
pub update_parts : (t : Table) (sets : List Set) (filter : Option Cond) → update_fault t sets filter ≡ None → EachFits (own_columns t) sets × (key_set t sets ≡ None)
unfolding update_fault
update_parts t sets filter none =
    let parts = refusal_parts (option_or (unknown_in_sets (own_columns t) [] sets) (unknown_in_filter (own_columns t) filter)) (option_or (mistyped_in_sets (own_columns t) sets) (mistyped_in_filter (own_columns t) filter)) (key_set t sets) (lacking_anywhere (own_columns t) t sets filter) none in
    (each_fits (own_columns t) sets (option_or_parts (mistyped_in_sets (own_columns t) sets) (mistyped_in_filter (own_columns t) filter) parts.1).0 (update_served t sets filter none), parts.2)
