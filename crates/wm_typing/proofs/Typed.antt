-- A condition that names nothing unknown or lacking and compares nothing mistyped is typed.
use Rattle.std.proofs.Common.{◌≡◌, ℕ, Bool, true, false, ◌&&◌, List, Option, None, Some, is_some, refl, sym, ap, ◌∙◌, if◌then◌else◌}
use Rattle.std.proofs.lemmas.Bool.{and_from}
use Rattle.std.specs.List.{list_all}
use Rattle.wm_base.proofs.Plain.{none_since, option_or_parts}
use Rattle.wm_listing.specs.declared.columns.Column.{Column}
use Rattle.wm_syntax.specs.declared.constant.Const.{Const}
use Rattle.wm_syntax.specs.declared.operand.Operand.{Operand}
use Rattle.wm_syntax.specs.declared.operand.Operand.TheVariants as operands
use Rattle.wm_syntax.specs.Trees.{Cond, Or, And, Not, Compare, IsNull, OneOf, Between}
use Rattle.wm_syntax.specs.Trees.{Set}
use Rattle.wm_spec.specs.Conditions.{may_compare, typed_in, typed}
use Rattle.wm_spec.specs.Operands.{constant_kind, operand_kind}
use Rattle.wm_spec.specs.declared.record.table.Table.{Table}
use Rattle.wm_typing.specs.Changing.{update_fault, delete_fault}
use Rattle.wm_typing.specs.Columns.{columns_of_table}
use Rattle.wm_typing.specs.Lacking.{lacking_in_operand, lacking_in_cond, lacking_in_filter, lacks_in_sets}
use Rattle.wm_typing.specs.Names.{named_kind, unknown_in_operand, unknown_in_cond, unknown_in_filter}
use Rattle.wm_typing.specs.Types.{mark_text, mistyped_in_cond, mistyped_in_filter, is_filter_typed}
use Rattle.wm_typing.proofs.ByName.{operand_is}
use Rattle.wm_typing.proofs.Nones.{holds, fails, unknown_none, mistyped_none, lacking_none}

-- an operator on two periods that are there has a type
tested : (left right : Bool) → left ≡ true → right ≡ true → is_some {T = ℕ} (if left && right then Some 1 else None) ≡ true
tested true true e f = refl
tested true false e f = cc
tested false right e f = cc

-- the operand has a type by its names
named : (columns : List Column) (x : Operand) → unknown_in_operand columns x ≡ None → is_some (named_kind x columns) ≡ true
named columns (operands.Col col) e = holds _ col.name e
named columns (operands.Const constant) e = refl
named columns (operands.Test operator left right) e = tested _ _ (holds _ _ (option_or_parts _ _ e).0) (holds _ _ (option_or_parts _ _ e).1)

-- and so it has one by its columns
there : (columns : List Column) (x : Operand) → unknown_in_operand columns x ≡ None → lacking_in_operand columns x ≡ None → is_some (operand_kind x columns) ≡ true
there columns x u l = ap is_some (sym (operand_is columns x l)) ∙ named columns x u

-- what may be compared by the names may be compared
compared : (a b c d : Option ℕ) → a ≡ c → b ≡ d → may_compare a b ≡ true → may_compare c d ≡ true
compared a b c d e f may = sym (ap (λ k. may_compare k b) e ∙ ap (λ k. may_compare c k) f) ∙ may

listed : (a b : Option ℕ) (list : List Const) → a ≡ b → list_all (λ constant. may_compare a (Some (constant_kind constant))) list ≡ true →
    list_all (λ constant. may_compare b (Some (constant_kind constant))) list ≡ true
listed a b list e may = sym (ap (λ k. list_all (λ constant. may_compare k (Some (constant_kind constant))) list) e) ∙ may

first_true : (a b : Bool) → a && b ≡ true → a ≡ true
first_true true b e = refl
first_true false b e = e

second_true : (a b : Bool) → a && b ≡ true → b ≡ true
second_true true b e = e
second_true false b e = cc

between : (columns : List Column) (what low high : Operand) → lacking_in_operand columns what ≡ None → lacking_in_operand columns low ≡ None → lacking_in_operand columns high ≡ None →
    may_compare (named_kind what columns) (named_kind low columns) && may_compare (named_kind what columns) (named_kind high columns) ≡ true →
    may_compare (operand_kind what columns) (operand_kind low columns) && may_compare (operand_kind what columns) (operand_kind high columns) ≡ true
between columns what low high w l h may =
    and_from _ _
    (compared _ _ _ _ (operand_is columns what w) (operand_is columns low l) (first_true (may_compare (named_kind what columns) (named_kind low columns)) _ may))
    (compared _ _ _ _ (operand_is columns what w) (operand_is columns high h) (second_true (may_compare (named_kind what columns) (named_kind low columns)) _ may))

pub typed_where : (columns : List Column) (c : Cond) → unknown_in_cond columns c ≡ None → mistyped_in_cond columns c ≡ None → lacking_in_cond columns c ≡ None → typed_in c columns ≡ true
typed_where columns (Or c d) u m l =
    and_from _ _ (typed_where columns c (option_or_parts _ _ u).0 (option_or_parts _ _ m).0 (option_or_parts _ _ l).0) (typed_where columns d (option_or_parts _ _ u).1 (option_or_parts _ _ m).1 (option_or_parts _ _ l).1)
typed_where columns (And c d) u m l =
    and_from _ _ (typed_where columns c (option_or_parts _ _ u).0 (option_or_parts _ _ m).0 (option_or_parts _ _ l).0) (typed_where columns d (option_or_parts _ _ u).1 (option_or_parts _ _ m).1 (option_or_parts _ _ l).1)
typed_where columns (Not c) u m l = typed_where columns c u m l
typed_where columns (Compare left cmp right) u m l =
    compared _ _ _ _ (operand_is columns left (option_or_parts _ _ l).0) (operand_is columns right (option_or_parts _ _ l).1) (holds _ (mark_text cmp) m)
typed_where columns (IsNull what negated) u m l = there columns what u l
typed_where columns (OneOf what negated list) u m l = and_from _ _ (there columns what u l) (listed _ _ list (operand_is columns what l) (holds _ _ m))
typed_where columns (Between what negated low high) u m l =
    between columns what low high (option_or_parts _ _ l).0 (option_or_parts _ _ (option_or_parts _ _ l).1).0 (option_or_parts _ _ (option_or_parts _ _ l).1).1 (holds _ _ m)

pub filter_typed : (columns : List Column) (filter : Option Cond) → unknown_in_filter columns filter ≡ None → mistyped_in_filter columns filter ≡ None → lacking_in_filter columns filter ≡ None →
    is_filter_typed columns filter ≡ true
unfolding typed
filter_typed columns None u m l = refl
filter_typed columns (Some c) u m l = typed_where columns c u m l

pub update_typed : (table : Table) (sets : List Set) (filter : Option Cond) → update_fault table sets filter ≡ None → is_filter_typed (columns_of_table table.name table) filter ≡ true
unfolding update_fault
update_typed table sets filter e =
    filter_typed _ filter (option_or_parts _ _ (unknown_none _ _ _ _ e)).1 (option_or_parts _ _ (mistyped_none _ _ _ _ e)).1
    (none_since _ (fails _ table.name (option_or_parts _ _ (lacking_none _ _ _ _ e)).1))

-- no WM_VALID is set that the table lacks, and none is in what is set
pub update_served : (table : Table) (sets : List Set) (filter : Option Cond) → update_fault table sets filter ≡ None → lacks_in_sets (columns_of_table table.name table) sets ≡ false
unfolding update_fault
update_served table sets filter e = fails _ table.name (option_or_parts _ _ (lacking_none _ _ _ _ e)).0

pub delete_typed : (table : Table) (filter : Option Cond) → delete_fault table filter ≡ None → is_filter_typed (columns_of_table table.name table) filter ≡ true
unfolding delete_fault
delete_typed table filter e =
    filter_typed _ filter (unknown_none _ _ _ _ e) (mistyped_none _ _ _ _ e) (none_since _ (fails _ table.name (lacking_none _ _ _ _ e)))
