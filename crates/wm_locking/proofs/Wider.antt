-- A condition that is typed for some columns is typed for others, in which each name that has a type there has the same.
use Rattle.std.proofs.Common.{◌≡◌, ℕ, ◌==◌, ◌&&◌, Bool, true, false, if◌then◌else◌, List, [], ◌∷◌, Option, Some, None, is_some, unwrap_or, option_and_then, refl, sym, ap, ◌∙◌}
use Rattle.std.proofs.lemmas.Bool.{and_from, and_parts, true≢false}
use Rattle.std.proofs.lemmas.Option.{none-some}
use Rattle.std.specs.List.{list_all}
use Rattle.wm_listing.specs.declared.columns.Column.{Column}
use Rattle.wm_spec.specs.Conditions.{is_one_type, may_compare, typed, typed_in}
use Rattle.wm_spec.specs.Operands.{constant_kind, is_period, kind_of, operand_kind, suffixed_kind, wm_valid}
use Rattle.wm_syntax.specs.Trees.{Cond, Or, And, Not, Compare, IsNull, OneOf, Between}
use Rattle.wm_syntax.specs.declared.column.Suffix.{Suffix}
use Rattle.wm_syntax.specs.declared.constant.Const.{Const}
use Rattle.wm_syntax.specs.declared.operand.Operand.{Operand}
use Rattle.wm_syntax.specs.declared.operand.Operand.TheVariants as operands
use Rattle.wm_syntax.specs.declared.operand.Per.{Per}
use Rattle.wm_syntax.specs.declared.operand.Per.TheVariants as periods
use Rattle.wm_typing.specs.Types.{is_filter_typed}

-- each name that has a type has it among the others too
abbrev pub AreWider : List Column → List Column → Type 0
AreWider cs ds = (source : Option (List ℕ)) (name : List ℕ) (k : ℕ) → kind_of source name cs ≡ Some k → kind_of source name ds ≡ Some k

-- an end of what has no type has none
no_end : (suffix : Option Suffix) (k : ℕ) → suffixed_kind suffix None ≡ Some k → ⊥
no_end None k e = none-some k e
no_end (Some suffix) k e = none-some k e

some_is : {A : Type 0} (o : Option A) (x : A) → o ≡ Some x → is_some o ≡ true
some_is o x is = ap is_some is

module _ (cs ds : List Column) (wider : AreWider cs ds) where
  period_wider : (x : Per) → is_period x cs ≡ true → is_period x ds ≡ true
  period_wider (periods.Span from till) e = refl
  period_wider (periods.Valid source) e = by_kind (kind_of source wm_valid cs) refl e
    where
      by_kind : (o : Option ℕ) → kind_of source wm_valid cs ≡ o → unwrap_or (option_and_then (λ kind. Some (kind == 4)) o) false ≡ true → is_period (periods.Valid source) ds ≡ true
      by_kind None none e = absurd (true≢false (sym e))
      by_kind (Some k) found e = ap (λ o. unwrap_or (option_and_then (λ kind. Some (kind == 4)) o) false) (wider source wm_valid k found) ∙ e

  operand_wider : (x : Operand) (k : ℕ) → operand_kind x cs ≡ Some k → operand_kind x ds ≡ Some k
  operand_wider (operands.Const constant) k e = e
  operand_wider (operands.Col col) k e = by_kind (kind_of col.source col.name cs) refl e
    where
      by_kind : (o : Option ℕ) → kind_of col.source col.name cs ≡ o → suffixed_kind col.suffix o ≡ Some k → suffixed_kind col.suffix (kind_of col.source col.name ds) ≡ Some k
      by_kind None none e = absurd (no_end col.suffix k e)
      by_kind (Some j) found e = ap (suffixed_kind col.suffix) (wider col.source col.name j found) ∙ e
  operand_wider (operands.Test operator left right) k e = by_tests (is_period left cs) (is_period right cs) refl refl e
    where
      by_tests : (a b : Bool) → is_period left cs ≡ a → is_period right cs ≡ b → (if a && b then Some 1 else None) ≡ Some k → operand_kind (operands.Test operator left right) ds ≡ Some k
      by_tests true true l r e = rw (period_wider left l, period_wider right r) e
      by_tests true false l r e = absurd (none-some k e)
      by_tests false b l r e = absurd (none-some k e)

  -- what may be compared may be
  comparing : (o p : Option ℕ) → may_compare o p ≡ true → (k : ℕ) × (l : ℕ) × (o ≡ Some k) × (p ≡ Some l) × (is_one_type k l ≡ true)
  comparing None p e = absurd (true≢false (sym e))
  comparing (Some k) None e = absurd (true≢false (sym e))
  comparing (Some k) (Some l) e = (k, l, refl, refl, e)

  compare_wider : (x y : Operand) → may_compare (operand_kind x cs) (operand_kind y cs) ≡ true → may_compare (operand_kind x ds) (operand_kind y ds) ≡ true
  compare_wider x y e = let h = comparing (operand_kind x cs) (operand_kind y cs) e in rw (operand_wider x h.0 h.2, operand_wider y h.1 h.3) h.4

  constant_wider : (x : Operand) (constant : Const) → may_compare (operand_kind x cs) (Some (constant_kind constant)) ≡ true → may_compare (operand_kind x ds) (Some (constant_kind constant)) ≡ true
  constant_wider x constant e =
      let h = comparing (operand_kind x cs) (Some (constant_kind constant)) e in
      ap (λ o. may_compare o (Some (constant_kind constant))) (operand_wider x h.0 h.2) ∙ sym (ap (λ o. may_compare o (Some (constant_kind constant))) h.2) ∙ e

  there_wider : (x : Operand) → is_some (operand_kind x cs) ≡ true → is_some (operand_kind x ds) ≡ true
  there_wider x e = by_kind (operand_kind x cs) refl e
    where
      by_kind : (o : Option ℕ) → operand_kind x cs ≡ o → is_some o ≡ true → is_some (operand_kind x ds) ≡ true
      by_kind None none e = absurd (true≢false (sym e))
      by_kind (Some k) found e = some_is (operand_kind x ds) k (operand_wider x k found)

  list_wider : (x : Operand) (list : List Const) → list_all (λ constant. may_compare (operand_kind x cs) (Some (constant_kind constant))) list ≡ true → list_all (λ constant. may_compare (operand_kind x ds) (Some (constant_kind constant))) list ≡ true
  list_wider x [] e = refl
  list_wider x (c ∷ list) e =
      let h = and_parts (may_compare (operand_kind x cs) (Some (constant_kind c))) _ e in
      and_from (may_compare (operand_kind x ds) (Some (constant_kind c))) _ (constant_wider x c h.0) (list_wider x list h.1)

  typed_wider : (c : Cond) → typed_in c cs ≡ true → typed_in c ds ≡ true
  typed_wider (Or c d) e = let h = and_parts (typed_in c cs) (typed_in d cs) e in and_from (typed_in c ds) (typed_in d ds) (typed_wider c h.0) (typed_wider d h.1)
  typed_wider (And c d) e = let h = and_parts (typed_in c cs) (typed_in d cs) e in and_from (typed_in c ds) (typed_in d ds) (typed_wider c h.0) (typed_wider d h.1)
  typed_wider (Not c) e = typed_wider c e
  typed_wider (Compare left cmp right) e = compare_wider left right e
  typed_wider (IsNull what negated) e = there_wider what e
  typed_wider (OneOf what negated list) e =
      let h = and_parts (is_some (operand_kind what cs)) _ e in and_from (is_some (operand_kind what ds)) _ (there_wider what h.0) (list_wider what list h.1)
  typed_wider (Between what negated low high) e =
      let h = and_parts (may_compare (operand_kind what cs) (operand_kind low cs)) (may_compare (operand_kind what cs) (operand_kind high cs)) e in
      and_from (may_compare (operand_kind what ds) (operand_kind low ds)) (may_compare (operand_kind what ds) (operand_kind high ds)) (compare_wider what low h.0) (compare_wider what high h.1)

  pub filter_wider : (filter : Option Cond) → is_filter_typed cs filter ≡ true → is_filter_typed ds filter ≡ true
  unfolding typed
  filter_wider None e = refl
  filter_wider (Some c) e = typed_wider c e
