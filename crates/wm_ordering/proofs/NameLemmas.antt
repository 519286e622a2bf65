-- An item has its name in the tree as in memory.
use Rattle.std.proofs.Common.{◌≡◌, ℕ, ◌+◌, Bool, true, false, List, [], ◌∷◌, Option, is_none, refl, ap, sym, ◌∙◌}
use Rattle.std.proofs.lemmas.Iterator.Adapters.{position_from-zero}
use Rattle.std.specs.List.{position, position_from}
use Rattle.wm_syntax.specs.Views.{outs_view}
use Rattle.wm_syntax.specs.declared.query.Out.{Out as OutNode}
use Rattle.wm_syntax.specs.declared.column.Col.{Col}
use Rattle.wm_syntax.specs.Trees.{Out, Outs}
use Rattle.wm_ordering.specs.RowOrder.{has_name, named_item}

named_from : (name : List ℕ) (n : ℕ) (outs : List OutNode) → position_from (λ (o : Out). has_name name o.alias) n (outs_view outs) ≡ position_from (λ (o : OutNode). has_name name o.alias) n outs
named_from name n [] = refl
named_from name n (o ∷ os) = by_test (has_name name o.alias) refl (named_from name (n + 1) os)
  where
    by_test : (b : Bool) → has_name name o.alias ≡ b → position_from (λ (p : Out). has_name name p.alias) (n + 1) (outs_view os) ≡ position_from (λ (p : OutNode). has_name name p.alias) (n + 1) os → position_from (λ (p : Out). has_name name p.alias) n (outs_view (o ∷ os)) ≡ position_from (λ (p : OutNode). has_name name p.alias) n (o ∷ os)
    by_test true e rest = rw e
    by_test false e rest = rw e rest

named_outs : (name : List ℕ) (outs : List OutNode) → position (λ (o : OutNode). has_name name o.alias) outs ≡ position (λ (o : Out). has_name name o.alias) (outs_view outs)
named_outs name outs =
    position_from-zero (λ (o : OutNode). has_name name o.alias) outs ∙ sym (named_from name 0 outs) ∙ sym (position_from-zero (λ (o : Out). has_name name o.alias) (outs_view outs))

-- the place of the item that AS gives the name of a column
pub item_named_is : (outs : List OutNode) (col : Col) (name : List ℕ) (place : Option ℕ) → is_none col.source ≡ true → is_none col.suffix ≡ true → name ≡ col.name → place ≡ position (λ (o : OutNode). has_name name o.alias) outs → place ≡ named_item (Outs (outs_view outs)) col
item_named_is outs col name place no_source no_suffix same is =
    rw (no_source, no_suffix) (is ∙ ap (λ n. position (λ (o : OutNode). has_name n o.alias) outs) same ∙ named_outs col.name outs)
