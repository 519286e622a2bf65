-- No period that is written in what an UPDATE sets is empty, where it does not set WM_VALID.
use Rattle.std.proofs.Common.{◌≡◌, ℕ, zero, suc, Bool, true, false, cond, List, [], ◌∷◌, ◌++◌, map, refl, sym, ap, ◌∙◌, ◌⊎◌, inl, inr}
use Rattle.std.proofs.lemmas.Bool.{and_from}
use Rattle.std.specs.Prelude.{Some, None, ◌&&◌, ◌||◌, ◌==◌, slice_get}
use Rattle.std.specs.List.{list_all, list_any}
use Rattle.std.specs.Str.{bytes_eq}
use Rattle.std.proofs.lemmas.List.Quantifiers.{position-Some}
use Rattle.std.proofs.lemmas.Option.{get_or_from_slice_get}
use Rattle.wm_listing.specs.declared.columns.Column.{Column}
use Rattle.wm_syntax.specs.Trees.{Set}
use Rattle.wm_graph.specs.Rules.{type_of}
use Rattle.wm_making.proofs.Fitted.{suited_last}
use Rattle.wm_making.specs.Inserting.{suits}
use Rattle.wm_spec.specs.Expressions.{has_no_empty_period}
use Rattle.wm_spec.specs.Operands.{is_named, wm_valid}
use Rattle.wm_spec.specs.declared.record.column.TableColumn.{TableColumn}
use Rattle.wm_spec.specs.declared.record.table.Table.{Table}
use Rattle.wm_typing.specs.Columns.{declared_column, valid_column}
use Rattle.wm_typing.specs.Types.{expr_kind}
use Rattle.wm_dml.specs.Changing.{own_columns, sets_period}
use Rattle.wm_dml.proofs.Marks.{lasting}
use Rattle.wm_dml.proofs.Refused.{Fits, EachFits}
use Rattle.wm_dml.proofs.Valued.{kind_place}

-- a column is a declared one, or one of the others
which : (source : List ℕ) (cs : List TableColumn) (more : List Column) (q : ℕ) (d : Column) → slice_get (map (declared_column source) cs ++ more) q ≡ Some d →
    ((c : TableColumn) × (d ≡ declared_column source c)) ⊎ ((r : ℕ) × (slice_get more r ≡ Some d))
which source [] more q d there = inr (q, there)
which source (c ∷ cs) more zero d there = inl (c, cc)
which source (c ∷ cs) more (suc q) d there = which source cs more q d there

not_period : (valid : Bool) (source name : List ℕ) (r : ℕ) (d : Column) → (valid && bytes_eq name wm_valid) ≡ false → slice_get (cond valid (valid_column source ∷ []) []) r ≡ Some d → bytes_eq name d.name ≡ true → ⊥
not_period true source name zero d other there named =
    let e : valid_column source ≡ d = cc in
    let f : bytes_eq name wm_valid ≡ true = ap (λ (c : Column). bytes_eq name c.name) e ∙ named in
    cc
not_period true source name (suc r) d other there named = cc
not_period false source name r d other there named = cc

set_lasts : (valid : Bool) (source : List ℕ) (cs : List TableColumn) (s : Set) → (valid && bytes_eq s.name wm_valid) ≡ false → Fits (map (declared_column source) cs ++ cond valid (valid_column source ∷ []) []) s →
    has_no_empty_period s.becomes ≡ true
set_lasts valid source cs s other f =
    let more = cond valid (valid_column source ∷ []) [] in
    let columns = map (declared_column source) cs ++ more in
    let at = kind_place None s.name columns f.column f.named in
    let named : bytes_eq s.name at.1.name ≡ true =
    ap (λ (d : Column). bytes_eq s.name d.name) (sym (get_or_from_slice_get columns at.0 at.1 at.1 at.3)) ∙ (position-Some (is_named None s.name) columns at.0 at.1 at.2).1 in
    by_column at.1 at.4 named (which source cs more at.0 at.1 at.3)
  where
    by_column : (d : Column) → d.kind ≡ f.column → bytes_eq s.name d.name ≡ true → ((c : TableColumn) × (d ≡ declared_column source c)) ⊎ ((r : ℕ) × (slice_get (cond valid (valid_column source ∷ []) []) r ≡ Some d)) →
        has_no_empty_period s.becomes ≡ true
    by_column d kind named (inl w) =
        let columns = map (declared_column source) cs ++ cond valid (valid_column source ∷ []) [] in
        let same : f.column ≡ type_of w.0.kind = sym kind ∙ ap (λ (x : Column). x.kind) w.1 in
        let suited : suits (expr_kind columns s.becomes) w.0.kind ≡ true = ap (λ k. suits k w.0.kind) f.typed ∙ sym (ap (λ j. (f.value == 0) || (f.value == j)) same) ∙ f.suits in
        lasting columns s.becomes f.marks (suited_last (expr_kind columns s.becomes) w.0.kind suited)
    by_column d kind named (inr w) = absurd (not_period valid source s.name w.0 d other w.1 named)

neither_set : (valid a b : Bool) → (valid && (a || b)) ≡ false → ((valid && a) ≡ false) × ((valid && b) ≡ false)
neither_set true true b none = absurd (cc)
neither_set true false b none = (refl, none)
neither_set false a b none = (refl, refl)

all_last : (valid : Bool) (source : List ℕ) (cs : List TableColumn) (sets : List Set) → (valid && list_any (λ (s : Set). bytes_eq s.name wm_valid) sets) ≡ false →
    EachFits (map (declared_column source) cs ++ cond valid (valid_column source ∷ []) []) sets → list_all (λ (s : Set). has_no_empty_period s.becomes) sets ≡ true
all_last valid source cs [] other each = refl
all_last valid source cs (s ∷ ss) other each =
    let parts = neither_set valid (bytes_eq s.name wm_valid) (list_any (λ (s : Set). bytes_eq s.name wm_valid) ss) other in
    and_from _ _ (set_lasts valid source cs s parts.0 each.0) (all_last valid source cs ss parts.1 each.1)

pub sets_last : (t : Table) (sets : List Set) → sets_period t sets ≡ false → EachFits (own_columns t) sets → list_all (λ (s : Set). has_no_empty_period s.becomes) sets ≡ true
sets_last t sets other each = all_last t.valid t.name t.columns sets other each
