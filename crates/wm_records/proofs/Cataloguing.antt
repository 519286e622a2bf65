-- The tables of a catalog: in the order of their numbers, and the same where no table changes.
use Rattle.std.proofs.Common.{◌≡◌, ◌≢◌, ℕ, zero, suc, ◌<◌, ◌≤◌, nat_lt, Bool, true, false, cond, not, ◌||◌, List, [], ◌∷◌, ◌++◌, length, get_or, take, insert, map, Option, Some, None, is_some, refl, sym, ap, subst, ◌∙◌, ◌⊎◌, inl, inr, arith}
use Rattle.std.proofs.lemmas.Bool.{cases_eq, cases_lt, lt-ltb, le-ltb, eq-eqb, ne_eqb, and_from, and_parts, not-true, or_parts, true≢false}
use Rattle.std.proofs.lemmas.Slice.Eq.{bytes_eq-Decides}
use Rattle.std.specs.List.{cons_option, filter_map, list_any}
use Rattle.std.specs.Option.{option_and_then}
use Rattle.std.specs.Str.{bytes_eq}
use Rattle.wm_catalog.specs.Catalog.{same_name}
use Rattle.wm_chunks.specs.Numbers.{Numbers}
use Rattle.wm_graph.specs.Parts.{parts_of, as_table}
use Rattle.wm_graph.specs.Rules.{differ}
use Rattle.wm_spec.specs.Records.{record_at}
use Rattle.wm_spec.specs.declared.record.Record.{Record}
use Rattle.wm_spec.specs.declared.record.Record.TheVariants as records
use Rattle.wm_spec.specs.declared.record.stored.Stored.{Stored}
use Rattle.wm_spec.specs.declared.record.table.Table.{Table}
use Rattle.wm_state.specs.ById.{perhaps_before, set_at}
use Rattle.wm_state.specs.Standing.{by_number, place_table}
use Rattle.wm_state.proofs.Tables.{any-place, by_number-any}
use Rattle.wm_index.proofs.Lists.{record_at-here, record_at-away}
use Rattle.wm_index.proofs.Finding.{Tests}
use Rattle.wm_index.proofs.Firsts.{sought_kind, filter_all}
use Rattle.wm_index.specs.Indexed.{IsIndexed, ids_at, listed}
use Rattle.wm_index.specs.Kinds.{kind_at}
use Rattle.wm_index.specs.Sought.{Tables, is_sought}
use Rattle.wm_index.specs.declared.index.Index.{Index}
use Rattle.wm_records.specs.Cataloged.{IsCatalog}

-- ---- a table among others

-- all numbers of a front are smaller
abbrev pub Smaller : ℕ → List Table → Type 0
Smaller n [] = Unit {0}
Smaller n (t ∷ ts) = (t.number < n) × Smaller n ts

pub smaller_more : (n : ℕ) (ts : List Table) (i : ℕ) (t : Table) → Smaller n (take i ts) → i < length ts → t ≡ get_or ts i t → t.number < n → Smaller n (take (suc i) ts)
smaller_more n [] i t front within read less = absurd (omega (arith, within))
smaller_more n (u ∷ us) zero t front within read less = (subst (λ (v : Table). v.number < n) read less, tt)
smaller_more n (u ∷ us) (suc i) t front within read less = (front.0, smaller_more n us i t front.1 (omega (arith, within)) read less)

-- a table put behind a front of smaller numbers, before one that is not smaller or at the end
pub placed_before : (t : Table) (ts : List Table) (i : ℕ) (u : Table) → Smaller t.number (take i ts) → i < length ts → u ≡ get_or ts i u → t.number ≤ u.number → insert ts i t ≡ place_table t ts
placed_before t [] i u front within read more = absurd (omega (arith, within))
placed_before t (v ∷ vs) zero u front within read more =
    ap (λ b. cond b (v ∷ place_table t vs) (t ∷ v ∷ vs)) (sym (le-ltb v.number t.number (subst (λ (w : Table). t.number ≤ w.number) read more)))
placed_before t (v ∷ vs) (suc i) u front within read more =
    ap (λ l. v ∷ l) (placed_before t vs i u front.1 (omega (arith, within)) read more)
    ∙ ap (λ b. cond b (v ∷ place_table t vs) (t ∷ v ∷ vs)) (sym (lt-ltb v.number t.number front.0))

pub placed_last : (t : Table) (ts : List Table) → Smaller t.number ts → insert ts (length ts) t ≡ place_table t ts
placed_last t [] front = refl
placed_last t (v ∷ vs) front =
    ap (λ l. v ∷ l) (placed_last t vs front.1) ∙ ap (λ b. cond b (v ∷ place_table t vs) (t ∷ v ∷ vs)) (sym (lt-ltb v.number t.number front.0))

-- ---- all tables, from the last to the first

-- tables placed among others
abbrev pub placing : List Table → List Table → List Table
placing [] us = us
placing (t ∷ ts) us = place_table t (placing ts us)

pub placing_last : (ts us : List Table) (t : Table) → placing (ts ++ t ∷ []) us ≡ placing ts (place_table t us)
placing_last [] us t = refl
placing_last (v ∷ vs) us t = ap (place_table v) (placing_last vs us t)

pub placing_all : (ts : List Table) → placing ts [] ≡ by_number ts
placing_all [] = refl
placing_all (t ∷ ts) = ap (place_table t) (placing_all ts)

pub placing_none : (ts us : List Table) → length ts ≡ 0 → placing ts us ≡ us
placing_none [] us none = refl
placing_none (t ∷ ts) us none = absurd (omega (arith, none))

-- ---- names that differ

other_way : (t u : Table) → same_name t u ≡ false → same_name u t ≡ false
other_way t u apart = by_test (bytes_eq u.name t.name) refl
  where
    by_test : (b : Bool) → bytes_eq u.name t.name ≡ b → bytes_eq u.name t.name ≡ false
    by_test true same = absurd (true≢false (sym ((bytes_eq-Decides t.name u.name).1 (sym ((bytes_eq-Decides u.name t.name).0 same))) ∙ apart))
    by_test false e = e

differ_placed : (t : Table) (us : List Table) → list_any (same_name t) us ≡ false → differ same_name us ≡ true → differ same_name (place_table t us) ≡ true
differ_placed t [] alone apart = refl
differ_placed t (u ∷ us) alone apart =
    let h = or_parts (same_name t u) (list_any (same_name t) us) alone in
    let g = and_parts (not (list_any (same_name u) us)) (differ same_name us) apart in
    by_test (nat_lt u.number t.number)
    (ap (λ b. b || list_any (same_name u) us) (other_way t u h.0) ∙ not-true (list_any (same_name u) us) g.0) (differ_placed t us h.1 g.1)
  where
    by_test : (b : Bool) → (same_name u t || list_any (same_name u) us) ≡ false → differ same_name (place_table t us) ≡ true → differ same_name (cond b (u ∷ place_table t us) (t ∷ u ∷ us)) ≡ true
    by_test true none rest =
        and_from (not (list_any (same_name u) (place_table t us))) (differ same_name (place_table t us)) (ap not (any-place (same_name u) t us ∙ none)) rest
    by_test false none rest = and_from (not (list_any (same_name t) (u ∷ us))) (differ same_name (u ∷ us)) (ap not alone) apart

pub differ_sorted : (ts : List Table) → differ same_name ts ≡ true → differ same_name (by_number ts) ≡ true
differ_sorted [] apart = refl
differ_sorted (t ∷ ts) apart =
    let h = and_parts (not (list_any (same_name t) ts)) (differ same_name ts) apart in
    differ_placed t (by_number ts) (by_number-any (same_name t) ts ∙ not-true (list_any (same_name t) ts) h.0) (differ_sorted ts h.1)

-- ---- a change that is of no table

abbrev tables_in : List Stored → List Table
tables_in ss = filter_map as_table (map (λ (s : Stored). s.record) ss)

no_table : (o : Option Record) → is_some (option_and_then as_table o) ≡ false → option_and_then as_table o ≡ None
no_table o none = by_found (option_and_then as_table o) none
  where
    by_found : (found : Option Table) → is_some found ≡ false → found ≡ None
    by_found None e = refl
    by_found (Some t) e = absurd (true≢false e)

tables_perhaps : (id : ℕ) (becomes : Option Record) (ss : List Stored) → option_and_then as_table becomes ≡ None → tables_in (perhaps_before id becomes ss) ≡ tables_in ss
tables_perhaps id None ss none = refl
tables_perhaps id (Some r) ss none = ap (λ o. cons_option o (tables_in ss)) none

tables_set : (id : ℕ) (becomes : Option Record) (ss : List Stored) → option_and_then as_table (record_at ss id) ≡ None → option_and_then as_table becomes ≡ None → tables_in (set_at id becomes ss) ≡ tables_in ss
tables_set id becomes [] was is = tables_perhaps id becomes [] is
tables_set id becomes (s ∷ ss) was is =
    by_place (cases_eq s.id id) (cases_lt id s.id) (λ away. tables_set id becomes ss (ap (option_and_then as_table) (sym (record_at-away s ss id away)) ∙ was) is)
  where
    by_place : (s.id ≡ id) ⊎ (s.id ≢ id) → (id < s.id) ⊎ (s.id ≤ id) → (s.id ≢ id → tables_in (set_at id becomes ss) ≡ tables_in ss) → tables_in (set_at id becomes (s ∷ ss)) ≡ tables_in (s ∷ ss)
    by_place (inl same) order rest =
        rw (eq-eqb _ _ same)
        (tables_perhaps id becomes ss is ∙ ap (λ o. cons_option o (tables_in ss)) (sym (ap (option_and_then as_table) (sym (record_at-here s ss id same)) ∙ was)))
    by_place (inr away) (inl lt) rest = rw (ne_eqb _ _ away, lt-ltb _ _ lt) (tables_perhaps id becomes (s ∷ ss) is)
    by_place (inr away) (inr more) rest = rw (ne_eqb _ _ away, le-ltb _ _ more) (ap (λ ts. cons_option (as_table s.record) ts) (rest away))

pub tables_kept : (old new : List Stored) (id : ℕ) (becomes : Option Record) (was is : Bool) → new ≡ set_at id becomes old → was ≡ is_some (option_and_then as_table (record_at old id))
    → is ≡ is_some (option_and_then as_table becomes) → (was || is) ≡ false → (parts_of new).tables ≡ (parts_of old).tables
unfolding parts_of
tables_kept old new id becomes was is set was_told is_told neither =
    let h = or_parts was is neither in
    ap tables_in set ∙ tables_set id becomes old (no_table (record_at old id) (sym was_told ∙ h.0)) (no_table becomes (sym is_told ∙ h.1))

pub catalog_still : (old new : List Stored) (catalog : List Table) → (parts_of new).tables ≡ (parts_of old).tables → IsCatalog old catalog → IsCatalog new catalog
catalog_still old new catalog same is = λ differs. is (ap (differ same_name) (sym same) ∙ differs) ∙ ap by_number (sym same)

-- a catalog of no records
pub no_catalog : (es : List (ℕ × Record)) (catalog : List Table) → es ≡ [] → catalog ≡ [] → IsCatalog (listed es) catalog
unfolding parts_of
no_catalog es catalog none empty = λ differs. empty ∙ ap (λ fs. by_number (parts_of (listed fs)).tables) (sym none)

-- ---- what an index tells

tables_test : Tests as_table (λ t. true) (is_sought Tables)
tables_test (records.Table t) = refl
tables_test _ = refl

pub tables_told : (kept : Numbers Record) (x : Index) → IsIndexed kept x → kind_at as_table (listed kept.entries) (ids_at x Tables) ≡ (parts_of (listed kept.entries)).tables
unfolding parts_of
tables_told kept x is = sought_kind as_table (λ t. true) Tables tables_test kept x is ∙ filter_all (parts_of (listed kept.entries)).tables
