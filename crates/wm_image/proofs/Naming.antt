-- Tables found by name.
use Rattle.std.proofs.Common.{◌≡◌, ℕ, Bool, true, false, cond, not, ◌==◌, nat_lt, nat_le, List, [], ◌∷◌, length, Option, Some, None, Bor, is_some, refl, sym, ap, ◌∙◌}
use Rattle.std.proofs.lemmas.Slice.Eq.{bytes_eq-Decides}
use Rattle.std.specs.List.{find, list_any, list_all}
use Rattle.std.specs.Option.{option_copied}
use Rattle.std.specs.Str.{bytes_eq}
use Rattle.std.proofs.lemmas.Bool.{and_parts, or_parts, not-true}
use Rattle.wm_catalog.specs.Catalog.{same_name}
use Rattle.wm_chunks.specs.Numbers.{Numbers}
use Rattle.wm_graph.specs.Parts.{Parts, parts_of, as_table}
use Rattle.wm_graph.specs.Rules.{keep_rules, differ, is_table}
use Rattle.wm_spec.specs.declared.record.Record.{Record}
use Rattle.wm_spec.specs.declared.record.table.Table.{Table}
use Rattle.wm_state.specs.Standing.{by_number, place_table}
use Rattle.wm_state.proofs.Apart.{ruled}
use Rattle.wm_index.specs.Indexed.{IsIndexed, ids_at, listed}
use Rattle.wm_index.specs.Kinds.{kind_at}
use Rattle.wm_index.specs.Sought.{Tables}
use Rattle.wm_index.specs.declared.index.Index.{Index}
use Rattle.wm_records.proofs.Cataloguing.{tables_told}

-- ---- loops over ids

pub some_table : (o : Option (Bor Table)) (b : Bool) → b ≡ is_some o → is_some (option_copied o) ≡ b
some_table None b e = sym e
some_table (Some x) b e = sym e

-- ---- by number

-- a table before others finds its place, and is found as before them where no other passes with it
find-placed : (p : Table → Bool) (t : Table) (us : List Table) → (p t ≡ true → find p us ≡ None) → find p (place_table t us) ≡ find p (t ∷ us)
find-placed p t [] alone = refl
find-placed p t (u ∷ us) alone = by_place (nat_lt u.number t.number) (p t) (p u) refl refl (find-placed p t us)
  where
    none_some : (o : Option Table) → o ≡ None → o ≡ Some u → ⊥
    none_some o e f = cc

    behind : p u ≡ false → p t ≡ true → find p us ≡ None
    behind away pass = sym (ap (λ b. cond b (Some u) (find p us)) away) ∙ alone pass

    -- of two tables one at most passes
    swapped : (a b : Bool) → p t ≡ a → p u ≡ b → cond b (Some u) (cond a (Some t) (find p us)) ≡ cond a (Some t) (cond b (Some u) (find p us))
    swapped true true e f = absurd (none_some (find p (u ∷ us)) (alone e) (ap (λ b. cond b (Some u) (find p us)) f))
    swapped true false e f = refl
    swapped false b e f = refl

    by_place : (c a b : Bool) → p t ≡ a → p u ≡ b → ((p t ≡ true → find p us ≡ None) → find p (place_table t us) ≡ find p (t ∷ us))
        → find p (cond c (u ∷ place_table t us) (t ∷ u ∷ us)) ≡ cond (p t) (Some t) (cond (p u) (Some u) (find p us))
    by_place false a b e f rest = refl
    by_place true a false e f rest = ap (cond (p u) (Some u)) (rest (behind f)) ∙ swapped (p t) (p u) refl refl
    by_place true a true e f rest =
        ap (λ d. cond d (Some u) (find p (place_table t us))) f ∙ ap (λ d. cond d (Some u) (cond (p t) (Some t) (find p us))) (sym f) ∙ swapped (p t) (p u) refl refl

-- the name that is sought
abbrev pub has_name : List ℕ → Table → Bool
has_name name t = bytes_eq name t.name

-- no other table has the name
no_other : (name : List ℕ) (t : Table) (us : List Table) → list_any (same_name t) us ≡ false → name ≡ t.name → find (has_name name) us ≡ None
no_other name t [] none e = refl
no_other name t (u ∷ us) none e =
    let two = or_parts (bytes_eq t.name u.name) (list_any (same_name t) us) none in
    ap (λ b. cond b (Some u) (find (has_name name) us)) (ap (λ n. bytes_eq n u.name) e ∙ two.0) ∙ no_other name t us two.1 e

pub find-by_number : (name : List ℕ) (ts : List Table) → differ same_name ts ≡ true → find (has_name name) (by_number ts) ≡ find (has_name name) ts
find-by_number name [] apart = refl
find-by_number name (t ∷ ts) apart =
    let two = and_parts (not (list_any (same_name t) ts)) (differ same_name ts) apart in
    find-placed (has_name name) t (by_number ts)
    (λ pass. find-by_number name ts two.1 ∙ no_other name t ts (not-true (list_any (same_name t) ts) two.0) ((bytes_eq-Decides name t.name).0 pass))
    ∙ ap (cond (bytes_eq name t.name) (Some t)) (find-by_number name ts two.1)

-- ---- the rules of tables

pub names_differ : (p : Parts) → keep_rules p ≡ true → differ same_name p.tables ≡ true
names_differ p kept =
    let h = and_parts (nat_le (length p.tables) 256) _ (ruled p kept).tables in
    let g = and_parts (differ (λ (t u : Table). t.number == u.number) p.tables) _ h.1 in
    (and_parts (differ same_name p.tables) (list_all is_table p.tables) g.1).0

-- ---- what an index tells

pub named_told : (kept : Numbers Record) (x : Index) → IsIndexed kept x → keep_rules (parts_of (listed kept.entries)) ≡ true → (name : List ℕ)
    → find (has_name name) (kind_at as_table (listed kept.entries) (ids_at x Tables)) ≡ find (has_name name) (by_number (parts_of (listed kept.entries)).tables)
named_told kept x is rules name =
    ap (find (has_name name)) (tables_told kept x is)
    ∙ sym (find-by_number name (parts_of (listed kept.entries)).tables (names_differ (parts_of (listed kept.entries)) rules))
