-- The table of a name is one of the tables, and is found by its number.
use Rattle.std.proofs.Common.{◌≡◌, ℕ, ◌==◌, ◌&&◌, nat_le, nat_lt, Bool, true, false, not, cond, if◌then◌else◌, List, [], ◌∷◌, ◌++◌, length, Option, Some, None, refl, sym, ap, ◌∙◌, subst, append_assoc}
use Rattle.std.proofs.lemmas.Bool.{eq-eqb, and_parts, not-true, or_parts}
use Rattle.std.proofs.lemmas.Option.{same_Some}
use Rattle.std.specs.List.{find, list_all, list_any}
use Rattle.std.specs.Str.{bytes_eq}
use Rattle.wm_base.proofs.Plain.{none_some}
use Rattle.wm_graph.specs.Parts.{parts_of, table_of}
use Rattle.wm_graph.specs.Rules.{keep_rules, is_table, has_key, are_key_columns, differ}
use Rattle.wm_spec.specs.declared.record.stored.Stored.{Stored}
use Rattle.wm_spec.specs.declared.record.table.Table.{Table}
use Rattle.wm_state.specs.Standing.{by_number, place_table}
use Rattle.wm_state.proofs.Apart.{ruled}
use Rattle.wm_model.specs.Planning.{named}

-- each of the tables has the property
abbrev Each : (Table → Type 0) → List Table → Type 0
Each P [] = Unit {0}
Each P (t ∷ ts) = P t × Each P ts

placed_each : (P : Table → Type 0) (t : Table) (ts : List Table) → P t → Each P ts → Each P (place_table t ts)
placed_each P t [] here each = (here, tt)
placed_each P t (u ∷ us) here each = by_test (nat_lt u.number t.number) (placed_each P t us here each.1)
  where
    by_test : (b : Bool) → Each P (place_table t us) → Each P (cond b (u ∷ place_table t us) (t ∷ u ∷ us))
    by_test true rest = (each.0, rest)
    by_test false rest = (here, each)

sorted_each : (P : Table → Type 0) (ts : List Table) → Each P ts → Each P (by_number ts)
sorted_each P [] each = tt
sorted_each P (t ∷ ts) each = placed_each P t (by_number ts) each.0 (sorted_each P ts each.1)

found_each : (P : Table → Type 0) (test : Table → Bool) (ts : List Table) (t : Table) → Each P ts → find test ts ≡ Some t → P t
found_each P test [] t each found = absurd (none_some (let none : Option Table = None in none) t refl found)
found_each P test (u ∷ us) t each found = by_test (test u) refl (found_each P test us t each.1)
  where
    by_test : (b : Bool) → test u ≡ b → (find test us ≡ Some t → P t) → P t
    by_test true e rest = subst P (same_Some u t (rw e at found)) each.0
    by_test false e rest = rest (rw e at found)

well_each : (ts : List Table) → list_all is_table ts ≡ true → Each (λ t. is_table t ≡ true) ts
well_each [] e = tt
well_each (t ∷ ts) e = let h = and_parts (is_table t) (list_all is_table ts) e in (h.0, well_each ts h.1)

before-none : (front back : List Table) (t : Table) → differ (λ (t u : Table). t.number == u.number) (front ++ t ∷ back) ≡ true → find (λ (u : Table). u.number == t.number) (front ++ t ∷ back) ≡ Some t
before-none [] back t e = rw (eq-eqb t.number t.number refl) refl
before-none (y ∷ front) back t e =
    let h = and_parts (not (list_any (λ (u : Table). y.number == u.number) (front ++ t ∷ back))) (differ (λ (t u : Table). t.number == u.number) (front ++ t ∷ back)) e in
    rw (middle (λ (u : Table). y.number == u.number) front (not-true (list_any (λ (u : Table). y.number == u.number) (front ++ t ∷ back)) h.0)) (before-none front back t h.1)
  where
    middle : (P : Table → Bool) (front : List Table) → list_any P (front ++ t ∷ back) ≡ false → P t ≡ false
    middle P [] e = (or_parts (P t) (list_any P back) e).0
    middle P (z ∷ front) e = middle P front (or_parts (P z) (list_any P (front ++ t ∷ back)) e).1

-- each table is found by its number
numbered_each : (all front ts : List Table) → all ≡ front ++ ts → differ (λ (t u : Table). t.number == u.number) all ≡ true → Each (λ t. table_of all t.number ≡ Some t) ts
numbered_each all front [] is apart = tt
numbered_each all front (t ∷ ts) is apart = (
  ap (λ us. table_of us t.number) is ∙ before-none front ts t (ap (differ (λ (t u : Table). t.number == u.number)) (sym is) ∙ apart),
  numbered_each all (front ++ t ∷ []) ts (is ∙ sym (append_assoc front (t ∷ []) ts)) apart,
)

-- a table with a record is found by its number, and is in order
pub record IsTableOf (rs : List Stored) (t : Table) : Type 0 where
  pub there : table_of (parts_of rs).tables t.number ≡ Some t
  pub well : is_table t ≡ true

pub named_is : (rs : List Stored) (name : List ℕ) (t : Table) → keep_rules (parts_of rs) ≡ true → named rs name ≡ Some t → IsTableOf rs t
named_is rs name t rules found = record {
  there = found_each (λ u. table_of (parts_of rs).tables u.number ≡ Some u) (λ (u : Table). bytes_eq name u.name) (by_number (parts_of rs).tables) t
      (sorted_each (λ u. table_of (parts_of rs).tables u.number ≡ Some u) (parts_of rs).tables (numbered_each (parts_of rs).tables [] (parts_of rs).tables refl numbers.0)) found;
  well = found_each (λ u. is_table u ≡ true) (λ (u : Table). bytes_eq name u.name) (by_number (parts_of rs).tables) t (sorted_each (λ u. is_table u ≡ true) (parts_of rs).tables (well_each (parts_of rs).tables numbers.1)) found;
}
  where
    numbers : (differ (λ (t u : Table). t.number == u.number) (parts_of rs).tables ≡ true) × (list_all is_table (parts_of rs).tables ≡ true)
    numbers =
        let r = ruled (parts_of rs) rules in
        let h = and_parts (nat_le (length (parts_of rs).tables) 256) (differ (λ (t u : Table). t.number == u.number) (parts_of rs).tables && (differ (λ (t u : Table). bytes_eq t.name u.name) (parts_of rs).tables && list_all is_table (parts_of rs).tables)) r.tables in
        let g = and_parts (differ (λ (t u : Table). t.number == u.number) (parts_of rs).tables) (differ (λ (t u : Table). bytes_eq t.name u.name) (parts_of rs).tables && list_all is_table (parts_of rs).tables) h.1 in
        (g.0, (and_parts (differ (λ (t u : Table). bytes_eq t.name u.name) (parts_of rs).tables) (list_all is_table (parts_of rs).tables) g.1).1)

-- a table that is ready for rows has a key
pub ready_keyed : (t : Table) → is_table t ≡ true → t.versioned ≡ true → has_key t ≡ true
ready_keyed t well on =
    let h = and_parts _ (are_key_columns t && (if t.versioned then has_key t else true)) well in
    sym (ap (λ b. if b then has_key t else true) on) ∙ (and_parts (are_key_columns t) (if t.versioned then has_key t else true) h.1).1
