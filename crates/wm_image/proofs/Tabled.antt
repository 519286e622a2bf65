-- How many tables there are, and the number that comes next.
use Rattle.std.proofs.Common.{◌≡◌, ℕ, ◌+◌, suc, max, nat_lt, Bool, true, false, cond, List, [], ◌∷◌, length, map, refl, sym, ap, ◌∙◌, arith}
use Rattle.std.specs.List.{filter_map, cons_option}
use Rattle.wm_chunks.specs.Numbers.{Numbers}
use Rattle.wm_graph.specs.Parts.{parts_of, as_table}
use Rattle.wm_spec.specs.declared.record.Record.{Record}
use Rattle.wm_spec.specs.declared.record.Record.TheVariants as records
use Rattle.wm_spec.specs.declared.record.stored.Stored.{Stored}
use Rattle.wm_spec.specs.declared.record.table.Table.{Table}
use Rattle.wm_state.specs.Standing.{by_number, place_table}
use Rattle.wm_state.specs.State.{next_table}
use Rattle.wm_records.proofs.Cataloguing.{tables_told}
use Rattle.wm_index.specs.Indexed.{IsIndexed, ids_at, listed}
use Rattle.wm_index.specs.Kinds.{kind_at}
use Rattle.wm_index.specs.Sought.{Tables, is_sought, ids_with}
use Rattle.wm_index.specs.declared.index.Index.{Index}

-- there are as many ids of tables as tables
pub tables_counted : (ss : List Stored) → length (ids_with (is_sought Tables) ss) ≡ length (filter_map as_table (map (λ (s : Stored). s.record) ss))
tables_counted [] = refl
tables_counted (s ∷ ss) = by_kind (tables_counted ss) s.record
  where
    by_kind : length (ids_with (is_sought Tables) ss) ≡ length (filter_map as_table (map (λ (t : Stored). t.record) ss)) → (r : Record)
        → length (cond (is_sought Tables r) (s.id ∷ ids_with (is_sought Tables) ss) (ids_with (is_sought Tables) ss)) ≡ length (cons_option (as_table r) (filter_map as_table (map (λ (t : Stored). t.record) ss)))
    by_kind rest (records.Table t) = ap suc rest
    by_kind rest _ = rest

-- the number that comes next does not turn on the order of the tables
next-place : (t : Table) (ts : List Table) → next_table (place_table t ts) ≡ max (t.number + 1) (next_table ts)
next-place t [] = refl
next-place t (u ∷ us) = by_test (nat_lt u.number t.number) (next-place t us)
  where
    swap : (a b c d : ℕ) → d ≡ max b c → max a d ≡ max b (max a c)
    swap a b c d is = omega (arith, is)

    by_test : (b : Bool) → next_table (place_table t us) ≡ max (t.number + 1) (next_table us) → next_table (cond b (u ∷ place_table t us) (t ∷ u ∷ us)) ≡ max (t.number + 1) (max (u.number + 1) (next_table us))
    by_test true rest = swap (u.number + 1) (t.number + 1) (next_table us) (next_table (place_table t us)) rest
    by_test false rest = refl

next-by_number : (ts : List Table) → next_table (by_number ts) ≡ next_table ts
next-by_number [] = refl
next-by_number (t ∷ ts) = next-place t (by_number ts) ∙ ap (max (t.number + 1)) (next-by_number ts)

-- the number that comes next, told by the index
pub next_told : (kept : Numbers Record) (x : Index) → IsIndexed kept x → next_table (kind_at as_table (listed kept.entries) (ids_at x Tables)) ≡ next_table (by_number (parts_of (listed kept.entries)).tables)
next_told kept x is = ap next_table (tables_told kept x is) ∙ sym (next-by_number (parts_of (listed kept.entries)).tables)
