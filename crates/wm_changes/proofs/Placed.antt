-- Where the records stand that an edit is about.
use Rattle.std.proofs.Common.{◌≡◌, ℕ, ◌+◌, ◌-◌, ◌<◌, ◌≤◌, ◌^◌, ◌&&◌, nat_le, nat_lt, Bool, true, false, is_some, List, [], ◌∷◌, Option, Some, None, Bor, refl, sym, ap, ◌∙◌, arith}
use Rattle.std.proofs.lemmas.Bool.Decides.{nat_tests}
use Rattle.std.proofs.lemmas.Bool.{and_parts}
use Rattle.std.specs.Option.{option_and_then, option_copied, option_to_list}
use Rattle.wm_base.proofs.Plain.{none_some}
use Rattle.wm_base.specs.declared.instant.TheConstants.{END}
use Rattle.wm_graph.specs.Parts.{Parts, parts_of, as_counters, as_space, as_table, space_of}
use Rattle.wm_graph.specs.Rules.{keep_rules}
use Rattle.wm_spec.specs.Records.{record_at}
use Rattle.wm_spec.specs.declared.record.Record.{Record}
use Rattle.wm_spec.specs.declared.record.Record.TheVariants as records
use Rattle.wm_spec.specs.declared.record.counters.Counters.{Counters}
use Rattle.wm_spec.specs.declared.record.space.Space.{Space}
use Rattle.wm_spec.specs.declared.record.stored.Stored.{Stored}
use Rattle.wm_spec.specs.declared.record.table.Table.{Table}
use Rattle.wm_state.specs.ById.{Ascend}
use Rattle.wm_state.proofs.Counting.{counted_well}
use Rattle.wm_written.proofs.Ids.{under_next}
use Rattle.wm_state.proofs.Settled.{Places, space_at}
use Rattle.wm_changes.specs.Ids.{HasGreatId}

-- the id of the counters has them
pub counters_at : (c : Counters) (cs : List Counters) (o : Option Record) → cs ≡ c ∷ [] → cs ≡ option_to_list (option_and_then as_counters o) → o ≡ Some (records.Counters c)
counters_at c cs None one is = absurd (none_one (sym is ∙ one))
  where
    none_one : (let none : List Counters = [] in none) ≡ c ∷ [] → ⊥
    none_one e = cc
counters_at c cs (Some (records.Counters d)) one is = ap (λ (k : Counters). Some (records.Counters k)) (first d (sym is ∙ one))
  where
    first : (d : Counters) → (d ∷ []) ≡ (c ∷ []) → d ≡ c
    first d e = cc
counters_at c cs (Some _) one is = absurd (none_one (sym is ∙ one))
  where
    none_one : (let none : List Counters = [] in none) ≡ c ∷ [] → ⊥
    none_one e = cc

-- the id of a table has it
pub table_at : (rs : List Stored) (o : Option ℕ) (id : ℕ) (t : Table) → o ≡ Some id → option_and_then as_table (option_and_then (record_at rs) o) ≡ Some t → record_at rs id ≡ Some (records.Table t)
table_at rs o id t is found = by_record (record_at rs id) (ap (λ (k : Option ℕ). option_and_then as_table (option_and_then (record_at rs) k)) (sym is) ∙ found)
  where
    some_table : (u : Table) → Some u ≡ Some t → u ≡ t
    some_table u h = cc

    by_record : (r : Option Record) → option_and_then as_table r ≡ Some t → r ≡ Some (records.Table t)
    by_record None h = absurd (none_some (let none : Option Table = None in none) t refl h)
    by_record (Some (records.Table u)) h = ap (λ (s : Table). Some (records.Table s)) (some_table u h)
    by_record (Some _) h = absurd (none_some (let none : Option Table = None in none) t refl h)

-- the counters and a workspace that were looked up have their ids, and all ids are under the next
pub places_of : (rs : List Stored) (n counters_id : ℕ) (o : Option ℕ) (space_id id : ℕ) (c : Counters) (a : Space) → Ascend rs → (parts_of rs).counters ≡ c ∷ []
    → (parts_of rs).counters ≡ option_to_list (option_and_then as_counters (record_at rs counters_id)) → o ≡ Some space_id → option_and_then as_space (option_and_then (record_at rs) o) ≡ space_of (parts_of rs).spaces n
    → space_of (parts_of rs).spaces n ≡ Some a → ((i : ℕ) → id ≤ i → record_at rs i ≡ None) → Places rs counters_id space_id id c a
places_of rs n counters_id o space_id id c a sorted one counters is there found above = record {
  sorted = sorted;
  counters = counters_at c (parts_of rs).counters (record_at rs counters_id) one counters;
  one = one;
  space = space_at rs n o space_id a is there found;
  under = under_next id rs above;
}

-- what was looked up is what is there
pub looked_up : {A : Type 0} (r : Option (Bor A)) (b : Bor A) (o : Option A) → r ≡ Some b → option_copied r ≡ o → o ≡ Some b.now
looked_up r b o is same = sym same ∙ ap option_copied is

-- the version after the next can be told
pub version_fits : (p : Parts) (c : Counters) → keep_rules p ≡ true → p.counters ≡ c ∷ [] → c.next_version + 1 < 2 ^ 64
version_fits p c rules one =
    let h = and_parts ((nat_le 1 c.limit && nat_le c.limit 1048576) && (nat_le 1 c.next_stamp && nat_le c.next_stamp (c.limit + 1))) _ (counted_well p c rules one) in
    let g = and_parts (nat_lt c.last_moment END) (nat_le c.work (2 ^ 62) && nat_le c.next_version (c.work + 2)) h.1 in
    let k = and_parts (nat_le c.work (2 ^ 62)) (nat_le c.next_version (c.work + 2)) g.1 in
    fits c.next_version c.work k.0 k.1
  where
    fits : (v w : ℕ) → nat_le w (2 ^ 62) ≡ true → nat_le v (w + 2) ≡ true → v + 1 < 2 ^ 64
    fits v w few under = grind (arith, few, under)

-- ---- where no ids are left

-- fewer ids than are wanted, half of all at most, are left from the next one on
pub used_up : (ss : List Stored) (id count : ℕ) (left : Bool) → left ≡ nat_lt (id + count) (2 ^ 64) → left ≡ false → count ≤ 2 ^ 63 → ((i : ℕ) → id ≡ i + 1 → 0 < i → is_some (record_at ss i) ≡ true) → HasGreatId ss
used_up ss id count left is none few lowest =
    let great = above id count (sym is ∙ none) few in
    (id - 1, before id great, lowest (id - 1) (behind id great) (some id great))
  where
    above : (i k : ℕ) → nat_lt (i + k) (2 ^ 64) ≡ false → k ≤ 2 ^ 63 → 2 ^ 63 ≤ i
    above i k more le = grind (arith, nat_tests, more, le)

    before : (i : ℕ) → 2 ^ 63 ≤ i → 2 ^ 63 ≤ i - 1 + 1
    before i le = grind (arith, le)

    behind : (i : ℕ) → 2 ^ 63 ≤ i → i ≡ i - 1 + 1
    behind i le = grind (arith, le)

    some : (i : ℕ) → 2 ^ 63 ≤ i → 0 < i - 1
    some i le = grind (arith, le)
