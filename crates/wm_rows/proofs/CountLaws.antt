-- Layers and the counts of their keys, changed together.
use Rattle.std.proofs.Common.{◌≡◌, ◌↔◌, ◌<◌, ◌≤◌, ◌+◌, ◌-◌, ℕ, Bool, true, false, cond, ◌&&◌, eqb, leb, ltb, List, [], Option, Some, None, is_some, is_none, Result, Ok, Err, refl, sym, ap, ◌∙◌, subst, arith, ◌⊎◌, inl, inr}
use Rattle.std.proofs.lemmas.Bool.{cases_lt, lt-ltb, le-ltb}
use Rattle.std.proofs.lemmas.Bool.Decides.{nat_tests}
use Rattle.std.proofs.lemmas.Cmp.{eq_by_cmp_equiv}
use Rattle.std.proofs.lemmas.Map.Views.{Contains-keys_from_lookup, IsSome-lookup_from_Contains, tells_apart}
use Rattle.std.proofs.lemmas.Option.{same_Some}
use Rattle.std.specs.Bool.{then_some}
use Rattle.std.specs.List.{Contains}
use Rattle.std.specs.List.Sorted.{IsStrictlySortedBy}
use Rattle.std.specs.Map.{keys_of}
use Rattle.std.specs.Option.{IsSome, option_or, unwrap_or}
use Rattle.std.specs.Ordering.{nat_cmp, is_eq}
use Rattle.std.specs.Prelude.{OnOk, OnErr}
use Rattle.wm_base.specs.Key.{key_order}
use Rattle.wm_base.specs.Orders.{key_order_total, key_order-equal}
use Rattle.wm_base.specs.declared.value.Value.{Value}
use Rattle.wm_base.specs.Period.{covers}
use Rattle.wm_period.specs.Pieces.{held, held_at, put_in}
use Rattle.wm_period.specs.declared.piece.Piece.{Piece}
use Rattle.wm_rows.proofs.Counting.{positive-some, count-positive}
use Rattle.wm_rows.proofs.Lookups.{cases_row, is_same-itself, is_same-parts}
use Rattle.wm_rows.proofs.Times.{times-some, some-times}
use Rattle.wm_rows.specs.Counts.{Counts, Counted, HasTime, entry_at, count_at, positive, stores, times}
use Rattle.wm_rows.specs.Maps.{map_at}
use Rattle.wm_rows.specs.Rows.{Groups, Layers, IsStored, is_same, group_in, group_of, groups_in}
use Rattle.wm_rows.specs.declared.row_key.RowKey.{RowKey}

-- what holds whether a call succeeds or fails
pub either_way : {A E P : Type 0} (r : Result A E) → OnOk r P → OnErr r P → P
either_way (Ok x) ok err = ok
either_way (Err e) ok err = err

-- ---- counts and what they count

-- the count of a row
pub count-times : (layers : Layers) (counts : Counts) (row : RowKey) → Counted layers counts → count_at counts row.table row.key ≡ times layers row
count-times layers counts row counted = ap (λ (o : Option ℕ). unwrap_or o 0) (counted.exact row.table row.key) ∙ count-positive (times layers row)

-- ---- a piece written

covers-first : (x y : ℕ) → x < y → (leb x x && ltb x y) ≡ true
covers-first x y less = grind (arith, nat_tests)

-- with a piece put over them, pieces hold something when the piece begins
pub written_time : (piece : Piece) (pieces : List Piece) → piece.period.from < piece.period.till
    → ((t : ℕ) → held_at (put_in piece pieces) t ≡ option_or (then_some (covers piece.period t) (held piece)) (held_at pieces t)) → HasTime (put_in piece pieces)
written_time piece pieces long cells = (
  piece.period.from,
  subst IsSome
      (sym (cells piece.period.from
      ∙ ap (λ b. option_or (then_some b (held piece)) (held_at pieces piece.period.from)) (covers-first piece.period.from piece.period.till long)))
      refl,
)

full_written : (old new : Layers) (version : ℕ) (row : RowKey) (pieces : List Piece) → ((v : ℕ) (q : RowKey) (ps : List Piece) → group_of old v q ≡ Some ps → HasTime ps) → HasTime pieces
    → ((v : ℕ) (q : RowKey) → group_of new v q ≡ cond (eqb version v && is_same row q) (Some pieces) (group_of old v q))
    → (v : ℕ) (q : RowKey) (ps : List Piece) → group_of new v q ≡ Some ps → HasTime ps
full_written old new version row pieces full time groups v q ps there = by_test (eqb version v && is_same row q) (groups v q)
  where
    by_test : (b : Bool) → group_of new v q ≡ cond b (Some pieces) (group_of old v q) → HasTime ps
    by_test true is =
        let P : List Piece → Type 0 = λ l. (t : ℕ) × IsSome (held_at l t) in
        subst P (same_Some pieces ps (sym is ∙ there)) time
    by_test false is = full v q ps (sym is ∙ there)

-- a version that stores the row already is not counted again
pub counted_kept : (old new : Layers) (counts : Counts) (version : ℕ) (row : RowKey) (pieces : List Piece) → Counted old counts → is_none (group_of old version row) ≡ false
    → ((q : RowKey) → times new q ≡ times old q + cond (is_same row q && is_none (group_of old version row)) 1 0)
    → IsStrictlySortedBy nat_cmp (keys_of new) → HasTime pieces
    → ((v : ℕ) (q : RowKey) → group_of new v q ≡ cond (eqb version v && is_same row q) (Some pieces) (group_of old v q))
    → Counted new counts
counted_kept old new counts version row pieces counted there more order time groups = record {
  exact = λ t k. counted.exact t k ∙ ap positive (sym (same (record { table = t; key = k })));
  order = order;
  full = full_written old new version row pieces counted.full time groups;
}
  where
    nothing : (b : Bool) → ◌≡◌ {A = ℕ} (cond (b && false) 1 0) 0
    nothing true = refl
    nothing false = refl

    same : (q : RowKey) → times new q ≡ times old q
    same q =
        let zero' : ◌≡◌ {A = ℕ} (cond (is_same row q && is_none (group_of old version row)) 1 0) 0 = ap (λ b. cond {A = ℕ} (is_same row q && b) 1 0) there ∙ nothing (is_same row q) in
        omega (arith, more q, zero')

-- a version that did not store the row is counted
pub counted_more : (old new : Layers) (counts next : Counts) (version : ℕ) (row : RowKey) (pieces : List Piece) → Counted old counts → is_none (group_of old version row) ≡ true
    → ((t : ℕ) (k : List Value) → entry_at next t k ≡ cond (eqb row.table t && is_eq (key_order row.key k)) (Some (count_at counts row.table row.key + 1)) (entry_at counts t k))
    → ((q : RowKey) → times new q ≡ times old q + cond (is_same row q && is_none (group_of old version row)) 1 0)
    → IsStrictlySortedBy nat_cmp (keys_of new) → HasTime pieces
    → ((v : ℕ) (q : RowKey) → group_of new v q ≡ cond (eqb version v && is_same row q) (Some pieces) (group_of old v q))
    → Counted new next
counted_more old new counts next version row pieces counted absent counts_more more order time groups = record {
  exact = λ t k. by_row t k (cases_row row (record { table = t; key = k }));
  order = order;
  full = full_written old new version row pieces counted.full time groups;
}
  where
    at : (t : ℕ) (k : List Value) → entry_at next t k ≡ cond (is_same row (record { table = t; key = k })) (Some (count_at counts row.table row.key + 1)) (entry_at counts t k)
    at t k = counts_more t k ∙ ap (λ b. cond b (Some (count_at counts row.table row.key + 1)) (entry_at counts t k)) (sym (is_same-parts row (record { table = t; key = k })))

    here : entry_at next row.table row.key ≡ positive (times new row)
    here =
        let one : times new row ≡ times old row + 1 =
        more row ∙ ap (λ b. times old row + cond (b && is_none (group_of old version row)) 1 0) (is_same-itself row) ∙ ap (λ b. times old row + cond b 1 0) absent in
        at row.table row.key
        ∙ ap (λ b. cond b (Some (count_at counts row.table row.key + 1)) (entry_at counts row.table row.key)) (is_same-itself row)
        ∙ ap (λ (n : ℕ). Some (n + 1)) (count-times old counts row counted)
        ∙ sym (positive-some (times old row))
        ∙ ap positive (sym one)

    away : (t : ℕ) (k : List Value) → is_same row (record { table = t; key = k }) ≡ false → entry_at next t k ≡ positive (times new (record { table = t; key = k }))
    away t k apart =
        let q : RowKey = record { table = t; key = k } in
        let zero' : ◌≡◌ {A = ℕ} (cond (is_same row q && is_none (group_of old version row)) 1 0) 0 = ap (λ b. cond {A = ℕ} (b && is_none (group_of old version row)) 1 0) apart in
        let same : times new q ≡ times old q = omega (arith, more q, zero') in
        at t k ∙ ap (λ b. cond b (Some (count_at counts row.table row.key + 1)) (entry_at counts t k)) apart
        ∙ counted.exact t k ∙ ap positive (sym same)

    by_row : (t : ℕ) (k : List Value) → (row ≡ record { table = t; key = k }) ⊎ (is_same row (record { table = t; key = k }) ≡ false) → entry_at next t k ≡ positive (times new (record { table = t; key = k }))
    by_row t k (inl same) =
        let P : RowKey → Type 0 = λ r. entry_at next r.table r.key ≡ positive (times new r) in
        subst P same here
    by_row t k (inr apart) = away t k apart

-- a count that was raised and is lowered again is what it was
pub counted_back : (layers : Layers) (counts raised lowered : Counts) (table : ℕ) (key : List Value) → Counted layers counts
    → ((t : ℕ) (k : List Value) → entry_at raised t k ≡ cond (eqb table t && is_eq (key_order key k)) (Some (count_at counts table key + 1)) (entry_at counts t k))
    → ((t : ℕ) (k : List Value) → entry_at lowered t k ≡ cond (eqb table t && is_eq (key_order key k)) (positive (count_at raised table key - 1)) (entry_at raised t k))
    → Counted layers lowered
counted_back layers counts raised lowered table key counted up down = record {
  exact = λ t k. by_row t k (cases_row (record { table = table; key = key }) (record { table = t; key = k }));
  order = counted.order;
  full = counted.full;
}
  where
    test : (t : ℕ) (k : List Value) → (eqb table t && is_eq (key_order key k)) ≡ is_same (record { table = table; key = key }) (record { table = t; key = k })
    test t k = sym (is_same-parts (record { table = table; key = key }) (record { table = t; key = k }))

    here : entry_at lowered table key ≡ positive (times layers (record { table = table; key = key }))
    here =
        let on : (eqb table table && is_eq (key_order key key)) ≡ true = test table key ∙ is_same-itself (record { table = table; key = key }) in
        let is : entry_at raised table key ≡ Some (count_at counts table key + 1) = up table key ∙ ap (λ b. cond b (Some (count_at counts table key + 1)) (entry_at counts table key)) on in
        let count : count_at raised table key - 1 ≡ count_at counts table key = ap (λ (o : Option ℕ). unwrap_or o 0 - 1) is ∙ (omega arith) in
        down table key ∙ ap (λ b. cond b (positive (count_at raised table key - 1)) (entry_at raised table key)) on
        ∙ ap positive (count ∙ count-times layers counts (record { table = table; key = key }) counted)

    away : (t : ℕ) (k : List Value) → is_same (record { table = table; key = key }) (record { table = t; key = k }) ≡ false → entry_at lowered t k ≡ positive (times layers (record { table = t; key = k }))
    away t k apart =
        down t k ∙ ap (λ b. cond b (positive (count_at raised table key - 1)) (entry_at raised t k)) (test t k ∙ apart)
        ∙ up t k ∙ ap (λ b. cond b (Some (count_at counts table key + 1)) (entry_at counts t k)) (test t k ∙ apart)
        ∙ counted.exact t k

    by_row : (t : ℕ) (k : List Value) → (let r : RowKey = record { table = table; key = key } in r ≡ record { table = t; key = k }) ⊎ (is_same (record { table = table; key = key }) (record { table = t; key = k }) ≡ false)
        → entry_at lowered t k ≡ positive (times layers (record { table = t; key = k }))
    by_row t k (inl same) =
        let P : RowKey → Type 0 = λ r. entry_at lowered r.table r.key ≡ positive (times layers r) in
        subst P same here
    by_row t k (inr apart) = away t k apart

-- ---- a layer dropped

pub counted_dropped : (old new : Layers) (counts next : Counts) (version : ℕ) (layer : Groups) → Counted old counts
    → ((q : RowKey) → times new q + stores q layer ≡ times old q) → IsStrictlySortedBy nat_cmp (keys_of new)
    → ((v : ℕ) → groups_in new v ≡ cond (eqb version v) [] (groups_in old v))
    → ((t : ℕ) (k : List Value) → entry_at next t k ≡ positive (count_at next t k))
    → ((t : ℕ) (k : List Value) → count_at next t k + stores (record { table = t; key = k }) layer ≡ count_at counts t k)
    → Counted new next
counted_dropped old new counts next version layer counted less order groups positives lowered = record {
  exact = λ t k.
      let q : RowKey = record { table = t; key = k } in
      let was : count_at counts t k ≡ times old q = count-times old counts q counted in
      let now : count_at next t k ≡ times new q = omega (arith, was, less q, lowered t k) in
      positives t k ∙ ap positive now;
  order = order;
  full = λ v q ps there. by_test v q ps (eqb version v) (groups v) there;
}
  where
    by_test : (v : ℕ) (q : RowKey) (ps : List Piece) (b : Bool) → groups_in new v ≡ cond b [] (groups_in old v) → group_of new v q ≡ Some ps → HasTime ps
    by_test v q ps true is there = absurd (let none : None ≡ Some ps = sym (ap (λ (g : Groups). group_in g q) is) ∙ there in cc)
    by_test v q ps false is there = counted.full v q ps (sym (ap (λ (g : Groups). group_in g q) is) ∙ there)

-- enough versions are counted for each row of a layer
pub enough : (old new : Layers) (counts : Counts) (layer : Groups) → Counted old counts → ((q : RowKey) → times new q + stores q layer ≡ times old q)
    → (t : ℕ) (k : List Value) → stores (record { table = t; key = k }) layer ≤ count_at counts t k
enough old new counts layer counted less t k =
    let q : RowKey = record { table = t; key = k } in
    let was : count_at counts t k ≡ times old q = count-times old counts q counted in
    omega (arith, was, less q)

-- ---- keys

positive_some : (n : ℕ) → IsSome (positive n) → 0 < n
positive_some n some = by_number (cases_lt 0 n)
  where
    by_number : (0 < n) ⊎ (n ≤ 0) → 0 < n
    by_number (inl more) = more
    by_number (inr none) = absurd (let gone : is_some (positive n) ≡ false = ap (λ b. is_some (then_some b n)) (le-ltb 0 n none) in cc)

some_positive : (n : ℕ) → 0 < n → IsSome (positive n)
some_positive n some = ap (λ b. is_some (then_some b n)) (lt-ltb 0 n some)

some_time : (o : Option (List Piece)) → IsSome o → ((ps : List Piece) → o ≡ Some ps → HasTime ps) → HasTime (unwrap_or o [])
some_time None some full = cc
some_time (Some ps) some full = full ps refl

time_some : (o : Option (List Piece)) (t : ℕ) → IsSome (held_at (unwrap_or o []) t) → IsSome o
time_some None t some = cc
time_some (Some ps) t some = refl

-- the keys with a count are those of which some version stores something
pub keys_stored : (layers : Layers) (counts : Counts) (table : ℕ) (key : List Value) → Counted layers counts → Contains (keys_of (map_at counts table)) key ↔ IsStored layers table key
keys_stored layers counts table key counted =
    let row : RowKey = record { table = table; key = key } in (
      (λ among.
          let some : IsSome (entry_at counts table key) = IsSome-lookup_from_Contains (eq_by_cmp_equiv key_order_total) key (map_at counts table) among in
          let counts' : IsSome (positive (times layers row)) = subst IsSome (counted.exact table key) some in
          let found = some-times layers row counted.order (positive_some (times layers row) counts') in
          let time = some_time (group_of layers found.0 row) found.1 (counted.full found.0 row) in
          (found.0, time.0, time.1)),
      (λ stored.
          let some : IsSome (group_of layers stored.0 row) = time_some (group_of layers stored.0 row) stored.1 stored.2 in
          let counts' : IsSome (positive (times layers row)) = some_positive (times layers row) (times-some layers stored.0 row some) in
          Contains-keys_from_lookup (tells_apart key_order-equal) key (map_at counts table) (subst IsSome (sym (counted.exact table key)) counts')),
    )
