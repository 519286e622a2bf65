-- How many layers store pieces of a row.
use Rattle.std.proofs.Common.{◌≡◌, ◌<◌, ◌≤◌, ◌+◌, ℕ, Bool, true, false, cond, ◌&&◌, List, [], ◌∷◌, length, Option, Some, None, is_some, is_none, refl, sym, ap, ◌∙◌, subst, arith, ◌⊎◌, inl, inr}
use Rattle.std.proofs.lemmas.Bool.{cases_Bool}
use Rattle.std.proofs.lemmas.Cmp.{nat_cmp_total, tied_itself, eq_by_cmp_equiv}
use Rattle.std.proofs.lemmas.List.Sums.{sum_by-cons}
use Rattle.std.proofs.lemmas.Map.{lookup-none}
use Rattle.std.proofs.lemmas.Map.Entries.{sum_by-insert_entry, sum_by-set_value, sum_by-remove_entry, none_past_head}
use Rattle.std.proofs.lemmas.Map.Keys.{sorted_tail, IsDistinct-from_sorted}
use Rattle.std.specs.BTreeMap.{BTreeMap, is_at, insert_entry}
use Rattle.std.specs.List.Sorted.{IsStrictlySortedBy}
use Rattle.std.specs.Map.{lookup, keys_of, values_of, set_value, remove_entry}
use Rattle.std.specs.Option.{IsSome, option_map, unwrap_or}
use Rattle.std.specs.Ordering.{nat_cmp, is_eq, match_ordering}
use Rattle.std.specs.declared.cmp.Ordering.{Ordering}
use Rattle.std.specs.declared.cmp.Ordering.TheVariants.{Less, Equal, Greater}
use Rattle.wm_period.specs.declared.piece.Piece.{Piece}
use Rattle.wm_rows.proofs.Lookups.{cases_row, is_same-itself}
use Rattle.wm_rows.proofs.Maps.{lookup-maps_of, maps_of-set_value}
use Rattle.wm_rows.specs.Counts.{stores, times}
use Rattle.wm_rows.specs.Maps.{maps_of}
use Rattle.wm_rows.specs.Rows.{Groups, Layers, is_same, group_in, group_of, groups_in}
use Rattle.wm_rows.specs.declared.row_key.RowKey.{RowKey}

-- ---- maps of maps changed

pub keys_of-maps_of : {K X : Type 0} (maps : List (ℕ × BTreeMap K X)) → keys_of (maps_of maps) ≡ keys_of maps
keys_of-maps_of [] = refl
keys_of-maps_of (e ∷ es) = ap (λ (l : List ℕ). e.0 ∷ l) (keys_of-maps_of es)

insert_cases : {K X : Type 0} (o : Ordering) (k : ℕ) (m : BTreeMap K X) (e : ℕ × BTreeMap K X) (es : List (ℕ × BTreeMap K X)) (rest : List (ℕ × BTreeMap K X)) (told : List (ℕ × List (K × X))) → maps_of rest ≡ told
    → maps_of (match_ordering o ((k, m) ∷ e ∷ es) ((e.0, m) ∷ es) (e ∷ rest))
    ≡ match_ordering o ((k, m.entries) ∷ (e.0, e.1.entries) ∷ maps_of es) ((e.0, m.entries) ∷ maps_of es) ((e.0, e.1.entries) ∷ told)
insert_cases Less k m e es rest told is = refl
insert_cases Equal k m e es rest told is = refl
insert_cases {K} {X} Greater k m e es rest told is = ap (λ (l : List (ℕ × List (K × X))). (e.0, e.1.entries) ∷ l) is

maps_of-insert_entry : {K X : Type 0} (es : List (ℕ × BTreeMap K X)) (k : ℕ) (m : BTreeMap K X) → maps_of (insert_entry nat_cmp es k m) ≡ insert_entry nat_cmp (maps_of es) k m.entries
maps_of-insert_entry [] k m = refl
maps_of-insert_entry (e ∷ es) k m = insert_cases (nat_cmp k e.0) k m e es (insert_entry nat_cmp es k m) (insert_entry nat_cmp (maps_of es) k m.entries) (maps_of-insert_entry es k m)

remove_cases : {K X : Type 0} (b : Bool) (e : ℕ × BTreeMap K X) (es rest : List (ℕ × BTreeMap K X)) (told : List (ℕ × List (K × X))) → maps_of rest ≡ told
    → maps_of (cond b es (e ∷ rest)) ≡ cond b (maps_of es) ((e.0, e.1.entries) ∷ told)
remove_cases true e es rest told is = refl
remove_cases {K} {X} false e es rest told is = ap (λ (l : List (ℕ × List (K × X))). (e.0, e.1.entries) ∷ l) is

maps_of-remove_entry : {K X : Type 0} (test : ℕ → Bool) (es : List (ℕ × BTreeMap K X)) → maps_of (remove_entry test es) ≡ remove_entry test (maps_of es)
maps_of-remove_entry test [] = refl
maps_of-remove_entry test (e ∷ es) = remove_cases (test e.0) e es (remove_entry test es) (remove_entry test (maps_of es)) (maps_of-remove_entry test es)

-- ---- one row of one layer

stores-here : (row : RowKey) (groups : Groups) (pieces : List Piece) → group_in groups row ≡ Some pieces → stores row groups ≡ 1
stores-here row groups pieces is = ap (λ (o : Option (List Piece)). cond {A = ℕ} (is_some o) 1 0) is

-- a row more, where it was not there
stores_put : (next was : Groups) (row : RowKey) (pieces : List Piece) → ((q : RowKey) → group_in next q ≡ cond (is_same row q) (Some pieces) (group_in was q))
    → (q : RowKey) → stores q next ≡ stores q was + cond (is_same row q && is_none (group_in was row)) 1 0
stores_put next was row pieces put q = by_row (cases_row row q)
  where
    one_more : (o : Option (List Piece)) → 1 ≡ cond (is_some o) 1 0 + cond (is_none o) 1 0
    one_more None = refl
    one_more (Some x) = refl

    here : stores row next ≡ stores row was + cond (is_same row row && is_none (group_in was row)) 1 0
    here =
        stores-here row next pieces (put row ∙ ap (λ b. cond b (Some pieces) (group_in was row)) (is_same-itself row))
        ∙ one_more (group_in was row)
        ∙ ap (λ b. stores row was + cond (b && is_none (group_in was row)) 1 0) (sym (is_same-itself row))

    by_row : (row ≡ q) ⊎ (is_same row q ≡ false) → stores q next ≡ stores q was + cond (is_same row q && is_none (group_in was row)) 1 0
    by_row (inl same) =
        let P : RowKey → Type 0 = λ r. stores r next ≡ stores r was + cond (is_same row r && is_none (group_in was row)) 1 0 in
        subst P same here
    by_row (inr apart) =
        let as_was : stores q next ≡ stores q was = ap (λ (o : Option (List Piece)). cond {A = ℕ} (is_some o) 1 0) (put q ∙ ap (λ b. cond b (Some pieces) (group_in was q)) apart) in
        let nothing : ◌≡◌ {A = ℕ} (cond (is_same row q && is_none (group_in was row)) 1 0) 0 = ap (λ b. cond {A = ℕ} (b && is_none (group_in was row)) 1 0) apart in
        omega (arith, as_was, nothing)

-- ---- a layer changed

pub times_set : (old next : List (ℕ × BTreeMap RowKey (List Piece))) (version : ℕ) (row : RowKey) (was layer : BTreeMap RowKey (List Piece)) (pieces : List Piece)
    → lookup (is_at (nat_cmp version)) old ≡ Some was → next ≡ set_value (is_at (nat_cmp version)) old layer
    → ((q : RowKey) → group_in layer.entries q ≡ cond (is_same row q) (Some pieces) (group_in was.entries q))
    → (q : RowKey) → times (maps_of next) q ≡ times (maps_of old) q + cond (is_same row q && is_none (group_in was.entries row)) 1 0
times_set old next version row was layer pieces there set put q =
    let is : maps_of next ≡ set_value (is_at (nat_cmp version)) (maps_of old) layer.entries = ap maps_of set ∙ maps_of-set_value (is_at (nat_cmp version)) old layer in
    let found : lookup (is_at (nat_cmp version)) (maps_of old) ≡ Some was.entries = lookup-maps_of (is_at (nat_cmp version)) old ∙ ap (option_map (λ (m : BTreeMap RowKey (List Piece)). m.entries)) there in
    let sums : times (maps_of next) q + stores q was.entries ≡ times (maps_of old) q + stores q layer.entries =
    ap (λ (l : Layers). times l q + stores q was.entries) is ∙ sum_by-set_value (stores q) (is_at (nat_cmp version)) (maps_of old) was.entries layer.entries found in
    let more : stores q layer.entries ≡ stores q was.entries + cond (is_same row q && is_none (group_in was.entries row)) 1 0 = stores_put layer.entries was.entries row pieces put q in
    omega (arith, sums, more)

pub times_insert : (old next : List (ℕ × BTreeMap RowKey (List Piece))) (version : ℕ) (row : RowKey) (was : Groups) (layer : BTreeMap RowKey (List Piece)) (pieces : List Piece)
    → lookup (is_at (nat_cmp version)) old ≡ None → next ≡ insert_entry nat_cmp old version layer → IsStrictlySortedBy nat_cmp (keys_of old) → was ≡ []
    → ((q : RowKey) → group_in layer.entries q ≡ cond (is_same row q) (Some pieces) (group_in was q))
    → (q : RowKey) → times (maps_of next) q ≡ times (maps_of old) q + cond (is_same row q && is_none (group_in was row)) 1 0
times_insert old next version row was layer pieces absent set order empty put q =
    let is : maps_of next ≡ insert_entry nat_cmp (maps_of old) version layer.entries = ap maps_of set ∙ maps_of-insert_entry old version layer in
    let none : lookup (is_at (nat_cmp version)) (maps_of old) ≡ None = lookup-maps_of (is_at (nat_cmp version)) old ∙ ap (option_map (λ (m : BTreeMap RowKey (List Piece)). m.entries)) absent in
    let ordered : IsStrictlySortedBy nat_cmp (keys_of (maps_of old)) = subst (λ l. IsStrictlySortedBy nat_cmp l) (sym (keys_of-maps_of old)) order in
    let nothing : unwrap_or (option_map (stores q) (lookup (is_at (nat_cmp version)) (maps_of old))) 0 ≡ 0 = ap (λ (o : Option Groups). unwrap_or (option_map (stores q) o) 0) none in
    let sums : times (maps_of next) q + unwrap_or (option_map (stores q) (lookup (is_at (nat_cmp version)) (maps_of old))) 0 ≡ times (maps_of old) q + stores q layer.entries =
    ap (λ (l : Layers). times l q + unwrap_or (option_map (stores q) (lookup (is_at (nat_cmp version)) (maps_of old))) 0) is
    ∙ sum_by-insert_entry (stores q) nat_cmp_total (maps_of old) version layer.entries ordered in
    let more : stores q layer.entries ≡ stores q was + cond (is_same row q && is_none (group_in was row)) 1 0 = stores_put layer.entries was row pieces put q in
    let zero' : stores q was ≡ 0 = ap (stores q) empty in
    omega (arith, sums, more, nothing, zero')

pub times_removed : (old next : List (ℕ × BTreeMap RowKey (List Piece))) (version : ℕ) (layer : BTreeMap RowKey (List Piece)) → lookup (is_at (nat_cmp version)) old ≡ Some layer
    → next ≡ remove_entry (is_at (nat_cmp version)) old → (q : RowKey) → times (maps_of next) q + stores q layer.entries ≡ times (maps_of old) q
times_removed old next version layer there removed q =
    let is : maps_of next ≡ remove_entry (is_at (nat_cmp version)) (maps_of old) = ap maps_of removed ∙ maps_of-remove_entry (is_at (nat_cmp version)) old in
    let found : lookup (is_at (nat_cmp version)) (maps_of old) ≡ Some layer.entries = lookup-maps_of (is_at (nat_cmp version)) old ∙ ap (option_map (λ (m : BTreeMap RowKey (List Piece)). m.entries)) there in
    ap (λ (l : Layers). times l q + stores q layer.entries) is
    ∙ ap (λ (o : Option Groups). times (remove_entry (is_at (nat_cmp version)) (maps_of old)) q + unwrap_or (option_map (stores q) o) 0) (sym found)
    ∙ sum_by-remove_entry (stores q) (is_at (nat_cmp version)) (maps_of old)

-- ---- versions that store a row

stores-le : (q : RowKey) (groups : Groups) → stores q groups ≤ 1
stores-le q groups = by_test (is_some (group_in groups q))
  where
    by_test : (b : Bool) → cond {A = ℕ} b 1 0 ≤ 1
    by_test true = omega arith
    by_test false = omega arith

times-cons : (e : ℕ × Groups) (layers : Layers) (row : RowKey) → times (e ∷ layers) row ≡ stores row e.1 + times layers row
times-cons e layers row = sum_by-cons (stores row) e.1 (values_of layers)

pub times-le : (layers : Layers) (row : RowKey) → times layers row ≤ length layers
times-le [] row = omega arith
times-le (e ∷ layers) row = omega (arith, times-cons e layers row, stores-le row e.1, times-le layers row)

pub length-maps_of : {K X : Type 0} (maps : List (ℕ × BTreeMap K X)) → length (maps_of maps) ≡ length maps
length-maps_of [] = refl
length-maps_of (e ∷ es) = omega (arith, length-maps_of es)

groups-first : (v : ℕ) (e : ℕ × Groups) (rest : Layers) → is_at (nat_cmp v) e.0 ≡ true → groups_in (e ∷ rest) v ≡ e.1
groups-first v e rest here = ap (λ b. unwrap_or (cond b (Some e.1) (lookup (is_at (nat_cmp v)) rest)) []) here

groups-later : (v : ℕ) (e : ℕ × Groups) (rest : Layers) → is_at (nat_cmp v) e.0 ≡ false → groups_in (e ∷ rest) v ≡ groups_in rest v
groups-later v e rest away = ap (λ b. unwrap_or (cond b (Some e.1) (lookup (is_at (nat_cmp v)) rest)) []) away

-- a row that a version stores is counted
pub times-some : (layers : Layers) (version : ℕ) (row : RowKey) → IsSome (group_of layers version row) → 0 < times layers row
times-some [] version row some = cc
times-some (e ∷ rest) version row some = by_number (cases_Bool (is_at (nat_cmp version) e.0)) (times-some rest version row)
  where
    by_number : (is_at (nat_cmp version) e.0 ≡ true) ⊎ (is_at (nat_cmp version) e.0 ≡ false) → (IsSome (group_of rest version row) → 0 < times rest row) → 0 < times (e ∷ rest) row
    by_number (inl here) later =
        let one : stores row e.1 ≡ 1 = ap (λ b. cond {A = ℕ} b 1 0) (subst (λ (g : Groups). IsSome (group_in g row)) (groups-first version e rest here) some) in
        omega (arith, times-cons e rest row, one)
    by_number (inr away) later =
        let less : 0 < times rest row = later (subst (λ (g : Groups). IsSome (group_in g row)) (groups-later version e rest away) some) in
        omega (arith, times-cons e rest row, less)

-- a row that is counted is stored by some version
pub some-times : (layers : Layers) (row : RowKey) → IsStrictlySortedBy nat_cmp (keys_of layers) → 0 < times layers row → (version : ℕ) × IsSome (group_of layers version row)
some-times [] row order counted = absurd (omega arith)
some-times (e ∷ rest) row order counted = by_test (cases_Bool (is_some (group_in e.1 row))) (some-times rest row (sorted_tail nat_cmp e.0 (keys_of rest) order))
  where
    itself : is_at (nat_cmp e.0) e.0 ≡ true
    itself = ap is_eq (tied_itself nat_cmp_total e.0)

    other : (v : ℕ) → IsSome (group_of rest v row) → (is_at (nat_cmp v) e.0 ≡ true) ⊎ (is_at (nat_cmp v) e.0 ≡ false) → IsSome (group_of (e ∷ rest) v row)
    other v some (inl here) =
        let none : lookup (is_at (nat_cmp v)) rest ≡ None =
        lookup-none (is_at (nat_cmp v)) rest (none_past_head (eq_by_cmp_equiv nat_cmp_total) v e rest (IsDistinct-from_sorted nat_cmp (keys_of (e ∷ rest)) order) here) in
        absurd (let gone : is_some (group_of rest v row) ≡ false = ap (λ (o : Option Groups). is_some (group_in (unwrap_or o []) row)) none in cc)
    other v some (inr away) = subst (λ (g : Groups). IsSome (group_in g row)) (sym (groups-later v e rest away)) some

    by_test : (is_some (group_in e.1 row) ≡ true) ⊎ (is_some (group_in e.1 row) ≡ false) → (0 < times rest row → (version : ℕ) × IsSome (group_of rest version row)) → (version : ℕ) × IsSome (group_of (e ∷ rest) version row)
    by_test (inl some) later = (e.0, subst (λ (g : Groups). IsSome (group_in g row)) (sym (groups-first e.0 e rest itself)) some)
    by_test (inr none) later =
        let nothing : stores row e.1 ≡ 0 = ap (λ b. cond {A = ℕ} b 1 0) none in
        let left : 0 < times rest row = omega (arith, counted, times-cons e rest row, nothing) in
        let found = later left in
        (found.0, other found.0 found.1 (cases_Bool (is_at (nat_cmp found.0) e.0)))
