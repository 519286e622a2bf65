-- Entries of a log by their positions, told by an id for each position.
use Rattle.std.proofs.Common.{◌≡◌, ℕ, ◌==◌, Bool, true, false, cond, ◌&&◌, List, [], ◌∷◌, map, Option, Some, None, refl, sym, ap, subst, ◌∙◌, arith}
use Rattle.std.proofs.lemmas.Bool.{eq-eqb, eqb-true, true≢false}
use Rattle.std.proofs.lemmas.Map.Keys.{sorted_head, sorted_tail}
use Rattle.std.specs.BTreeMap.{is_at}
use Rattle.std.specs.List.{AllByRecursion, find}
use Rattle.std.specs.List.Sorted.{IsStrictlySortedBy}
use Rattle.std.specs.Map.{keys_of, values_of}
use Rattle.std.specs.Option.{option_and_then}
use Rattle.std.specs.Ordering.{nat_cmp}
use Rattle.std.specs.declared.cmp.Ordering.TheVariants.{Less}
use Rattle.wm_chunks.specs.Numbers.{Numbers}
use Rattle.wm_graph.specs.Parts.{parts_of, as_hist}
use Rattle.wm_spec.specs.Records.{record_at}
use Rattle.wm_spec.specs.declared.record.Record.{Record}
use Rattle.wm_spec.specs.declared.record.Record.TheVariants as records
use Rattle.wm_spec.specs.declared.record.hist.Hist.{Hist}
use Rattle.wm_spec.specs.declared.record.stored.Stored.{Stored}
use Rattle.wm_ids.proofs.IdLists.{less_than}
use Rattle.wm_ids.proofs.TableLists.{is_at-number}
use Rattle.wm_index.proofs.Finding.{Tests}
use Rattle.wm_index.proofs.Firsts.{sought_kind}
use Rattle.wm_index.proofs.Listed.{same_test}
use Rattle.wm_index.specs.Hists.{AreByPosition, first_at, is_found_at, logged_on, placed_at, stands_at}
use Rattle.wm_index.specs.Indexed.{IsIndexed, ids_at, listed}
use Rattle.wm_index.specs.Kinds.{kind_at}
use Rattle.wm_index.specs.Sought.{HistsOn, is_sought}
use Rattle.wm_index.specs.declared.index.Index.{Index}

-- the entry of an id
abbrev entry_at : List Stored → ℕ → Option Hist
entry_at ss id = option_and_then as_hist (record_at ss id)

-- ---- the entries of ids

none_more : (ss : List Stored) (id : ℕ) (ids : List ℕ) → entry_at ss id ≡ None → kind_at as_hist ss (id ∷ ids) ≡ kind_at as_hist ss ids
none_more ss id ids none = by_record (record_at ss id) refl none
  where
    by_record : (o : Option Record) → record_at ss id ≡ o → option_and_then as_hist o ≡ None → kind_at as_hist ss (id ∷ ids) ≡ kind_at as_hist ss ids
    by_record None is e = rw is refl
    by_record (Some r) is e = rw (is, e) refl

one_more : (ss : List Stored) (id : ℕ) (ids : List ℕ) (x : Hist) → entry_at ss id ≡ Some x → kind_at as_hist ss (id ∷ ids) ≡ x ∷ kind_at as_hist ss ids
one_more ss id ids x some = by_record (record_at ss id) refl some
  where
    by_record : (o : Option Record) → record_at ss id ≡ o → option_and_then as_hist o ≡ Some x → kind_at as_hist ss (id ∷ ids) ≡ x ∷ kind_at as_hist ss ids
    by_record None is e = cc
    by_record (Some r) is e = rw (is, e) refl

-- the first at a position is the entry of the first id
pub found_first : (ss : List Stored) (position : ℕ) (ids : List ℕ) → find (stands_at position) (kind_at as_hist ss ids) ≡ option_and_then (entry_at ss) (first_at ss position ids)
found_first ss position [] = refl
found_first ss position (id ∷ ids) = by_entry (entry_at ss id) refl (found_first ss position ids)
  where
    by_entry : (o : Option Hist) → entry_at ss id ≡ o → find (stands_at position) (kind_at as_hist ss ids) ≡ option_and_then (entry_at ss) (first_at ss position ids)
        → find (stands_at position) (kind_at as_hist ss (id ∷ ids)) ≡ option_and_then (entry_at ss) (cond (is_found_at position o) (Some id) (first_at ss position ids))
    by_entry None is rest = ap (find (stands_at position)) (none_more ss id ids is) ∙ rest
    by_entry (Some x) is rest = ap (find (stands_at position)) (one_more ss id ids x is) ∙ by_test (x.position == position) rest
      where
        by_test : (b : Bool) → find (stands_at position) (kind_at as_hist ss ids) ≡ option_and_then (entry_at ss) (first_at ss position ids)
            → cond b (Some x) (find (stands_at position) (kind_at as_hist ss ids)) ≡ option_and_then (entry_at ss) (cond b (Some id) (first_at ss position ids))
        by_test true rest = sym is
        by_test false rest = rest

-- ---- an id for each position

-- the entry of each id stands at its position
abbrev Stand : List Stored → List (ℕ × ℕ) → Type 0
Stand ss es = AllByRecursion (λ e. is_found_at e.0 (entry_at ss e.1) ≡ true) es

found_passes : (p : ℕ → Bool) (ids : List ℕ) (id : ℕ) → find p ids ≡ Some id → p id ≡ true
found_passes p [] id found = cc
found_passes p (k ∷ ids) id found = by_test (p k) refl found (found_passes p ids id)
  where
    some_same : (m n : ℕ) → Some m ≡ Some n → m ≡ n
    some_same m n e = cc

    by_test : (b : Bool) → p k ≡ b → cond b (Some k) (find p ids) ≡ Some id → (find p ids ≡ Some id → p id ≡ true) → p id ≡ true
    by_test true is e rest = ap p (sym (some_same k id e)) ∙ is
    by_test false is e rest = rest e

-- a place of the list is found under its key
here_placed : (e : ℕ × ℕ) (es : List (ℕ × ℕ)) → placed_at (e ∷ es) e.0 ≡ Some e.1
here_placed e es = ap (λ b. cond b (Some e.1) (placed_at es e.0)) (is_at-number e.0 e.0 ∙ eq-eqb e.0 e.0 refl)

-- so it is behind others, whose keys are less
all_stand : (ss : List Stored) (ids : List ℕ) (all es : List (ℕ × ℕ)) → ((q : ℕ) (id : ℕ) → placed_at es q ≡ Some id → placed_at all q ≡ Some id) → IsStrictlySortedBy nat_cmp (keys_of es)
    → ((q : ℕ) → placed_at all q ≡ first_at ss q ids) → Stand ss es
all_stand ss ids all [] among sorted placed = tt
all_stand ss ids all (e ∷ es) among sorted placed = (
  found_passes (λ id. is_found_at e.0 (entry_at ss id)) ids e.1 (sym (placed e.0) ∙ among e.0 e.1 (here_placed e es)),
  all_stand ss ids all es (λ q id found. among q id (later q id found)) (sorted_tail nat_cmp e.0 (keys_of es) sorted) placed,
)
  where
    above : AllByRecursion (λ k. nat_cmp e.0 k ≡ Less) (keys_of es)
    above = sorted_head nat_cmp e.0 (keys_of es) sorted

    -- nothing stands under the first key behind it
    none_here : (fs : List (ℕ × ℕ)) → AllByRecursion (λ k. nat_cmp e.0 k ≡ Less) (keys_of fs) → (q : ℕ) → (q == e.0) ≡ true → placed_at fs q ≡ None
    none_here [] more q same = refl
    none_here (f ∷ fs) more q same = ap (λ b. cond b (Some f.1) (placed_at fs q)) (is_at-number q f.0 ∙ apart) ∙ none_here fs more.1 q same
      where
        apart : (q == f.0) ≡ false
        apart = let is = eqb-true q e.0 same in let lt = less_than e.0 f.0 more.0 in grind (arith, is, lt)

    later : (q id : ℕ) → placed_at es q ≡ Some id → placed_at (e ∷ es) q ≡ Some id
    later q id found = ap (λ b. cond b (Some e.1) (placed_at es q)) (is_at-number q e.0) ∙ by_test (q == e.0) refl
      where
        by_test : (b : Bool) → (q == e.0) ≡ b → cond b (Some e.1) (placed_at es q) ≡ Some id
        by_test true same = absurd (let none = none_here es above q same in cc)
        by_test false apart = found

-- an id whose entry stands at a position
found_entry : (position : ℕ) (o : Option Hist) → is_found_at position o ≡ true → (x : Hist) × (o ≡ Some x) × (x.position ≡ position)
found_entry position None is = absurd (true≢false (sym is))
found_entry position (Some x) is = (x, refl, eqb-true x.position position is)

positions_are : (ss : List Stored) (es : List (ℕ × ℕ)) → Stand ss es → map (λ (x : Hist). x.position) (kind_at as_hist ss (values_of es)) ≡ keys_of es
positions_are ss [] stand = refl
positions_are ss (e ∷ es) stand =
    let h = found_entry e.0 (entry_at ss e.1) stand.0 in
    ap (map (λ (x : Hist). x.position)) (one_more ss e.1 (values_of es) h.0 h.1)
    ∙ ap (λ k. k ∷ map (λ (x : Hist). x.position) (kind_at as_hist ss (values_of es))) h.2
    ∙ ap (λ ks. e.0 ∷ ks) (positions_are ss es stand.1)

first_placed : (ss : List Stored) (es : List (ℕ × ℕ)) → Stand ss es → (q : ℕ) → first_at ss q (values_of es) ≡ placed_at es q
first_placed ss [] stand q = refl
first_placed ss (e ∷ es) stand q =
    let h = found_entry e.0 (entry_at ss e.1) stand.0 in
    ap (λ (o : Option Hist). cond (is_found_at q o) (Some e.1) (first_at ss q (values_of es))) h.1
    ∙ ap (λ n. cond (n == q) (Some e.1) (first_at ss q (values_of es))) h.2
    ∙ ap (λ b. cond b (Some e.1) (first_at ss q (values_of es))) (same_test e.0 q ∙ sym (is_at-number q e.0))
    ∙ ap (λ o. cond (is_at (nat_cmp q) e.0) (Some e.1) o) (first_placed ss es stand.1 q)

-- the entries of the first id of each position, in the order of positions
pub by_position : (ss : List Stored) (ids : List ℕ) (es : List (ℕ × ℕ)) → IsStrictlySortedBy nat_cmp (keys_of es) → ((q : ℕ) → placed_at es q ≡ first_at ss q ids)
    → AreByPosition (kind_at as_hist ss (values_of es)) (kind_at as_hist ss ids)
by_position ss ids es sorted placed = record {
  ascend = subst (IsStrictlySortedBy nat_cmp) (sym (positions_are ss es stand)) sorted;
  same = λ q. found_first ss q (values_of es) ∙ ap (option_and_then (entry_at ss)) (first_placed ss es stand q ∙ placed q) ∙ sym (found_first ss q ids);
}
  where
    stand : Stand ss es
    stand = all_stand ss ids es es (λ q id found. found) sorted placed

-- ---- what the index tells

hist_test : (space table : ℕ) → Tests as_hist (λ (x : Hist). (x.space == space) && (x.cells.table == table)) (is_sought (HistsOn space table))
hist_test space table (records.Hist x) = refl
hist_test space table _ = refl

-- the entries of the ids that the index has of a log on a table are those of the records
pub hists_told : (kept : Numbers Record) (x : Index) → IsIndexed kept x → (space table : ℕ)
    → kind_at as_hist (listed kept.entries) (ids_at x (HistsOn space table)) ≡ logged_on space table (parts_of (listed kept.entries)).hists
unfolding parts_of
hists_told kept x is space table = sought_kind as_hist (λ (r : Hist). (r.space == space) && (r.cells.table == table)) (HistsOn space table) (hist_test space table) kept x is
