-- The touches of a workspace from a position on, told by the ids at its positions.
use Rattle.std.proofs.Common.{◌≡◌, ℕ, ◌==◌, nat_le, Bool, true, false, cond, ◌&&◌, ◌||◌, List, [], ◌∷◌, map, Option, Some, None, refl, sym, ap, ap₂, subst, ◌∙◌, arith}
use Rattle.std.proofs.lemmas.Bool.{eq-eqb, ne_eqb, eqb-true, true≢false}
use Rattle.std.proofs.lemmas.Map.Keys.{sorted_head, sorted_tail}
use Rattle.std.specs.Cmp.{both_ways}
use Rattle.std.specs.List.{AllByRecursion, filter, list_any}
use Rattle.std.specs.List.Sorted.{IsStrictlySortedBy}
use Rattle.std.specs.Option.{option_map_or}
use Rattle.std.specs.Ordering.{nat_cmp}
use Rattle.std.specs.declared.cmp.Ordering.TheVariants.{Less}
use Rattle.wm_chunks.specs.Numbers.{Numbers}
use Rattle.wm_ids.proofs.IdLists.{less_than}
use Rattle.wm_ids.proofs.Since.{Place, is_since, is_there}
use Rattle.wm_ids.specs.Ids.{ids_at_position, ids_since}
use Rattle.wm_index.proofs.Listed.{sorted-listed}
use Rattle.wm_index.proofs.Lists.{ids_of, record_at-none, record_at-here, record_at-away}
use Rattle.wm_index.specs.Indexed.{IsIndexed, listed}
use Rattle.wm_index.specs.Sought.{TouchAt, ids_with, is_sought, is_touch_since}
use Rattle.wm_index.specs.declared.index.Index.{Index}
use Rattle.wm_spec.specs.Records.{record_at}
use Rattle.wm_spec.specs.declared.record.Record.{Record}
use Rattle.wm_spec.specs.declared.record.Record.TheVariants as records
use Rattle.wm_spec.specs.declared.record.stored.Stored.{Stored}

-- the id is one of them
abbrev pub has_id : ℕ → List ℕ → Bool
has_id id ids = list_any (λ k. k == id) ids

-- ---- the ids of records that pass a test

none_above : (p : Record → Bool) (id : ℕ) (ss : List Stored) → AllByRecursion (λ k. nat_cmp id k ≡ Less) (ids_of ss) → has_id id (ids_with p ss) ≡ false
none_above p id [] above = refl
none_above p id (s ∷ ss) above = by_test (p s.record) (none_above p id ss above.1)
  where
    by_test : (b : Bool) → has_id id (ids_with p ss) ≡ false → has_id id (cond b (s.id ∷ ids_with p ss) (ids_with p ss)) ≡ false
    by_test true rest = ap (λ b. b || has_id id (ids_with p ss)) (ne_eqb s.id id (λ same. let lt = less_than id s.id above.0 in omega (arith, lt, same))) ∙ rest
    by_test false rest = rest

-- an id is among them where its record passes
pub among_with : (p : Record → Bool) (id : ℕ) (ss : List Stored) → IsStrictlySortedBy nat_cmp (ids_of ss) → has_id id (ids_with p ss) ≡ option_map_or p (record_at ss id) false
among_with p id [] sorted = ap (λ o. option_map_or p o false) (sym (record_at-none id))
among_with p id (s ∷ ss) sorted = by_id (s.id == id) refl (among_with p id ss (sorted_tail nat_cmp s.id (ids_of ss) sorted))
  where
    here : (b : Bool) → p s.record ≡ b → s.id ≡ id → has_id id (cond b (s.id ∷ ids_with p ss) (ids_with p ss)) ≡ b
    here true is same = ap (λ b. b || has_id id (ids_with p ss)) (eq-eqb s.id id same)
    here false is same = none_above p id ss (subst (λ k. AllByRecursion (λ j. nat_cmp k j ≡ Less) (ids_of ss)) same (sorted_head nat_cmp s.id (ids_of ss) sorted))

    away : (b : Bool) → (s.id == id) ≡ false → has_id id (cond b (s.id ∷ ids_with p ss) (ids_with p ss)) ≡ has_id id (ids_with p ss)
    away true apart = ap (λ b. b || has_id id (ids_with p ss)) apart
    away false apart = refl

    by_id : (t : Bool) → (s.id == id) ≡ t → has_id id (ids_with p ss) ≡ option_map_or p (record_at ss id) false
        → has_id id (cond (p s.record) (s.id ∷ ids_with p ss) (ids_with p ss)) ≡ option_map_or p (record_at (s ∷ ss) id) false
    by_id true same rest =
        let e = eqb-true s.id id same in
        here (p s.record) refl e ∙ ap (λ o. option_map_or p o false) (sym (record_at-here s ss id e))
    by_id false apart rest =
        away (p s.record) apart
        ∙ rest
        ∙ ap (λ o. option_map_or p o false) (sym (record_at-away s ss id (λ e. true≢false (sym (eq-eqb s.id id e) ∙ apart))))

-- ---- the ids of places

has_more : (p : Place → Bool) (id : ℕ) (e : Place) (es : List Place) → has_id id (map (λ (d : Place). d.2) (filter p es)) ≡ true → has_id id (map (λ (d : Place). d.2) (filter p (e ∷ es))) ≡ true
has_more p id e es there = by_test (p e)
  where
    or_true : (a b : Bool) → b ≡ true → (a || b) ≡ true
    or_true true b is = refl
    or_true false b is = is

    by_test : (b : Bool) → has_id id (map (λ (d : Place). d.2) (cond b (e ∷ filter p es) (filter p es))) ≡ true
    by_test true = or_true (e.2 == id) (has_id id (map (λ (d : Place). d.2) (filter p es))) there
    by_test false = there

-- an id that is at a position from one on is found
found_at : (space from id n : ℕ) (es : List Place) → nat_le from n ≡ true → has_id id (ids_at_position es (space, n)) ≡ true → has_id id (ids_since es space from) ≡ true
found_at space from id n [] le there = there
found_at space from id n (e ∷ es) le there = by_test (e.0 == space) refl (e.1 == n) refl there (λ at. has_more (is_since space from) id e es (found_at space from id n es le at))
  where
    Later : Type 0
    Later = has_id id (ids_at_position es (space, n)) ≡ true → has_id id (ids_since (e ∷ es) space from) ≡ true

    by_id : (b : Bool) → (e.2 == id) ≡ b → (b || has_id id (ids_at_position es (space, n))) ≡ true → (e.0 == space) ≡ true → (e.1 == n) ≡ true → Later → has_id id (ids_since (e ∷ es) space from) ≡ true
    by_id true same h one two later =
        ap (λ b. has_id id (map (λ (d : Place). d.2) (cond (b && nat_le from e.1) (e ∷ filter (is_since space from) es) (filter (is_since space from) es)))) one
        ∙ ap (λ b. has_id id (map (λ (d : Place). d.2) (cond b (e ∷ filter (is_since space from) es) (filter (is_since space from) es)))) (ap (nat_le from) (eqb-true e.1 n two) ∙ le)
        ∙ ap (λ b. b || has_id id (ids_since es space from)) same
    by_id false other h one two later = later h

    by_test : (s : Bool) → (e.0 == space) ≡ s → (p : Bool) → (e.1 == n) ≡ p → has_id id (map (λ (d : Place). d.2) (cond (s && p) (e ∷ filter (is_there (space, n)) es) (filter (is_there (space, n)) es))) ≡ true
        → Later → has_id id (ids_since (e ∷ es) space from) ≡ true
    by_test true one true two h later = by_id (e.2 == id) refl h one two later
    by_test true one false two h later = later h
    by_test false one p two h later = later h

-- an id that is found is at such a position
at_found : (space from id : ℕ) (es : List Place) → has_id id (ids_since es space from) ≡ true → (n : ℕ) × (nat_le from n ≡ true) × (has_id id (ids_at_position es (space, n)) ≡ true)
at_found space from id [] found = absurd (true≢false (sym found))
at_found space from id (e ∷ es) found = by_test (e.0 == space) refl (nat_le from e.1) refl found (λ rest. later (at_found space from id es rest))
  where
    Found : Type 0
    Found = (n : ℕ) × (nat_le from n ≡ true) × (has_id id (ids_at_position (e ∷ es) (space, n)) ≡ true)

    later : (n : ℕ) × (nat_le from n ≡ true) × (has_id id (ids_at_position es (space, n)) ≡ true) → Found
    later h = (h.0, h.1, has_more (is_there (space, h.0)) id e es h.2)

    by_id : (b : Bool) → (e.2 == id) ≡ b → (b || has_id id (ids_since es space from)) ≡ true → (e.0 == space) ≡ true → nat_le from e.1 ≡ true → (has_id id (ids_since es space from) ≡ true → Found) → Found
    by_id true same h one two rest = (
      e.1,
      two,
      ap₂ (λ s p. has_id id (map (λ (d : Place). d.2) (cond (s && p) (e ∷ filter (is_there (space, e.1)) es) (filter (is_there (space, e.1)) es)))) one (eq-eqb e.1 e.1 refl)
          ∙ ap (λ b. b || has_id id (ids_at_position es (space, e.1))) same,
    )
    by_id false other h one two rest = rest h

    by_test : (s : Bool) → (e.0 == space) ≡ s → (p : Bool) → nat_le from e.1 ≡ p → has_id id (map (λ (d : Place). d.2) (cond (s && p) (e ∷ filter (is_since space from) es) (filter (is_since space from) es))) ≡ true
        → (has_id id (ids_since es space from) ≡ true → Found) → Found
    by_test true one true two h rest = by_id (e.2 == id) refl h one two rest
    by_test true one false two h rest = rest h
    by_test false one p two h rest = rest h

-- ---- touches

-- a touch at a position is one from any position on that is not behind it
since_at : (space from n : ℕ) (o : Option Record) → nat_le from n ≡ true → option_map_or (is_sought (TouchAt space n)) o false ≡ true → option_map_or (is_touch_since space from) o false ≡ true
since_at space from n None le is = is
since_at space from n (Some (records.Touch r)) le is = by_test (r.space == space) (r.position == n) refl is
  where
    by_test : (s p : Bool) → (r.position == n) ≡ p → (s && p) ≡ true → (s && nat_le from r.position) ≡ true
    by_test true true same h = ap (nat_le from) (eqb-true r.position n same) ∙ le
    by_test true false same h = absurd (true≢false (sym h))
    by_test false p same h = h
since_at space from n (Some _) le is = is

-- and it is at its own
at_since : (space from : ℕ) (o : Option Record) → option_map_or (is_touch_since space from) o false ≡ true → (n : ℕ) × (nat_le from n ≡ true) × (option_map_or (is_sought (TouchAt space n)) o false ≡ true)
at_since space from None is = absurd (true≢false (sym is))
at_since space from (Some (records.Touch r)) is = by_test (r.space == space) refl (nat_le from r.position) refl is
  where
    by_test : (s : Bool) → (r.space == space) ≡ s → (p : Bool) → nat_le from r.position ≡ p → (s && p) ≡ true → (n : ℕ) × (nat_le from n ≡ true) × (((r.space == space) && (r.position == n)) ≡ true)
    by_test true same true le h = (r.position, le, ap (λ b. b && (r.position == r.position)) same ∙ eq-eqb r.position r.position refl)
    by_test true same false le h = absurd (true≢false (sym h))
    by_test false same p le h = absurd (true≢false (sym h))
at_since space from (Some _) is = absurd (true≢false (sym is))

-- the ids at the positions of a workspace from one on are those of its touches from that on
pub touches_told : (kept : Numbers Record) (x : Index) → IsIndexed kept x → (space from id : ℕ)
    → has_id id (ids_since x.touched_at.keys space from) ≡ option_map_or (is_touch_since space from) (record_at (listed kept.entries) id) false
touches_told kept x is space from id = both_ways _ _ there back
  where
    at : (n : ℕ) → has_id id (ids_at_position x.touched_at.keys (space, n)) ≡ option_map_or (is_sought (TouchAt space n)) (record_at (listed kept.entries) id) false
    at n = ap (has_id id) (is.told (TouchAt space n)) ∙ among_with (is_sought (TouchAt space n)) id (listed kept.entries) (sorted-listed kept.entries is.ordered)

    there : has_id id (ids_since x.touched_at.keys space from) ≡ true → option_map_or (is_touch_since space from) (record_at (listed kept.entries) id) false ≡ true
    there found =
        let h = at_found space from id x.touched_at.keys found in
        since_at space from h.0 (record_at (listed kept.entries) id) h.1 (sym (at h.0) ∙ h.2)

    back : option_map_or (is_touch_since space from) (record_at (listed kept.entries) id) false ≡ true → has_id id (ids_since x.touched_at.keys space from) ≡ true
    back touch =
        let h = at_since space from (record_at (listed kept.entries) id) touch in
        found_at space from id h.0 x.touched_at.keys h.1 (at h.0 ∙ h.2)
