-- Records in the order of their ids are determined by what is found under each id.
use Rattle.std.proofs.Common.{◌≡◌, ◌≢◌, ℕ, ◌<◌, ◌==◌, nat_lt, Bool, true, false, cond, if◌then◌else◌, List, [], ◌∷◌, map, Option, Some, None, refl, sym, ap, ◌∙◌, ◌⊎◌, inl, inr, arith}
use Rattle.std.proofs.lemmas.Bool.{cases_eq, eq-eqb, ne_eqb, eqb-false, ltb-true, or_parts}
use Rattle.std.proofs.lemmas.Option.{same_Some}
use Rattle.std.specs.List.{list_any}
use Rattle.wm_base.proofs.Plain.{none_some, not_less, unless_parts}
use Rattle.wm_spec.specs.Records.{record_at, ids_differ, AreRecords}
use Rattle.wm_spec.specs.declared.record.Record.{Record}
use Rattle.wm_spec.specs.declared.record.stored.Stored.{Stored}
use Rattle.wm_state.specs.ById.{place_by_id, by_id, AllAbove, Ascend, perhaps_before, set_at}

-- ---- what is found

pub record_at-here : (s : Stored) (ss : List Stored) (id : ℕ) → s.id ≡ id → record_at (s ∷ ss) id ≡ Some s.record
unfolding record_at
record_at-here s ss id e = rw (eq-eqb _ _ e) refl

pub record_at-away : (s : Stored) (ss : List Stored) (id : ℕ) → s.id ≢ id → record_at (s ∷ ss) id ≡ record_at ss id
unfolding record_at
record_at-away s ss id e = rw (ne_eqb _ _ e) refl

-- nothing is found below all ids
pub record_at-below : (ss : List Stored) (low id : ℕ) → AllAbove low ss → id ≡ low → record_at ss id ≡ None
unfolding record_at
record_at-below [] low id above e = refl
record_at-below (s ∷ ss) low id above e = rw (ne_eqb s.id id (λ h. omega (arith, above.0, h, e))) (record_at-below ss low id above.1 e)

pub AllAbove-less : (m n : ℕ) (ss : List Stored) → m < n → AllAbove n ss → AllAbove m ss
AllAbove-less m n [] lt above = tt
AllAbove-less m n (s ∷ ss) lt above = (omega (arith, lt, above.0), AllAbove-less m n ss lt above.1)

-- ---- sorted records

AllAbove-place : (low : ℕ) (s : Stored) (ts : List Stored) → low < s.id → AllAbove low ts → AllAbove low (place_by_id s ts)
AllAbove-place low s [] lt above = (lt, tt)
AllAbove-place low s (t ∷ ts) lt above = by_test (nat_lt t.id s.id) (AllAbove-place low s ts lt above.1)
  where
    by_test : (b : Bool) → AllAbove low (place_by_id s ts) → AllAbove low (cond b (t ∷ place_by_id s ts) (s ∷ t ∷ ts))
    by_test true rest = (above.0, rest)
    by_test false rest = (lt, above)

-- a record is found where it was placed, and others as before
pub record_at-place : (s : Stored) (ts : List Stored) (id : ℕ) → record_at ts s.id ≡ None → record_at (place_by_id s ts) id ≡ record_at (s ∷ ts) id
record_at-place s [] id fresh = refl
record_at-place s (t ∷ ts) id fresh = by_test (nat_lt t.id s.id) refl (cases_eq t.id s.id) (record_at-place s ts id)
  where
    swapped : t.id ≢ s.id → (record_at ts s.id ≡ None → record_at (place_by_id s ts) id ≡ record_at (s ∷ ts) id) → (s.id ≡ id) ⊎ (s.id ≢ id) → (t.id ≡ id) ⊎ (t.id ≢ id)
        → record_at (t ∷ place_by_id s ts) id ≡ record_at (s ∷ t ∷ ts) id
    swapped apart rest (inl here) (inl there) = absurd (apart (there ∙ sym here))
    swapped apart rest (inl here) (inr away) =
        record_at-away t _ id away ∙ rest (sym (record_at-away t ts s.id apart) ∙ fresh) ∙ record_at-here s ts id here ∙ sym (record_at-here s (t ∷ ts) id here)
    swapped apart rest (inr other) (inl there) = record_at-here t _ id there ∙ sym (record_at-here t ts id there) ∙ sym (record_at-away s (t ∷ ts) id other)
    swapped apart rest (inr other) (inr away) =
        record_at-away t _ id away ∙ rest (sym (record_at-away t ts s.id apart) ∙ fresh) ∙ record_at-away s ts id other ∙ sym (record_at-away t ts id away) ∙ sym (record_at-away s (t ∷ ts) id other)

    by_test : (b : Bool) → nat_lt t.id s.id ≡ b → (t.id ≡ s.id) ⊎ (t.id ≢ s.id) → (record_at ts s.id ≡ None → record_at (place_by_id s ts) id ≡ record_at (s ∷ ts) id)
        → record_at (cond b (t ∷ place_by_id s ts) (s ∷ t ∷ ts)) id ≡ record_at (s ∷ t ∷ ts) id
    by_test true e (inl same) rest = absurd (none_some (record_at (t ∷ ts) s.id) t.record fresh (record_at-here t ts s.id same))
    by_test true e (inr apart) rest = swapped apart rest (cases_eq s.id id) (cases_eq t.id id)
    by_test false e c rest = refl

Ascend-place : (s : Stored) (ts : List Stored) → record_at ts s.id ≡ None → Ascend ts → Ascend (place_by_id s ts)
Ascend-place s [] fresh sorted = (tt, tt)
Ascend-place s (t ∷ ts) fresh sorted = by_test (nat_lt t.id s.id) refl (cases_eq t.id s.id) (λ f. Ascend-place s ts f sorted.1)
  where
    by_test : (b : Bool) → nat_lt t.id s.id ≡ b → (t.id ≡ s.id) ⊎ (t.id ≢ s.id) → (record_at ts s.id ≡ None → Ascend (place_by_id s ts)) → Ascend (cond b (t ∷ place_by_id s ts) (s ∷ t ∷ ts))
    by_test b e (inl same) rest = absurd (none_some (record_at (t ∷ ts) s.id) t.record fresh (record_at-here t ts s.id same))
    by_test true e (inr apart) rest = (AllAbove-place t.id s ts (ltb-true t.id s.id e) sorted.0, rest (sym (record_at-away t ts s.id apart) ∙ fresh))
    by_test false e (inr apart) rest = ((not_less t.id s.id e apart, AllAbove-less s.id t.id ts (not_less t.id s.id e apart) sorted.0), sorted)

-- ---- the order of ids determines the list

pub record_at-none : (id : ℕ) → record_at [] id ≡ None
unfolding record_at
record_at-none id = refl

stored_same : (s t : Stored) → s.id ≡ t.id → s.record ≡ t.record → s ≡ t
stored_same s t e f = ap (λ (k : ℕ). made k s.record) e ∙ ap (λ (r : Record). made t.id r) f
  where
    made : ℕ → Record → Stored
    made k r = record { id = k; «record» = r }

pub one_order : (a b : List Stored) → Ascend a → Ascend b → ((id : ℕ) → record_at a id ≡ record_at b id) → a ≡ b
one_order [] [] one two same = refl
one_order [] (t ∷ ts) one two same = absurd (none_some (record_at [] t.id) t.record (record_at-none t.id) (same t.id ∙ record_at-here t ts t.id refl))
one_order (s ∷ ss) [] one two same = absurd (none_some (record_at [] s.id) s.record (record_at-none s.id) (sym (same s.id) ∙ record_at-here s ss s.id refl))
one_order (s ∷ ss) (t ∷ ts) one two same = by_order (cases_eq s.id t.id) (nat_lt s.id t.id) refl (one_order ss ts one.1 two.1)
  where
    tails : s.id ≡ t.id → (id : ℕ) → record_at ss id ≡ record_at ts id
    tails e id = by_id (cases_eq s.id id)
      where
        by_id : (s.id ≡ id) ⊎ (s.id ≢ id) → record_at ss id ≡ record_at ts id
        by_id (inl here) = record_at-below ss s.id id one.0 (sym here) ∙ sym (record_at-below ts t.id id two.0 (sym here ∙ e))
        by_id (inr away) = sym (record_at-away s ss id away) ∙ same id ∙ record_at-away t ts id (λ h. away (e ∙ h))

    by_order : (s.id ≡ t.id) ⊎ (s.id ≢ t.id) → (b : Bool) → nat_lt s.id t.id ≡ b → (((id : ℕ) → record_at ss id ≡ record_at ts id) → ss ≡ ts) → (s ∷ ss) ≡ (t ∷ ts)
    by_order (inl e) b lt rest =
        let first : s ≡ t = stored_same s t e (same_Some s.record t.record (sym (record_at-here s ss t.id e) ∙ same t.id ∙ record_at-here t ts t.id refl)) in
        ap (λ (x : Stored). x ∷ ss) first ∙ ap (λ (xs : List Stored). t ∷ xs) (rest (tails e))
    by_order (inr apart) true lt rest =
        absurd (none_some (record_at (t ∷ ts) s.id) s.record
        (record_at-below (t ∷ ts) s.id s.id (ltb-true s.id t.id lt, AllAbove-less s.id t.id ts (ltb-true s.id t.id lt) two.0) refl)
        (sym (same s.id) ∙ record_at-here s ss s.id refl))
    by_order (inr apart) false lt rest =
        absurd (none_some (record_at (s ∷ ss) t.id) t.record
        (record_at-below (s ∷ ss) t.id t.id (not_less s.id t.id lt apart, AllAbove-less t.id s.id ss (not_less s.id t.id lt apart) one.0) refl)
        (same t.id ∙ record_at-here t ts t.id refl))

-- ---- records of different ids

differ-none : (id : ℕ) (ss : List Stored) → list_any (λ other. other == id) (map (λ (x : Stored). x.id) ss) ≡ false → record_at ss id ≡ None
differ-none id [] e = record_at-none id
differ-none id (t ∷ ts) e =
    let both = or_parts (t.id == id) (list_any (λ other. other == id) (map (λ (x : Stored). x.id) ts)) e in
    record_at-away t ts id (eqb-false t.id id both.0) ∙ differ-none id ts both.1

abbrev ids : List Stored → List ℕ
ids ss = map (λ (x : Stored). x.id) ss

differ-first : (s : Stored) (ss : List Stored) → AreRecords (s ∷ ss) → (record_at ss s.id ≡ None) × AreRecords ss
unfolding ids_differ
differ-first s ss e = let both = unless_parts (list_any (λ other. other == s.id) (ids ss)) (ids_differ (ids ss)) e in (differ-none s.id ss both.0, both.1)

-- sorted by id, each record is found as before
pub record_at-by_id : (ss : List Stored) → AreRecords ss → (id : ℕ) → record_at (by_id ss) id ≡ record_at ss id
record_at-by_id [] are id = refl
record_at-by_id (s ∷ ss) are id =
    let first = differ-first s ss are in
    record_at-place s (by_id ss) id (record_at-by_id ss first.1 s.id ∙ first.0) ∙ by_number (cases_eq s.id id) (record_at-by_id ss first.1 id)
  where
    by_number : (s.id ≡ id) ⊎ (s.id ≢ id) → record_at (by_id ss) id ≡ record_at ss id → record_at (s ∷ by_id ss) id ≡ record_at (s ∷ ss) id
    by_number (inl here) rest = record_at-here s (by_id ss) id here ∙ sym (record_at-here s ss id here)
    by_number (inr away) rest = record_at-away s (by_id ss) id away ∙ rest ∙ sym (record_at-away s ss id away)

pub Ascend-by_id : (ss : List Stored) → AreRecords ss → Ascend (by_id ss)
Ascend-by_id [] are = tt
Ascend-by_id (s ∷ ss) are = let first = differ-first s ss are in Ascend-place s (by_id ss) (record_at-by_id ss first.1 s.id ∙ first.0) (Ascend-by_id ss first.1)

-- ---- what a batch makes of them

record_at-perhaps : (id : ℕ) (becomes : Option Record) (ss : List Stored) (other : ℕ) → record_at ss id ≡ None → record_at (perhaps_before id becomes ss) other ≡ (if other == id then becomes else record_at ss other)
record_at-perhaps id None ss other fresh = by_number (cases_eq other id)
  where
    nothing : Option Record
    nothing = None

    by_number : (other ≡ id) ⊎ (other ≢ id) → record_at ss other ≡ (if other == id then nothing else record_at ss other)
    by_number (inl here) = rw (eq-eqb _ _ here) (ap (record_at ss) here ∙ fresh)
    by_number (inr away) = rw (ne_eqb _ _ away) refl
record_at-perhaps id (Some r) ss other fresh = by_number (cases_eq other id)
  where
    one : Stored
    one = record { id = id; «record» = r }

    by_number : (other ≡ id) ⊎ (other ≢ id) → record_at (one ∷ ss) other ≡ (if other == id then Some r else record_at ss other)
    by_number (inl here) = rw (eq-eqb _ _ here) (record_at-here one ss other (sym here))
    by_number (inr away) = rw (ne_eqb _ _ away) (record_at-away one ss other (λ h. away (sym h)))

AllAbove-perhaps : (low id : ℕ) (becomes : Option Record) (ss : List Stored) → low < id → AllAbove low ss → AllAbove low (perhaps_before id becomes ss)
AllAbove-perhaps low id None ss lt above = above
AllAbove-perhaps low id (Some r) ss lt above = (lt, above)

Ascend-perhaps : (id : ℕ) (becomes : Option Record) (ss : List Stored) → AllAbove id ss → Ascend ss → Ascend (perhaps_before id becomes ss)
Ascend-perhaps id None ss above sorted = sorted
Ascend-perhaps id (Some r) ss above sorted = (above, sorted)

AllAbove-set : (low id : ℕ) (becomes : Option Record) (ss : List Stored) → low < id → AllAbove low ss → AllAbove low (set_at id becomes ss)
AllAbove-set low id becomes [] lt above = AllAbove-perhaps low id becomes [] lt tt
AllAbove-set low id becomes (s ∷ ss) lt above = by_test (s.id == id) (nat_lt id s.id) (AllAbove-set low id becomes ss lt above.1)
  where
    by_test : (a b : Bool) → AllAbove low (set_at id becomes ss) → AllAbove low (if a then perhaps_before id becomes ss else (if b then perhaps_before id becomes (s ∷ ss) else s ∷ set_at id becomes ss))
    by_test true b rest = AllAbove-perhaps low id becomes ss lt above.1
    by_test false true rest = AllAbove-perhaps low id becomes (s ∷ ss) lt above
    by_test false false rest = (above.0, rest)

pub Ascend-set : (id : ℕ) (becomes : Option Record) (ss : List Stored) → Ascend ss → Ascend (set_at id becomes ss)
Ascend-set id becomes [] sorted = Ascend-perhaps id becomes [] tt tt
Ascend-set id becomes (s ∷ ss) sorted = by_test (cases_eq s.id id) (nat_lt id s.id) refl (Ascend-set id becomes ss sorted.1)
  where
    by_test : (s.id ≡ id) ⊎ (s.id ≢ id) → (b : Bool) → nat_lt id s.id ≡ b → Ascend (set_at id becomes ss) → Ascend (set_at id becomes (s ∷ ss))
    by_test (inl here) b e rest = rw (eq-eqb _ _ here) (Ascend-perhaps id becomes ss (rw here at sorted.0) sorted.1)
    by_test (inr away) true e rest = rw (ne_eqb _ _ away, e) (Ascend-perhaps id becomes (s ∷ ss) (ltb-true id s.id e, AllAbove-less id s.id ss (ltb-true id s.id e) sorted.0) sorted)
    by_test (inr away) false e rest = rw (ne_eqb _ _ away, e) (AllAbove-set s.id id becomes ss (not_less id s.id e (λ h. away (sym h))) sorted.0, rest)

pub record_at-set : (id : ℕ) (becomes : Option Record) (ss : List Stored) → Ascend ss → (other : ℕ) → record_at (set_at id becomes ss) other ≡ (if other == id then becomes else record_at ss other)
record_at-set id becomes [] sorted other = record_at-perhaps id becomes [] other (record_at-none id)
record_at-set id becomes (s ∷ ss) sorted other = by_test (cases_eq s.id id) (nat_lt id s.id) refl (record_at-set id becomes ss sorted.1 other)
  where
    goal : List Stored → Type 0
    goal new = record_at new other ≡ (if other == id then becomes else record_at (s ∷ ss) other)

    dropped : s.id ≡ id → (other ≡ id) ⊎ (other ≢ id) → (if other == id then becomes else record_at ss other) ≡ (if other == id then becomes else record_at (s ∷ ss) other)
    dropped here (inl same) = rw (eq-eqb _ _ same) refl
    dropped here (inr apart) = rw (ne_eqb _ _ apart) (sym (record_at-away s ss other (λ h. apart (sym h ∙ here))))

    behind : s.id ≢ id → (other ≡ id) ⊎ (other ≢ id) → (s.id ≡ other) ⊎ (s.id ≢ other) → record_at (set_at id becomes ss) other ≡ (if other == id then becomes else record_at ss other)
        → goal (s ∷ set_at id becomes ss)
    behind away (inl same) (inl found) rest = absurd (away (found ∙ same))
    behind away (inl same) (inr apart) rest = record_at-away s _ other apart ∙ rest ∙ rw (eq-eqb _ _ same) refl
    behind away (inr other_one) (inl found) rest = record_at-here s _ other found ∙ rw (ne_eqb _ _ other_one) (sym (record_at-here s ss other found))
    behind away (inr other_one) (inr apart) rest = record_at-away s _ other apart ∙ rest ∙ rw (ne_eqb _ _ other_one) (sym (record_at-away s ss other apart))

    by_test : (s.id ≡ id) ⊎ (s.id ≢ id) → (b : Bool) → nat_lt id s.id ≡ b → record_at (set_at id becomes ss) other ≡ (if other == id then becomes else record_at ss other)
        → goal (set_at id becomes (s ∷ ss))
    by_test (inl here) b e rest = rw (eq-eqb _ _ here) (record_at-perhaps id becomes ss other (record_at-below ss s.id id sorted.0 (sym here)) ∙ dropped here (cases_eq other id))
    by_test (inr away) true e rest =
        rw (ne_eqb _ _ away, e) (record_at-perhaps id becomes (s ∷ ss) other
        (record_at-below (s ∷ ss) id id (ltb-true id s.id e, AllAbove-less id s.id ss (ltb-true id s.id e) sorted.0) refl))
    by_test (inr away) false e rest = rw (ne_eqb _ _ away, e) (behind away (cases_eq other id) (cases_eq s.id other) rest)
