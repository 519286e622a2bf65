-- Records that a batch drops, by a test of those that stay.
use Rattle.std.proofs.Common.{◌≡◌, ◌≢◌, ℕ, ◌==◌, ◌||◌, Bool, true, false, not, cond, if◌then◌else◌, List, [], ◌∷◌, map, Option, Some, None, refl, sym, ap, ◌∙◌, ◌⊎◌, inl, inr}
use Rattle.std.proofs.lemmas.Bool.{cases_eq, eq-eqb, ne_eqb}
use Rattle.std.proofs.lemmas.Option.{same_Some}
use Rattle.std.specs.List.{filter}
use Rattle.wm_spec.specs.Records.{record_at}
use Rattle.wm_spec.specs.declared.record.Record.{Record}
use Rattle.wm_spec.specs.declared.record.stored.Stored.{Stored}
use Rattle.wm_state.specs.ById.{AllAbove, Ascend, set_at, applied}
use Rattle.wm_state.specs.Batches.{drop_one, is_dropped, AreDropped}
use Rattle.wm_state.proofs.ById.{one_order, record_at-set, Ascend-set, record_at-here, record_at-away, record_at-none, record_at-below}
use Rattle.wm_state.proofs.Batches.{Ascend-applied}

record_at-dropped : (ids : List ℕ) (ss : List Stored) → Ascend ss → (id : ℕ) → record_at (applied (map drop_one ids) ss) id ≡ cond (is_dropped ids id) None (record_at ss id)
record_at-dropped [] ss sorted id = refl
record_at-dropped (d ∷ ds) ss sorted id =
    record_at-dropped ds (set_at d None ss) (Ascend-set d None ss sorted) id
    ∙ ap (λ o. cond (is_dropped ds id) None o) (record_at-set d None ss sorted id)
    ∙ by_id (cases_eq id d) (is_dropped ds id)
  where
    nothing : Option Record
    nothing = None

    by_id : (id ≡ d) ⊎ (id ≢ d) → (b : Bool) → cond b nothing (if id == d then nothing else record_at ss id) ≡ cond ((d == id) || b) nothing (record_at ss id)
    by_id (inl here) true = rw (eq-eqb d id (sym here)) refl
    by_id (inl here) false = rw (eq-eqb id d here, eq-eqb d id (sym here)) refl
    by_id (inr other) true = rw (ne_eqb d id (λ e. other (sym e))) refl
    by_id (inr other) false = rw (ne_eqb id d other, ne_eqb d id (λ e. other (sym e))) refl

-- ---- records that a test keeps

AllAbove-filter : (low : ℕ) (keep : Stored → Bool) (ss : List Stored) → AllAbove low ss → AllAbove low (filter keep ss)
AllAbove-filter low keep [] above = tt
AllAbove-filter low keep (s ∷ ss) above = by_test (keep s) (AllAbove-filter low keep ss above.1)
  where
    by_test : (b : Bool) → AllAbove low (filter keep ss) → AllAbove low (cond b (s ∷ filter keep ss) (filter keep ss))
    by_test true rest = (above.0, rest)
    by_test false rest = rest

Ascend-filter : (keep : Stored → Bool) (ss : List Stored) → Ascend ss → Ascend (filter keep ss)
Ascend-filter keep [] sorted = tt
Ascend-filter keep (s ∷ ss) sorted = by_test (keep s) (Ascend-filter keep ss sorted.1)
  where
    by_test : (b : Bool) → Ascend (filter keep ss) → Ascend (cond b (s ∷ filter keep ss) (filter keep ss))
    by_test true rest = (AllAbove-filter s.id keep ss sorted.0, rest)
    by_test false rest = rest

-- a record where a test keeps it
abbrev pub kept : (Record → Bool) → Option Record → Option Record
kept keep None = None
kept keep (Some r) = cond (keep r) (Some r) None

record_at-filter : (keep : Record → Bool) (ss : List Stored) → Ascend ss → (id : ℕ) → record_at (filter (λ (s : Stored). keep s.record) ss) id ≡ kept keep (record_at ss id)
record_at-filter keep [] sorted id = record_at-none id ∙ sym (ap (kept keep) (record_at-none id))
record_at-filter keep (s ∷ ss) sorted id = by_test (keep s.record) refl (cases_eq s.id id) (record_at-filter keep ss sorted.1 id)
  where
    tail : List Stored
    tail = filter (λ (s : Stored). keep s.record) ss

    by_test : (b : Bool) → keep s.record ≡ b → (s.id ≡ id) ⊎ (s.id ≢ id) → record_at tail id ≡ kept keep (record_at ss id) → record_at (cond b (s ∷ tail) tail) id ≡ kept keep (record_at (s ∷ ss) id)
    by_test true e (inl here) rest = record_at-here s tail id here ∙ sym (ap (λ b. cond b (Some s.record) None) e) ∙ sym (ap (kept keep) (record_at-here s ss id here))
    by_test true e (inr away) rest = record_at-away s tail id away ∙ rest ∙ sym (ap (kept keep) (record_at-away s ss id away))
    by_test false e (inl here) rest =
        rest ∙ ap (kept keep) (record_at-below ss s.id id sorted.0 (sym here)) ∙ sym (ap (λ b. cond b (Some s.record) None) e) ∙ sym (ap (kept keep) (record_at-here s ss id here))
    by_test false e (inr away) rest = rest ∙ sym (ap (kept keep) (record_at-away s ss id away))

pub dropped : (keep : Record → Bool) (ids : List ℕ) (ss : List Stored) → Ascend ss → AreDropped keep ids ss → applied (map drop_one ids) ss ≡ filter (λ (s : Stored). keep s.record) ss
dropped keep ids ss sorted are =
    one_order (applied (map drop_one ids) ss) (filter (λ (s : Stored). keep s.record) ss) (Ascend-applied (map drop_one ids) ss sorted) (Ascend-filter (λ (s : Stored). keep s.record) ss sorted)
    (λ id. record_at-dropped ids ss sorted id ∙ by_record id (record_at ss id) refl ∙ sym (record_at-filter keep ss sorted id))
  where
    by_record : (id : ℕ) (o : Option Record) → record_at ss id ≡ o → cond (is_dropped ids id) None (record_at ss id) ≡ kept keep (record_at ss id)
    by_record id None e = rw e (nothing_both (is_dropped ids id))
      where
        nothing_both : (b : Bool) → cond b (let n : Option Record = None in n) None ≡ None
        nothing_both true = refl
        nothing_both false = refl
    by_record id (Some r) e = rw (e, are id r e) (by_test (keep r))
      where
        by_test : (b : Bool) → cond (not b) None (Some r) ≡ cond b (Some r) None
        by_test true = refl
        by_test false = refl

-- what is dropped is dropped still once another record came, which stays, under an id that is not dropped
pub dropped-set : (keep : Record → Bool) (ids : List ℕ) (ss : List Stored) (id : ℕ) (q : Record) → Ascend ss → keep q ≡ true → is_dropped ids id ≡ false → AreDropped keep ids ss → AreDropped keep ids (set_at id (Some q) ss)
dropped-set keep ids ss id q sorted stays free are other x there = by_id (cases_eq other id) (sym (record_at-set id (Some q) ss sorted other) ∙ there)
  where
    by_id : (other ≡ id) ⊎ (other ≢ id) → (if other == id then Some q else record_at ss other) ≡ Some x → is_dropped ids other ≡ not (keep x)
    by_id (inl same) e =
        let is : q ≡ x = same_Some q x (sym (ap (λ b. if b then Some q else record_at ss other) (eq-eqb _ _ same)) ∙ e) in
        ap (is_dropped ids) same ∙ free ∙ ap not (sym stays ∙ ap keep is)
    by_id (inr apart) e = are other x (sym (ap (λ b. if b then Some q else record_at ss other) (ne_eqb _ _ apart)) ∙ e)
