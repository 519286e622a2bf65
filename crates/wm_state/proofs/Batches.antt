-- What a store holds after a batch, in the order of the ids, is what the batch makes of what it held.
use Rattle.std.proofs.Common.{◌≡◌, ◌≢◌, ℕ, ◌==◌, if◌then◌else◌, false, List, [], ◌∷◌, map, Option, Some, None, refl, sym, ap, ◌∙◌, ◌⊎◌, inl, inr}
use Rattle.std.proofs.lemmas.Bool.{cases_eq, eq-eqb, ne_eqb, eqb-false, or_parts}
use Rattle.std.specs.List.{list_any}
use Rattle.wm_base.proofs.Plain.{unless_parts}
use Rattle.wm_spec.specs.Records.{record_at, change_at, ids_differ, AreRecords, AreChanges}
use Rattle.wm_spec.specs.declared.record.Record.{Record}
use Rattle.wm_spec.specs.declared.record.stored.Stored.{Stored}
use Rattle.wm_spec.specs.declared.record.batch.Change.{Change}
use Rattle.wm_state.specs.ById.{by_id, Ascend, set_at, applied}
use Rattle.wm_state.proofs.ById.{one_order, record_at-by_id, Ascend-by_id, record_at-set, Ascend-set}

-- what a batch says of an id, over what was there
abbrev pub over_it : Option (Option Record) → Option Record → Option Record
over_it None kept = kept
over_it (Some becomes) kept = becomes

change_at-here : (c : Change) (cs : List Change) (id : ℕ) → c.id ≡ id → change_at (c ∷ cs) id ≡ Some c.becomes
unfolding change_at
change_at-here c cs id e = rw (eq-eqb _ _ e) refl

change_at-away : (c : Change) (cs : List Change) (id : ℕ) → c.id ≢ id → change_at (c ∷ cs) id ≡ change_at cs id
unfolding change_at
change_at-away c cs id e = rw (ne_eqb _ _ e) refl

change_at-none : (id : ℕ) → change_at [] id ≡ None
unfolding change_at
change_at-none id = refl

unchanged : (id : ℕ) (cs : List Change) → list_any (λ other. other == id) (map (λ (c : Change). c.id) cs) ≡ false → change_at cs id ≡ None
unchanged id [] e = change_at-none id
unchanged id (c ∷ cs) e =
    let both = or_parts (c.id == id) (list_any (λ other. other == id) (map (λ (c : Change). c.id) cs)) e in
    change_at-away c cs id (eqb-false c.id id both.0) ∙ unchanged id cs both.1

differ-first : (c : Change) (cs : List Change) → AreChanges (c ∷ cs) → (change_at cs c.id ≡ None) × AreChanges cs
unfolding ids_differ
differ-first c cs e =
    let both = unless_parts (list_any (λ other. other == c.id) (map (λ (c : Change). c.id) cs)) (ids_differ (map (λ (c : Change). c.id) cs)) e in
    (unchanged c.id cs both.0, both.1)

pub Ascend-applied : (cs : List Change) (ss : List Stored) → Ascend ss → Ascend (applied cs ss)
Ascend-applied [] ss sorted = sorted
Ascend-applied (c ∷ cs) ss sorted = Ascend-applied cs (set_at c.id c.becomes ss) (Ascend-set c.id c.becomes ss sorted)

pub record_at-applied : (cs : List Change) (ss : List Stored) → AreChanges cs → Ascend ss → (id : ℕ) → record_at (applied cs ss) id ≡ over_it (change_at cs id) (record_at ss id)
record_at-applied [] ss are sorted id = ap (λ o. over_it o (record_at ss id)) (sym (change_at-none id))
record_at-applied (c ∷ cs) ss are sorted id =
    let first = differ-first c cs are in
    record_at-applied cs (set_at c.id c.becomes ss) first.1 (Ascend-set c.id c.becomes ss sorted) id
    ∙ ap (over_it (change_at cs id)) (record_at-set c.id c.becomes ss sorted id)
    ∙ by_number (cases_eq id c.id) first.0
  where
    by_number : (id ≡ c.id) ⊎ (id ≢ c.id) → change_at cs c.id ≡ None
        → over_it (change_at cs id) (if id == c.id then c.becomes else record_at ss id) ≡ over_it (change_at (c ∷ cs) id) (record_at ss id)
    by_number (inl here) once = rw (eq-eqb _ _ here, ap (change_at cs) here ∙ once, change_at-here c cs id (sym here)) refl
    by_number (inr away) once = rw (ne_eqb _ _ away, change_at-away c cs id (λ h. away (sym h))) refl

-- the records that a store holds after a batch
pub after_batch : (old new : List Stored) (cs : List Change) → AreRecords old → AreRecords new → AreChanges cs
    → ((id : ℕ) → record_at new id ≡ over_it (change_at cs id) (record_at old id)) → by_id new ≡ applied cs (by_id old)
after_batch old new cs are_old are_new are after =
    one_order (by_id new) (applied cs (by_id old)) (Ascend-by_id new are_new) (Ascend-applied cs (by_id old) (Ascend-by_id old are_old))
    (λ id. record_at-by_id new are_new id ∙ after id ∙ ap (over_it (change_at cs id)) (sym (record_at-by_id old are_old id))
    ∙ sym (record_at-applied cs (by_id old) are (Ascend-by_id old are_old) id))
