-- The ids that an index has ascend.
use Rattle.std.proofs.Common.{◌≡◌, ℕ, Bool, true, false, cond, List, [], ◌∷◌, None, sym, ap, ◌∙◌, subst}
use Rattle.std.specs.List.{AllByRecursion}
use Rattle.std.specs.List.Sorted.{IsStrictlySortedBy}
use Rattle.std.specs.Ordering.{nat_cmp}
use Rattle.std.specs.declared.cmp.Ordering.TheVariants.{Less}
use Rattle.wm_chunks.specs.Numbers.{Numbers}
use Rattle.wm_spec.specs.Records.{record_at}
use Rattle.wm_spec.specs.declared.record.Record.{Record}
use Rattle.wm_spec.specs.declared.record.stored.Stored.{Stored}
use Rattle.wm_state.specs.ById.{AllAbove, Ascend, set_at}
use Rattle.wm_state.proofs.ById.{Ascend-set}
use Rattle.wm_ids.proofs.IdLists.{less_is}
use Rattle.wm_records.proofs.Listed.{Ascend-listed}
use Rattle.wm_records.proofs.Lists.{ids_with-set}
use Rattle.wm_index.specs.Indexed.{IdsAscend, IsIndexed, ids_at, listed}
use Rattle.wm_index.specs.Sought.{Sought, is_sought, ids_less, ids_with}
use Rattle.wm_index.specs.declared.index.Index.{Index}

above-with : (p : Record → Bool) (id : ℕ) (ss : List Stored) → AllAbove id ss → AllByRecursion (λ k. nat_cmp id k ≡ Less) (ids_with p ss)
above-with p id [] above = tt
above-with p id (s ∷ ss) above = by_test (p s.record) (above-with p id ss above.1)
  where
    by_test : (b : Bool) → AllByRecursion (λ k. nat_cmp id k ≡ Less) (ids_with p ss) → AllByRecursion (λ k. nat_cmp id k ≡ Less) (cond b (s.id ∷ ids_with p ss) (ids_with p ss))
    by_test true rest = (less_is id s.id above.0, rest)
    by_test false rest = rest

-- the ids of those that pass a test, among records by id
pub ascending-with : (p : Record → Bool) (ss : List Stored) → Ascend ss → IsStrictlySortedBy nat_cmp (ids_with p ss)
unfolding IsStrictlySortedBy
ascending-with p [] sorted = tt
ascending-with p (s ∷ ss) sorted = by_test (p s.record) (above-with p s.id ss sorted.0) (ascending-with p ss sorted.1)
  where
    by_test : (b : Bool) → AllByRecursion (λ k. nat_cmp s.id k ≡ Less) (ids_with p ss) → IsStrictlySortedBy nat_cmp (ids_with p ss) → IsStrictlySortedBy nat_cmp (cond b (s.id ∷ ids_with p ss) (ids_with p ss))
    by_test true above rest = (above, rest)
    by_test false above rest = rest

pub ids_ascend : (kept : Numbers Record) (x : Index) → IsIndexed kept x → IdsAscend x
ids_ascend kept x is q = subst (IsStrictlySortedBy nat_cmp) (sym (is.told q)) (ascending-with (is_sought q) (listed kept.entries) (Ascend-listed kept.entries is.ordered))

-- so they do when the record of an id went
pub ids_ascend_less : (kept : Numbers Record) (x new : Index) (id : ℕ) → IsIndexed kept x → ((q : Sought) → ids_at new q ≡ ids_less (is_sought q) id (record_at (listed kept.entries) id) (ids_at x q)) → IdsAscend new
ids_ascend_less kept x new id is less q =
    subst (IsStrictlySortedBy nat_cmp)
    (ids_with-set (is_sought q) id None (listed kept.entries) sorted
    ∙ ap (ids_less (is_sought q) id (record_at (listed kept.entries) id)) (sym (is.told q))
    ∙ sym (less q))
    (ascending-with (is_sought q) (set_at id None (listed kept.entries)) (Ascend-set id None (listed kept.entries) sorted))
  where
    sorted : Ascend (listed kept.entries)
    sorted = Ascend-listed kept.entries is.ordered
