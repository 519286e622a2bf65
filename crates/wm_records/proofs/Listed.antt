-- Records of a map, as a list by id, changed at one id and by batches.
use Rattle.std.proofs.Common.{◌≡◌, ℕ, ◌==◌, cond, List, [], ◌∷◌, ◌++◌, Option, refl, sym, ap, ◌∙◌}
use Rattle.std.proofs.lemmas.Map.Keys.{sorted_head, sorted_tail}
use Rattle.std.specs.BTreeMap.{is_at}
use Rattle.std.specs.List.{AllByRecursion}
use Rattle.std.specs.List.Sorted.{IsStrictlySortedBy}
use Rattle.std.specs.Map.{lookup, keys_of}
use Rattle.std.specs.Ordering.{nat_cmp}
use Rattle.std.specs.declared.cmp.Ordering.TheVariants.{Less}
use Rattle.wm_spec.specs.declared.record.Record.{Record}
use Rattle.wm_spec.specs.declared.record.batch.Change.{Change}
use Rattle.wm_spec.specs.declared.record.stored.Stored.{Stored}
use Rattle.wm_state.specs.ById.{AllAbove, Ascend, set_at, applied}
use Rattle.wm_state.proofs.ById.{one_order, Ascend-set, record_at-set}
use Rattle.wm_ids.proofs.IdLists.{less_than}
use Rattle.wm_ids.proofs.TableLists.{is_at-number}
use Rattle.wm_index.proofs.Listed.{record_at-listed, same_test}
use Rattle.wm_index.specs.Indexed.{listed}

AllAbove-listed : (id : ℕ) (es : List (ℕ × Record)) → AllByRecursion (λ k. nat_cmp id k ≡ Less) (keys_of es) → AllAbove id (listed es)
AllAbove-listed id [] above = tt
AllAbove-listed id (e ∷ es) above = (less_than id e.0 above.0, AllAbove-listed id es above.1)

pub Ascend-listed : (es : List (ℕ × Record)) → IsStrictlySortedBy nat_cmp (keys_of es) → Ascend (listed es)
Ascend-listed [] sorted = tt
Ascend-listed (e ∷ es) sorted =
    (AllAbove-listed e.0 es (sorted_head nat_cmp e.0 (keys_of es) sorted), Ascend-listed es (sorted_tail nat_cmp e.0 (keys_of es) sorted))

-- a map that was changed at one id
pub listed-set : (old new : List (ℕ × Record)) (id : ℕ) (becomes : Option Record)
    → IsStrictlySortedBy nat_cmp (keys_of old) → IsStrictlySortedBy nat_cmp (keys_of new)
    → ((q : ℕ) → lookup (is_at (nat_cmp q)) new ≡ cond (is_at (nat_cmp id) q) becomes (lookup (is_at (nat_cmp q)) old))
    → listed new ≡ set_at id becomes (listed old)
listed-set old new id becomes sorted_old sorted_new updates =
    one_order (listed new) (set_at id becomes (listed old)) (Ascend-listed new sorted_new) (Ascend-set id becomes (listed old) (Ascend-listed old sorted_old))
    (λ q.
    record_at-listed new q ∙ updates q
    ∙ ap (λ b. cond b becomes (lookup (is_at (nat_cmp q)) old)) (is_at-number id q ∙ same_test id q)
    ∙ ap (λ o. cond (q == id) becomes o) (sym (record_at-listed old q))
    ∙ sym (record_at-set id becomes (listed old) (Ascend-listed old sorted_old) q))

-- one change more
pub applied-push : (cs : List Change) (c : Change) (ss : List Stored) → applied (cs ++ c ∷ []) ss ≡ set_at c.id c.becomes (applied cs ss)
applied-push [] c ss = refl
applied-push (d ∷ ds) c ss = applied-push ds c (set_at d.id d.becomes ss)
