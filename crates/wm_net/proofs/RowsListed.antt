-- Stretches whose values are numbers, with equality for the test, are those of the rows of a list.
use Rattle.std.proofs.Common.{◌≡◌, ℕ, ◌==◌, ◌&&◌, Bool, true, false, if◌then◌else◌, List, [], ◌∷◌, map, Option, None, Some, refl, sym, ap, ◌∙◌}
use Rattle.wm_base.specs.declared.value.Value.{Value}
use Rattle.wm_spec.specs.Lists.{Entry, stamp_at}
use Rattle.wm_spec.specs.Stretches as rows
use Rattle.wm_net.specs.Listed.{Stretch, joined, onto, stretches, with_stamp, same_number}

joined-rows : (from till stamp : ℕ) (ss : List (Stretch ℕ)) → map with_stamp (joined same_number from till stamp ss) ≡ rows.joined from till stamp (map with_stamp ss)
joined-rows from till stamp [] = refl
joined-rows from till stamp (s ∷ ss) = by_test ((till == s.from) && (stamp == s.value))
  where
    by_test : (b : Bool) → map with_stamp (if b then record { from = from; till = s.till; value = stamp } ∷ ss else record { from = from; till = till; value = stamp } ∷ s ∷ ss)
        ≡ (if b then record { from = from; till = s.till; stamp = stamp } ∷ map with_stamp ss else record { from = from; till = till; stamp = stamp } ∷ with_stamp s ∷ map with_stamp ss)
    by_test true = refl
    by_test false = refl

onto-rows : (from till : ℕ) (o : Option ℕ) (ss : List (Stretch ℕ)) → map with_stamp (onto same_number from till o ss) ≡ rows.onto from till o (map with_stamp ss)
onto-rows from till None ss = refl
onto-rows from till (Some stamp) ss = joined-rows from till stamp ss

pub stretches-rows : (f : ℕ → Option ℕ) (low : ℕ) (cs : List ℕ) → map with_stamp (stretches same_number f low cs) ≡ rows.stretches f low cs
stretches-rows f low [] = refl
stretches-rows f low (a ∷ cs) = onto-rows low a (f low) (stretches same_number f a cs) ∙ ap (λ (ss : List rows.Stretch). rows.onto low a (f low) ss) (stretches-rows f a cs)

-- the rows of a key, as stretches whose values are stamps
pub rows_of_key-stretches : (es : List Entry) (table : ℕ) (key : List Value)
    → rows.rows_of_key es table key ≡ map with_stamp (stretches same_number (stamp_at es table key) 0 (rows.cuts es table key))
rows_of_key-stretches es table key = sym (stretches-rows (stamp_at es table key) 0 (rows.cuts es table key))
