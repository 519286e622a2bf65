-- Records that are collected by their kind, one by one.
use Rattle.std.proofs.Common.{◌≡◌, ℕ, ◌+◌, ◌<◌, ◌≤◌, List, [], ◌∷◌, ◌++◌, length, map, sym, ap, ◌∙◌, take, get_or}
use Rattle.std.proofs.lemmas.List.{take_more, map-append, append-nil, take_all}
use Rattle.wm_cells.specs.Lookups.{added}
use Rattle.wm_graph.proofs.Joined.{joined, parts-append}
use Rattle.wm_graph.specs.Parts.{Parts, parts_in, parts_of}
use Rattle.wm_spec.specs.declared.record.Record.{Record}
use Rattle.wm_spec.specs.declared.record.Record.TheVariants as records
use Rattle.wm_spec.specs.declared.record.stored.Stored.{Stored}

-- one more record, kind by kind
parts_last : (xs : List Record) (x : Record) → parts_in (xs ++ x ∷ []) ≡ added (parts_in xs) x
unfolding joined
parts_last xs x = parts-append xs (x ∷ []) ∙ of x
  where
    of : (y : Record) → joined (parts_in xs) (parts_in (y ∷ [])) ≡ added (parts_in xs) y
    of (records.Counters r) = simp append-nil
    of (records.Table r) = simp append-nil
    of (records.Space r) = simp append-nil
    of (records.Version r) = simp append-nil
    of (records.Savepoint r) = simp append-nil
    of (records.Row r) = simp append-nil
    of (records.Piece r) = simp append-nil
    of (records.Touch r) = simp append-nil
    of (records.Lock r) = simp append-nil
    of (records.Hist r) = simp append-nil
    of (records.Mark r) = simp append-nil
    of (records.Turn r) = simp append-nil

-- a turn of the loop over the records
pub collected_more : (stored : List Stored) (i : ℕ) (x : Stored) (old new : Parts) → i < length stored → x ≡ get_or stored i x → old ≡ parts_in (map (λ (s : Stored). s.record) (take i stored)) → new ≡ added old x.record → new ≡ parts_in (map (λ (s : Stored). s.record) (take (i + 1) stored))
collected_more stored i x old new within at was becomes =
    becomes
    ∙ ap (λ p. added p x.record) was
    ∙ sym (parts_last (map (λ (s : Stored). s.record) (take i stored)) x.record)
    ∙ ap parts_in (sym (map-append (λ (s : Stored). s.record) (take i stored) (x ∷ [])) ∙ ap (map (λ (s : Stored). s.record)) (ap (λ (s : Stored). take i stored ++ s ∷ []) at ∙ sym (take_more stored i x within)))

-- the end of that loop
pub collected_all : (stored : List Stored) (i : ℕ) (all : Parts) → length stored ≤ i → all ≡ parts_in (map (λ (s : Stored). s.record) (take i stored)) → all ≡ parts_of stored
unfolding parts_of
collected_all stored i all end was = rw (take_all i stored end) at was
