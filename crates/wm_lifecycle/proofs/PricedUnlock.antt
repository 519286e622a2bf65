-- How many records change where locks go: one for each making, beside the counters.
use Rattle.std.proofs.Common.{◌≡◌, ℕ, ◌==◌, Bool, true, false, not, List, [], ◌∷◌, ◌++◌, map, Option, Some, None, is_some, refl, sym, subst, ◌∙◌}
use Rattle.std.proofs.lemmas.Bool.{and_from, eq-eqb, or_left, or_right, true≢false}
use Rattle.std.specs.List.{list_all, list_any}
use Rattle.wm_changes.proofs.DroppingAll.{there-with}
use Rattle.wm_graph.specs.Parts.{parts_of}
use Rattle.wm_graph.specs.Rules.{keep_rules}
use Rattle.wm_index.specs.Sought.{LockAt, ids_with, is_sought}
use Rattle.wm_lifecycle.proofs.Unlocked.{any_told, goes_locked}
use Rattle.wm_locked.specs.Locking.{keeps_locks}
use Rattle.wm_prices.proofs.Unlocked.{AreMadeAs, unlock_beside}
use Rattle.wm_prices.specs.Prices.{Costs}
use Rattle.wm_spec.specs.Records.{ids_differ, record_at}
use Rattle.wm_spec.specs.declared.record.Record.{Record}
use Rattle.wm_spec.specs.declared.record.Record.TheVariants as records
use Rattle.wm_spec.specs.declared.record.batch.Change.{Change}
use Rattle.wm_spec.specs.declared.record.counters.Counters.{Counters}
use Rattle.wm_spec.specs.declared.record.stored.Stored.{Stored}
use Rattle.wm_state.specs.Batches.{AreDropped, drop_one, is_dropped, put}
use Rattle.wm_state.specs.ById.{Ascend, applied}
use Rattle.wm_state.specs.Editing.{stays_locked}
use Rattle.wm_state.specs.declared.edit.Edit.TheVariants as edits

-- an id without a record is that of no lock
none_told : (rs : List Stored) (id : ℕ) → record_at rs id ≡ None → (makings : List ℕ) → list_any (λ making. is_dropped (ids_with (is_sought (LockAt making)) rs) id) makings ≡ false
none_told rs id none [] = refl
none_told rs id none (k ∷ ks) = rw (there-with (is_sought (LockAt k)) rs id none) (none_told rs id none ks)

-- so those that are told to be of locks have records
each_there : (rs : List Stored) (ids : List ℕ) → ((id : ℕ) → is_dropped ids id ≡ true → is_some (record_at rs id) ≡ true) → list_all (λ id. is_some (record_at rs id)) ids ≡ true
each_there rs [] there = refl
each_there rs (d ∷ ds) there =
    and_from (is_some (record_at rs d)) (list_all (λ id. is_some (record_at rs id)) ds) (there d (or_left (d == d) (is_dropped ds d) (eq-eqb d d refl)))
    (each_there rs ds (λ id told. there id (or_right (d == id) (is_dropped ds id) told)))

-- what is let go is made as one of the makings
made_so : (makings : List ℕ) → AreMadeAs makings (keeps_locks (stays_locked makings))
made_so makings (records.Lock x) goes = sym (not_not (list_any (λ making. making == x.making) makings)) ∙ goes
  where
    not_not : (b : Bool) → not (not b) ≡ b
    not_not true = refl
    not_not false = refl
made_so makings _ goes = absurd (true≢false (sym goes))

pub unlock_costs : (rs : List Stored) (makings : List ℕ) (c counted : Counters) (counters_id : ℕ) (dropped slice : List ℕ) (none one changes : List Change) (first : Change) → keep_rules (parts_of rs) ≡ true → Ascend rs
    → record_at rs counters_id ≡ Some (records.Counters c) → ((id : ℕ) → is_dropped dropped id ≡ list_any (λ making. is_dropped (ids_with (is_sought (LockAt making)) rs) id) makings) → ids_differ dropped ≡ true → slice ≡ dropped
    → none ≡ [] → first ≡ put counters_id (records.Counters counted) → one ≡ none ++ first ∷ [] → changes ≡ one ++ map drop_one slice → Costs rs (edits.Unlock makings) (applied changes rs)
unlock_costs rs makings c counted counters_id dropped slice none one changes first rules sorted counters told differ same empty put_first pushed is =
    subst (λ (cs : List Change). Costs rs (edits.Unlock makings) (applied cs rs)) (sym batch)
    (unlock_beside rs counters_id c counted makings dropped (keeps_locks (stays_locked makings)) counters rules (made_so makings) go differ (each_there rs dropped there))
  where
    go : AreDropped (keeps_locks (stays_locked makings)) dropped rs
    go id r found = told id ∙ any_told rs sorted id r found makings ∙ goes_locked makings r

    there : (id : ℕ) → is_dropped dropped id ≡ true → is_some (record_at rs id) ≡ true
    there id goes = by_record (record_at rs id) refl
      where
        by_record : (o : Option Record) → record_at rs id ≡ o → is_some o ≡ true
        by_record None is_none = absurd (true≢false (sym goes ∙ told id ∙ none_told rs id is_none makings))
        by_record (Some r) found = refl

    batch : changes ≡ put counters_id (records.Counters counted) ∷ map drop_one dropped
    batch = rw (is, pushed, empty, put_first, same) refl
