-- The records of a store as a finite map from ids.
use Rattle.std.specs.Prelude.{◌≡◌, ℕ, Bool, true, false, ◌==◌, if◌then◌else◌, List, [], ◌∷◌, map, Option, Some, None}
use Rattle.std.specs.List.{list_any}
use Rattle.wm_spec.specs.declared.record.Record.{Record}
use Rattle.wm_spec.specs.declared.record.stored.Stored.{Stored}
use Rattle.wm_spec.specs.declared.record.batch.Change.{Change}

-- the record of an id
unfoldable pub record_at : List Stored → ℕ → Option Record
record_at [] id = None
record_at (s ∷ stored) id = if s.id == id then Some s.record else record_at stored id

-- what a batch says of an id: nothing, or what becomes of it
unfoldable pub change_at : List Change → ℕ → Option (Option Record)
change_at [] id = None
change_at (c ∷ changes) id = if c.id == id then Some c.becomes else change_at changes id

-- no id stands twice
unfoldable pub ids_differ : List ℕ → Bool
ids_differ [] = true
ids_differ (id ∷ ids) = if list_any (λ other. other == id) ids then false else ids_differ ids

abbrev pub AreRecords : List Stored → Type 0
AreRecords stored = ids_differ (map (λ (s : Stored). s.id) stored) ≡ true

abbrev pub AreChanges : List Change → Type 0
AreChanges changes = ids_differ (map (λ (c : Change). c.id) changes) ≡ true

-- the records of new are those of old with the batch over them
abbrev pub AfterBatch : List Stored → List Change → List Stored → Type 0
AfterBatch old changes new = (id : ℕ) → record_at new id ≡ over (change_at changes id) (record_at old id)
  where
    over : Option (Option Record) → Option Record → Option Record
    over None kept = kept
    over (Some becomes) kept = becomes
