-- What a batch leaves as it is: the records of the ids that it does not have, and so each row.
use Rattle.std.proofs.Common.{◌≡◌, ◌≢◌, ℕ, ◌+◌, ◌<◌, ◌==◌, Bool, true, false, List, [], ◌∷◌, ◌++◌, map, Some, refl, sym, ap, ◌∙◌, arith}
use Rattle.std.proofs.lemmas.Bool.{eqb-false, or_parts, true≢false}
use Rattle.std.proofs.lemmas.Option.{same_Some}
use Rattle.std.specs.List.{list_any}
use Rattle.wm_spec.specs.Records.{record_at}
use Rattle.wm_spec.specs.declared.record.Record.{Record}
use Rattle.wm_spec.specs.declared.record.Record.TheVariants as records
use Rattle.wm_spec.specs.declared.record.batch.Change.{Change}
use Rattle.wm_spec.specs.declared.record.row.RowRecord.{RowRecord}
use Rattle.wm_spec.specs.declared.record.stored.Stored.{Stored}
use Rattle.wm_state.specs.Batches.{AllUnder, drop_one, is_dropped}
use Rattle.wm_state.specs.ById.{applied, set_at}
use Rattle.wm_state.specs.Writes.{put_all}
use Rattle.wm_state.proofs.ByKind.{under_found}
use Rattle.wm_state.proofs.Putting.{set_other}

-- ---- ids that a batch does not have

-- no change has the id
abbrev pub AwayFrom : ℕ → List Change → Type 0
AwayFrom id [] = Unit {0}
AwayFrom id (c ∷ cs) = (c.id ≢ id) × AwayFrom id cs

-- such an id has the record that it had
pub stays : (cs : List Change) (ss : List Stored) (id : ℕ) → AwayFrom id cs → record_at (applied cs ss) id ≡ record_at ss id
stays [] ss id away = refl
stays (c ∷ cs) ss id away = stays cs (set_at c.id c.becomes ss) id away.1 ∙ set_other c.id c.becomes ss id away.0

-- an id that is none of those of the changes
pub away_outside : (cs : List Change) (id : ℕ) → list_any (λ k. k == id) (map (λ (c : Change). c.id) cs) ≡ false → AwayFrom id cs
away_outside [] id e = tt
away_outside (c ∷ cs) id e = let h = or_parts (c.id == id) (list_any (λ k. k == id) (map (λ (c : Change). c.id) cs)) e in (eqb-false c.id id h.0, away_outside cs id h.1)

-- changes behind others
pub away_append : (id : ℕ) (cs ds : List Change) → AwayFrom id cs → AwayFrom id ds → AwayFrom id (cs ++ ds)
away_append id [] ds one two = two
away_append id (c ∷ cs) ds one two = (one.0, away_append id cs ds one.1 two)

-- an id that is not dropped
pub away_dropped : (id : ℕ) (ids : List ℕ) → is_dropped ids id ≡ false → AwayFrom id (map drop_one ids)
away_dropped id [] e = tt
away_dropped id (k ∷ ks) e = let h = or_parts (k == id) (is_dropped ks id) e in (eqb-false k id h.0, away_dropped id ks h.1)

-- an id below is another
pub below_apart : (id from : ℕ) → id < from → from ≢ id
below_apart id from lt same = omega (arith, lt, same)

-- an id below new ones
pub away_put : (id from : ℕ) (rs : List Record) → id < from → AwayFrom id (put_all from rs)
away_put id from [] lt = tt
away_put id from (r ∷ rs) lt = (below_apart id from lt, away_put id (from + 1) rs (below_next id from lt))
  where
    below_next : (m n : ℕ) → m < n → m < n + 1
    below_next m n lt = omega (arith, lt)

-- ---- rows

-- no change has the id of a row
abbrev pub LeavesRows : List Stored → List Change → Type 0
LeavesRows rs cs = (id : ℕ) (r : RowRecord) → record_at rs id ≡ Some (records.Row r) → AwayFrom id cs

-- so each row stays under its id
pub rows_stay : (rs : List Stored) (cs : List Change) → LeavesRows rs cs → (id : ℕ) (r : RowRecord) → record_at rs id ≡ Some (records.Row r) → record_at (applied cs rs) id ≡ Some (records.Row r)
rows_stay rs cs leaves id r found = stays cs rs id (leaves id r found) ∙ found

abbrev pub is_row : Record → Bool
is_row (records.Row r) = true
is_row r = false

-- the id of another record is none of a row
pub row_apart : (rs : List Stored) (k id : ℕ) (q : Record) (r : RowRecord) → record_at rs k ≡ Some q → is_row q ≡ false → record_at rs id ≡ Some (records.Row r) → k ≢ id
row_apart rs k id q r there other found same = true≢false (sym (ap is_row (same_Some q (records.Row r) (sym there ∙ ap (record_at rs) same ∙ found))) ∙ other)

-- nor is a new one
pub new_apart : (rs : List Stored) (next id : ℕ) (r : RowRecord) → AllUnder next rs → record_at rs id ≡ Some (records.Row r) → next ≢ id
new_apart rs next id r under found = below_apart id next (under_found next rs id (records.Row r) under found)
