-- Locks are made, and go: the batches, and the records that are kept.
use Rattle.std.specs.Prelude.{ℕ, Bool, true, List, ◌∷◌, map}
use Rattle.wm_spec.specs.declared.record.Record.{Record}
use Rattle.wm_spec.specs.declared.record.Record.TheVariants as records
use Rattle.wm_spec.specs.declared.record.batch.Change.{Change}
use Rattle.wm_spec.specs.declared.record.counters.Counters.{Counters}
use Rattle.wm_spec.specs.declared.record.lock.Lock.{Lock}
use Rattle.wm_state.specs.Batches.{drop_one, put}
use Rattle.wm_state.specs.Writes.{put_all}

-- a record is kept but for the locks that a test lets go
abbrev pub keeps_locks : (Lock → Bool) → Record → Bool
keeps_locks test (records.Lock x) = test x
keeps_locks test r = true

-- locks come behind all other records
abbrev pub lock_batch : ℕ → Counters → ℕ → List Lock → List Change
lock_batch counters_id counters id xs = put counters_id (records.Counters counters) ∷ put_all id (map records.Lock xs)

-- the records of locks go
abbrev pub unlock_batch : ℕ → Counters → List ℕ → List Change
unlock_batch counters_id counters ids = put counters_id (records.Counters counters) ∷ map drop_one ids
