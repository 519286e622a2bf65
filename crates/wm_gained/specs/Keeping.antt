-- What is newest in a workspace is kept in an implicit savepoint alone, before it changes: what becomes of the records.
use Rattle.std.specs.Prelude.{ℕ, ◌+◌, List}
use Rattle.wm_graph.specs.Parts.{Parts}
use Rattle.wm_spec.specs.declared.record.batch.Change.{Change}
use Rattle.wm_spec.specs.declared.record.counters.Counters.{Counters}
use Rattle.wm_spec.specs.declared.record.savepoint.Savepoint.{Savepoint as Record}
use Rattle.wm_spec.specs.declared.record.space.Space.{Space}
use Rattle.wm_state.specs.Batches.{savepoint_batch}
use Rattle.wm_state.specs.Effects.{marked}
use Rattle.wm_state.specs.Points.{birth_record, newest_point}

-- the record of the savepoint, as where a workspace is born
abbrev pub kept_record : Parts → Space → ℕ → Record
kept_record p a m = birth_record p a (newest_point p a m)

abbrev pub keep_batch : ℕ → Counters → ℕ → Space → ℕ → Record → List Change
keep_batch counters_id counters space_id a id x = savepoint_batch counters_id counters space_id (marked (a.next_place + 1) (a.next_implicit + 1) a) id x
