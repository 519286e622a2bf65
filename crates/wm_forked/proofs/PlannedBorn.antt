-- The parts of the records after the second half of a birth.
use Rattle.std.proofs.Common.{◌≡◌, ℕ, ◌+◌, List, [], ◌∷◌, ◌++◌, Some, ap, ◌∙◌}
use Rattle.wm_graph.specs.Parts.{Parts, parts_of}
use Rattle.wm_spec.specs.Records.{record_at}
use Rattle.wm_spec.specs.declared.record.Record.TheVariants as records
use Rattle.wm_spec.specs.declared.record.stored.Stored.{Stored}
use Rattle.wm_spec.specs.declared.record.batch.Change.{Change}
use Rattle.wm_spec.specs.declared.record.counters.Counters.{Counters}
use Rattle.wm_spec.specs.declared.record.space.Space.{Space}
use Rattle.wm_spec.specs.declared.record.turn.Turn.{Turn}
use Rattle.wm_spec.specs.declared.record.version.Version.{Version}
use Rattle.wm_state.specs.ById.{Ascend, set_at, applied}
use Rattle.wm_state.specs.Batches.{AllUnder, put}
use Rattle.wm_state.proofs.Planned.{counted, AllUnder-set}
use Rattle.wm_forked.proofs.PlannedSaved.{more_space, more_turn, more_version, AllUnder-more}
use Rattle.wm_forked.proofs.KeepBorn.{born}

-- the second half of a birth: a workspace more, a version of its own and its first turn
abbrev pub child_batch : ℕ → Counters → ℕ → Space → Version → Turn → List Change
child_batch counters_id new id r v u = put counters_id (records.Counters new) ∷ put id (records.Space r) ∷ put (id + 1) (records.Version v) ∷ put (id + 1 + 1) (records.Turn u) ∷ []

pub parts-born : (ss : List Stored) (counters_id id : ℕ) (old new : Counters) (r : Space) (v : Version) (u : Turn) → Ascend ss → record_at ss counters_id ≡ Some (records.Counters old) → (parts_of ss).counters ≡ old ∷ [] → AllUnder id ss
    → parts_of (applied (child_batch counters_id new id r v u) ss) ≡ born (parts_of ss) new r v u
parts-born ss counters_id id old new r v u sorted found one under =
    more_turn third (id + 1 + 1) u (AllUnder-more (id + 1) second (records.Version v) under_second)
    ∙ ap (λ (p : Parts). record p { turns = p.turns ++ u ∷ [] })
    (more_version second (id + 1) v under_second
    ∙ ap (λ (p : Parts). record p { versions = p.versions ++ v ∷ [] }) (more_space first id r under_first ∙ ap (λ (p : Parts). record p { spaces = p.spaces ++ r ∷ [] }) (counted ss counters_id old new sorted found one)))
  where
    first : List Stored
    first = set_at counters_id (Some (records.Counters new)) ss

    second : List Stored
    second = set_at id (Some (records.Space r)) first

    third : List Stored
    third = set_at (id + 1) (Some (records.Version v)) second

    under_first : AllUnder id first
    under_first = AllUnder-set id ss counters_id (records.Counters old) (records.Counters new) sorted found under

    under_second : AllUnder (id + 1) second
    under_second = AllUnder-more id first (records.Space r) under_first
