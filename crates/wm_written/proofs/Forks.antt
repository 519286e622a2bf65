-- The parts of the records with a version more.
use Rattle.std.proofs.Common.{◌≡◌, ℕ, List, [], ◌∷◌, ◌++◌, Some, ap, ◌∙◌}
use Rattle.wm_graph.specs.Parts.{Parts, parts_of}
use Rattle.wm_spec.specs.Records.{record_at}
use Rattle.wm_spec.specs.declared.record.Record.TheVariants as records
use Rattle.wm_spec.specs.declared.record.stored.Stored.{Stored}
use Rattle.wm_spec.specs.declared.record.counters.Counters.{Counters}
use Rattle.wm_spec.specs.declared.record.version.Version.{Version}
use Rattle.wm_state.specs.ById.{Ascend, set_at, applied}
use Rattle.wm_state.specs.Batches.{AllUnder, fork_batch}
use Rattle.wm_state.proofs.ByKind.{set-behind}
use Rattle.wm_state.proofs.Planning.{parts-more_version}
use Rattle.wm_state.proofs.Planned.{counted, AllUnder-set}
use Rattle.wm_state.proofs.Growing.{forked}

pub parts-forked : (ss : List Stored) (counters_id id : ℕ) (old new : Counters) (v : Version) → Ascend ss → record_at ss counters_id ≡ Some (records.Counters old) → (parts_of ss).counters ≡ old ∷ [] → AllUnder id ss
    → parts_of (applied (fork_batch counters_id new id v) ss) ≡ forked (parts_of ss) new v
parts-forked ss counters_id id old new v sorted found one under =
    ap parts_of (set-behind (set_at counters_id (Some (records.Counters new)) ss) id (records.Version v) (AllUnder-set id ss counters_id (records.Counters old) (records.Counters new) sorted found under))
    ∙ parts-more_version (set_at counters_id (Some (records.Counters new)) ss) id v
    ∙ ap (λ (p : Parts). record p { versions = p.versions ++ v ∷ [] }) (counted ss counters_id old new sorted found one)
