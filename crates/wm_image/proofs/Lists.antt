-- The records of the ids that pass a test.
use Rattle.std.proofs.Common.{◌≡◌, Bool, List, map}
use Rattle.std.specs.List.{filter, filter_map}
use Rattle.wm_index.proofs.Lists as index
use Rattle.wm_index.specs.Sought.{ids_with}
use Rattle.wm_records.proofs.Lists.{ids-sorted}
use Rattle.wm_spec.specs.Records.{record_at}
use Rattle.wm_spec.specs.declared.record.Record.{Record}
use Rattle.wm_spec.specs.declared.record.stored.Stored.{Stored}
use Rattle.wm_state.specs.ById.{Ascend}

-- the records of the ids that pass a test are those that pass it
pub taken-with : (p : Record → Bool) (ss : List Stored) → Ascend ss → filter_map (record_at ss) (ids_with p ss) ≡ filter p (map (λ (s : Stored). s.record) ss)
taken-with p ss sorted = index.taken-with p ss (ids-sorted ss sorted)
