-- The records of a store that was just made.
use Rattle.std.specs.Prelude.{ℕ, List, [], ◌∷◌, Some}
use Rattle.wm_spec.specs.declared.record.batch.Change.{Change}
use Rattle.wm_spec.specs.declared.record.Record.{Record}
use Rattle.wm_spec.specs.declared.record.Record.TheVariants as records
use Rattle.wm_spec.specs.declared.record.counters.Counters.{Counters}
use Rattle.wm_spec.specs.declared.record.space.Space.{Space}
use Rattle.wm_spec.specs.declared.record.space.FreezeMode.TheVariants.{Free}
use Rattle.wm_spec.specs.declared.record.version.Version.{Version}
use Rattle.wm_spec.specs.declared.record.stored.Stored.{Stored}

-- the first stamp and the second version come next, nothing was done, and the store takes so many changes
abbrev pub fresh_counters : ℕ → Counters
fresh_counters limit = record { next_stamp = 1; last_moment = 0; limit = limit; next_version = 2; work = 0 }

-- the workspace LIVE, with nothing in it
abbrev pub live : Space
live = record {
  number = 0;
  name = 76 ∷ 73 ∷ 86 ∷ 69 ∷ [];
  parent = 0;
  born = 0;
  birth_version = 1;
  birth_place = 0;
  base_version = 0;
  from = 0;
  log_length = 0;
  rebases = 0;
  next_place = 1;
  next_implicit = 1;
  freeze = Free;
  writer = [];
}

-- its version
abbrev pub first_version : Version
first_version = record { number = 1; space = 0; parent = 0 }

abbrev pub stored : ℕ → Record → Stored
stored id r = record { id = id; «record» = r }

-- counters, LIVE and its version
abbrev pub fresh_records : ℕ → List Stored
fresh_records limit =
    stored 1 (records.Counters (fresh_counters limit)) ∷ stored 2 (records.Space live) ∷ stored 3 (records.Version first_version) ∷ []

abbrev pub put : ℕ → Record → Change
put id r = record { id = id; becomes = Some r }

-- the batch that puts them
abbrev pub fresh_changes : ℕ → List Change
fresh_changes limit =
    put 1 (records.Counters (fresh_counters limit)) ∷ put 2 (records.Space live) ∷ put 3 (records.Version first_version) ∷ []
