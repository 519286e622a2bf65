-- Where too few ids are left.
use Rattle.std.specs.Prelude.{ℕ, ◌≡◌, ◌≤◌, ◌+◌, ◌^◌, true, List, is_some}
use Rattle.wm_spec.specs.Records.{record_at}
use Rattle.wm_spec.specs.declared.record.stored.Stored.{Stored}

-- a record has one of the greatest ids: half of all ids are not above it
abbrev pub HasGreatId : List Stored → Type 0
HasGreatId ss = (id : ℕ) × (2 ^ 63 ≤ id + 1) × (is_some (record_at ss id) ≡ true)
