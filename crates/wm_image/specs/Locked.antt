-- The locks of a table, by key.
use Rattle.std.specs.Prelude.{ℕ, ◌≡◌, List}
use Rattle.wm_base.specs.Key.{key_order}
use Rattle.wm_base.specs.declared.value.Value.{Value}
use Rattle.wm_ids.specs.Ids.{ids_in}
use Rattle.wm_index.specs.Sought.{LocksOn, ids_with, is_sought}
use Rattle.wm_spec.specs.declared.record.stored.Stored.{Stored}

-- each key has the ids of the locks on it
abbrev pub AreLockedKeys : List Stored → ℕ → List (List Value × List ℕ) → Type 0
AreLockedKeys ss table keys = (key : List Value) → ids_in key_order keys key ≡ ids_with (is_sought (LocksOn table key)) ss
