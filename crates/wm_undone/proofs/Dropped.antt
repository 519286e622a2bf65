-- Ids that a batch drops: they differ from those that it puts, are below new ones, and nothing comes by them.
use Rattle.std.proofs.Common.{◌≡◌, ℕ, true, false, List, [], ◌∷◌, ◌++◌, map, refl}
use Rattle.std.specs.List.{list_all}
use Rattle.wm_spec.specs.Records.{ids_differ}
use Rattle.wm_spec.specs.declared.record.batch.Change.{Change}
use Rattle.wm_state.specs.Batches.{drop_one, is_dropped}
use Rattle.wm_state.specs.Drafts.{is_kept_change}

-- an id before others that differ
pub one_before : (counters_id : ℕ) (ids : List ℕ) → is_dropped ids counters_id ≡ false → ids_differ ids ≡ true → ids_differ (counters_id ∷ ids) ≡ true
unfolding ids_differ
one_before counters_id ids one differ = rw one differ

-- what goes brings no value
pub kept_dropped : (ids : List ℕ) → list_all is_kept_change (map drop_one ids) ≡ true
kept_dropped [] = refl
kept_dropped (id ∷ ids) = kept_dropped ids

-- nor do changes behind it, where these bring none that cannot be kept
pub kept_behind : (ids : List ℕ) (cs : List Change) → list_all is_kept_change cs ≡ true → list_all is_kept_change (map drop_one ids ++ cs) ≡ true
kept_behind [] cs rest = rest
kept_behind (id ∷ ids) cs rest = kept_behind ids cs rest
