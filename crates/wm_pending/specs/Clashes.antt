-- The stretches of conflict, key by key.
use Rattle.std.specs.Prelude.{ℕ, ◌≡◌, List, ◌++◌, map, Option}
use Rattle.wm_graph.specs.Parts.{Parts}
use Rattle.wm_net.specs.Conflicts.{Stamps, grouped, in_table, same_stamps}
use Rattle.wm_net.specs.Groups.{Group}
use Rattle.wm_net.specs.Listed.{IsBlock, IsListing, Stretch}
use Rattle.wm_spec.specs.Lists.{Cell}
use Rattle.wm_spec.specs.declared.record.space.Space.{Space}
use Rattle.wm_telling.specs.Telling.{clash_held}
use Rattle.wm_pending.specs.Sides.{asked_clash, stamps_in}
use Rattle.wm_pending.specs.declared.clash.Asked.{Asked}
use Rattle.wm_pending.specs.declared.clash.Conflict.{Conflict}
use Rattle.wm_pending.specs.declared.own.OwnKey.{OwnKey}

-- a conflict of a table, as its key and its stretch
abbrev pub conflict_pair : ℕ → Conflict → Group × Stretch Stamps
conflict_pair table c = (record { table = table; key = c.key }, record { from = c.period.from; till = c.period.till; value = stamps_in c.stamps })

-- what is in conflict of a key, where it is of the table
abbrev pub asked_in : Parts → Asked → ℕ → OwnKey → Cell → Option Stamps
asked_in p q table k = in_table table (λ (c : Cell). asked_clash p q k c.time)

-- others come behind conflicts: all of a group that a function of the cell gives, each as long as can be
pub record GainsBlock (f : Cell → Option Stamps) (g : Group) (table : ℕ) (old new : List Conflict) : Type 0 where
  pub stretches : List (Stretch Stamps)
  pub block : IsBlock same_stamps f (record { group = g; stretches = stretches })
  pub is : map (conflict_pair table) new ≡ map (conflict_pair table) old ++ map (grouped g) stretches

-- the stretches of a table on which a workspace and its parent are in conflict, by key and from, each as long as can be
abbrev pub AreConflicts : Parts → Space → Space → ℕ → List Conflict → Type 0
AreConflicts p a b table cs = IsListing same_stamps grouped (in_table table (clash_held p a b)) (map (conflict_pair table) cs)
