-- Hops: long steps down the paths of versions.
use Rattle.std.specs.Prelude.{ℕ, ◌≡◌, ◌≢◌, ◌<◌, ◌≤◌, ◌-◌, ◌&&◌, Bool, true, cond, nat_lt, nat_le, List, Option, Some, None, IfSome, slice_index_or}
use Rattle.std.specs.List.{AllByRecursion}
use Rattle.std.specs.Option.{option_map}
use Rattle.std.specs.Vec.{vec_len}
use Rattle.wm_graph.specs.Parts.{version_of}
use Rattle.wm_records.specs.declared.hops.Hop.{Hop}
use Rattle.wm_records.specs.declared.hops.Hops.{Hops}
use Rattle.wm_spec.specs.declared.record.version.Version.{Version}

-- the hop at a number: none before the first number, and none behind the end of the list
abbrev pub hop_at : Hops → ℕ → Option Hop
hop_at hops number = cond (nat_lt number hops.first) None (slice_index_or hops.by_number.items (number - hops.first) None)

-- whether the list goes to a number, or ends at most the widest gap below it
abbrev pub is_near : Hops → ℕ → Bool
is_near hops number = nat_le hops.first number && nat_le ((number - hops.first) - vec_len hops.by_number) 65536

-- what holds of a version, and of each above it up to another where it holds of the parent of all that have its number,
-- holds of that other: the way up by parents goes from the one to the other, or to a version that is not there
abbrev pub Leads : List Version → ℕ → ℕ → Type 0
Leads vs far v = (p : ℕ → Bool) → p far ≡ true
    → ((w : ℕ) → far < w → w ≤ v → AllByRecursion (λ (x : Version). x.number ≡ w → p x.parent ≡ true) vs → p w ≡ true)
    → p v ≡ true

-- a hop has the parent of a version that is there, and ends at an older one on its path
pub record IsHop (vs : List Version) (v : ℕ) (h : Hop) : Type 0 where
  pub parent : option_map (λ (x : Version). x.parent) (version_of vs v) ≡ Some h.parent
  pub down : h.far < v
  pub leads : Leads vs h.far v

-- the hops are of versions that are there, none of which has a number above the greatest
pub record AreHops (vs : List Version) (hops : Hops) : Type 0 where
  pub below : AllByRecursion (λ (x : Version). x.number ≤ hops.greatest) vs
  pub known : (v : ℕ) (h : Hop) → hop_at hops v ≡ Some h → IsHop vs v h

-- none is of a version that goes
abbrev pub AreWithout : Option Version → Hops → Type 0
AreWithout goes hops = (v : ℕ) (h : Hop) → hop_at hops v ≡ Some h → IfSome goes (λ (x : Version). x.number ≢ v)
