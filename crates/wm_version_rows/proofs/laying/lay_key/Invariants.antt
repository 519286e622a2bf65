use Rattle.std.proofs.Common.{◌≡◌, ◌<◌, ℕ, length}
use Rattle.std.specs.Option.{option_or}
use Rattle.wm_base.specs.declared.instant.TheConstants.{END}
use Rattle.wm_graph.specs.Parts.{parts_of}
use Rattle.wm_version_rows.proofs.Along.{newest_held}
use Rattle.wm_version_rows.proofs.Onward.{SamePath}
use Rattle.wm_ids.specs.Versioned.{AreSpanned, VersionsRise, Widens}
use Rattle.wm_period.specs.Pieces.{held_at}
use Rattle.wm_state.specs.Standing.{newest_first}
use Rattle.wm_tree.specs.Versions.{path_in}
use Rattle.wm_version_rows.proofs.laying.lay_key.Given as goal

abbrev pub invariant-loop-entry : goal.invariant-loop-entry
invariant-loop-entry l = record {
  held : (t : ℕ) → t < END → option_or (held_at l.laid t) (newest_held l.image (path_in (newest_first (parts_of l.image).versions) l.top) l.left t)
      ≡ newest_held l.image (path_in (newest_first (parts_of l.image).versions) l.top) l.versions t;
  rises : VersionsRise l.left;
  widens : Widens l.left;
  spanned : AreSpanned l.image l.left;
  path : SamePath (parts_of l.image).versions l.at l.top l.left;
}

abbrev pub decreases-loop-entry : goal.decreases-loop-entry
decreases-loop-entry l = length l.left
