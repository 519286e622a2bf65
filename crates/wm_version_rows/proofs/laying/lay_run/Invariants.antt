use Rattle.std.proofs.Common.{◌≡◌, ◌<◌, ℕ, [], take}
use Rattle.wm_base.specs.declared.instant.TheConstants.{END}
use Rattle.wm_graph.specs.Parts.{as_piece}
use Rattle.wm_image.specs.Shown.{first_held}
use Rattle.wm_index.specs.Kinds.{kind_at}
use Rattle.wm_period.specs.Pieces.{held_at}
use Rattle.wm_version_rows.proofs.laying.lay_run.Given as goal

abbrev pub invariant-loop-place : goal.invariant-loop-place
invariant-loop-place l = record {
  held : (t : ℕ) → t < END → held_at l.run t ≡ first_held (kind_at as_piece l.image (take l.place l.ids)) l.version t;
  first : l.place ≡ 0 → l.run ≡ [];
}
