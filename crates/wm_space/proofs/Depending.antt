-- Which child took of a workspace what came behind a savepoint of it, by its record.
use Rattle.std.specs.Prelude.{Bool}
use Rattle.wm_graph.specs.Parts.{parts_of}
use Rattle.wm_ground.specs.Grounds.{outline_on}
use Rattle.wm_ground.specs.declared.ground.Ground.{Ground}
use Rattle.wm_model.specs.Step.{depends}
use Rattle.wm_outline.specs.Outline.{outline_by}
use Rattle.wm_spec.specs.declared.record.savepoint.Savepoint.{Savepoint}
use Rattle.wm_spec.specs.declared.record.space.Space.{Space}
use Rattle.wm_state.specs.Standing.{saved_fields}

abbrev pub takes : Ground → Space → Savepoint → Space → Bool
takes g a x r = depends (outline_on g).sessions (outline_by (parts_of g.image.now) a) (saved_fields x) (outline_by (parts_of g.image.now) r)
