-- The outline of what a plan stands on.
use Rattle.wm_graph.specs.Parts.{parts_of}
use Rattle.wm_outline.specs.Outline.{Outline, outline_of}
use Rattle.wm_ground.specs.declared.ground.Ground.{Ground}

abbrev pub outline_on : Ground → Outline
outline_on g = outline_of (parts_of g.image.now) g.sessions.now g.moment
