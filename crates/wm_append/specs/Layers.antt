-- The records that are drawn: pieces, or the touches or the marks of a workspace.
use Rattle.std.specs.Prelude.{ℕ, List, None}
use Rattle.wm_base.specs.declared.value.Value.{Value}
use Rattle.wm_graph.specs.Parts.{as_piece}
use Rattle.wm_spec.specs.declared.record.Record.TheVariants as records
use Rattle.wm_state.specs.Touching.{drawn_as}
use Rattle.wm_index.specs.Sought.{Sought, PieceAt, TouchesAt, MarksAt}
use Rattle.wm_append.specs.Views.{View}
use Rattle.wm_append.specs.declared.redraw.layer.Layer.{Layer}
use Rattle.wm_append.specs.declared.redraw.layer.Layer.TheVariants as layers

-- a touch as a piece, where it is of the workspace
abbrev pub touch_in : ℕ → View
touch_in n (records.Touch x) = drawn_as n x
touch_in n _ = None

-- and a mark
abbrev pub mark_in : ℕ → View
mark_in n (records.Mark x) = drawn_as n x
mark_in n _ = None

abbrev pub view_of : Layer → View
view_of layers.Pieces = as_piece
view_of (layers.Touches n) = touch_in n
view_of (layers.Marks n) = mark_in n

-- as what those of a version are found for a key
abbrev pub sought_in : Layer → ℕ → ℕ → List Value → Sought
sought_in layers.Pieces version table key = PieceAt table key version
sought_in (layers.Touches n) version table key = TouchesAt table key
sought_in (layers.Marks n) version table key = MarksAt table key
