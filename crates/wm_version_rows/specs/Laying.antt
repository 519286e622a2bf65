-- What versions on a path hold, laid over one another.
use Rattle.std.specs.Prelude.{ℕ, nat_eq, nat_le, if◌then◌else◌, List, [], ◌∷◌, Option, Some, None}
use Rattle.std.specs.Bool.{then_some}
use Rattle.std.specs.List.{filter, list_any}
use Rattle.std.specs.Option.{option_or}
use Rattle.wm_graph.specs.Parts.{as_piece}
use Rattle.wm_ids.specs.declared.versioned.Versioned.{Versioned}
use Rattle.wm_image.specs.Shown.{first_held, has_at}
use Rattle.wm_index.specs.Kinds.{kind_at}
use Rattle.wm_period.specs.Pieces.{Held}
use Rattle.wm_spec.specs.declared.record.piece.PieceRecord.{PieceRecord}
use Rattle.wm_spec.specs.declared.record.stored.Stored.{Stored}
use Rattle.wm_state.specs.Standing.{held_by}

-- what a piece says of a moment, where it is a version's own and covers it
abbrev pub held_here : Option PieceRecord → ℕ → ℕ → Option Held
held_here None version time = None
held_here (Some x) version time = then_some (has_at x version time) (held_by x)

-- what the first of some versions has that has anything
abbrev pub along : (ℕ → Option Held) → List ℕ → Option Held
along f [] = None
along f (v ∷ vs) = option_or (f v) (along f vs)

-- what an entry of versions with ids of pieces has at a moment, where its version stands on a path
abbrev pub entry_held : List Stored → List ℕ → Versioned → ℕ → Option Held
entry_held ss path e time = if list_any (nat_eq e.version) path then first_held (kind_at as_piece ss e.ids) e.version time else None

-- those of versions that are not above a number
abbrev pub up_to : ℕ → List Versioned → List Versioned
up_to top es = filter (λ (e : Versioned). nat_le e.version top) es
