-- What rows that move overlap, of those that a version holds.
use Rattle.std.specs.Prelude.{ℕ, ◌≡◌, List, Option, Some, None}
use Rattle.std.specs.Option.{option_map}
use Rattle.std.specs.declared.alloc.Global.{Global}
use Rattle.std.specs.declared.vec.Vec.{Vec}
use Rattle.wm_base.specs.declared.value.Value.{Value}
use Rattle.wm_base.specs.Period.{Span}
use Rattle.wm_dml.specs.Moving.{shifts_of, shifts_under}
use Rattle.wm_dml.specs.declared.moving.Move.{Move}
use Rattle.wm_dml.specs.declared.moving.Shift.{Shift}
use Rattle.wm_graph.specs.Parts.{Parts}
use Rattle.wm_model.specs.Step.{clash_at}
use Rattle.wm_spec.specs.Lists.{Cell, Entry, told}
use Rattle.wm_spec.specs.declared.record.table.Table.{Table}
use Rattle.wm_state.specs.Standing.{held_of, seen}

-- this is what is found in each list of entries that the version holds: of a clash its key, and the part that is shared
abbrev pub Finds : Parts → ℕ → (List Entry → Option (List Value × Span)) → Option (List Value × Span) → Type 0
Finds p version clash found = (es : List Entry) → ((c : Cell) → seen p version c ≡ option_map held_of (told es c)) → clash es ≡ found

-- under each key are the shifts of its rows
abbrev pub AreShifts : List (List Value × Vec Shift Global) → List Move → Type 0
AreShifts shifts moves = (key : List Value) → shifts_under shifts key ≡ shifts_of key moves

-- no new period of the key, if there is one, overlaps another
abbrev pub NoneAt : Parts → ℕ → Table → List Move → Option (List Value) → Type 0
NoneAt p version t moves last = (m : Move) → last ≡ Some m.key → Finds p version (λ es. clash_at es t moves m) None
