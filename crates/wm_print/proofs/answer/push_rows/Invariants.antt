use Rattle.std.proofs.Common.{◌≡◌, ◌++◌, drop}
use Rattle.std.specs.List.{flat_map}
use Rattle.wm_print.specs.Texts.{row_text}
use Rattle.wm_print.proofs.answer.push_rows.Given as goal

-- what is written, and what is left to write
abbrev pub invariant-loop-row : goal.invariant-loop-row
invariant-loop-row l = l.out ++ flat_map row_text (drop l.row-index l.rows) ≡ l.fn.out ++ flat_map row_text l.rows
