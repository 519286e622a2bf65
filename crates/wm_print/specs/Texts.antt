-- Answers, and the bytes that each one is said in.
use Rattle.std.specs.Prelude.{ℕ, List, [], ◌++◌, length, codes}
use Rattle.std.specs.List.{flat_map}
use Rattle.std.specs.Fmt.{decimal}
use Rattle.wm_base.specs.declared.row.Row.{Row}
use Rattle.wm_base.specs.declared.refusal.Refusal.{Refusal}
use Rattle.wm_print.specs.Values.{joined}
use Rattle.wm_print.specs.Refusals.{refusal_text}

pub data Answer : Type 0 where
  -- a blank or comment line is answered by no bytes
  Nothing : Answer
  Fine : Answer
  -- so many rows were changed
  Done : (count : ℕ) → Answer
  Listing : (rows : List Row) → Answer
  Refused : (refusal : Refusal) → Answer

-- a row: its values with bars between, on a line of its own
unfoldable pub row_text : Row → List ℕ
row_text row = joined (codes "|") row.values ++ codes "\n"

-- how many rows were changed
abbrev pub done_text : ℕ → List ℕ
done_text count = codes "DONE " ++ (decimal count ++ codes "\n")

-- how many rows stand before
abbrev pub rows_text : ℕ → List ℕ
rows_text count = codes "ROWS " ++ (decimal count ++ codes "\n")

-- the bytes of an answer: each of its lines ends with LF
unfoldable pub answer_text : Answer → List ℕ
answer_text Nothing = []
answer_text Fine = codes "OK\n"
answer_text (Done count) = done_text count
answer_text (Listing rows) = flat_map row_text rows ++ rows_text (length rows)
answer_text (Refused refusal) = refusal_text refusal ++ codes "\n"
