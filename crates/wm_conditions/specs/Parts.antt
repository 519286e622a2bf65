-- Readers of parts of a test.
use Rattle.std.specs.Prelude.{ℕ, Bool, is_some, List, [], ◌∷◌}
use Rattle.wm_syntax.specs.declared.cond.Cmp.{Cmp}
use Rattle.wm_syntax.specs.declared.constant.Const.{Const}
use Rattle.wm_syntax.specs.declared.operand.Operand.{Operand}
use Rattle.wm_grammar.specs.Sorts as sorts
use Rattle.wm_grammar.specs.Reading.{Reader, gives_at, mark_at, ◌>>=◌, ◌>>◌, optional_at}
use Rattle.wm_grammar.specs.OperandReaders.{operand_at}
use Rattle.wm_grammar.specs.ExpressionReaders.{comparison_at, constant_list_at}

-- a mark that compares so
abbrev pub compares_at : ℕ → Cmp → Reader Cmp
compares_at sort cmp = do mark_at sort; gives_at cmp

-- whether IS NULL is negated
abbrev pub null_at : Reader Bool
null_at = do mark_at sorts.IS; negated ← optional_at (sorts.NOT ∷ []) (mark_at sorts.NOT); mark_at sorts.NULL; gives_at (is_some negated)

-- the list behind IN
abbrev pub listed_at : Reader (List Const)
listed_at = do mark_at sorts.IN; mark_at sorts.OPEN; list ← constant_list_at; mark_at sorts.CLOSE; gives_at list

-- the upper bound, behind AND
abbrev pub high_at : Reader Operand
high_at = do mark_at sorts.AND; operand_at

-- the bounds behind BETWEEN
abbrev pub bounds_at : Reader (Operand × Operand)
bounds_at = do mark_at sorts.BETWEEN; low ← operand_at; mark_at sorts.AND; high ← operand_at; gives_at (low, high)

-- a comparison's mark, and what stands behind it
abbrev pub compared_at : Reader (Cmp × Operand)
compared_at = do cmp ← comparison_at; other ← operand_at; gives_at (cmp, other)
