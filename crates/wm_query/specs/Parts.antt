-- Readers of parts of a query's items.
use Rattle.std.specs.Prelude.{ℕ, List, [], ◌∷◌, Option}
use Rattle.wm_syntax.specs.declared.query.Agg.{Agg}
use Rattle.wm_syntax.specs.Trees.{Expr, Item}
use Rattle.wm_syntax.specs.Trees as trees
use Rattle.wm_grammar.specs.Sorts as sorts
use Rattle.wm_grammar.specs.Reading.{Reader, gives_at, mark_at, ◌>>=◌, ◌>>◌, optional_at}
use Rattle.wm_grammar.specs.OperandReaders.{id_at}

-- the aggregate of an expression, up to its parenthesis
abbrev pub closed_at : Agg → Expr → Reader Item
closed_at agg x = do mark_at sorts.CLOSE; gives_at (trees.Aggregate agg x)

-- the name that AS gives
abbrev pub alias_at : Reader (Option (List ℕ))
alias_at = optional_at (sorts.AS ∷ []) (do mark_at sorts.AS; id_at)
