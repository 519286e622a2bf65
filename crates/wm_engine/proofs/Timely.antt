-- The moment that a line of the grammar sets is below the end.
use Rattle.std.proofs.Common.{◌≡◌, ℕ, ◌<◌, List, inl, inr, sym, subst}
use Rattle.wm_syntax.specs.Trees as trees
use Rattle.wm_syntax.specs.Trees.{Line}
use Rattle.wm_base.specs.declared.instant.TheConstants.{END}
use Rattle.wm_grammar.specs.Operands.{instant}
use Rattle.wm_grammar.specs.Statements.{line, run}
use Rattle.wm_grammar.specs.Symbols.{Symbol}
use Rattle.wm_model.specs.Step.{timed_line}
use Rattle.wm_engine.proofs.Dated.{instant_for-below}
use Rattle.wm_engine.specs.Timely.{IsTimely}

below_as : (n k : ℕ) → n ≡ k → k < END → n < END
below_as n k same below = subst (λ (x : ℕ). x < END) (sym same) below

instant_below : (ts : List Symbol) (n : ℕ) → instant.Whole ts n → n < END
unfolding instant
instant_below ts n (inl w) = below_as n _ w.5.5.1 (instant_for-below _ _)
instant_below ts n (inr (inl w)) = below_as n _ w.5.5.1 (instant_for-below _ _)
instant_below ts n (inr (inr w)) = below_as n _ w.5.5.5.5.5.5.1 (instant_for-below _ _)

as_tree : (tree other : Line) → tree ≡ other → IsTimely other → IsTimely tree
as_tree tree other same timely = subst IsTimely (sym same) timely

run_timely : (depth : ℕ) (session : List ℕ) (ts : List Symbol) (tree : Line) → (run depth session).Whole ts tree → IsTimely tree
unfolding run
run_timely depth session ts tree w = as_tree tree (trees.Run session w.5.0) w.5.5.5.1 tt

pub line_timely : (depth : ℕ) (ts : List Symbol) (tree : Line) → (line depth).Whole ts tree → IsTimely tree
unfolding line
line_timely depth ts tree (inl w) = elim w.5 [
  | inl r ↦ run_timely depth w.0 w.2 tree r
  | inr c ↦ as_tree tree (trees.Connect c.0 c.5.0) c.5.5.1 tt
]
line_timely depth ts tree (inr (inl w)) = elim w.5 [
  | inl r ↦ run_timely depth w.0 w.2 tree r
  | inr c ↦ as_tree tree (trees.Disconnect c.0) c.5.1 tt
]
line_timely depth ts tree (inr (inr (inl w))) = elim w.5 [
  | inl r ↦ run_timely depth w.0 w.2 tree r
  | inr c ↦ as_tree tree (trees.At c.0) c.5.1 (instant_below c.1 c.0 c.4)
]
line_timely depth ts tree (inr (inr (inr w))) = run_timely depth w.0 w.2 tree w.5

-- the moment in the place of SYSDATE is not the one that is set
pub timely_timed : (m : ℕ) (l : Line) → IsTimely l → IsTimely (timed_line m l)
timely_timed m (trees.Connect session user) timely = tt
timely_timed m (trees.Disconnect session) timely = tt
timely_timed m (trees.At n) timely = timely
timely_timed m (trees.Run session statement) timely = tt
