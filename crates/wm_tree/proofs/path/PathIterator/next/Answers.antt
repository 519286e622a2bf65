use Rattle.std.proofs.Common.{◌∙◌, sym}
use Rattle.wm_tree.proofs.Paths.{shorter_tail}
use Rattle.wm_tree.proofs.path.PathIterator.next.Goals as goal

pub returns-in_err-version-clause-steps : goal.returns-in_err-version-clause-steps
returns-in_err-version-clause-steps c =
    let empty = sym c.self.view_is ∙ c.in_err-version.ensures.no_path in
    rw c.from_residual.ensures (empty, empty)

pub returns-clause-steps : goal.returns-clause-steps
returns-clause-steps c = sym c.self.view_is ∙ c.in_ok-version.ensures.path

pub returns-clause-goes : goal.returns-clause-goes
returns-clause-goes c = record {
  on = λ _. (tt, tt, shorter_tail _ _ _ (sym c.self.view_is ∙ c.in_ok-version.ensures.path));
  keeps = tt;
  rests = λ _. tt;
}
