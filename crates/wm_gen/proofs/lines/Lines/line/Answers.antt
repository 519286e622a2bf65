use Rattle.std.proofs.Common.{◌∙◌, sym}
use Rattle.std.proofs.lemmas.Result.{IfOk-weaker}
use Rattle.wm_gen.specs.Script.{drawn_lines, opening_lines}
use Rattle.wm_gen.proofs.Drawn.{given_behind}
use Rattle.wm_gen.proofs.lines.Lines.line.Goals as goal

pub returns-in-None-clause-given : goal.returns-in-None-clause-given
returns-in-None-clause-given c =
    rw (sym c.self.view_is)
    (IfOk-weaker c.line.result _ _
    (λ line given. given_behind opening_lines c.self.inside.opened (drawn_lines c.self.inside.drawing.state c.self.inside.drawing.left)
    (drawn_lines c.line.new.self.state c.line.new.self.left) line (sym c.in_ok-line.ensures.line ∙ c.in-None.is) given) c.line.ensures.given)
