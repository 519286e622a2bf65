use Rattle.std.proofs.Common.{ℕ, List, ap, ◌∙◌, rules}
use Rattle.std.proofs.lemmas.Fn.{filter_same}
use Rattle.wm_model.specs.Seating.{thawed}
use Rattle.wm_state.specs.Editing.{is_other}
use Rattle.wm_state.specs.State.{Session}
use Rattle.wm_plan.specs.contracts.session.Session.{the_view}
use Rattle.wm_plan.proofs.session.Session.thaw.Goals as goal

-- a session that froze these workspaces for itself
abbrev freezing : Session → List ℕ → Session
freezing x xs = record x { freezes = xs }

pub returns : goal.returns
returns c =
    ap (freezing (the_view c.self.inside)) (filter_same _ (is_other c.args.space) _ (λ x b f' k. search rules) _ _ c.retain.ensures.filtered) ∙ ap (thawed c.args.space) c.self.view_is
