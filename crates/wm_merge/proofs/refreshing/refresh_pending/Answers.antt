use Rattle.std.proofs.Common.{map, sym, ap, ◌∙◌}
use Rattle.std.specs.Option.{option_map}
use Rattle.wm_graph.specs.Parts.{parts_of}
use Rattle.wm_model.specs.Step.{refresh_workspace}
use Rattle.wm_plan.specs.Views.{answer_view}
use Rattle.wm_print.specs.Texts.{Refused}
use Rattle.wm_state.specs.Editing.{entry_of}
use Rattle.wm_telling.specs.Telling.{gained_held}
use Rattle.wm_merge.specs.Views.{clashed}
use Rattle.wm_merge.proofs.Answered.{clash_found, listed_for, told_nothing}
use Rattle.wm_merge.proofs.RefreshPlans.{refreshes_as}
use Rattle.wm_model.proofs.RefreshingLine.{refresh_refused}
use Rattle.wm_merge.proofs.NetPlans.{refresh_nets}
use Rattle.wm_spending.specs.Nets.{Nothing}
use Rattle.wm_merge.proofs.refreshing.refresh_pending.Goals as goal

pub own_pieces-requires-clause-there : goal.own_pieces-requires-clause-there
own_pieces-requires-clause-there c = c.requires.family.child

pub returns-in-Some-clause-does : goal.returns-in-Some-clause-does
returns-in-Some-clause-does c = λ workspace family.
    told_nothing c.args.image.now c.args.sessions.now c.args.moment c.answered.result (Refused c.in-Some.refusal) (refresh_workspace c.args.session.now workspace) c.answered.ensures.edits c.answered.ensures.seating (ap answer_view c.answered.ensures.answer)
    (refresh_refused c.args.image.now c.args.sessions.now c.args.moment c.args.session.now workspace c.args.space.now c.args.parent.now (option_map clashed c.in_ok-found.found) c.in-Some.refusal family c.requires.pending
    (clash_found (parts_of c.args.image.now) c.args.space.now c.args.parent.now c.in_ok-found.found c.in_ok-found.ensures.some c.in_ok-found.ensures.none) (sym c.in_ok-refusal.ensures ∙ c.in-Some.is))

pub returns-clause-does : goal.returns-clause-does
returns-clause-does c =
    refreshes_as c.args.image.now c.args.sessions.now c.args.moment c.refresh_with.result c.args.session.now c.args.space.now c.args.parent.now (map entry_of c.in_ok-entries.entries.items)
    (λ workspace family.
    record {
      user = c.user-user.ensures.short;
      family = family;
      pending = c.requires.pending;
      found = option_map clashed c.in_ok-found.found;
      clash = clash_found (parts_of c.args.image.now) c.args.space.now c.args.parent.now c.in_ok-found.found c.in_ok-found.ensures.some c.in_ok-found.ensures.none;
      clear = sym c.in_ok-refusal.ensures ∙ c.in_default.is;
      listed =
          listed_for (parts_of c.args.image.now) c.args.moment c.user-user.result.now c.args.session.now.user (gained_held (parts_of c.args.image.now) c.args.space.now c.args.parent.now) (map entry_of c.in_ok-entries.entries.items)
          c.user-user.ensures.user c.in_ok-entries.ensures;
    })
    c.refresh_with.ensures.does

-- ---- its edits

pub returns-in-Some-clause-nets : goal.returns-in-Some-clause-nets
returns-in-Some-clause-nets c = λ workspace family. Nothing c.answered.ensures.edits

pub returns-clause-nets : goal.returns-clause-nets
returns-clause-nets c =
    refresh_nets c.args.image.now c.args.moment c.user-user.result.now c.args.space.now c.args.parent.now c.in_ok-entries.entries.items c.refresh_with.result c.in_ok-entries.ensures c.refresh_with.ensures.edits
