use Rattle.std.proofs.Common.{Some, None, map, ap}
use Rattle.std.specs.Option.{option_map}
use Rattle.wm_graph.specs.Parts.{parts_of}
use Rattle.wm_model.proofs.MergingLine.{merge_refused}
use Rattle.wm_model.specs.Step.{merge_workspace}
use Rattle.wm_plan.specs.Views.{answer_view}
use Rattle.wm_print.specs.Texts.{Refused}
use Rattle.wm_state.specs.Editing.{entry_of}
use Rattle.wm_telling.specs.Telling.{gained_held, own_held}
use Rattle.wm_merge.specs.Views.{asked_view, clashed}
use Rattle.wm_merge.proofs.Answered.{clash_found, listed_for, told_nothing}
use Rattle.wm_merge.proofs.MergePlans.{merges_as, refusal_told}
use Rattle.wm_merge.proofs.NetPlans.{merge_nets}
use Rattle.wm_spending.specs.Nets.{Nothing}
use Rattle.wm_merge.proofs.merging.merge_into.Goals as goal

pub own_pieces-requires-clause-there : goal.own_pieces-requires-clause-there
own_pieces-requires-clause-there c = c.requires.family.child

pub returns-in-Some-clause-does : goal.returns-in-Some-clause-does
returns-in-Some-clause-does c = λ workspace family.
    told_nothing c.args.image.now c.args.sessions.now c.args.moment c.answered.result (Refused c.in-Some.refusal) (merge_workspace c.args.merge.session.now (asked_view c.args.merge.asked) workspace) c.answered.ensures.edits c.answered.ensures.seating
    (ap answer_view c.answered.ensures.answer)
    (merge_refused c.args.image.now c.args.sessions.now c.args.moment c.args.merge.session.now workspace (asked_view c.args.merge.asked) c.args.merge.family.space.now c.args.merge.family.parent.now (option_map clashed c.in_ok-found.found)
    (map entry_of c.in_ok-own.own.items) c.in-Some.refusal family
    (clash_found (parts_of c.args.image.now) c.args.merge.family.space.now c.args.merge.family.parent.now c.in_ok-found.found c.in_ok-found.ensures.some c.in_ok-found.ensures.none)
    (listed_for (parts_of c.args.image.now) c.args.moment c.user-user.result.now c.args.merge.session.now.user (own_held (parts_of c.args.image.now) c.args.merge.family.space.now) (map entry_of c.in_ok-own.own.items) c.user-user.ensures.user
    c.in_ok-own.ensures)
    (refusal_told c.args.merge.session.now (asked_view c.args.merge.asked) (parts_of c.args.image.now) c.args.sessions.now c.args.merge.family.space.now c.args.merge.family.parent.now (option_map clashed c.in_ok-found.found) c.as_slice-3.result.now c.in_ok-own.own.items
    _ (Some c.in-Some.refusal) c.as_slice-3.ensures.value c.in_ok-refusal.ensures c.in-Some.is))

pub returns-clause-does : goal.returns-clause-does
returns-clause-does c =
    merges_as c.args.image.now c.args.sessions.now c.args.moment c.merge_with.result c.args.merge.session.now (asked_view c.args.merge.asked) c.args.merge.family.space.now c.args.merge.family.parent.now (map entry_of c.in_ok-own.own.items)
    (map entry_of c.in_ok-gained.gained.items)
    (λ workspace family.
    record {
      user = c.user-user.ensures.short;
      family = family;
      found = option_map clashed c.in_ok-found.found;
      clash = clash_found (parts_of c.args.image.now) c.args.merge.family.space.now c.args.merge.family.parent.now c.in_ok-found.found c.in_ok-found.ensures.some c.in_ok-found.ensures.none;
      clear =
          refusal_told c.args.merge.session.now (asked_view c.args.merge.asked) (parts_of c.args.image.now) c.args.sessions.now c.args.merge.family.space.now c.args.merge.family.parent.now (option_map clashed c.in_ok-found.found) c.as_slice-3.result.now c.in_ok-own.own.items
          _ None c.as_slice-3.ensures.value c.in_ok-refusal.ensures c.in_default.is;
      own_listed =
          listed_for (parts_of c.args.image.now) c.args.moment c.user-user.result.now c.args.merge.session.now.user (own_held (parts_of c.args.image.now) c.args.merge.family.space.now) (map entry_of c.in_ok-own.own.items) c.user-user.ensures.user
          c.in_ok-own.ensures;
      gained_listed =
          listed_for (parts_of c.args.image.now) c.args.moment c.user-user.result.now c.args.merge.session.now.user (gained_held (parts_of c.args.image.now) c.args.merge.family.space.now c.args.merge.family.parent.now)
          (map entry_of c.in_ok-gained.gained.items) c.user-user.ensures.user c.in_ok-gained.ensures;
    })
    c.merge_with.ensures.does

-- ---- its edits

pub returns-in-Some-clause-nets : goal.returns-in-Some-clause-nets
returns-in-Some-clause-nets c = λ stays workspace family. Nothing c.answered.ensures.edits

pub returns-clause-nets : goal.returns-clause-nets
returns-clause-nets c = λ stays.
    merge_nets c.args.image.now c.args.moment c.user-user.result.now c.args.merge.family.space.now c.args.merge.family.parent.now (asked_view c.args.merge.asked) _ c.in_ok-own.own.items c.in_ok-gained.gained.items c.merge_with.result stays c.in_ok-own.ensures c.in_ok-gained.ensures
    c.merge_with.ensures.edits
