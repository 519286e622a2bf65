use Rattle.std.proofs.Common.{map, List, false, ap, ◌∙◌}
use Rattle.std.proofs.lemmas.Result.{IfOk-weaker}
use Rattle.std.specs.List.{filter_map}
use Rattle.wm_syntax.specs.Views.{filter_view}
use Rattle.wm_decided.specs.Deciding.{decided_on}
use Rattle.wm_decided.specs.Keys.{key_as_row}
use Rattle.wm_dml.specs.Changing.{meets}
use Rattle.wm_graph.specs.Parts.{parts_of}
use Rattle.wm_pending.specs.Clashes.{conflict_pair}
use Rattle.wm_pending.specs.declared.clash.Conflict.{Conflict}
use Rattle.wm_resolve.proofs.DecidesLine.{decides}
use Rattle.wm_resolve.proofs.Keyed.{keys_fit, meant_pairs}
use Rattle.wm_resolve.specs.Deciding.{resolve_to}
use Rattle.wm_resolve.proofs.deciding.decide_on.Goals as goal

pub own_pieces-requires-clause-there : goal.own_pieces-requires-clause-there
own_pieces-requires-clause-there c = c.requires.family.child

pub meant-requires-clause-fitting : goal.meant-requires-clause-fitting
meant-requires-clause-fitting c =
    keys_fit (parts_of c.args.image.now) c.requires.rules c.args.deciding.space.now c.args.deciding.parent.now c.args.deciding.table.now c.requires.there c.args.deciding.columns.now c.in_ok-found.found.items c.requires.columns
    c.in_ok-found.ensures

pub returns-clause-does : goal.returns-clause-does
returns-clause-does c =
    let table = c.args.deciding.table.now.number in
    IfOk-weaker c.decide.result _ _
    (λ p does xs m workspace names.
    does xs m (resolve_to c.args.session.now workspace c.args.deciding.table.now (filter_view c.args.deciding.condition.now) c.args.deciding.keep false)
    (decides c.args.image.now xs m c.args.session.now workspace c.args.deciding.space.now c.args.deciding.parent.now c.args.deciding.table.now (filter_view c.args.deciding.condition.now) c.args.deciding.keep
    c.args.deciding.columns.now (map (conflict_pair table) c.in_ok-found.found.items) c.in_ok-decisions.decisions.items names c.requires.open c.requires.columns c.in_ok-found.ensures
    (λ s tells.
    c.in_ok-decisions.ensures s tells
    ∙ ap (λ (cs : List Conflict). filter_map (decided_on c.args.deciding.keep s) (map (conflict_pair table) cs)) (c.as_slice-2.ensures.value ∙ c.in_ok-meant.ensures)
    ∙ ap (filter_map (decided_on c.args.deciding.keep s)) (meant_pairs table (λ key. meets (filter_view c.args.deciding.condition.now) c.args.deciding.columns.now (key_as_row key)) c.in_ok-found.found.items))))
    c.decide.ensures.does
