use Rattle.std.proofs.Common.{◌+◌, ℕ, List, Option, drop, get_or, sym, ap, ◌∙◌, arith}
use Rattle.std.proofs.lemmas.List.{drop_all, drop_more}
use Rattle.std.specs.Option.{option_and_then, option_copied, option_map}
use Rattle.wm_graph.specs.Parts.{as_space, parts_of}
use Rattle.wm_ground.specs.Grounds.{outline_on}
use Rattle.wm_image.proofs.Least.{least-next, least_told, lesser-none}
use Rattle.wm_image.specs.Shown.{least, lesser}
use Rattle.wm_index.specs.Kinds.{kind_at, passing}
use Rattle.wm_model.specs.Step.{depends}
use Rattle.wm_outline.proofs.Looks.{first_by}
use Rattle.wm_outline.specs.Outline.{outline_by}
use Rattle.wm_space.proofs.Depending.{takes}
use Rattle.wm_spec.specs.declared.record.Record.{Record}
use Rattle.wm_spec.specs.declared.record.space.Space.{Space}
use Rattle.wm_state.specs.Standing.{saved_fields}
use Rattle.wm_space.proofs.dependent.first_dependent.Goals as goal

pub loop-id-init : goal.loop-id-init
loop-id-init c =
    let test = takes c.args.ground c.args.space.now c.args.savepoint.now in
    ap (least test) c.spaces-id-items.ensures ∙ least_told (parts_of c.args.ground.image.now) c.args.ground.rules test

pub loop-id-preserved : goal.loop-id-preserved
loop-id-preserved c =
    let ss = c.args.ground.image.now in
    let test = takes c.args.ground c.args.space.now c.args.savepoint.now in
    let items = c.spaces-id-items.result.now in
    let rest = drop (c.loop-id.id-index + 1) items in
    let best = option_copied c.loop-id.first in
    ap (λ (o : Option Space). lesser o (least test (kind_at as_space ss rest)))
    (c.lesser-first.ensures ∙ ap (lesser best) (c.dependent_at.ensures ∙ ap (λ (o : Option Record). passing test (option_and_then as_space o)) c.record-found.ensures))
    ∙ least-next test ss (get_or items c.loop-id.id-index 0) rest best
    ∙ ap (λ (ids : List ℕ). lesser best (least test (kind_at as_space ss ids))) (sym (drop_more items c.loop-id.id-index 0 (omega (arith, c.loop-id-test.true))))
    ∙ c.loop-id.invariant

pub returns : goal.returns
returns c =
    let ss = c.args.ground.image.now in
    let p = parts_of ss in
    let test = takes c.args.ground c.args.space.now c.args.savepoint.now in
    first_by p (depends (outline_on c.args.ground).sessions (outline_by p c.args.space.now) (saved_fields c.args.savepoint.now))
    ∙ ap (option_map (outline_by p))
    (sym
    (sym (lesser-none (option_copied c.loop-id.first))
    ∙ ap (λ (ids : List ℕ). lesser (option_copied c.loop-id.first) (least test (kind_at as_space ss ids))) (sym (drop_all c.loop-id.id-index c.spaces-id-items.result.now (omega (arith, c.loop-id-test.false))))
    ∙ c.loop-id.invariant))
