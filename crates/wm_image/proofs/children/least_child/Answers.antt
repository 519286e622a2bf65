use Rattle.std.proofs.Common.{◌+◌, ℕ, List, Option, drop, get_or, refl, sym, ap, ◌∙◌, arith}
use Rattle.std.proofs.lemmas.List.{drop_all, drop_more}
use Rattle.std.specs.Option.{option_and_then, option_copied}
use Rattle.wm_graph.specs.Parts.{as_space}
use Rattle.wm_image.proofs.Least.{least-next, lesser-none}
use Rattle.wm_index.specs.Indexed.{listed}
use Rattle.wm_index.specs.Kinds.{kind_at, passing}
use Rattle.wm_image.specs.Shown.{is_child_from, least, lesser}
use Rattle.wm_spec.specs.declared.record.Record.{Record}
use Rattle.wm_spec.specs.declared.record.space.Space.{Space}
use Rattle.wm_image.proofs.children.least_child.Goals as goal

pub loop-id-init : goal.loop-id-init
loop-id-init c = refl

pub loop-id-preserved : goal.loop-id-preserved
loop-id-preserved c =
    ap (λ (o : Option Space). lesser o (least (is_child_from c.args.behind.space c.args.behind.place c.args.behind.log_length) (kind_at as_space (listed c.args.kept.now.entries) (drop (c.loop-id.id-index + 1) c.args.ids.now))))
    (c.lesser-least.ensures
    ∙ ap (lesser (option_copied c.loop-id.least))
    (c.child_at.ensures
    ∙ ap (λ (o : Option Record). passing (is_child_from c.args.behind.space c.args.behind.place c.args.behind.log_length) (option_and_then as_space o)) c.at.ensures))
    ∙ least-next (is_child_from c.args.behind.space c.args.behind.place c.args.behind.log_length) (listed c.args.kept.now.entries) (get_or c.args.ids.now c.loop-id.id-index 0) (drop (c.loop-id.id-index + 1) c.args.ids.now) (option_copied c.loop-id.least)
    ∙ ap (λ (ids : List ℕ). lesser (option_copied c.loop-id.least) (least (is_child_from c.args.behind.space c.args.behind.place c.args.behind.log_length) (kind_at as_space (listed c.args.kept.now.entries) ids)))
    (sym (drop_more c.args.ids.now c.loop-id.id-index 0 (omega (arith, c.loop-id-test.true))))
    ∙ c.loop-id.invariant

pub returns : goal.returns
returns c =
    sym (lesser-none (option_copied c.loop-id.least))
    ∙ ap (λ (ids : List ℕ). lesser (option_copied c.loop-id.least) (least (is_child_from c.args.behind.space c.args.behind.place c.args.behind.log_length) (kind_at as_space (listed c.args.kept.now.entries) ids)))
    (sym (drop_all c.loop-id.id-index c.args.ids.now (omega (arith, c.loop-id-test.false))))
    ∙ c.loop-id.invariant
