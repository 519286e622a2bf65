use Rattle.std.proofs.Common.{[], ◌∷◌, get_or, take, sym, ap, ◌∙◌}
use Rattle.std.proofs.lemmas.List.{take_more}
use Rattle.std.specs.Option.{option_and_then, option_to_list}
use Rattle.wm_append.specs.Layers.{mark_in}
use Rattle.wm_index.specs.Kinds.{kind_at}
use Rattle.wm_settled.specs.Settling.{cut, greater}
use Rattle.wm_state.specs.Drafts.{mark_piece}
use Rattle.wm_settle.proofs.Cut.{cut_more}
use Rattle.wm_settle.proofs.left.left_of.Goals as goal

pub loop-id-preserved : goal.loop-id-preserved
loop-id-preserved c =
    let view = mark_in c.args.space in
    let rs = c.args.image.now in
    let position = c.args.mark.position in
    let ids = c.marks_of-ids.result.now in
    let i = c.loop-id.id-index in
    let new = mark_piece c.args.place c.args.mark ∷ [] in
    cut_more view rs position (take i ids) (get_or ids i 0) new c.loop-id.left.items c.in_ok-left.left.items c.loop-id.invariant
    (c.in_ok-left.ensures ∙ ap (λ o. cut (greater position (option_to_list (option_and_then view o))) c.loop-id.left.items) c.record.ensures)
    ∙ ap (λ xs. cut (greater position (kind_at view rs xs)) new) (sym (take_more ids i 0 c.loop-id-test.true))
