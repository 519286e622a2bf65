use Rattle.std.proofs.Common.{◌++◌, [], ◌∷◌, ap, ◌∙◌}
use Rattle.wm_ids.proofs.IdLists.{one_ascends}
use Rattle.wm_ids.proofs.id_list.both.Goals as goal

pub add_id-requires : goal.add_id-requires
add_id-requires c = rw (c.in_ok-push.ensures.items ∙ ap (λ xs. xs ++ c.args.other ∷ []) c.in_ok-ids.ensures.items) (one_ascends c.args.other)
