use Rattle.std.proofs.Common.{◌≡◌, map, IfOk, [], ◌∷◌, refl, sym, ap, subst, ◌∙◌}
use Rattle.wm_graph.specs.Parts.{parts_of}
use Rattle.wm_state.specs.Drafts.{DraftsBy}
use Rattle.wm_state.specs.Editing.{entry_of}
use Rattle.wm_state.specs.Effects.{IsFree, IsLeaf}
use Rattle.wm_state.specs.Standing.{latest, newest_first}
use Rattle.wm_state.specs.declared.edit.Edit.TheVariants as edits
use Rattle.wm_append.proofs.Appended.{found_so}
use Rattle.wm_append.proofs.append.append.Goals as goal

pub append_here-requires-clause-there : goal.append_here-requires-clause-there
append_here-requires-clause-there c =
    (found_so (parts_of c.args.image.now) c.args.space (map entry_of c.args.entries) c.space.result c.unwrap-found.result c.unwrap-found.ensures c.space.ensures c.requires.can).there

pub append_here-requires-clause-can : goal.append_here-requires-clause-can
append_here-requires-clause-can c =
    (found_so (parts_of c.args.image.now) c.args.space (map entry_of c.args.entries) c.space.result c.unwrap-found.result c.unwrap-found.ensures c.space.ensures c.requires.can).can

newest : (c : goal.Then-is_spare) → c.latest.result ≡ latest (parts_of c.args.image.now) c.unwrap-found.result.now.number
newest c =
    c.latest.ensures
    ∙ ap (latest (parts_of c.args.image.now))
    (sym (found_so (parts_of c.args.image.now) c.args.space (map entry_of c.args.entries) c.space.result c.unwrap-found.result c.unwrap-found.ensures c.space.ensures c.requires.can).number)

pub append_here-requires-clause-leaf : goal.append_here-requires-clause-leaf
append_here-requires-clause-leaf c = subst (λ k. IsLeaf k (newest_first (parts_of c.args.image.now).versions)) (newest c) (c.if-is_spare.ensures.leaf refl)

pub append_here-requires-clause-free : goal.append_here-requires-clause-free
append_here-requires-clause-free c = subst (IsFree (parts_of c.args.image.now)) (newest c) (c.if-is_spare.ensures.free refl)

pub returns-then-is_spare-clause-drafts : goal.returns-then-is_spare-clause-drafts
returns-then-is_spare-clause-drafts c =
    subst (λ n. IfOk c.append_here.result (DraftsBy c.args.work c.args.image.now c.args.moment (edits.Append n c.args.entries ∷ [])))
    (found_so (parts_of c.args.image.now) c.args.space (map entry_of c.args.entries) c.space.result c.unwrap-found.result c.unwrap-found.ensures c.space.ensures c.requires.can).number
    c.append_here.ensures.drafts

pub append_above-requires-clause-there : goal.append_above-requires-clause-there
append_above-requires-clause-there c =
    (found_so (parts_of c.args.image.now) c.args.space (map entry_of c.args.entries) c.space.result c.unwrap-found.result c.unwrap-found.ensures c.space.ensures c.requires.can).there

pub append_above-requires-clause-can : goal.append_above-requires-clause-can
append_above-requires-clause-can c =
    (found_so (parts_of c.args.image.now) c.args.space (map entry_of c.args.entries) c.space.result c.unwrap-found.result c.unwrap-found.ensures c.space.ensures c.requires.can).can

pub append_above-requires-clause-used : goal.append_above-requires-clause-used
append_above-requires-clause-used c =
    subst (λ k. IsLeaf k (newest_first (parts_of c.args.image.now).versions) × IsFree (parts_of c.args.image.now) k → ⊥)
    (c.latest.ensures
    ∙ ap (latest (parts_of c.args.image.now))
    (sym (found_so (parts_of c.args.image.now) c.args.space (map entry_of c.args.entries) c.space.result c.unwrap-found.result c.unwrap-found.ensures c.space.ensures c.requires.can).number))
    (c.is_spare.ensures.used c.if-is_spare.false)

pub returns-clause-drafts : goal.returns-clause-drafts
returns-clause-drafts c =
    subst (λ n. IfOk c.append_above.result (DraftsBy c.args.work c.args.image.now c.args.moment (edits.Append n c.args.entries ∷ [])))
    (found_so (parts_of c.args.image.now) c.args.space (map entry_of c.args.entries) c.space.result c.unwrap-found.result c.unwrap-found.ensures c.space.ensures c.requires.can).number
    c.append_above.ensures.drafts
