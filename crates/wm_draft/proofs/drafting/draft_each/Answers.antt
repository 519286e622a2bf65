use Rattle.std.proofs.Common.{◌≡◌, ◌∷◌, [], ◌+◌, ◌-◌, List, length, refl, sym, ap, ◌∙◌}
use Rattle.std.specs.Vec.Iter.{into_iter_items, into_iter_len}
use Rattle.wm_spec.specs.declared.record.batch.Change.{Change}
use Rattle.wm_state.specs.ById.{applied}
use Rattle.wm_state.specs.Drafts.{followed_by}
use Rattle.wm_draft.proofs.Sequenced.{goes_can, goes_drafts, goes_first, goes_next, goes_none, goes_rest, goes_room, goes_rules, goes_spends, many_left, no_edits, none_spends}
use Rattle.wm_draft.proofs.drafting.draft_each.Goals as goal

-- where there are no changes none stand behind others
no_changes : (front last : List Change) → front ≡ [] → last ≡ [] → followed_by front last ≡ []
no_changes front last none nothing = ap (λ (cs : List Change). followed_by cs last) none ∙ nothing

pub returns-in_default-clause-drafts : goal.returns-in_default-clause-drafts
returns-in_default-clause-drafts c =
    goes_none c.args.image.now c.args.moment c.args.edits.items (followed_by c.args.front.now c.args.last.now) c.requires.rules (no_edits c.args.edits (sym c.into_iter-edits.ensures.len ∙ c.in_default.ensures.cases.0))
    (no_changes c.args.front.now c.args.last.now c.requires.front c.requires.last)

pub returns-in_default-clause-spends : goal.returns-in_default-clause-spends
returns-in_default-clause-spends c =
    none_spends c.args.image.now c.args.moment c.args.edits.items (followed_by c.args.front.now c.args.last.now) (no_edits c.args.edits (sym c.into_iter-edits.ensures.len ∙ c.in_default.ensures.cases.0))
    (no_changes c.args.front.now c.args.last.now c.requires.front c.requires.last)

-- the first edit is taken from the list
begins : (c : goal.After-into_iter-edit-iterator) → c.args.edits.items ≡ c.in-Some.first ∷ into_iter_items c.into_iter-edit-iterator.result
begins c = sym c.into_iter-edits.ensures.rest ∙ c.in-Some.ensures.items ∙ ap (λ it. c.in-Some.first ∷ into_iter_items it) (sym c.into_iter-edit-iterator.ensures.into_iter_gives)

-- as many others are left as are told
others : (c : goal.After-into_iter-edit-iterator) → into_iter_len c.into_iter-edit-iterator.result ≡ length (into_iter_items c.into_iter-edit-iterator.result)
others c =
    many_left (into_iter_len c.into_iter-edit-iterator.result) (into_iter_len c.into_iter-edits.result) c.args.edits c.in-Some.first (into_iter_items c.into_iter-edit-iterator.result) (begins c)
    (ap (λ it. into_iter_len it + 1) c.into_iter-edit-iterator.ensures.into_iter_gives ∙ c.in-Some.ensures.len) c.into_iter-edits.ensures.len

pub loop-edit-init : goal.loop-edit-init
loop-edit-init c =
    goes_first c.args.image.now c.args.moment (4096 - c.len.result + c.locks_by-locks.result) (into_iter_len c.into_iter-edit-iterator.result) c.args.edits.items (into_iter_items c.into_iter-edit-iterator.result) c.in-Some.first c.args.front.now
    c.in_ok-drafted.drafted c.requires.can (begins c) (others c)
    (ap (λ k. 4096 - k + c.locks_by-locks.result) (c.len.ensures ∙ ap into_iter_len (sym c.into_iter-edit-iterator.ensures.into_iter_gives)) ∙ ap (λ k. 4096 - into_iter_len c.into_iter-edit-iterator.result + k) c.locks_by-locks.ensures)
    c.in_ok-drafted.ensures.drafts c.in_ok-drafted.ensures.costs c.requires.front

pub draft_next-requires-clause-rules : goal.draft_next-requires-clause-rules
draft_next-requires-clause-rules c =
    goes_rules c.args.image.now c.args.moment (into_iter_len c.loop-edit.edit-iterator) c.args.edits.items c.loop-edit.yielded (into_iter_items c.loop-edit.edit-iterator) c.loop-edit.front c.loop-edit.last c.loop-edit.image
    (applied c.loop-edit.last c.loop-edit.image) c.requires.sorted c.loop-edit.invariant refl

pub draft_next-requires-clause-work : goal.draft_next-requires-clause-work
draft_next-requires-clause-work c =
    goes_room c.args.image.now c.args.moment (into_iter_len c.loop-edit.edit-iterator) c.args.edits.items c.loop-edit.yielded (into_iter_items c.loop-edit.edit-iterator) (into_iter_items c.next-in-loop-edit.new.self) c.in-Some-edit.edit
    c.loop-edit.front c.loop-edit.last c.loop-edit.image (applied c.loop-edit.last c.loop-edit.image) c.requires.sorted c.requires.can c.loop-edit.invariant c.in-Some-edit.ensures.steps.0 refl

pub draft_next-requires-clause-can : goal.draft_next-requires-clause-can
draft_next-requires-clause-can c =
    goes_can c.args.image.now c.args.moment (into_iter_len c.loop-edit.edit-iterator) c.args.edits.items c.loop-edit.yielded (into_iter_items c.loop-edit.edit-iterator) (into_iter_items c.next-in-loop-edit.new.self) c.in-Some-edit.edit
    c.loop-edit.front c.loop-edit.last c.loop-edit.image (applied c.loop-edit.last c.loop-edit.image) c.requires.sorted c.loop-edit.invariant c.in-Some-edit.ensures.steps.0 refl

pub loop-edit-preserved : goal.loop-edit-preserved
loop-edit-preserved c =
    goes_next c.args.image.now c.args.moment (into_iter_len c.loop-edit.edit-iterator) (into_iter_len c.next-in-loop-edit.new.self) c.args.edits.items c.loop-edit.yielded (into_iter_items c.loop-edit.edit-iterator)
    (into_iter_items c.next-in-loop-edit.new.self) c.in-Some-edit.edit c.loop-edit.front c.loop-edit.last c.draft_next.new.front c.draft_next.new.last c.loop-edit.image c.draft_next.new.image c.requires.sorted c.loop-edit.invariant
    c.in-Some-edit.ensures.steps.0 c.in-Some-edit.ensures.steps.1 c.in_ok-draft_next.ensures.image c.in_ok-draft_next.ensures.front c.in_ok-draft_next.ensures.drafts c.in_ok-draft_next.ensures.costs

pub returns-clause-rest : goal.returns-clause-rest
returns-clause-rest c =
    goes_rest c.args.image.now c.args.moment (into_iter_len c.loop-edit.edit-iterator) c.args.edits.items c.loop-edit.yielded (into_iter_items c.loop-edit.edit-iterator) c.loop-edit.front c.loop-edit.last
    (followed_by c.loop-edit.front c.loop-edit.last) c.loop-edit.image c.requires.sorted c.loop-edit.invariant refl

pub returns-clause-drafts : goal.returns-clause-drafts
returns-clause-drafts c =
    goes_drafts c.args.image.now c.args.moment (into_iter_len c.loop-edit.edit-iterator) c.args.edits.items c.loop-edit.yielded (into_iter_items c.loop-edit.edit-iterator) c.loop-edit.front c.loop-edit.last
    (followed_by c.loop-edit.front c.loop-edit.last) c.loop-edit.image c.loop-edit.invariant c.in-None.ensures.steps.0 refl

pub returns-clause-spends : goal.returns-clause-spends
returns-clause-spends c =
    goes_spends c.args.image.now c.args.moment (into_iter_len c.loop-edit.edit-iterator) c.args.edits.items c.loop-edit.yielded (into_iter_items c.loop-edit.edit-iterator) c.loop-edit.front c.loop-edit.last
    (followed_by c.loop-edit.front c.loop-edit.last) c.loop-edit.image c.requires.sorted c.loop-edit.invariant c.in-None.ensures.steps.0 refl
