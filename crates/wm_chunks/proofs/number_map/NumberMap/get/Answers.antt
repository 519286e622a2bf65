use Rattle.std.proofs.Common.{sym, ap, ◌∙◌}
use Rattle.wm_chunks.proofs.Newest.{found_newest, found_nowhere, found_older}
use Rattle.wm_chunks.specs.Numbers.{value_at}
use Rattle.wm_chunks.proofs.number_map.NumberMap.get.Goals as goal

pub returns-then-place-self : goal.returns-then-place-self
returns-then-place-self g c =
    c.find.ensures
    ∙ sym (found_older c.self.inside.older.entries c.self.inside.newest.place c.self.inside.newest.entries.items c.args.number c.self.invariant c.if-place-self.true)
    ∙ ap (λ m. value_at m.entries c.args.number) c.self.view_is

pub returns-then-self-place : goal.returns-then-self-place
returns-then-self-place g c =
    sym (found_nowhere c.self.inside.older.entries c.self.inside.newest.place c.self.inside.newest.entries.items c.args.number c.self.invariant c.if-self-place.true)
    ∙ ap (λ m. value_at m.entries c.args.number) c.self.view_is

pub returns : goal.returns
returns g c =
    c.get.ensures
    ∙ ap (λ es. value_at es c.args.number) c.as_slice.ensures.value
    ∙ sym (found_newest c.self.inside.older.entries c.self.inside.newest.place c.self.inside.newest.entries.items c.args.number c.self.invariant c.if-place-self.false)
    ∙ ap (λ m. value_at m.entries c.args.number) c.self.view_is
