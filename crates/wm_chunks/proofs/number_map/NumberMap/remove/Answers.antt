use Rattle.std.proofs.Common.{◌++◌, None, sym, ap, subst, ◌∙◌}
use Rattle.wm_chunks.proofs.Newest.{found_newest, found_nowhere, found_older, newest_changed, newest_ordered, newest_sets, older_changed, older_sets}
use Rattle.wm_chunks.proofs.Placing.{gone_told}
use Rattle.wm_chunks.specs.Numbers.{AreOrdered, Sets, joined, value_at}
use Rattle.wm_chunks.proofs.number_map.NumberMap.remove.Goals as goal

-- an older chunk has the place
pub returns-then-place-self-clause-old : goal.returns-then-place-self-clause-old
returns-then-place-self-clause-old g c =
    c.take.ensures.old
    ∙ sym (found_older c.self.inside.older.entries c.self.inside.newest.place c.self.inside.newest.entries.items c.args.number c.self.invariant c.if-place-self.true)
    ∙ ap (λ m. value_at m.entries c.args.number) c.self.view_is

pub returns-then-place-self-clause-sets : goal.returns-then-place-self-clause-sets
returns-then-place-self-clause-sets g c =
    subst (λ m. Sets c.args.number None m.entries (joined c.take.new.chunks.entries ++ c.self.inside.newest.entries.items)) c.self.view_is
    (older_sets c.self.inside.older.entries c.self.inside.newest.place c.self.inside.newest.entries.items (joined c.take.new.chunks.entries) c.args.number None c.self.invariant c.if-place-self.true c.take.ensures.sets)

pub returns-then-place-self-clause-ordered : goal.returns-then-place-self-clause-ordered
returns-then-place-self-clause-ordered g c =
    newest_ordered c.take.new.chunks.entries c.self.inside.newest.place c.self.inside.newest.entries.items
    (older_changed c.self.inside.older.entries c.take.new.chunks.entries c.self.inside.newest.place c.self.inside.newest.entries.items c.args.number None c.self.invariant c.if-place-self.true c.take.ensures.chunks c.take.ensures.sets)

-- none has it
pub returns-then-self-place-clause-old : goal.returns-then-self-place-clause-old
returns-then-self-place-clause-old g c =
    sym (found_nowhere c.self.inside.older.entries c.self.inside.newest.place c.self.inside.newest.entries.items c.args.number c.self.invariant c.if-self-place.true)
    ∙ ap (λ m. value_at m.entries c.args.number) c.self.view_is

pub returns-then-self-place-clause-sets : goal.returns-then-self-place-clause-sets
returns-then-self-place-clause-sets g c =
    subst (λ m. Sets c.args.number None m.entries m.entries) c.self.view_is
    (gone_told (joined c.self.inside.older.entries ++ c.self.inside.newest.entries.items) c.args.number
    (found_nowhere c.self.inside.older.entries c.self.inside.newest.place c.self.inside.newest.entries.items c.args.number c.self.invariant c.if-self-place.true))

pub returns-then-self-place-clause-ordered : goal.returns-then-self-place-clause-ordered
returns-then-self-place-clause-ordered g c =
    subst (λ m. AreOrdered m.entries) c.self.view_is
    (newest_ordered c.self.inside.older.entries c.self.inside.newest.place c.self.inside.newest.entries.items c.self.invariant)

-- the newest chunk has it
pub returns-clause-old : goal.returns-clause-old
returns-clause-old g c =
    c.remove.ensures.old
    ∙ sym (found_newest c.self.inside.older.entries c.self.inside.newest.place c.self.inside.newest.entries.items c.args.number c.self.invariant c.if-place-self.false)
    ∙ ap (λ m. value_at m.entries c.args.number) c.self.view_is

pub returns-clause-sets : goal.returns-clause-sets
returns-clause-sets g c =
    subst (λ m. Sets c.args.number None m.entries (joined c.self.inside.older.entries ++ c.remove.new.chunk.items)) c.self.view_is
    (newest_sets c.self.inside.older.entries c.self.inside.newest.place c.self.inside.newest.entries.items c.remove.new.chunk.items c.args.number None c.self.invariant c.if-place-self.false c.remove.ensures.sets)

pub returns-clause-ordered : goal.returns-clause-ordered
returns-clause-ordered g c =
    newest_ordered c.self.inside.older.entries c.self.inside.newest.place c.remove.new.chunk.items
    (newest_changed c.self.inside.older.entries c.self.inside.newest.place c.self.inside.newest.entries.items c.remove.new.chunk.items c.args.number c.self.invariant c.if-place-self.false c.if-self-place.false c.remove.ensures.chunk)
