use Rattle.std.proofs.Common.{◌++◌, Some, sym, ap, subst, ◌∙◌}
use Rattle.std.proofs.lemmas.Result.{IfOk-weaker, on_ok_weaker}
use Rattle.wm_chunks.proofs.Newest.{found_newest, found_nowhere, found_older, newest_changed, newest_ordered, newest_sets, older_put, older_sets}
use Rattle.wm_chunks.specs.Numbers.{Sets, joined, value_at}
use Rattle.wm_chunks.proofs.number_map.NumberMap.insert.Goals as goal

-- an older chunk has the place
pub returns-then-place-self-clause-old : goal.returns-then-place-self-clause-old
returns-then-place-self-clause-old g c =
    IfOk-weaker c.put.result _ _
    (λ old is. is
    ∙ sym (found_older c.self.inside.older.entries c.self.inside.newest.place c.self.inside.newest.entries.items c.args.number c.self.invariant c.if-place-self.true)
    ∙ ap (λ m. value_at m.entries c.args.number) c.self.view_is)
    c.put.ensures.old

pub returns-then-place-self-clause-sets : goal.returns-then-place-self-clause-sets
returns-then-place-self-clause-sets g c =
    on_ok_weaker c.put.result
    (λ sets. subst (λ m. Sets c.args.number (Some c.args.value) m.entries (joined c.put.new.chunks.entries ++ c.self.inside.newest.entries.items)) c.self.view_is
    (older_sets c.self.inside.older.entries c.self.inside.newest.place c.self.inside.newest.entries.items (joined c.put.new.chunks.entries) c.args.number (Some c.args.value) c.self.invariant c.if-place-self.true sets))
    c.put.ensures.sets

pub returns-then-place-self-clause-ordered : goal.returns-then-place-self-clause-ordered
returns-then-place-self-clause-ordered g c =
    newest_ordered c.put.new.chunks.entries c.self.inside.newest.place c.self.inside.newest.entries.items
    (older_put c.self.inside.older.entries c.put.new.chunks.entries c.self.inside.newest.place c.self.inside.newest.entries.items c.args.number c.args.value c.put.result c.self.invariant c.if-place-self.true c.put.ensures.chunks
    c.put.ensures.sets c.put.ensures.err)

-- it is greater than all
pub returns-in_err-begin_newest-clause-ordered : goal.returns-in_err-begin_newest-clause-ordered
returns-in_err-begin_newest-clause-ordered g c =
    newest_ordered c.begin_newest.new.older.entries c.begin_newest.new.newest.place c.begin_newest.new.newest.entries.items c.begin_newest.ensures.newest

pub returns-then-self-place-clause-old : goal.returns-then-self-place-clause-old
returns-then-self-place-clause-old g c =
    sym (found_nowhere c.self.inside.older.entries c.self.inside.newest.place c.self.inside.newest.entries.items c.args.number c.self.invariant c.if-self-place.true)
    ∙ ap (λ m. value_at m.entries c.args.number) c.self.view_is

pub returns-then-self-place-clause-ordered : goal.returns-then-self-place-clause-ordered
returns-then-self-place-clause-ordered g c =
    newest_ordered c.begin_newest.new.older.entries c.begin_newest.new.newest.place c.begin_newest.new.newest.entries.items c.begin_newest.ensures.newest

-- the newest chunk has it
pub returns-clause-old : goal.returns-clause-old
returns-clause-old g c =
    IfOk-weaker c.insert.result _ _
    (λ old is. is
    ∙ sym (found_newest c.self.inside.older.entries c.self.inside.newest.place c.self.inside.newest.entries.items c.args.number c.self.invariant c.if-place-self.false)
    ∙ ap (λ m. value_at m.entries c.args.number) c.self.view_is)
    c.insert.ensures.old

pub returns-clause-sets : goal.returns-clause-sets
returns-clause-sets g c =
    on_ok_weaker c.insert.result
    (λ sets. subst (λ m. Sets c.args.number (Some c.args.value) m.entries (joined c.self.inside.older.entries ++ c.insert.new.chunk.items)) c.self.view_is
    (newest_sets c.self.inside.older.entries c.self.inside.newest.place c.self.inside.newest.entries.items c.insert.new.chunk.items c.args.number (Some c.args.value) c.self.invariant c.if-place-self.false sets))
    c.insert.ensures.sets

pub returns-clause-ordered : goal.returns-clause-ordered
returns-clause-ordered g c =
    newest_ordered c.self.inside.older.entries c.self.inside.newest.place c.insert.new.chunk.items
    (newest_changed c.self.inside.older.entries c.self.inside.newest.place c.self.inside.newest.entries.items c.insert.new.chunk.items c.args.number c.self.invariant c.if-place-self.false c.if-self-place.false c.insert.ensures.chunk)
