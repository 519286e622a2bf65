use Rattle.std.proofs.Common.{ap, ◌∙◌}
use Rattle.wm_chunks.proofs.Joining.{none_left, some_left}
use Rattle.wm_chunks.proofs.Newest.{newest_tells, older_tells}
use Rattle.wm_chunks.specs.Numbers.{last_number}
use Rattle.wm_chunks.proofs.number_map.NumberMap.last_number.Goals as goal

pub returns-then-is_empty-clause-none : goal.returns-then-is_empty-clause-none
returns-then-is_empty-clause-none g c =
    (older_tells c.self.inside.older.entries c.self.inside.newest.place c.self.inside.newest.entries.items c.args.self.now c.greatest.result c.self.invariant c.self.view_is
    (none_left c.self.inside.newest.entries c.is_empty.result c.is_empty.ensures c.if-is_empty.true) c.greatest.ensures).none

pub returns-then-is_empty-clause-valued : goal.returns-then-is_empty-clause-valued
returns-then-is_empty-clause-valued g c =
    (older_tells c.self.inside.older.entries c.self.inside.newest.place c.self.inside.newest.entries.items c.args.self.now c.greatest.result c.self.invariant c.self.view_is
    (none_left c.self.inside.newest.entries c.is_empty.result c.is_empty.ensures c.if-is_empty.true) c.greatest.ensures).valued

pub returns-then-is_empty-clause-greatest : goal.returns-then-is_empty-clause-greatest
returns-then-is_empty-clause-greatest g c =
    (older_tells c.self.inside.older.entries c.self.inside.newest.place c.self.inside.newest.entries.items c.args.self.now c.greatest.result c.self.invariant c.self.view_is
    (none_left c.self.inside.newest.entries c.is_empty.result c.is_empty.ensures c.if-is_empty.true) c.greatest.ensures).greatest

pub returns-clause-none : goal.returns-clause-none
returns-clause-none g c =
    (newest_tells c.self.inside.older.entries c.self.inside.newest.place c.self.inside.newest.entries.items c.args.self.now c.last.result c.self.invariant c.self.view_is
    (some_left c.self.inside.newest.entries c.is_empty.result c.is_empty.ensures c.if-is_empty.false) (c.last.ensures ∙ ap last_number c.as_slice.ensures.value)).none

pub returns-clause-valued : goal.returns-clause-valued
returns-clause-valued g c =
    (newest_tells c.self.inside.older.entries c.self.inside.newest.place c.self.inside.newest.entries.items c.args.self.now c.last.result c.self.invariant c.self.view_is
    (some_left c.self.inside.newest.entries c.is_empty.result c.is_empty.ensures c.if-is_empty.false) (c.last.ensures ∙ ap last_number c.as_slice.ensures.value)).valued

pub returns-clause-greatest : goal.returns-clause-greatest
returns-clause-greatest g c =
    (newest_tells c.self.inside.older.entries c.self.inside.newest.place c.self.inside.newest.entries.items c.args.self.now c.last.result c.self.invariant c.self.view_is
    (some_left c.self.inside.newest.entries c.is_empty.result c.is_empty.ensures c.if-is_empty.false) (c.last.ensures ∙ ap last_number c.as_slice.ensures.value)).greatest
