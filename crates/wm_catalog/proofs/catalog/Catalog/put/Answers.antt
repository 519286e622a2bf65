use Rattle.std.proofs.Common.{◌∙◌}
use Rattle.wm_catalog.proofs.Entries.{added, named_still}
use Rattle.wm_catalog.proofs.catalog.Catalog.put.Goals as goal

pub invariant_of-self-2 : goal.invariant_of-self-2
invariant_of-self-2 c =
    rw c.in_ok-insert.ensures.entries
    (named_still c.args.table c.self.inside.tables.entries c.in_ok-name.name c.self.invariant (c.in_ok-name.ensures.items ∙ c.as_bytes.ensures))

pub returns : goal.returns
returns c = λ none.
    rw (c.in_ok-insert.ensures.entries, ← c.self.view_is)
    (added c.args.table c.self.inside.tables.entries c.in_ok-name.name c.self.invariant
    (c.in_ok-name.ensures.items ∙ c.as_bytes.ensures) (rw c.self.view_is none))
