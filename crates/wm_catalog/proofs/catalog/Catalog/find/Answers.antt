use Rattle.wm_catalog.proofs.Entries.{lookup-found}
use Rattle.wm_catalog.proofs.catalog.Catalog.find.Goals as goal

pub returns : goal.returns
returns c = rw (c.get.ensures.value, ← c.self.view_is) (lookup-found c.args.name.now c.self.inside.tables.entries c.self.invariant)
