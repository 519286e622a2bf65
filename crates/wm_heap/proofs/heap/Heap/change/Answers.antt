use Rattle.std.proofs.Common.{ℕ, List, Option, OnOk, sym, subst}
use Rattle.wm_heap.specs.Draft.{slot_size}
use Rattle.wm_heap.specs.Room.{Spreads}
use Rattle.wm_heap.proofs.heap.Heap.change.Goals as goal

pub returns-in-Some-bytes-clause-spread : goal.returns-in-Some-bytes-clause-spread
returns-in-Some-bytes-clause-spread g c = λ t knows.
    subst (λ (o : Option (List ℕ)). OnOk c.add.result (Spreads c.args.self.now c.add.new.self c.args.changed.now.entries c.add.new.changed.entries (g.G.Pages.held c.args.pages.now) (slot_size o)))
    (sym c.in-Some-bytes.is) (c.add.ensures.spread t knows)
