use Rattle.std.proofs.Common.{ℕ, List, sym, subst}
use Rattle.wm_graph.specs.Parts.{as_hist}
use Rattle.wm_index.proofs.Positions.{by_position}
use Rattle.wm_index.specs.Hists.{AreByPosition}
use Rattle.wm_index.specs.Indexed.{listed}
use Rattle.wm_index.specs.Kinds.{kind_at}
use Rattle.wm_index.proofs.hists.ids_by_position.Goals as goal

pub returns : goal.returns
returns c =
    let ss = listed c.args.kept.now.entries in
    subst (λ (ids : List ℕ). AreByPosition (kind_at as_hist ss ids) (kind_at as_hist ss c.args.ids.now.keys)) (sym c.in_ok-found.ensures.ids)
    (by_position ss c.args.ids.now.keys c.in_ok-places.places.entries c.in_ok-found.ensures.ordered c.in_ok-places.ensures)
