use Rattle.std.proofs.Common.{subst}
use Rattle.wm_dated.specs.Dated.{dated}
use Rattle.wm_graph.specs.Parts.{parts_of}
use Rattle.wm_history.proofs.Laying.{dated_ended}
use Rattle.wm_history.specs.Laid.{HasEnded, HoldBy}
use Rattle.wm_period.specs.Pieces.{Held}
use Rattle.wm_spec.specs.Lists.{Cell}
use Rattle.std.proofs.Common.{Option}
use Rattle.wm_state.specs.Listing.{IsShowingBy}
use Rattle.wm_version_rows.specs.declared.listing.Asked.{Asked}
use Rattle.wm_history.proofs.dated.dated_showing.Goals as goal

pub returns : goal.returns
returns c =
    let stood = c.in_ok-laid.ensures in
    record {
      logged = stood.logged;
      are_logged = stood.are_logged;
      shown =
          subst
          (λ (a : Asked). (f : Cell → Option Held) → HoldBy c.in_ok-laid.laid.entries a.table f → HasEnded f → IsShowingBy (parts_of c.args.image.now) f a.table a.valid a.within c.in_ok-rows.rows)
          c.of-asked.ensures c.in_ok-rows.ensures (dated (parts_of c.args.image.now) c.args.space.now stood.logged c.args.date) stood.hold
          (dated_ended (parts_of c.args.image.now) c.args.space.now c.args.date c.args.table.now.number stood.logged c.requires stood.are_logged);
    }
