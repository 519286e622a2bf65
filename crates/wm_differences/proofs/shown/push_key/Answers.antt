use Rattle.std.proofs.Common.{ℕ}
use Rattle.wm_graph.specs.Parts.{parts_of}
use Rattle.wm_net.specs.Groups.{cell}
use Rattle.wm_pending.specs.Sides.{contest_at}
use Rattle.wm_view_rows.specs.Differences.{difference_held}
use Rattle.wm_differences.proofs.Comparing.{gains_alike}
use Rattle.wm_differences.specs.Shown.{differing, group_in, versions_of}
use Rattle.wm_differences.proofs.shown.push_key.Goals as goal

pub returns : goal.returns
returns c = λ hold.
    gains_alike (parts_of c.args.image.now) c.args.asked.first.now c.args.asked.second.now c.args.asked.table.now c.args.key.now (λ (t : ℕ). differing (contest_at c.in_ok-sides.sides t))
    (λ (t : ℕ). difference_held (parts_of c.args.image.now) (versions_of c.args.versions) (cell (group_in c.args.asked.table.now c.args.key.now) t)) c.args.rows.now c.push_stretches-pushed.new.rows
    (c.in_ok-sides.ensures c.args.asked.table.now.number c.args.key.now hold) c.in_ok-pushed.ensures
