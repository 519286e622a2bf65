-- A log gained entries: it is longer by them, and the records agree with the state.
use Rattle.std.proofs.Common.{◌≡◌, ℕ, List, refl, ap}
use Rattle.wm_graph.specs.Parts.{Parts}
use Rattle.wm_spec.specs.Lists.{Entry}
use Rattle.wm_state.specs.State.{with_gained, with_space, Durable}
use Rattle.wm_state.specs.Standing.{CountersStand, FieldsStand}
use Rattle.wm_state.proofs.Frames.{KeepRows}
use Rattle.wm_state.proofs.Keeping.{KeepRows-same}
use Rattle.wm_state.proofs.Logging.{rows-kept}
use Rattle.wm_state.proofs.Ready.{KeepReady-same}
use Rattle.wm_written.proofs.Longer.{FieldsStand-longer, IsLonger}
use Rattle.wm_gained.specs.Gaining.{Gained}

-- the log of a workspace is longer
pub longer_gained : (p q : Parts) (n : ℕ) (es : List Entry) → Gained p q n es → IsLonger p q n es
longer_gained p q n es g = record {
  count = g.count;
  old = g.old;
  old_is = g.old_is;
  here = g.here;
  elsewhere = g.elsewhere;
  rows_kept = rows;
  rows = rows-kept p q p.tables p.tables rows (KeepReady-same p.tables p.tables refl) es g.real g.rows;
  real = g.real;
  place = g.place;
  last = g.last;
  touches = g.touches;
  hists = g.hists;
  rest = ap (λ (z : Parts). record z { rows = p.rows; pieces = p.pieces }) g.rest;
}
  where
    rows : KeepRows p q
    rows = KeepRows-same p q (ap (λ (z : Parts). z.rows) g.rest)

-- the records agree with the state
pub FieldsStand-gained : (p q : Parts) (s t : Durable) (n : ℕ) (es : List Entry) → Gained p q n es → FieldsStand p s → t.spaces ≡ with_space n (with_gained es) s.spaces → t.tables ≡ s.tables → CountersStand q t → FieldsStand q t
FieldsStand-gained p q s t n es g st spaces tables counters = FieldsStand-longer p q s t n es (λ own. own) (longer_gained p q n es g) spaces st tables counters
