use Rattle.std.proofs.Common.{◌≡◌, ℕ}
use Rattle.std.specs.Option.{option_or}
use Rattle.wm_index.specs.Hists.{first_at, placed_at}
use Rattle.wm_index.specs.Indexed.{listed}
use Rattle.wm_index.proofs.hists.places_of.Given as goal

abbrev pub invariant-loop-id : goal.invariant-loop-id
invariant-loop-id l =
    (q : ℕ) → option_or (placed_at l.places.entries q) (first_at (listed l.kept.entries) q l.id-iterator) ≡ first_at (listed l.kept.entries) q l.ids.keys
