-- Where pieces of a key are in conflict.
use Rattle.std.specs.Prelude.{ℕ, Bool, ◌&&◌, not, Option, is_some}
use Rattle.std.specs.Bool.{then_some}
use Rattle.std.specs.Option.{option_and_then}
use Rattle.wm_graph.specs.Parts.{Parts}
use Rattle.wm_net.specs.Conflicts.{Stamps}
use Rattle.wm_net.specs.Groups.{Group, cell}
use Rattle.wm_period.specs.Pieces.{held_at}
use Rattle.wm_spec.specs.declared.record.space.Space.{Space}
use Rattle.wm_state.specs.Listing.{standing}
use Rattle.wm_state.specs.Standing.{latest, seen}
use Rattle.wm_pending.specs.Lookups.{group_own}
use Rattle.wm_pending.specs.Settled.{is_settled}
use Rattle.wm_pending.specs.Touched.{is_touched, marks_since, since_of}
use Rattle.wm_pending.specs.declared.clash.Asked.{Asked}
use Rattle.wm_pending.specs.declared.own.OwnKey.{OwnKey}
use Rattle.wm_pending.specs.declared.sides.SideStamps.{SideStamps}
use Rattle.wm_pending.specs.declared.sides.Sides.{Sides}

-- stamps as the code has them
abbrev pub stamps_in : SideStamps → Stamps
stamps_in s = record { base = s.base; parent = s.parent; child = s.child }

-- the stamps of the rows that stand at a moment
abbrev pub stamps_at : Sides → ℕ → Stamps
stamps_at s t = record {
  base = option_and_then standing (held_at s.base t);
  parent = option_and_then standing (held_at s.parent t);
  child = option_and_then standing (held_at s.child t);
}

-- they, where the moment is contested
abbrev pub contest_at : Sides → ℕ → Option Stamps
contest_at s t = then_some (is_some (held_at s.contested t)) (stamps_at s t)

-- the stamps of the rows that versions hold at a moment of a key
abbrev pub asked_stamps : Parts → Asked → Group → ℕ → Stamps
asked_stamps p q g t = record {
  base = option_and_then standing (seen p q.base (cell g t));
  parent = option_and_then standing (seen p q.parent (cell g t));
  child = option_and_then standing (seen p q.child (cell g t));
}

-- own pieces cover the moment, a touch that is meant does, and no mark that is meant settles it
abbrev pub are_contested : Parts → Asked → OwnKey → ℕ → Bool
are_contested p q k t =
    is_some (held_at k.pieces t) && (is_touched p.touches q.since (cell (group_own k) t) && not (is_settled p q.marks q.since (cell (group_own k) t)))

-- what is asked for a workspace and its parent
abbrev pub asked_of : Parts → Space → Space → Asked
asked_of p a b = record { since = since_of a b; marks = marks_since a; base = a.base_version; parent = latest p b.number; child = latest p a.number }

-- they, where the moment is contested
abbrev pub asked_clash : Parts → Asked → OwnKey → ℕ → Option Stamps
asked_clash p q k t = then_some (are_contested p q k t) (asked_stamps p q (group_own k) t)
