-- What records tell of a workspace beside its parent: what it has of its own, what it gains of its parent, and where both changed.
use Rattle.std.specs.Prelude.{ℕ, ◌≡◌, ◌&&◌, ◌==◌, Bool, true, false, nat_le, nat_lt, not, if◌then◌else◌, List, map, Option, None, Some, is_some}
use Rattle.std.specs.Bool.{then_some}
use Rattle.std.specs.Option.{option_and_then, option_map}
use Rattle.wm_base.specs.declared.kind.Kind.{Kind}
use Rattle.wm_base.specs.declared.kind.Kind.TheVariants.{Insert, Update, Delete}
use Rattle.wm_base.specs.declared.value.Value.{Value}
use Rattle.wm_graph.specs.Parts.{Parts, row_of, space_of}
use Rattle.wm_net.specs.Conflicts.{Stamps}
use Rattle.wm_net.specs.Firsts.{IsFirstOf}
use Rattle.wm_net.specs.Groups.{Group, GroupsAscend}
use Rattle.wm_net.specs.Listed.{IsListing, Stretch}
use Rattle.wm_net.specs.Nets.{replayed}
use Rattle.wm_period.specs.Pieces.{Held}
use Rattle.wm_spec.specs.Lists.{Cell, Entry, Told}
use Rattle.wm_spec.specs.declared.record.row.RowRecord.{RowRecord}
use Rattle.wm_spec.specs.declared.record.space.Space.{Space}
use Rattle.wm_state.specs.Copied.{AreCopied, KeyPieces}
use Rattle.wm_state.specs.Editing.{row_value}
use Rattle.wm_state.specs.Listing.{standing}
use Rattle.wm_state.specs.Standing.{latest, owned, reached, seen}

-- ---- what pieces say

-- what a piece says, with its row
abbrev pub told_by : Parts → Held → Told
told_by p h = record {
  stamp = h.stamp.number;
  kind = h.kind;
  row = if h.gone then None else option_map (λ (r : RowRecord). row_value r.values) (row_of p.rows h.stamp.number);
}

abbrev pub same_kind : Kind → Kind → Bool
same_kind Insert Insert = true
same_kind Update Update = true
same_kind Delete Delete = true
same_kind _ _ = false

-- two say the same
abbrev pub same_held : Held → Held → Bool
same_held h k = (h.stamp.number == k.stamp.number) && (same_kind h.kind k.kind && (if h.gone then k.gone else not k.gone))

-- ---- one cell

-- a workspace with its parent, by their records
pub record AreFamily (p : Parts) (a b : Space) : Type 0 where
  pub child : space_of p.spaces a.number ≡ Some a
  pub parent : space_of p.spaces a.parent ≡ Some b

-- what a workspace has of its own
abbrev pub own_held : Parts → Space → Cell → Option Held
own_held p a c = owned p a.base_version a.number c

-- its parent changed the cell at the position from which on the workspace has not the parent's log, or behind it
abbrev pub is_pending : Parts → Space → Space → Cell → Bool
is_pending p a b c = nat_lt a.from (reached p.touches b.number b.next_place c)

-- what the parent holds where it did
abbrev pub pending_held : Parts → Space → Space → Cell → Option Held
pending_held p a b c = if is_pending p a b c then seen p (latest p b.number) c else None

-- so, where the workspace has nothing of its own
abbrev pub gained_held : Parts → Space → Space → Cell → Option Held
gained_held p a b c = if is_some (own_held p a c) then None else pending_held p a b c

-- the stamps of the rows that a workspace's base, its parent and itself hold
abbrev pub stamps_of : Parts → Space → Space → Cell → Stamps
stamps_of p a b c = record {
  base = option_and_then standing (seen p a.base_version c);
  parent = option_and_then standing (seen p (latest p b.number) c);
  child = option_and_then standing (seen p (latest p a.number) c);
}

-- the parent changed the cell at the position of each mark of the workspace that covers it, or behind it
abbrev pub is_unsettled : Parts → Space → Space → Cell → Bool
is_unsettled p a b c = nat_le (reached p.marks a.number a.next_place c) (reached p.touches b.number b.next_place c)

-- where both changed the cell, and it is not settled
abbrev pub clash_held : Parts → Space → Space → Cell → Option Stamps
clash_held p a b c = then_some (is_some (own_held p a c) && (is_pending p a b c && is_unsettled p a b c)) (stamps_of p a b c)

-- ---- what is found key by key

abbrev pub group_at : KeyPieces → Group
group_at k = record { table = k.table; key = k.key }

-- what a workspace has of its own, key by key, ascending
pub record AreOwn (p : Parts) (a : Space) (ks : List KeyPieces) : Type 0 where
  pub copied : AreCopied (own_held p a) ks
  pub ascend : GroupsAscend (map group_at ks)

-- a stretch of what pieces say as an entry of the line that writes it, with the row and the stamp that it had
abbrev pub replayed_by : Parts → ℕ → List ℕ → Group → Stretch Held → Entry
replayed_by p moment user g s = replayed moment user g (record { from = s.from; till = s.till; value = told_by p s.value })

-- entries list what a function of the cell gives, by table, key and from, each period as long as can be
abbrev pub IsHeldListing : Parts → ℕ → List ℕ → (Cell → Option Held) → List Entry → Type 0
IsHeldListing p moment user f es = IsListing same_held (replayed_by p moment user) f es

-- the first stretch on which a workspace and its parent are in conflict
pub record IsFirstClash (p : Parts) (a b : Space) (table : ℕ) (key : List Value) (from till : ℕ) : Type 0 where
  pub stamps : Stamps
  pub first : IsFirstOf (clash_held p a b) (record { table = table; key = key }) (record { from = from; till = till; value = stamps })
