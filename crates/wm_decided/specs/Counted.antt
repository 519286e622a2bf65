-- Over which periods of a key decisions count, and what they copy there: what is had on the way to marks and entries.
use Rattle.std.specs.Prelude.{ℕ, max, min, nat_lt, false, List, [], ◌∷◌, ◌++◌, map, Option, slice_get, unwrap_or}
use Rattle.std.specs.BTreeMap.{is_at}
use Rattle.std.specs.Bool.{then_some}
use Rattle.std.specs.List.{filter_map}
use Rattle.std.specs.Map.{lookup}
use Rattle.std.specs.Option.{option_and_then, option_map}
use Rattle.std.specs.Ordering.{nat_cmp, ordering_then}
use Rattle.std.specs.declared.cmp.Ordering.{Ordering}
use Rattle.wm_base.specs.Key.{key_order}
use Rattle.wm_base.specs.declared.kind.Kind.TheVariants.{Insert}
use Rattle.wm_base.specs.declared.stamp.Stamp.{Stamp}
use Rattle.wm_base.specs.declared.value.Value.{Value}
use Rattle.wm_net.specs.Conflicts.{Settled}
use Rattle.wm_net.specs.Groups.{Group}
use Rattle.wm_net.specs.Listed.{IsJoined, Ordered, Stretch, value_at}
use Rattle.wm_net.specs.Nets.{one_stamp}
use Rattle.wm_net.specs.Places.{last_position}
use Rattle.wm_period.specs.Pieces.{Held, held_at}
use Rattle.wm_period.specs.declared.piece.Piece.{Piece}
use Rattle.wm_spec.specs.Lists.{Cell, Told}
use Rattle.wm_state.specs.State.{Decision}
use Rattle.wm_decided.specs.Netted.{Copy, cells_decided, mark_for}

-- ---- by key

-- a table and a key
abbrev pub Place : Type 0
Place = ℕ × List Value

-- by table and key
abbrev pub place_order : Place → Place → Ordering
place_order a b = ordering_then (nat_cmp a.0 b.0) (key_order a.1 b.1)

abbrev pub group_in : Place → Group
group_in q = record { table = q.0; key = q.1 }

-- what a piece says over whose period the decision at a place counts
abbrev pub placed : ℕ → Held
placed place = record { stamp = (let s : Stamp = record { number = place } in s); kind = Insert; gone = false }

-- what pieces by key hold at a moment of a key
abbrev pub held_under : List (Place × List Piece) → Place → ℕ → Option Held
held_under counted q t = held_at (unwrap_or (lookup (is_at (place_order q)) counted) []) t

-- ---- of one key

-- what a decision copies lies in order, and no two neighbours could be one
abbrev pub IsSound : Decision → Type 0
IsSound d = Ordered 0 d.copied × IsJoined one_stamp d.copied

-- what stands for a decision that is not there
abbrev pub nobody : Decision
nobody = record { table = 0; key = []; from = 0; till = 0; copied = []; position = 0 }

-- the decision at a place
abbrev pub decision_in : List Decision → ℕ → Decision
decision_in ds place = unwrap_or (slice_get ds place) nobody

-- over which periods the decisions at which places count, by pieces
abbrev pub place_over : Piece → Stretch ℕ
place_over p = record { from = p.period.from; till = p.period.till; value = p.stamp.number }

abbrev pub places_over : List Piece → List (Stretch ℕ)
places_over ps = map place_over ps

-- a mark over a period, made at a place of a workspace
abbrev pub mark_by : List Decision → ℕ → Group → Stretch ℕ → Settled
mark_by ds place g s = mark_for place g (record { from = s.from; till = s.till; value = (s.value, decision_in ds s.value) })

-- what is copied over a stretch, in a period
abbrev pub copy_in : ℕ → ℕ → ℕ → Stretch Told → Option (Stretch Copy)
copy_in from till place s =
    then_some (nat_lt (max s.from from) (min s.till till))
    (record { from = max s.from from; till = min s.till till; value = (let c : Copy = record { place = place; told = s.value } in c) })

abbrev pub copies_in : ℕ → ℕ → ℕ → List (Stretch Told) → List (Stretch Copy)
copies_in from till place ss = filter_map (copy_in from till place) ss

-- what is copied where decisions count
abbrev pub copies_over : List Decision → List (Stretch ℕ) → List (Stretch Copy)
copies_over ds [] = []
copies_over ds (s ∷ ss) = copies_in s.from s.till s.value (decision_in ds s.value).copied ++ copies_over ds ss

-- ---- of the cell

-- the place of the decision that counts
abbrev pub place_at : List Decision → Cell → Option ℕ
place_at ds c = last_position (map cells_decided ds) c

-- what the decision at a place copies to a moment
abbrev pub copy_from : List Decision → ℕ → Option ℕ → Option Copy
copy_from ds t place = option_and_then (λ (n : ℕ). option_map (λ (x : Told). let c : Copy = record { place = n; told = x } in c) (value_at (decision_in ds n).copied t)) place
