-- What an UPDATE makes of rows to which it gives new periods: each row stands over its new period, and is gone where it stood and no new
-- period of its key is.
use Rattle.std.specs.Prelude.{Bool, not, if◌then◌else◌, List, [], ◌∷◌, ◌++◌, map, filter, unwrap_or, bytes_eq, Option, Some, None, option_map}
use Rattle.std.specs.List.{find, flat_map, list_any}
use Rattle.std.specs.Option.{option_and_then}
use Rattle.std.specs.BTreeMap.{is_at}
use Rattle.std.specs.Map.{lookup}
use Rattle.std.specs.Ordering.{nat_cmp, ordering_then, is_eq, is_lt}
use Rattle.std.specs.declared.alloc.Global.{Global}
use Rattle.std.specs.declared.vec.Vec.{Vec}
use Rattle.wm_base.specs.Key.{key_order}
use Rattle.wm_base.specs.declared.kind.Kind.TheVariants.{Update, Delete}
use Rattle.wm_base.specs.declared.row.Row.{Row}
use Rattle.wm_base.specs.declared.value.Value.{Value}
use Rattle.wm_base.specs.Period.{Span, always, equals, overlaps, shared, span_order}
use Rattle.wm_syntax.specs.Trees.{Set}
use Rattle.wm_ordering.specs.Sorting.{sorted}
use Rattle.wm_spec.specs.Expressions.{value_of}
use Rattle.wm_spec.specs.Operands.{period_of, wm_valid}
use Rattle.wm_spec.specs.declared.record.table.Table.{Table}
use Rattle.wm_temporal.specs.Uncovered.{free}
use Rattle.wm_dml.specs.Changing.{own_columns, row_key, row_period}
use Rattle.wm_dml.specs.declared.change.RowChange.{RowChange}
use Rattle.wm_dml.specs.declared.moving.Move.{Move}
use Rattle.wm_dml.specs.declared.moving.Shift.{Shift}

-- ---- the rows that move

-- what the set of WM_VALID gives a row; a set that is typed gives a period
abbrev pub new_period : Table → List Set → Row → Span
new_period t sets row =
    unwrap_or (option_and_then (λ (s : Set). option_and_then period_of (value_of s.becomes (own_columns t) row)) (find (λ (s : Set). bytes_eq s.name wm_valid) sets)) always

-- a row that takes the place of an old one: its key, where that one stood and where the new one will, and its values
abbrev pub move_of : Table → List Set → Row → List Value → Move
move_of t sets old row = record { key = row_key t row; shift = record { old = row_period t old; new = new_period t sets old }; row = row }

-- each in the place of the old one that stands where it stands
abbrev pub moves_of : Table → List Set → List Row → List (List Value) → List Move
moves_of t sets (old ∷ olds) (row ∷ rows) = move_of t sets old row ∷ moves_of t sets olds rows
moves_of t sets _ _ = []

-- the key of the row is this one
abbrev pub has_key : List Value → Move → Bool
has_key key m = is_eq (key_order m.key key)

-- where the rows of a key stood and will stand, row by row
abbrev pub shifts_of : List Value → List Move → List Shift
shifts_of key moves = map (λ (m : Move). m.shift) (filter (has_key key) moves)

-- where rows will stand
abbrev pub news_of : List Shift → List Span
news_of shifts = map (λ (s : Shift). s.new) shifts

-- the shifts that are kept under a key
abbrev pub shifts_under : List (List Value × Vec Shift Global) → List Value → List Shift
shifts_under entries key = unwrap_or (option_map (λ v. v.items) (lookup (is_at (key_order key)) entries)) []

-- ---- what new periods overlap

-- of the periods over which rows of the key stand those of the rows that do not move: a row is known by its period, for rows of one
-- key have different ones
abbrev pub staying : List Shift → List Span → List Span
staying shifts spans = filter (λ p. not (list_any (λ (s : Shift). equals s.old p) shifts)) spans

-- what a period shares with each of others that it overlaps
abbrev pub shared_with : Span → List Span → List Span
shared_with p [] = []
shared_with p (q ∷ qs) = if overlaps p q then shared p q ∷ shared_with p qs else shared_with p qs

-- what new periods share with rows that stay, and with one another
abbrev pub clashes : List Span → List Span → List Span
clashes stay [] = []
clashes stay (p ∷ ps) = shared_with p stay ++ shared_with p ps ++ clashes stay ps

-- the earlier of two periods, by from and then till
abbrev pub earlier : Option Span → Span → Option Span
earlier None q = Some q
earlier (Some p) q = Some (if is_lt (span_order q p) then q else p)

-- the earliest of a period and others
abbrev pub earliest : Option Span → List Span → Option Span
earliest best [] = best
earliest best (q ∷ qs) = earliest (earlier best q) qs

-- the earliest part that a new period of a key shares with a row that stays or with another new one, where rows of the key stand over
-- these periods
abbrev pub clash_in : List Shift → List Span → Option Span
clash_in shifts spans = earliest None (clashes (staying shifts spans) (news_of shifts))

-- ---- what is written

-- a row over its new period
abbrev pub moved_row : Move → RowChange
moved_row m = record { key = m.key; period = m.shift.new; row = Some m.row; kind = Update }

-- no row over a part of the old period
abbrev pub left_part : Move → Span → RowChange
left_part m part = record { key = m.key; period = part; row = let nothing : Option (List Value) = None in nothing; kind = Delete }

-- by from and then till
abbrev pub begins_before : Span → Span → Bool
begins_before p q = is_lt (span_order p q)

-- no row over each longest part of the old period that no new period of the key covers
abbrev pub left_parts : List Move → Move → List RowChange
left_parts moves m = map (left_part m) (free m.shift.old.from m.shift.old.till (sorted begins_before (news_of (shifts_of m.key moves))))

-- a change stands before another: by key and from
abbrev pub goes_before : RowChange → RowChange → Bool
goes_before x y = is_lt (ordering_then (key_order x.key y.key) (nat_cmp x.period.from y.period.from))

-- all that an UPDATE writes that moves rows
abbrev pub moving : List Move → List RowChange
moving moves = sorted goes_before (flat_map (left_parts moves) moves ++ map moved_row moves)
