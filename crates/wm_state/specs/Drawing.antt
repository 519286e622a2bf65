-- Pieces over other pieces: what lies under a new piece goes, and what lies before it and after it stays.
use Rattle.std.specs.Prelude.{ℕ, ◌≡◌, ◌<◌, ◌≤◌, ◌==◌, ◌&&◌, ◌||◌, Bool, true, not, nat_lt, if◌then◌else◌, min, max, List, [], ◌∷◌, ◌++◌, map, Option, None}
use Rattle.std.specs.Bool.{then_some}
use Rattle.std.specs.List.{filter, list_all, list_any, flat_map}
use Rattle.std.specs.Option.{option_or}
use Rattle.std.specs.Ordering.{is_gt}
use Rattle.wm_base.specs.Key.{key_order}
use Rattle.wm_base.specs.declared.value.Value.{Value}
use Rattle.wm_graph.specs.Rules.{differ, collide}
use Rattle.wm_period.specs.Pieces.{Held}
use Rattle.wm_spec.specs.Lists.{Cell}
use Rattle.wm_spec.specs.declared.record.piece.PieceRecord.{PieceRecord}
use Rattle.wm_state.specs.Batches.{is_in}
use Rattle.wm_state.specs.Standing.{covers_at, held_by, stored_at}

-- ---- one piece over others

-- a piece with other ends
abbrev pub between : ℕ → ℕ → PieceRecord → PieceRecord
between from till x = record x { cells = record x.cells { from = from; till = till } }

-- the piece with these ends, where the first is below the second
abbrev pub part : ℕ → ℕ → PieceRecord → List PieceRecord
part from till x = if nat_lt from till then between from till x ∷ [] else []

-- what a piece has before another one, and what it has after it
abbrev pub around : PieceRecord → PieceRecord → List PieceRecord
around over x = part x.cells.from (min x.cells.till over.cells.from) x ++ part (max x.cells.from over.cells.till) x.cells.till x

-- the same of a piece that shares a cell with the other; any other piece stays whole
abbrev pub left_by : PieceRecord → PieceRecord → List PieceRecord
left_by over x = if collide over x then around over x else x ∷ []

-- ---- pieces over others

-- new pieces over old ones, each over those before it
abbrev pub laid : List PieceRecord → List PieceRecord → List PieceRecord
laid [] xs = xs
laid (new ∷ news) xs = laid news (new ∷ flat_map (left_by new) xs)

-- what the last of these pieces says of a cell of a version
abbrev pub stored_last : List PieceRecord → ℕ → Cell → Option Held
stored_last [] version c = None
stored_last (x ∷ xs) version c = option_or (stored_last xs version c) (then_some (covers_at x version c) (held_by x))

-- no new piece shares a cell of its version with this one
abbrev pub is_clear : List PieceRecord → PieceRecord → Bool
is_clear news y = list_all (λ new. not (collide new y)) news

-- those of old pieces with which some new one does
abbrev pub touched : List PieceRecord → List PieceRecord → List PieceRecord
touched news old = filter (λ y. not (is_clear news y)) old

-- a test that passes a piece passes each part of it
abbrev pub PassesParts : (PieceRecord → Bool) → Type 0
PassesParts test = (x : PieceRecord) (from till : ℕ) → test x ≡ true → x.cells.from ≤ from → from < till → till ≤ x.cells.till → test (between from till x) ≡ true

-- one of the pieces ends or begins at a moment, and is of the version, table and key of another
abbrev pub ends_at : List PieceRecord → PieceRecord → ℕ → Bool
ends_at xs x moment = list_any (λ (y : PieceRecord). is_in x.version x.cells.table x.cells.key y && ((y.cells.from == moment) || (y.cells.till == moment))) xs

-- each piece ends and begins where some of others do
abbrev pub end_with : List PieceRecord → List PieceRecord → Bool
end_with xs drawn = list_all (λ (x : PieceRecord). ends_at xs x x.cells.from && ends_at xs x x.cells.till) drawn

-- pieces that stand for old ones with new ones over them: they hold at each cell what these hold, no two collide, each is one of
-- them or a part of one, and each ends where they do
pub record AreDrawn (news old drawn : List PieceRecord) : Type 0 where
  pub held : (version : ℕ) (c : Cell) → stored_at drawn version c ≡ option_or (stored_last news version c) (stored_at old version c)
  pub differ : differ collide drawn ≡ true
  pub pass : (test : PieceRecord → Bool) → PassesParts test → list_all test old ≡ true → list_all test news ≡ true → list_all test drawn ≡ true
  pub ends : end_with (old ++ news) drawn ≡ true

-- ---- what is asked of new pieces

-- the piece has a moment
abbrev pub has_moments : PieceRecord → Bool
has_moments x = nat_lt x.cells.from x.cells.till

-- the piece is of the version and the table
abbrev pub is_for : ℕ → ℕ → PieceRecord → Bool
is_for version table x = (x.version == version) && (x.cells.table == table)

-- the keys of pieces
abbrev pub piece_keys : List PieceRecord → List (List Value)
piece_keys xs = map (λ (x : PieceRecord). x.cells.key) xs

-- no key is above the next
abbrev pub are_sorted : List (List Value) → Bool
are_sorted [] = true
are_sorted (k ∷ []) = true
are_sorted (k ∷ l ∷ ls) = not (is_gt (key_order k l)) && are_sorted (l ∷ ls)

-- pieces that a version is to have of a table: each has a moment, and no key is above the next, so those of one key stand together
pub record AreNews (version table : ℕ) (news : List PieceRecord) : Type 0 where
  pub here : list_all (is_for version table) news ≡ true
  pub last : list_all has_moments news ≡ true
  pub sorted : are_sorted (piece_keys news) ≡ true
