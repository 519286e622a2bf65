-- What a version holds of a table can be shown, over any keys that have all of those of which there is a piece.
use Rattle.std.proofs.Common.{◌≡◌, ℕ, ◌==◌, ◌&&◌, ◌||◌, nat_lt, nat_le, Bool, true, false, if◌then◌else◌, List, [], ◌∷◌, None, refl, sym, ap, ◌∙◌, arith}
use Rattle.std.proofs.lemmas.Bool.{or_parts}
use Rattle.std.specs.Bool.{then_some}
use Rattle.std.specs.List.{filter_map, list_any}
use Rattle.std.specs.Option.{option_or}
use Rattle.std.specs.Ordering.{is_eq}
use Rattle.wm_base.specs.Key.{key_order}
use Rattle.wm_base.specs.Period.{Span}
use Rattle.wm_base.specs.declared.row.Row.{Row}
use Rattle.wm_base.specs.declared.value.Value.{Value}
use Rattle.wm_graph.specs.Parts.{Parts}
use Rattle.wm_period.specs.Pieces.{Held}
use Rattle.wm_spec.specs.Lists.{Cell}
use Rattle.wm_spec.proofs.Keys.{key_in-ascends, key_in-has}
use Rattle.wm_spec.specs.Stretches.{Stretch, KeysAscend, cut_in, is_key_in, key_in, stretches}
use Rattle.wm_spec.specs.declared.record.piece.PieceRecord.{PieceRecord}
use Rattle.wm_spec.proofs.Stretches.{Up, Steady, Up-cut, Steady-cut, Off-own, Off-cut, Steady-or, Steady-then, Steady-period, AreMaximal-stretches, value-stretches}
use Rattle.wm_state.specs.Listing.{standing, stamp_seen, AreRowsOf, row_shown_with, is_unwritten, IsShowing, Groups, keys_of, joined, AreAllRowsOf}
use Rattle.wm_state.specs.Standing.{covers_at, held_by, stored_at, seen_at, newest_first}
use Rattle.wm_tree.specs.declared.version.Version.{Version as Node}

-- ---- what a version holds of a key changes at the ends of pieces only

-- the ends of pieces, ascending
abbrev ends : List PieceRecord → List ℕ
ends [] = []
ends (x ∷ xs) = cut_in x.cells.from 0 (cut_in x.cells.till 0 (ends xs))

Up-ends : (xs : List PieceRecord) → Up 0 (ends xs)
Up-ends [] = tt
Up-ends (x ∷ xs) = Up-cut x.cells.from 0 (cut_in x.cells.till 0 (ends xs)) (Up-cut x.cells.till 0 (ends xs) (Up-ends xs))

abbrev cell : ℕ → List Value → ℕ → Cell
cell table key t = record { table = table; key = key; time = t }

Steady-none : (low : ℕ) (cs : List ℕ) → Steady {A = Held} (λ t. None) low cs
Steady-none low [] = λ t le. refl
Steady-none low (a ∷ cs) = (λ t le lt. refl, Steady-none a cs)

-- what a piece says over its period, where it is of the version, the table and the key
Steady-gated : (a b : Bool) (from till low : ℕ) (h : Held) (cs : List ℕ) → Steady (λ t. then_some (nat_le from t && nat_lt t till) h) low cs
    → Steady (λ t. then_some (a && (b && (nat_le from t && nat_lt t till))) h) low cs
Steady-gated true true from till low h cs steady = steady
Steady-gated true false from till low h cs steady = Steady-none low cs
Steady-gated false b from till low h cs steady = Steady-none low cs

Steady-stored : (xs : List PieceRecord) (version table : ℕ) (key : List Value) → Steady (λ t. stored_at xs version (cell table key t)) 0 (ends xs)
Steady-stored [] version table key = λ t le. refl
Steady-stored (x ∷ xs) version table key =
    Steady-or (λ t. then_some (covers_at x version (cell table key t)) (held_by x)) (λ t. stored_at xs version (cell table key t)) 0 (ends (x ∷ xs))
    (Steady-gated (x.version == version) ((x.cells.table == table) && is_eq (key_order x.cells.key key)) x.cells.from x.cells.till 0 (held_by x) (ends (x ∷ xs))
    (Steady-period (held_by x) x.cells.from x.cells.till 0 (ends (x ∷ xs)) (Up-ends (x ∷ xs))
    (Off-own x.cells.from 0 (cut_in x.cells.till 0 (ends xs)) (Up-cut x.cells.till 0 (ends xs) (Up-ends xs)))
    (Off-cut x.cells.till x.cells.from 0 (cut_in x.cells.till 0 (ends xs)) (Off-own x.cells.till 0 (ends xs) (Up-ends xs)) (Up-cut x.cells.till 0 (ends xs) (Up-ends xs)))))
    (Steady-cut (λ t. stored_at xs version (cell table key t)) x.cells.from 0 (cut_in x.cells.till 0 (ends xs))
    (Steady-cut (λ t. stored_at xs version (cell table key t)) x.cells.till 0 (ends xs) (Steady-stored xs version table key)))

Steady-seen : (pieces : List PieceRecord) (nodes : List Node) (version table : ℕ) (key : List Value) → Steady (λ t. seen_at pieces nodes version (cell table key t)) 0 (ends pieces)
Steady-seen pieces [] version table key = Steady-none 0 (ends pieces)
Steady-seen pieces (x ∷ older) version table key = by_number (x.number == version) (Steady-seen pieces older x.parent table key) (Steady-seen pieces older version table key)
  where
    by_number : (b : Bool) → Steady (λ t. seen_at pieces older x.parent (cell table key t)) 0 (ends pieces) → Steady (λ t. seen_at pieces older version (cell table key t)) 0 (ends pieces)
        → Steady (λ t. if b then option_or (stored_at pieces version (cell table key t)) (seen_at pieces older x.parent (cell table key t)) else seen_at pieces older version (cell table key t)) 0 (ends pieces)
    by_number true up along =
        Steady-or (λ t. stored_at pieces version (cell table key t)) (λ t. seen_at pieces older x.parent (cell table key t)) 0 (ends pieces) (Steady-stored pieces version table key) up
    by_number false up along = along

Steady-stamp : (p : Parts) (version table : ℕ) (key : List Value) → Steady (stamp_seen p version table key) 0 (ends p.pieces)
Steady-stamp p version table key =
    Steady-then standing (λ t. seen_at p.pieces (newest_first p.versions) version (cell table key t)) 0 (ends p.pieces) (Steady-seen p.pieces (newest_first p.versions) version table key)

-- ---- so there are stretches of its rows

abbrev pub stretches_of : Parts → ℕ → ℕ → List Value → List Stretch
stretches_of p version table key = stretches (stamp_seen p version table key) 0 (ends p.pieces)

pub are_stretches : (p : Parts) (version table : ℕ) (key : List Value) → AreRowsOf p version table key (stretches_of p version table key)
are_stretches p version table key = record {
  maximal = AreMaximal-stretches (stamp_seen p version table key) 0 (ends p.pieces) (Up-ends p.pieces);
  held = λ t. value-stretches (stamp_seen p version table key) 0 (ends p.pieces) (Up-ends p.pieces) (Steady-stamp p version table key) t (omega arith);
}

-- ---- the keys of pieces, ascending

-- the keys of pieces, of all tables
abbrev pub keys_on : List PieceRecord → List (List Value)
keys_on [] = []
keys_on (x ∷ xs) = key_in x.cells.key (keys_on xs)

-- and one more
abbrev pub keys_with : Parts → List Value → List (List Value)
keys_with p key = key_in key (keys_on p.pieces)

ascend-on : (xs : List PieceRecord) → KeysAscend (keys_on xs)
ascend-on [] = tt
ascend-on (x ∷ xs) = key_in-ascends x.cells.key (keys_on xs) (ascend-on xs)

pub ascend-with : (p : Parts) (key : List Value) → KeysAscend (keys_with p key)
ascend-with p key = key_in-ascends key (keys_on p.pieces) (ascend-on p.pieces)

unwritten-out : (xs : List PieceRecord) (table : ℕ) (k : List Value) → is_key_in k (keys_on xs) ≡ false → is_unwritten xs table k
unwritten-out [] table k out = refl
unwritten-out (x ∷ xs) table k out =
    let h = or_parts (is_eq (key_order x.cells.key k)) (is_key_in k (keys_on xs)) (sym (key_in-has x.cells.key k (keys_on xs)) ∙ out) in
    none (x.cells.table == table) (is_eq (key_order x.cells.key k)) (list_any (λ (y : PieceRecord). (y.cells.table == table) && is_eq (key_order y.cells.key k)) xs) h.0 (unwritten-out xs table k h.1)
  where
    none : (a b c : Bool) → b ≡ false → c ≡ false → ((a && b) || c) ≡ false
    none true b c e f = rw (e, f) refl
    none false b c e f = f

-- ---- and what is shown of them

abbrev pub groups_of : Parts → ℕ → ℕ → List (List Value) → Groups
groups_of p version table [] = []
groups_of p version table (k ∷ ks) = (k, stretches_of p version table k) ∷ groups_of p version table ks

keys_are : (p : Parts) (version table : ℕ) (ks : List (List Value)) → keys_of (groups_of p version table ks) ≡ ks
keys_are p version table [] = refl
keys_are p version table (k ∷ ks) = ap (λ l. k ∷ l) (keys_are p version table ks)

groups_held : (p : Parts) (version table : ℕ) (ks : List (List Value)) → AreAllRowsOf p version table (groups_of p version table ks)
groups_held p version table [] = tt
groups_held p version table (k ∷ ks) = (are_stretches p version table k, groups_held p version table ks)

-- what is shown of the rows of a table that a version holds, where one key is gone through that may have none
abbrev pub rows_with : Parts → ℕ → ℕ → Bool → Span → List Value → List Row
rows_with p version table valid within key = filter_map (row_shown_with p valid within) (joined (groups_of p version table (keys_with p key)))

pub is_showing : (p : Parts) (version table : ℕ) (valid : Bool) (within : Span) (key : List Value) → IsShowing p version table valid within (rows_with p version table valid within key)
is_showing p version table valid within key = record {
  groups = groups_of p version table (keys_with p key);
  ascend = rw (keys_are p version table (keys_with p key)) (ascend-with p key);
  whole = λ k out. unwritten-out p.pieces table k
      (or_parts (is_eq (key_order key k)) (is_key_in k (keys_on p.pieces))
      (sym (key_in-has key k (keys_on p.pieces)) ∙ ap (is_key_in k) (sym (keys_are p version table (keys_with p key))) ∙ out)).1;
  held = groups_held p version table (keys_with p key);
  are = refl;
}
