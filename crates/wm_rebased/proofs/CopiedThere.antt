-- What is copied is there: where all that is held is seen in some version, the records of its joined pieces are on cells of tables, with
-- stamps that were given and rows that are there (copied_there); so it is of what a workspace has of its own (own_there).
use Rattle.std.proofs.Common.{◌≡◌, ℕ, ◌<◌, ◌≤◌, ◌==◌, nat_le, nat_lt, Bool, true, false, ◌&&◌, ◌||◌, cond, if◌then◌else◌, List, [], ◌∷◌, map, Option, Some, None, is_some, refl, sym, ap, ◌∙◌, arith}
use Rattle.std.proofs.lemmas.Bool.{eq-eqb, eqb-true, and_from, and_parts, le-leb, lt-ltb}
use Rattle.std.proofs.lemmas.List.Elements.{All-head, All-tail}
use Rattle.std.proofs.lemmas.List.Folds.{list_all-append}
use Rattle.std.proofs.lemmas.Option.{same_Some, none-some}
use Rattle.std.specs.Bool.{then_some}
use Rattle.std.specs.List.{All, list_all}
use Rattle.std.specs.Option.{option_and_then, option_map_or, option_or}
use Rattle.std.specs.Ordering.{is_eq}
use Rattle.wm_base.specs.Key.{key_order}
use Rattle.wm_base.specs.declared.instant.TheConstants.{END}
use Rattle.wm_base.specs.declared.value.Value.{Value}
use Rattle.wm_graph.specs.Parts.{Parts, row_of, table_of, version_of}
use Rattle.wm_graph.specs.Rules.{are_cells, are_pieces, collide, differ, is_key, is_key_of, is_piece, key_of}
use Rattle.wm_period.specs.Pieces.{Between, Held, held, held_at}
use Rattle.wm_period.specs.declared.piece.Piece.{Piece}
use Rattle.wm_spec.specs.Lists.{Cell}
use Rattle.wm_spec.specs.declared.record.piece.PieceRecord.{PieceRecord}
use Rattle.wm_spec.specs.declared.record.row.RowRecord.{RowRecord}
use Rattle.wm_spec.specs.declared.record.table.Table.{Table}
use Rattle.wm_tree.specs.declared.version.Version.{Version as Node}
use Rattle.wm_state.specs.Standing.{covers_at, held_by, latest, newest_first, owned, seen, seen_at, stored_at}
use Rattle.wm_state.proofs.Laying.{key_same}
use Rattle.wm_state.specs.Copied.{AreCopied, HoldsKey, KeyPieces, key_cell, piece_for, pieces_for}
use Rattle.wm_rebased.specs.Rebasing.{is_copied}
use Rattle.wm_state.proofs.Owning.{own-seen}

-- ---- a piece that says what is seen

-- a piece of the cell's table and key that passes a test and says this
record SaysSo (test : PieceRecord → Bool) (c : Cell) (h : Held) : Type 0 where
  piece : PieceRecord
  passes : test piece ≡ true
  table : piece.cells.table ≡ c.table
  key : piece.cells.key ≡ c.key
  says : held_by piece ≡ h

stored_says : (test : PieceRecord → Bool) (xs : List PieceRecord) (v : ℕ) (c : Cell) (h : Held) → list_all test xs ≡ true → stored_at xs v c ≡ Some h → SaysSo test c h
stored_says test [] v c h all is = absurd (none-some h is)
stored_says test (x ∷ xs) v c h all is = by_test (covers_at x v c) refl (stored_says test xs v c h (and_parts (test x) (list_all test xs) all).1)
  where
    by_test : (b : Bool) → covers_at x v c ≡ b → (stored_at xs v c ≡ Some h → SaysSo test c h) → SaysSo test c h
    by_test true e rest =
        let g = and_parts (x.version == v) (((x.cells.table == c.table) && is_eq (key_order x.cells.key c.key)) && (nat_le x.cells.from c.time && nat_lt c.time x.cells.till)) e in
        let j = and_parts ((x.cells.table == c.table) && is_eq (key_order x.cells.key c.key)) (nat_le x.cells.from c.time && nat_lt c.time x.cells.till) g.1 in
        let l = and_parts (x.cells.table == c.table) (is_eq (key_order x.cells.key c.key)) j.0 in
        record {
          piece = x;
          passes = (and_parts (test x) (list_all test xs) all).0;
          table = eqb-true x.cells.table c.table l.0;
          key = key_same x.cells.key c.key l.1;
          says = same_Some (held_by x) h (sym (ap (λ d. option_or (then_some d (held_by x)) (stored_at xs v c)) e) ∙ is);
        }
    by_test false e rest = rest (sym (ap (λ d. option_or (then_some d (held_by x)) (stored_at xs v c)) e) ∙ is)

seen_says : (test : PieceRecord → Bool) (xs : List PieceRecord) (nodes : List Node) (v : ℕ) (c : Cell) (h : Held) → list_all test xs ≡ true → seen_at xs nodes v c ≡ Some h → SaysSo test c h
seen_says test xs [] v c h all is = absurd (none-some h is)
seen_says test xs (x ∷ older) v c h all is =
    by_test (x.number == v) (stored_at xs v c) refl is (seen_says test xs older x.parent c h all) (seen_says test xs older v c h all)
  where
    by_test : (b : Bool) (o : Option Held) → stored_at xs v c ≡ o → cond b (option_or o (seen_at xs older x.parent c)) (seen_at xs older v c) ≡ Some h
        → (seen_at xs older x.parent c ≡ Some h → SaysSo test c h) → (seen_at xs older v c ≡ Some h → SaysSo test c h) → SaysSo test c h
    by_test true (Some k) stored same up along = stored_says test xs v c h all (stored ∙ same)
    by_test true None stored same up along = up same
    by_test false o stored same up along = along same

-- ---- the pieces of a key

-- each has a moment, ends by an instant, and is what is held where it begins
abbrev pub AllBegin : (ℕ → Option Held) → ℕ → List Piece → Type 0
AllBegin f high [] = Unit {0}
AllBegin f high (x ∷ xs) = (f x.period.from ≡ Some (held x)) × (x.period.from < x.period.till) × (x.period.till ≤ high) × AllBegin f high xs

ends_by : (xs : List Piece) (low high : ℕ) → Between low xs high → low ≤ high
ends_by [] low high lie = lie
ends_by (x ∷ xs) low high lie = through low x.period.from x.period.till high lie.0 lie.1 (ends_by xs x.period.till high lie.2)
  where
    through : (i from till j : ℕ) → i ≤ from → from < till → till ≤ j → i ≤ j
    through i from till j le lt more = omega (arith, le, lt, more)

pub all_begin : (f : ℕ → Option Held) (xs : List Piece) (low high : ℕ) → Between low xs high → ((t : ℕ) → low ≤ t → f t ≡ held_at xs t) → AllBegin f high xs
all_begin f [] low high lie same = tt
all_begin f (x ∷ xs) low high lie same = (
  same x.period.from lie.0 ∙ rw (first x.period.from x.period.till lie.1) refl,
  lie.1,
  ends_by xs x.period.till high lie.2,
  all_begin f xs x.period.till high lie.2 (λ t le. same t (longer low x.period.from x.period.till t lie.0 lie.1 le) ∙ rw (past x.period.from x.period.till t le) refl),
)
  where
    first : (from till : ℕ) → from < till → (nat_le from from && nat_lt from till) ≡ true
    first from till lt = grind (arith, lt)

    past : (from till t : ℕ) → till ≤ t → (nat_le from t && nat_lt t till) ≡ false
    past from till t le = grind (arith, le)

    longer : (i from till t : ℕ) → i ≤ from → from < till → till ≤ t → i ≤ t
    longer i from till t le lt more = omega (arith, le, lt, more)

module _ (p : Parts) (next version : ℕ) where
  -- a row of the table and the key is there, where one is asked for
  has_row : ℕ → List Value → ℕ → Bool → Bool
  has_row table key stamp gone =
      gone || option_map_or (λ (r : RowRecord). (r.table == table) && is_key key (option_and_then (λ (t : Table). key_of t r.values) (table_of p.tables table))) (row_of p.rows stamp) false

  -- a piece that says what a piece in order says of its table and key is in order
  says_copied : (table : ℕ) (key : List Value) (x : Piece) (y : PieceRecord) → y.cells.table ≡ table → y.cells.key ≡ key → held_by y ≡ held x → x.period.from < x.period.till → x.period.till ≤ END
      → is_piece (table_of p.tables) (version_of p.versions) (row_of p.rows) next y ≡ true → is_copied p version next (piece_for version table key x) ≡ true
  unfolding has_row
  says_copied table key x y in_table of_key says some till is =
      let h = and_parts (is_some (version_of p.versions y.version)) _ is in
      let g = and_parts (are_cells (table_of p.tables) y.cells) _ h.1 in
      let c = and_parts (nat_lt y.cells.from y.cells.till && nat_le y.cells.till END) (option_map_or (is_key_of y.cells.key) (table_of p.tables y.cells.table) false) g.0 in
      let j = and_parts (nat_lt y.stamp next) (has_row y.cells.table y.cells.key y.stamp y.gone) g.1 in
      let stamp : y.stamp ≡ x.stamp.number = ap (λ (k : Held). k.stamp.number) says in
      and_from (version == version) _ (eq-eqb version version refl)
      (and_from (are_cells (table_of p.tables) (piece_for version table key x).cells) _
      (and_from (nat_lt x.period.from x.period.till && nat_le x.period.till END) (option_map_or (is_key_of key) (table_of p.tables table) false)
      (and_from (nat_lt x.period.from x.period.till) (nat_le x.period.till END) (lt-ltb x.period.from x.period.till some) (le-leb x.period.till END till))
      (ap (λ n. option_map_or (is_key_of key) (table_of p.tables n) false) (sym in_table) ∙ ap (λ l. option_map_or (is_key_of l) (table_of p.tables y.cells.table) false) (sym of_key) ∙ c.1))
      (and_from (nat_lt x.stamp.number next) (has_row table key x.stamp.number x.gone) (ap (λ n. nat_lt n next) (sym stamp) ∙ j.0)
      (ap (λ n. has_row n key x.stamp.number x.gone) (sym in_table)
      ∙ ap (λ l. has_row y.cells.table l x.stamp.number x.gone) (sym of_key)
      ∙ ap (λ n. has_row y.cells.table y.cells.key n x.gone) (sym stamp)
      ∙ ap (has_row y.cells.table y.cells.key y.stamp) (sym (ap (λ (k : Held). k.gone) says))
      ∙ j.1)))

  -- ---- the law

  module _ (f : Cell → Option Held) (rule : are_pieces p next ≡ true) (sees : (c : Cell) (h : Held) → f c ≡ Some h → (v : ℕ) × (seen p v c ≡ Some h)) where
    all : list_all (is_piece (table_of p.tables) (version_of p.versions) (row_of p.rows) next) p.pieces ≡ true
    all = (and_parts (differ collide p.pieces) (list_all (is_piece (table_of p.tables) (version_of p.versions) (row_of p.rows) next) p.pieces) rule).1

    says : (c : Cell) (h : Held) → f c ≡ Some h → SaysSo (is_piece (table_of p.tables) (version_of p.versions) (row_of p.rows) next) c h
    says c h is = let y = sees c h is in seen_says (is_piece (table_of p.tables) (version_of p.versions) (row_of p.rows) next) p.pieces (newest_first p.versions) y.0 c h all y.1

    key_there : (k : KeyPieces) (xs : List Piece) → AllBegin (λ t. f (key_cell k t)) END xs → list_all (is_copied p version next) (map (piece_for version k.table k.key) xs) ≡ true
    key_there k [] begin = refl
    key_there k (x ∷ xs) begin =
        let y = says (key_cell k x.period.from) (held x) begin.0 in
        and_from (is_copied p version next (piece_for version k.table k.key x)) (list_all (is_copied p version next) (map (piece_for version k.table k.key) xs))
        (says_copied k.table k.key x y.piece y.table y.key y.says begin.1 begin.2 y.passes) (key_there k xs begin.3)

    keys_there : (ks : List KeyPieces) → All (HoldsKey f) ks → list_all (is_copied p version next) (pieces_for version ks) ≡ true
    keys_there [] each = refl
    keys_there (k ∷ ks) each =
        let h = All-head (HoldsKey f) k ks each in
        list_all-append (is_copied p version next) (map (piece_for version k.table k.key) k.pieces) (pieces_for version ks)
        ∙ and_from (list_all (is_copied p version next) (map (piece_for version k.table k.key) k.pieces)) (list_all (is_copied p version next) (pieces_for version ks))
        (key_there k k.pieces (all_begin (λ t. f (key_cell k t)) k.pieces 0 END h.lie (λ t le. sym (h.holds t))))
        (keys_there ks (All-tail (HoldsKey f) k ks each))

    pub copied_there : (ks : List KeyPieces) → AreCopied f ks → list_all (is_copied p version next) (pieces_for version ks) ≡ true
    copied_there ks copied = keys_there ks copied.each

-- so it is of what a workspace has of its own above a base, or of nothing
pub own_there : (p : Parts) (next version base n : ℕ) (emptied : Bool) (ks : List KeyPieces) → are_pieces p next ≡ true → AreCopied (λ c. if emptied then None else owned p base n c) ks
    → list_all (is_copied p version next) (pieces_for version ks) ≡ true
own_there p next version base n emptied ks rule copied = copied_there p next version (λ c. if emptied then None else owned p base n c) rule (λ c h is. (latest p n, by_emptied c h emptied is)) ks copied
  where
    by_emptied : (c : Cell) (h : Held) (b : Bool) → (if b then None else owned p base n c) ≡ Some h → seen p (latest p n) c ≡ Some h
    by_emptied c h true is = absurd (none-some h is)
    by_emptied c h false is = own-seen p.pieces (newest_first p.versions) base (latest p n) c h is
