-- The pieces that a rebase makes are no more than the stretches of what is own then.
use Rattle.std.proofs.Common.{◌≡◌, ℕ, ◌≤◌, ◌==◌, nat_le, nat_lt, Bool, true, false, not, ◌&&◌, ◌||◌, cond, if◌then◌else◌, List, [], ◌∷◌, length, Option, Some, None, is_some, refl, sym, ap, ◌∙◌, arith}
use Rattle.std.proofs.lemmas.Bool.{eqb-true, eq-eqb, and_from, and_parts, true≢false}
use Rattle.std.proofs.lemmas.List.Elements.{All-cons, All-nil}
use Rattle.std.specs.Bool.{then_some}
use Rattle.std.specs.List.{All, filter, list_all}
use Rattle.std.specs.Option.{option_map_or, option_or}
use Rattle.wm_base.proofs.Plain.{nat_le-itself}
use Rattle.wm_graph.specs.Parts.{Parts, row_of, table_of, version_of}
use Rattle.wm_graph.specs.Rules.{are_cells, collide, differ, is_key_of, is_piece}
use Rattle.wm_net.proofs.Sharing.{touches_count}
use Rattle.wm_net.specs.Counts.{Meet, cut_count, has_cell, has_cuts, has_ends}
use Rattle.wm_period.specs.Pieces.{Held}
use Rattle.wm_prices.specs.Prices.{pieces_at}
use Rattle.wm_spec.specs.Lists.{Cell, Entry, touched}
use Rattle.wm_spec.specs.declared.record.piece.PieceRecord.{PieceRecord}
use Rattle.wm_spec.specs.declared.record.space.Space.{Space}
use Rattle.wm_state.proofs.Apart.{apart_of, ruled}
use Rattle.wm_state.proofs.Laying.{key_itself}
use Rattle.wm_state.proofs.Spaces.{IsSpace}
use Rattle.wm_state.proofs.Tests.{differ_filter}
use Rattle.wm_state.specs.Effects.{IsApart, is_there}
use Rattle.wm_state.specs.Standing.{Covers, Own, Stands, covers_at, held_by, is_above, latest, newest_first, own_at, stored_at}
use Rattle.wm_state.specs.State.{Durable, Workspace}
use Rattle.wm_tree.specs.declared.version.Version.{Version as Node}
use Rattle.wm_spending.proofs.Ends.{EndIn, all_filtered, apart_there, ends_in}

-- ---- a version above a base

-- a version that is there is on its own path above a base, unless it is the base
above_first : (nodes : List Node) (base v : ℕ) → is_there v nodes ≡ true → (v == base) ≡ false → is_above nodes base v v ≡ true
above_first [] base v there other = absurd (true≢false (sym there))
above_first (x ∷ older) base v there other = by_tests (v == base) (x.number == v) other there (above_first older base v)
  where
    by_tests : (a b : Bool) → a ≡ false → (if b then true else is_there v older) ≡ true → (is_there v older ≡ true → (v == base) ≡ false → is_above older base v v ≡ true)
        → (if a then false else (if b then (v == v) || is_above older base x.parent v else is_above older base v v)) ≡ true
    by_tests true b none here rest = absurd (true≢false none)
    by_tests false true none here rest = rw (eq-eqb v v refl) refl
    by_tests false false none here rest = rest here other

-- and what it has itself stands above that base
own_first : (pieces : List PieceRecord) (nodes : List Node) (base v : ℕ) (c : Cell) → is_there v nodes ≡ true → (v == base) ≡ false → is_some (stored_at pieces v c) ≡ true → is_some (own_at pieces nodes base v c) ≡ true
own_first pieces [] base v c there other some = absurd (true≢false (sym there))
own_first pieces (x ∷ older) base v c there other some = by_tests (v == base) (x.number == v) other there (own_first pieces older base v c) (stored_at pieces v c) some
  where
    nothing : Option Held
    nothing = None

    by_tests : (a b : Bool) → a ≡ false → (if b then true else is_there v older) ≡ true
        → (is_there v older ≡ true → (v == base) ≡ false → is_some (stored_at pieces v c) ≡ true → is_some (own_at pieces older base v c) ≡ true) → (o : Option Held) → is_some o ≡ true
        → is_some (if a then nothing else (if b then option_or o (own_at pieces older base x.parent c) else own_at pieces older base v c)) ≡ true
    by_tests true b none here rest o is = absurd (true≢false none)
    by_tests false true none here rest (Some h) is = refl
    by_tests false true none here rest None is = absurd (true≢false (sym is))
    by_tests false false none here rest o is = rest here other some

-- a piece of a version that is among the pieces, at a cell that it covers
abbrev covers_some : List PieceRecord → ℕ → Cell → PieceRecord → Bool
covers_some pieces v c y = not (covers_at y v c) || is_some (stored_at pieces v c)

-- what covers a cell is stored there
stored_some : (v : ℕ) (c : Cell) (ys : List PieceRecord) → list_all (covers_some ys v c) ys ≡ true
stored_some v c [] = refl
stored_some v c (y ∷ ys) = by_test (covers_at y v c) (stored_some v c ys)
  where
    first : (b : Bool) (o : Option Held) → (not b || is_some (option_or (then_some b (held_by y)) o)) ≡ true
    first true o = refl
    first false o = refl

    behind : (b : Bool) (zs : List PieceRecord) → list_all (covers_some ys v c) zs ≡ true → list_all (λ (z : PieceRecord). not (covers_at z v c) || is_some (option_or (then_some b (held_by y)) (stored_at ys v c))) zs ≡ true
    behind true [] all = refl
    behind true (z ∷ zs) all = and_from (not (covers_at z v c) || true) _ (or_true (not (covers_at z v c))) (behind true zs (and_parts (covers_some ys v c z) (list_all (covers_some ys v c) zs) all).1)
      where
        or_true : (b : Bool) → (b || true) ≡ true
        or_true true = refl
        or_true false = refl
    behind false zs all = all

    by_test : (b : Bool) → list_all (covers_some ys v c) ys ≡ true
        → ((not b || is_some (option_or (then_some b (held_by y)) (stored_at ys v c))) && list_all (λ (z : PieceRecord). not (covers_at z v c) || is_some (option_or (then_some b (held_by y)) (stored_at ys v c))) ys) ≡ true
    by_test b rest = and_from (not b || is_some (option_or (then_some b (held_by y)) (stored_at ys v c))) _ (first b (stored_at ys v c)) (behind b ys rest)

-- ---- the pieces of the newest version

-- a piece has a moment, and ends with entries where it is on a path
abbrev is_ending : List Node → ℕ → ℕ → List Entry → PieceRecord → Bool
is_ending nodes base v es x = (if is_above nodes base v x.version then has_ends es x.cells else true) && nat_lt x.cells.from x.cells.till

module _ (p : Parts) (d : Durable) (n : ℕ) (w : Workspace) (a : Space) (st : Stands p d) (is : IsSpace p d n a w) where
  abbrev version : ℕ
  version = latest p n

  abbrev nodes : List Node
  nodes = newest_first p.versions

  apart : IsApart p n
  apart = apart_of p st.rules n a is.recorded

  covers : Covers p a.base_version version w.lists.own
  covers = st.owns.covers a.base_version version w.lists.own (Own n w a is.found is.recorded)

  -- the rules of pieces
  no_two_collide : differ collide p.pieces ≡ true
  no_two_collide = (and_parts (differ collide p.pieces) _ (ruled p st.rules).pieces).0

  ending : list_all (is_ending nodes a.base_version version w.lists.own) p.pieces ≡ true
  ending = walk p.pieces covers.ends (and_parts (differ collide p.pieces) (list_all (is_piece (table_of p.tables) (version_of p.versions) (row_of p.rows) (ruled p st.rules).counters.next_stamp) p.pieces) (ruled p st.rules).pieces).1
    where
      walk : (xs : List PieceRecord) → list_all (λ (x : PieceRecord). if is_above nodes a.base_version version x.version then has_ends w.lists.own x.cells else true) xs ≡ true
          → list_all (is_piece (table_of p.tables) (version_of p.versions) (row_of p.rows) (ruled p st.rules).counters.next_stamp) xs ≡ true → list_all (is_ending nodes a.base_version version w.lists.own) xs ≡ true
      walk [] ends each = refl
      walk (x ∷ xs) ends each =
          let h = and_parts (if is_above nodes a.base_version version x.version then has_ends w.lists.own x.cells else true) _ ends in
          let g = and_parts (is_piece (table_of p.tables) (version_of p.versions) (row_of p.rows) (ruled p st.rules).counters.next_stamp x) _ each in
          let cells = (and_parts (are_cells (table_of p.tables) x.cells) _ (and_parts (is_some (version_of p.versions x.version)) _ g.0).1).0 in
          let some = (and_parts (nat_lt x.cells.from x.cells.till) _ (and_parts (nat_lt x.cells.from x.cells.till && _) (option_map_or (is_key_of x.cells.key) (table_of p.tables x.cells.table) false) cells).0).0 in
          and_from _ (list_all (is_ending nodes a.base_version version w.lists.own) xs) (and_from _ (nat_lt x.cells.from x.cells.till) h.0 some) (walk xs h.1 g.1)

  -- the first cell of a piece
  abbrev first : PieceRecord → Cell
  first x = record { table = x.cells.table; key = x.cells.key; time = x.cells.from }

  begins : (x : PieceRecord) → nat_lt x.cells.from x.cells.till ≡ true → has_cell x.cells (first x) ≡ true
  begins x some =
      and_from _ (nat_le x.cells.from x.cells.from && nat_lt x.cells.from x.cells.till) (and_from (x.cells.table == x.cells.table) _ (eq-eqb x.cells.table x.cells.table refl) (key_itself x.cells.key))
      (and_from (nat_le x.cells.from x.cells.from) (nat_lt x.cells.from x.cells.till) (nat_le-itself x.cells.from) some)

  -- it is own there
  owned_first : (x : PieceRecord) → (x.version == version) ≡ true → nat_lt x.cells.from x.cells.till ≡ true → covers_some p.pieces version (first x) x ≡ true → touched w.lists.own (first x) ≡ true
  owned_first x here some stored =
      sym (covers.cells (first x)) ∙ own_first p.pieces nodes a.base_version version (first x) apart.there (apart.above a is.recorded) (held (covers_at x version (first x)) (and_from (x.version == version) (has_cell x.cells (first x)) here (begins x some)) stored)
    where
      held : (b : Bool) → b ≡ true → (not b || is_some (stored_at p.pieces version (first x))) ≡ true → is_some (stored_at p.pieces version (first x)) ≡ true
      held true is e = e
      held false none e = absurd (true≢false (sym none))

  pub pieces_few : (all : List Entry) → has_cuts all w.lists.own ≡ true → EndIn w.lists.own all → length (pieces_at p (latest p n)) ≤ cut_count all (touched w.lists.own)
  pieces_few all cut ends =
      touches_count all w.lists.own (λ (x : PieceRecord). x.cells) (pieces_at p version) cut
      (all_filtered (λ (x : PieceRecord). has_ends all x.cells ≡ true) test (is_ending nodes a.base_version version w.lists.own) (λ x good here. ends_in w.lists.own all x.cells ends (end_of x good here)) p.pieces ending)
      (meets_all p.pieces (λ c. stored_some version c p.pieces) ending)
      (apart_there version (pieces_at p version) (all_here p.pieces) (differ_filter collide test p.pieces no_two_collide))
    where
      test : PieceRecord → Bool
      test x = x.version == version

      end_of : (x : PieceRecord) → is_ending nodes a.base_version version w.lists.own x ≡ true → test x ≡ true → has_ends w.lists.own x.cells ≡ true
      end_of x good here =
          let on_path : is_above nodes a.base_version version x.version ≡ true =
          ap (is_above nodes a.base_version version) (eqb-true x.version version here) ∙ above_first nodes a.base_version version apart.there (apart.above a is.recorded) in
          sym (ap (λ b. if b then has_ends w.lists.own x.cells else true) on_path) ∙ (and_parts (if is_above nodes a.base_version version x.version then has_ends w.lists.own x.cells else true) (nat_lt x.cells.from x.cells.till) good).0

      all_here : (xs : List PieceRecord) → list_all test (filter test xs) ≡ true
      all_here [] = refl
      all_here (x ∷ xs) = by_test (test x) refl (all_here xs)
        where
          by_test : (b : Bool) → test x ≡ b → list_all test (filter test xs) ≡ true → list_all test (cond b (x ∷ filter test xs) (filter test xs)) ≡ true
          by_test true here rest = and_from (test x) (list_all test (filter test xs)) here rest
          by_test false here rest = rest

      meets_all : (xs : List PieceRecord) → ((c : Cell) → list_all (covers_some p.pieces version c) xs ≡ true) → list_all (is_ending nodes a.base_version version w.lists.own) xs ≡ true
          → All (λ (x : PieceRecord). Meet (has_cell x.cells) (touched w.lists.own)) (filter test xs)
      meets_all [] stored good = All-nil (λ (x : PieceRecord). Meet (has_cell x.cells) (touched w.lists.own))
      meets_all (x ∷ xs) stored good =
          let h = and_parts (is_ending nodes a.base_version version w.lists.own x) (list_all (is_ending nodes a.base_version version w.lists.own) xs) good in
          let some = (and_parts (if is_above nodes a.base_version version x.version then has_ends w.lists.own x.cells else true) (nat_lt x.cells.from x.cells.till) h.0).1 in
          by_test (test x) refl some (and_parts (covers_some p.pieces version (first x) x) (list_all (covers_some p.pieces version (first x)) xs) (stored (first x))).0
          (meets_all xs (λ c. (and_parts (covers_some p.pieces version c x) (list_all (covers_some p.pieces version c) xs) (stored c)).1) h.1)
        where
          by_test : (b : Bool) → test x ≡ b → nat_lt x.cells.from x.cells.till ≡ true → covers_some p.pieces version (first x) x ≡ true
              → All (λ (y : PieceRecord). Meet (has_cell y.cells) (touched w.lists.own)) (filter test xs) → All (λ (y : PieceRecord). Meet (has_cell y.cells) (touched w.lists.own)) (cond b (x ∷ filter test xs) (filter test xs))
          by_test true here some held rest =
              All-cons (λ (y : PieceRecord). Meet (has_cell y.cells) (touched w.lists.own)) x (filter test xs) (record { shared = first x; one = begins x some; two = owned_first x here some held }) rest
          by_test false here some held rest = rest

  -- where nothing is own there are none
  pub pieces_none : w.lists.own ≡ [] → length (pieces_at p (latest p n)) ≤ 0
  pieces_none none = by_pieces p.pieces (λ c. stored_some version c p.pieces) ending
    where
      untouched : (c : Cell) → touched w.lists.own c ≡ false
      untouched c = ap (λ (es : List Entry). touched es c) none

      by_pieces : (xs : List PieceRecord) → ((c : Cell) → list_all (covers_some p.pieces version c) xs ≡ true) → list_all (is_ending nodes a.base_version version w.lists.own) xs ≡ true → length (filter (λ (x : PieceRecord). x.version == version) xs) ≤ 0
      by_pieces [] stored good = omega arith
      by_pieces (x ∷ xs) stored good =
          let h = and_parts (is_ending nodes a.base_version version w.lists.own x) (list_all (is_ending nodes a.base_version version w.lists.own) xs) good in
          let some = (and_parts (if is_above nodes a.base_version version x.version then has_ends w.lists.own x.cells else true) (nat_lt x.cells.from x.cells.till) h.0).1 in
          by_test (x.version == version) refl some (and_parts (covers_some p.pieces version (first x) x) (list_all (covers_some p.pieces version (first x)) xs) (stored (first x))).0
          (by_pieces xs (λ c. (and_parts (covers_some p.pieces version c x) (list_all (covers_some p.pieces version c) xs) (stored c)).1) h.1)
        where
          by_test : (b : Bool) → (x.version == version) ≡ b → nat_lt x.cells.from x.cells.till ≡ true → covers_some p.pieces version (first x) x ≡ true → length (filter (λ (y : PieceRecord). y.version == version) xs) ≤ 0
              → length (cond b (x ∷ filter (λ (y : PieceRecord). y.version == version) xs) (filter (λ (y : PieceRecord). y.version == version) xs)) ≤ 0
          by_test true here some held rest = absurd (true≢false (sym (owned_first x here some held) ∙ untouched (first x)))
          by_test false here some held rest = rest
