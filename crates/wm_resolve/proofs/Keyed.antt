-- Conflicts are found on keys of their table, so a condition over its key columns can be judged on each.
use Rattle.std.proofs.Common.{◌≡◌, ℕ, ◌==◌, ◌&&◌, nat_le, nat_lt, Bool, true, false, if◌then◌else◌, List, [], ◌∷◌, map, filter, Option, None, Some, is_some, refl, sym, ap, ◌∙◌, eqb-true}
use Rattle.std.proofs.lemmas.List.Sums.{AllPass-from_list_all}
use Rattle.std.proofs.lemmas.Bool.{and_from, and_parts}
use Rattle.std.specs.Bool.{then_some}
use Rattle.std.specs.List.{AllByRecursion, list_all}
use Rattle.std.specs.Option.{option_map_or}
use Rattle.wm_syntax.specs.Trees.{Cond}
use Rattle.wm_listing.specs.declared.columns.Column.{Column}
use Rattle.wm_base.specs.declared.instant.TheConstants.{END}
use Rattle.wm_base.specs.declared.value.Value.{Value}
use Rattle.wm_decided.proofs.KeyRows.{key_fits}
use Rattle.wm_decided.specs.Keys.{columns_of_keys, key_as_row}
use Rattle.wm_dml.specs.Changing.{meets}
use Rattle.wm_graph.specs.Parts.{Parts, row_of, table_of, version_of}
use Rattle.wm_graph.specs.Rules.{are_cells, collide, differ, is_key_of, is_piece, keep_rules}
use Rattle.wm_net.specs.Conflicts.{Stamps, grouped, in_table, same_stamps}
use Rattle.wm_net.specs.Groups.{Group, cell}
use Rattle.wm_net.specs.Listed.{IsListing, Stretch}
use Rattle.wm_net.proofs.Tabled.{Begins, all_begin, each_if, given_in}
use Rattle.wm_pending.specs.Clashes.{AreConflicts, conflict_pair}
use Rattle.wm_pending.specs.declared.clash.Conflict.{Conflict}
use Rattle.wm_period.specs.Pieces.{Held}
use Rattle.wm_spec.specs.Conditions.{fits}
use Rattle.wm_spec.specs.Lists.{Cell}
use Rattle.wm_spec.specs.declared.record.piece.PieceRecord.{PieceRecord}
use Rattle.wm_spec.specs.declared.record.space.Space.{Space}
use Rattle.wm_spec.specs.declared.record.table.Table.{Table}
use Rattle.wm_state.proofs.Apart.{ruled}
use Rattle.wm_state.proofs.Laying.{key_same}
use Rattle.wm_state.proofs.Logging.{all_at}
use Rattle.wm_telling.specs.Telling.{clash_held, is_pending, is_unsettled, own_held, stamps_of}
use Rattle.wm_telling.proofs.Storing.{stores_own}

-- ---- a cell that a workspace changed

module _ (p : Parts) where
  -- a piece covers the cell, and is in order
  pub record IsLaid (c : Cell) : Type 0 where
    pub piece : PieceRecord
    pub cells : are_cells (table_of p.tables) piece.cells ≡ true
    pub table : piece.cells.table ≡ c.table
    pub key : piece.cells.key ≡ c.key
    pub till : nat_lt c.time piece.cells.till ≡ true

  pub own_laid : keep_rules p ≡ true → (a : Space) (c : Cell) (h : Held) → own_held p a c ≡ Some h → IsLaid c
  own_laid keeps a c h is =
      let stored = stores_own p a c h is in
      let rules = ruled p keeps in
      let sound = is_piece (table_of p.tables) (version_of p.versions) (row_of p.rows) rules.counters.next_stamp in
      let all = AllPass-from_list_all sound p.pieces (and_parts (differ collide p.pieces) (list_all sound p.pieces) rules.pieces).1 in
      let piece = all_at (λ (x : PieceRecord). sound x ≡ true) p.pieces stored.place stored.piece all stored.there in
      let place = and_parts _ (nat_le stored.piece.cells.from c.time && nat_lt c.time stored.piece.cells.till) stored.covers in
      let group = and_parts (stored.piece.cells.table == c.table) _ place.0 in
      record {
        piece = stored.piece;
        cells = (and_parts (are_cells (table_of p.tables) stored.piece.cells) _ (and_parts (is_some (version_of p.versions stored.piece.version)) _ piece).1).0;
        table = eqb-true stored.piece.cells.table c.table group.0;
        key = key_same stored.piece.cells.key c.key group.1;
        till = (and_parts (nat_le stored.piece.cells.from c.time) (nat_lt c.time stored.piece.cells.till) place.1).1;
      }

  -- it is of a key of a table
  pub laid_keyed : (c : Cell) → IsLaid c → option_map_or (is_key_of c.key) (table_of p.tables c.table) false ≡ true
  laid_keyed c laid =
      let over = and_parts (nat_lt laid.piece.cells.from laid.piece.cells.till && nat_le laid.piece.cells.till END) (option_map_or (is_key_of laid.piece.cells.key) (table_of p.tables laid.piece.cells.table) false) laid.cells in
      sym (λ i. option_map_or (is_key_of (laid.key i)) (table_of p.tables (laid.table i)) false) ∙ over.1

  -- ---- conflicts that are found

  module _ (keeps : keep_rules p ≡ true) (a b : Space) (t : Table) (there : table_of p.tables t.number ≡ Some t) where
    clash_keyed : (c : Cell) (x : Stamps) → clash_held p a b c ≡ Some x → option_map_or (is_key_of c.key) (table_of p.tables c.table) false ≡ true
    clash_keyed c x is = by_own (own_held p a c) refl is
      where
        by_own : (o : Option Held) → own_held p a c ≡ o → then_some (is_some o && (is_pending p a b c && is_unsettled p a b c)) (stamps_of p a b c) ≡ Some x
            → option_map_or (is_key_of c.key) (table_of p.tables c.table) false ≡ true
        by_own None own e = absurd (cc)
        by_own (Some h) own e = laid_keyed c (own_laid keeps a c h own)

    -- each is of a key of the table
    abbrev IsKeyed : Group × Stretch Stamps → Type 0
    IsKeyed x = is_key_of x.0.key t ≡ true

    each_keyed : (found : List (Group × Stretch Stamps)) → IsListing same_stamps grouped (in_table t.number (clash_held p a b)) found → AllByRecursion IsKeyed found
    each_keyed found listing =
        each_if (Begins (in_table t.number (clash_held p a b))) IsKeyed found
        (λ x begins. let of_table = given_in t.number (clash_held p a b) x.0 x.1.from x.1.value begins in
        sym (ap (λ (o : Option Table). option_map_or (is_key_of x.0.key) o false) (ap (table_of p.tables) of_table.0 ∙ there)) ∙ clash_keyed (cell x.0 x.1.from) x.1.value of_table.1)
        (all_begin same_stamps (in_table t.number (clash_held p a b)) found listing)

    rows_fit : (cs : List Conflict) → AllByRecursion IsKeyed (map (conflict_pair t.number) cs) → list_all (λ (c : Conflict). fits (columns_of_keys t) (key_as_row c.key)) cs ≡ true
    rows_fit [] keyed = refl
    rows_fit (c ∷ cs) keyed = and_from (fits (columns_of_keys t) (key_as_row c.key)) _ (key_fits t c.key keyed.0) (rows_fit cs keyed.1)

    pub keys_fit : (columns : List Column) (found : List Conflict) → columns ≡ columns_of_keys t → AreConflicts p a b t.number found → list_all (λ (c : Conflict). fits columns (key_as_row c.key)) found ≡ true
    keys_fit columns found same listing =
        ap (λ (cs : List Column). list_all (λ (c : Conflict). fits cs (key_as_row c.key)) found) same ∙ rows_fit found (each_keyed (map (conflict_pair t.number) found) listing)

-- ---- those that are meant

-- conflicts whose keys pass a test, as their keys and stretches
pub meant_pairs : (table : ℕ) (test : List Value → Bool) (cs : List Conflict)
    → map (conflict_pair table) (filter (λ (c : Conflict). test c.key) cs) ≡ filter (λ (x : Group × Stretch Stamps). test x.0.key) (map (conflict_pair table) cs)
meant_pairs table test [] = refl
meant_pairs table test (c ∷ cs) = by_test (test c.key) (meant_pairs table test cs)
  where
    by_test : (b : Bool) → map (conflict_pair table) (filter (λ (d : Conflict). test d.key) cs) ≡ filter (λ (x : Group × Stretch Stamps). test x.0.key) (map (conflict_pair table) cs)
        → map (conflict_pair table) (if b then c ∷ filter (λ (d : Conflict). test d.key) cs else filter (λ (d : Conflict). test d.key) cs)
        ≡ (if b then conflict_pair table c ∷ filter (λ (x : Group × Stretch Stamps). test x.0.key) (map (conflict_pair table) cs) else filter (λ (x : Group × Stretch Stamps). test x.0.key) (map (conflict_pair table) cs))
    by_test true rest = ap (λ (xs : List (Group × Stretch Stamps)). conflict_pair table c ∷ xs) rest
    by_test false rest = rest

all_kept : {A : Type 0} (xs : List A) → filter (λ (x : A). true) xs ≡ xs
all_kept [] = refl
all_kept {A} (x ∷ xs) = ap (λ (ys : List A). x ∷ ys) (all_kept xs)

-- all are, where there is no condition
pub all_meant : (condition : Option Cond) (columns : List Column) (cs : List Conflict) → condition ≡ None → cs ≡ filter (λ (c : Conflict). meets condition columns (key_as_row c.key)) cs
all_meant condition columns cs none = sym (ap (λ (o : Option Cond). filter (λ (c : Conflict). meets o columns (key_as_row c.key)) cs) none ∙ all_kept cs)
