-- What is shown of a table on a date: rows of it that fit its columns.
use Rattle.std.proofs.Common.{◌≡◌, ℕ, ◌==◌, ◌&&◌, ◌||◌, nat_lt, nat_le, Bool, true, false, if◌then◌else◌, List, [], ◌∷◌, Option, Some, None, refl, sym, ◌∙◌}
use Rattle.std.proofs.lemmas.Bool.{and_parts}
use Rattle.std.specs.Bool.{then_some}
use Rattle.std.specs.List.{AllByRecursion, list_all}
use Rattle.std.specs.Option.{option_map_or}
use Rattle.wm_base.specs.Period.{Span}
use Rattle.wm_base.specs.declared.row.Row.{Row}
use Rattle.wm_chosen.proofs.Seen.{shown_fits}
use Rattle.wm_chosen.proofs.Stood.{AllBack, Asks, Backs, cells_back, or_backs, row_kept, seen_backs, showing_by_all}
use Rattle.wm_dated.specs.Dated.{IsDatedShowing, born_with, dated, dated_in, hist_held}
use Rattle.wm_graph.specs.Parts.{Parts, row_of, space_of, table_of}
use Rattle.wm_graph.specs.Rules.{are_cells, differ, is_hist, is_row_at, is_short, keep_rules}
use Rattle.wm_net.proofs.Tabled.{each_if}
use Rattle.wm_spec.specs.Conditions.{fits}
use Rattle.wm_spec.specs.Lists.{Cell}
use Rattle.wm_spec.specs.declared.record.hist.Hist.{Hist}
use Rattle.wm_spec.specs.declared.record.space.Space.{Space}
use Rattle.wm_spec.specs.declared.record.table.Table.{Table}
use Rattle.wm_state.proofs.Apart.{found-passes, ruled}
use Rattle.wm_state.specs.Standing.{in_cells, newest_first, seen}
use Rattle.wm_typing.specs.Columns.{columns_of_table}
use Rattle.wm_view_rows.proofs.Fits.{at_position, each_found}
use Rattle.wm_view_rows.specs.History.{AreLogged}

module _ (p : Parts) (t : Table) (asks : Asks p t) where
  -- an entry of a log is in order
  abbrev IsOrdered : Hist → Type 0
  IsOrdered x = is_hist (table_of p.tables) (space_of p.spaces) (row_of p.rows) (ruled p asks.rules).counters.next_stamp x ≡ true

  -- so are those that were found
  logged_ordered : (n : ℕ) (xs : List Hist) → AreLogged p n t.number xs → AllByRecursion IsOrdered xs
  logged_ordered n xs are = each_if (λ (x : Hist). at_position xs x.position ≡ Some x) IsOrdered xs ordered (each_found xs are.follow)
    where
      ordered : (x : Hist) → at_position xs x.position ≡ Some x → IsOrdered x
      ordered x found =
          (found-passes (λ (y : Hist). (y.space == n) && ((y.cells.table == t.number) && (y.position == x.position))) (is_hist (table_of p.tables) (space_of p.spaces) (row_of p.rows) (ruled p asks.rules).counters.next_stamp) p.hists x
          (sym (are.same x.position) ∙ found) (and_parts (differ _ p.hists) _ (ruled p asks.rules).hists).1).1

  -- what the record of an entry says of a cell is of the table
  hist_backs : (x : Hist) (date : ℕ) (c : Cell) → c.table ≡ t.number → IsOrdered x → Backs p t c (then_some (nat_le x.moment date && in_cells x.cells c) (hist_held x))
  hist_backs x date c of is = by_test (nat_le x.moment date && in_cells x.cells c) refl
    where
      next : ℕ
      next = (ruled p asks.rules).counters.next_stamp

      cells : (are_cells (table_of p.tables) x.cells ≡ true) × ((nat_lt x.stamp next && (x.gone || option_map_or (is_row_at (table_of p.tables) x.cells) (row_of p.rows x.stamp) false)) ≡ true)
      cells =
          and_parts (are_cells (table_of p.tables) x.cells) (nat_lt x.stamp next && (x.gone || option_map_or (is_row_at (table_of p.tables) x.cells) (row_of p.rows x.stamp) false))
          (and_parts (is_short x.user && option_map_or (λ (s : Space). nat_lt x.position s.log_length) (space_of p.spaces x.space) false) _ is).1

      by_test : (b : Bool) → (nat_le x.moment date && in_cells x.cells c) ≡ b → Backs p t c (then_some b (hist_held x))
      by_test false e = tt
      by_test true e = cells_back p t x.cells (hist_held x) c asks of cells.0 (row_kept x.gone (nat_lt x.stamp next) _ cells.1) (and_parts (nat_le x.moment date) (in_cells x.cells c) e).1

  logged_back : (xs : List Hist) (date : ℕ) (c : Cell) → c.table ≡ t.number → AllByRecursion IsOrdered xs → Backs p t c (dated_in xs date c)
  logged_back [] date c of all = tt
  logged_back (x ∷ xs) date c of all =
      or_backs p t c (dated_in xs date c) (then_some (nat_le x.moment date && in_cells x.cells c) (hist_held x)) (logged_back xs date c of all.1) (hist_backs x date c of all.0)

  born_back : (a : Space) (c : Cell) → c.table ≡ t.number → Backs p t c (born_with p a c)
  born_back a c of = by_live (a.number == 0)
    where
      by_live : (b : Bool) → Backs p t c (if b then None else seen p a.birth_version c)
      by_live true = tt
      by_live false = seen_backs p t (newest_first p.versions) a.birth_version c asks of

  dated_back : (a : Space) (xs : List Hist) (date : ℕ) → AreLogged p a.number t.number xs → AllBack p t (dated p a xs date)
  dated_back a xs date are c of = or_backs p t c (dated_in xs date c) (born_with p a c) (logged_back xs date c of (logged_ordered a.number xs are)) (born_back a c of)

pub dated_fits : (p : Parts) (a : Space) (date : ℕ) (t : Table) (within : Span) (source : List ℕ) (rows : List Row) → keep_rules p ≡ true → table_of p.tables t.number ≡ Some t → IsDatedShowing p a date t within rows
    → list_all (fits (columns_of_table source t)) rows ≡ true
dated_fits p a date t within source rows rules there is =
    showing_by_all (fits (columns_of_table source t)) p (dated p a is.logged date) t within rows (dated_back p t (record { rules = rules; there = there }) a is.logged date is.are_logged) is.shown
    (λ key row shown. shown_fits source t within key row shown)
