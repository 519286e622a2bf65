-- Pieces that stand for others keep the rules where these do.
use Rattle.std.proofs.Common.{◌≡◌, ℕ, ◌≤◌, ◌<◌, nat_lt, nat_le, true, false, ◌&&◌, ◌||◌, Option, is_some, arith}
use Rattle.std.proofs.lemmas.Bool.{and_from, and_parts, lt-ltb}
use Rattle.std.specs.Option.{option_map_or}
use Rattle.wm_base.specs.declared.instant.TheConstants.{END}
use Rattle.wm_graph.specs.Rules.{is_piece, is_row_at, is_key_of, are_cells}
use Rattle.wm_spec.specs.declared.record.cell_range.CellRange.{CellRange}
use Rattle.wm_spec.specs.declared.record.row.RowRecord.{RowRecord}
use Rattle.wm_spec.specs.declared.record.table.Table.{Table}
use Rattle.wm_spec.specs.declared.record.version.Version.{Version}
use Rattle.wm_state.specs.Drawing.{between, PassesParts}

not_later : (m n k : ℕ) → m ≤ n → nat_le n k ≡ true → nat_le m k ≡ true
not_later m n k le e = grind (arith, le, e)

-- a part of cells that are in order is so too
pub cells-parts : (tables : ℕ → Option Table) (c : CellRange) (from till : ℕ) → are_cells tables c ≡ true → from < till → till ≤ c.till → are_cells tables (record c { from = from; till = till }) ≡ true
cells-parts tables c from till well some upper =
    let k = and_parts (nat_lt c.from c.till && nat_le c.till END) (option_map_or (is_key_of c.key) (tables c.table) false) well in
    let t = and_parts (nat_lt c.from c.till) (nat_le c.till END) k.0 in
    and_from (nat_lt from till && nat_le till END) _ (and_from (nat_lt from till) _ (lt-ltb from till some) (not_later till c.till END upper t.1)) k.1

-- so is a part of a piece
pub piece-parts : (tables : ℕ → Option Table) (versions : ℕ → Option Version) (rows : ℕ → Option RowRecord) (next : ℕ) → PassesParts (is_piece tables versions rows next)
piece-parts tables versions rows next x from till well lower some upper =
    let h = and_parts (is_some (versions x.version)) _ well in
    let g = and_parts (are_cells tables x.cells) (nat_lt x.stamp next && (x.gone || option_map_or (is_row_at tables x.cells) (rows x.stamp) false)) h.1 in
    and_from (is_some (versions x.version)) _ h.0 (and_from (are_cells tables (between from till x).cells) _ (cells-parts tables x.cells from till g.0 some upper) g.1)
