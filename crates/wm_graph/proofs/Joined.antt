-- The parts of two lists of records, one behind the other.
use Rattle.std.proofs.Common.{◌≡◌, List, ◌++◌, refl}
use Rattle.std.proofs.lemmas.List.Elements.{filter_map-append}
use Rattle.wm_graph.specs.Parts.{Parts, parts_in, as_counters, as_table, as_space, as_version, as_savepoint, as_row, as_piece, as_touch, as_lock, as_hist, as_mark, as_turn}
use Rattle.wm_spec.specs.declared.record.Record.{Record}

-- each kind of the one before that of the other
unfoldable pub joined : Parts → Parts → Parts
joined p q = record {
  counters = p.counters ++ q.counters;
  tables = p.tables ++ q.tables;
  spaces = p.spaces ++ q.spaces;
  versions = p.versions ++ q.versions;
  savepoints = p.savepoints ++ q.savepoints;
  rows = p.rows ++ q.rows;
  pieces = p.pieces ++ q.pieces;
  touches = p.touches ++ q.touches;
  locks = p.locks ++ q.locks;
  hists = p.hists ++ q.hists;
  marks = p.marks ++ q.marks;
  turns = p.turns ++ q.turns;
}

pub parts-append : (xs ys : List Record) → parts_in (xs ++ ys) ≡ joined (parts_in xs) (parts_in ys)
unfolding joined
parts-append xs ys =
    rw (
      filter_map-append as_counters xs ys,
      filter_map-append as_table xs ys,
      filter_map-append as_space xs ys,
      filter_map-append as_version xs ys,
      filter_map-append as_savepoint xs ys,
      filter_map-append as_row xs ys,
      filter_map-append as_piece xs ys,
      filter_map-append as_touch xs ys,
      filter_map-append as_lock xs ys,
      filter_map-append as_hist xs ys,
      filter_map-append as_mark xs ys,
      filter_map-append as_turn xs ys,
    )
    refl
