use Rattle.std.proofs.Common.{◌≡◌, ◌+◌, ◌&&◌, ℕ, cond, eqb, List, Some, sym, ◌∙◌, subst}
use Rattle.std.specs.Ordering.{is_eq}
use Rattle.wm_base.specs.Key.{key_order}
use Rattle.wm_base.specs.declared.value.Value.{Value}
use Rattle.wm_period.specs.Pieces.{put_in}
use Rattle.wm_period.specs.declared.piece.Piece.{Piece}
use Rattle.wm_rows.proofs.CountLaws.{either_way, counted_kept, counted_more, counted_back, written_time}
use Rattle.wm_rows.proofs.Writing.{on_ok4, on_err}
use Rattle.wm_rows.specs.Counts.{Counted, entry_at, count_at}
use Rattle.wm_rows.specs.Maps.{maps_of}
use Rattle.wm_rows.specs.Rows.{Layers, groups_in, pieces_in}
use Rattle.wm_rows.specs.declared.row_key.RowKey.{RowKey}
use Rattle.wm_rows.proofs.counted.write_counted.Goals as goal

pub returns-then-not-is_new-clause-counted : goal.returns-then-not-is_new-clause-counted
returns-then-not-is_new-clause-counted c =
    let put : List Piece = put_in c.args.piece (pieces_in (groups_in (maps_of c.args.layers.now.entries) c.args.version) c.in_ok-row.row) in
    either_way c.write_piece.result
    (on_ok4 c.write_piece.result
    (λ times order groups cells.
    counted_kept (maps_of c.args.layers.now.entries) (maps_of c.write_piece.new.layers.entries) (maps_of c.args.counts.now.entries) c.args.version c.in_ok-row.row put c.requires
    (sym c.is_new.ensures.value ∙ c.if-not-is_new.true) times order
    (written_time c.args.piece (pieces_in (groups_in (maps_of c.args.layers.now.entries) c.args.version) c.in_ok-row.row) c.from-order.ensures.order cells) groups)
    c.write_piece.ensures.times c.write_piece.ensures.order c.write_piece.ensures.groups c.write_piece.ensures.cells)
    (on_err c.write_piece.result
    (λ (same : maps_of c.write_piece.new.layers.entries ≡ maps_of c.args.layers.now.entries). subst (λ (l : Layers). Counted l (maps_of c.args.counts.now.entries)) (sym same) c.requires)
    c.write_piece.ensures.err)

pub returns-in-Err-clause-counted : goal.returns-in-Err-clause-counted
returns-in-Err-clause-counted c =
    subst (λ (l : Layers). Counted l (maps_of c.count_less.new.counts.entries)) (sym c.in-Err.ensures.err)
    (counted_back (maps_of c.args.layers.now.entries) (maps_of c.args.counts.now.entries) (maps_of c.count_more.new.counts.entries) (maps_of c.count_less.new.counts.entries) c.args.table c.args.key.now c.requires
    c.in_ok-count_more.ensures.ok c.count_less.ensures)

pub returns-clause-counted : goal.returns-clause-counted
returns-clause-counted c =
    let P : RowKey → Type 0 = λ r. (t : ℕ) (k : List Value) → entry_at (maps_of c.count_more.new.counts.entries) t k
    ≡ cond (eqb r.table t && is_eq (key_order r.key k)) (Some (count_at (maps_of c.args.counts.now.entries) r.table r.key + 1)) (entry_at (maps_of c.args.counts.now.entries) t k) in
    counted_more (maps_of c.args.layers.now.entries) (maps_of c.write_piece-2.new.layers.entries) (maps_of c.args.counts.now.entries) (maps_of c.count_more.new.counts.entries) c.args.version c.in_ok-row.row
    (put_in c.args.piece (pieces_in (groups_in (maps_of c.args.layers.now.entries) c.args.version) c.in_ok-row.row)) c.requires
    (sym c.is_new.ensures.value ∙ c.if-not-is_new.false)
    (subst P (sym c.in_ok-row.ensures) c.in_ok-count_more.ensures.ok)
    c.in_default.ensures.times c.in_default.ensures.order
    (written_time c.args.piece (pieces_in (groups_in (maps_of c.args.layers.now.entries) c.args.version) c.in_ok-row.row) c.from-order.ensures.order c.in_default.ensures.cells)
    c.in_default.ensures.groups
