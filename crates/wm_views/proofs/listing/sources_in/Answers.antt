use Rattle.std.proofs.Common.{◌≡◌, ◌+◌, Vec, Global, List, length, true, ap, sym, subst, ◌∙◌, arith}
use Rattle.wm_listing.specs.declared.columns.Column.{Column}
use Rattle.wm_listing.specs.declared.listing.Listing.{Listing as Source}
use Rattle.wm_syntax.specs.Views.{query_view, src_view}
use Rattle.wm_graph.specs.Parts.{parts_of}
use Rattle.wm_model.specs.Planning.{tables_in}
use Rattle.wm_model.specs.Sources.{Reading}
use Rattle.wm_model.specs.Step.{source_name}
use Rattle.wm_joining.specs.Kept.{is_kept}
use Rattle.wm_view_rows.specs.Columns.{columns_of_view}
use Rattle.wm_view_rows.specs.Views.{view_named}
use Rattle.wm_views.specs.Looking.{look_view}
use Rattle.wm_views.specs.Narrowed.{may_narrow}
use Rattle.wm_views.proofs.Sourcing.{next_there}
use Rattle.wm_views.proofs.Narrowing.{listed_all_for, lists_more_for, next_well, room_behind}
use Rattle.wm_views.proofs.listing.sources_in.Goals.{in-Some+in_ok-key+in_ok-shown+in_ok-push, in_default}
use Rattle.wm_views.proofs.listing.sources_in.Goals as goal

pub key_asked-requires-clause-well : goal.key_asked-requires-clause-well
key_asked-requires-clause-well c = next_well c.args.image.now c.source-item.result c.in-Some.table.now c.requires.rules c.in-Some.ensures

pub key_asked-requires-clause-room : goal.key_asked-requires-clause-room
key_asked-requires-clause-room c =
    room_behind (parts_of c.args.image.now) (look_view (parts_of c.args.image.now) c.args.look.now) (tables_in c.args.image.now) (is_kept (query_view c.args.query.now) c.args.columns.now) (length c.args.columns.now) c.args.sources.now
    c.loop-source.source-index c.loop-source.before c.source-item.result c.in-Some.table.now c.loop-source.listings.items c.loop-source-test.true c.source-item.is
    (record { there = c.loop-source.invariant.there; room = c.loop-source.invariant.room; listed = c.loop-source.invariant.listed }) c.in-Some.ensures

pub shown_by-requires-clause-narrow : goal.shown_by-requires-clause-narrow
shown_by-requires-clause-narrow c =
    subst (λ (x : Reading). may_narrow (view_named (src_view c.source-item.result).table) x c.in_ok-key.key ≡ true) c.reading_of-reading.ensures c.in_ok-key.ensures.narrow

pub overflow_add-before : goal.overflow_add-before
overflow_add-before c =
    let room = room_behind (parts_of c.args.image.now) (look_view (parts_of c.args.image.now) c.args.look.now) (tables_in c.args.image.now) (is_kept (query_view c.args.query.now) c.args.columns.now) (length c.args.columns.now) c.args.sources.now
    c.loop-source.source-index c.loop-source.before c.source-item.result c.in-Some.table.now c.loop-source.listings.items c.loop-source-test.true c.source-item.is
    (record { there = c.loop-source.invariant.there; room = c.loop-source.invariant.room; listed = c.loop-source.invariant.listed }) c.in-Some.ensures in
    let own : length c.as_slice.result.now ≡ length (columns_of_view (view_named c.source-item.result.table) (source_name (src_view c.source-item.result)) c.in-Some.table.now) =
    ap (λ (cs : List Column). length cs) (c.as_slice.ensures ∙ c.in_ok-shown.ensures.columns) in
    omega (arith, room, own, c.requires.few)

pub returns : goal.returns
returns c =
    listed_all_for (parts_of c.args.image.now) (look_view (parts_of c.args.image.now) c.args.look.now) (tables_in c.args.image.now) (is_kept (query_view c.args.query.now) c.args.columns.now) (length c.args.columns.now) c.args.sources.now c.loop-source.source-index c.loop-source.before c.loop-source.listings.items c.from_vec.result
    (omega (arith, c.loop-source-test.false)) c.from_vec.ensures (record { there = c.loop-source.invariant.there; room = c.loop-source.invariant.room; listed = c.loop-source.invariant.listed })

pub loop-source-preserved : goal.loop-source-preserved
loop-source-preserved c =
    elim c.match-table_asked.branch [
      | in-Some+in_ok-key+in_ok-shown+in_ok-push w ↦
          let goes = lists_more_for (parts_of c.args.image.now) (look_view (parts_of c.args.image.now) c.args.look.now) (tables_in c.args.image.now) (is_kept (query_view c.args.query.now) c.args.columns.now) (length c.args.columns.now) c.args.sources.now c.loop-source.source-index c.loop-source.before c.match-table_asked.before c.source-item.result w.in_ok-shown.shown
          c.loop-source.listings.items c.match-table_asked.listings.items c.loop-source-test.true c.source-item.is
          (record { there = c.loop-source.invariant.there; room = c.loop-source.invariant.room; listed = c.loop-source.invariant.listed })
          (record { table = w.in-Some.table.now; named = sym w.in-Some.ensures; columns = w.in_ok-shown.ensures.columns; key = w.in_ok-key.key; fixed = w.in_ok-key.ensures.fixed; rows = w.in_ok-shown.ensures.rows })
          (w.before-is ∙ ap (λ (cs : List Column). c.loop-source.before + length cs) w.as_slice.ensures) (ap (λ (v : Vec Source Global). v.items) w.listings-is ∙ w.in_ok-push.ensures.items) in
          record { there = goes.there; room = goes.room; listed = goes.listed }
      | in_default w ↦
          absurd (next_there (tables_in c.args.image.now) c.args.sources.now c.loop-source.source-index c.source-item.result c.loop-source-test.true c.source-item.is c.loop-source.invariant.there w.in_default.ensures)
    ]
