-- What the batch of a log that gains entries puts can be kept, and the ids that it has.
use Rattle.std.proofs.Common.{◌≡◌, ℕ, nat_lt, true, List, ◌∷◌, ◌++◌, map, refl, sym}
use Rattle.std.proofs.lemmas.Bool.{ne_eqb, and_from, lt-ltb}
use Rattle.std.specs.List.{list_all}
use Rattle.wm_graph.specs.Parts.{parts_of}
use Rattle.wm_spec.specs.Lists.{Entry}
use Rattle.wm_spec.specs.declared.record.Record.{Record}
use Rattle.wm_spec.specs.declared.record.Record.TheVariants as records
use Rattle.wm_spec.specs.declared.record.counters.Counters.{Counters}
use Rattle.wm_spec.specs.declared.record.piece.PieceRecord.{PieceRecord}
use Rattle.wm_spec.specs.declared.record.space.Space.{Space}
use Rattle.wm_spec.specs.declared.record.stored.Stored.{Stored}
use Rattle.wm_spec.specs.declared.record.table.Table.{Table}
use Rattle.wm_state.specs.Batches.{drop_one, put}
use Rattle.wm_state.specs.Drafts.{can_keep_entry, is_kept, is_kept_change}
use Rattle.wm_state.specs.Entries.{hists_kept}
use Rattle.wm_state.specs.Touching.{drawn_all, marks_of, trace_of}
use Rattle.wm_state.specs.Writes.{longer_by, put_all}
use Rattle.wm_state.proofs.Appending.{all_append}
use Rattle.wm_state.proofs.ByKind.{under_found}
use Rattle.wm_state.proofs.RowsStay.{LeavesRows, away_append, away_dropped, away_put, row_apart}
use Rattle.wm_state.proofs.Settled.{Places, PlacesApart, places_apart}
use Rattle.wm_written.proofs.DraftedWritten.{Apart, all_below, two_before}
use Rattle.wm_written.proofs.WrittenKept.{drawn_kept, kept_dropped, kept_hists, kept_put, kept_touches, marks_kept}
use Rattle.wm_gained.specs.Gaining.{Retraced, gain_batch}

-- ---- values

-- where all values of the entries can be kept
pub kept_gain : (rs : List Stored) (tables : List Table) (counters_id space_id id : ℕ) (new : Counters) (a : Space) (es : List Entry) (ids : List ℕ) (traced : List PieceRecord) → list_all can_keep_entry es ≡ true → Retraced rs a es ids traced
    → list_all is_kept_change (gain_batch tables counters_id new space_id a ids id es traced) ≡ true
kept_gain rs tables counters_id space_id id new a es ids traced all r =
    kept_dropped ids _
    (kept_put id (map records.Touch (map (trace_of a.number) traced) ++ map records.Hist (hists_kept tables a.number a.log_length es))
    (all_append is_kept (map records.Touch (map (trace_of a.number) traced)) _
    (kept_touches a.number traced (drawn_kept (marks_of r.place a.log_length es) (drawn_all a.number (parts_of rs).touches) traced (marks_kept r.place a.log_length es all) r.marks))
    (kept_hists tables a.number a.log_length es all)))

-- ---- ids

-- the ids of the counters, of the workspace and those that go differ, and all are below the new ones
pub apart_gained : (rs : List Stored) (counters_id space_id id : ℕ) (a : Space) (c : Counters) (es : List Entry) (ids : List ℕ) (traced : List PieceRecord) → Places rs counters_id space_id id c a → Retraced rs a es ids traced
    → Apart counters_id space_id id ids
apart_gained rs counters_id space_id id a c es ids traced at r = record {
  differ = two_before counters_id space_id ids (ne_eqb space_id counters_id (λ same. apart.apart (sym same))) (r.gone counters_id (records.Counters c) at.counters) (r.gone space_id (records.Space a) at.space) r.once;
  under = and_from (nat_lt counters_id id) _ (lt-ltb counters_id id apart.counters) (and_from (nat_lt space_id id) _ (lt-ltb space_id id apart.space) (all_below rs id ids at.under r.there));
}
  where
    apart : PlacesApart counters_id space_id id
    apart = places_apart rs counters_id space_id id c a at

-- a row is none of what the batch puts and drops
pub rows_away : (rs : List Stored) (counters_id space_id id count : ℕ) (a : Space) (c new : Counters) (es : List Entry) (ids : List ℕ) (traced : List PieceRecord) (news : List Record) → Places rs counters_id space_id id c a
    → Retraced rs a es ids traced → LeavesRows rs (put counters_id (records.Counters new) ∷ put space_id (records.Space (longer_by count a)) ∷ (map drop_one ids ++ put_all id news))
rows_away rs counters_id space_id id count a c new es ids traced news at r k q found = (
  row_apart rs counters_id k (records.Counters c) q at.counters refl found,
  (
    row_apart rs space_id k (records.Space a) q at.space refl found,
    away_append k (map drop_one ids) (put_all id news) (away_dropped k ids (r.gone k (records.Row q) found)) (away_put k id news (under_found id rs k (records.Row q) at.under found)),
  ),
)
