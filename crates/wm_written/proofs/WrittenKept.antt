-- What the batches that write entries put can be kept: no value in it is an empty text.
use Rattle.std.proofs.Common.{◌≡◌, ℕ, ◌+◌, Bool, true, false, cond, List, [], ◌∷◌, ◌++◌, map, Option, Some, None, refl, sym, ap, ◌∙◌}
use Rattle.std.proofs.lemmas.Bool.{and_from, and_parts}
use Rattle.std.specs.List.{list_all}
use Rattle.std.specs.Option.{option_map_or}
use Rattle.wm_base.specs.declared.row.Row.{Row}
use Rattle.wm_graph.specs.Parts.{parts_of}
use Rattle.wm_spec.specs.Lists.{Entry}
use Rattle.wm_spec.specs.declared.record.Record.{Record}
use Rattle.wm_spec.specs.declared.record.Record.TheVariants as records
use Rattle.wm_spec.specs.declared.record.batch.Change.{Change}
use Rattle.wm_spec.specs.declared.record.counters.Counters.{Counters}
use Rattle.wm_spec.specs.declared.record.piece.PieceRecord.{PieceRecord}
use Rattle.wm_spec.specs.declared.record.space.Space.{Space}
use Rattle.wm_spec.specs.declared.record.stored.Stored.{Stored}
use Rattle.wm_spec.specs.declared.record.table.Table.{Table}
use Rattle.wm_state.specs.Batches.{drop_one}
use Rattle.wm_state.specs.Drafts.{can_keep, can_keep_entry, is_kept, is_kept_change}
use Rattle.wm_state.specs.Drawing.{AreDrawn, touched}
use Rattle.wm_state.specs.Entries.{hist_of, hists_kept, pieces_of, rows_in}
use Rattle.wm_state.specs.Standing.{has_history}
use Rattle.wm_state.specs.Touching.{drawn_all, marks_of, trace_of}
use Rattle.wm_state.specs.Writes.{Redrawn, entries_batch, put_all}
use Rattle.wm_state.proofs.Appending.{all_append}
use Rattle.wm_written.proofs.Behind.{new_records}
use Rattle.wm_written.proofs.Touched.{met-same, touched-all}

-- ---- changes

-- what is put
pub kept_put : (id : ℕ) (rs : List Record) → list_all is_kept rs ≡ true → list_all is_kept_change (put_all id rs) ≡ true
kept_put id [] all = refl
kept_put id (r ∷ rs) all = let h = and_parts (is_kept r) (list_all is_kept rs) all in and_from (is_kept r) _ h.0 (kept_put (id + 1) rs h.1)

-- what goes, before other changes
pub kept_dropped : (ids : List ℕ) (cs : List Change) → list_all is_kept_change cs ≡ true → list_all is_kept_change (map drop_one ids ++ cs) ≡ true
kept_dropped [] cs rest = rest
kept_dropped (id ∷ ids) cs rest = kept_dropped ids cs rest

-- ---- records

-- the rows of entries
kept_rows : (es : List Entry) → list_all can_keep_entry es ≡ true → list_all is_kept (map records.Row (rows_in es)) ≡ true
kept_rows [] all = refl
kept_rows (e ∷ es) all = let h = and_parts (can_keep_entry e) (list_all can_keep_entry es) all in by_row e.row refl (and_parts (list_all can_keep e.key) _ h.0).1 (kept_rows es h.1)
  where
    by_row : (o : Option Row) → e.row ≡ o → option_map_or (λ (row : Row). list_all can_keep row.values) e.row true ≡ true → list_all is_kept (map records.Row (rows_in es)) ≡ true
        → list_all is_kept (map records.Row (rows_in (e ∷ es))) ≡ true
    by_row None is one rest = rw is rest
    by_row (Some row) is one rest = rw is (and_from (list_all can_keep row.values) _ (sym (ap (λ o. option_map_or (λ (r : Row). list_all can_keep r.values) o true) is) ∙ one) rest)

-- the entries of a log
pub kept_hists : (tables : List Table) (n position : ℕ) (es : List Entry) → list_all can_keep_entry es ≡ true → list_all is_kept (map records.Hist (hists_kept tables n position es)) ≡ true
kept_hists tables n position [] all = refl
kept_hists tables n position (e ∷ es) all =
    let h = and_parts (can_keep_entry e) (list_all can_keep_entry es) all in by_test (has_history tables e.table) (and_parts (list_all can_keep e.key) _ h.0).0 (kept_hists tables n (position + 1) es h.1)
  where
    by_test : (b : Bool) → list_all can_keep e.key ≡ true → list_all is_kept (map records.Hist (hists_kept tables n (position + 1) es)) ≡ true
        → list_all is_kept (map records.Hist (cond b (hist_of n position e ∷ hists_kept tables n (position + 1) es) (hists_kept tables n (position + 1) es))) ≡ true
    by_test true key rest = and_from (list_all can_keep e.key) _ key rest
    by_test false key rest = rest

-- the key of a piece can be kept
abbrev pub keeps_key : PieceRecord → Bool
keeps_key x = list_all can_keep x.cells.key

-- pieces of such keys
pub kept_pieces : (xs : List PieceRecord) → list_all keeps_key xs ≡ true → list_all is_kept (map records.Piece xs) ≡ true
kept_pieces [] all = refl
kept_pieces (x ∷ xs) all = let h = and_parts (keeps_key x) (list_all keeps_key xs) all in and_from (keeps_key x) _ h.0 (kept_pieces xs h.1)

-- and what is touched there
pub kept_touches : (n : ℕ) (xs : List PieceRecord) → list_all keeps_key xs ≡ true → list_all is_kept (map records.Touch (map (trace_of n) xs)) ≡ true
kept_touches n [] all = refl
kept_touches n (x ∷ xs) all = let h = and_parts (keeps_key x) (list_all keeps_key xs) all in and_from (keeps_key x) _ h.0 (kept_touches n xs h.1)

-- ---- pieces that are drawn

-- the pieces of entries
pub news_kept : (version : ℕ) (es : List Entry) → list_all can_keep_entry es ≡ true → list_all keeps_key (pieces_of version es) ≡ true
news_kept version [] all = refl
news_kept version (e ∷ es) all =
    let h = and_parts (can_keep_entry e) (list_all can_keep_entry es) all in and_from (list_all can_keep e.key) _ (and_parts (list_all can_keep e.key) _ h.0).0 (news_kept version es h.1)

-- what entries touch
pub marks_kept : (place start : ℕ) (es : List Entry) → list_all can_keep_entry es ≡ true → list_all keeps_key (marks_of place start es) ≡ true
marks_kept place start [] all = refl
marks_kept place start (e ∷ es) all =
    let h = and_parts (can_keep_entry e) (list_all can_keep_entry es) all in and_from (list_all can_keep e.key) _ (and_parts (list_all can_keep e.key) _ h.0).0 (marks_kept place (start + 1) es h.1)

-- those that new pieces meet are of their keys, and so are all that are drawn for them
pub drawn_kept : (news old drawn : List PieceRecord) → list_all keeps_key news ≡ true → AreDrawn news (touched news old) drawn → list_all keeps_key drawn ≡ true
drawn_kept news old drawn all draws =
    draws.pass keeps_key (λ x from till e le lt ends. e) (touched-all keeps_key (λ n y hit own. ap (list_all can_keep) (sym (met-same n y hit).1.1) ∙ own) news all old) all

-- ---- the batches

-- where all values of the entries can be kept
pub kept_write : (rs : List Stored) (tables : List Table) (version counters_id space_id id : ℕ) (new : Counters) (a : Space) (es : List Entry) (ids : List ℕ) (drawn traced : List PieceRecord) → list_all can_keep_entry es ≡ true
    → Redrawn rs version a es ids drawn traced → list_all is_kept_change (entries_batch tables counters_id new space_id a ids id es drawn traced) ≡ true
kept_write rs tables version counters_id space_id id new a es ids drawn traced all r =
    kept_dropped ids _
    (kept_put id (new_records (rows_in es) drawn (map (trace_of a.number) traced) (hists_kept tables a.number a.log_length es))
    (all_append is_kept (map records.Row (rows_in es)) _ (kept_rows es all)
    (all_append is_kept (map records.Piece drawn) _ (kept_pieces drawn (drawn_kept (pieces_of version es) (parts_of rs).pieces drawn (news_kept version es all) r.pieces))
    (all_append is_kept (map records.Touch (map (trace_of a.number) traced)) _
    (kept_touches a.number traced (drawn_kept (marks_of r.place a.log_length es) (drawn_all a.number (parts_of rs).touches) traced (marks_kept r.place a.log_length es all) r.marks))
    (kept_hists tables a.number a.log_length es all)))))
