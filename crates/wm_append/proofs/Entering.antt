-- The records of entries that are gone through one by one.
use Rattle.std.proofs.Common.{◌≡◌, ℕ, suc, ◌+◌, Bool, true, false, if◌then◌else◌, List, [], ◌∷◌, ◌++◌, length, map, refl, sym, ap, ◌∙◌, arith}
use Rattle.std.proofs.lemmas.List.{length-map, map-append}
use Rattle.std.proofs.lemmas.List.Elements.{filter_map-append}
use Rattle.wm_graph.specs.Rules.{as_drawn}
use Rattle.wm_spec.specs.Lists.{Entry}
use Rattle.wm_spec.specs.declared.record.Record.{Record}
use Rattle.wm_spec.specs.declared.record.Record.TheVariants as records
use Rattle.wm_spec.specs.declared.record.hist.Hist.{Hist}
use Rattle.wm_spec.specs.declared.record.piece.PieceRecord.{PieceRecord}
use Rattle.wm_spec.specs.declared.record.table.Table.{Table}
use Rattle.wm_state.specs.Editing.{entry_of}
use Rattle.wm_state.specs.Entries.{AreStamped, hist_of, hists_kept, piece_of, pieces_of, row_in, rows_in}
use Rattle.wm_state.specs.Standing.{has_history}
use Rattle.wm_state.specs.Touching.{marks_of}
use Rattle.wm_state.specs.declared.edit.NewEntry.{NewEntry}
use Rattle.wm_append.specs.Appending.{hists_if}

-- entries as lists have them, one more
entries-push : (xs : List NewEntry) (x : NewEntry) → map entry_of (xs ++ x ∷ []) ≡ map entry_of xs ++ entry_of x ∷ []
entries-push xs x = map-append entry_of xs (x ∷ [])

-- the row of one entry more
pub rows_more : (xs : List NewEntry) (x : NewEntry) (before after : List Record) → before ≡ map records.Row (rows_in (map entry_of xs)) → after ≡ before ++ map records.Row (rows_in (entry_of x ∷ []))
    → after ≡ map records.Row (rows_in (map entry_of (xs ++ x ∷ [])))
rows_more xs x before after is pushed =
    pushed ∙ ap (λ rs. rs ++ map records.Row (rows_in (entry_of x ∷ []))) is
    ∙ sym (map-append records.Row (rows_in (map entry_of xs)) (rows_in (entry_of x ∷ [])))
    ∙ ap (map records.Row) (sym (filter_map-append row_in (map entry_of xs) (entry_of x ∷ [])))
    ∙ ap (λ es. map records.Row (rows_in es)) (sym (entries-push xs x))

-- and its piece
pub pieces_more : (version : ℕ) (xs : List NewEntry) (x : NewEntry) (before after : List PieceRecord) → before ≡ pieces_of version (map entry_of xs) → after ≡ before ++ piece_of version (entry_of x) ∷ []
    → after ≡ pieces_of version (map entry_of (xs ++ x ∷ []))
pieces_more version xs x before after is pushed =
    pushed ∙ ap (λ ps. ps ++ piece_of version (entry_of x) ∷ []) is
    ∙ sym (map-append (piece_of version) (map entry_of xs) (entry_of x ∷ []))
    ∙ ap (pieces_of version) (sym (entries-push xs x))

-- ---- what has a position

no_more : (k : ℕ) → k ≡ k + 0
no_more k = omega arith

next : (k l : ℕ) → k + 1 + l ≡ k + suc l
next k l = omega arith

marks-push : (place start : ℕ) (es : List Entry) (e : Entry) → marks_of place start (es ++ e ∷ []) ≡ marks_of place start es ++ marks_of place (start + length es) (e ∷ [])
marks-push place start [] e = ap (λ k. marks_of place k (e ∷ [])) (no_more start)
marks-push place start (x ∷ es) e =
    ap (λ marks. as_drawn (record { space = 0; place = place; cells = record { table = x.table; key = x.key; from = x.from; till = x.till }; position = start }) ∷ marks)
    (marks-push place (start + 1) es e ∙ ap (λ k. marks_of place (start + 1) es ++ marks_of place k (e ∷ [])) (next start (length es)))

-- the mark of one entry more
pub marks_more : (place start at : ℕ) (xs : List NewEntry) (x : NewEntry) (before after : List PieceRecord) → before ≡ marks_of place start (map entry_of xs) → at ≡ start + length xs
    → after ≡ before ++ marks_of place at (entry_of x ∷ []) → after ≡ marks_of place start (map entry_of (xs ++ x ∷ []))
marks_more place start at xs x before after is stands pushed =
    pushed ∙ ap (λ ms. ms ++ marks_of place at (entry_of x ∷ [])) is
    ∙ ap (λ k. marks_of place start (map entry_of xs) ++ marks_of place k (entry_of x ∷ [])) (stands ∙ ap (λ k. start + k) (sym (length-map xs entry_of)))
    ∙ sym (marks-push place start (map entry_of xs) (entry_of x))
    ∙ ap (marks_of place start) (sym (entries-push xs x))

hists-push : (history : Bool) (n position : ℕ) (es : List Entry) (e : Entry) → hists_if history n position (es ++ e ∷ []) ≡ hists_if history n position es ++ hists_if history n (position + length es) (e ∷ [])
hists-push history n position [] e = ap (λ k. hists_if history n k (e ∷ [])) (no_more position)
hists-push true n position (x ∷ es) e =
    ap (λ hists. hist_of n position x ∷ hists) (hists-push true n (position + 1) es e ∙ ap (λ k. hists_if true n (position + 1) es ++ hists_if true n k (e ∷ [])) (next position (length es)))
hists-push false n position (x ∷ es) e = hists-push false n (position + 1) es e ∙ ap (λ k. hists_if false n (position + 1) es ++ hists_if false n k (e ∷ [])) (next position (length es))

-- and what a log keeps of it
pub hists_more : (history : Bool) (n start at : ℕ) (xs : List NewEntry) (x : NewEntry) (before after : List Record) → before ≡ map records.Hist (hists_if history n start (map entry_of xs)) → at ≡ start + length xs
    → after ≡ before ++ map records.Hist (hists_if history n at (entry_of x ∷ [])) → after ≡ map records.Hist (hists_if history n start (map entry_of (xs ++ x ∷ [])))
hists_more history n start at xs x before after is stands pushed =
    pushed ∙ ap (λ rs. rs ++ map records.Hist (hists_if history n at (entry_of x ∷ []))) is
    ∙ ap (λ k. map records.Hist (hists_if history n start (map entry_of xs)) ++ map records.Hist (hists_if history n k (entry_of x ∷ []))) (stands ∙ ap (λ k. start + k) (sym (length-map xs entry_of)))
    ∙ sym (map-append records.Hist (hists_if history n start (map entry_of xs)) (hists_if history n (start + length (map entry_of xs)) (entry_of x ∷ [])))
    ∙ ap (map records.Hist) (sym (hists-push history n start (map entry_of xs) (entry_of x)))
    ∙ ap (λ es. map records.Hist (hists_if history n start es)) (sym (entries-push xs x))

-- entries are of one table, which keeps its history or does not
pub kept_told : (tables : List Table) (history : Bool) (n table stamp position : ℕ) (es : List Entry) → AreStamped table stamp es → has_history tables table ≡ history → hists_kept tables n position es ≡ hists_if history n position es
kept_told tables history n table stamp position [] stamped is = refl
kept_told tables history n table stamp position (e ∷ es) stamped is =
    one (has_history tables e.table) (ap (has_history tables) stamped.0.table ∙ is) (hists_kept tables n (position + 1) es) (hists_if history n (position + 1) es) (kept_told tables history n table (stamp + 1) (position + 1) es stamped.1 is)
  where
    one : (b : Bool) → b ≡ history → (xs ys : List Hist) → xs ≡ ys → (if b then hist_of n position e ∷ xs else xs) ≡ (if history then hist_of n position e ∷ ys else ys)
    one b same xs ys rest = rw (same, rest) refl
