-- The parts of the records after the batches that lines make.
use Rattle.std.proofs.Common.{◌≡◌, ℕ, List, [], ◌∷◌, ◌++◌, Some, refl, sym, ap, subst, ◌∙◌}
use Rattle.wm_graph.specs.Parts.{Parts, parts_of, as_counters, as_table, as_space, as_version, as_savepoint, as_row, as_piece, as_touch, as_lock, as_hist, as_mark, as_turn}
use Rattle.wm_spec.specs.Records.{record_at}
use Rattle.wm_spec.specs.declared.record.Record.{Record}
use Rattle.wm_spec.specs.declared.record.Record.TheVariants as records
use Rattle.wm_spec.specs.declared.record.stored.Stored.{Stored}
use Rattle.wm_spec.specs.declared.record.counters.Counters.{Counters}
use Rattle.wm_spec.specs.declared.record.hist.Hist.{Hist}
use Rattle.wm_spec.specs.declared.record.lock.Lock.{Lock}
use Rattle.wm_spec.specs.declared.record.piece.PieceRecord.{PieceRecord}
use Rattle.wm_spec.specs.declared.record.row.RowRecord.{RowRecord}
use Rattle.wm_spec.specs.declared.record.savepoint.Savepoint.{Savepoint}
use Rattle.wm_spec.specs.declared.record.space.Space.{Space}
use Rattle.wm_spec.specs.declared.record.table.Table.{Table}
use Rattle.wm_spec.specs.declared.record.trace.Trace.{Trace}
use Rattle.wm_spec.specs.declared.record.turn.Turn.{Turn}
use Rattle.wm_spec.specs.declared.record.version.Version.{Version}
use Rattle.wm_state.specs.ById.{Ascend, set_at, applied}
use Rattle.wm_state.specs.Batches.{AllUnder, create_batch}
use Rattle.wm_state.proofs.ByKind.{kinds, stored, Split, split_of, set-split, set-behind, kinds-same, kinds-one, kinds-more, kinds-no_more}
use Rattle.wm_state.proofs.Tables.{created}

-- the parts, kind by kind
abbrev made : List Counters → List Table → List Space → List Version → List Savepoint → List RowRecord → List PieceRecord → List Trace → List Lock → List Hist → List Trace → List Turn → Parts
made c t s v k r p x l h m u = record { counters = c; tables = t; spaces = s; versions = v; savepoints = k; rows = r; pieces = p; touches = x; locks = l; hists = h; marks = m; turns = u }

made_same : {a b : List Counters} {c d : List Table} {e f : List Space} {g h : List Version} {i j : List Savepoint} {k l : List RowRecord} {m n : List PieceRecord} {o p : List Trace} {q r : List Lock} {s t : List Hist} {u v : List Trace}
    {w x : List Turn} → a ≡ b → c ≡ d → e ≡ f → g ≡ h → i ≡ j → k ≡ l → m ≡ n → o ≡ p → q ≡ r → s ≡ t → u ≡ v → w ≡ x → made a c e g i k m o q s u w ≡ made b d f h j l n p r t v x
made_same one two three four five six seven eight nine ten eleven twelve = rw (one, two, three, four, five, six, seven, eight, nine, ten, eleven, twelve) refl

alone : {A : Type 0} (xs ys : List A) (a b : A) → xs ++ a ∷ ys ≡ b ∷ [] → (xs ≡ []) × (ys ≡ [])
alone [] [] a b e = (refl, refl)
alone [] (y ∷ ys) a b e = cc
alone (x ∷ []) ys a b e = cc
alone (x ∷ y ∷ xs) ys a b e = cc

-- the one record of counters is in its place
counters-put : (front back : List Stored) (id : ℕ) (old new : Counters) → kinds as_counters (front ++ stored id (records.Counters old) ∷ back) ≡ old ∷ []
    → kinds as_counters (front ++ stored id (records.Counters new) ∷ back) ≡ new ∷ []
counters-put front back id old new one =
    let h = alone (kinds as_counters front) (kinds as_counters back) old old (sym (kinds-one as_counters front back id (records.Counters old) old refl) ∙ one) in
    kinds-one as_counters front back id (records.Counters new) new refl ∙ rw (h.0, h.1) refl

pub AllUnder-put : (n : ℕ) (front back : List Stored) (id : ℕ) (r q : Record) → AllUnder n (front ++ stored id r ∷ back) → AllUnder n (front ++ stored id q ∷ back)
AllUnder-put n [] back id r q under = under
AllUnder-put n (x ∷ front) back id r q under = (under.0, AllUnder-put n front back id r q under.1)

-- the counters change, and all else stands
abbrev pub recounted : Parts → Counters → Parts
recounted p c = record p { counters = c ∷ [] }

-- ---- one record changes

pub parts-counted : (front back : List Stored) (id : ℕ) (old new : Counters) → (parts_of (front ++ stored id (records.Counters old) ∷ back)).counters ≡ old ∷ []
    → parts_of (front ++ stored id (records.Counters new) ∷ back) ≡ recounted (parts_of (front ++ stored id (records.Counters old) ∷ back)) new
unfolding parts_of
parts-counted front back id old new one = made_same
    (counters-put front back id old new one)
    (kinds-same as_table front back id (records.Counters old) (records.Counters new) refl refl)
    (kinds-same as_space front back id (records.Counters old) (records.Counters new) refl refl)
    (kinds-same as_version front back id (records.Counters old) (records.Counters new) refl refl)
    (kinds-same as_savepoint front back id (records.Counters old) (records.Counters new) refl refl)
    (kinds-same as_row front back id (records.Counters old) (records.Counters new) refl refl)
    (kinds-same as_piece front back id (records.Counters old) (records.Counters new) refl refl)
    (kinds-same as_touch front back id (records.Counters old) (records.Counters new) refl refl)
    (kinds-same as_lock front back id (records.Counters old) (records.Counters new) refl refl)
    (kinds-same as_hist front back id (records.Counters old) (records.Counters new) refl refl)
    (kinds-same as_mark front back id (records.Counters old) (records.Counters new) refl refl)
    (kinds-same as_turn front back id (records.Counters old) (records.Counters new) refl refl)

pub parts-tabled : (front back : List Stored) (id : ℕ) (t u : Table)
    → parts_of (front ++ stored id (records.Table u) ∷ back) ≡ record (parts_of (front ++ stored id (records.Table t) ∷ back)) { tables = kinds as_table front ++ u ∷ kinds as_table back }
unfolding parts_of
parts-tabled front back id t u = made_same
    (kinds-same as_counters front back id (records.Table t) (records.Table u) refl refl)
    (kinds-one as_table front back id (records.Table u) u refl)
    (kinds-same as_space front back id (records.Table t) (records.Table u) refl refl)
    (kinds-same as_version front back id (records.Table t) (records.Table u) refl refl)
    (kinds-same as_savepoint front back id (records.Table t) (records.Table u) refl refl)
    (kinds-same as_row front back id (records.Table t) (records.Table u) refl refl)
    (kinds-same as_piece front back id (records.Table t) (records.Table u) refl refl)
    (kinds-same as_touch front back id (records.Table t) (records.Table u) refl refl)
    (kinds-same as_lock front back id (records.Table t) (records.Table u) refl refl)
    (kinds-same as_hist front back id (records.Table t) (records.Table u) refl refl)
    (kinds-same as_mark front back id (records.Table t) (records.Table u) refl refl)
    (kinds-same as_turn front back id (records.Table t) (records.Table u) refl refl)

pub tables-split : (front back : List Stored) (id : ℕ) (t : Table) → (parts_of (front ++ stored id (records.Table t) ∷ back)).tables ≡ kinds as_table front ++ t ∷ kinds as_table back
unfolding parts_of
tables-split front back id t = kinds-one as_table front back id (records.Table t) t refl

pub parts-spaced : (front back : List Stored) (id : ℕ) (a b : Space)
    → parts_of (front ++ stored id (records.Space b) ∷ back) ≡ record (parts_of (front ++ stored id (records.Space a) ∷ back)) { spaces = kinds as_space front ++ b ∷ kinds as_space back }
unfolding parts_of
parts-spaced front back id a b = made_same
    (kinds-same as_counters front back id (records.Space a) (records.Space b) refl refl)
    (kinds-same as_table front back id (records.Space a) (records.Space b) refl refl)
    (kinds-one as_space front back id (records.Space b) b refl)
    (kinds-same as_version front back id (records.Space a) (records.Space b) refl refl)
    (kinds-same as_savepoint front back id (records.Space a) (records.Space b) refl refl)
    (kinds-same as_row front back id (records.Space a) (records.Space b) refl refl)
    (kinds-same as_piece front back id (records.Space a) (records.Space b) refl refl)
    (kinds-same as_touch front back id (records.Space a) (records.Space b) refl refl)
    (kinds-same as_lock front back id (records.Space a) (records.Space b) refl refl)
    (kinds-same as_hist front back id (records.Space a) (records.Space b) refl refl)
    (kinds-same as_mark front back id (records.Space a) (records.Space b) refl refl)
    (kinds-same as_turn front back id (records.Space a) (records.Space b) refl refl)

pub spaces-split : (front back : List Stored) (id : ℕ) (a : Space) → (parts_of (front ++ stored id (records.Space a) ∷ back)).spaces ≡ kinds as_space front ++ a ∷ kinds as_space back
unfolding parts_of
spaces-split front back id a = kinds-one as_space front back id (records.Space a) a refl

-- ---- one record more

parts-more_table : (ss : List Stored) (id : ℕ) (t : Table) → parts_of (ss ++ stored id (records.Table t) ∷ []) ≡ record (parts_of ss) { tables = (parts_of ss).tables ++ t ∷ [] }
unfolding parts_of
parts-more_table ss id t = made_same
    (kinds-no_more as_counters ss id (records.Table t) refl)
    (kinds-more as_table ss id (records.Table t) t refl)
    (kinds-no_more as_space ss id (records.Table t) refl)
    (kinds-no_more as_version ss id (records.Table t) refl)
    (kinds-no_more as_savepoint ss id (records.Table t) refl)
    (kinds-no_more as_row ss id (records.Table t) refl)
    (kinds-no_more as_piece ss id (records.Table t) refl)
    (kinds-no_more as_touch ss id (records.Table t) refl)
    (kinds-no_more as_lock ss id (records.Table t) refl)
    (kinds-no_more as_hist ss id (records.Table t) refl)
    (kinds-no_more as_mark ss id (records.Table t) refl)
    (kinds-no_more as_turn ss id (records.Table t) refl)

pub parts-more_version : (ss : List Stored) (id : ℕ) (v : Version) → parts_of (ss ++ stored id (records.Version v) ∷ []) ≡ record (parts_of ss) { versions = (parts_of ss).versions ++ v ∷ [] }
unfolding parts_of
parts-more_version ss id v = made_same
    (kinds-no_more as_counters ss id (records.Version v) refl)
    (kinds-no_more as_table ss id (records.Version v) refl)
    (kinds-no_more as_space ss id (records.Version v) refl)
    (kinds-more as_version ss id (records.Version v) v refl)
    (kinds-no_more as_savepoint ss id (records.Version v) refl)
    (kinds-no_more as_row ss id (records.Version v) refl)
    (kinds-no_more as_piece ss id (records.Version v) refl)
    (kinds-no_more as_touch ss id (records.Version v) refl)
    (kinds-no_more as_lock ss id (records.Version v) refl)
    (kinds-no_more as_hist ss id (records.Version v) refl)
    (kinds-no_more as_mark ss id (records.Version v) refl)
    (kinds-no_more as_turn ss id (records.Version v) refl)

pub parts-more_space : (ss : List Stored) (id : ℕ) (a : Space) → parts_of (ss ++ stored id (records.Space a) ∷ []) ≡ record (parts_of ss) { spaces = (parts_of ss).spaces ++ a ∷ [] }
unfolding parts_of
parts-more_space ss id a = made_same
    (kinds-no_more as_counters ss id (records.Space a) refl)
    (kinds-no_more as_table ss id (records.Space a) refl)
    (kinds-more as_space ss id (records.Space a) a refl)
    (kinds-no_more as_version ss id (records.Space a) refl)
    (kinds-no_more as_savepoint ss id (records.Space a) refl)
    (kinds-no_more as_row ss id (records.Space a) refl)
    (kinds-no_more as_piece ss id (records.Space a) refl)
    (kinds-no_more as_touch ss id (records.Space a) refl)
    (kinds-no_more as_lock ss id (records.Space a) refl)
    (kinds-no_more as_hist ss id (records.Space a) refl)
    (kinds-no_more as_mark ss id (records.Space a) refl)
    (kinds-no_more as_turn ss id (records.Space a) refl)

pub parts-more_savepoint : (ss : List Stored) (id : ℕ) (x : Savepoint) → parts_of (ss ++ stored id (records.Savepoint x) ∷ []) ≡ record (parts_of ss) { savepoints = (parts_of ss).savepoints ++ x ∷ [] }
unfolding parts_of
parts-more_savepoint ss id x = made_same
    (kinds-no_more as_counters ss id (records.Savepoint x) refl)
    (kinds-no_more as_table ss id (records.Savepoint x) refl)
    (kinds-no_more as_space ss id (records.Savepoint x) refl)
    (kinds-no_more as_version ss id (records.Savepoint x) refl)
    (kinds-more as_savepoint ss id (records.Savepoint x) x refl)
    (kinds-no_more as_row ss id (records.Savepoint x) refl)
    (kinds-no_more as_piece ss id (records.Savepoint x) refl)
    (kinds-no_more as_touch ss id (records.Savepoint x) refl)
    (kinds-no_more as_lock ss id (records.Savepoint x) refl)
    (kinds-no_more as_hist ss id (records.Savepoint x) refl)
    (kinds-no_more as_mark ss id (records.Savepoint x) refl)
    (kinds-no_more as_turn ss id (records.Savepoint x) refl)

pub parts-more_turn : (ss : List Stored) (id : ℕ) (x : Turn) → parts_of (ss ++ stored id (records.Turn x) ∷ []) ≡ record (parts_of ss) { turns = (parts_of ss).turns ++ x ∷ [] }
unfolding parts_of
parts-more_turn ss id x = made_same
    (kinds-no_more as_counters ss id (records.Turn x) refl)
    (kinds-no_more as_table ss id (records.Turn x) refl)
    (kinds-no_more as_space ss id (records.Turn x) refl)
    (kinds-no_more as_version ss id (records.Turn x) refl)
    (kinds-no_more as_savepoint ss id (records.Turn x) refl)
    (kinds-no_more as_row ss id (records.Turn x) refl)
    (kinds-no_more as_piece ss id (records.Turn x) refl)
    (kinds-no_more as_touch ss id (records.Turn x) refl)
    (kinds-no_more as_lock ss id (records.Turn x) refl)
    (kinds-no_more as_hist ss id (records.Turn x) refl)
    (kinds-no_more as_mark ss id (records.Turn x) refl)
    (kinds-more as_turn ss id (records.Turn x) x refl)

-- ---- a table is made

pub parts-created : (ss : List Stored) (counters_id id : ℕ) (old new : Counters) (t : Table) → Ascend ss → record_at ss counters_id ≡ Some (records.Counters old) → (parts_of ss).counters ≡ old ∷ []
    → AllUnder id ss → parts_of (applied (create_batch counters_id new id t) ss) ≡ created (parts_of ss) new t
parts-created ss counters_id id old new t sorted found one under = by_split (split_of ss counters_id (records.Counters old) found)
  where
    by_split : Split ss counters_id (records.Counters old) → parts_of (set_at id (Some (records.Table t)) (set_at counters_id (Some (records.Counters new)) ss)) ≡ created (parts_of ss) new t
    by_split s =
        let first : set_at counters_id (Some (records.Counters new)) ss ≡ s.front ++ stored counters_id (records.Counters new) ∷ s.back =
        ap (set_at counters_id (Some (records.Counters new))) s.is ∙ set-split s.front s.back counters_id (records.Counters old) (records.Counters new) (subst (λ xs. Ascend xs) s.is sorted) in
        let second : set_at id (Some (records.Table t)) (s.front ++ stored counters_id (records.Counters new) ∷ s.back) ≡ (s.front ++ stored counters_id (records.Counters new) ∷ s.back) ++ stored id (records.Table t) ∷ [] =
        set-behind (s.front ++ stored counters_id (records.Counters new) ∷ s.back) id (records.Table t) (AllUnder-put id s.front s.back counters_id (records.Counters old) (records.Counters new) (subst (λ xs. AllUnder id xs) s.is under)) in
        ap parts_of (ap (set_at id (Some (records.Table t))) first ∙ second)
        ∙ parts-more_table (s.front ++ stored counters_id (records.Counters new) ∷ s.back) id t
        ∙ ap (λ (p : Parts). record p { tables = p.tables ++ t ∷ [] }) (parts-counted s.front s.back counters_id old new (subst (λ xs. (parts_of xs).counters ≡ old ∷ []) s.is one) ∙ ap (λ xs. recounted (parts_of xs) new) (sym s.is))
