-- The parts of records with new ones behind them, and of those that a test of pieces and one of touches keep.
use Rattle.std.proofs.Common.{◌≡◌, ℕ, ◌+◌, Bool, true, false, cond, List, [], ◌∷◌, ◌++◌, map, append_assoc, append-nil, refl, sym, ap, ◌∙◌}
use Rattle.std.proofs.lemmas.List.{map-append}
use Rattle.std.specs.List.{filter}
use Rattle.wm_graph.specs.Parts.{Parts, parts_in, parts_of}
use Rattle.wm_graph.proofs.Joined.{joined, parts-append}
use Rattle.wm_spec.specs.declared.record.Record.{Record}
use Rattle.wm_spec.specs.declared.record.Record.TheVariants as records
use Rattle.wm_spec.specs.declared.record.hist.Hist.{Hist}
use Rattle.wm_spec.specs.declared.record.lock.Lock.{Lock}
use Rattle.wm_spec.specs.declared.record.piece.PieceRecord.{PieceRecord}
use Rattle.wm_spec.specs.declared.record.row.RowRecord.{RowRecord}
use Rattle.wm_spec.specs.declared.record.stored.Stored.{Stored}
use Rattle.wm_spec.specs.declared.record.trace.Trace.{Trace}
use Rattle.wm_state.specs.Batches.{AllUnder}
use Rattle.wm_state.specs.ById.{applied}
use Rattle.wm_state.specs.Writes.{keeps_both, put_all}
use Rattle.wm_state.proofs.ByKind.{stored, set-behind}
use Rattle.wm_state.proofs.Planned.{AllUnder-next}

-- ---- new records behind the others

-- records under ids that follow one another
numbered : ℕ → List Record → List Stored
numbered id [] = []
numbered id (r ∷ rs) = stored id r ∷ numbered (id + 1) rs

numbered_are : (id : ℕ) (rs : List Record) → map (λ (s : Stored). s.record) (numbered id rs) ≡ rs
unfolding numbered
numbered_are id [] = refl
numbered_are id (r ∷ rs) = ap (λ xs. r ∷ xs) (numbered_are (id + 1) rs)

put_behind : (id : ℕ) (rs : List Record) (ss : List Stored) → AllUnder id ss → applied (put_all id rs) ss ≡ ss ++ numbered id rs
unfolding numbered
put_behind id [] ss under = sym (append-nil ss)
put_behind id (r ∷ rs) ss under =
    ap (applied (put_all (id + 1) rs)) (set-behind ss id r under)
    ∙ put_behind (id + 1) rs (ss ++ stored id r ∷ []) (AllUnder-next id ss r under)
    ∙ append_assoc ss (stored id r ∷ []) (numbered (id + 1) rs)

parts-put : (id : ℕ) (rs : List Record) (ss : List Stored) → AllUnder id ss → parts_of (applied (put_all id rs) ss) ≡ joined (parts_of ss) (parts_in rs)
unfolding parts_of
parts-put id rs ss under =
    ap parts_of (put_behind id rs ss under)
    ∙ ap parts_in (map-append (λ (s : Stored). s.record) ss (numbered id rs) ∙ ap (λ xs. map (λ (s : Stored). s.record) ss ++ xs) (numbered_are id rs))
    ∙ parts-append (map (λ (s : Stored). s.record) ss) rs

-- ---- what entries bring

-- rows, pieces, touches, and entries of a log
abbrev pub new_records : List RowRecord → List PieceRecord → List Trace → List Hist → List Record
new_records rows pieces touches hists = map records.Row rows ++ (map records.Piece pieces ++ (map records.Touch touches ++ map records.Hist hists))

-- the parts of records with each of these kinds in front
parts-rows : (xs : List RowRecord) (rs : List Record) → parts_in (map records.Row xs ++ rs) ≡ record (parts_in rs) { rows = xs ++ (parts_in rs).rows }
parts-rows [] rs = refl
parts-rows (x ∷ xs) rs = ap (λ (p : Parts). record p { rows = x ∷ p.rows }) (parts-rows xs rs)

parts-pieces : (xs : List PieceRecord) (rs : List Record) → parts_in (map records.Piece xs ++ rs) ≡ record (parts_in rs) { pieces = xs ++ (parts_in rs).pieces }
parts-pieces [] rs = refl
parts-pieces (x ∷ xs) rs = ap (λ (p : Parts). record p { pieces = x ∷ p.pieces }) (parts-pieces xs rs)

parts-touches : (xs : List Trace) (rs : List Record) → parts_in (map records.Touch xs ++ rs) ≡ record (parts_in rs) { touches = xs ++ (parts_in rs).touches }
parts-touches [] rs = refl
parts-touches (x ∷ xs) rs = ap (λ (p : Parts). record p { touches = x ∷ p.touches }) (parts-touches xs rs)

parts-hists : (xs : List Hist) → parts_in (map records.Hist xs) ≡ record (parts_in []) { hists = xs }
parts-hists [] = refl
parts-hists (x ∷ xs) = ap (λ (p : Parts). record p { hists = x ∷ p.hists }) (parts-hists xs)

parts-new : (rows : List RowRecord) (pieces : List PieceRecord) (touches : List Trace) (hists : List Hist)
    → parts_in (new_records rows pieces touches hists) ≡ record (parts_in []) { rows = rows; pieces = pieces; touches = touches; hists = hists }
parts-new rows pieces touches hists =
    parts-rows rows (map records.Piece pieces ++ (map records.Touch touches ++ map records.Hist hists))
    ∙ ap (λ (p : Parts). record p { rows = rows ++ p.rows }) (parts-pieces pieces (map records.Touch touches ++ map records.Hist hists))
    ∙ ap (λ (p : Parts). record p { rows = rows ++ p.rows; pieces = pieces ++ p.pieces }) (parts-touches touches (map records.Hist hists))
    ∙ ap (λ (p : Parts). record p { rows = rows ++ p.rows; pieces = pieces ++ p.pieces; touches = touches ++ p.touches }) (parts-hists hists)
    ∙ rw (append-nil rows, append-nil pieces, append-nil touches) refl

none_behind : (p : Parts) (rows : List RowRecord) (pieces : List PieceRecord) (touches : List Trace) (hists : List Hist) → joined p (record (parts_in []) { rows = rows; pieces = pieces; touches = touches; hists = hists })
    ≡ record p { rows = p.rows ++ rows; pieces = p.pieces ++ pieces; touches = p.touches ++ touches; hists = p.hists ++ hists }
unfolding joined
none_behind p rows pieces touches hists =
    rw (append-nil p.counters, append-nil p.tables, append-nil p.spaces, append-nil p.versions, append-nil p.savepoints, append-nil p.locks, append-nil p.marks, append-nil p.turns) refl

-- they come behind the others of their kinds
pub parts-entered : (id : ℕ) (rows : List RowRecord) (pieces : List PieceRecord) (touches : List Trace) (hists : List Hist) (ss : List Stored) → AllUnder id ss
    → parts_of (applied (put_all id (new_records rows pieces touches hists)) ss)
    ≡ record (parts_of ss) { rows = (parts_of ss).rows ++ rows; pieces = (parts_of ss).pieces ++ pieces; touches = (parts_of ss).touches ++ touches; hists = (parts_of ss).hists ++ hists }
parts-entered id rows pieces touches hists ss under =
    parts-put id (new_records rows pieces touches hists) ss under ∙ ap (joined (parts_of ss)) (parts-new rows pieces touches hists) ∙ none_behind (parts_of ss) rows pieces touches hists

-- ---- marks

parts-marks : (xs : List Trace) → parts_in (map records.Mark xs) ≡ record (parts_in []) { marks = xs }
parts-marks [] = refl
parts-marks (x ∷ xs) = ap (λ (p : Parts). record p { marks = x ∷ p.marks }) (parts-marks xs)

-- they come behind the others too
pub parts-marked : (id : ℕ) (marks : List Trace) (ss : List Stored) → AllUnder id ss → parts_of (applied (put_all id (map records.Mark marks)) ss) ≡ record (parts_of ss) { marks = (parts_of ss).marks ++ marks }
unfolding joined
parts-marked id marks ss under =
    let p : Parts = parts_of ss in
    parts-put id (map records.Mark marks) ss under
    ∙ ap (joined p) (parts-marks marks)
    ∙ rw (append-nil p.counters, append-nil p.tables, append-nil p.spaces, append-nil p.versions, append-nil p.savepoints, append-nil p.rows, append-nil p.pieces, append-nil p.touches, append-nil p.locks, append-nil p.hists, append-nil p.turns)
    refl

-- so do locks
parts-locks : (xs : List Lock) → parts_in (map records.Lock xs) ≡ record (parts_in []) { locks = xs }
parts-locks [] = refl
parts-locks (x ∷ xs) = ap (λ (p : Parts). record p { locks = x ∷ p.locks }) (parts-locks xs)

pub parts-locked : (id : ℕ) (locks : List Lock) (ss : List Stored) → AllUnder id ss → parts_of (applied (put_all id (map records.Lock locks)) ss) ≡ record (parts_of ss) { locks = (parts_of ss).locks ++ locks }
unfolding joined
parts-locked id locks ss under =
    let p : Parts = parts_of ss in
    parts-put id (map records.Lock locks) ss under
    ∙ ap (joined p) (parts-locks locks)
    ∙ rw (append-nil p.counters, append-nil p.tables, append-nil p.spaces, append-nil p.versions, append-nil p.savepoints, append-nil p.rows, append-nil p.pieces, append-nil p.touches, append-nil p.marks, append-nil p.hists, append-nil p.turns)
    refl

-- ---- what tests keep

pub parts-kept : (f : PieceRecord → Bool) (g : Trace → Bool) (ss : List Stored)
    → parts_of (filter (λ (s : Stored). keeps_both f g s.record) ss) ≡ record (parts_of ss) { pieces = filter f (parts_of ss).pieces; touches = filter g (parts_of ss).touches }
unfolding parts_of
parts-kept f g [] = refl
parts-kept f g (s ∷ ss) = by_record s.record (parts-kept f g ss)
  where
    rest : List Stored
    rest = filter (λ (s : Stored). keeps_both f g s.record) ss

    after : Parts
    after = record (parts_of ss) { pieces = filter f (parts_of ss).pieces; touches = filter g (parts_of ss).touches }

    by_piece : (x : PieceRecord) → parts_of rest ≡ after → (b : Bool)
        → parts_of (cond b (stored s.id (records.Piece x) ∷ rest) rest) ≡ record after { pieces = cond b (x ∷ after.pieces) after.pieces }
    by_piece x same true = ap (λ (p : Parts). record p { pieces = x ∷ p.pieces }) same
    by_piece x same false = same

    by_touch : (x : Trace) → parts_of rest ≡ after → (b : Bool)
        → parts_of (cond b (stored s.id (records.Touch x) ∷ rest) rest) ≡ record after { touches = cond b (x ∷ after.touches) after.touches }
    by_touch x same true = ap (λ (p : Parts). record p { touches = x ∷ p.touches }) same
    by_touch x same false = same

    by_record : (r : Record) → parts_of rest ≡ after
        → parts_of (cond (keeps_both f g r) (stored s.id r ∷ rest) rest) ≡ record (parts_of (stored s.id r ∷ ss)) { pieces = filter f (parts_of (stored s.id r ∷ ss)).pieces; touches = filter g (parts_of (stored s.id r ∷ ss)).touches }
    by_record (records.Piece x) same = by_piece x same (f x)
    by_record (records.Touch x) same = by_touch x same (g x)
    by_record (records.Counters x) same = ap (λ (p : Parts). record p { counters = x ∷ p.counters }) same
    by_record (records.Table x) same = ap (λ (p : Parts). record p { tables = x ∷ p.tables }) same
    by_record (records.Space x) same = ap (λ (p : Parts). record p { spaces = x ∷ p.spaces }) same
    by_record (records.Version x) same = ap (λ (p : Parts). record p { versions = x ∷ p.versions }) same
    by_record (records.Savepoint x) same = ap (λ (p : Parts). record p { savepoints = x ∷ p.savepoints }) same
    by_record (records.Row x) same = ap (λ (p : Parts). record p { rows = x ∷ p.rows }) same
    by_record (records.Lock x) same = ap (λ (p : Parts). record p { locks = x ∷ p.locks }) same
    by_record (records.Hist x) same = ap (λ (p : Parts). record p { hists = x ∷ p.hists }) same
    by_record (records.Mark x) same = ap (λ (p : Parts). record p { marks = x ∷ p.marks }) same
    by_record (records.Turn x) same = ap (λ (p : Parts). record p { turns = x ∷ p.turns }) same
