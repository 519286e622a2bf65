-- Touches that tell a log tell it with the entries of a line more, and keep their rules.
use Rattle.std.proofs.Common.{◌≡◌, ℕ, suc, ◌+◌, ◌==◌, nat_lt, nat_le, Bool, true, false, not, ◌&&◌, ◌||◌, if◌then◌else◌, List, [], ◌∷◌, ◌++◌, map, length, Option, None, Some, refl, sym, ap, ◌∙◌, ◌⊎◌, inl, inr, arith}
use Rattle.std.proofs.lemmas.Bool.{eq-eqb, eqb-true, and_from, and_parts, not-true, or_cases, or_right, true≢false}
use Rattle.std.proofs.lemmas.Bool.Decides.{nat_tests}
use Rattle.std.specs.Bool.{then_some}
use Rattle.std.specs.List.{cons_option, filter, list_all, list_any}
use Rattle.std.specs.Option.{option_map_or}
use Rattle.std.specs.Ordering.{is_eq}
use Rattle.wm_base.proofs.Plain.{nat_le-itself}
use Rattle.wm_base.specs.Key.{key_order}
use Rattle.wm_base.specs.declared.instant.TheConstants.{END}
use Rattle.wm_base.specs.declared.value.Value.{Value}
use Rattle.wm_graph.specs.Rules.{are_cells, as_drawn, collide, differ, is_given, is_key_of, is_touch, is_trace, meet}
use Rattle.wm_spec.specs.Lists.{Entry, reach, touched}
use Rattle.wm_spec.proofs.Reaching.{reach-append}
use Rattle.wm_spec.specs.declared.record.cell_range.CellRange.{CellRange}
use Rattle.wm_spec.specs.declared.record.piece.PieceRecord.{PieceRecord}
use Rattle.wm_spec.specs.declared.record.space.Space.{Space}
use Rattle.wm_spec.specs.declared.record.table.Table.{Table}
use Rattle.wm_spec.specs.declared.record.trace.Trace.{Trace}
use Rattle.wm_state.specs.Batches.{is_in}
use Rattle.wm_state.specs.Drawing.{AreDrawn, PassesParts, between, ends_at, is_clear, touched as met_by}
use Rattle.wm_state.specs.Entries.{AreStamped, fits_table, is_keyed, is_well, piece_of, pieces_of}
use Rattle.wm_state.specs.Standing.{TouchesTell, has_ends, is_end, reached, touches_end}
use Rattle.wm_state.specs.Touching.{AreMarked, Touched, drawn_all, is_unmet, marks_of, trace_at, trace_of}
use Rattle.wm_state.specs.Writes.{longer_by}
use Rattle.wm_state.proofs.Appending.{all_append}
use Rattle.wm_state.proofs.DrawingEnds.{any-apart, has_both, more-behind, more-front}
use Rattle.wm_state.proofs.Laying.{key_same}
use Rattle.wm_state.proofs.Tests.{all_filter, all_if}
use Rattle.wm_written.proofs.DrawnWell.{cells-parts}
use Rattle.wm_written.proofs.Touched.{met-same, touched-all}
use Rattle.wm_written.proofs.Touching.{beside-apart, marks-plain, reached-pieces, reached_in, view-apart, view-marked, view-other}

-- ---- ends

-- a piece below a place ends where entries do
abbrev ends_in : ℕ → List Entry → PieceRecord → Bool
ends_in below es x = if nat_lt x.version below then has_ends es x.cells else true

-- touches end where their pieces do
ends-view : (n below : ℕ) (es : List Entry) (xs : List Trace) → touches_end xs n below es ≡ list_all (ends_in below es) (drawn_all n xs)
ends-view n below es [] = refl
ends-view n below es (x ∷ xs) = by_space (x.space == n) (ends-view n below es xs)
  where
    by_space : (b : Bool) → touches_end xs n below es ≡ list_all (ends_in below es) (drawn_all n xs)
        → ((if b && nat_lt x.place below then has_ends es x.cells else true) && touches_end xs n below es) ≡ list_all (ends_in below es) (cons_option (then_some b (as_drawn x)) (drawn_all n xs))
    by_space true rest = ap (λ t. (if nat_lt x.place below then has_ends es x.cells else true) && t) rest
    by_space false rest = rest

-- the place of a piece, taken apart
in-apart : (version table : ℕ) (key : List Value) (x : PieceRecord) → is_in version table key x ≡ true → (x.version ≡ version) × ((x.cells.table ≡ table) × (x.cells.key ≡ key))
in-apart version table key x inside =
    let h = and_parts (x.version == version) ((x.cells.table == table) && is_eq (key_order x.cells.key key)) inside in
    let g = and_parts (x.cells.table == table) (is_eq (key_order x.cells.key key)) h.1 in
    (eqb-true x.version version h.0, (eqb-true x.cells.table table g.0, key_same x.cells.key key g.1))

-- where an old piece begins or ends, entries do
end-old : (below : ℕ) (es : List Entry) (x : PieceRecord) (moment : ℕ) → nat_lt x.version below ≡ true → (ys : List PieceRecord) → list_all (ends_in below es) ys ≡ true → ends_at ys x moment ≡ true → is_end es x.cells moment ≡ true
end-old below es x moment lt [] all e = absurd (true≢false (sym e))
end-old below es x moment lt (y ∷ ys) all e =
    let h = and_parts (ends_in below es y) (list_all (ends_in below es) ys) all in
    by_first (or_cases (is_in x.version x.cells.table x.cells.key y && ((y.cells.from == moment) || (y.cells.till == moment))) (ends_at ys x moment) e) h.0 (end-old below es x moment lt ys h.1)
  where
    at : ℕ → List Value → ℕ → Bool
    at table key time = is_end es (record { table = table; key = key; from = 0; till = 0 }) time

    ended_there : (y.cells.table ≡ x.cells.table) × (y.cells.key ≡ x.cells.key) → (time : ℕ) → (time == moment) ≡ true → is_end es y.cells time ≡ true → is_end es x.cells moment ≡ true
    ended_there same time is ended =
        sym (ap (λ t. at t y.cells.key time) same.0 ∙ ap (λ k. at x.cells.table k time) same.1 ∙ ap (at x.cells.table x.cells.key) (eqb-true time moment is)) ∙ ended

    by_end : (y.cells.table ≡ x.cells.table) × (y.cells.key ≡ x.cells.key) → has_ends es y.cells ≡ true → ((y.cells.from == moment) ≡ true) ⊎ ((y.cells.till == moment) ≡ true) → is_end es x.cells moment ≡ true
    by_end same ended (inl is) = ended_there same y.cells.from is (and_parts (is_end es y.cells y.cells.from) (is_end es y.cells y.cells.till) ended).0
    by_end same ended (inr is) = ended_there same y.cells.till is (and_parts (is_end es y.cells y.cells.from) (is_end es y.cells y.cells.till) ended).1

    by_first : ((is_in x.version x.cells.table x.cells.key y && ((y.cells.from == moment) || (y.cells.till == moment))) ≡ true) ⊎ (ends_at ys x moment ≡ true)
        → ends_in below es y ≡ true → (ends_at ys x moment ≡ true → is_end es x.cells moment ≡ true) → is_end es x.cells moment ≡ true
    by_first (inr later) own rest = rest later
    by_first (inl here) own rest =
        let h = and_parts (is_in x.version x.cells.table x.cells.key y) ((y.cells.from == moment) || (y.cells.till == moment)) here in
        let place = in-apart x.version x.cells.table x.cells.key y h.0 in
        by_end place.1 (sym (ap (λ b. if b then has_ends es y.cells else true) (ap (λ v. nat_lt v below) place.0 ∙ lt)) ∙ own) (or_cases (y.cells.from == moment) (y.cells.till == moment) h.1)

-- and where the piece of an entry does, the entry does, and it is of the place
end-new : (place : ℕ) (x : PieceRecord) (moment : ℕ) (es : List Entry) → ends_at (pieces_of place es) x moment ≡ true → (place ≡ x.version) × (is_end es x.cells moment ≡ true)
end-new place x moment [] e = absurd (true≢false (sym e))
end-new place x moment (e ∷ es) ended =
    by_first (or_cases (is_in x.version x.cells.table x.cells.key (piece_of place e) && ((e.from == moment) || (e.till == moment))) (ends_at (pieces_of place es) x moment) ended) (end-new place x moment es)
  where
    own : Bool
    own = ((e.table == x.cells.table) && is_eq (key_order e.key x.cells.key)) && ((e.from == moment) || (e.till == moment))

    by_first : ((is_in x.version x.cells.table x.cells.key (piece_of place e) && ((e.from == moment) || (e.till == moment))) ≡ true) ⊎ (ends_at (pieces_of place es) x moment ≡ true)
        → (ends_at (pieces_of place es) x moment ≡ true → (place ≡ x.version) × (is_end es x.cells moment ≡ true)) → (place ≡ x.version) × ((own || is_end es x.cells moment) ≡ true)
    by_first (inr behind) rest = let h = rest behind in (h.0, or_right own (is_end es x.cells moment) h.1)
    by_first (inl here) rest =
        let h = and_parts (is_in x.version x.cells.table x.cells.key (piece_of place e)) ((e.from == moment) || (e.till == moment)) here in
        let g = and_parts (place == x.version) ((e.table == x.cells.table) && is_eq (key_order e.key x.cells.key)) h.0 in
        (eqb-true place x.version g.0, ap (λ b. b || is_end es x.cells moment) (and_from ((e.table == x.cells.table) && is_eq (key_order e.key x.cells.key)) ((e.from == moment) || (e.till == moment)) g.1 h.1))

-- new touches end where a list does that has the ends of the old ones, and those of the line where its place is below
ends-told : (n place start below : ℕ) (es log all : List Entry) (old new : List Trace) → Touched n place start es old new
    → ((cells : CellRange) (moment : ℕ) → is_end log cells moment ≡ true → is_end all cells moment ≡ true)
    → (nat_lt place below ≡ true → (cells : CellRange) (moment : ℕ) → is_end es cells moment ≡ true → is_end all cells moment ≡ true)
    → touches_end old n below log ≡ true → touches_end new n below all ≡ true
ends-told n place start below es log all old new done more own ended =
    ends-view n below all new
    ∙ all_if (has_both (drawn_all n old ++ pieces_of place es)) (ends_in below all) (λ x h. by_place x (nat_lt x.version below) refl (and_parts (ends_at (drawn_all n old ++ pieces_of place es) x x.cells.from) (ends_at (drawn_all n old ++ pieces_of place es) x x.cells.till) h))
    (drawn_all n new) done.ends
  where
    was : list_all (ends_in below log) (drawn_all n old) ≡ true
    was = sym (ends-view n below log old) ∙ ended

    by_side : (x : PieceRecord) (moment : ℕ) → nat_lt x.version below ≡ true → (ends_at (drawn_all n old) x moment ≡ true) ⊎ (ends_at (pieces_of place es) x moment ≡ true) → is_end all x.cells moment ≡ true
    by_side x moment lt (inl h) = more x.cells moment (end-old below log x moment lt (drawn_all n old) was h)
    by_side x moment lt (inr h) = let g = end-new place x moment es h in own (ap (λ v. nat_lt v below) g.0 ∙ lt) x.cells moment g.1

    end_of : (x : PieceRecord) (moment : ℕ) → nat_lt x.version below ≡ true → ends_at (drawn_all n old ++ pieces_of place es) x moment ≡ true → is_end all x.cells moment ≡ true
    end_of x moment lt h =
        by_side x moment lt (any-apart (λ (y : PieceRecord). is_in x.version x.cells.table x.cells.key y && ((y.cells.from == moment) || (y.cells.till == moment))) (drawn_all n old) (pieces_of place es) h)

    by_place : (x : PieceRecord) (b : Bool) → nat_lt x.version below ≡ b
        → (ends_at (drawn_all n old ++ pieces_of place es) x x.cells.from ≡ true) × (ends_at (drawn_all n old ++ pieces_of place es) x x.cells.till ≡ true) → (if b then has_ends all x.cells else true) ≡ true
    by_place x true lt h = and_from (is_end all x.cells x.cells.from) (is_end all x.cells x.cells.till) (end_of x x.cells.from lt h.0) (end_of x x.cells.till lt h.1)
    by_place x false lt h = refl

-- ---- what touches tell

-- above the place of the marks, those of a log tell it with the entries behind it
pub tells_more : (n place below : ℕ) (es log : List Entry) (old new : List Trace) → Touched n place (length log) es old new → nat_lt place below ≡ true → TouchesTell old n below log → TouchesTell new n below (log ++ es)
tells_more n place below es log old new done lt tells = record {
  reaches = λ c.
      done.here below c
      ∙ ap (λ b. if b && touched es c then reach es c + length log else reached old n below c) lt
      ∙ ap (λ k. if touched es c then reach es c + length log else k) (tells.reaches c)
      ∙ sym (reach-append log es c);
  ends =
      ends-told n place (length log) below es log (log ++ es) old new done (λ cells moment h. more-front log es (is_end_of cells moment) h) (λ under cells moment h. more-behind log es (is_end_of cells moment) h) tells.ends;
}
  where
    is_end_of : CellRange → ℕ → Entry → Bool
    is_end_of cells moment e = ((e.table == cells.table) && is_eq (key_order e.key cells.key)) && ((e.from == moment) || (e.till == moment))

-- up to their place nothing changes
pub tells_kept : (n place start below : ℕ) (es log : List Entry) (old new : List Trace) → Touched n place start es old new → nat_lt place below ≡ false → TouchesTell old n below log → TouchesTell new n below log
tells_kept n place start below es log old new done later tells = record {
  reaches = λ c. done.here below c ∙ ap (λ b. if b && touched es c then reach es c + start else reached old n below c) later ∙ tells.reaches c;
  ends = ends-told n place start below es log log old new done (λ cells moment h. h) (λ lt. absurd (true≢false (sym lt ∙ later))) tells.ends;
}

-- nor in other workspaces
pub tells_other : (n place start m below : ℕ) (es log : List Entry) (old new : List Trace) → Touched n place start es old new → (m == n) ≡ false → TouchesTell old m below log → TouchesTell new m below log
tells_other n place start m below es log old new done apart tells = record {
  reaches = λ c.
      reached-pieces new m below c
      ∙ ap (λ (xs : List PieceRecord). reached_in xs below c) (done.elsewhere m apart)
      ∙ sym (reached-pieces old m below c)
      ∙ tells.reaches c;
  ends = ends-view m below log new ∙ ap (list_all (ends_in below log)) (done.elsewhere m apart) ∙ sym (ends-view m below log old) ∙ tells.ends;
}

-- ---- the rules

-- touches whose pieces do not collide in any workspace do not meet
pub apart-view : (xs : List Trace) → ((n : ℕ) → differ collide (drawn_all n xs) ≡ true) → differ meet xs ≡ true
apart-view [] apart = refl
apart-view (x ∷ xs) apart =
    and_from (not (list_any (meet x) xs)) (differ meet xs)
    (ap not (none_met xs (not-true (list_any (collide (as_drawn x)) (drawn_all x.space xs)) (and_parts (not (list_any (collide (as_drawn x)) (drawn_all x.space xs))) (differ collide (drawn_all x.space xs)) own).0)))
    (apart-view xs (λ n. later n (x.space == n) (apart n)))
  where
    own : differ collide (as_drawn x ∷ drawn_all x.space xs) ≡ true
    own = sym (ap (λ b. differ collide (cons_option (then_some b (as_drawn x)) (drawn_all x.space xs))) (eq-eqb x.space x.space refl)) ∙ apart x.space

    later : (n : ℕ) (b : Bool) → differ collide (cons_option (then_some b (as_drawn x)) (drawn_all n xs)) ≡ true → differ collide (drawn_all n xs) ≡ true
    later n true h = (and_parts (not (list_any (collide (as_drawn x)) (drawn_all n xs))) (differ collide (drawn_all n xs)) h).1
    later n false h = h

    turned : (a b : ℕ) → (a == b) ≡ (b == a)
    turned a b = grind (arith, nat_tests)

    none_met : (ys : List Trace) → list_any (collide (as_drawn x)) (drawn_all x.space ys) ≡ false → list_any (meet x) ys ≡ false
    none_met [] none = refl
    none_met (y ∷ ys) none = by_space (x.space == y.space) (ap (λ b. list_any (collide (as_drawn x)) (cons_option (then_some b (as_drawn y)) (drawn_all x.space ys))) (turned x.space y.space) ∙ none) (none_met ys)
      where
        by_test : (a b : Bool) → (a || b) ≡ false → (b ≡ false → list_any (meet x) ys ≡ false) → (a || list_any (meet x) ys) ≡ false
        by_test true b h rest = h
        by_test false b h rest = rest h

        by_space : (b : Bool) → list_any (collide (as_drawn x)) (cons_option (then_some b (as_drawn y)) (drawn_all x.space ys)) ≡ false
            → (list_any (collide (as_drawn x)) (drawn_all x.space ys) ≡ false → list_any (meet x) ys ≡ false) → ((b && collide (as_drawn x) (as_drawn y)) || list_any (meet x) ys) ≡ false
        by_space true h rest = by_test (collide (as_drawn x) (as_drawn y)) (list_any (collide (as_drawn x)) (drawn_all x.space ys)) h rest
        by_space false h rest = rest h

-- what is marked meets nothing where what was did not
pub marked_apart : (n place start : ℕ) (es : List Entry) (old new : List Trace) → differ meet old ≡ true → AreMarked n (marks_of place start es) old new → differ meet new ≡ true
marked_apart n place start es old new apart m = apart-view new (λ k. by_space k (k == n) refl)
  where
    news : List PieceRecord
    news = marks_of place start es

    here : differ collide (drawn_all n new) ≡ true
    here = ap (differ collide) (view-marked n news old new (marks-plain place start es) m) ∙ beside-apart news (drawn_all n old) m.drawn (view-apart n old apart) m.are

    by_space : (k : ℕ) (b : Bool) → (k == n) ≡ b → differ collide (drawn_all k new) ≡ true
    by_space k true is = ap (λ i. differ collide (drawn_all i new)) (eqb-true k n is) ∙ here
    by_space k false other = ap (differ collide) (view-other k n news old new other m) ∙ view-apart k old apart

-- each touch passes a test where the old ones do, the marks do, and the test is one of parts
pub marked-pass : (n : ℕ) (news : List PieceRecord) (old new : List Trace) (test : Trace → Bool) → PassesParts (λ x. test (trace_of n x)) → list_all test old ≡ true → list_all (λ (x : PieceRecord). test (trace_of n x)) news ≡ true
    → AreMarked n news old new → list_all test new ≡ true
marked-pass n news old new test parts olds passed m =
    ap (list_all test) m.is
    ∙ all_append test (filter (is_unmet n news) old) (map (trace_of n) m.drawn) (all_filter test (is_unmet n news) old olds)
    (all_back m.drawn (m.are.pass (λ x. test (trace_of n x)) parts (all_filter (λ x. test (trace_of n x)) (λ y. not (is_clear news y)) (drawn_all n old) (all_view old olds)) passed))
  where
    all_back : (xs : List PieceRecord) → list_all (λ (x : PieceRecord). test (trace_of n x)) xs ≡ true → list_all test (map (trace_of n) xs) ≡ true
    all_back [] all = refl
    all_back (x ∷ xs) all = let h = and_parts (test (trace_of n x)) (list_all (λ (y : PieceRecord). test (trace_of n y)) xs) all in and_from (test (trace_of n x)) (list_all test (map (trace_of n) xs)) h.0 (all_back xs h.1)

    all_view : (xs : List Trace) → list_all test xs ≡ true → list_all (λ (x : PieceRecord). test (trace_of n x)) (drawn_all n xs) ≡ true
    all_view [] all = refl
    all_view (x ∷ xs) all = let h = and_parts (test x) (list_all test xs) all in by_space (x.space == n) refl h.0 (all_view xs h.1)
      where
        same : (x.space == n) ≡ true → x ≡ trace_of n (as_drawn x)
        same is = ap (λ k. with_space k) (eqb-true x.space n is)
          where
            with_space : ℕ → Trace
            with_space k = record { space = k; place = x.place; cells = x.cells; position = x.position }

        by_space : (b : Bool) → (x.space == n) ≡ b → test x ≡ true → list_all (λ (y : PieceRecord). test (trace_of n y)) (drawn_all n xs) ≡ true
            → list_all (λ (y : PieceRecord). test (trace_of n y)) (cons_option (then_some b (as_drawn x)) (drawn_all n xs)) ≡ true
        by_space true is own rest = and_from (test (trace_of n (as_drawn x))) (list_all (λ (y : PieceRecord). test (trace_of n y)) (drawn_all n xs)) (ap test (sym (same is)) ∙ own) rest
        by_space false is own rest = rest

-- ---- touches in order

-- an entry's cells are cells of tables
abbrev pub is_on : (ℕ → Option Table) → Entry → Bool
is_on tables e = are_cells tables (record { table = e.table; key = e.key; from = e.from; till = e.till })

-- as those of stamped entries are that fit their tables
pub on_tables : (tables : ℕ → Option Table) (table stamp : ℕ) (es : List Entry) → AreStamped table stamp es → list_all (is_well tables) es ≡ true → list_all (is_on tables) es ≡ true
on_tables tables table stamp [] stamped well = refl
on_tables tables table stamp (e ∷ es) stamped well =
    let h = and_parts (is_well tables e) (list_all (is_well tables) es) well in
    and_from (is_on tables e) (list_all (is_on tables) es) (and_from (nat_lt e.from e.till && nat_le e.till END) _ stamped.0.period (keyed (tables e.table) h.0)) (on_tables tables table (stamp + 1) es stamped.1 h.1)
  where
    keyed : (o : Option Table) → option_map_or (fits_table e.key e.row) o false ≡ true → option_map_or (is_key_of e.key) o false ≡ true
    keyed None is = is
    keyed (Some t) is = (and_parts (is_key_of e.key t) (option_map_or (is_keyed t e.key) e.row true) is).0

-- marks of a place that was given, and of positions that the log has, are touches in order, and so is all that is marked
pub marked_well : (tables : ℕ → Option Table) (spaces : ℕ → Option Space) (n place start : ℕ) (s : Space) (es : List Entry) (old new : List Trace) → spaces n ≡ Some s → nat_lt place s.next_place ≡ true → nat_le (start + length es) s.log_length ≡ true
    → list_all (is_on tables) es ≡ true → list_all (is_touch tables spaces) old ≡ true → AreMarked n (marks_of place start es) old new → list_all (is_touch tables spaces) new ≡ true
marked_well tables spaces n place start s es old new found given room placed olds m =
    marked-pass n (marks_of place start es) old new (is_touch tables spaces) touch-parts olds (marks_well start es room placed) m
  where
    within : ℕ → Space → Bool
    within position t = nat_lt position t.log_length

    touch-parts : PassesParts (λ x. is_touch tables spaces (trace_of n x))
    touch-parts x from till well lower some upper =
        let h = and_parts (is_trace tables spaces (trace_of n x)) (option_map_or (within x.stamp) (spaces n) false) well in
        let g = and_parts (are_cells tables x.cells) (is_given spaces n x.version) h.0 in
        and_from (is_trace tables spaces (trace_of n (between from till x))) (option_map_or (within x.stamp) (spaces n) false)
        (and_from (are_cells tables (between from till x).cells) (is_given spaces n x.version) (cells-parts tables x.cells from till g.0 some upper) g.1) h.1

    below : (a b d : ℕ) → nat_le (a + suc b) d ≡ true → nat_lt a d ≡ true
    below a b d e = grind (arith, nat_tests, e)

    next : (a b d : ℕ) → nat_le (a + suc b) d ≡ true → nat_le (a + 1 + b) d ≡ true
    next a b d e = grind (arith, nat_tests, e)

    marks_well : (from : ℕ) (fs : List Entry) → nat_le (from + length fs) s.log_length ≡ true → list_all (is_on tables) fs ≡ true → list_all (λ (x : PieceRecord). is_touch tables spaces (trace_of n x)) (marks_of place from fs) ≡ true
    marks_well from [] le all = refl
    marks_well from (f ∷ fs) le all =
        let h = and_parts (is_on tables f) (list_all (is_on tables) fs) all in
        and_from (((is_on tables f) && is_given spaces n place) && option_map_or (within from) (spaces n) false) (list_all (λ (x : PieceRecord). is_touch tables spaces (trace_of n x)) (marks_of place (from + 1) fs))
        (and_from ((is_on tables f) && is_given spaces n place) (option_map_or (within from) (spaces n) false)
        (and_from (is_on tables f) (is_given spaces n place) h.0 (ap (λ o. option_map_or (λ (t : Space). nat_lt place t.next_place) o false) found ∙ given))
        (ap (λ o. option_map_or (within from) o false) found ∙ below from (length fs) s.log_length le))
        (marks_well (from + 1) fs (next from (length fs) s.log_length le) h.1)

-- the same where the old ones are in order before the log of the workspace is longer by as many as the entries
pub marked_longer : (tables : ℕ → Option Table) (spaces after : ℕ → Option Space) (n place : ℕ) (s : Space) (es : List Entry) (old new : List Trace) → spaces n ≡ Some s → after n ≡ Some (longer_by (length es) s)
    → ((m : ℕ) → (m == n) ≡ false → after m ≡ spaces m) → nat_lt place s.next_place ≡ true → list_all (is_on tables) es ≡ true → list_all (is_touch tables spaces) old ≡ true → AreMarked n (marks_of place s.log_length es) old new
    → list_all (is_touch tables after) new ≡ true
marked_longer tables spaces after n place s es old new found longer others given placed olds m =
    marked_well tables after n place s.log_length (longer_by (length es) s) es old new longer given (nat_le-itself (s.log_length + length es)) placed
    (all_if (is_touch tables spaces) (is_touch tables after) (λ x h. by_space x (x.space == n) refl h) old olds) m
  where
    less : (a b d : ℕ) → nat_lt a b ≡ true → nat_lt a (b + d) ≡ true
    less a b d lt = grind (arith, nat_tests, lt)

    touch_in : Trace → Option Space → Bool
    touch_in x o = (are_cells tables x.cells && option_map_or (λ (t : Space). nat_lt x.place t.next_place) o false) && option_map_or (λ (t : Space). nat_lt x.position t.log_length) o false

    by_space : (x : Trace) (b : Bool) → (x.space == n) ≡ b → touch_in x (spaces x.space) ≡ true → touch_in x (after x.space) ≡ true
    by_space x false other h = ap (touch_in x) (others x.space other) ∙ h
    by_space x true is h =
        let before : touch_in x (Some s) ≡ true = sym (ap (touch_in x) (ap spaces (eqb-true x.space n is) ∙ found)) ∙ h in
        let g = and_parts (are_cells tables x.cells && nat_lt x.place s.next_place) (nat_lt x.position s.log_length) before in
        ap (touch_in x) (ap after (eqb-true x.space n is) ∙ longer)
        ∙ and_from (are_cells tables x.cells && nat_lt x.place s.next_place) (nat_lt x.position (s.log_length + length es)) g.0 (less x.position s.log_length (length es) g.1)

-- ---- back to touches of the one place

-- marks are of their place
pub marks-at : (place start : ℕ) (es : List Entry) → list_all (λ (x : PieceRecord). x.version == place) (marks_of place start es) ≡ true
marks-at place start [] = refl
marks-at place start (e ∷ es) = and_from (place == place) (list_all (λ (x : PieceRecord). x.version == place) (marks_of place (start + 1) es)) (eq-eqb place place refl) (marks-at place (start + 1) es)

-- so is all that is drawn for new pieces of a version and the old ones that they meet
pub drawn-at : (place : ℕ) (news old drawn : List PieceRecord) → list_all (λ (x : PieceRecord). x.version == place) news ≡ true → AreDrawn news (met_by news old) drawn → list_all (λ (x : PieceRecord). x.version == place) drawn ≡ true
drawn-at place news old drawn here drawing =
    drawing.pass (λ x. x.version == place) (λ x from till is after some before. is) (touched-all (λ x. x.version == place) (λ x y hit is. ap (λ v. v == place) (sym (met-same x y hit).0) ∙ is) news here old) here

-- and goes back to touches of the one place
pub traced-at : (n place : ℕ) (xs : List PieceRecord) → list_all (λ (x : PieceRecord). x.version == place) xs ≡ true → map (trace_of n) xs ≡ map (trace_at n place) xs
traced-at n place [] here = refl
traced-at n place (x ∷ xs) here =
    let h = and_parts (x.version == place) (list_all (λ (y : PieceRecord). y.version == place) xs) here in
    ap (λ v. trace_at n v x ∷ map (trace_of n) xs) (eqb-true x.version place h.0) ∙ ap (λ ys. trace_at n place x ∷ ys) (traced-at n place xs h.1)
