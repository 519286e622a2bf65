-- Pieces end where entries do.
use Rattle.std.proofs.Common.{◌≡◌, ℕ, ◌<◌, ◌==◌, nat_lt, Bool, true, false, ◌&&◌, ◌||◌, if◌then◌else◌, List, [], ◌∷◌, ◌++◌, refl, sym, ap, ◌∙◌, ◌⊎◌, inl, inr}
use Rattle.std.proofs.lemmas.Bool.{eqb-true, and_from, and_parts, ltb-true, or_cases, or_right, true≢false}
use Rattle.std.specs.List.{list_all, list_any}
use Rattle.std.specs.Ordering.{is_eq}
use Rattle.wm_base.specs.Key.{key_order}
use Rattle.wm_base.specs.declared.value.Value.{Value}
use Rattle.wm_spec.specs.Lists.{Entry}
use Rattle.wm_spec.specs.declared.record.cell_range.CellRange.{CellRange}
use Rattle.wm_spec.specs.declared.record.piece.PieceRecord.{PieceRecord}
use Rattle.wm_state.specs.Batches.{is_in}
use Rattle.wm_state.specs.Drawing.{ends_at, end_with}
use Rattle.wm_state.specs.Entries.{piece_of, pieces_of}
use Rattle.wm_state.specs.Standing.{is_end, has_ends}
use Rattle.wm_state.proofs.DrawingEnds.{More, any-apart, has_both}
use Rattle.wm_state.proofs.Laying.{key_same}
use Rattle.wm_state.proofs.Tests.{all_if}

-- the pieces of some versions end where entries do
abbrev pub all_end : (ℕ → Bool) → List Entry → List PieceRecord → Bool
all_end on es xs = list_all (λ (x : PieceRecord). if on x.version then has_ends es x.cells else true) xs

-- ---- other versions

if_true : (a b : Bool) → (if a then b else true) ≡ true → a ≡ true → b ≡ true
if_true true b e is = e
if_true false b e is = absurd (true≢false (sym is))

true_if : (a b : Bool) → (a ≡ true → b ≡ true) → (if a then b else true) ≡ true
true_if true b e = e refl
true_if false b e = refl

-- below a number the same versions, or fewer
pub all_end-fewer : (on off : ℕ → Bool) (number : ℕ) (es : List Entry) (xs : List PieceRecord) → ((k : ℕ) → k < number → off k ≡ true → on k ≡ true) → list_all (λ (x : PieceRecord). nat_lt x.version number) xs ≡ true
    → all_end on es xs ≡ true → all_end off es xs ≡ true
all_end-fewer on off number es [] fewer lower e = refl
all_end-fewer on off number es (x ∷ xs) fewer lower e =
    let h = and_parts (if on x.version then has_ends es x.cells else true) (all_end on es xs) e in
    let g = and_parts (nat_lt x.version number) (list_all (λ (y : PieceRecord). nat_lt y.version number) xs) lower in
    and_from (if off x.version then has_ends es x.cells else true) (all_end off es xs)
    (true_if (off x.version) (has_ends es x.cells) (λ is. if_true (on x.version) (has_ends es x.cells) h.0 (fewer x.version (ltb-true x.version number g.0) is)))
    (all_end-fewer on off number es xs fewer g.1 h.1)

-- ---- more entries

-- each end of the first entries is one of the second
abbrev pub MoreEnds : List Entry → List Entry → Type 0
MoreEnds es fs = (cells : CellRange) (moment : ℕ) → is_end es cells moment ≡ true → is_end fs cells moment ≡ true

pub more-ends : (es fs : List Entry) → More es fs → MoreEnds es fs
more-ends es fs more cells moment e = more (λ (x : Entry). ((x.table == cells.table) && is_eq (key_order x.key cells.key)) && ((x.from == moment) || (x.till == moment))) e

-- ---- what is drawn over pieces

-- an end of a piece of the entries' is an end of an entry, and its version is theirs
entries_end : (version : ℕ) (es : List Entry) (x : PieceRecord) (moment : ℕ) → ends_at (pieces_of version es) x moment ≡ true → (version ≡ x.version) × (is_end es x.cells moment ≡ true)
entries_end version [] x moment e = absurd (true≢false (sym e))
entries_end version (e ∷ es) x moment ends =
    by_first (or_cases _ (ends_at (pieces_of version es) x moment) ends) (entries_end version es x moment)
  where
    test : Bool
    test = ((e.table == x.cells.table) && is_eq (key_order e.key x.cells.key)) && ((e.from == moment) || (e.till == moment))

    regroup : (a b d : Bool) → ((a && b) && d) ≡ true → (a ≡ true) × ((b && d) ≡ true)
    regroup true b d h = (refl, h)
    regroup false b d h = absurd (true≢false (sym h))

    by_first : ((is_in x.version x.cells.table x.cells.key (piece_of version e) && ((e.from == moment) || (e.till == moment))) ≡ true) ⊎ (ends_at (pieces_of version es) x moment ≡ true)
        → (ends_at (pieces_of version es) x moment ≡ true → (version ≡ x.version) × (is_end es x.cells moment ≡ true)) → (version ≡ x.version) × ((test || is_end es x.cells moment) ≡ true)
    by_first (inl h) rest =
        let g = regroup (version == x.version) ((e.table == x.cells.table) && is_eq (key_order e.key x.cells.key)) ((e.from == moment) || (e.till == moment)) h in
        (eqb-true version x.version g.0, ap (λ b. b || is_end es x.cells moment) g.1)
    by_first (inr h) rest = let g = rest h in (g.0, or_right test (is_end es x.cells moment) g.1)

-- an end of an old piece is an end of the entries that its own ends are ends of
olds_end : (on : ℕ → Bool) (es : List Entry) (olds : List PieceRecord) (x : PieceRecord) (moment : ℕ) → all_end on es olds ≡ true → on x.version ≡ true → ends_at olds x moment ≡ true → is_end es x.cells moment ≡ true
olds_end on es [] x moment all is ends = absurd (true≢false (sym ends))
olds_end on es (y ∷ ys) x moment all is ends =
    let h = and_parts (if on y.version then has_ends es y.cells else true) (all_end on es ys) all in
    by_first h.0 (or_cases _ (ends_at ys x moment) ends) (olds_end on es ys x moment h.1 is)
  where
    at_moment : (from till : ℕ) → ((from == moment) || (till == moment)) ≡ true → (is_end es y.cells from && is_end es y.cells till) ≡ true → is_end es y.cells moment ≡ true
    at_moment from till either has =
        let g = and_parts (is_end es y.cells from) (is_end es y.cells till) has in by_end (or_cases (from == moment) (till == moment) either) g.0 g.1
      where
        by_end : ((from == moment) ≡ true) ⊎ ((till == moment) ≡ true) → is_end es y.cells from ≡ true → is_end es y.cells till ≡ true → is_end es y.cells moment ≡ true
        by_end (inl k) first second = ap (is_end es y.cells) (sym (eqb-true from moment k)) ∙ first
        by_end (inr k) first second = ap (is_end es y.cells) (sym (eqb-true till moment k)) ∙ second

    end_in : ℕ → List Value → Bool
    end_in table key = list_any (λ (e : Entry). ((e.table == table) && is_eq (key_order e.key key)) && ((e.from == moment) || (e.till == moment))) es

    by_first : (if on y.version then has_ends es y.cells else true) ≡ true → ((is_in x.version x.cells.table x.cells.key y && ((y.cells.from == moment) || (y.cells.till == moment))) ≡ true) ⊎ (ends_at ys x moment ≡ true)
        → (ends_at ys x moment ≡ true → is_end es x.cells moment ≡ true) → is_end es x.cells moment ≡ true
    by_first own (inl h) rest =
        let g = and_parts (is_in x.version x.cells.table x.cells.key y) ((y.cells.from == moment) || (y.cells.till == moment)) h in
        let v = and_parts (y.version == x.version) ((y.cells.table == x.cells.table) && is_eq (key_order y.cells.key x.cells.key)) g.0 in
        let t = and_parts (y.cells.table == x.cells.table) (is_eq (key_order y.cells.key x.cells.key)) v.1 in
        ap (λ (table : ℕ). end_in table x.cells.key) (sym (eqb-true y.cells.table x.cells.table t.0))
        ∙ ap (λ (key : List Value). end_in y.cells.table key) (sym (key_same y.cells.key x.cells.key t.1))
        ∙ at_moment y.cells.from y.cells.till g.1 (if_true (on y.version) (has_ends es y.cells) own (ap on (eqb-true y.version x.version v.0) ∙ is))
    by_first own (inr h) rest = rest h

-- pieces that end where old ones and those of entries do end where the old ones' entries and these do
pub all_end-drawn : (on : ℕ → Bool) (version : ℕ) (es own both_of : List Entry) (olds drawn : List PieceRecord) → MoreEnds own both_of → (on version ≡ true → MoreEnds es both_of) → all_end on own olds ≡ true
    → end_with (olds ++ pieces_of version es) drawn ≡ true → all_end on both_of drawn ≡ true
all_end-drawn on version es own both_of olds drawn more more_new all ends =
    all_if (has_both (olds ++ pieces_of version es)) (λ (x : PieceRecord). if on x.version then has_ends both_of x.cells else true)
    (λ x h. let g = and_parts (ends_at (olds ++ pieces_of version es) x x.cells.from) (ends_at (olds ++ pieces_of version es) x x.cells.till) h in
    true_if (on x.version) (has_ends both_of x.cells)
    (λ is. and_from (is_end both_of x.cells x.cells.from) (is_end both_of x.cells x.cells.till) (at x x.cells.from is (any-apart _ olds (pieces_of version es) g.0)) (at x x.cells.till is (any-apart _ olds (pieces_of version es) g.1))))
    drawn ends
  where
    at : (x : PieceRecord) (moment : ℕ) → on x.version ≡ true → (ends_at olds x moment ≡ true) ⊎ (ends_at (pieces_of version es) x moment ≡ true) → is_end both_of x.cells moment ≡ true
    at x moment is (inl h) = more x.cells moment (olds_end on own olds x moment all is h)
    at x moment is (inr h) = let g = entries_end version es x moment h in more_new (ap on g.0 ∙ is) x.cells moment g.1
