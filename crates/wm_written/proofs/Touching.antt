-- New marks drawn over old touches: what the touches reach then.
use Rattle.std.proofs.Common.{◌≡◌, ◌≢◌, ℕ, zero, suc, ◌+◌, ◌<◌, ◌≤◌, ◌==◌, nat_lt, max, Bool, true, false, not, ◌&&◌, ◌||◌, cond, if◌then◌else◌, List, [], ◌∷◌, ◌++◌, map, Option, None, Some, is_some, refl, sym, ap, ◌∙◌, ◌⊎◌, inl, inr, arith}
use Rattle.std.proofs.lemmas.Bool.{cases_eq, eq-eqb, eqb-true, ne_eqb, and_from, and_parts, not-true, or_parts, true≢false}
use Rattle.std.proofs.lemmas.Bool.Decides.{nat_tests}
use Rattle.std.proofs.lemmas.List.Elements.{filter_map-append}
use Rattle.std.specs.Bool.{then_some}
use Rattle.std.specs.List.{cons_option, filter, list_all, list_any}
use Rattle.std.specs.Option.{option_map, option_map_or, option_or}
use Rattle.wm_base.proofs.Plain.{and_last, eqb-turned, nat_lt-zero}
use Rattle.wm_base.specs.declared.kind.Kind.{Kind}
use Rattle.wm_base.specs.declared.kind.Kind.TheVariants.{Insert, Update, Delete}
use Rattle.wm_graph.specs.Rules.{as_drawn, collide, differ, meet}
use Rattle.wm_period.specs.Pieces.{Held}
use Rattle.wm_spec.specs.Lists.{Cell, Entry, Told, covers, reach, told, told_of, touched}
use Rattle.wm_spec.proofs.Reaching.{touched_reach}
use Rattle.wm_spec.specs.declared.record.piece.PieceRecord.{PieceRecord}
use Rattle.wm_spec.specs.declared.record.trace.Trace.{Trace}
use Rattle.wm_state.specs.Batches.{is_in}
use Rattle.wm_state.specs.Drawing.{AreDrawn, end_with, ends_at, is_clear, stored_last, touched as met_by}
use Rattle.wm_state.specs.Entries.{piece_of, pieces_of}
use Rattle.wm_state.specs.Standing.{covers_at, held_by, in_cells, reached, stored_at}
use Rattle.wm_state.specs.Touching.{AreMarked, Touched, drawn_all, drawn_as, is_behind, is_unmet, marks_of, trace_of}
use Rattle.wm_state.proofs.Appending.{differ_append}
use Rattle.wm_state.proofs.DrawingEnds.{ends-beside}
use Rattle.wm_state.proofs.Laying.{stored-append}
use Rattle.wm_state.proofs.Tests.{all_filter, differ_filter}
use Rattle.wm_written.proofs.DrawingTouched.{kept-apart}
use Rattle.wm_written.proofs.Touched.{all-held, clear-held, only-one}

-- ---- what pieces reach

-- what is reached, of pieces
abbrev pub reached_in : List PieceRecord → ℕ → Cell → ℕ
reached_in [] below c = 0
reached_in (x ∷ xs) below c = max (if nat_lt x.version below && in_cells x.cells c then x.stamp + 1 else 0) (reached_in xs below c)

-- touches reach what their pieces do
pub reached-pieces : (xs : List Trace) (n below : ℕ) (c : Cell) → reached xs n below c ≡ reached_in (drawn_all n xs) below c
reached-pieces [] n below c = refl
reached-pieces (x ∷ xs) n below c =
    ap (max (if ((x.space == n) && nat_lt x.place below) && in_cells x.cells c then x.position + 1 else 0)) (reached-pieces xs n below c)
    ∙ by_space (x.space == n)
  where
    none_more : (m : ℕ) → max 0 m ≡ m
    none_more m = omega arith

    by_space : (b : Bool)
        → max (if (b && nat_lt x.place below) && in_cells x.cells c then x.position + 1 else 0) (reached_in (drawn_all n xs) below c) ≡ reached_in (cons_option (then_some b (as_drawn x)) (drawn_all n xs)) below c
    by_space true = refl
    by_space false = none_more (reached_in (drawn_all n xs) below c)

-- ---- the greatest of what is held at places

-- one more than the stamp
abbrev pub next_of : Held → ℕ
next_of h = h.stamp.number + 1

-- the same of what is held, 0 where there is nothing
abbrev pub past : Option Held → ℕ
past None = 0
past (Some h) = next_of h

-- the greatest of what is so at the numbers below one
abbrev under : (ℕ → Option Held) → ℕ → ℕ
under f zero = 0
under f (suc b) = max (past (f b)) (under f b)

under-none : (below : ℕ) → 0 ≡ under (λ w. None) below
under-none zero = refl
under-none (suc b) = ap (max 0) (under-none b)

-- a piece more, where nothing else is held at its version
under-one : (x : PieceRecord) (c : Cell) (f : ℕ → Option Held) → (covers_at x x.version c ≡ true → f x.version ≡ None) → (below : ℕ)
    → under (λ w. option_or (then_some (covers_at x w c) (held_by x)) (f w)) below ≡ max (if nat_lt x.version below && in_cells x.cells c then x.stamp + 1 else 0) (under f below)
under-one x c f free zero = none (nat_lt x.version 0) (in_cells x.cells c) (nat_lt-zero x.version)
  where
    none : (a b : Bool) → a ≡ false → 0 ≡ max (if a && b then x.stamp + 1 else 0) 0
    none a b e = rw e refl
under-one x c f free (suc b) =
    ap (max (past (option_or (then_some (covers_at x b c) (held_by x)) (f b)))) (under-one x c f free b)
    ∙ by_place (cases_eq x.version b)
  where
    less_next : (m n : ℕ) → m ≡ n → nat_lt m (suc n) ≡ true
    less_next m n e = grind (arith, nat_tests, e)

    not_less : (m n : ℕ) → m ≡ n → nat_lt m n ≡ false
    not_less m n e = grind (arith, nat_tests, e)

    less_same : (m n : ℕ) → (m ≢ n) → nat_lt m (suc n) ≡ nat_lt m n
    less_same m n e = grind (arith, nat_tests, e)

    swap : (p k u : ℕ) → max p (max k u) ≡ max k (max p u)
    swap p k u = omega arith

    at_it : (i : Bool) (o : Option Held) (u : ℕ) → (i ≡ true → o ≡ None) → max (past (option_or (then_some i (held_by x)) o)) (max 0 u) ≡ max (if i then x.stamp + 1 else 0) (max (past o) u)
    at_it true o u none = rw (none refl) refl
    at_it false o u none = swap (past o) 0 u

    by_place : (x.version ≡ b) ⊎ (x.version ≢ b)
        → max (past (option_or (then_some (covers_at x b c) (held_by x)) (f b))) (max (if nat_lt x.version b && in_cells x.cells c then x.stamp + 1 else 0) (under f b))
        ≡ max (if nat_lt x.version (suc b) && in_cells x.cells c then x.stamp + 1 else 0) (max (past (f b)) (under f b))
    by_place (inl same) =
        rw (eq-eqb x.version b same, not_less x.version b same, less_next x.version b same)
        (at_it (in_cells x.cells c) (f b) (under f b) (λ is. ap f (sym same) ∙ free (ap (λ v. v && in_cells x.cells c) (eq-eqb x.version x.version refl) ∙ is)))
    by_place (inr other) = rw (ne_eqb x.version b other, less_same x.version b other) (swap (past (f b)) (if nat_lt x.version b && in_cells x.cells c then x.stamp + 1 else 0) (under f b))

-- of pieces that do not collide the reach is told by what they hold
pub reached-held : (c : Cell) (below : ℕ) (xs : List PieceRecord) → differ collide xs ≡ true → reached_in xs below c ≡ under (λ w. stored_at xs w c) below
reached-held c below [] apart = under-none below
reached-held c below (x ∷ xs) apart =
    let h = and_parts (not (list_any (collide x) xs)) (differ collide xs) apart in
    ap (max (if nat_lt x.version below && in_cells x.cells c then x.stamp + 1 else 0)) (reached-held c below xs h.1)
    ∙ sym (under-one x c (λ w. stored_at xs w c) (λ covered. only-one x x.version c covered xs (not-true (list_any (collide x) xs) h.0)) below)

-- all that is held is below a bound
under-bound : (g : ℕ → Option Held) (start : ℕ) → ((w : ℕ) → past (g w) ≤ start) → (below : ℕ) → under g below ≤ start
under-bound g start low zero = omega arith
under-bound g start low (suc b) = lower (past (g b)) (under g b) (low b) (under-bound g start low b)
  where
    lower : (p u : ℕ) → p ≤ start → u ≤ start → max p u ≤ start
    lower p u first second = omega arith

-- where new ones are said at one place, and come after all that was there, the greatest is theirs
under-new : (f g : ℕ → Option Held) (place top start : ℕ) (t : Bool) → ((w : ℕ) → option_map next_of (f w) ≡ then_some ((w == place) && t) top) → ((w : ℕ) → past (g w) ≤ start) → (t ≡ true → start < top)
    → (below : ℕ) → under (λ w. option_or (f w) (g w)) below ≡ (if nat_lt place below && t then top else under g below)
under-new f g place top start t new low above zero = rw (nat_lt-zero place) refl
under-new f g place top start t new low above (suc b) =
    ap (max (past (option_or (f b) (g b)))) (under-new f g place top start t new low above b)
    ∙ by_place (cases_eq b place)
  where
    nothing_new : (o : Option Held) → option_map next_of o ≡ None → o ≡ None
    nothing_new None e = refl
    nothing_new (Some h) e = cc

    past_new : (o p : Option Held) → option_map next_of o ≡ Some top → past (option_or o p) ≡ top
    past_new None p e = cc
    past_new (Some h) p e = cc

    less_next : (m n : ℕ) → n ≡ m → nat_lt m (suc n) ≡ true
    less_next m n e = grind (arith, nat_tests, e)

    not_less : (m n : ℕ) → n ≡ m → nat_lt m n ≡ false
    not_less m n e = grind (arith, nat_tests, e)

    less_same : (m n : ℕ) → (n ≢ m) → nat_lt m (suc n) ≡ nat_lt m n
    less_same m n e = grind (arith, nat_tests, e)

    greatest : (k u : ℕ) → k ≤ start → start < u → max u k ≡ u
    greatest k u first second = omega arith

    last : (k u : ℕ) → k ≤ start → start < u → max k u ≡ u
    last k u first second = omega arith

    -- at the place of the new ones
    at_it : (s : Bool) → (s ≡ true → start < top) → option_map next_of (f b) ≡ then_some s top → max (past (option_or (f b) (g b))) (under g b) ≡ (if s then top else max (past (g b)) (under g b))
    at_it true more is = ap (λ k. max k (under g b)) (past_new (f b) (g b) is) ∙ greatest (under g b) top (under-bound g start low b) (more refl)
    at_it false more is = rw (nothing_new (f b) is) refl

    -- and elsewhere
    apart : (s : Bool) → (s ≡ true → start < top) → max (past (g b)) (if s then top else under g b) ≡ (if s then top else max (past (g b)) (under g b))
    apart true more = last (past (g b)) top (low b) (more refl)
    apart false more = refl

    by_place : (b ≡ place) ⊎ (b ≢ place) → max (past (option_or (f b) (g b))) (if nat_lt place b && t then top else under g b) ≡ (if nat_lt place (suc b) && t then top else max (past (g b)) (under g b))
    by_place (inl same) =
        rw (not_less place b same, less_next place b same) (at_it t above (new b ∙ ap (λ e. then_some (e && t) top) (eq-eqb b place same)))
    by_place (inr other) =
        rw (less_same place b other, nothing_new (f b) (new b ∙ ap (λ e. then_some (e && t) top) (ne_eqb b place other)))
        (apart (nat_lt place b && t) (λ is. above (and_parts (nat_lt place b) t is).1))

-- ---- old pieces beside what is drawn

-- what is drawn, and the old pieces that are clear of the new ones, hold what new ones do, else what old ones do
pub beside-held : (news old drawn : List PieceRecord) → differ collide old ≡ true → AreDrawn news (met_by news old) drawn → (w : ℕ) (c : Cell)
    → stored_at (filter (is_clear news) old ++ drawn) w c ≡ option_or (stored_last news w c) (stored_at old w c)
beside-held news old drawn apart drawing w c =
    stored-append (filter (is_clear news) old) drawn w c
    ∙ ap (option_or (stored_at (filter (is_clear news) old) w c)) (drawing.held w c)
    ∙ by_side (stored_last news w c) (stored_at (filter (is_clear news) old) w c) (stored_at (met_by news old) w c) (stored_at old w c) (clear-held news old w c) (all-held (is_clear news) old apart w c)
  where
    by_side : (n a b o : Option Held) → (n ≡ None) ⊎ (a ≡ None) → option_or a b ≡ o → option_or a (option_or n b) ≡ option_or n o
    by_side n a b o (inl none) is = rw none is
    by_side n a b o (inr none) is = rw none (ap (option_or n) (sym (ap (λ p. option_or p b) none) ∙ is))

-- and no two of its pieces collide
pub beside-apart : (news old drawn : List PieceRecord) → differ collide old ≡ true → AreDrawn news (met_by news old) drawn → differ collide (filter (is_clear news) old ++ drawn) ≡ true
beside-apart news old drawn apart drawing = differ_append collide (filter (is_clear news) old) drawn (differ_filter collide (is_clear news) old apart) drawing.differ (kept-apart news old drawn apart drawing)

-- ---- touches as pieces

-- touches that do not meet are pieces that do not collide
pub view-apart : (n : ℕ) (xs : List Trace) → differ meet xs ≡ true → differ collide (drawn_all n xs) ≡ true
view-apart n [] apart = refl
view-apart n (x ∷ xs) apart =
    let h = and_parts (not (list_any (meet x) xs)) (differ meet xs) apart in
    by_space (x.space == n) refl (not-true (list_any (meet x) xs) h.0) (view-apart n xs h.1)
  where
    none_met : (x.space == n) ≡ true → (ys : List Trace) → list_any (meet x) ys ≡ false → list_any (collide (as_drawn x)) (drawn_all n ys) ≡ false
    none_met here [] none = refl
    none_met here (y ∷ ys) none =
        let h = or_parts (meet x y) (list_any (meet x) ys) none in
        by_other (y.space == n) refl h.0 (none_met here ys h.1)
      where
        by_other : (b : Bool) → (y.space == n) ≡ b → meet x y ≡ false → list_any (collide (as_drawn x)) (drawn_all n ys) ≡ false
            → list_any (collide (as_drawn x)) (cons_option (then_some b (as_drawn y)) (drawn_all n ys)) ≡ false
        by_other true also free rest =
            rw (and_last (x.space == y.space) (collide (as_drawn x) (as_drawn y)) (eq-eqb x.space y.space (eqb-true x.space n here ∙ sym (eqb-true y.space n also))) free) rest
        by_other false other free rest = rest

    by_space : (b : Bool) → (x.space == n) ≡ b → list_any (meet x) xs ≡ false → differ collide (drawn_all n xs) ≡ true → differ collide (cons_option (then_some b (as_drawn x)) (drawn_all n xs)) ≡ true
    by_space true here free rest = and_from (not (list_any (collide (as_drawn x)) (drawn_all n xs))) (differ collide (drawn_all n xs)) (ap not (none_met here xs free)) rest
    by_space false other free rest = rest

-- ---- what is marked, as pieces

abbrev is_insert : Kind → Bool
is_insert Insert = true
is_insert Update = false
is_insert Delete = false

-- the piece is as touches are drawn
abbrev pub is_plain : PieceRecord → Bool
is_plain x = is_insert x.kind && not x.gone

-- what is plain goes back to a touch, and comes from it
back : (n : ℕ) (x : PieceRecord) → is_plain x ≡ true → as_drawn (trace_of n x) ≡ x
back n x plain =
    let h = and_parts (is_insert x.kind) (not x.gone) plain in
    ap (λ k. with_both k false) (sym (insert x.kind h.0)) ∙ ap (λ g. with_both x.kind g) (sym (not-true x.gone h.1))
  where
    insert : (k : Kind) → is_insert k ≡ true → k ≡ Insert
    insert Insert e = refl
    insert Update e = absurd (true≢false (sym e))
    insert Delete e = absurd (true≢false (sym e))

    with_both : Kind → Bool → PieceRecord
    with_both k g = record { version = x.version; cells = x.cells; stamp = x.stamp; kind = k; gone = g }

view-plain : (n : ℕ) (xs : List Trace) → list_all is_plain (drawn_all n xs) ≡ true
view-plain n [] = refl
view-plain n (x ∷ xs) = by_space (x.space == n) (view-plain n xs)
  where
    by_space : (b : Bool) → list_all is_plain (drawn_all n xs) ≡ true → list_all is_plain (cons_option (then_some b (as_drawn x)) (drawn_all n xs)) ≡ true
    by_space true rest = rest
    by_space false rest = rest

-- all that is drawn over touches is plain
drawn-plain : (n : ℕ) (news drawn : List PieceRecord) (old : List Trace) → list_all is_plain news ≡ true → AreDrawn news (met_by news (drawn_all n old)) drawn → list_all is_plain drawn ≡ true
drawn-plain n news drawn old plain drawing =
    drawing.pass is_plain (λ x from till here after some before. here) (all_filter is_plain (λ y. not (is_clear news y)) (drawn_all n old) (view-plain n old)) plain

-- so the touches that it becomes are drawn as it
view-back : (n : ℕ) (xs : List PieceRecord) → list_all is_plain xs ≡ true → drawn_all n (map (trace_of n) xs) ≡ xs
view-back n [] plain = refl
view-back n (x ∷ xs) plain =
    let h = and_parts (is_plain x) (list_all is_plain xs) plain in
    rw (eq-eqb n n refl) (ap (λ y. y ∷ drawn_all n (map (trace_of n) xs)) (back n x h.0) ∙ ap (λ ys. x ∷ ys) (view-back n xs h.1))

-- and not at all in another workspace
view-away : (m n : ℕ) (xs : List PieceRecord) → (n == m) ≡ false → drawn_all m (map (trace_of n) xs) ≡ []
view-away m n [] other = refl
view-away m n (x ∷ xs) other = rw other (view-away m n xs other)

-- the touches that stay are the pieces that are clear of the marks
view-kept : (n : ℕ) (news : List PieceRecord) (xs : List Trace) → drawn_all n (filter (is_unmet n news) xs) ≡ filter (is_clear news) (drawn_all n xs)
view-kept n news [] = refl
view-kept n news (x ∷ xs) = by_space (x.space == n) refl (view-kept n news xs)
  where
    by_test : (t : Bool) → (x.space == n) ≡ true → drawn_all n (filter (is_unmet n news) xs) ≡ filter (is_clear news) (drawn_all n xs)
        → drawn_all n (cond t (x ∷ filter (is_unmet n news) xs) (filter (is_unmet n news) xs)) ≡ cond t (as_drawn x ∷ filter (is_clear news) (drawn_all n xs)) (filter (is_clear news) (drawn_all n xs))
    by_test true here rest = rw here (ap (λ ys. as_drawn x ∷ ys) rest)
    by_test false here rest = rest

    by_space : (b : Bool) → (x.space == n) ≡ b → drawn_all n (filter (is_unmet n news) xs) ≡ filter (is_clear news) (drawn_all n xs)
        → drawn_all n (cond (option_map_or (is_clear news) (then_some b (as_drawn x)) true) (x ∷ filter (is_unmet n news) xs) (filter (is_unmet n news) xs))
        ≡ filter (is_clear news) (cons_option (then_some b (as_drawn x)) (drawn_all n xs))
    by_space true here rest = by_test (is_clear news (as_drawn x)) here rest
    by_space false other rest = rw other rest

-- those of other workspaces all stay
view-all : (m n : ℕ) (news : List PieceRecord) (xs : List Trace) → (m == n) ≡ false → drawn_all m (filter (is_unmet n news) xs) ≡ drawn_all m xs
view-all m n news [] apart = refl
view-all m n news (x ∷ xs) apart = by_space (x.space == m) (x.space == n) refl refl (view-all m n news xs apart)
  where
    by_test : (t : Bool) → (x.space == m) ≡ false → drawn_all m (filter (is_unmet n news) xs) ≡ drawn_all m xs → drawn_all m (cond t (x ∷ filter (is_unmet n news) xs) (filter (is_unmet n news) xs)) ≡ drawn_all m xs
    by_test true other rest = rw other rest
    by_test false other rest = rest

    by_space : (b d : Bool) → (x.space == m) ≡ b → (x.space == n) ≡ d → drawn_all m (filter (is_unmet n news) xs) ≡ drawn_all m xs
        → drawn_all m (cond (option_map_or (is_clear news) (then_some d (as_drawn x)) true) (x ∷ filter (is_unmet n news) xs) (filter (is_unmet n news) xs)) ≡ cons_option (then_some b (as_drawn x)) (drawn_all m xs)
    by_space true true here also rest = absurd (true≢false (sym (eq-eqb m n (sym (eqb-true x.space m here) ∙ eqb-true x.space n also)) ∙ apart))
    by_space true false here also rest = rw here (ap (λ ys. as_drawn x ∷ ys) rest)
    by_space false d other also rest = by_test (option_map_or (is_clear news) (then_some d (as_drawn x)) true) other rest

-- the pieces of what is marked are those that stay and what is drawn
pub view-marked : (n : ℕ) (news : List PieceRecord) (old new : List Trace) → list_all is_plain news ≡ true → (m : AreMarked n news old new) → drawn_all n new ≡ filter (is_clear news) (drawn_all n old) ++ m.drawn
view-marked n news old new plain m =
    ap (drawn_all n) m.is
    ∙ filter_map-append (drawn_as n) (filter (is_unmet n news) old) (map (trace_of n) m.drawn)
    ∙ ap (λ ys. ys ++ drawn_all n (map (trace_of n) m.drawn)) (view-kept n news old)
    ∙ ap (λ ys. filter (is_clear news) (drawn_all n old) ++ ys) (view-back n m.drawn (drawn-plain n news m.drawn old plain m.are))

-- those of another workspace stay
pub view-other : (m n : ℕ) (news : List PieceRecord) (old new : List Trace) → (m == n) ≡ false → AreMarked n news old new → drawn_all m new ≡ drawn_all m old
view-other m n news old new apart marked =
    ap (drawn_all m) marked.is
    ∙ filter_map-append (drawn_as m) (filter (is_unmet n news) old) (map (trace_of n) marked.drawn)
    ∙ ap (λ ys. ys ++ drawn_all m (map (trace_of n) marked.drawn)) (view-all m n news old apart)
    ∙ ap (λ ys. drawn_all m old ++ ys) (view-away m n marked.drawn (eqb-turned m n apart))
    ∙ nothing_more (drawn_all m old)
  where
    nothing_more : (ys : List PieceRecord) → ys ++ [] ≡ ys
    nothing_more [] = refl
    nothing_more (y ∷ ys) = ap (λ zs. y ∷ zs) (nothing_more ys)

-- ---- the marks of a line

pub marks-plain : (place start : ℕ) (es : List Entry) → list_all is_plain (marks_of place start es) ≡ true
marks-plain place start [] = refl
marks-plain place start (e ∷ es) = marks-plain place (start + 1) es

-- what the last of them says is how far the line reaches
pub marks-last : (place start : ℕ) (es : List Entry) (c : Cell) (w : ℕ) → option_map next_of (stored_last (marks_of place start es) w c) ≡ then_some ((w == place) && touched es c) (reach es c + start)
marks-last place start [] c w = none (w == place)
  where
    none : (b : Bool) → None ≡ then_some (b && false) (0 + start)
    none true = refl
    none false = refl
marks-last place start (e ∷ es) c w = rw (turned place w) (by_held (stored_last (marks_of place (start + 1) es) w c) (w == place) (told es c) (covers e c) (marks-last place (start + 1) es c w))
  where
    turned : (a b : ℕ) → (a == b) ≡ (b == a)
    turned a b = grind (arith, nat_tests)

    mark : PieceRecord
    mark = as_drawn (record { space = 0; place = place; cells = record { table = e.table; key = e.key; from = e.from; till = e.till }; position = start })

    further : (r : ℕ) → r + (start + 1) ≡ (r + 1) + start
    further r = omega arith

    first : start + 1 ≡ 1 + start
    first = omega arith

    by_held : (s : Option Held) (b : Bool) (o : Option Told) (v : Bool) → option_map next_of s ≡ then_some (b && is_some o) (reach es c + (start + 1))
        → option_map next_of (option_or s (then_some (b && v) (held_by mark)))
        ≡ then_some (b && is_some (option_or o (then_some v (told_of e)))) ((if is_some o then reach es c + 1 else (if v then 1 else 0)) + start)
    by_held (Some h) true (Some t) v is = is ∙ ap Some (further (reach es c))
    by_held (Some h) true None v is = cc
    by_held (Some h) false o v is = cc
    by_held None true (Some t) v is = cc
    by_held None true None true is = ap Some first
    by_held None true None false is = refl
    by_held None false o v is = refl

-- touches that are behind are pieces that are so
behind-view : (n start : ℕ) (xs : List Trace) → list_all (is_behind n start) xs ≡ true → list_all (λ (x : PieceRecord). nat_lt x.stamp start) (drawn_all n xs) ≡ true
behind-view n start [] behind = refl
behind-view n start (x ∷ xs) behind = let h = and_parts (is_behind n start x) (list_all (is_behind n start) xs) behind in by_space (x.space == n) h.0 (behind-view n start xs h.1)
  where
    by_space : (b : Bool) → (not b || nat_lt x.position start) ≡ true → list_all (λ (y : PieceRecord). nat_lt y.stamp start) (drawn_all n xs) ≡ true
        → list_all (λ (y : PieceRecord). nat_lt y.stamp start) (cons_option (then_some b (as_drawn x)) (drawn_all n xs)) ≡ true
    by_space true own rest = and_from (nat_lt x.position start) (list_all (λ (y : PieceRecord). nat_lt y.stamp start) (drawn_all n xs)) own rest
    by_space false own rest = rest

-- and so is what they hold
behind-held : (start : ℕ) (xs : List PieceRecord) (w : ℕ) (c : Cell) → list_all (λ (x : PieceRecord). nat_lt x.stamp start) xs ≡ true → past (stored_at xs w c) ≤ start
behind-held start [] w c behind = omega arith
behind-held start (x ∷ xs) w c behind =
    let h = and_parts (nat_lt x.stamp start) (list_all (λ (y : PieceRecord). nat_lt y.stamp start) xs) behind in by_cover (covers_at x w c) (behind-held start xs w c h.1) (next x.stamp start h.0)
  where
    next : (m n : ℕ) → nat_lt m n ≡ true → m + 1 ≤ n
    next m n e = grind (arith, nat_tests, e)

    by_cover : (b : Bool) → past (stored_at xs w c) ≤ start → x.stamp + 1 ≤ start → past (option_or (then_some b (held_by x)) (stored_at xs w c)) ≤ start
    by_cover true rest own = own
    by_cover false rest own = rest

-- marks end where the pieces of the entries do
ends-marks : (place : ℕ) (was xs : List PieceRecord) (start : ℕ) (es : List Entry) → end_with (was ++ marks_of place start es) xs ≡ end_with (was ++ pieces_of place es) xs
ends-marks place was [] start es = refl
ends-marks place was (x ∷ xs) start es = rw (same x.cells.from was start es, same x.cells.till was start es, ends-marks place was xs start es) refl
  where
    own : (moment start : ℕ) (es : List Entry) → ends_at (marks_of place start es) x moment ≡ ends_at (pieces_of place es) x moment
    own moment start [] = refl
    own moment start (e ∷ es) =
        ap (λ b. (is_in x.version x.cells.table x.cells.key (piece_of place e) && ((e.from == moment) || (e.till == moment))) || b) (own moment (start + 1) es)

    same : (moment : ℕ) (ys : List PieceRecord) (start : ℕ) (es : List Entry) → ends_at (ys ++ marks_of place start es) x moment ≡ ends_at (ys ++ pieces_of place es) x moment
    same moment [] start es = own moment start es
    same moment (y ∷ ys) start es = ap (λ b. (is_in x.version x.cells.table x.cells.key y && ((y.cells.from == moment) || (y.cells.till == moment))) || b) (same moment ys start es)

-- ---- the law

-- new marks drawn over old touches, all of positions below theirs
pub touched_so : (n place start : ℕ) (es : List Entry) (old new : List Trace) → differ meet old ≡ true → list_all (is_behind n start) old ≡ true → AreMarked n (marks_of place start es) old new
    → Touched n place start es old new
touched_so n place start es old new apart behind m = record {
  here = λ below c.
      reached-pieces new n below c
      ∙ ap (λ xs. reached_in xs below c) (view-marked n news old new (marks-plain place start es) m)
      ∙ reached-held c below (filter (is_clear news) was ++ m.drawn) (beside-apart news was m.drawn alone m.are)
      ∙ under-same (λ w. stored_at (filter (is_clear news) was ++ m.drawn) w c) (λ w. option_or (stored_last news w c) (stored_at was w c)) (λ w. beside-held news was m.drawn alone m.are w c) below
      ∙ under-new (λ w. stored_last news w c) (λ w. stored_at was w c) place (reach es c + start) start (touched es c) (marks-last place start es c)
      (λ w. behind-held start was w c (behind-view n start old behind)) (λ is. above (reach es c) (sym (touched_reach es c) ∙ is)) below
      ∙ ap (λ k. if nat_lt place below && touched es c then reach es c + start else k) (sym (reached-pieces old n below c ∙ reached-held c below was alone));
  elsewhere = λ k other. view-other k n news old new other m;
  ends =
      sym (ends-marks place was (drawn_all n new) start es)
      ∙ ap (end_with (was ++ news)) (view-marked n news old new (marks-plain place start es) m)
      ∙ ends-beside (is_clear news) was news m.drawn m.are.ends;
}
  where
    news : List PieceRecord
    news = marks_of place start es

    was : List PieceRecord
    was = drawn_all n old

    alone : differ collide was ≡ true
    alone = view-apart n old apart

    above : (r : ℕ) → nat_lt 0 r ≡ true → start < r + start
    above r e = grind (arith, nat_tests, e)

    under-same : (f g : ℕ → Option Held) → ((w : ℕ) → f w ≡ g w) → (b : ℕ) → under f b ≡ under g b
    under-same f g same zero = refl
    under-same f g same (suc b) = rw (same b, under-same f g same b) refl
