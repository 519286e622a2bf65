-- What marks say at a cell once new ones are drawn over them.
use Rattle.std.proofs.Common.{◌≡◌, ℕ, ◌+◌, ◌==◌, nat_le, max, Bool, true, false, not, ◌&&◌, if◌then◌else◌, List, [], ◌∷◌, ◌++◌, map, Option, None, Some, refl, sym, ap, ◌∙◌, arith}
use Rattle.std.proofs.lemmas.Bool.{and_parts, not-true}
use Rattle.std.specs.Bool.{then_some}
use Rattle.std.specs.List.{cons_option, filter, list_all, list_any}
use Rattle.std.specs.Option.{option_or}
use Rattle.wm_graph.specs.Rules.{as_drawn, collide, differ, meet}
use Rattle.wm_net.specs.Conflicts.{Settled, as_entry}
use Rattle.wm_period.specs.Pieces.{Held}
use Rattle.wm_spec.specs.Lists.{Cell, covers}
use Rattle.wm_spec.specs.declared.record.piece.PieceRecord.{PieceRecord}
use Rattle.wm_spec.specs.declared.record.trace.Trace.{Trace}
use Rattle.wm_state.specs.Drafts.{cells_in, mark_piece}
use Rattle.wm_state.specs.Drawing.{is_clear, stored_last}
use Rattle.wm_state.specs.Editing.{settled_by}
use Rattle.wm_state.specs.Standing.{covers_at, held_by, in_cells, marked_at, settled_from, stored_at}
use Rattle.wm_state.specs.Touching.{AreMarked, drawn_all}
use Rattle.wm_state.specs.declared.edit.NewMark.{NewMark}
use Rattle.wm_written.proofs.Touched.{only-one}
use Rattle.wm_written.proofs.Touching.{beside-apart, beside-held, is_plain, view-apart, view-marked, view-other}
use Rattle.wm_settled.specs.Settling.{AreNewest, past, said}

-- ---- marks as pieces

-- one more than the greatest stamp of the pieces of a version that cover a cell; 0 where there is none
abbrev marked_in : List PieceRecord → ℕ → Cell → ℕ
marked_in [] w c = 0
marked_in (x ∷ xs) w c = max (if covers_at x w c then x.stamp + 1 else 0) (marked_in xs w c)

none_more : (m : ℕ) → max 0 m ≡ m
none_more m = omega arith

-- marks say what their pieces do
marked-pieces : (xs : List Trace) (n w : ℕ) (c : Cell) → marked_at xs n w c ≡ marked_in (drawn_all n xs) w c
marked-pieces [] n w c = refl
marked-pieces (x ∷ xs) n w c =
    ap (max (if ((x.space == n) && (x.place == w)) && in_cells x.cells c then x.position + 1 else 0)) (marked-pieces xs n w c)
    ∙ by_space (x.space == n)
  where
    by_space : (b : Bool) → max (if (b && (x.place == w)) && in_cells x.cells c then x.position + 1 else 0) (marked_in (drawn_all n xs) w c) ≡ marked_in (cons_option (then_some b (as_drawn x)) (drawn_all n xs)) w c
    by_space true = refl
    by_space false = none_more (marked_in (drawn_all n xs) w c)

-- and of pieces that do not collide that is what is held there
marked-held : (xs : List PieceRecord) (w : ℕ) (c : Cell) → differ collide xs ≡ true → marked_in xs w c ≡ past (stored_at xs w c)
marked-held [] w c apart = refl
marked-held (x ∷ xs) w c apart =
    let h = and_parts (not (list_any (collide x) xs)) (differ collide xs) apart in
    ap (max (if covers_at x w c then x.stamp + 1 else 0)) (marked-held xs w c h.1)
    ∙ by_cover (covers_at x w c) (λ is. only-one x w c is xs (not-true (list_any (collide x) xs) h.0))
  where
    alone : (k : ℕ) → max k 0 ≡ k
    alone k = omega arith

    by_cover : (b : Bool) → (b ≡ true → stored_at xs w c ≡ None) → max (if b then x.stamp + 1 else 0) (past (stored_at xs w c)) ≡ past (option_or (then_some b (held_by x)) (stored_at xs w c))
    by_cover true none = ap (λ o. max (x.stamp + 1) (past o)) (none refl) ∙ alone (x.stamp + 1)
    by_cover false none = none_more (past (stored_at xs w c))

-- ---- new marks drawn over old ones

pub marks_plain : (place : ℕ) (ms : List NewMark) → list_all is_plain (map (mark_piece place) ms) ≡ true
marks_plain place [] = refl
marks_plain place (m ∷ ms) = marks_plain place ms

-- what is drawn for new marks is as marks are drawn
pub news_plain : (n place : ℕ) (ms : List NewMark) (old : List Trace) (news : List PieceRecord) → AreNewest n place ms old news → list_all is_plain news ≡ true
news_plain n place ms old news newest = newest.pass is_plain (λ x from till here after some before. here) (marks_plain place ms)

-- at their place marks say the greater of what they said and what the new ones do, and at others what they said
pub marked_so : (n place : ℕ) (ms : List NewMark) (news : List PieceRecord) (old new : List Trace) → differ meet old ≡ true → AreNewest n place ms old news → AreMarked n news old new → (w : ℕ) (c : Cell)
    → marked_at new n w c ≡ (if w == place then max (marked_at old n w c) (said ms c) else marked_at old n w c)
marked_so n place ms news old new apart newest m w c =
    marked-pieces new n w c
    ∙ ap (λ xs. marked_in xs w c) (view-marked n news old new (news_plain n place ms old news newest) m)
    ∙ marked-held (filter (is_clear news) was ++ m.drawn) w c (beside-apart news was m.drawn alone m.are)
    ∙ ap past (beside-held news was m.drawn alone m.are w c)
    ∙ by_new (w == place) (stored_last news w c) (stored_at was w c) (marked_at old n w c) (said ms c) (newest.held w c) (sym (marked-pieces old n w c ∙ marked-held was w c alone))
  where
    was : List PieceRecord
    was = drawn_all n old

    alone : differ collide was ≡ true
    alone = view-apart n old apart

    none_greater : (k s : ℕ) → 0 ≡ (if nat_le k s then s else 0) → k ≡ max k s
    none_greater k s e = grind (arith, e)

    some_said : (h k s : ℕ) → h + 1 ≡ (if nat_le k s then s else 0) → h + 1 ≡ max k s
    some_said h k s e = grind (arith, e)

    none_said : (h : ℕ) → h + 1 ≡ 0 → ⊥
    none_said h e = omega (arith, e)

    by_new : (b : Bool) (o p : Option Held) (k s : ℕ) → past o ≡ (if b && nat_le k s then s else 0) → past p ≡ k → past (option_or o p) ≡ (if b then max k s else k)
    by_new true None p k s e is = is ∙ none_greater k s e
    by_new true (Some h) p k s e is = some_said h.stamp.number k s e
    by_new false None p k s e is = is
    by_new false (Some h) p k s e is = absurd (none_said h.stamp.number e)

-- those of other workspaces say what they said
pub marked_away : (n : ℕ) (news : List PieceRecord) (old new : List Trace) → AreMarked n news old new → (m w : ℕ) (c : Cell) → (m == n) ≡ false → marked_at new m w c ≡ marked_at old m w c
marked_away n news old new marked m w c apart =
    marked-pieces new m w c ∙ ap (λ xs. marked_in xs w c) (view-other m n news old new apart marked) ∙ sym (marked-pieces old m w c)

-- ---- marks of the state

max_assoc : (a b d : ℕ) → max a (max b d) ≡ max (max a b) d
max_assoc a b d = omega arith

pub settled-append : (xs ys : List Settled) (w : ℕ) (c : Cell) → settled_from (xs ++ ys) w c ≡ max (settled_from xs w c) (settled_from ys w c)
settled-append [] ys w c = sym (none_more (settled_from ys w c))
settled-append (x ∷ xs) ys w c =
    let own = if (x.place == w) && covers (as_entry x) c then x.position + 1 else 0 in
    ap (max own) (settled-append xs ys w c) ∙ max_assoc own (settled_from xs w c) (settled_from ys w c)

-- new ones that are made at a place say there what they say, and nothing elsewhere
pub settled-made : (place : ℕ) (ms : List NewMark) (w : ℕ) (c : Cell) → settled_from (map (settled_by place) ms) w c ≡ (if place == w then said ms c else 0)
settled-made place [] w c = none (place == w) 0
  where
    none : (b : Bool) (k : ℕ) → k ≡ (if b then k else k)
    none true k = refl
    none false k = refl
settled-made place (m ∷ ms) w c =
    ap (max (if (place == w) && in_cells (cells_in m) c then m.position + 1 else 0)) (settled-made place ms w c)
    ∙ by_place (place == w)
  where
    by_place : (b : Bool) → max (if b && in_cells (cells_in m) c then m.position + 1 else 0) (if b then said ms c else 0) ≡ (if b then max (if in_cells (cells_in m) c then m.position + 1 else 0) (said ms c) else 0)
    by_place true = refl
    by_place false = refl
