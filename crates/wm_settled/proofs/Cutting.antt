-- What older marks of greater positions leave of new ones: what is left says what the new ones say where none of those covers the cell.
use Rattle.std.proofs.Common.{◌≡◌, ℕ, ◌+◌, ◌==◌, ◌&&◌, ◌||◌, nat_le, nat_lt, max, Bool, true, false, not, cond, if◌then◌else◌, List, [], ◌∷◌, map, Option, None, Some, is_some, refl, sym, ap, ◌∙◌, arith}
use Rattle.std.proofs.lemmas.Bool.{eq-eqb, and_from, and_parts, not-true}
use Rattle.std.proofs.Math.Bool.{and-false, and-true}
use Rattle.std.proofs.lemmas.Option.{none-some}
use Rattle.std.specs.Bool.{then_some}
use Rattle.std.specs.List.{cons_option, flat_map, list_all, list_any}
use Rattle.std.specs.Option.{option_or}
use Rattle.wm_graph.specs.Rules.{as_drawn, collide, differ}
use Rattle.wm_period.specs.Pieces.{Held}
use Rattle.wm_spec.specs.Lists.{Cell}
use Rattle.wm_spec.specs.declared.record.piece.PieceRecord.{PieceRecord}
use Rattle.wm_spec.specs.declared.record.trace.Trace.{Trace}
use Rattle.wm_state.specs.Drafts.{cells_in, mark_piece}
use Rattle.wm_state.specs.Drawing.{PassesParts, left_by, stored_last}
use Rattle.wm_state.specs.Standing.{covers_at, held_by, in_cells, marked_at, stored_at}
use Rattle.wm_state.specs.Touching.{drawn_all}
use Rattle.wm_state.specs.declared.edit.NewMark.{NewMark}
use Rattle.wm_state.proofs.Appending.{all_append}
use Rattle.wm_written.proofs.DrawingApart.{all_over, new_apart}
use Rattle.wm_written.proofs.DrawingHeld.{last_append, over_held}
use Rattle.wm_written.proofs.Touched.{only-one}
use Rattle.wm_settled.specs.Settling.{AreNewest, cut, greater, past, said}

-- ---- pieces of which others take what they cover

-- some piece covers a cell of a version
abbrev pub is_covered : List PieceRecord → ℕ → Cell → Bool
is_covered xs w c = list_any (λ (x : PieceRecord). covers_at x w c) xs

over_left : (over : PieceRecord) (xs : List PieceRecord) (w : ℕ) (c : Cell) → is_some (stored_at (flat_map (left_by over) xs) w c) ≡ (is_some (stored_at xs w c) && not (covers_at over w c))
over_left over xs w c = by_cover (covers_at over w c) refl (over_held over xs w c)
  where
    by_cover : (b : Bool) → covers_at over w c ≡ b → option_or (then_some b (held_by over)) (stored_at (flat_map (left_by over) xs) w c) ≡ option_or (then_some b (held_by over)) (stored_at xs w c)
        → is_some (stored_at (flat_map (left_by over) xs) w c) ≡ (is_some (stored_at xs w c) && not b)
    by_cover true is held = ap is_some (only-one over w c is (flat_map (left_by over) xs) (new_apart over xs)) ∙ sym (and-false (is_some (stored_at xs w c)))
    by_cover false is held = ap is_some held ∙ sym (and-true (is_some (stored_at xs w c)))

pub cut-held : (others xs : List PieceRecord) (w : ℕ) (c : Cell) → is_some (stored_at (cut others xs) w c) ≡ (is_some (stored_at xs w c) && not (is_covered others w c))
cut-held [] xs w c = sym (and-true (is_some (stored_at xs w c)))
cut-held (over ∷ others) xs w c =
    cut-held others (flat_map (left_by over) xs) w c
    ∙ ap (λ b. b && not (is_covered others w c)) (over_left over xs w c)
    ∙ by_tests (is_some (stored_at xs w c)) (covers_at over w c) (is_covered others w c)
  where
    by_tests : (a b d : Bool) → ((a && not b) && not d) ≡ (a && not (b || d))
    by_tests true true d = refl
    by_tests true false d = refl
    by_tests false b d = refl

-- what is left passes each test of parts that the pieces pass
pub cut-pass : (test : PieceRecord → Bool) → PassesParts test → (others xs : List PieceRecord) → list_all test xs ≡ true → list_all test (cut others xs) ≡ true
cut-pass test parts [] xs all = all
cut-pass test parts (over ∷ others) xs all = cut-pass test parts others (flat_map (left_by over) xs) (all_over test over parts xs all)

-- ---- pieces of one stamp

-- what they say is the stamp, where one of them covers the cell
pub last-one : (stamp : ℕ) (xs : List PieceRecord) (w : ℕ) (c : Cell) → list_all (λ (x : PieceRecord). x.stamp == stamp) xs ≡ true → past (stored_last xs w c) ≡ (if is_some (stored_at xs w c) then stamp + 1 else 0)
last-one stamp [] w c all = refl
last-one stamp (x ∷ xs) w c all =
    let h = and_parts (x.stamp == stamp) (list_all (λ (y : PieceRecord). y.stamp == stamp) xs) all in
    by_cover (stored_last xs w c) (stored_at xs w c) (covers_at x w c) (same x.stamp h.0) (last-one stamp xs w c h.1)
  where
    same : (k : ℕ) → (k == stamp) ≡ true → k + 1 ≡ stamp + 1
    same k e = grind (arith, e)

    none_said : (h : Held) → h.stamp.number + 1 ≡ 0 → ⊥
    none_said h e = omega (arith, e)

    said_none : (k : ℕ) → 0 ≡ k + 1 → ⊥
    said_none k e = omega (arith, e)

    by_cover : (o p : Option Held) (b : Bool) → x.stamp + 1 ≡ stamp + 1 → past o ≡ (if is_some p then stamp + 1 else 0)
        → past (option_or o (then_some b (held_by x))) ≡ (if is_some (option_or (then_some b (held_by x)) p) then stamp + 1 else 0)
    by_cover (Some h) (Some k) true own rest = rest
    by_cover (Some h) (Some k) false own rest = rest
    by_cover (Some h) None b own rest = absurd (none_said h rest)
    by_cover None (Some k) b own rest = absurd (said_none stamp rest)
    by_cover None None true own rest = own
    by_cover None None false own rest = rest

-- ---- what is left of new marks

-- what older marks leave of a new one says what it says, where none of a greater position covers the cell
pub record IsLeft (n place : ℕ) (old : List Trace) (m : NewMark) (left : List PieceRecord) : Type 0 where
  pub held : (w : ℕ) (c : Cell) → past (stored_last left w c) ≡ (if ((w == place) && in_cells (cells_in m) c) && nat_le (marked_at old n w c) (m.position + 1) then m.position + 1 else 0)
  pub pass : (test : PieceRecord → Bool) → PassesParts test → test (mark_piece place m) ≡ true → list_all test left ≡ true

-- some mark of a greater position covers the cell where the greatest position is greater
covered-greater : (n stamp : ℕ) (old : List Trace) (w : ℕ) (c : Cell) → is_covered (greater stamp (drawn_all n old)) w c ≡ nat_lt (stamp + 1) (marked_at old n w c)
covered-greater n stamp [] w c = none stamp
  where
    none : (k : ℕ) → false ≡ nat_lt (k + 1) 0
    none k = grind arith
covered-greater n stamp (x ∷ xs) w c = by_space (x.space == n) (covered-greater n stamp xs w c)
  where
    same : (k m : ℕ) → nat_lt k m ≡ nat_lt k (max 0 m)
    same k m = grind arith

    over : (p k m : ℕ) → nat_lt k p ≡ true → true ≡ nat_lt (k + 1) (max (p + 1) m)
    over p k m e = grind (arith, e)

    below : (p k m : ℕ) → nat_lt k p ≡ false → nat_lt (k + 1) m ≡ nat_lt (k + 1) (max (p + 1) m)
    below p k m e = grind (arith, e)

    by_cover : (v : Bool) → nat_lt stamp x.position ≡ true → is_covered (greater stamp (drawn_all n xs)) w c ≡ nat_lt (stamp + 1) (marked_at xs n w c)
        → (v || is_covered (greater stamp (drawn_all n xs)) w c) ≡ nat_lt (stamp + 1) (max (if v then x.position + 1 else 0) (marked_at xs n w c))
    by_cover true more rest = over x.position stamp (marked_at xs n w c) more
    by_cover false more rest = rest ∙ same (stamp + 1) (marked_at xs n w c)

    by_no_more : (v : Bool) → nat_lt stamp x.position ≡ false → is_covered (greater stamp (drawn_all n xs)) w c ≡ nat_lt (stamp + 1) (marked_at xs n w c)
        → is_covered (greater stamp (drawn_all n xs)) w c ≡ nat_lt (stamp + 1) (max (if v then x.position + 1 else 0) (marked_at xs n w c))
    by_no_more true less rest = rest ∙ below x.position stamp (marked_at xs n w c) less
    by_no_more false less rest = rest ∙ same (stamp + 1) (marked_at xs n w c)

    by_stamp : (t : Bool) → nat_lt stamp x.position ≡ t → is_covered (greater stamp (drawn_all n xs)) w c ≡ nat_lt (stamp + 1) (marked_at xs n w c)
        → is_covered (cond t (as_drawn x ∷ greater stamp (drawn_all n xs)) (greater stamp (drawn_all n xs))) w c
        ≡ nat_lt (stamp + 1) (max (if (x.place == w) && in_cells x.cells c then x.position + 1 else 0) (marked_at xs n w c))
    by_stamp true more rest = by_cover ((x.place == w) && in_cells x.cells c) more rest
    by_stamp false less rest = by_no_more ((x.place == w) && in_cells x.cells c) less rest

    by_space : (b : Bool) → is_covered (greater stamp (drawn_all n xs)) w c ≡ nat_lt (stamp + 1) (marked_at xs n w c)
        → is_covered (greater stamp (cons_option (then_some b (as_drawn x)) (drawn_all n xs))) w c
        ≡ nat_lt (stamp + 1) (max (if (b && (x.place == w)) && in_cells x.cells c then x.position + 1 else 0) (marked_at xs n w c))
    by_space true rest = by_stamp (nat_lt stamp x.position) refl rest
    by_space false rest = rest ∙ same (stamp + 1) (marked_at xs n w c)

-- so it is of the older marks that are found where all that share a cell with the new one are
pub left_so : (n place : ℕ) (old : List Trace) (m : NewMark) (found : List PieceRecord)
    → ((w : ℕ) (c : Cell) → in_cells (cells_in m) c ≡ true → is_covered (greater m.position found) w c ≡ is_covered (greater m.position (drawn_all n old)) w c)
    → IsLeft n place old m (cut (greater m.position found) (mark_piece place m ∷ []))
left_so n place old m found all = record {
  held = λ w c.
      last-one m.position left w c (cut-pass (λ x. x.stamp == m.position) (λ x from till is lower some upper. is) (greater m.position found) (mark_piece place m ∷ []) (and_from (m.position == m.position) true (eq-eqb m.position m.position refl) refl))
      ∙ ap (λ b. if b then m.position + 1 else 0) (cut-held (greater m.position found) (mark_piece place m ∷ []) w c)
      ∙ by_cover (in_cells (cells_in m) c) (place == w) (w == place) (is_covered (greater m.position found) w c) (marked_at old n w c) (turned place w) (λ is. all w c is ∙ covered-greater n m.position old w c);
  pass = λ test parts is. cut-pass test parts (greater m.position found) (mark_piece place m ∷ []) (and_from (test (mark_piece place m)) true is refl);
}
  where
    left : List PieceRecord
    left = cut (greater m.position found) (mark_piece place m ∷ [])

    turned : (a b : ℕ) → (a == b) ≡ (b == a)
    turned a b = grind arith

    at_most : (k u : ℕ) → not (nat_lt k u) ≡ nat_le u k
    at_most k u = grind arith

    by_cover : (v s t g : Bool) (u : ℕ) → s ≡ t → (v ≡ true → g ≡ nat_lt (m.position + 1) u)
        → (if is_some (option_or (then_some (s && v) (held_by (mark_piece place m))) None) && not g then m.position + 1 else 0) ≡ (if (t && v) && nat_le u (m.position + 1) then m.position + 1 else 0)
    by_cover true true t g u same greater_is = rw (sym same, greater_is refl) (ap (λ b. if b then m.position + 1 else 0) (at_most (m.position + 1) u))
    by_cover true false t g u same greater_is = rw (sym same) refl
    by_cover false true t g u same greater_is = rw (sym same) refl
    by_cover false false t g u same greater_is = rw (sym same) refl

-- ---- all new marks

-- where marks do not share a cell, and one of them has it, the others say nothing
said_none : (ms : List NewMark) (c : Cell) → stored_at (map (mark_piece 0) ms) 0 c ≡ None → said ms c ≡ 0
said_none [] c none = refl
said_none (m ∷ ms) c none = by_cover (in_cells (cells_in m) c) none (said_none ms c)
  where
    by_cover : (b : Bool) → option_or (then_some b (held_by (mark_piece 0 m))) (stored_at (map (mark_piece 0) ms) 0 c) ≡ None → (stored_at (map (mark_piece 0) ms) 0 c ≡ None → said ms c ≡ 0)
        → max (if b then m.position + 1 else 0) (said ms c) ≡ 0
    by_cover true e rest = absurd (none-some (held_by (mark_piece 0 m)) (sym e))
    by_cover false e rest = ap (max 0) (rest e)

-- what is left of each, one behind the other, says what they say
pub newest_all : (n place : ℕ) (old : List Trace) (left : NewMark → List PieceRecord) → ((m : NewMark) → IsLeft n place old m (left m)) → (ms : List NewMark) → differ collide (map (mark_piece 0) ms) ≡ true
    → AreNewest n place ms old (flat_map left ms)
newest_all n place old left each [] apart = record { held = λ w c. none ((w == place) && nat_le (marked_at old n w c) 0) 0; pass = λ test parts all. refl }
  where
    none : (b : Bool) (k : ℕ) → k ≡ (if b then k else k)
    none true k = refl
    none false k = refl
newest_all n place old left each (m ∷ ms) apart =
    let h = and_parts (not (list_any (collide (mark_piece 0 m)) (map (mark_piece 0) ms))) (differ collide (map (mark_piece 0) ms)) apart in
    let rest = newest_all n place old left each ms h.1 in
    record {
      held = λ w c.
          ap past (last_append (left m) (flat_map left ms) w c)
          ∙ by_said (w == place) (in_cells (cells_in m) c) (stored_last (flat_map left ms) w c) (stored_last (left m) w c) (marked_at old n w c) (m.position + 1) (said ms c) (rest.held w c) ((each m).held w c)
          (λ is. said_none ms c (only-one (mark_piece 0 m) 0 c is (map (mark_piece 0) ms) (not-true (list_any (collide (mark_piece 0 m)) (map (mark_piece 0) ms)) h.0)));
      pass = λ test parts all.
          let g = and_parts (test (mark_piece place m)) (list_all test (map (mark_piece place) ms)) all in
          all_append test (left m) (flat_map left ms) ((each m).pass test parts g.0) (rest.pass test parts g.1);
    }
  where
    none_said : (h : ℕ) → h + 1 ≡ 0 → ⊥
    none_said h e = omega (arith, e)

    alone : (u k : ℕ) (h : ℕ) → h ≡ (if nat_le u k then k else 0) → h ≡ (if nat_le u (max k 0) then max k 0 else 0)
    alone u k h e = grind (arith, e)

    others : (u s : ℕ) (h : ℕ) → h ≡ (if nat_le u s then s else 0) → h ≡ (if nat_le u (max 0 s) then max 0 s else 0)
    others u s h e = grind (arith, e)

    nothing_else : (u h : ℕ) → h + 1 ≡ (if nat_le u 0 then 0 else 0) → ⊥
    nothing_else u h e = grind (arith, e)

    by_said : (t v : Bool) (o p : Option Held) (u k s : ℕ) → past o ≡ (if t && nat_le u s then s else 0) → past p ≡ (if (t && v) && nat_le u k then k else 0) → (v ≡ true → s ≡ 0)
        → past (option_or o p) ≡ (if t && nat_le u (max (if v then k else 0) s) then max (if v then k else 0) s else 0)
    by_said false v (Some h) p u k s one two none = absurd (none_said h.stamp.number one)
    by_said false v None p u k s one two none = two
    by_said true false (Some h) p u k s one two none = others u s (h.stamp.number + 1) one
    by_said true false None None u k s one two none = others u s 0 one
    by_said true false None (Some h) u k s one two none = absurd (none_said h.stamp.number two)
    by_said true true (Some h) p u k s one two none = absurd (nothing_else u h.stamp.number (one ∙ ap (λ i. if nat_le u i then i else 0) (none refl)))
    by_said true true None p u k s one two none = rw (none refl) (alone u k (past p) two)
