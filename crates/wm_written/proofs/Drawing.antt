-- Pieces that stand for old ones with new ones over them.
use Rattle.std.proofs.Common.{◌≡◌, ℕ, ◌==◌, nat_lt, nat_le, Bool, true, false, not, ◌&&◌, List, [], ◌∷◌, ◌++◌, Option, None, refl, sym, ap, ◌∙◌}
use Rattle.std.proofs.lemmas.Bool.{eqb-true, eq-eqb, and_from, and_parts, not-true, true≢false}
use Rattle.std.specs.Bool.{then_some}
use Rattle.std.specs.List.{flat_map, list_all, list_any}
use Rattle.std.specs.Option.{option_or}
use Rattle.std.specs.Ordering.{is_eq}
use Rattle.wm_base.specs.Key.{key_order}
use Rattle.wm_base.specs.declared.value.Value.{Value}
use Rattle.wm_graph.specs.Rules.{differ, collide}
use Rattle.wm_base.proofs.Plain.{option_or-none, option_or_assoc}
use Rattle.wm_period.specs.Pieces.{Held}
use Rattle.wm_spec.specs.Lists.{Cell}
use Rattle.wm_spec.specs.declared.record.piece.PieceRecord.{PieceRecord}
use Rattle.wm_state.specs.Batches.{is_in, is_out}
use Rattle.wm_state.specs.Drawing.{left_by, stored_last, has_moments, PassesParts, AreDrawn}
use Rattle.wm_state.specs.Standing.{covers_at, held_by, stored_at}
use Rattle.wm_state.proofs.Appending.{all_append, differ_append}
use Rattle.wm_state.proofs.Laying.{key_same, key_itself, stored-append}
use Rattle.wm_state.proofs.Tests.{none_if, all_if}
use Rattle.wm_written.proofs.DrawingHeld.{last_append, over_held, place_of}
use Rattle.wm_written.proofs.DrawingApart.{all_over, over_differ}
use Rattle.wm_state.proofs.DrawingEnds.{more-front, more-behind, more-both, more-passed, has_both, ends-more, ends-of, ends-over}

-- ---- over one place

-- nothing new
pub drawn-old : (old : List PieceRecord) → differ collide old ≡ true → AreDrawn [] old old
drawn-old old apart = record { held = λ w c. refl; differ = apart; pass = λ test parts passed new. passed; ends = ends-of old (old ++ []) (more-front old []) }

pub drawn-nothing : AreDrawn [] [] []
drawn-nothing = drawn-old [] refl

-- one new piece more
pub drawn-over : (news old drawn : List PieceRecord) (new : PieceRecord) → AreDrawn news old drawn → has_moments new ≡ true → AreDrawn (news ++ new ∷ []) old (new ∷ flat_map (left_by new) drawn)
drawn-over news old drawn new so lasts = record {
  held = λ w c.
      over_held new drawn w c
      ∙ ap (option_or (then_some (covers_at new w c) (held_by new))) (so.held w c)
      ∙ sym (option_or_assoc (then_some (covers_at new w c) (held_by new)) (stored_last news w c) (stored_at old w c))
      ∙ ap (λ o. option_or o (stored_at old w c)) (sym (last_append news (new ∷ []) w c));
  differ = over_differ new lasts drawn so.differ;
  pass = λ test parts olds passed.
      let h = apart_all test news passed in
      and_from (test new) (list_all test (flat_map (left_by new) drawn)) h.1 (all_over test new parts drawn (so.pass test parts olds h.0));
  ends =
      let all : List PieceRecord = old ++ (news ++ new ∷ []) in
      ends-over all new drawn (λ P e. more-behind old (news ++ new ∷ []) P (more-behind news (new ∷ []) P e))
      (ends-more (old ++ news) all drawn (more-both old news all (more-front old (news ++ new ∷ [])) (λ P e. more-behind old (news ++ new ∷ []) P (more-front news (new ∷ []) P e))) so.ends);
}
  where
    apart_all : (test : PieceRecord → Bool) (xs : List PieceRecord) → list_all test (xs ++ new ∷ []) ≡ true → (list_all test xs ≡ true) × (test new ≡ true)
    apart_all test [] passed = (refl, (and_parts (test new) true passed).0)
    apart_all test (x ∷ xs) passed =
        let h = and_parts (test x) (list_all test (xs ++ new ∷ [])) passed in let rest = apart_all test xs h.1 in (and_from (test x) (list_all test xs) h.0 rest.0, rest.1)

-- ---- places side by side

abbrev nothing : Option Held
nothing = None

-- a version, a table and a key are those of a cell of a version
abbrev is_cell : ℕ → ℕ → List Value → ℕ → Cell → Bool
is_cell version table key w c = (version == w) && ((table == c.table) && is_eq (key_order key c.key))

uncovered : (a b t : Bool) → (a && b) ≡ false → (a && (b && t)) ≡ false
uncovered true true t e = absurd (true≢false e)
uncovered true false t e = refl
uncovered false b t e = refl

-- pieces of one place hold nothing elsewhere
away_of : (version table : ℕ) (key : List Value) (w : ℕ) (c : Cell) (x : PieceRecord) → is_in version table key x ≡ true → is_cell version table key w c ≡ false → covers_at x w c ≡ false
away_of version table key w c x inside away =
    uncovered (x.version == w) ((x.cells.table == c.table) && is_eq (key_order x.cells.key c.key)) (nat_le x.cells.from c.time && nat_lt c.time x.cells.till) (place_of version table key x inside w c.table c.key ∙ away)

-- and the others hold nothing there
out_of : (version table : ℕ) (key : List Value) (w : ℕ) (c : Cell) (x : PieceRecord) → is_out version table key x ≡ true → is_cell version table key w c ≡ true → covers_at x w c ≡ false
out_of version table key w c x outside here = by_place (is_in w c.table c.key x) refl
  where
    turned : is_cell version table key w c ≡ true → is_in version table key (record x { version = w; cells = record x.cells { table = c.table; key = c.key } }) ≡ true
    turned e =
        let h = and_parts (version == w) ((table == c.table) && is_eq (key_order key c.key)) e in
        let g = and_parts (table == c.table) (is_eq (key_order key c.key)) h.1 in
        and_from (w == version) ((c.table == table) && is_eq (key_order c.key key)) (eq-eqb w version (sym (eqb-true version w h.0)))
        (and_from (c.table == table) (is_eq (key_order c.key key)) (eq-eqb c.table table (sym (eqb-true table c.table g.0))) (ap (λ (k : List Value). is_eq (key_order c.key k)) (key_same key c.key g.1) ∙ key_itself c.key))

    by_place : (b : Bool) → is_in w c.table c.key x ≡ b → covers_at x w c ≡ false
    by_place true e = absurd (true≢false (sym (place_of w c.table c.key x e version table key ∙ turned here) ∙ not-true (is_in version table key x) outside))
    by_place false e = uncovered (x.version == w) ((x.cells.table == c.table) && is_eq (key_order x.cells.key c.key)) (nat_le x.cells.from c.time && nat_lt c.time x.cells.till) e

none_stored : (P : PieceRecord → Bool) (w : ℕ) (c : Cell) → ((x : PieceRecord) → P x ≡ true → covers_at x w c ≡ false) → (xs : List PieceRecord) → list_all P xs ≡ true → stored_at xs w c ≡ nothing
none_stored P w c none [] all = refl
none_stored P w c none (x ∷ xs) all = let h = and_parts (P x) (list_all P xs) all in rw (none x h.0) (none_stored P w c none xs h.1)

none_last : (P : PieceRecord → Bool) (w : ℕ) (c : Cell) → ((x : PieceRecord) → P x ≡ true → covers_at x w c ≡ false) → (xs : List PieceRecord) → list_all P xs ≡ true → stored_last xs w c ≡ nothing
none_last P w c none [] all = refl
none_last P w c none (x ∷ xs) all = let h = and_parts (P x) (list_all P xs) all in rw (none x h.0, none_last P w c none xs h.1) refl

-- pieces of a place and others do not collide
places_apart : (version table : ℕ) (key : List Value) (x y : PieceRecord) → is_out version table key x ≡ true → is_in version table key y ≡ true → collide x y ≡ false
places_apart version table key x y outside inside = by_place (is_in y.version y.cells.table y.cells.key x) refl
  where
    by_place : (b : Bool) → is_in y.version y.cells.table y.cells.key x ≡ b → (b && (nat_lt x.cells.from y.cells.till && nat_lt y.cells.from x.cells.till)) ≡ false
    by_place true e = absurd (true≢false (sym (place_of y.version y.cells.table y.cells.key x e version table key ∙ inside) ∙ not-true (is_in version table key x) outside))
    by_place false e = refl

-- a part is of its piece's place
pub in-parts : (version table : ℕ) (key : List Value) → PassesParts (is_in version table key)
in-parts version table key = λ x from till here after some before. here

pub out-parts : (version table : ℕ) (key : List Value) → PassesParts (is_out version table key)
out-parts version table key = λ x from till here after some before. here

pub all_apart : (test : PieceRecord → Bool) (xs ys : List PieceRecord) → list_all test (xs ++ ys) ≡ true → (list_all test xs ≡ true) × (list_all test ys ≡ true)
all_apart test [] ys all = (refl, all)
all_apart test (x ∷ xs) ys all = let h = and_parts (test x) (list_all test (xs ++ ys)) all in let rest = all_apart test xs ys h.1 in (and_from (test x) (list_all test xs) h.0 rest.0, rest.1)

-- what is drawn of one key of a version and table beside what is drawn of others
pub drawn-more : (version table : ℕ) (key : List Value) (ns xs ds ms ys es : List PieceRecord) → AreDrawn ns xs ds → AreDrawn ms ys es → list_all (is_out version table key) ns ≡ true → list_all (is_out version table key) xs ≡ true
    → list_all (is_in version table key) ms ≡ true → list_all (is_in version table key) ys ≡ true → AreDrawn (ns ++ ms) (xs ++ ys) (ds ++ es)
drawn-more version table key ns xs ds ms ys es first second ns_out xs_out ms_in ys_in = record {
  held = λ w c.
      stored-append ds es w c
      ∙ ap (λ o. option_or o (stored_at es w c)) (first.held w c)
      ∙ ap (option_or (option_or (stored_last ns w c) (stored_at xs w c))) (second.held w c)
      ∙ by_place w c (is_cell version table key w c) refl
      ∙ ap (λ o. option_or o (option_or (stored_at xs w c) (stored_at ys w c))) (sym (last_append ns ms w c))
      ∙ ap (option_or (stored_last (ns ++ ms) w c)) (sym (stored-append xs ys w c));
  differ = differ_append collide ds es first.differ second.differ
      (all_if (is_out version table key) (λ x. not (list_any (collide x) es))
      (λ x outside. ap not (none_if (is_in version table key) (collide x) (λ y inside. places_apart version table key x y outside inside) es (second.pass (is_in version table key) (in-parts version table key) ys_in ms_in)))
      ds (first.pass (is_out version table key) (out-parts version table key) xs_out ns_out));
  pass = λ test parts olds news.
      let o = all_apart test xs ys olds in
      let n = all_apart test ns ms news in
      all_append test ds es (first.pass test parts o.0 n.0) (second.pass test parts o.1 n.1);
  ends =
      let all : List PieceRecord = (xs ++ ys) ++ (ns ++ ms) in
      all_append (has_both all) ds es
      (ends-more (xs ++ ns) all ds
      (more-both xs ns all (λ P e. more-front (xs ++ ys) (ns ++ ms) P (more-front xs ys P e)) (λ P e. more-behind (xs ++ ys) (ns ++ ms) P (more-front ns ms P e))) first.ends)
      (ends-more (ys ++ ms) all es
      (more-both ys ms all (λ P e. more-front (xs ++ ys) (ns ++ ms) P (more-behind xs ys P e)) (λ P e. more-behind (xs ++ ys) (ns ++ ms) P (more-behind ns ms P e))) second.ends);
}
  where
    here : (a b d e : Option Held) → a ≡ nothing → b ≡ nothing → option_or (option_or a b) (option_or d e) ≡ option_or (option_or d a) (option_or b e)
    here a b d e no_a no_b = rw (no_a, no_b) (ap (λ o. option_or o e) (sym (option_or-none d)))

    elsewhere_held : (a b d e : Option Held) → d ≡ nothing → e ≡ nothing → option_or (option_or a b) (option_or d e) ≡ option_or (option_or d a) (option_or b e)
    elsewhere_held a b d e no_d no_e = rw (no_d, no_e) (option_or-none (option_or a b) ∙ ap (option_or a) (sym (option_or-none b)))

    by_place : (w : ℕ) (c : Cell) (p : Bool) → is_cell version table key w c ≡ p
        → option_or (option_or (stored_last ns w c) (stored_at xs w c)) (option_or (stored_last ms w c) (stored_at ys w c)) ≡ option_or (option_or (stored_last ms w c) (stored_last ns w c)) (option_or (stored_at xs w c) (stored_at ys w c))
    by_place w c true e =
        here (stored_last ns w c) (stored_at xs w c) (stored_last ms w c) (stored_at ys w c)
        (none_last (is_out version table key) w c (λ x outside. out_of version table key w c x outside e) ns ns_out) (none_stored (is_out version table key) w c (λ x outside. out_of version table key w c x outside e) xs xs_out)
    by_place w c false e =
        elsewhere_held (stored_last ns w c) (stored_at xs w c) (stored_last ms w c) (stored_at ys w c)
        (none_last (is_in version table key) w c (λ x inside. away_of version table key w c x inside e) ms ms_in) (none_stored (is_in version table key) w c (λ x inside. away_of version table key w c x inside e) ys ys_in)

-- the same over old pieces that hold the same and pass the same tests
pub drawn-same : (news xs ys drawn : List PieceRecord) → ((w : ℕ) (c : Cell) → stored_at xs w c ≡ stored_at ys w c) → ((test : PieceRecord → Bool) → list_all test ys ≡ true → list_all test xs ≡ true)
    → AreDrawn news xs drawn → AreDrawn news ys drawn
drawn-same news xs ys drawn held passed so = record {
  held = λ w c. so.held w c ∙ ap (option_or (stored_last news w c)) (held w c);
  differ = so.differ;
  pass = λ test parts olds news_pass. so.pass test parts (passed test olds) news_pass;
  ends = ends-more (xs ++ news) (ys ++ news) drawn (more-both xs news (ys ++ news) (λ P e. more-front ys news P (more-passed xs ys passed P e)) (more-behind ys news)) so.ends;
}
