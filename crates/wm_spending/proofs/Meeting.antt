-- The touches that entries meet are no more than the stretches of the entries' cells.
use Rattle.std.proofs.Common.{◌≡◌, ℕ, ◌+◌, ◌-◌, ◌*◌, ◌<◌, ◌≤◌, ◌==◌, nat_le, nat_lt, max, Bool, true, false, not, ◌&&◌, ◌||◌, cond, if◌then◌else◌, List, [], ◌∷◌, length, Option, refl, sym, ap, subst, ◌∙◌, arith}
use Rattle.std.proofs.lemmas.Bool.{eqb-true, eq-eqb, and_from, and_parts, or_right, true≢false}
use Rattle.std.proofs.lemmas.Bool.Decides.{nat_tests}
use Rattle.std.proofs.lemmas.List.Elements.{All-head, All-tail}
use Rattle.std.specs.Bool.{then_some}
use Rattle.std.specs.List.{All, cons_option, filter, list_all}
use Rattle.std.specs.Option.{option_map_or}
use Rattle.std.specs.Ordering.{is_eq}
use Rattle.wm_base.specs.Key.{key_order}
use Rattle.wm_graph.specs.Parts.{Parts, space_of, table_of}
use Rattle.wm_graph.specs.Rules.{are_cells, as_drawn, collide, differ, is_given, is_key_of, is_space, is_touch, is_trace, meet}
use Rattle.wm_net.proofs.Alikes.{touched-cons}
use Rattle.wm_net.proofs.Sharing.{cells_count}
use Rattle.wm_net.specs.Counts.{IsSteady, Meet, cut_count, has_cell, has_ends}
use Rattle.wm_prices.specs.Prices.{met_touches, touch_price}
use Rattle.wm_spec.specs.Lists.{Cell, Entry, covers, touched}
use Rattle.wm_spec.specs.declared.record.piece.PieceRecord.{PieceRecord}
use Rattle.wm_spec.specs.declared.record.space.Space.{Space}
use Rattle.wm_spec.specs.declared.record.table.Table.{Table}
use Rattle.wm_spec.specs.declared.record.trace.Trace.{Trace}
use Rattle.wm_state.proofs.Apart.{found-passes, ruled}
use Rattle.wm_state.proofs.Laying.{key_itself}
use Rattle.wm_state.proofs.Spaces.{IsSpace, ruled_spaces}
use Rattle.wm_state.proofs.Tests.{differ_filter}
use Rattle.wm_state.specs.Drawing.{is_clear}
use Rattle.wm_state.specs.Standing.{IsReal, SpaceFields, Stands, touches_end}
use Rattle.wm_state.specs.State.{Durable, Workspace}
use Rattle.wm_state.specs.Touching.{drawn_all, marks_of}
use Rattle.wm_written.proofs.Touching.{view-apart}
use Rattle.wm_spending.proofs.Ends.{EndIn, all_filtered, apart_there, ends_in}

-- ---- a piece that marks meet

-- it is of their place, and has a cell with one of the entries
pub record Hit (place : ℕ) (es : List Entry) (y : PieceRecord) : Type 0 where
  pub here : (y.version == place) ≡ true
  pub shared : Meet (has_cell y.cells) (touched es)

hit : (tables : List Table) (place start : ℕ) (es : List Entry) (y : PieceRecord) → All (IsReal tables) es → nat_lt y.cells.from y.cells.till ≡ true → not (is_clear (marks_of place start es) y) ≡ true → Hit place es y
hit tables place start [] y real some met = absurd (true≢false (sym met))
hit tables place start (e ∷ es) y real some met =
    by_first (collide mark y) refl met (All-head (IsReal tables) e es real).some (hit tables place (start + 1) es y (All-tail (IsReal tables) e es real) some)
  where
    mark : PieceRecord
    mark = as_drawn (record { space = 0; place = place; cells = record { table = e.table; key = e.key; from = e.from; till = e.till }; position = start })

    t : ℕ
    t = max e.from y.cells.from

    c : Cell
    c = record { table = y.cells.table; key = y.cells.key; time = t }

    late : (a b m : ℕ) → nat_le a (max a b) ≡ true
    late a b m = grind (arith, nat_tests)

    late_too : (a b : ℕ) → nat_le b (max a b) ≡ true
    late_too a b = grind (arith, nat_tests)

    early : (a b till : ℕ) → nat_lt a till ≡ true → nat_lt b till ≡ true → nat_lt (max a b) till ≡ true
    early a b till one two = grind (arith, nat_tests, one, two)

    begins : e.from < e.till → nat_lt e.from e.till ≡ true
    begins lt = grind (arith, nat_tests, lt)

    by_first : (b : Bool) → collide mark y ≡ b → not (not b && is_clear (marks_of place (start + 1) es) y) ≡ true → e.from < e.till
        → (not (is_clear (marks_of place (start + 1) es) y) ≡ true → Hit place es y) → Hit place (e ∷ es) y
    by_first false is free lt rest =
        let h = rest free in
        record {
          here = h.here;
          shared = record {
            shared = h.shared.shared;
            one = h.shared.one;
            two = touched-cons e es h.shared.shared ∙ ap (λ (b : Bool). b || covers e h.shared.shared) h.shared.two;
          };
        }
    by_first true is free lt rest =
        let a = and_parts ((place == y.version) && ((e.table == y.cells.table) && is_eq (key_order e.key y.cells.key))) (nat_lt e.from y.cells.till && nat_lt y.cells.from e.till) is in
        let b = and_parts (place == y.version) ((e.table == y.cells.table) && is_eq (key_order e.key y.cells.key)) a.0 in
        let d = and_parts (nat_lt e.from y.cells.till) (nat_lt y.cells.from e.till) a.1 in
        record {
          here = eq-eqb y.version place (sym (eqb-true place y.version b.0));
          shared = record {
            shared = c;
            one =
                and_from _ (nat_le y.cells.from t && nat_lt t y.cells.till) (and_from (y.cells.table == y.cells.table) _ (eq-eqb y.cells.table y.cells.table refl) (key_itself y.cells.key))
                (and_from (nat_le y.cells.from t) (nat_lt t y.cells.till) (late_too e.from y.cells.from) (early e.from y.cells.from y.cells.till d.0 some));
            two =
                touched-cons e es c
                ∙ or_right (touched es c) (covers e c)
                (and_from _ (nat_le e.from t && nat_lt t e.till) b.1 (and_from (nat_le e.from t) (nat_lt t e.till) (late e.from y.cells.from 0) (early e.from y.cells.from e.till (begins lt) d.1)));
          };
        }

-- ---- touches as pieces

-- those of a workspace below a place end where a log does, and each has a moment
abbrev is_well : ℕ → List Entry → PieceRecord → Bool
is_well below log y = nat_lt y.cells.from y.cells.till && (if nat_lt y.version below then has_ends log y.cells else true)

drawn_well : (tables : ℕ → Option Table) (spaces : ℕ → Option Space) (n below : ℕ) (log : List Entry) (xs : List Trace) → touches_end xs n below log ≡ true → list_all (is_touch tables spaces) xs ≡ true
    → list_all (is_well below log) (drawn_all n xs) ≡ true
drawn_well tables spaces n below log [] ends each = refl
drawn_well tables spaces n below log (x ∷ xs) ends each =
    let h = and_parts (if (x.space == n) && nat_lt x.place below then has_ends log x.cells else true) (touches_end xs n below log) ends in
    let g = and_parts (is_touch tables spaces x) (list_all (is_touch tables spaces) xs) each in
    let cells = (and_parts (are_cells tables x.cells) (is_given spaces x.space x.place) (and_parts (is_trace tables spaces x) _ g.0).0).0 in
    let some = (and_parts (nat_lt x.cells.from x.cells.till) _ (and_parts (nat_lt x.cells.from x.cells.till && _) (option_map_or (is_key_of x.cells.key) (tables x.cells.table) false) cells).0).0 in
    by_space (x.space == n) h.0 some (drawn_well tables spaces n below log xs h.1 g.1)
  where
    by_space : (b : Bool) → (if b && nat_lt x.place below then has_ends log x.cells else true) ≡ true → nat_lt x.cells.from x.cells.till ≡ true → list_all (is_well below log) (drawn_all n xs) ≡ true
        → list_all (is_well below log) (cons_option (then_some b (as_drawn x)) (drawn_all n xs)) ≡ true
    by_space true end some rest =
        and_from (is_well below log (as_drawn x)) (list_all (is_well below log) (drawn_all n xs)) (and_from (nat_lt x.cells.from x.cells.till) (if nat_lt x.place below then has_ends log x.cells else true) some end) rest
    by_space false end some rest = rest

-- ---- the price

module _ (p : Parts) (d : Durable) (n : ℕ) (w : Workspace) (a : Space) (st : Stands p d) (is : IsSpace p d n a w) where
  abbrev place : ℕ
  place = a.next_place - 1

  -- the last place that was given is below the next
  last_given : nat_lt place w.next_place ≡ true
  last_given = below a.next_place w.next_place (and_parts (nat_le 1 a.next_place) _ (and_parts _ (nat_le 1 a.next_place && _) ruled_is).1).0 (ap (λ (f : SpaceFields). f.next_place) is.fields)
    where
      ruled_is : is_space (space_of p.spaces) a ≡ true
      ruled_is = (found-passes (λ (x : Space). x.number == n) (is_space (space_of p.spaces)) p.spaces a is.recorded (ruled_spaces p st.rules).each).1

      below : (k m : ℕ) → nat_le 1 k ≡ true → k ≡ m → nat_lt (k - 1) m ≡ true
      below k m some same = grind (arith, nat_tests, some, same)

  well : list_all (is_well w.next_place w.lists.log) (drawn_all a.number p.touches) ≡ true
  well =
      subst (λ k. list_all (is_well w.next_place w.lists.log) (drawn_all k p.touches) ≡ true) (sym is.record_number)
      (drawn_well (table_of p.tables) (space_of p.spaces) n w.next_place w.lists.log p.touches (st.touches.latest n w is.found).ends
      (and_parts (differ meet p.touches) (list_all (is_touch (table_of p.tables) (space_of p.spaces)) p.touches) (ruled p st.rules).touches).1)

  apart : differ collide (drawn_all a.number p.touches) ≡ true
  apart = view-apart a.number p.touches (and_parts (differ meet p.touches) (list_all (is_touch (table_of p.tables) (space_of p.spaces)) p.touches) (ruled p st.rules).touches).0

  -- where entries end and what they touch is among the stretches of a test, what they meet is no more than these
  pub met_few : (tables : List Table) (es all : List Entry) (f : Cell → Bool) → All (IsReal tables) es → IsSteady all f → EndIn w.lists.log all → ((c : Cell) → touched es c ≡ true → f c ≡ true) → length (met_touches p a es) ≤ cut_count all f
  met_few tables es all f real steady ends covered =
      cells_count all f (λ (x : PieceRecord). x.cells) (met_touches p a es) steady
      (all_filtered (λ (x : PieceRecord). has_ends all x.cells ≡ true) test (is_well w.next_place w.lists.log) (λ x good met. ends_in w.lists.log all x.cells ends (end_of x good (hit_of x good met))) (drawn_all a.number p.touches) well)
      (all_filtered (λ (x : PieceRecord). Meet (has_cell x.cells) f) test (is_well w.next_place w.lists.log) (λ x good met. meets (hit_of x good met)) (drawn_all a.number p.touches) well)
      (apart_there place (met_touches p a es) (all_here (drawn_all a.number p.touches) well) (differ_filter collide test (drawn_all a.number p.touches) apart))
    where
      test : PieceRecord → Bool
      test x = not (is_clear (marks_of place a.log_length es) x)

      hit_of : (x : PieceRecord) → is_well w.next_place w.lists.log x ≡ true → test x ≡ true → Hit place es x
      hit_of x good met = hit tables place a.log_length es x real (and_parts (nat_lt x.cells.from x.cells.till) _ good).0 met

      end_of : (x : PieceRecord) → is_well w.next_place w.lists.log x ≡ true → Hit place es x → has_ends w.lists.log x.cells ≡ true
      end_of x good h =
          let late : nat_lt x.version w.next_place ≡ true = ap (λ k. nat_lt k w.next_place) (eqb-true x.version place h.here) ∙ last_given in
          sym (ap (λ b. if b then has_ends w.lists.log x.cells else true) late) ∙ (and_parts (nat_lt x.cells.from x.cells.till) (if nat_lt x.version w.next_place then has_ends w.lists.log x.cells else true) good).1

      meets : {x : PieceRecord} → Hit place es x → Meet (has_cell x.cells) f
      meets h = record { shared = h.shared.shared; one = h.shared.one; two = covered h.shared.shared h.shared.two }

      all_here : (ys : List PieceRecord) → list_all (is_well w.next_place w.lists.log) ys ≡ true → list_all (λ (x : PieceRecord). x.version == place) (filter test ys) ≡ true
      all_here [] good = refl
      all_here (y ∷ ys) good = let h = and_parts (is_well w.next_place w.lists.log y) (list_all (is_well w.next_place w.lists.log) ys) good in by_test (test y) refl h.0 (all_here ys h.1)
        where
          by_test : (b : Bool) → test y ≡ b → is_well w.next_place w.lists.log y ≡ true → list_all (λ (x : PieceRecord). x.version == place) (filter test ys) ≡ true
              → list_all (λ (x : PieceRecord). x.version == place) (cond b (y ∷ filter test ys) (filter test ys)) ≡ true
          by_test true met good rest = and_from (y.version == place) _ (hit_of y good met).here rest
          by_test false met good rest = rest

  -- and each of them counts twice
  pub touches_priced : (tables : List Table) (es all : List Entry) (f : Cell → Bool) → All (IsReal tables) es → IsSteady all f → EndIn w.lists.log all → ((c : Cell) → touched es c ≡ true → f c ≡ true) → touch_price p n es ≤ 2 * cut_count all f
  touches_priced tables es all f real steady ends covered =
      let few = met_few tables es all f real steady ends covered in
      let price : touch_price p n es ≡ 2 * length (met_touches p a es) = ap {B = ℕ} (λ (o : Option Space). option_map_or (λ (b : Space). 2 * length (met_touches p b es)) o 0) is.recorded in
      omega (arith, few, price)
