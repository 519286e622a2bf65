-- What the records of marks tell is what is settled: of a cell, and whether some mark is at a position or a place.
use Rattle.std.proofs.Common.{◌≡◌, ℕ, ◌+◌, ◌<◌, ◌≤◌, ◌==◌, max, nat_le, nat_lt, Bool, true, false, ◌&&◌, ◌||◌, cond, if◌then◌else◌, List, [], ◌∷◌, Option, Some, refl, sym, ap, ◌∙◌, arith, ⊎_elim, ◌⊎◌, inl, inr}
use Rattle.std.proofs.lemmas.Bool.{eq-eqb, eqb-true, leb-true, ltb-true, and_parts, or_right}
use Rattle.std.proofs.lemmas.List.Elements.{All-cons, All-head, All-nil, All-tail}
use Rattle.std.specs.List.{All, list_all, list_any}
use Rattle.std.specs.Option.{option_map_or}
use Rattle.wm_base.specs.declared.instant.TheConstants.{END}
use Rattle.wm_graph.specs.Parts.{Parts, space_of, table_of}
use Rattle.wm_graph.specs.Rules.{are_cells, is_given, is_key_of, is_trace, keep_rules, meet, differ}
use Rattle.wm_net.specs.Conflicts.{Settled, as_entry, settled_at}
use Rattle.wm_spec.specs.Lists.{Cell, covers}
use Rattle.wm_spec.specs.declared.record.space.Space.{Space}
use Rattle.wm_spec.specs.declared.record.trace.Trace.{Trace}
use Rattle.wm_state.specs.Standing.{IsRealMark, MarksStand, in_cells, marked_at, reached, settled_from}
use Rattle.wm_state.specs.State.{Durable, Workspace, workspace_of}
use Rattle.wm_state.proofs.Apart.{ruled}
use Rattle.wm_state.proofs.Laying.{key_itself}
use Rattle.wm_state.proofs.Tests.{all_if}

-- ---- what is settled, place by place

-- what is settled at a place is part of all that is
settled_part : (ms : List Settled) (place : ℕ) (c : Cell) → settled_from ms place c ≤ settled_at ms c
settled_part [] place c = omega arith
settled_part (m ∷ ms) place c = by_test (m.place == place) (covers (as_entry m) c) (settled_part ms place c)
  where
    by_test : (a b : Bool) → settled_from ms place c ≤ settled_at ms c → max (if a && b then m.position + 1 else 0) (settled_from ms place c) ≤ max (if b then m.position + 1 else 0) (settled_at ms c)
    by_test true true rest = omega (arith, rest)
    by_test true false rest = omega (arith, rest)
    by_test false true rest = omega (arith, rest)
    by_test false false rest = omega (arith, rest)

-- a mark is settled at its place
settled_own : (m : Settled) (ms : List Settled) (c : Cell) → covers (as_entry m) c ≡ true → m.position < settled_from (m ∷ ms) m.place c
settled_own m ms c e = rw (eq-eqb m.place m.place refl, e) (omega arith)

settled_rest : (m : Settled) (ms : List Settled) (place : ℕ) (c : Cell) → settled_from ms place c ≤ settled_from (m ∷ ms) place c
settled_rest m ms place c = omega arith

-- a bound of each place is one of all
settled_bound : (ms : List Settled) (c : Cell) (bound : ℕ) → ((place : ℕ) → settled_from ms place c ≤ bound) → settled_at ms c ≤ bound
settled_bound [] c bound each = omega arith
settled_bound (m ∷ ms) c bound each =
    let rest = settled_bound ms c bound (λ place. let more = settled_rest m ms place c in let all = each place in omega (arith, more, all)) in
    by_test (covers (as_entry m) c) refl rest
  where
    by_test : (b : Bool) → covers (as_entry m) c ≡ b → settled_at ms c ≤ bound → max (if b then m.position + 1 else 0) (settled_at ms c) ≤ bound
    by_test true e rest = let own = settled_own m ms c e in let all = each m.place in omega (arith, own, all, rest)
    by_test false e rest = omega (arith, rest)

-- marks that settle the same place by place settle the same
settled_same : (ms ns : List Settled) (c : Cell) → ((place : ℕ) → settled_from ms place c ≡ settled_from ns place c) → settled_at ms c ≡ settled_at ns c
settled_same ms ns c same =
    let one = settled_bound ms c (settled_at ns c) (λ place. let e = same place in let part = settled_part ns place c in omega (arith, e, part)) in
    let two = settled_bound ns c (settled_at ms c) (λ place. let e = same place in let part = settled_part ms place c in omega (arith, e, part)) in
    omega (arith, one, two)

-- ---- tests of place and position

-- what passes at a position passes at a greater one
abbrev Rises : (ℕ → ℕ → Bool) → Type 0
Rises test = (place k j : ℕ) → k ≤ j → test place k ≡ true → test place j ≡ true

-- what passes at a place below what is settled there passes for some mark
any_settled : (test : ℕ → ℕ → Bool) → Rises test → (ms : List Settled) (place k : ℕ) (c : Cell) → k < settled_from ms place c → test place k ≡ true → list_any (λ (m : Settled). test m.place m.position) ms ≡ true
any_settled test rises [] place k c lt e = absurd (let no : k < 0 = lt in omega (arith, no))
any_settled test rises (m ∷ ms) place k c lt e =
    by_test ((m.place == place) && covers (as_entry m) c) refl lt
    (λ less. or_right (test m.place m.position) (list_any (λ (x : Settled). test x.place x.position) ms) (any_settled test rises ms place k c less e))
  where
    two : (a b : ℕ) → k < max (a + 1) b → (k ≤ a) ⊎ (k < b)
    two a b less = by_order (nat_le k a) refl
      where
        by_order : (t : Bool) → nat_le k a ≡ t → (k ≤ a) ⊎ (k < b)
        by_order true h = inl (grind (arith, h))
        by_order false h = inr (grind (arith, h, less))

    by_test : (b : Bool) → ((m.place == place) && covers (as_entry m) c) ≡ b → k < max (if b then m.position + 1 else 0) (settled_from ms place c)
        → (k < settled_from ms place c → (test m.place m.position || list_any (λ (x : Settled). test x.place x.position) ms) ≡ true)
        → (test m.place m.position || list_any (λ (x : Settled). test x.place x.position) ms) ≡ true
    by_test true is less rest =
        ⊎_elim
        (λ le. rw (rises m.place k m.position le (ap (λ p. test p k) (eqb-true m.place place (and_parts (m.place == place) (covers (as_entry m) c) is).0) ∙ e)) refl)
        rest
        (two m.position (settled_from ms place c) less)
    by_test false is less rest = rest (omega (arith, less))

-- the first cell of a mark
abbrev first_cell : Settled → Cell
first_cell m = record { table = m.table; key = m.key; time = m.from }

first_covered : (m : Settled) → IsRealMark m → covers (as_entry m) (first_cell m) ≡ true
first_covered m real = rw (eq-eqb m.table m.table refl, key_itself m.key) (grind (arith, real.some))

-- where marks settle no more place by place, what passes for one of them passes for one of the others
any_among : (test : ℕ → ℕ → Bool) → Rises test → (ms ns : List Settled) → All IsRealMark ms → ((place : ℕ) (c : Cell) → settled_from ms place c ≤ settled_from ns place c)
    → list_any (λ (m : Settled). test m.place m.position) ms ≡ true → list_any (λ (m : Settled). test m.place m.position) ns ≡ true
any_among test rises [] ns real under e = absurd (cc)
any_among test rises (a ∷ ms) ns real under e =
    by_test (test a.place a.position) refl e
    (any_among test rises ms ns (All-tail IsRealMark a ms real) (λ place c. let more = settled_rest a ms place c in let all = under place c in omega (arith, more, all)))
  where
    by_test : (b : Bool) → test a.place a.position ≡ b → (b || list_any (λ (m : Settled). test m.place m.position) ms) ≡ true
        → (list_any (λ (m : Settled). test m.place m.position) ms ≡ true → list_any (λ (m : Settled). test m.place m.position) ns ≡ true) → list_any (λ (m : Settled). test m.place m.position) ns ≡ true
    by_test true is h rest =
        let own = settled_own a ms (first_cell a) (first_covered a (All-head IsRealMark a ms real)) in
        let less = under a.place (first_cell a) in
        any_settled test rises ns a.place a.position (first_cell a) (omega (arith, own, less)) is
    by_test false is h rest = rest h

both_ways : (a b : Bool) → (a ≡ true → b ≡ true) → (b ≡ true → a ≡ true) → a ≡ b
both_ways true b to back = sym (to refl)
both_ways false true to back = back refl
both_ways false false to back = refl

any_same : (test : ℕ → ℕ → Bool) → Rises test → (ms ns : List Settled) → All IsRealMark ms → All IsRealMark ns → ((place : ℕ) (c : Cell) → settled_from ms place c ≡ settled_from ns place c)
    → list_any (λ (m : Settled). test m.place m.position) ms ≡ list_any (λ (m : Settled). test m.place m.position) ns
any_same test rises ms ns one two same =
    both_ways (list_any (λ (m : Settled). test m.place m.position) ms) (list_any (λ (m : Settled). test m.place m.position) ns)
    (any_among test rises ms ns one (λ place c. let e = same place c in omega (arith, e)))
    (any_among test rises ns ms two (λ place c. let e = same place c in omega (arith, e)))

-- ---- records of marks as what they settle

abbrev settled_as : Trace → Settled
settled_as x = record { table = x.cells.table; key = x.cells.key; from = x.cells.from; till = x.cells.till; position = x.position; place = x.place }

-- those of a workspace
abbrev settled_of : ℕ → List Trace → List Settled
settled_of n [] = []
settled_of n (x ∷ xs) = cond (x.space == n) (settled_as x ∷ settled_of n xs) (settled_of n xs)

marked_settled : (n place : ℕ) (c : Cell) (xs : List Trace) → marked_at xs n place c ≡ settled_from (settled_of n xs) place c
marked_settled n place c [] = refl
marked_settled n place c (x ∷ xs) = by_test (x.space == n) (marked_settled n place c xs)
  where
    by_test : (b : Bool) → marked_at xs n place c ≡ settled_from (settled_of n xs) place c
        → max (if (b && (x.place == place)) && in_cells x.cells c then x.position + 1 else 0) (marked_at xs n place c)
        ≡ settled_from (cond b (settled_as x ∷ settled_of n xs) (settled_of n xs)) place c
    by_test true rest = ap (λ k. max (if (x.place == place) && in_cells x.cells c then x.position + 1 else 0) k) rest
    by_test false rest = omega (arith, rest)

-- a mark of the workspace has a place below
abbrev is_below : ℕ → ℕ → Trace → Bool
is_below n below x = if x.space == n then nat_lt x.place below else true

reached_settled : (n below : ℕ) (c : Cell) (xs : List Trace) → list_all (is_below n below) xs ≡ true → reached xs n below c ≡ settled_at (settled_of n xs) c
reached_settled n below c [] given = refl
reached_settled n below c (x ∷ xs) given =
    let two = and_parts (is_below n below x) (list_all (is_below n below) xs) given in by_test (x.space == n) two.0 (reached_settled n below c xs two.1)
  where
    by_test : (b : Bool) → (if b then nat_lt x.place below else true) ≡ true → reached xs n below c ≡ settled_at (settled_of n xs) c
        → max (if (b && nat_lt x.place below) && in_cells x.cells c then x.position + 1 else 0) (reached xs n below c)
        ≡ settled_at (cond b (settled_as x ∷ settled_of n xs) (settled_of n xs)) c
    by_test true is rest = rw (is, rest) refl
    by_test false is rest = omega (arith, rest)

tested_settled : (test : ℕ → ℕ → Bool) (n : ℕ) (xs : List Trace)
    → list_any (λ (x : Trace). (x.space == n) && test x.place x.position) xs ≡ list_any (λ (m : Settled). test m.place m.position) (settled_of n xs)
tested_settled test n [] = refl
tested_settled test n (x ∷ xs) = by_test (x.space == n) (tested_settled test n xs)
  where
    by_test : (b : Bool) → list_any (λ (y : Trace). (y.space == n) && test y.place y.position) xs ≡ list_any (λ (m : Settled). test m.place m.position) (settled_of n xs)
        → ((b && test x.place x.position) || list_any (λ (y : Trace). (y.space == n) && test y.place y.position) xs)
        ≡ list_any (λ (m : Settled). test m.place m.position) (cond b (settled_as x ∷ settled_of n xs) (settled_of n xs))
    by_test true rest = ap (λ t. test x.place x.position || t) rest
    by_test false rest = rest

abbrev is_over : Trace → Bool
is_over x = nat_lt x.cells.from x.cells.till && nat_le x.cells.till END

settled_real : (n : ℕ) (xs : List Trace) → list_all is_over xs ≡ true → All IsRealMark (settled_of n xs)
settled_real n [] over = All-nil IsRealMark
settled_real n (x ∷ xs) over = let two = and_parts (is_over x) (list_all is_over xs) over in by_test (x.space == n) two.0 (settled_real n xs two.1)
  where
    by_test : (b : Bool) → is_over x ≡ true → All IsRealMark (settled_of n xs) → All IsRealMark (cond b (settled_as x ∷ settled_of n xs) (settled_of n xs))
    by_test true is rest =
        let two = and_parts (nat_lt x.cells.from x.cells.till) (nat_le x.cells.till END) is in
        All-cons IsRealMark (settled_as x) (settled_of n xs) (record { some = ltb-true x.cells.from x.cells.till two.0; till = leb-true x.cells.till END two.1 }) rest
    by_test false is rest = rest

-- ---- records that stand for a state

module _ (p : Parts) (d : Durable) (n : ℕ) (w : Workspace) (stand : MarksStand p d) (rules : keep_rules p ≡ true) (is : workspace_of d.spaces n ≡ Some w) where
  each_mark : list_all (is_trace (table_of p.tables) (space_of p.spaces)) p.marks ≡ true
  each_mark = (and_parts (differ meet p.marks) (list_all (is_trace (table_of p.tables) (space_of p.spaces)) p.marks) (ruled p rules).marks).1

  settled_by_records : (place : ℕ) (c : Cell) → settled_from (settled_of n p.marks) place c ≡ settled_from w.settled place c
  settled_by_records place c = sym (marked_settled n place c p.marks) ∙ stand.same n w place c is

  marks_over : list_all is_over p.marks ≡ true
  marks_over = all_if (is_trace (table_of p.tables) (space_of p.spaces)) is_over
      (λ x e. (and_parts (is_over x) (option_map_or (is_key_of x.cells.key) (table_of p.tables x.cells.table) false)
      (and_parts (are_cells (table_of p.tables) x.cells) (is_given (space_of p.spaces) x.space x.place) e).0).0) p.marks each_mark

  any_marked : (test : ℕ → ℕ → Bool) → Rises test
      → list_any (λ (x : Trace). (x.space == n) && test x.place x.position) p.marks ≡ list_any (λ (m : Settled). test m.place m.position) w.settled
  any_marked test rises =
      tested_settled test n p.marks ∙ any_same test rises (settled_of n p.marks) w.settled (settled_real n p.marks marks_over) (stand.real n w is) settled_by_records

  -- some mark is behind a position by the records where one is
  pub marked_beyond : (limit : ℕ) → list_any (λ (x : Trace). (x.space == n) && nat_lt limit x.position) p.marks ≡ list_any (λ (m : Settled). nat_lt limit m.position) w.settled
  marked_beyond limit = any_marked (λ place position. nat_lt limit position) (λ place k j le e. grind (arith, le, e))

  -- and some mark was made at a place or after it
  pub marked_since : (place : ℕ) → list_any (λ (x : Trace). (x.space == n) && nat_le place x.place) p.marks ≡ list_any (λ (m : Settled). nat_le place m.place) w.settled
  marked_since place = any_marked (λ at position. nat_le place at) (λ at k j le e. e)

  -- by the records a cell is settled up to the position up to which it is
  pub marks_reached : (r : Space) → space_of p.spaces n ≡ Some r → r.next_place ≡ w.next_place → (c : Cell) → reached p.marks n w.next_place c ≡ settled_at w.settled c
  marks_reached r recorded places c =
      reached_settled n w.next_place c p.marks (all_if (is_trace (table_of p.tables) (space_of p.spaces)) (is_below n w.next_place) below p.marks each_mark)
      ∙ settled_same (settled_of n p.marks) w.settled c (λ place. settled_by_records place c)
    where
      below : (x : Trace) → is_trace (table_of p.tables) (space_of p.spaces) x ≡ true → is_below n w.next_place x ≡ true
      below x e = by_test (x.space == n) refl
        where
          by_test : (b : Bool) → (x.space == n) ≡ b → (if b then nat_lt x.place w.next_place else true) ≡ true
          by_test true same =
              ap (λ k. nat_lt x.place k) (sym places)
              ∙ ap (λ (o : Option Space). option_map_or (λ (s : Space). nat_lt x.place s.next_place) o false) (sym (ap (λ m. space_of p.spaces m) (eqb-true x.space n same) ∙ recorded))
              ∙ (and_parts (are_cells (table_of p.tables) x.cells) (is_given (space_of p.spaces) x.space x.place) e).1
          by_test false same = refl
