-- The touches that stay where a workspace goes back to a savepoint tell its log as it was there, and at each savepoint that stays what
-- they told: such a touch was made below the savepoint's place, and what was touched there is a position of the log that is left.
use Rattle.std.proofs.Common.{◌≡◌, ◌≢◌, ℕ, ◌+◌, ◌<◌, ◌≤◌, ◌==◌, nat_lt, nat_le, max, Bool, true, false, not, ◌&&◌, ◌||◌, cond, if◌then◌else◌, List, [], ◌∷◌, length, refl, sym, ap, subst, ◌∙◌, arith, le_refl}
use Rattle.std.proofs.lemmas.Bool.{eq-eqb, eqb-true, ne_eqb, and_from, and_parts, lt-ltb, true≢false}
use Rattle.std.specs.List.{filter, list_all}
use Rattle.std.specs.Ordering.{is_eq}
use Rattle.wm_base.proofs.Plain.{nat_le-itself}
use Rattle.wm_base.specs.Key.{key_order}
use Rattle.wm_base.specs.Orders.{key_order-itself}
use Rattle.wm_graph.specs.Parts.{Parts, space_of, table_of}
use Rattle.wm_graph.specs.Rules.{are_cells, differ, is_given, is_touch, is_trace, keep_rules, meet}
use Rattle.wm_spec.proofs.Reaching.{reach_within}
use Rattle.wm_spec.specs.Lists.{Cell, Entry, reach}
use Rattle.wm_spec.specs.declared.record.trace.Trace.{Trace}
use Rattle.wm_state.specs.Standing.{TouchesTell, has_ends, in_cells, reached, touches_end}
use Rattle.wm_state.proofs.Apart.{ruled}
use Rattle.wm_state.proofs.Tests.{all_filter, all_if}
use Rattle.wm_undone.specs.Restoring.{stays_touched}

-- ---- cells of touches

-- cells have a moment
abbrev pub has_cells : Trace → Bool
has_cells x = nat_lt x.cells.from x.cells.till

-- so have those of each touch
pub touches_there : (p : Parts) → keep_rules p ≡ true → list_all has_cells p.touches ≡ true
touches_there p rules =
    all_if (is_touch (table_of p.tables) (space_of p.spaces)) has_cells (λ x is. there x is) p.touches
    (and_parts (differ meet p.touches) (list_all (is_touch (table_of p.tables) (space_of p.spaces)) p.touches) (ruled p rules).touches).1
  where
    there : (x : Trace) → is_touch (table_of p.tables) (space_of p.spaces) x ≡ true → has_cells x ≡ true
    there x is =
        let h = and_parts (is_trace (table_of p.tables) (space_of p.spaces) x) _ is in
        let g = and_parts (are_cells (table_of p.tables) x.cells) (is_given (space_of p.spaces) x.space x.place) h.0 in
        (and_parts (has_cells x) _ (and_parts (has_cells x && _) _ g.0).0).0

-- the first of them
abbrev first_cell : Trace → Cell
first_cell x = record { table = x.cells.table; key = x.cells.key; time = x.cells.from }

in_first : (x : Trace) → has_cells x ≡ true → in_cells x.cells (first_cell x) ≡ true
in_first x some =
    and_from ((x.cells.table == x.cells.table) && is_eq (key_order x.cells.key x.cells.key)) (nat_le x.cells.from x.cells.from && nat_lt x.cells.from x.cells.till)
    (and_from (x.cells.table == x.cells.table) (is_eq (key_order x.cells.key x.cells.key)) (eq-eqb x.cells.table x.cells.table refl) (ap is_eq (key_order-itself x.cells.key)))
    (and_from (nat_le x.cells.from x.cells.from) (nat_lt x.cells.from x.cells.till) (nat_le-itself x.cells.from) some)

-- ---- touches that stay

-- one that does not count
no_more : (b d : Bool) (i r : ℕ) → b ≡ false → r ≡ max (if b && d then i + 1 else 0) r
no_more b d i r e = subst (λ c. r ≡ max (if c && d then i + 1 else 0) r) (sym e) (none r)
  where
    none : (m : ℕ) → m ≡ max 0 m
    none m = omega arith

module _ (n place count : ℕ) where
  -- where a touch goes, it is of the workspace
  of_it : (x : Trace) → stays_touched n place count x ≡ false → x.space ≡ n
  of_it x out = eqb-true x.space n (gone (x.space == n) (nat_lt x.place place && nat_lt x.position count) out)
    where
      gone : (s r : Bool) → (not s || r) ≡ false → s ≡ true
      gone true r e = refl
      gone false r e = absurd (true≢false e)

  -- touches of another workspace tell what they told
  reached_beside : (m below : ℕ) → m ≢ n → (xs : List Trace) (c : Cell) → reached (filter (stays_touched n place count) xs) m below c ≡ reached xs m below c
  reached_beside m below other [] c = refl
  reached_beside m below other (x ∷ xs) c = by_test (stays_touched n place count x) refl (reached_beside m below other xs c)
    where
      away : stays_touched n place count x ≡ false → ((x.space == m) && nat_lt x.place below) ≡ false
      away out = ap (λ b. b && nat_lt x.place below) (ne_eqb x.space m (λ same. other (sym same ∙ of_it x out)))

      by_test : (b : Bool) → stays_touched n place count x ≡ b → reached (filter (stays_touched n place count) xs) m below c ≡ reached xs m below c
          → reached (cond b (x ∷ filter (stays_touched n place count) xs) (filter (stays_touched n place count) xs)) m below c ≡ reached (x ∷ xs) m below c
      by_test true e rest = ap (max (if ((x.space == m) && nat_lt x.place below) && in_cells x.cells c then x.position + 1 else 0)) rest
      by_test false e rest = rest ∙ no_more ((x.space == m) && nat_lt x.place below) (in_cells x.cells c) x.position (reached xs m below c) (away e)

  pub tells_beside : (m below : ℕ) (log : List Entry) (xs : List Trace) → m ≢ n → TouchesTell xs m below log → TouchesTell (filter (stays_touched n place count) xs) m below log
  tells_beside m below log xs other tell = record {
    reaches = λ c. reached_beside m below other xs c ∙ tell.reaches c;
    ends = all_filter (λ (x : Trace). if (x.space == m) && nat_lt x.place below then has_ends log x.cells else true) (stays_touched n place count) xs tell.ends;
  }

  -- a touch of the workspace that was made below a place is of a position that is left
  abbrev is_left : ℕ → Trace → Bool
  is_left low x = if (x.space == n) && nat_lt x.place low then nat_lt x.position count else true

  -- so is each that tells a log which is no longer
  all_left : (low : ℕ) (xs : List Trace) → list_all has_cells xs ≡ true → ((c : Cell) → reached xs n low c ≤ count) → list_all (is_left low) xs ≡ true
  all_left low [] cells within = refl
  all_left low (x ∷ xs) cells within =
      let h = and_parts (has_cells x) (list_all has_cells xs) cells in
      and_from (is_left low x) (list_all (is_left low) xs) (by_test ((x.space == n) && nat_lt x.place low) (in_cells x.cells (first_cell x)) (in_first x h.0) (within (first_cell x)))
      (all_left low xs h.1 (λ c. behind (if ((x.space == n) && nat_lt x.place low) && in_cells x.cells c then x.position + 1 else 0) (reached xs n low c) (within c)))
    where
      behind : (m r : ℕ) → max m r ≤ count → r ≤ count
      behind m r le = omega (arith, le)

      first : (i r : ℕ) → max (i + 1) r ≤ count → i < count
      first i r le = omega (arith, le)

      by_test : (b d : Bool) → d ≡ true → max (if b && d then x.position + 1 else 0) (reached xs n low (first_cell x)) ≤ count → (if b then nat_lt x.position count else true) ≡ true
      by_test true true is le = lt-ltb x.position count (first x.position (reached xs n low (first_cell x)) le)
      by_test true false is le = absurd (true≢false (sym is))
      by_test false d is le = refl

  -- and stays, where the place is no greater
  reached_left : (low : ℕ) → low ≤ place → (xs : List Trace) (c : Cell) → list_all (is_left low) xs ≡ true → reached (filter (stays_touched n place count) xs) n low c ≡ reached xs n low c
  reached_left low wide [] c all = refl
  reached_left low wide (x ∷ xs) c all = let h = and_parts (is_left low x) (list_all (is_left low) xs) all in by_test h.0 (stays_touched n place count x) refl (reached_left low wide xs c h.1)
    where
      wider : (i : ℕ) → nat_lt i low ≡ true → nat_lt i place ≡ true
      wider i lt = grind (arith, wide, lt)

      out : (s l b d : Bool) → (l ≡ true → b ≡ true) → (not s || (b && d)) ≡ false → (if s && l then d else true) ≡ true → (s && l) ≡ false
      out false l b d more e is = refl
      out true false b d more e is = refl
      out true true b d more e is = absurd (true≢false (sym (and_from b d (more refl) is) ∙ e))

      by_test : is_left low x ≡ true → (b : Bool) → stays_touched n place count x ≡ b → reached (filter (stays_touched n place count) xs) n low c ≡ reached xs n low c
          → reached (cond b (x ∷ filter (stays_touched n place count) xs) (filter (stays_touched n place count) xs)) n low c ≡ reached (x ∷ xs) n low c
      by_test is true e rest = ap (max (if ((x.space == n) && nat_lt x.place low) && in_cells x.cells c then x.position + 1 else 0)) rest
      by_test is false e rest =
          rest
          ∙ no_more ((x.space == n) && nat_lt x.place low) (in_cells x.cells c) x.position (reached xs n low c)
          (out (x.space == n) (nat_lt x.place low) (nat_lt x.place place) (nat_lt x.position count) (wider x.place) e is)

  -- those that stay tell below a place what they told there
  pub tells_left : (low : ℕ) (log : List Entry) (xs : List Trace) → list_all has_cells xs ≡ true → low ≤ place → length log ≤ count → TouchesTell xs n low log → TouchesTell (filter (stays_touched n place count) xs) n low log
  tells_left low log xs cells wide short tell = record {
    reaches = λ c. reached_left low wide xs c (all_left low xs cells within) ∙ tell.reaches c;
    ends = all_filter (λ (x : Trace). if (x.space == n) && nat_lt x.place low then has_ends log x.cells else true) (stays_touched n place count) xs tell.ends;
  }
    where
      le_both : (a b d e : ℕ) → a ≡ b → b ≤ d → d ≤ e → a ≤ e
      le_both a b d e same one two = omega (arith, same, one, two)

      within : (c : Cell) → reached xs n low c ≤ count
      within c = le_both (reached xs n low c) (reach log c) (length log) count (tell.reaches c) (reach_within log c) short

  -- and all of them were made below the place that is gone back to
  bound : (below : ℕ) → place ≤ below → (x : Trace) → stays_touched n place count x ≡ true → ((x.space == n) && nat_lt x.place below) ≡ ((x.space == n) && nat_lt x.place place)
  bound below wide x e = by_space (x.space == n) (nat_lt x.place below) (nat_lt x.place place) (nat_lt x.position count) (wider x.place) e
    where
      wider : (i : ℕ) → nat_lt i place ≡ true → nat_lt i below ≡ true
      wider i lt = grind (arith, wide, lt)

      by_space : (s a b d : Bool) → (b ≡ true → a ≡ true) → (not s || (b && d)) ≡ true → (s && a) ≡ (s && b)
      by_space false a b d more is = refl
      by_space true a b d more is = let h = and_parts b d is in more h.0 ∙ sym h.0

  reached_over : (below : ℕ) → place ≤ below → (xs : List Trace) (c : Cell) → reached (filter (stays_touched n place count) xs) n below c ≡ reached (filter (stays_touched n place count) xs) n place c
  reached_over below wide [] c = refl
  reached_over below wide (x ∷ xs) c = by_test (stays_touched n place count x) refl (reached_over below wide xs c)
    where
      by_test : (b : Bool) → stays_touched n place count x ≡ b → reached (filter (stays_touched n place count) xs) n below c ≡ reached (filter (stays_touched n place count) xs) n place c
          → reached (cond b (x ∷ filter (stays_touched n place count) xs) (filter (stays_touched n place count) xs)) n below c
          ≡ reached (cond b (x ∷ filter (stays_touched n place count) xs) (filter (stays_touched n place count) xs)) n place c
      by_test true e rest =
          ap (λ b. max (if b && in_cells x.cells c then x.position + 1 else 0) (reached (filter (stays_touched n place count) xs) n below c)) (bound below wide x e)
          ∙ ap (max (if ((x.space == n) && nat_lt x.place place) && in_cells x.cells c then x.position + 1 else 0)) rest
      by_test false e rest = rest

  ends_over : (below : ℕ) → place ≤ below → (xs : List Trace) (es : List Entry) → touches_end (filter (stays_touched n place count) xs) n below es ≡ touches_end (filter (stays_touched n place count) xs) n place es
  ends_over below wide [] es = refl
  ends_over below wide (x ∷ xs) es = by_test (stays_touched n place count x) refl (ends_over below wide xs es)
    where
      by_test : (b : Bool) → stays_touched n place count x ≡ b → touches_end (filter (stays_touched n place count) xs) n below es ≡ touches_end (filter (stays_touched n place count) xs) n place es
          → touches_end (cond b (x ∷ filter (stays_touched n place count) xs) (filter (stays_touched n place count) xs)) n below es
          ≡ touches_end (cond b (x ∷ filter (stays_touched n place count) xs) (filter (stays_touched n place count) xs)) n place es
      by_test true e rest =
          ap (λ b. (if b then has_ends es x.cells else true) && touches_end (filter (stays_touched n place count) xs) n below es) (bound below wide x e)
          ∙ ap (λ b. (if (x.space == n) && nat_lt x.place place then has_ends es x.cells else true) && b) rest
      by_test false e rest = rest

  -- so that they tell below each greater place what they told there
  pub tells_back : (below : ℕ) (log : List Entry) (xs : List Trace) → list_all has_cells xs ≡ true → place ≤ below → length log ≤ count → TouchesTell xs n place log → TouchesTell (filter (stays_touched n place count) xs) n below log
  tells_back below log xs cells wide short tell =
      let h = tells_left place log xs cells (le_refl place) short tell in
      record { reaches = λ c. reached_over below wide xs c ∙ h.reaches c; ends = ends_over below wide xs log ∙ h.ends }
