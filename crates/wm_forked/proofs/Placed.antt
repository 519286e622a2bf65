-- Touches of a workspace and the places that were given in it: all were made below its next place, so that they tell the same below any
-- greater one; and a workspace that has none has an empty log to tell.
use Rattle.std.proofs.Common.{◌≡◌, ℕ, ◌+◌, ◌≤◌, ◌==◌, nat_lt, max, Bool, true, false, ◌&&◌, if◌then◌else◌, List, [], ◌∷◌, Some, refl, sym, ap, ◌∙◌, arith}
use Rattle.std.proofs.lemmas.Bool.{eqb-true, and_parts, or_parts}
use Rattle.std.specs.List.{list_all, list_any}
use Rattle.std.specs.Option.{option_map_or}
use Rattle.wm_graph.specs.Parts.{Parts, table_of, space_of}
use Rattle.wm_graph.specs.Rules.{are_cells, differ, is_given, is_touch, is_trace, keep_rules, meet}
use Rattle.wm_spec.specs.Lists.{Cell, Entry}
use Rattle.wm_spec.specs.declared.record.space.Space.{Space}
use Rattle.wm_spec.specs.declared.record.trace.Trace.{Trace}
use Rattle.wm_state.specs.Standing.{TouchesTell, has_ends, in_cells, reached, touches_end}
use Rattle.wm_state.proofs.Apart.{ruled}
use Rattle.wm_state.proofs.Tests.{all_if}

-- ---- a greater bound

-- the touch is of another workspace, or was made below the place
abbrev is_below : ℕ → ℕ → Trace → Bool
is_below n place x = if x.space == n then nat_lt x.place place else true

-- so is each, where the place is the next one
touches_below : (p : Parts) → keep_rules p ≡ true → (n : ℕ) (a : Space) → space_of p.spaces n ≡ Some a → list_all (is_below n a.next_place) p.touches ≡ true
touches_below p rules n a found =
    all_if (is_touch (table_of p.tables) (space_of p.spaces)) (is_below n a.next_place) (λ x is. below x (x.space == n) refl (given x is)) p.touches
    (and_parts (differ meet p.touches) (list_all (is_touch (table_of p.tables) (space_of p.spaces)) p.touches) (ruled p rules).touches).1
  where
    given : (x : Trace) → is_touch (table_of p.tables) (space_of p.spaces) x ≡ true → is_given (space_of p.spaces) x.space x.place ≡ true
    given x is = (and_parts (are_cells (table_of p.tables) x.cells) (is_given (space_of p.spaces) x.space x.place) (and_parts (is_trace (table_of p.tables) (space_of p.spaces) x) _ is).0).1

    below : (x : Trace) (b : Bool) → (x.space == n) ≡ b → is_given (space_of p.spaces) x.space x.place ≡ true → (if b then nat_lt x.place a.next_place else true) ≡ true
    below x true e h = sym (ap (λ o. option_map_or (λ (s : Space). nat_lt x.place s.next_place) o false) (ap (space_of p.spaces) (eqb-true x.space n e) ∙ found)) ∙ h
    below x false e h = refl

-- the bound lets through what it let through
module _ (n low high : ℕ) (le : low ≤ high) where
  bound_same : (x : Trace) → is_below n low x ≡ true → ((x.space == n) && nat_lt x.place high) ≡ ((x.space == n) && nat_lt x.place low)
  bound_same x is = by_space (x.space == n) is
    where
      wider : (i : ℕ) → nat_lt i low ≡ true → nat_lt i high ≡ true
      wider i lt = grind (arith, le, lt)

      by_space : (b : Bool) → (if b then nat_lt x.place low else true) ≡ true → (b && nat_lt x.place high) ≡ (b && nat_lt x.place low)
      by_space true lt = wider x.place lt ∙ sym lt
      by_space false lt = refl

  reached_same : (xs : List Trace) (c : Cell) → list_all (is_below n low) xs ≡ true → reached xs n high c ≡ reached xs n low c
  reached_same [] c all = refl
  reached_same (x ∷ xs) c all = let h = and_parts (is_below n low x) (list_all (is_below n low) xs) all in
      ap (λ b. max (if b && in_cells x.cells c then x.position + 1 else 0) (reached xs n high c)) (bound_same x h.0)
      ∙ ap (λ k. max (if ((x.space == n) && nat_lt x.place low) && in_cells x.cells c then x.position + 1 else 0) k) (reached_same xs c h.1)

  ends_same : (xs : List Trace) (es : List Entry) → list_all (is_below n low) xs ≡ true → touches_end xs n high es ≡ touches_end xs n low es
  ends_same [] es all = refl
  ends_same (x ∷ xs) es all = let h = and_parts (is_below n low x) (list_all (is_below n low) xs) all in
      ap (λ b. (if b then has_ends es x.cells else true) && touches_end xs n high es) (bound_same x h.0)
      ∙ ap (λ k. (if (x.space == n) && nat_lt x.place low then has_ends es x.cells else true) && k) (ends_same xs es h.1)

-- touches that tell a log below the next place tell it below each greater one
pub tell_wider : (p : Parts) → keep_rules p ≡ true → (n : ℕ) (a : Space) → space_of p.spaces n ≡ Some a → (place : ℕ) → a.next_place ≤ place → (log : List Entry) → TouchesTell p.touches n a.next_place log → TouchesTell p.touches n place log
tell_wider p rules n a found place le log tell = record {
  reaches = λ c. reached_same n a.next_place place le p.touches c (touches_below p rules n a found) ∙ tell.reaches c;
  ends = ends_same n a.next_place place le p.touches log (touches_below p rules n a found) ∙ tell.ends;
}

-- whatever equations tell it
pub Tell-as : (xs : List Trace) (m below : ℕ) (es : List Entry) (n under : ℕ) (fs : List Entry) → m ≡ n → below ≡ under → es ≡ fs → TouchesTell xs n under fs → TouchesTell xs m below es
Tell-as xs m below es n under fs a b e x = rw (a, b, e) x

-- ---- none

-- where no touch is of a workspace, they tell an empty log
pub tell_none : (xs : List Trace) (n below : ℕ) → list_any (λ (x : Trace). x.space == n) xs ≡ false → TouchesTell xs n below []
tell_none xs n below none = record { reaches = λ c. reached_none xs c none; ends = ends_none xs none }
  where
    reached_none : (ys : List Trace) (c : Cell) → list_any (λ (x : Trace). x.space == n) ys ≡ false → reached ys n below c ≡ 0
    reached_none [] c e = refl
    reached_none (y ∷ ys) c e = let h = or_parts (y.space == n) (list_any (λ (x : Trace). x.space == n) ys) e in rw (h.0, reached_none ys c h.1) refl

    ends_none : (ys : List Trace) → list_any (λ (x : Trace). x.space == n) ys ≡ false → touches_end ys n below [] ≡ true
    ends_none [] e = refl
    ends_none (y ∷ ys) e = let h = or_parts (y.space == n) (list_any (λ (x : Trace). x.space == n) ys) e in rw (h.0, ends_none ys h.1) refl
