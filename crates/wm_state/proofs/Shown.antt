-- What is shown of rows, beside a listing of all of them.
use Rattle.std.proofs.Common.{if◌then◌else◌, ◌≡◌, ℕ, Bool, true, false, List, [], ◌∷◌, Option, Some, None, refl, ap, ◌∙◌, sym}
use Rattle.std.proofs.lemmas.Bool.{and_parts}
use Rattle.std.proofs.lemmas.Option.{same_Some, none-some}
use Rattle.std.specs.List.{filter_map, list_all}
use Rattle.std.specs.Option.{option_map}
use Rattle.wm_base.specs.Period.{Span, overlaps}
use Rattle.wm_base.specs.declared.row.Row.{Row}
use Rattle.wm_base.specs.declared.value.Value.{Value}
use Rattle.wm_graph.specs.Parts.{Parts}
use Rattle.wm_spec.specs.Stretches.{Stretch}
use Rattle.wm_state.specs.Listing.{AreRowsOf, IsListing, IsShowing, joined, row_shown_with, seen_row, span_on, with_span}
use Rattle.wm_state.proofs.Listing.{one_rows}

-- ---- without valid time all rows are shown, as they are

pub showing_listed : (p : Parts) (version table : ℕ) (within : Span) (rows : List Row) → IsListing p version table rows → IsShowing p version table false within rows
showing_listed p version table within rows is = record { groups = is.groups; ascend = is.ascend; whole = is.whole; held = is.held; are = is.are }

pub listing_shown : (p : Parts) (version table : ℕ) (within : Span) (rows : List Row) → IsShowing p version table false within rows → IsListing p version table rows
listing_shown p version table within rows is = record { groups = is.groups; ascend = is.ascend; whole = is.whole; held = is.held; are = is.are }

-- ---- what can be listed can be shown

pub showing_beside : (p : Parts) (version table : ℕ) (valid : Bool) (within : Span) (rows : List Row) → (is : IsListing p version table rows)
    → IsShowing p version table valid within (filter_map (row_shown_with p valid within) (joined is.groups))
showing_beside p version table valid within rows is = record { groups = is.groups; ascend = is.ascend; whole = is.whole; held = is.held; are = refl }

-- the stretches of a key are determined
pub rows_once : (p : Parts) (version table : ℕ) (key : List Value) (xs ys : List Stretch) → AreRowsOf p version table key xs → AreRowsOf p version table key ys → xs ≡ ys
rows_once p version table key xs ys one two = one_rows xs ys 0 one.maximal two.maximal (λ t le. one.held t ∙ sym (two.held t))

-- ---- what holds of each row with a period, where something holds of the row, holds of all that are shown

-- a row that is shown with its period
pub record HasPeriod (within : Span) (s : Stretch) (o : Option Row) (shown : Row) : Type 0 where
  pub row : Row
  pub found : o ≡ Some row
  pub timed : shown ≡ with_span (span_on s) row
  pub overlapping : overlaps (span_on s) within ≡ true

pub has_period : (within : Span) (s : Stretch) (o : Option Row) (shown : Row) → seen_row true within s o ≡ Some shown → HasPeriod within s o shown
has_period within s o shown e = by_test (overlaps (span_on s) within) refl o refl e
  where
    by_test : (b : Bool) → overlaps (span_on s) within ≡ b → (r : Option Row) → o ≡ r → (let nothing : Option Row = None in if b then option_map (with_span (span_on s)) r else nothing) ≡ Some shown
        → HasPeriod within s o shown
    by_test false e r is h = absurd (none-some shown h)
    by_test true e None is h = absurd (none-some shown h)
    by_test true e (Some row) is h = record { row = row; found = is; timed = sym (same_Some (with_span (span_on s) row) shown h); overlapping = e }

pub shown_step : {X : Type 0} (P : Row → Bool) (f : X → Option Row) (a : X) (l : List X) → ((row : Row) → f a ≡ Some row → P row ≡ true) → list_all P (filter_map f l) ≡ true → list_all P (filter_map f (a ∷ l)) ≡ true
shown_step P f a l first rest = by_some (f a) refl
  where
    by_some : (o : Option Row) → f a ≡ o → list_all P (filter_map f (a ∷ l)) ≡ true
    by_some None e = rw e rest
    by_some (Some row) e = rw (e, first row e) rest

listed_step : {X : Type 0} (P : Row → Bool) (f : X → Option Row) (a : X) (l : List X) → list_all P (filter_map f (a ∷ l)) ≡ true → ((row : Row) → f a ≡ Some row → P row ≡ true) × (list_all P (filter_map f l) ≡ true)
listed_step P f a l all = by_some (f a) refl
  where
    absent : (row : Row) → f a ≡ None → f a ≡ Some row → P row ≡ true
    absent row none some = absurd (none-some row (sym none ∙ some))

    by_some : (o : Option Row) → f a ≡ o → ((row : Row) → f a ≡ Some row → P row ≡ true) × (list_all P (filter_map f l) ≡ true)
    by_some None e = ((λ row is. absent row e is), rw e at all)
    by_some (Some row) e =
        let h = and_parts (P row) (list_all P (filter_map f l)) (rw e at all) in
        ((λ other is. ap P (same_Some other row (sym is ∙ e)) ∙ h.0), h.1)

pub all_shown : (P Q : Row → Bool) → ((row : Row) (period : Span) → P row ≡ true → Q (with_span period row) ≡ true) → (f : List Value × Stretch → Option Row) (within : Span) (places : List (List Value × Stretch))
    → list_all P (filter_map f places) ≡ true → list_all Q (filter_map (λ (place : List Value × Stretch). seen_row true within place.1 (f place)) places) ≡ true
all_shown P Q timed f within [] all = refl
all_shown P Q timed f within (place ∷ places) all =
    let h = listed_step P f place places all in
    shown_step Q (λ (x : List Value × Stretch). seen_row true within x.1 (f x)) place places (λ row is. passes row (has_period within place.1 (f place) row is) h.0) (all_shown P Q timed f within places h.1)
  where
    passes : (shown : Row) → HasPeriod within place.1 (f place) shown → ((row : Row) → f place ≡ Some row → P row ≡ true) → Q shown ≡ true
    passes shown is first = ap Q is.timed ∙ timed is.row (span_on place.1) (first is.row is.found)
