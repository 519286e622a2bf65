-- What entries hold changes only at an end of one of them; so pieces that end where what they hold changes end where the entries do that
-- hold the same.
use Rattle.std.proofs.Common.{◌≡◌, ℕ, zero, suc, ◌==◌, nat_le, nat_lt, Bool, true, false, ◌&&◌, ◌||◌, List, [], ◌∷◌, Option, None, refl, sym, ap, ◌∙◌, arith}
use Rattle.std.proofs.lemmas.List.Elements.{All-head, All-tail}
use Rattle.std.proofs.lemmas.Bool.{and_from, or_parts}
use Rattle.std.specs.List.{All, list_all}
use Rattle.std.specs.Option.{option_map}
use Rattle.std.specs.Ordering.{is_eq}
use Rattle.wm_base.specs.Key.{key_order}
use Rattle.wm_period.specs.Pieces.{Held}
use Rattle.wm_spec.specs.Lists.{Cell, Entry, told}
use Rattle.wm_spec.specs.declared.record.cell_range.CellRange.{CellRange}
use Rattle.wm_spec.specs.declared.record.piece.PieceRecord.{PieceRecord}
use Rattle.wm_state.specs.Standing.{has_ends, held_of, is_end, stored_at}
use Rattle.wm_rebased.specs.Rebasing.{Changes, Ends, cell_at}

-- an entry that does not begin or end at a moment covers it as it covers the one before
same_time : (from till t : ℕ) → ((from == suc t) || (till == suc t)) ≡ false → (nat_le from t && nat_lt t till) ≡ (nat_le from (suc t) && nat_lt (suc t) till)
same_time from till t e = grind (arith, e)

-- and none that does not begin at the first one covers it
not_first : (from till : ℕ) → ((from == 0) || (till == 0)) ≡ false → (nat_le from 0 && nat_lt 0 till) ≡ false
not_first from till e = grind (arith, e)

same_covers : (b : Bool) (from till t : ℕ) → (b && ((from == suc t) || (till == suc t))) ≡ false → (b && (nat_le from t && nat_lt t till)) ≡ (b && (nat_le from (suc t) && nat_lt (suc t) till))
same_covers true from till t e = same_time from till t e
same_covers false from till t e = refl

first_covers : (b : Bool) (from till : ℕ) → (b && ((from == 0) || (till == 0))) ≡ false → (b && (nat_le from 0 && nat_lt 0 till)) ≡ false
first_covers true from till e = not_first from till e
first_covers false from till e = refl

same_told : (es : List Entry) (cells : CellRange) (t : ℕ) → is_end es cells (suc t) ≡ false → told es (cell_at cells t) ≡ told es (cell_at cells (suc t))
same_told [] cells t e = refl
same_told (x ∷ es) cells t e =
    let h = or_parts (((x.table == cells.table) && is_eq (key_order x.key cells.key)) && ((x.from == suc t) || (x.till == suc t))) (is_end es cells (suc t)) e in
    rw (same_told es cells t h.1, same_covers ((x.table == cells.table) && is_eq (key_order x.key cells.key)) x.from x.till t h.0) refl

none_first : (es : List Entry) (cells : CellRange) → is_end es cells 0 ≡ false → told es (cell_at cells 0) ≡ None
none_first [] cells e = refl
none_first (x ∷ es) cells e =
    let h = or_parts (((x.table == cells.table) && is_eq (key_order x.key cells.key)) && ((x.from == 0) || (x.till == 0))) (is_end es cells 0) e in
    rw (none_first es cells h.1, first_covers ((x.table == cells.table) && is_eq (key_order x.key cells.key)) x.from x.till h.0) refl

-- where what they hold changes, one of them begins or ends
pub change_is_end : (es : List Entry) (cells : CellRange) (t : ℕ) → Changes (λ time. option_map held_of (told es (cell_at cells time))) t → is_end es cells t ≡ true
change_is_end es cells zero changes = by_end (is_end es cells 0) refl
  where
    by_end : (b : Bool) → is_end es cells 0 ≡ b → b ≡ true
    by_end true e = refl
    by_end false e = absurd (changes (ap (option_map held_of) (none_first es cells e)))
change_is_end es cells (suc t) changes = by_end (is_end es cells (suc t)) refl
  where
    by_end : (b : Bool) → is_end es cells (suc t) ≡ b → b ≡ true
    by_end true e = refl
    by_end false e = absurd (changes (ap (option_map held_of) (same_told es cells t e)))

-- what holds the same changes where it does
pub Changes-same : (f g : ℕ → Option Held) → ((t : ℕ) → f t ≡ g t) → (t : ℕ) → Changes f t → Changes g t
Changes-same f g same zero changes = λ e. changes (same 0 ∙ e)
Changes-same f g same (suc t) changes = λ e. changes (same t ∙ e ∙ sym (same (suc t)))

-- pieces that end where what a version itself has changes end where the entries do that it holds
pub ends_own : (number : ℕ) (all : List PieceRecord) (es : List Entry) → ((c : Cell) → stored_at all number c ≡ option_map held_of (told es c)) → (news : List PieceRecord) → All (Ends number all) news
    → list_all (λ (y : PieceRecord). has_ends es y.cells) news ≡ true
ends_own number all es holds [] ends = refl
ends_own number all es holds (x ∷ xs) ends =
    let h = All-head (Ends number all) x xs ends in
    and_from (has_ends es x.cells) (list_all (λ (y : PieceRecord). has_ends es y.cells) xs)
    (and_from (is_end es x.cells x.cells.from) (is_end es x.cells x.cells.till) (at x.cells.from h.from) (at x.cells.till h.till))
    (ends_own number all es holds xs (All-tail (Ends number all) x xs ends))
  where
    at : (t : ℕ) → Changes (λ time. stored_at all number (cell_at x.cells time)) t → is_end es x.cells t ≡ true
    at t changes = change_is_end es x.cells t
        (Changes-same (λ time. stored_at all number (cell_at x.cells time)) (λ time. option_map held_of (told es (cell_at x.cells time))) (λ time. holds (cell_at x.cells time)) t changes)
