-- Pieces that stand for old ones with those of entries over them, in the place of the old ones.
use Rattle.std.proofs.Common.{◌≡◌, ℕ, ◌==◌, Bool, true, false, cond, List, ◌++◌, Option, None, refl, sym, ap, ◌∙◌, ◌⊎◌, inl, inr}
use Rattle.std.specs.List.{filter}
use Rattle.std.specs.Option.{option_or, option_map}
use Rattle.wm_graph.specs.Rules.{collide, differ}
use Rattle.wm_period.specs.Pieces.{Held}
use Rattle.wm_spec.specs.Lists.{Entry, told}
use Rattle.wm_spec.specs.declared.record.piece.PieceRecord.{PieceRecord}
use Rattle.wm_state.specs.Drawing.{AreDrawn, is_clear, stored_last, touched}
use Rattle.wm_state.specs.Entries.{pieces_of}
use Rattle.wm_state.specs.Standing.{held_of, stored_at}
use Rattle.wm_state.specs.Writes.{AreAllLaid}
use Rattle.wm_written.proofs.Entered.{stored-entries}
use Rattle.wm_state.proofs.Laying.{stored-append}
use Rattle.wm_written.proofs.Touched.{all-held, clear-held}

-- the pieces that stand for those that are touched, with those of entries over them, beside those that are clear of these
pub laid-drawn : (version : ℕ) (es : List Entry) (old drawn : List PieceRecord) → differ collide old ≡ true → AreDrawn (pieces_of version es) (touched (pieces_of version es) old) drawn
    → AreAllLaid version es old (filter (is_clear (pieces_of version es)) old ++ drawn)
laid-drawn version es old drawn apart are v c =
    stored-append (filter (is_clear news) old) drawn v c
    ∙ ap (option_or (stored_at (filter (is_clear news) old) v c)) (are.held v c)
    ∙ by_place (stored_last news v c) (stored_at (filter (is_clear news) old) v c) (stored_at (touched news old) v c) (stored_at old v c) (clear-held news old v c) (all-held (is_clear news) old apart v c)
    ∙ ap (λ o. option_or o (stored_at old v c)) (stored-entries version v es c)
    ∙ by_version (v == version)
  where
    news : List PieceRecord
    news = pieces_of version es

    nothing : Option Held
    nothing = None

    -- at a cell the new ones say nothing, or those that are clear of them
    by_place : (new kept under all : Option Held) → (new ≡ nothing) ⊎ (kept ≡ nothing) → option_or kept under ≡ all → option_or kept (option_or new under) ≡ option_or new all
    by_place new kept under all (inl none) both = rw none both
    by_place new kept under all (inr none) both = rw none (ap (option_or new) (sym (ap (λ o. option_or o under) none) ∙ both))

    by_version : (b : Bool) → option_or (cond b (option_map held_of (told es c)) nothing) (stored_at old v c) ≡ cond b (option_or (option_map held_of (told es c)) (stored_at old v c)) (stored_at old v c)
    by_version true = refl
    by_version false = refl
