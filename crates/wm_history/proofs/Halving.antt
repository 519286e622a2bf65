-- Pieces laid over one another in halves, the last uppermost.
use Rattle.std.proofs.Common.{◌≡◌, ◌<◌, ◌≤◌, ◌+◌, ◌&&◌, ℕ, nat_le, nat_lt, length, get_or, take, drop, Bool, true, false, List, [], ◌∷◌, ◌++◌, reverse, Some, None, refl, sym, ap, ◌∙◌, arith}
use Rattle.std.proofs.lemmas.Bool.Decides.{nat_tests}
use Rattle.std.proofs.lemmas.List.{append-nil, nil_from_length, reverse-append, take-append-drop, take_more}
use Rattle.std.specs.Bool.{then_some}
use Rattle.std.specs.Option.{option_or}
use Rattle.wm_base.proofs.Plain.{option_or-none}
use Rattle.wm_base.specs.Period.{covers}
use Rattle.wm_history.specs.Laid.{last_held}
use Rattle.wm_period.proofs.Cells.{held_at-append}
use Rattle.wm_period.specs.Pieces.{EndBy, held, held_at}
use Rattle.wm_period.specs.declared.piece.Piece.{Piece}

-- ---- one piece more

-- pieces that have ended hold nothing
ended_nothing : (at t : ℕ) (ps : List Piece) → EndBy at ps → at ≤ t → held_at ps t ≡ None
ended_nothing at t [] ended late = refl
ended_nothing at t (p ∷ ps) ended late =
    ap (λ b. option_or (then_some b (held p)) (held_at ps t)) (past p.period.from p.period.till at t ended.0 late) ∙ ended_nothing at t ps ended.1 late
  where
    past : (from till at t : ℕ) → till ≤ at → at ≤ t → (nat_le from t && nat_lt t till) ≡ false
    past from till at t by late = grind (arith, nat_tests)

-- a piece behind those that have ended may as well lie over them
swapped : (ps : List Piece) (p : Piece) (t : ℕ) → EndBy p.period.from ps
    → option_or (held_at ps t) (then_some (covers p.period t) (held p)) ≡ option_or (then_some (covers p.period t) (held p)) (held_at ps t)
swapped ps p t ended = by_test (covers p.period t) refl
  where
    begun : (from till t : ℕ) → (nat_le from t && nat_lt t till) ≡ true → from ≤ t
    begun from till t e = grind (arith, nat_tests)

    by_test : (b : Bool) → covers p.period t ≡ b → option_or (held_at ps t) (then_some b (held p)) ≡ option_or (then_some b (held p)) (held_at ps t)
    by_test true within = ap (λ o. option_or o (Some (held p))) (ended_nothing p.period.from t ps ended (begun p.period.from p.period.till t within))
    by_test false beside = option_or-none (held_at ps t)

last-push : (ps : List Piece) (p : Piece) (t : ℕ) → last_held (ps ++ p ∷ []) t ≡ option_or (then_some (covers p.period t) (held p)) (last_held ps t)
last-push ps p t = ap (λ (l : List Piece). held_at l t) (reverse-append ps (p ∷ []))

-- a piece put behind those that have ended is the last of them
pub last_behind : (ps : List Piece) (i : ℕ) (p : Piece) (run new : List Piece) (t : ℕ) → i < length ps → p ≡ get_or ps i p → EndBy p.period.from run → new ≡ run ++ p ∷ [] → held_at run t ≡ last_held (take i ps) t
    → held_at new t ≡ last_held (take (i + 1) ps) t
last_behind ps i p run new t within is ended put before =
    ap (λ (l : List Piece). held_at l t) put
    ∙ held_at-append run (p ∷ []) t
    ∙ ap (option_or (held_at run t)) (option_or-none (then_some (covers p.period t) (held p)))
    ∙ swapped run p t ended
    ∙ ap (option_or (then_some (covers p.period t) (held p))) before
    ∙ sym (last-push (take i ps) p t)
    ∙ ap (λ (l : List Piece). last_held l t) (ap (λ q. take i ps ++ q ∷ []) is ∙ sym (take_more ps i p within))

-- ---- halves

last-append : (front back : List Piece) (t : ℕ) → last_held (front ++ back) t ≡ option_or (last_held back t) (last_held front t)
last-append front back t = ap (λ (l : List Piece). held_at l t) (reverse-append front back) ∙ held_at-append (reverse back) (reverse front) t

-- where nothing is left, the front has all
pub last_whole : (n : ℕ) (ps back run : List Piece) (t : ℕ) → back ≡ drop n ps → length back ≡ 0 → held_at run t ≡ last_held (take n ps) t → held_at run t ≡ last_held ps t
last_whole n ps back run t rest none laid =
    laid ∙ ap (λ (l : List Piece). last_held l t) (sym (append-nil (take n ps)) ∙ ap (λ l. take n ps ++ l) (sym (nil_from_length back none) ∙ rest) ∙ take-append-drop n ps)

-- what the back has, over what the front has
pub last_both : (n : ℕ) (ps front back lower upper both : List Piece) (t : ℕ) → front ≡ take n ps → back ≡ drop n ps → held_at lower t ≡ last_held front t → held_at upper t ≡ last_held back t
    → held_at both t ≡ option_or (held_at upper t) (held_at lower t) → held_at both t ≡ last_held ps t
last_both n ps front back lower upper both t first rest under over laid =
    laid
    ∙ ap (λ o. option_or o (held_at lower t)) (over ∙ ap (λ (l : List Piece). last_held l t) rest)
    ∙ ap (option_or (last_held (drop n ps) t)) (under ∙ ap (λ (l : List Piece). last_held l t) first)
    ∙ sym (last-append (take n ps) (drop n ps) t)
    ∙ ap (λ (l : List Piece). last_held l t) (take-append-drop n ps)
