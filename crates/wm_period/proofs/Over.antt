-- Pieces over others: what is held, in which order they lie, and the loop that goes along both.
use Rattle.std.proofs.Common.{◌≡◌, ◌<◌, ◌≤◌, ℕ, Bool, true, false, cond, ◌&&◌, ◌||◌, ◌+◌, ◌-◌, min, max, leb, ltb, List, [], ◌∷◌, ◌++◌, length, get_or, take, drop, Option, Some, None, refl, sym, ap, subst, ◌∙◌, arith, slice_range, zero, suc, ◌⊎◌, inl, inr}
use Rattle.std.proofs.lemmas.Bool.{true≢false, le-ltb, le-leb, cases_lt}
use Rattle.std.proofs.lemmas.Bool.Decides.{nat_tests}
use Rattle.std.proofs.lemmas.List.Elements.{filter_map-append}
use Rattle.std.proofs.lemmas.List.{append_assoc, append-nil, take-append-drop, drop_more, drop_all, take_more, drop-drop}
use Rattle.std.specs.Bool.{then_some}
use Rattle.std.specs.List.{cons_option}
use Rattle.std.specs.Option.{option_or}
use Rattle.wm_base.specs.Period.{covers}
use Rattle.wm_base.specs.declared.instant.TheConstants.{END}
use Rattle.wm_period.proofs.Cells.{held_at-append, held_at-parts}
use Rattle.wm_period.proofs.Order.{Between-ends, Between-append, Between-parts, held_at-past, held_at-early}
use Rattle.wm_period.specs.Pieces.{Held, held, held_at, Between, EndBy, part_in, parts_in, over_from}
use Rattle.wm_period.specs.declared.piece.Piece.{Piece}

-- ---- what is held

-- what the upper pieces begin with, what the lower ones have before it, and what is held after it
over_case : (before covered after : Bool) (piece : Held) (upper lower : Option Held)
    → (before ≡ true → covered ≡ false) → (before ≡ true → after ≡ false) → (after ≡ false → upper ≡ None)
    → option_or (cond before lower None) (option_or (then_some covered piece) (cond after (option_or upper lower) None))
    ≡ cond (before || (covered || after)) (option_or (option_or (then_some covered piece) upper) lower) None
over_case true true after piece upper lower apart away early = absurd (true≢false (apart refl))
over_case true false true piece upper lower apart away early = absurd (true≢false (away refl))
over_case true false false piece upper None apart away early = ap (λ u. option_or u None) (sym (early refl))
over_case true false false piece upper (Some x) apart away early = ap (λ u. option_or u (Some x)) (sym (early refl))
over_case false true after piece upper lower apart away early = refl
over_case false false true piece upper lower apart away early = refl
over_case false false false piece upper lower apart away early = refl

-- from the instant on the upper pieces are held, else the lower ones, and before it nothing
pub held_at-over : (a : ℕ) (lower upper : List Piece) (t : ℕ) → Between 0 lower END → Between a upper END
    → held_at (over_from a lower upper) t ≡ cond (leb a t) (option_or (held_at upper t) (held_at lower t)) None
held_at-over a lower [] t under order =
    held_at-parts a END lower t ∙ last_part (leb a t) (ltb t END) (held_at lower t) (λ past. held_at-past 0 lower END t under (grind (arith, nat_tests)))
  where
    last_part : (b c : Bool) (h : Option Held) → (c ≡ false → h ≡ None) → cond (b && c) h None ≡ cond b h None
    last_part true true h late = refl
    last_part true false h late = sym (late refl)
    last_part false true h late = refl
    last_part false false h late = refl
held_at-over a lower (u ∷ us) t under order =
    let from = order.0 in
    let long = order.1 in
    held_at-append (parts_in a u.period.from lower) (u ∷ over_from u.period.till lower us) t
    ∙ ap (λ v. option_or v (option_or (then_some (covers u.period t) (held u)) (held_at (over_from u.period.till lower us) t))) (held_at-parts a u.period.from lower t)
    ∙ ap (λ v. option_or (cond (leb a t && ltb t u.period.from) (held_at lower t) None) (option_or (then_some (covers u.period t) (held u)) v)) (held_at-over u.period.till lower us t under order.2)
    ∙ over_case (leb a t && ltb t u.period.from) (covers u.period t) (leb u.period.till t) (held u) (held_at us t) (held_at lower t)
    (λ early. grind (arith, nat_tests))
    (λ early. grind (arith, nat_tests))
    (λ early. held_at-early u.period.till us END t order.2 (grind (arith, nat_tests)))
    ∙ ap (λ v. cond v (option_or (option_or (then_some (covers u.period t) (held u)) (held_at us t)) (held_at lower t)) None) (zones a u.period.from u.period.till t from long)
  where
    zones : (x y z m : ℕ) → x ≤ y → y < z → ((leb x m && ltb m y) || ((leb y m && ltb m z) || leb z m)) ≡ leb x m
    zones x y z m first second = grind (arith, nat_tests)

-- over all of time
pub held_at-over_all : (lower upper : List Piece) (t : ℕ) → Between 0 lower END → Between 0 upper END
    → held_at (over_from 0 lower upper) t ≡ option_or (held_at upper t) (held_at lower t)
held_at-over_all lower upper t under order =
    held_at-over 0 lower upper t under order
    ∙ ap (λ v. cond v (option_or (held_at upper t) (held_at lower t)) None) (le-leb 0 t (omega arith))

pub Between-over : (a : ℕ) (lower upper : List Piece) → Between 0 lower END → a ≤ END → Between a upper END → Between a (over_from a lower upper) END
Between-over a lower [] under ends order = Between-parts 0 lower END a END a under ends (omega arith)
Between-over a lower (u ∷ us) under ends order =
    Between-append a (parts_in a u.period.from lower) u.period.from (u ∷ over_from u.period.till lower us) END
    (Between-parts 0 lower END a u.period.from a under order.0 (omega arith))
    (omega arith, order.1, Between-over u.period.till lower us under (Between-ends u.period.till us END order.2) order.2)

-- ---- the loop

-- pieces that have ended have no part later
parts_in-ended : (a b : ℕ) (ps : List Piece) → EndBy a ps → parts_in a b ps ≡ []
parts_in-ended a b [] ended = refl
parts_in-ended a b (p ∷ ps) ended =
    let early = ended.0 in
    let none : ltb (max p.period.from a) (min p.period.till b) ≡ false = le-ltb _ _ (omega arith) in
    ap (λ v. cons_option (then_some v (record p { period = record { from = max p.period.from a; till = min p.period.till b } })) (parts_in a b ps)) none
    ∙ parts_in-ended a b ps ended.1

-- pieces that begin later have no part before
parts_in-later : (a b c : ℕ) (ps : List Piece) (d : ℕ) → Between c ps d → b ≤ c → parts_in a b ps ≡ []
parts_in-later a b c [] d order late = refl
parts_in-later a b c (p ∷ ps) d order late =
    let from = order.0 in
    let long = order.1 in
    let none : ltb (max p.period.from a) (min p.period.till b) ≡ false = le-ltb _ _ (omega arith) in
    ap (λ v. cons_option (then_some v (record p { period = record { from = max p.period.from a; till = min p.period.till b } })) (parts_in a b ps)) none
    ∙ parts_in-later a b p.period.till ps d order.2 (omega arith)

pub EndBy-later : (a b : ℕ) (ps : List Piece) → a ≤ b → EndBy a ps → EndBy b ps
EndBy-later a b [] less ended = tt
EndBy-later a b (p ∷ ps) less ended = (omega (arith, ended.0), EndBy-later a b ps less ended.1)

EndBy-append : (a : ℕ) (ps qs : List Piece) → EndBy a ps → EndBy a qs → EndBy a (ps ++ qs)
EndBy-append a [] qs first second = second
EndBy-append a (p ∷ ps) qs first second = (first.0, EndBy-append a ps qs first.1 second)

-- one piece more has ended
pub EndBy-more : (a : ℕ) (ps : List Piece) (i : ℕ) (p : Piece) → i < length ps → p ≡ get_or ps i p → EndBy a (take i ps) → p.period.till ≤ a → EndBy a (take (i + 1) ps)
EndBy-more a ps i p within read ended early =
    rw (take_more ps i p within, ← read) (EndBy-append a (take i ps) (p ∷ []) ended (early, tt))

-- what lies behind a place lies after the piece there
Between-drop : (low : ℕ) (ps : List Piece) (high i : ℕ) (d : Piece) → Between low ps high → i < length ps → Between (get_or ps i d).period.till (drop (suc i) ps) high
Between-drop low [] high i d order within = absurd (omega arith)
Between-drop low (p ∷ ps) high zero d order within = order.2
Between-drop low (p ∷ ps) high (suc i) d order within = Between-drop p.period.till ps high i d order.2 (omega arith)

-- a piece at a place, which ends past an instant
pub record EndsPast (till : ℕ) (ps : List Piece) (i : ℕ) : Type 0 where
  pub piece : Piece
  pub read : piece ≡ get_or ps i piece
  pub past : till < piece.period.till

-- the parts behind the place of a piece that ends past the cut
parts_in-behind : (from till : ℕ) (lower : List Piece) (next r : ℕ) → Between 0 lower END → r ≡ min (next + 1) (length lower)
    → (next < length lower → EndsPast till lower next) → parts_in from till (drop r lower) ≡ []
parts_in-behind from till lower next r order is past = by_place (cases_lt next (length lower))
  where
    by_place : (next < length lower) ⊎ (length lower ≤ next) → parts_in from till (drop r lower) ≡ []
    by_place (inl within) =
        let at : r ≡ suc next = omega arith in
        let q = past within in
        let behind : Between q.piece.period.till (drop (suc next) lower) END =
        let P : Piece → Type 0 = λ p. Between p.period.till (drop (suc next) lower) END in
        subst P (sym q.read) (Between-drop 0 lower END next q.piece order within) in
        let later = q.past in
        rw at (parts_in-later from till q.piece.period.till (drop (suc next) lower) END behind (omega arith))
    by_place (inr behind) = ap (parts_in from till) (drop_all r lower (omega arith))

-- between two instants the lower pieces have what the stretch that the loop looks at has
pub parts_in-gap : (from till : ℕ) (lower : List Piece) (rest next r : ℕ) → Between 0 lower END → EndBy from (take rest lower) → rest ≤ next → next ≤ length lower
    → r ≡ min (next + 1) (length lower) → (next < length lower → EndsPast till lower next)
    → parts_in from till (slice_range lower rest r) ≡ parts_in from till lower
parts_in-gap from till lower rest next r order ended begins within is past =
    let front : parts_in from till (take rest lower) ≡ [] = parts_in-ended from till (take rest lower) ended in
    let back : parts_in from till (drop (r - rest) (drop rest lower)) ≡ [] =
    ap (λ l. parts_in from till l) (drop-drop (r - rest) rest lower ∙ ap (λ n. drop n lower) (omega arith))
    ∙ parts_in-behind from till lower next r order is past in
    let middle : parts_in from till (drop rest lower) ≡ parts_in from till (slice_range lower rest r) =
    ap (parts_in from till) (sym (take-append-drop (r - rest) (drop rest lower)))
    ∙ filter_map-append (part_in from till) (take (r - rest) (drop rest lower)) (drop (r - rest) (drop rest lower))
    ∙ ap (λ l. parts_in from till (take (r - rest) (drop rest lower)) ++ l) back
    ∙ append-nil (parts_in from till (take (r - rest) (drop rest lower))) in
    sym middle
    ∙ ap (λ l. l ++ parts_in from till (drop rest lower)) (sym front)
    ∙ sym (filter_map-append (part_in from till) (take rest lower) (drop rest lower))
    ∙ ap (parts_in from till) (take-append-drop rest lower)

-- where the loop along both lists stands: `list` is made, from the upper piece `i` on the rest is to come,
-- and the lower pieces before `rest` have ended
pub record Laying (lower upper list : List Piece) (i rest done : ℕ) : Type 0 where
  pub so_far : list ++ over_from done lower (drop i upper) ≡ over_from 0 lower upper
  pub order : Between done (drop i upper) END
  pub ended : EndBy done (take rest lower)

pub laying_none : (lower upper : List Piece) → Between 0 upper END → Laying lower upper [] 0 0 0
laying_none lower upper order = record { so_far = refl; order = order; ended = tt }

-- the next upper piece, with what the lower ones have before it
pub laying_more : (lower upper list gap : List Piece) (i rest next done : ℕ) (u : Piece) → Laying lower upper list i rest done → i < length upper → u ≡ get_or upper i u
    → gap ≡ list ++ parts_in done u.period.from lower → EndBy u.period.from (take next lower) → Laying lower upper (gap ++ u ∷ []) (i + 1) next u.period.till
laying_more lower upper list gap i rest next done u so within read is ended =
    let here : drop i upper ≡ u ∷ drop (i + 1) upper = drop_more upper i u within ∙ ap (λ v. v ∷ drop (i + 1) upper) (sym read) in
    let order : Between done (u ∷ drop (i + 1) upper) END = rw here at so.order in
    let long = order.1 in
    record {
      so_far =
          append_assoc gap (u ∷ []) (over_from u.period.till lower (drop (i + 1) upper))
          ∙ ap (λ l. l ++ (u ∷ over_from u.period.till lower (drop (i + 1) upper))) is
          ∙ append_assoc list (parts_in done u.period.from lower) (u ∷ over_from u.period.till lower (drop (i + 1) upper))
          ∙ ap (λ l. list ++ over_from done lower l) (sym here)
          ∙ so.so_far;
      order = order.2;
      ended = EndBy-later u.period.from u.period.till (take next lower) (omega arith) ended;
    }

-- after the last upper piece
pub laying_all : (lower upper list : List Piece) (i rest done : ℕ) → Laying lower upper list i rest done → length upper ≤ i
    → list ++ parts_in done END lower ≡ over_from 0 lower upper
laying_all lower upper list i rest done so all =
    ap (λ l. list ++ over_from done lower l) (sym (drop_all i upper all)) ∙ so.so_far
