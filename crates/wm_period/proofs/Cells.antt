-- What pieces hold at a moment, after a cut, a put and an erase.
use Rattle.std.proofs.Common.{◌≡◌, ◌<◌, ℕ, Bool, true, false, cond, ◌&&◌, min, max, leb, ltb, List, [], ◌∷◌, ◌++◌, ◌+◌, length, get_or, take, Option, Some, None, refl, sym, ap, ◌∙◌, arith}
use Rattle.std.proofs.lemmas.List.Elements.{filter_map-append}
use Rattle.std.proofs.lemmas.List.{take_more, append_assoc}
use Rattle.std.proofs.lemmas.Bool.Decides.{nat_tests}
use Rattle.std.specs.Bool.{then_some}
use Rattle.std.specs.List.{cons_option}
use Rattle.std.specs.Option.{option_or, option_to_list}
use Rattle.wm_base.proofs.Plain.{option_or_assoc}
use Rattle.wm_base.specs.Period.{covers}
use Rattle.wm_period.specs.Pieces.{Held, held, held_at, part_in, parts_in}
use Rattle.wm_period.specs.declared.piece.Piece.{Piece}

-- ---- appending

pub held_at-append : (ps qs : List Piece) (t : ℕ) → held_at (ps ++ qs) t ≡ option_or (held_at ps t) (held_at qs t)
held_at-append [] qs t = refl
held_at-append (p ∷ ps) qs t =
    ap (option_or (then_some (covers p.period t) (held p))) (held_at-append ps qs t)
    ∙ sym (option_or_assoc (then_some (covers p.period t) (held p)) (held_at ps t) (held_at qs t))

-- ---- cutting

cond_same : (v : Bool) (x : Option Held) → x ≡ cond v x x
cond_same true x = refl
cond_same false x = refl

-- a part that covers what the piece covers and the cut lets in
kept_case : (c i c' : Bool) (h : Held) (rest : Option Held) → c' ≡ (c && i) → option_or (then_some c' h) (cond i rest None) ≡ cond i (option_or (then_some c h) rest) None
kept_case true true c' h rest e = ap (λ v. option_or (then_some v h) rest) e
kept_case true false c' h rest e = ap (λ v. option_or (then_some v h) None) e
kept_case false true c' h rest e = ap (λ v. option_or (then_some v h) rest) e
kept_case false false c' h rest e = ap (λ v. option_or (then_some v h) None) e

-- a piece of which the cut lets nothing in
lost_case : (c i : Bool) (h : Held) (rest : Option Held) → (c && i) ≡ false → cond i rest None ≡ cond i (option_or (then_some c h) rest) None
lost_case true true h rest e = cc
lost_case true false h rest e = refl
lost_case false true h rest e = refl
lost_case false false h rest e = refl

cut_covers : (x y a b t : ℕ) → (leb (max x a) t && ltb t (min y b)) ≡ ((leb x t && ltb t y) && (leb a t && ltb t b))
cut_covers x y a b t = grind (arith, nat_tests)

cut_misses : (x y a b t : ℕ) → ltb (max x a) (min y b) ≡ false → ((leb x t && ltb t y) && (leb a t && ltb t b)) ≡ false
cut_misses x y a b t e = grind (arith, nat_tests)

-- one part before others, of which the same is known
part_held : (a b : ℕ) (p : Piece) (parts : List Piece) (rest : Option Held) (t : ℕ) (v : Bool) → ltb (max p.period.from a) (min p.period.till b) ≡ v
    → held_at parts t ≡ cond (leb a t && ltb t b) rest None
    → held_at (cons_option (then_some v (record p { period = record { from = max p.period.from a; till = min p.period.till b } })) parts) t
    ≡ cond (leb a t && ltb t b) (option_or (then_some (covers p.period t) (held p)) rest) None
part_held a b p parts rest t true e known =
    ap (option_or (then_some (leb (max p.period.from a) t && ltb t (min p.period.till b)) (held p))) known
    ∙ kept_case (covers p.period t) (leb a t && ltb t b) (leb (max p.period.from a) t && ltb t (min p.period.till b)) (held p) rest (cut_covers p.period.from p.period.till a b t)
part_held a b p parts rest t false e known =
    known ∙ lost_case (covers p.period t) (leb a t && ltb t b) (held p) rest (cut_misses p.period.from p.period.till a b t e)

-- between two instants the parts hold what the pieces do, and elsewhere nothing
pub held_at-parts : (a b : ℕ) (ps : List Piece) (t : ℕ) → held_at (parts_in a b ps) t ≡ cond (leb a t && ltb t b) (held_at ps t) None
held_at-parts a b [] t = cond_same (leb a t && ltb t b) None
held_at-parts a b (p ∷ ps) t = part_held a b p (parts_in a b ps) (held_at ps t) t (ltb (max p.period.from a) (min p.period.till b)) refl (held_at-parts a b ps t)

-- the parts of one piece more
pub parts_in-more : (a b : ℕ) (into start list : List Piece) (i : ℕ) (p : Piece) (part : Option Piece) → i < length list → p ≡ get_or list i p
    → part ≡ part_in a b p → into ≡ start ++ parts_in a b (take i list) → into ++ option_to_list part ≡ start ++ parts_in a b (take (i + 1) list)
parts_in-more a b into start list i p part within read cut so_far =
    rw (take_more list i p within, ← read, filter_map-append, ← append_assoc, ← so_far, cut) (ap (λ ps. into ++ ps) (one_part (part_in a b p)))
  where
    one_part : (o : Option Piece) → option_to_list o ≡ cons_option o []
    one_part None = refl
    one_part (Some x) = refl
