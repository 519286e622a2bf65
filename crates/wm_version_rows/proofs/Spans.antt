-- The stretches of the pieces of a key.
use Rattle.std.proofs.Common.{◌≡◌, ℕ, ◌<◌, ◌≤◌, ◌==◌, ◌&&◌, nat_lt, nat_le, Bool, true, false, not, if◌then◌else◌, List, [], ◌∷◌, Option, None, refl, sym, ap, ◌∙◌, arith}
use Rattle.std.proofs.lemmas.Bool.{eq-eqb, eqb-true, and_parts, not-true, true≢false}
use Rattle.std.specs.Bool.{then_some}
use Rattle.std.specs.Option.{option_or, option_and_then}
use Rattle.wm_base.proofs.Plain.{option_or-none}
use Rattle.wm_base.specs.Period.{covers}
use Rattle.wm_period.specs.Pieces.{Between, held, held_at}
use Rattle.wm_period.specs.declared.piece.Piece.{Piece}
use Rattle.wm_period.proofs.Order.{held_at-early}
use Rattle.wm_spec.specs.Stretches.{Stretch, value_at, IsApart, AreMaximal}
use Rattle.wm_spec.proofs.Stretches.{merged}
use Rattle.wm_state.specs.Listing.{standing}
use Rattle.wm_version_rows.specs.Standing.{goes_on}

-- the stretch of one piece
abbrev pub span : Piece → Stretch
span p = record { from = p.period.from; till = p.period.till; stamp = p.stamp.number }

-- the first begins at an instant
abbrev pub earlier : ℕ → List Stretch → List Stretch
earlier from [] = []
earlier from (s ∷ ss) = let first : Stretch = record { from = from; till = s.till; stamp = s.stamp } in first ∷ ss

-- the longest on which a row of one stamp stands
abbrev pub spans : List Piece → List Stretch
spans [] = []
spans (p ∷ ps) = if p.gone then spans ps else (if goes_on p ps then earlier p.period.from (spans ps) else span p ∷ spans ps)

-- ---- how they begin

abbrev Begins : ℕ → ℕ → List Stretch → Type 0
Begins from stamp [] = ⊥
Begins from stamp (s ∷ ss) = (s.from ≡ from) × (s.stamp ≡ stamp)

Begins-earlier : (from till stamp other : ℕ) (ss : List Stretch) → stamp ≡ other → Begins till other ss → Begins from stamp (earlier from ss)
Begins-earlier from till stamp other [] same begins = begins
Begins-earlier from till stamp other (s ∷ ss) same begins = (refl, begins.1 ∙ sym same)

-- a row that stands on behind a piece
pub record Meets (p q : Piece) : Type 0 where
  pub stands : q.gone ≡ false
  pub meets : p.period.till ≡ q.period.from
  pub stamp : p.stamp.number ≡ q.stamp.number

pub meets : (p q : Piece) (qs : List Piece) → goes_on p (q ∷ qs) ≡ true → Meets p q
meets p q qs e =
    let h = and_parts (not q.gone) ((p.period.till == q.period.from) && (p.stamp.number == q.stamp.number)) e in
    let g = and_parts (p.period.till == q.period.from) (p.stamp.number == q.stamp.number) h.1 in
    record { stands = not-true q.gone h.0; meets = eqb-true _ _ g.0; stamp = eqb-true _ _ g.1 }

begins : (p : Piece) (ps : List Piece) → p.gone ≡ false → Begins p.period.from p.stamp.number (spans (p ∷ ps))
begins p [] stands = rw stands (refl, refl)
begins p (q ∷ qs) stands = rw stands (by_goes (goes_on p (q ∷ qs)) refl (begins q qs))
  where
    by_goes : (b : Bool) → goes_on p (q ∷ qs) ≡ b → (q.gone ≡ false → Begins q.period.from q.stamp.number (spans (q ∷ qs)))
        → Begins p.period.from p.stamp.number (if b then earlier p.period.from (spans (q ∷ qs)) else span p ∷ spans (q ∷ qs))
    by_goes true e rest =
        let m = meets p q qs e in
        Begins-earlier p.period.from q.period.from p.stamp.number q.stamp.number (spans (q ∷ qs)) m.stamp (rest m.stands)
    by_goes false e rest = (refl, refl)

-- where the row stands on, the stretch behind it begins there, with its stamp
joins : (p : Piece) (ps : List Piece) → goes_on p ps ≡ true → Begins p.period.till p.stamp.number (spans ps)
joins p [] e = absurd (true≢false (sym e))
joins p (q ∷ qs) e = let m = meets p q qs e in rw (m.meets, m.stamp) (begins q qs m.stands)

-- ---- in order, and the longest

abbrev Behind : ℕ → List Stretch → Type 0
Behind low [] = Unit {0}
Behind low (s ∷ ss) = low ≤ s.from

behind : (low : ℕ) (ps : List Piece) (high : ℕ) → Between low ps high → Behind low (spans ps)
behind low [] high order = tt
behind low (p ∷ ps) high order = by_gone p.gone (behind p.period.till ps high order.2)
  where
    lower : (ss : List Stretch) → Behind p.period.till ss → Behind low ss
    lower [] after = tt
    lower (s ∷ ss) after = omega (arith, after, order.0, order.1)

    first : (ss : List Stretch) → Behind low (earlier p.period.from ss)
    first [] = tt
    first (s ∷ ss) = order.0

    by_goes : (b : Bool) → Behind low (if b then earlier p.period.from (spans ps) else span p ∷ spans ps)
    by_goes true = first (spans ps)
    by_goes false = order.0

    by_gone : (b : Bool) → Behind p.period.till (spans ps) → Behind low (if b then spans ps else (if goes_on p ps then earlier p.period.from (spans ps) else span p ∷ spans ps))
    by_gone true after = lower (spans ps) after
    by_gone false after = by_goes (goes_on p ps)

-- where the row does not stand on, no stretch that meets it has its stamp
apart : (p : Piece) (ps : List Piece) (high : ℕ) → goes_on p ps ≡ false → Between p.period.till ps high → IsApart p.period.till p.stamp.number (spans ps)
apart p [] high ends order = tt
apart p (q ∷ qs) high ends order = by_gone q.gone refl
  where
    later : (ss : List Stretch) → Behind q.period.till ss → IsApart p.period.till p.stamp.number ss
    later [] after = tt
    later (s ∷ ss) after = λ meets same. omega (arith, after, order.0, order.1, meets)

    same_place : q.gone ≡ false → p.period.till ≡ q.period.from → p.stamp.number ≡ q.stamp.number → goes_on p (q ∷ qs) ≡ true
    same_place stands place stamp = rw (stands, eq-eqb _ _ place, eq-eqb _ _ stamp) refl

    other : (ss : List Stretch) → q.gone ≡ false → Begins q.period.from q.stamp.number ss → IsApart p.period.till p.stamp.number ss
    other [] stands begun = tt
    other (s ∷ ss) stands begun = λ place stamp. true≢false (sym (same_place stands (place ∙ begun.0) (stamp ∙ begun.1)) ∙ ends)

    by_gone : (b : Bool) → q.gone ≡ b → IsApart p.period.till p.stamp.number (spans (q ∷ qs))
    by_gone true gone = rw gone (later (spans qs) (behind q.period.till qs high order.2))
    by_gone false stands = other (spans (q ∷ qs)) stands (begins q qs stands)

pub maximal : (low : ℕ) (ps : List Piece) (high : ℕ) → Between low ps high → AreMaximal low (spans ps)
maximal low [] high order = tt
maximal low (p ∷ ps) high order = by_gone p.gone (maximal p.period.till ps high order.2)
  where
    lower : (ss : List Stretch) → AreMaximal p.period.till ss → AreMaximal low ss
    lower [] max = tt
    lower (s ∷ ss) max = (omega (arith, max.0, order.0, order.1), max.1, max.2, max.3)

    first : (ss : List Stretch) → AreMaximal p.period.till ss → AreMaximal low (earlier p.period.from ss)
    first [] max = tt
    first (s ∷ ss) max = (order.0, omega (arith, max.0, max.1, order.1), max.2, max.3)

    by_goes : (b : Bool) → goes_on p ps ≡ b → AreMaximal p.period.till (spans ps) → AreMaximal low (if b then earlier p.period.from (spans ps) else span p ∷ spans ps)
    by_goes true e max = first (spans ps) max
    by_goes false e max = (order.0, order.1, apart p ps high e order.2, max)

    by_gone : (b : Bool) → AreMaximal p.period.till (spans ps)
        → AreMaximal low (if b then spans ps else (if goes_on p ps then earlier p.period.from (spans ps) else span p ∷ spans ps))
    by_gone true max = lower (spans ps) max
    by_gone false max = by_goes (goes_on p ps) refl max

-- ---- what stands on them

abbrev has : ℕ → ℕ → ℕ → Bool
has from till t = nat_le from t && nat_lt t till

value-earlier : (from till stamp t : ℕ) (ss : List Stretch) → from < till → AreMaximal till ss → Begins till stamp ss
    → value_at (earlier from ss) t ≡ option_or (value_at ss t) (then_some (has from till t) stamp)
value-earlier from till stamp t [] less max begun = absurd begun
value-earlier from till stamp t (s ∷ ss) less max begun = same s.from s.stamp begun.0 begun.1 max.1
  where
    same : (f n : ℕ) → f ≡ till → n ≡ stamp → f < s.till
        → option_or (value_at ss t) (then_some (has from s.till t) n) ≡ option_or (option_or (value_at ss t) (then_some (has f s.till t) n)) (then_some (has from till t) stamp)
    same f n is number more = rw (is, number) (merged (value_at ss t) from till s.till stamp t less (omega (arith, more, is)))

pub value : (low : ℕ) (ps : List Piece) (high : ℕ) → Between low ps high → (t : ℕ) → value_at (spans ps) t ≡ option_and_then standing (held_at ps t)
value low [] high order t = refl
value low (p ∷ ps) high order t = by_gone p.gone refl (value p.period.till ps high order.2 t)
  where
    before : (from till t : ℕ) → has from till t ≡ true → t < till
    before from till t e = grind (arith, e)

    alone : covers p.period t ≡ true → held_at ps t ≡ None
    alone e = held_at-early p.period.till ps high t order.2 (before p.period.from p.period.till t e)

    -- with what stands on the piece
    told : (v : Option ℕ) → v ≡ option_and_then standing (held_at ps t) → (b : Bool) → covers p.period t ≡ b
        → option_or v (option_and_then standing (then_some b (held p))) ≡ option_and_then standing (option_or (then_some b (held p)) (held_at ps t))
    told v is true e = ap (λ o. option_or o (standing (held p))) (is ∙ ap (option_and_then standing) (alone e))
    told v is false e = option_or-none v ∙ is

    shown : value_at (spans ps) t ≡ option_and_then standing (held_at ps t)
        → option_or (value_at (spans ps) t) (option_and_then standing (then_some (covers p.period t) (held p))) ≡ option_and_then standing (held_at (p ∷ ps) t)
    shown is = told (value_at (spans ps) t) is (covers p.period t) refl

    gone_stamp : p.gone ≡ true → (b : Bool) → option_and_then standing (then_some b (held p)) ≡ None
    gone_stamp e true = rw e refl
    gone_stamp e false = refl

    own_stamp : p.gone ≡ false → (b : Bool) → then_some b p.stamp.number ≡ option_and_then standing (then_some b (held p))
    own_stamp e true = rw e refl
    own_stamp e false = refl

    by_goes : (b : Bool) → goes_on p ps ≡ b
        → value_at (if b then earlier p.period.from (spans ps) else span p ∷ spans ps) t ≡ option_or (value_at (spans ps) t) (then_some (covers p.period t) p.stamp.number)
    by_goes true e = value-earlier p.period.from p.period.till p.stamp.number t (spans ps) order.1 (maximal p.period.till ps high order.2) (joins p ps e)
    by_goes false e = refl

    by_gone : (b : Bool) → p.gone ≡ b → value_at (spans ps) t ≡ option_and_then standing (held_at ps t)
        → value_at (if b then spans ps else (if goes_on p ps then earlier p.period.from (spans ps) else span p ∷ spans ps)) t ≡ option_and_then standing (held_at (p ∷ ps) t)
    by_gone true e is = sym (option_or-none (value_at (spans ps) t)) ∙ ap (option_or (value_at (spans ps) t)) (sym (gone_stamp e (covers p.period t))) ∙ shown is
    by_gone false e is = by_goes (goes_on p ps) refl ∙ ap (option_or (value_at (spans ps) t)) (own_stamp e (covers p.period t)) ∙ shown is
