-- Pieces that lie one after another between two instants, after a cut, a put and an erase.
use Rattle.std.proofs.Common.{◌≡◌, ◌↔◌, ◌<◌, ◌≤◌, ℕ, Bool, IsTrue, true, false, cond, ◌&&◌, min, max, leb, ltb, List, [], ◌∷◌, ◌++◌, Option, Some, None, refl, sym, ap, subst, ◌∙◌, arith}
use Rattle.std.proofs.lemmas.Bool.{ltb-true, true≢false}
use Rattle.std.proofs.lemmas.Bool.Decides.{nat_tests}
use Rattle.std.specs.Bool.{then_some}
use Rattle.std.specs.List.{cons_option}
use Rattle.std.specs.Option.{option_or}
use Rattle.wm_base.specs.Period.{Span, covers}
use Rattle.wm_base.specs.declared.instant.TheConstants.{END}
use Rattle.wm_period.proofs.Cells.{held_at-append, held_at-parts}
use Rattle.wm_period.specs.Pieces.{Held, held, held_at, Between, EndBy, parts_in, put_in, erase_in}
use Rattle.wm_period.specs.declared.piece.Piece.{Piece}

-- the two instants stand in order
pub Between-ends : (a : ℕ) (ps : List Piece) (b : ℕ) → Between a ps b → a ≤ b
Between-ends a [] b order = order
Between-ends a (p ∷ ps) b order = let rest = Between-ends p.period.till ps b order.2 in omega (arith, order.0, order.1)

-- the first instant may be earlier
pub Between-lower : (a c : ℕ) (ps : List Piece) (b : ℕ) → c ≤ a → Between a ps b → Between c ps b
Between-lower a c [] b less order = omega arith
Between-lower a c (p ∷ ps) b less order = (omega (arith, order.0), order.1, order.2)

-- the last instant may be later
pub Between-higher : (a : ℕ) (ps : List Piece) (b c : ℕ) → b ≤ c → Between a ps b → Between a ps c
Between-higher a [] b c more order = omega arith
Between-higher a (p ∷ ps) b c more order = (order.0, order.1, Between-higher p.period.till ps b c more order.2)

pub Between-append : (a : ℕ) (ps : List Piece) (b : ℕ) (qs : List Piece) (c : ℕ) → Between a ps b → Between b qs c → Between a (ps ++ qs) c
Between-append a [] b qs c first second = Between-lower b a qs c first second
Between-append a (p ∷ ps) b qs c first second = (first.0, first.1, Between-append p.period.till ps b qs c first.2 second)

-- ---- pieces that have ended

-- those that have ended by an instant lie before it
pub Between-ended : (a b : ℕ) (ps : List Piece) (c : ℕ) → Between a ps c → EndBy b ps → a ≤ b → Between a ps b
Between-ended a b [] c order ended less = less
Between-ended a b (p ∷ ps) c order ended less = (order.0, order.1, Between-ended p.period.till b ps c order.2 ended.1 ended.0)

last_after : (a : ℕ) (ps : List Piece) (p : Piece) (c : ℕ) → Between a (ps ++ p ∷ []) c → a ≤ p.period.till
last_after a [] p c order = let from = order.0 in let long = order.1 in omega (arith, from, long)
last_after a (q ∷ qs) p c order =
    let from = order.0 in
    let long = order.1 in
    let rest = last_after q.period.till qs p c order.2 in
    omega (arith, from, long, rest)

all_ended : (a b : ℕ) (ps : List Piece) (p : Piece) (c : ℕ) → Between a (ps ++ p ∷ []) c → p.period.till ≤ b → EndBy b (ps ++ p ∷ [])
all_ended a b [] p c order less = (less, tt)
all_ended a b (q ∷ qs) p c order less =
    let after = last_after q.period.till qs p c order.2 in
    (omega (arith, after, less), all_ended q.period.till b qs p c order.2 less)

last_ended : (b : ℕ) (ps : List Piece) (p : Piece) → EndBy b (ps ++ p ∷ []) → p.period.till ≤ b
last_ended b [] p ended = ended.0
last_ended b (q ∷ qs) p ended = last_ended b qs p ended.1

-- where the last has ended, all have
pub ended_as_last : (b : ℕ) (list ps : List Piece) (p : Piece) → Between 0 list END → list ≡ ps ++ p ∷ [] → (t : Bool) → (IsTrue t ↔ (p.period.till ≤ b)) → IsTrue t ↔ EndBy b list
ended_as_last b list ps p order is t test = (
  λ so. subst (EndBy b) (sym is) (all_ended 0 b ps p END (let P : List Piece → Type 0 = λ l. Between 0 l END in subst P is order) (test.0 so)),
  λ ended. test.1 (last_ended b ps p (subst (EndBy b) is ended)),
)

-- a piece put behind those that have ended when it begins
pub Between-behind : (ps : List Piece) (p : Piece) → Between 0 ps END → EndBy p.period.from ps → p.period.from < p.period.till → p.period.till ≤ END → Between 0 (ps ++ p ∷ []) END
Between-behind ps p order ended long ends =
    Between-append 0 ps p.period.from (p ∷ []) END (Between-ended 0 p.period.from ps END order ended (omega arith)) (omega arith, long, ends)

-- one part before others, of which the same is known
part_between : (p : Piece) (parts : List Piece) (low x y z : ℕ) (v : Bool) → ltb (max p.period.from x) (min p.period.till y) ≡ v
    → low ≤ p.period.from → p.period.from < p.period.till → z ≤ y → z ≤ max low x
    → ((w : ℕ) → w ≤ y → w ≤ max p.period.till x → Between w parts y)
    → Between z (cons_option (then_some v (record p { period = record { from = max p.period.from x; till = min p.period.till y } })) parts) y
part_between p parts low x y z true e from long below least rest =
    let some : max p.period.from x < min p.period.till y = ltb-true _ _ e in
    (omega arith, some, rest (min p.period.till y) (omega arith) (omega arith))
part_between p parts low x y z false e from long below least rest = rest z below (omega arith)

-- the parts between two instants lie between them
pub Between-parts : (low : ℕ) (ps : List Piece) (high x y z : ℕ) → Between low ps high → z ≤ y → z ≤ max low x → Between z (parts_in x y ps) y
Between-parts low [] high x y z order below least = below
Between-parts low (p ∷ ps) high x y z order below least =
    part_between p (parts_in x y ps) low x y z (ltb (max p.period.from x) (min p.period.till y)) refl order.0 order.1 below least
    (λ w. Between-parts p.period.till ps high x y w order.2)

-- ---- the moments outside

-- at and after the end nothing is held
pub held_at-past : (a : ℕ) (ps : List Piece) (b t : ℕ) → Between a ps b → b ≤ t → held_at ps t ≡ None
held_at-past a [] b t order late = refl
held_at-past a (p ∷ ps) b t order late =
    let ends = Between-ends p.period.till ps b order.2 in
    let missed : covers p.period t ≡ false = grind (arith, nat_tests) in
    ap (λ v. option_or (then_some v (held p)) (held_at ps t)) missed ∙ held_at-past p.period.till ps b t order.2 late

-- before the beginning nothing is held
pub held_at-early : (a : ℕ) (ps : List Piece) (b t : ℕ) → Between a ps b → t < a → held_at ps t ≡ None
held_at-early a [] b t order early = refl
held_at-early a (p ∷ ps) b t order early =
    let from = order.0 in
    let long = order.1 in
    let missed : covers p.period t ≡ false = grind (arith, nat_tests) in
    ap (λ v. option_or (then_some v (held p)) (held_at ps t)) missed ∙ held_at-early p.period.till ps b t order.2 (omega arith)

-- ---- put and erase

pub Between-put : (p : Piece) (ps : List Piece) → Between 0 ps END → p.period.from < p.period.till → p.period.till ≤ END → Between 0 (put_in p ps) END
Between-put p ps order long ends =
    Between-append 0 (parts_in 0 p.period.from ps) p.period.from (p ∷ parts_in p.period.till END ps) END
    (Between-parts 0 ps END 0 p.period.from 0 order (omega arith) (omega arith))
    (omega arith, long, Between-parts 0 ps END p.period.till END p.period.till order ends (omega arith))

pub Between-erase : (q : Span) (ps : List Piece) → Between 0 ps END → q.from < q.till → q.till ≤ END → Between 0 (erase_in q ps) END
Between-erase q ps order long ends =
    Between-append 0 (parts_in 0 q.from ps) q.from (parts_in q.till END ps) END
    (Between-parts 0 ps END 0 q.from 0 order (omega arith) (omega arith))
    (Between-lower q.till q.from (parts_in q.till END ps) END (omega arith) (Between-parts 0 ps END q.till END q.till order ends (omega arith)))

-- the piece over what was held, by where the moment lies
put_case : (before covered after : Bool) (piece : Held) (old : Option Held)
    → (before ≡ true → covered ≡ false) → (before ≡ false → covered ≡ false → after ≡ false → old ≡ None)
    → option_or (cond before old None) (option_or (then_some covered piece) (cond after old None)) ≡ option_or (then_some covered piece) old
put_case true true after piece old apart outside = absurd (true≢false (apart refl))
put_case true false true piece None apart outside = refl
put_case true false true piece (Some x) apart outside = refl
put_case true false false piece None apart outside = refl
put_case true false false piece (Some x) apart outside = refl
put_case false true after piece old apart outside = refl
put_case false false true piece old apart outside = refl
put_case false false false piece old apart outside = sym (outside refl refl refl)

-- the piece is what is held at the moments of its period, and every other moment is as it was
pub held_at-put : (p : Piece) (ps : List Piece) (t : ℕ) → Between 0 ps END → p.period.from < p.period.till → p.period.till ≤ END
    → held_at (put_in p ps) t ≡ option_or (then_some (covers p.period t) (held p)) (held_at ps t)
held_at-put p ps t order long ends =
    held_at-append (parts_in 0 p.period.from ps) (p ∷ parts_in p.period.till END ps) t
    ∙ ap (λ v. option_or v (option_or (then_some (covers p.period t) (held p)) (held_at (parts_in p.period.till END ps) t))) (held_at-parts 0 p.period.from ps t)
    ∙ ap (λ v. option_or (cond (leb 0 t && ltb t p.period.from) (held_at ps t) None) (option_or (then_some (covers p.period t) (held p)) v)) (held_at-parts p.period.till END ps t)
    ∙ put_case (leb 0 t && ltb t p.period.from) (covers p.period t) (leb p.period.till t && ltb t END) (held p) (held_at ps t)
    (λ early. grind (arith, nat_tests))
    (λ late uncovered none. held_at-past 0 ps END t order (grind (arith, nat_tests)))

erase_case : (before covered after : Bool) (old : Option Held)
    → (before ≡ true → covered ≡ false) → (after ≡ true → covered ≡ false) → (before ≡ false → covered ≡ false → after ≡ false → old ≡ None)
    → option_or (cond before old None) (cond after old None) ≡ cond covered None old
erase_case true true after old apart away outside = absurd (true≢false (apart refl))
erase_case true false true None apart away outside = refl
erase_case true false true (Some x) apart away outside = refl
erase_case true false false None apart away outside = refl
erase_case true false false (Some x) apart away outside = refl
erase_case false true true old apart away outside = absurd (true≢false (away refl))
erase_case false true false old apart away outside = refl
erase_case false false true old apart away outside = refl
erase_case false false false old apart away outside = sym (outside refl refl refl)

-- nothing is held at the moments of the period, and every other moment is as it was
pub held_at-erase : (q : Span) (ps : List Piece) (t : ℕ) → Between 0 ps END → q.from < q.till → q.till ≤ END
    → held_at (erase_in q ps) t ≡ cond (covers q t) None (held_at ps t)
held_at-erase q ps t order long ends =
    held_at-append (parts_in 0 q.from ps) (parts_in q.till END ps) t
    ∙ ap (λ v. option_or v (held_at (parts_in q.till END ps) t)) (held_at-parts 0 q.from ps t)
    ∙ ap (option_or (cond (leb 0 t && ltb t q.from) (held_at ps t) None)) (held_at-parts q.till END ps t)
    ∙ erase_case (leb 0 t && ltb t q.from) (covers q t) (leb q.till t && ltb t END) (held_at ps t)
    (λ early. grind (arith, nat_tests))
    (λ late. grind (arith, nat_tests))
    (λ late uncovered none. held_at-past 0 ps END t order (grind (arith, nat_tests)))
