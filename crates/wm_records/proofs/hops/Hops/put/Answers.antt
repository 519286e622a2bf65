use Rattle.std.proofs.Common.{◌≡◌, ◌≢◌, ◌<◌, ◌≤◌, ◌==◌, ◌&&◌, ◌-◌, ℕ, zero, suc, Bool, true, false, cond, nat_lt, List, [], ◌∷◌, ◌++◌, length, get_or, take, replicate, Option, Some, None, refl, sym, ap, ◌∙◌, arith, ◌⊎◌, inl, inr}
use Rattle.std.proofs.lemmas.Bool.{cases_eq, cases_lt, eq-eqb, ne_eqb, lt-ltb, le-ltb}
use Rattle.std.specs.Vec.{vec_len}
use Rattle.wm_records.proofs.Hopping.{before_first}
use Rattle.wm_records.specs.Hops.{hop_at, is_near}
use Rattle.wm_records.specs.declared.hops.Hop.{Hop}
use Rattle.wm_records.specs.declared.hops.Hops.{Hops}
use Rattle.wm_records.proofs.hops.Hops.put.Goals as goal

from_first : (hops : Hops) (n : ℕ) → hops.first ≤ n → hop_at hops n ≡ get_or hops.by_number.items (n - hops.first) None
from_first hops n more = ap (λ b. cond b None (get_or hops.by_number.items (n - hops.first) None)) (le-ltb n hops.first more)

-- a list that is cut or filled up to a place, and one behind it: what stands below the place, at it and above it
abbrev with_one : List (Option Hop) → ℕ → ℕ → Option Hop → List (Option Hop)
with_one xs p gap x = (take p xs ++ replicate gap None) ++ x ∷ []

take_none : (p : ℕ) → take {A = Option Hop} p [] ≡ []
take_none zero = refl
take_none (suc p) = refl

-- the same behind a number that the list does not go to
one_more : (p k gap : ℕ) (x : Option Hop) → get_or (with_one [] (suc p) (suc gap) x) (suc k) None ≡ get_or (with_one [] p gap x) k None
one_more p k gap x = ap (λ (ts : List (Option Hop)). get_or ((ts ++ replicate gap None) ++ x ∷ []) k None) (sym (take_none p))

filled_below : (xs : List (Option Hop)) (p k gap : ℕ) (x : Option Hop) → gap ≡ p - length xs → k < p → get_or (with_one xs p gap x) k None ≡ get_or xs k None
filled_below xs zero k gap x e less = absurd (omega (arith, less))
filled_below [] (suc p) k zero x e less = absurd (omega (arith, e))
filled_below [] (suc p) zero (suc gap) x e less = refl
filled_below [] (suc p) (suc k) (suc gap) x e less = one_more p k gap x ∙ filled_below [] p k gap x (omega (arith, e)) (omega (arith, less))
filled_below (y ∷ ys) (suc p) zero gap x e less = refl
filled_below (y ∷ ys) (suc p) (suc k) gap x e less = filled_below ys p k gap x (omega (arith, e)) (omega (arith, less))

filled_at : (xs : List (Option Hop)) (p gap : ℕ) (x : Option Hop) → gap ≡ p - length xs → get_or (with_one xs p gap x) p None ≡ x
filled_at xs zero (suc gap) x e = absurd (omega (arith, e))
filled_at xs zero zero x e = refl
filled_at [] (suc p) zero x e = absurd (omega (arith, e))
filled_at [] (suc p) (suc gap) x e = one_more p p gap x ∙ filled_at [] p gap x (omega (arith, e))
filled_at (y ∷ ys) (suc p) gap x e = filled_at ys p gap x (omega (arith, e))

filled_above : (xs : List (Option Hop)) (p k gap : ℕ) (x : Option Hop) → gap ≡ p - length xs → p < k → get_or (with_one xs p gap x) k None ≡ None
filled_above xs p zero gap x e more = absurd (omega (arith, more))
filled_above xs zero (suc k) (suc gap) x e more = absurd (omega (arith, e))
filled_above xs zero (suc k) zero x e more = refl
filled_above [] (suc p) (suc k) zero x e more = absurd (omega (arith, e))
filled_above [] (suc p) (suc k) (suc gap) x e more = one_more p k gap x ∙ filled_above [] p k gap x (omega (arith, e)) (omega (arith, more))
filled_above (y ∷ ys) (suc p) (suc k) gap x e more = filled_above ys p k gap x (omega (arith, e)) (omega (arith, more))

-- the hops with one that is put where its number stands
abbrev put_to : ℕ → Hop → Hops → ℕ → Option Hop
put_to number hop old n = cond (number == n) (Some hop) (cond (nat_lt n number) (hop_at old n) None)

hops_put_at : (old new : Hops) (number : ℕ) (hop : Hop) → old.first ≤ number → new.first ≡ old.first
    → new.by_number.items ≡ with_one old.by_number.items (number - old.first) ((number - old.first) - length old.by_number.items) (Some hop)
    → (n : ℕ) → hop_at new n ≡ put_to number hop old n
hops_put_at old new number hop low first items n = by_order (cases_lt n old.first) (cases_eq number n) (cases_lt n number)
  where
    gap : ℕ
    gap = (number - old.first) - length old.by_number.items

    moved : old.first ≤ n → hop_at new n ≡ get_or (with_one old.by_number.items (number - old.first) gap (Some hop)) (n - old.first) None
    moved more =
        from_first new n (omega (arith, more, first))
        ∙ ap (λ k. get_or new.by_number.items (n - k) None) first
        ∙ ap (λ (xs : List (Option Hop)). get_or xs (n - old.first) None) items

    below : n < number → put_to number hop old n ≡ hop_at old n
    below less =
        ap (λ b. cond b (Some hop) (cond (nat_lt n number) (hop_at old n) None)) (ne_eqb number n (λ same. absurd (omega (arith, same, less))))
        ∙ ap (λ b. cond b (hop_at old n) None) (lt-ltb n number less)

    by_order : (n < old.first) ⊎ (old.first ≤ n) → (number ≡ n) ⊎ (number ≢ n) → (n < number) ⊎ (number ≤ n) → hop_at new n ≡ put_to number hop old n
    by_order (inl before) same order =
        before_first new n (omega (arith, before, first)) ∙ sym (below (omega (arith, before, low)) ∙ before_first old n before)
    by_order (inr more) (inl same) order =
        moved more
        ∙ ap (λ k. get_or (with_one old.by_number.items (number - old.first) gap (Some hop)) (k - old.first) None) (sym same)
        ∙ filled_at old.by_number.items (number - old.first) gap (Some hop) refl
        ∙ ap (λ b. cond b (Some hop) (cond (nat_lt n number) (hop_at old n) None)) (sym (eq-eqb number n same))
    by_order (inr more) (inr away) (inl less) =
        moved more
        ∙ filled_below old.by_number.items (number - old.first) (n - old.first) gap (Some hop) refl (omega (arith, less, low, more))
        ∙ sym (below less ∙ from_first old n more)
    by_order (inr more) (inr away) (inr from) =
        moved more
        ∙ filled_above old.by_number.items (number - old.first) (n - old.first) gap (Some hop) refl (omega (arith, from, away, low, more))
        ∙ sym
        (ap (λ b. cond b (Some hop) (cond (nat_lt n number) (hop_at old n) None)) (ne_eqb number n away)
        ∙ ap (λ b. cond b (hop_at old n) None) (le-ltb n number from))

both_hold : (b c : Bool) (o : Option Hop) → cond c (cond b o None) None ≡ cond (b && c) o None
both_hold true c o = refl
both_hold false true o = refl
both_hold false false o = refl

hops_put : (old mid new : Hops) (number : ℕ) (hop : Hop) → mid.first ≤ number → ((n : ℕ) → hop_at mid n ≡ cond (is_near old number) (hop_at old n) None) → new.first ≡ mid.first
    → new.by_number.items ≡ with_one mid.by_number.items (number - mid.first) ((number - mid.first) - vec_len mid.by_number) (Some hop)
    → (n : ℕ) → hop_at new n ≡ cond (number == n) (Some hop) (cond (is_near old number && nat_lt n number) (hop_at old n) None)
hops_put old mid new number hop low same first items n =
    hops_put_at mid new number hop low first
    (items ∙ ap (λ k. with_one mid.by_number.items (number - mid.first) ((number - mid.first) - k) (Some hop)) mid.by_number.ok.0) n
    ∙ ap (λ o. cond (number == n) (Some hop) (cond (nat_lt n number) o None)) (same n)
    ∙ ap (cond (number == n) (Some hop)) (both_hold (is_near old number) (nat_lt n number) (hop_at old n))

pub returns-clause-hops : goal.returns-clause-hops
returns-clause-hops c =
    hops_put c.args.self.now c.come_near.new.self
    record { by_number = c.push.new.self; first = c.come_near.new.self.first; greatest = c.come_near.new.self.greatest }
    c.args.number c.args.hop c.come_near.ensures.first c.come_near.ensures.hops refl
    (c.in_ok-push.ensures.items ∙ ap (λ (xs : List (Option Hop)). xs ++ Some c.args.hop ∷ []) c.in_ok-resize.ensures.items)
