-- Reading items one after the other, as a loop does.
use Rattle.std.proofs.Common.{◌≡◌, ℕ, zero, suc, ◌≤◌, ◌<◌, Bool, true, false, cond, List, [], ◌∷◌, ◌++◌, length, refl, sym, ap, ◌∙◌, arith, append_assoc, Result, Ok, Err}
use Rattle.std.proofs.lemmas.List.{length-append}
use Rattle.std.proofs.Math.Nat.{le_refl}
use Rattle.wm_grammar.specs.Symbols.{Symbol, next_in}
use Rattle.wm_grammar.specs.Forms.{Form}
use Rattle.wm_grammar.specs.Reading.{Reader, bind, turns_at}
use Rattle.wm_grammar.proofs.Laws.{Shape, Found, Exact}

-- a reader takes a symbol
pub takes_one : {A : Type 0} {f : Form A} {r : Reader A} {h : Shape} → Exact f r h → h.empty ≡ false → (ts : List Symbol) (x : A) (rest : List Symbol) → r ts ≡ Ok (x, rest) → length rest < length ts
takes_one {A} {f} {r} {h} e solid ts x rest k = go (r ts) k (e.reads ts)
  where
    used_some : (used : List Symbol) → ts ≡ used ++ rest → f.Whole used x → length rest < length ts
    used_some [] i w = absurd (e.orderly.full solid w)
    used_some (c ∷ used) i w =
        let size : length ts ≡ length (c ∷ (used ++ rest)) = ap length i in
        omega (arith, size, length-append used rest)

    go : (o : Result (A × List Symbol) ℕ) → o ≡ Ok (x, rest) → Found f ts o → length rest < length ts
    go (Ok q) k p =
        let value : q.0 ≡ x = cc in
        let left : q.1 ≡ rest = cc in
        used_some p.used (p.is ∙ ap (λ (z : List Symbol). p.used ++ z) left) (rw (← value) p.whole)
    go (Err n) k p = absurd cc

-- all that is read is what was kept so far, and what the turns that are left read
pub record Going {S B R : Type 0} (after : S → B → S) (cs : S → List ℕ) (item : S → Reader B) (fold : R → List B → R) (s : S) (kept : R) (now : List Symbol) (all : Result (R × List Symbol) ℕ) : Type 0 where
  pub turns : ℕ
  pub enough : length now ≤ turns
  pub same : all ≡ bind {B = R × List Symbol} (turns_at after cs item turns s now) (λ q. Ok (fold kept q.0, q.1))

module _ {S B R : Type 0} (after : S → B → S) (cs : S → List ℕ) (item : S → Reader B) (fold : R → List B → R) (s : S) (kept : R) (now : List Symbol) (all : Result (R × List Symbol) ℕ) where
  some_turns : (n : ℕ) → length now ≤ n → next_in (cs s) now ≡ true → (m : ℕ) × (n ≡ suc m)
  some_turns zero le t = none now le t
    where
      none : (ts : List Symbol) → length ts ≤ zero → next_in (cs s) ts ≡ true → (m : ℕ) × (zero ≡ suc m)
      none [] le t = absurd cc
      none (c ∷ ts) le t = absurd (omega arith)
  some_turns (suc n) le t = (n, refl)

  one_turn : (n : ℕ) → next_in (cs s) now ≡ true
      → turns_at after cs item (suc n) s now ≡ bind {B = List B × List Symbol} (item s now) (λ p. bind {B = List B × List Symbol} (turns_at after cs item n (after s p.0) p.1) (λ q. Ok (p.0 ∷ q.0, q.1)))
  one_turn n t = ap (λ (b : Bool). cond b (bind {B = List B × List Symbol} (item s now) (λ p. bind {B = List B × List Symbol} (turns_at after cs item n (after s p.0) p.1) (λ q. Ok (p.0 ∷ q.0, q.1)))) (Ok ([], now))) t

  pub going_starts : all ≡ bind {B = R × List Symbol} (turns_at after cs item (length now) s now) (λ q. Ok (fold kept q.0, q.1)) → Going after cs item fold s kept now all
  going_starts e = record { turns = length now; enough = le_refl (length now); same = e }

  pub going_on : (x : B) (rest : List Symbol) (kept2 : R) → next_in (cs s) now ≡ true → item s now ≡ Ok (x, rest) → length rest < length now → ((xs : List B) → fold kept (x ∷ xs) ≡ fold kept2 xs)
      → Going after cs item fold s kept now all → Going after cs item fold (after s x) kept2 rest all
  going_on x rest kept2 t e less step g =
      let m = some_turns g.turns g.enough t in
      record {
        turns = m.0;
        enough = omega (arith, less, g.enough, m.1);
        same = g.same ∙ ap (λ (n : ℕ). bind {B = R × List Symbol} (turns_at after cs item n s now) (λ q. Ok (fold kept q.0, q.1))) m.1
            ∙ ap (λ (o : Result (List B × List Symbol) ℕ). bind {B = R × List Symbol} o (λ q. Ok (fold kept q.0, q.1))) (one_turn m.0 t
            ∙ ap (λ (o : Result (B × List Symbol) ℕ). bind {B = List B × List Symbol} o (λ p. bind {B = List B × List Symbol} (turns_at after cs item m.0 (after s p.0) p.1) (λ q. Ok (p.0 ∷ q.0, q.1)))) e)
            ∙ regroup (turns_at after cs item m.0 (after s x) rest);
      }
    where
      regroup : (o : Result (List B × List Symbol) ℕ) → bind {B = R × List Symbol} (bind {B = List B × List Symbol} o (λ q. Ok (x ∷ q.0, q.1))) (λ q. Ok (fold kept q.0, q.1)) ≡ bind {B = R × List Symbol} o (λ q. Ok (fold kept2 q.0, q.1))
      regroup (Ok q) = ap (λ (r : R). Ok (r, q.1)) (step q.0)
      regroup (Err n) = refl

  pub going_bad : (n : ℕ) → next_in (cs s) now ≡ true → item s now ≡ Err n → Going after cs item fold s kept now all → all ≡ Err n
  going_bad n t e g =
      let m = some_turns g.turns g.enough t in
      g.same ∙ ap (λ (n : ℕ). bind {B = R × List Symbol} (turns_at after cs item n s now) (λ q. Ok (fold kept q.0, q.1))) m.1
      ∙ ap (λ (o : Result (List B × List Symbol) ℕ). bind {B = R × List Symbol} o (λ q. Ok (fold kept q.0, q.1))) (one_turn m.0 t
      ∙ ap (λ (o : Result (B × List Symbol) ℕ). bind {B = List B × List Symbol} o (λ p. bind {B = List B × List Symbol} (turns_at after cs item m.0 (after s p.0) p.1) (λ q. Ok (p.0 ∷ q.0, q.1)))) e)

  pub going_ends : next_in (cs s) now ≡ false → fold kept [] ≡ kept → Going after cs item fold s kept now all → all ≡ Ok (kept, now)
  going_ends t same g = g.same ∙ ap (λ (o : Result (List B × List Symbol) ℕ). bind {B = R × List Symbol} o (λ q. Ok (fold kept q.0, q.1))) (ends g.turns) ∙ ap (λ (r : R). Ok (r, now)) same
    where
      ends : (n : ℕ) → turns_at after cs item n s now ≡ Ok ([], now)
      ends zero = refl
      ends (suc n) = ap (λ (b : Bool). cond b (bind {B = List B × List Symbol} (item s now) (λ p. bind {B = List B × List Symbol} (turns_at after cs item n (after s p.0) p.1) (λ q. Ok (p.0 ∷ q.0, q.1)))) (Ok ([], now))) t

-- a list that grows at its end
pub pushed : {B : Type 0} (kept : List B) (x : B) (xs : List B) → kept ++ x ∷ xs ≡ (kept ++ x ∷ []) ++ xs
pushed kept x xs = sym (append_assoc kept (x ∷ []) xs)
