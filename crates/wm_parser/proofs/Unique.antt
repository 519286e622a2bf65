-- A list of symbols has one fault.
use Rattle.std.proofs.Common.{◌≡◌, ℕ, List, [], ◌∷◌, ◌++◌, sym, ap, subst, ◌∙◌, append_assoc, inl, inr}
use Rattle.std.specs.Prelude.{◌⊎◌}
use Rattle.wm_grammar.specs.Symbols.{Symbol, left_of}
use Rattle.wm_grammar.specs.Forms.{Form}
use Rattle.wm_grammar.specs.Faults.{Fault}
use Rattle.wm_grammar.proofs.Lists.{Behind, Before, two_cuts}
use Rattle.wm_grammar.proofs.Laws.{Shape, Orderly}

-- the symbols before a fault do not go on beyond it
beyond : {A : Type 0} {f : Form A} {h : Shape} → Orderly f h → (ts : List Symbol) (n : ℕ) (p : Fault f ts n) (c : Symbol) (d e : List Symbol) → p.rest ≡ c ∷ e → f.Begins (p.before ++ c ∷ d) → ⊥
beyond {A} {f} {h} o ts n p c d e r b = p.bad c e r (o.front (p.before ++ c ∷ []) d (subst (λ (z : List Symbol). f.Begins z) (sym (append_assoc p.before (c ∷ []) d)) b))

behind_is : {A : Type 0} {f : Form A} {h : Shape} → Orderly f h → (ts : List Symbol) (n m : ℕ) (p : Fault f ts n) (q : Fault f ts m) (between : List Symbol) → q.before ≡ p.before ++ between → p.rest ≡ between ++ q.rest → n ≡ m
behind_is o ts n m p q [] front back = p.count ∙ ap left_of back ∙ sym q.count
behind_is {A} {f} {h} o ts n m p q (c ∷ d) front back = absurd (beyond o ts n p c d (d ++ q.rest) back (subst (λ (z : List Symbol). f.Begins z) front q.begins))

pub one_fault : {A : Type 0} {f : Form A} {h : Shape} → Orderly f h → (ts : List Symbol) (n m : ℕ) → Fault f ts n → Fault f ts m → n ≡ m
one_fault {A} {f} {h} o ts n m p q = go (two_cuts p.before p.rest q.before q.rest (sym p.is ∙ q.is))
  where
    go : Behind p.before p.rest q.before q.rest ⊎ Before p.before p.rest q.before q.rest → n ≡ m
    go (inl b) = behind_is o ts n m p q b.between b.front b.back
    go (inr b) = sym (behind_is o ts m n q p (b.next ∷ b.between) b.front b.back)
