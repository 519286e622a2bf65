-- What an exact reader says of all the symbols.
use Rattle.std.proofs.Common.{◌≡◌, ℕ, List, [], ◌∷◌, ◌++◌, refl, sym, subst, ◌∙◌, Result, Ok, Err}
use Rattle.std.specs.Prelude.{MatchResult}
use Rattle.std.proofs.lemmas.List.{append-nil}
use Rattle.std.proofs.Common.{append_assoc}
use Rattle.wm_grammar.specs.Symbols.{Symbol}
use Rattle.wm_grammar.specs.Forms.{Form}
use Rattle.wm_grammar.specs.Reading.{Reader}
use Rattle.wm_grammar.specs.Faults.{Fault, ended, all_of}
use Rattle.wm_grammar.proofs.Laws.{Shape, Orderly, Read, Found, Exact}

ended_exact : {A : Type 0} (f : Form A) (ts : List Symbol) (x : A) (rest : List Symbol) → Read f ts x rest → ((u : List Symbol) (x : A) → f.Whole u x → f.Begins u) → MatchResult (ended x rest) (λ y. f.Whole ts y) (λ n. Fault f ts n)
ended_exact f ts x [] p begins = subst (λ (z : List Symbol). f.Whole z x) (sym (p.is ∙ append-nil p.used)) p.whole
ended_exact f ts x (t ∷ e) p begins = record {
  before = p.used;
  rest = t ∷ e;
  is = p.is;
  count = refl;
  begins = begins p.used x p.whole;
  bad = p.stuck;
  unfinished = λ k y w. cc;
}

all_found : {A : Type 0} (f : Form A) (ts : List Symbol) (o : Result (A × List Symbol) ℕ) → Found f ts o → ((u : List Symbol) (x : A) → f.Whole u x → f.Begins u) → MatchResult (all_of o) (λ y. f.Whole ts y) (λ n. Fault f ts n)
all_found f ts (Ok q) p begins = ended_exact f ts q.0 q.1 p begins
all_found f ts (Err n) p begins = record {
  before = p.used;
  rest = p.rest;
  is = p.is;
  count = p.count;
  begins = p.begins;
  bad = p.stuck;
  unfinished = λ e y w. p.unfinished y w;
}

-- what is read is whole, and a fault is the first symbol that does not go on
pub all_exact : {A : Type 0} {f : Form A} {r : Reader A} {h : Shape} → Exact f r h → (ts : List Symbol) → MatchResult (all_of (r ts)) (λ y. f.Whole ts y) (λ n. Fault f ts n)
all_exact {A} {f} {r} {h} e ts = all_found f ts (r ts) (e.reads ts) (λ u x w. e.orderly.whole w)

-- what has a fault is not whole
pub fault_not_whole : {A : Type 0} {f : Form A} {h : Shape} → Orderly f h → (ts : List Symbol) (n : ℕ) (x : A) → Fault f ts n → f.Whole ts x → ⊥
fault_not_whole {A} {f} {h} o ts n x p w = go p.rest refl
  where
    go : (rest : List Symbol) → p.rest ≡ rest → ⊥
    go [] e = p.unfinished e x (subst (λ (z : List Symbol). f.Whole z x) (p.is ∙ subst (λ (z : List Symbol). p.before ++ z ≡ p.before) (sym e) (append-nil p.before)) w)
    go (t ∷ v) e =
        let here : ts ≡ p.before ++ t ∷ v = subst (λ (z : List Symbol). ts ≡ p.before ++ z) e p.is in
        let long : ts ≡ (p.before ++ t ∷ []) ++ v = here ∙ sym (append_assoc p.before (t ∷ []) v) in
        p.bad t v e (o.front (p.before ++ t ∷ []) v (subst (λ (z : List Symbol). f.Begins z) long (o.whole w)))

-- what is whole is read to its value
pub all_complete : {A : Type 0} {f : Form A} {r : Reader A} {h : Shape} → Exact f r h → (ts : List Symbol) (x : A) → f.Whole ts x → all_of (r ts) ≡ Ok x
all_complete {A} {f} {r} {h} e ts x w = go (all_of (r ts)) (all_exact e ts)
  where
    go : (o : Result A ℕ) → MatchResult o (λ y. f.Whole ts y) (λ n. Fault f ts n) → o ≡ Ok x
    go (Ok y) p = let same : y ≡ x = e.orderly.only p w in cc
    go (Err n) p = absurd (fault_not_whole e.orderly ts n x p w)
