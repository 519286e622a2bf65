-- Of stretches that are as long as can be, those whose values pass a test are so too.
use Rattle.std.proofs.Common.{◌≡◌, ℕ, ◌<◌, ◌≤◌, ◌⊎◌, inl, inr, Bool, true, false, cond, List, [], ◌∷◌, Option, None, Some, refl, ap, ◌∙◌, arith}
use Rattle.std.proofs.lemmas.Bool.{ne_eqb}
use Rattle.std.specs.Bool.{then_some}
use Rattle.std.specs.List.{filter}
use Rattle.std.specs.Option.{option_and_then, option_or}
use Rattle.wm_net.proofs.Stretching.{Ordered-lower, le_or_lt, value_before, within_not_after}
use Rattle.wm_net.specs.Listed.{IsApart, IsJoined, Ordered, Stretch, value_at, within}

-- a stretch whose value passes
abbrev pub has : {A : Type 0} → (A → Bool) → Stretch A → Bool
has test s = test s.value

-- a value that passes
abbrev pub passed : {A : Type 0} → (A → Bool) → Option A → Option A
passed {A = A} test found = option_and_then (λ (x : A). then_some (test x) x) found

-- ---- their order

pub kept_ordered : {A : Type 0} (test : A → Bool) (low : ℕ) (ss : List (Stretch A)) → Ordered low ss → Ordered low (filter (has test) ss)
kept_ordered test low [] o = tt
kept_ordered {A = A} test low (s ∷ ss) o = by_test (test s.value) (kept_ordered test s.till ss o.2)
  where
    by_test : (b : Bool) → Ordered s.till (filter (has test) ss) → Ordered low (cond b (s ∷ filter (has test) ss) (filter (has test) ss))
    by_test true rest = (o.0, o.1, rest)
    by_test false rest = Ordered-lower low s.till (filter (has test) ss) (omega (arith, o.0, o.1)) rest

-- ---- neighbours

-- a stretch that ended before others begin is apart from them
far : {A : Type 0} (same : A → A → Bool) (test : A → Bool) (p : Stretch A) (low : ℕ) (ss : List (Stretch A)) → p.till < low → Ordered low ss → IsApart same p (filter (has test) ss)
far same test p low [] lt o = tt
far {A = A} same test p low (q ∷ ss) lt o = by_test (test q.value) (far same test p q.till ss (omega (arith, lt, o.0, o.1)) o.2)
  where
    by_test : (b : Bool) → IsApart same p (filter (has test) ss) → IsApart same p (cond b (q ∷ filter (has test) ss) (filter (has test) ss))
    by_test true rest = rw (ne_eqb p.till q.from (λ e. absurd (omega (arith, e, lt, o.0)))) refl
    by_test false rest = rest

kept_apart : {A : Type 0} (same : A → A → Bool) (test : A → Bool) (p : Stretch A) (ss : List (Stretch A)) → Ordered p.till ss → IsApart same p ss → IsApart same p (filter (has test) ss)
kept_apart same test p [] o apart = tt
kept_apart {A = A} same test p (q ∷ ss) o apart = by_test (test q.value) (far same test p q.till ss (omega (arith, o.0, o.1)) o.2)
  where
    by_test : (b : Bool) → IsApart same p (filter (has test) ss) → IsApart same p (cond b (q ∷ filter (has test) ss) (filter (has test) ss))
    by_test true rest = apart
    by_test false rest = rest

pub kept_joined : {A : Type 0} (same : A → A → Bool) (test : A → Bool) (low : ℕ) (ss : List (Stretch A)) → Ordered low ss → IsJoined same ss → IsJoined same (filter (has test) ss)
kept_joined same test low [] o j = tt
kept_joined {A = A} same test low (s ∷ ss) o j = by_test (test s.value) (kept_joined same test s.till ss o.2 j.1)
  where
    by_test : (b : Bool) → IsJoined same (filter (has test) ss) → IsJoined same (cond b (s ∷ filter (has test) ss) (filter (has test) ss))
    by_test true rest = (kept_apart same test s ss o.2 j.0, rest)
    by_test false rest = rest

-- ---- what they hold

-- the values of two stretches, of which at most one stands
both_kept : {A : Type 0} (test : A → Bool) (o : Option A) (w b : Bool) (x : A) → test x ≡ b → (w ≡ true → o ≡ None)
    → cond b (option_or (passed test o) (then_some w x)) (passed test o) ≡ passed test (option_or o (then_some w x))
both_kept test (Some y) true true x e alone = absurd (let it = alone refl in cc)
both_kept test (Some y) true false x e alone = absurd (let it = alone refl in cc)
both_kept {A = A} test (Some y) false true x e alone = by_test (test y)
  where
    nothing : Option A
    nothing = None

    by_test : (b : Bool) → option_or (then_some b y) nothing ≡ then_some b y
    by_test true = refl
    by_test false = refl
both_kept test (Some y) false false x e alone = refl
both_kept test None true true x e alone = rw e refl
both_kept test None true false x e alone = rw e refl
both_kept test None false true x e alone = refl
both_kept test None false false x e alone = refl

pub kept_value : {A : Type 0} (test : A → Bool) (low : ℕ) (ss : List (Stretch A)) → Ordered low ss → (t : ℕ) → value_at (filter (has test) ss) t ≡ passed test (value_at ss t)
kept_value test low [] o t = refl
kept_value {A = A} test low (s ∷ ss) o t =
    by_test (test s.value) (kept_value test s.till ss o.2 t) ∙ both_kept test (value_at ss t) (within s.from s.till t) (test s.value) s.value refl (λ w. alone w (le_or_lt s.till t))
  where
    by_test : (b : Bool) → value_at (filter (has test) ss) t ≡ passed test (value_at ss t)
        → value_at (cond b (s ∷ filter (has test) ss) (filter (has test) ss)) t ≡ cond b (option_or (passed test (value_at ss t)) (then_some (within s.from s.till t) s.value)) (passed test (value_at ss t))
    by_test true rest = ap (λ (o : Option A). option_or o (then_some (within s.from s.till t) s.value)) rest
    by_test false rest = rest

    alone : within s.from s.till t ≡ true → (s.till ≤ t) ⊎ (t < s.till) → value_at ss t ≡ None
    alone w (inl late) = absurd (let it = within_not_after s.from s.till t late in cc)
    alone w (inr early) = value_before s.till ss t o.2 early
