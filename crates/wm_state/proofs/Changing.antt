-- A workspace that was changed, among the others.
use Rattle.std.proofs.Common.{◌≡◌, ◌≢◌, ℕ, suc, Bool, true, false, not, ◌&&◌, ◌||◌, cond, List, [], ◌∷◌, length, Option, Some, None, refl, sym, ap, ◌∙◌, ◌==◌, ◌⊎◌, inl, inr, ⊎_elim}
use Rattle.std.proofs.lemmas.Bool.{cases_eq, eq-eqb, ne_eqb}
use Rattle.std.proofs.lemmas.Option.{same_Some}
use Rattle.std.specs.List.{list_any}
use Rattle.std.specs.Option.{option_map}
use Rattle.wm_base.proofs.Plain.{none_some}
use Rattle.wm_graph.specs.Rules.{differ}
use Rattle.wm_state.specs.State.{Workspace, workspace_of, with_space}

-- what is found after a change that keeps the number
pub workspace_of-changed : (n : ℕ) (act : Workspace → Workspace) → ((w : Workspace) → (act w).number ≡ w.number) → (ws : List Workspace) (m : ℕ)
    → workspace_of (with_space n act ws) m ≡ cond (m == n) (option_map act (workspace_of ws m)) (workspace_of ws m)
workspace_of-changed n act same [] m = by_test (m == n)
  where
    nothing : Option Workspace
    nothing = None

    by_test : (b : Bool) → nothing ≡ cond b (option_map act nothing) nothing
    by_test true = refl
    by_test false = refl
workspace_of-changed n act same (w ∷ ws) m = by_number (cases_eq w.number n) (cases_eq m n) (cases_eq w.number m) (workspace_of-changed n act same ws m)
  where
    kept : (act w).number == m ≡ (w.number == m)
    kept = ap (λ (k : ℕ). k == m) (same w)

    by_number : (w.number ≡ n) ⊎ (w.number ≢ n) → (m ≡ n) ⊎ (m ≢ n) → (w.number ≡ m) ⊎ (w.number ≢ m)
        → workspace_of (with_space n act ws) m ≡ cond (m == n) (option_map act (workspace_of ws m)) (workspace_of ws m)
        → workspace_of (with_space n act (w ∷ ws)) m ≡ cond (m == n) (option_map act (workspace_of (w ∷ ws) m)) (workspace_of (w ∷ ws) m)
    by_number (inl here) (inl that) (inl found) rest = rw (eq-eqb _ _ here, eq-eqb _ _ that, kept, eq-eqb _ _ found) refl
    by_number (inl here) (inl that) (inr away) rest = absurd (away (here ∙ sym that))
    by_number (inl here) (inr other) (inl found) rest = absurd (other (sym found ∙ here))
    by_number (inl here) (inr other) (inr away) rest = rw (eq-eqb _ _ here, ne_eqb _ _ other, kept, ne_eqb _ _ away) refl
    by_number (inr apart) (inl that) (inl found) rest = absurd (apart (found ∙ that))
    by_number (inr apart) (inl that) (inr away) rest = rw (ne_eqb _ _ apart, ne_eqb _ _ away) rest
    by_number (inr apart) (inr other) (inl found) rest = rw (ne_eqb _ _ apart, ne_eqb _ _ other, eq-eqb _ _ found) refl
    by_number (inr apart) (inr other) (inr away) rest = rw (ne_eqb _ _ apart, ne_eqb _ _ away) rest

-- a workspace of after is one of before, changed where it is the one
pub record WasChanged (n : ℕ) (act : Workspace → Workspace) (ws : List Workspace) (m : ℕ) (new : Workspace) : Type 0 where
  pub old : Workspace
  pub is : workspace_of ws m ≡ Some old
  pub how : ((m ≡ n) × (new ≡ act old)) ⊎ ((m ≢ n) × (new ≡ old))

pub was_changed : (n : ℕ) (act : Workspace → Workspace) → ((w : Workspace) → (act w).number ≡ w.number) → (ws : List Workspace) (m : ℕ) (new : Workspace)
    → workspace_of (with_space n act ws) m ≡ Some new → WasChanged n act ws m new
was_changed n act same ws m new is = by_number (cases_eq m n) (workspace_of ws m) refl
  where
    here_is : m ≡ n → workspace_of (with_space n act ws) m ≡ option_map act (workspace_of ws m)
    here_is here = workspace_of-changed n act same ws m ∙ ap (λ b. cond b (option_map act (workspace_of ws m)) (workspace_of ws m)) (eq-eqb _ _ here)

    away_is : m ≢ n → workspace_of (with_space n act ws) m ≡ workspace_of ws m
    away_is away = workspace_of-changed n act same ws m ∙ ap (λ b. cond b (option_map act (workspace_of ws m)) (workspace_of ws m)) (ne_eqb _ _ away)

    by_number : (m ≡ n) ⊎ (m ≢ n) → (o : Option Workspace) → workspace_of ws m ≡ o → WasChanged n act ws m new
    by_number (inl here) None found = absurd (none_some (workspace_of (with_space n act ws) m) new (here_is here ∙ ap (option_map act) found) is)
    by_number (inl here) (Some w) found = record { old = w; is = found; how = inl (here, same_Some new (act w) (sym is ∙ here_is here ∙ ap (option_map act) found)) }
    by_number (inr away) None found = absurd (none_some (workspace_of (with_space n act ws) m) new (away_is away ∙ found) is)
    by_number (inr away) (Some w) found = record { old = w; is = found; how = inr (away, same_Some new w (sym is ∙ away_is away ∙ found)) }

-- what is told of it but for its change is what was told
pub told_still : {A : Type 0} (n : ℕ) (act : Workspace → Workspace) (ws : List Workspace) (m : ℕ) (new : Workspace) (f : Workspace → A) → ((w : Workspace) → f (act w) ≡ f w) → (y : WasChanged n act ws m new) → f new ≡ f y.old
told_still n act ws m new f same y = ⊎_elim (λ (h : (m ≡ n) × (new ≡ act y.old)). ap f h.1 ∙ same y.old) (λ (h : (m ≢ n) × (new ≡ y.old)). ap f h.1) y.how

-- a change that keeps the number keeps how many there are
pub length-changed : (n : ℕ) (act : Workspace → Workspace) (ws : List Workspace) → length (with_space n act ws) ≡ length ws
length-changed n act [] = refl
length-changed n act (w ∷ ws) = by_test (w.number == n) (length-changed n act ws)
  where
    by_test : (b : Bool) → length (with_space n act ws) ≡ length ws → length (cond b (act w ∷ ws) (w ∷ with_space n act ws)) ≡ length (w ∷ ws)
    by_test true rest = refl
    by_test false rest = ap suc rest

any-changed : (n : ℕ) (act : Workspace → Workspace) → ((w : Workspace) → (act w).number ≡ w.number) → (ws : List Workspace) (k : ℕ)
    → list_any (λ (v : Workspace). k == v.number) (with_space n act ws) ≡ list_any (λ (v : Workspace). k == v.number) ws
any-changed n act same [] k = refl
any-changed n act same (w ∷ ws) k = by_test (w.number == n) (any-changed n act same ws k)
  where
    is_k : Workspace → Bool
    is_k v = k == v.number

    by_test : (b : Bool) → list_any is_k (with_space n act ws) ≡ list_any is_k ws → list_any is_k (cond b (act w ∷ ws) (w ∷ with_space n act ws)) ≡ list_any is_k (w ∷ ws)
    by_test true rest = ap (λ m. (k == m) || list_any is_k ws) (same w)
    by_test false rest = ap (λ b. (k == w.number) || b) rest

-- and whether their numbers differ
pub differ-changed : (n : ℕ) (act : Workspace → Workspace) → ((w : Workspace) → (act w).number ≡ w.number) → (ws : List Workspace)
    → differ (λ (v w : Workspace). v.number == w.number) (with_space n act ws) ≡ differ (λ (v w : Workspace). v.number == w.number) ws
differ-changed n act same [] = refl
differ-changed n act same (w ∷ ws) = by_test (w.number == n) (any-changed n act same ws w.number) (differ-changed n act same ws)
  where
    one_number : Workspace → Workspace → Bool
    one_number v w = v.number == w.number

    by_test : (b : Bool) → list_any (one_number w) (with_space n act ws) ≡ list_any (one_number w) ws → differ one_number (with_space n act ws) ≡ differ one_number ws
        → differ one_number (cond b (act w ∷ ws) (w ∷ with_space n act ws)) ≡ differ one_number (w ∷ ws)
    by_test true none rest = ap (λ m. not (list_any (λ (v : Workspace). m == v.number) ws) && differ one_number ws) (same w)
    by_test false none rest = rw (none, rest) refl
