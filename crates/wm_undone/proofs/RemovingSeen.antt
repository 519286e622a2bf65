-- Versions without those of a workspace, under which no version of another one stands: what is told of a version of another workspace is
-- what was told.
use Rattle.std.proofs.Common.{◌≡◌, ◌≢◌, ℕ, ◌==◌, false, ◌||◌, cond, List, [], ◌∷◌, Option, Some, None, refl, sym, ap, subst, ◌∙◌, ◌⊎◌, inl, inr}
use Rattle.std.proofs.lemmas.Bool.{cases_eq, eq-eqb, ne_eqb}
use Rattle.std.specs.List.{filter}
use Rattle.std.specs.Option.{IfSome, option_or}
use Rattle.wm_period.specs.Pieces.{Held}
use Rattle.wm_spec.specs.Lists.{Cell}
use Rattle.wm_spec.specs.declared.record.piece.PieceRecord.{PieceRecord}
use Rattle.wm_tree.specs.Versions.{NoneUnder, is_outside, version_in}
use Rattle.wm_tree.specs.declared.version.Version.{Version as Node}
use Rattle.wm_tree.proofs.Paths.{version_in-away, version_in-here}
use Rattle.wm_state.specs.Standing.{first_in, is_above, own_at, seen_at, stored_at}

-- the version is none of the workspace's
abbrev pub IsOutside : ℕ → List Node → ℕ → Type 0
IsOutside n nodes v = IfSome (version_in nodes v) (λ (y : Node). y.space ≢ n)

-- each version of another workspace has at the cell what it had
abbrev pub StoredOut : ℕ → List PieceRecord → List PieceRecord → Cell → List Node → Type 0
StoredOut n old new c [] = Unit {0}
StoredOut n old new c (x ∷ older) = (x.space ≢ n → stored_at new x.number c ≡ stored_at old x.number c) × StoredOut n old new c older

-- ---- one step along a path

-- of a version that is none of the workspace's: it is the first of the list, which is of another workspace, and its parent is none of the
-- workspace's; or the first is another version, which stays or goes
data Step (n v : ℕ) (x : Node) (older : List Node) : Type 0 where
  Here : x.number ≡ v → x.space ≢ n → IsOutside n older x.parent → Step n v x older
  Other : x.number ≢ v → x.space ≢ n → IsOutside n older v → Step n v x older
  Inside : x.number ≢ v → x.space ≡ n → IsOutside n older v → Step n v x older

step : (n v : ℕ) (x : Node) (older : List Node) → NoneUnder n (x ∷ older) → IsOutside n (x ∷ older) v → Step n v x older
step n v x older apart out = by_number (cases_eq x.number v) (cases_eq x.space n)
  where
    is_other : Option Node → Type 0
    is_other o = IfSome o (λ (y : Node). y.space ≢ n)

    by_number : (x.number ≡ v) ⊎ (x.number ≢ v) → (x.space ≡ n) ⊎ (x.space ≢ n) → Step n v x older
    by_number (inl here) (inl inside) = absurd (subst is_other (version_in-here x older v here) out inside)
    by_number (inl here) (inr outside) = Here here outside (apart.0 outside)
    by_number (inr away) (inl inside) = Inside away inside (subst is_other (version_in-away x older v away) out)
    by_number (inr away) (inr outside) = Other away outside (subst is_other (version_in-away x older v away) out)

-- ---- what is told of it

pub seen-thin : (n : ℕ) (old new : List PieceRecord) (c : Cell) (nodes : List Node) → NoneUnder n nodes → StoredOut n old new c nodes → (v : ℕ) → IsOutside n nodes v
    → seen_at new (filter (is_outside n) nodes) v c ≡ seen_at old nodes v c
seen-thin n old new c [] apart same v out = refl
seen-thin n old new c (x ∷ older) apart same v out = by_step (step n v x older apart out) (λ u along. seen-thin n old new c older apart.1 same.1 u along)
  where
    by_step : Step n v x older → ((u : ℕ) → IsOutside n older u → seen_at new (filter (is_outside n) older) u c ≡ seen_at old older u c)
        → seen_at new (filter (is_outside n) (x ∷ older)) v c ≡ seen_at old (x ∷ older) v c
    by_step (Here here outside up) rest =
        rw (ne_eqb _ _ outside, eq-eqb _ _ here, rest x.parent up)
        (ap (λ o. option_or o (seen_at old older x.parent c)) (ap (λ k. stored_at new k c) (sym here) ∙ same.0 outside ∙ ap (λ k. stored_at old k c) here))
    by_step (Other away outside along) rest = rw (ne_eqb _ _ outside, ne_eqb _ _ away) (rest v along)
    by_step (Inside away inside along) rest = rw (eq-eqb _ _ inside, ne_eqb _ _ away) (rest v along)

pub own-thin : (n : ℕ) (old new : List PieceRecord) (c : Cell) (base : ℕ) (nodes : List Node) → NoneUnder n nodes → StoredOut n old new c nodes → (v : ℕ) → IsOutside n nodes v
    → own_at new (filter (is_outside n) nodes) base v c ≡ own_at old nodes base v c
own-thin n old new c base [] apart same v out = refl
own-thin n old new c base (x ∷ older) apart same v out = by_step (step n v x older apart out) (λ u along. own-thin n old new c base older apart.1 same.1 u along)
  where
    nothing : Option Held
    nothing = None

    -- a base is no path, wherever it is looked for
    at_base : (nodes : List Node) → v ≡ base → own_at new nodes base v c ≡ None
    at_base [] is = refl
    at_base (y ∷ ys) is = rw (eq-eqb _ _ is) refl

    above : v ≢ base → Step n v x older → ((u : ℕ) → IsOutside n older u → own_at new (filter (is_outside n) older) base u c ≡ own_at old older base u c)
        → own_at new (filter (is_outside n) (x ∷ older)) base v c ≡ own_at old (x ∷ older) base v c
    above other (Here here outside up) rest =
        rw (ne_eqb _ _ outside, ne_eqb _ _ other, eq-eqb _ _ here, rest x.parent up)
        (ap (λ o. option_or o (own_at old older base x.parent c)) (ap (λ k. stored_at new k c) (sym here) ∙ same.0 outside ∙ ap (λ k. stored_at old k c) here))
    above other (Other away outside along) rest = rw (ne_eqb _ _ outside, ne_eqb _ _ other, ne_eqb _ _ away) (rest v along)
    above other (Inside away inside along) rest = rw (eq-eqb _ _ inside, ne_eqb _ _ other, ne_eqb _ _ away) (rest v along)

    by_step : Step n v x older → ((u : ℕ) → IsOutside n older u → own_at new (filter (is_outside n) older) base u c ≡ own_at old older base u c)
        → own_at new (filter (is_outside n) (x ∷ older)) base v c ≡ own_at old (x ∷ older) base v c
    by_step s rest = by_base (cases_eq v base)
      where
        by_base : (v ≡ base) ⊎ (v ≢ base) → own_at new (filter (is_outside n) (x ∷ older)) base v c ≡ own_at old (x ∷ older) base v c
        by_base (inl is) = at_base (filter (is_outside n) (x ∷ older)) is ∙ sym (ap (λ b. cond b nothing (cond (x.number == v) (option_or (stored_at old v c) (own_at old older base x.parent c)) (own_at old older base v c))) (eq-eqb _ _ is))
        by_base (inr other) = above other s rest

pub above-thin : (n base k : ℕ) (nodes : List Node) → NoneUnder n nodes → (v : ℕ) → IsOutside n nodes v → is_above (filter (is_outside n) nodes) base v k ≡ is_above nodes base v k
above-thin n base k [] apart v out = refl
above-thin n base k (x ∷ older) apart v out = by_step (step n v x older apart out) (λ u along. above-thin n base k older apart.1 u along)
  where
    at_base : (nodes : List Node) → v ≡ base → is_above nodes base v k ≡ false
    at_base [] is = refl
    at_base (y ∷ ys) is = rw (eq-eqb _ _ is) refl

    above : v ≢ base → Step n v x older → ((u : ℕ) → IsOutside n older u → is_above (filter (is_outside n) older) base u k ≡ is_above older base u k)
        → is_above (filter (is_outside n) (x ∷ older)) base v k ≡ is_above (x ∷ older) base v k
    above other (Here here outside up) rest = rw (ne_eqb _ _ outside, ne_eqb _ _ other, eq-eqb _ _ here) (ap (λ b. (v == k) || b) (rest x.parent up))
    above other (Other away outside along) rest = rw (ne_eqb _ _ outside, ne_eqb _ _ other, ne_eqb _ _ away) (rest v along)
    above other (Inside away inside along) rest = rw (eq-eqb _ _ inside, ne_eqb _ _ other, ne_eqb _ _ away) (rest v along)

    by_step : Step n v x older → ((u : ℕ) → IsOutside n older u → is_above (filter (is_outside n) older) base u k ≡ is_above older base u k)
        → is_above (filter (is_outside n) (x ∷ older)) base v k ≡ is_above (x ∷ older) base v k
    by_step s rest = by_base (cases_eq v base)
      where
        by_base : (v ≡ base) ⊎ (v ≢ base) → is_above (filter (is_outside n) (x ∷ older)) base v k ≡ is_above (x ∷ older) base v k
        by_base (inl is) = at_base (filter (is_outside n) (x ∷ older)) is ∙ sym (at_base (x ∷ older) is)
        by_base (inr other) = above other s rest

pub first-thin : (n space : ℕ) (nodes : List Node) → NoneUnder n nodes → (v : ℕ) → IsOutside n nodes v → first_in (filter (is_outside n) nodes) space v ≡ first_in nodes space v
first-thin n space [] apart v out = refl
first-thin n space (x ∷ older) apart v out = by_step (step n v x older apart out) (λ u along. first-thin n space older apart.1 u along)
  where
    by_step : Step n v x older → ((u : ℕ) → IsOutside n older u → first_in (filter (is_outside n) older) space u ≡ first_in older space u)
        → first_in (filter (is_outside n) (x ∷ older)) space v ≡ first_in (x ∷ older) space v
    by_step (Here here outside up) rest = rw (ne_eqb _ _ outside, eq-eqb _ _ here) (ap (λ o. cond (x.space == space) (Some v) o) (rest x.parent up))
    by_step (Other away outside along) rest = rw (ne_eqb _ _ outside, ne_eqb _ _ away) (rest v along)
    by_step (Inside away inside along) rest = rw (eq-eqb _ _ inside, ne_eqb _ _ away) (rest v along)
