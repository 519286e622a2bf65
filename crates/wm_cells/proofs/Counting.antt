-- Items that are counted for each workspace, one by one.
use Rattle.std.proofs.Common.{◌≡◌, ℕ, ◌+◌, ◌<◌, ◌≤◌, ◌==◌, Bool, true, false, if◌then◌else◌, List, [], ◌∷◌, length, Some, refl, ap, ◌∙◌, arith, take, get_or}
use Rattle.std.proofs.lemmas.Bool.Decides.{Decides-eqb}
use Rattle.std.proofs.lemmas.List.{length-take}
use Rattle.std.proofs.lemmas.List.Sums.{count_by-le-length, sum_by-append}
use Rattle.std.specs.BTreeMap.{is_at}
use Rattle.std.specs.List.{count_by}
use Rattle.std.specs.Map.{lookup}
use Rattle.std.specs.Option.{unwrap_or}
use Rattle.std.specs.Ordering.{nat_cmp}
use Rattle.wm_cells.proofs.Finding.{at_nat}
use Rattle.wm_cells.proofs.Referring.{referred_more, length_referred}
use Rattle.wm_cells.specs.Lookups.{referred, counted}
use denote.Ref.{Bor}

-- for each workspace it is known how many items it has
abbrev pub Counts : {A : Type 0} → (A → ℕ) → List A → List (ℕ × ℕ) → Type 0
Counts space items entries = (n : ℕ) → counted entries n ≡ count_by (λ x. space x == n) items

-- no workspace has more of them than there are
pub counts_below : {A : Type 0} (space : A → ℕ) (xs : List (Bor A)) (i : ℕ) (entries : List (ℕ × ℕ)) (n count : ℕ) → Counts space (referred (take i xs)) entries → count ≡ counted entries n → count ≤ i
counts_below space xs i entries n count counts is =
    omega (arith, is ∙ counts n, count_by-le-length (λ x. space x == n) (referred (take i xs)), length_referred (take i xs), length-take i xs)

-- one more item
pub counts_more : {A : Type 0} (space : A → ℕ) (xs : List (Bor A)) (i : ℕ) (d : Bor A) (old new : List (ℕ × ℕ)) (k count : ℕ) → i < length xs → d ≡ get_or xs i d → k ≡ space d.now → Counts space (referred (take i xs)) old → count ≡ counted old k
    → ((n : ℕ) → lookup (is_at (nat_cmp n)) new ≡ (if is_at (nat_cmp k) n then Some (count + 1) else lookup (is_at (nat_cmp n)) old)) → Counts space (referred (take (i + 1) xs)) new
counts_more space xs i d old new k count within at named before is update n =
    rw (referred_more xs i d within, ← at, sum_by-append (λ x. if space x == n then 1 else 0) (referred (take i xs)) (d.now ∷ []), update n, at_nat k n, ← named)
    (by_test (k == n) refl)
  where
    here : ℕ → ℕ
    here m = count_by (λ x. space x == m) (referred (take i xs))

    by_test : (b : Bool) → (k == n) ≡ b → unwrap_or (if b then Some (count + 1) else lookup (is_at (nat_cmp n)) old) 0 ≡ here n + (0 + (if b then 1 else 0))
    by_test true e = omega (arith, is ∙ before k ∙ ap here ((Decides-eqb k n).0 e))
    by_test false e = omega (arith, before n)
