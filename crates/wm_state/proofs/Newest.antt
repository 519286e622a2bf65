-- The versions of the records as a list that begins with the newest.
use Rattle.std.proofs.Common.{◌≡◌, ◌≢◌, ℕ, ◌<◌, ◌==◌, nat_lt, Bool, true, false, not, ◌&&◌, ◌||◌, cond, List, [], ◌∷◌, Some, refl, sym, ap, ◌∙◌, ◌⊎◌, inl, inr, arith}
use Rattle.std.proofs.lemmas.Bool.{cases_eq, eq-eqb, ne_eqb, and_parts, ltb-true, not-true, or_parts, true≢false}
use Rattle.std.specs.List.{list_any}
use Rattle.std.specs.Option.{option_map}
use Rattle.wm_base.proofs.Plain.{eqb-turned, not_less, or_swap}
use Rattle.wm_graph.specs.Parts.{version_of, has_version}
use Rattle.wm_graph.specs.Rules.{differ}
use Rattle.wm_spec.specs.declared.record.version.Version.{Version}
use Rattle.wm_tree.specs.Versions.{grow, version_in, latest_in, AllBelow}
use Rattle.wm_tree.specs.declared.version.Version.{Version as Node}
use Rattle.wm_state.specs.Standing.{node_of, newest_first}
use Rattle.wm_state.specs.Effects.{is_there}

-- each number is below the one before it
abbrev pub Descend : List Node → Type 0
Descend [] = Unit {0}
Descend (x ∷ older) = AllBelow x.number older × Descend older

pub AllBelow-less : (m n : ℕ) (ns : List Node) → m < n → AllBelow m ns → AllBelow n ns
AllBelow-less m n [] lt below = tt
AllBelow-less m n (x ∷ ns) lt below = (omega (arith, lt, below.0), AllBelow-less m n ns lt below.1)

pub AllBelow-grow : (m : ℕ) (x : Node) (ns : List Node) → x.number < m → AllBelow m ns → AllBelow m (grow x ns)
AllBelow-grow m x [] lt below = (lt, tt)
AllBelow-grow m x (y ∷ ns) lt below = by_test (nat_lt y.number x.number) (AllBelow-grow m x ns lt below.1)
  where
    by_test : (b : Bool) → AllBelow m (grow x ns) → AllBelow m (cond b (x ∷ y ∷ ns) (y ∷ grow x ns))
    by_test true rest = (lt, below)
    by_test false rest = (below.0, rest)

-- a number is none of these
abbrev is_new : ℕ → List Node → Bool
is_new number [] = true
is_new number (x ∷ ns) = not (x.number == number) && is_new number ns

Descend-grow : (x : Node) (ns : List Node) → is_new x.number ns ≡ true → Descend ns → Descend (grow x ns)
Descend-grow x [] new down = (tt, tt)
Descend-grow x (y ∷ ns) new down = by_test (nat_lt y.number x.number) refl (and_parts (not (y.number == x.number)) (is_new x.number ns) new) (Descend-grow x ns (and_parts (not (y.number == x.number)) (is_new x.number ns) new).1 down.1)
  where
    apart : (not (y.number == x.number)) ≡ true → y.number ≢ x.number
    apart h same = true≢false (sym (eq-eqb _ _ same) ∙ not-true (y.number == x.number) h)

    by_test : (b : Bool) → nat_lt y.number x.number ≡ b → ((not (y.number == x.number)) ≡ true) × (is_new x.number ns ≡ true) → Descend (grow x ns) → Descend (cond b (x ∷ y ∷ ns) (y ∷ grow x ns))
    by_test true e h rest = ((ltb-true y.number x.number e, AllBelow-less y.number x.number ns (ltb-true y.number x.number e) down.0), down)
    by_test false e h rest = (AllBelow-grow y.number x ns (not_less y.number x.number e (apart h.0)) down.0, rest)

-- the version of a number among those that one was put to
version_in-grow : (x : Node) (ns : List Node) (n : ℕ) → is_new x.number ns ≡ true → version_in (grow x ns) n ≡ version_in (x ∷ ns) n
version_in-grow x [] n new = refl
version_in-grow x (y ∷ ns) n new = by_test (nat_lt y.number x.number) (and_parts (not (y.number == x.number)) (is_new x.number ns) new) (version_in-grow x ns n (and_parts (not (y.number == x.number)) (is_new x.number ns) new).1)
  where
    by_number : (not (y.number == x.number)) ≡ true → (y.number ≡ n) ⊎ (y.number ≢ n) → (x.number ≡ n) ⊎ (x.number ≢ n)
        → cond (y.number == n) (Some y) (cond (x.number == n) (Some x) (version_in ns n)) ≡ cond (x.number == n) (Some x) (cond (y.number == n) (Some y) (version_in ns n))
    by_number apart (inl here) (inl there) = absurd (true≢false (sym (eq-eqb _ _ (here ∙ sym there)) ∙ not-true (y.number == x.number) apart))
    by_number apart (inl here) (inr away) = rw (eq-eqb _ _ here, ne_eqb _ _ away) refl
    by_number apart (inr other) (inl there) = rw (ne_eqb _ _ other, eq-eqb _ _ there) refl
    by_number apart (inr other) (inr away) = rw (ne_eqb _ _ other, ne_eqb _ _ away) refl

    by_test : (b : Bool) → ((not (y.number == x.number)) ≡ true) × (is_new x.number ns ≡ true) → version_in (grow x ns) n ≡ version_in (x ∷ ns) n
        → version_in (cond b (x ∷ y ∷ ns) (y ∷ grow x ns)) n ≡ version_in (x ∷ y ∷ ns) n
    by_test true h rest = refl
    by_test false h rest = ap (λ o. cond (y.number == n) (Some y) o) rest ∙ by_number h.0 (cases_eq y.number n) (cases_eq x.number n)

is_new-grow : (m : ℕ) (x : Node) (ns : List Node) → (x.number == m) ≡ false → is_new m ns ≡ true → is_new m (grow x ns) ≡ true
is_new-grow m x [] apart new = rw apart refl
is_new-grow m x (y ∷ ns) apart new = by_test (nat_lt y.number x.number) (and_parts (not (y.number == m)) (is_new m ns) new) (is_new-grow m x ns apart (and_parts (not (y.number == m)) (is_new m ns) new).1)
  where
    by_test : (b : Bool) → ((not (y.number == m)) ≡ true) × (is_new m ns ≡ true) → is_new m (grow x ns) ≡ true → is_new m (cond b (x ∷ y ∷ ns) (y ∷ grow x ns)) ≡ true
    by_test true h rest = rw apart new
    by_test false h rest = rw (h.0, rest) refl

abbrev pub numbers_differ : List Version → Type 0
numbers_differ vs = differ (λ (v w : Version). v.number == w.number) vs ≡ true

newest-new : (m : ℕ) (vs : List Version) → list_any (λ (w : Version). m == w.number) vs ≡ false → is_new m (newest_first vs) ≡ true
newest-new m [] e = refl
newest-new m (v ∷ vs) e =
    let h = or_parts (m == v.number) (list_any (λ (w : Version). m == w.number) vs) e in
    is_new-grow m (node_of v) (newest_first vs) (eqb-turned m v.number h.0) (newest-new m vs h.1)

pub Descend-newest : (vs : List Version) → numbers_differ vs → Descend (newest_first vs)
Descend-newest [] e = tt
Descend-newest (v ∷ vs) e =
    let h = and_parts (not (list_any (λ (w : Version). v.number == w.number) vs)) (differ (λ (v w : Version). v.number == w.number) vs) e in
    Descend-grow (node_of v) (newest_first vs) (newest-new v.number vs (not-true (list_any (λ (w : Version). v.number == w.number) vs) h.0)) (Descend-newest vs h.1)

-- a version is found as its record is
pub version_in-newest : (vs : List Version) → numbers_differ vs → (n : ℕ) → version_in (newest_first vs) n ≡ option_map node_of (version_of vs n)
version_in-newest [] e n = refl
version_in-newest (v ∷ vs) e n =
    let h = and_parts (not (list_any (λ (w : Version). v.number == w.number) vs)) (differ (λ (v w : Version). v.number == w.number) vs) e in
    version_in-grow (node_of v) (newest_first vs) n (newest-new v.number vs (not-true (list_any (λ (w : Version). v.number == w.number) vs) h.0))
    ∙ by_test (v.number == n) (version_in-newest vs h.1 n)
  where
    by_test : (b : Bool) → version_in (newest_first vs) n ≡ option_map node_of (version_of vs n)
        → cond b (Some (node_of v)) (version_in (newest_first vs) n) ≡ option_map node_of (cond b (Some v) (version_of vs n))
    by_test true rest = refl
    by_test false rest = rest

-- ---- the newest version of a workspace

any-grow : (P : Node → Bool) (x : Node) (ns : List Node) → list_any P (grow x ns) ≡ (P x || list_any P ns)
any-grow P x [] = refl
any-grow P x (y ∷ ns) = by_test (nat_lt y.number x.number) (any-grow P x ns)
  where
    by_test : (b : Bool) → list_any P (grow x ns) ≡ (P x || list_any P ns) → list_any P (cond b (x ∷ y ∷ ns) (y ∷ grow x ns)) ≡ (P x || (P y || list_any P ns))
    by_test true rest = refl
    by_test false rest = ap (λ t. P y || t) rest ∙ or_swap (P y) (P x) (list_any P ns)

-- a workspace has a version among the nodes as it has one among the records
pub has-newest : (vs : List Version) (n : ℕ) → list_any (λ (x : Node). x.space == n) (newest_first vs) ≡ has_version vs n
has-newest [] n = refl
has-newest (v ∷ vs) n = any-grow (λ (x : Node). x.space == n) (node_of v) (newest_first vs) ∙ ap (λ t. (v.space == n) || t) (has-newest vs n)

-- the newest version of a workspace, where it has one
pub record IsNewest (nodes : List Node) (n : ℕ) : Type 0 where
  pub node : Node
  pub found : version_in nodes (latest_in nodes n) ≡ Some node
  pub space : node.space ≡ n
  pub number : node.number ≡ latest_in nodes n
  pub there : is_there (latest_in nodes n) nodes ≡ true

pub below-apart : (m : ℕ) (ns : List Node) (k : ℕ) (y : Node) → AllBelow m ns → version_in ns k ≡ Some y → k ≢ m
below-apart m [] k y below found = cc
below-apart m (x ∷ ns) k y below found = by_number (cases_eq x.number k) (λ e. below-apart m ns k y below.1 e)
  where
    by_number : (x.number ≡ k) ⊎ (x.number ≢ k) → (version_in ns k ≡ Some y → k ≢ m) → k ≢ m
    by_number (inl here) rest = λ same. omega (arith, below.0, here, same)
    by_number (inr other) rest = rest (sym (ap (λ b. cond b (Some x) (version_in ns k)) (ne_eqb _ _ other)) ∙ found)

pub newest_there : (nodes : List Node) (n : ℕ) → Descend nodes → list_any (λ (x : Node). x.space == n) nodes ≡ true → IsNewest nodes n
newest_there [] n down has = absurd (true≢false (sym has))
newest_there (x ∷ older) n down has = by_space (cases_eq x.space n) (newest_there older n down.1)
  where
    by_space : (x.space ≡ n) ⊎ (x.space ≢ n) → (list_any (λ (x : Node). x.space == n) older ≡ true → IsNewest older n) → IsNewest (x ∷ older) n
    by_space (inl same) rest = record {
      node = x;
      found = rw (eq-eqb _ _ same, eq-eqb x.number x.number refl) refl;
      space = same;
      number = rw (eq-eqb _ _ same) refl;
      there = rw (eq-eqb _ _ same, eq-eqb x.number x.number refl) refl;
    }
    by_space (inr other) rest =
        let r = rest (sym (ap (λ b. b || list_any (λ (x : Node). x.space == n) older) (ne_eqb _ _ other)) ∙ has) in
        let away : (x.number == latest_in older n) ≡ false = ne_eqb _ _ (λ e. below-apart x.number older (latest_in older n) r.node down.0 r.found (sym e)) in
        let same : latest_in (x ∷ older) n ≡ latest_in older n = ap (λ b. cond b x.number (latest_in older n)) (ne_eqb _ _ other) in
        record {
          node = r.node;
          found = ap (version_in (x ∷ older)) same ∙ ap (λ b. cond b (Some x) (version_in older (latest_in older n))) away ∙ r.found;
          space = r.space;
          number = r.number ∙ sym same;
          there = ap (λ k. is_there k (x ∷ older)) same ∙ ap (λ b. cond b true (is_there (latest_in older n) older)) away ∙ r.there;
        }
