-- Versions, the newest first.
use Rattle.std.proofs.Common.{◌≡◌, ◌≢◌, ◌<◌, ◌≤◌, ℕ, Bool, true, false, cond, not, eqb, ◌==◌, max, List, [], ◌∷◌, Option, Some, None, refl, sym, ap, ◌∙◌, subst, arith, ◌⊎◌, inl, inr}
use Rattle.std.proofs.lemmas.Bool.{cases_lt, cases_eq, eq-eqb, and_parts, not-true, or_parts}
use Rattle.std.specs.List.{filter, list_any}
use Rattle.std.specs.Option.{IsSome, option_map}
use Rattle.wm_base.proofs.Plain.{eqb-turned, none_some}
use Rattle.wm_graph.specs.Parts.{version_of}
use Rattle.wm_graph.specs.Rules.{differ}
use Rattle.wm_spec.specs.declared.record.version.Version.{Version}
use Rattle.wm_state.specs.Standing.{newest_first, node_of}
use Rattle.wm_tree.specs.Versions.{version_in, latest_in, grow, AllBelow, IsTree}
use Rattle.wm_tree.specs.declared.version.Version.{Version as Node}
use Rattle.wm_tree.proofs.Growing.{grow-front, grow-later, version_in-grow, AllBelow-grow}
use Rattle.wm_tree.proofs.Paths.{version_in-away, AllBelow-more}
use Rattle.wm_index.specs.Kinds.{greatest}

-- ---- the newest of a space

-- no number is above
abbrev AtMost : ℕ → List Node → Type 0
AtMost n [] = Unit {0}
AtMost n (x ∷ xs) = (x.number ≤ n) × AtMost n xs

-- the numbers do not rise
abbrev Falls : List Node → Type 0
Falls [] = Unit {0}
Falls (x ∷ xs) = AtMost x.number xs × Falls xs

AtMost-more : (m n : ℕ) (xs : List Node) → m ≤ n → AtMost m xs → AtMost n xs
AtMost-more m n [] le most = tt
AtMost-more m n (x ∷ xs) le most = (omega (arith, le, most.0), AtMost-more m n xs le most.1)

AtMost-grow : (n : ℕ) (x : Node) (xs : List Node) → x.number ≤ n → AtMost n xs → AtMost n (grow x xs)
AtMost-grow n x [] le most = (le, tt)
AtMost-grow n x (y ∷ ys) le most = by_place (cases_lt y.number x.number) (AtMost-grow n x ys le most.1)
  where
    by_place : (y.number < x.number) ⊎ (x.number ≤ y.number) → AtMost n (grow x ys) → AtMost n (grow x (y ∷ ys))
    by_place (inl less) rest = rw (grow-front x y ys less) (le, most)
    by_place (inr more) rest = rw (grow-later x y ys more) (most.0, rest)

Falls-grow : (x : Node) (xs : List Node) → Falls xs → Falls (grow x xs)
Falls-grow x [] falls = (tt, tt)
Falls-grow x (y ∷ ys) falls = by_place (cases_lt y.number x.number) (Falls-grow x ys falls.1)
  where
    by_place : (y.number < x.number) ⊎ (x.number ≤ y.number) → Falls (grow x ys) → Falls (grow x (y ∷ ys))
    by_place (inl less) rest = rw (grow-front x y ys less) ((omega (arith, less), AtMost-more y.number x.number ys (omega (arith, less)) falls.0), falls)
    by_place (inr more) rest = rw (grow-later x y ys more) (AtMost-grow y.number x ys more falls.0, rest)

Falls-newest_first : (vs : List Version) → Falls (newest_first vs)
Falls-newest_first [] = tt
Falls-newest_first (v ∷ vs) = Falls-grow (node_of v) (newest_first vs) (Falls-newest_first vs)

latest_in-most : (n : ℕ) (xs : List Node) (s : ℕ) → AtMost n xs → latest_in xs s ≤ n
latest_in-most n [] s most = omega arith
latest_in-most n (x ∷ xs) s most = by_test (x.space == s) (latest_in-most n xs s most.1)
  where
    by_test : (b : Bool) → latest_in xs s ≤ n → cond b x.number (latest_in xs s) ≤ n
    by_test true rest = most.0
    by_test false rest = rest

latest_in-grow : (x : Node) (xs : List Node) (s : ℕ) → Falls xs → latest_in (grow x xs) s ≡ cond (x.space == s) (max x.number (latest_in xs s)) (latest_in xs s)
latest_in-grow x [] s falls = by_test (x.space == s)
  where
    by_test : (b : Bool) → cond b x.number 0 ≡ cond b (max x.number 0) 0
    by_test true = omega arith
    by_test false = refl
latest_in-grow x (y ∷ ys) s falls = by_place (cases_lt y.number x.number) (latest_in-grow x ys s falls.1)
  where
    last : ℕ
    last = latest_in ys s

    front : (b c : Bool) → y.number < x.number → last ≤ y.number → cond b x.number (cond c y.number last) ≡ cond b (max x.number (cond c y.number last)) (cond c y.number last)
    front true true less most = omega arith
    front true false less most = omega arith
    front false c less most = refl

    later : (b c : Bool) → x.number ≤ y.number → cond c y.number (cond b (max x.number last) last) ≡ cond b (max x.number (cond c y.number last)) (cond c y.number last)
    later true true more = omega arith
    later true false more = refl
    later false true more = refl
    later false false more = refl

    by_place : (y.number < x.number) ⊎ (x.number ≤ y.number) → latest_in (grow x ys) s ≡ cond (x.space == s) (max x.number last) last
        → latest_in (grow x (y ∷ ys)) s ≡ cond (x.space == s) (max x.number (latest_in (y ∷ ys) s)) (latest_in (y ∷ ys) s)
    by_place (inl less) rest = ap (λ l. latest_in l s) (grow-front x y ys less) ∙ front (x.space == s) (y.space == s) less (latest_in-most y.number ys s falls.0)
    by_place (inr more) rest = ap (λ l. latest_in l s) (grow-later x y ys more) ∙ ap (cond (y.space == s) y.number) rest ∙ later (x.space == s) (y.space == s) more

-- the newest version of a space has the greatest number of those that it has
pub latest_in-greatest : (vs : List Version) (s : ℕ) → latest_in (newest_first vs) s ≡ greatest (filter (λ (v : Version). v.space == s) vs)
latest_in-greatest [] s = refl
latest_in-greatest (v ∷ vs) s =
    latest_in-grow (node_of v) (newest_first vs) s (Falls-newest_first vs)
    ∙ ap (λ n. cond (v.space == s) (max v.number n) n) (latest_in-greatest vs s)
    ∙ by_test (v.space == s)
  where
    by_test : (b : Bool) → cond b (max v.number (greatest (filter (λ (w : Version). w.space == s) vs))) (greatest (filter (λ (w : Version). w.space == s) vs))
        ≡ greatest (cond b (v ∷ filter (λ (w : Version). w.space == s) vs) (filter (λ (w : Version). w.space == s) vs))
    by_test true = refl
    by_test false = refl

-- ---- versions of different numbers

-- the numbers fall
abbrev pub Descends : List Node → Type 0
Descends [] = Unit {0}
Descends (x ∷ xs) = AllBelow x.number xs × Descends xs

apart : (y : Node) (ys : List Node) (n : ℕ) → version_in (y ∷ ys) n ≡ None → (y.number ≢ n) × (version_in ys n ≡ None)
apart y ys n none = by_number (cases_eq y.number n)
  where
    by_number : (y.number ≡ n) ⊎ (y.number ≢ n) → (y.number ≢ n) × (version_in ys n ≡ None)
    by_number (inl here) = absurd (none_some (version_in (y ∷ ys) n) y none (ap (λ b. cond b (Some y) (version_in ys n)) (eq-eqb _ _ here)))
    by_number (inr away) = (away, sym (version_in-away y ys n away) ∙ none)

Descends-grow : (x : Node) (xs : List Node) → version_in xs x.number ≡ None → Descends xs → Descends (grow x xs)
Descends-grow x [] fresh falls = (tt, tt)
Descends-grow x (y ∷ ys) fresh falls = by_place (cases_lt y.number x.number) (apart y ys x.number fresh).0 (Descends-grow x ys (apart y ys x.number fresh).1 falls.1)
  where
    by_place : (y.number < x.number) ⊎ (x.number ≤ y.number) → y.number ≢ x.number → Descends (grow x ys) → Descends (grow x (y ∷ ys))
    by_place (inl less) other rest = rw (grow-front x y ys less) ((less, AllBelow-more y.number x.number ys (omega (arith, less)) falls.0), falls)
    by_place (inr more) other rest = rw (grow-later x y ys more) (AllBelow-grow x ys y.number (omega (arith, more, other)) falls.0, rest)

abbrev pub same_number : Version → Version → Bool
same_number v w = v.number == w.number

-- no other version has the number
fresh_of : (v : Version) (vs : List Version) → list_any (same_number v) vs ≡ false → version_of vs v.number ≡ None
fresh_of v [] none = refl
fresh_of v (w ∷ ws) none =
    let two = or_parts (v.number == w.number) (list_any (same_number v) ws) none in
    ap (λ b. cond b (Some w) (version_of ws v.number)) (eqb-turned v.number w.number two.0) ∙ fresh_of v ws two.1

map-cond : (b : Bool) (v : Version) (o : Option Version) → option_map node_of (cond b (Some v) o) ≡ cond b (Some (node_of v)) (option_map node_of o)
map-cond true v o = refl
map-cond false v o = refl

-- the version of a number, among all and among those in order
pub version_in-newest : (vs : List Version) → differ same_number vs ≡ true → (n : ℕ) → version_in (newest_first vs) n ≡ option_map node_of (version_of vs n)
version_in-newest [] apart n = refl
version_in-newest (v ∷ vs) apart n =
    let two = and_parts (not (list_any (same_number v) vs)) (differ same_number vs) apart in
    version_in-grow (node_of v) (newest_first vs) n
    (version_in-newest vs two.1 v.number ∙ ap (option_map node_of) (fresh_of v vs (not-true (list_any (same_number v) vs) two.0)))
    ∙ ap (cond (eqb v.number n) (Some (node_of v))) (version_in-newest vs two.1 n)
    ∙ sym (map-cond (eqb v.number n) v (version_of vs n))

pub Descends-newest : (vs : List Version) → differ same_number vs ≡ true → Descends (newest_first vs)
Descends-newest [] apart = tt
Descends-newest (v ∷ vs) apart =
    let two = and_parts (not (list_any (same_number v) vs)) (differ same_number vs) apart in
    Descends-grow (node_of v) (newest_first vs)
    (version_in-newest vs two.1 v.number ∙ ap (option_map node_of) (fresh_of v vs (not-true (list_any (same_number v) vs) two.0)))
    (Descends-newest vs two.1)

-- ---- the rules of versions

-- a version has a number, and its parent is older and is there
pub record Stands (all : List Node) (x : Node) : Type 0 where
  pub named : 0 < x.number
  pub older : x.parent ≢ 0 → x.parent < x.number
  pub under : x.parent ≢ 0 → IsSome (version_in all x.parent)

abbrev pub AllStand : List Node → List Node → Type 0
AllStand all [] = Unit {0}
AllStand all (x ∷ xs) = Stands all x × AllStand all xs

pub AllStand-grow : (all : List Node) (x : Node) (xs : List Node) → Stands all x → AllStand all xs → AllStand all (grow x xs)
AllStand-grow all x [] one rest = (one, tt)
AllStand-grow all x (y ∷ ys) one rest = by_place (cases_lt y.number x.number) (AllStand-grow all x ys one rest.1)
  where
    by_place : (y.number < x.number) ⊎ (x.number ≤ y.number) → AllStand all (grow x ys) → AllStand all (grow x (y ∷ ys))
    by_place (inl less) more = rw (grow-front x y ys less) (one, rest)
    by_place (inr less) more = rw (grow-later x y ys less) (rest.0, more)

-- the older ones stand without the newest
AllStand-older : (x : Node) (older ys : List Node) → AllBelow x.number ys → AllStand (x ∷ older) ys → AllStand older ys
AllStand-older x older [] below stand = tt
AllStand-older x older (y ∷ ys) below stand = (
  record {
    named = stand.0.named;
    older = stand.0.older;
    under = λ some.
        subst IsSome (version_in-away x older y.parent (λ e. absurd (let less = stand.0.older some in let lt = below.0 in omega arith))) (stand.0.under some);
  },
  AllStand-older x older ys below.1 stand.1,
)

pub tree_of : (xs : List Node) → Descends xs → AllStand xs xs → IsTree xs
tree_of [] falls stand = tt
tree_of (x ∷ older) falls stand = (
  stand.0.named,
  falls.0,
  λ some.
      subst IsSome (version_in-away x older x.parent (λ e. absurd (let less = stand.0.older some in omega arith))) (stand.0.under some),
  tree_of older falls.1 (AllStand-older x older older falls.0 stand.1),
)
