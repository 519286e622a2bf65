-- The rules hold of the records with another record of a workspace in the place of its own, where both have one number, name and
-- parent, and see the same versions.
use Rattle.std.proofs.Common.{◌≡◌, ◌≢◌, ℕ, ◌^◌, ◌==◌, nat_lt, nat_le, Bool, true, false, not, ◌&&◌, ◌||◌, cond, if◌then◌else◌, List, [], ◌∷◌, ◌++◌, Option, Some, None, is_some, refl, sym, ap, ◌∙◌, length, length-append}
use Rattle.std.proofs.lemmas.Bool.{eq-eqb, ne_eqb, and_from, and_parts, not-true, or_parts, true≢false}
use Rattle.std.specs.List.{list_all, list_any, find}
use Rattle.std.specs.Option.{option_map_or}
use Rattle.std.specs.Str.{bytes_eq}
use Rattle.wm_graph.specs.Parts.{Parts, space_of, version_of, has_version}
use Rattle.wm_graph.specs.Rules.{are_spaces, is_space, is_placed, is_short, are_versions, is_version, is_version_of, has_versions, stands_under, differ}
use Rattle.wm_spec.specs.declared.record.space.Space.{Space}
use Rattle.wm_spec.specs.declared.record.version.Version.{Version}
use Rattle.wm_state.proofs.Tests.{all_if, all_swap, all_middle, differ_swap, some_swap}

-- ---- one in the place of another

-- what is asked of the one that is found holds of the one in its place
found_if : {A : Type 0} (P f g : A → Bool) (a b : A) → P b ≡ P a → ((x : A) → f x ≡ true → g x ≡ true) → (f a ≡ true → g b ≡ true) → (front back : List A)
    → option_map_or f (find P (front ++ a ∷ back)) false ≡ true → option_map_or g (find P (front ++ b ∷ back)) false ≡ true
found_if {A = A} P f g a b same to new [] back = by_test (P a) same
  where
    other : (o : Option A) → option_map_or f o false ≡ true → option_map_or g o false ≡ true
    other None e = absurd (true≢false (sym e))
    other (Some x) e = to x e

    by_test : (t : Bool) → P b ≡ t → option_map_or f (cond t (Some a) (find P back)) false ≡ true → option_map_or g (cond (P b) (Some b) (find P back)) false ≡ true
    by_test true h e = rw h (new e)
    by_test false h e = rw h (other (find P back) e)
found_if P f g a b same to new (x ∷ front) back = by_test (P x) (found_if P f g a b same to new front back)
  where
    by_test : (t : Bool) → (option_map_or f (find P (front ++ a ∷ back)) false ≡ true → option_map_or g (find P (front ++ b ∷ back)) false ≡ true)
        → option_map_or f (cond t (Some x) (find P (front ++ a ∷ back))) false ≡ true → option_map_or g (cond t (Some x) (find P (front ++ b ∷ back))) false ≡ true
    by_test true rest e = to x e
    by_test false rest e = rest e

-- none before it is the same
before-none : {A : Type 0} (same : A → A → Bool) (front back : List A) (a : A) → differ same (front ++ a ∷ back) ≡ true → list_any (λ y. same y a) front ≡ false
before-none same [] back a e = refl
before-none same (y ∷ front) back a e =
    let h = and_parts (not (list_any (same y) (front ++ a ∷ back))) (differ same (front ++ a ∷ back)) e in
    rw (middle-none (same y) front back a (not-true (list_any (same y) (front ++ a ∷ back)) h.0), before-none same front back a h.1) refl
  where
    middle-none : {A : Type 0} (P : A → Bool) (front back : List A) (a : A) → list_any P (front ++ a ∷ back) ≡ false → P a ≡ false
    middle-none P [] back a e = (or_parts (P a) (list_any P back) e).0
    middle-none P (z ∷ front) back a e = middle-none P front back a (or_parts (P z) (list_any P (front ++ a ∷ back)) e).1

find-middle : {A : Type 0} (P : A → Bool) (front back : List A) (a : A) → list_any P front ≡ false → P a ≡ true → find P (front ++ a ∷ back) ≡ Some a
find-middle P [] back a none is = rw is refl
find-middle P (y ∷ front) back a none is = let h = or_parts (P y) (list_any P front) none in rw h.0 (find-middle P front back a h.1 is)

find-past : {A : Type 0} (P : A → Bool) (front back : List A) (a b : A) → P a ≡ false → P b ≡ false → find P (front ++ b ∷ back) ≡ find P (front ++ a ∷ back)
find-past P [] back a b e f = rw (e, f) refl
find-past P (y ∷ front) back a b e f = ap (λ o. cond (P y) (Some y) o) (find-past P front back a b e f)

-- ---- records of one workspace

-- the second may stand in the place of the first
pub record MayReplace (a b : Space) : Type 0 where
  pub number : b.number ≡ a.number
  pub name : b.name ≡ a.name
  pub parent : b.parent ≡ a.parent
  pub birth : b.birth_version ≡ a.birth_version
  pub base : b.base_version ≡ a.base_version

-- what a workspace's own record is asked, but for where it stands
abbrev pub is_counted : Space → Bool
is_counted s = is_short s.writer && (nat_le 1 s.next_place && (nat_le 1 s.next_implicit && nat_le s.log_length (2 ^ 62)))

-- a record of a number is there as before
placed_same : (front back : List Space) (a b s : Space) → MayReplace a b → is_placed (space_of (front ++ b ∷ back)) s ≡ is_placed (space_of (front ++ a ∷ back)) s
placed_same front back a b s may = rw (some_swap (λ (x : Space). x.number == s.parent) a b (ap (λ k. k == s.parent) may.number) front back) refl

placed_alike : (spaces : ℕ → Option Space) (a b : Space) → MayReplace a b → is_placed spaces b ≡ is_placed spaces a
placed_alike spaces a b may = rw (may.number, may.name, may.parent) refl

space_if : (front back : List Space) (a b s : Space) → MayReplace a b → is_space (space_of (front ++ a ∷ back)) s ≡ true → is_space (space_of (front ++ b ∷ back)) s ≡ true
space_if front back a b s may e = rw (placed_same front back a b s may) e

space_replaced : (spaces : ℕ → Option Space) (a b : Space) → MayReplace a b → is_counted b ≡ true → is_space spaces a ≡ true → is_space spaces b ≡ true
space_replaced spaces a b may counted e =
    let c = and_parts (is_short b.writer) _ counted in
    let h = and_parts (is_placed spaces a && (is_short a.name && is_short a.writer)) _ e in
    let g = and_parts (is_placed spaces a) (is_short a.name && is_short a.writer) h.0 in
    let k = and_parts (is_short a.name) (is_short a.writer) g.1 in
    and_from (is_placed spaces b && (is_short b.name && is_short b.writer)) _
    (and_from (is_placed spaces b) (is_short b.name && is_short b.writer) (placed_alike spaces a b may ∙ g.0) (and_from (is_short b.name) (is_short b.writer) (ap is_short may.name ∙ k.0) c.0))
    c.1

pub spaces_replaced : (front back : List Space) (a b : Space) → MayReplace a b → is_counted b ≡ true → are_spaces (front ++ a ∷ back) ≡ true → are_spaces (front ++ b ∷ back) ≡ true
spaces_replaced front back a b may counted e =
    let old = front ++ a ∷ back in
    let new = front ++ b ∷ back in
    let first = and_parts (nat_le (length old) 1024 && is_some (space_of old 0)) _ e in
    let sized = and_parts (nat_le (length old) 1024) (is_some (space_of old 0)) first.0 in
    let numbers = and_parts (differ (λ (s t : Space). s.number == t.number) old) _ first.1 in
    let names = and_parts (differ (λ (s t : Space). bytes_eq s.name t.name) old) (list_all (is_space (space_of old)) old) numbers.1 in
    and_from (nat_le (length new) 1024 && is_some (space_of new 0)) _
    (and_from (nat_le (length new) 1024) (is_some (space_of new 0))
    (ap (λ n. nat_le n 1024) (length-append front (b ∷ back) ∙ sym (length-append front (a ∷ back))) ∙ sized.0)
    (some_swap (λ (x : Space). x.number == 0) a b (ap (λ k. k == 0) may.number) front back ∙ sized.1))
    (and_from (differ (λ (s t : Space). s.number == t.number) new) _
    (differ_swap (λ (s t : Space). s.number == t.number) a b (λ x. ap (λ k. k == x.number) may.number) (λ x. ap (λ k. x.number == k) may.number) front back ∙ numbers.0)
    (and_from (differ (λ (s t : Space). bytes_eq s.name t.name) new) (list_all (is_space (space_of new)) new)
    (differ_swap (λ (s t : Space). bytes_eq s.name t.name) a b (λ x. ap (λ k. bytes_eq k x.name) may.name) (λ x. ap (λ k. bytes_eq x.name k) may.name) front back ∙ names.0)
    (all_swap (is_space (space_of old)) (is_space (space_of new)) a b front back (λ s. space_if front back a b s may)
    (space_replaced (space_of new) a b may counted (space_if front back a b a may (all_middle (is_space (space_of old)) a front back names.1)))
    names.1)))

-- ---- versions

version_if : (front back : List Space) (a b : Space) (versions : ℕ → Option Version) (next : ℕ) (v : Version) → MayReplace a b → is_version (space_of (front ++ a ∷ back)) versions next v ≡ true
    → is_version (space_of (front ++ b ∷ back)) versions next v ≡ true
version_if front back a b versions next v may e =
    let asks : Space → Bool = λ (s : Space). if v.parent == 0 then v.number == 1 else stands_under versions v s in
    let h = and_parts (nat_lt v.number next) (option_map_or asks (space_of (front ++ a ∷ back) v.space) false) e in
    and_from (nat_lt v.number next) (option_map_or asks (space_of (front ++ b ∷ back) v.space) false) h.0
    (found_if (λ (s : Space). s.number == v.space) asks asks a b (ap (λ k. k == v.space) may.number) (λ s is. is)
    (λ is. ap (λ k. if v.parent == 0 then v.number == 1 else (nat_lt v.parent v.number && (is_version_of versions v.parent v.space || is_version_of versions v.parent k))) may.parent ∙ is) front back h.1)

has_alike : (has : ℕ → Bool) (versions : ℕ → Option Version) (a b : Space) → MayReplace a b → has_versions has versions b ≡ has_versions has versions a
has_alike has versions a b may = rw (may.number, may.parent, may.birth, may.base) refl

pub versions_replaced : (p q : Parts) (front back : List Space) (a b : Space) (next : ℕ) → MayReplace a b → p.spaces ≡ front ++ a ∷ back → q.spaces ≡ front ++ b ∷ back → q.versions ≡ p.versions
    → are_versions p next ≡ true → are_versions q next ≡ true
versions_replaced p q front back a b next may old new same e =
    let h = and_parts (differ (λ (v w : Version). v.number == w.number) p.versions) _ e in
    let g = and_parts (list_all (is_version (space_of p.spaces) (version_of p.versions) next) p.versions) (list_all (has_versions (has_version p.versions) (version_of p.versions)) p.spaces) h.1 in
    rw (same, new)
    (and_from (differ (λ (v w : Version). v.number == w.number) p.versions) _ h.0
    (and_from (list_all (is_version (space_of (front ++ b ∷ back)) (version_of p.versions) next) p.versions) (list_all (has_versions (has_version p.versions) (version_of p.versions)) (front ++ b ∷ back))
    (all_if (is_version (space_of p.spaces) (version_of p.versions) next) (is_version (space_of (front ++ b ∷ back)) (version_of p.versions) next)
    (λ v is. version_if front back a b (version_of p.versions) next v may (ap (λ ss. is_version (space_of ss) (version_of p.versions) next v) (sym old) ∙ is)) p.versions g.0)
    (let there : list_all (has_versions (has_version p.versions) (version_of p.versions)) (front ++ a ∷ back) ≡ true = ap (list_all (has_versions (has_version p.versions) (version_of p.versions))) (sym old) ∙ g.1 in
    all_swap (has_versions (has_version p.versions) (version_of p.versions)) (has_versions (has_version p.versions) (version_of p.versions)) a b front back (λ s is. is)
    (has_alike (has_version p.versions) (version_of p.versions) a b may ∙ all_middle (has_versions (has_version p.versions) (version_of p.versions)) a front back there) there)))

-- ---- what is found

-- the numbers of workspaces differ
numbers_of : (spaces : List Space) → are_spaces spaces ≡ true → differ (λ (s t : Space). s.number == t.number) spaces ≡ true
numbers_of spaces e =
    let h = and_parts (nat_le (length spaces) 1024 && is_some (space_of spaces 0)) _ e in
    (and_parts (differ (λ (s t : Space). s.number == t.number) spaces) _ h.1).0

-- the one in the middle is found by its number
pub space_here : (front back : List Space) (a : Space) (n : ℕ) → are_spaces (front ++ a ∷ back) ≡ true → a.number ≡ n → space_of (front ++ a ∷ back) n ≡ Some a
space_here front back a n e here =
    find-middle (λ (s : Space). s.number == n) front back a
    (ap (λ k. list_any (λ (s : Space). s.number == k) front) (sym here) ∙ before-none (λ (s t : Space). s.number == t.number) front back a (numbers_of (front ++ a ∷ back) e))
    (eq-eqb a.number n here)

-- and every other as it was
pub space_elsewhere : (front back : List Space) (a b : Space) (m : ℕ) → a.number ≢ m → b.number ≢ m → space_of (front ++ b ∷ back) m ≡ space_of (front ++ a ∷ back) m
space_elsewhere front back a b m apart other = find-past (λ (s : Space). s.number == m) front back a b (ne_eqb _ _ apart) (ne_eqb _ _ other)
