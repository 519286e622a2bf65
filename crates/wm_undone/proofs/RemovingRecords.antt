-- The records without a workspace: what is found among those that stay, and that no version that stays stands under one that goes.
use Rattle.std.proofs.Common.{◌≡◌, ◌≢◌, ℕ, suc, ◌<◌, ◌≤◌, ◌==◌, nat_lt, Bool, true, false, not, ◌&&◌, ◌||◌, cond, if◌then◌else◌, List, [], ◌∷◌, length, Option, Some, None, is_some, refl, sym, ap, subst, ◌∙◌, ◌⊎◌, inl, inr, arith}
use Rattle.std.proofs.lemmas.Bool.{cases_eq, eq-eqb, eqb-true, ne_eqb, and_parts, lt-ltb, not-true, or_parts, true≢false}
use Rattle.std.proofs.lemmas.Option.{same_Some, none-some}
use Rattle.std.specs.Bool.{then_some}
use Rattle.std.specs.List.{filter, find, list_all, list_any}
use Rattle.std.specs.Option.{IfSome, option_map, option_map_or, option_or}
use Rattle.wm_graph.specs.Parts.{Parts, space_of, version_of}
use Rattle.wm_graph.specs.Rules.{differ, is_version, is_version_of, keep_rules, stands_under}
use Rattle.wm_spec.specs.Lists.{Cell}
use Rattle.wm_spec.specs.declared.record.counters.Counters.{Counters}
use Rattle.wm_spec.specs.declared.record.piece.PieceRecord.{PieceRecord}
use Rattle.wm_spec.specs.declared.record.savepoint.Savepoint.{Savepoint as Record}
use Rattle.wm_spec.specs.declared.record.space.Space.{Space}
use Rattle.wm_spec.specs.declared.record.version.Version.{Version}
use Rattle.wm_tree.specs.Versions.{AllBelow, NoneUnder, grow, is_outside, version_in}
use Rattle.wm_tree.specs.declared.version.Version.{Version as Node}
use Rattle.wm_tree.proofs.Paths.{version_in-above}
use Rattle.wm_state.specs.Standing.{covers_at, held_by, newest_first, node_of, saved_as, stored_at}
use Rattle.wm_state.proofs.Apart.{Ruled, RuledVersions, found-passes, ruled, ruled_versions}
use Rattle.wm_state.proofs.FirstIn.{IsOf}
use Rattle.wm_state.proofs.Newest.{Descend, Descend-newest, below-apart, numbers_differ, version_in-newest, AllBelow-less}
use Rattle.wm_forked.proofs.KeepBorn.{version_numbered}
use Rattle.wm_undone.specs.Removing.{is_other, is_others, parts_without}
use Rattle.wm_undone.proofs.RemovingSeen.{IsOutside, StoredOut}
use Rattle.wm_undone.proofs.RestoringLists.{filter-left, find-gone, find-left}

-- the records without those of a workspace, with these counters
abbrev pub thinned : Parts → ℕ → List Counters → Parts
thinned p n counters = record (parts_without n p) { counters = counters }

-- ---- lists without the elements of a number

pub other_of : (n m : ℕ) → m ≢ n → is_other n m ≡ true
other_of n m away = ap not (ne_eqb m n away)

pub not_other : (n m : ℕ) → is_other n m ≡ true → m ≢ n
not_other n m e same = true≢false (sym (eq-eqb m n same) ∙ not-true (m == n) e)

-- what is of another number is found as before
pub find_other : {A : Type 0} (key : A → ℕ) (n m : ℕ) (P : A → Bool) → ((y : A) → P y ≡ true → key y ≡ m) → m ≢ n → (xs : List A) → find P (filter (λ y. is_other n (key y)) xs) ≡ find P xs
find_other key n m P of away = find-left (λ y. is_other n (key y)) P (λ y e. other_of n (key y) (λ same. away (sym (of y e) ∙ same)))

-- and of the number nothing
pub find_own : {A : Type 0} (key : A → ℕ) (n : ℕ) (P : A → Bool) → ((y : A) → P y ≡ true → key y ≡ n) → (xs : List A) → find P (filter (λ y. is_other n (key y)) xs) ≡ None
find_own key n P of = find-gone (λ y. is_other n (key y)) P (λ y e. ap not (eq-eqb (key y) n (of y e)))

pub filter_other : {A : Type 0} (key : A → ℕ) (n m : ℕ) (P : A → Bool) → ((y : A) → P y ≡ true → key y ≡ m) → m ≢ n → (xs : List A) → filter P (filter (λ y. is_other n (key y)) xs) ≡ filter P xs
filter_other key n m P of away = filter-left P (λ y. is_other n (key y)) (λ y e. other_of n (key y) (λ same. away (sym (of y e) ∙ same)))

pub filter_own : {A : Type 0} (key : A → ℕ) (n : ℕ) (P : A → Bool) → ((y : A) → P y ≡ true → key y ≡ n) → (xs : List A) → filter P (filter (λ y. is_other n (key y)) xs) ≡ []
filter_own key n P of [] = refl
filter_own {A = A} key n P of (x ∷ xs) = by_key (cases_eq (key x) n) (filter_own key n P of xs)
  where
    fails : key x ≢ n → (b : Bool) → P x ≡ b → b ≡ false
    fails away true e = absurd (away (of x e))
    fails away false e = refl

    by_key : (key x ≡ n) ⊎ (key x ≢ n) → filter P (filter (λ y. is_other n (key y)) xs) ≡ [] → filter P (filter (λ y. is_other n (key y)) (x ∷ xs)) ≡ []
    by_key (inl same) rest = rw (eq-eqb _ _ same) rest
    by_key (inr away) rest = rw (ne_eqb _ _ away, fails away (P x) refl) rest

-- where no two have one number, and one has it, one goes
pub one_less : {A : Type 0} (key : A → ℕ) (n : ℕ) (xs : List A) → differ (λ x y. key x == key y) xs ≡ true → is_some (find (λ y. key y == n) xs) ≡ true → suc (length (filter (λ y. is_other n (key y)) xs)) ≡ length xs
one_less key n [] apart there = absurd (true≢false (sym there))
one_less {A = A} key n (x ∷ xs) apart there = by_key (cases_eq (key x) n) (and_parts (not (list_any (λ y. key x == key y) xs)) (differ (λ y z. key y == key z) xs) apart) (one_less key n xs)
  where
    all_stay : (ys : List A) → list_any (λ y. key x == key y) ys ≡ false → key x ≡ n → filter (λ y. is_other n (key y)) ys ≡ ys
    all_stay [] none same = refl
    all_stay (y ∷ ys) none same =
        let h = or_parts (key x == key y) (list_any (λ z. key x == key z) ys) none in
        rw (ne_eqb (key y) n (λ here. true≢false (sym (eq-eqb (key x) (key y) (same ∙ sym here)) ∙ h.0))) (ap (λ zs. y ∷ zs) (all_stay ys h.1 same))

    by_key : (key x ≡ n) ⊎ (key x ≢ n) → (not (list_any (λ y. key x == key y) xs) ≡ true) × (differ (λ y z. key y == key z) xs ≡ true)
        → (differ (λ y z. key y == key z) xs ≡ true → is_some (find (λ y. key y == n) xs) ≡ true → suc (length (filter (λ y. is_other n (key y)) xs)) ≡ length xs)
        → suc (length (filter (λ y. is_other n (key y)) (x ∷ xs))) ≡ length (x ∷ xs)
    by_key (inl same) h rest = rw (eq-eqb _ _ same) (ap (λ ys. suc (length ys)) (all_stay xs (not-true (list_any (λ y. key x == key y) xs) h.0) same))
    by_key (inr away) h rest = rw (ne_eqb _ _ away) (ap suc (rest h.1 (sym (ap (λ b. is_some (cond b (Some x) (find (λ y. key y == n) xs))) (ne_eqb _ _ away)) ∙ there)))

-- ---- the newest version first

grow_first : (x : Node) (ns : List Node) → AllBelow x.number ns → grow x ns ≡ x ∷ ns
grow_first x [] below = refl
grow_first x (y ∷ ys) below = rw (lt-ltb y.number x.number below.0) refl

thin_below : (n m : ℕ) (ns : List Node) → AllBelow m ns → AllBelow m (filter (is_outside n) ns)
thin_below n m [] below = tt
thin_below n m (y ∷ ys) below = by_test (y.space == n) (thin_below n m ys below.1)
  where
    by_test : (b : Bool) → AllBelow m (filter (is_outside n) ys) → AllBelow m (cond (not b) (y ∷ filter (is_outside n) ys) (filter (is_outside n) ys))
    by_test true rest = rest
    by_test false rest = (below.0, rest)

grow-thin : (n : ℕ) (x : Node) (ns : List Node) → Descend ns → filter (is_outside n) (grow x ns) ≡ cond (is_outside n x) (grow x (filter (is_outside n) ns)) (filter (is_outside n) ns)
grow-thin n x [] down = refl
grow-thin n x (y ∷ ys) down = by_number (nat_lt y.number x.number) refl (y.space == n) refl (x.space == n) refl (grow-thin n x ys down.1)
  where
    lt_of : nat_lt y.number x.number ≡ true → y.number < x.number
    lt_of e = grind (arith, e)

    by_number : (a : Bool) → nat_lt y.number x.number ≡ a → (b : Bool) → (y.space == n) ≡ b → (d : Bool) → (x.space == n) ≡ d
        → filter (is_outside n) (grow x ys) ≡ cond (is_outside n x) (grow x (filter (is_outside n) ys)) (filter (is_outside n) ys)
        → filter (is_outside n) (cond a (x ∷ y ∷ ys) (y ∷ grow x ys)) ≡ cond (not d) (grow x (cond (not b) (y ∷ filter (is_outside n) ys) (filter (is_outside n) ys))) (cond (not b) (y ∷ filter (is_outside n) ys) (filter (is_outside n) ys))
    by_number true e true f true g rest = rw (f, g) refl
    by_number true e true f false g rest = rw (f, g) (sym (grow_first x (filter (is_outside n) ys) (thin_below n x.number ys (AllBelow-less y.number x.number ys (lt_of e) down.0))))
    by_number true e false f true g rest = rw (f, g) refl
    by_number true e false f false g rest = rw (f, g, e) refl
    by_number false e true f true g rest = rw f (rest ∙ ap (λ b. cond (not b) (grow x (filter (is_outside n) ys)) (filter (is_outside n) ys)) g)
    by_number false e true f false g rest = rw f (rest ∙ ap (λ b. cond (not b) (grow x (filter (is_outside n) ys)) (filter (is_outside n) ys)) g)
    by_number false e false f true g rest = rw f (ap (λ zs. y ∷ zs) (rest ∙ ap (λ b. cond (not b) (grow x (filter (is_outside n) ys)) (filter (is_outside n) ys)) g))
    by_number false e false f false g rest = rw (f, e) (ap (λ zs. y ∷ zs) (rest ∙ ap (λ b. cond (not b) (grow x (filter (is_outside n) ys)) (filter (is_outside n) ys)) g))

pub newest-thin : (n : ℕ) (vs : List Version) → numbers_differ vs → newest_first (filter (λ (v : Version). is_other n v.space) vs) ≡ filter (is_outside n) (newest_first vs)
newest-thin n [] e = refl
newest-thin n (v ∷ vs) e =
    let h = and_parts (not (list_any (λ (w : Version). v.number == w.number) vs)) (differ (λ (v w : Version). v.number == w.number) vs) e in
    by_test (v.space == n) (newest-thin n vs h.1) ∙ sym (grow-thin n (node_of v) (newest_first vs) (Descend-newest vs h.1))
  where
    by_test : (b : Bool) → newest_first (filter (λ (w : Version). is_other n w.space) vs) ≡ filter (is_outside n) (newest_first vs)
        → newest_first (cond (not b) (v ∷ filter (λ (w : Version). is_other n w.space) vs) (filter (λ (w : Version). is_other n w.space) vs)) ≡ cond (not b) (grow (node_of v) (filter (is_outside n) (newest_first vs))) (filter (is_outside n) (newest_first vs))
    by_test true rest = rest
    by_test false rest = ap (grow (node_of v)) rest

-- ---- what stands in versions that stay

stored-thin : (versions : List Version) (n v : ℕ) (c : Cell) → is_version_of (version_of versions) v n ≡ false → (xs : List PieceRecord) → stored_at (filter (is_others versions n) xs) v c ≡ stored_at xs v c
stored-thin versions n v c out [] = refl
stored-thin versions n v c out (x ∷ xs) = by_test (is_version_of (version_of versions) x.version n) refl (stored-thin versions n v c out xs)
  where
    by_test : (b : Bool) → is_version_of (version_of versions) x.version n ≡ b → stored_at (filter (is_others versions n) xs) v c ≡ stored_at xs v c
        → stored_at (cond (not b) (x ∷ filter (is_others versions n) xs) (filter (is_others versions n) xs)) v c ≡ stored_at (x ∷ xs) v c
    by_test true e rest = rw (ne_eqb x.version v (λ same. true≢false (sym e ∙ ap (λ k. is_version_of (version_of versions) k n) same ∙ out))) rest
    by_test false e rest = ap (option_or (then_some (covers_at x v c) (held_by x))) rest

-- what holds of each version that is found holds of each of the list
stored_all : (n : ℕ) (old new : List PieceRecord) (c : Cell) (nodes : List Node) → Descend nodes → ((v : ℕ) (y : Node) → version_in nodes v ≡ Some y → y.space ≢ n → stored_at new v c ≡ stored_at old v c) → StoredOut n old new c nodes
stored_all n old new c [] down each = tt
stored_all n old new c (x ∷ older) down each = (
  (λ out. each x.number x (rw (eq-eqb x.number x.number refl) refl) out),
  stored_all n old new c older down.1 (λ v y found. each v y (ap (λ b. cond b (Some x) (version_in older v)) (ne_eqb x.number v (λ same. below-apart x.number older v y down.0 found (sym same))) ∙ found)),
)

none_under : (n : ℕ) (nodes : List Node) → Descend nodes → ((v : ℕ) (y : Node) → version_in nodes v ≡ Some y → y.space ≢ n → IsOutside n nodes y.parent) → NoneUnder n nodes
none_under n [] down each = tt
none_under n (x ∷ older) down each = (
  (λ out. behind x.parent (each x.number x (rw (eq-eqb x.number x.number refl) refl) out)),
  none_under n older down.1 (λ v y found out. behind y.parent (each v y (ap (λ b. cond b (Some x) (version_in older v)) (ne_eqb x.number v (λ same. below-apart x.number older v y down.0 found (sym same))) ∙ found) out)),
)
  where
    is_out : Option Node → Type 0
    is_out o = IfSome o (λ (y : Node). y.space ≢ n)

    behind : (k : ℕ) → IsOutside n (x ∷ older) k → IsOutside n older k
    behind k out = by_number (cases_eq x.number k)
      where
        no_more : (i j : ℕ) → i ≡ j → i ≤ j
        no_more i j same = omega (arith, same)

        by_number : (x.number ≡ k) ⊎ (x.number ≢ k) → is_out (version_in older k)
        by_number (inl same) = subst is_out (sym (version_in-above x.number older k down.0 (no_more x.number k same))) tt
        by_number (inr away) = subst is_out (ap (λ b. cond b (Some x) (version_in older k)) (ne_eqb _ _ away)) out

-- ---- the records

pub space_none : (p : Parts) (n : ℕ) (counters : List Counters) → space_of (thinned p n counters).spaces n ≡ None
space_none p n counters = find_own (λ (r : Space). r.number) n (λ (r : Space). r.number == n) (λ r e. eqb-true r.number n e) p.spaces

pub space_away : (p : Parts) (n : ℕ) (counters : List Counters) (m : ℕ) → m ≢ n → space_of (thinned p n counters).spaces m ≡ space_of p.spaces m
space_away p n counters m away = find_other (λ (r : Space). r.number) n m (λ (r : Space). r.number == m) (λ r e. eqb-true r.number m e) away p.spaces

pub saved_away : (p : Parts) (n : ℕ) (counters : List Counters) (m making : ℕ) → m ≢ n → saved_as (thinned p n counters) m making ≡ saved_as p m making
saved_away p n counters m making away =
    find_other (λ (x : Record). x.space) n m (λ (x : Record). (x.space == m) && (x.making == making)) (λ x e. eqb-true x.space m (and_parts (x.space == m) (x.making == making) e).0) away p.savepoints

-- a version is of one workspace
pub one_of : (p : Parts) (k a b : ℕ) → is_version_of (version_of p.versions) k a ≡ true → is_version_of (version_of p.versions) k b ≡ true → a ≡ b
one_of p k a b e f = by_version (version_of p.versions k) e f
  where
    by_version : (o : Option Version) → option_map_or (λ (v : Version). v.space == a) o false ≡ true → option_map_or (λ (v : Version). v.space == b) o false ≡ true → a ≡ b
    by_version None g h = absurd (true≢false (sym g))
    by_version (Some v) g h = sym (eqb-true v.space a g) ∙ eqb-true v.space b h

-- one that is among these, and is one of another workspace, is none of this
pub outside_of : (n m : ℕ) (nodes : List Node) (v : ℕ) → m ≢ n → IsOf nodes v m → IsOutside n nodes v
outside_of n m nodes v away is = subst is_out (sym is.found) (λ same. away (sym is.is ∙ same))
  where
    is_out : Option Node → Type 0
    is_out o = IfSome o (λ (y : Node). y.space ≢ n)

module _ (p : Parts) (n : ℕ) (childless : list_all (λ (r : Space). is_other n r.parent) p.spaces ≡ true) (rules : keep_rules p ≡ true) where
  r : Ruled p
  r = ruled p rules

  h : RuledVersions p r.counters.next_version
  h = ruled_versions p r.counters.next_version r.versions

  pub down : Descend (newest_first p.versions)
  down = Descend-newest p.versions h.numbers

  -- it is the parent of none
  pub parent_other : (m : ℕ) (s : Space) → space_of p.spaces m ≡ Some s → s.parent ≢ n
  parent_other m s found = not_other n s.parent (found-passes (λ (z : Space). z.number == m) (λ (z : Space). is_other n z.parent) p.spaces s found childless).1

  pub nodes-thin : (counters : List Counters) → newest_first (thinned p n counters).versions ≡ filter (is_outside n) (newest_first p.versions)
  nodes-thin counters = newest-thin n p.versions h.numbers

  -- a version that is none of the workspace's is no node of it
  out_of : (v : ℕ) → is_version_of (version_of p.versions) v n ≡ false → IsOutside n (newest_first p.versions) v
  out_of v e = subst is_out (sym (version_in-newest p.versions h.numbers v)) (by_version (version_of p.versions v) e)
    where
      is_out : Option Node → Type 0
      is_out o = IfSome o (λ (y : Node). y.space ≢ n)

      by_version : (o : Option Version) → option_map_or (λ (w : Version). w.space == n) o false ≡ false → is_out (option_map node_of o)
      by_version None f = tt
      by_version (Some w) f = λ same. true≢false (sym (eq-eqb w.space n same) ∙ f)

  -- and a node of another is one of its versions
  recorded : (v : ℕ) (y : Node) → version_in (newest_first p.versions) v ≡ Some y → (w : Version) × (version_of p.versions v ≡ Some w) × (node_of w ≡ y)
  recorded v y found = by_version (version_of p.versions v) refl (sym (version_in-newest p.versions h.numbers v) ∙ found)
    where
      by_version : (o : Option Version) → version_of p.versions v ≡ o → option_map node_of o ≡ Some y → (w : Version) × (version_of p.versions v ≡ Some w) × (node_of w ≡ y)
      by_version None is e = absurd (none-some y e)
      by_version (Some w) is e = (w, is, same_Some (node_of w) y e)

  -- the parent of a version of another workspace is none of the workspace's
  under_none : (v : ℕ) (w : Version) → version_of p.versions v ≡ Some w → w.space ≢ n → is_version_of (version_of p.versions) w.parent n ≡ false
  under_none v w found away = by_test (is_version_of (version_of p.versions) w.parent n) refl
    where
      passes : is_version (space_of p.spaces) (version_of p.versions) r.counters.next_version w ≡ true
      passes = (found-passes (λ (z : Version). z.number == v) (is_version (space_of p.spaces) (version_of p.versions) r.counters.next_version) p.versions w found h.each).1

      by_parent : is_version_of (version_of p.versions) w.parent n ≡ true → (s : Space) → space_of p.spaces w.space ≡ Some s → (a b : Bool) → is_version_of (version_of p.versions) w.parent w.space ≡ a
          → is_version_of (version_of p.versions) w.parent s.parent ≡ b → (a || b) ≡ true → ⊥
      by_parent is s there true b e f some = away (one_of p w.parent w.space n e is)
      by_parent is s there false true e f some = parent_other w.space s there (one_of p w.parent s.parent n f is)
      by_parent is s there false false e f some = true≢false (sym some)

      by_space : is_version_of (version_of p.versions) w.parent n ≡ true → (o : Option Space) → space_of p.spaces w.space ≡ o
          → option_map_or (λ (s : Space). if w.parent == 0 then w.number == 1 else stands_under (version_of p.versions) w s) o false ≡ true → ⊥
      by_space is None there e = true≢false (sym e)
      by_space is (Some s) there e =
          by_parent is s there (is_version_of (version_of p.versions) w.parent w.space) (is_version_of (version_of p.versions) w.parent s.parent) refl refl
          (and_parts (nat_lt w.parent w.number) _ (sym (ap (λ b. if b then w.number == 1 else stands_under (version_of p.versions) w s) (version_numbered p r.counters.next_version w.parent n r.versions is)) ∙ e)).1

      by_test : (b : Bool) → is_version_of (version_of p.versions) w.parent n ≡ b → b ≡ false
      by_test true is = absurd (by_space is (space_of p.spaces w.space) refl (and_parts (nat_lt w.number r.counters.next_version) _ passes).1)
      by_test false is = refl

  pub none_apart : NoneUnder n (newest_first p.versions)
  none_apart = none_under n (newest_first p.versions) down (λ v y found away. let z = recorded v y found in
      out_of y.parent (ap (λ (x : Node). is_version_of (version_of p.versions) x.parent n) (sym z.2) ∙ under_none v z.0 z.1 (λ same. away (ap (λ (x : Node). x.space) (sym z.2) ∙ same))))

  pub stored_out : (c : Cell) → StoredOut n p.pieces (filter (is_others p.versions n) p.pieces) c (newest_first p.versions)
  stored_out c = stored_all n p.pieces (filter (is_others p.versions n) p.pieces) c (newest_first p.versions) down (λ v y found away. let z = recorded v y found in
      stored-thin p.versions n v c
      (ap (λ (o : Option Version). option_map_or (λ (w : Version). w.space == n) o false) z.1 ∙ ne_eqb z.0.space n (λ same. away (ap (λ (x : Node). x.space) (sym z.2) ∙ same))) p.pieces)
