-- Savepoints found by name, and the making that comes next.
use Rattle.std.proofs.Common.{◌≡◌, ℕ, ◌<◌, ◌≤◌, ◌+◌, ◌^◌, ◌==◌, nat_lt, nat_le, Bool, true, false, cond, not, ◌&&◌, ◌||◌, List, [], ◌∷◌, length, Option, Some, None, refl, sym, ap, ◌∙◌, subst, arith}
use Rattle.std.proofs.lemmas.Bool.{eq-eqb, eqb-true, and_parts, false≢true, not-true, or_parts, true≢false}
use Rattle.std.proofs.lemmas.Slice.Eq.{bytes_eq-Decides}
use Rattle.std.specs.BTreeMap.{IsOrdered}
use Rattle.std.specs.List.{count_by, filter, find, list_all, list_any}
use Rattle.std.specs.Option.{option_map_or}
use Rattle.std.specs.Ordering.{nat_cmp}
use Rattle.std.specs.Str.{bytes_eq}
use Rattle.wm_base.proofs.Plain.{none_some}
use Rattle.wm_base.specs.declared.instant.TheConstants.{END}
use Rattle.wm_chunks.specs.Numbers.{Numbers}
use Rattle.wm_graph.specs.Parts.{Parts, parts_of, as_savepoint, space_of, version_of}
use Rattle.wm_graph.specs.Rules.{keep_rules, are_counters, are_savepoints, differ, has_few, is_savepoint, is_saved_in, is_short, same_savepoint}
use Rattle.wm_spec.specs.declared.record.Record.TheVariants as records
use Rattle.wm_spec.specs.declared.record.Record.{Record}
use Rattle.wm_spec.specs.declared.record.counters.Counters.{Counters}
use Rattle.wm_spec.specs.declared.record.savepoint.Savepoint.{Savepoint}
use Rattle.wm_spec.specs.declared.record.stored.Stored.{Stored}
use Rattle.wm_state.specs.Standing.{by_making, place_making, saved_as, saved_in}
use Rattle.wm_state.proofs.Apart.{ruled}
use Rattle.wm_state.proofs.SavedAs.{names-apart}
use Rattle.wm_ids.proofs.Lasts.{LastOf, has_ids, last-same, last_told}
use Rattle.wm_index.proofs.Finding.{Tests}
use Rattle.wm_index.proofs.Firsts.{sought_kind, any_sought, count_sought, find-filter}
use Rattle.wm_index.specs.Indexed.{IsIndexed, ids_at, listed}
use Rattle.wm_index.specs.Kinds.{after, kind_at}
use Rattle.wm_image.specs.Shown.{is_saved_behind, rests_on}
use Rattle.wm_ids.specs.Ids.{last_used}
use Rattle.wm_index.specs.Sought.{SavepointAt, SavepointsOf, KeptAs, KeptUnder, is_sought}
use Rattle.wm_index.specs.declared.index.Index.{Index}

-- ---- the tests

pub of_test : (n : ℕ) → Tests as_savepoint (λ (x : Savepoint). x.space == n) (is_sought (SavepointsOf n))
of_test n (records.Savepoint x) = refl
of_test n _ = refl

at_test : (n : ℕ) → Tests as_savepoint (λ (x : Savepoint). x.making == n) (is_sought (SavepointAt n))
at_test n (records.Savepoint x) = refl
at_test n _ = refl

pub kept_test : (n : ℕ) → Tests as_savepoint (λ (x : Savepoint). x.version == n) (is_sought (KeptAs n))
kept_test n (records.Savepoint x) = refl
kept_test n _ = refl

pub rest_test : (n : ℕ) → Tests as_savepoint (rests_on n) (is_sought (KeptUnder n))
rest_test n (records.Savepoint x) = refl
rest_test n _ = refl

-- ---- by making

-- a savepoint before others finds its place, and is found as before them where no other passes with it
find-placed : (p : Savepoint → Bool) (x : Savepoint) (ys : List Savepoint) → (p x ≡ true → find p ys ≡ None) → find p (place_making x ys) ≡ find p (x ∷ ys)
find-placed p x [] alone = refl
find-placed p x (y ∷ ys) alone = by_place (nat_lt y.making x.making) (p y) refl (find-placed p x ys)
  where
    behind : p y ≡ false → p x ≡ true → find p ys ≡ None
    behind away pass = sym (ap (λ b. cond b (Some y) (find p ys)) away) ∙ alone pass

    -- of two savepoints one at most passes
    swapped : (a b : Bool) → p x ≡ a → p y ≡ b → cond b (Some y) (cond a (Some x) (find p ys)) ≡ cond a (Some x) (cond b (Some y) (find p ys))
    swapped true true e f = absurd (none_some (find p (y ∷ ys)) y (alone e) (ap (λ b. cond b (Some y) (find p ys)) f))
    swapped true false e f = refl
    swapped false b e f = refl

    by_place : (c b : Bool) → p y ≡ b → ((p x ≡ true → find p ys ≡ None) → find p (place_making x ys) ≡ find p (x ∷ ys))
        → find p (cond c (y ∷ place_making x ys) (x ∷ y ∷ ys)) ≡ cond (p x) (Some x) (cond (p y) (Some y) (find p ys))
    by_place false b f rest = refl
    by_place true false f rest = ap (cond (p y) (Some y)) (rest (behind f)) ∙ swapped (p x) (p y) refl refl
    by_place true true f rest =
        ap (λ d. cond d (Some y) (find p (place_making x ys))) f ∙ ap (λ d. cond d (Some y) (cond (p x) (Some x) (find p ys))) (sym f) ∙ swapped (p x) (p y) refl refl

-- the name that is sought
abbrev pub has_name : List ℕ → Savepoint → Bool
has_name name x = bytes_eq name x.name

abbrev same_name : Savepoint → Savepoint → Bool
same_name x y = bytes_eq x.name y.name

-- no other savepoint has the name
no_other : (name : List ℕ) (x : Savepoint) (ys : List Savepoint) → list_any (same_name x) ys ≡ false → name ≡ x.name → find (has_name name) ys ≡ None
no_other name x [] none e = refl
no_other name x (y ∷ ys) none e =
    let two = or_parts (bytes_eq x.name y.name) (list_any (same_name x) ys) none in
    ap (λ b. cond b (Some y) (find (has_name name) ys)) (ap (λ n. bytes_eq n y.name) e ∙ two.0) ∙ no_other name x ys two.1 e

find-by_making : (name : List ℕ) (xs : List Savepoint) → differ same_name xs ≡ true → find (has_name name) (by_making xs) ≡ find (has_name name) xs
find-by_making name [] apart = refl
find-by_making name (x ∷ xs) apart =
    let two = and_parts (not (list_any (same_name x) xs)) (differ same_name xs) apart in
    find-placed (has_name name) x (by_making xs)
    (λ pass. find-by_making name xs two.1 ∙ no_other name x xs (not-true (list_any (same_name x) xs) two.0) ((bytes_eq-Decides name x.name).0 pass))
    ∙ ap (cond (bytes_eq name x.name) (Some x)) (find-by_making name xs two.1)

-- ---- the names in one workspace

no_same : (n : ℕ) (x : Savepoint) → x.space ≡ n → (ys : List Savepoint) → list_any (same_savepoint x) ys ≡ false → list_any (same_name x) (filter (λ (y : Savepoint). y.space == n) ys) ≡ false
no_same n x here [] none = refl
no_same n x here (y ∷ ys) none = by_space (y.space == n) refl (no_same n x here ys two.1)
  where
    two : (same_savepoint x y ≡ false) × (list_any (same_savepoint x) ys ≡ false)
    two = or_parts (same_savepoint x y) (list_any (same_savepoint x) ys) none

    by_space : (b : Bool) → (y.space == n) ≡ b → list_any (same_name x) (filter (λ (z : Savepoint). z.space == n) ys) ≡ false
        → list_any (same_name x) (cond b (y ∷ filter (λ (z : Savepoint). z.space == n) ys) (filter (λ (z : Savepoint). z.space == n) ys)) ≡ false
    by_space true there rest =
        let apart : bytes_eq x.name y.name ≡ false = sym (ap (λ b. b && bytes_eq x.name y.name) (eq-eqb x.space y.space (here ∙ sym (eqb-true y.space n there)))) ∙ two.0 in
        ap (λ b. b || list_any (same_name x) (filter (λ (z : Savepoint). z.space == n) ys)) apart ∙ rest
    by_space false there rest = rest

-- what the rules tell of savepoints
record RuledSaved (p : Parts) (work : ℕ) : Type 0 where
  names : differ same_savepoint p.savepoints ≡ true
  each : list_all (is_savepoint (space_of p.spaces) (version_of p.versions) work) p.savepoints ≡ true

ruled_saved : (p : Parts) (work : ℕ) → are_savepoints p work ≡ true → RuledSaved p work
ruled_saved p work e =
    let h = and_parts (differ (λ (x y : Savepoint). x.making == y.making) p.savepoints) _ e in
    let g = and_parts (differ same_savepoint p.savepoints) _ h.1 in
    let k = and_parts (list_all (has_few p.savepoints) p.spaces) (list_all (is_savepoint (space_of p.spaces) (version_of p.versions) work) p.savepoints) g.1 in
    record { names = g.0; each = k.1 }

-- ---- what an index tells

pub named_told : (kept : Numbers Record) (x : Index) → IsIndexed kept x → keep_rules (parts_of (listed kept.entries)) ≡ true → (n : ℕ) (name : List ℕ)
    → find (has_name name) (kind_at as_savepoint (listed kept.entries) (ids_at x (SavepointsOf n))) ≡ find (has_name name) (saved_in (parts_of (listed kept.entries)) n)
unfolding parts_of
named_told kept x is rules n name =
    let r = ruled (parts_of (listed kept.entries)) rules in
    let s = ruled_saved (parts_of (listed kept.entries)) r.counters.work r.savepoints in
    ap (find (has_name name)) (sought_kind as_savepoint (λ (y : Savepoint). y.space == n) (SavepointsOf n) (of_test n) kept x is)
    ∙ sym (find-by_making name (filter (λ (y : Savepoint). y.space == n) (parts_of (listed kept.entries)).savepoints) (names-apart n (parts_of (listed kept.entries)).savepoints s.names))

pub saved_told : (kept : Numbers Record) (x : Index) → IsIndexed kept x → (n making : ℕ)
    → find (λ (y : Savepoint). y.space == n) (kind_at as_savepoint (listed kept.entries) (ids_at x (SavepointAt making))) ≡ saved_as (parts_of (listed kept.entries)) n making
unfolding parts_of
saved_told kept x is n making =
    ap (find (λ (y : Savepoint). y.space == n)) (sought_kind as_savepoint (λ (y : Savepoint). y.making == making) (SavepointAt making) (at_test making) kept x is)
    ∙ find-filter (λ (y : Savepoint). y.space == n) (λ (y : Savepoint). y.making == making) (parts_of (listed kept.entries)).savepoints

pub count_told : (kept : Numbers Record) (x : Index) → IsIndexed kept x → (n : ℕ) → length (ids_at x (SavepointsOf n)) ≡ count_by (λ (y : Savepoint). y.space == n) (parts_of (listed kept.entries)).savepoints
unfolding parts_of
count_told kept x is n = count_sought as_savepoint (λ (y : Savepoint). y.space == n) (SavepointsOf n) (of_test n) kept x is

any-filter : {A : Type 0} (q p : A → Bool) (xs : List A) → list_any (λ x. q x && p x) (filter q xs) ≡ list_any (λ x. q x && p x) xs
any-filter q p [] = refl
any-filter {A} q p (x ∷ xs) = by_test (q x) refl (any-filter q p xs)
  where
    by_test : (b : Bool) → q x ≡ b → list_any (λ y. q y && p y) (filter q xs) ≡ list_any (λ y. q y && p y) xs
        → list_any (λ y. q y && p y) (cond b (x ∷ filter q xs) (filter q xs)) ≡ ((b && p x) || list_any (λ y. q y && p y) xs)
    by_test true e rest = rw (e, rest) refl
    by_test false e rest = rest

-- a savepoint of a workspace stands behind a place
pub behind_told : (kept : Numbers Record) (x : Index) → IsIndexed kept x → (n place log_length : ℕ)
    → list_any (is_saved_behind n place log_length) (kind_at as_savepoint (listed kept.entries) (ids_at x (SavepointsOf n))) ≡ list_any (is_saved_behind n place log_length) (parts_of (listed kept.entries)).savepoints
unfolding parts_of
behind_told kept x is n place log_length =
    ap (list_any (is_saved_behind n place log_length)) (sought_kind as_savepoint (λ (y : Savepoint). y.space == n) (SavepointsOf n) (of_test n) kept x is)
    ∙ any-filter (λ (y : Savepoint). y.space == n) (λ (y : Savepoint). not (nat_le y.place place && nat_le y.log_length log_length)) (parts_of (listed kept.entries)).savepoints

-- ---- the last making

-- the making of a savepoint
abbrev pub is_made : Parts → ℕ → Bool
is_made p q = list_any (λ (y : Savepoint). y.making == q) p.savepoints

pub last_made : (kept : Numbers Record) (x : Index) → IsIndexed kept x → (ss : List Stored) → listed kept.entries ≡ ss → (o : Option ℕ) → IsOrdered nat_cmp x.savepoints → o ≡ last_used x.savepoints.entries
    → LastOf (is_made (parts_of ss)) o
unfolding parts_of
last_made kept x is ss view o sorted last =
    subst (λ (l : List Stored). LastOf (is_made (parts_of l)) o) view
    (last-same (has_ids x.savepoints.entries) (is_made (parts_of (listed kept.entries)))
    (λ q. any_sought as_savepoint (λ (y : Savepoint). y.making == q) (SavepointAt q) (at_test q) kept x is) o
    (last_told x.savepoints o sorted last))

made_most : (spaces : _) (versions : _) (work k : ℕ) (xs : List Savepoint) → list_all (is_savepoint spaces versions work) xs ≡ true → list_any (λ (y : Savepoint). y.making == k) xs ≡ true → nat_le k (work + 2) ≡ true
made_most spaces versions work k [] each some = cc
made_most spaces versions work k (y ∷ ys) each some = by_making (y.making == k) refl some (made_most spaces versions work k ys two.1)
  where
    two : (is_savepoint spaces versions work y ≡ true) × (list_all (is_savepoint spaces versions work) ys ≡ true)
    two = and_parts (is_savepoint spaces versions work y) (list_all (is_savepoint spaces versions work) ys) each

    by_making : (b : Bool) → (y.making == k) ≡ b → (b || list_any (λ (z : Savepoint). z.making == k) ys) ≡ true → (list_any (λ (z : Savepoint). z.making == k) ys ≡ true → nat_le k (work + 2) ≡ true)
        → nat_le k (work + 2) ≡ true
    by_making true same h rest =
        let one = and_parts (is_short y.name && nat_le y.making (work + 2)) (option_map_or (is_saved_in versions y) (spaces y.space) false) two.0 in
        ap (λ m. nat_le m (work + 2)) (sym (eqb-true y.making k same)) ∙ (and_parts (is_short y.name) (nat_le y.making (work + 2)) one.0).1
    by_making false same h rest = rest h

pub few_worked : (c : Counters) → are_counters c ≡ true → nat_le c.work (2 ^ 62) ≡ true
few_worked c e = fifth (nat_le 1 c.limit && nat_le c.limit 1048576) (nat_le 1 c.next_stamp && nat_le c.next_stamp (c.limit + 1)) (nat_lt c.last_moment END) (nat_le c.work (2 ^ 62)) (nat_le c.next_version (c.work + 2)) e
  where
    fifth : (a b d f g : Bool) → ((a && b) && (d && (f && g))) ≡ true → f ≡ true
    fifth a b d f g h = (and_parts f g (and_parts d (f && g) (and_parts (a && b) (d && (f && g)) h).1).1).0

-- the making that comes next can be told
pub next_fits : (p : Parts) → keep_rules p ≡ true → (o : Option ℕ) → LastOf (is_made p) o → after 1 o < 2 ^ 64
next_fits p rules None last = omega arith
next_fits p rules (Some k) last =
    let r = ruled p rules in
    let s = ruled_saved p r.counters.work r.savepoints in
    fits k r.counters.work (made_most (space_of p.spaces) (version_of p.versions) r.counters.work k p.savepoints s.each last.0) (few_worked r.counters r.counted)
  where
    fits : (k work : ℕ) → nat_le k (work + 2) ≡ true → nat_le work (2 ^ 62) ≡ true → k + 1 < 2 ^ 64
    fits k work e f = let le : k ≤ work + 2 = grind (arith, e) in let few : work ≤ 2 ^ 62 = grind (arith, f) in omega (arith, le, few)

pub next_none : (p : Parts) (o : Option ℕ) → LastOf (is_made p) o → p.savepoints ≡ [] → after 1 o ≡ 1
next_none p None last none = refl
next_none p (Some k) last none = absurd (false≢true (sym (ap (list_any (λ (y : Savepoint). y.making == k)) none) ∙ last.0))

pub next_some : (p : Parts) (o : Option ℕ) → LastOf (is_made p) o → (x : Savepoint) (xs : List Savepoint) → p.savepoints ≡ x ∷ xs → list_any (λ (y : Savepoint). (y.making + 1) == after 1 o) p.savepoints ≡ true
next_some p None last x xs some = absurd (true≢false (sym (ap (λ l. list_any (λ (y : Savepoint). y.making == x.making) l) some ∙ ap (λ b. b || list_any (λ (y : Savepoint). y.making == x.making) xs) (eq-eqb x.making x.making refl)) ∙ last x.making))
next_some p (Some k) last x xs some = one_more p.savepoints ∙ last.0
  where
    both_more : (m n : ℕ) → ((m + 1) == (n + 1)) ≡ (m == n)
    both_more m n = grind (arith)

    one_more : (ys : List Savepoint) → list_any (λ (y : Savepoint). (y.making + 1) == (k + 1)) ys ≡ list_any (λ (y : Savepoint). y.making == k) ys
    one_more [] = refl
    one_more (y ∷ ys) = ap (λ b. b || list_any (λ (z : Savepoint). (z.making + 1) == (k + 1)) ys) (both_more y.making k) ∙ ap (λ b. (y.making == k) || b) (one_more ys)
