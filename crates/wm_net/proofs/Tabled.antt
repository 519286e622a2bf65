-- What is listed of one table, and what stretches say where they begin.
use Rattle.std.proofs.Common.{◌≡◌, ℕ, ◌≤◌, ◌==◌, ◌||◌, cond, List, [], ◌∷◌, ◌++◌, map, slice_get, Option, None, Some, Bool, true, false, refl, sym, ap, ◌∙◌, arith, eq-eqb, eqb-true, subst}
use Rattle.std.proofs.lemmas.List.Elements.{filter-append}
use Rattle.std.proofs.lemmas.Option.{none-some}
use Rattle.std.specs.List.{AllByRecursion, filter}
use Rattle.wm_spec.proofs.Stretches.{Steady}
use Rattle.wm_spec.specs.Lists.{Cell, Entry}
use Rattle.wm_spec.specs.Stretches.{cuts}
use Rattle.wm_net.specs.Conflicts.{Sides, Stamps, all_sides, conflict_at, conflicts, conflicts_in, grouped, in_table, same_stamps}
use Rattle.wm_net.specs.Groups.{Group, GroupsAscend, Precedes, cell, has_group, same_group}
use Rattle.wm_net.specs.Listed.{AreBlocks, Block, IsListing, Ordered, Stretch, blocks_listed, groups_of, value_at}
use Rattle.wm_net.proofs.Conflicting.{Fit-conflicts, conflicts_are, same_stamps-itself}
use Rattle.wm_net.proofs.Grouping.{same_group-is}
use Rattle.wm_net.proofs.Listing.{Changes, changes_of, is_listing}
use Rattle.wm_net.proofs.Stretching.{Steady-none}
use Rattle.wm_net.proofs.Unique.{here, past}

-- ---- the blocks of a table

abbrev is_of : {A : Type 0} → ℕ → Group × Stretch A → Bool
is_of table x = x.0.table == table

abbrev blocks_in : {A : Type 0} → ℕ → List (Block A) → List (Block A)
blocks_in table [] = []
blocks_in table (b ∷ bs) = cond (b.group.table == table) (b ∷ blocks_in table bs) (blocks_in table bs)

all_kept : {A : Type 0} (table : ℕ) (g : Group) (ss : List (Stretch A)) → (g.table == table) ≡ true → filter (is_of table) (map (grouped g) ss) ≡ map (grouped g) ss
all_kept table g [] e = refl
all_kept table g (s ∷ ss) e = rw (e, all_kept table g ss e) refl

none_kept : {A : Type 0} (table : ℕ) (g : Group) (ss : List (Stretch A)) → (g.table == table) ≡ false → filter (is_of table) (map (grouped g) ss) ≡ []
none_kept table g [] e = refl
none_kept table g (s ∷ ss) e = rw (e, none_kept table g ss e) refl

-- what is kept of all that is listed is what these list
kept_listed : {A : Type 0} (table : ℕ) (bs : List (Block A)) → filter (is_of table) (blocks_listed grouped bs) ≡ blocks_listed grouped (blocks_in table bs)
kept_listed table [] = refl
kept_listed {A = A} table (b ∷ bs) =
    filter-append (is_of table) (map (grouped b.group) b.stretches) (blocks_listed grouped bs) ∙ by_test (b.group.table == table) refl (kept_listed table bs)
  where
    by_test : (t : Bool) → (b.group.table == table) ≡ t → filter (is_of table) (blocks_listed grouped bs) ≡ blocks_listed grouped (blocks_in table bs)
        → filter (is_of table) (map (grouped b.group) b.stretches) ++ filter (is_of table) (blocks_listed grouped bs) ≡ blocks_listed grouped (cond t (b ∷ blocks_in table bs) (blocks_in table bs))
    by_test true e rest = rw (all_kept table b.group b.stretches e) (ap (λ (xs : List (Group × Stretch A)). map (grouped b.group) b.stretches ++ xs) rest)
    by_test false e rest = rw (none_kept table b.group b.stretches e) rest

kept_precede : {A : Type 0} (table : ℕ) (g : Group) (bs : List (Block A)) → Precedes g (groups_of bs) → Precedes g (groups_of (blocks_in table bs))
kept_precede table g [] before = tt
kept_precede table g (b ∷ bs) before = by_test (b.group.table == table) (kept_precede table g bs before.1)
  where
    by_test : (t : Bool) → Precedes g (groups_of (blocks_in table bs)) → Precedes g (groups_of (cond t (b ∷ blocks_in table bs) (blocks_in table bs)))
    by_test true rest = (before.0, rest)
    by_test false rest = rest

kept_ascend : {A : Type 0} (table : ℕ) (bs : List (Block A)) → GroupsAscend (groups_of bs) → GroupsAscend (groups_of (blocks_in table bs))
kept_ascend table [] up = tt
kept_ascend table (b ∷ bs) up = by_test (b.group.table == table) (kept_ascend table bs up.1)
  where
    by_test : (t : Bool) → GroupsAscend (groups_of (blocks_in table bs)) → GroupsAscend (groups_of (cond t (b ∷ blocks_in table bs) (blocks_in table bs)))
    by_test true rest = (kept_precede table b.group bs up.0, rest)
    by_test false rest = rest

inside : {A : Type 0} (table : ℕ) (f : Cell → Option A) (g : Group) (t : ℕ) → (g.table == table) ≡ true → in_table table f (cell g t) ≡ f (cell g t)
inside table f g t e = rw e refl

outside : {A : Type 0} (table : ℕ) (f : Cell → Option A) (g : Group) (t : ℕ) → (g.table == table) ≡ false → in_table table f (cell g t) ≡ None
outside table f g t e = rw e refl

kept_are : {A : Type 0} (same : A → A → Bool) (table : ℕ) (f : Cell → Option A) (bs : List (Block A)) → AreBlocks same f bs → AreBlocks same (in_table table f) (blocks_in table bs)
kept_are same table f [] each = tt
kept_are same table f (b ∷ bs) each = by_test (b.group.table == table) refl (kept_are same table f bs each.1)
  where
    by_test : (t : Bool) → (b.group.table == table) ≡ t → AreBlocks same (in_table table f) (blocks_in table bs)
        → AreBlocks same (in_table table f) (cond t (b ∷ blocks_in table bs) (blocks_in table bs))
    by_test true e rest = (
      record { ordered = each.0.ordered; joined = each.0.joined; holds = λ t. each.0.holds t ∙ sym (inside table f b.group t e) },
      rest,
    )
    by_test false e rest = rest

-- a group of the table is among these where it is among all
kept_has : {A : Type 0} (table : ℕ) (g : Group) (bs : List (Block A)) → (g.table == table) ≡ true → has_group g (groups_of (blocks_in table bs)) ≡ has_group g (groups_of bs)
kept_has table g [] e = refl
kept_has table g (b ∷ bs) e = by_test (b.group.table == table) refl (kept_has table g bs e)
  where
    other : (t : Bool) → same_group b.group g ≡ t → (b.group.table == table) ≡ false → t ≡ false
    other false is out = refl
    other true is out = absurd (let it : true ≡ false = sym e ∙ ap (λ (h : Group). h.table == table) (sym (same_group-is b.group g is)) ∙ out in cc)

    by_test : (t : Bool) → (b.group.table == table) ≡ t → has_group g (groups_of (blocks_in table bs)) ≡ has_group g (groups_of bs)
        → has_group g (groups_of (cond t (b ∷ blocks_in table bs) (blocks_in table bs))) ≡ (same_group b.group g || has_group g (groups_of bs))
    by_test true is rest = ap (λ t. same_group b.group g || t) rest
    by_test false is rest = rest ∙ sym (ap (λ t. t || has_group g (groups_of bs)) (other (same_group b.group g) refl is))

-- what is kept of a listing lists what the function gives in the table
kept_lists : {A : Type 0} (same : A → A → Bool) (table : ℕ) (f : Cell → Option A) (xs : List (Group × Stretch A)) → IsListing same grouped f xs
    → IsListing same grouped (in_table table f) (filter (is_of table) xs)
kept_lists same table f xs l = record {
  blocks = blocks_in table l.blocks;
  is = ap (filter (is_of table)) l.is ∙ kept_listed table l.blocks;
  ascend = kept_ascend table l.blocks l.ascend;
  each = kept_are same table f l.blocks l.each;
  others = λ g none t. by_test g t none (g.table == table) refl;
}
  where
    by_test : (g : Group) (t : ℕ) → has_group g (groups_of (blocks_in table l.blocks)) ≡ false → (b : Bool) → (g.table == table) ≡ b → in_table table f (cell g t) ≡ None
    by_test g t none true e = inside table f g t e ∙ l.others g (sym (kept_has table g l.blocks e) ∙ none) t
    by_test g t none false e = outside table f g t e

-- what gives nothing in other tables changes where the function does
Changes-in : {A : Type 0} (es : List Entry) (table : ℕ) (f : Cell → Option A) → Changes es f → Changes es (in_table table f)
Changes-in {A = A} es table f change = record { steady = λ g. steady g (g.table == table) }
  where
    steady : (g : Group) (b : Bool) → Steady (λ t. cond b (f (cell g t)) None) 0 (cuts es g.table g.key)
    steady g true = change.steady g
    steady g false = Steady-none None 0 (cuts es g.table g.key) refl

-- ---- the conflicts of a table

-- they are the only listing of conflicts there: what code owes that goes key by key of the table
pub conflicts_in_is : (table : ℕ) (s : Sides) (xs : List (Group × Stretch Stamps)) → IsListing same_stamps grouped (in_table table (conflict_at s)) xs → xs ≡ conflicts_in table s
conflicts_in_is table s xs l =
    is_listing same_stamps grouped (all_sides s) (in_table table (conflict_at s)) xs same_stamps-itself change l
    ∙ sym (is_listing same_stamps grouped (all_sides s) (in_table table (conflict_at s)) (conflicts_in table s) same_stamps-itself change (kept_lists same_stamps table (conflict_at s) (conflicts s) (conflicts_are s)))
  where
    change : Changes (all_sides s) (in_table table (conflict_at s))
    change = Changes-in (all_sides s) table (conflict_at s) (changes_of same_stamps (all_sides s) (conflict_at s) (Fit-conflicts s))

-- such a listing they are
pub conflicts_in_are : (table : ℕ) (s : Sides) → IsListing same_stamps grouped (in_table table (conflict_at s)) (conflicts_in table s)
conflicts_in_are table s = kept_lists same_stamps table (conflict_at s) (conflicts s) (conflicts_are s)

first_kept : {A : Type 0} (xs : List (Group × Stretch A)) (x : Group × Stretch A) → slice_get xs 0 ≡ Some x → slice_get (filter (is_of x.0.table) xs) 0 ≡ Some x
first_kept [] x e = absurd (cc)
first_kept {A = A} (y ∷ ys) x e =
    ap (λ (z : Group × Stretch A). slice_get (cond (is_of x.0.table z) (z ∷ filter (is_of x.0.table) ys) (filter (is_of x.0.table) ys)) 0) one
    ∙ ap (λ (b : Bool). slice_get (cond b (x ∷ filter (is_of x.0.table) ys) (filter (is_of x.0.table) ys)) 0) (eq-eqb x.0.table x.0.table refl)
  where
    one : y ≡ x
    one = cc

-- the first of all is the first of its table
pub first_of_table : (s : Sides) (x : Group × Stretch Stamps) → slice_get (conflicts s) 0 ≡ Some x → slice_get (conflicts_in x.0.table s) 0 ≡ Some x
first_of_table s x e = first_kept (conflicts s) x e

-- ---- where stretches begin

-- a stretch tells what the function gives where it begins
abbrev pub Begins : {A : Type 0} → (Cell → Option A) → Group × Stretch A → Type 0
Begins f x = f (cell x.0 x.1.from) ≡ Some x.1.value

pub each_if : {A : Type 0} (P Q : A → Type 0) (xs : List A) → ((x : A) → P x → Q x) → AllByRecursion P xs → AllByRecursion Q xs
each_if P Q [] to all = tt
each_if P Q (x ∷ xs) to all = (to x all.0, each_if P Q xs to all.1)

each_append : {A : Type 0} (P : A → Type 0) (xs ys : List A) → AllByRecursion P xs → AllByRecursion P ys → AllByRecursion P (xs ++ ys)
each_append P [] ys one two = two
each_append P (x ∷ xs) ys one two = (one.0, each_append P xs ys one.1 two)

-- of stretches in order, each holds where it begins
held_there : {A : Type 0} (low : ℕ) (ss : List (Stretch A)) → Ordered low ss → AllByRecursion (λ (q : Stretch A). (low ≤ q.from) × (value_at ss q.from ≡ Some q.value)) ss
held_there low [] o = tt
held_there {A = A} low (p ∷ ps) o = (
  (o.0, here p ps p.from o.2 (omega arith) o.1),
  each_if (λ (q : Stretch A). (p.till ≤ q.from) × (value_at ps q.from ≡ Some q.value)) (λ (q : Stretch A). (low ≤ q.from) × (value_at (p ∷ ps) q.from ≡ Some q.value)) ps
      (λ q h. (omega (arith, o.0, o.1, h.0), past p ps q.from h.0 ∙ h.1)) (held_there p.till ps o.2),
)

block_begins : {A : Type 0} (f : Cell → Option A) (g : Group) (all ss : List (Stretch A)) → ((t : ℕ) → value_at all t ≡ f (cell g t))
    → AllByRecursion (λ (q : Stretch A). (0 ≤ q.from) × (value_at all q.from ≡ Some q.value)) ss → AllByRecursion (Begins f) (map (grouped g) ss)
block_begins f g all [] holds each = tt
block_begins f g all (s ∷ ss) holds each = (sym (holds s.from) ∙ each.0.1, block_begins f g all ss holds each.1)

blocks_begin : {A : Type 0} (same : A → A → Bool) (f : Cell → Option A) (bs : List (Block A)) → AreBlocks same f bs → AllByRecursion (Begins f) (blocks_listed grouped bs)
blocks_begin same f [] each = tt
blocks_begin same f (b ∷ bs) each =
    each_append (Begins f) (map (grouped b.group) b.stretches) (blocks_listed grouped bs)
    (block_begins f b.group b.stretches b.stretches each.0.holds (held_there 0 b.stretches each.0.ordered)) (blocks_begin same f bs each.1)

-- each stretch of a listing tells what the function gives where it begins
pub all_begin : {A : Type 0} (same : A → A → Bool) (f : Cell → Option A) (xs : List (Group × Stretch A)) → IsListing same grouped f xs → AllByRecursion (Begins f) xs
all_begin {A = A} same f xs l = subst (λ (ys : List (Group × Stretch A)). AllByRecursion (Begins f) ys) (sym l.is) (blocks_begin same f l.blocks l.each)

-- what is given in a table is of it, and is given anywhere
pub given_in : {A : Type 0} (table : ℕ) (f : Cell → Option A) (g : Group) (t : ℕ) (x : A) → in_table table f (cell g t) ≡ Some x → (g.table ≡ table) × (f (cell g t) ≡ Some x)
given_in {A = A} table f g t x e = by_test (g.table == table) refl e
  where
    by_test : (b : Bool) → (g.table == table) ≡ b → cond b (f (cell g t)) None ≡ Some x → (g.table ≡ table) × (f (cell g t) ≡ Some x)
    by_test true is h = (eqb-true g.table table is, h)
    by_test false is h = absurd (none-some x h)
