-- Entries that are listed group by group go by table and key, and no two of them share a cell.
use Rattle.std.proofs.Common.{◌≡◌, ℕ, ◌≤◌, ◌==◌, ◌&&◌, nat_lt, Bool, true, false, not, Option, List, [], ◌∷◌, ◌++◌, map, refl, ap, ◌∙◌, arith}
use Rattle.std.proofs.lemmas.Bool.Decides.{nat_tests}
use Rattle.std.proofs.lemmas.Bool.{and_from, or_from}
use Rattle.std.specs.List.{AllByRecursion, list_any}
use Rattle.std.specs.Ordering.{is_gt}
use Rattle.std.specs.declared.cmp.Ordering.{Ordering}
use Rattle.wm_graph.specs.Rules.{collide, differ}
use Rattle.wm_net.proofs.Grouping.{group_order-itself, groups-ascend, less_other}
use Rattle.wm_net.proofs.Listing.{blocks_of, blocks_of-groups, blocks_of-listed}
use Rattle.wm_net.proofs.Stretching.{Ordered-stretches}
use Rattle.wm_net.specs.Groups.{Group, GroupsAscend, Precedes, cell, group_of, group_order, groups, same_group}
use Rattle.wm_net.specs.Listed.{Block, Ordered, Stretch, blocks_listed, groups_of, listing, stretches_of}
use Rattle.wm_spec.proofs.Stretches.{Up-cuts}
use Rattle.wm_spec.specs.Lists.{Cell, Entry}
use Rattle.wm_spec.specs.Stretches.{cuts}
use Rattle.wm_state.specs.Drafts.{are_in_order, entry_order}
use Rattle.wm_state.specs.Entries.{piece_of, pieces_of}

-- a group does not come behind that of the first of some entries
abbrev IsBefore : Group → List Entry → Type 0
IsBefore g [] = Unit {0}
IsBefore g (e ∷ es) = not (is_gt (group_order g (group_of e))) ≡ true

in_order-cons : (e : Entry) (es : List Entry) → IsBefore (group_of e) es → are_in_order es ≡ true → are_in_order (e ∷ es) ≡ true
in_order-cons e [] before rest = refl
in_order-cons e (f ∷ fs) before rest = and_from (not (is_gt (entry_order e f))) (are_in_order (f ∷ fs)) before rest

-- no entry is of the group
abbrev IsNoneOf : Group → List Entry → Type 0
IsNoneOf g es = AllByRecursion (λ (e : Entry). same_group g (group_of e) ≡ false) es

last_fails : (a b d : Bool) → d ≡ false → (a && (b && d)) ≡ false
last_fails true true d e = e
last_fails true false d e = refl
last_fails false b d e = refl

second_fails : (a b d : Bool) → b ≡ false → ((a && b) && d) ≡ false
second_fails true true d e = absurd (cc)
second_fails true false d e = refl
second_fails false b d e = refl

-- an entry of a stretch has its group and its period
pub record IsOver {A : Type 0} (entry : Group → Stretch A → Entry) : Type 0 where
  pub group : (g : Group) (s : Stretch A) → group_of (entry g s) ≡ g
  pub from : (g : Group) (s : Stretch A) → (entry g s).from ≡ s.from
  pub till : (g : Group) (s : Stretch A) → (entry g s).till ≡ s.till

-- the stretches of each block lie one after another
abbrev pub AreOrdered : {A : Type 0} → List (Block A) → Type 0
AreOrdered [] = Unit {0}
AreOrdered (b ∷ bs) = Ordered 0 b.stretches × AreOrdered bs

blocks_of-ordered : {A : Type 0} (F : Group → List (Stretch A)) (gs : List Group) → ((g : Group) → Ordered 0 (F g)) → AreOrdered (blocks_of F gs)
blocks_of-ordered F [] each = tt
blocks_of-ordered F (g ∷ gs) each = (each g, blocks_of-ordered F gs each)

module _ {A : Type 0} (entry : Group → Stretch A → Entry) (over : IsOver entry) where
  before_own : (g h : Group) (ss : List (Stretch A)) (rest : List Entry) → not (is_gt (group_order g h)) ≡ true → IsBefore g rest → IsBefore g (map (entry h) ss ++ rest)
  before_own g h [] rest less before = before
  before_own g h (s ∷ ss) rest less before = ap (λ (x : Group). not (is_gt (group_order g x))) (over.group h s) ∙ less

  itself : (g : Group) → not (is_gt (group_order g g)) ≡ true
  itself g = ap (λ (o : Ordering). not (is_gt o)) (group_order-itself g)

  before_blocks : (g : Group) (bs : List (Block A)) → Precedes g (groups_of bs) → IsBefore g (blocks_listed entry bs)
  before_blocks g [] before = tt
  before_blocks g (b ∷ bs) before = before_own g b.group b.stretches (blocks_listed entry bs) (ap (λ (o : Ordering). not (is_gt o)) before.0) (before_blocks g bs before.1)

  sorted_own : (g : Group) (ss : List (Stretch A)) (rest : List Entry) → IsBefore g rest → are_in_order rest ≡ true → are_in_order (map (entry g) ss ++ rest) ≡ true
  sorted_own g [] rest before sorted = sorted
  sorted_own g (s ∷ ss) rest before sorted =
      in_order-cons (entry g s) (map (entry g) ss ++ rest)
      (rw (over.group g s) (before_own g g ss rest (itself g) before)) (sorted_own g ss rest before sorted)

  -- block by block, where the groups ascend, they go by table and key
  pub blocks_sorted : (bs : List (Block A)) → GroupsAscend (groups_of bs) → are_in_order (blocks_listed entry bs) ≡ true
  blocks_sorted [] up = refl
  blocks_sorted (b ∷ bs) up = sorted_own b.group b.stretches (blocks_listed entry bs) (before_blocks b.group bs up.0) (blocks_sorted bs up.1)

  none_own : (g h : Group) (ss : List (Stretch A)) (rest : List Entry) → same_group g h ≡ false → IsNoneOf g rest → IsNoneOf g (map (entry h) ss ++ rest)
  none_own g h [] rest other none = none
  none_own g h (s ∷ ss) rest other none = (ap (same_group g) (over.group h s) ∙ other, none_own g h ss rest other none)

  none_blocks : (g : Group) (bs : List (Block A)) → Precedes g (groups_of bs) → IsNoneOf g (blocks_listed entry bs)
  none_blocks g [] before = tt
  none_blocks g (b ∷ bs) before = none_own g b.group b.stretches (blocks_listed entry bs) (less_other g b.group before.0) (none_blocks g bs before.1)

  -- an entry shares no cell with those of other groups
  apart_rest : (g : Group) (s : Stretch A) (rest : List Entry) → IsNoneOf g rest → list_any (collide (piece_of 0 (entry g s))) (pieces_of 0 rest) ≡ false
  apart_rest g s [] none = refl
  apart_rest g s (e ∷ rest) none =
      or_from (collide (piece_of 0 (entry g s)) (piece_of 0 e)) (list_any (collide (piece_of 0 (entry g s))) (pieces_of 0 rest))
      (second_fails (let version : ℕ = 0 in version == 0) (same_group (group_of (entry g s)) (group_of e)) (nat_lt (entry g s).from e.till && nat_lt e.from (entry g s).till)
      (ap (λ (x : Group). same_group x (group_of e)) (over.group g s) ∙ none.0))
      (apart_rest g s rest none.1)

  -- nor with those of its own that come behind it
  apart_own : (g : Group) (s : Stretch A) (low : ℕ) (ss : List (Stretch A)) (rest : List Entry) → s.till ≤ low → Ordered low ss → IsNoneOf g rest
      → list_any (collide (piece_of 0 (entry g s))) (pieces_of 0 (map (entry g) ss ++ rest)) ≡ false
  apart_own g s low [] rest le o none = apart_rest g s rest none
  apart_own g s low (q ∷ ss) rest le o none =
      or_from (collide (piece_of 0 (entry g s)) (piece_of 0 (entry g q))) (list_any (collide (piece_of 0 (entry g s))) (pieces_of 0 (map (entry g) ss ++ rest)))
      (last_fails ((let version : ℕ = 0 in version == 0) && same_group (group_of (entry g s)) (group_of (entry g q))) (nat_lt (entry g s).from (entry g q).till) (nat_lt (entry g q).from (entry g s).till)
      (late (entry g s).till low (entry g q).from (omega (arith, over.till g s, le)) (omega (arith, over.from g q, o.0))))
      (apart_own g s q.till ss rest (omega (arith, le, o.0, o.1)) o.2 none)
    where
      late : (till low from : ℕ) → till ≤ low → low ≤ from → nat_lt from till ≡ false
      late till low from a b = grind (arith, nat_tests, a, b)

  apart_group : (g : Group) (low : ℕ) (ss : List (Stretch A)) (rest : List Entry) → Ordered low ss → IsNoneOf g rest → differ collide (pieces_of 0 rest) ≡ true
      → differ collide (pieces_of 0 (map (entry g) ss ++ rest)) ≡ true
  apart_group g low [] rest o none apart = apart
  apart_group g low (s ∷ ss) rest o none apart =
      and_from (not (list_any (collide (piece_of 0 (entry g s))) (pieces_of 0 (map (entry g) ss ++ rest)))) (differ collide (pieces_of 0 (map (entry g) ss ++ rest)))
      (ap not (apart_own g s s.till ss rest (omega arith) o.2 none)) (apart_group g s.till ss rest o.2 none apart)

  -- and no two of them share a cell
  pub blocks_apart : (bs : List (Block A)) → GroupsAscend (groups_of bs) → AreOrdered bs → differ collide (pieces_of 0 (blocks_listed entry bs)) ≡ true
  blocks_apart [] up o = refl
  blocks_apart (b ∷ bs) up o = apart_group b.group 0 b.stretches (blocks_listed entry bs) o.0 (none_blocks b.group bs up.0) (blocks_apart bs up.1 o.1)

  -- a listing is listed so
  pub listing_sorted : (test : A → A → Bool) (es : List Entry) (f : Cell → Option A) → are_in_order (listing test entry es f) ≡ true
  listing_sorted test es f =
      let F : Group → List (Stretch A) = stretches_of test es f in
      ap are_in_order (blocks_of-listed entry F (groups es)) ∙ blocks_sorted (blocks_of F (groups es)) (rw (blocks_of-groups F (groups es)) (groups-ascend es))

  pub listing_apart : (test : A → A → Bool) (es : List Entry) (f : Cell → Option A) → differ collide (pieces_of 0 (listing test entry es f)) ≡ true
  listing_apart test es f =
      let F : Group → List (Stretch A) = stretches_of test es f in
      ap (λ (xs : List Entry). differ collide (pieces_of 0 xs)) (blocks_of-listed entry F (groups es))
      ∙ blocks_apart (blocks_of F (groups es)) (rw (blocks_of-groups F (groups es)) (groups-ascend es))
      (blocks_of-ordered F (groups es) (λ g. Ordered-stretches test (λ t. f (cell g t)) 0 (cuts es g.table g.key) (Up-cuts es g.table g.key)))
