-- Where a workspace and its parent both changed something, key by key.
use Rattle.std.proofs.Common.{◌≡◌, ℕ, zero, suc, ◌<◌, ◌≤◌, ◌⊎◌, inl, inr, Bool, true, false, not, ◌&&◌, ◌||◌, List, [], ◌∷◌, map, length, take, get_or, Option, None, is_some, refl, sym, ap, ◌∙◌, subst, arith}
use Rattle.std.proofs.lemmas.List.{get_or-take, length-take-le, take_all}
use Rattle.std.specs.Bool.{then_some}
use Rattle.std.specs.Option.{option_and_then}
use Rattle.std.specs.List.{All}
use Rattle.std.specs.declared.cmp.Ordering.TheVariants.{Less}
use Rattle.wm_base.specs.declared.instant.TheConstants.{END}
use Rattle.wm_base.specs.declared.value.Value.{Value}
use Rattle.wm_graph.specs.Parts.{Parts}
use Rattle.wm_net.proofs.Grouping.{group_order-itself, group_order_total, same_group-is}
use Rattle.wm_net.proofs.Stretching.{le_or_lt}
use Rattle.wm_net.specs.Conflicts.{Stamps}
use Rattle.wm_net.specs.Firsts.{IsFirst}
use Rattle.wm_net.specs.Groups.{Group, GroupsAscend, cell, group_order, has_group, same_group}
use Rattle.wm_net.specs.Listed.{Stretch}
use Rattle.wm_period.proofs.Order.{held_at-past}
use Rattle.wm_period.specs.Pieces.{Between, Held, held_at}
use Rattle.wm_spec.specs.Lists.{Cell}
use Rattle.wm_spec.specs.declared.record.space.Space.{Space}
use Rattle.wm_state.specs.Copied.{HoldsKey}
use Rattle.wm_state.specs.Listing.{standing}
use Rattle.wm_state.specs.Standing.{seen}
use Rattle.wm_telling.specs.Telling.{AreOwn, IsFirstClash, clash_held, is_pending, is_unsettled, own_held, stamps_of}
use Rattle.wm_pending.proofs.Blocks.{at_group}
use Rattle.wm_pending.proofs.Chaining.{first_alike}
use Rattle.wm_pending.proofs.Looking.{ascend_at, groups_own}
use Rattle.wm_pending.proofs.Netted.{held_of}
use Rattle.wm_pending.proofs.Touching.{touched_reached, unsettled_reached}
use Rattle.wm_pending.proofs.Walking.{stamps_made}
use Rattle.wm_pending.specs.Lookups.{group_own}
use Rattle.wm_pending.specs.Owned.{key_pieces}
use Rattle.wm_pending.specs.Sides.{are_contested, asked_clash, asked_of, asked_stamps, contest_at, stamps_at}
use Rattle.wm_pending.specs.Settled.{is_settled}
use Rattle.wm_pending.specs.Touched.{is_touched, marks_since, since_of}
use Rattle.wm_pending.specs.declared.clash.Asked.{Asked}
use Rattle.wm_pending.specs.declared.own.OwnKey.{OwnKey}
use Rattle.wm_pending.specs.declared.sides.Sides.{Sides}

-- ---- one key

-- from the end of time on nothing is contested
contested_late : (p : Parts) (q : Asked) (k : OwnKey) (t : ℕ) → Between 0 k.pieces END → END ≤ t → are_contested p q k t ≡ false
contested_late p q k t order late =
    ap (λ (o : Option Held). is_some o && (is_touched p.touches q.since (cell (group_own k) t) && not (is_settled p q.marks q.since (cell (group_own k) t)))) (held_at-past 0 k.pieces END t order late)

-- where nothing is held there is nothing in conflict
pub sides_none : (p : Parts) (q : Asked) (k : OwnKey) (s : Sides) → Between 0 k.pieces END → ((t : ℕ) → t < END → is_some (held_at s.contested t) ≡ are_contested p q k t) → ((t : ℕ) → held_at s.contested t ≡ None)
    → (t : ℕ) → contest_at s t ≡ asked_clash p q k t
sides_none p q k s order told none t =
    ap (λ (o : Option Held). then_some (is_some o) (stamps_at s t)) (none t) ∙ ap (λ b. then_some b (asked_stamps p q (group_own k) t)) (sym (by_place (le_or_lt END t)))
  where
    by_place : (END ≤ t) ⊎ (t < END) → are_contested p q k t ≡ false
    by_place (inl late) = contested_late p q k t order late
    by_place (inr early) = sym (told t early) ∙ ap (λ (o : Option Held). is_some o) (none t)

-- what the sides tell
pub sides_tell : (p : Parts) (q : Asked) (k : OwnKey) (s : Sides) → Between 0 k.pieces END → Between 0 s.contested END → ((t : ℕ) → t < END → is_some (held_at s.contested t) ≡ are_contested p q k t)
    → ((t : ℕ) → t < END → held_at s.base t ≡ seen p q.base (cell (group_own k) t)) → ((t : ℕ) → t < END → held_at s.parent t ≡ seen p q.parent (cell (group_own k) t))
    → ((t : ℕ) → t < END → held_at s.child t ≡ seen p q.child (cell (group_own k) t)) → (t : ℕ) → contest_at s t ≡ asked_clash p q k t
sides_tell p q k s order within told base parent child t = by_place (le_or_lt END t)
  where
    by_place : (END ≤ t) ⊎ (t < END) → contest_at s t ≡ asked_clash p q k t
    by_place (inl late) =
        ap (λ (o : Option Held). then_some (is_some o) (stamps_at s t)) (held_at-past 0 s.contested END t within late)
        ∙ sym (ap (λ b. then_some b (asked_stamps p q (group_own k) t)) (contested_late p q k t order late))
    by_place (inr early) =
        ap (λ b. then_some b (stamps_at s t)) (told t early)
        ∙ ap (λ v. then_some (are_contested p q k t) v)
        (stamps_made _ _ _ _ _ _ (ap (λ (o : Option Held). option_and_then standing o) (base t early)) (ap (λ (o : Option Held). option_and_then standing o) (parent t early))
        (ap (λ (o : Option Held). option_and_then standing o) (child t early)))

-- ---- all keys

-- nothing of the key is in conflict
pub record Quiet (p : Parts) (a b : Space) (k : OwnKey) : Type 0 where
  pub none : (t : ℕ) → clash_held p a b (cell (group_own k) t) ≡ None

-- what is in conflict of a key, as it is asked
pub same_clash : (p : Parts) (a b : Space) (k : OwnKey) → HoldsKey (own_held p a) (key_pieces k) → (t : ℕ) → asked_clash p (asked_of p a b) k t ≡ clash_held p a b (cell (group_own k) t)
same_clash p a b k holds t =
    ap (λ (o : Option Held). then_some (is_some o && (is_touched p.touches (since_of a b) at && not (is_settled p (marks_since a) (since_of a b) at))) (stamps_of p a b at)) (holds.holds t)
    ∙ ap (λ v. then_some (is_some (own_held p a at) && (v && not (is_settled p (marks_since a) (since_of a b) at))) (stamps_of p a b at)) (touched_reached p.touches (since_of a b) at)
    ∙ ap (λ v. then_some (is_some (own_held p a at) && (is_pending p a b at && v)) (stamps_of p a b at)) (unsettled_reached p.marks p.touches a.number a.next_place (since_of a b) at)
  where
    at : Cell
    at = cell (group_own k) t

-- a key more in which nothing is in conflict
pub quiet_more : (p : Parts) (a b : Space) (ks : List OwnKey) (i : ℕ) (k : OwnKey) (q : Asked) → i < length ks → k ≡ get_or ks i k → AreOwn p a (map key_pieces ks) → q ≡ asked_of p a b
    → ((t : ℕ) → asked_clash p q k t ≡ None) → Quiet p a b (get_or ks i k)
quiet_more p a b ks i k q within is own asked none =
    subst (Quiet p a b) is (record {
      none = λ t.
          sym (same_clash p a b k (held_of (own_held p a) ks i k within is own.copied.each) t) ∙ ap (λ (x : Asked). asked_clash p x k t) (sym asked) ∙ none t;
    })

-- a key of own pieces stands at some place
record Stands (ks : List OwnKey) (g : Group) : Type 0 where
  place : ℕ
  within : place < length ks
  key : OwnKey
  at : (d : OwnKey) → get_or ks place d ≡ key
  is : group_own key ≡ g

stands : (ks : List OwnKey) (g : Group) → has_group g (map group_own ks) ≡ true → Stands ks g
stands [] g e = absurd (cc)
stands (k ∷ ks) g e = by_group (same_group (group_own k) g) refl e (stands ks g)
  where
    by_group : (b : Bool) → same_group (group_own k) g ≡ b → (b || has_group g (map group_own ks)) ≡ true → (has_group g (map group_own ks) ≡ true → Stands ks g) → Stands (k ∷ ks) g
    by_group true same h rest = record { place = zero; within = omega arith; key = k; at = λ d. refl; is = same_group-is (group_own k) g same }
    by_group false same h rest = let s = rest h in record { place = suc s.place; within = (let w = s.within in omega arith); key = s.key; at = s.at; is = s.is }

-- nothing is in conflict where the workspace has nothing of its own
pub no_own : (p : Parts) (a b : Space) (ks : List OwnKey) (g : Group) → AreOwn p a (map key_pieces ks) → has_group g (map group_own ks) ≡ false → (t : ℕ) → clash_held p a b (cell g t) ≡ None
no_own p a b ks g own none t =
    ap (λ (o : Option Held). then_some (is_some o && (is_pending p a b (cell g t) && is_unsettled p a b (cell g t))) (stamps_of p a b (cell g t)))
    (own.copied.elsewhere (cell g t) (sym (at_group (cell g t) (map key_pieces ks) g refl refl) ∙ ap (λ (gs : List Group). has_group g gs) (groups_own ks) ∙ none))

-- a key in which nothing is in conflict, by its place
quiet_at : (p : Parts) (a b : Space) (ks : List OwnKey) (g : Group) (s : Stands ks g) → Quiet p a b (get_or ks s.place s.key) → (t : ℕ) → clash_held p a b (cell g t) ≡ None
quiet_at p a b ks g s quiet t = ap (λ (x : Group). clash_held p a b (cell x t)) (sym (ap group_own (s.at s.key) ∙ s.is)) ∙ quiet.none t

-- where nothing of any key is in conflict nothing is
pub none_clash : (p : Parts) (a b : Space) (ks : List OwnKey) (i : ℕ) → AreOwn p a (map key_pieces ks) → length ks ≤ i → All (Quiet p a b) (take i ks) → (c : Cell) → clash_held p a b c ≡ None
none_clash p a b ks i own past quiet c = by_member (has_group g (map group_own ks)) refl
  where
    g : Group
    g = record { table = c.table; key = c.key }

    by_member : (m : Bool) → has_group g (map group_own ks) ≡ m → clash_held p a b (cell g c.time) ≡ None
    by_member false e = no_own p a b ks g own e c.time
    by_member true e =
        let s = stands ks g e in
        let all : All (Quiet p a b) ks = subst (All (Quiet p a b)) (take_all i ks past) quiet in
        quiet_at p a b ks g s (all s.place s.key s.within) c.time

-- a key does not come before itself, nor before one that comes before it
before_itself : (g h : Group) → group_order h g ≡ Less → g ≡ h → ⊥
before_itself g h lt e = let same = ap (λ x. group_order h x) e ∙ group_order-itself h in cc

before_both : (g h : Group) → group_order h g ≡ Less → group_order g h ≡ Less → ⊥
before_both g h lt gt = let both_ways = group_order_total.trans h g h lt gt in let same = group_order-itself h in cc

-- where a key before another stands
placed_before : (ks : List OwnKey) (i : ℕ) (k : OwnKey) (h : Group) (s : Stands ks h) → GroupsAscend (map group_own ks) → i < length ks → k ≡ get_or ks i k → group_order h (group_own k) ≡ Less → s.place < i
placed_before ks i k h s up within is lt = by_place (le_or_lt i s.place)
  where
    same : (m n : ℕ) → m ≡ n → get_or ks m k ≡ get_or ks n k
    same m n e = ap (λ x. get_or ks x k) e

    found : group_own (get_or ks s.place k) ≡ h
    found = ap group_own (s.at k) ∙ s.is

    by_order : (i ≤ s.place) → (s.place ≤ i) ⊎ (i < s.place) → s.place < i
    by_order ge (inl le) = absurd (before_itself (group_own k) h lt (ap group_own (is ∙ same i s.place (omega (arith, le, ge))) ∙ found))
    by_order ge (inr gt) =
        absurd (before_both (group_own k) h lt
        (ap (λ (x : OwnKey). group_order (group_own x) h) is
        ∙ ap (λ (x : Group). group_order (group_own (get_or ks i k)) x) (sym found)
        ∙ ascend_at ks i s.place k up gt s.within))

    by_place : (i ≤ s.place) ⊎ (s.place < i) → s.place < i
    by_place (inl ge) = by_order ge (le_or_lt s.place i)
    by_place (inr early) = early

-- the first stretch of a key before which nothing is in conflict
pub first_found : (p : Parts) (a b : Space) (ks : List OwnKey) (i : ℕ) (k : OwnKey) (q : Asked) (key : List Value) (s : Stretch Stamps) → AreOwn p a (map key_pieces ks) → All (Quiet p a b) (take i ks) → i < length ks
    → k ≡ get_or ks i k → q ≡ asked_of p a b → IsFirst (asked_clash p q k) 0 s → key ≡ k.key → IsFirstClash p a b k.table key s.from s.till
first_found p a b ks i k q key s own quiet within is asked first copied =
    subst (λ (x : List Value). IsFirstClash p a b k.table x s.from s.till) (sym copied) (record {
      stamps = s.value;
      first = record {
        before = λ h lt t. by_member h lt t (has_group h (map group_own ks)) refl;
        first = first_alike (asked_clash p q k) (λ t. clash_held p a b (cell (group_own k) t)) 0 s
            (λ t le. ap (λ (x : Asked). asked_clash p x k t) asked ∙ same_clash p a b k (held_of (own_held p a) ks i k within is own.copied.each) t) first;
      };
    })
  where
    by_member : (h : Group) → group_order h (group_own k) ≡ Less → (t : ℕ) → (m : Bool) → has_group h (map group_own ks) ≡ m → clash_held p a b (cell h t) ≡ None
    by_member h lt t false e = no_own p a b ks h own e t
    by_member h lt t true e =
        let s = stands ks h e in
        let early : s.place < i = placed_before ks i k h s (subst GroupsAscend (groups_own ks) own.ascend) within is lt in
        quiet_at p a b ks h s
        (subst (Quiet p a b) (get_or-take i ks s.place s.key early) (quiet s.place s.key (omega (arith, length-take-le i ks (omega arith), early)))) t
