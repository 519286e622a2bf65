-- What code may show in place of a listing: another function, other values, groups in a loop.
use Rattle.std.proofs.Common.{◌≡◌, ℕ, ◌+◌, ◌<◌, ◌≤◌, List, [], ◌∷◌, ◌++◌, map, Option, None, Some, option_map, Bool, true, false, ◌&&◌, ◌==◌, refl, sym, ap, ◌∙◌, arith, append_assoc, eqb-true}
use Rattle.std.proofs.lemmas.Bool.{and_parts}
use Rattle.std.proofs.lemmas.Bool.Decides.{nat_tests}
use Rattle.std.proofs.lemmas.List.{append-nil, map-append}
use Rattle.std.specs.Bool.{then_some}
use Rattle.std.specs.Option.{option_or}
use Rattle.std.specs.Ordering.{nat_cmp}
use Rattle.std.specs.declared.cmp.Ordering.TheVariants.{Less, Equal}
use Rattle.wm_base.specs.declared.value.Value.{Value}
use Rattle.wm_spec.proofs.Stretches.{by_test}
use Rattle.wm_spec.specs.Lists.{Cell}
use Rattle.wm_spec.specs.Stretches.{ComesBefore, KeysAscend}
use Rattle.wm_net.specs.Groups.{Group, cell, has_group, Precedes, GroupsAscend}
use Rattle.wm_net.specs.Listed.{Stretch, within, value_at, Ordered, IsApart, IsJoined, listed, Block, blocks_listed, groups_of, IsBlock, AreBlocks, IsListing, ListsGroups}
use Rattle.wm_net.proofs.Stretching.{Right, Holds}
use Rattle.wm_net.proofs.Unique.{here, past}

-- ---- another function that gives the same

AreBlocks-alike : {A : Type 0} (same : A → A → Bool) (f h : Cell → Option A) (bs : List (Block A)) → ((c : Cell) → f c ≡ h c) → AreBlocks same f bs → AreBlocks same h bs
AreBlocks-alike same f h [] alike each = tt
AreBlocks-alike same f h (b ∷ bs) alike each = (
  record { ordered = each.0.ordered; joined = each.0.joined; holds = λ t. each.0.holds t ∙ alike (cell b.group t) },
  AreBlocks-alike same f h bs alike each.1,
)

pub listing_alike : {A B : Type 0} (same : A → A → Bool) (entry : Group → Stretch A → B) (f h : Cell → Option A) (xs : List B) → ((c : Cell) → f c ≡ h c)
    → IsListing same entry f xs → IsListing same entry h xs
listing_alike same entry f h xs alike l = record {
  blocks = l.blocks;
  is = l.is;
  ascend = l.ascend;
  each = AreBlocks-alike same f h l.blocks alike l.each;
  others = λ g none t. sym (alike (cell g t)) ∙ l.others g none t;
}

-- ---- other values

abbrev pub through : {A X : Type 0} → (A → X) → Stretch A → Stretch X
through act s = record { from = s.from; till = s.till; value = act s.value }

abbrev pub block_through : {A X : Type 0} → (A → X) → Block A → Block X
block_through act b = record { group = b.group; stretches = map (through act) b.stretches }

Ordered-through : {A X : Type 0} (act : A → X) (low : ℕ) (ss : List (Stretch A)) → Ordered low ss → Ordered low (map (through act) ss)
Ordered-through act low [] o = tt
Ordered-through act low (s ∷ ss) o = (o.0, o.1, Ordered-through act s.till ss o.2)

IsApart-through : {A X : Type 0} (act : A → X) (same : A → A → Bool) (test : X → X → Bool) (p : Stretch A) (ss : List (Stretch A)) → ((x y : A) → test (act x) (act y) ≡ same x y)
    → IsApart same p ss → IsApart test (through act p) (map (through act) ss)
IsApart-through act same test p [] agree apart = tt
IsApart-through act same test p (q ∷ ss) agree apart = rw (agree p.value q.value) apart

IsJoined-through : {A X : Type 0} (act : A → X) (same : A → A → Bool) (test : X → X → Bool) (ss : List (Stretch A)) → ((x y : A) → test (act x) (act y) ≡ same x y)
    → IsJoined same ss → IsJoined test (map (through act) ss)
IsJoined-through act same test [] agree j = tt
IsJoined-through act same test (s ∷ ss) agree j = (IsApart-through act same test s ss agree j.0, IsJoined-through act same test ss agree j.1)

mapped_or : {A X : Type 0} (act : A → X) (o : Option A) (b : Bool) (x : A) → option_or (option_map act o) (then_some b (act x)) ≡ option_map act (option_or o (then_some b x))
mapped_or act (Some y) b x = refl
mapped_or act None true x = refl
mapped_or act None false x = refl

value-through : {A X : Type 0} (act : A → X) (ss : List (Stretch A)) (t : ℕ) → value_at (map (through act) ss) t ≡ option_map act (value_at ss t)
value-through act [] t = refl
value-through act (s ∷ ss) t = rw (value-through act ss t) (mapped_or act (value_at ss t) (within s.from s.till t) s.value)

AreBlocks-through : {A X : Type 0} (act : A → X) (same : A → A → Bool) (test : X → X → Bool) (f : Cell → Option A) (bs : List (Block A)) → ((x y : A) → test (act x) (act y) ≡ same x y)
    → AreBlocks same f bs → AreBlocks test (λ c. option_map act (f c)) (map (block_through act) bs)
AreBlocks-through act same test f [] agree each = tt
AreBlocks-through {X = X} act same test f (b ∷ bs) agree each = (
  record {
    ordered = Ordered-through act 0 b.stretches each.0.ordered;
    joined = IsJoined-through act same test b.stretches agree each.0.joined;
    holds = λ t. value-through act b.stretches t ∙ ap (λ o. option_map act o) (each.0.holds t);
  },
  AreBlocks-through act same test f bs agree each.1,
)

groups-through : {A X : Type 0} (act : A → X) (bs : List (Block A)) → groups_of (map (block_through act) bs) ≡ groups_of bs
groups-through act [] = refl
groups-through act (b ∷ bs) = ap (λ (gs : List Group). b.group ∷ gs) (groups-through act bs)

entries-through : {A B X : Type 0} (act : A → X) (entry : Stretch A → B) (into : Stretch X → B) (ss : List (Stretch A)) → ((s : Stretch A) → entry s ≡ into (through act s))
    → map entry ss ≡ map into (map (through act) ss)
entries-through act entry into [] agree = refl
entries-through act entry into (s ∷ ss) agree = let first = agree s in let rest = entries-through act entry into ss agree in cc

listed-through : {A B X : Type 0} (act : A → X) (entry : Group → Stretch A → B) (into : Group → Stretch X → B) (bs : List (Block A))
    → ((g : Group) (s : Stretch A) → entry g s ≡ into g (through act s)) → blocks_listed entry bs ≡ blocks_listed into (map (block_through act) bs)
listed-through act entry into [] agree = refl
listed-through act entry into (b ∷ bs) agree =
    let first = entries-through act (entry b.group) (into b.group) b.stretches (agree b.group) in
    let rest = listed-through act entry into bs agree in
    cc

-- a listing of some values is one of what stands for them, where the tests agree
pub listing_through : {A B X : Type 0} (act : A → X) (same : A → A → Bool) (test : X → X → Bool) (entry : Group → Stretch A → B) (into : Group → Stretch X → B) (f : Cell → Option A) (xs : List B)
    → ((x y : A) → test (act x) (act y) ≡ same x y) → ((g : Group) (s : Stretch A) → entry g s ≡ into g (through act s))
    → IsListing same entry f xs → IsListing test into (λ c. option_map act (f c)) xs
listing_through act same test entry into f xs agree entries l = record {
  blocks = map (block_through act) l.blocks;
  is = l.is ∙ listed-through act entry into l.blocks entries;
  ascend = rw (groups-through act l.blocks) l.ascend;
  each = AreBlocks-through act same test f l.blocks agree l.each;
  others = λ g none t. ap (λ o. option_map act o) (l.others g (ap (λ (gs : List Group). has_group g gs) (sym (groups-through act l.blocks)) ∙ none) t);
}

-- ---- neighbours that hold other values are joined by any test that is right

-- a stretch does not meet the first of a list with the same value
abbrev pub IsOther : {A : Type 0} → Stretch A → List (Stretch A) → Type 0
IsOther p [] = Unit {0}
IsOther p (q ∷ rest) = p.till ≡ q.from → p.value ≡ q.value → ⊥

abbrev pub AreOther : {A : Type 0} → List (Stretch A) → Type 0
AreOther [] = Unit {0}
AreOther (p ∷ ps) = IsOther p ps × AreOther ps

other_apart : {A : Type 0} (same : A → A → Bool) (f : ℕ → Option A) (p : Stretch A) (ps : List (Stretch A)) → Right same f → f p.from ≡ Some p.value
    → Ordered p.till ps → Holds p.till ps f
    → IsOther p ps → IsApart same p ps
other_apart same f p [] r e o h other = tt
other_apart same f p (q ∷ ps) r e o h other =
    by_test ((p.till == q.from) && same p.value q.value)
    (λ both.
    let two = and_parts (p.till == q.from) (same p.value q.value) both in
    let held : f q.from ≡ Some q.value = sym (h q.from o.0) ∙ here q ps q.from o.2 (omega arith) o.1 in
    absurd (other (eqb-true p.till q.from two.0) (r.right p.from q.from p.value q.value e held two.1)))
    (λ out. out)

pub other_joined : {A : Type 0} (same : A → A → Bool) (f : ℕ → Option A) (low : ℕ) (ss : List (Stretch A)) → Right same f → Ordered low ss → Holds low ss f
    → AreOther ss → IsJoined same ss
other_joined same f low [] r o h other = tt
other_joined same f low (p ∷ ps) r o h other =
    let holds : Holds p.till ps f = λ t le. sym (past p ps t le) ∙ h t (omega (arith, o.0, o.1, le)) in
    let first : f p.from ≡ Some p.value = sym (h p.from o.0) ∙ here p ps p.from o.2 (omega arith) o.1 in
    (other_apart same f p ps r first o.2 holds other.0, other_joined same f p.till ps r o.2 holds other.1)

-- ---- groups in a loop

pub listed-append : {A B : Type 0} (entry : Group → Stretch A → B) (F : Group → List (Stretch A)) (gs hs : List Group)
    → listed entry F (gs ++ hs) ≡ listed entry F gs ++ listed entry F hs
listed-append entry F [] hs = refl
listed-append {B = B} entry F (g ∷ gs) hs =
    ap (λ (xs : List B). map (entry g) (F g) ++ xs) (listed-append entry F gs hs) ∙ sym (append_assoc (map (entry g) (F g)) (listed entry F gs) (listed entry F hs))

pub lists_none : {A B : Type 0} (same : A → A → Bool) (entry : Group → Stretch A → B) (f : Cell → Option A) → ListsGroups same entry f [] []
lists_none same entry f = record { blocks = []; is = refl; groups = refl; each = tt }

blocks-append : {A B : Type 0} (entry : Group → Stretch A → B) (bs cs : List (Block A)) → blocks_listed entry bs ++ blocks_listed entry cs ≡ blocks_listed entry (bs ++ cs)
blocks-append entry [] cs = refl
blocks-append {B = B} entry (b ∷ bs) cs =
    append_assoc (map (entry b.group) b.stretches) (blocks_listed entry bs) (blocks_listed entry cs)
    ∙ ap (λ (xs : List B). map (entry b.group) b.stretches ++ xs) (blocks-append entry bs cs)

AreBlocks-append : {A : Type 0} (same : A → A → Bool) (f : Cell → Option A) (bs cs : List (Block A)) → AreBlocks same f bs → AreBlocks same f cs → AreBlocks same f (bs ++ cs)
AreBlocks-append same f [] cs one two = two
AreBlocks-append same f (b ∷ bs) cs one two = (one.0, AreBlocks-append same f bs cs one.1 two)

-- a group more
pub lists_more : {A B : Type 0} (same : A → A → Bool) (entry : Group → Stretch A → B) (f : Cell → Option A) (gs : List Group) (xs : List B) (g : Group) (ss : List (Stretch A))
    → ListsGroups same entry f gs xs → IsBlock same f (record { group = g; stretches = ss }) → ListsGroups same entry f (gs ++ g ∷ []) (xs ++ map (entry g) ss)
lists_more {A = A} {B = B} same entry f gs xs g ss l b = record {
  blocks = l.blocks ++ record { group = g; stretches = ss } ∷ [];
  is = rw l.is (
      ap (λ (ys : List B). blocks_listed entry l.blocks ++ ys) (sym (append-nil (map (entry g) ss)))
      ∙ blocks-append entry l.blocks (record { group = g; stretches = ss } ∷ []));
  groups = map-append (λ (b : Block A). b.group) l.blocks (record { group = g; stretches = ss } ∷ []) ∙ ap (λ (hs : List Group). hs ++ g ∷ []) l.groups;
  each = AreBlocks-append same f l.blocks (record { group = g; stretches = ss } ∷ []) l.each (b, tt);
}

-- all of them
pub lists_all : {A B : Type 0} (same : A → A → Bool) (entry : Group → Stretch A → B) (f : Cell → Option A) (gs : List Group) (xs : List B)
    → ListsGroups same entry f gs xs → GroupsAscend gs → ((g : Group) → has_group g gs ≡ false → (t : ℕ) → f (cell g t) ≡ None) → IsListing same entry f xs
lists_all same entry f gs xs l up others = record {
  blocks = l.blocks;
  is = l.is;
  ascend = rw l.groups up;
  each = l.each;
  others = λ g none. others g (ap (λ (hs : List Group). has_group g hs) (sym l.groups) ∙ none);
}

-- ---- the keys of tables, table by table

-- a table with some keys
pub record KeysOf : Type 0 where
  pub table : ℕ
  pub keys : List (List Value)

abbrev pub in_table : ℕ → List (List Value) → List Group
in_table table keys = map (λ key. record { table = table; key = key }) keys

abbrev pub by_table : List KeysOf → List Group
by_table [] = []
by_table (k ∷ ks) = in_table k.table k.keys ++ by_table ks

abbrev pub TablesAscend : ℕ → List KeysOf → Type 0
TablesAscend low [] = Unit {0}
TablesAscend low (k ∷ ks) = (low ≤ k.table) × KeysAscend k.keys × TablesAscend (k.table + 1) ks

Precedes-append : (g : Group) (gs hs : List Group) → Precedes g gs → Precedes g hs → Precedes g (gs ++ hs)
Precedes-append g [] hs one two = two
Precedes-append g (x ∷ gs) hs one two = (one.0, Precedes-append g gs hs one.1 two)

nat_cmp-itself : (n : ℕ) → nat_cmp n n ≡ Equal
nat_cmp-itself n = grind (arith, nat_tests)

nat_cmp-less : (m n : ℕ) → m < n → nat_cmp m n ≡ Less
nat_cmp-less m n lt = grind (arith, nat_tests)

precedes_keys : (table : ℕ) (key : List Value) (keys : List (List Value)) → ComesBefore key keys → Precedes (record { table = table; key = key }) (in_table table keys)
precedes_keys table key [] before = tt
precedes_keys table key (k ∷ keys) before = (rw (nat_cmp-itself table) before.0, precedes_keys table key keys before.1)

precedes_table : (g : Group) (table : ℕ) (keys : List (List Value)) → g.table < table → Precedes g (in_table table keys)
precedes_table g table [] lt = tt
precedes_table g table (k ∷ keys) lt = (rw (nat_cmp-less g.table table lt) refl, precedes_table g table keys lt)

precedes_tables : (g : Group) (low : ℕ) (ks : List KeysOf) → g.table < low → TablesAscend low ks → Precedes g (by_table ks)
precedes_tables g low [] lt up = tt
precedes_tables g low (k ∷ ks) lt up =
    Precedes-append g (in_table k.table k.keys) (by_table ks)
    (precedes_table g k.table k.keys (omega (arith, lt, up.0))) (precedes_tables g (k.table + 1) ks (omega (arith, lt, up.0)) up.2)

keys_ascend : (table : ℕ) (keys : List (List Value)) (gs : List Group) → KeysAscend keys → GroupsAscend gs → ((key : List Value) → Precedes (record { table = table; key = key }) gs)
    → GroupsAscend (in_table table keys ++ gs)
keys_ascend table [] gs up more before = more
keys_ascend table (k ∷ keys) gs up more before =
    (Precedes-append (record { table = table; key = k }) (in_table table keys) gs (precedes_keys table k keys up.0) (before k), keys_ascend table keys gs up.1 more before)

pub tables_ascend : (low : ℕ) (ks : List KeysOf) → TablesAscend low ks → GroupsAscend (by_table ks)
tables_ascend low [] up = tt
tables_ascend low (k ∷ ks) up =
    keys_ascend k.table k.keys (by_table ks) up.1 (tables_ascend (k.table + 1) ks up.2)
    (λ key. precedes_tables (record { table = k.table; key = key }) (k.table + 1) ks (omega arith) up.2)
