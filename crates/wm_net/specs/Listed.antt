-- A function of the cell as a list of stretches, cut where entries end: the one form of net lists, gained cells and conflicts.
use Rattle.std.specs.Prelude.{ℕ, ◌≡◌, ◌<◌, ◌≤◌, ◌&&◌, ◌==◌, Bool, false, nat_le, nat_lt, if◌then◌else◌, List, [], ◌∷◌, ◌++◌, map, Option, None, Some}
use Rattle.std.specs.Bool.{then_some}
use Rattle.std.specs.Option.{option_or}
use Rattle.wm_spec.specs.Lists.{Entry, Cell}
use Rattle.wm_spec.specs.Stretches.{cuts}
use Rattle.wm_spec.specs.Stretches as rows
use Rattle.wm_net.specs.Groups.{Group, cell, groups, has_group, GroupsAscend}

-- a period with the value that stands over it
pub record Stretch (A : Type 0) : Type 0 where
  pub from : ℕ
  pub till : ℕ
  pub value : A

-- the period from one instant to another has the moment
abbrev pub within : ℕ → ℕ → ℕ → Bool
within from till t = nat_le from t && nat_lt t till

-- what stands at a moment: what the last stretch that has it says
abbrev pub value_at : {A : Type 0} → List (Stretch A) → ℕ → Option A
value_at [] t = None
value_at (s ∷ ss) t = option_or (value_at ss t) (then_some (within s.from s.till t) s.value)

-- a stretch before others, made one with the first of them where it meets it and the test says that the two values are one
abbrev pub joined : {A : Type 0} → (A → A → Bool) → ℕ → ℕ → A → List (Stretch A) → List (Stretch A)
joined same from till x [] = record { from = from; till = till; value = x } ∷ []
joined same from till x (s ∷ ss) =
    if (till == s.from) && same x s.value
    then record { from = from; till = s.till; value = x } ∷ ss
    else record { from = from; till = till; value = x } ∷ s ∷ ss

-- the same where something stands, and only the others where nothing does
abbrev pub onto : {A : Type 0} → (A → A → Bool) → ℕ → ℕ → Option A → List (Stretch A) → List (Stretch A)
onto same from till None rest = rest
onto same from till (Some x) rest = joined same from till x rest

-- what a function of the moment gives between neighbouring cuts, from the lowest on, joined
abbrev pub stretches : {A : Type 0} → (A → A → Bool) → (ℕ → Option A) → ℕ → List ℕ → List (Stretch A)
stretches same f low [] = []
stretches same f low (cut ∷ cs) = onto same low cut (f low) (stretches same f cut cs)

-- the stretches lie one after another from an instant on, and none is empty
abbrev pub Ordered : {A : Type 0} → ℕ → List (Stretch A) → Type 0
Ordered low [] = Unit {0}
Ordered low (s ∷ ss) = (low ≤ s.from) × (s.from < s.till) × Ordered s.till ss

-- a stretch does not meet the first of a list with a value that the test takes for the same
abbrev pub IsApart : {A : Type 0} → (A → A → Bool) → Stretch A → List (Stretch A) → Type 0
IsApart same p [] = Unit {0}
IsApart same p (q ∷ rest) = ((p.till == q.from) && same p.value q.value) ≡ false

-- no two neighbours could be one
abbrev pub IsJoined : {A : Type 0} → (A → A → Bool) → List (Stretch A) → Type 0
IsJoined same [] = Unit {0}
IsJoined same (p ∷ ps) = IsApart same p ps × IsJoined same ps

-- a period with a number that stands over it, as the rows of a list have it
abbrev pub with_stamp : Stretch ℕ → rows.Stretch
with_stamp s = record { from = s.from; till = s.till; stamp = s.value }

abbrev pub same_number : ℕ → ℕ → Bool
same_number a b = a == b

-- group by group
abbrev pub listed : {A B : Type 0} → (Group → Stretch A → B) → (Group → List (Stretch A)) → List Group → List B
listed entry F [] = []
listed entry F (g ∷ gs) = map (entry g) (F g) ++ listed entry F gs

-- what a function of the cell gives for a group between the ends of the entries of that group, joined
abbrev pub stretches_of : {A : Type 0} → (A → A → Bool) → List Entry → (Cell → Option A) → Group → List (Stretch A)
stretches_of same es f g = stretches same (λ t. f (cell g t)) 0 (cuts es g.table g.key)

-- what a function of the cell gives, for each group of the entries ascending
abbrev pub listing : {A B : Type 0} → (A → A → Bool) → (Group → Stretch A → B) → List Entry → (Cell → Option A) → List B
listing same entry es f = listed entry (stretches_of same es f) (groups es)

-- a group with its stretches
pub record Block (A : Type 0) : Type 0 where
  pub group : Group
  pub stretches : List (Stretch A)

-- block by block
abbrev pub blocks_listed : {A B : Type 0} → (Group → Stretch A → B) → List (Block A) → List B
blocks_listed entry [] = []
blocks_listed entry (b ∷ bs) = map (entry b.group) b.stretches ++ blocks_listed entry bs

abbrev pub groups_of : {A : Type 0} → List (Block A) → List Group
groups_of bs = map (λ b. b.group) bs

-- a block lists what the function gives in its group, and as long as can be
pub record IsBlock {A : Type 0} (same : A → A → Bool) (f : Cell → Option A) (b : Block A) : Type 0 where
  pub ordered : Ordered 0 b.stretches
  pub joined : IsJoined same b.stretches
  pub holds : (t : ℕ) → value_at b.stretches t ≡ f (cell b.group t)

abbrev pub AreBlocks : {A : Type 0} → (A → A → Bool) → (Cell → Option A) → List (Block A) → Type 0
AreBlocks same f [] = Unit {0}
AreBlocks same f (b ∷ bs) = IsBlock same f b × AreBlocks same f bs

-- a list goes group by group, ascending, and says in each what the function gives, as long as can be, and the function gives nothing elsewhere:
-- what code that goes key by key owes
pub record IsListing {A B : Type 0} (same : A → A → Bool) (entry : Group → Stretch A → B) (f : Cell → Option A) (xs : List B) : Type 0 where
  pub blocks : List (Block A)
  pub is : xs ≡ blocks_listed entry blocks
  pub ascend : GroupsAscend (groups_of blocks)
  pub each : AreBlocks same f blocks
  pub others : (g : Group) → has_group g (groups_of blocks) ≡ false → (t : ℕ) → f (cell g t) ≡ None

-- the same of these groups alone, in any order: what a loop over them has so far
pub record ListsGroups {A B : Type 0} (same : A → A → Bool) (entry : Group → Stretch A → B) (f : Cell → Option A) (gs : List Group) (xs : List B) : Type 0 where
  pub blocks : List (Block A)
  pub is : xs ≡ blocks_listed entry blocks
  pub groups : groups_of blocks ≡ gs
  pub each : AreBlocks same f blocks
