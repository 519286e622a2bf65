-- The versions of a store, each under its parent.
use Rattle.std.specs.Prelude.{ℕ, ◌<◌, ◌≤◌, ◌≢◌, Bool, not, nat_lt, nat_eq, ◌==◌, if◌then◌else◌, List, [], ◌∷◌, ◌++◌, Option, Some, None, IsSome, IfSome, unwrap_or}
use Rattle.std.specs.List.{list_any}
use Rattle.std.specs.Option.{option_map_or}
use Rattle.std.specs.Ordering.{nat_cmp}
use Rattle.std.specs.Map.{lookup}
use Rattle.std.specs.BTreeMap.{is_at}
use Rattle.wm_tree.specs.declared.version.Version.{Version}

-- what a tree of versions tells: its versions, the newest first, and the base version last set of each space
pub record Grown : Type 0 where
  pub versions : List Version
  pub bases : List (ℕ × ℕ)

-- the version of a number
abbrev pub version_in : List Version → ℕ → Option Version
version_in [] n = None
version_in (x ∷ older) n = (if x.number == n then Some x else version_in older n)

-- the path of a version: the version, its parent, and so on up to a root. A parent is older than what stands under it
abbrev pub path_in : List Version → ℕ → List ℕ
path_in [] n = []
path_in (x ∷ older) n = (if x.number == n then n ∷ path_in older x.parent else path_in older n)

-- the parent of a version, 0 where the version or the parent is none
abbrev pub parent_in : List Version → ℕ → ℕ
parent_in versions n = option_map_or (λ x. x.parent) (version_in versions n) 0

-- the newest version of a space, 0 where it has none
abbrev pub latest_in : List Version → ℕ → ℕ
latest_in [] space = 0
latest_in (x ∷ older) space = (if x.space == space then x.number else latest_in older space)

-- the number set for a space, 0 where none is
abbrev pub number_at : List (ℕ × ℕ) → ℕ → ℕ
number_at numbers space = unwrap_or (lookup (is_at (nat_cmp space)) numbers) 0

-- a version among the others, by its number
abbrev pub grow : Version → List Version → List Version
grow x [] = x ∷ []
grow x (y ∷ older) = (if nat_lt y.number x.number then x ∷ y ∷ older else y ∷ grow x older)

-- a version is not one of the space
abbrev pub is_outside : ℕ → Version → Bool
is_outside space x = not (x.space == space)

-- no version of another space stands under one of the space
abbrev pub NoneUnder : ℕ → List Version → Type 0
NoneUnder space [] = Unit {0}
NoneUnder space (x ∷ older) = (x.space ≢ space → IfSome (version_in older x.parent) (λ y. y.space ≢ space)) × NoneUnder space older

-- the first version of one path that stands on the other too, 0 where none does
abbrev pub shared_of : List ℕ → List ℕ → ℕ
shared_of [] path = 0
shared_of (v ∷ vs) path = (if list_any (nat_eq v) path then v else shared_of vs path)

-- all numbers are below
abbrev pub AllBelow : ℕ → List Version → Type 0
AllBelow n [] = Unit {0}
AllBelow n (x ∷ older) = (x.number < n) × AllBelow n older

-- no number is below
abbrev pub AllFrom : ℕ → List Version → Type 0
AllFrom n [] = Unit {0}
AllFrom n (x ∷ xs) = (n ≤ x.number) × AllFrom n xs

-- the versions stand in order, the newest first, and each has no parent or one that is older
abbrev pub IsTree : List Version → Type 0
IsTree [] = Unit {0}
IsTree (x ∷ older) = (0 < x.number) × AllBelow x.number older × (x.parent ≢ 0 → IsSome (version_in older x.parent)) × IsTree older

-- the oldest version last: a list by number, from its end
abbrev pub newest_first : List Version → List Version
newest_first [] = []
newest_first (x ∷ xs) = newest_first xs ++ x ∷ []
