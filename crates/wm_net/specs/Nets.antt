-- Net lists, and what a list gains.
use Rattle.std.specs.Prelude.{ℕ, ◌≡◌, ◌==◌, Bool, if◌then◌else◌, List, [], ◌∷◌, ◌++◌, Option, None, Some}
use Rattle.wm_spec.specs.Lists.{Entry, Cell, Told, told, told_of, touched}
use Rattle.wm_net.specs.Groups.{Group}
use Rattle.wm_net.specs.Listed.{Stretch, listing, IsListing}

-- a stretch as an entry of the line that writes it, with the stamp that it had
abbrev pub replayed : ℕ → List ℕ → Group → Stretch Told → Entry
replayed moment user g s = record {
  table = g.table;
  key = g.key;
  from = s.from;
  till = s.till;
  row = s.value.row;
  stamp = s.value.stamp;
  kind = s.value.kind;
  moment = moment;
  user = user;
}

-- what is joined where it meets
abbrev pub one_stamp : Told → Told → Bool
one_stamp x y = x.stamp == y.stamp

-- the list of what a function of the cell says, by table, key and from, neighbours of one stamp joined
abbrev pub told_listing : ℕ → List ℕ → List Entry → (Cell → Option Told) → List Entry
told_listing moment user es f = listing one_stamp (replayed moment user) es f

-- a list is one: what code that goes key by key owes
abbrev pub IsToldListing : ℕ → List ℕ → (Cell → Option Told) → List Entry → Type 0
IsToldListing moment user f xs = IsListing one_stamp (replayed moment user) f xs

-- what a list holds, each cell once
abbrev pub net : ℕ → List ℕ → List Entry → List Entry
net moment user es = told_listing moment user es (told es)

-- what the one says where the other says nothing
abbrev pub outside : Option Told → Option Told → Option Told
outside (Some x) p = None
outside None p = p

abbrev pub gained_at : List Entry → List Entry → Cell → Option Told
gained_at own pending c = outside (told own c) (told pending c)

-- what `pending` holds on cells that `own` does not touch, each cell once
abbrev pub gained : ℕ → List ℕ → List Entry → List Entry → List Entry
gained moment user own pending = told_listing moment user (own ++ pending) (gained_at own pending)

-- a list holds what is pending outside what is own
abbrev pub IsGained : List Entry → List Entry → List Entry → Type 0
IsGained own pending es = (c : Cell) → told es c ≡ (if touched own c then None else told pending c)

-- one stamp tells one kind and one row: of each entry, also of those that lie under others
abbrev pub Stamped : (ℕ → Told) → List Entry → Type 0
Stamped tells [] = Unit {0}
Stamped tells (e ∷ es) = (told_of e ≡ tells e.stamp) × Stamped tells es
