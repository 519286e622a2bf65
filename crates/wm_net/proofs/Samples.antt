-- The definitions at some lists: made up ones first, then stories of two sides that are merged.
use Rattle.std.proofs.Common.{◌≡◌, ℕ, ◌+◌, true, false, not, ◌&&◌, ◌||◌, List, [], ◌∷◌, ◌++◌, length, drop, refl, pos, Option, Some, None}
use Rattle.wm_base.specs.declared.kind.Kind.TheVariants.{Insert, Delete}
use Rattle.wm_base.specs.declared.value.Value.TheVariants.{Num}
use Rattle.wm_spec.specs.Lists.{Entry, Cell, touched}
use Rattle.wm_spec.specs.declared.record.cell_range.CellRange.{CellRange}
use Rattle.wm_net.specs.Counts.{first_cells, cut_count, has_ends, has_cuts}
use Rattle.wm_net.specs.Groups.{Group}
use Rattle.wm_net.specs.Listed.{Stretch}
use Rattle.wm_net.specs.Nets.{net, gained}
use Rattle.wm_net.specs.Conflicts.{Stamps, Sides, Settled, conflicts}

-- a row of a table over a period
abbrev one : ℕ → ℕ → ℕ → ℕ → ℕ → Entry
one table key from till stamp = record {
  table = table;
  key = Num (pos key) ∷ [];
  from = from;
  till = till;
  row = Some (record { values = [] });
  stamp = stamp;
  kind = Insert;
  moment = 0;
  user = [];
}

-- a row of the first table that is gone
abbrev gone : ℕ → ℕ → ℕ → ℕ → Entry
gone key from till stamp = record {
  table = 1;
  key = Num (pos key) ∷ [];
  from = from;
  till = till;
  row = None;
  stamp = stamp;
  kind = Delete;
  moment = 0;
  user = [];
}

abbrev key_one : Group
key_one = record { table = 1; key = Num (pos 1) ∷ [] }

abbrev stretch : ℕ → ℕ → Option ℕ → Option ℕ → Option ℕ → Group × Stretch Stamps
stretch from till base parent child = (key_one, record { from = from; till = till; value = record { base = base; parent = parent; child = child } })

-- a mark on the first key
abbrev settled_up_to : ℕ → ℕ → ℕ → Settled
settled_up_to from till position = record { table = 1; key = Num (pos 1) ∷ []; from = from; till = till; position = position; place = 0 }

-- ---- lists that are cut

-- by table, then key, then from; what has one stamp is joined where it meets
net_sample : net 0 [] (one 2 1 0 10 5 ∷ one 1 2 0 10 6 ∷ one 1 2 3 5 7 ∷ one 1 2 10 20 6 ∷ one 1 1 4 8 9 ∷ [])
    ≡ one 1 1 4 8 9 ∷ one 1 2 0 3 6 ∷ one 1 2 3 5 7 ∷ one 1 2 5 20 6 ∷ one 2 1 0 10 5 ∷ []
net_sample = refl

-- where own entries touch, nothing is gained
gained_sample : gained 0 [] (one 1 1 3 5 9 ∷ []) (one 1 1 0 10 6 ∷ one 1 2 0 4 7 ∷ one 1 1 10 12 6 ∷ [])
    ≡ one 1 1 0 3 6 ∷ one 1 1 5 12 6 ∷ one 1 2 0 4 7 ∷ []
gained_sample = refl

-- own over [2, 8), the parent's log over [4, 10) at position 1, which is not seen; the base ends at 6
abbrev sides : List Settled → Sides
sides settled = record {
  base = one 1 1 0 6 1 ∷ [];
  parent = one 1 1 0 6 1 ∷ one 1 1 4 10 2 ∷ [];
  own = one 1 1 2 8 3 ∷ [];
  log = one 1 1 0 6 1 ∷ one 1 1 4 10 2 ∷ [];
  from = 1;
  settled = settled;
}

conflicts_sample : conflicts (sides []) ≡ stretch 4 6 (Some 1) (Some 2) (Some 3) ∷ stretch 6 8 None (Some 2) (Some 3) ∷ []
conflicts_sample = refl

-- settled up to position 2 over [0, 5), so what is at position 1 is no conflict there
settled_sample : conflicts (sides (settled_up_to 0 5 2 ∷ [])) ≡ stretch 5 6 (Some 1) (Some 2) (Some 3) ∷ stretch 6 8 None (Some 2) (Some 3) ∷ []
settled_sample = refl

-- where two marks lie, the greater position counts: what is at position 1 is a conflict for the first alone
resettled_sample : conflicts (sides (settled_up_to 0 8 1 ∷ settled_up_to 6 8 2 ∷ [])) ≡ stretch 4 6 (Some 1) (Some 2) (Some 3) ∷ []
resettled_sample = refl

-- in whichever order they were made
reordered_sample : conflicts (sides (settled_up_to 6 8 2 ∷ settled_up_to 0 8 1 ∷ [])) ≡ stretch 4 6 (Some 1) (Some 2) (Some 3) ∷ []
reordered_sample = refl

-- ---- stretches that are counted

-- own over [3, 5) of the first key; pending over [0, 10) and [10, 12) there, and over [0, 4) of the second
abbrev some_own : List Entry
some_own = one 1 1 3 5 9 ∷ []

abbrev some_pending : List Entry
some_pending = one 1 1 0 10 6 ∷ one 1 2 0 4 7 ∷ one 1 1 10 12 6 ∷ []

abbrev first_of : ℕ → ℕ → Cell
first_of key time = record { table = 1; key = Num (pos key) ∷ []; time = time }

-- every end cuts, also where one entry goes on
firsts_sample : first_cells (some_own ++ some_pending) (touched some_pending) ≡ first_of 1 0 ∷ first_of 1 3 ∷ first_of 1 5 ∷ first_of 1 10 ∷ first_of 2 0 ∷ []
firsts_sample = refl

count_sample : cut_count (some_own ++ some_pending) (λ c. touched some_own c || touched some_pending c) ≡ 5
count_sample = refl

-- fewer cuts and fewer cells count less
uncut_sample : cut_count some_pending (touched some_pending) ≡ 3
uncut_sample = refl

own_sample : cut_count (some_own ++ some_pending) (touched some_own) ≡ 1
own_sample = refl

outside_sample : cut_count (some_own ++ some_pending) (λ c. touched some_pending c && not (touched some_own c)) ≡ 4
outside_sample = refl

-- what is listed is no longer than that: of the four, two are joined
length_sample : length (net 0 [] some_own) + length (gained 0 [] some_own some_pending) ≡ 4
length_sample = refl

-- the ends of both are cut, in whichever order they stand, and those of the one are not all ends of the other
cuts_sample : has_cuts (some_pending ++ some_own) (some_own ++ some_pending) ≡ true
cuts_sample = refl

uncuts_sample : has_cuts some_own some_pending ≡ false
uncuts_sample = refl

-- a range of cells that ends where entries do, and one that does not
abbrev range : ℕ → ℕ → CellRange
range from till = record { table = 1; key = Num (pos 1) ∷ []; from = from; till = till }

ends_sample : has_ends (some_own ++ some_pending) (range 3 12) ≡ true
ends_sample = refl

no_ends_sample : has_ends (some_own ++ some_pending) (range 3 11) ≡ false
no_ends_sample = refl

-- ---- stories of two rows, made with stamps 1 and 2, of which a workspace is born

abbrev birth : List Entry
birth = one 1 1 0 90 1 ∷ one 1 2 0 90 2 ∷ []

-- the parent's log goes on, the workspace has changes of its own
abbrev story : List Entry → List Entry → List Settled → Sides
story later own settled = record {
  base = birth;
  parent = birth ++ later;
  own = own;
  log = birth ++ later;
  from = 2;
  settled = settled;
}

-- the parent changes one row and the workspace the other: no conflict, and each side takes the other's change
apart_conflicts : conflicts (story (one 1 2 0 90 3 ∷ []) (one 1 1 0 90 4 ∷ []) []) ≡ []
apart_conflicts = refl

apart_net : net 0 [] (one 1 1 0 90 4 ∷ []) ≡ one 1 1 0 90 4 ∷ []
apart_net = refl

apart_gained : gained 0 [] (one 1 1 0 90 4 ∷ []) (drop 2 (birth ++ one 1 2 0 90 3 ∷ [])) ≡ one 1 2 0 90 3 ∷ []
apart_gained = refl

-- both change one row, also if to one value: the stamps of the row at birth, in the parent and in the workspace
both_conflict : conflicts (story (one 1 1 0 90 3 ∷ []) (one 1 1 0 90 4 ∷ []) []) ≡ stretch 0 90 (Some 1) (Some 3) (Some 4) ∷ []
both_conflict = refl

-- and nothing of it is gained
both_gained : gained 0 [] (one 1 1 0 90 4 ∷ []) (one 1 1 0 90 3 ∷ []) ≡ []
both_gained = refl

-- settled with the parent's log as it is, it is a conflict no more, until the parent changes the row again
settled_conflict : conflicts (story (one 1 1 0 90 3 ∷ []) (one 1 1 0 90 4 ∷ []) (settled_up_to 0 90 3 ∷ [])) ≡ []
settled_conflict = refl

changed_conflict : conflicts (story (one 1 1 0 90 3 ∷ one 1 1 0 90 5 ∷ []) (one 1 1 0 90 4 ∷ []) (settled_up_to 0 90 3 ∷ []))
    ≡ stretch 0 90 (Some 1) (Some 5) (Some 4) ∷ []
changed_conflict = refl

-- rows are changed, then one is deleted: that it is gone is what is replayed
deleted_net : net 0 [] (one 1 1 0 90 3 ∷ one 1 2 0 90 4 ∷ gone 1 0 90 5 ∷ []) ≡ gone 1 0 90 5 ∷ one 1 2 0 90 4 ∷ []
deleted_net = refl

-- the parent deletes a row in two steps: no row on its side is no row, whatever the stamps
deleted_conflict : conflicts (story (gone 1 0 30 3 ∷ gone 1 30 90 4 ∷ []) (one 1 1 0 90 5 ∷ []) []) ≡ stretch 0 90 (Some 1) None (Some 5) ∷ []
deleted_conflict = refl

-- ---- stories of other births

-- both sides make one row, which was not there at birth
made_conflict : conflicts (record { base = []; parent = one 1 1 0 90 1 ∷ []; own = one 1 1 0 90 2 ∷ []; log = one 1 1 0 90 1 ∷ []; from = 0; settled = [] })
    ≡ stretch 0 90 None (Some 1) (Some 2) ∷ []
made_conflict = refl

-- the two sides change one row over periods that do not meet
disjoint_conflicts : conflicts (story (one 1 1 21 22 3 ∷ []) (one 1 1 23 24 4 ∷ []) []) ≡ []
disjoint_conflicts = refl

disjoint_gained : gained 0 [] (one 1 1 23 24 4 ∷ []) (one 1 1 21 22 3 ∷ []) ≡ one 1 1 21 22 3 ∷ []
disjoint_gained = refl

-- and over periods that do: where they do alone
meeting_conflict : conflicts (story (one 1 1 20 40 3 ∷ []) (one 1 1 30 50 4 ∷ []) []) ≡ stretch 30 40 (Some 1) (Some 3) (Some 4) ∷ []
meeting_conflict = refl

meeting_gained : gained 0 [] (one 1 1 30 50 4 ∷ []) (one 1 1 20 40 3 ∷ []) ≡ one 1 1 20 30 3 ∷ []
meeting_gained = refl
