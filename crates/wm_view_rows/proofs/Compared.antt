-- What is shown of the differences of two points by versions is what is shown of them by what stands there.
use Rattle.std.proofs.Common.{◌≡◌, ℕ, ◌==◌, ◌++◌, Bool, true, false, cond, List, [], ◌∷◌, map, Option, Some, None, is_some, refl, sym, ap, ◌∙◌}
use Rattle.std.proofs.lemmas.List.Elements.{filter-append}
use Rattle.std.proofs.lemmas.Option.{none-some}
use Rattle.std.specs.Bool.{then_some}
use Rattle.std.specs.List.{AllByRecursion, filter, flat_map}
use Rattle.std.specs.Option.{option_and_then, option_map}
use Rattle.wm_base.specs.declared.row.Row.{Row}
use Rattle.wm_base.specs.declared.value.Value.{Value}
use Rattle.wm_graph.specs.Parts.{Parts}
use Rattle.wm_net.specs.Conflicts.{Stamps, grouped, in_table, same_stamps, stamps}
use Rattle.wm_net.specs.Groups.{Group, cell, groups}
use Rattle.wm_net.specs.Listed.{IsListing, Stretch, listed, listing, stretches, stretches_of}
use Rattle.wm_net.proofs.Conflicting.{same_stamps-is, same_stamps-itself}
use Rattle.wm_net.proofs.Listing.{Fit, changes_of, is_listing, listing_is}
use Rattle.wm_net.proofs.Owing.{listing_alike}
use Rattle.wm_net.proofs.Stretching.{Cut, Cut-cuts, Cut-left, Cut-right, Steady-none, Steady-told}
use Rattle.wm_net.proofs.Tabled.{Begins, all_begin, each_if, given_in}
use Rattle.wm_period.specs.Pieces.{Held}
use Rattle.wm_spec.proofs.Stretches.{Steady, Up, Up-cuts}
use Rattle.wm_spec.specs.Lists.{Cell, Entry, Told, standing_stamp, told}
use Rattle.wm_spec.specs.Stretches.{cuts}
use Rattle.wm_spec.specs.declared.record.table.Table.{Table}
use Rattle.wm_state.specs.Listing.{standing}
use Rattle.wm_state.specs.Standing.{HasRows, held_of, seen}
use Rattle.wm_state.proofs.Listed.{stamp_same}
use Rattle.wm_telling.proofs.Beside.{HasRowOf}
use Rattle.wm_view_rows.specs.Conflicts.{rows_with, values_with}
use Rattle.wm_view_rows.specs.Differences.{IsDifferenceView, Sheets, Versions, difference_at, difference_held, difference_view, differences_in, differs, sheet_rows, stamps_held, version_rows}
use Rattle.wm_view_rows.specs.Rows.{SideRows, difference_rows}

-- ---- what a listing has of a table

abbrev is_of : {A : Type 0} → ℕ → Group × Stretch A → Bool
is_of table y = y.0.table == table

all_kept : {A : Type 0} (table : ℕ) (g : Group) (ss : List (Stretch A)) → (g.table == table) ≡ true → filter (is_of table) (map (grouped g) ss) ≡ map (grouped g) ss
all_kept table g [] e = refl
all_kept table g (s ∷ ss) e = rw (e, all_kept table g ss e) refl

none_kept : {A : Type 0} (table : ℕ) (g : Group) (ss : List (Stretch A)) → (g.table == table) ≡ false → filter (is_of table) (map (grouped g) ss) ≡ []
none_kept table g [] e = refl
none_kept table g (s ∷ ss) e = rw (e, none_kept table g ss e) refl

-- where nothing is given there is no stretch
none_given : {A : Type 0} (same : A → A → Bool) (low : ℕ) (cs : List ℕ) → stretches same (λ (t : ℕ). None) low cs ≡ []
none_given same low [] = refl
none_given same low (cut ∷ cs) = none_given same cut cs

-- group by group it is the listing of what the function gives there
kept_groups : {A : Type 0} (same : A → A → Bool) (table : ℕ) (es : List Entry) (f : Cell → Option A) (gs : List Group)
    → filter (is_of table) (listed grouped (stretches_of same es f) gs) ≡ listed grouped (stretches_of same es (in_table table f)) gs
kept_groups same table es f [] = refl
kept_groups {A = A} same table es f (g ∷ gs) =
    filter-append (is_of table) (map (grouped g) (stretches_of same es f g)) (listed grouped (stretches_of same es f) gs) ∙ by_test (g.table == table) refl (kept_groups same table es f gs)
  where
    others : List (Group × Stretch A)
    others = listed grouped (stretches_of same es (in_table table f)) gs

    by_test : (b : Bool) → (g.table == table) ≡ b → filter (is_of table) (listed grouped (stretches_of same es f) gs) ≡ others
        → filter (is_of table) (map (grouped g) (stretches_of same es f g)) ++ filter (is_of table) (listed grouped (stretches_of same es f) gs)
        ≡ map (grouped g) (stretches same (λ (t : ℕ). cond b (f (cell g t)) None) 0 (cuts es g.table g.key)) ++ others
    by_test true e rest = rw (all_kept table g (stretches_of same es f g) e) (ap (λ (ys : List (Group × Stretch A)). map (grouped g) (stretches_of same es f g) ++ ys) rest)
    by_test false e rest =
        rw (none_kept table g (stretches_of same es f g) e) (rest ∙ sym (ap (λ (ss : List (Stretch A)). map (grouped g) ss ++ others) (none_given same 0 (cuts es g.table g.key))))

-- ---- what a difference is told by changes at cuts alone

abbrev by_sides : Option Told → Option Told → Option Told → Option Stamps
by_sides b f s = let found = stamps b f s in then_some (differs found) found

Steady-three : {A B : Type 0} (op : Option A → Option A → Option A → Option B) (f h k : ℕ → Option A) (low : ℕ) (cs : List ℕ) → op None None None ≡ None → Steady f low cs → Steady h low cs → Steady k low cs
    → Steady (λ t. op (f t) (h t) (k t)) low cs
Steady-three op f h k low [] none a b c = λ t l. rw (a t l, b t l, c t l) none
Steady-three op f h k low (x ∷ cs) none a b c = ((λ t l lt. rw (a.0 t l lt, b.0 t l lt, c.0 t l lt) refl), Steady-three op f h k x cs none a.1 b.1 c.1)

abbrev all_sheets : Sheets → List Entry
all_sheets x = x.base ++ (x.first ++ x.second)

Steady-difference : (x : Sheets) (g : Group) → Steady (λ t. difference_at x (cell g t)) 0 (cuts (all_sheets x) g.table g.key)
Steady-difference x g =
    let cs : List ℕ = cuts (all_sheets x) g.table g.key in
    let up : Up 0 cs = Up-cuts (all_sheets x) g.table g.key in
    let all : Cut g (all_sheets x) cs = Cut-cuts g (all_sheets x) in
    let past_base : Cut g (x.first ++ x.second) cs = Cut-right g x.base (x.first ++ x.second) cs all in
    Steady-three by_sides (λ t. told x.base (cell g t)) (λ t. told x.first (cell g t)) (λ t. told x.second (cell g t)) 0 cs refl
    (Steady-told g x.base cs up (Cut-left g x.base (x.first ++ x.second) cs all))
    (Steady-told g x.first cs up (Cut-left g x.first x.second cs past_base))
    (Steady-told g x.second cs up (Cut-right g x.first x.second cs past_base))

-- ---- the differences of a table

Fit-differences : (table : ℕ) (x : Sheets) → Fit same_stamps (all_sheets x) (in_table table (difference_at x))
Fit-differences table x = record { steady = λ g. steady g (g.table == table); right = λ g. record { right = λ t u y z e h k. same_stamps-is y z k } }
  where
    steady : (g : Group) (b : Bool) → Steady (λ t. cond b (difference_at x (cell g t)) None) 0 (cuts (all_sheets x) g.table g.key)
    steady g true = Steady-difference x g
    steady g false = Steady-none None 0 (cuts (all_sheets x) g.table g.key) refl

differences_listed : (table : ℕ) (x : Sheets) → differences_in table x ≡ listing same_stamps grouped (all_sheets x) (in_table table (difference_at x))
differences_listed table x = kept_groups same_stamps table (all_sheets x) (difference_at x) (groups (all_sheets x))

-- they are a listing of what differs there
pub differences_in_are : (table : ℕ) (x : Sheets) → IsListing same_stamps grouped (in_table table (difference_at x)) (differences_in table x)
differences_in_are table x = rw (differences_listed table x) (listing_is same_stamps grouped (all_sheets x) (in_table table (difference_at x)) (Fit-differences table x))

-- and the only one
pub differences_in_is : (table : ℕ) (x : Sheets) (ys : List (Group × Stretch Stamps)) → IsListing same_stamps grouped (in_table table (difference_at x)) ys → ys ≡ differences_in table x
differences_in_is table x ys l =
    is_listing same_stamps grouped (all_sheets x) (in_table table (difference_at x)) ys same_stamps-itself (changes_of same_stamps (all_sheets x) (in_table table (difference_at x)) (Fit-differences table x)) l
    ∙ sym (differences_listed table x)

-- ---- the rows of the stamps

standing_told : (o : Option Held) (t : Option Told) → o ≡ option_map held_of t → option_and_then standing o ≡ option_and_then standing_stamp t
standing_told o t e = ap (option_and_then standing) e ∙ stamp_same t

-- what stands where something is told: the values of its row
abbrev values_of : Told → Option (List Value)
values_of t = option_map (λ (row : Row). row.values) t.row

-- the row of the stamp of what is told is the row that is told
side_same : (p : Parts) (o : Option Told) → ((t : Told) → o ≡ Some t → HasRowOf p t) → option_and_then (values_with p) (option_and_then standing_stamp o) ≡ option_and_then values_of o
side_same p None has = refl
side_same p (Some t) has = by_row t.row refl
  where
    by_row : (r : Option Row) → t.row ≡ r → option_and_then (values_with p) (then_some (is_some r) t.stamp) ≡ option_map (λ (row : Row). row.values) r
    by_row None is = refl
    by_row (Some row) is = has t refl row is

given_is : {A : Type 0} (b : Bool) (x y : A) → then_some b x ≡ Some y → x ≡ y
given_is true x y e = cc
given_is {A = A} false x y e = absurd (none-some y e)

flat_same : {A B : Type 0} (F G : A → List B) (xs : List A) → AllByRecursion (λ x. F x ≡ G x) xs → flat_map F xs ≡ flat_map G xs
flat_same F G [] all = refl
flat_same {B = B} F G (x ∷ xs) all = ap (λ (ys : List B). ys ++ flat_map F xs) all.0 ∙ ap (λ (ys : List B). G x ++ ys) (flat_same F G xs all.1)

-- a version holds at each cell what a list tells there
abbrev Holds : Parts → ℕ → List Entry → Type 0
Holds p version es = (c : Cell) → seen p version c ≡ option_map held_of (told es c)

module _ (p : Parts) (v : Versions) (x : Sheets) (first second : List ℕ) (t : Table) (base : Holds p v.base x.base) (one : Holds p v.first x.first) (other : Holds p v.second x.second) (base_rows : HasRows p x.base) (one_rows : HasRows p x.first)
    (other_rows : HasRows p x.second) where
  stamps_are : (c : Cell) → stamps_held p v c ≡ stamps (told x.base c) (told x.first c) (told x.second c)
  stamps_are c =
      let under = standing_told (seen p v.base c) (told x.base c) (base c) in
      let left = standing_told (seen p v.first c) (told x.first c) (one c) in
      let right = standing_told (seen p v.second c) (told x.second c) (other c) in
      λ i. record { base = under i; parent = left i; child = right i }

  difference_is : (c : Cell) → difference_held p v c ≡ difference_at x c
  difference_is c = ap (λ (s : Stamps). then_some (differs s) s) (stamps_are c)

  -- the rows of the stamps of a difference are those that stand where it begins
  sides_same : (y : Group × Stretch Stamps) → difference_at x (cell y.0 y.1.from) ≡ Some y.1.value → rows_with p y.1.value ≡ sheet_rows x y
  sides_same y begins =
      let c : Cell = cell y.0 y.1.from in
      let value : stamps (told x.base c) (told x.first c) (told x.second c) ≡ y.1.value =
      given_is (differs (stamps (told x.base c) (told x.first c) (told x.second c))) (stamps (told x.base c) (told x.first c) (told x.second c)) y.1.value begins in
      let under = side_same p (told x.base c) (λ d found row. base_rows c d row found) in
      let left = side_same p (told x.first c) (λ d found row. one_rows c d row found) in
      let right = side_same p (told x.second c) (λ d found row. other_rows c d row found) in
      sym (ap (rows_with p) value) ∙ (λ i. record { base = under i; parent = left i; child = right i })

  abbrev shown : Group × Stretch Stamps → List Row
  shown y = difference_rows t y.0.key (record { from = y.1.from; till = y.1.till }) first second y.1.value (sheet_rows x y)

  rows_same : (y : Group × Stretch Stamps) → difference_at x (cell y.0 y.1.from) ≡ Some y.1.value → version_rows p first second t y ≡ shown y
  rows_same y begins = ap (λ (r : SideRows). difference_rows t y.0.key (record { from = y.1.from; till = y.1.till }) first second y.1.value r) (sides_same y begins)

  all_same : AllByRecursion (λ (y : Group × Stretch Stamps). version_rows p first second t y ≡ shown y) (differences_in t.number x)
  all_same =
      each_if (Begins (in_table t.number (difference_at x))) (λ (y : Group × Stretch Stamps). version_rows p first second t y ≡ shown y) (differences_in t.number x)
      (λ y begins. rows_same y (given_in t.number (difference_at x) y.0 y.1.from y.1.value begins).1)
      (all_begin same_stamps (in_table t.number (difference_at x)) (differences_in t.number x) (differences_in_are t.number x))

  found_same : (ys : List (Group × Stretch Stamps)) → IsListing same_stamps grouped (in_table t.number (difference_held p v)) ys → ys ≡ differences_in t.number x
  found_same ys l =
      differences_in_is t.number x ys
      (listing_alike same_stamps grouped (in_table t.number (difference_held p v)) (in_table t.number (difference_at x)) ys
      (λ c. ap (λ (o : Option Stamps). in_table t.number (λ _. o) c) (difference_is c)) l)

  is_view : (made : List Row) → IsDifferenceView p v first second t made → made ≡ difference_view first second x t
  is_view made view =
      view.are
      ∙ ap (flat_map (version_rows p first second t)) (found_same view.found view.listed)
      ∙ flat_same (version_rows p first second t) shown (differences_in t.number x) all_same

-- what is shown by versions that hold what stands at the points is what is shown of that
pub difference_view_is : (p : Parts) (v : Versions) (x : Sheets) (first second : List ℕ) (t : Table) (made : List Row) → Holds p v.base x.base → Holds p v.first x.first → Holds p v.second x.second → HasRows p x.base → HasRows p x.first → HasRows p x.second
    → IsDifferenceView p v first second t made → made ≡ difference_view first second x t
difference_view_is p v x first second t made base one other base_rows one_rows other_rows view = is_view p v x first second t base one other base_rows one_rows other_rows made view
