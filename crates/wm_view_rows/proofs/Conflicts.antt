-- What is shown of the conflicts of a workspace by its records is what is shown of them by its lists.
use Rattle.std.proofs.Common.{◌≡◌, ℕ, Bool, true, false, List, [], ◌∷◌, ◌++◌, Option, Some, None, is_some, refl, sym, ap, ◌∙◌}
use Rattle.std.proofs.lemmas.Option.{none-some}
use Rattle.std.specs.Bool.{then_some}
use Rattle.std.specs.List.{AllByRecursion, flat_map}
use Rattle.std.specs.Option.{option_and_then, option_map}
use Rattle.wm_base.specs.declared.row.Row.{Row}
use Rattle.wm_base.specs.declared.value.Value.{Value}
use Rattle.wm_graph.specs.Parts.{Parts}
use Rattle.wm_net.specs.Conflicts.{Stamps, conflict_at, conflicts_in, grouped, in_conflict, in_table, same_stamps, stamps}
use Rattle.wm_net.specs.Groups.{Group, cell}
use Rattle.wm_net.specs.Listed.{IsListing, Stretch}
use Rattle.wm_net.proofs.Owing.{listing_alike}
use Rattle.wm_net.proofs.Tabled.{Begins, all_begin, conflicts_in_are, conflicts_in_is, each_if, given_in}
use Rattle.wm_spec.specs.Lists.{Cell, Told, standing_stamp, told}
use Rattle.wm_spec.specs.declared.record.space.Space.{Space}
use Rattle.wm_spec.specs.declared.record.table.Table.{Table}
use Rattle.wm_state.specs.Standing.{HasRows, Newest, held_of, seen}
use Rattle.wm_state.specs.State.{Durable, Workspace, content}
use Rattle.wm_telling.specs.Sides.{sides}
use Rattle.wm_telling.specs.Telling.{clash_held}
use Rattle.wm_telling.proofs.Beside.{Beside, HasRowOf, child_name, parent_name}
use Rattle.wm_telling.proofs.Clashing.{clash_is}
use Rattle.wm_view_rows.specs.Conflicts.{IsConflictView, clash_rows, conflict_view, rows_on, rows_with, values_with}
use Rattle.wm_view_rows.specs.Rows.{SideRows, conflict_rows}

-- ---- the rows of the stamps

-- what stands where something is told: the values of its row
abbrev values_of : Told → Option (List Value)
values_of t = option_map (λ (row : Row). row.values) t.row

-- the row of the stamp of what is told is the row that is told
side_same : (p : Parts) (o : Option Told) → ((t : Told) → o ≡ Some t → HasRowOf p t) → option_and_then (values_with p) (option_and_then standing_stamp o) ≡ option_and_then values_of o
side_same p None has = refl
side_same p (Some t) has = by_row t.row refl
  where
    by_row : (r : Option Row) → t.row ≡ r → option_and_then (values_with p) (then_some (is_some r) t.stamp) ≡ option_map (λ (row : Row). row.values) r
    by_row None is = refl
    by_row (Some row) is = has t refl row is

given_is : {A : Type 0} (b : Bool) (x y : A) → then_some b x ≡ Some y → x ≡ y
given_is true x y e = cc
given_is {A = A} false x y e = absurd (none-some y e)

flat_same : {A B : Type 0} (F G : A → List B) (xs : List A) → AllByRecursion (λ x. F x ≡ G x) xs → flat_map F xs ≡ flat_map G xs
flat_same F G [] all = refl
flat_same {B = B} F G (x ∷ xs) all = ap (λ (ys : List B). ys ++ flat_map F xs) all.0 ∙ ap (λ (ys : List B). G x ++ ys) (flat_same F G xs all.1)

module _ (p : Parts) (d : Durable) (n : ℕ) (w q : Workspace) (a b : Space) (t : Table) (beside : Beside p d n w q a b) (base : (c : Cell) → seen p a.base_version c ≡ option_map held_of (told w.lists.base c))
    (rows : HasRows p w.lists.base) where
  -- the rows of the stamps of a conflict are those that the lists hold where it begins
  sides_same : (x : Group × Stretch Stamps) → conflict_at (sides q w) (cell x.0 x.1.from) ≡ Some x.1.value → rows_with p x.1.value ≡ rows_on q w x
  sides_same x begins =
      let c : Cell = cell x.0 x.1.from in
      let value : stamps (told w.lists.base c) (told (content q) c) (told (content w) c) ≡ x.1.value =
      given_is (in_conflict (sides q w) c) (stamps (told w.lists.base c) (told (content q) c) (told (content w) c)) x.1.value begins in
      let under = side_same p (told w.lists.base c) (λ t found row. rows c t row found) in
      let above = side_same p (told (content q) c) (λ t found row. (beside.stands.named.tells _ _ _ _ (Newest q beside.above)).rows c t row found) in
      let own = side_same p (told (content w) c) (λ t found row. (beside.stands.named.tells _ _ _ _ (Newest w beside.is)).rows c t row found) in
      sym (ap (rows_with p) value) ∙ (λ i. record { base = under i; parent = above i; child = own i })

  abbrev shown : Group × Stretch Stamps → List Row
  shown x = conflict_rows t x.0.key (record { from = x.1.from; till = x.1.till }) q.name w.name (rows_on q w x)

  clash_same : (x : Group × Stretch Stamps) → conflict_at (sides q w) (cell x.0 x.1.from) ≡ Some x.1.value
      → clash_rows p a b t x ≡ shown x
  clash_same x begins =
      ap (λ (name : List ℕ). conflict_rows t x.0.key (record { from = x.1.from; till = x.1.till }) name a.name (rows_with p x.1.value)) (parent_name p d n w q a b beside)
      ∙ ap (λ (name : List ℕ). conflict_rows t x.0.key (record { from = x.1.from; till = x.1.till }) q.name name (rows_with p x.1.value)) (child_name p d n w q a b beside)
      ∙ ap (λ (r : SideRows). conflict_rows t x.0.key (record { from = x.1.from; till = x.1.till }) q.name w.name r) (sides_same x begins)

  all_same : AllByRecursion (λ (x : Group × Stretch Stamps). clash_rows p a b t x ≡ shown x) (conflicts_in t.number (sides q w))
  all_same =
      each_if (Begins (in_table t.number (conflict_at (sides q w)))) (λ (x : Group × Stretch Stamps). clash_rows p a b t x ≡ shown x) (conflicts_in t.number (sides q w))
      (λ x begins. clash_same x (given_in t.number (conflict_at (sides q w)) x.0 x.1.from x.1.value begins).1)
      (all_begin same_stamps (in_table t.number (conflict_at (sides q w))) (conflicts_in t.number (sides q w)) (conflicts_in_are t.number (sides q w)))

  found_same : (xs : List (Group × Stretch Stamps)) → IsListing same_stamps grouped (in_table t.number (clash_held p a b)) xs → xs ≡ conflicts_in t.number (sides q w)
  found_same xs l =
      conflicts_in_is t.number (sides q w) xs
      (listing_alike same_stamps grouped (in_table t.number (clash_held p a b)) (in_table t.number (conflict_at (sides q w))) xs
      (λ c. ap (λ (o : Option Stamps). in_table t.number (λ _. o) c) (clash_is p d n w q a b beside base c)) l)

  is_view : (made : List Row) → IsConflictView p a b t made → made ≡ conflict_view q w t
  is_view made view =
      view.are
      ∙ ap (flat_map (clash_rows p a b t)) (found_same view.found view.listed)
      ∙ flat_same (clash_rows p a b t) shown (conflicts_in t.number (sides q w)) all_same

-- what is shown by the records is what is shown by the lists
pub conflict_view_is : (p : Parts) (d : Durable) (n : ℕ) (w q : Workspace) (a b : Space) (t : Table) (rows : List Row) → Beside p d n w q a b
    → ((c : Cell) → seen p a.base_version c ≡ option_map held_of (told w.lists.base c)) → HasRows p w.lists.base → IsConflictView p a b t rows → rows ≡ conflict_view q w t
conflict_view_is p d n w q a b t rows beside base there view = is_view p d n w q a b t beside base there rows view
