-- Rows with their keys are put in order as the rows are.
use Rattle.std.proofs.Common.{◌≡◌, suc, ◌==◌, length, Bool, true, false, List, [], ◌∷◌, map, arith, refl, sym, ap, ◌∙◌}
use Rattle.std.proofs.lemmas.Bool.{eqb-true}
use Rattle.std.specs.List.{dedup, dedup_from, zip}
use Rattle.wm_listing.specs.declared.columns.Column.{Column}
use Rattle.wm_syntax.specs.declared.query.Order.{Order}
use Rattle.wm_base.specs.declared.value.Value.{Value}
use Rattle.wm_syntax.specs.Trees.{Query}
use Rattle.wm_ordering.specs.declared.keyed.Keyed.{Keyed}
use Rattle.wm_ordering.specs.declared.shown.Shown.{Shown}
use Rattle.wm_ordering.specs.RowOrder.{goes_before, directions_of, order_values}
use Rattle.wm_ordering.specs.Sorting.{placed, sorted, changes_from, changes, goes_by}
use Rattle.wm_ordering.specs.Keys.{keyed_by_order, shown_keyed_by}

placed_map : {X Y : Type 0} (f : X → Y) (lt : X → X → Bool) (gt : Y → Y → Bool) → ((a b : X) → gt (f a) (f b) ≡ lt a b) → (x : X) (xs : List X) → placed gt (f x) (map f xs) ≡ map f (placed lt x xs)
placed_map f lt gt same x [] = refl
placed_map {X} {Y} f lt gt same x (y ∷ ys) = by_test (lt y x) refl (placed_map f lt gt same x ys)
  where
    by_test : (b : Bool) → lt y x ≡ b → placed gt (f x) (map f ys) ≡ map f (placed lt x ys) → placed gt (f x) (map f (y ∷ ys)) ≡ map f (placed lt x (y ∷ ys))
    by_test true t rest =
        let one : placed gt (f x) (map f (y ∷ ys)) ≡ f y ∷ placed gt (f x) (map f ys) = rw (same y x ∙ t) in
        let other : placed lt x (y ∷ ys) ≡ y ∷ placed lt x ys = rw t in
        one ∙ ap (λ zs. f y ∷ zs) rest ∙ sym (ap (λ zs. map f zs) other)
    by_test false t rest =
        let one : placed gt (f x) (map f (y ∷ ys)) ≡ f x ∷ f y ∷ map f ys = rw (same y x ∙ t) in
        let other : placed lt x (y ∷ ys) ≡ x ∷ y ∷ ys = rw t in
        one ∙ sym (ap (λ zs. map f zs) other)

sorted_map : {X Y : Type 0} (f : X → Y) (lt : X → X → Bool) (gt : Y → Y → Bool) → ((a b : X) → gt (f a) (f b) ≡ lt a b) → (xs : List X) → sorted gt (map f xs) ≡ map f (sorted lt xs)
sorted_map f lt gt same [] = refl
sorted_map f lt gt same (x ∷ xs) = ap (λ ys. placed gt (f x) ys) (sorted_map f lt gt same xs) ∙ placed_map f lt gt same x (sorted lt xs)

pub map_map : {X Y Z : Type 0} (f : X → Y) (g : Y → Z) (xs : List X) → map g (map f xs) ≡ map (λ x. g (f x)) xs
map_map f g [] = refl
map_map f g (x ∷ xs) = ap (λ ys. g (f x) ∷ ys) (map_map f g xs)

map_same : {X : Type 0} (xs : List X) → map (λ x. x) xs ≡ xs
map_same [] = refl
map_same (x ∷ xs) = ap (λ ys. x ∷ ys) (map_same xs)

-- what `dedup` leaves, which asks whether a later one is the same as one that stays, are the changes
dedup_from_changes : {X : Type 0} (same : X → X → Bool) (x : X) (ys : List X) → dedup_from (λ later kept. same kept later) x ys ≡ x ∷ changes_from same x ys
dedup_from_changes same x [] = refl
dedup_from_changes {X} same x (y ∷ ys) = by_test (same x y) refl (dedup_from_changes same x ys) (dedup_from_changes same y ys)
  where
    by_test : (b : Bool) → same x y ≡ b → dedup_from (λ later kept. same kept later) x ys ≡ x ∷ changes_from same x ys → dedup_from (λ later kept. same kept later) y ys ≡ y ∷ changes_from same y ys → dedup_from (λ later kept. same kept later) x (y ∷ ys) ≡ x ∷ changes_from same x (y ∷ ys)
    by_test true t here there = rw t here
    by_test false t here there = rw t (ap (λ zs. x ∷ zs) there)

pub dedup_changes : {X : Type 0} (same : X → X → Bool) (xs : List X) → dedup (λ later kept. same kept later) xs ≡ changes same xs
dedup_changes same [] = refl
dedup_changes same (x ∷ xs) = dedup_from_changes same x xs

-- keys and rows side by side
zip_maps : {X A B : Type 0} (f : X → A) (g : X → B) (xs : List X) → zip (map f xs) (map g xs) ≡ map (λ x. (f x, g x)) xs
zip_maps f g [] = refl
zip_maps f g (x ∷ xs) = ap (λ zs. (f x, g x) ∷ zs) (zip_maps f g xs)

-- rows that are shown beside their keys
pub keyed_shown : (query : Query) (columns : List Column) (shown : List Shown) → map shown_keyed_by (zip (map (order_values query columns) shown) shown) ≡ map (keyed_by_order query columns) shown
keyed_shown query columns shown =
    ap (λ ss. map shown_keyed_by (zip (map (order_values query columns) shown) ss)) (sym (map_same shown))
    ∙ ap (λ ps. map shown_keyed_by ps) (zip_maps (order_values query columns) (λ s. s) shown)
    ∙ map_map (λ s. (order_values query columns s, s)) shown_keyed_by shown

-- where ORDER BY says nothing all stays as it stood
placed_first : {X : Type 0} (lt : X → X → Bool) → ((x y : X) → lt x y ≡ false) → (x : X) (ys : List X) → placed lt x ys ≡ x ∷ ys
placed_first lt never x [] = refl
placed_first lt never x (y ∷ ys) = rw (never y x) refl

sorted_same : {X : Type 0} (lt : X → X → Bool) → ((x y : X) → lt x y ≡ false) → (xs : List X) → sorted lt xs ≡ xs
sorted_same lt never [] = refl
sorted_same lt never (x ∷ xs) = ap (λ ys. placed lt x ys) (sorted_same lt never xs) ∙ placed_first lt never x xs

goes_nowhere : (orders : List Order) (key : Shown → List Value) → (length orders == 0) ≡ true → (x y : Shown) → goes_by (directions_of orders) key x y ≡ false
goes_nowhere [] key e x y = refl
goes_nowhere (o ∷ os) key e x y = absurd (let none : suc (length os) ≡ 0 = eqb-true (length (o ∷ os)) 0 e in omega (arith, none))

pub unordered : (query : Query) (columns : List Column) (shown : List Shown) → (length query.orders == 0) ≡ true → sorted (goes_before query columns) shown ≡ shown
unordered query columns shown e = sorted_same (goes_before query columns) (goes_nowhere query.orders (order_values query columns) e) shown

pub unordered_shown : (query : Query) (columns : List Column) (shown : List Shown) → (length query.orders == 0) ≡ true → map (λ (s : Shown). s.row) (sorted (goes_before query columns) shown) ≡ map (λ (s : Shown). s.row) shown
unordered_shown query columns shown e = ap (λ ss. map (λ (s : Shown). s.row) ss) (unordered query columns shown e)

-- what is shown, in order
pub ordered_shown : (query : Query) (columns : List Column) (shown : List Shown) → map (λ (k : Keyed). k.row) (sorted (goes_by (directions_of query.orders) (λ (k : Keyed). k.keys)) (map (keyed_by_order query columns) shown)) ≡ map (λ (s : Shown). s.row) (sorted (goes_before query columns) shown)
ordered_shown query columns shown =
    ap (λ ks. map (λ (k : Keyed). k.row) ks) (sorted_map (keyed_by_order query columns) (goes_before query columns) (goes_by (directions_of query.orders) (λ (k : Keyed). k.keys)) (λ a b. refl) shown)
    ∙ map_map (keyed_by_order query columns) (λ (k : Keyed). k.row) (sorted (goes_before query columns) shown)
