-- What pieces hold with a new one over them.
use Rattle.std.proofs.Common.{◌≡◌, ℕ, ◌==◌, nat_lt, nat_le, min, max, Bool, true, false, ◌&&◌, ◌||◌, cond, List, [], ◌∷◌, ◌++◌, Option, None, refl, sym, ap, ◌∙◌, arith}
use Rattle.std.proofs.lemmas.Bool.{eq-eqb, eqb-true, and_from, and_parts}
use Rattle.std.specs.Bool.{then_some}
use Rattle.std.specs.List.{flat_map}
use Rattle.std.specs.Option.{option_or}
use Rattle.std.specs.Ordering.{is_eq}
use Rattle.wm_base.specs.Key.{key_order}
use Rattle.wm_base.specs.declared.value.Value.{Value}
use Rattle.wm_graph.specs.Rules.{collide}
use Rattle.wm_base.proofs.Plain.{option_or-none, option_or_assoc}
use Rattle.wm_period.specs.Pieces.{Held}
use Rattle.wm_spec.specs.Lists.{Cell}
use Rattle.wm_spec.specs.declared.record.piece.PieceRecord.{PieceRecord}
use Rattle.wm_state.specs.Batches.{is_in}
use Rattle.wm_state.specs.Drawing.{between, part, around, left_by, stored_last}
use Rattle.wm_state.specs.Standing.{covers_at, held_by, stored_at}
use Rattle.wm_state.proofs.Laying.{key_itself, key_same, stored-append}

abbrev nothing : Option Held
nothing = None

-- ---- what stands last

pub last_append : (xs ys : List PieceRecord) (w : ℕ) (c : Cell) → stored_last (xs ++ ys) w c ≡ option_or (stored_last ys w c) (stored_last xs w c)
last_append [] ys w c = sym (option_or-none (stored_last ys w c))
last_append (x ∷ xs) ys w c =
    ap (λ o. option_or o (then_some (covers_at x w c) (held_by x))) (last_append xs ys w c)
    ∙ option_or_assoc (stored_last ys w c) (stored_last xs w c) (then_some (covers_at x w c) (held_by x))

-- ---- the place of a piece

-- a piece of a version, a table and a key is of another only where these are the same
pub place_of : (version table : ℕ) (key : List Value) (x : PieceRecord) → is_in version table key x ≡ true → (w t : ℕ) (k : List Value) → is_in w t k x ≡ ((version == w) && ((table == t) && is_eq (key_order key k)))
place_of version table key x inside w t k =
    let h = and_parts (x.version == version) ((x.cells.table == table) && is_eq (key_order x.cells.key key)) inside in
    let g = and_parts (x.cells.table == table) (is_eq (key_order x.cells.key key)) h.1 in
    ap (λ (v : ℕ). (v == w) && ((x.cells.table == t) && is_eq (key_order x.cells.key k))) (eqb-true x.version version h.0)
    ∙ ap (λ (v : ℕ). (version == w) && ((v == t) && is_eq (key_order x.cells.key k))) (eqb-true x.cells.table table g.0)
    ∙ ap (λ (l : List Value). (version == w) && ((table == t) && is_eq (key_order l k))) (key_same x.cells.key key g.1)

-- of two pieces each is of the place of the other
pub turned : (x y : PieceRecord) → is_in x.version x.cells.table x.cells.key y ≡ true → is_in y.version y.cells.table y.cells.key x ≡ true
turned x y e =
    let h = and_parts (y.version == x.version) ((y.cells.table == x.cells.table) && is_eq (key_order y.cells.key x.cells.key)) e in
    let g = and_parts (y.cells.table == x.cells.table) (is_eq (key_order y.cells.key x.cells.key)) h.1 in
    and_from (x.version == y.version) ((x.cells.table == y.cells.table) && is_eq (key_order x.cells.key y.cells.key)) (eq-eqb x.version y.version (sym (eqb-true y.version x.version h.0)))
    (and_from (x.cells.table == y.cells.table) (is_eq (key_order x.cells.key y.cells.key)) (eq-eqb x.cells.table y.cells.table (sym (eqb-true y.cells.table x.cells.table g.0)))
    (ap (λ (k : List Value). is_eq (key_order x.cells.key k)) (key_same y.cells.key x.cells.key g.1) ∙ key_itself x.cells.key))

-- as those that collide are
pub met_there : (x y : PieceRecord) → collide x y ≡ true → is_in x.version x.cells.table x.cells.key y ≡ true
met_there x y hit =
    turned y x (and_parts ((x.version == y.version) && ((x.cells.table == y.cells.table) && is_eq (key_order x.cells.key y.cells.key))) (nat_lt x.cells.from y.cells.till && nat_lt y.cells.from x.cells.till) hit).0

-- ---- parts

-- a part holds what its piece does at each of its moments
part_held : (from till : ℕ) (x : PieceRecord) (w : ℕ) (c : Cell) → stored_at (part from till x) w c ≡ then_some (covers_at (between from till x) w c) (held_by x)
part_held from till x w c = by_test (nat_lt from till) refl
  where
    never : (f u t : ℕ) → nat_lt f u ≡ false → (nat_le f t && nat_lt t u) ≡ false
    never f u t e = grind (arith, e)

    none : (a b t : Bool) → t ≡ false → then_some (a && (b && t)) (held_by x) ≡ nothing
    none true true t e = rw e refl
    none true false t e = refl
    none false b t e = refl

    by_test : (b : Bool) → nat_lt from till ≡ b → stored_at (cond b (between from till x ∷ []) []) w c ≡ then_some (covers_at (between from till x) w c) (held_by x)
    by_test true e = option_or-none (then_some (covers_at (between from till x) w c) (held_by x))
    by_test false e = sym (none (x.version == w) ((x.cells.table == c.table) && is_eq (key_order x.cells.key c.key)) (nat_le from c.time && nat_lt c.time till) (never from till c.time e))

-- two pieces of one place hold what one over all their moments does
joined : (v k s t all : Bool) (h : Held) → (v ≡ true → k ≡ true → (s || t) ≡ all) → option_or (then_some (v && (k && s)) h) (then_some (v && (k && t)) h) ≡ then_some (v && (k && all)) h
joined false k s t all h e = refl
joined true false s t all h e = refl
joined true true s t all h e = one s t ∙ ap (λ b. then_some b h) (e refl refl)
  where
    one : (s t : Bool) → option_or (then_some s h) (then_some t h) ≡ then_some (s || t) h
    one true t = refl
    one false t = refl

-- a moment of a period that is none of another is before that one or after it
beside : (from till over_from over_till t : ℕ) → (nat_le over_from t && nat_lt t over_till) ≡ false
    → ((nat_le from t && nat_lt t (min till over_from)) || (nat_le (max from over_till) t && nat_lt t till)) ≡ (nat_le from t && nat_lt t till)
beside from till over_from over_till t e = grind (arith, e)

-- what covers no cell of its place has none of its moments
no_time : (v k t : Bool) → (v && (k && t)) ≡ false → v ≡ true → k ≡ true → t ≡ false
no_time v k t e f g = sym (rw (f, g) refl) ∙ e

pub around_held : (new x : PieceRecord) (w : ℕ) (c : Cell) → is_in new.version new.cells.table new.cells.key x ≡ true → covers_at new w c ≡ false → stored_at (around new x) w c ≡ then_some (covers_at x w c) (held_by x)
around_held new x w c inside away =
    stored-append (part x.cells.from (min x.cells.till new.cells.from) x) (part (max x.cells.from new.cells.till) x.cells.till x) w c
    ∙ ap (λ o. option_or o (stored_at (part (max x.cells.from new.cells.till) x.cells.till x) w c)) (part_held x.cells.from (min x.cells.till new.cells.from) x w c)
    ∙ ap (option_or (then_some (covers_at (between x.cells.from (min x.cells.till new.cells.from) x) w c) (held_by x))) (part_held (max x.cells.from new.cells.till) x.cells.till x w c)
    ∙ joined (x.version == w) ((x.cells.table == c.table) && is_eq (key_order x.cells.key c.key))
    (nat_le x.cells.from c.time && nat_lt c.time (min x.cells.till new.cells.from)) (nat_le (max x.cells.from new.cells.till) c.time && nat_lt c.time x.cells.till) (nat_le x.cells.from c.time && nat_lt c.time x.cells.till) (held_by x)
    (λ v k. beside x.cells.from x.cells.till new.cells.from new.cells.till c.time (free v k))
  where
    -- the new piece is of the same place
    same : ((x.version == w) && ((x.cells.table == c.table) && is_eq (key_order x.cells.key c.key))) ≡ ((new.version == w) && ((new.cells.table == c.table) && is_eq (key_order new.cells.key c.key)))
    same = place_of new.version new.cells.table new.cells.key x inside w c.table c.key

    free : (x.version == w) ≡ true → ((x.cells.table == c.table) && is_eq (key_order x.cells.key c.key)) ≡ true → (nat_le new.cells.from c.time && nat_lt c.time new.cells.till) ≡ false
    free v k =
        let h = and_parts (new.version == w) ((new.cells.table == c.table) && is_eq (key_order new.cells.key c.key)) (sym same ∙ and_from (x.version == w) ((x.cells.table == c.table) && is_eq (key_order x.cells.key c.key)) v k) in
        no_time (new.version == w) ((new.cells.table == c.table) && is_eq (key_order new.cells.key c.key)) (nat_le new.cells.from c.time && nat_lt c.time new.cells.till) away h.0 h.1

-- ---- all of them

left_held : (new x : PieceRecord) (w : ℕ) (c : Cell) → covers_at new w c ≡ false → stored_at (left_by new x) w c ≡ then_some (covers_at x w c) (held_by x)
left_held new x w c away = by_place (collide new x) refl
  where
    by_place : (b : Bool) → collide new x ≡ b → stored_at (cond b (around new x) (x ∷ [])) w c ≡ then_some (covers_at x w c) (held_by x)
    by_place true e = around_held new x w c (met_there new x e) away
    by_place false e = option_or-none (then_some (covers_at x w c) (held_by x))

all_held : (new : PieceRecord) (xs : List PieceRecord) (w : ℕ) (c : Cell) → covers_at new w c ≡ false → stored_at (flat_map (left_by new) xs) w c ≡ stored_at xs w c
all_held new [] w c away = refl
all_held new (x ∷ xs) w c away =
    stored-append (left_by new x) (flat_map (left_by new) xs) w c
    ∙ ap (λ o. option_or o (stored_at (flat_map (left_by new) xs) w c)) (left_held new x w c away)
    ∙ ap (option_or (then_some (covers_at x w c) (held_by x))) (all_held new xs w c away)

-- a new piece over others holds its cells, and they hold theirs elsewhere
pub over_held : (new : PieceRecord) (xs : List PieceRecord) (w : ℕ) (c : Cell)
    → stored_at (new ∷ flat_map (left_by new) xs) w c ≡ option_or (then_some (covers_at new w c) (held_by new)) (stored_at xs w c)
over_held new xs w c = by_cover (covers_at new w c) refl
  where
    by_cover : (b : Bool) → covers_at new w c ≡ b → option_or (then_some b (held_by new)) (stored_at (flat_map (left_by new) xs) w c) ≡ option_or (then_some b (held_by new)) (stored_at xs w c)
    by_cover true e = refl
    by_cover false e = all_held new xs w c e
