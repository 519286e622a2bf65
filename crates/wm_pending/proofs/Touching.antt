-- Touches found by their ids, and what they tell of a cell.
use Rattle.std.proofs.Common.{◌≡◌, ℕ, ◌+◌, Bool, true, false, cond, not, ◌&&◌, ◌||◌, ◌==◌, nat_lt, nat_le, max, List, [], ◌∷◌, ◌++◌, Option, Some, None, refl, sym, ap, subst, ◌∙◌, arith}
use Rattle.std.proofs.lemmas.Bool.{eq-eqb, eqb-true, ne_eqb, or_right}
use Rattle.std.proofs.lemmas.Bool.Decides.{nat_tests}
use Rattle.std.proofs.lemmas.Map.Views.{any-filter_same}
use Rattle.std.proofs.Math.Bool.{or_assoc}
use Rattle.std.specs.Cmp.{both_ways}
use Rattle.std.specs.List.{filter, filter_map, list_any}
use Rattle.std.specs.Option.{option_and_then, option_map_or, option_to_list}
use Rattle.std.specs.Ordering.{is_eq}
use Rattle.wm_base.proofs.Plain.{and_swap}
use Rattle.wm_base.specs.Key.{key_order}
use Rattle.wm_base.specs.declared.value.Value.{Value}
use Rattle.wm_graph.specs.Parts.{as_mark, as_touch, parts_of}
use Rattle.wm_image.proofs.Lists.{taken-with}
use Rattle.wm_index.proofs.Finding.{Tests, all_of, filter-kind}
use Rattle.wm_index.proofs.Lists.{record_at-none, record_at-here, record_at-away}
use Rattle.wm_index.specs.Kinds.{kind_at}
use Rattle.wm_index.specs.Sought.{MarksAt, TouchesAt, ids_with, is_sought, is_touch_since}
use Rattle.wm_spec.specs.Lists.{Cell}
use Rattle.wm_spec.specs.Records.{record_at}
use Rattle.wm_spec.specs.declared.record.Record.{Record}
use Rattle.wm_spec.specs.declared.record.Record.TheVariants as records
use Rattle.wm_spec.specs.declared.record.stored.Stored.{Stored}
use Rattle.wm_spec.specs.declared.record.trace.Trace.{Trace}
use Rattle.wm_state.specs.ById.{AllAbove, Ascend}
use Rattle.wm_state.specs.Standing.{in_cells, reached}
use Rattle.wm_pending.specs.Keys.{Place}
use Rattle.wm_pending.specs.Settled.{is_settled, settles, settles_moment}
use Rattle.wm_pending.specs.Touched.{has_touched, is_meant, is_since, is_touch_of, is_touched, passes_at, since_position}
use Rattle.wm_pending.specs.declared.touched.Since.{Since}

-- ---- ids, in any order

-- an id that is one of some settles a test of them
any_found : (R : ℕ → Bool) (id : ℕ) (ids : List ℕ) → R id ≡ true → list_any (λ k. k == id) ids ≡ true → list_any R ids ≡ true
any_found R id [] is found = found
any_found R id (x ∷ ids) is found = by_id (x == id) refl found (any_found R id ids is)
  where
    by_id : (b : Bool) → (x == id) ≡ b → (b || list_any (λ k. k == id) ids) ≡ true → (list_any (λ k. k == id) ids ≡ true → list_any R ids ≡ true)
        → (R x || list_any R ids) ≡ true
    by_id true same found rest = ap (λ k. R k || list_any R ids) (eqb-true x id same) ∙ ap (λ b. b || list_any R ids) is
    by_id false apart found rest = or_right (R x) (list_any R ids) (rest found)

-- what some of them pass, some of all that are among others do
any_among : (R : ℕ → Bool) (ids jds : List ℕ) → ((id : ℕ) → list_any (λ k. k == id) ids ≡ true → list_any (λ k. k == id) jds ≡ true) → list_any R ids ≡ true → list_any R jds ≡ true
any_among R [] jds within is = absurd (cc)
any_among R (x ∷ ids) jds within is =
    by_test (R x) refl is (any_among R ids jds (λ id found. within id (or_right (x == id) (list_any (λ k. k == id) ids) found)))
  where
    by_test : (b : Bool) → R x ≡ b → (b || list_any R ids) ≡ true → (list_any R ids ≡ true → list_any R jds ≡ true) → list_any R jds ≡ true
    by_test true holds is rest = any_found R x jds holds (within x (ap (λ b. b || list_any (λ k. k == x) ids) (eq-eqb x x refl)))
    by_test false fails is rest = rest is

-- a test of ids asks for no more than which they are
any_same : (R : ℕ → Bool) (ids jds : List ℕ) → ((id : ℕ) → list_any (λ k. k == id) ids ≡ list_any (λ k. k == id) jds) → list_any R ids ≡ list_any R jds
any_same R ids jds same =
    both_ways (list_any R ids) (list_any R jds)
    (any_among R ids jds (λ id found. sym (same id) ∙ found))
    (any_among R jds ids (λ id found. same id ∙ found))

-- an id is not one of those of later records
none_above : (p : Record → Bool) (id : ℕ) (ss : List Stored) → AllAbove id ss → list_any (λ k. k == id) (ids_with p ss) ≡ false
none_above p id [] above = refl
none_above p id (s ∷ ss) above = by_test (p s.record) (none_above p id ss above.1)
  where
    by_test : (b : Bool) → list_any (λ k. k == id) (ids_with p ss) ≡ false → list_any (λ k. k == id) (cond b (s.id ∷ ids_with p ss) (ids_with p ss)) ≡ false
    by_test true rest = ap (λ b. b || list_any (λ k. k == id) (ids_with p ss)) (ne_eqb s.id id (λ same. let lt = above.0 in omega (arith, lt, same))) ∙ rest
    by_test false rest = rest

-- the ids of the records that pass a test are those whose record passes it
among_with : (p : Record → Bool) (id : ℕ) (ss : List Stored) → Ascend ss → list_any (λ k. k == id) (ids_with p ss) ≡ passes_at p ss id
among_with p id [] sorted = ap (λ o. option_map_or p o false) (sym (record_at-none id))
among_with p id (s ∷ ss) sorted = by_id (s.id == id) refl (among_with p id ss sorted.1)
  where
    here : (b : Bool) → p s.record ≡ b → s.id ≡ id → list_any (λ k. k == id) (cond b (s.id ∷ ids_with p ss) (ids_with p ss)) ≡ b
    here true is same = ap (λ b. b || list_any (λ k. k == id) (ids_with p ss)) (eq-eqb s.id id same)
    here false is same = none_above p id ss (subst (λ k. AllAbove k ss) same sorted.0)

    away : (b : Bool) → (s.id == id) ≡ false → list_any (λ k. k == id) (cond b (s.id ∷ ids_with p ss) (ids_with p ss)) ≡ list_any (λ k. k == id) (ids_with p ss)
    away true apart = ap (λ b. b || list_any (λ k. k == id) (ids_with p ss)) apart
    away false apart = refl

    by_id : (t : Bool) → (s.id == id) ≡ t → list_any (λ k. k == id) (ids_with p ss) ≡ passes_at p ss id
        → list_any (λ k. k == id) (cond (p s.record) (s.id ∷ ids_with p ss) (ids_with p ss)) ≡ passes_at p (s ∷ ss) id
    by_id true same rest =
        let e = eqb-true s.id id same in
        here (p s.record) refl e ∙ ap (λ o. option_map_or p o false) (sym (record_at-here s ss id e))
    by_id false apart rest =
        away (p s.record) apart
        ∙ rest
        ∙ ap (λ o. option_map_or p o false) (sym (record_at-away s ss id (λ e. absurd (let same = eq-eqb s.id id e in cc))))

-- a touch that is meant is one of the workspace from the position on
meant_since : (s : Since) (o : Option Record) → (option_map_or (is_meant s) o false && option_map_or (is_touch_since s.space s.from) o false) ≡ option_map_or (is_meant s) o false
meant_since s None = refl
meant_since s (Some (records.Touch x)) = by_tests (x.space == s.space) (nat_lt x.place s.below) (nat_le s.from x.position)
  where
    by_tests : (a b c : Bool) → ((a && (b && c)) && (a && c)) ≡ (a && (b && c))
    by_tests true true true = refl
    by_tests true true false = refl
    by_tests true false c = refl
    by_tests false b c = refl
meant_since s (Some _) = refl

-- those whose touch is meant, of the ids of the workspace's touches from the position on, are the ids of all that are
-- meant
pub meant_kept : (s : Since) (ss : List Stored) (found kept : List ℕ)
    → ((id : ℕ) → list_any (λ k. k == id) found ≡ passes_at (is_touch_since s.space s.from) ss id) → kept ≡ filter (passes_at (is_meant s) ss) found
    → (id : ℕ) → list_any (λ k. k == id) kept ≡ passes_at (is_meant s) ss id
meant_kept s ss found kept told are id =
    ap (λ (l : List ℕ). list_any (λ k. k == id) l) are
    ∙ any-filter_same (λ k. k == id) (passes_at (is_meant s) ss) (passes_at (is_meant s) ss id) (λ k same. ap (λ j. passes_at (is_meant s) ss j) (eqb-true k id same)) found
    ∙ ap (λ b. passes_at (is_meant s) ss id && b) (told id)
    ∙ meant_since s (record_at ss id)

-- ---- some touch

any-alike : {A : Type 0} (P Q : A → Bool) (xs : List A) → ((x : A) → P x ≡ Q x) → list_any P xs ≡ list_any Q xs
any-alike P Q [] same = refl
any-alike P Q (x ∷ xs) same = rw (same x, any-alike P Q xs same) refl

any-filter : {A : Type 0} (P p : A → Bool) (xs : List A) → list_any P (filter p xs) ≡ list_any (λ x. p x && P x) xs
any-filter P p [] = refl
any-filter P p (x ∷ xs) = by_test (p x) (any-filter P p xs)
  where
    by_test : (b : Bool) → list_any P (filter p xs) ≡ list_any (λ y. p y && P y) xs
        → list_any P (cond b (x ∷ filter p xs) (filter p xs)) ≡ ((b && P x) || list_any (λ y. p y && P y) xs)
    by_test true rest = rw rest refl
    by_test false rest = rest

-- some touch, or some mark, of some ids passes a test
abbrev pub any_at : (Record → Option Trace) → (Trace → Bool) → List Stored → List ℕ → Bool
any_at kind P ss ids = list_any P (kind_at kind ss ids)

-- one more of the ids
pub any_at-next : (kind : Record → Option Trace) (P : Trace → Bool) (ss : List Stored) (id : ℕ) (ids : List ℕ)
    → any_at kind P ss (id ∷ ids) ≡ (option_map_or P (option_and_then kind (record_at ss id)) false || any_at kind P ss ids)
any_at-next kind P ss id ids = by_record (record_at ss id) refl
  where
    by_record : (o : Option Record) → record_at ss id ≡ o → any_at kind P ss (id ∷ ids) ≡ (option_map_or P (option_and_then kind o) false || any_at kind P ss ids)
    by_record None is = rw is refl
    by_record (Some r) is = rw is (by_kind (kind r) refl)
      where
        by_kind : (o : Option Trace) → kind r ≡ o → list_any P (filter_map kind (r ∷ filter_map (record_at ss) ids)) ≡ (option_map_or P o false || any_at kind P ss ids)
        by_kind None e = rw e refl
        by_kind (Some x) e = rw e refl

-- one more at their end
pub any_at-push : (kind : Record → Option Trace) (P : Trace → Bool) (ss : List Stored) (ids : List ℕ) (id : ℕ)
    → any_at kind P ss (ids ++ id ∷ []) ≡ (any_at kind P ss ids || list_any P (option_to_list (option_and_then kind (record_at ss id))))
any_at-push kind P ss [] id = any_at-next kind P ss id [] ∙ by_touch (option_and_then kind (record_at ss id))
  where
    by_touch : (o : Option Trace) → (option_map_or P o false || false) ≡ list_any P (option_to_list o)
    by_touch None = refl
    by_touch (Some x) = refl
any_at-push kind P ss (x ∷ ids) id =
    any_at-next kind P ss x (ids ++ id ∷ [])
    ∙ ap (λ b. option_map_or P (option_and_then kind (record_at ss x)) false || b) (any_at-push kind P ss ids id)
    ∙ sym (or_assoc (option_map_or P (option_and_then kind (record_at ss x)) false) (any_at kind P ss ids) (list_any P (option_to_list (option_and_then kind (record_at ss id)))))
    ∙ ap (λ b. b || list_any P (option_to_list (option_and_then kind (record_at ss id)))) (sym (any_at-next kind P ss x ids))

-- some that one test finds by its id passes another
any_at-with : (kind : Record → Option Trace) (P p : Trace → Bool) (q : Record → Bool) (ss : List Stored) → Ascend ss → Tests kind p q
    → any_at kind P ss (ids_with q ss) ≡ list_any (λ x. p x && P x) (filter_map kind (all_of ss))
any_at-with kind P p q ss sorted tests =
    ap (λ rs. list_any P (filter_map kind rs)) (taken-with q ss sorted)
    ∙ ap (λ xs. list_any P xs) (filter-kind kind p q tests (all_of ss))
    ∙ any-filter P p (filter_map kind (all_of ss))

since_test : (s : Since) → Tests as_touch (is_since s) (is_meant s)
since_test s (records.Touch x) = refl
since_test s _ = refl

mark_test : (table : ℕ) (key : List Value) → Tests as_mark (λ (x : Trace). (x.cells.table == table) && is_eq (key_order x.cells.key key)) (is_sought (MarksAt table key))
mark_test table key (records.Mark x) = refl
mark_test table key _ = refl

key_test : (table : ℕ) (key : List Value) → Tests as_touch (λ (x : Trace). (x.cells.table == table) && is_eq (key_order x.cells.key key)) (is_sought (TouchesAt table key))
key_test table key (records.Touch x) = refl
key_test table key _ = refl

-- the same by each id
any_at-each : (kind : Record → Option Trace) (P : Trace → Bool) (ss : List Stored) (ids : List ℕ) → any_at kind P ss ids ≡ list_any (λ id. option_map_or P (option_and_then kind (record_at ss id)) false) ids
any_at-each kind P ss [] = refl
any_at-each kind P ss (id ∷ ids) = any_at-next kind P ss id ids ∙ ap (λ b. option_map_or P (option_and_then kind (record_at ss id)) false || b) (any_at-each kind P ss ids)

-- the keys of the touches that are meant, whose ids these are
pub keys_touched : (s : Since) (q : Place) (ss : List Stored) (ids : List ℕ) → Ascend ss → ((id : ℕ) → list_any (λ k. k == id) ids ≡ passes_at (is_meant s) ss id)
    → any_at as_touch (is_touch_of q) ss ids ≡ has_touched (parts_of ss).touches s q
unfolding parts_of
keys_touched s q ss ids sorted told =
    any_at-each as_touch (is_touch_of q) ss ids
    ∙ any_same
    (λ id. option_map_or (is_touch_of q) (option_and_then as_touch (record_at ss id)) false)
    ids
    (ids_with (is_meant s) ss)
    (λ id. told id ∙ sym (among_with (is_meant s) id ss sorted))
    ∙ sym (any_at-each as_touch (is_touch_of q) ss (ids_with (is_meant s) ss))
    ∙ any_at-with as_touch (is_touch_of q) (is_since s) (is_meant s) ss sorted (since_test s)

-- a touch that is meant covers the moment
abbrev pub covers_at : Since → ℕ → Trace → Bool
covers_at s t x = is_since s x && (nat_le x.cells.from t && nat_lt t x.cells.till)

-- the cells of a key that the touches that are meant cover
pub cells_touched : (s : Since) (table : ℕ) (key : List Value) (t : ℕ) (ss : List Stored) → Ascend ss
    → any_at as_touch (covers_at s t) ss (ids_with (is_sought (TouchesAt table key)) ss) ≡ is_touched (parts_of ss).touches s (record { table = table; key = key; time = t })
unfolding parts_of
cells_touched s table key t ss sorted =
    any_at-with as_touch (covers_at s t) (λ (x : Trace). (x.cells.table == table) && is_eq (key_order x.cells.key key)) (is_sought (TouchesAt table key)) ss sorted (key_test table key)
    ∙ any-alike
    (λ (x : Trace). ((x.cells.table == table) && is_eq (key_order x.cells.key key)) && covers_at s t x)
    (λ (x : Trace). is_since s x && in_cells x.cells (record { table = table; key = key; time = t }))
    (parts_of ss).touches
    (λ x. and_swap ((x.cells.table == table) && is_eq (key_order x.cells.key key)) (is_since s x) (nat_le x.cells.from t && nat_lt t x.cells.till))

-- the cells of a key that the marks that are meant settle
pub cells_settled : (marks since : Since) (c : Cell) (ss : List Stored) → Ascend ss
    → any_at as_mark (settles_moment (parts_of ss).touches marks since c) ss (ids_with (is_sought (MarksAt c.table c.key)) ss) ≡ is_settled (parts_of ss) marks since c
unfolding parts_of
cells_settled marks since c ss sorted =
    any_at-with as_mark (settles_moment (parts_of ss).touches marks since c) (λ (x : Trace). (x.cells.table == c.table) && is_eq (key_order x.cells.key c.key)) (is_sought (MarksAt c.table c.key)) ss sorted
    (mark_test c.table c.key)
    ∙ any-alike
    (λ (x : Trace). ((x.cells.table == c.table) && is_eq (key_order x.cells.key c.key)) && settles_moment (parts_of ss).touches marks since c x)
    (settles (parts_of ss).touches marks since c)
    (parts_of ss).marks
    (λ x. swap ((x.cells.table == c.table) && is_eq (key_order x.cells.key c.key)) (is_since marks x) (nat_le x.cells.from c.time && nat_lt c.time x.cells.till)
    (not (is_touched (parts_of ss).touches (since_position since x.position) c)))
  where
    swap : (a b m n : Bool) → (a && ((b && m) && n)) ≡ ((b && (a && m)) && n)
    swap true b m n = refl
    swap false true m n = refl
    swap false false m n = refl

-- ---- touches that are meant, and how far a cell was touched

-- some covers the cell where it was touched at the position or behind it
pub touched_reached : (xs : List Trace) (s : Since) (c : Cell) → is_touched xs s c ≡ nat_lt s.from (reached xs s.space s.below c)
touched_reached [] s c = grind (arith, nat_tests)
touched_reached (x ∷ xs) s c =
    ap (λ b. (is_since s x && in_cells x.cells c) || b) (touched_reached xs s c)
    ∙ by_tests (x.space == s.space) (nat_lt x.place s.below) (in_cells x.cells c) (reached xs s.space s.below c)
  where
    by_tests : (a b i : Bool) (r : ℕ)
        → (((a && (b && nat_le s.from x.position)) && i) || nat_lt s.from r) ≡ nat_lt s.from (max (cond ((a && b) && i) (x.position + 1) 0) r)
    by_tests true true true r = grind (arith, nat_tests)
    by_tests true true false r = grind (arith, nat_tests)
    by_tests true false i r = grind (arith, nat_tests)
    by_tests false b i r = grind (arith, nat_tests)

-- no mark settles a cell that was touched at the position of each that covers it, or behind it
pub unsettled_reached : (ms xs : List Trace) (n below : ℕ) (s : Since) (c : Cell)
    → not (list_any (settles xs (record { space = n; below = below; from = 0 }) s c) ms) ≡ nat_le (reached ms n below c) (reached xs s.space s.below c)
unsettled_reached [] xs n below s c = grind (arith, nat_tests)
unsettled_reached (m ∷ ms) xs n below s c =
    ap (λ b. not (((is_since (record { space = n; below = below; from = 0 }) m && in_cells m.cells c) && not b) || list_any (settles xs (record { space = n; below = below; from = 0 }) s c) ms))
    (touched_reached xs (since_position s m.position) c)
    ∙ by_tests (m.space == n) (nat_lt m.place below) (in_cells m.cells c) (list_any (settles xs (record { space = n; below = below; from = 0 }) s c) ms) (reached ms n below c) (reached xs s.space s.below c)
    (unsettled_reached ms xs n below s c)
  where
    by_tests : (a b i rest : Bool) (r q : ℕ) → not rest ≡ nat_le r q
        → not ((((a && (b && nat_le 0 m.position)) && i) && not (nat_lt m.position q)) || rest) ≡ nat_le (max (cond ((a && b) && i) (m.position + 1) 0) r) q
    by_tests true true true true r q e = grind (arith, nat_tests, e)
    by_tests true true true false r q e = grind (arith, nat_tests, e)
    by_tests true true false rest r q e = grind (arith, nat_tests, e)
    by_tests true false i rest r q e = e ∙ grind (arith, nat_tests)
    by_tests false b i rest r q e = e ∙ grind (arith, nat_tests)
