-- Periods that are widened, and each holds those of all older versions.
use Rattle.std.proofs.Common.{◌≡◌, ℕ, zero, suc, ◌<◌, ◌≤◌, ◌+◌, ◌++◌, ◌==◌, ◌&&◌, nat_le, true, cond, List, [], ◌∷◌, length, get_or, insert, remove, take, drop, min, max, refl, sym, ap, subst, ◌∙◌, arith, le_refl}
use Rattle.std.proofs.Math.ListN.{set}
use Rattle.std.proofs.Math.Nat.{min-eq_left, max-eq_left}
use Rattle.std.proofs.lemmas.List.{append-nil, drop_all, take_all}
use Rattle.std.specs.List.{AllByRecursion}
use Rattle.wm_ids.proofs.Placing.{All-placed, All-weaker}
use Rattle.wm_ids.specs.Ids.{placed}
use Rattle.wm_ids.specs.Versioned.{AreSpanned, Encloses, IsPieceAt, IsSpanned, IsWithin, VersionsFrom, Widens, ids_under, widened, widened_from}
use Rattle.wm_ids.specs.declared.versioned.Versioned.{Versioned}
use Rattle.wm_spec.specs.declared.record.piece.PieceRecord.{PieceRecord}
use Rattle.wm_spec.specs.declared.record.stored.Stored.{Stored}

-- ---- minima and maxima

min_less : (a b c : ℕ) → a ≤ b → min a c ≤ b
min_less a b c le = grind (arith, le)

max_more : (a b c : ℕ) → b ≤ a → b ≤ max a c
max_more a b c le = grind (arith, le)

min_right : (a b : ℕ) → min a b ≤ b
min_right a b = grind (arith)

max_right : (a b : ℕ) → b ≤ max a b
max_right a b = grind (arith)

min_rises : (a b c : ℕ) → a ≤ b → min a c ≤ min b c
min_rises a b c le = grind (arith, le)

max_rises : (a b c : ℕ) → b ≤ a → max b c ≤ max a c
max_rises a b c le = grind (arith, le)

-- ---- facts of all elements

All-at : {X : Type 0} (P : X → Type 0) (xs : List X) (i : ℕ) (d : X) → i < length xs → AllByRecursion P xs → P (get_or xs i d)
All-at P [] i d within all = absurd (omega (arith, within))
All-at P (x ∷ xs) zero d within all = all.0
All-at P (x ∷ xs) (suc i) d within all = All-at P xs i d (omega (arith, within)) all.1

All-set : {X : Type 0} (P : X → Type 0) (xs : List X) (i : ℕ) (d y : X) → (P (get_or xs i d) → P y) → AllByRecursion P xs → AllByRecursion P (set xs i y)
All-set P [] i d y becomes all = tt
All-set P (x ∷ xs) zero d y becomes all = (becomes all.0, all.1)
All-set P (x ∷ xs) (suc i) d y becomes all = (all.0, All-set P xs i d y becomes all.1)

All-insert : {X : Type 0} (P : X → Type 0) (xs : List X) (i : ℕ) (y : X) → i ≤ length xs → P y → AllByRecursion P xs → AllByRecursion P (insert xs i y)
All-insert P [] zero y within new all = (new, tt)
All-insert P [] (suc i) y within new all = absurd (omega (arith, within))
All-insert P (x ∷ xs) zero y within new all = (new, all)
All-insert P (x ∷ xs) (suc i) y within new all = (all.0, All-insert P xs i y (omega (arith, within)) new all.1)

All-remove : {X : Type 0} (P : X → Type 0) (xs : List X) (i : ℕ) → i < length xs → AllByRecursion P xs → AllByRecursion P (remove xs i)
All-remove P [] i within all = absurd (omega (arith, within))
All-remove P (x ∷ xs) zero within all = all.1
All-remove P (x ∷ xs) (suc i) within all = (all.0, All-remove P xs i (omega (arith, within)) all.1)

-- ---- versions that are widened have the same ids, rise and hold their cells as before

pub widened_under : (x : PieceRecord) (i : ℕ) (es : List Versioned) (v : ℕ) → ids_under (widened_from x i es) v ≡ ids_under es v
widened_under x i [] v = refl
widened_under x zero (e ∷ es) v = ap (λ ids. cond (e.version == v) e.ids ids) (widened_under x zero es v)
widened_under x (suc i) (e ∷ es) v = ap (λ ids. cond (e.version == v) e.ids ids) (widened_under x i es v)

pub widened_rises : (x : PieceRecord) (i b : ℕ) (es : List Versioned) → VersionsFrom b es → VersionsFrom b (widened_from x i es)
widened_rises x i b [] up = tt
widened_rises x zero b (e ∷ es) up = (up.0, widened_rises x zero (e.version + 1) es up.1)
widened_rises x (suc i) b (e ∷ es) up = (up.0, widened_rises x i (e.version + 1) es up.1)

wider : (ss : List Stored) (x : PieceRecord) (from till : ℕ) (ids : List ℕ) → AllByRecursion (IsSpanned ss from till) ids → AllByRecursion (IsSpanned ss (min from x.cells.from) (max till x.cells.till)) ids
wider ss x from till ids all =
    All-weaker (IsSpanned ss from till) (IsSpanned ss (min from x.cells.from) (max till x.cells.till)) ids
    (λ k spans r at. (min_less from r.cells.from x.cells.from (spans r at).0, max_more till r.cells.till x.cells.till (spans r at).1)) all

pub widened_spanned : (ss : List Stored) (x : PieceRecord) (i : ℕ) (es : List Versioned) → AreSpanned ss es → AreSpanned ss (widened_from x i es)
widened_spanned ss x i [] all = tt
widened_spanned ss x zero (e ∷ es) all = (wider ss x e.from e.till e.ids all.0, widened_spanned ss x zero es all.1)
widened_spanned ss x (suc i) (e ∷ es) all = (all.0, widened_spanned ss x i es all.1)

-- a version that has the id of a piece more holds its cells once it is widened
pub there_spanned : (ss : List Stored) (id : ℕ) (x : PieceRecord) (es : List Versioned) (i : ℕ) (d new : Versioned) → i < length es → new.from ≡ (get_or es i d).from → new.till ≡ (get_or es i d).till
    → new.ids ≡ placed id (get_or es i d).ids → IsPieceAt ss id x → AreSpanned ss es → AreSpanned ss (widened_from x i (set es i new))
there_spanned ss id x [] i d new within from till put is all = absurd (omega (arith, within))
there_spanned ss id x (e ∷ es) zero d new within from till put is all = (
  subst (λ f. AllByRecursion (IsSpanned ss (min f x.cells.from) (max new.till x.cells.till)) new.ids) (sym from)
      (subst (λ t. AllByRecursion (IsSpanned ss (min e.from x.cells.from) (max t x.cells.till)) new.ids) (sym till)
      (subst (AllByRecursion (IsSpanned ss (min e.from x.cells.from) (max e.till x.cells.till))) (sym put)
      (All-placed (IsSpanned ss (min e.from x.cells.from) (max e.till x.cells.till)) id e.ids
      (λ r at. subst (λ (q : PieceRecord). (min e.from x.cells.from ≤ q.cells.from) × (q.cells.till ≤ max e.till x.cells.till)) (sym (is r at)) (min_right e.from x.cells.from, max_right e.till x.cells.till))
      (wider ss x e.from e.till e.ids all.0)))),
  widened_spanned ss x zero es all.1,
)
there_spanned ss id x (e ∷ es) (suc i) d new within from till put is all = (all.0, there_spanned ss id x es i d new (omega (arith, within)) from till put is all.1)

-- one piece lies in a period that holds its cells
pub one_spanned : (ss : List Stored) (id : ℕ) (x : PieceRecord) (from till : ℕ) (ids : List ℕ) → ids ≡ id ∷ [] → from ≤ x.cells.from → x.cells.till ≤ till → IsPieceAt ss id x → AllByRecursion (IsSpanned ss from till) ids
one_spanned ss id x from till ids one low high is =
    subst (AllByRecursion (IsSpanned ss from till)) (sym one) ((λ r at. subst (λ (q : PieceRecord). (from ≤ q.cells.from) × (q.cells.till ≤ till)) (sym (is r at)) (low, high)), tt)

-- ---- each holds the older ones as before

-- a period lies in those of newer versions, also once they are widened
enclosing : (x : PieceRecord) (from till i : ℕ) (es : List Versioned) → AllByRecursion (λ (d : Versioned). (d.from ≤ from) × (till ≤ d.till)) es → AllByRecursion (λ (d : Versioned). (d.from ≤ from) × (till ≤ d.till)) (widened_from x i es)
enclosing x from till i [] all = tt
enclosing x from till zero (d ∷ ds) all = ((min_less d.from from x.cells.from all.0.0, max_more d.till till x.cells.till all.0.1), enclosing x from till zero ds all.1)
enclosing x from till (suc i) (d ∷ ds) all = (all.0, enclosing x from till i ds all.1)

all_enclosing : (x : PieceRecord) (e : Versioned) (es : List Versioned) → AllByRecursion (λ (d : Versioned). Encloses d e) es → AllByRecursion (λ (d : Versioned). Encloses d (widened x e)) (widened_from x zero es)
all_enclosing x e [] all = tt
all_enclosing x e (d ∷ ds) all = ((min_rises d.from e.from x.cells.from all.0.0, max_rises d.till e.till x.cells.till all.0.1), all_enclosing x e ds all.1)

pub widened_widens : (x : PieceRecord) (i : ℕ) (es : List Versioned) → Widens es → Widens (widened_from x i es)
widened_widens x i [] all = tt
widened_widens x zero (e ∷ es) all = (all_enclosing x e es all.0, widened_widens x zero es all.1)
widened_widens x (suc i) (e ∷ es) all = (enclosing x e.from e.till i es all.0, widened_widens x i es all.1)

-- a version that keeps its period
pub set_widens : (es : List Versioned) (i : ℕ) (d new : Versioned) → new.from ≡ (get_or es i d).from → new.till ≡ (get_or es i d).till → Widens es → Widens (set es i new)
set_widens [] i d new from till all = tt
set_widens (e ∷ es) zero d new from till all = (
  All-weaker (λ (q : Versioned). Encloses q e) (λ (q : Versioned). Encloses q new) es (λ q inside. (subst (λ n. q.from ≤ n) (sym from) inside.0, subst (λ n. n ≤ q.till) (sym till) inside.1)) all.0,
  all.1,
)
set_widens (e ∷ es) (suc i) d new from till all = (
  All-set (λ (q : Versioned). Encloses q e) es i d new (λ inside. (subst (λ n. n ≤ e.from) (sym from) inside.0, subst (λ n. e.till ≤ n) (sym till) inside.1)) all.0,
  set_widens es i d new from till all.1,
)

-- one that goes
pub remove_widens : (es : List Versioned) (i : ℕ) → i < length es → Widens es → Widens (remove es i)
remove_widens [] i within all = absurd (omega (arith, within))
remove_widens (e ∷ es) zero within all = all.1
remove_widens (e ∷ es) (suc i) within all = (All-remove (λ (d : Versioned). Encloses d e) es i (omega (arith, within)) all.0, remove_widens es i (omega (arith, within)) all.1)

-- one that is put in, in a period that holds those of the older ones, where the newer are widened
inside : (x : PieceRecord) (new : Versioned) (es : List Versioned) → AllByRecursion (IsWithin x new.from new.till) es → AllByRecursion (λ (d : Versioned). Encloses d new) (widened_from x zero es)
inside x new [] all = tt
inside x new (d ∷ ds) all = (all.0, inside x new ds all.1)

pub put_widens : (x : PieceRecord) (i : ℕ) (es : List Versioned) (new : Versioned) → i ≤ length es → AllByRecursion (Encloses new) (take i es) → AllByRecursion (IsWithin x new.from new.till) (drop i es) → Widens es
    → Widens (widened_from x (suc i) (insert es i new))
put_widens x zero [] new within older newer all = (tt, tt)
put_widens x (suc i) [] new within older newer all = absurd (omega (arith, within))
put_widens x zero (e ∷ es) new within older newer all = (inside x new (e ∷ es) newer, widened_widens x zero (e ∷ es) all)
put_widens x (suc i) (e ∷ es) new within older newer all =
    let less : i ≤ length es = omega (arith, within) in (
      enclosing x e.from e.till (suc i) (insert es i new) (All-insert (λ (d : Versioned). Encloses d e) es i new less older.0 all.0),
      put_widens x i es new less older.1 newer all.1,
    )

-- ---- the period of a new version

older_at : (es : List Versioned) (j : ℕ) (d : Versioned) → j < length es → Widens es → AllByRecursion (Encloses (get_or es j d)) (take (suc j) es)
older_at [] j d within all = absurd (omega (arith, within))
older_at (e ∷ es) zero d within all = ((le_refl e.from, le_refl e.till), tt)
older_at (e ∷ es) (suc j) d within all = (All-at (λ (q : Versioned). Encloses q e) es j d (omega (arith, within)) all.0, older_at es j d (omega (arith, within)) all.1)

newer_at : (es : List Versioned) (j : ℕ) (d : Versioned) → j < length es → Widens es → AllByRecursion (λ (q : Versioned). Encloses q (get_or es j d)) (drop (suc j) es)
newer_at [] j d within all = absurd (omega (arith, within))
newer_at (e ∷ es) zero d within all = all.0
newer_at (e ∷ es) (suc j) d within all = newer_at es j d (omega (arith, within)) all.1

-- that of the version before its place, with the cells
pub span_older : (es : List Versioned) (i j f t lo hi : ℕ) (b : Versioned) → i ≡ suc j → j < length es → Widens es → b ≡ get_or es j b → f ≡ min b.from lo → t ≡ max b.till hi
    → AllByRecursion (λ (e : Versioned). (f ≤ e.from) × (e.till ≤ t)) (take i es)
span_older es i j f t lo hi b next within all is low high =
    subst (λ n. AllByRecursion (λ (e : Versioned). (f ≤ e.from) × (e.till ≤ t)) (take n es)) (sym next)
    (All-weaker (Encloses b) (λ (e : Versioned). (f ≤ e.from) × (e.till ≤ t)) (take (suc j) es)
    (λ e holds. (subst (λ n. n ≤ e.from) (sym low) (min_less b.from e.from lo holds.0), subst (λ n. e.till ≤ n) (sym high) (max_more b.till e.till hi holds.1)))
    (subst (λ (q : Versioned). AllByRecursion (Encloses q) (take (suc j) es)) (sym is) (older_at es j b within all)))

pub span_newer : (es : List Versioned) (x : PieceRecord) (i j f t : ℕ) (b : Versioned) → i ≡ suc j → j < length es → Widens es → b ≡ get_or es j b → f ≡ min b.from x.cells.from → t ≡ max b.till x.cells.till
    → AllByRecursion (IsWithin x f t) (drop i es)
span_newer es x i j f t b next within all is low high =
    subst (λ n. AllByRecursion (IsWithin x f t) (drop n es)) (sym next)
    (All-weaker (λ (q : Versioned). Encloses q b) (IsWithin x f t) (drop (suc j) es)
    (λ q holds. (subst (λ n. min q.from x.cells.from ≤ n) (sym low) (min_rises q.from b.from x.cells.from holds.0), subst (λ n. n ≤ max q.till x.cells.till) (sym high) (max_rises q.till b.till x.cells.till holds.1)))
    (subst (λ (p : Versioned). AllByRecursion (λ (q : Versioned). Encloses q p) (drop (suc j) es)) (sym is) (newer_at es j b within all)))

-- ---- one after another

-- a period that holds the cells stays
widened_same : (x : PieceRecord) (e : Versioned) → e.from ≤ x.cells.from → x.cells.till ≤ e.till → widened x e ≡ e
widened_same x e low high =
    ap (λ f. let q : Versioned = record e { from = f; till = max e.till x.cells.till } in q) (min-eq_left low)
    ∙ ap (λ t. let q : Versioned = record e { till = t } in q) (max-eq_left high)

all_same : (x : PieceRecord) (es : List Versioned) → AllByRecursion (λ (d : Versioned). (d.from ≤ x.cells.from) × (x.cells.till ≤ d.till)) es → widened_from x zero es ≡ es
all_same x [] all = refl
all_same x (e ∷ es) all = ap (λ (q : Versioned). q ∷ widened_from x zero es) (widened_same x e all.0.0 all.0.1) ∙ ap (λ l. e ∷ l) (all_same x es all.1)

-- and so do those of all newer versions
pub held_same : (x : PieceRecord) (es : List Versioned) (i : ℕ) (d : Versioned) → i < length es → Widens (drop i es) → (nat_le (get_or es i d).from x.cells.from && nat_le x.cells.till (get_or es i d).till) ≡ true → widened_from x i es ≡ es
held_same x [] i d within all holds = refl
held_same x (e ∷ es) zero d within all holds =
    let low : e.from ≤ x.cells.from = grind (arith, holds) in
    let high : x.cells.till ≤ e.till = grind (arith, holds) in
    ap (λ (q : Versioned). q ∷ widened_from x zero es) (widened_same x e low high)
    ∙ ap (λ l. e ∷ l)
    (all_same x es
    (All-weaker (λ (q : Versioned). Encloses q e) (λ (q : Versioned). (q.from ≤ x.cells.from) × (x.cells.till ≤ q.till)) es
    (λ q inside. (let a = inside.0 in omega (arith, a, low), let b = inside.1 in omega (arith, b, high))) all.0))
held_same x (e ∷ es) (suc i) d within all holds = ap (λ l. e ∷ l) (held_same x es i d (omega (arith, within)) all holds)

-- one is widened, and then the rest
one_widened : (x : PieceRecord) (es : List Versioned) (i : ℕ) (d new : Versioned) → i < length es → new ≡ widened x (get_or es i d) → widened_from x (suc i) (set es i new) ≡ widened_from x i es
one_widened x [] i d new within is = refl
one_widened x (e ∷ es) zero d new within is = ap (λ (q : Versioned). q ∷ widened_from x zero es) is
one_widened x (e ∷ es) (suc i) d new within is = ap (λ l. e ∷ l) (one_widened x es i d new (omega (arith, within)) is)

one_widens : (es : List Versioned) (i : ℕ) (new : Versioned) → i < length es → Widens (drop i es) → Widens (drop (suc i) (set es i new))
one_widens [] i new within all = absurd (omega (arith, within))
one_widens (e ∷ es) zero new within all = all.1
one_widens (e ∷ es) (suc i) new within all = one_widens es i new (omega (arith, within)) all

pub next : (i : ℕ) → suc i ≡ i + 1
next i = omega arith

pub next_widened : (x : PieceRecord) (es : List Versioned) (i : ℕ) (d new : Versioned) → i < length es → new ≡ widened x (get_or es i d) → widened_from x (i + 1) (set es i new) ≡ widened_from x i es
next_widened x es i d new within is = subst (λ n. widened_from x n (set es i new) ≡ widened_from x i es) (next i) (one_widened x es i d new within is)

pub next_widens : (es : List Versioned) (i : ℕ) (new : Versioned) → i < length es → Widens (drop i es) → Widens (drop (i + 1) (set es i new))
next_widens es i new within all = subst (λ n. Widens (drop n (set es i new))) (next i) (one_widens es i new within all)

pub drop_widens : (i : ℕ) (es : List Versioned) → Widens es → Widens (drop i es)
drop_widens zero es all = all
drop_widens (suc i) [] all = tt
drop_widens (suc i) (e ∷ es) all = drop_widens i es all.1

behind_widens : (es : List Versioned) (i : ℕ) (new : Versioned) → i ≤ length es → Widens es → Widens (drop (suc i) (insert es i new))
behind_widens [] zero new within all = tt
behind_widens [] (suc i) new within all = absurd (omega (arith, within))
behind_widens (e ∷ es) zero new within all = all
behind_widens (e ∷ es) (suc i) new within all = behind_widens es i new (omega (arith, within)) all.1

-- those behind one that is put in
pub put_before : (es : List Versioned) (i : ℕ) (new : Versioned) → i ≤ length es → Widens es → Widens (drop (i + 1) (insert es i new))
put_before es i new within all = subst (λ n. Widens (drop n (insert es i new))) (next i) (behind_widens es i new within all)

-- what is written over all elements stands
pub written : (n : ℕ) (new mid old : List Versioned) → mid ≡ old → length mid ≡ n → length new ≡ length mid → take n (new ++ drop (length new) old) ≡ new
written n new mid old same long kept =
    let all : length old ≡ length mid = ap length (sym same) in
    ap (λ l. take n (new ++ l)) (drop_all (length new) old (omega (arith, all, kept))) ∙ ap (take n) (append-nil new) ∙ take_all n new (omega (arith, long, kept))

-- and none is left
pub none_widened : (x : PieceRecord) (es : List Versioned) (i : ℕ) → length es ≤ i → widened_from x i es ≡ es
none_widened x [] i done = refl
none_widened x (e ∷ es) zero done = absurd (omega (arith, done))
none_widened x (e ∷ es) (suc i) done = ap (λ l. e ∷ l) (none_widened x es i (omega (arith, done)))
