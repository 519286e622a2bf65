-- Pieces of one version that do not collide, as cells that share none.
use Rattle.std.proofs.Common.{◌≡◌, ℕ, ◌==◌, nat_le, nat_lt, Bool, true, false, not, ◌&&◌, ◌||◌, cond, List, [], ◌∷◌, ◌++◌, refl, sym, ap, ◌∙◌, arith}
use Rattle.std.proofs.lemmas.Bool.{eqb-true, eq-eqb, and_from, and_parts, not-true, or_left, or_parts, or_right}
use Rattle.std.proofs.lemmas.Bool.Decides.{nat_tests}
use Rattle.std.proofs.lemmas.List.Elements.{All-cons, All-nil, All-tail}
use Rattle.std.proofs.lemmas.List.Folds.{list_any-append}
use Rattle.std.specs.List.{All, filter, list_all, list_any}
use Rattle.std.specs.Ordering.{is_eq}
use Rattle.wm_base.specs.Key.{key_order}
use Rattle.wm_base.specs.declared.value.Value.{Value}
use Rattle.wm_graph.specs.Rules.{collide, differ}
use Rattle.wm_net.proofs.Grouping.{same_group-is}
use Rattle.wm_net.proofs.Sharing.{AreApart-no_two, no_two}
use Rattle.wm_net.specs.Counts.{AreApart, has_cell, has_ends, is_end}
use Rattle.wm_net.specs.Groups.{Group, same_group}
use Rattle.wm_spec.specs.Lists.{Cell, Entry, is_of}
use Rattle.wm_spec.specs.declared.record.cell_range.CellRange.{CellRange}
use Rattle.wm_spec.specs.declared.record.piece.PieceRecord.{PieceRecord}

-- ---- lists that are filtered

-- what passes one test has what the other test gives it
pub all_filtered : {X : Type 0} (P : X → Type 0) (test ok : X → Bool) → ((x : X) → ok x ≡ true → test x ≡ true → P x) → (xs : List X) → list_all ok xs ≡ true → All P (filter test xs)
all_filtered P test ok gives [] all = All-nil P
all_filtered {X = X} P test ok gives (x ∷ xs) all = let h = and_parts (ok x) (list_all ok xs) all in by_test (test x) refl h.0 (all_filtered P test ok gives xs h.1)
  where
    by_test : (b : Bool) → test x ≡ b → ok x ≡ true → All P (filter test xs) → All P (cond b (x ∷ filter test xs) (filter test xs))
    by_test true is good rest = All-cons P x (filter test xs) (gives x good is) rest
    by_test false is good rest = rest

-- the second of two lists
pub all_second : {X : Type 0} (P : X → Type 0) (xs ys : List X) → All P (xs ++ ys) → All P ys
all_second P [] ys all = all
all_second P (x ∷ xs) ys all = all_second P xs ys (All-tail P x (xs ++ ys) all)

-- ---- ends

-- each end of an entry of the one is an end of an entry of the other
abbrev pub EndIn : List Entry → List Entry → Type 0
EndIn es all = (table : ℕ) (key : List Value) (t : ℕ) → is_end es table key t ≡ true → is_end all table key t ≡ true

pub ends_in : (es all : List Entry) (r : CellRange) → EndIn es all → has_ends es r ≡ true → has_ends all r ≡ true
ends_in es all r more ends =
    let h = and_parts (is_end es r.table r.key r.from) (is_end es r.table r.key r.till) ends in
    and_from (is_end all r.table r.key r.from) (is_end all r.table r.key r.till) (more r.table r.key r.from h.0) (more r.table r.key r.till h.1)

pub end_first : (es fs : List Entry) → EndIn es (es ++ fs)
end_first es fs table key t e =
    list_any-append (λ (x : Entry). is_of table key x && ((x.from == t) || (x.till == t))) es fs ∙ or_left (is_end es table key t) (is_end fs table key t) e

pub end_second : (es fs : List Entry) → EndIn fs (es ++ fs)
end_second es fs table key t e =
    list_any-append (λ (x : Entry). is_of table key x && ((x.from == t) || (x.till == t))) es fs ∙ or_right (is_end es table key t) (is_end fs table key t) e

pub end_then : (es fs gs : List Entry) → EndIn es fs → EndIn fs gs → EndIn es gs
end_then es fs gs one two table key t e = two table key t (one table key t e)

-- ---- cells that share none

-- the piece in another version
abbrev at : ℕ → PieceRecord → PieceRecord
at version x = record x { version = version }

-- the pieces collide in one version
abbrev cross : PieceRecord → PieceRecord → Bool
cross x y = collide (at 0 x) (at 0 y)

-- two with a cell in common do
shares : (x y : PieceRecord) (c : Cell) → has_cell x.cells c ≡ true → has_cell y.cells c ≡ true → cross x y ≡ true
shares x y c one two =
    let g : Group = record { table = x.cells.table; key = x.cells.key } in
    let h : Group = record { table = y.cells.table; key = y.cells.key } in
    let k : Group = record { table = c.table; key = c.key } in
    let a = and_parts (same_group g k) (nat_le x.cells.from c.time && nat_lt c.time x.cells.till) one in
    let b = and_parts (same_group h k) (nat_le y.cells.from c.time && nat_lt c.time y.cells.till) two in
    let ta = and_parts (nat_le x.cells.from c.time) (nat_lt c.time x.cells.till) a.1 in
    let tb = and_parts (nat_le y.cells.from c.time) (nat_lt c.time y.cells.till) b.1 in
    let same : same_group g h ≡ true = ap (same_group g) (same_group-is h k b.0) ∙ a.0 in
    and_from (same_group g h) (nat_lt x.cells.from y.cells.till && nat_lt y.cells.from x.cells.till) same
    (and_from (nat_lt x.cells.from y.cells.till) (nat_lt y.cells.from x.cells.till) (between x.cells.from c.time y.cells.till ta.0 tb.1) (between y.cells.from c.time x.cells.till tb.0 ta.1))
  where
    between : (from t till : ℕ) → nat_le from t ≡ true → nat_lt t till ≡ true → nat_lt from till ≡ true
    between from t till le lt = grind (arith, nat_tests, le, lt)

-- in one version pieces collide where they cross
crossing : (version : ℕ) (x y : PieceRecord) → (x.version == version) ≡ true → (y.version == version) ≡ true → collide x y ≡ cross x y
crossing version x y here also =
    ap (λ (b : Bool). (b && ((x.cells.table == y.cells.table) && is_eq (key_order x.cells.key y.cells.key))) && (nat_lt x.cells.from y.cells.till && nat_lt y.cells.from x.cells.till))
    (eq-eqb x.version y.version (eqb-true x.version version here ∙ sym (eqb-true y.version version also)))

no_two_there : (version : ℕ) (xs : List PieceRecord) → list_all (λ (x : PieceRecord). x.version == version) xs ≡ true → differ collide xs ≡ true → no_two cross xs ≡ true
no_two_there version [] here apart = refl
no_two_there version (x ∷ xs) here apart =
    let h = and_parts (x.version == version) (list_all (λ (y : PieceRecord). y.version == version) xs) here in
    let g = and_parts (not (list_any (collide x) xs)) (differ collide xs) apart in
    and_from (not (list_any (cross x) xs)) (no_two cross xs) (ap not (none h.0 xs h.1 (not-true (list_any (collide x) xs) g.0))) (no_two_there version xs h.1 g.1)
  where
    none : (x.version == version) ≡ true → (ys : List PieceRecord) → list_all (λ (y : PieceRecord). y.version == version) ys ≡ true → list_any (collide x) ys ≡ false → list_any (cross x) ys ≡ false
    none first [] all free = refl
    none first (y ∷ ys) all free =
        let h = and_parts (y.version == version) (list_all (λ (z : PieceRecord). z.version == version) ys) all in
        let g = or_parts (collide x y) (list_any (collide x) ys) free in
        rw (sym (crossing version x y first h.0) ∙ g.0) (none first ys h.1 g.1)

-- so pieces of one version share no cell
pub apart_there : (version : ℕ) (xs : List PieceRecord) → list_all (λ (x : PieceRecord). x.version == version) xs ≡ true → differ collide xs ≡ true → AreApart (λ (x : PieceRecord). has_cell x.cells) xs
apart_there version xs here apart = AreApart-no_two (λ (x : PieceRecord). has_cell x.cells) cross xs shares (no_two_there version xs here apart)
