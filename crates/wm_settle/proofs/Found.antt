-- The marks that are found for a new one are all that may share a cell with it, so what they leave of it is what it says newly.
use Rattle.std.proofs.Common.{◌≡◌, ℕ, ◌==◌, ◌&&◌, ◌||◌, nat_le, nat_lt, Bool, true, false, cond, List, [], ◌∷◌, map, Option, None, Some, refl, sym, ap, ◌∙◌}
use Rattle.std.proofs.lemmas.Bool.{eq-eqb, eqb-true, and_parts}
use Rattle.std.specs.List.{filter, filter_map, flat_map, list_all}
use Rattle.std.specs.Ordering.{is_eq}
use Rattle.wm_base.specs.Key.{key_order}
use Rattle.wm_base.specs.declared.value.Value.{Value}
use Rattle.wm_graph.specs.Parts.{Parts, as_mark, parts_of, space_of, table_of}
use Rattle.wm_graph.specs.Rules.{collide, differ, is_trace, keep_rules, meet}
use Rattle.wm_spec.specs.Lists.{Cell}
use Rattle.wm_spec.specs.declared.record.Record.{Record}
use Rattle.wm_spec.specs.declared.record.Record.TheVariants as records
use Rattle.wm_spec.specs.declared.record.piece.PieceRecord.{PieceRecord}
use Rattle.wm_spec.specs.declared.record.stored.Stored.{Stored}
use Rattle.wm_state.specs.ById.{Ascend}
use Rattle.wm_state.specs.Drafts.{cells_in, mark_piece}
use Rattle.wm_state.specs.Standing.{covers_at, in_cells}
use Rattle.wm_state.specs.Touching.{drawn_all, drawn_as}
use Rattle.wm_state.specs.declared.edit.NewMark.{NewMark}
use Rattle.wm_state.proofs.Apart.{ruled}
use Rattle.wm_state.proofs.Laying.{key_same}
use Rattle.wm_written.proofs.Touching.{view-apart}
use Rattle.wm_settled.specs.Settling.{AreNewest, greater}
use Rattle.wm_settled.proofs.Cutting.{IsLeft, is_covered, left_so, newest_all}
use Rattle.wm_index.proofs.Finding.{all_of}
use Rattle.wm_index.specs.Kinds.{kind_at}
use Rattle.wm_index.specs.Sought.{MarksAt, ids_with, is_sought}
use Rattle.wm_image.proofs.Lists.{taken-with}
use Rattle.wm_append.proofs.DraftLaws.{layer_placed}
use Rattle.wm_append.specs.Layers.{mark_in}
use Rattle.wm_append.specs.Views.{View, drawn_in}
use Rattle.wm_append.specs.declared.redraw.layer.Layer.TheVariants as layers
use Rattle.wm_settle.specs.Leaving.{left_of}

-- ---- the marks of a workspace

pub marks_seen : (n : ℕ) (ss : List Stored) → drawn_in (mark_in n) ss ≡ drawn_all n (parts_of ss).marks
unfolding parts_of
marks_seen n ss = by_records (all_of ss)
  where
    by_records : (rs : List Record) → filter_map (mark_in n) rs ≡ filter_map (drawn_as n) (filter_map as_mark rs)
    by_records [] = refl
    by_records (records.Mark x ∷ rs) = rw (by_records rs) refl
    by_records (_ ∷ rs) = by_records rs

-- by the rules no two of them collide
pub marks_apart : (n : ℕ) (ss : List Stored) → keep_rules (parts_of ss) ≡ true → differ collide (drawn_in (mark_in n) ss) ≡ true
marks_apart n ss rules =
    let p : Parts = parts_of ss in
    ap (λ (xs : List PieceRecord). differ collide xs) (marks_seen n ss)
    ∙ view-apart n p.marks (and_parts (differ meet p.marks) (list_all (is_trace (table_of p.tables) (space_of p.spaces)) p.marks) (ruled p rules).marks).0

-- ---- those of a table and a key

-- the piece is of the table and the key
abbrev pub at_key : ℕ → List Value → PieceRecord → Bool
at_key table key x = (x.cells.table == table) && is_eq (key_order x.cells.key key)

-- where a test of records says of each that is drawn what one of pieces says, it passes those that this one does
drawn-filter : (view : View) (p : PieceRecord → Bool) (q : Record → Bool) → ((r : Record) (x : PieceRecord) → view r ≡ Some x → q r ≡ p x) → (rs : List Record) → filter_map view (filter q rs) ≡ filter p (filter_map view rs)
drawn-filter view p q same [] = refl
drawn-filter view p q same (r ∷ rs) = by_view (view r) refl (q r) refl (drawn-filter view p q same rs)
  where
    by_view : (o : Option PieceRecord) → view r ≡ o → (b : Bool) → q r ≡ b → filter_map view (filter q rs) ≡ filter p (filter_map view rs) → filter_map view (filter q (r ∷ rs)) ≡ filter p (filter_map view (r ∷ rs))
    by_view None none true test rest = rw (test, none) rest
    by_view None none false test rest = rw (test, none) rest
    by_view (Some x) some true test rest = rw (test, some, sym (same r x some) ∙ test) (ap (λ xs. x ∷ xs) rest)
    by_view (Some x) some false test rest = rw (test, some, sym (same r x some) ∙ test) rest

once : (a b v : Bool) → v ≡ true → (a && v) ≡ (v && b) → a ≡ b
once true b true is e = e
once false b true is e = e
once a b false is e = absurd (cc)

found_marks : (ss : List Stored) → Ascend ss → (n table : ℕ) (key : List Value) → kind_at (mark_in n) ss (ids_with (is_sought (MarksAt table key)) ss) ≡ filter (at_key table key) (drawn_all n (parts_of ss).marks)
found_marks ss sorted n table key =
    ap (filter_map (mark_in n)) (taken-with (is_sought (MarksAt table key)) ss sorted)
    ∙ drawn-filter (mark_in n) (at_key table key) (is_sought (MarksAt table key))
    (λ r x some. once (is_sought (MarksAt table key) r) (at_key table key x) (x.version == x.version) (eq-eqb x.version x.version refl) (layer_placed (layers.Marks n) x.version table key r x some)) (all_of ss)
    ∙ ap (filter (at_key table key)) (marks_seen n ss)

-- those of the table and the key of a new mark are all that cover one of its cells
all_there : (m : NewMark) (xs : List PieceRecord) (w : ℕ) (c : Cell) → in_cells (cells_in m) c ≡ true → is_covered (greater m.position (filter (at_key m.table m.key) xs)) w c ≡ is_covered (greater m.position xs) w c
all_there m [] w c is = refl
all_there m (x ∷ xs) w c is = by_key (at_key m.table m.key x) refl (all_there m xs w c is)
  where
    found : List PieceRecord
    found = filter (at_key m.table m.key) xs

    -- the cell is of the table and the key
    there : (m.table ≡ c.table) × (m.key ≡ c.key)
    there =
        let h = and_parts ((m.table == c.table) && is_eq (key_order m.key c.key)) (nat_le m.period.from c.time && nat_lt c.time m.period.till) is in
        let g = and_parts (m.table == c.table) (is_eq (key_order m.key c.key)) h.0 in
        (eqb-true m.table c.table g.0, key_same m.key c.key g.1)

    away : at_key m.table m.key x ≡ false → covers_at x w c ≡ false
    away e = none (x.version == w) ((x.cells.table == c.table) && is_eq (key_order x.cells.key c.key)) (nat_le x.cells.from c.time && nat_lt c.time x.cells.till)
        (ap (λ t. (x.cells.table == t) && is_eq (key_order x.cells.key c.key)) (sym there.0) ∙ ap (λ (k : List Value). (x.cells.table == m.table) && is_eq (key_order x.cells.key k)) (sym there.1) ∙ e)
      where
        none : (a b t : Bool) → b ≡ false → (a && (b && t)) ≡ false
        none true b t e = rw e refl
        none false b t e = refl

    by_stamp : is_covered (greater m.position found) w c ≡ is_covered (greater m.position xs) w c → (t : Bool) → is_covered (cond t (x ∷ greater m.position found) (greater m.position found)) w c ≡ is_covered (cond t (x ∷ greater m.position xs) (greater m.position xs)) w c
    by_stamp rest true = ap (λ b. covers_at x w c || b) rest
    by_stamp rest false = rest

    by_other : is_covered (greater m.position found) w c ≡ is_covered (greater m.position xs) w c → covers_at x w c ≡ false → (t : Bool) → is_covered (greater m.position found) w c ≡ is_covered (cond t (x ∷ greater m.position xs) (greater m.position xs)) w c
    by_other rest none true = rest ∙ sym (ap (λ b. b || is_covered (greater m.position xs) w c) none)
    by_other rest none false = rest

    by_key : (b : Bool) → at_key m.table m.key x ≡ b → is_covered (greater m.position found) w c ≡ is_covered (greater m.position xs) w c → is_covered (greater m.position (cond b (x ∷ found) found)) w c ≡ is_covered (greater m.position (x ∷ xs)) w c
    by_key true at rest = by_stamp rest (nat_lt m.position x.stamp)
    by_key false other rest = by_other rest (away other) (nat_lt m.position x.stamp)

-- ---- what is left of new marks

pub is_left : (ss : List Stored) → Ascend ss → (n place : ℕ) (m : NewMark) → IsLeft n place (parts_of ss).marks m (left_of ss n place m)
is_left ss sorted n place m =
    left_so n place (parts_of ss).marks m (kind_at (mark_in n) ss (ids_with (is_sought (MarksAt m.table m.key)) ss))
    (λ w c is. ap (λ xs. is_covered (greater m.position xs) w c) (found_marks ss sorted n m.table m.key) ∙ all_there m (drawn_all n (parts_of ss).marks) w c is)

pub newest_left : (ss : List Stored) → Ascend ss → (n place : ℕ) (ms : List NewMark) → differ collide (map (mark_piece 0) ms) ≡ true → AreNewest n place ms (parts_of ss).marks (flat_map (left_of ss n place) ms)
newest_left ss sorted n place ms apart = newest_all n place (parts_of ss).marks (left_of ss n place) (is_left ss sorted n place) ms apart
