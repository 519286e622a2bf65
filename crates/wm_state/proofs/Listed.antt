-- A listing of the records is the listing of the state.
use Rattle.std.proofs.Common.{◌≡◌, ℕ, ◌≤◌, ◌==◌, ◌&&◌, nat_lt, nat_le, Bool, true, false, cond, if◌then◌else◌, List, [], ◌∷◌, ◌++◌, map, Option, Some, None, is_some, is_none, refl, sym, ap, ◌∙◌, arith}
use Rattle.std.proofs.lemmas.List.Elements.{filter_map-append}
use Rattle.std.proofs.lemmas.Bool.{or_parts}
use Rattle.std.proofs.lemmas.Option.{same_Some, none-some}
use Rattle.std.specs.Bool.{then_some}
use Rattle.std.specs.List.{list_any, filter_map}
use Rattle.std.specs.Option.{option_or, option_map, option_and_then}
use Rattle.std.specs.Ordering.{is_eq}
use Rattle.wm_base.specs.Key.{key_order}
use Rattle.wm_base.specs.Period.{Span, always}
use Rattle.wm_base.specs.declared.row.Row.{Row}
use Rattle.wm_base.specs.declared.value.Value.{Value}
use Rattle.wm_graph.specs.Parts.{Parts, row_of}
use Rattle.wm_period.specs.Pieces.{Held}
use Rattle.wm_spec.specs.Lists.{Cell, Entry, Told, told, stamp_at, standing_stamp}
use Rattle.wm_spec.proofs.Keys.{keys-ascend}
use Rattle.wm_spec.specs.Stretches.{Stretch, value_at, AreMaximal, is_key_in, rows, rows_of_key, keys}
use Rattle.wm_spec.specs.declared.record.piece.PieceRecord.{PieceRecord}
use Rattle.wm_spec.specs.declared.record.row.RowRecord.{RowRecord}
use Rattle.wm_spec.specs.declared.record.savepoint.Savepoint.{Savepoint as Record}
use Rattle.wm_spec.proofs.Stretches.{value-rows, AreMaximal-rows}
use Rattle.wm_tree.specs.declared.version.Version.{Version as Node}
use Rattle.wm_state.specs.State.{Durable, Workspace, Savepoint, content, kept, workspace_of, savepoint_made}
use Rattle.wm_state.specs.Standing.{held_of, stored_at, seen_at, seen, newest_first, latest, saved_as, HasRows, Newest, Kept, Stands}
use Rattle.wm_state.specs.Listing.{standing, stamp_seen, stamp_shown, listed, row_on, row_with, seen_row, row_shown, row_shown_with, is_unwritten, IsListing, IsShowing, IsShowingBy, AreRowsOf, Groups, keys_of, joined, AreAllRowsBy}
use Rattle.wm_state.proofs.Shown.{showing_listed}
use Rattle.wm_state.proofs.Listing.{one_rows, rows_by, rows_of, Covers, listed_same, first-listed, no_rows_of, first-held, behind-held}

-- ---- a key of which there is no piece

unstored : (pieces : List PieceRecord) (table : ℕ) (key : List Value) (t v : ℕ) → is_unwritten pieces table key → stored_at pieces v (record { table = table; key = key; time = t }) ≡ None
unstored [] table key t v none = refl
unstored (x ∷ xs) table key t v none =
    let h = or_parts ((x.cells.table == table) && is_eq (key_order x.cells.key key)) (list_any (λ (x : PieceRecord). (x.cells.table == table) && is_eq (key_order x.cells.key key)) xs) none in
    rw (uncovered (x.version == v) ((x.cells.table == table) && is_eq (key_order x.cells.key key)) (nat_le x.cells.from t && nat_lt t x.cells.till) h.0, unstored xs table key t v h.1) refl
  where
    uncovered : (a b c : Bool) → b ≡ false → (a && (b && c)) ≡ false
    uncovered true b c e = rw e refl
    uncovered false b c e = refl

unseen : (pieces : List PieceRecord) (c : Cell) → ((v : ℕ) → stored_at pieces v c ≡ None) → (nodes : List Node) (v : ℕ) → seen_at pieces nodes v c ≡ None
unseen pieces c none [] v = refl
unseen pieces c none (x ∷ older) v = by_number (x.number == v) (unseen pieces c none older x.parent) (unseen pieces c none older v)
  where
    by_number : (b : Bool) → seen_at pieces older x.parent c ≡ None → seen_at pieces older v c ≡ None → cond b (option_or (stored_at pieces v c) (seen_at pieces older x.parent c)) (seen_at pieces older v c) ≡ None
    by_number true up along = rw (none v, up) refl
    by_number false up along = along

-- no version holds anything of it
pub unseen_of : (p : Parts) (version table : ℕ) (key : List Value) (t : ℕ) → is_unwritten p.pieces table key → seen p version (record { table = table; key = key; time = t }) ≡ None
unseen_of p version table key t none = unseen p.pieces (record { table = table; key = key; time = t }) (λ v. unstored p.pieces table key t v none) (newest_first p.versions) version

-- ---- what a version holds is what a list of entries holds

-- the stamp of a row that stands, as pieces tell it and as a list does
pub stamp_same : (o : Option Told) → option_and_then standing (option_map held_of o) ≡ option_and_then standing_stamp o
stamp_same None = refl
stamp_same (Some t) = by_row t.row
  where
    nothing : Option ℕ
    nothing = None

    by_row : (r : Option Row) → (if is_none r then nothing else Some t.stamp) ≡ then_some (is_some r) t.stamp
    by_row None = refl
    by_row (Some row) = refl

-- a function of the cell holds in a table what a list of entries holds there
abbrev pub HoldsIn : (Cell → Option Held) → ℕ → List Entry → Type 0
HoldsIn f table es = (key : List Value) (t : ℕ) → f (record { table = table; key = key; time = t }) ≡ option_map held_of (told es (record { table = table; key = key; time = t }))

-- the row of each entry that a list holds in a table stands under its stamp
abbrev pub HasRowsIn : Parts → ℕ → List Entry → Type 0
HasRowsIn p table es =
    (key : List Value) (time : ℕ) (t : Told) (row : Row) → told es (record { table = table; key = key; time = time }) ≡ Some t → t.row ≡ Some row → option_map (λ (r : RowRecord). r.values) (row_of p.rows t.stamp) ≡ Some row.values

held_is : (f : Cell → Option Held) (table : ℕ) (es : List Entry) → HoldsIn f table es → (key : List Value) (t : ℕ) → option_and_then standing (f (record { table = table; key = key; time = t })) ≡ stamp_at es table key t
held_is f table es holds key t = ap (option_and_then standing) (holds key t) ∙ stamp_same (told es (record { table = table; key = key; time = t }))

-- a version holds at each cell what a list of entries holds there
abbrev pub HoldsAll : Parts → ℕ → List Entry → Type 0
HoldsAll p version es = (c : Cell) → seen p version c ≡ option_map held_of (told es c)

pub seen_is : (p : Parts) (version : ℕ) (es : List Entry) → HoldsAll p version es → (table : ℕ) (key : List Value) (t : ℕ) → stamp_seen p version table key t ≡ stamp_at es table key t
seen_is p version es holds table key t =
    ap (option_and_then standing) (holds (record { table = table; key = key; time = t })) ∙ stamp_same (told es (record { table = table; key = key; time = t }))

pub shown_is : (p : Parts) (s : Durable) (n : ℕ) (w : Workspace) → Stands p s → workspace_of s.spaces n ≡ Some w → (table : ℕ) (key : List Value) (t : ℕ) → stamp_shown p n table key t ≡ stamp_at (content w) table key t
shown_is p s n w st is = seen_is p (latest p n) (content w) (st.named.tells _ _ _ _ (Newest w is)).holds

-- ---- the rows themselves

-- the row of a stamp is the row that is held
row_there : (p : Parts) (es : List Entry) (table : ℕ) → HasRowsIn p table es → (place : List Value × Stretch) → stamp_at es table place.0 place.1.from ≡ Some place.1.stamp → row_with p place ≡ row_on es table place
row_there p es table has place held = by_told (told es c) refl held
  where
    c : Cell
    c = record { table = table; key = place.0; time = place.1.from }

    by_told : (o : Option Told) → told es c ≡ o → option_and_then standing_stamp o ≡ Some place.1.stamp → row_with p place ≡ option_and_then (λ (t : Told). t.row) (told es c)
    by_told None e h = absurd (none-some place.1.stamp h)
    by_told (Some t) e h = by_row t.row refl h
      where
        by_row : (r : Option Row) → t.row ≡ r → then_some (is_some r) t.stamp ≡ Some place.1.stamp → row_with p place ≡ option_and_then (λ (t : Told). t.row) (told es c)
        by_row None none g = absurd (none-some place.1.stamp g)
        by_row (Some row) some g = ap (λ k. option_map to_row (row_of p.rows k)) (sym (same_Some t.stamp place.1.stamp g)) ∙ by_record (row_of p.rows t.stamp) (has place.0 place.1.from t row e some) ∙ sym (ap (option_and_then (λ (t : Told). t.row)) e ∙ some)
          where
            to_row : RowRecord → Row
            to_row r = record { values = r.values }

            by_record : (o : Option RowRecord) → option_map (λ (r : RowRecord). r.values) o ≡ Some row.values → option_map to_row o ≡ Some row
            by_record None there = cc
            by_record (Some r) there = ap (λ v. let made : Row = record { values = v } in Some made) (same_Some r.values row.values there)

-- what two functions give of lists, where they give the same of the first
step_same : {X : Type 0} (f g : X → Option Row) (a : X) (l : List X) → f a ≡ g a → filter_map f l ≡ filter_map g l → filter_map f (a ∷ l) ≡ filter_map g (a ∷ l)
step_same f g a l e rest = by_some (g a) refl
  where
    by_some : (o : Option Row) → g a ≡ o → filter_map f (a ∷ l) ≡ filter_map g (a ∷ l)
    by_some None h = rw (e ∙ h, h) rest
    by_some (Some row) h = rw (e ∙ h, h) (ap (λ (rows : List Row). row ∷ rows) rest)

rows_there : (p : Parts) (es : List Entry) (table : ℕ) → HasRowsIn p table es → (valid : Bool) (within : Span) (key : List Value) (ss : List Stretch) (low : ℕ) → AreMaximal low ss
    → ((t : ℕ) → low ≤ t → value_at ss t ≡ stamp_at es table key t)
    → filter_map (row_shown_with p valid within) (map (λ x. (key, x)) ss) ≡ filter_map (row_shown es table valid within) (map (λ x. (key, x)) ss)
rows_there p es table has valid within key [] low max held = refl
rows_there p es table has valid within key (x ∷ xs) low max held =
    step_same (row_shown_with p valid within) (row_shown es table valid within) (key, x) (map (λ x. (key, x)) xs)
    (ap (seen_row valid within x) (row_there p es table has (key, x) (sym (held x.from max.0) ∙ first-held low x xs x.from max (omega arith) max.1)))
    (rows_there p es table has valid within key xs x.till max.3 (λ t le. sym (behind-held x xs t le) ∙ held t (omega (arith, max.0, max.1, le))))

all_there : (p : Parts) (es : List Entry) (table : ℕ) → HasRowsIn p table es → (valid : Bool) (within : Span) (ks : List (List Value))
    → filter_map (row_shown_with p valid within) (listed (rows_of_key es table) ks) ≡ filter_map (row_shown es table valid within) (listed (rows_of_key es table) ks)
all_there p es table has valid within [] = refl
all_there p es table has valid within (k ∷ ks) =
    let with_key : List (List Value × Stretch) = map (λ x. (k, x)) (rows_of_key es table k) in
    let others : List (List Value × Stretch) = listed (rows_of_key es table) ks in
    filter_map-append (row_shown_with p valid within) with_key others
    ∙ ap (λ rs. rs ++ filter_map (row_shown_with p valid within) others)
    (rows_there p es table has valid within k (rows_of_key es table k) 0 (AreMaximal-rows es table k) (λ t le. value-rows es table k t))
    ∙ ap (λ rs. filter_map (row_shown es table valid within) with_key ++ rs) (all_there p es table has valid within ks)
    ∙ sym (filter_map-append (row_shown es table valid within) with_key others)

-- ---- the listing

covered : (f : List Value → List Stretch) (xs ys : List (List Value)) → ((k : List Value) → is_key_in k ys ≡ false → f k ≡ []) → Covers f xs ys
covered f [] ys none = tt
covered f (x ∷ xs) ys none = (none x, covered f xs ys none)

-- where a function of the cell holds what a list of entries holds, and the rows stand, what is shown is what the list has
pub showing_by : (p : Parts) (f : Cell → Option Held) (es : List Entry) (table : ℕ) (valid : Bool) (within : Span) (out : List Row) → HoldsIn f table es → HasRowsIn p table es → IsShowingBy p f table valid within out
    → out ≡ filter_map (row_shown es table valid within) (rows es table)
showing_by p f es table valid within out holds has l =
    l.are
    ∙ ap (filter_map (row_shown_with p valid within))
    (joined_is l.groups l.held
    ∙ listed_same (rows_of_key es table) (keys_of l.groups) (keys es table) l.ascend (keys-ascend es table)
    (covered (rows_of_key es table) (keys_of l.groups) (keys es table) (no_rows_of es table))
    (covered (rows_of_key es table) (keys es table) (keys_of l.groups) (λ k out. no_rows k (l.whole k out))))
    ∙ all_there p es table has valid within (keys es table)
    ∙ ap (filter_map (row_shown es table valid within)) (sym (first-listed es table (keys es table)))
  where
    -- a key of which nothing is held has no rows
    no_rows : (k : List Value) → ((t : ℕ) → f (record { table = table; key = k; time = t }) ≡ None) → rows_of_key es table k ≡ []
    no_rows k none = one_rows (rows_of_key es table k) [] 0 (AreMaximal-rows es table k) tt
        (λ t le. value-rows es table k t ∙ sym (held_is f table es holds k t) ∙ ap (option_and_then standing) (none t))

    joined_is : (gs : Groups) → AreAllRowsBy f table gs → joined gs ≡ listed (rows_of_key es table) (keys_of gs)
    joined_is [] held = refl
    joined_is (g ∷ gs) held =
        ap (λ ss. map (λ s. (g.0, s)) ss ++ joined gs) (rows_by f table g.0 es g.1 (held_is f table es holds g.0) held.0)
        ∙ ap (λ rest. map (λ s. (g.0, s)) (rows_of_key es table g.0) ++ rest) (joined_is gs held.1)

-- so for a version
pub showing_of : (p : Parts) (version : ℕ) (es : List Entry) (table : ℕ) (valid : Bool) (within : Span) (out : List Row) → HoldsAll p version es → HasRows p es → IsShowing p version table valid within out
    → out ≡ filter_map (row_shown es table valid within) (rows es table)
showing_of p version es table valid within out holds has l =
    showing_by p (seen p version) es table valid within out (λ key t. holds (record { table = table; key = key; time = t })) (λ key time. has (record { table = table; key = key; time = time }))
    (record { groups = l.groups; ascend = l.ascend; whole = λ k none t. unseen_of p version table k t (l.whole k none); held = l.held; are = l.are })

-- what the newest version of a workspace shows is what its content has
pub showing_is : (p : Parts) (s : Durable) (n : ℕ) (w : Workspace) (table : ℕ) (valid : Bool) (within : Span) (out : List Row) → Stands p s → workspace_of s.spaces n ≡ Some w
    → IsShowing p (latest p n) table valid within out → out ≡ filter_map (row_shown (content w) table valid within) (rows (content w) table)
showing_is p s n w table valid within out st is = let y = st.named.tells _ _ _ _ (Newest w is) in showing_of p (latest p n) (content w) table valid within out y.holds y.rows

-- what the version of a savepoint shows is what stood there
pub showing_saved : (p : Parts) (s : Durable) (n making : ℕ) (w : Workspace) (k : Savepoint) (x : Record) (table : ℕ) (valid : Bool) (within : Span) (out : List Row) → Stands p s → workspace_of s.spaces n ≡ Some w
    → savepoint_made making w.savepoints ≡ Some k → saved_as p n making ≡ Some x → IsShowing p x.version table valid within out → out ≡ filter_map (row_shown (kept k) table valid within) (rows (kept k) table)
showing_saved p s n making w k x table valid within out st is made saved =
    let y = st.named.tells _ _ _ _ (Kept making w k x is made saved) in showing_of p x.version (kept k) table valid within out y.holds y.rows

-- ---- the same of all rows, without their periods

pub listing_of : (p : Parts) (version : ℕ) (es : List Entry) (table : ℕ) (out : List Row) → HoldsAll p version es → HasRows p es → IsListing p version table out → out ≡ filter_map (row_on es table) (rows es table)
listing_of p version es table out holds has l = showing_of p version es table false always out holds has (showing_listed p version table always out l)

pub listing_is : (p : Parts) (s : Durable) (n : ℕ) (w : Workspace) (table : ℕ) (out : List Row) → Stands p s → workspace_of s.spaces n ≡ Some w → IsListing p (latest p n) table out
    → out ≡ filter_map (row_on (content w) table) (rows (content w) table)
listing_is p s n w table out st is = let y = st.named.tells _ _ _ _ (Newest w is) in listing_of p (latest p n) (content w) table out y.holds y.rows

-- ---- one key

-- the stretches of a key are those that the list has
pub key_rows : (p : Parts) (version : ℕ) (es : List Entry) (table : ℕ) (key : List Value) (ss : List Stretch) → HoldsAll p version es → AreRowsOf p version table key ss → rows_of_key es table key ≡ ss
key_rows p version es table key ss holds are = sym (rows_of p version table key es ss (seen_is p version es holds table key) are)

-- and what is shown on them is what the list has of the key
pub key_showing_of : (p : Parts) (version : ℕ) (es : List Entry) (table : ℕ) (valid : Bool) (within : Span) (key : List Value) (ss : List Stretch) → HoldsAll p version es → HasRows p es → AreRowsOf p version table key ss
    → filter_map (row_shown_with p valid within) (map (λ s. (key, s)) ss) ≡ filter_map (row_shown es table valid within) (map (λ s. (key, s)) (rows_of_key es table key))
key_showing_of p version es table valid within key ss holds has are =
    rows_there p es table (λ k time. has (record { table = table; key = k; time = time })) valid within key ss 0 are.maximal (λ t le. are.held t ∙ seen_is p version es holds table key t)
    ∙ ap (λ xs. filter_map (row_shown es table valid within) (map (λ s. (key, s)) xs)) (sym (key_rows p version es table key ss holds are))
