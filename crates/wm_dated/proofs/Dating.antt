-- What a workspace held at a date, by the records of its log.
use Rattle.std.proofs.Common.{◌≡◌, ◌≢◌, ℕ, ◌+◌, ◌<◌, ◌==◌, ◌&&◌, nat_le, Bool, true, false, cond, List, [], ◌∷◌, map, length, slice_get, Option, Some, None, refl, sym, ap, subst, ◌∙◌, ◌⊎◌, inl, inr, arith}
use Rattle.std.proofs.lemmas.Bool.{and_parts, cases_eq, eqb-true}
use Rattle.std.proofs.lemmas.List.Elements.{All-filter, All-head, All-tail}
use Rattle.std.proofs.lemmas.Option.{none-some, same_Some}
use Rattle.std.specs.Bool.{then_some}
use Rattle.std.specs.List.{All, filter, filter_map}
use Rattle.std.specs.Option.{option_map, option_or}
use Rattle.std.specs.Ordering.{is_eq}
use Rattle.wm_base.proofs.Plain.{nonzero}
use Rattle.wm_base.specs.Key.{key_order}
use Rattle.wm_base.specs.Period.{Span}
use Rattle.wm_base.specs.declared.row.Row.{Row}
use Rattle.wm_base.specs.declared.stamp.Stamp.{Stamp}
use Rattle.wm_graph.specs.Parts.{Parts, row_of, space_of, table_of}
use Rattle.wm_period.specs.Pieces.{Held}
use Rattle.wm_spec.proofs.Lists.{told-append}
use Rattle.wm_spec.specs.Lists.{Cell, Entry, Told, covers, has_time, is_of, told, told_of}
use Rattle.wm_spec.specs.Stretches.{rows}
use Rattle.wm_spec.specs.declared.record.hist.Hist.{Hist}
use Rattle.wm_spec.specs.declared.record.row.RowRecord.{RowRecord}
use Rattle.wm_spec.specs.declared.record.space.Space.{Space}
use Rattle.wm_spec.specs.declared.record.table.Table.{Table}
use Rattle.wm_state.specs.Listing.{row_shown}
use Rattle.wm_state.specs.Reading.{is_early, stood_on}
use Rattle.wm_state.specs.Standing.{Birth, HasRow, HasRows, Logged, Stands, has_history, held_of, in_cells, logged, logged_as, seen}
use Rattle.wm_state.specs.State.{Durable, Turn, Workspace, turn_of, workspace_of}
use Rattle.wm_state.proofs.Climbing.{above_zero}
use Rattle.wm_state.proofs.Listed.{HasRowsIn, HoldsIn, showing_by}
use Rattle.wm_state.proofs.Logging.{log_of-found}
use Rattle.wm_state.proofs.Spaces.{SpaceIs, space_is}
use Rattle.wm_view_rows.proofs.History.{history_kept, logged_same}
use Rattle.wm_dated.specs.Dated.{IsDatedShowing, born_with, dated, dated_in}

-- ---- entries of one table

-- a cell is not one of an entry on another table
elsewhere : (e : Entry) (c : Cell) → (e.table == c.table) ≡ false → covers e c ≡ false
elsewhere e c away = rw away refl

none_more : {A : Type 0} (o : Option A) → option_or o None ≡ o
none_more None = refl
none_more (Some t) = refl

-- an entry more, where those of moment at most a date are told
told_early : (date : ℕ) (e : Entry) (es : List Entry) (c : Cell) → told (filter (is_early date) (e ∷ es)) c ≡ option_or (told (filter (is_early date) es) c) (then_some (nat_le e.moment date && covers e c) (told_of e))
told_early date e es c = by_test (nat_le e.moment date)
  where
    by_test : (b : Bool) → told (cond b (e ∷ filter (is_early date) es) (filter (is_early date) es)) c ≡ option_or (told (filter (is_early date) es) c) (then_some (b && covers e c) (told_of e))
    by_test true = refl
    by_test false = sym (none_more (told (filter (is_early date) es) c))

-- those on the table of a cell tell of it what all do
told_on : (table date : ℕ) (c : Cell) → table ≡ c.table → (es : List Entry) → told (filter (is_early date) (filter (λ (e : Entry). e.table == table) es)) c ≡ told (filter (is_early date) es) c
told_on table date c same [] = refl
told_on table date c same (e ∷ es) = by_test (e.table == table) refl (told_on table date c same es)
  where
    on : List Entry
    on = filter (λ (d : Entry). d.table == table) es

    nothing : (b : Bool) → then_some (b && false) (told_of e) ≡ None
    nothing true = refl
    nothing false = refl

    by_test : (b : Bool) → (e.table == table) ≡ b → told (filter (is_early date) on) c ≡ told (filter (is_early date) es) c → told (filter (is_early date) (cond b (e ∷ on) on)) c ≡ told (filter (is_early date) (e ∷ es)) c
    by_test true is rest = told_early date e on c ∙ ap (λ o. option_or o (then_some (nat_le e.moment date && covers e c) (told_of e))) rest ∙ sym (told_early date e es c)
    by_test false away rest =
        rest
        ∙ sym (none_more (told (filter (is_early date) es) c))
        ∙ sym (ap (option_or (told (filter (is_early date) es) c)) (ap (λ b. then_some (nat_le e.moment date && b) (told_of e)) (elsewhere e c (ap (λ k. e.table == k) (sym same) ∙ away)) ∙ nothing (nat_le e.moment date)))
        ∙ sym (told_early date e es c)

-- ---- by records

-- what the record of a log's entry says of a cell, by what it has in common with the entry
abbrev by_logged : ℕ → Cell → Logged → Option Held
by_logged date c x = then_some (nat_le x.moment date && in_cells x.cells c) (record { stamp = let s : Stamp = record { number = x.stamp } in s; kind = x.kind; gone = x.gone })

held_then : (b : Bool) (t : Told) → option_map held_of (then_some b t) ≡ then_some b (held_of t)
held_then true t = refl
held_then false t = refl

held_or : (a b : Option Told) → option_map held_of (option_or a b) ≡ option_or (option_map held_of a) (option_map held_of b)
held_or None b = refl
held_or (Some t) b = refl

first_same : (x y : Logged) (xs ys : List Logged) → x ∷ xs ≡ y ∷ ys → (x ≡ y) × (xs ≡ ys)
first_same x y xs ys e = (ap (head_or x) e, ap rest_of e)
  where
    head_or : Logged → List Logged → Logged
    head_or d [] = d
    head_or d (z ∷ zs) = z

    rest_of : List Logged → List Logged
    rest_of [] = []
    rest_of (z ∷ zs) = zs

-- records that say what entries do say the same of a cell at a date
pub dated_told : (date : ℕ) (c : Cell) (xs : List Hist) (es : List Entry) → map logged xs ≡ map logged_as es → dated_in xs date c ≡ option_map held_of (told (filter (is_early date) es) c)
dated_told date c [] [] same = refl
dated_told date c [] (e ∷ es) same = cc
dated_told date c (x ∷ xs) [] same = cc
dated_told date c (x ∷ xs) (e ∷ es) same =
    let h = first_same (logged x) (logged_as e) (map logged xs) (map logged_as es) same in
    ap (λ o. option_or o (by_logged date c (logged x))) (dated_told date c xs es h.1)
    ∙ ap (λ l. option_or (option_map held_of (told (filter (is_early date) es) c)) (by_logged date c l)) h.0
    ∙ ap (option_or (option_map held_of (told (filter (is_early date) es) c))) (sym (held_then (nat_le e.moment date && covers e c) (told_of e)))
    ∙ sym (held_or (told (filter (is_early date) es) c) (then_some (nat_le e.moment date && covers e c) (told_of e)))
    ∙ ap (option_map held_of) (sym (told_early date e es c))

-- ---- a workspace at a date

-- what a workspace held at a date at a cell of a table with history is what it was born with under the records of its log on the table
pub dated_is : (p : Parts) (date : ℕ) (a : Space) (w : Workspace) (xs : List Hist) (c : Cell) → map logged xs ≡ map logged_as (filter (λ (e : Entry). e.table == c.table) w.lists.log)
    → born_with p a c ≡ option_map held_of (told w.lists.at_birth c) → dated p a xs date c ≡ option_map held_of (told (stood_on date w) c)
dated_is p date a w xs c same born =
    ap (λ o. option_or o (born_with p a c)) (dated_told date c xs (filter (λ (e : Entry). e.table == c.table) w.lists.log) same ∙ ap (option_map held_of) (told_on c.table date c refl w.lists.log))
    ∙ ap (option_or (option_map held_of (told (filter (is_early date) w.lists.log) c))) born
    ∙ sym (held_or (told (filter (is_early date) w.lists.log) c) (told w.lists.at_birth c))
    ∙ ap (option_map held_of) (sym (told-append w.lists.at_birth (filter (is_early date) w.lists.log) c))

-- LIVE was born with nothing
pub born_live : (p : Parts) (a : Space) (w : Workspace) (c : Cell) → a.number ≡ 0 → w.lists.at_birth ≡ [] → born_with p a c ≡ option_map held_of (told w.lists.at_birth c)
born_live p a w c number live = rw (number, live) refl

-- each other workspace with what the version of its birth holds
pub born_is : (p : Parts) (s : Durable) (n : ℕ) (a : Space) (w : Workspace) (t : Turn) (c : Cell) → Stands p s → 0 < n → workspace_of s.spaces n ≡ Some w → space_of p.spaces n ≡ Some a → a.number ≡ n → turn_of w 0 ≡ Some t
    → t.content ≡ w.lists.at_birth → born_with p a c ≡ option_map held_of (told w.lists.at_birth c)
born_is p s n a w t c st some found there number turn birth =
    ap (λ b. cond b None (seen p a.birth_version c)) (ap (λ k. k == 0) number ∙ nonzero n some)
    ∙ (st.named.tells a.birth_version w.parent t.rebases t.content (Birth w a t some found there turn)).holds c
    ∙ ap (λ (es : List Entry). option_map held_of (told es c)) birth

-- ---- the rows

-- the row of an entry of a table with history stands under its stamp
abbrev Keeps : Parts → List Table → Entry → Type 0
Keeps p tables e = has_history tables e.table ≡ true → HasRow p e

-- so does the row of what such entries tell at a cell of such a table
rows_told : (p : Parts) (tables : List Table) (c : Cell) → has_history tables c.table ≡ true → (es : List Entry) → All (Keeps p tables) es → (t : Told) (row : Row) → told es c ≡ Some t → t.row ≡ Some row
    → option_map (λ (r : RowRecord). r.values) (row_of p.rows t.stamp) ≡ Some row.values
rows_told p tables c history [] all t row found is = cc
rows_told p tables c history (e ∷ es) all t row found is = by_told (told es c) refl (rows_told p tables c history es (All-tail (Keeps p tables) e es all) t row) (covers e c) refl found
  where
    by_told : (o : Option Told) → told es c ≡ o → (told es c ≡ Some t → t.row ≡ Some row → option_map (λ (r : RowRecord). r.values) (row_of p.rows t.stamp) ≡ Some row.values) → (b : Bool) → covers e c ≡ b
        → option_or o (then_some b (told_of e)) ≡ Some t → option_map (λ (r : RowRecord). r.values) (row_of p.rows t.stamp) ≡ Some row.values
    by_told (Some x) at rest b covered h = rest (at ∙ h) is
    by_told None at rest true covered h =
        let same : told_of e ≡ t = same_Some (told_of e) t h in
        let table : e.table ≡ c.table = eqb-true e.table c.table (and_parts (e.table == c.table) (is_eq (key_order e.key c.key)) (and_parts (is_of c.table c.key e) (has_time c.time e) covered).0).0 in
        ap (λ (x : Told). option_map (λ (r : RowRecord). r.values) (row_of p.rows x.stamp)) (sym same) ∙ All-head (Keeps p tables) e es all (ap (has_history tables) table ∙ history) row (ap (λ (x : Told). x.row) same ∙ is)
    by_told None at rest false covered h = cc

-- ---- what is shown

-- a workspace with a turn has a first one
first_turn : (w : Workspace) → length w.turns ≡ w.rebases + 1 → (x : Turn) × (turn_of w 0 ≡ Some x)
first_turn w counted = by_turns w.turns refl counted
  where
    by_turns : (xs : List Turn) → w.turns ≡ xs → length xs ≡ w.rebases + 1 → (x : Turn) × (turn_of w 0 ≡ Some x)
    by_turns [] is none = absurd (omega (arith, none))
    by_turns (x ∷ xs) is some = (x, ap (λ (ys : List Turn). slice_get ys 0) is)

-- what is shown on a date by the records of a table with history is what the list of that date has
pub dated_showing_is : (p : Parts) (d : Durable) (n date : ℕ) (w : Workspace) (a : Space) (t : Table) (within : Span) (out : List Row) → Stands p d → workspace_of d.spaces n ≡ Some w → space_of p.spaces n ≡ Some a → table_of p.tables t.number ≡ Some t
    → t.history ≡ true → (w.number ≡ 0 → w.lists.at_birth ≡ []) → ((x : Turn) → turn_of w 0 ≡ Some x → x.content ≡ w.lists.at_birth) → IsDatedShowing p a date t within out
    → out ≡ filter_map (row_shown (stood_on date w) t.number t.valid within) (rows (stood_on date w) t.number)
dated_showing_is p d n date w a t within out st found recorded there history live birth showing =
    showing_by p (dated p a showing.logged date) (stood_on date w) t.number t.valid within out holds has showing.shown
  where
    space : SpaceIs p d n a
    space = space_is p d n a st recorded

    number : w.number ≡ n
    number = ap (λ (v : Workspace). v.number) (same_Some w space.workspace (sym found ∙ space.is.found)) ∙ space.is.number

    turn : n ≢ 0 → (x : Turn) × (turn_of w 0 ≡ Some x)
    turn other = first_turn w (st.turns.counted n w (above_zero n other) found)

    born : (c : Cell) → born_with p a c ≡ option_map held_of (told w.lists.at_birth c)
    born c = by_number (cases_eq n 0)
      where
        by_number : (n ≡ 0) ⊎ (n ≢ 0) → born_with p a c ≡ option_map held_of (told w.lists.at_birth c)
        by_number (inl zero) = born_live p a w c (space.is.record_number ∙ zero) (live (number ∙ zero))
        by_number (inr other) = let x = turn other in born_is p d n a w x.0 c st (above_zero n other) found recorded space.is.record_number x.1 (birth x.0 x.1)

    holds : HoldsIn (dated p a showing.logged date) t.number (stood_on date w)
    holds key time = dated_is p date a w showing.logged c (logged_same p d n w a t showing.logged st found recorded there history showing.are_logged) (born c)
      where
        c : Cell
        c = record { table = t.number; key = key; time = time }

    logs : All (Keeps p d.tables) w.lists.log
    logs = subst (λ (es : List Entry). All (Keeps p d.tables) es) (log_of-found d.spaces n w found) (st.rows.logs n)

    has : HasRowsIn p t.number (stood_on date w)
    has key time v row at is = by_early (told early c) refl (sym (told-append w.lists.at_birth early c) ∙ at)
      where
        c : Cell
        c = record { table = t.number; key = key; time = time }

        early : List Entry
        early = filter (is_early date) w.lists.log

        by_number : told w.lists.at_birth c ≡ Some v → (n ≡ 0) ⊎ (n ≢ 0) → option_map (λ (r : RowRecord). r.values) (row_of p.rows v.stamp) ≡ Some row.values
        by_number then (inl zero) = absurd (none-some v (sym (ap (λ (es : List Entry). told es c) (live (number ∙ zero))) ∙ then))
        by_number then (inr other) = let x = turn other in subst (λ (es : List Entry). HasRows p es) (birth x.0 x.1) (st.rows.turns n 0 w x.0 found x.1) c v row then is

        by_early : (o : Option Told) → told early c ≡ o → option_or o (told w.lists.at_birth c) ≡ Some v → option_map (λ (r : RowRecord). r.values) (row_of p.rows v.stamp) ≡ Some row.values
        by_early (Some x) some h = rows_told p d.tables c (history_kept p d t st there history) early (All-filter (is_early date) (Keeps p d.tables) w.lists.log logs) v row (some ∙ h) is
        by_early None none h = by_number h (cases_eq n 0)
