-- Entries that list what pieces say were made before: their stamps were given, they fit their tables, and their rows are there.
use Rattle.std.proofs.Common.{◌≡◌, ℕ, zero, suc, ◌-◌, ◌<◌, ◌≤◌, ◌==◌, ◌&&◌, ◌||◌, nat_le, nat_lt, Bool, true, false, if◌then◌else◌, List, [], ◌∷◌, map, slice_get, Option, Some, None, is_some, refl, sym, ap, ◌∙◌, arith, subst}
use Rattle.std.proofs.lemmas.Bool.{eqb-true, and_from, and_parts, true≢false}
use Rattle.std.proofs.lemmas.Bool.Decides.{nat_tests}
use Rattle.std.proofs.lemmas.List.Elements.{All-append, All-cons, All-from_recursion, All-head, All-map, All-nil, All-tail, All-weaker}
use Rattle.std.proofs.lemmas.Option.{same_Some}
use Rattle.std.specs.List.{All, AllByRecursion, list_all}
use Rattle.std.specs.Option.{option_and_then, option_map, option_map_or}
use Rattle.std.specs.Ordering.{is_eq}
use Rattle.wm_base.proofs.Plain.{none_some}
use Rattle.wm_base.specs.Key.{key_order}
use Rattle.wm_base.specs.declared.instant.TheConstants.{END}
use Rattle.wm_base.specs.declared.row.Row.{Row}
use Rattle.wm_base.specs.declared.value.Value.{Value}
use Rattle.wm_graph.specs.Parts.{Parts, row_of, table_of, version_of}
use Rattle.wm_graph.specs.Rules.{are_cells, are_pieces, are_rows, collide, differ, is_key, is_key_of, is_piece, is_row, is_row_at, is_row_of, is_short, keep_rules, key_of}
use Rattle.wm_net.specs.Groups.{Group, cell}
use Rattle.wm_net.specs.Listed.{AreBlocks, Block, Ordered, Stretch, blocks_listed}
use Rattle.wm_net.proofs.Stretching.{Holds}
use Rattle.wm_net.proofs.Unique.{here, past}
use Rattle.wm_period.specs.Pieces.{Held}
use Rattle.wm_spec.specs.Lists.{Cell, Entry}
use Rattle.wm_spec.specs.declared.record.counters.Counters.{Counters}
use Rattle.wm_spec.specs.declared.record.piece.PieceRecord.{PieceRecord}
use Rattle.wm_spec.specs.declared.record.row.RowRecord.{RowRecord}
use Rattle.wm_spec.specs.declared.record.table.Table.{Table}
use Rattle.wm_state.specs.Drafts.{AreOld, IsCopied}
use Rattle.wm_state.specs.Editing.{row_value}
use Rattle.wm_state.specs.Entries.{fits_table, is_keyed, is_well}
use Rattle.wm_state.specs.Standing.{IsReal, held_by, is_ready}
use Rattle.wm_state.proofs.Apart.{found-passes, ruled}
use Rattle.wm_state.proofs.Laying.{key_same}
use Rattle.wm_telling.specs.Telling.{IsHeldListing, replayed_by, same_held, told_by}
use Rattle.wm_telling.proofs.Storing.{IsStored, Stores}

-- ---- lists

all_at : {A : Type 0} (P : A → Bool) (xs : List A) (n : ℕ) (x : A) → list_all P xs ≡ true → slice_get xs n ≡ Some x → P x ≡ true
all_at P [] n x all e = absurd (cc)
all_at P (y ∷ ys) zero x all e = ap P (sym (same_Some y x e)) ∙ (and_parts (P y) (list_all P ys) all).0
all_at P (y ∷ ys) (suc n) x all e = all_at P ys n x (and_parts (P y) (list_all P ys) all).1 e

all_true : {A : Type 0} (P : A → Bool) (xs : List A) → All (λ x. P x ≡ true) xs → list_all P xs ≡ true
all_true P [] all = refl
all_true P (x ∷ xs) all = and_from (P x) (list_all P xs) (All-head (λ y. P y ≡ true) x xs all) (all_true P xs (All-tail (λ y. P y ≡ true) x xs all))

-- ---- what the rules say of a piece

module _ (p : Parts) (next : ℕ) where
  abbrev is_sound : PieceRecord → Bool
  is_sound x = is_piece (table_of p.tables) (version_of p.versions) (row_of p.rows) next x

  -- the row of a piece that is not gone is one of its table, under its key
  record HasRow (x : PieceRecord) (t : Table) : Type 0 where
    row : RowRecord
    found : row_of p.rows x.stamp ≡ Some row
    table : row.table ≡ x.cells.table
    stamp : row.stamp ≡ x.stamp
    keyed : is_keyed t x.cells.key (row_value row.values) ≡ true

  -- its table is there, its key is one of it, and its stamp was given
  record Sound (x : PieceRecord) : Type 0 where
    table : Table
    there : table_of p.tables x.cells.table ≡ Some table
    key : is_key_of x.cells.key table ≡ true
    till : nat_le x.cells.till END ≡ true
    stamp : nat_lt x.stamp next ≡ true
    row : x.gone ≡ false → HasRow x table

  row_there : (x : PieceRecord) (t : Table) → are_rows p next ≡ true → table_of p.tables x.cells.table ≡ Some t → option_map_or (is_row_at (table_of p.tables) x.cells) (row_of p.rows x.stamp) false ≡ true
      → HasRow x t
  row_there x t rows there at = by_row (row_of p.rows x.stamp) refl at
    where
      by_row : (o : Option RowRecord) → row_of p.rows x.stamp ≡ o → option_map_or (is_row_at (table_of p.tables) x.cells) o false ≡ true → HasRow x t
      by_row None e h = absurd (true≢false (sym h))
      by_row (Some r) e h =
          let d = and_parts (r.table == x.cells.table) (is_key x.cells.key (option_and_then (λ (u : Table). key_of u r.values) (table_of p.tables x.cells.table))) h in
          let same : r.table ≡ x.cells.table = eqb-true r.table x.cells.table d.0 in
          let passed = found-passes (λ (q : RowRecord). q.stamp == x.stamp) (is_row (table_of p.tables) next) p.rows r e (and_parts (differ (λ (q s : RowRecord). q.stamp == s.stamp) p.rows) (list_all (is_row (table_of p.tables) next) p.rows) rows).1 in
          record {
            row = r;
            found = e;
            table = same;
            stamp = eqb-true r.stamp x.stamp passed.0;
            keyed = and_from (is_row_of r.values t) (is_key x.cells.key (key_of t r.values))
                (sym (ap (λ (o : Option Table). option_map_or (is_row_of r.values) o false) (ap (table_of p.tables) same ∙ there)) ∙ (and_parts (nat_lt r.stamp next) (option_map_or (is_row_of r.values) (table_of p.tables r.table) false) passed.1).1)
                (sym (ap (λ (o : Option Table). is_key x.cells.key (option_and_then (λ (u : Table). key_of u r.values) o)) there) ∙ d.1);
          }

  sound_of : (x : PieceRecord) → are_rows p next ≡ true → is_sound x ≡ true → Sound x
  sound_of x rows e = by_table (table_of p.tables x.cells.table) refl cells.1
    where
      parts : (are_cells (table_of p.tables) x.cells ≡ true) × ((nat_lt x.stamp next && (x.gone || option_map_or (is_row_at (table_of p.tables) x.cells) (row_of p.rows x.stamp) false)) ≡ true)
      parts = and_parts (are_cells (table_of p.tables) x.cells) _ (and_parts (is_some (version_of p.versions x.version)) _ e).1

      cells : ((nat_lt x.cells.from x.cells.till && nat_le x.cells.till END) ≡ true) × (option_map_or (is_key_of x.cells.key) (table_of p.tables x.cells.table) false ≡ true)
      cells = and_parts (nat_lt x.cells.from x.cells.till && nat_le x.cells.till END) (option_map_or (is_key_of x.cells.key) (table_of p.tables x.cells.table) false) parts.0

      stamped : (nat_lt x.stamp next ≡ true) × ((x.gone || option_map_or (is_row_at (table_of p.tables) x.cells) (row_of p.rows x.stamp) false) ≡ true)
      stamped = and_parts (nat_lt x.stamp next) (x.gone || option_map_or (is_row_at (table_of p.tables) x.cells) (row_of p.rows x.stamp) false) parts.1

      by_table : (o : Option Table) → table_of p.tables x.cells.table ≡ o → option_map_or (is_key_of x.cells.key) o false ≡ true → Sound x
      by_table None there h = absurd (true≢false (sym h))
      by_table (Some t) there h = record {
        table = t;
        there = there;
        key = h;
        till = (and_parts (nat_lt x.cells.from x.cells.till) (nat_le x.cells.till END) cells.0).1;
        stamp = stamped.0;
        row = λ kept. row_there x t rows there (sym (ap (λ g. g || option_map_or (is_row_at (table_of p.tables) x.cells) (row_of p.rows x.stamp) false) kept) ∙ stamped.1);
      }

  -- ---- an entry of what a piece says

  -- the entry is of the cells of a piece and says what it does
  record Says (x : PieceRecord) (e : Entry) : Type 0 where
    table : e.table ≡ x.cells.table
    key : e.key ≡ x.cells.key
    stamp : e.stamp ≡ x.stamp
    row : e.row ≡ (told_by p (held_by x)).row

  -- the row that it has, where the piece is not gone, and where it is
  row_kept : (x : PieceRecord) (t : Table) (e : Entry) → Says x e → x.gone ≡ false → (h : HasRow x t) → e.row ≡ Some (row_value h.row.values)
  row_kept x t e says kept h =
      says.row
      ∙ ap (λ (g : Bool). if g then None else option_map (λ (r : RowRecord). row_value r.values) (row_of p.rows x.stamp)) kept
      ∙ ap (option_map (λ (r : RowRecord). row_value r.values)) h.found

  row_gone : (x : PieceRecord) (e : Entry) → Says x e → x.gone ≡ true → e.row ≡ None
  row_gone x e says gone = says.row ∙ ap (λ (g : Bool). if g then None else option_map (λ (r : RowRecord). row_value r.values) (row_of p.rows x.stamp)) gone

  says_well : (x : PieceRecord) (e : Entry) → Sound x → Says x e → is_well (table_of p.tables) e ≡ true
  says_well x e sound says =
      ap (λ (n : ℕ). option_map_or (fits_table e.key e.row) (table_of p.tables n) false) says.table
      ∙ ap (λ (o : Option Table). option_map_or (fits_table e.key e.row) o false) sound.there
      ∙ ap (λ (k : List Value). fits_table k e.row sound.table) says.key
      ∙ and_from (is_key_of x.cells.key sound.table) (option_map_or (is_keyed sound.table x.cells.key) e.row true) sound.key (by_gone x.gone refl)
    where
      by_gone : (g : Bool) → x.gone ≡ g → option_map_or (is_keyed sound.table x.cells.key) e.row true ≡ true
      by_gone true is = ap (λ (o : Option Row). option_map_or (is_keyed sound.table x.cells.key) o true) (row_gone x e says is)
      by_gone false is =
          let h = sound.row is in
          ap (λ (o : Option Row). option_map_or (is_keyed sound.table x.cells.key) o true) (row_kept x sound.table e says is h) ∙ h.keyed

  row_same : (q r : RowRecord) → q.stamp ≡ r.stamp → q.table ≡ r.table → q.values ≡ r.values → q ≡ r
  row_same q r stamp table values = λ i. record { stamp = stamp i; table = table i; values = values i }

  says_copied : (x : PieceRecord) (e : Entry) → Sound x → Says x e → IsCopied p e
  says_copied x e sound says row has = by_gone x.gone refl
    where
      by_gone : (g : Bool) → x.gone ≡ g → row_of p.rows e.stamp ≡ Some (record { stamp = e.stamp; table = e.table; values = row.values })
      by_gone true is = absurd (none_some e.row row (row_gone x e says is) has)
      by_gone false is =
          let h = sound.row is in
          let same : row_value h.row.values ≡ row = same_Some (row_value h.row.values) row (sym (row_kept x sound.table e says is h) ∙ has) in
          ap (row_of p.rows) says.stamp ∙ h.found
          ∙ ap (λ (r : RowRecord). Some r)
          (row_same h.row (record { stamp = e.stamp; table = e.table; values = row.values }) (h.stamp ∙ sym says.stamp) (h.table ∙ sym says.table) (ap (λ (r : Row). r.values) same))

-- ---- stretches that a function holds

-- each of some stretches is over what the function gives
each_stretch : {A : Type 0} (f : ℕ → Option A) (Q : Stretch A → Type 0) → ((s : Stretch A) → s.from < s.till → ((t : ℕ) → s.from ≤ t → t < s.till → f t ≡ Some s.value) → Q s)
    → (low : ℕ) (ss : List (Stretch A)) → Ordered low ss → Holds low ss f → AllByRecursion Q ss
each_stretch f Q make low [] o h = tt
each_stretch f Q make low (s ∷ ss) o h = (
  make s o.1 (λ t le lt. sym (h t (omega (arith, o.0, le))) ∙ here s ss t o.2 le lt),
  each_stretch f Q make s.till ss o.2 (λ t le. sym (past s ss t le) ∙ h t (omega (arith, o.0, o.1, le))),
)

blocks_each : {A B : Type 0} (same : A → A → Bool) (entry : Group → Stretch A → B) (f : Cell → Option A) (P : B → Type 0)
    → ((g : Group) (s : Stretch A) → s.from < s.till → ((t : ℕ) → s.from ≤ t → t < s.till → f (cell g t) ≡ Some s.value) → P (entry g s))
    → (bs : List (Block A)) → AreBlocks same f bs → All P (blocks_listed entry bs)
blocks_each same entry f P make [] each = All-nil P
blocks_each same entry f P make (b ∷ bs) each =
    All-append P (map (entry b.group) b.stretches) (blocks_listed entry bs)
    (All-map P (entry b.group) b.stretches
    (All-from_recursion (λ s. P (entry b.group s)) b.stretches
    (each_stretch (λ t. f (cell b.group t)) (λ s. P (entry b.group s)) (make b.group) 0 b.stretches each.0.ordered (λ t le. each.0.holds t))))
    (blocks_each same entry f P make bs each.1)

-- ---- the entries of a listing

-- an entry that was made before
record IsMade (p : Parts) (next : ℕ) (user : List ℕ) (e : Entry) : Type 0 where
  stamp : nat_lt e.stamp next ≡ true
  some : e.from < e.till
  till : e.till ≤ END
  well : is_well (table_of p.tables) e ≡ true
  copied : IsCopied p e
  by_user : e.user ≡ user

module _ (p : Parts) (k : Counters) (moment : ℕ) (user : List ℕ) (f : Cell → Option Held) (es : List Entry)
    (rules : keep_rules p ≡ true) (one : p.counters ≡ k ∷ []) (stores : Stores p f) (listing : IsHeldListing p moment user f es) where
  counters_same : (c : Counters) → p.counters ≡ c ∷ [] → c ≡ k
  counters_same c is = first c k (sym is ∙ one)
    where
      first : (c d : Counters) → c ∷ [] ≡ d ∷ [] → c ≡ d
      first c d e = cc

  piece_sound : (place : ℕ) (x : PieceRecord) → slice_get p.pieces place ≡ Some x → Sound p k.next_stamp x
  piece_sound place x there =
      let r = ruled p rules in
      let same = counters_same r.counters r.one in
      let rows : are_rows p k.next_stamp ≡ true = ap (λ (c : Counters). are_rows p c.next_stamp) (sym same) ∙ r.rows in
      let pieces : are_pieces p k.next_stamp ≡ true = ap (λ (c : Counters). are_pieces p c.next_stamp) (sym same) ∙ r.pieces in
      sound_of p k.next_stamp x rows (all_at (is_sound p k.next_stamp) p.pieces place x (and_parts (differ collide p.pieces) (list_all (is_sound p k.next_stamp) p.pieces) pieces).1 there)

  -- an entry of a stretch that the function gives
  made : (g : Group) (s : Stretch Held) → s.from < s.till → ((t : ℕ) → s.from ≤ t → t < s.till → f (cell g t) ≡ Some s.value) → IsMade p k.next_stamp user (replayed_by p moment user g s)
  made g s real over = record {
    stamp = ap (λ (h : Held). nat_lt h.stamp.number k.next_stamp) (sym stored.says) ∙ sound.stamp;
    some = real;
    till = ended s.from s.till stored.piece.cells.till END real (and_parts (nat_le stored.piece.cells.from last) (nat_lt last stored.piece.cells.till) place.1).1 sound.till;
    well = says_well p k.next_stamp stored.piece (replayed_by p moment user g s) sound says;
    copied = says_copied p k.next_stamp stored.piece (replayed_by p moment user g s) sound says;
    by_user = refl;
  }
    where
      last : ℕ
      last = s.till - 1

      last_in : (from till : ℕ) → from < till → (from ≤ till - 1) × (till - 1 < till)
      last_in from till lt = (omega (arith, lt), omega (arith, lt))

      ended : (from till till_of end : ℕ) → from < till → nat_lt (till - 1) till_of ≡ true → nat_le till_of end ≡ true → till ≤ end
      ended from till till_of end lt a b = grind (arith, nat_tests, lt, a, b)

      stored : IsStored p.pieces (cell g (s.till - 1)) s.value
      stored = let h = last_in s.from s.till real in stores (cell g (s.till - 1)) s.value (over (s.till - 1) h.0 h.1)

      sound : Sound p k.next_stamp stored.piece
      sound = piece_sound stored.place stored.piece stored.there

      place : (((stored.piece.cells.table == g.table) && is_eq (key_order stored.piece.cells.key g.key)) ≡ true) × ((nat_le stored.piece.cells.from (s.till - 1) && nat_lt (s.till - 1) stored.piece.cells.till) ≡ true)
      place = and_parts ((stored.piece.cells.table == g.table) && is_eq (key_order stored.piece.cells.key g.key)) (nat_le stored.piece.cells.from (s.till - 1) && nat_lt (s.till - 1) stored.piece.cells.till) stored.covers

      says : Says p k.next_stamp stored.piece (replayed_by p moment user g s)
      says =
          let at = and_parts (stored.piece.cells.table == g.table) (is_eq (key_order stored.piece.cells.key g.key)) place.0 in
          record {
            table = sym (eqb-true stored.piece.cells.table g.table at.0);
            key = sym (key_same stored.piece.cells.key g.key at.1);
            stamp = ap (λ (h : Held). h.stamp.number) (sym stored.says);
            row = ap (λ (h : Held). (told_by p h).row) (sym stored.says);
          }

  all_made : All (IsMade p k.next_stamp user) es
  all_made =
      subst (All (IsMade p k.next_stamp user)) (sym listing.is)
      (blocks_each same_held (replayed_by p moment user) f (IsMade p k.next_stamp user) made listing.blocks listing.each)

  real_of : (xs : List Entry) → All (IsMade p k.next_stamp user) xs → list_all (λ (e : Entry). is_ready p.tables e.table) xs ≡ true → All (IsReal p.tables) xs
  real_of [] all ready = All-nil (IsReal p.tables)
  real_of (e ∷ xs) all ready =
      let h = and_parts (is_ready p.tables e.table) (list_all (λ (x : Entry). is_ready p.tables x.table) xs) ready in
      let m = All-head (IsMade p k.next_stamp user) e xs all in
      All-cons (IsReal p.tables) e xs (record { some = m.some; till = m.till; on = h.0 }) (real_of xs (All-tail (IsMade p k.next_stamp user) e xs all) h.1)

  -- they were made before, where they are of tables that are ready for rows
  pub listed_old : is_short user ≡ true → list_all (λ (e : Entry). is_ready p.tables e.table) es ≡ true → AreOld p k es
  listed_old short ready = record {
    stamps = all_true (λ (e : Entry). nat_lt e.stamp k.next_stamp) es (All-weaker (IsMade p k.next_stamp user) (λ (e : Entry). nat_lt e.stamp k.next_stamp ≡ true) (λ e m. m.stamp) es all_made);
    real = real_of es all_made ready;
    well = all_true (is_well (table_of p.tables)) es (All-weaker (IsMade p k.next_stamp user) (λ (e : Entry). is_well (table_of p.tables) e ≡ true) (λ e m. m.well) es all_made);
    users = all_true (λ (e : Entry). is_short e.user) es (All-weaker (IsMade p k.next_stamp user) (λ (e : Entry). is_short e.user ≡ true) (λ e m. ap is_short m.by_user ∙ short) es all_made);
  }

  -- and their rows are there
  pub listed_copied : All (IsCopied p) es
  listed_copied = All-weaker (IsMade p k.next_stamp user) (IsCopied p) (λ e m. m.copied) es all_made
