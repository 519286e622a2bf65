-- The rows of a table, gathered key by key.
use Rattle.std.proofs.Common.{◌≡◌, ℕ, ◌<◌, ◌≤◌, ◌==◌, ◌&&◌, ◌||◌, nat_lt, Bool, true, false, cond, All, List, [], ◌∷◌, ◌++◌, map, Option, Some, None, refl, sym, ap, ◌∙◌, subst, append_assoc, arith}
use Rattle.std.proofs.lemmas.List.{append-nil}
use Rattle.std.proofs.lemmas.List.Elements.{All-head, All-tail, filter_map-append}
use Rattle.std.specs.BTreeMap.{is_at}
use Rattle.std.specs.List.{list_any, filter_map, AllByRecursion}
use Rattle.std.specs.List.Sorted.{IsStrictlySortedBy}
use Rattle.std.specs.Map.{lookup, keys_of as entry_keys}
use Rattle.std.specs.Option.{option_and_then}
use Rattle.std.specs.Ordering.{is_eq, ordering_reverse}
use Rattle.std.specs.declared.cmp.Ordering.{Ordering}
use Rattle.std.specs.declared.cmp.Ordering.TheVariants.{Less, Equal, Greater}
use Rattle.std.specs.declared.alloc.Global.{Global}
use Rattle.std.specs.declared.vec.Vec.{Vec}
use Rattle.wm_base.specs.Key.{key_order}
use Rattle.wm_base.specs.Orders.{key_order_total}
use Rattle.wm_base.specs.Period.{Span}
use Rattle.wm_base.specs.declared.instant.TheConstants.{END}
use Rattle.wm_base.specs.declared.row.Row.{Row}
use Rattle.wm_base.specs.declared.value.Value.{Value}
use Rattle.wm_graph.specs.Parts.{Parts, parts_of, as_piece}
use Rattle.wm_graph.specs.Rules.{keep_rules}
use Rattle.wm_period.specs.Pieces.{Between, Held, held_at}
use Rattle.wm_period.specs.declared.piece.Piece.{Piece}
use Rattle.wm_period.proofs.Order.{held_at-past}
use Rattle.wm_spec.specs.Lists.{Cell}
use Rattle.wm_spec.specs.Stretches.{Stretch, ComesBefore, KeysAscend, is_key_in}
use Rattle.wm_spec.specs.declared.record.Record.{Record}
use Rattle.wm_spec.specs.declared.record.Record.TheVariants as records
use Rattle.wm_spec.specs.declared.record.piece.PieceRecord.{PieceRecord}
use Rattle.wm_spec.specs.declared.record.stored.Stored.{Stored}
use Rattle.wm_state.specs.Listing.{standing, AreRowsBy, AreRowsOf, row_shown_with, Groups, keys_of, joined, AreAllRowsBy, IsShowing, IsShowingBy}
use Rattle.wm_state.specs.Standing.{seen}
use Rattle.wm_version_rows.proofs.Late.{late_seen}
use Rattle.wm_version_rows.proofs.Spans.{maximal, value}
use Rattle.wm_version_rows.proofs.Spanning.{stretches_are, shown_keyed}
use Rattle.wm_version_rows.specs.Listing.{AddsRows, AddsRowsBy, IsKeyShowing, shown_on}
use Rattle.wm_image.specs.Shown.{AreKeysOf, HoldKey}
use Rattle.wm_version_rows.specs.Standing.{stretches_on}
use Rattle.wm_ids.specs.Versioned.{AreNested, AreSpanned, versions_found, versions_in}
use Rattle.wm_ids.specs.declared.versioned.Versioned.{Versioned}
use Rattle.wm_index.specs.Sought.{is_piece_of}

-- ---- the rows of a key

below : (t end : ℕ) → nat_lt t end ≡ true → t < end
below t end e = grind (arith, e)

above : (t end : ℕ) → nat_lt t end ≡ false → end ≤ t
above t end e = grind (arith, e)

-- where pieces hold at each moment what a function of the cell holds of a key, their stretches are those of its rows
pub are_rows_by : (f : Cell → Option Held) (table : ℕ) (key : List Value) (ps : List Piece) → Between 0 ps END → ((t : ℕ) → END ≤ t → f (record { table = table; key = key; time = t }) ≡ None)
    → ((t : ℕ) → t < END → held_at ps t ≡ f (record { table = table; key = key; time = t })) → AreRowsBy f table key (stretches_on ps)
are_rows_by f table key ps order late same =
    subst (AreRowsBy f table key) (sym (stretches_are ps))
    (record { maximal = maximal 0 ps END order; held = λ t. value 0 ps END order t ∙ ap (option_and_then standing) (by_time t (nat_lt t END) refl) })
  where
    by_time : (t : ℕ) (b : Bool) → nat_lt t END ≡ b → held_at ps t ≡ f (record { table = table; key = key; time = t })
    by_time t true e = same t (below t END e)
    by_time t false e = held_at-past 0 ps END t order (above t END e) ∙ sym (late t (above t END e))

-- so for what a version holds
pub are_rows : (p : Parts) (version table : ℕ) (key : List Value) (ps : List Piece) → keep_rules p ≡ true → Between 0 ps END
    → ((t : ℕ) → t < END → held_at ps t ≡ seen p version (record { table = table; key = key; time = t })) → AreRowsOf p version table key (stretches_on ps)
are_rows p version table key ps rules order same = are_rows_by (seen p version) table key ps order (λ t late. late_seen p version (record { table = table; key = key; time = t }) rules late) same

pub adds_rows_by : (p : Parts) (f : Cell → Option Held) (table : ℕ) (valid : Bool) (within : Span) (key : List Value) (ps : List Piece) (old new : List Row) → AreRowsBy f table key (stretches_on ps)
    → new ≡ old ++ shown_on p valid within (stretches_on ps) → AddsRowsBy p f table valid within key old new
adds_rows_by p f table valid within key ps old new are added = record {
  stretches = stretches_on ps;
  are = are;
  added = added ∙ ap (λ rows. old ++ rows) (shown_keyed p valid within key (stretches_on ps));
}

pub adds_rows : (p : Parts) (version table : ℕ) (valid : Bool) (within : Span) (key : List Value) (ps : List Piece) (old new : List Row) → keep_rules p ≡ true → Between 0 ps END
    → ((t : ℕ) → t < END → held_at ps t ≡ seen p version (record { table = table; key = key; time = t })) → new ≡ old ++ shown_on p valid within (stretches_on ps) → AddsRows p version table valid within key old new
adds_rows p version table valid within key ps old new rules order same added = adds_rows_by p (seen p version) table valid within key ps old new (are_rows p version table key ps rules order same) added

-- what was put behind nothing is all of them
pub lists_key : (p : Parts) (version table : ℕ) (valid : Bool) (within : Span) (key : List Value) (old new : List Row) → old ≡ [] → AddsRows p version table valid within key old new
    → IsKeyShowing p version table valid within key new
lists_key p version table valid within key old new none more = record {
  stretches = more.stretches;
  are = more.are;
  shown = more.added ∙ ap (λ rows. rows ++ filter_map (row_shown_with p valid within) (map (λ s. (key, s)) more.stretches)) none;
}

-- ---- key by key

-- what is shown of the rows of keys was gathered, of those that a function of the cell holds
pub record Gathered (p : Parts) (f : Cell → Option Held) (table : ℕ) (valid : Bool) (within : Span) (keys : List (List Value)) (rows : List Row) : Type 0 where
  pub groups : Groups
  pub keyed : keys_of groups ≡ keys
  pub held : AreAllRowsBy f table groups
  pub are : rows ≡ filter_map (row_shown_with p valid within) (joined groups)

gathered_none : (p : Parts) (f : Cell → Option Held) (table : ℕ) (valid : Bool) (within : Span) (rows : List Row) → rows ≡ [] → Gathered p f table valid within [] rows
gathered_none p f table valid within rows none = record { groups = []; keyed = refl; held = tt; are = none }

keys_of-push : (gs : Groups) (key : List Value) (ss : List Stretch) → keys_of (gs ++ (key, ss) ∷ []) ≡ keys_of gs ++ key ∷ []
keys_of-push [] key ss = refl
keys_of-push (g ∷ gs) key ss = ap (λ ks. g.0 ∷ ks) (keys_of-push gs key ss)

held-push : (f : Cell → Option Held) (table : ℕ) (gs : Groups) (key : List Value) (ss : List Stretch) → AreAllRowsBy f table gs → AreRowsBy f table key ss → AreAllRowsBy f table (gs ++ (key, ss) ∷ [])
held-push f table [] key ss held are = (are, tt)
held-push f table (g ∷ gs) key ss held are = (held.0, held-push f table gs key ss held.1 are)

joined-push : (gs : Groups) (key : List Value) (ss : List Stretch) → joined (gs ++ (key, ss) ∷ []) ≡ joined gs ++ map (λ s. (key, s)) ss
joined-push [] key ss = append-nil (map (λ s. (key, s)) ss)
joined-push (g ∷ gs) key ss = ap (λ l. map (λ s. (g.0, s)) g.1 ++ l) (joined-push gs key ss) ∙ sym (append_assoc (map (λ s. (g.0, s)) g.1) (joined gs) (map (λ s. (key, s)) ss))

gathered_more : (p : Parts) (f : Cell → Option Held) (table : ℕ) (valid : Bool) (within : Span) (keys : List (List Value)) (key : List Value) (old new : List Row) → Gathered p f table valid within keys old
    → AddsRowsBy p f table valid within key old new → Gathered p f table valid within (keys ++ key ∷ []) new
gathered_more p f table valid within keys key old new so more = record {
  groups = so.groups ++ (key, more.stretches) ∷ [];
  keyed = keys_of-push so.groups key more.stretches ∙ ap (λ ks. ks ++ key ∷ []) so.keyed;
  held = held-push f table so.groups key more.stretches so.held more.are;
  are =
      more.added
      ∙ ap (λ rows. rows ++ filter_map (row_shown_with p valid within) (map (λ s. (key, s)) more.stretches)) so.are
      ∙ sym (filter_map-append (row_shown_with p valid within) (joined so.groups) (map (λ s. (key, s)) more.stretches))
      ∙ ap (filter_map (row_shown_with p valid within)) (sym (joined-push so.groups key more.stretches));
}

-- ---- entry by entry

-- values by key
abbrev pub Entries : Type 0 → Type 0
Entries V = List (List Value × V)

-- the rows of the keys before the rest were gathered
pub record GatheredTo {V : Type 0} (p : Parts) (f : Cell → Option Held) (table : ℕ) (valid : Bool) (within : Span) (all rest : Entries V) (rows : List Row) : Type 0 where
  pub passed : List (List Value)
  pub parted : passed ++ entry_keys rest ≡ entry_keys all
  pub found : All (λ e. lookup (is_at (key_order e.0)) all ≡ Some e.1) rest
  pub so : Gathered p f table valid within passed rows

pub gathered_first : {V : Type 0} (p : Parts) (f : Cell → Option Held) (table : ℕ) (valid : Bool) (within : Span) (all rest : Entries V) (rows : List Row) → rest ≡ all
    → All (λ e. lookup (is_at (key_order e.0)) all ≡ Some e.1) all → rows ≡ [] → GatheredTo p f table valid within all rest rows
gathered_first p f table valid within all rest rows whole found none = record {
  passed = [];
  parted = ap entry_keys whole;
  found = subst (All (λ e. lookup (is_at (key_order e.0)) all ≡ Some e.1)) (sym whole) found;
  so = gathered_none p f table valid within rows none;
}

-- the value of the next key
pub next_found : {V : Type 0} (p : Parts) (f : Cell → Option Held) (table : ℕ) (valid : Bool) (within : Span) (all left rest : Entries V) (e : List Value × V) (rows : List Row) → left ≡ e ∷ rest
    → GatheredTo p f table valid within all left rows → lookup (is_at (key_order e.0)) all ≡ Some e.1
next_found p f table valid within all left rest e rows is so =
    All-head (λ e. lookup (is_at (key_order e.0)) all ≡ Some e.1) e rest (subst (All (λ e. lookup (is_at (key_order e.0)) all ≡ Some e.1)) is so.found)

pub gathered_on : {V : Type 0} (p : Parts) (f : Cell → Option Held) (table : ℕ) (valid : Bool) (within : Span) (all left rest : Entries V) (e : List Value × V) (old new : List Row) → left ≡ e ∷ rest
    → GatheredTo p f table valid within all left old → AddsRowsBy p f table valid within e.0 old new → GatheredTo p f table valid within all rest new
gathered_on p f table valid within all left rest e old new is so more = record {
  passed = so.passed ++ e.0 ∷ [];
  parted = append_assoc so.passed (e.0 ∷ []) (entry_keys rest) ∙ ap (λ l. so.passed ++ entry_keys l) (sym is) ∙ so.parted;
  found = All-tail (λ e. lookup (is_at (key_order e.0)) all ≡ Some e.1) e rest (subst (All (λ e. lookup (is_at (key_order e.0)) all ≡ Some e.1)) is so.found);
  so = gathered_more p f table valid within so.passed e.0 old new so.so more;
}

-- all keys are those of the entries
gathered_keys : {V : Type 0} (p : Parts) (f : Cell → Option Held) (table : ℕ) (valid : Bool) (within : Span) (all : Entries V) (rows : List Row) (so : GatheredTo p f table valid within all [] rows) → keys_of so.so.groups ≡ entry_keys all
gathered_keys p f table valid within all rows so = so.so.keyed ∙ sym (append-nil so.passed) ∙ so.parted

-- ---- of a version

-- what versions have by key
abbrev pub KeyVersions : Type 0
KeyVersions = Entries (Vec Versioned Global)

-- the versions of the next key
next_versions : (p : Parts) (version table : ℕ) (valid : Bool) (within : Span) (all left rest : KeyVersions) (e : List Value × Vec Versioned Global) (rows : List Row) → left ≡ e ∷ rest
    → GatheredTo p (seen p version) table valid within all left rows → versions_in all e.0 ≡ e.1.items
next_versions p version table valid within all left rest e rows is so = ap versions_found (next_found p (seen p version) table valid within all left rest e rows is so)

-- they are nested, and their pieces lie in their periods
pub next_nested : (ss : List Stored) (version table : ℕ) (valid : Bool) (within : Span) (all left rest : KeyVersions) (e : List Value × Vec Versioned Global) (es : List Versioned) (rows : List Row) → left ≡ e ∷ rest
    → GatheredTo (parts_of ss) (seen (parts_of ss) version) table valid within all left rows → AreKeysOf ss table all → es ≡ e.1.items → AreNested es × AreSpanned ss es
next_nested ss version table valid within all left rest e es rows is so keys same =
    let held : versions_in all e.0 ≡ es = next_versions (parts_of ss) version table valid within all left rest e rows is so ∙ sym same in
    (subst AreNested held (keys.nested e.0), subst (AreSpanned ss) held (keys.spanned e.0))

pub gathered_next : (ss : List Stored) (version table : ℕ) (valid : Bool) (within : Span) (all left rest : KeyVersions) (e : List Value × Vec Versioned Global) (old new : List Row) → left ≡ e ∷ rest
    → GatheredTo (parts_of ss) (seen (parts_of ss) version) table valid within all left old → AreKeysOf ss table all
    → ((key : List Value) → HoldKey ss table key e.1.items → AddsRows (parts_of ss) version table valid within key old new)
    → GatheredTo (parts_of ss) (seen (parts_of ss) version) table valid within all rest new
gathered_next ss version table valid within all left rest e old new is so keys more =
    gathered_on (parts_of ss) (seen (parts_of ss) version) table valid within all left rest e old new is so
    (more e.0 (subst (HoldKey ss table e.0) (next_versions (parts_of ss) version table valid within all left rest e old is so) (keys.held e.0)))

-- ---- all keys

pub ascend : (keys : List (List Value)) → IsStrictlySortedBy key_order keys → KeysAscend keys
unfolding IsStrictlySortedBy
ascend [] sorted = tt
ascend (k ∷ ks) sorted = (before ks sorted.0, ascend ks sorted.1)
  where
    before : (ks : List (List Value)) → AllByRecursion (λ q. key_order k q ≡ Less) ks → ComesBefore k ks
    before [] all = tt
    before (q ∷ qs) all = (all.0, before qs all.1)

pub sought_pieces : (table : ℕ) (k : List Value) (rs : List Record) → list_any (λ (x : PieceRecord). (x.cells.table == table) && is_eq (key_order x.cells.key k)) (filter_map as_piece rs) ≡ list_any (is_piece_of table k) rs
sought_pieces table k [] = refl
sought_pieces table k (records.Piece x ∷ rs) = ap (λ b. ((x.cells.table == table) && is_eq (key_order x.cells.key k)) || b) (sought_pieces table k rs)
sought_pieces table k (_ ∷ rs) = sought_pieces table k rs

-- a key that is not among those of entries is not found
pub unfound : {V : Type 0} (k : List Value) (all : Entries V) → is_key_in k (entry_keys all) ≡ false → lookup (is_at (key_order k)) all ≡ None
unfound k [] out = refl
unfound k (e ∷ es) out =
    let parts = neither (is_eq (key_order e.0 k)) (is_key_in k (entry_keys es)) out in
    ap (λ b. cond b (Some e.1) (lookup (is_at (key_order k)) es)) (tie (key_order e.0 k) (key_order k e.0) (key_order_total.antisymm k e.0) parts.0) ∙ unfound k es parts.1
  where
    neither : (a b : Bool) → (a || b) ≡ false → (a ≡ false) × (b ≡ false)
    neither false b h = (refl, h)
    neither true b h = absurd (cc)

    tie : (o q : Ordering) → q ≡ ordering_reverse o → is_eq o ≡ false → is_eq q ≡ false
    tie Less q is out = ap is_eq is
    tie Equal q is out = absurd (cc)
    tie Greater q is out = ap is_eq is

-- nor has it versions
pub unheld : (k : List Value) (all : KeyVersions) → is_key_in k (entry_keys all) ≡ false → versions_in all k ≡ []
unheld k all out = ap versions_found (unfound k all out)

-- what was gathered of all keys is what shows
pub is_showing_by : {V : Type 0} (p : Parts) (f : Cell → Option Held) (table : ℕ) (valid : Bool) (within : Span) (all : Entries V) (rows : List Row) → IsStrictlySortedBy key_order (entry_keys all)
    → ((k : List Value) → lookup (is_at (key_order k)) all ≡ None → (t : ℕ) → f (record { table = table; key = k; time = t }) ≡ None)
    → GatheredTo p f table valid within all [] rows → IsShowingBy p f table valid within rows
is_showing_by p f table valid within all rows sorted none so =
    let keyed : keys_of so.so.groups ≡ entry_keys all = gathered_keys p f table valid within all rows so in
    record {
      groups = so.so.groups;
      ascend = subst KeysAscend (sym keyed) (ascend (entry_keys all) sorted);
      whole = λ k out. none k (unfound k all (ap (is_key_in k) (sym keyed) ∙ out));
      held = so.so.held;
      are = so.so.are;
    }

pub is_showing : (ss : List Stored) (version table : ℕ) (valid : Bool) (within : Span) (all : KeyVersions) (rows : List Row) → AreKeysOf ss table all → IsStrictlySortedBy key_order (entry_keys all)
    → GatheredTo (parts_of ss) (seen (parts_of ss) version) table valid within all [] rows → IsShowing (parts_of ss) version table valid within rows
unfolding parts_of
is_showing ss version table valid within all rows keys sorted so =
    let keyed : keys_of so.so.groups ≡ entry_keys all = gathered_keys (parts_of ss) (seen (parts_of ss) version) table valid within all rows so in
    record {
      groups = so.so.groups;
      ascend = subst KeysAscend (sym keyed) (ascend (entry_keys all) sorted);
      whole = λ k out.
          sought_pieces table k (map (λ (s : Stored). s.record) ss) ∙ keys.whole k (ap versions_found (unfound k all (ap (is_key_in k) (sym keyed) ∙ out)));
      held = so.so.held;
      are = so.so.are;
    }
