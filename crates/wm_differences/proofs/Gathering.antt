-- The rows of a table, gathered key by key.
use Rattle.std.proofs.Common.{◌≡◌, ℕ, ◌==◌, Bool, true, false, cond, All, List, [], ◌∷◌, ◌++◌, map, Option, None, Some, refl, sym, ap, ◌∙◌, subst, append_assoc, eq-eqb, eqb-true, arith}
use Rattle.std.proofs.lemmas.Grind.{flat_map-append}
use Rattle.std.proofs.lemmas.List.{append-nil, map-append}
use Rattle.std.proofs.lemmas.List.Elements.{All-head, All-tail}
use Rattle.std.specs.BTreeMap.{is_at}
use Rattle.std.specs.Bool.{then_some}
use Rattle.std.specs.List.{flat_map}
use Rattle.std.specs.List.Sorted.{IsStrictlySortedBy}
use Rattle.std.specs.Map.{lookup, keys_of as entry_keys}
use Rattle.std.specs.Option.{option_and_then}
use Rattle.std.specs.declared.alloc.Global.{Global}
use Rattle.std.specs.declared.vec.Vec.{Vec}
use Rattle.wm_base.specs.Key.{key_order}
use Rattle.wm_base.specs.declared.row.Row.{Row}
use Rattle.wm_base.specs.declared.value.Value.{Value}
use Rattle.wm_graph.specs.Parts.{Parts, parts_of}
use Rattle.wm_ids.specs.Versioned.{AreNested, AreSpanned, versions_found, versions_in}
use Rattle.wm_ids.specs.declared.versioned.Versioned.{Versioned}
use Rattle.wm_image.specs.Shown.{AreKeysOf, HoldKey}
use Rattle.wm_net.proofs.Owing.{in_table as keyed, lists_all, lists_more, lists_none, tables_ascend}
use Rattle.wm_net.specs.Conflicts.{Stamps, grouped, in_table, same_stamps}
use Rattle.wm_net.specs.Groups.{Group, GroupsAscend, cell, has_group}
use Rattle.wm_net.specs.Listed.{ListsGroups, Stretch}
use Rattle.wm_pending.proofs.Walking.{stamps_made}
use Rattle.wm_spec.specs.Stretches.{KeysAscend, is_key_in}
use Rattle.wm_spec.specs.declared.record.stored.Stored.{Stored}
use Rattle.wm_spec.specs.declared.record.table.Table.{Table}
use Rattle.wm_state.proofs.Listed.{unseen_of}
use Rattle.wm_state.specs.Listing.{is_unwritten, standing}
use Rattle.wm_version_rows.proofs.Gathering.{KeyVersions, ascend, sought_pieces, unheld}
use Rattle.wm_view_rows.specs.Differences.{IsDifferenceView, Versions, difference_held, differs, version_rows}
use Rattle.wm_differences.specs.Shown.{GainsRows, group_in}

-- a key without pieces has no differences
unwritten_none : (p : Parts) (v : Versions) (table : ℕ) (key : List Value) (t : ℕ) → is_unwritten p.pieces table key → difference_held p v (record { table = table; key = key; time = t }) ≡ None
unwritten_none p v table key t none =
    ap (λ (x : Stamps). then_some (differs x) x)
    (stamps_made _ _ _ _ _ _ (ap (option_and_then standing) (unseen_of p v.base table key t none)) (ap (option_and_then standing) (unseen_of p v.first table key t none))
    (ap (option_and_then standing) (unseen_of p v.second table key t none)))

-- a group of a table is among its keys where its key is
has_key : (g : Group) (table : ℕ) (keys : List (List Value)) → (table == g.table) ≡ true → has_group g (keyed table keys) ≡ is_key_in g.key keys
has_key g table [] e = refl
has_key g table (k ∷ keys) e = rw (e, has_key g table keys e) refl

module _ (p : Parts) (v : Versions) (first second : List ℕ) (t : Table) where
  -- ---- key by key

  -- the rows of keys were gathered
  pub record Gathered (keys : List (List Value)) (rows : List Row) : Type 0 where
    pub found : List (Group × Stretch Stamps)
    pub lists : ListsGroups same_stamps grouped (in_table t.number (difference_held p v)) (keyed t.number keys) found
    pub are : rows ≡ flat_map (version_rows p first second t) found

  gathered_none : (rows : List Row) → rows ≡ [] → Gathered [] rows
  gathered_none rows none = record { found = []; lists = lists_none same_stamps grouped (in_table t.number (difference_held p v)); are = none }

  inside : (key : List Value) (u : ℕ) → in_table t.number (difference_held p v) (cell (group_in t key) u) ≡ difference_held p v (cell (group_in t key) u)
  inside key u = ap (λ b. cond b (difference_held p v (cell (group_in t key) u)) None) (eq-eqb t.number t.number refl)

  gathered_more : (keys : List (List Value)) (key : List Value) (old new : List Row) → Gathered keys old → GainsRows p first second t key (λ (u : ℕ). difference_held p v (cell (group_in t key) u)) old new
      → Gathered (keys ++ key ∷ []) new
  gathered_more keys key old new so gains = record {
    found = so.found ++ map (grouped (group_in t key)) gains.stretches;
    lists = subst (λ (gs : List Group). ListsGroups same_stamps grouped (in_table t.number (difference_held p v)) gs (so.found ++ map (grouped (group_in t key)) gains.stretches))
        (sym (map-append (λ (k : List Value). let g : Group = record { table = t.number; key = k } in g) keys (key ∷ [])))
        (lists_more same_stamps grouped (in_table t.number (difference_held p v)) (keyed t.number keys) so.found (group_in t key) gains.stretches so.lists
        (record { ordered = gains.block.ordered; joined = gains.block.joined; holds = λ u. gains.block.holds u ∙ sym (inside key u) }));
    are =
        gains.is
        ∙ ap (λ (rows : List Row). rows ++ flat_map (version_rows p first second t) (map (grouped (group_in t key)) gains.stretches)) so.are
        ∙ sym (flat_map-append (version_rows p first second t) so.found (map (grouped (group_in t key)) gains.stretches));
  }

  -- ---- entry by entry

  -- the rows of the keys before the rest were gathered
  pub record GatheredTo (all rest : KeyVersions) (rows : List Row) : Type 0 where
    pub passed : List (List Value)
    pub parted : passed ++ entry_keys rest ≡ entry_keys all
    pub found : All (λ e. lookup (is_at (key_order e.0)) all ≡ Some e.1) rest
    pub so : Gathered passed rows

  pub gathered_first : (all rest : KeyVersions) (rows : List Row) → rest ≡ all → All (λ e. lookup (is_at (key_order e.0)) all ≡ Some e.1) all → rows ≡ [] → GatheredTo all rest rows
  gathered_first all rest rows whole found none = record {
    passed = [];
    parted = ap entry_keys whole;
    found = subst (All (λ e. lookup (is_at (key_order e.0)) all ≡ Some e.1)) (sym whole) found;
    so = gathered_none rows none;
  }

  -- the versions of the next key
  next_versions : (all left rest : KeyVersions) (e : List Value × Vec Versioned Global) (rows : List Row) → left ≡ e ∷ rest → GatheredTo all left rows → versions_in all e.0 ≡ e.1.items
  next_versions all left rest e rows is so =
      ap versions_found (All-head (λ e. lookup (is_at (key_order e.0)) all ≡ Some e.1) e rest (subst (All (λ e. lookup (is_at (key_order e.0)) all ≡ Some e.1)) is so.found))

-- what versions have of the next key
pub record IsNextKey (ss : List Stored) (table : ℕ) (key : List Value) (es : List Versioned) : Type 0 where
  pub nested : AreNested es
  pub spanned : AreSpanned ss es
  pub holds : HoldKey ss table key es

module _ (ss : List Stored) (v : Versions) (first second : List ℕ) (t : Table) where
  pub next_key : (all left rest : KeyVersions) (e : List Value × Vec Versioned Global) (es : List Versioned) (rows : List Row) → left ≡ e ∷ rest → GatheredTo (parts_of ss) v first second t all left rows
      → AreKeysOf ss t.number all → es ≡ e.1.items → IsNextKey ss t.number e.0 es
  next_key all left rest e es rows is so keys same =
      let own : versions_in all e.0 ≡ es = next_versions (parts_of ss) v first second t all left rest e rows is so ∙ sym same in
      record { nested = subst AreNested own (keys.nested e.0); spanned = subst (AreSpanned ss) own (keys.spanned e.0); holds = subst (HoldKey ss t.number e.0) own (keys.held e.0) }

  pub gathered_next : (all left rest : KeyVersions) (e : List Value × Vec Versioned Global) (old new : List Row) → left ≡ e ∷ rest → GatheredTo (parts_of ss) v first second t all left old
      → GainsRows (parts_of ss) first second t e.0 (λ (u : ℕ). difference_held (parts_of ss) v (cell (group_in t e.0) u)) old new → GatheredTo (parts_of ss) v first second t all rest new
  gathered_next all left rest e old new is so gains = record {
    passed = so.passed ++ e.0 ∷ [];
    parted = append_assoc so.passed (e.0 ∷ []) (entry_keys rest) ∙ ap (λ (l : KeyVersions). so.passed ++ entry_keys l) (sym is) ∙ so.parted;
    found = All-tail (λ e. lookup (is_at (key_order e.0)) all ≡ Some e.1) e rest (subst (All (λ e. lookup (is_at (key_order e.0)) all ≡ Some e.1)) is so.found);
    so = gathered_more (parts_of ss) v first second t so.passed e.0 old new so.so gains;
  }

  -- ---- all keys

  -- the groups of keys ascend
  groups_up : (keys : List (List Value)) → KeysAscend keys → GroupsAscend (keyed t.number keys)
  groups_up keys up = subst GroupsAscend (append-nil (keyed t.number keys)) (tables_ascend 0 (record { table = t.number; keys = keys } ∷ []) (omega arith, up, tt))

  -- a group that is none of them has no differences
  others : (all : KeyVersions) (g : Group) → AreKeysOf ss t.number all → has_group g (keyed t.number (entry_keys all)) ≡ false → (u : ℕ) → in_table t.number (difference_held (parts_of ss) v) (cell g u) ≡ None
  unfolding parts_of
  others all g keys out u = by_test (g.table == t.number) refl
    where
      p : Parts
      p = parts_of ss

      nothing : Option Stamps
      nothing = None

      unwritten : g.table ≡ t.number → is_unwritten p.pieces t.number g.key
      unwritten same =
          sought_pieces t.number g.key (map (λ (s : Stored). s.record) ss)
          ∙ keys.whole g.key (unheld g.key all (sym (has_key g t.number (entry_keys all) (eq-eqb t.number g.table (sym same))) ∙ out))

      by_test : (b : Bool) → (g.table == t.number) ≡ b → cond b (difference_held p v (cell g u)) nothing ≡ nothing
      by_test true e =
          let same : g.table ≡ t.number = eqb-true g.table t.number e in
          ap (λ (n : ℕ). difference_held p v (record { table = n; key = g.key; time = u })) same ∙ unwritten_none p v t.number g.key u (unwritten same)
      by_test false e = refl

  -- what was gathered of all keys is what shows
  pub is_view : (all : KeyVersions) (rows : List Row) → AreKeysOf ss t.number all → IsStrictlySortedBy key_order (entry_keys all) → GatheredTo (parts_of ss) v first second t all [] rows
      → IsDifferenceView (parts_of ss) v first second t rows
  is_view all rows keys sorted gathered = record {
    found = gathered.so.found;
    listed =
        lists_all same_stamps grouped (in_table t.number (difference_held (parts_of ss) v)) (keyed t.number (entry_keys all)) gathered.so.found
        (subst (λ (ks : List (List Value)). ListsGroups same_stamps grouped (in_table t.number (difference_held (parts_of ss) v)) (keyed t.number ks) gathered.so.found) whole gathered.so.lists)
        (groups_up (entry_keys all) (ascend (entry_keys all) sorted)) (λ g out. others all g keys out);
    are = gathered.so.are;
  }
    where
      whole : gathered.passed ≡ entry_keys all
      whole = sym (append-nil gathered.passed) ∙ gathered.parted
