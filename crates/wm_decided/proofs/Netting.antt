-- Marks and entries that are put behind others key by key are those that decisions come to.
use Rattle.std.proofs.Common.{◌≡◌, ℕ, ◌<◌, true, false, List, [], ◌∷◌, ◌++◌, map, length, slice_get, zero, suc, Option, None, Some, option_map, unwrap_or, refl, sym, ap, ◌∙◌, eq-eqb, subst}
use Rattle.std.proofs.lemmas.Cmp.{nat_cmp_total, on_total, then_total}
use Rattle.std.proofs.lemmas.List.{length-map, map-append}
use Rattle.std.proofs.lemmas.List.Elements.{All-head, All-tail}
use Rattle.std.proofs.lemmas.Map.Entries.{btree_map_get_place}
use Rattle.std.proofs.lemmas.Bool.{or_parts}
use Rattle.std.specs.BTreeMap as tree
use Rattle.std.specs.BTreeMap.{BTreeMap, IsOrdered}
use Rattle.std.specs.Cmp.{IsTotalOrder}
use Rattle.std.specs.List.{All, AllByRecursion, flat_map}
use Rattle.std.specs.List.Sorted.{IsStrictlySortedBy}
use Rattle.std.specs.Map.{lookup}
use Rattle.std.specs.declared.cmp.Ordering.TheVariants.{Less}
use Rattle.wm_base.specs.Orders.{key_order_total}
use Rattle.wm_base.specs.declared.instant.TheConstants.{END}
use Rattle.wm_net.proofs.Grouping.{same_group-sym}
use Rattle.wm_net.proofs.Owing.{lists_all, lists_more, listing_alike, listing_through}
use Rattle.wm_net.specs.Groups.{Group, GroupsAscend, Precedes, cell, has_group, of_cell, same_group}
use Rattle.wm_net.specs.Listed.{IsBlock, ListsGroups, same_number}
use Rattle.wm_period.specs.Pieces.{Between, held_at}
use Rattle.wm_period.specs.Pieces as pieces
use Rattle.wm_period.specs.declared.piece.Piece.{Piece}
use Rattle.wm_spec.specs.Lists.{Cell}
use Rattle.wm_state.specs.Editing.{entry_of, settled_by}
use Rattle.wm_state.specs.State.{Decision}
use Rattle.wm_state.specs.declared.edit.NewEntry.{NewEntry}
use Rattle.wm_state.specs.declared.edit.NewMark.{NewMark}
use Rattle.wm_decided.proofs.Chosen.{Changes-chosen, Changes-copied, chosen_is, choice_in, copied_is}
use Rattle.wm_decided.proofs.Copying.{copies_block}
use Rattle.wm_decided.proofs.Laid.{tied}
use Rattle.wm_decided.proofs.Placed.{Tells, all_within, last_within, places_block}
use Rattle.wm_net.proofs.Listing.{is_listing}
use Rattle.wm_decided.specs.Counted.{IsSound, Place, copies_over, copy_from, decision_in, group_in, held_under, mark_by, place_at, place_order, placed, places_over}
use Rattle.wm_decided.specs.Netted.{Copy, cells_decided, ends_decided, entries_decided, entry_copied, mark_for, marks_of, same_choice, same_copy}

-- ---- keys in order

place_order_total : IsTotalOrder place_order
place_order_total = then_total (on_total (λ (q : Place). q.0) nat_cmp_total) (on_total (λ (q : Place). q.1) key_order_total)

pub ascend : (qs : List Place) → IsStrictlySortedBy place_order qs → GroupsAscend (map group_in qs)
unfolding IsStrictlySortedBy
ascend [] sorted = tt
ascend (q ∷ qs) sorted = (first qs sorted.0, ascend qs sorted.1)
  where
    first : (rs : List Place) → AllByRecursion (λ r. place_order q r ≡ Less) rs → Precedes (group_in q) (map group_in rs)
    first [] all = tt
    first (r ∷ rs) all = (all.0, first rs all.1)

-- a key that is none of these has no pieces
none_under : (es : List (Place × List Piece)) (c : Cell) → has_group (of_cell c) (map group_in (map (λ e. e.0) es)) ≡ false → lookup (tree.is_at (place_order (c.table, c.key))) es ≡ None
none_under [] c none = refl
none_under (e ∷ es) c none =
    let two = or_parts (same_group (group_in e.0) (of_cell c)) (has_group (of_cell c) (map group_in (map (λ (x : Place × List Piece). x.0) es))) none in
    let first : tree.is_at (place_order (c.table, c.key)) e.0 ≡ false = tied c.table e.0.0 _ ∙ same_group-sym (of_cell c) (group_in e.0) ∙ two.0 in
    rw first (none_under es c two.1)

-- the pieces of a key that is met tell the places of its cells
pub met : (ds : List Decision) (m : BTreeMap Place (List Piece)) (i : ℕ) (q : Place) (before after : List Piece) → IsOrdered place_order m → slice_get m.entries i ≡ Some (q, before)
    → ((c : Cell) → held_under m.entries (c.table, c.key) c.time ≡ option_map placed (place_at ds c)) → ((t : ℕ) → held_at after t ≡ held_at before t)
    → Tells (λ t. place_at ds (cell (group_in q) t)) 0 after
met ds m i q before after up at cells same t le =
    same t ∙ ap (λ (o : Option (List Piece)). held_at (unwrap_or o []) t) (sym (btree_map_get_place place_order_total m i q before up at)) ∙ cells (cell (group_in q) t)

-- and all of them are places of decisions
pub are_places : (ds : List Decision) (g : Group) (ps : List Piece) → Between 0 ps END → Tells (λ t. place_at ds (cell g t)) 0 ps → All (λ (p : Piece). p.stamp.number < length ds) ps
are_places ds g ps lie tells =
    all_within (λ t. place_at ds (cell g t)) 0 END (length ds) ps lie tells
    (λ t n e. subst (λ k. n < k) (length-map ds cells_decided) (last_within (map cells_decided ds) (cell g t) n e))

-- ---- key by key

same_number-itself : (n : ℕ) → same_number n n ≡ true
same_number-itself n = eq-eqb n n refl

same_copy-itself : (x : Copy) → same_copy x x ≡ true
same_copy-itself x = rw (eq-eqb x.place x.place refl, eq-eqb x.told.stamp x.told.stamp refl) refl

sound_in : (ds : List Decision) → All IsSound ds → (n : ℕ) → IsSound (decision_in ds n)
sound_in [] all n = (tt, tt)
sound_in (d ∷ ds) all zero = All-head IsSound d ds all
sound_in (d ∷ ds) all (suc n) = sound_in ds (All-tail IsSound d ds all) n

module _ (ds : List Decision) (moment : ℕ) (user : List ℕ) where
  -- what is copied at a cell
  abbrev copy_at : Cell → Option Copy
  copy_at c = copy_from ds c.time (place_at ds c)

  -- marks and entries are those of some keys
  pub record Nets (qs : List Place) (marks : List NewMark) (entries : List NewEntry) : Type 0 where
    pub marked : (place : ℕ) → ListsGroups same_number (mark_by ds place) (place_at ds) (map group_in qs) (map (settled_by place) marks)
    pub copied : ListsGroups same_copy (entry_copied moment user) copy_at (map group_in qs) (map entry_of entries)

  -- a key more
  pub nets_more : (qs : List Place) (marks new_marks : List NewMark) (entries new_entries : List NewEntry) (q : Place) (ps : List Piece) → All IsSound ds → Nets qs marks entries
      → Between 0 ps END → pieces.IsJoined ps → Tells (λ t. place_at ds (cell (group_in q) t)) 0 ps
      → ((place : ℕ) → map (settled_by place) new_marks ≡ map (settled_by place) marks ++ map (mark_by ds place (group_in q)) (places_over ps))
      → map entry_of new_entries ≡ map entry_of entries ++ map (entry_copied moment user (group_in q)) (copies_over ds (places_over ps))
      → Nets (qs ++ q ∷ []) new_marks new_entries
  nets_more qs marks new_marks entries new_entries q ps sound so lie joined tells more_marks more_entries = record {
    marked = λ place.
        subst (λ gs. ListsGroups same_number (mark_by ds place) (place_at ds) gs (map (settled_by place) new_marks)) (sym (map-append group_in qs (q ∷ [])))
        (subst (ListsGroups same_number (mark_by ds place) (place_at ds) (map group_in qs ++ group_in q ∷ [])) (sym (more_marks place))
        (lists_more same_number (mark_by ds place) (place_at ds) (map group_in qs) (map (settled_by place) marks) (group_in q) (places_over ps) (so.marked place) block));
    copied =
        subst (λ gs. ListsGroups same_copy (entry_copied moment user) copy_at gs (map entry_of new_entries)) (sym (map-append group_in qs (q ∷ [])))
        (subst (ListsGroups same_copy (entry_copied moment user) copy_at (map group_in qs ++ group_in q ∷ [])) (sym more_entries)
        (lists_more same_copy (entry_copied moment user) copy_at (map group_in qs) (map entry_of entries) (group_in q) (copies_over ds (places_over ps)) so.copied
        (copies_block ds (sound_in ds sound) (place_at ds) (group_in q) (places_over ps) block)));
  }
    where
      block : IsBlock same_number (place_at ds) (record { group = group_in q; stretches = places_over ps })
      block = places_block (place_at ds) (group_in q) END ps lie joined tells

  -- all keys
  pub nets_all : (m : BTreeMap Place (List Piece)) (marks : List NewMark) (entries : List NewEntry) → IsOrdered place_order m
      → ((c : Cell) → held_under m.entries (c.table, c.key) c.time ≡ option_map placed (place_at ds c)) → Nets (map (λ e. e.0) m.entries) marks entries
      → ((place : ℕ) → map (settled_by place) marks ≡ marks_of place ds) × (map entry_of entries ≡ entries_decided moment user ds)
  nets_all m marks entries up cells so = (
    λ place.
        is_listing same_choice (mark_for place) (map cells_decided ds) _ (map (settled_by place) marks) (λ x. same_number-itself x.0) (Changes-chosen ds)
        (listing_alike same_choice (mark_for place) (λ c. option_map (choice_in ds) (place_at ds c)) _ (map (settled_by place) marks) (chosen_is ds)
        (listing_through (choice_in ds) same_number same_choice (mark_by ds place) (mark_for place) (place_at ds) (map (settled_by place) marks) (λ x y. refl) (λ g s. refl)
        (lists_all same_number (mark_by ds place) (place_at ds) gs (map (settled_by place) marks) (so.marked place) (ascend qs up) others))),
    is_listing same_copy (entry_copied moment user) (flat_map ends_decided ds) _ (map entry_of entries) same_copy-itself (Changes-copied ds)
        (listing_alike same_copy (entry_copied moment user) copy_at _ (map entry_of entries) (copied_is ds)
        (lists_all same_copy (entry_copied moment user) copy_at gs (map entry_of entries) so.copied (ascend qs up) (λ g none t. ap (copy_from ds t) (others g none t)))),
  )
    where
      qs : List Place
      qs = map (λ (e : Place × List Piece). e.0) m.entries

      gs : List Group
      gs = map group_in qs

      none_placed : (o : Option ℕ) → option_map placed o ≡ None → o ≡ None
      none_placed None e = refl
      none_placed (Some n) e = absurd (cc)

      others : (g : Group) → has_group g gs ≡ false → (t : ℕ) → place_at ds (cell g t) ≡ None
      others g none t =
          none_placed (place_at ds (cell g t))
          (sym (cells (cell g t)) ∙ ap (λ (o : Option (List Piece)). held_at (unwrap_or o []) t) (none_under m.entries (cell g t) none))
