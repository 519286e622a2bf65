-- What a workspace gains, key by key.
use Rattle.std.proofs.Common.{◌≡◌, ℕ, ◌<◌, ◌≤◌, ◌⊎◌, inl, inr, Bool, true, false, cond, ◌&&◌, ◌==◌, nat_lt, nat_le, List, [], ◌∷◌, ◌++◌, map, Option, None, is_some, refl, sym, ap, ◌∙◌, subst}
use Rattle.std.proofs.lemmas.List.{map-append}
use Rattle.std.proofs.lemmas.Bool.{and_parts, or_parts}
use Rattle.std.specs.BTreeMap as tree
use Rattle.std.specs.List.{list_all, list_any}
use Rattle.std.specs.List.Sorted.{IsStrictlySortedBy}
use Rattle.std.specs.Option.{option_map_or}
use Rattle.std.specs.Ordering.{is_eq}
use Rattle.wm_base.specs.Key.{key_order}
use Rattle.wm_base.specs.declared.instant.TheConstants.{END}
use Rattle.wm_graph.specs.Parts.{Parts, space_of, table_of}
use Rattle.wm_graph.specs.Rules.{are_cells, differ, is_given, is_touch, is_trace, keep_rules, meet}
use Rattle.wm_net.proofs.Owing.{lists_all}
use Rattle.wm_net.proofs.Stretching.{le_or_lt}
use Rattle.wm_net.specs.Groups.{Group, cell, has_group}
use Rattle.wm_net.specs.Listed.{ListsGroups}
use Rattle.wm_period.proofs.Order.{held_at-past}
use Rattle.wm_period.specs.Pieces.{Between, Held, IsJoined, held_at}
use Rattle.wm_spec.specs.Lists.{Cell, Entry}
use Rattle.wm_spec.specs.declared.record.space.Space.{Space}
use Rattle.wm_spec.specs.declared.record.table.Table.{Table}
use Rattle.wm_spec.specs.declared.record.trace.Trace.{Trace}
use Rattle.wm_state.proofs.Apart.{ruled}
use Rattle.wm_state.specs.Copied.{HoldsKey}
use Rattle.wm_state.specs.Standing.{latest, seen}
use Rattle.wm_telling.specs.Telling.{AreOwn, IsHeldListing, gained_held, group_at, own_held, replayed_by, same_held}
use Rattle.wm_version_rows.proofs.Late.{ended, uncovered}
use Rattle.wm_pending.proofs.Blocks.{at_group, lists_key}
use Rattle.wm_pending.proofs.Keyed.{ascend, contained, group_in}
use Rattle.wm_pending.proofs.Looking.{groups_own, pieces_hold}
use Rattle.wm_pending.proofs.Stored.{tied}
use Rattle.wm_pending.proofs.Touching.{touched_reached}
use Rattle.wm_pending.specs.Keys.{Place, place_order}
use Rattle.wm_pending.specs.Lookups.{group_own, pieces_on}
use Rattle.wm_pending.specs.Owned.{key_pieces}
use Rattle.wm_pending.specs.Replayed.{as_stretches}
use Rattle.wm_pending.specs.Touched.{has_touched, is_since, is_touch_of, is_touched, since_of}
use Rattle.wm_pending.specs.declared.own.OwnKey.{OwnKey}
use Rattle.wm_pending.specs.declared.touched.Since.{Since}

-- ---- where no touch is

-- no touch covers a cell from the end of time on
touched_late : (tables : ℕ → Option Table) (spaces : ℕ → Option Space) (s : Since) (c : Cell) → END ≤ c.time → (xs : List Trace) → list_all (is_touch tables spaces) xs ≡ true → is_touched xs s c ≡ false
touched_late tables spaces s c late [] all = refl
touched_late tables spaces s c late (x ∷ xs) all =
    let h = and_parts (is_touch tables spaces x) (list_all (is_touch tables spaces) xs) all in
    let g = and_parts (is_trace tables spaces x) (option_map_or (λ (s : Space). nat_lt x.position s.log_length) (spaces x.space) false) h.0 in
    let d = and_parts (are_cells tables x.cells) (is_given spaces x.space x.place) g.0 in
    rw (
      uncovered (is_since s x) ((x.cells.table == c.table) && is_eq (key_order x.cells.key c.key)) x.cells.from x.cells.till c.time (ended tables x.cells d.0) late,
      touched_late tables spaces s c late xs h.1,
    ) refl

pub none_late : (p : Parts) (s : Since) (c : Cell) → keep_rules p ≡ true → END ≤ c.time → is_touched p.touches s c ≡ false
none_late p s c rules late =
    touched_late (table_of p.tables) (space_of p.spaces) s c late p.touches (and_parts (differ meet p.touches) (list_all (is_touch (table_of p.tables) (space_of p.spaces)) p.touches) (ruled p rules).touches).1

-- nor does one cover a cell of a key that none is of
none_of_key : (xs : List Trace) (s : Since) (c : Cell) → has_touched xs s (c.table, c.key) ≡ false → is_touched xs s c ≡ false
none_of_key [] s c none = refl
none_of_key (x ∷ xs) s c none =
    let two = or_parts (is_since s x && is_touch_of (c.table, c.key) x) (has_touched xs s (c.table, c.key)) none in
    rw (
      other (is_since s x) ((x.cells.table == c.table) && is_eq (key_order x.cells.key c.key)) (nat_le x.cells.from c.time && nat_lt c.time x.cells.till)
          (ap (λ b. is_since s x && b) (sym (tied x.cells.table c.table (key_order x.cells.key c.key))) ∙ two.0),
      none_of_key xs s c two.1,
    ) refl
  where
    other : (a b d : Bool) → (a && b) ≡ false → (a && (b && d)) ≡ false
    other true true d e = absurd (cc)
    other true false d e = refl
    other false b d e = refl

-- ---- what is gained

-- outside what is own, where a touch is, what a version holds
abbrev pub gain : Option Held → Bool → Option Held → Option Held
gain own touched held = cond (is_some own) None (cond touched held None)

gain-none : (own : Option Held) (touched : Bool) (held : Option Held) → touched ≡ false → gain own touched held ≡ None
gain-none own touched held e = ap (λ b. cond (is_some own) None (cond b held None)) e ∙ by_own (is_some own)
  where
    by_own : (b : Bool) → cond b None (cond false held None) ≡ None
    by_own true = refl
    by_own false = refl

gained_is : (p : Parts) (a b : Space) (c : Cell) → gained_held p a b c ≡ gain (own_held p a c) (is_touched p.touches (since_of a b) c) (seen p (latest p b.number) c)
gained_is p a b c = ap (λ t. gain (own_held p a c) t (seen p (latest p b.number) c)) (sym (touched_reached p.touches (since_of a b) c))

-- what is gained of a key
pub key_gained : (p : Parts) (a b : Space) (ks : List OwnKey) (k : OwnKey) (s : Since) (version : ℕ) → keep_rules p ≡ true → AreOwn p a (map key_pieces ks) → s ≡ since_of a b → version ≡ latest p b.number
    → Between 0 k.pieces END → IsJoined k.pieces
    → ((t : ℕ) → t < END → held_at k.pieces t ≡ gain (held_at (pieces_on (group_own k) ks) t) (is_touched p.touches s (cell (group_own k) t)) (seen p version (cell (group_own k) t)))
    → HoldsKey (gained_held p a b) (key_pieces k)
key_gained p a b ks k s version rules own since newest lie joined holds = record { lie = lie; joined = joined; holds = λ t. at t (le_or_lt END t) }
  where
    at : (t : ℕ) → (END ≤ t) ⊎ (t < END) → held_at k.pieces t ≡ gained_held p a b (cell (group_own k) t)
    at t (inl late) =
        held_at-past 0 k.pieces END t lie late
        ∙ sym (gain-none (own_held p a (cell (group_own k) t)) (is_touched p.touches (since_of a b) (cell (group_own k) t)) (seen p (latest p b.number) (cell (group_own k) t)) (none_late p (since_of a b) (cell (group_own k) t) rules late))
        ∙ sym (gained_is p a b (cell (group_own k) t))
    at t (inr early) =
        holds t early
        ∙ ap (λ o. gain o (is_touched p.touches s (cell (group_own k) t)) (seen p version (cell (group_own k) t)))
        (pieces_hold (own_held p a) ks (group_own k) own.copied.each
        (λ none t. own.copied.elsewhere (cell (group_own k) t)
        (sym (at_group (cell (group_own k) t) (map key_pieces ks) (group_own k) refl refl) ∙ ap (λ (gs : List Group). has_group (group_own k) gs) (groups_own ks) ∙ none))
        t)
        ∙ ap (λ (s : Since). gain (own_held p a (cell (group_own k) t)) (is_touched p.touches s (cell (group_own k) t)) (seen p version (cell (group_own k) t))) since
        ∙ ap (λ (v : ℕ). gain (own_held p a (cell (group_own k) t)) (is_touched p.touches (since_of a b) (cell (group_own k) t)) (seen p v (cell (group_own k) t))) newest
        ∙ sym (gained_is p a b (cell (group_own k) t))

-- a key more
pub gained_more : (p : Parts) (moment : ℕ) (user : List ℕ) (f : Cell → Option Held) (qs : List Place) (es new : List Entry) (k : OwnKey)
    → ListsGroups same_held (replayed_by p moment user) f (map group_in qs) es → HoldsKey f (key_pieces k)
    → new ≡ es ++ map (replayed_by p moment user (group_at (key_pieces k))) (as_stretches k.pieces)
    → ListsGroups same_held (replayed_by p moment user) f (map group_in (qs ++ (k.table, k.key) ∷ [])) new
gained_more p moment user f qs es new k lists holds is =
    subst (λ gs. ListsGroups same_held (replayed_by p moment user) f gs new) (sym (map-append group_in qs ((k.table, k.key) ∷ [])))
    (subst (ListsGroups same_held (replayed_by p moment user) f (map group_in qs ++ group_at (key_pieces k) ∷ [])) (sym is)
    (lists_key p moment user f (map group_in qs) es (key_pieces k) lists holds))

-- all that were touched
pub gained_all : (p : Parts) (a b : Space) (moment : ℕ) (user : List ℕ) (s : Since) (qs : List Place) (es : List Entry) → s ≡ since_of a b → IsStrictlySortedBy place_order qs
    → ((q : Place) → list_any (tree.is_at (place_order q)) qs ≡ has_touched p.touches s q)
    → ListsGroups same_held (replayed_by p moment user) (gained_held p a b) (map group_in qs) es → IsHeldListing p moment user (gained_held p a b) es
gained_all p a b moment user s qs es since sorted told lists =
    lists_all same_held (replayed_by p moment user) (gained_held p a b) (map group_in qs) es lists (ascend qs sorted)
    (λ g none t.
    let untouched : has_touched p.touches (since_of a b) (g.table, g.key) ≡ false =
    ap (λ (x : Since). has_touched p.touches x (g.table, g.key)) (sym since) ∙ sym (told (g.table, g.key)) ∙ contained (g.table, g.key) qs ∙ none in
    gained_is p a b (cell g t)
    ∙ gain-none (own_held p a (cell g t)) (is_touched p.touches (since_of a b) (cell g t)) (seen p (latest p b.number) (cell g t)) (none_of_key p.touches (since_of a b) (cell g t) untouched))
