-- A workspace is gone: versions that are named still tell what they told, and what is own covers and ends as it did.
use Rattle.std.proofs.Common.{◌≡◌, ◌≢◌, ℕ, Bool, true, cond, if◌then◌else◌, List, Some, is_some, refl, sym, ap, ◌∙◌}
use Rattle.std.proofs.lemmas.Bool.{ne_eqb}
use Rattle.std.specs.List.{filter}
use Rattle.wm_graph.specs.Parts.{Parts}
use Rattle.wm_graph.specs.Rules.{keep_rules}
use Rattle.wm_spec.specs.Lists.{Cell, Entry}
use Rattle.wm_spec.specs.declared.record.counters.Counters.{Counters}
use Rattle.wm_spec.specs.declared.record.piece.PieceRecord.{PieceRecord}
use Rattle.wm_tree.specs.Versions.{is_outside, latest_in}
use Rattle.wm_tree.specs.declared.version.Version.{Version as Node}
use Rattle.wm_tree.proofs.Dropping.{latest_in-filter}
use Rattle.wm_state.specs.State.{Durable, Workspace, workspace_of}
use Rattle.wm_state.specs.Standing.{Base, Birth, Climbs, Covers, Kept, KeptBase, KeptOwn, NamedStand, Names, Newest, Own, Owns, OwnsStand, SpaceFields, SpacesStand, Tells, Top, Up, first_in, has_ends, is_above, latest, newest_first, own_at, seen, seen_above, seen_at}
use Rattle.wm_state.proofs.Climbing.{recorded_of}
use Rattle.wm_state.proofs.FirstIn.{IsOf, first-of}
use Rattle.wm_state.proofs.Naming.{Named-as, Owned-as, named_of}
use Rattle.wm_state.proofs.Tests.{all_filter, all_if}
use Rattle.wm_undone.specs.Removing.{CanRemove, is_others, without}
use Rattle.wm_undone.proofs.RemovingFields.{found_away, found_before}
use Rattle.wm_undone.proofs.RemovingRecords.{down, nodes-thin, none_apart, outside_of, parent_other, saved_away, space_away, stored_out, thinned}
use Rattle.wm_undone.proofs.RemovingSeen.{IsOutside, above-thin, first-thin, own-thin, seen-thin}

module _ (p : Parts) (s t : Durable) (n : ℕ) (counters : List Counters) (may : CanRemove p n) (rules : keep_rules p ≡ true) (stand : SpacesStand p s) (spaces : t.spaces ≡ without n s.spaces) where
  thin : newest_first (thinned p n counters).versions ≡ filter (is_outside n) (newest_first p.versions)
  thin = nodes-thin p n may.childless rules counters

  was : (m : ℕ) (w : Workspace) → workspace_of t.spaces m ≡ Some w → (m ≢ n) × (workspace_of s.spaces m ≡ Some w)
  was = found_before p s t n counters may rules spaces

  -- ---- versions of other workspaces

  seen_left : (v : ℕ) (c : Cell) → IsOutside n (newest_first p.versions) v → seen (thinned p n counters) v c ≡ seen p v c
  seen_left v c out =
      ap (λ ns. seen_at (filter (is_others p.versions n) p.pieces) ns v c) thin
      ∙ seen-thin n p.pieces (filter (is_others p.versions n) p.pieces) c (newest_first p.versions) (none_apart p n may.childless rules) (stored_out p n may.childless rules c) v out

  above_left : (base v : ℕ) (c : Cell) → IsOutside n (newest_first p.versions) v → seen_above (thinned p n counters) base v c ≡ seen_above p base v c
  above_left base v c out =
      ap (λ ns. own_at (filter (is_others p.versions n) p.pieces) ns base v c) thin
      ∙ own-thin n p.pieces (filter (is_others p.versions n) p.pieces) c base (newest_first p.versions) (none_apart p n may.childless rules) (stored_out p n may.childless rules c) v out

  latest_left : (m : ℕ) → m ≢ n → latest (thinned p n counters) m ≡ latest p m
  latest_left m away =
      ap (λ ns. latest_in ns m) thin ∙ latest_in-filter n (newest_first p.versions) m ∙ ap (λ b. cond b 0 (latest p m)) (ne_eqb n m (λ same. away (sym same)))

  -- ---- paths

  -- it is the parent of none
  no_parent : (m : ℕ) (w : Workspace) → workspace_of s.spaces m ≡ Some w → w.parent ≢ n
  no_parent m w found same =
      let y = recorded_of p s stand m w found in
      parent_other p n may.childless rules m y.space y.found (ap (λ (f : SpaceFields). f.parent) y.fields ∙ same)

  climbs_left : (v m r : ℕ) → m ≢ n → IsOf (newest_first p.versions) v m → Climbs p s.spaces v m r → Climbs (thinned p n counters) t.spaces v m r
  climbs_left v m r away is (Top zero_is) = Top zero_is
  climbs_left v m r away is (Up u w turn found turned first sees up) =
      let its : IsOf (newest_first p.versions) u w.parent = first-of (newest_first p.versions) (down p n may.childless rules) w.parent v u first in
      Up u w turn (found_away p s t n counters may rules spaces m away ∙ found) turned
      (ap (λ ns. first_in ns w.parent v) thin ∙ first-thin n w.parent (newest_first p.versions) (none_apart p n may.childless rules) v (outside_of n m (newest_first p.versions) v away is) ∙ first)
      (λ c. seen_left u c (outside_of n w.parent (newest_first p.versions) u (no_parent m w found) its) ∙ sees c)
      (climbs_left u w.parent turn.rebases (no_parent m w found) its up)

  -- ---- what is named

  was_named : (u m r : ℕ) (es : List Entry) → Names (thinned p n counters) t u m r es → Names p s u m r es × (m ≢ n)
  was_named u m r es (Newest {n = i} w is) = let h = was i w is in (Named-as p s _ _ _ _ _ _ _ _ (latest_left i h.0) refl refl refl (Newest w h.1), h.0)
  was_named u m r es (Kept {n = i} making w k x is made saved) = let h = was i w is in (Kept making w k x h.1 made (sym (saved_away p n counters i making h.0) ∙ saved), h.0)
  was_named u m r es (Birth {n = i} w a turn some is recorded turned) =
      let h = was i w is in (Birth w a turn some h.1 (sym (space_away p n counters i h.0) ∙ recorded) turned, no_parent i w h.1)
  was_named u m r es (Base {n = i} w a turn some is recorded turned) =
      let h = was i w is in (Base w a turn some h.1 (sym (space_away p n counters i h.0) ∙ recorded) turned, no_parent i w h.1)
  was_named u m r es (KeptBase {n = i} making w k x turn some is made saved turned) =
      let h = was i w is in (KeptBase making w k x turn some h.1 made (sym (saved_away p n counters i making h.0) ∙ saved) turned, no_parent i w h.1)

  -- it is none of the workspace's
  named_out : (u m r : ℕ) (es : List Entry) → Names p s u m r es → m ≢ n → IsOutside n (newest_first p.versions) u
  named_out u m r es name away = outside_of n m (newest_first p.versions) u away (named_of p s rules stand u m r es name)

  pub NamedStand-thinned : NamedStand p s → NamedStand (thinned p n counters) t
  NamedStand-thinned named = record { tells = λ u m r es name. told u m r es (was_named u m r es name) }
    where
      told : (u m r : ℕ) (es : List Entry) → Names p s u m r es × (m ≢ n) → Tells (thinned p n counters) t.spaces u m r es
      told u m r es h =
          let y = named.tells u m r es h.0 in
          record { holds = λ c. seen_left u c (named_out u m r es h.0 h.1) ∙ y.holds c; climbs = climbs_left u m r h.1 (named_of p s rules stand u m r es h.0) y.climbs; rows = y.rows }

  -- ---- what is own

  was_own : (base version : ℕ) (es : List Entry) → Owns (thinned p n counters) t base version es → Owns p s base version es × IsOutside n (newest_first p.versions) version
  was_own base version es (Own m w a is recorded) =
      let h = was m w is in (
        Owned-as p s _ _ _ _ _ _ refl (latest_left m h.0) refl (Own m w a h.1 (sym (space_away p n counters m h.0) ∙ recorded)),
        named_out _ m _ _ (Named-as p s _ _ _ _ _ _ _ _ (latest_left m h.0) refl refl refl (Newest w h.1)) h.0,
      )
  was_own base version es (KeptOwn m making w k x is made saved based) =
      let h = was m w is in
      let found = sym (saved_away p n counters m making h.0) ∙ saved in
      (KeptOwn m making w k x h.1 made found based, named_out _ m _ _ (Kept making w k x h.1 made found) h.0)

  pub OwnsStand-thinned : OwnsStand p s → OwnsStand (thinned p n counters) t
  OwnsStand-thinned owns = record {
    covers = λ base version es own. covered base version es (was_own base version es own);
    past = λ m making w k is made. owns.past m making w k (was m w is).1 made;
  }
    where
      covered : (base version : ℕ) (es : List Entry) → Owns p s base version es × IsOutside n (newest_first p.versions) version → Covers (thinned p n counters) base version es
      covered base version es h = record {
        cells = λ c. ap is_some (above_left base version c h.1) ∙ (owns.covers base version es h.0).cells c;
        ends = all_filter (ends_of (newest_first (thinned p n counters).versions)) (is_others p.versions n) p.pieces
            (all_if (ends_of (newest_first p.versions)) (ends_of (newest_first (thinned p n counters).versions)) still p.pieces (owns.covers base version es h.0).ends);
      }
        where
          ends_of : List Node → PieceRecord → Bool
          ends_of ns x = if is_above ns base version x.version then has_ends es x.cells else true

          still : (x : PieceRecord) → ends_of (newest_first p.versions) x ≡ true → ends_of (newest_first (thinned p n counters).versions) x ≡ true
          still x is =
              ap (λ b. if b then has_ends es x.cells else true)
              (ap (λ ns. is_above ns base version x.version) thin ∙ above-thin n base x.version (newest_first p.versions) (none_apart p n may.childless rules) version h.1)
              ∙ is
