-- What a workspace has of its own, gathered key by key.
use Rattle.std.proofs.Common.{◌≡◌, Bool, true, false, cond, ◌&&◌, ◌||◌, ◌==◌, List, [], ◌∷◌, ◌++◌, map, None, refl, sym, ap, ◌∙◌, subst}
use Rattle.std.proofs.lemmas.List.{map-append}
use Rattle.std.proofs.lemmas.List.Elements.{All-push}
use Rattle.std.specs.BTreeMap as tree
use Rattle.std.specs.List.{All, AllByRecursion, list_any}
use Rattle.std.specs.List.Sorted.{IsStrictlySortedBy}
use Rattle.std.specs.Ordering.{is_eq}
use Rattle.std.specs.declared.cmp.Ordering.TheVariants.{Less}
use Rattle.wm_base.specs.Key.{key_order}
use Rattle.wm_graph.specs.Parts.{Parts}
use Rattle.wm_graph.specs.Rules.{differ}
use Rattle.wm_net.proofs.Grouping.{less_other, same_group-sym}
use Rattle.wm_net.specs.Groups.{Group, GroupsAscend, Precedes, has_group}
use Rattle.wm_spec.specs.Lists.{Cell}
use Rattle.wm_spec.specs.declared.record.space.Space.{Space}
use Rattle.wm_state.specs.Copied.{HoldsKey, KeyPieces, same_key}
use Rattle.wm_telling.specs.Telling.{AreOwn, group_at, own_held}
use Rattle.wm_pending.proofs.Blocks.{at_group}
use Rattle.wm_pending.proofs.Stored.{tied}
use Rattle.wm_pending.specs.Keys.{Place, place_order}
use Rattle.wm_pending.specs.Owned.{key_pieces}
use Rattle.wm_pending.specs.declared.own.OwnKey.{OwnKey}

-- a place in a set to which one was added, and which had others
pub added : (at others : Bool) → cond at true others ≡ (others || (at || false))
added true true = refl
added true false = refl
added false true = refl
added false false = refl

-- a table and a key as a group
abbrev pub group_in : Place → Group
group_in q = record { table = q.0; key = q.1 }

-- the pieces of some keys, key by key
pub record Gathered (p : Parts) (a : Space) (qs : List Place) (ks : List OwnKey) : Type 0 where
  pub each : All (HoldsKey (own_held p a)) (map key_pieces ks)
  pub groups : map group_at (map key_pieces ks) ≡ map group_in qs

pub gathered_more : (p : Parts) (a : Space) (qs : List Place) (ks : List OwnKey) (k : OwnKey) → Gathered p a qs ks → HoldsKey (own_held p a) (key_pieces k) → Gathered p a (qs ++ (k.table, k.key) ∷ []) (ks ++ k ∷ [])
gathered_more p a qs ks k so holds = record {
  each = subst (All (HoldsKey (own_held p a))) (sym (map-append key_pieces ks (k ∷ []))) (All-push (HoldsKey (own_held p a)) (map key_pieces ks) (key_pieces k) so.each holds);
  groups =
      ap (map group_at) (map-append key_pieces ks (k ∷ []))
      ∙ map-append group_at (map key_pieces ks) (key_pieces k ∷ [])
      ∙ ap (λ gs. gs ++ group_at (key_pieces k) ∷ []) so.groups
      ∙ sym (map-append group_in qs ((k.table, k.key) ∷ []));
}

-- ---- keys that ascend

pub ascend : (qs : List Place) → IsStrictlySortedBy place_order qs → GroupsAscend (map group_in qs)
unfolding IsStrictlySortedBy
ascend [] sorted = tt
ascend (q ∷ qs) sorted = (first qs sorted.0, ascend qs sorted.1)
  where
    first : (rs : List Place) → AllByRecursion (λ r. place_order q r ≡ Less) rs → Precedes (group_in q) (map group_in rs)
    first [] all = tt
    first (r ∷ rs) all = (all.0, first rs all.1)

apart : (ks : List KeyPieces) → GroupsAscend (map group_at ks) → differ same_key ks ≡ true
apart [] up = refl
apart (k ∷ ks) up = rw (none ks up.0, apart ks up.1) refl
  where
    none : (ls : List KeyPieces) → Precedes (group_at k) (map group_at ls) → list_any (same_key k) ls ≡ false
    none [] before = refl
    none (l ∷ ls) before = rw (less_other (group_at k) (group_at l) before.0, none ls before.1) refl

-- ---- all of them

pub contained : (q : Place) (qs : List Place) → list_any (tree.is_at (place_order q)) qs ≡ has_group (group_in q) (map group_in qs)
contained q [] = refl
contained q (r ∷ qs) =
    ap (λ b. b || list_any (tree.is_at (place_order q)) qs) (tied q.0 r.0 (key_order q.1 r.1) ∙ same_group-sym (group_in q) (group_in r))
    ∙ ap (λ b. ((r.0 == q.0) && is_eq (key_order r.1 q.1)) || b) (contained q qs)

-- the pieces of all keys that there are, ascending, are what a workspace has of its own
pub are_own : (p : Parts) (a : Space) (qs : List Place) (ks : List OwnKey) → IsStrictlySortedBy place_order qs
    → ((c : Cell) → list_any (tree.is_at (place_order (c.table, c.key))) qs ≡ false → own_held p a c ≡ None) → Gathered p a qs ks → AreOwn p a (map key_pieces ks)
are_own p a qs ks sorted none so =
    let up : GroupsAscend (map group_at (map key_pieces ks)) = subst GroupsAscend (sym so.groups) (ascend qs sorted) in
    record {
      copied = record {
        apart = apart (map key_pieces ks) up;
        each = so.each;
        elsewhere = λ c out.
            none c
            (contained (c.table, c.key) qs
            ∙ ap (has_group (group_in (c.table, c.key))) (sym so.groups)
            ∙ at_group c (map key_pieces ks) (group_in (c.table, c.key)) refl refl
            ∙ out);
      };
      ascend = up;
    }
