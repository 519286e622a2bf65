-- What a workspace has of its own as entries, key by key.
use Rattle.std.proofs.Common.{◌≡◌, ℕ, ◌+◌, ◌<◌, ◌≤◌, List, [], ◌∷◌, ◌++◌, length, take, get_or, map, Option, sym, ap, ◌∙◌, subst}
use Rattle.std.proofs.lemmas.List.{get_or-map, length-map, map-append, take_all, take_more}
use Rattle.std.specs.List.{All}
use Rattle.wm_graph.specs.Parts.{Parts}
use Rattle.wm_net.specs.Groups.{Group}
use Rattle.wm_net.specs.Listed.{ListsGroups}
use Rattle.wm_period.specs.Pieces.{Held}
use Rattle.wm_spec.specs.Lists.{Cell, Entry}
use Rattle.wm_state.specs.Copied.{HoldsKey}
use Rattle.wm_telling.specs.Telling.{group_at, replayed_by, same_held}
use Rattle.wm_pending.proofs.Blocks.{lists_key}
use Rattle.wm_pending.specs.Owned.{key_pieces}
use Rattle.wm_pending.specs.Replayed.{as_stretches}
use Rattle.wm_pending.specs.declared.own.OwnKey.{OwnKey}

abbrev pub groups_at : List OwnKey → List Group
groups_at ks = map group_at (map key_pieces ks)

pub groups_more : (ks : List OwnKey) (i : ℕ) (k : OwnKey) → i < length ks → k ≡ get_or ks i k → groups_at (take (i + 1) ks) ≡ groups_at (take i ks) ++ group_at (key_pieces k) ∷ []
groups_more ks i k within is =
    ap groups_at (take_more ks i k within ∙ ap (λ l. take i ks ++ l ∷ []) (sym is))
    ∙ ap (map group_at) (map-append key_pieces (take i ks) (k ∷ []))
    ∙ map-append group_at (map key_pieces (take i ks)) (key_pieces k ∷ [])

pub held_of : (f : Cell → Option Held) (ks : List OwnKey) (i : ℕ) (k : OwnKey) → i < length ks → k ≡ get_or ks i k → All (HoldsKey f) (map key_pieces ks) → HoldsKey f (key_pieces k)
held_of f ks i k within is all =
    let at : i < length (map key_pieces ks) = subst (λ n. i < n) (sym (length-map ks key_pieces)) within in
    subst (HoldsKey f) (get_or-map key_pieces ks i k (key_pieces k) within ∙ ap key_pieces (sym is)) (all i (key_pieces k) at)

-- the entries of a key more
pub listed_more : (p : Parts) (moment : ℕ) (user : List ℕ) (f : Cell → Option Held) (ks : List OwnKey) (i : ℕ) (k : OwnKey) (es new : List Entry) → i < length ks → k ≡ get_or ks i k → All (HoldsKey f) (map key_pieces ks)
    → ListsGroups same_held (replayed_by p moment user) f (groups_at (take i ks)) es → new ≡ es ++ map (replayed_by p moment user (group_at (key_pieces k))) (as_stretches k.pieces)
    → ListsGroups same_held (replayed_by p moment user) f (groups_at (take (i + 1) ks)) new
listed_more p moment user f ks i k es new within is all so more =
    subst (λ gs. ListsGroups same_held (replayed_by p moment user) f gs new) (sym (groups_more ks i k within is))
    (subst (ListsGroups same_held (replayed_by p moment user) f (groups_at (take i ks) ++ group_at (key_pieces k) ∷ [])) (sym more)
    (lists_key p moment user f (groups_at (take i ks)) es (key_pieces k) so (held_of f ks i k within is all)))

pub listed_all : (p : Parts) (moment : ℕ) (user : List ℕ) (f : Cell → Option Held) (ks : List OwnKey) (i : ℕ) (es : List Entry) → length ks ≤ i
    → ListsGroups same_held (replayed_by p moment user) f (groups_at (take i ks)) es → ListsGroups same_held (replayed_by p moment user) f (groups_at ks) es
listed_all p moment user f ks i es past so = subst (λ ls. ListsGroups same_held (replayed_by p moment user) f (groups_at ls) es) (take_all i ks past) so
