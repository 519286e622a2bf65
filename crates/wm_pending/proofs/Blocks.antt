-- The pieces of a key as a block of a listing.
use Rattle.std.proofs.Common.{◌≡◌, ℕ, ◌<◌, ◌≤◌, ◌⊎◌, inl, inr, ◌&&◌, ◌==◌, Bool, true, false, cond, not, List, [], ◌∷◌, ◌++◌, map, Option, refl, sym, ap, ◌∙◌, eqb-true}
use Rattle.std.proofs.lemmas.Bool.{and_parts}
use Rattle.std.specs.Bool.{then_some}
use Rattle.std.specs.Option.{option_or}
use Rattle.wm_base.proofs.Plain.{option_or-none}
use Rattle.wm_base.specs.Period.{covers}
use Rattle.wm_base.specs.declared.instant.TheConstants.{END}
use Rattle.wm_base.specs.declared.kind.Kind.{Kind}
use Rattle.wm_base.specs.declared.kind.Kind.TheVariants.{Insert, Update, Delete}
use Rattle.wm_base.specs.declared.stamp.Stamp.{Stamp}
use Rattle.wm_graph.specs.Parts.{Parts}
use Rattle.wm_net.proofs.Owing.{lists_more, lists_all}
use Rattle.wm_net.proofs.Stretching.{le_or_lt, within_not_after, value_before}
use Rattle.wm_net.specs.Groups.{Group, has_group, GroupsAscend}
use Rattle.wm_net.specs.Listed.{value_at, Ordered, IsApart, IsJoined, IsBlock, ListsGroups}
use Rattle.wm_period.proofs.Order.{held_at-early}
use Rattle.wm_period.specs.Pieces.{Between, Held, held, held_at}
use Rattle.wm_period.specs.Pieces as pieces
use Rattle.wm_period.specs.declared.piece.Piece.{Piece}
use Rattle.wm_spec.proofs.Stretches.{by_test}
use Rattle.wm_spec.specs.Lists.{Cell, Entry}
use Rattle.wm_state.specs.Copied.{AreCopied, HoldsKey, KeyPieces, is_at}
use Rattle.wm_telling.specs.Telling.{IsHeldListing, group_at, replayed_by, same_held, same_kind}
use Rattle.wm_pending.specs.Replayed.{as_stretch, as_stretches}
use Rattle.std.specs.List.{list_any}

-- ---- the test of what pieces say is exact

same_kind-is : (a b : Kind) → same_kind a b ≡ true → a ≡ b
same_kind-is Insert Insert e = refl
same_kind-is Update Update e = refl
same_kind-is Delete Delete e = refl
same_kind-is Insert Update e = cc
same_kind-is Insert Delete e = cc
same_kind-is Update Insert e = cc
same_kind-is Update Delete e = cc
same_kind-is Delete Insert e = cc
same_kind-is Delete Update e = cc

same_gone-is : (a b : Bool) → cond a b (not b) ≡ true → a ≡ b
same_gone-is true true e = refl
same_gone-is true false e = cc
same_gone-is false true e = cc
same_gone-is false false e = refl

held_made : (h k : Held) → h.stamp.number ≡ k.stamp.number → h.kind ≡ k.kind → h.gone ≡ k.gone → h ≡ k
held_made h k e f g = λ i. record { stamp = let s : Stamp = record { number = e i } in s; kind = f i; gone = g i }

pub same_held-is : (h k : Held) → same_held h k ≡ true → h ≡ k
same_held-is h k e =
    let two = and_parts (h.stamp.number == k.stamp.number) (same_kind h.kind k.kind && cond h.gone k.gone (not k.gone)) e in
    let last = and_parts (same_kind h.kind k.kind) (cond h.gone k.gone (not k.gone)) two.1 in
    held_made h k (eqb-true h.stamp.number k.stamp.number two.0) (same_kind-is h.kind k.kind last.0) (same_gone-is h.gone k.gone last.1)

-- ---- pieces as stretches

ordered : (low high : ℕ) (xs : List Piece) → Between low xs high → Ordered low (as_stretches xs)
ordered low high [] b = tt
ordered low high (x ∷ xs) b = (b.0, b.1, ordered x.period.till high xs b.2)

apart : (x : Piece) (xs : List Piece) → pieces.IsApart x xs → IsApart same_held (as_stretch x) (as_stretches xs)
apart x [] a = tt
apart x (y ∷ ys) a =
    by_test ((x.period.till == y.period.from) && same_held (held x) (held y))
    (λ e.
    let two = and_parts (x.period.till == y.period.from) (same_held (held x) (held y)) e in
    absurd (a (eqb-true x.period.till y.period.from two.0) (same_held-is (held x) (held y) two.1)))
    (λ e. e)

joined : (xs : List Piece) → pieces.IsJoined xs → IsJoined same_held (as_stretches xs)
joined [] j = tt
joined (x ∷ xs) j = (apart x xs j.0, joined xs j.1)

-- the first that covers is the last that does
value : (low high : ℕ) (xs : List Piece) (t : ℕ) → Between low xs high → value_at (as_stretches xs) t ≡ held_at xs t
value low high [] t b = refl
value low high (x ∷ xs) t b = by_place (le_or_lt x.period.till t) (value x.period.till high xs t b.2)
  where
    by_place : (x.period.till ≤ t) ⊎ (t < x.period.till) → value_at (as_stretches xs) t ≡ held_at xs t → value_at (as_stretches (x ∷ xs)) t ≡ held_at (x ∷ xs) t
    by_place (inl late) rest = rw (within_not_after x.period.from x.period.till t late) (option_or-none (value_at (as_stretches xs) t) ∙ rest)
    by_place (inr early) rest =
        ap (λ o. option_or o (then_some (covers x.period t) (held x))) (value_before x.period.till (as_stretches xs) t (ordered x.period.till high xs b.2) early)
        ∙ sym (ap (option_or (then_some (covers x.period t) (held x))) (held_at-early x.period.till xs high t b.2 early) ∙ option_or-none (then_some (covers x.period t) (held x)))

-- ---- blocks

-- the pieces of a key are a block of what they hold
pub block_of : (f : Cell → Option Held) (k : KeyPieces) → HoldsKey f k → IsBlock same_held f (record { group = group_at k; stretches = as_stretches k.pieces })
block_of f k h = record {
  ordered = ordered 0 END k.pieces h.lie;
  joined = joined k.pieces h.joined;
  holds = λ t. value 0 END k.pieces t h.lie ∙ h.holds t;
}

-- the pieces of a key more, as entries behind others
pub lists_key : (p : Parts) (moment : ℕ) (user : List ℕ) (f : Cell → Option Held) (gs : List Group) (es : List Entry) (k : KeyPieces) → ListsGroups same_held (replayed_by p moment user) f gs es → HoldsKey f k
    → ListsGroups same_held (replayed_by p moment user) f (gs ++ group_at k ∷ []) (es ++ map (replayed_by p moment user (group_at k)) (as_stretches k.pieces))
lists_key p moment user f gs es k l h = lists_more same_held (replayed_by p moment user) f gs es (group_at k) (as_stretches k.pieces) l (block_of f k h)

-- a cell is of one of the keys exactly where its group is one of theirs
pub at_group : (c : Cell) (ks : List KeyPieces) (g : Group) → g.table ≡ c.table → g.key ≡ c.key → has_group g (map group_at ks) ≡ list_any (is_at c) ks
at_group c [] g e f = refl
at_group c (k ∷ ks) g e f = rw (e, f, at_group c ks g e f) refl

-- all of them
pub lists_copied : (p : Parts) (moment : ℕ) (user : List ℕ) (f : Cell → Option Held) (ks : List KeyPieces) (es : List Entry) → ListsGroups same_held (replayed_by p moment user) f (map group_at ks) es
    → GroupsAscend (map group_at ks) → AreCopied f ks → IsHeldListing p moment user f es
lists_copied p moment user f ks es l up copied =
    lists_all same_held (replayed_by p moment user) f (map group_at ks) es l up
    (λ g none t. copied.elsewhere (record { table = g.table; key = g.key; time = t }) (sym (at_group (record { table = g.table; key = g.key; time = t }) ks g refl refl) ∙ none))
