-- Decisions laid over one another, by key.
use Rattle.std.proofs.Common.{◌≡◌, ℕ, ◌+◌, ◌<◌, Bool, true, false, cond, ◌&&◌, ◌==◌, List, [], ◌∷◌, ◌++◌, map, length, take, get_or, Option, None, Some, option_map, unwrap_or, refl, sym, ap, ◌∙◌, arith, subst}
use Rattle.std.proofs.lemmas.Bool.Decides.{nat_tests}
use Rattle.std.proofs.lemmas.List.{length-map, map-append, take_more, length-take-le}
use Rattle.std.proofs.lemmas.List.Elements.{All-more}
use Rattle.std.specs.Bool.{then_some}
use Rattle.std.specs.List.{All}
use Rattle.std.specs.Option.{option_or}
use Rattle.std.specs.Ordering.{is_eq, nat_cmp, ordering_then}
use Rattle.std.specs.declared.cmp.Ordering.{Ordering}
use Rattle.wm_base.specs.Key.{key_order}
use Rattle.wm_net.proofs.Grouping.{same_group-is}
use Rattle.wm_net.specs.Groups.{Group}
use Rattle.wm_net.specs.Places.{last_position}
use Rattle.wm_period.specs.Pieces.{held_at}
use Rattle.wm_period.specs.declared.piece.Piece.{Piece}
use Rattle.wm_spec.proofs.Stretches.{by_test}
use Rattle.wm_spec.specs.Lists.{Cell, covers, has_time}
use Rattle.wm_state.specs.State.{Decision}
use Rattle.wm_decided.proofs.Placed.{last_more}
use Rattle.wm_decided.specs.Counted.{IsSound, Place, group_in, held_under, place_at, place_order, placed}
use Rattle.wm_decided.specs.Netted.{cells_decided}

-- two orders tie where both do
pub tied : (m n : ℕ) (o : Ordering) → is_eq (ordering_then (nat_cmp m n) o) ≡ ((m == n) && is_eq o)
tied m n o = grind (arith, nat_tests)

place_made : (k q : Place) → group_in k ≡ group_in q → k ≡ q
place_made k q e = ap (λ (g : Group). let p : Place = (g.table, g.key) in p) e

-- what is held of a key once a decision is laid over the pieces of its own
laid : (d : Decision) (place : ℕ) (before without after : Place → Option (List Piece)) (ps : List Piece) (c : Cell)
    → ((q : Place) → without q ≡ cond (is_eq (place_order (d.table, d.key) q)) None (before q)) → ((q : Place) → after q ≡ cond (is_eq (place_order (d.table, d.key) q)) (Some ps) (without q))
    → ((t : ℕ) → held_at ps t ≡ option_or (then_some (has_time t (cells_decided d)) (placed place)) (held_at (unwrap_or (before (d.table, d.key)) []) t))
    → held_at (unwrap_or (after (c.table, c.key)) []) c.time ≡ option_or (then_some (covers (cells_decided d) c) (placed place)) (held_at (unwrap_or (before (c.table, c.key)) []) c.time)
laid d place before without after ps c removes puts lays = by_test same (λ e. own e) (λ e. other e)
  where
    k : Place
    k = (d.table, d.key)

    q : Place
    q = (c.table, c.key)

    same : Bool
    same = (d.table == c.table) && is_eq (key_order d.key c.key)

    own : same ≡ true → held_at (unwrap_or (after q) []) c.time ≡ option_or (then_some (same && has_time c.time (cells_decided d)) (placed place)) (held_at (unwrap_or (before q) []) c.time)
    own e =
        let one : k ≡ q = place_made k q (same_group-is (group_in k) (group_in q) e) in
        rw (puts q, tied d.table c.table (key_order d.key c.key), e) (lays c.time ∙ ap (λ (x : Place). option_or (then_some (has_time c.time (cells_decided d)) (placed place)) (held_at (unwrap_or (before x) []) c.time)) one)

    other : same ≡ false → held_at (unwrap_or (after q) []) c.time ≡ option_or (then_some (same && has_time c.time (cells_decided d)) (placed place)) (held_at (unwrap_or (before q) []) c.time)
    other e = rw (puts q, removes q, tied d.table c.table (key_order d.key c.key), e) refl

-- the key of the decision may be had from elsewhere
pub laid_at : (d : Decision) (place : ℕ) (before without after : Place → Option (List Piece)) (ps : List Piece) (c : Cell) (k : Place) → k ≡ (d.table, d.key)
    → ((q : Place) → without q ≡ cond (is_eq (place_order k q)) None (before q)) → ((q : Place) → after q ≡ cond (is_eq (place_order k q)) (Some ps) (without q))
    → ((t : ℕ) → held_at ps t ≡ option_or (then_some (has_time t (cells_decided d)) (placed place)) (held_at (unwrap_or (before k) []) t))
    → held_at (unwrap_or (after (c.table, c.key)) []) c.time ≡ option_or (then_some (covers (cells_decided d) c) (placed place)) (held_at (unwrap_or (before (c.table, c.key)) []) c.time)
laid_at d place before without after ps c k is removes puts lays =
    laid d place before without after ps c
    (subst (λ (x : Place). (q : Place) → without q ≡ cond (is_eq (place_order x q)) None (before q)) is removes)
    (subst (λ (x : Place). (q : Place) → after q ≡ cond (is_eq (place_order x q)) (Some ps) (without q)) is puts)
    (subst (λ (x : Place). (t : ℕ) → held_at ps t ≡ option_or (then_some (has_time t (cells_decided d)) (placed place)) (held_at (unwrap_or (before x) []) t)) is lays)

-- a decision more
pub all_laid : (ds : List Decision) (i : ℕ) (d : Decision) (before after : List (Place × List Piece)) → i < length ds → d ≡ get_or ds i d
    → ((c : Cell) → held_under before (c.table, c.key) c.time ≡ option_map placed (place_at (take i ds) c))
    → ((c : Cell) → held_under after (c.table, c.key) c.time ≡ option_or (then_some (covers (cells_decided d) c) (placed i)) (held_under before (c.table, c.key) c.time))
    → (c : Cell) → held_under after (c.table, c.key) c.time ≡ option_map placed (place_at (take (i + 1) ds) c)
all_laid ds i d before after within is so lays c =
    lays c ∙ ap (option_or (then_some (covers (cells_decided d) c) (placed i))) (so c) ∙ by_last (covers (cells_decided d) c) (place_at (take i ds) c)
    ∙ sym (ap (option_map placed) (
    ap (λ (xs : List Decision). place_at xs c) (take_more ds i d within ∙ ap (λ (x : Decision). take i ds ++ x ∷ []) (sym is))
    ∙ ap (λ es. last_position es c) (map-append cells_decided (take i ds) (d ∷ []))
    ∙ last_more (map cells_decided (take i ds)) (cells_decided d) c
    ∙ ap (λ (n : ℕ). option_or (then_some (covers (cells_decided d) c) n) (place_at (take i ds) c)) count))
  where
    count : length (map cells_decided (take i ds)) ≡ i
    count = length-map (take i ds) cells_decided ∙ length-take-le i ds (omega (arith, within))

    by_last : (b : Bool) (o : Option ℕ) → option_or (then_some b (placed i)) (option_map placed o) ≡ option_map placed (option_or (then_some b i) o)
    by_last true o = refl
    by_last false o = refl

pub sound_more : (ds : List Decision) (i : ℕ) (d : Decision) → i < length ds → d ≡ get_or ds i d → All IsSound (take i ds) → IsSound d → All IsSound (take (i + 1) ds)
sound_more ds i d within is all one = All-more IsSound ds i d within all (subst IsSound is one)
