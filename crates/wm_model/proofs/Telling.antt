-- What the version holds that a workspace of a lawful state sees under its own.
use Rattle.std.proofs.Common.{◌≡◌, ◌≢◌, ℕ, ◌+◌, ◌<◌, ◌≤◌, List, length, slice_get, zero, suc, [], ◌∷◌, Option, Some, None, option_map, refl, ap, subst, ◌∙◌, arith}
use Rattle.std.proofs.lemmas.Bool.{ne_eqb}
use Rattle.wm_graph.specs.Parts.{Parts, space_of}
use Rattle.wm_spec.specs.Lists.{Cell, Entry, told}
use Rattle.wm_spec.specs.declared.record.space.Space.{Space}
use Rattle.wm_state.specs.Standing.{Base, HasRows, Stands, held_of, seen}
use Rattle.wm_state.specs.State.{Durable, Turn, Workspace, turn_of, workspace_of}
use Rattle.wm_model.specs.Lawful.{Lawful}
use Rattle.wm_model.proofs.Lawful.Spaces.{number_is}

-- a workspace that is not LIVE has a turn of each number up to its rebases
record IsTurn (w : Workspace) (number : ℕ) : Type 0 where
  turn : Turn
  is : turn_of w number ≡ Some turn

turn_there : {staged : List Entry} (n number : ℕ) (w : Workspace) (d : Durable) → Lawful d staged → 0 < n → workspace_of d.spaces n ≡ Some w → number ≤ w.rebases → IsTurn w number
turn_there n number w d l above found within = by_turn (turn_of w number) refl (inside w.turns number (omega (arith, turns, within)))
  where
    turns : length w.turns ≡ w.rebases + 1
    turns = (l.spaces.each n w found).turns ∙ rw (ne_eqb w.number 0 (λ none. absurd (omega (arith, none, above, number_is d.spaces n w found)))) refl

    inside : (ts : List Turn) (i : ℕ) → i < length ts → slice_get ts i ≢ None
    inside [] i less none = absurd (omega (arith, less))
    inside (t ∷ ts) zero less none = cc
    inside (t ∷ ts) (suc i) less none = inside ts i (omega (arith, less)) none

    by_turn : (o : Option Turn) → turn_of w number ≡ o → turn_of w number ≢ None → IsTurn w number
    by_turn None is some = absurd (some is)
    by_turn (Some t) is some = record { turn = t; is = is }

-- it holds what the workspace has as its base
pub holds_base : {staged : List Entry} (p : Parts) (d : Durable) (n : ℕ) (w : Workspace) (r : Space) (c : Cell) → Stands p d → Lawful d staged → 0 < n → workspace_of d.spaces n ≡ Some w → space_of p.spaces n ≡ Some r
    → seen p r.base_version c ≡ option_map held_of (told w.lists.base c)
holds_base p d n w r c st l above found recorded =
    let t = turn_there n w.rebases w d l above found (omega arith) in
    (st.named.tells r.base_version w.parent t.turn.rebases t.turn.content (Base w r t.turn above found recorded t.is)).holds c
    ∙ ap (λ (es : List Entry). option_map held_of (told es c)) ((l.spaces.each n w found).last t.turn t.is).0

-- whose rows stand under their stamps
pub rows_base : {staged : List Entry} (p : Parts) (d : Durable) (n : ℕ) (w : Workspace) (r : Space) → Stands p d → Lawful d staged → 0 < n → workspace_of d.spaces n ≡ Some w → space_of p.spaces n ≡ Some r → HasRows p w.lists.base
rows_base p d n w r st l above found recorded =
    let t = turn_there n w.rebases w d l above found (omega arith) in
    subst (HasRows p) ((l.spaces.each n w found).last t.turn t.is).0 (st.named.tells r.base_version w.parent t.turn.rebases t.turn.content (Base w r t.turn above found recorded t.is)).rows
