-- What is looked up in the records is looked up in their outline.
use Rattle.std.proofs.Common.{◌≡◌, ℕ, ◌+◌, ◌==◌, nat_lt, nat_le, Bool, true, false, not, ◌&&◌, ◌||◌, List, [], ◌∷◌, Option, Some, None, refl, sym, ap, ◌∙◌}
use Rattle.std.proofs.lemmas.Bool.{eq-eqb, eqb-true, true≢false}
use Rattle.std.proofs.Math.Dec.{leb-zero}
use Rattle.std.specs.List.{find}
use Rattle.std.specs.Option.{option_and_then, option_map, option_map_or}
use Rattle.std.specs.Str.{bytes_eq}
use Rattle.wm_graph.specs.Parts.{Parts, space_of}
use Rattle.wm_graph.specs.Rules.{keep_rules}
use Rattle.wm_model.specs.Step.{counter_limit, is_child_of, is_spent, line_work, space_named, space_numbered}
use Rattle.wm_outcome.proofs.Numbered.{numbered_by}
use Rattle.wm_outline.proofs.Least.{least_none, least_passes, number_under}
use Rattle.wm_outline.proofs.Looks.{first_by, named_by}
use Rattle.wm_outline.proofs.Outlines.{counted_is}
use Rattle.wm_outline.specs.Outline.{SpaceOutline, outline_by, outline_of}
use Rattle.wm_spec.specs.declared.record.counters.Counters.{Counters}
use Rattle.wm_spec.specs.declared.record.space.Space.{Space}
use Rattle.wm_state.proofs.Named.{space_number}
use Rattle.wm_state.specs.Firsts.{first_recorded, is_child_from, least_below}
use Rattle.wm_state.specs.Standing.{space_after}
use Rattle.wm_state.specs.State.{Session}

pub named_on : (p : Parts) (xs : List Session) (m : ℕ) (name : List ℕ) (o : Option Space) → keep_rules p ≡ true → o ≡ find (λ (r : Space). bytes_eq name r.name) p.spaces → space_named name (outline_of p xs m) ≡ option_map (outline_by p) o
named_on p xs m name o rules is = named_by p rules name ∙ sym (ap (option_map (outline_by p)) is)

pub numbered_on : (p : Parts) (xs : List Session) (m n : ℕ) (o : Option Space) → o ≡ space_of p.spaces n → space_numbered n (outline_of p xs m) ≡ option_map (outline_by p) o
numbered_on p xs m n o is = numbered_by p xs m n ∙ sym (ap (option_map (outline_by p)) is)

pub child_on : (p : Parts) (xs : List Session) (m n : ℕ) (o : Option Space) → o ≡ first_recorded (is_child_from n 0 0) p.spaces → find (is_child_of n) (outline_of p xs m).spaces ≡ option_map (outline_by p) o
child_on p xs m n o is = first_by p (is_child_of n) ∙ ap (λ (test : Space → Bool). option_map (outline_by p) (first_recorded test p.spaces)) (λ i r. anywhere (r.parent == n) (not (r.number == n)) (nat_le 0 r.birth_place) (nat_le 0 r.from) (leb-zero r.birth_place) i) ∙ sym (ap (option_map (outline_by p)) is)
  where
    anywhere : (a b c d : Bool) → c ≡ true → (a && b) ≡ (a && (b && (c || d)))
    anywhere true true true d e = refl
    anywhere true false c d e = refl
    anywhere false b c d e = refl
    anywhere true true false d e = absurd (true≢false (sym e))

pub spent_on : (p : Parts) (xs : List Session) (m : ℕ) (c : Counters) (b : Bool) → p.counters ≡ c ∷ [] → b ≡ nat_lt counter_limit (c.work + line_work) → b ≡ is_spent (outline_of p xs m)
spent_on p xs m c b one is = is ∙ sym (ap (λ w. nat_lt counter_limit (w + line_work)) (counted_is p c (λ c. c.work) one))
