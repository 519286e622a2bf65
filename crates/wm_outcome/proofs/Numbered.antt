-- The workspace of a number is looked up in the outline of records.
use Rattle.std.proofs.Common.{◌≡◌, ℕ, ◌==◌, Bool, true, false, Option, Some, None, List, refl, sym, ap, ◌∙◌}
use Rattle.std.proofs.lemmas.Bool.{eq-eqb, eqb-true, true≢false}
use Rattle.std.specs.Option.{option_and_then, option_map, option_map_or}
use Rattle.wm_graph.specs.Parts.{Parts, space_of}
use Rattle.wm_model.specs.Step.{space_numbered}
use Rattle.wm_outline.proofs.Least.{least_none, least_passes, number_under}
use Rattle.wm_outline.proofs.Looks.{first_by}
use Rattle.wm_outline.specs.Outline.{SpaceOutline, outline_by, outline_of}
use Rattle.wm_spec.specs.declared.record.space.Space.{Space}
use Rattle.wm_state.proofs.Named.{space_number}
use Rattle.wm_state.specs.Firsts.{first_recorded, least_below}
use Rattle.wm_state.specs.Standing.{space_after}
use Rattle.wm_state.specs.State.{Session}

-- what is found by a number is the first that has it
numbered_first : (p : Parts) (n : ℕ) → first_recorded (λ (r : Space). r.number == n) p.spaces ≡ space_of p.spaces n
numbered_first p n = by_least (least_below (space_after p.spaces) passes) refl (space_of p.spaces n) refl
  where
    passes : ℕ → Bool
    passes k = option_map_or (λ (r : Space). r.number == n) (space_of p.spaces k) false

    number_same : (k : ℕ) (o : Option Space) → space_of p.spaces k ≡ o → option_map_or (λ (r : Space). r.number == n) o false ≡ true → k ≡ n
    number_same k None is e = absurd (true≢false (sym e))
    number_same k (Some r) is e = sym (space_number p k r is) ∙ eqb-true r.number n e

    by_least : (l : Option ℕ) → least_below (space_after p.spaces) passes ≡ l → (o : Option Space) → space_of p.spaces n ≡ o → option_and_then (space_of p.spaces) (least_below (space_after p.spaces) passes) ≡ space_of p.spaces n
    by_least None none None is = ap (option_and_then (space_of p.spaces)) none ∙ sym is
    by_least None none (Some r) is =
        absurd
        (true≢false
        (sym (ap (λ o. option_map_or (λ (r : Space). r.number == n) o false) is ∙ eq-eqb r.number n (space_number p n r is)) ∙ least_none (space_after p.spaces) passes none n (number_under p n r is)))
    by_least (Some k) found o is = ap (option_and_then (space_of p.spaces)) found ∙ ap (space_of p.spaces) (number_same k (space_of p.spaces k) refl (least_passes (space_after p.spaces) passes k found))

pub numbered_by : (p : Parts) (xs : List Session) (m n : ℕ) → space_numbered n (outline_of p xs m) ≡ option_map (outline_by p) (space_of p.spaces n)
numbered_by p xs m n = first_by p (λ (x : SpaceOutline). x.number == n) ∙ ap (option_map (outline_by p)) (numbered_first p n)
