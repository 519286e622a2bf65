-- Savepoints of a workspace stay where it goes back to one of them, where no record of one is behind that one's.
use Rattle.std.proofs.Common.{◌≡◌, ℕ, ◌==◌, ◌&&◌, ◌||◌, nat_lt, not, Bool, true, false, cond, List, [], ◌∷◌, map, refl, sym, ap, ◌∙◌}
use Rattle.std.specs.List.{filter, list_all, list_any}
use Rattle.wm_base.proofs.Plain.{and_swap}
use Rattle.wm_graph.specs.Parts.{Parts}
use Rattle.wm_model.specs.Step.{stays_behind}
use Rattle.wm_spec.specs.declared.record.savepoint.Savepoint.{Savepoint}
use Rattle.wm_state.specs.Firsts.{is_saved_behind}
use Rattle.wm_state.specs.Standing.{SavepointFields, by_making, place_making, saved_fields, saved_in}

-- what holds of all holds of all by making
all_placed : (R : Savepoint → Bool) (y : Savepoint) (ys : List Savepoint) → list_all R (place_making y ys) ≡ (R y && list_all R ys)
all_placed R y [] = refl
all_placed R y (z ∷ zs) = by_test (nat_lt z.making y.making) (all_placed R y zs)
  where
    by_test : (b : Bool) → list_all R (place_making y zs) ≡ (R y && list_all R zs) → list_all R (cond b (z ∷ place_making y zs) (y ∷ z ∷ zs)) ≡ (R y && (R z && list_all R zs))
    by_test true rest = ap (λ b. R z && b) rest ∙ and_swap (R z) (R y) (list_all R zs)
    by_test false rest = refl

all_made : (R : Savepoint → Bool) (xs : List Savepoint) → list_all R (by_making xs) ≡ list_all R xs
all_made R [] = refl
all_made R (x ∷ xs) = all_placed R x (by_making xs) ∙ ap (λ b. R x && b) (all_made R xs)

-- all of those that one test leaves pass another where none is left that does not
all_left : (k R : Savepoint → Bool) (xs : List Savepoint) → list_all R (filter k xs) ≡ not (list_any (λ y. k y && not (R y)) xs)
all_left k R [] = refl
all_left k R (x ∷ xs) = by_test (k x) (R x) (all_left k R xs) refl
  where
    by_test : (b c : Bool) → list_all R (filter k xs) ≡ not (list_any (λ y. k y && not (R y)) xs) → R x ≡ c → list_all R (cond b (x ∷ filter k xs) (filter k xs)) ≡ not ((b && not (R x)) || list_any (λ y. k y && not (R y)) xs)
    by_test true true rest e = rw e rest
    by_test true false rest e = rw e refl
    by_test false c rest e = rest

all_mapped : (P : SavepointFields → Bool) (xs : List Savepoint) → list_all P (map saved_fields xs) ≡ list_all (λ y. P (saved_fields y)) xs
all_mapped P [] = refl
all_mapped P (x ∷ xs) = ap (λ b. P (saved_fields x) && b) (all_mapped P xs)

pub none_behind : (p : Parts) (n : ℕ) (x : Savepoint) → not (list_any (is_saved_behind n x.place x.log_length) p.savepoints) ≡ list_all (stays_behind (saved_fields x)) (map saved_fields (saved_in p n))
none_behind p n x =
    let stays : Savepoint → Bool = λ y. stays_behind (saved_fields x) (saved_fields y) in
    sym
    (all_mapped (stays_behind (saved_fields x)) (saved_in p n) ∙ all_made stays (filter (λ (y : Savepoint). y.space == n) p.savepoints) ∙ all_left (λ (y : Savepoint). y.space == n) stays p.savepoints)
