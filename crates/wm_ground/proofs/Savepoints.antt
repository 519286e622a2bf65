-- Savepoints that are looked up in the records are looked up in the outline of their workspace.
use Rattle.std.proofs.Common.{◌≡◌, ℕ, ◌==◌, ◌&&◌, Bool, true, false, cond, List, [], ◌∷◌, length, map, Option, Some, None, refl, sym, ap, ◌∙◌}
use Rattle.std.proofs.lemmas.List.{length-map}
use Rattle.std.proofs.lemmas.List.Sums.{length-filter}
use Rattle.std.specs.List.{count_by, filter, find}
use Rattle.std.specs.Option.{option_map}
use Rattle.std.specs.Str.{bytes_eq}
use Rattle.wm_graph.specs.Parts.{Parts}
use Rattle.wm_graph.specs.Rules.{keep_rules}
use Rattle.wm_model.specs.Step.{savepoint_at, savepoint_called}
use Rattle.wm_outline.specs.Outline.{outline_by}
use Rattle.wm_spec.specs.declared.record.savepoint.Savepoint.{Savepoint}
use Rattle.wm_spec.specs.declared.record.space.Space.{Space}
use Rattle.wm_state.proofs.Apart.{ruled}
use Rattle.wm_state.proofs.Making.{find-making, is_made, length-making, same_making}
use Rattle.wm_state.proofs.Mapped.{find-filter}
use Rattle.wm_state.proofs.Named.{ruled_savepoints}
use Rattle.wm_state.proofs.Tests.{differ_filter}
use Rattle.wm_state.specs.Standing.{SavepointFields, saved_as, saved_fields, saved_in}

-- the fields of the first record whose fields pass a test
first_saved : (P : SavepointFields → Bool) (xs : List Savepoint) → find P (map saved_fields xs) ≡ option_map saved_fields (find (λ (x : Savepoint). P (saved_fields x)) xs)
first_saved P [] = refl
first_saved P (x ∷ xs) = by_test (P (saved_fields x)) (first_saved P xs)
  where
    by_test : (b : Bool) → find P (map saved_fields xs) ≡ option_map saved_fields (find (λ (x : Savepoint). P (saved_fields x)) xs)
        → cond b (Some (saved_fields x)) (find P (map saved_fields xs)) ≡ option_map saved_fields (cond b (Some x) (find (λ (x : Savepoint). P (saved_fields x)) xs))
    by_test true rest = refl
    by_test false rest = rest

pub called_on : (p : Parts) (r : Space) (name : List ℕ) (o : Option Savepoint) → o ≡ find (λ (x : Savepoint). bytes_eq name x.name) (saved_in p r.number) → savepoint_called name (outline_by p r) ≡ option_map saved_fields o
called_on p r name o is = first_saved (λ (k : SavepointFields). bytes_eq name k.name) (saved_in p r.number) ∙ ap (option_map saved_fields) (sym is)

pub made_on : (p : Parts) (r : Space) (making : ℕ) (o : Option Savepoint) → keep_rules p ≡ true → o ≡ saved_as p r.number making → savepoint_at making (outline_by p r) ≡ option_map saved_fields o
made_on p r making o rules is =
    let q = ruled p rules in
    let mine : Savepoint → Bool = λ (x : Savepoint). x.space == r.number in
    first_saved (λ (k : SavepointFields). k.making == making) (saved_in p r.number)
    ∙ ap (option_map saved_fields) (find-making making (filter mine p.savepoints) (differ_filter same_making mine p.savepoints (ruled_savepoints p q.counters.work q.savepoints).makings) ∙ find-filter mine (is_made making) p.savepoints ∙ sym is)

pub count_on : (p : Parts) (r : Space) (n : ℕ) → n ≡ count_by (λ (x : Savepoint). x.space == r.number) p.savepoints → n ≡ length (outline_by p r).savepoints
count_on p r n is =
    is
    ∙ sym
    (length-map (saved_in p r.number) saved_fields ∙ length-making (filter (λ (x : Savepoint). x.space == r.number) p.savepoints) ∙ length-filter (λ (x : Savepoint). x.space == r.number) p.savepoints)
