-- What is looked up among the savepoints of an outline is looked up among their records.
use Rattle.std.proofs.Common.{◌≡◌, ℕ, ◌==◌, nat_le, Bool, true, false, List, [], ◌∷◌, length, map, Option, None, Some, is_some, refl, sym, ap, ◌∙◌}
use Rattle.std.proofs.lemmas.List.{length-map}
use Rattle.std.proofs.lemmas.List.Sums.{length-filter}
use Rattle.std.specs.List.{count_by, filter, find}
use Rattle.std.specs.Option.{option_map}
use Rattle.std.specs.Str.{bytes_eq}
use Rattle.wm_graph.specs.Parts.{Parts}
use Rattle.wm_graph.specs.Rules.{keep_rules}
use Rattle.wm_model.specs.Step.{savepoint_at, savepoint_called}
use Rattle.wm_outline.specs.Outline.{outline_by}
use Rattle.wm_spec.specs.declared.record.savepoint.Savepoint.{Savepoint}
use Rattle.wm_spec.specs.declared.record.space.Space.{Space}
use Rattle.wm_state.proofs.Apart.{ruled}
use Rattle.wm_state.proofs.Making.{find-making, is_made, length-making, same_making}
use Rattle.wm_state.proofs.Mapped.{find-alike, find-filter}
use Rattle.wm_state.proofs.Named.{ruled_savepoints}
use Rattle.wm_state.proofs.Tests.{differ_filter}
use Rattle.wm_state.specs.Points.{HasRoom}
use Rattle.wm_state.specs.Standing.{SavepointFields, saved_as, saved_fields, saved_in}

-- the first that passes a test of its fields
first_saved : (P : SavepointFields → Bool) (xs : List Savepoint) → find P (map saved_fields xs) ≡ option_map saved_fields (find (λ (x : Savepoint). P (saved_fields x)) xs)
first_saved P xs = itself (find P (map saved_fields xs)) ∙ sym (find-alike saved_fields (λ (k : SavepointFields). k) P xs (map saved_fields xs) (same (map saved_fields xs)))
  where
    itself : (o : Option SavepointFields) → o ≡ option_map (λ (k : SavepointFields). k) o
    itself None = refl
    itself (Some k) = refl

    same : (ks : List SavepointFields) → ks ≡ map (λ (k : SavepointFields). k) ks
    same [] = refl
    same (k ∷ ks) = ap (λ l. k ∷ l) (same ks)

pub called_by : (p : Parts) (r : Space) (name : List ℕ) → savepoint_called name (outline_by p r) ≡ option_map saved_fields (find (λ (x : Savepoint). bytes_eq name x.name) (saved_in p r.number))
called_by p r name = first_saved (λ (k : SavepointFields). bytes_eq name k.name) (saved_in p r.number)

pub made_by : (p : Parts) (r : Space) (making : ℕ) → keep_rules p ≡ true → savepoint_at making (outline_by p r) ≡ option_map saved_fields (saved_as p r.number making)
made_by p r making rules =
    let h = ruled p rules in
    first_saved (λ (k : SavepointFields). k.making == making) (saved_in p r.number)
    ∙ ap (option_map saved_fields)
    (find-making making (filter (λ (x : Savepoint). x.space == r.number) p.savepoints)
    (differ_filter same_making (λ (x : Savepoint). x.space == r.number) p.savepoints (ruled_savepoints p h.counters.work h.savepoints).makings)
    ∙ find-filter (λ (x : Savepoint). x.space == r.number) (is_made making) p.savepoints)

pub counted_by : (p : Parts) (r : Space) → length (outline_by p r).savepoints ≡ count_by (λ (x : Savepoint). x.space == r.number) p.savepoints
counted_by p r =
    length-map (saved_in p r.number) saved_fields
    ∙ length-making (filter (λ (x : Savepoint). x.space == r.number) p.savepoints)
    ∙ length-filter (λ (x : Savepoint). x.space == r.number) p.savepoints

-- a workspace has room where its outline has it
pub has_room : (p : Parts) (r : Space) (name : List ℕ) → is_some (savepoint_called name (outline_by p r)) ≡ false → nat_le 4096 (length (outline_by p r).savepoints) ≡ false → HasRoom p r name
has_room p r name new few = record {
  new = none (find (λ (x : Savepoint). bytes_eq name x.name) (saved_in p r.number)) (ap is_some (sym (called_by p r name)) ∙ new);
  few = ap (nat_le 4096) (sym (counted_by p r)) ∙ few;
}
  where
    none : (o : Option Savepoint) → is_some (option_map saved_fields o) ≡ false → o ≡ None
    none None e = refl
    none (Some x) e = cc
