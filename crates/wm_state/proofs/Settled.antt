-- Where the records stand that a batch is about.
use Rattle.std.proofs.Common.{◌≡◌, ◌≢◌, ℕ, ◌<◌, List, ◌∷◌, [], Option, Some, None, refl, sym, ap, ◌∙◌}
use Rattle.std.specs.Option.{option_and_then}
use Rattle.wm_base.proofs.Plain.{none_some}
use Rattle.wm_graph.specs.Parts.{as_space, parts_of, space_of}
use Rattle.wm_spec.specs.Records.{record_at}
use Rattle.wm_spec.specs.declared.record.Record.{Record}
use Rattle.wm_spec.specs.declared.record.Record.TheVariants as records
use Rattle.wm_spec.specs.declared.record.counters.Counters.{Counters}
use Rattle.wm_spec.specs.declared.record.space.Space.{Space}
use Rattle.wm_spec.specs.declared.record.stored.Stored.{Stored}
use Rattle.wm_state.specs.Batches.{AllUnder}
use Rattle.wm_state.specs.ById.{Ascend}
use Rattle.wm_state.proofs.ByKind.{under_found}

-- the counters and a workspace have their ids, and all ids are under the next
pub record Places (ss : List Stored) (counters_id space_id id : ℕ) (c : Counters) (a : Space) : Type 0 where
  pub sorted : Ascend ss
  pub counters : record_at ss counters_id ≡ Some (records.Counters c)
  pub one : (parts_of ss).counters ≡ c ∷ []
  pub space : record_at ss space_id ≡ Some (records.Space a)
  pub under : AllUnder id ss

-- their ids differ, and are below the new ones
pub record PlacesApart (counters_id space_id id : ℕ) : Type 0 where
  pub apart : counters_id ≢ space_id
  pub counters : counters_id < id
  pub space : space_id < id

pub places_apart : (ss : List Stored) (counters_id space_id id : ℕ) (c : Counters) (a : Space) → Places ss counters_id space_id id c a → PlacesApart counters_id space_id id
places_apart ss counters_id space_id id c a p = record {
  apart = λ same. counters_or_space (record_at ss space_id) (ap (record_at ss) (sym same) ∙ p.counters) p.space;
  counters = under_found id ss counters_id (records.Counters c) p.under p.counters;
  space = under_found id ss space_id (records.Space a) p.under p.space;
}
  where
    counters_or_space : (o : Option Record) → o ≡ Some (records.Counters c) → o ≡ Some (records.Space a) → ⊥
    counters_or_space o f g = cc

-- ---- how they are found

-- the id of a workspace has it
pub space_at : (rs : List Stored) (n : ℕ) (o : Option ℕ) (id : ℕ) (a : Space) → o ≡ Some id → option_and_then as_space (option_and_then (record_at rs) o) ≡ space_of (parts_of rs).spaces n → space_of (parts_of rs).spaces n ≡ Some a
    → record_at rs id ≡ Some (records.Space a)
space_at rs n o id a is there found = by_record (record_at rs id) (ap (λ (k : Option ℕ). option_and_then as_space (option_and_then (record_at rs) k)) (sym is) ∙ there ∙ found)
  where
    some_space : (b : Space) → Some b ≡ Some a → b ≡ a
    some_space b h = cc

    by_record : (r : Option Record) → option_and_then as_space r ≡ Some a → r ≡ Some (records.Space a)
    by_record None h = absurd (none_some (let none : Option Space = None in none) a refl h)
    by_record (Some (records.Space b)) h = ap (λ (s : Space). Some (records.Space s)) (some_space b h)
    by_record (Some _) h = absurd (none_some (let none : Option Space = None in none) a refl h)
