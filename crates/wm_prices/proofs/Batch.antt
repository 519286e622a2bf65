-- What a batch changes that puts the counters and a workspace, and beside them drops some records and puts others.
use Rattle.std.proofs.Common.{◌≡◌, ◌≢◌, ℕ, ◌+◌, ◌==◌, true, false, List, [], ◌∷◌, ◌++◌, map, length, Option, Some, refl, sym, ap, ◌∙◌, arith}
use Rattle.std.proofs.lemmas.Bool.{eq-eqb, eqb-false, or_parts, true≢false}
use Rattle.std.proofs.lemmas.List.{length-append, length-map}
use Rattle.std.proofs.lemmas.List.Folds.{list_any-append}
use Rattle.std.specs.List.{list_any}
use Rattle.std.specs.Option.{option_map_or}
use Rattle.wm_spec.specs.Records.{record_at}
use Rattle.wm_spec.specs.declared.record.Record.{Record}
use Rattle.wm_spec.specs.declared.record.Record.TheVariants as records
use Rattle.wm_spec.specs.declared.record.batch.Change.{Change}
use Rattle.wm_spec.specs.declared.record.counters.Counters.{Counters}
use Rattle.wm_spec.specs.declared.record.space.Space.{Space}
use Rattle.wm_spec.specs.declared.record.stored.Stored.{Stored}
use Rattle.wm_state.proofs.RowsStay.{AwayFrom, away_append, away_dropped, away_outside, stays}
use Rattle.wm_state.specs.Batches.{drop_one, put}
use Rattle.wm_state.specs.ById.{applied}
use Rattle.wm_state.specs.Writes.{put_all}
use Rattle.wm_prices.specs.Prices.{ChangesBeside, is_head}

-- the ids of new records from one on
abbrev ids_from : ℕ → List Record → List ℕ
ids_from id [] = []
ids_from id (r ∷ rs) = id ∷ ids_from (id + 1) rs

length-ids : (id : ℕ) (rs : List Record) → length (ids_from id rs) ≡ length rs
length-ids id [] = refl
length-ids id (r ∷ rs) = let rest = length-ids (id + 1) rs in omega (arith, rest)

away_new : (id from : ℕ) (rs : List Record) → list_any (λ k. k == id) (ids_from from rs) ≡ false → AwayFrom id (put_all from rs)
away_new id from [] none = tt
away_new id from (r ∷ rs) none = let h = or_parts (from == id) (list_any (λ k. k == id) (ids_from (from + 1) rs)) none in (eqb-false from id h.0, away_new id (from + 1) rs h.1)

-- beside the counters and the workspace it changes as many records as it changes in front, drops and puts
pub batch_beside : (old : List Stored) (n counters_id space_id id : ℕ) (c counters : Counters) (a space : Space) (front : List Change) (dropped : List ℕ) (news : List Record) → record_at old counters_id ≡ Some (records.Counters c)
    → record_at old space_id ≡ Some (records.Space a) → a.number ≡ n
    → ChangesBeside (is_head n) (length front + (length dropped + length news)) old (applied (front ++ (put counters_id (records.Counters counters) ∷ put space_id (records.Space space) ∷ (map drop_one dropped ++ put_all id news))) old)
batch_beside old n counters_id space_id id c counters a space front dropped news counters_at space_at number = record {
  ids = first ++ (dropped ++ ids_from id news);
  few =
      let whole = length-append first (dropped ++ ids_from id news) in
      let behind = length-append dropped (ids_from id news) in
      let fronts = length-map front (λ (x : Change). x.id) in
      let new = length-ids id news in
      omega (arith, whole, behind, fronts, new);
  others = λ i none outside.
      let h = or_parts (list_any (λ k. k == i) first) (list_any (λ k. k == i) (dropped ++ ids_from id news)) (sym (list_any-append (λ k. k == i) first (dropped ++ ids_from id news)) ∙ none) in
      let g = or_parts (list_any (λ k. k == i) dropped) (list_any (λ k. k == i) (ids_from id news)) (sym (list_any-append (λ k. k == i) dropped (ids_from id news)) ∙ h.1) in
      stays _ old i
      (away_append i front _ (away_outside front i h.0) (
        head_apart counters_id i (records.Counters c) counters_at refl outside,
        (
          head_apart space_id i (records.Space a) space_at (eq-eqb a.number n number) outside,
          away_append i (map drop_one dropped) (put_all id news) (away_dropped i dropped g.0) (away_new i id news g.1),
        ),
      ));
}
  where
    first : List ℕ
    first = map (λ (x : Change). x.id) front

    head_apart : (k i : ℕ) (r : Record) → record_at old k ≡ Some r → is_head n r ≡ true → option_map_or (is_head n) (record_at old i) false ≡ false → k ≢ i
    head_apart k i r found head outside same =
        true≢false (sym (ap (λ (o : Option Record). option_map_or (is_head n) o false) (ap (record_at old) (sym same) ∙ found) ∙ head) ∙ outside)
