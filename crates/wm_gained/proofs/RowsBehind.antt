-- Rows that stay under their ids are found by their stamps still.
use Rattle.std.proofs.Common.{◌≡◌, ℕ, ◌==◌, Bool, true, false, not, cond, List, [], ◌∷◌, ◌++◌, Some, refl, sym, ap, ◌∙◌}
use Rattle.std.proofs.lemmas.Bool.{eq-eqb, eqb-true, and_parts, not-true, or_parts}
use Rattle.std.proofs.lemmas.Option.{same_Some, none-some}
use Rattle.std.specs.List.{list_any}
use Rattle.wm_base.proofs.Plain.{none_some}
use Rattle.wm_graph.specs.Parts.{as_row, parts_of, row_of}
use Rattle.wm_graph.specs.Rules.{differ, keep_rules}
use Rattle.wm_spec.specs.Records.{record_at}
use Rattle.wm_spec.specs.declared.record.Record.{Record}
use Rattle.wm_spec.specs.declared.record.Record.TheVariants as records
use Rattle.wm_spec.specs.declared.record.row.RowRecord.{RowRecord}
use Rattle.wm_spec.specs.declared.record.stored.Stored.{Stored}
use Rattle.wm_state.specs.ById.{Ascend}
use Rattle.wm_state.proofs.Apart.{ruled}
use Rattle.wm_state.proofs.ById.{record_at-away, record_at-below, record_at-here}
use Rattle.wm_state.proofs.ByKind.{Split, kinds, kinds-one, split_of, stored}
use Rattle.wm_state.proofs.Mapped.{find-passes}

-- ---- a row that is found by its stamp has an id

-- the record of a row, and where it is
pub record RowAt (ss : List Stored) (r : RowRecord) : Type 0 where
  pub id : ℕ
  pub is : record_at ss id ≡ Some (records.Row r)

row_in : (ss : List Stored) → Ascend ss → (stamp : ℕ) (r : RowRecord) → row_of (kinds as_row ss) stamp ≡ Some r → RowAt ss r
row_in [] sorted stamp r found = absurd (none-some r found)
row_in (s ∷ ss) sorted stamp r found = by_record s.record refl found (row_in ss sorted.1 stamp r)
  where
    none_there : (id : ℕ) → s.id ≡ id → record_at ss id ≡ Some (records.Row r) → ⊥
    none_there id same is = none_some (record_at ss id) (records.Row r) (record_at-below ss s.id id sorted.0 (sym same)) is

    behind : RowAt ss r → RowAt (s ∷ ss) r
    behind x = record { id = x.id; is = record_at-away s ss x.id (λ same. none_there x.id same x.is) ∙ x.is }

    by_stamp : (q : RowRecord) → s.record ≡ records.Row q → (b : Bool) → cond b (Some q) (row_of (kinds as_row ss) stamp) ≡ Some r → (row_of (kinds as_row ss) stamp ≡ Some r → RowAt ss r) → RowAt (s ∷ ss) r
    by_stamp q is true h rest = record { id = s.id; is = record_at-here s ss s.id refl ∙ ap Some is ∙ ap (λ (x : RowRecord). Some (records.Row x)) (same_Some q r h) }
    by_stamp q is false h rest = behind (rest h)

    by_record : (x : Record) → s.record ≡ x → row_of (kinds as_row (s ∷ ss)) stamp ≡ Some r → (row_of (kinds as_row ss) stamp ≡ Some r → RowAt ss r) → RowAt (s ∷ ss) r
    by_record (records.Row q) is h rest = by_stamp q is (q.stamp == stamp) (rw is at h) rest
    by_record (records.Counters q) is h rest = behind (rest (rw is at h))
    by_record (records.Table q) is h rest = behind (rest (rw is at h))
    by_record (records.Space q) is h rest = behind (rest (rw is at h))
    by_record (records.Version q) is h rest = behind (rest (rw is at h))
    by_record (records.Savepoint q) is h rest = behind (rest (rw is at h))
    by_record (records.Piece q) is h rest = behind (rest (rw is at h))
    by_record (records.Touch q) is h rest = behind (rest (rw is at h))
    by_record (records.Lock q) is h rest = behind (rest (rw is at h))
    by_record (records.Hist q) is h rest = behind (rest (rw is at h))
    by_record (records.Mark q) is h rest = behind (rest (rw is at h))
    by_record (records.Turn q) is h rest = behind (rest (rw is at h))

pub row_at : (ss : List Stored) → Ascend ss → (stamp : ℕ) (r : RowRecord) → row_of (parts_of ss).rows stamp ≡ Some r → RowAt ss r
unfolding parts_of
row_at ss sorted stamp r found = row_in ss sorted stamp r found

-- ---- a row that has an id is found by its stamp

-- none before another of its stamp
apart_front : (y : RowRecord) (front back : List RowRecord) (x : RowRecord) → list_any (λ (q : RowRecord). y.stamp == q.stamp) (front ++ x ∷ back) ≡ false → (y.stamp == x.stamp) ≡ false
apart_front y [] back x none = (or_parts (y.stamp == x.stamp) (list_any (λ (q : RowRecord). y.stamp == q.stamp) back) none).0
apart_front y (z ∷ front) back x none = apart_front y front back x (or_parts (y.stamp == z.stamp) (list_any (λ (q : RowRecord). y.stamp == q.stamp) (front ++ x ∷ back)) none).1

row_middle : (front back : List RowRecord) (x : RowRecord) → differ (λ (r q : RowRecord). r.stamp == q.stamp) (front ++ x ∷ back) ≡ true → row_of (front ++ x ∷ back) x.stamp ≡ Some x
row_middle [] back x apart = rw (eq-eqb x.stamp x.stamp refl) refl
row_middle (y ∷ front) back x apart =
    let h = and_parts (not (list_any (λ (q : RowRecord). y.stamp == q.stamp) (front ++ x ∷ back))) (differ (λ (r q : RowRecord). r.stamp == q.stamp) (front ++ x ∷ back)) apart in
    rw (apart_front y front back x (not-true (list_any (λ (q : RowRecord). y.stamp == q.stamp) (front ++ x ∷ back)) h.0)) (row_middle front back x h.1)

rows_split : (front back : List Stored) (id : ℕ) (r : RowRecord) → (parts_of (front ++ stored id (records.Row r) ∷ back)).rows ≡ kinds as_row front ++ r ∷ kinds as_row back
unfolding parts_of
rows_split front back id r = kinds-one as_row front back id (records.Row r) r refl

pub row_found : (ss : List Stored) (id : ℕ) (r : RowRecord) → keep_rules (parts_of ss) ≡ true → record_at ss id ≡ Some (records.Row r) → row_of (parts_of ss).rows r.stamp ≡ Some r
row_found ss id r rules found = by_split (split_of ss id (records.Row r) found)
  where
    apart : differ (λ (a b : RowRecord). a.stamp == b.stamp) (parts_of ss).rows ≡ true
    apart = (and_parts (differ (λ (a b : RowRecord). a.stamp == b.stamp) (parts_of ss).rows) _ (ruled (parts_of ss) rules).rows).0

    by_split : Split ss id (records.Row r) → row_of (parts_of ss).rows r.stamp ≡ Some r
    by_split s =
        let rows : (parts_of ss).rows ≡ kinds as_row s.front ++ r ∷ kinds as_row s.back = ap (λ xs. (parts_of xs).rows) s.is ∙ rows_split s.front s.back id r in
        ap (λ rs. row_of rs r.stamp) rows ∙ row_middle (kinds as_row s.front) (kinds as_row s.back) r (sym (ap (differ (λ (a b : RowRecord). a.stamp == b.stamp)) rows) ∙ apart)

-- ---- both

-- where rows stay under their ids, and the rules are kept, each is found by its stamp as before
pub rows_found_next : (ss us : List Stored) → Ascend ss → keep_rules (parts_of us) ≡ true → ((id : ℕ) (r : RowRecord) → record_at ss id ≡ Some (records.Row r) → record_at us id ≡ Some (records.Row r))
    → (stamp : ℕ) (r : RowRecord) → row_of (parts_of ss).rows stamp ≡ Some r → row_of (parts_of us).rows stamp ≡ Some r
rows_found_next ss us sorted rules stay stamp r found =
    let x = row_at ss sorted stamp r found in
    ap (row_of (parts_of us).rows) (sym (eqb-true r.stamp stamp (find-passes (λ (y : RowRecord). y.stamp == stamp) (parts_of ss).rows r found))) ∙ row_found us x.id r rules (stay x.id r x.is)
