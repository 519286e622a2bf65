-- Decisions can be committed just where the tests pass.
use Rattle.std.proofs.Common.{◌≡◌, ℕ, ◌==◌, ◌&&◌, ◌↔◌, nat_le, nat_lt, Bool, true, false, IsTrue, List, [], ◌∷◌, Option, Some, None, refl, sym, ap, ◌∙◌, subst, eqb-true, eq-eqb}
use Rattle.std.proofs.lemmas.List.Elements.{All-cons, All-head, All-nil, All-tail}
use Rattle.std.proofs.lemmas.Bool.{and_from, and_parts, true≢false}
use Rattle.std.specs.List.{All, list_all}
use Rattle.std.specs.Option.{option_map_or}
use Rattle.std.specs.Ordering.{is_eq}
use Rattle.wm_base.specs.Key.{key_order}
use Rattle.wm_base.specs.declared.instant.TheConstants.{END}
use Rattle.wm_base.specs.declared.row.Row.{Row}
use Rattle.wm_base.specs.declared.value.Value.{Value}
use Rattle.wm_decided.specs.Staged.{IsRestorable, IsStaged, copy_of}
use Rattle.wm_graph.specs.Parts.{Parts, row_of, table_of}
use Rattle.wm_graph.specs.Rules.{is_key, is_key_of, is_row_of, key_of}
use Rattle.wm_net.specs.Listed.{Stretch}
use Rattle.wm_spec.specs.Lists.{Told}
use Rattle.wm_spec.specs.declared.record.counters.Counters.{Counters}
use Rattle.wm_spec.specs.declared.record.row.RowRecord.{RowRecord}
use Rattle.wm_spec.specs.declared.record.table.Table.{Table}
use Rattle.wm_state.specs.Drafts.{can_keep}
use Rattle.wm_state.specs.Entries.{fits_table, is_keyed}
use Rattle.wm_state.specs.State.{Decision}
use Rattle.wm_state.proofs.Laying.{key_itself, key_same}
use Rattle.wm_state.proofs.Mapped.{find-passes}
use Rattle.wm_resolve.specs.Restoring.{fits_key, has_row, is_restored, is_staged}

first_counters : (c d : Counters) → c ∷ [] ≡ d ∷ [] → c ≡ d
first_counters c d e = cc

module _ (p : Parts) (c : Counters) (one : p.counters ≡ c ∷ []) where
  -- ---- one copy

  row_there : (table stamp : ℕ) (values : List Value) → has_row p table stamp values ≡ true → row_of p.rows stamp ≡ Some (record { stamp = stamp; table = table; values = values })
  row_there table stamp values has = by_row (row_of p.rows stamp) refl has
    where
      by_row : (o : Option RowRecord) → row_of p.rows stamp ≡ o → option_map_or (λ (r : RowRecord). (r.table == table) && is_eq (key_order r.values values)) o false ≡ true
          → o ≡ Some (record { stamp = stamp; table = table; values = values })
      by_row None is e = absurd (true≢false (sym e))
      by_row (Some r) is e =
          let two = and_parts (r.table == table) (is_eq (key_order r.values values)) e in
          let number : r.stamp ≡ stamp = eqb-true r.stamp stamp (find-passes (λ (q : RowRecord). q.stamp == stamp) p.rows r is) in
          let at : r.table ≡ table = eqb-true r.table table two.0 in
          let same : r.values ≡ values = key_same r.values values two.1 in
          λ i. Some (record { stamp = number i; table = at i; values = same i })

  row_has : (table stamp : ℕ) (values : List Value) → row_of p.rows stamp ≡ Some (record { stamp = stamp; table = table; values = values }) → has_row p table stamp values ≡ true
  row_has table stamp values is =
      ap (λ o. option_map_or (λ (r : RowRecord). (r.table == table) && is_eq (key_order r.values values)) o false) is
      ∙ and_from (table == table) (is_eq (key_order values values)) (eq-eqb table table refl) (key_itself values)

  module _ (d : Decision) (t : Table) (there : table_of p.tables d.table ≡ Some t) (key : is_key_of d.key t ≡ true) (kept : list_all can_keep d.key ≡ true) where
    restored : (s : Stretch Told) → is_restored p c.next_stamp t d.table d.key s ≡ true → IsRestorable p (copy_of d s)
    restored s is =
        let two = and_parts (t.versioned && nat_lt s.value.stamp c.next_stamp) _ is in
        let on = and_parts t.versioned (nat_lt s.value.stamp c.next_stamp) two.0 in
        record {
          given = λ k same. ap (λ (x : Counters). nat_lt s.value.stamp x.next_stamp) (first_counters k c (sym same ∙ one)) ∙ on.1;
          ready = ap (λ (o : Option Table). option_map_or (λ (u : Table). u.versioned) o false) there ∙ on.0;
          well = ap (λ (o : Option Table). option_map_or (fits_table d.key s.value.row) o false) there ∙ and_from (is_key_of d.key t) _ key (well s.value.row two.1);
          kept = and_from (list_all can_keep d.key) _ kept (can s.value.row two.1);
          copied = λ row has. by_row row (subst (λ (o : Option Row). option_map_or (λ (row : Row). fits_key t d.key row.values && has_row p d.table s.value.stamp row.values) o true ≡ true) has two.1);
        }
      where
        parts : (row : Row) → (fits_key t d.key row.values && has_row p d.table s.value.stamp row.values) ≡ true
            → ((is_row_of row.values t && is_key d.key (key_of t row.values)) ≡ true) × (list_all can_keep row.values ≡ true) × (has_row p d.table s.value.stamp row.values ≡ true)
        parts row e =
            let two = and_parts (fits_key t d.key row.values) (has_row p d.table s.value.stamp row.values) e in
            let fit = and_parts (is_row_of row.values t && is_key d.key (key_of t row.values)) (list_all can_keep row.values) two.0 in
            (fit.0, fit.1, two.1)

        well : (o : Option Row) → option_map_or (λ (row : Row). fits_key t d.key row.values && has_row p d.table s.value.stamp row.values) o true ≡ true → option_map_or (is_keyed t d.key) o true ≡ true
        well None e = refl
        well (Some row) e = (parts row e).0

        can : (o : Option Row) → option_map_or (λ (row : Row). fits_key t d.key row.values && has_row p d.table s.value.stamp row.values) o true ≡ true → option_map_or (λ (row : Row). list_all can_keep row.values) o true ≡ true
        can None e = refl
        can (Some row) e = (parts row e).1

        by_row : (row : Row) → (fits_key t d.key row.values && has_row p d.table s.value.stamp row.values) ≡ true → row_of p.rows s.value.stamp ≡ Some (record { stamp = s.value.stamp; table = d.table; values = row.values })
        by_row row e = row_there d.table s.value.stamp row.values (parts row e).2

    restores : (s : Stretch Told) → IsRestorable p (copy_of d s) → is_restored p c.next_stamp t d.table d.key s ≡ true
    restores s r =
        and_from (t.versioned && nat_lt s.value.stamp c.next_stamp) _
        (and_from t.versioned (nat_lt s.value.stamp c.next_stamp) (sym (ap (λ (o : Option Table). option_map_or (λ (u : Table). u.versioned) o false) there) ∙ r.ready) (r.given c one))
        (by_row s.value.row refl)
      where
        well : (is_key_of d.key t && option_map_or (is_keyed t d.key) s.value.row true) ≡ true
        well = sym (ap (λ (o : Option Table). option_map_or (fits_table d.key s.value.row) o false) there) ∙ r.well

        by_row : (o : Option Row) → s.value.row ≡ o → option_map_or (λ (row : Row). fits_key t d.key row.values && has_row p d.table s.value.stamp row.values) o true ≡ true
        by_row None is = refl
        by_row (Some row) is =
            and_from (fits_key t d.key row.values) (has_row p d.table s.value.stamp row.values)
            (and_from (is_row_of row.values t && is_key d.key (key_of t row.values)) (list_all can_keep row.values)
            (sym (ap (λ (o : Option Row). option_map_or (is_keyed t d.key) o true) is) ∙ (and_parts (is_key_of d.key t) _ well).1)
            (sym (ap (λ (o : Option Row). option_map_or (λ (x : Row). list_all can_keep x.values) o true) is) ∙ (and_parts (list_all can_keep d.key) _ r.kept).1))
            (row_has d.table s.value.stamp row.values (r.copied row is))

    all_restored : (ss : List (Stretch Told)) → list_all (is_restored p c.next_stamp t d.table d.key) ss ≡ true → All (λ (s : Stretch Told). IsRestorable p (copy_of d s)) ss
    all_restored [] e = All-nil (λ (s : Stretch Told). IsRestorable p (copy_of d s))
    all_restored (s ∷ ss) e =
        let two = and_parts (is_restored p c.next_stamp t d.table d.key s) _ e in All-cons (λ (x : Stretch Told). IsRestorable p (copy_of d x)) s ss (restored s two.0) (all_restored ss two.1)

    all_restores : (ss : List (Stretch Told)) → All (λ (s : Stretch Told). IsRestorable p (copy_of d s)) ss → list_all (is_restored p c.next_stamp t d.table d.key) ss ≡ true
    all_restores [] all = refl
    all_restores (s ∷ ss) all =
        and_from (is_restored p c.next_stamp t d.table d.key s) _ (restores s (All-head (λ (x : Stretch Told). IsRestorable p (copy_of d x)) s ss all))
        (all_restores ss (All-tail (λ (x : Stretch Told). IsRestorable p (copy_of d x)) s ss all))

  -- ---- a decision

  abbrev of_table : Decision → Option Table → Bool
  of_table d o = option_map_or (λ (t : Table). (is_key_of d.key t && list_all can_keep d.key) && list_all (is_restored p c.next_stamp t d.table d.key) d.copied) o false

  tested_staged : (d : Decision) → is_staged p c.next_stamp d ≡ true → IsStaged p d
  tested_staged d is = by_table (table_of p.tables d.table) refl two.1
    where
      two : ((nat_lt d.from d.till && nat_le d.till END) ≡ true) × (of_table d (table_of p.tables d.table) ≡ true)
      two = and_parts (nat_lt d.from d.till && nat_le d.till END) (of_table d (table_of p.tables d.table)) is

      by_table : (o : Option Table) → table_of p.tables d.table ≡ o → of_table d o ≡ true → IsStaged p d
      by_table None there e = absurd (true≢false (sym e))
      by_table (Some t) there e =
          let parts = and_parts (is_key_of d.key t && list_all can_keep d.key) _ e in
          let key = and_parts (is_key_of d.key t) (list_all can_keep d.key) parts.0 in
          record {
            cells = and_from (nat_lt d.from d.till && nat_le d.till END) _ two.0 (ap (λ (o : Option Table). option_map_or (is_key_of d.key) o false) there ∙ key.0);
            kept = key.1;
            copies = all_restored d t there key.0 key.1 d.copied parts.1;
          }

  staged_tested : (d : Decision) → IsStaged p d → is_staged p c.next_stamp d ≡ true
  staged_tested d s = and_from (nat_lt d.from d.till && nat_le d.till END) (of_table d (table_of p.tables d.table)) two.0 (by_table (table_of p.tables d.table) refl two.1)
    where
      two : ((nat_lt d.from d.till && nat_le d.till END) ≡ true) × (option_map_or (is_key_of d.key) (table_of p.tables d.table) false ≡ true)
      two = and_parts (nat_lt d.from d.till && nat_le d.till END) _ s.cells

      by_table : (o : Option Table) → table_of p.tables d.table ≡ o → option_map_or (is_key_of d.key) o false ≡ true → of_table d o ≡ true
      by_table None there e = absurd (true≢false (sym e))
      by_table (Some t) there e =
          and_from (is_key_of d.key t && list_all can_keep d.key) _ (and_from (is_key_of d.key t) (list_all can_keep d.key) e s.kept) (all_restores d t there e s.kept d.copied s.copies)

  pub all_tested : (ds : List Decision) → list_all (is_staged p c.next_stamp) ds ≡ true → All (IsStaged p) ds
  all_tested [] e = All-nil (IsStaged p)
  all_tested (d ∷ ds) e = let two = and_parts (is_staged p c.next_stamp d) _ e in All-cons (IsStaged p) d ds (tested_staged d two.0) (all_tested ds two.1)

  pub all_staged : (ds : List Decision) → All (IsStaged p) ds → list_all (is_staged p c.next_stamp) ds ≡ true
  all_staged [] all = refl
  all_staged (d ∷ ds) all = and_from (is_staged p c.next_stamp d) _ (staged_tested d (All-head (IsStaged p) d ds all)) (all_staged ds (All-tail (IsStaged p) d ds all))

  pub staged_decides : (ds : List Decision) (b : Bool) → b ≡ list_all (is_staged p c.next_stamp) ds → IsTrue b ↔ All (IsStaged p) ds
  staged_decides ds b is = (λ passed. all_tested ds (sym is ∙ passed), λ all. is ∙ all_staged ds all)
