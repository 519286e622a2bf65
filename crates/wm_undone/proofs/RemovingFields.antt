-- A workspace is gone: what is looked up then, and the fields of the records.
use Rattle.std.proofs.Common.{◌≡◌, ◌≢◌, ℕ, suc, ◌==◌, nat_le, true, ◌&&◌, List, [], map, length, Some, None, is_some, refl, sym, ap, ◌∙◌, ◌⊎◌, inl, inr, arith}
use Rattle.std.proofs.lemmas.Bool.{cases_eq, eqb-true, and_parts}
use Rattle.std.proofs.lemmas.Option.{none-some}
use Rattle.std.specs.List.{list_all}
use Rattle.std.specs.Option.{option_map}
use Rattle.std.specs.Str.{bytes_eq}
use Rattle.wm_base.proofs.Plain.{some_mapped}
use Rattle.wm_graph.specs.Parts.{Parts, space_of}
use Rattle.wm_graph.specs.Rules.{differ, is_space, keep_rules}
use Rattle.wm_spec.specs.declared.record.counters.Counters.{Counters}
use Rattle.wm_spec.specs.declared.record.savepoint.Savepoint.{Savepoint as Record}
use Rattle.wm_spec.specs.declared.record.space.Space.{Space}
use Rattle.wm_state.specs.State.{Durable, Workspace, savepoints_of, workspace_of}
use Rattle.wm_state.specs.Standing.{CountersStand, FieldsStand, OnceStand, SavepointsStand, SpacesStand, by_making, fields_in, fields_of, fields_saved, saved_fields, saved_in}
use Rattle.wm_state.proofs.Apart.{ruled}
use Rattle.wm_state.proofs.Frames.{savepoints_of-none}
use Rattle.wm_state.proofs.Tests.{differ_filter}
use Rattle.wm_undone.specs.Removing.{CanRemove, without}
use Rattle.wm_undone.proofs.RemovingRecords.{filter_other, filter_own, find_other, find_own, one_less, space_away, space_none, thinned}

-- no two records of workspaces have one number
numbers_apart : (p : Parts) → keep_rules p ≡ true → differ (λ (x y : Space). x.number == y.number) p.spaces ≡ true
numbers_apart p rules =
    let g = and_parts (nat_le (length p.spaces) 1024 && is_some (space_of p.spaces 0)) _ (ruled p rules).spaces in
    (and_parts (differ (λ (x y : Space). x.number == y.number) p.spaces) (differ (λ (x y : Space). bytes_eq x.name y.name) p.spaces && list_all (is_space (space_of p.spaces)) p.spaces) g.1).0

module _ (p : Parts) (s t : Durable) (n : ℕ) (counters : List Counters) (may : CanRemove p n) (rules : keep_rules p ≡ true) (spaces : t.spaces ≡ without n s.spaces) where
  -- ---- workspaces

  pub found_none : workspace_of t.spaces n ≡ None
  found_none = ap (λ ws. workspace_of ws n) spaces ∙ find_own (λ (w : Workspace). w.number) n (λ (w : Workspace). w.number == n) (λ w e. eqb-true w.number n e) s.spaces

  pub found_away : (m : ℕ) → m ≢ n → workspace_of t.spaces m ≡ workspace_of s.spaces m
  found_away m away = ap (λ ws. workspace_of ws m) spaces ∙ find_other (λ (w : Workspace). w.number) n m (λ (w : Workspace). w.number == m) (λ w e. eqb-true w.number m e) away s.spaces

  -- each that is there is another one, and was there
  pub found_before : (m : ℕ) (w : Workspace) → workspace_of t.spaces m ≡ Some w → (m ≢ n) × (workspace_of s.spaces m ≡ Some w)
  found_before m w is = (away, sym (found_away m away) ∙ is)
    where
      away : m ≢ n
      away same = none-some w (sym found_none ∙ ap (workspace_of t.spaces) (sym same) ∙ is)

  -- ---- the fields

  SpacesStand-removed : SpacesStand p s → SpacesStand (thinned p n counters) t
  SpacesStand-removed stand = record { same = λ m. by_number m (cases_eq m n) }
    where
      by_number : (m : ℕ) → (m ≡ n) ⊎ (m ≢ n) → option_map fields_of (space_of (thinned p n counters).spaces m) ≡ option_map fields_in (workspace_of t.spaces m)
      by_number m (inl here) =
          ap (λ i. option_map fields_of (space_of (thinned p n counters).spaces i)) here ∙ ap (option_map fields_of) (space_none p n counters)
          ∙ ap (option_map fields_in) (sym found_none) ∙ ap (λ i. option_map fields_in (workspace_of t.spaces i)) (sym here)
      by_number m (inr away) = ap (option_map fields_of) (space_away p n counters m away) ∙ stand.same m ∙ ap (option_map fields_in) (sym (found_away m away))

  OnceStand-removed : SpacesStand p s → OnceStand p s → OnceStand (thinned p n counters) t
  OnceStand-removed stand once = record {
    numbers = ap (differ (λ (v w : Workspace). v.number == w.number)) spaces ∙ differ_filter (λ (v w : Workspace). v.number == w.number) _ s.spaces once.numbers;
    count =
        one_fewer (length (thinned p n counters).spaces) (length (without n s.spaces)) (length p.spaces) (length s.spaces)
        (one_less (λ (r : Space). r.number) n p.spaces (numbers_apart p rules) may.there)
        (one_less (λ (w : Workspace). w.number) n s.spaces once.numbers (sym (some_mapped fields_in (workspace_of s.spaces n)) ∙ ap is_some (sym (stand.same n)) ∙ some_mapped fields_of (space_of p.spaces n) ∙ may.there))
        once.count
        ∙ ap length (sym spaces);
  }
    where
      one_fewer : (i j k l : ℕ) → suc i ≡ k → suc j ≡ l → k ≡ l → i ≡ j
      one_fewer i j k l e f h = omega (arith, e, f, h)

  SavepointsStand-removed : SavepointsStand p s → SavepointsStand (thinned p n counters) t
  SavepointsStand-removed stand = record { same = λ m. by_number m (cases_eq m n) }
    where
      saved_none : saved_in (thinned p n counters) n ≡ []
      saved_none = ap by_making (filter_own (λ (x : Record). x.space) n (λ (x : Record). x.space == n) (λ x e. eqb-true x.space n e) p.savepoints)

      saved_others : (m : ℕ) → m ≢ n → saved_in (thinned p n counters) m ≡ saved_in p m
      saved_others m away = ap by_making (filter_other (λ (x : Record). x.space) n m (λ (x : Record). x.space == m) (λ x e. eqb-true x.space m e) away p.savepoints)

      savepoints_of-same : (ws vs : List Workspace) (m : ℕ) → workspace_of ws m ≡ workspace_of vs m → savepoints_of ws m ≡ savepoints_of vs m
      savepoints_of-same ws vs m same = rw same refl

      by_number : (m : ℕ) → (m ≡ n) ⊎ (m ≢ n) → map saved_fields (saved_in (thinned p n counters) m) ≡ map fields_saved (savepoints_of t.spaces m)
      by_number m (inl here) =
          ap (λ i. map saved_fields (saved_in (thinned p n counters) i)) here ∙ ap (map saved_fields) saved_none
          ∙ ap (map fields_saved) (sym (savepoints_of-none t.spaces n found_none)) ∙ ap (λ i. map fields_saved (savepoints_of t.spaces i)) (sym here)
      by_number m (inr away) = ap (map saved_fields) (saved_others m away) ∙ stand.same m ∙ ap (map fields_saved) (sym (savepoints_of-same t.spaces s.spaces m (found_away m away)))

  -- the records agree with the state
  pub FieldsStand-thinned : FieldsStand p s → t.tables ≡ s.tables → CountersStand (thinned p n counters) t → FieldsStand (thinned p n counters) t
  FieldsStand-thinned st tables counted = record {
    counters = counted;
    tables = record { same = st.tables.same ∙ sym tables };
    spaces = SpacesStand-removed st.spaces;
    once = OnceStand-removed st.spaces st.once;
    savepoints = SavepointsStand-removed st.savepoints;
  }

-- ---- what is asked, told by the state
