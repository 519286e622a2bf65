-- A workspace is born: what is looked up then, and the fields of the records. BornStands has the clauses on what is held.
use Rattle.std.proofs.Common.{◌≡◌, ◌≢◌, ℕ, ◌+◌, ◌==◌, Bool, true, false, cond, List, [], ◌∷◌, ◌++◌, map, Option, Some, None, refl, sym, ap, ◌∙◌, ◌⊎◌, inl, inr, length, length-append}
use Rattle.std.proofs.lemmas.Bool.{cases_eq, eq-eqb, ne_eqb, or_parts}
use Rattle.std.proofs.lemmas.Option.{same_Some}
use Rattle.std.specs.List.{filter, find, list_any}
use Rattle.std.specs.Option.{option_or, option_map}
use Rattle.wm_base.proofs.Plain.{none_mapped, option_or-none}
use Rattle.wm_graph.specs.Parts.{Parts, space_of}
use Rattle.wm_graph.specs.Rules.{differ}
use Rattle.wm_spec.specs.declared.record.savepoint.Savepoint.{Savepoint as Record}
use Rattle.wm_spec.specs.declared.record.space.Space.{Space}
use Rattle.wm_spec.specs.declared.record.turn.Turn.{Turn}
use Rattle.wm_state.specs.State.{Durable, Workspace, Savepoint, workspace_of, savepoints_of}
use Rattle.wm_state.specs.Standing.{fields_of, fields_in, saved_fields, fields_saved, by_making, saved_in, by_number, CountersStand, SpacesStand, FieldsStand}
use Rattle.wm_state.specs.Effects.{Born}
use Rattle.wm_state.proofs.Mapped.{none-found}
use Rattle.wm_state.proofs.Tests.{differ_push}

-- ---- what is looked up

pub find_more : {A : Type 0} (P : A → Bool) (xs : List A) (x : A) → find P (xs ++ x ∷ []) ≡ option_or (find P xs) (cond (P x) (Some x) None)
find_more P [] x = refl
find_more {A = A} P (y ∷ ys) x = by_test (P y) (find_more P ys x)
  where
    by_test : (b : Bool) → find P (ys ++ x ∷ []) ≡ option_or (find P ys) (cond (P x) (Some x) None)
        → cond b (Some y) (find P (ys ++ x ∷ [])) ≡ option_or (cond b (Some y) (find P ys)) (cond (P x) (Some x) None)
    by_test true rest = refl
    by_test false rest = rest

-- one of a new number is found by it, and every other as before
pub find_numbered : {A : Type 0} (number_of : A → ℕ) (xs : List A) (x : A) (m : ℕ) → find (λ y. number_of y == number_of x) xs ≡ None
    → find (λ y. number_of y == m) (xs ++ x ∷ []) ≡ cond (m == number_of x) (Some x) (find (λ y. number_of y == m) xs)
find_numbered number_of xs x m none = find_more (λ y. number_of y == m) xs x ∙ by_number (cases_eq m (number_of x))
  where
    by_number : (m ≡ number_of x) ⊎ (m ≢ number_of x)
        → option_or (find (λ y. number_of y == m) xs) (cond (number_of x == m) (Some x) None) ≡ cond (m == number_of x) (Some x) (find (λ y. number_of y == m) xs)
    by_number (inl same) = rw (eq-eqb _ _ same, eq-eqb _ _ (sym same), ap (λ k. find (λ y. number_of y == k) xs) same ∙ none) refl
    by_number (inr other) = rw (ne_eqb _ _ other, ne_eqb (number_of x) m (λ same. other (sym same))) (option_or-none (find (λ y. number_of y == m) xs))

-- what a look-up finds after a birth: what is new at the child's number, and elsewhere what was found before
abbrev pub Is : {A : Type 0} → Option A → ℕ → ℕ → A → A → Type 0
Is before n m child found = ((m ≡ n) × (found ≡ child)) ⊎ ((m ≢ n) × (before ≡ Some found))

pub is_of : {A : Type 0} (before after : Option A) (n m : ℕ) (child found : A) → after ≡ cond (m == n) (Some child) before → after ≡ Some found → Is before n m child found
is_of before after n m child found e is = by_number (cases_eq m n)
  where
    by_number : (m ≡ n) ⊎ (m ≢ n) → Is before n m child found
    by_number (inl same) = inl (same, sym (same_Some child found (sym (ap (λ b. cond b (Some child) before) (eq-eqb _ _ same)) ∙ sym e ∙ is)))
    by_number (inr other) = inr (other, sym (ap (λ b. cond b (Some child) before) (ne_eqb _ _ other)) ∙ sym e ∙ is)

-- ---- the records agree with the state with the workspace more

-- no workspace had the child's number
pub child_none : (p : Parts) (s : Durable) (r : Space) → SpacesStand p s → space_of p.spaces r.number ≡ None → workspace_of s.spaces r.number ≡ None
child_none p s r stand none = none_mapped fields_in (workspace_of s.spaces r.number) (sym (stand.same r.number) ∙ ap (option_map fields_of) none)

-- it is found by it, and every other as before
pub child_found : (s t : Durable) (r : Space) (w : Workspace) → w.number ≡ r.number → workspace_of s.spaces r.number ≡ None → t.spaces ≡ s.spaces ++ w ∷ [] → (m : ℕ)
    → workspace_of t.spaces m ≡ cond (m == r.number) (Some w) (workspace_of s.spaces m)
child_found s t r w number none spaces m =
    ap (λ ws. workspace_of ws m) spaces
    ∙ find_numbered (λ (v : Workspace). v.number) s.spaces w m (ap (workspace_of s.spaces) number ∙ none)
    ∙ ap (λ k. cond (m == k) (Some w) (workspace_of s.spaces m)) number

pub FieldsStand-born : (p q : Parts) (s t : Durable) (r : Space) (number : ℕ) (turn : Turn) (w : Workspace) → Born p q r number turn → FieldsStand p s → fields_of r ≡ fields_in w → w.number ≡ r.number → w.savepoints ≡ []
    → t.spaces ≡ s.spaces ++ w ∷ [] → t.tables ≡ s.tables → CountersStand q t → FieldsStand q t
FieldsStand-born p q s t r number turn w b st fields number_is no_savepoints spaces tables counters = record {
  counters = counters;
  tables = record { same = ap (λ (z : Parts). by_number z.tables) b.rest ∙ st.tables.same ∙ sym tables };
  spaces = record { same = spaces_same };
  once = record { numbers = numbers; count = b.count ∙ ap (λ k. k + 1) st.once.count ∙ sym (length-append s.spaces (w ∷ [])) ∙ sym (ap length spaces) };
  savepoints = record { same = saved_same };
}
  where
    none : workspace_of s.spaces r.number ≡ None
    none = child_none p s r st.spaces b.none

    found : (m : ℕ) → workspace_of t.spaces m ≡ cond (m == r.number) (Some w) (workspace_of s.spaces m)
    found = child_found s t r w number_is none spaces

    numbers : differ (λ (v w : Workspace). v.number == w.number) t.spaces ≡ true
    numbers =
        ap (differ (λ (v w : Workspace). v.number == w.number)) spaces
        ∙ differ_push (λ (v w : Workspace). v.number == w.number) s.spaces w st.once.numbers
        (ap (λ k. list_any (λ (v : Workspace). v.number == k) s.spaces) number_is ∙ none-found (λ (v : Workspace). v.number == r.number) s.spaces none)

    spaces_same : (m : ℕ) → option_map fields_of (space_of q.spaces m) ≡ option_map fields_in (workspace_of t.spaces m)
    spaces_same m = ap (option_map fields_of) (b.spaces m) ∙ by_test (m == r.number) ∙ sym (ap (option_map fields_in) (found m))
      where
        by_test : (b : Bool) → option_map fields_of (cond b (Some r) (space_of p.spaces m)) ≡ option_map fields_in (cond b (Some w) (workspace_of s.spaces m))
        by_test true = ap Some fields
        by_test false = st.spaces.same m

    -- no savepoint is the child's
    saved_child : saved_in p r.number ≡ []
    saved_child = ap by_making (none_kept (λ (y : Record). y.space == r.number) p.savepoints b.unsaved)
      where
        none_kept : (P : Record → Bool) (ys : List Record) → list_any P ys ≡ false → filter P ys ≡ []
        none_kept P [] e = refl
        none_kept P (y ∷ ys) e = let h = or_parts (P y) (list_any P ys) e in rw h.0 (none_kept P ys h.1)

    saved_same : (m : ℕ) → map saved_fields (saved_in q m) ≡ map fields_saved (savepoints_of t.spaces m)
    saved_same m =
        ap (λ (z : Parts). map saved_fields (saved_in z m)) b.rest ∙ by_number (cases_eq m r.number) ∙ sym (ap (λ o. map fields_saved (savepoints_in o)) (found m))
      where
        savepoints_in : Option Workspace → List Savepoint
        savepoints_in None = []
        savepoints_in (Some v) = v.savepoints

        by_number : (m ≡ r.number) ⊎ (m ≢ r.number) → map saved_fields (saved_in p m) ≡ map fields_saved (savepoints_in (cond (m == r.number) (Some w) (workspace_of s.spaces m)))
        by_number (inl same) = rw (eq-eqb _ _ same, no_savepoints) (ap (λ k. map saved_fields (saved_in p k)) same ∙ ap (map saved_fields) saved_child)
        by_number (inr other) = rw (ne_eqb _ _ other) (st.savepoints.same m)
