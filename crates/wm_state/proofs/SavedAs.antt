-- The savepoints of a workspace and their records, looked up in one way and in another.
use Rattle.std.proofs.Common.{◌≡◌, ℕ, ◌==◌, Bool, true, false, not, ◌&&◌, cond, List, [], ◌∷◌, map, length, Option, Some, None, refl, sym, ap, ◌∙◌}
use Rattle.std.proofs.lemmas.Bool.{eq-eqb, eqb-true, and_from, and_parts, not-true, or_parts}
use Rattle.std.proofs.lemmas.List.{length-map}
use Rattle.std.proofs.lemmas.List.Sums.{length-filter}
use Rattle.std.proofs.lemmas.Slice.Eq.{bytes_eq-Decides}
use Rattle.std.proofs.lemmas.Option.{same_Some, none-some}
use Rattle.std.specs.List.{list_any, filter, find, count_by}
use Rattle.std.specs.Option.{option_map}
use Rattle.std.specs.Str.{bytes_eq}
use Rattle.wm_graph.specs.Parts.{Parts}
use Rattle.wm_graph.specs.Rules.{keep_rules, same_savepoint, differ}
use Rattle.wm_spec.specs.declared.record.savepoint.Savepoint.{Savepoint as Record}
use Rattle.wm_state.specs.State.{Durable, Workspace, Savepoint, workspace_of, savepoint_made, savepoints_of}
use Rattle.wm_state.specs.Standing.{SavepointFields, saved_fields, fields_saved, saved_in, saved_as, SavepointsStand, Stands}
use Rattle.wm_state.proofs.Apart.{ruled}
use Rattle.wm_state.proofs.Making.{same_making, making-itself, is_made, length-making, differ-making, find-one, find-making}
use Rattle.wm_state.proofs.Named.{ruled_savepoints}
use Rattle.wm_state.proofs.Mapped.{find-alike, find-again, find-filter, differ-alike}
use Rattle.wm_state.proofs.Tests.{differ_filter}

-- ---- what the rules say of savepoints

-- no two savepoints are of one making
makings_differ : (p : Parts) → keep_rules p ≡ true → differ same_making p.savepoints ≡ true
makings_differ p rules = let r = ruled p rules in (ruled_savepoints p r.counters.work r.savepoints).makings

-- ---- among all records and among those of the workspace

-- the record of a making
saved_sorted : (p : Parts) → keep_rules p ≡ true → (n making : ℕ) → saved_as p n making ≡ find (is_made making) (saved_in p n)
saved_sorted p rules n making =
    sym (find-filter (λ (x : Record). x.space == n) (is_made making) p.savepoints)
    ∙ sym (find-making making (filter (λ (x : Record). x.space == n) p.savepoints) (differ_filter same_making (λ (x : Record). x.space == n) p.savepoints (makings_differ p rules)))

-- the record of the savepoint of a workspace and a name
abbrev pub named_as : Parts → ℕ → List ℕ → Option Record
named_as p n name = find (λ (x : Record). (x.space == n) && bytes_eq name x.name) p.savepoints

-- two of one name
abbrev same_name : Record → Record → Bool
same_name x y = bytes_eq x.name y.name

-- in one workspace names differ
pub names-apart : (n : ℕ) (xs : List Record) → differ same_savepoint xs ≡ true → differ same_name (filter (λ (x : Record). x.space == n) xs) ≡ true
names-apart n [] apart = refl
names-apart n (x ∷ xs) apart = by_space (x.space == n) refl (and_parts (not (list_any (same_savepoint x) xs)) (differ same_savepoint xs) apart) (names-apart n xs)
  where
    rest_of : List Record
    rest_of = filter (λ (y : Record). y.space == n) xs

    none_named : x.space ≡ n → (ys : List Record) → list_any (same_savepoint x) ys ≡ false → list_any (same_name x) (filter (λ (y : Record). y.space == n) ys) ≡ false
    none_named here [] none = refl
    none_named here (y ∷ ys) none =
        let h = or_parts (same_savepoint x y) (list_any (same_savepoint x) ys) none in
        by_other (y.space == n) refl (none_named here ys h.1) h.0
      where
        by_other : (b : Bool) → (y.space == n) ≡ b → list_any (same_name x) (filter (λ (z : Record). z.space == n) ys) ≡ false → same_savepoint x y ≡ false
            → list_any (same_name x) (cond b (y ∷ filter (λ (z : Record). z.space == n) ys) (filter (λ (z : Record). z.space == n) ys)) ≡ false
        by_other true e rest other = rw (sym (ap (λ b. b && bytes_eq x.name y.name) (eq-eqb _ _ (here ∙ sym (eqb-true _ _ e)))) ∙ other) rest
        by_other false e rest other = rest

    by_space : (b : Bool) → (x.space == n) ≡ b → (not (list_any (same_savepoint x) xs) ≡ true) × (differ same_savepoint xs ≡ true) → (differ same_savepoint xs ≡ true → differ same_name rest_of ≡ true)
        → differ same_name (cond b (x ∷ rest_of) rest_of) ≡ true
    by_space true e h rest =
        and_from (not (list_any (same_name x) rest_of)) (differ same_name rest_of) (ap not (none_named (eqb-true _ _ e) xs (not-true (list_any (same_savepoint x) xs) h.0))) (rest h.1)
    by_space false e h rest = rest h.1

pub named_sorted : (p : Parts) → keep_rules p ≡ true → (n : ℕ) (name : List ℕ) → named_as p n name ≡ find (λ (x : Record). bytes_eq name x.name) (saved_in p n)
named_sorted p rules n name =
    let r = ruled p rules in
    sym (find-filter (λ (x : Record). x.space == n) (λ (x : Record). bytes_eq name x.name) p.savepoints)
    ∙ sym (find-one (λ (x : Record). bytes_eq name x.name) same_name
    (λ x y is also. (bytes_eq-Decides x.name y.name).1 (sym ((bytes_eq-Decides name x.name).0 is) ∙ (bytes_eq-Decides name y.name).0 also))
    (filter (λ (x : Record). x.space == n) p.savepoints) (names-apart n p.savepoints (ruled_savepoints p r.counters.work r.savepoints).names))

-- ---- among records and among savepoints

-- the records of a workspace's savepoints have their fields
saved_alike : (p : Parts) (s : Durable) (n : ℕ) (w : Workspace) → SavepointsStand p s → workspace_of s.spaces n ≡ Some w → map saved_fields (saved_in p n) ≡ map fields_saved w.savepoints
saved_alike p s n w st found = st.same n ∙ ap (map fields_saved) (of_found (workspace_of s.spaces n) found)
  where
    of_found : (o : Option Workspace) → o ≡ Some w → savepoints_of s.spaces n ≡ w.savepoints
    of_found o is = rw found refl

-- the first that passes a test of its fields
passed_alike : (p : Parts) (s : Durable) (n : ℕ) (w : Workspace) → SavepointsStand p s → workspace_of s.spaces n ≡ Some w → (P : SavepointFields → Bool)
    → option_map saved_fields (find (λ (x : Record). P (saved_fields x)) (saved_in p n)) ≡ option_map fields_saved (find (λ (k : Savepoint). P (fields_saved k)) w.savepoints)
passed_alike p s n w st found P = find-alike saved_fields fields_saved P (saved_in p n) w.savepoints (saved_alike p s n w st found)

-- as many as there are records
pub saved_count_there : (p : Parts) (s : Durable) (n : ℕ) (w : Workspace) → SavepointsStand p s → workspace_of s.spaces n ≡ Some w → length w.savepoints ≡ count_by (λ (x : Record). x.space == n) p.savepoints
saved_count_there p s n w st found =
    sym (length-map w.savepoints fields_saved)
    ∙ ap length (sym (saved_alike p s n w st found))
    ∙ length-map (saved_in p n) saved_fields
    ∙ length-making (filter (λ (x : Record). x.space == n) p.savepoints)
    ∙ length-filter (λ (x : Record). x.space == n) p.savepoints

pub saved_count : (p : Parts) (s : Durable) (n : ℕ) (w : Workspace) → Stands p s → workspace_of s.spaces n ≡ Some w → length w.savepoints ≡ count_by (λ (x : Record). x.space == n) p.savepoints
saved_count p s n w st found = saved_count_there p s n w st.savepoints found

-- ---- a savepoint and its record

-- the record is the savepoint's, and each is found by the making
pub record IsSaved (p : Parts) (n : ℕ) (w : Workspace) (x : Record) (k : Savepoint) : Type 0 where
  pub fields : saved_fields x ≡ fields_saved k
  pub recorded : saved_as p n k.making ≡ Some x
  pub made : savepoint_made k.making w.savepoints ≡ Some k

-- the makings of a workspace's savepoints differ
made-apart : (p : Parts) (s : Durable) (n : ℕ) (w : Workspace) → keep_rules p ≡ true → SavepointsStand p s → workspace_of s.spaces n ≡ Some w → differ (λ (j k : Savepoint). j.making == k.making) w.savepoints ≡ true
made-apart p s n w rules st found =
    sym (differ-alike saved_fields fields_saved (λ f g. f.making == g.making) (saved_in p n) w.savepoints (saved_alike p s n w st found))
    ∙ differ-making (filter (λ (x : Record). x.space == n) p.savepoints) (differ_filter same_making (λ (x : Record). x.space == n) p.savepoints (makings_differ p rules))

both_saved : (p : Parts) (s : Durable) (n : ℕ) (w : Workspace) → keep_rules p ≡ true → SavepointsStand p s → workspace_of s.spaces n ≡ Some w → (P : SavepointFields → Bool) (x : Record) (k : Savepoint) → find (λ (y : Record). P (saved_fields y)) (saved_in p n) ≡ Some x
    → find (λ (j : Savepoint). P (fields_saved j)) w.savepoints ≡ Some k → saved_fields x ≡ fields_saved k → IsSaved p n w x k
both_saved p s n w rules st found P x k recorded made fields = record {
  fields = fields;
  recorded =
      saved_sorted p rules n k.making
      ∙ ap (λ m. find (is_made m) (saved_in p n)) (sym (ap (λ f. f.making) fields))
      ∙ find-again same_making making-itself (λ (y : Record). P (saved_fields y)) (saved_in p n) x
      (differ-making (filter (λ (y : Record). y.space == n) p.savepoints) (differ_filter same_making (λ (y : Record). y.space == n) p.savepoints (makings_differ p rules))) recorded;
  made = find-again (λ (i j : Savepoint). i.making == j.making) (λ j. eq-eqb j.making j.making refl) (λ (j : Savepoint). P (fields_saved j)) w.savepoints k (made-apart p s n w rules st found) made;
}

-- where a record passes a test of its fields, a savepoint does
passed_some : (p : Parts) (s : Durable) (n : ℕ) (w : Workspace) → keep_rules p ≡ true → SavepointsStand p s → workspace_of s.spaces n ≡ Some w → (P : SavepointFields → Bool) (x : Record) → find (λ (y : Record). P (saved_fields y)) (saved_in p n) ≡ Some x
    → (k : Savepoint) × (find (λ (j : Savepoint). P (fields_saved j)) w.savepoints ≡ Some k) × IsSaved p n w x k
passed_some p s n w rules st found P x recorded = by_savepoint (find (λ (j : Savepoint). P (fields_saved j)) w.savepoints) refl (sym (ap (option_map saved_fields) recorded) ∙ passed_alike p s n w st found P)
  where
    by_savepoint : (o : Option Savepoint) → find (λ (j : Savepoint). P (fields_saved j)) w.savepoints ≡ o → Some (saved_fields x) ≡ option_map fields_saved (find (λ (j : Savepoint). P (fields_saved j)) w.savepoints)
        → (k : Savepoint) × (find (λ (j : Savepoint). P (fields_saved j)) w.savepoints ≡ Some k) × IsSaved p n w x k
    by_savepoint None is same = absurd (none-some (saved_fields x) (sym (same ∙ ap (option_map fields_saved) is)))
    by_savepoint (Some k) is same = (k, is, both_saved p s n w rules st found P x k recorded is (same_Some (saved_fields x) (fields_saved k) (same ∙ ap (option_map fields_saved) is)))

-- and where none does, none does
pub passed_none : (p : Parts) (s : Durable) (n : ℕ) (w : Workspace) → SavepointsStand p s → workspace_of s.spaces n ≡ Some w → (P : SavepointFields → Bool) → find (λ (y : Record). P (saved_fields y)) (saved_in p n) ≡ None
    → find (λ (j : Savepoint). P (fields_saved j)) w.savepoints ≡ None
passed_none p s n w st found P none = by_savepoint (find (λ (j : Savepoint). P (fields_saved j)) w.savepoints) (sym (ap (option_map saved_fields) none) ∙ passed_alike p s n w st found P)
  where
    by_savepoint : (o : Option Savepoint) → (let nothing : Option SavepointFields = None in nothing) ≡ option_map fields_saved o → o ≡ None
    by_savepoint None same = refl
    by_savepoint (Some k) same = cc

-- where no savepoint passes, no record does
pub unpassed : (p : Parts) (s : Durable) (n : ℕ) (w : Workspace) → SavepointsStand p s → workspace_of s.spaces n ≡ Some w → (P : SavepointFields → Bool) → find (λ (k : Savepoint). P (fields_saved k)) w.savepoints ≡ None
    → find (λ (x : Record). P (saved_fields x)) (saved_in p n) ≡ None
unpassed p s n w st found P none = by_saved (find (λ (x : Record). P (saved_fields x)) (saved_in p n)) (passed_alike p s n w st found P ∙ ap (option_map fields_saved) none)
  where
    by_saved : (o : Option Record) → option_map saved_fields o ≡ None → o ≡ None
    by_saved None same = refl
    by_saved (Some x) same = cc

-- by name
pub named_some : (p : Parts) (s : Durable) (n : ℕ) (w : Workspace) → Stands p s → workspace_of s.spaces n ≡ Some w → (name : List ℕ) (x : Record) → find (λ (y : Record). bytes_eq name y.name) (saved_in p n) ≡ Some x
    → (k : Savepoint) × (find (λ (j : Savepoint). bytes_eq name j.name) w.savepoints ≡ Some k) × IsSaved p n w x k
named_some p s n w st found name x recorded = passed_some p s n w st.rules st.savepoints found (λ f. bytes_eq name f.name) x recorded

pub named_none : (p : Parts) (s : Durable) (n : ℕ) (w : Workspace) → Stands p s → workspace_of s.spaces n ≡ Some w → (name : List ℕ) → find (λ (y : Record). bytes_eq name y.name) (saved_in p n) ≡ None
    → find (λ (j : Savepoint). bytes_eq name j.name) w.savepoints ≡ None
named_none p s n w st found name none = passed_none p s n w st.savepoints found (λ f. bytes_eq name f.name) none

-- by making
pub made_some_there : (p : Parts) (s : Durable) (n : ℕ) (w : Workspace) → keep_rules p ≡ true → SavepointsStand p s → workspace_of s.spaces n ≡ Some w → (making : ℕ) (x : Record) → saved_as p n making ≡ Some x
    → (k : Savepoint) × (savepoint_made making w.savepoints ≡ Some k) × IsSaved p n w x k
made_some_there p s n w rules st found making x recorded = passed_some p s n w rules st found (λ f. f.making == making) x (sym (saved_sorted p rules n making) ∙ recorded)

pub made_some : (p : Parts) (s : Durable) (n : ℕ) (w : Workspace) → Stands p s → workspace_of s.spaces n ≡ Some w → (making : ℕ) (x : Record) → saved_as p n making ≡ Some x
    → (k : Savepoint) × (savepoint_made making w.savepoints ≡ Some k) × IsSaved p n w x k
made_some p s n w st found making x recorded = made_some_there p s n w st.rules st.savepoints found making x recorded

pub made_none : (p : Parts) (s : Durable) (n : ℕ) (w : Workspace) → Stands p s → workspace_of s.spaces n ≡ Some w → (making : ℕ) → saved_as p n making ≡ None → savepoint_made making w.savepoints ≡ None
made_none p s n w st found making none = passed_none p s n w st.savepoints found (λ f. f.making == making) (sym (saved_sorted p st.rules n making) ∙ none)
