-- A workspace gets a savepoint more: what is looked up then, and the fields of the records. SavedStands has the clauses on what is held.
use Rattle.std.proofs.Common.{◌≡◌, ◌≢◌, ℕ, ◌==◌, nat_lt, Bool, false, ◌&&◌, cond, List, [], ◌∷◌, ◌++◌, map, Option, Some, None, refl, sym, ap, ◌∙◌, ◌⊎◌, inl, inr, append-nil}
use Rattle.std.proofs.lemmas.Bool.{cases_eq, eq-eqb, ne_eqb, and_right}
use Rattle.std.proofs.lemmas.List.{map-append}
use Rattle.std.proofs.lemmas.List.Elements.{filter-append}
use Rattle.std.proofs.lemmas.Option.{same_Some}
use Rattle.std.specs.List.{list_any, filter, find}
use Rattle.std.specs.Option.{option_map}
use Rattle.wm_base.proofs.Plain.{nat_lt-apart, none_some}
use Rattle.wm_graph.specs.Parts.{Parts, space_of}
use Rattle.wm_spec.specs.declared.record.savepoint.Savepoint.{Savepoint as Record}
use Rattle.wm_spec.specs.declared.record.space.Space.{Space}
use Rattle.wm_state.specs.State.{Durable, Workspace, Savepoint, workspace_of, with_space, with_savepoint, savepoint_made, savepoints_of}
use Rattle.wm_state.specs.Standing.{SpaceFields, fields_of, fields_in, saved_fields, fields_saved, by_making, saved_in, saved_as, by_number, CountersStand, SpacesStand, SavepointsStand, FieldsStand}
use Rattle.wm_state.specs.Effects.{Saved, marked}
use Rattle.wm_state.proofs.Changing.{WasChanged, told_still, was_changed, workspace_of-changed}
use Rattle.wm_state.proofs.Frames.{savepoints_of-found, OnceStand-changed}
use Rattle.wm_state.proofs.Making.{making-push, all-making}
use Rattle.wm_state.proofs.Mapped.{all-alike, find-skip}
use Rattle.wm_state.proofs.Naming.{StillNames}
use Rattle.wm_state.proofs.Tests.{all_filter, find_new, none_if}

-- a workspace of after a savepoint, by what it was before
pub record WasSaved (n place implicit : ℕ) (k : Savepoint) (ws : List Workspace) (m : ℕ) (new : Workspace) : Type 0 where
  pub old : Workspace
  pub is : workspace_of ws m ≡ Some old
  pub lists : new.lists ≡ old.lists
  pub parent : new.parent ≡ old.parent
  pub rebases : new.rebases ≡ old.rebases
  pub turns : new.turns ≡ old.turns
  pub how : ((m ≡ n) × (new ≡ with_savepoint place implicit k old)) ⊎ ((m ≢ n) × (new ≡ old))

pub was_saved : (n place implicit : ℕ) (k : Savepoint) (ws : List Workspace) (m : ℕ) (new : Workspace) → workspace_of (with_space n (with_savepoint place implicit k) ws) m ≡ Some new → WasSaved n place implicit k ws m new
was_saved n place implicit k ws m new is = by_case (was_changed n (with_savepoint place implicit k) (λ w. refl) ws m new is)
  where
    by_case : WasChanged n (with_savepoint place implicit k) ws m new → WasSaved n place implicit k ws m new
    by_case x = record {
      old = x.old;
      is = x.is;
      lists = told_still n (with_savepoint place implicit k) ws m new (λ (w : Workspace). w.lists) (λ w. refl) x;
      parent = told_still n (with_savepoint place implicit k) ws m new (λ (w : Workspace). w.parent) (λ w. refl) x;
      rebases = told_still n (with_savepoint place implicit k) ws m new (λ (w : Workspace). w.rebases) (λ w. refl) x;
      turns = told_still n (with_savepoint place implicit k) ws m new (λ (w : Workspace). w.turns) (λ w. refl) x;
      how = x.how;
    }

-- a record of a workspace of after names the versions that it named
pub had_mark : (p q : Parts) (n place implicit : ℕ) (x : Record) → Saved p q n place implicit x → (m : ℕ) (new : Space) → space_of q.spaces m ≡ Some new → StillNames p m new
had_mark p q n place implicit x v m new is = by_number (cases_eq m n) (space_of p.spaces m) refl
  where
    marked_from : (r : Space) → new ≡ marked place implicit r → space_of p.spaces m ≡ Some r → StillNames p m new
    marked_from r h found = record { old = r; is = found; birth = ap (λ (s : Space). s.birth_version) h; base = ap (λ (s : Space). s.base_version) h }

    here_is : m ≡ n → space_of q.spaces m ≡ option_map (marked place implicit) (space_of p.spaces m)
    here_is here = ap (space_of q.spaces) here ∙ v.here ∙ ap (λ k. option_map (marked place implicit) (space_of p.spaces k)) (sym here)

    by_number : (m ≡ n) ⊎ (m ≢ n) → (o : Option Space) → space_of p.spaces m ≡ o → StillNames p m new
    by_number (inl here) None found = absurd (none_some (space_of q.spaces m) new (here_is here ∙ ap (option_map (marked place implicit)) found) is)
    by_number (inl here) (Some r) found = marked_from r (same_Some new (marked place implicit r) (sym is ∙ here_is here ∙ ap (option_map (marked place implicit)) found)) found
    by_number (inr away) None found = absurd (none_some (space_of q.spaces m) new (v.elsewhere m (ne_eqb _ _ away) ∙ found) is)
    by_number (inr away) (Some r) found =
        let same : new ≡ r = same_Some new r (sym is ∙ v.elsewhere m (ne_eqb _ _ away) ∙ found) in
        record { old = r; is = found; birth = ap (λ (s : Space). s.birth_version) same; base = ap (λ (s : Space). s.base_version) same }

-- ---- the records of savepoints

-- the records of a workspace's savepoints have the new one last, and those of another are as they were
saved_in-here : (p q : Parts) (n place implicit : ℕ) (x : Record) → Saved p q n place implicit x → saved_in q n ≡ saved_in p n ++ x ∷ []
saved_in-here p q n place implicit x v =
    let of_n : Record → Bool = λ (y : Record). y.space == n in
    ap (λ xs. by_making (filter of_n xs)) v.savepoints
    ∙ ap by_making (filter-append of_n p.savepoints (x ∷ []) ∙ ap (λ b. filter of_n p.savepoints ++ cond b (x ∷ []) []) (eq-eqb _ _ v.space))
    ∙ making-push x (filter of_n p.savepoints) (all_filter (λ (y : Record). nat_lt y.making x.making) of_n p.savepoints v.after)

saved_in-away : (p q : Parts) (n place implicit : ℕ) (x : Record) → Saved p q n place implicit x → (m : ℕ) → m ≢ n → saved_in q m ≡ saved_in p m
saved_in-away p q n place implicit x v m away =
    let of_m : Record → Bool = λ (y : Record). y.space == m in
    ap (λ xs. by_making (filter of_m xs)) v.savepoints
    ∙ ap by_making (filter-append of_m p.savepoints (x ∷ []) ∙ ap (λ b. filter of_m p.savepoints ++ cond b (x ∷ []) []) (ne_eqb _ _ (λ h. away (sym h ∙ v.space))) ∙ append-nil (filter of_m p.savepoints))

-- a record of another workspace or making is found as before, and the new one by its own
pub saved_as-away : (p q : Parts) (n place implicit : ℕ) (x : Record) → Saved p q n place implicit x → (m making : ℕ) → ((x.space == m) && (x.making == making)) ≡ false → saved_as q m making ≡ saved_as p m making
saved_as-away p q n place implicit x v m making away = ap (λ xs. find (λ (y : Record). (y.space == m) && (y.making == making)) xs) v.savepoints ∙ find-skip (λ (y : Record). (y.space == m) && (y.making == making)) p.savepoints x away

pub saved_as-here : (p q : Parts) (n place implicit : ℕ) (x : Record) → Saved p q n place implicit x → (making : ℕ) → x.making ≡ making → saved_as q n making ≡ Some x
saved_as-here p q n place implicit x v making here =
    ap (λ xs. find (λ (y : Record). (y.space == n) && (y.making == making)) xs) v.savepoints
    ∙ find_new (λ (y : Record). (y.space == n) && (y.making == making)) p.savepoints x
    (none_if (λ (y : Record). nat_lt y.making x.making) (λ (y : Record). (y.space == n) && (y.making == making))
    (λ y lt. and_right (y.space == n) (y.making == making) (ap (λ k. y.making == k) (sym here) ∙ nat_lt-apart y.making x.making lt)) p.savepoints v.after)
    (rw (eq-eqb _ _ v.space, eq-eqb _ _ here) refl)

-- ---- the clauses

savepoints_of-same : (ws vs : List Workspace) (m : ℕ) → workspace_of ws m ≡ workspace_of vs m → savepoints_of ws m ≡ savepoints_of vs m
savepoints_of-same ws vs m same = rw same refl

-- the workspace that gets the savepoint has it
pub has_savepoint : (n place implicit : ℕ) (k : Savepoint) (ws : List Workspace) (w : Workspace) → workspace_of ws n ≡ Some w → workspace_of (with_space n (with_savepoint place implicit k) ws) n ≡ Some (with_savepoint place implicit k w)
has_savepoint n place implicit k ws w found =
    workspace_of-changed n (with_savepoint place implicit k) (λ v. refl) ws n
    ∙ ap (λ b. cond b (option_map (with_savepoint place implicit k) (workspace_of ws n)) (workspace_of ws n)) (eq-eqb n n refl)
    ∙ ap (option_map (with_savepoint place implicit k)) found

-- and every other is as it was
is_beside : (n place implicit : ℕ) (k : Savepoint) (ws : List Workspace) (m : ℕ) → m ≢ n → workspace_of (with_space n (with_savepoint place implicit k) ws) m ≡ workspace_of ws m
is_beside n place implicit k ws m away =
    workspace_of-changed n (with_savepoint place implicit k) (λ v. refl) ws m
    ∙ ap (λ b. cond b (option_map (with_savepoint place implicit k) (workspace_of ws m)) (workspace_of ws m)) (ne_eqb _ _ away)

SavepointsStand-saved : (p q : Parts) (s t : Durable) (n place implicit : ℕ) (w : Workspace) (k : Savepoint) (x : Record) → Saved p q n place implicit x → t.spaces ≡ with_space n (with_savepoint place implicit k) s.spaces
    → workspace_of s.spaces n ≡ Some w → saved_fields x ≡ fields_saved k → SavepointsStand p s → SavepointsStand q t
SavepointsStand-saved p q s t n place implicit w k x v spaces found fields stand = record { same = λ m. by_number m (cases_eq m n) }
  where
    here_is : map saved_fields (saved_in q n) ≡ map fields_saved (savepoints_of t.spaces n)
    here_is =
        ap (map saved_fields) (saved_in-here p q n place implicit x v)
        ∙ map-append saved_fields (saved_in p n) (x ∷ [])
        ∙ ap (λ fs. fs ++ saved_fields x ∷ []) (stand.same n ∙ ap (map fields_saved) (savepoints_of-found s.spaces n w found))
        ∙ ap (λ f. map fields_saved w.savepoints ++ f ∷ []) fields
        ∙ sym (map-append fields_saved w.savepoints (k ∷ []))
        ∙ ap (map fields_saved) (sym (savepoints_of-found t.spaces n (with_savepoint place implicit k w) (ap (λ ws. workspace_of ws n) spaces ∙ has_savepoint n place implicit k s.spaces w found)))

    by_number : (m : ℕ) → (m ≡ n) ⊎ (m ≢ n) → map saved_fields (saved_in q m) ≡ map fields_saved (savepoints_of t.spaces m)
    by_number m (inl here) = ap (λ i. map saved_fields (saved_in q i)) here ∙ here_is ∙ ap (λ i. map fields_saved (savepoints_of t.spaces i)) (sym here)
    by_number m (inr away) =
        ap (map saved_fields) (saved_in-away p q n place implicit x v m away)
        ∙ stand.same m
        ∙ ap (map fields_saved) (savepoints_of-same s.spaces t.spaces m (sym (ap (λ ws. workspace_of ws m) spaces ∙ is_beside n place implicit k s.spaces m away)))

-- the fields with the next place and the next number of an implicit savepoint
abbrev placed : ℕ → ℕ → SpaceFields → SpaceFields
placed place implicit f = record f { next_place = place; next_implicit = implicit }

map-marked : (place implicit : ℕ) (o : Option Space) → option_map fields_of (option_map (marked place implicit) o) ≡ option_map (placed place implicit) (option_map fields_of o)
map-marked place implicit None = refl
map-marked place implicit (Some r) = refl

map-saved : (place implicit : ℕ) (k : Savepoint) (o : Option Workspace) → option_map fields_in (option_map (with_savepoint place implicit k) o) ≡ option_map (placed place implicit) (option_map fields_in o)
map-saved place implicit k None = refl
map-saved place implicit k (Some w) = refl

SpacesStand-saved : (p q : Parts) (s t : Durable) (n place implicit : ℕ) (k : Savepoint) (x : Record) → Saved p q n place implicit x → t.spaces ≡ with_space n (with_savepoint place implicit k) s.spaces
    → SpacesStand p s → SpacesStand q t
SpacesStand-saved p q s t n place implicit k x v spaces stand = record {
  same = λ m. by_number m (cases_eq m n) ∙ sym (ap (λ ws. option_map fields_in (workspace_of ws m)) spaces ∙ ap (option_map fields_in) (workspace_of-changed n (with_savepoint place implicit k) (λ w. refl) s.spaces m));
}
  where
    after : (m : ℕ) → Bool → Option Workspace
    after m b = cond b (option_map (with_savepoint place implicit k) (workspace_of s.spaces m)) (workspace_of s.spaces m)

    by_number : (m : ℕ) → (m ≡ n) ⊎ (m ≢ n) → option_map fields_of (space_of q.spaces m) ≡ option_map fields_in (cond (m == n) (option_map (with_savepoint place implicit k) (workspace_of s.spaces m)) (workspace_of s.spaces m))
    by_number m (inl here) =
        ap (λ i. option_map fields_of (space_of q.spaces i)) here
        ∙ ap (option_map fields_of) v.here
        ∙ map-marked place implicit (space_of p.spaces n)
        ∙ ap (option_map (placed place implicit)) (stand.same n)
        ∙ sym (map-saved place implicit k (workspace_of s.spaces n))
        ∙ ap (λ i. option_map fields_in (option_map (with_savepoint place implicit k) (workspace_of s.spaces i))) (sym here)
        ∙ ap (λ b. option_map fields_in (after m b)) (sym (eq-eqb _ _ here))
    by_number m (inr away) =
        ap (option_map fields_of) (v.elsewhere m (ne_eqb _ _ away))
        ∙ stand.same m
        ∙ ap (λ b. option_map fields_in (after m b)) (sym (ne_eqb _ _ away))

-- ---- the savepoint of a making

-- it is the new one, or was there before
pub record MadeCase (n place implicit : ℕ) (k : Savepoint) (x : Record) (ws : List Workspace) (m making : ℕ) (new : Workspace) (j : Savepoint) : Type 0 where
  pub was : WasSaved n place implicit k ws m new
  pub how : ((m ≡ n) × (x.making ≡ making) × (j ≡ k)) ⊎ ((savepoint_made making was.old.savepoints ≡ Some j) × (((x.space == m) && (x.making == making)) ≡ false))

-- the savepoints of before were made before
made_below : (p q : Parts) (s : Durable) (n place implicit : ℕ) (x : Record) → Saved p q n place implicit x → SavepointsStand p s → (old : Workspace) → workspace_of s.spaces n ≡ Some old
    → (making : ℕ) → x.making ≡ making → list_any (λ (i : Savepoint). i.making == making) old.savepoints ≡ false
made_below p q s n place implicit x v stand old found making here =
    none_if (λ (i : Savepoint). nat_lt i.making x.making) (λ (i : Savepoint). i.making == making) (λ i lt. ap (λ l. i.making == l) (sym here) ∙ nat_lt-apart i.making x.making lt) old.savepoints
    (sym (all-alike saved_fields fields_saved (λ f. nat_lt f.making x.making) (saved_in p n) old.savepoints (stand.same n ∙ ap (map fields_saved) (savepoints_of-found s.spaces n old found)))
    ∙ all-making (λ (y : Record). nat_lt y.making x.making) (filter (λ (y : Record). y.space == n) p.savepoints)
    (all_filter (λ (y : Record). nat_lt y.making x.making) (λ (y : Record). y.space == n) p.savepoints v.after))

-- so the new one is found by its making
pub made_new : (p q : Parts) (s : Durable) (n place implicit : ℕ) (k : Savepoint) (x : Record) → Saved p q n place implicit x → saved_fields x ≡ fields_saved k → SavepointsStand p s → (old : Workspace) → workspace_of s.spaces n ≡ Some old
    → (making : ℕ) → x.making ≡ making → savepoint_made making (old.savepoints ++ k ∷ []) ≡ Some k
made_new p q s n place implicit k x v fields stand old found making here =
    find_new (λ (i : Savepoint). i.making == making) old.savepoints k (made_below p q s n place implicit x v stand old found making here) (eq-eqb _ _ (sym (ap (λ f. f.making) fields) ∙ here))

pub made_case : (p q : Parts) (s : Durable) (n place implicit : ℕ) (k : Savepoint) (x : Record) → Saved p q n place implicit x → saved_fields x ≡ fields_saved k → SavepointsStand p s
    → (m making : ℕ) (new : Workspace) (j : Savepoint) → workspace_of (with_space n (with_savepoint place implicit k) s.spaces) m ≡ Some new → savepoint_made making new.savepoints ≡ Some j
    → MadeCase n place implicit k x s.spaces m making new j
made_case p q s n place implicit k x v fields stand m making new j is made = by_case (was_saved n place implicit k s.spaces m new is)
  where
    by_case : WasSaved n place implicit k s.spaces m new → MadeCase n place implicit k x s.spaces m making new j
    by_case y = record { was = y; how = by_both y.how (cases_eq x.making making) }
      where
        by_both : ((m ≡ n) × (new ≡ with_savepoint place implicit k y.old)) ⊎ ((m ≢ n) × (new ≡ y.old)) → (x.making ≡ making) ⊎ (x.making ≢ making)
            → ((m ≡ n) × (x.making ≡ making) × (j ≡ k)) ⊎ ((savepoint_made making y.old.savepoints ≡ Some j) × (((x.space == m) && (x.making == making)) ≡ false))
        by_both (inl h) (inl here) = inl (
          h.0,
          here,
          same_Some j k (sym made ∙ ap (λ (o : Workspace). savepoint_made making o.savepoints) h.1 ∙ made_new p q s n place implicit k x v fields stand y.old (ap (workspace_of s.spaces) (sym h.0) ∙ y.is) making here),
        )
        by_both (inl h) (inr away) = inr (
          sym (ap (λ (o : Workspace). savepoint_made making o.savepoints) h.1 ∙ find-skip (λ (i : Savepoint). i.making == making) y.old.savepoints k (ne_eqb _ _ (λ e. away (ap (λ f. f.making) fields ∙ e)))) ∙ made,
          and_right (x.space == m) (x.making == making) (ne_eqb _ _ away),
        )
        by_both (inr h) _ = inr (sym (ap (λ (o : Workspace). savepoint_made making o.savepoints) h.1) ∙ made, ap (λ b. b && (x.making == making)) (ne_eqb _ _ (λ e. h.0 (sym e ∙ v.space))))

-- ---- the records agree with the state with the savepoint

-- where the record of the savepoint has its fields
pub FieldsStand-saved : (p q : Parts) (s t : Durable) (n place implicit : ℕ) (w : Workspace) (k : Savepoint) (x : Record) → Saved p q n place implicit x → FieldsStand p s → workspace_of s.spaces n ≡ Some w → saved_fields x ≡ fields_saved k
    → t.spaces ≡ with_space n (with_savepoint place implicit k) s.spaces → t.tables ≡ s.tables → CountersStand q t → FieldsStand q t
FieldsStand-saved p q s t n place implicit w k x v st found fields spaces tables counters = record {
  counters = counters;
  tables = record { same = ap (λ (z : Parts). by_number z.tables) v.rest ∙ st.tables.same ∙ sym tables };
  spaces = SpacesStand-saved p q s t n place implicit k x v spaces st.spaces;
  once = OnceStand-changed p q s t n (with_savepoint place implicit k) (λ w. refl) spaces v.count st.once;
  savepoints = SavepointsStand-saved p q s t n place implicit w k x v spaces found fields st.savepoints;
}
