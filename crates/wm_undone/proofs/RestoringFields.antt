-- A workspace went back to a savepoint: what is looked up then, and the fields of the records. RestoringNamed and RestoringStands have
-- the clauses on what is held.
use Rattle.std.proofs.Common.{◌≡◌, ◌≢◌, ℕ, ◌≤◌, ◌==◌, nat_lt, nat_le, true, not, ◌&&◌, ◌||◌, cond, List, map, length, Some, refl, sym, ap, ◌∙◌, ◌⊎◌, inl, inr, arith}
use Rattle.std.proofs.lemmas.Bool.{cases_eq, eq-eqb, eqb-true, ne_eqb, and_parts}
use Rattle.std.proofs.lemmas.List.{length-take-le}
use Rattle.std.proofs.lemmas.Option.{same_Some}
use Rattle.std.specs.List.{filter, find}
use Rattle.std.specs.Option.{option_map}
use Rattle.wm_graph.specs.Parts.{Parts, space_of}
use Rattle.wm_graph.specs.Rules.{keep_rules, differ}
use Rattle.wm_spec.specs.declared.record.savepoint.Savepoint.{Savepoint as Record}
use Rattle.wm_spec.specs.declared.record.space.Space.{Space}
use Rattle.wm_state.specs.State.{Durable, Workspace, Savepoint, workspace_of, with_space, savepoint_made, savepoints_of}
use Rattle.wm_state.specs.Standing.{SpaceFields, SavepointFields, fields_of, fields_in, saved_fields, fields_saved, by_making, by_number, saved_in, saved_as, CountersStand, SpacesStand, SavepointsStand, FieldsStand}
use Rattle.wm_state.proofs.Apart.{ruled}
use Rattle.wm_state.proofs.Changing.{WasChanged, told_still, was_changed, workspace_of-changed}
use Rattle.wm_state.proofs.Climbing.{recorded_of}
use Rattle.wm_state.proofs.Frames.{OnceStand-changed, savepoints_of-found}
use Rattle.wm_state.proofs.Making.{differ-making, same_making}
use Rattle.wm_state.proofs.Mapped.{differ-alike}
use Rattle.wm_state.proofs.Named.{ruled_savepoints, saved_space, saved_there}
use Rattle.wm_state.proofs.SavedAs.{made_some_there}
use Rattle.wm_state.proofs.Tests.{differ_filter}
use Rattle.wm_undone.specs.Restoring.{GoesBack, RestoredTo, restored, restored_to, stays_at, stays_saved}
use Rattle.wm_undone.proofs.RestoringLists.{filter-alike, filter-left, filter-under, found-left, making-filter}

-- ---- a workspace of after, by what it was before

pub record WasRestored (n : ℕ) (k : Savepoint) (ws : List Workspace) (m : ℕ) (new : Workspace) : Type 0 where
  pub old : Workspace
  pub is : workspace_of ws m ≡ Some old
  pub parent : new.parent ≡ old.parent
  pub rebases : new.rebases ≡ old.rebases
  pub turns : new.turns ≡ old.turns
  pub how : ((m ≡ n) × (new ≡ restored k old)) ⊎ ((m ≢ n) × (new ≡ old))

was_restored : (n : ℕ) (k : Savepoint) (ws : List Workspace) (m : ℕ) (new : Workspace) → workspace_of (with_space n (restored k) ws) m ≡ Some new → WasRestored n k ws m new
was_restored n k ws m new is = by_case (was_changed n (restored k) (λ w. refl) ws m new is)
  where
    by_case : WasChanged n (restored k) ws m new → WasRestored n k ws m new
    by_case x = record {
      old = x.old;
      is = x.is;
      parent = told_still n (restored k) ws m new (λ (w : Workspace). w.parent) (λ w. refl) x;
      rebases = told_still n (restored k) ws m new (λ (w : Workspace). w.rebases) (λ w. refl) x;
      turns = told_still n (restored k) ws m new (λ (w : Workspace). w.turns) (λ w. refl) x;
      how = x.how;
    }

-- a savepoint of after was one before, and is one that stays
pub record WasMade (n : ℕ) (k : Savepoint) (ws : List Workspace) (m making : ℕ) (new : Workspace) (j : Savepoint) : Type 0 where
  pub was : WasRestored n k ws m new
  pub made : savepoint_made making was.old.savepoints ≡ Some j
  pub stays : m ≡ n → stays_at k j ≡ true

-- the makings of a workspace's savepoints differ
makings_apart : (p : Parts) (s : Durable) → keep_rules p ≡ true → SavepointsStand p s → (n : ℕ) (w : Workspace) → workspace_of s.spaces n ≡ Some w → differ (λ (i j : Savepoint). i.making == j.making) w.savepoints ≡ true
makings_apart p s rules stand n w found =
    let r = ruled p rules in
    sym (differ-alike saved_fields fields_saved (λ f g. f.making == g.making) (saved_in p n) w.savepoints (stand.same n ∙ ap (map fields_saved) (savepoints_of-found s.spaces n w found)))
    ∙ differ-making (filter (λ (y : Record). y.space == n) p.savepoints) (differ_filter same_making (λ (y : Record). y.space == n) p.savepoints (ruled_savepoints p r.counters.work r.savepoints).makings)

-- fields with another from and another length of the log
abbrev back_to : ℕ → ℕ → SpaceFields → SpaceFields
back_to from count f = record f { from = from; log_length = count }

module _ (p q : Parts) (s t : Durable) (n number making : ℕ) (a : Space) (w : Workspace) (k : Savepoint) (x : Record) (v : RestoredTo p q n number a x) (g : GoesBack p s n making w k x) (rules : keep_rules p ≡ true) (there : SpacesStand p s)
    (kept : SavepointsStand p s) (spaces : t.spaces ≡ with_space n (restored k) s.spaces) where
  -- ---- the savepoint and its record

  pub its_space : x.space ≡ n
  its_space = saved_space p n making x g.recorded

  pub its_fields : saved_fields x ≡ fields_saved k
  its_fields =
      let y = made_some_there p s n w rules kept g.found making x g.recorded in
      y.2.fields ∙ ap fields_saved (same_Some y.0 k (sym y.1 ∙ g.made))

  pub its_place : x.place ≡ k.place
  its_place = ap (λ (f : SavepointFields). f.place) its_fields

  pub its_log : x.log_length ≡ k.log_length
  its_log = ap (λ (f : SavepointFields). f.log_length) its_fields

  -- the record of the workspace
  pub recorded_here : fields_of a ≡ fields_in w
  recorded_here = let r = recorded_of p s there n w g.found in ap fields_of (same_Some a r.space (sym v.old ∙ r.found)) ∙ r.fields

  -- the log of the savepoint is no longer, and its place was given
  pub log_within : k.log_length ≤ length w.lists.log
  log_within =
      let y = saved_there p rules n making x g.recorded in
      le x.log_length y.space.log_length k.log_length (length w.lists.log) y.log its_log (ap (λ (o : Space). o.log_length) (same_Some y.space a (sym y.found ∙ v.old)) ∙ ap (λ (f : SpaceFields). f.log_length) recorded_here)
    where
      le : (i j l m : ℕ) → nat_le i j ≡ true → i ≡ l → j ≡ m → l ≤ m
      le i j l m e f h = grind (arith, e, f, h)

  pub place_within : k.place ≤ w.next_place
  place_within =
      let y = saved_there p rules n making x g.recorded in
      le x.place y.space.next_place k.place w.next_place y.place its_place (ap (λ (o : Space). o.next_place) (same_Some y.space a (sym y.found ∙ v.old)) ∙ ap (λ (f : SpaceFields). f.next_place) recorded_here)
    where
      le : (i j l m : ℕ) → nat_lt i j ≡ true → i ≡ l → j ≡ m → l ≤ m
      le i j l m e f h = grind (arith, e, f, h)

  -- ---- workspaces

  pub found_here : workspace_of t.spaces n ≡ Some (restored k w)
  found_here =
      ap (λ ws. workspace_of ws n) spaces
      ∙ workspace_of-changed n (restored k) (λ o. refl) s.spaces n
      ∙ ap (λ b. cond b (option_map (restored k) (workspace_of s.spaces n)) (workspace_of s.spaces n)) (eq-eqb n n refl)
      ∙ ap (option_map (restored k)) g.found

  pub found_away : (m : ℕ) → m ≢ n → workspace_of t.spaces m ≡ workspace_of s.spaces m
  found_away m away =
      ap (λ ws. workspace_of ws m) spaces
      ∙ workspace_of-changed n (restored k) (λ o. refl) s.spaces m
      ∙ ap (λ b. cond b (option_map (restored k) (workspace_of s.spaces m)) (workspace_of s.spaces m)) (ne_eqb _ _ away)

  pub before : (m : ℕ) (new : Workspace) → workspace_of t.spaces m ≡ Some new → WasRestored n k s.spaces m new
  before m new is = was_restored n k s.spaces m new (ap (λ ws. workspace_of ws m) (sym spaces) ∙ is)

  -- the one that went back is the one
  pub old_here : (m : ℕ) (old : Workspace) → workspace_of s.spaces m ≡ Some old → m ≡ n → old ≡ w
  old_here m old is here = same_Some old w (sym is ∙ ap (workspace_of s.spaces) here ∙ g.found)

  -- ---- savepoints

  pub made_before : (m at : ℕ) (new : Workspace) (j : Savepoint) → workspace_of t.spaces m ≡ Some new → savepoint_made at new.savepoints ≡ Some j → WasMade n k s.spaces m at new j
  made_before m at new j is made = by_how (before m new is)
    where
      by_how : WasRestored n k s.spaces m new → WasMade n k s.spaces m at new j
      by_how y = by_case y.how
        where
          left : new ≡ restored k y.old → (savepoint_made at y.old.savepoints ≡ Some j) × (stays_at k j ≡ true)
          left same =
              found-left (stays_at k) (λ (i : Savepoint). i.making == at) (λ (i l : Savepoint). i.making == l.making) (λ i l one other. eq-eqb _ _ (eqb-true i.making at one ∙ sym (eqb-true l.making at other)))
              y.old.savepoints j (makings_apart p s rules kept m y.old y.is) (ap (λ (o : Workspace). savepoint_made at o.savepoints) (sym same) ∙ made)

          by_case : ((m ≡ n) × (new ≡ restored k y.old)) ⊎ ((m ≢ n) × (new ≡ y.old)) → WasMade n k s.spaces m at new j
          by_case (inl h) = let z = left h.1 in record { was = y; made = z.0; stays = λ here. z.1 }
          by_case (inr h) = record { was = y; made = ap (λ (o : Workspace). savepoint_made at o.savepoints) (sym h.1) ∙ made; stays = λ here. absurd (h.0 here) }

  -- and a record of one was one
  pub saved_before : (m at : ℕ) (y : Record) → saved_as q m at ≡ Some y → saved_as p m at ≡ Some y
  saved_before m at y saved =
      (found-left (stays_saved x) (λ (z : Record). (z.space == m) && (z.making == at)) same_making (λ i l one other. eq-eqb _ _ (made_at i one ∙ sym (made_at l other))) p.savepoints y
      (ruled_savepoints p (ruled p rules).counters.work (ruled p rules).savepoints).makings
      (ap (λ xs. find (λ (z : Record). (z.space == m) && (z.making == at)) xs) (sym v.savepoints) ∙ saved)).0
    where
      made_at : (z : Record) → ((z.space == m) && (z.making == at)) ≡ true → z.making ≡ at
      made_at z is = eqb-true z.making at (and_parts (z.space == m) (z.making == at) is).1

  -- the records of its savepoints that stay, and those of every other workspace
  saved_in-here : saved_in q n ≡ filter (λ (y : Record). nat_le y.place x.place && nat_le y.log_length x.log_length) (saved_in p n)
  saved_in-here =
      ap (λ xs. by_making (filter (λ (y : Record). y.space == n) xs)) v.savepoints
      ∙ ap by_making (filter-under (λ (y : Record). y.space == n) (stays_saved x) (λ (y : Record). nat_le y.place x.place && nat_le y.log_length x.log_length)
      (λ y is. ap (λ b. not b || (nat_le y.place x.place && nat_le y.log_length x.log_length)) (eq-eqb _ _ (eqb-true y.space n is ∙ sym its_space))) p.savepoints)
      ∙ making-filter (λ (y : Record). nat_le y.place x.place && nat_le y.log_length x.log_length) (filter (λ (y : Record). y.space == n) p.savepoints)

  saved_in-away : (m : ℕ) → m ≢ n → saved_in q m ≡ saved_in p m
  saved_in-away m away =
      ap (λ xs. by_making (filter (λ (y : Record). y.space == m) xs)) v.savepoints
      ∙ ap by_making (filter-left (λ (y : Record). y.space == m) (stays_saved x)
      (λ y is. ap (λ b. not b || (nat_le y.place x.place && nat_le y.log_length x.log_length)) (ne_eqb y.space x.space (λ same. away (sym (eqb-true y.space m is) ∙ same ∙ its_space)))) p.savepoints)

  -- ---- the fields

  SpacesStand-restored : SpacesStand q t
  SpacesStand-restored = record { same = λ m. by_number m (cases_eq m n) }
    where
      -- the record and the workspace have the fields of before, but for two
      here_is : Some (fields_of (restored_to x a)) ≡ Some (fields_in (restored k w))
      here_is = ap Some
          (ap (back_to x.from x.log_length) recorded_here
          ∙ ap (λ i. back_to i x.log_length (fields_in w)) (ap (λ (f : SavepointFields). f.from) its_fields)
          ∙ ap (λ i. back_to k.from i (fields_in w)) (its_log ∙ sym (length-take-le k.log_length w.lists.log log_within)))

      by_number : (m : ℕ) → (m ≡ n) ⊎ (m ≢ n) → option_map fields_of (space_of q.spaces m) ≡ option_map fields_in (workspace_of t.spaces m)
      by_number m (inl here) =
          ap (λ i. option_map fields_of (space_of q.spaces i)) here ∙ ap (option_map fields_of) v.here ∙ here_is ∙ ap (option_map fields_in) (sym found_here) ∙ ap (λ i. option_map fields_in (workspace_of t.spaces i)) (sym here)
      by_number m (inr away) = ap (option_map fields_of) (v.elsewhere m (ne_eqb _ _ away)) ∙ there.same m ∙ ap (option_map fields_in) (sym (found_away m away))

  SavepointsStand-restored : SavepointsStand q t
  SavepointsStand-restored = record { same = λ m. by_number m (cases_eq m n) }
    where
      here_is : map saved_fields (saved_in q n) ≡ map fields_saved (savepoints_of t.spaces n)
      here_is =
          ap (map saved_fields) saved_in-here
          ∙ filter-alike saved_fields fields_saved (λ f. nat_le f.place x.place && nat_le f.log_length x.log_length) (saved_in p n) w.savepoints (kept.same n ∙ ap (map fields_saved) (savepoints_of-found s.spaces n w g.found))
          ∙ ap (λ (f : SavepointFields). map fields_saved (filter (λ (j : Savepoint). nat_le j.place f.place && nat_le j.log_length f.log_length) w.savepoints)) its_fields
          ∙ ap (map fields_saved) (sym (savepoints_of-found t.spaces n (restored k w) found_here))

      savepoints_of-same : (ws vs : List Workspace) (m : ℕ) → workspace_of ws m ≡ workspace_of vs m → savepoints_of ws m ≡ savepoints_of vs m
      savepoints_of-same ws vs m same = rw same refl

      by_number : (m : ℕ) → (m ≡ n) ⊎ (m ≢ n) → map saved_fields (saved_in q m) ≡ map fields_saved (savepoints_of t.spaces m)
      by_number m (inl here) = ap (λ i. map saved_fields (saved_in q i)) here ∙ here_is ∙ ap (λ i. map fields_saved (savepoints_of t.spaces i)) (sym here)
      by_number m (inr away) = ap (map saved_fields) (saved_in-away m away) ∙ kept.same m ∙ ap (map fields_saved) (sym (savepoints_of-same t.spaces s.spaces m (found_away m away)))

-- ---- the records agree with the state

pub FieldsStand-restored : (p q : Parts) (s t : Durable) (n number making : ℕ) (a : Space) (w : Workspace) (k : Savepoint) (x : Record) → RestoredTo p q n number a x → GoesBack p s n making w k x → keep_rules p ≡ true → FieldsStand p s
    → t.spaces ≡ with_space n (restored k) s.spaces → t.tables ≡ s.tables → CountersStand q t → FieldsStand q t
FieldsStand-restored p q s t n number making a w k x v g rules st spaces tables counters = record {
  counters = counters;
  tables = record { same = ap (λ (z : Parts). by_number z.tables) v.rest ∙ st.tables.same ∙ sym tables };
  spaces = SpacesStand-restored p q s t n number making a w k x v g rules st.spaces st.savepoints spaces;
  once = OnceStand-changed p q s t n (restored k) (λ o. refl) spaces v.count st.once;
  savepoints = SavepointsStand-restored p q s t n number making a w k x v g rules st.spaces st.savepoints spaces;
}
