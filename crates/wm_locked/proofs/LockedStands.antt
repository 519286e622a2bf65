-- The records with locks more, or without some, stand for the state of which that is so.
use Rattle.std.proofs.Common.{◌≡◌, ℕ, ◌+◌, ◌-◌, ◌≤◌, Bool, true, List, ◌∷◌, [], ◌++◌, Option, Some, None, refl, sym, ap, ◌∙◌, arith}
use Rattle.std.proofs.lemmas.Option.{same_Some}
use Rattle.std.specs.List.{filter}
use Rattle.std.specs.Option.{option_map, option_map_or}
use Rattle.wm_graph.specs.Parts.{Parts, space_of}
use Rattle.wm_graph.specs.Rules.{keep_rules}
use Rattle.wm_spec.specs.declared.record.counters.Counters.{Counters}
use Rattle.wm_spec.specs.declared.record.lock.Lock.{Lock}
use Rattle.wm_spec.specs.declared.record.lock.LockMode.{LockMode}
use Rattle.wm_spec.specs.declared.record.space.Space.{Space}
use Rattle.wm_state.specs.Editing.{last_place, lock_after, locks_made}
use Rattle.wm_state.specs.State.{Durable, Workspace, workspace_of}
use Rattle.wm_state.specs.Standing.{CountersStand, FieldsStand, LocksStand, SpaceFields, SpacesStand, Stands, TablesStand, fields_in, fields_of}
use Rattle.wm_state.specs.declared.edit.NewLock.{NewLock}
use Rattle.wm_state.proofs.Locking.{after-sorted, locks-filter, locks-made}
use Rattle.wm_state.proofs.Ready.{KeepReady-same}
use Rattle.wm_state.proofs.Standing.{FieldsStand-retabled, Stands-retabled}
use Rattle.wm_locked.proofs.LockedRules.{relocked}

-- ---- whatever becomes of locks

pub FieldsStand-relocked : (p : Parts) (new : Counters) (locks : List Lock) (s t : Durable) → FieldsStand p s → t.spaces ≡ s.spaces → t.tables ≡ s.tables → CountersStand (relocked p new locks) t → FieldsStand (relocked p new locks) t
FieldsStand-relocked p new locks s t st spaces tables counters =
    FieldsStand-retabled p (relocked p new locks) s t (record { rest = refl }) spaces st (record { same = st.tables.same ∙ sym tables }) counters

pub Stands-relocked : (p : Parts) (new : Counters) (locks : List Lock) (s t : Durable) → Stands p s → t.spaces ≡ s.spaces → t.tables ≡ s.tables → LocksStand (relocked p new locks) t → CountersStand (relocked p new locks) t
    → keep_rules (relocked p new locks) ≡ true → Stands (relocked p new locks) t
Stands-relocked p new locks s t st spaces tables stand counters rules =
    Stands-retabled p (relocked p new locks) s t (record { rest = refl }) spaces st (record { same = st.tables.same ∙ sym tables }) stand counters rules (KeepReady-same s.tables t.tables tables)

-- ---- locks are made

-- the place that was given last is that of the record
pub place_is : (p : Parts) (s : Durable) (n : ℕ) (a : Space) → SpacesStand p s → space_of p.spaces n ≡ Some a → last_place s.spaces n ≡ a.next_place - 1
place_is p s n a st there = by_space (workspace_of s.spaces n) refl
  where
    none_fields : (f : SpaceFields) → Some f ≡ (let nothing : Option SpaceFields = None in nothing) → ⊥
    none_fields f e = cc

    told : option_map fields_in (workspace_of s.spaces n) ≡ Some (fields_of a)
    told = sym (st.same n) ∙ ap (option_map fields_of) there

    by_space : (o : Option Workspace) → workspace_of s.spaces n ≡ o → last_place s.spaces n ≡ a.next_place - 1
    by_space None none = absurd (none_fields (fields_of a) (sym told ∙ ap (option_map fields_in) none))
    by_space (Some w) found =
        ap (λ (o : Option Workspace). option_map_or (λ (v : Workspace). v.next_place - 1) o 0) found
        ∙ ap (λ (f : SpaceFields). f.next_place - 1) (same_Some (fields_in w) (fields_of a) (sym (ap (option_map fields_in) found) ∙ told))

pub LocksStand-made : (p : Parts) (new : Counters) (s t : Durable) (n : ℕ) (a : Space) (mode : LockMode) (user : List ℕ) (ys : List NewLock) → SpacesStand p s → LocksStand p s → space_of p.spaces n ≡ Some a
    → t.locks ≡ s.locks ++ locks_made n (last_place s.spaces n) mode user (lock_after s.locks) ys
    → LocksStand (relocked p new (p.locks ++ locks_made n (a.next_place - 1) mode user (lock_after p.locks) ys)) t
LocksStand-made p new s t n a mode user ys st stand there locks = record {
  same =
      locks-made n (a.next_place - 1) mode user ys p.locks (lock_after p.locks) (least (lock_after p.locks))
      ∙ ap (λ xs. xs ++ locks_made n (a.next_place - 1) mode user (lock_after p.locks) ys) stand.same
      ∙ ap (λ making. s.locks ++ locks_made n (a.next_place - 1) mode user making ys) (sym (after-sorted p.locks) ∙ ap lock_after stand.same)
      ∙ ap (λ place. s.locks ++ locks_made n place mode user (lock_after s.locks) ys) (sym (place_is p s n a st there))
      ∙ sym locks;
}
  where
    least : (a : ℕ) → a ≤ a
    least a = omega arith

-- ---- locks go

pub LocksStand-filter : (p : Parts) (new : Counters) (s t : Durable) (stays : Lock → Bool) → LocksStand p s → t.locks ≡ filter stays s.locks → LocksStand (relocked p new (filter stays p.locks)) t
LocksStand-filter p new s t stays stand locks = record { same = locks-filter stays p.locks ∙ ap (filter stays) stand.same ∙ sym locks }
