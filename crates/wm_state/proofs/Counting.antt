-- Counters that a batch moves, and those of the state that the records stand for.
use Rattle.std.proofs.Common.{◌≡◌, ◌≢◌, ℕ, ◌≤◌, ◌+◌, ◌^◌, ◌&&◌, nat_lt, nat_le, true, false, [], ◌∷◌, refl, sym, ap, ◌∙◌, arith}
use Rattle.std.proofs.lemmas.Bool.{ne_eqb, and_parts}
use Rattle.wm_base.specs.declared.instant.TheConstants.{END}
use Rattle.wm_graph.specs.Parts.{Parts}
use Rattle.wm_graph.specs.Rules.{keep_rules, are_counters}
use Rattle.wm_spec.specs.Records.{AreChanges, ids_differ}
use Rattle.wm_spec.specs.declared.record.batch.Change.{Change}
use Rattle.wm_spec.specs.declared.record.counters.Counters.{Counters}
use Rattle.wm_state.specs.Drafts.{CanWork}
use Rattle.wm_state.specs.Editing.{counter_limit}
use Rattle.wm_state.specs.Points.{moved, versioned}
use Rattle.wm_state.specs.Standing.{CountersStand, Stands}
use Rattle.wm_state.specs.State.{Durable}
use Rattle.wm_state.proofs.Apart.{ruled}
use Rattle.wm_state.proofs.Growing.{same_counters}

-- ---- counters in order

-- the work grows
pub work_grows : (n work : ℕ) → n ≤ n + work
work_grows n work = omega arith

-- what counters in order are
record Counted (c : Counters) : Type 0 where
  limit : (nat_le 1 c.limit && nat_le c.limit 1048576) ≡ true
  stamped : nat_le 1 c.next_stamp ≡ true
  left : nat_le c.next_stamp (c.limit + 1) ≡ true
  early : nat_lt c.last_moment END ≡ true
  work : nat_le c.work (2 ^ 62) ≡ true
  versions : nat_le c.next_version (c.work + 2) ≡ true

-- told of counters that pass the test
counted_so : (c : Counters) → are_counters c ≡ true → Counted c
counted_so c e =
    let h = and_parts ((nat_le 1 c.limit && nat_le c.limit 1048576) && (nat_le 1 c.next_stamp && nat_le c.next_stamp (c.limit + 1))) _ e in
    let f = and_parts (nat_le 1 c.limit && nat_le c.limit 1048576) (nat_le 1 c.next_stamp && nat_le c.next_stamp (c.limit + 1)) h.0 in
    let s = and_parts (nat_le 1 c.next_stamp) (nat_le c.next_stamp (c.limit + 1)) f.1 in
    let g = and_parts (nat_lt c.last_moment END) (nat_le c.work (2 ^ 62) && nat_le c.next_version (c.work + 2)) h.1 in
    let k = and_parts (nat_le c.work (2 ^ 62)) (nat_le c.next_version (c.work + 2)) g.1 in
    record { limit = f.0; stamped = s.0; left = s.1; early = g.0; work = k.0; versions = k.1 }

-- the work has room
in_work : (w work : ℕ) → nat_lt counter_limit (w + work) ≡ false → nat_le (w + work) (2 ^ 62) ≡ true
in_work w work e = grind (arith, e)

-- a change is counted in the work
pub counters_move : (c : Counters) (m work : ℕ) → are_counters c ≡ true → nat_lt m END ≡ true → nat_lt counter_limit (c.work + work) ≡ false → are_counters (moved c m work) ≡ true
counters_move c m work e early room =
    let k = counted_so c e in rw (k.limit, k.stamped, k.left, early, in_work c.work work room, still c.next_version c.work k.versions) refl
  where
    still : (v w : ℕ) → nat_le v (w + 2) ≡ true → nat_le v (w + work + 2) ≡ true
    still v w e = grind (arith, e)

-- so is a version more
pub versioned_well : (c : Counters) (m work : ℕ) → are_counters c ≡ true → nat_lt m END ≡ true → nat_lt 0 work ≡ true → nat_lt counter_limit (c.work + work) ≡ false → are_counters (versioned c m work) ≡ true
versioned_well c m work e early some room =
    let k = counted_so c e in rw (k.limit, k.stamped, k.left, early, in_work c.work work room, still c.next_version c.work k.versions) refl
  where
    still : (v w : ℕ) → nat_le v (w + 2) ≡ true → nat_le (v + 1) (w + work + 2) ≡ true
    still v w e = grind (arith, e, some)

-- more stamps are given
pub stamped_by : (c : Counters) (k : ℕ) → are_counters c ≡ true → nat_le (c.next_stamp + k) (c.limit + 1) ≡ true → are_counters (record c { next_stamp = c.next_stamp + k }) ≡ true
stamped_by c k e left =
    let h = counted_so c e in rw (h.limit, more c.next_stamp k h.stamped, left, h.early, h.work, h.versions) refl
  where
    more : (n k : ℕ) → nat_le 1 n ≡ true → nat_le 1 (n + k) ≡ true
    more n k e = grind (arith, e)

-- a log that is not at its end
pub in_room : (n : ℕ) → nat_lt counter_limit n ≡ false → nat_le n (2 ^ 62) ≡ true
in_room n e = grind (arith, e)

-- ---- the counters of the records

-- they are in order
pub counted_well : (p : Parts) (c : Counters) → keep_rules p ≡ true → p.counters ≡ c ∷ [] → are_counters c ≡ true
counted_well p c rules one = let r = ruled p rules in ap are_counters (sym (same_counters p c r.counters one r.one)) ∙ r.counted

-- the work has room in them
pub work_room : (p : Parts) (m work : ℕ) (c : Counters) → CanWork p m work → p.counters ≡ c ∷ [] → nat_lt counter_limit (c.work + work) ≡ false
work_room p m work c can one = ap (λ (d : Counters). nat_lt counter_limit (d.work + work)) (sym (same_counters p c can.counters one can.one)) ∙ can.room

-- they can be moved
pub moved_well : (p : Parts) (m work : ℕ) (c : Counters) → keep_rules p ≡ true → CanWork p m work → p.counters ≡ c ∷ [] → are_counters (moved c m work) ≡ true
moved_well p m work c rules can one = counters_move c m work (counted_well p c rules one) can.early (work_room p m work c can one)

-- and a version more be counted
pub version_well : (p : Parts) (m work : ℕ) (c : Counters) → keep_rules p ≡ true → CanWork p m work → p.counters ≡ c ∷ [] → are_counters (versioned c m work) ≡ true
version_well p m work c rules can one = versioned_well c m work (counted_well p c rules one) can.early can.some (work_room p m work c can one)

-- ---- the counters of the state

-- the counters of the records are those of the state
pub record CountsAs (c : Counters) (s : Durable) : Type 0 where
  pub next_stamp : c.next_stamp ≡ s.next_stamp
  pub last_moment : c.last_moment ≡ s.last_moment
  pub limit : c.limit ≡ s.limit
  pub work : c.work ≡ s.work

-- so it is where they agree with it in counters
pub counts_in : (p : Parts) (s : Durable) (c : Counters) → CountersStand p s → p.counters ≡ c ∷ [] → CountsAs c s
counts_in p s c k one =
    let same : k.counters ≡ c = same_counters p c k.counters one k.one in
    record {
      next_stamp = ap (λ (x : Counters). x.next_stamp) (sym same) ∙ k.next_stamp;
      last_moment = ap (λ (x : Counters). x.last_moment) (sym same) ∙ k.last_moment;
      limit = ap (λ (x : Counters). x.limit) (sym same) ∙ k.limit;
      work = ap (λ (x : Counters). x.work) (sym same) ∙ k.work;
    }

-- ---- two changes

-- two changes of different ids
pub two_changes : (c d : Change) → c.id ≢ d.id → AreChanges (c ∷ d ∷ [])
unfolding ids_differ
two_changes c d apart = rw (ne_eqb d.id c.id (λ e. apart (sym e))) refl

-- and so where they stand for it
pub counts_as : (p : Parts) (s : Durable) (c : Counters) → Stands p s → p.counters ≡ c ∷ [] → CountsAs c s
counts_as p s c stands one = counts_in p s c stands.counters one
