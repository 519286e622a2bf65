-- The records keep the rules and stand for the state after the batch by which a workspace is born.
use Rattle.std.proofs.Common.{◌≡◌, ◌≢◌, ℕ, ◌+◌, ◌<◌, ◌==◌, Bool, true, false, cond, List, [], ◌∷◌, ◌++◌, Option, Some, None, refl, sym, ap, subst, ◌∙◌, arith}
use Rattle.std.proofs.lemmas.Bool.{ne_eqb}
use Rattle.wm_graph.specs.Parts.{Parts, parts_of}
use Rattle.wm_graph.specs.Rules.{keep_rules}
use Rattle.wm_spec.specs.Records.{record_at, change_at, ids_differ, AreChanges}
use Rattle.wm_spec.specs.declared.record.Record.{Record}
use Rattle.wm_spec.specs.declared.record.Record.TheVariants as records
use Rattle.wm_spec.specs.declared.record.stored.Stored.{Stored}
use Rattle.wm_spec.specs.declared.record.batch.Change.{Change}
use Rattle.wm_spec.specs.declared.record.counters.Counters.{Counters}
use Rattle.wm_spec.specs.declared.record.savepoint.Savepoint.{Savepoint}
use Rattle.wm_spec.specs.declared.record.space.Space.{Space}
use Rattle.wm_spec.specs.declared.record.turn.Turn.{Turn}
use Rattle.wm_spec.specs.declared.record.version.Version.{Version}
use Rattle.wm_state.specs.ById.{Ascend, set_at, applied}
use Rattle.wm_state.specs.Batches.{AllUnder, put, savepoint_batch, birth_batch}
use Rattle.wm_state.specs.Effects.{marked}
use Rattle.wm_state.specs.State.{Durable, Workspace, workspace_of, with_space, with_savepoint}
use Rattle.wm_state.specs.State.{Savepoint as Kept}
use Rattle.wm_state.specs.Standing.{fields_of, fields_in, saved_fields, fields_saved, CountersStand, FieldsStand, Stands}
use Rattle.wm_state.proofs.ById.{one_order}
use Rattle.wm_state.proofs.Batches.{over_it, Ascend-applied, record_at-applied}
use Rattle.wm_state.proofs.ByKind.{under_found}
use Rattle.wm_state.proofs.Planning.{recounted}
use Rattle.wm_state.proofs.WorkedOn.{first_change}
use Rattle.wm_forked.proofs.SavedStands.{IsKept}
use Rattle.wm_forked.proofs.KeepSaved.{MaySave}
use Rattle.wm_forked.proofs.PlannedSaved.{SavedParts, parts-saved, AllUnder-saved, changes-saved}
use Rattle.wm_forked.proofs.KeepBorn.{MayBear, born}
use Rattle.wm_forked.proofs.PlannedBorn.{child_batch, parts-born}
use Rattle.wm_forked.proofs.Births.{IsBornAt, between, birthed, keep-birth, FieldsStand-birth, Stands-birth}

-- ---- the ids of the batch

pub changes-birth : (counters_id : ℕ) (new : Counters) (space_id : ℕ) (space : Space) (id : ℕ) (x : Savepoint) (r : Space) (v : Version) (u : Turn) → counters_id ≢ space_id → counters_id < id → space_id < id
    → AreChanges (birth_batch counters_id new space_id space id x r v u)
unfolding ids_differ
changes-birth counters_id new space_id space id x r v u apart counters_under space_under =
    rw (
      ne_eqb space_id counters_id (λ same. apart (sym same)),
      above counters_id counters_under,
      later counters_id 1 counters_under,
      later counters_id 2 counters_under,
      later counters_id 3 counters_under,
      above space_id space_under,
      later space_id 1 space_under,
      later space_id 2 space_under,
      later space_id 3 space_under,
      behind id 0,
      behind id 1,
      behind id 2,
      further id,
      furthest id,
      last id,
    ) refl
  where
    above : (m : ℕ) → m < id → (id == m) ≡ false
    above m lt = grind (arith, lt)

    later : (m more : ℕ) → m < id → (id + more == m) ≡ false
    later m more lt = grind (arith, lt)

    behind : (k more : ℕ) → (k + (more + 1) == k) ≡ false
    behind k more = grind arith

    further : (k : ℕ) → (k + 2 == k + 1) ≡ false
    further k = grind arith

    furthest : (k : ℕ) → (k + 3 == k + 1) ≡ false
    furthest k = grind arith

    last : (k : ℕ) → (k + 3 == k + 2) ≡ false
    last k = grind arith

-- ---- the whole batch is its halves, one after the other

-- what is put twice is what was put last
over_again : (b c d : Bool) (k m s x : Record) (o : Option Record)
    → over_it (cond b (Some (Some k)) (cond c (Some (Some s)) (cond d (Some (Some x)) None))) o
    ≡ over_it (cond b (Some (Some k)) None) (over_it (cond b (Some (Some m)) (cond c (Some (Some s)) (cond d (Some (Some x)) None))) o)
over_again true c d k m s x o = refl
over_again false true d k m s x o = refl
over_again false false true k m s x o = refl
over_again false false false k m s x o = refl

counted_again : (ss : List Stored) (counters_id space_id id : ℕ) (mid new : Counters) (space : Space) (x : Savepoint) → Ascend ss → AreChanges (savepoint_batch counters_id mid space_id space id x)
    → AreChanges (savepoint_batch counters_id new space_id space id x)
    → applied (savepoint_batch counters_id new space_id space id x) ss ≡ set_at counters_id (Some (records.Counters new)) (applied (savepoint_batch counters_id mid space_id space id x) ss)
unfolding change_at ids_differ
counted_again ss counters_id space_id id mid new space x sorted first whole =
    let middle : List Stored = applied (savepoint_batch counters_id mid space_id space id x) ss in
    let middle_sorted : Ascend middle = Ascend-applied (savepoint_batch counters_id mid space_id space id x) ss sorted in
    let again : List Change = put counters_id (records.Counters new) ∷ [] in
    one_order (applied (savepoint_batch counters_id new space_id space id x) ss) (applied again middle)
    (Ascend-applied (savepoint_batch counters_id new space_id space id x) ss sorted) (Ascend-applied again middle middle_sorted)
    (λ k. record_at-applied (savepoint_batch counters_id new space_id space id x) ss whole sorted k
    ∙ over_again (counters_id == k) (space_id == k) (id == k) (records.Counters new) (records.Counters mid) (records.Space space) (records.Savepoint x) (record_at ss k)
    ∙ sym (record_at-applied again middle refl middle_sorted k ∙ ap (over_it (change_at again k)) (record_at-applied (savepoint_batch counters_id mid space_id space id x) ss first sorted k)))

half_after_half : (ss : List Stored) (counters_id space_id id : ℕ) (mid new : Counters) (space : Space) (x : Savepoint) (r : Space) (v : Version) (u : Turn) → Ascend ss → counters_id ≢ space_id → counters_id < id → space_id < id
    → applied (birth_batch counters_id new space_id space id x r v u) ss ≡ applied (child_batch counters_id new (id + 1) r v u) (applied (savepoint_batch counters_id mid space_id space id x) ss)
half_after_half ss counters_id space_id id mid new space x r v u sorted apart counters_under space_under =
    ap (λ ts. rest (id + 2) (id + 3) ts)
    (counted_again ss counters_id space_id id mid new space x sorted (changes-saved counters_id mid space_id space id x apart counters_under space_under) (changes-saved counters_id new space_id space id x apart counters_under space_under))
    ∙ ap (λ k. rest k (id + 3) after) (two id)
    ∙ ap (λ k. rest (id + 1 + 1) k after) (three id)
  where
    after : List Stored
    after = set_at counters_id (Some (records.Counters new)) (applied (savepoint_batch counters_id mid space_id space id x) ss)

    -- the workspace, its version and its turn
    rest : ℕ → ℕ → List Stored → List Stored
    rest at last ts = set_at last (Some (records.Turn u)) (set_at at (Some (records.Version v)) (set_at (id + 1) (Some (records.Space r)) ts))

    two : (k : ℕ) → k + 2 ≡ k + 1 + 1
    two k = omega arith

    three : (k : ℕ) → k + 3 ≡ k + 1 + 1 + 1
    three k = omega arith

-- ---- what is asked

-- the counters and the parent's record are in their places, all ids are below the new ones, and a savepoint and a workspace that is
-- born from its parent may be made
pub record MayBirth (ss : List Stored) (counters_id space_id id : ℕ) (old new : Counters) (a : Space) (place implicit : ℕ) (x : Savepoint) (b r : Space) (v : Version) (u : Turn) : Type 0 where
  pub sorted : Ascend ss
  pub counters : record_at ss counters_id ≡ Some (records.Counters old)
  pub space : record_at ss space_id ≡ Some (records.Space a)
  pub under : AllUnder id ss
  pub save : (front back : List Space) → (parts_of ss).spaces ≡ front ++ a ∷ back → MaySave (parts_of ss) old (between old new) front a back place implicit x
  pub bear : MayBear (parts_of ss) old new b r v u

-- ---- the parts after it

pub record BirthParts (ss after : List Stored) (old new : Counters) (a : Space) (place implicit : ℕ) (x : Savepoint) (r : Space) (v : Version) (u : Turn) : Type 0 where
  pub front : List Space
  pub back : List Space
  pub old_spaces : (parts_of ss).spaces ≡ front ++ a ∷ back
  pub is : parts_of after ≡ birthed (parts_of ss) old new front a back place implicit x r v u

pub parts-birth : (ss : List Stored) (counters_id space_id id : ℕ) (old new : Counters) (a : Space) (place implicit : ℕ) (x : Savepoint) (b r : Space) (v : Version) (u : Turn) → MayBirth ss counters_id space_id id old new a place implicit x b r v u
    → BirthParts ss (applied (birth_batch counters_id new space_id (marked place implicit a) id x r v u) ss) old new a place implicit x r v u
parts-birth ss counters_id space_id id old new a place implicit x b r v u may = record {
  front = parts.front;
  back = parts.back;
  old_spaces = parts.old;
  is =
      ap parts_of (half_after_half ss counters_id space_id id mid new (marked place implicit a) x r v u may.sorted apart counters_under space_under)
      ∙ parts-born middle counters_id (id + 1) mid new r v u (Ascend-applied (savepoint_batch counters_id mid space_id (marked place implicit a) id x) ss may.sorted) counted
      (ap (λ (p : Parts). p.counters) parts.is)
      (AllUnder-saved ss counters_id space_id old mid a (marked place implicit a) id x may.sorted may.counters may.space may.under)
      ∙ ap (λ p. born p new r v u) parts.is;
}
  where
    mid : Counters
    mid = between old new

    middle : List Stored
    middle = applied (savepoint_batch counters_id mid space_id (marked place implicit a) id x) ss

    parts : SavedParts ss (savepoint_batch counters_id mid space_id (marked place implicit a) id x) mid a place implicit x
    parts = parts-saved ss counters_id space_id old mid a place implicit id x may.sorted may.counters may.bear.one may.space may.under

    counters_under : counters_id < id
    counters_under = under_found id ss counters_id (records.Counters old) may.under may.counters

    space_under : space_id < id
    space_under = under_found id ss space_id (records.Space a) may.under may.space

    counters_or_space : (o : Option Record) → o ≡ Some (records.Counters old) → o ≡ Some (records.Space a) → ⊥
    counters_or_space o f g = cc

    apart : counters_id ≢ space_id
    apart same = counters_or_space (record_at ss space_id) (ap (record_at ss) (sym same) ∙ may.counters) may.space

    counted : record_at middle counters_id ≡ Some (records.Counters mid)
    counted =
        record_at-applied (savepoint_batch counters_id mid space_id (marked place implicit a) id x) ss (changes-saved counters_id mid space_id (marked place implicit a) id x apart counters_under space_under) may.sorted counters_id
        ∙ ap (λ o. over_it o (record_at ss counters_id)) (first_change counters_id (records.Counters mid) _)

-- ---- the laws

-- the rules hold after the batch
pub keep_plan_birth : (ss : List Stored) (counters_id space_id id : ℕ) (old new : Counters) (a : Space) (place implicit : ℕ) (x : Savepoint) (b r : Space) (v : Version) (u : Turn) → keep_rules (parts_of ss) ≡ true
    → MayBirth ss counters_id space_id id old new a place implicit x b r v u → keep_rules (parts_of (applied (birth_batch counters_id new space_id (marked place implicit a) id x r v u) ss)) ≡ true
keep_plan_birth ss counters_id space_id id old new a place implicit x b r v u rules may =
    let i = parts-birth ss counters_id space_id id old new a place implicit x b r v u may in
    ap keep_rules i.is ∙ keep-birth (parts_of ss) old new i.front a i.back place implicit x b r v u (may.save i.front i.back i.old_spaces) may.bear rules

-- the records agree with the state with the savepoint and the workspace
pub agree_birth : (ss : List Stored) (counters_id space_id id : ℕ) (old new : Counters) (a : Space) (place implicit : ℕ) (x : Savepoint) (b r : Space) (v : Version) (u : Turn) (parent child : Workspace) (k : Kept) (s t : Durable)
    → keep_rules (parts_of ss) ≡ true → FieldsStand (parts_of ss) s → MayBirth ss counters_id space_id id old new a place implicit x b r v u → workspace_of s.spaces x.space ≡ Some parent → saved_fields x ≡ fields_saved k
    → fields_of r ≡ fields_in child → child.number ≡ r.number → child.savepoints ≡ [] → t.spaces ≡ with_space x.space (with_savepoint place implicit k) s.spaces ++ child ∷ [] → t.tables ≡ s.tables
    → CountersStand (recounted (parts_of ss) new) t → FieldsStand (parts_of (applied (birth_batch counters_id new space_id (marked place implicit a) id x r v u) ss)) t
agree_birth ss counters_id space_id id old new a place implicit x b r v u parent child k s t rules st may found kept_fields fields number savepoints spaces tables counters =
    let i = parts-birth ss counters_id space_id id old new a place implicit x b r v u may in
    subst (λ p. FieldsStand p t) (sym i.is)
    (FieldsStand-birth (parts_of ss) old new i.front a i.back place implicit x b r v u parent child k s t rules st (may.save i.front i.back i.old_spaces) may.bear found kept_fields fields number savepoints spaces tables
    (record { counters = counters.counters; one = counters.one; next_stamp = counters.next_stamp; last_moment = counters.last_moment; limit = counters.limit; work = counters.work }))

-- and stand for it
pub plan_birth : (ss : List Stored) (counters_id space_id id : ℕ) (old new : Counters) (a : Space) (place implicit : ℕ) (x : Savepoint) (b r : Space) (v : Version) (u : Turn) (parent child : Workspace) (k : Kept) (s t : Durable)
    → Stands (parts_of ss) s → MayBirth ss counters_id space_id id old new a place implicit x b r v u → workspace_of s.spaces x.space ≡ Some parent → IsKept (parts_of ss) s parent k x → IsBornAt x k r u child
    → t.spaces ≡ with_space x.space (with_savepoint place implicit k) s.spaces ++ child ∷ [] → t.tables ≡ s.tables → t.locks ≡ s.locks → CountersStand (recounted (parts_of ss) new) t
    → Stands (parts_of (applied (birth_batch counters_id new space_id (marked place implicit a) id x r v u) ss)) t
plan_birth ss counters_id space_id id old new a place implicit x b r v u parent child k s t st may found is_kept is_born spaces tables locks counters =
    let i = parts-birth ss counters_id space_id id old new a place implicit x b r v u may in
    subst (λ p. Stands p t) (sym i.is)
    (Stands-birth (parts_of ss) old new i.front a i.back place implicit x b r v u parent child k s t st (may.save i.front i.back i.old_spaces) may.bear found is_kept is_born spaces tables locks
    (record { counters = counters.counters; one = counters.one; next_stamp = counters.next_stamp; last_moment = counters.last_moment; limit = counters.limit; work = counters.work }))
