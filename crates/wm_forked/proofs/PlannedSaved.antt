-- The records keep the rules and stand for the state after the batch that makes a savepoint.
use Rattle.std.proofs.Common.{◌≡◌, ◌≢◌, ℕ, ◌+◌, ◌<◌, ◌==◌, true, false, List, [], ◌∷◌, ◌++◌, Some, refl, sym, ap, subst, ◌∙◌, arith}
use Rattle.std.proofs.lemmas.Bool.{ne_eqb}
use Rattle.wm_graph.specs.Parts.{Parts, parts_of, as_space}
use Rattle.wm_graph.specs.Rules.{keep_rules}
use Rattle.wm_spec.specs.Records.{record_at, ids_differ, AreChanges}
use Rattle.wm_spec.specs.declared.record.Record.{Record}
use Rattle.wm_spec.specs.declared.record.Record.TheVariants as records
use Rattle.wm_spec.specs.declared.record.stored.Stored.{Stored}
use Rattle.wm_spec.specs.declared.record.batch.Change.{Change}
use Rattle.wm_spec.specs.declared.record.counters.Counters.{Counters}
use Rattle.wm_spec.specs.declared.record.savepoint.Savepoint.{Savepoint}
use Rattle.wm_spec.specs.declared.record.space.Space.{Space}
use Rattle.wm_spec.specs.declared.record.turn.Turn.{Turn}
use Rattle.wm_spec.specs.declared.record.version.Version.{Version}
use Rattle.wm_state.specs.ById.{Ascend, set_at, applied}
use Rattle.wm_state.specs.Batches.{AllUnder, savepoint_batch}
use Rattle.wm_state.specs.Effects.{marked}
use Rattle.wm_state.specs.State.{Durable, Workspace, workspace_of, with_space, with_savepoint}
use Rattle.wm_state.specs.State.{Savepoint as Kept}
use Rattle.wm_state.specs.Standing.{saved_fields, fields_saved, CountersStand, FieldsStand, Stands}
use Rattle.wm_state.proofs.ById.{Ascend-set}
use Rattle.wm_state.proofs.ByKind.{kinds, Split, split_of, set-split, set-behind}
use Rattle.wm_state.proofs.Planning.{recounted, parts-spaced, spaces-split, parts-more_savepoint, parts-more_space, parts-more_turn, parts-more_version}
use Rattle.wm_state.proofs.Planned.{counted, found_still, AllUnder-set, AllUnder-next}
use Rattle.wm_forked.proofs.KeepSaved.{saved, MaySave, keep-saved, FieldsStand-kept, Stands-kept}
use Rattle.wm_forked.proofs.SavedStands.{IsKept}

-- ---- single steps

-- a record of a workspace is one of the workspaces, and another that takes its place is so there
pub record Spaced (ss : List Stored) (id : ℕ) (a : Space) : Type 0 where
  pub front : List Space
  pub back : List Space
  pub old : (parts_of ss).spaces ≡ front ++ a ∷ back
  pub is : (b : Space) → parts_of (set_at id (Some (records.Space b)) ss) ≡ record (parts_of ss) { spaces = front ++ b ∷ back }

spaced : (ss : List Stored) (id : ℕ) (a : Space) → Ascend ss → record_at ss id ≡ Some (records.Space a) → Spaced ss id a
spaced ss id a sorted found = by_split (split_of ss id (records.Space a) found)
  where
    by_split : Split ss id (records.Space a) → Spaced ss id a
    by_split s = record {
      front = kinds as_space s.front;
      back = kinds as_space s.back;
      old = ap (λ xs. (parts_of xs).spaces) s.is ∙ spaces-split s.front s.back id a;
      is = λ b.
          ap parts_of (ap (set_at id (Some (records.Space b))) s.is ∙ set-split s.front s.back id (records.Space a) (records.Space b) (subst (λ xs. Ascend xs) s.is sorted))
          ∙ parts-spaced s.front s.back id a b
          ∙ ap (λ xs. record (parts_of xs) { spaces = kinds as_space s.front ++ b ∷ kinds as_space s.back }) (sym s.is);
    }

-- a new record comes behind those of its kind
more_savepoint : (ss : List Stored) (id : ℕ) (x : Savepoint) → AllUnder id ss → parts_of (set_at id (Some (records.Savepoint x)) ss) ≡ record (parts_of ss) { savepoints = (parts_of ss).savepoints ++ x ∷ [] }
more_savepoint ss id x under = ap parts_of (set-behind ss id (records.Savepoint x) under) ∙ parts-more_savepoint ss id x

pub more_space : (ss : List Stored) (id : ℕ) (a : Space) → AllUnder id ss → parts_of (set_at id (Some (records.Space a)) ss) ≡ record (parts_of ss) { spaces = (parts_of ss).spaces ++ a ∷ [] }
more_space ss id a under = ap parts_of (set-behind ss id (records.Space a) under) ∙ parts-more_space ss id a

pub more_version : (ss : List Stored) (id : ℕ) (v : Version) → AllUnder id ss → parts_of (set_at id (Some (records.Version v)) ss) ≡ record (parts_of ss) { versions = (parts_of ss).versions ++ v ∷ [] }
more_version ss id v under = ap parts_of (set-behind ss id (records.Version v) under) ∙ parts-more_version ss id v

pub more_turn : (ss : List Stored) (id : ℕ) (x : Turn) → AllUnder id ss → parts_of (set_at id (Some (records.Turn x)) ss) ≡ record (parts_of ss) { turns = (parts_of ss).turns ++ x ∷ [] }
more_turn ss id x under = ap parts_of (set-behind ss id (records.Turn x) under) ∙ parts-more_turn ss id x

-- all ids are under the next once one is behind all
pub AllUnder-more : (n : ℕ) (ss : List Stored) (r : Record) → AllUnder n ss → AllUnder (n + 1) (set_at n (Some r) ss)
AllUnder-more n ss r under = subst (λ xs. AllUnder (n + 1) xs) (sym (set-behind ss n r under)) (AllUnder-next n ss r under)

-- ---- the batch that makes a savepoint

-- its ids differ
pub changes-saved : (counters_id : ℕ) (new : Counters) (space_id : ℕ) (space : Space) (id : ℕ) (x : Savepoint) → counters_id ≢ space_id → counters_id < id → space_id < id
    → AreChanges (savepoint_batch counters_id new space_id space id x)
unfolding ids_differ
changes-saved counters_id new space_id space id x apart counters_under space_under =
    rw (ne_eqb space_id counters_id (λ same. apart (sym same)), above counters_id counters_under, above space_id space_under) refl
  where
    above : (m : ℕ) → m < id → (id == m) ≡ false
    above m lt = grind (arith, lt)

-- the parts after it
pub record SavedParts (ss : List Stored) (cs : List Change) (new : Counters) (a : Space) (place implicit : ℕ) (x : Savepoint) : Type 0 where
  pub front : List Space
  pub back : List Space
  pub old : (parts_of ss).spaces ≡ front ++ a ∷ back
  pub is : parts_of (applied cs ss) ≡ saved (parts_of ss) new front a back place implicit x

pub parts-saved : (ss : List Stored) (counters_id space_id : ℕ) (old new : Counters) (a : Space) (place implicit id : ℕ) (x : Savepoint) → Ascend ss → record_at ss counters_id ≡ Some (records.Counters old)
    → (parts_of ss).counters ≡ old ∷ [] → record_at ss space_id ≡ Some (records.Space a) → AllUnder id ss
    → SavedParts ss (savepoint_batch counters_id new space_id (marked place implicit a) id x) new a place implicit x
parts-saved ss counters_id space_id old new a place implicit id x sorted counters one space under = by_space (spaced first space_id a sorted_first space_still)
  where
    first : List Stored
    first = set_at counters_id (Some (records.Counters new)) ss

    second : List Stored
    second = set_at space_id (Some (records.Space (marked place implicit a))) first

    sorted_first : Ascend first
    sorted_first = Ascend-set counters_id (Some (records.Counters new)) ss sorted

    space_still : record_at first space_id ≡ Some (records.Space a)
    space_still = found_still ss counters_id space_id old new (records.Space a) sorted counters space (λ c e. cc)

    under_second : AllUnder id second
    under_second = AllUnder-set id first space_id (records.Space a) (records.Space (marked place implicit a)) sorted_first space_still
        (AllUnder-set id ss counters_id (records.Counters old) (records.Counters new) sorted counters under)

    parts_first : parts_of first ≡ recounted (parts_of ss) new
    parts_first = counted ss counters_id old new sorted counters one

    by_space : Spaced first space_id a → SavedParts ss (savepoint_batch counters_id new space_id (marked place implicit a) id x) new a place implicit x
    by_space s = record {
      front = s.front;
      back = s.back;
      old = sym (ap (λ (p : Parts). p.spaces) parts_first) ∙ s.old;
      is =
          more_savepoint second id x under_second
          ∙ ap (λ (p : Parts). record p { savepoints = p.savepoints ++ x ∷ [] }) (s.is (marked place implicit a) ∙ ap (λ (p : Parts). record p { spaces = s.front ++ marked place implicit a ∷ s.back }) parts_first);
    }

-- the ids after it are under the next
pub AllUnder-saved : (ss : List Stored) (counters_id space_id : ℕ) (old new : Counters) (a b : Space) (id : ℕ) (x : Savepoint) → Ascend ss → record_at ss counters_id ≡ Some (records.Counters old)
    → record_at ss space_id ≡ Some (records.Space a) → AllUnder id ss → AllUnder (id + 1) (applied (savepoint_batch counters_id new space_id b id x) ss)
AllUnder-saved ss counters_id space_id old new a b id x sorted counters space under =
    let first = set_at counters_id (Some (records.Counters new)) ss in
    AllUnder-more id (set_at space_id (Some (records.Space b)) first) (records.Savepoint x)
    (AllUnder-set id first space_id (records.Space a) (records.Space b) (Ascend-set counters_id (Some (records.Counters new)) ss sorted)
    (found_still ss counters_id space_id old new (records.Space a) sorted counters space (λ c e. cc))
    (AllUnder-set id ss counters_id (records.Counters old) (records.Counters new) sorted counters under))

-- the records keep the rules
pub keep_plan_saved : (ss : List Stored) (counters_id space_id : ℕ) (old new : Counters) (a : Space) (place implicit id : ℕ) (x : Savepoint) → keep_rules (parts_of ss) ≡ true → Ascend ss
    → record_at ss counters_id ≡ Some (records.Counters old) → (parts_of ss).counters ≡ old ∷ [] → record_at ss space_id ≡ Some (records.Space a) → AllUnder id ss
    → ((front back : List Space) → (parts_of ss).spaces ≡ front ++ a ∷ back → MaySave (parts_of ss) old new front a back place implicit x)
    → keep_rules (parts_of (applied (savepoint_batch counters_id new space_id (marked place implicit a) id x) ss)) ≡ true
keep_plan_saved ss counters_id space_id old new a place implicit id x rules sorted counters one space under may =
    let s = parts-saved ss counters_id space_id old new a place implicit id x sorted counters one space under in
    ap keep_rules s.is ∙ keep-saved (parts_of ss) old new s.front a s.back place implicit x (may s.front s.back s.old) rules

-- agree with the state with the savepoint
pub agree_saved : (ss : List Stored) (counters_id space_id : ℕ) (old new : Counters) (a : Space) (place implicit id : ℕ) (x : Savepoint) (w : Workspace) (k : Kept) (s u : Durable) → keep_rules (parts_of ss) ≡ true → FieldsStand (parts_of ss) s
    → Ascend ss → record_at ss counters_id ≡ Some (records.Counters old) → (parts_of ss).counters ≡ old ∷ [] → record_at ss space_id ≡ Some (records.Space a) → AllUnder id ss
    → ((front back : List Space) → (parts_of ss).spaces ≡ front ++ a ∷ back → MaySave (parts_of ss) old new front a back place implicit x)
    → workspace_of s.spaces x.space ≡ Some w → saved_fields x ≡ fields_saved k → u.spaces ≡ with_space x.space (with_savepoint place implicit k) s.spaces → u.tables ≡ s.tables
    → CountersStand (recounted (parts_of ss) new) u → FieldsStand (parts_of (applied (savepoint_batch counters_id new space_id (marked place implicit a) id x) ss)) u
agree_saved ss counters_id space_id old new a place implicit id x w k s u rules st sorted counters one space under may found fields spaces tables stands =
    let i = parts-saved ss counters_id space_id old new a place implicit id x sorted counters one space under in
    subst (λ p. FieldsStand p u) (sym i.is)
    (FieldsStand-kept (parts_of ss) old new i.front a i.back place implicit x w k s u rules st (may i.front i.back i.old) found fields spaces tables
    (record { counters = stands.counters; one = stands.one; next_stamp = stands.next_stamp; last_moment = stands.last_moment; limit = stands.limit; work = stands.work }))

-- and stand for it
pub plan_saved : (ss : List Stored) (counters_id space_id : ℕ) (old new : Counters) (a : Space) (place implicit id : ℕ) (x : Savepoint) (w : Workspace) (k : Kept) (s u : Durable) → Stands (parts_of ss) s → Ascend ss
    → record_at ss counters_id ≡ Some (records.Counters old) → (parts_of ss).counters ≡ old ∷ [] → record_at ss space_id ≡ Some (records.Space a) → AllUnder id ss
    → ((front back : List Space) → (parts_of ss).spaces ≡ front ++ a ∷ back → MaySave (parts_of ss) old new front a back place implicit x)
    → workspace_of s.spaces x.space ≡ Some w → IsKept (parts_of ss) s w k x → u.spaces ≡ with_space x.space (with_savepoint place implicit k) s.spaces → u.tables ≡ s.tables → u.locks ≡ s.locks
    → CountersStand (recounted (parts_of ss) new) u → Stands (parts_of (applied (savepoint_batch counters_id new space_id (marked place implicit a) id x) ss)) u
plan_saved ss counters_id space_id old new a place implicit id x w k s u st sorted counters one space under may found kept spaces tables locks stands =
    let i = parts-saved ss counters_id space_id old new a place implicit id x sorted counters one space under in
    subst (λ p. Stands p u) (sym i.is)
    (Stands-kept (parts_of ss) old new i.front a i.back place implicit x w k s u st (may i.front i.back i.old) found kept spaces tables locks (counted_still i.front i.back))
  where
    counted_still : (front back : List Space) → CountersStand (saved (parts_of ss) new front a back place implicit x) u
    counted_still front back = record {
      counters = stands.counters;
      one = stands.one;
      next_stamp = stands.next_stamp;
      last_moment = stands.last_moment;
      limit = stands.limit;
      work = stands.work;
    }
