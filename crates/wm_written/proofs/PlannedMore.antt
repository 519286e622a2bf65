-- The records stand for the state after the batch of a line that writes entries in a version more.
use Rattle.std.proofs.Common.{◌≡◌, ℕ, ◌+◌, ◌^◌, ◌≤◌, ◌==◌, nat_le, Bool, true, false, cond, if◌then◌else◌, List, [], ◌∷◌, ◌++◌, map, Option, Some, None, is_some, refl, sym, ap, subst, ◌∙◌, length}
use Rattle.std.proofs.lemmas.Bool.{eq-eqb, true≢false}
use Rattle.std.specs.List.{list_all}
use Rattle.wm_base.proofs.Plain.{less_apart}
use Rattle.wm_graph.specs.Parts.{Parts, parts_of, table_of}
use Rattle.wm_graph.specs.Rules.{keep_rules, are_counters, is_short}
use Rattle.wm_spec.specs.Lists.{Entry}
use Rattle.wm_spec.specs.Records.{record_at}
use Rattle.wm_spec.specs.declared.record.Record.{Record}
use Rattle.wm_spec.specs.declared.record.Record.TheVariants as records
use Rattle.wm_spec.specs.declared.record.stored.Stored.{Stored}
use Rattle.wm_spec.specs.declared.record.batch.Change.{Change}
use Rattle.wm_spec.specs.declared.record.counters.Counters.{Counters}
use Rattle.wm_spec.specs.declared.record.piece.PieceRecord.{PieceRecord}
use Rattle.wm_spec.specs.declared.record.space.Space.{Space}
use Rattle.wm_spec.specs.declared.record.version.Version.{Version}
use Rattle.wm_state.specs.ById.{Ascend, set_at, applied}
use Rattle.wm_state.specs.Batches.{AreDropped, AllUnder, drop_one, fork_batch, is_dropped}
use Rattle.wm_state.specs.Drawing.{is_clear}
use Rattle.wm_state.specs.Effects.{IsLeaf, IsFree}
use Rattle.wm_state.specs.Entries.{AreStamped, is_well, hists_kept, pieces_of, rows_in}
use Rattle.wm_state.specs.State.{Durable, with_space, with_entries}
use Rattle.wm_state.specs.Standing.{newest_first, latest, is_ready, CountersStand, FieldsStand, Stands}
use Rattle.wm_state.specs.Touching.{is_unmet, marks_of, trace_of}
use Rattle.wm_state.specs.Writes.{Redrawn, entries_batch, entries_new_batch, keeps_both, longer_by, put_all}
use Rattle.wm_state.proofs.ById.{one_order, Ascend-set, record_at-set}
use Rattle.wm_state.proofs.ByKind.{set-behind, under_found}
use Rattle.wm_state.proofs.Forking.{FieldsStand-forked, Stands-forked}
use Rattle.wm_state.proofs.Growing.{MayFork, forked, forked_of, keep-forked}
use Rattle.wm_state.proofs.Planned.{found_still, AllUnder-set, AllUnder-next}
use Rattle.wm_state.proofs.Settled.{Places}
use Rattle.wm_state.proofs.Tests.{none_if}
use Rattle.wm_written.proofs.Behind.{new_records}
use Rattle.wm_written.proofs.Dropping.{dropped-set}
use Rattle.wm_written.proofs.Forks.{parts-forked}
use Rattle.wm_written.proofs.Leaves.{leaf_new, free_new}
use Rattle.wm_written.proofs.PlannedWritten.{AreBoth, MayWriteAll, Writing, agree_written, keep_planned, plan_written}

-- ---- the version first, and then the entries

-- counters that are put twice are those that are put last
put_twice : (ss : List Stored) (counters_id id : ℕ) (mid new : Counters) (v : Version) → Ascend ss
    → set_at counters_id (Some (records.Counters new)) (set_at id (Some (records.Version v)) ss)
    ≡ set_at counters_id (Some (records.Counters new)) (set_at id (Some (records.Version v)) (set_at counters_id (Some (records.Counters mid)) ss))
put_twice ss counters_id id mid new v sorted =
    one_order (set_at counters_id n (set_at id w ss)) (set_at counters_id n (set_at id w (set_at counters_id m ss)))
    (Ascend-set counters_id n (set_at id w ss) sorted_one) (Ascend-set counters_id n (set_at id w (set_at counters_id m ss)) sorted_two)
    (λ k. record_at-set counters_id n (set_at id w ss) sorted_one k
    ∙ ap (λ o. if k == counters_id then n else o) (record_at-set id w ss sorted k)
    ∙ by_id (k == counters_id) (k == id) (record_at ss k)
    ∙ sym (record_at-set counters_id n (set_at id w (set_at counters_id m ss)) sorted_two k
    ∙ ap (λ o. if k == counters_id then n else o) (record_at-set id w (set_at counters_id m ss) (Ascend-set counters_id m ss sorted) k)
    ∙ ap (λ o. if k == counters_id then n else (if k == id then w else o)) (record_at-set counters_id m ss sorted k)))
  where
    m : Option Record
    m = Some (records.Counters mid)

    n : Option Record
    n = Some (records.Counters new)

    w : Option Record
    w = Some (records.Version v)

    sorted_one : Ascend (set_at id w ss)
    sorted_one = Ascend-set id w ss sorted

    sorted_two : Ascend (set_at id w (set_at counters_id m ss))
    sorted_two = Ascend-set id w (set_at counters_id m ss) (Ascend-set counters_id m ss sorted)

    by_id : (b c : Bool) (o : Option Record) → cond b n (cond c w o) ≡ cond b n (cond c w (cond b m o))
    by_id true c o = refl
    by_id false true o = refl
    by_id false false o = refl

-- ---- what is asked

-- what is asked of the entries that a line writes into a version more of a workspace
pub record MayWriteMore (p : Parts) (old mid new : Counters) (a : Space) (v : Version) (table : ℕ) (es : List Entry) : Type 0 where
  pub fork : MayFork p old mid a a.number v
  pub counters : are_counters new ≡ true
  pub stamps : new.next_stamp ≡ mid.next_stamp + length es
  pub versions : new.next_version ≡ mid.next_version
  pub work : mid.work ≤ new.work
  pub room : nat_le (a.log_length + length es) (2 ^ 62) ≡ true
  pub stamped : AreStamped table mid.next_stamp es
  pub on : is_ready p.tables table ≡ true
  pub well : list_all (is_well (table_of p.tables)) es ≡ true
  pub users : list_all (λ (e : Entry). is_short e.user) es ≡ true

-- the new version is the newest of the workspace
newest_is : (p : Parts) (old mid : Counters) (n : ℕ) (a : Space) (v : Version) → MayFork p old mid a n v → keep_rules p ≡ true → latest (forked p mid v) n ≡ v.number
newest_is p old mid n a v may rules = rw ((forked_of p old mid a n v may rules).versions, eq-eqb n n refl) refl

may_after : (p : Parts) (old mid new : Counters) (a : Space) (v : Version) (table : ℕ) (es : List Entry) → keep_rules p ≡ true → MayWriteMore p old mid new a v table es → MayWriteAll (forked p mid v) mid new a table es
may_after p old mid new a v table es rules may = record {
  one = refl;
  counters = may.counters;
  stamps = may.stamps;
  versions = may.versions;
  work = may.work;
  space = may.fork.there;
  room = may.room;
  leaf = subst (λ k. IsLeaf k (newest_first q.versions)) (sym newest) (leaf_new p old mid a a.number v may.fork rules);
  free = subst (λ k. IsFree q k) (sym newest) (free_new p old mid a a.number v may.fork rules);
  stamped = may.stamped;
  on = may.on;
  well = may.well;
  users = may.users;
}
  where
    q : Parts
    q = forked p mid v

    newest : latest q a.number ≡ v.number
    newest = newest_is p old mid a.number a v may.fork rules

-- ---- the laws

module _ (ss : List Stored) (counters_id space_id id : ℕ) (old mid new : Counters) (a : Space) (v : Version) (table : ℕ) (es : List Entry) (ids : List ℕ) (drawn traced : List PieceRecord) (rules : keep_rules (parts_of ss) ≡ true)
    (at : Places ss counters_id space_id id old a) (may : MayWriteMore (parts_of ss) old mid new a v table es) (r : Redrawn ss v.number a es ids drawn traced) where
  abbrev batch : List Change
  batch = entries_new_batch (parts_of ss).tables counters_id new space_id a ids id v es drawn traced

  -- the records once the version is there
  abbrev after : List Stored
  after = applied (fork_batch counters_id mid id v) ss

  abbrev first : List Stored
  first = set_at counters_id (Some (records.Counters mid)) ss

  parts : parts_of after ≡ forked (parts_of ss) mid v
  parts = parts-forked ss counters_id id old mid v at.sorted at.counters at.one at.under

  newest : latest (parts_of after) a.number ≡ v.number
  newest = ap (λ (q : Parts). latest q a.number) parts ∙ newest_is (parts_of ss) old mid a.number a v may.fork rules

  -- the batch that writes them in the newest version makes the rest
  in_newest : applied (entries_batch (parts_of after).tables counters_id new space_id a ids (id + 1) es drawn traced) after ≡ applied batch ss
  in_newest =
      ap (λ (q : Parts). applied (entries_batch q.tables counters_id new space_id a ids (id + 1) es drawn traced) after) parts
      ∙ sym (ap (λ rs. applied (map drop_one ids ++ put_all (id + 1) (new_records (rows_in es) drawn (map (trace_of a.number) traced) (hists_kept (parts_of ss).tables a.number a.log_length es)))
      (set_at space_id (Some (records.Space (longer_by (length es) a))) rs))
      (put_twice ss counters_id id mid new v at.sorted))

  -- the rules hold once the version is there
  ruled_after : keep_rules (parts_of after) ≡ true
  ruled_after = subst (λ p. keep_rules p ≡ true) (sym parts) (keep-forked (parts_of ss) old mid a a.number v may.fork rules)

  first_sorted : Ascend first
  first_sorted = Ascend-set counters_id (Some (records.Counters mid)) ss at.sorted

  -- the records stand where they stood
  places_after : Places after counters_id space_id (id + 1) mid a
  places_after = record {
    sorted = Ascend-set id (Some (records.Version v)) first first_sorted;
    counters =
        record_at-set id (Some (records.Version v)) first first_sorted counters_id
        ∙ rw (less_apart counters_id id (under_found id ss counters_id (records.Counters old) at.under at.counters))
        (record_at-set counters_id (Some (records.Counters mid)) ss at.sorted counters_id ∙ rw (eq-eqb counters_id counters_id refl) refl);
    one = ap (λ (q : Parts). q.counters) parts;
    space =
        record_at-set id (Some (records.Version v)) first first_sorted space_id
        ∙ rw (less_apart space_id id (under_found id ss space_id (records.Space a) at.under at.space)) (found_still ss counters_id space_id old mid (records.Space a) at.sorted at.counters at.space (λ c e. cc));
    under = subst (λ rs. AllUnder (id + 1) rs) (sym (set-behind first id (records.Version v) under_first)) (AllUnder-next id first (records.Version v) under_first);
  }
    where
      under_first : AllUnder id first
      under_first = AllUnder-set id ss counters_id (records.Counters old) (records.Counters mid) at.sorted at.counters at.under

  -- the new id is none of those that go
  kept_id : is_dropped ids id ≡ false
  kept_id = none_if (λ k. is_some (record_at ss k)) (λ k. k == id) (λ k there. below k (record_at ss k) refl there) ids r.there
    where
      below : (k : ℕ) (o : Option Record) → record_at ss k ≡ o → is_some o ≡ true → (k == id) ≡ false
      below k None found there = absurd (true≢false (sym there))
      below k (Some x) found there = less_apart k id (under_found id ss k x at.under found)

  -- and the entries may be written there
  between : Writing after counters_id space_id (id + 1) mid new a table es ids drawn traced
  between = record {
    at = places_after;
    may = subst (λ p. MayWriteAll p mid new a table es) (sym parts) (may_after (parts_of ss) old mid new a v table es rules may);
    place = r.place;
    are = subst (λ k. AreBoth (parts_of after) k a r.place es drawn traced) (sym newest) (subst (λ p. AreBoth p v.number a r.place es drawn traced) (sym parts) (record { last = r.last; pieces = r.pieces; marks = r.marks }));
    gone = subst (λ k. AreDropped (keeps_both (is_clear (pieces_of k es)) (is_unmet a.number (marks_of r.place a.log_length es))) ids after) (sym newest)
        (dropped-set keep ids first id (records.Version v) first_sorted refl kept_id
        (dropped-set keep ids ss counters_id (records.Counters mid) at.sorted refl (r.gone counters_id (records.Counters old) at.counters) r.gone));
  }
    where
      keep : Record → Bool
      keep = keeps_both (is_clear (pieces_of v.number es)) (is_unmet a.number (marks_of r.place a.log_length es))

  -- the rules hold after the batch
  pub keep_planned_new : keep_rules (parts_of (applied batch ss)) ≡ true
  keep_planned_new = subst (λ rs. keep_rules (parts_of rs) ≡ true) in_newest (keep_planned after counters_id space_id (id + 1) mid new a table es ids drawn traced between ruled_after)

  -- the state between, which nobody sees
  abbrev halfway : Durable → Durable
  halfway s = record s { next_stamp = mid.next_stamp; last_moment = mid.last_moment; limit = mid.limit; work = mid.work }

  -- the records agree with the state that has the entries
  pub agree_written_new : (s u : Durable) → FieldsStand (parts_of ss) s → u.spaces ≡ with_space a.number (with_entries es) s.spaces → u.tables ≡ s.tables → ((q : Parts) → q.counters ≡ new ∷ [] → CountersStand q u)
      → FieldsStand (parts_of (applied batch ss)) u
  agree_written_new s u st spaces tables counted_so =
      subst (λ rs. FieldsStand (parts_of rs) u) in_newest
      (agree_written after counters_id space_id (id + 1) mid new a table es ids drawn traced between (halfway s) u ruled_after
      (subst (λ p. FieldsStand p (halfway s)) (sym parts)
      (FieldsStand-forked (parts_of ss) (forked (parts_of ss) mid v) s (halfway s) a.number v.number (forked_of (parts_of ss) old mid a a.number v may.fork rules) st refl refl
      (record { counters = mid; one = refl; next_stamp = refl; last_moment = refl; limit = refl; work = refl })))
      spaces tables counted_so)

  -- and stand for it
  pub plan_written_new : (s u : Durable) → Stands (parts_of ss) s → u.spaces ≡ with_space a.number (with_entries es) s.spaces → u.tables ≡ s.tables → u.locks ≡ s.locks → ((q : Parts) → q.counters ≡ new ∷ [] → CountersStand q u)
      → Stands (parts_of (applied batch ss)) u
  plan_written_new s u st spaces tables locks counted_so =
      subst (λ rs. Stands (parts_of rs) u) in_newest
      (plan_written after counters_id space_id (id + 1) mid new a table es ids drawn traced between (halfway s) u
      (subst (λ p. Stands p (halfway s)) (sym parts)
      (Stands-forked (parts_of ss) (forked (parts_of ss) mid v) s (halfway s) a.number v.number (forked_of (parts_of ss) old mid a a.number v may.fork rules) st refl refl refl
      (record { counters = mid; one = refl; next_stamp = refl; last_moment = refl; limit = refl; work = refl }) (keep-forked (parts_of ss) old mid a a.number v may.fork rules)))
      spaces tables locks counted_so)
