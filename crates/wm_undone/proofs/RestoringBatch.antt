-- The records keep the rules and stand for the state after the batch of a workspace that goes back to a savepoint.
use Rattle.std.proofs.Common.{◌≡◌, ℕ, Bool, true, false, cond, List, [], ◌∷◌, ◌++◌, map, Some, refl, sym, ap, subst, ◌∙◌}
use Rattle.std.specs.List.{filter}
use Rattle.wm_graph.specs.Parts.{Parts, parts_of, as_space}
use Rattle.wm_graph.specs.Rules.{keep_rules}
use Rattle.wm_spec.specs.Records.{AreChanges, ids_differ, record_at}
use Rattle.wm_spec.specs.declared.record.Record.{Record}
use Rattle.wm_spec.specs.declared.record.Record.TheVariants as records
use Rattle.wm_spec.specs.declared.record.stored.Stored.{Stored}
use Rattle.wm_spec.specs.declared.record.batch.Change.{Change}
use Rattle.wm_spec.specs.declared.record.counters.Counters.{Counters}
use Rattle.wm_spec.specs.declared.record.hist.Hist.{Hist}
use Rattle.wm_spec.specs.declared.record.lock.Lock.{Lock}
use Rattle.wm_spec.specs.declared.record.savepoint.Savepoint.{Savepoint as Point}
use Rattle.wm_spec.specs.declared.record.space.Space.{Space}
use Rattle.wm_spec.specs.declared.record.trace.Trace.{Trace}
use Rattle.wm_spec.specs.declared.record.version.Version.{Version}
use Rattle.wm_state.specs.ById.{Ascend, applied, set_at}
use Rattle.wm_state.specs.Batches.{AllUnder, AreDropped, drop_one, put}
use Rattle.wm_state.specs.State.{Durable, Savepoint, Workspace, with_space}
use Rattle.wm_state.specs.Standing.{CountersStand, FieldsStand, Stands}
use Rattle.wm_state.proofs.ById.{Ascend-set}
use Rattle.wm_state.proofs.ByKind.{Split, kinds, set-split, split_of, stored}
use Rattle.wm_state.proofs.Planned.{AllUnder-filter, AllUnder-set, applied-append, counted, found_still}
use Rattle.wm_state.proofs.Planning.{parts-spaced, recounted, spaces-split}
use Rattle.wm_state.proofs.Settled.{Places}
use Rattle.wm_forked.proofs.PlannedSaved.{more_version}
use Rattle.wm_written.proofs.Dropping.{dropped, dropped-set}
use Rattle.wm_written.proofs.Ids.{are_under, ids_differ-push, ids_of-dropped}
use Rattle.wm_undone.specs.Restoring.{GoesBack, keeps_back, restore_batch, restored, restored_to, stays_logged, stays_marked, stays_saved, stays_touched, stays_held}
use Rattle.wm_undone.proofs.RestoringKept.{FieldsStand-back, MayGoBack, Stands-back, gone_back, keep-restored}

-- ---- what the test keeps

-- the parts without the savepoints, touches, marks and entries that go
parts-stay : (x : Point) (ss : List Stored) → parts_of (filter (λ (s : Stored). keeps_back x s.record) ss)
    ≡ record (parts_of ss) { savepoints = filter (stays_saved x) (parts_of ss).savepoints; touches = filter (stays_touched x.space x.place x.log_length) (parts_of ss).touches; marks = filter (stays_marked x.space x.place) (parts_of ss).marks; locks = filter (stays_held x.space x.place) (parts_of ss).locks; hists = filter (stays_logged x.space x.log_length) (parts_of ss).hists }
unfolding parts_of
parts-stay x [] = refl
parts-stay x (s ∷ ss) = by_record s.record (parts-stay x ss)
  where
    rest : List Stored
    rest = filter (λ (s : Stored). keeps_back x s.record) ss

    after : Parts → Parts
    after p = record p { savepoints = filter (stays_saved x) p.savepoints; touches = filter (stays_touched x.space x.place x.log_length) p.touches; marks = filter (stays_marked x.space x.place) p.marks; locks = filter (stays_held x.space x.place) p.locks; hists = filter (stays_logged x.space x.log_length) p.hists }

    by_savepoint : (y : Point) → parts_of rest ≡ after (parts_of ss) → (b : Bool)
        → parts_of (cond b (stored s.id (records.Savepoint y) ∷ rest) rest) ≡ record (after (parts_of ss)) { savepoints = cond b (y ∷ (after (parts_of ss)).savepoints) (after (parts_of ss)).savepoints }
    by_savepoint y same true = ap (λ (p : Parts). record p { savepoints = y ∷ p.savepoints }) same
    by_savepoint y same false = same

    by_touch : (y : Trace) → parts_of rest ≡ after (parts_of ss) → (b : Bool)
        → parts_of (cond b (stored s.id (records.Touch y) ∷ rest) rest) ≡ record (after (parts_of ss)) { touches = cond b (y ∷ (after (parts_of ss)).touches) (after (parts_of ss)).touches }
    by_touch y same true = ap (λ (p : Parts). record p { touches = y ∷ p.touches }) same
    by_touch y same false = same

    by_mark : (y : Trace) → parts_of rest ≡ after (parts_of ss) → (b : Bool)
        → parts_of (cond b (stored s.id (records.Mark y) ∷ rest) rest) ≡ record (after (parts_of ss)) { marks = cond b (y ∷ (after (parts_of ss)).marks) (after (parts_of ss)).marks }
    by_mark y same true = ap (λ (p : Parts). record p { marks = y ∷ p.marks }) same
    by_mark y same false = same

    by_lock : (y : Lock) → parts_of rest ≡ after (parts_of ss) → (b : Bool)
        → parts_of (cond b (stored s.id (records.Lock y) ∷ rest) rest) ≡ record (after (parts_of ss)) { locks = cond b (y ∷ (after (parts_of ss)).locks) (after (parts_of ss)).locks }
    by_lock y same true = ap (λ (p : Parts). record p { locks = y ∷ p.locks }) same
    by_lock y same false = same

    by_hist : (y : Hist) → parts_of rest ≡ after (parts_of ss) → (b : Bool)
        → parts_of (cond b (stored s.id (records.Hist y) ∷ rest) rest) ≡ record (after (parts_of ss)) { hists = cond b (y ∷ (after (parts_of ss)).hists) (after (parts_of ss)).hists }
    by_hist y same true = ap (λ (p : Parts). record p { hists = y ∷ p.hists }) same
    by_hist y same false = same

    by_record : (r : Record) → parts_of rest ≡ after (parts_of ss) → parts_of (cond (keeps_back x r) (stored s.id r ∷ rest) rest) ≡ after (parts_of (stored s.id r ∷ ss))
    by_record (records.Savepoint y) same = by_savepoint y same (stays_saved x y)
    by_record (records.Touch y) same = by_touch y same (stays_touched x.space x.place x.log_length y)
    by_record (records.Mark y) same = by_mark y same (stays_marked x.space x.place y)
    by_record (records.Hist y) same = by_hist y same (stays_logged x.space x.log_length y)
    by_record (records.Piece y) same = ap (λ (p : Parts). record p { pieces = y ∷ p.pieces }) same
    by_record (records.Counters y) same = ap (λ (p : Parts). record p { counters = y ∷ p.counters }) same
    by_record (records.Table y) same = ap (λ (p : Parts). record p { tables = y ∷ p.tables }) same
    by_record (records.Space y) same = ap (λ (p : Parts). record p { spaces = y ∷ p.spaces }) same
    by_record (records.Version y) same = ap (λ (p : Parts). record p { versions = y ∷ p.versions }) same
    by_record (records.Row y) same = ap (λ (p : Parts). record p { rows = y ∷ p.rows }) same
    by_record (records.Lock y) same = by_lock y same (stays_held x.space x.place y)
    by_record (records.Turn y) same = ap (λ (p : Parts). record p { turns = y ∷ p.turns }) same

-- ---- what the batch makes of the records

pub record WentBack (ss : List Stored) (cs : List Change) (new : Counters) (a : Space) (y : Version) (x : Point) : Type 0 where
  pub front : List Space
  pub back : List Space
  pub old : (parts_of ss).spaces ≡ front ++ a ∷ back
  pub is : parts_of (applied cs ss) ≡ gone_back (parts_of ss) new front a back y x

pub parts-back : (ss : List Stored) (counters_id space_id id : ℕ) (old new : Counters) (a : Space) (y : Version) (x : Point) (ids : List ℕ) → Places ss counters_id space_id id old a → AreDropped (keeps_back x) ids ss
    → WentBack ss (restore_batch counters_id new space_id (restored_to x a) ids id y) new a y x
parts-back ss counters_id space_id id old new a y x ids at are = by_split (split_of first space_id (records.Space a) space_still)
  where
    first : List Stored
    first = set_at counters_id (Some (records.Counters new)) ss

    second : List Stored
    second = set_at space_id (Some (records.Space (restored_to x a))) first

    third : List Stored
    third = filter (λ (s : Stored). keeps_back x s.record) second

    news : List Change
    news = put id (records.Version y) ∷ []

    sorted_first : Ascend first
    sorted_first = Ascend-set counters_id (Some (records.Counters new)) ss at.sorted

    space_still : record_at first space_id ≡ Some (records.Space a)
    space_still = found_still ss counters_id space_id old new (records.Space a) at.sorted at.counters at.space (λ c f. cc)

    dropped_first : AreDropped (keeps_back x) ids first
    dropped_first = dropped-set (keeps_back x) ids ss counters_id (records.Counters new) at.sorted refl (are counters_id (records.Counters old) at.counters) are

    dropped_second : applied (map drop_one ids) second ≡ third
    dropped_second =
        dropped (keeps_back x) ids second (Ascend-set space_id (Some (records.Space (restored_to x a))) first sorted_first)
        (dropped-set (keeps_back x) ids first space_id (records.Space (restored_to x a)) sorted_first refl (dropped_first space_id (records.Space a) space_still) dropped_first)

    under_third : AllUnder id third
    under_third = AllUnder-filter id (λ (s : Stored). keeps_back x s.record) second
        (AllUnder-set id first space_id (records.Space a) (records.Space (restored_to x a)) sorted_first space_still
        (AllUnder-set id ss counters_id (records.Counters old) (records.Counters new) at.sorted at.counters at.under))

    parts_first : parts_of first ≡ recounted (parts_of ss) new
    parts_first = counted ss counters_id old new at.sorted at.counters at.one

    by_split : Split first space_id (records.Space a) → WentBack ss (restore_batch counters_id new space_id (restored_to x a) ids id y) new a y x
    by_split s =
        let spaces : (parts_of first).spaces ≡ kinds as_space s.front ++ a ∷ kinds as_space s.back = ap (λ xs. (parts_of xs).spaces) s.is ∙ spaces-split s.front s.back space_id a in
        let parts_second : parts_of second ≡ record (recounted (parts_of ss) new) { spaces = kinds as_space s.front ++ restored_to x a ∷ kinds as_space s.back } =
        ap parts_of (ap (set_at space_id (Some (records.Space (restored_to x a)))) s.is ∙ set-split s.front s.back space_id (records.Space a) (records.Space (restored_to x a)) (subst (λ xs. Ascend xs) s.is sorted_first))
        ∙ parts-spaced s.front s.back space_id a (restored_to x a)
        ∙ ap (λ xs. record (parts_of xs) { spaces = kinds as_space s.front ++ restored_to x a ∷ kinds as_space s.back }) (sym s.is)
        ∙ ap (λ (p : Parts). record p { spaces = kinds as_space s.front ++ restored_to x a ∷ kinds as_space s.back }) parts_first in
        record {
          front = kinds as_space s.front;
          back = kinds as_space s.back;
          old = sym (ap (λ (p : Parts). p.spaces) parts_first) ∙ spaces;
          is =
              ap parts_of (applied-append (map drop_one ids) news second ∙ ap (applied news) dropped_second)
              ∙ more_version third id y under_third
              ∙ ap (λ (p : Parts). record p { versions = p.versions ++ y ∷ [] }) (parts-stay x second)
              ∙ ap (λ (p : Parts). record p {
                versions = p.versions ++ y ∷ [];
                savepoints = filter (stays_saved x) p.savepoints;
                touches = filter (stays_touched x.space x.place x.log_length) p.touches;
                marks = filter (stays_marked x.space x.place) p.marks;
                locks = filter (stays_held x.space x.place) p.locks;
                hists = filter (stays_logged x.space x.log_length) p.hists;
              }) parts_second;
        }

-- its ids differ, where those of what it puts in place and drops do and are below the new one
pub changes-back : (counters_id : ℕ) (new : Counters) (space_id : ℕ) (b : Space) (ids : List ℕ) (id : ℕ) (y : Version) → ids_differ (counters_id ∷ space_id ∷ ids) ≡ true → are_under id (counters_id ∷ space_id ∷ ids) ≡ true
    → AreChanges (restore_batch counters_id new space_id b ids id y)
changes-back counters_id new space_id b ids id y apart under =
    ap (λ xs. ids_differ (counters_id ∷ space_id ∷ xs)) (ids_of-dropped ids (put id (records.Version y) ∷ [])) ∙ ids_differ-push id (counters_id ∷ space_id ∷ ids) apart under

-- ---- the rules, and what the records stand for

module _ (ss : List Stored) (counters_id space_id id : ℕ) (old new : Counters) (a : Space) (making : ℕ) (y : Version) (x : Point) (ids : List ℕ) (at : Places ss counters_id space_id id old a) (are : AreDropped (keeps_back x) ids ss)
    (may : (front back : List Space) → (parts_of ss).spaces ≡ front ++ a ∷ back → MayGoBack (parts_of ss) old new front a back making y x) where
  its : WentBack ss (restore_batch counters_id new space_id (restored_to x a) ids id y) new a y x
  its = parts-back ss counters_id space_id id old new a y x ids at are

  -- the records keep the rules
  pub keep_plan_back : keep_rules (parts_of ss) ≡ true → keep_rules (parts_of (applied (restore_batch counters_id new space_id (restored_to x a) ids id y) ss)) ≡ true
  keep_plan_back rules = ap keep_rules its.is ∙ keep-restored (parts_of ss) old new its.front a its.back making y x (may its.front its.back its.old) rules

  counted_still : (u : Durable) → CountersStand (recounted (parts_of ss) new) u → CountersStand (gone_back (parts_of ss) new its.front a its.back y x) u
  counted_still u stands = record {
    counters = stands.counters;
    one = stands.one;
    next_stamp = stands.next_stamp;
    last_moment = stands.last_moment;
    limit = stands.limit;
    work = stands.work;
  }

  -- agree with the state that was gone back to
  pub agree_back : (w : Workspace) (k : Savepoint) (s u : Durable) → keep_rules (parts_of ss) ≡ true → FieldsStand (parts_of ss) s → GoesBack (parts_of ss) s x.space making w k x → u.spaces ≡ with_space x.space (restored k) s.spaces
      → u.tables ≡ s.tables → CountersStand (recounted (parts_of ss) new) u → FieldsStand (parts_of (applied (restore_batch counters_id new space_id (restored_to x a) ids id y) ss)) u
  agree_back w k s u rules st g spaces tables stands =
      subst (λ p. FieldsStand p u) (sym its.is) (FieldsStand-back (parts_of ss) old new its.front a its.back making y x w k s u rules st (may its.front its.back its.old) g spaces tables (counted_still u stands))

  -- and stand for it
  pub plan_back : (w : Workspace) (k : Savepoint) (s u : Durable) → Stands (parts_of ss) s → GoesBack (parts_of ss) s x.space making w k x → u.spaces ≡ with_space x.space (restored k) s.spaces → u.tables ≡ s.tables → u.locks ≡ filter (stays_held x.space k.place) s.locks
      → CountersStand (recounted (parts_of ss) new) u → Stands (parts_of (applied (restore_batch counters_id new space_id (restored_to x a) ids id y) ss)) u
  plan_back w k s u st g spaces tables locks stands =
      subst (λ p. Stands p u) (sym its.is) (Stands-back (parts_of ss) old new its.front a its.back making y x w k s u st (may its.front its.back its.old) g spaces tables locks (counted_still u stands))
