-- The records keep the rules and stand for the state after the batch of a workspace that goes.
use Rattle.std.proofs.Common.{◌≡◌, ℕ, Bool, true, false, cond, List, [], ◌∷◌, map, Some, refl, ap, ◌∙◌}
use Rattle.std.specs.List.{filter}
use Rattle.wm_graph.specs.Parts.{Parts, parts_of}
use Rattle.wm_graph.specs.Rules.{keep_rules}
use Rattle.wm_spec.specs.Records.{AreChanges, ids_differ, record_at}
use Rattle.wm_spec.specs.declared.record.Record.{Record}
use Rattle.wm_spec.specs.declared.record.Record.TheVariants as records
use Rattle.wm_spec.specs.declared.record.stored.Stored.{Stored}
use Rattle.wm_spec.specs.declared.record.batch.Change.{Change}
use Rattle.wm_spec.specs.declared.record.counters.Counters.{Counters}
use Rattle.wm_spec.specs.declared.record.hist.Hist.{Hist}
use Rattle.wm_spec.specs.declared.record.lock.Lock.{Lock}
use Rattle.wm_spec.specs.declared.record.piece.PieceRecord.{PieceRecord}
use Rattle.wm_spec.specs.declared.record.savepoint.Savepoint.{Savepoint}
use Rattle.wm_spec.specs.declared.record.space.Space.{Space}
use Rattle.wm_spec.specs.declared.record.trace.Trace.{Trace}
use Rattle.wm_spec.specs.declared.record.turn.Turn.{Turn}
use Rattle.wm_spec.specs.declared.record.version.Version.{Version}
use Rattle.wm_state.specs.ById.{Ascend, applied, set_at}
use Rattle.wm_state.specs.Batches.{AreDropped, drop_one}
use Rattle.wm_state.specs.State.{Durable}
use Rattle.wm_state.specs.Standing.{CountersStand, FieldsStand, Stands}
use Rattle.wm_state.proofs.ById.{Ascend-set}
use Rattle.wm_state.proofs.ByKind.{stored}
use Rattle.wm_state.proofs.Planned.{counted}
use Rattle.wm_state.proofs.Planning.{recounted}
use Rattle.wm_written.proofs.Dropping.{dropped, dropped-set}
use Rattle.wm_state.specs.Editing.{unlocked_of}
use Rattle.wm_undone.specs.Removing.{CanRemove, Thinned, is_other, is_others, keeps_without, parts_without, remove_batch, without}
use Rattle.wm_undone.proofs.RemovingKept.{CountsOn, keep-thinned}
use Rattle.wm_undone.proofs.RemovingRecords.{thinned}
use Rattle.wm_undone.proofs.RemovingStands.{FieldsStand-removed, Stands-removed}

-- ---- what the test keeps

-- the parts without those of a workspace, whose versions are among these
abbrev others : List Version → ℕ → Parts → Parts
others versions n p = record (parts_without n p) { pieces = filter (is_others versions n) p.pieces }

parts-left : (versions : List Version) (n : ℕ) (ss : List Stored) → parts_of (filter (λ (s : Stored). keeps_without versions n s.record) ss) ≡ others versions n (parts_of ss)
unfolding parts_of
parts-left versions n [] = refl
parts-left versions n (s ∷ ss) = by_record s.record (parts-left versions n ss)
  where
    rest : List Stored
    rest = filter (λ (s : Stored). keeps_without versions n s.record) ss

    by_space : (y : Space) → parts_of rest ≡ others versions n (parts_of ss) → (b : Bool)
        → parts_of (cond b (stored s.id (records.Space y) ∷ rest) rest) ≡ record (others versions n (parts_of ss)) { spaces = cond b (y ∷ (others versions n (parts_of ss)).spaces) (others versions n (parts_of ss)).spaces }
    by_space y same true = ap (λ (p : Parts). record p { spaces = y ∷ p.spaces }) same
    by_space y same false = same

    by_version : (y : Version) → parts_of rest ≡ others versions n (parts_of ss) → (b : Bool)
        → parts_of (cond b (stored s.id (records.Version y) ∷ rest) rest) ≡ record (others versions n (parts_of ss)) { versions = cond b (y ∷ (others versions n (parts_of ss)).versions) (others versions n (parts_of ss)).versions }
    by_version y same true = ap (λ (p : Parts). record p { versions = y ∷ p.versions }) same
    by_version y same false = same

    by_savepoint : (y : Savepoint) → parts_of rest ≡ others versions n (parts_of ss) → (b : Bool)
        → parts_of (cond b (stored s.id (records.Savepoint y) ∷ rest) rest) ≡ record (others versions n (parts_of ss)) { savepoints = cond b (y ∷ (others versions n (parts_of ss)).savepoints) (others versions n (parts_of ss)).savepoints }
    by_savepoint y same true = ap (λ (p : Parts). record p { savepoints = y ∷ p.savepoints }) same
    by_savepoint y same false = same

    by_piece : (y : PieceRecord) → parts_of rest ≡ others versions n (parts_of ss) → (b : Bool)
        → parts_of (cond b (stored s.id (records.Piece y) ∷ rest) rest) ≡ record (others versions n (parts_of ss)) { pieces = cond b (y ∷ (others versions n (parts_of ss)).pieces) (others versions n (parts_of ss)).pieces }
    by_piece y same true = ap (λ (p : Parts). record p { pieces = y ∷ p.pieces }) same
    by_piece y same false = same

    by_touch : (y : Trace) → parts_of rest ≡ others versions n (parts_of ss) → (b : Bool)
        → parts_of (cond b (stored s.id (records.Touch y) ∷ rest) rest) ≡ record (others versions n (parts_of ss)) { touches = cond b (y ∷ (others versions n (parts_of ss)).touches) (others versions n (parts_of ss)).touches }
    by_touch y same true = ap (λ (p : Parts). record p { touches = y ∷ p.touches }) same
    by_touch y same false = same

    by_lock : (y : Lock) → parts_of rest ≡ others versions n (parts_of ss) → (b : Bool)
        → parts_of (cond b (stored s.id (records.Lock y) ∷ rest) rest) ≡ record (others versions n (parts_of ss)) { locks = cond b (y ∷ (others versions n (parts_of ss)).locks) (others versions n (parts_of ss)).locks }
    by_lock y same true = ap (λ (p : Parts). record p { locks = y ∷ p.locks }) same
    by_lock y same false = same

    by_hist : (y : Hist) → parts_of rest ≡ others versions n (parts_of ss) → (b : Bool)
        → parts_of (cond b (stored s.id (records.Hist y) ∷ rest) rest) ≡ record (others versions n (parts_of ss)) { hists = cond b (y ∷ (others versions n (parts_of ss)).hists) (others versions n (parts_of ss)).hists }
    by_hist y same true = ap (λ (p : Parts). record p { hists = y ∷ p.hists }) same
    by_hist y same false = same

    by_mark : (y : Trace) → parts_of rest ≡ others versions n (parts_of ss) → (b : Bool)
        → parts_of (cond b (stored s.id (records.Mark y) ∷ rest) rest) ≡ record (others versions n (parts_of ss)) { marks = cond b (y ∷ (others versions n (parts_of ss)).marks) (others versions n (parts_of ss)).marks }
    by_mark y same true = ap (λ (p : Parts). record p { marks = y ∷ p.marks }) same
    by_mark y same false = same

    by_turn : (y : Turn) → parts_of rest ≡ others versions n (parts_of ss) → (b : Bool)
        → parts_of (cond b (stored s.id (records.Turn y) ∷ rest) rest) ≡ record (others versions n (parts_of ss)) { turns = cond b (y ∷ (others versions n (parts_of ss)).turns) (others versions n (parts_of ss)).turns }
    by_turn y same true = ap (λ (p : Parts). record p { turns = y ∷ p.turns }) same
    by_turn y same false = same

    by_record : (r : Record) → parts_of rest ≡ others versions n (parts_of ss) → parts_of (cond (keeps_without versions n r) (stored s.id r ∷ rest) rest) ≡ others versions n (parts_of (stored s.id r ∷ ss))
    by_record (records.Space y) same = by_space y same (is_other n y.number)
    by_record (records.Version y) same = by_version y same (is_other n y.space)
    by_record (records.Savepoint y) same = by_savepoint y same (is_other n y.space)
    by_record (records.Piece y) same = by_piece y same (is_others versions n y)
    by_record (records.Touch y) same = by_touch y same (is_other n y.space)
    by_record (records.Lock y) same = by_lock y same (is_other n y.space)
    by_record (records.Hist y) same = by_hist y same (is_other n y.space)
    by_record (records.Mark y) same = by_mark y same (is_other n y.space)
    by_record (records.Turn y) same = by_turn y same (is_other n y.space)
    by_record (records.Counters y) same = ap (λ (p : Parts). record p { counters = y ∷ p.counters }) same
    by_record (records.Table y) same = ap (λ (p : Parts). record p { tables = y ∷ p.tables }) same
    by_record (records.Row y) same = ap (λ (p : Parts). record p { rows = y ∷ p.rows }) same

-- ---- what the batch makes of the records

-- the records by id, one of the counters, and the ids of what goes
pub record GoesFrom (ss : List Stored) (n counters_id : ℕ) (old : Counters) (ids : List ℕ) : Type 0 where
  pub sorted : Ascend ss
  pub counters : record_at ss counters_id ≡ Some (records.Counters old)
  pub one : (parts_of ss).counters ≡ old ∷ []
  pub dropped : AreDropped (keeps_without (parts_of ss).versions n) ids ss

pub parts-removed : (ss : List Stored) (n counters_id : ℕ) (old new : Counters) (ids : List ℕ) → GoesFrom ss n counters_id old ids → parts_of (applied (remove_batch counters_id new ids) ss) ≡ thinned (parts_of ss) n (new ∷ [])
parts-removed ss n counters_id old new ids g =
    ap parts_of (dropped keep ids first (Ascend-set counters_id (Some (records.Counters new)) ss g.sorted) (dropped-set keep ids ss counters_id (records.Counters new) g.sorted refl (g.dropped counters_id (records.Counters old) g.counters) g.dropped))
    ∙ parts-left (parts_of ss).versions n first
    ∙ ap (others (parts_of ss).versions n) (counted ss counters_id old new g.sorted g.counters g.one)
  where
    keep : Record → Bool
    keep = keeps_without (parts_of ss).versions n

    first : List Stored
    first = set_at counters_id (Some (records.Counters new)) ss

-- its ids differ, where those of what goes do
pub changes-removed : (counters_id : ℕ) (new : Counters) (ids : List ℕ) → ids_differ (counters_id ∷ ids) ≡ true → AreChanges (remove_batch counters_id new ids)
changes-removed counters_id new ids apart = ap (λ xs. ids_differ (counters_id ∷ xs)) (ids_of ids) ∙ apart
  where
    ids_of : (xs : List ℕ) → map (λ (c : Change). c.id) (map drop_one xs) ≡ xs
    ids_of [] = refl
    ids_of (x ∷ xs) = ap (λ ys. x ∷ ys) (ids_of xs)

-- ---- the rules, and what the records stand for

module _ (ss : List Stored) (n counters_id : ℕ) (old new : Counters) (ids : List ℕ) (goes : GoesFrom ss n counters_id old ids) (may : CanRemove (parts_of ss) n) where
  its : parts_of (applied (remove_batch counters_id new ids) ss) ≡ thinned (parts_of ss) n (new ∷ [])
  its = parts-removed ss n counters_id old new ids goes

  -- the workspace is gone from the records
  pub thinned_of : Thinned (parts_of ss) (parts_of (applied (remove_batch counters_id new ids) ss)) n
  thinned_of = record { may = may; rest = ap (λ (z : Parts). record z { counters = (parts_of ss).counters }) its }

  -- they keep the rules
  pub keep_plan_removed : CountsOn (parts_of ss) old new → keep_rules (parts_of ss) ≡ true → keep_rules (parts_of (applied (remove_batch counters_id new ids) ss)) ≡ true
  keep_plan_removed on rules = ap keep_rules its ∙ keep-thinned (parts_of ss) n old new may on rules

  counted_still : (u : Durable) → CountersStand (recounted (parts_of ss) new) u → CountersStand (parts_of (applied (remove_batch counters_id new ids) ss)) u
  counted_still u stands = record {
    counters = stands.counters;
    one = ap (λ (z : Parts). z.counters) its ∙ stands.one;
    next_stamp = stands.next_stamp;
    last_moment = stands.last_moment;
    limit = stands.limit;
    work = stands.work;
  }

  -- agree with the state without the workspace
  pub agree_removed : (s u : Durable) → keep_rules (parts_of ss) ≡ true → FieldsStand (parts_of ss) s → u.spaces ≡ without n s.spaces → u.tables ≡ s.tables → CountersStand (recounted (parts_of ss) new) u
      → FieldsStand (parts_of (applied (remove_batch counters_id new ids) ss)) u
  agree_removed s u rules st spaces tables stands = FieldsStand-removed (parts_of ss) (parts_of (applied (remove_batch counters_id new ids) ss)) s u n thinned_of rules st spaces tables (counted_still u stands)

  -- and stand for it
  pub plan_removed : (s u : Durable) → Stands (parts_of ss) s → CountsOn (parts_of ss) old new → u.spaces ≡ without n s.spaces → u.tables ≡ s.tables → u.locks ≡ unlocked_of n s.locks → CountersStand (recounted (parts_of ss) new) u
      → Stands (parts_of (applied (remove_batch counters_id new ids) ss)) u
  plan_removed s u st on spaces tables locks stands =
      Stands-removed (parts_of ss) (parts_of (applied (remove_batch counters_id new ids) ss)) s u n thinned_of st spaces tables locks (counted_still u stands) (keep_plan_removed on st.rules)
