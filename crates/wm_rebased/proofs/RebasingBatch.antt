-- The records keep the rules and stand for the state after the batch of a workspace that is rebased.
use Rattle.std.proofs.Common.{◌≡◌, ℕ, ◌+◌, nat_lt, Bool, true, false, cond, List, [], ◌∷◌, ◌++◌, map, append-nil, append_assoc, Some, refl, sym, ap, subst, ◌∙◌}
use Rattle.std.proofs.lemmas.Bool.{ne_eqb, and_from, lt-ltb}
use Rattle.std.specs.List.{filter}
use Rattle.wm_graph.specs.Parts.{Parts, as_space, parts_of}
use Rattle.wm_graph.specs.Rules.{keep_rules}
use Rattle.wm_spec.specs.Records.{AreChanges, ids_differ, record_at}
use Rattle.wm_spec.specs.declared.record.Record.{Record}
use Rattle.wm_spec.specs.declared.record.Record.TheVariants as records
use Rattle.wm_spec.specs.declared.record.stored.Stored.{Stored}
use Rattle.wm_spec.specs.declared.record.batch.Change.{Change}
use Rattle.wm_spec.specs.declared.record.counters.Counters.{Counters}
use Rattle.wm_spec.specs.declared.record.piece.PieceRecord.{PieceRecord}
use Rattle.wm_spec.specs.declared.record.space.Space.{Space}
use Rattle.wm_spec.specs.declared.record.trace.Trace.{Trace}
use Rattle.wm_spec.specs.declared.record.turn.Turn.{Turn}
use Rattle.wm_spec.specs.declared.record.version.Version.{Version}
use Rattle.wm_state.specs.ById.{Ascend, applied, set_at}
use Rattle.wm_state.specs.Batches.{AllUnder, AreDropped, drop_one}
use Rattle.wm_state.specs.State.{Durable, Workspace, with_space}
use Rattle.wm_state.specs.Standing.{CountersStand, FieldsStand, Stands}
use Rattle.wm_state.specs.Writes.{put_all}
use Rattle.wm_state.proofs.ById.{Ascend-set}
use Rattle.wm_state.proofs.ByKind.{Split, kinds, set-split, split_of, stored}
use Rattle.wm_state.proofs.Planned.{AllUnder-filter, AllUnder-set, applied-append, counted, found_still}
use Rattle.wm_state.proofs.Planning.{parts-spaced, recounted, spaces-split}
use Rattle.wm_state.proofs.Settled.{Places, PlacesApart, places_apart}
use Rattle.wm_forked.proofs.PlannedSaved.{AllUnder-more, more_turn, more_version}
use Rattle.wm_written.proofs.Behind.{parts-entered}
use Rattle.wm_written.proofs.DraftedWritten.{all_below, two_before}
use Rattle.wm_written.proofs.Dropping.{dropped, dropped-set}
use Rattle.wm_written.proofs.Ids.{are_under, are_under-push, ids_differ-push, ids_of-dropped}
use Rattle.wm_rebased.specs.Rebasing.{AreMarksOf, IsRebase, is_elsewhere, keeps_unmarked, rebase_batch, rebased_on, turn_record}
use Rattle.wm_rebased.proofs.RebasingKept.{FieldsStand-put_on, MayRebase, Stands-put_on, keep-rebased, put_on}
use Rattle.wm_state.specs.Editing.{rebased}

-- ---- what the test keeps

-- the parts without the marks of a workspace
parts-unmarked : (n : ℕ) (ss : List Stored) → parts_of (filter (λ (s : Stored). keeps_unmarked n s.record) ss) ≡ record (parts_of ss) { marks = filter (is_elsewhere n) (parts_of ss).marks }
unfolding parts_of
parts-unmarked n [] = refl
parts-unmarked n (s ∷ ss) = by_record s.record (parts-unmarked n ss)
  where
    rest : List Stored
    rest = filter (λ (s : Stored). keeps_unmarked n s.record) ss

    after : Parts → Parts
    after p = record p { marks = filter (is_elsewhere n) p.marks }

    by_mark : (y : Trace) → parts_of rest ≡ after (parts_of ss) → (b : Bool)
        → parts_of (cond b (stored s.id (records.Mark y) ∷ rest) rest) ≡ record (after (parts_of ss)) { marks = cond b (y ∷ (after (parts_of ss)).marks) (after (parts_of ss)).marks }
    by_mark y same true = ap (λ (p : Parts). record p { marks = y ∷ p.marks }) same
    by_mark y same false = same

    by_record : (r : Record) → parts_of rest ≡ after (parts_of ss) → parts_of (cond (keeps_unmarked n r) (stored s.id r ∷ rest) rest) ≡ after (parts_of (stored s.id r ∷ ss))
    by_record (records.Mark y) same = by_mark y same (is_elsewhere n y)
    by_record (records.Savepoint y) same = ap (λ (p : Parts). record p { savepoints = y ∷ p.savepoints }) same
    by_record (records.Touch y) same = ap (λ (p : Parts). record p { touches = y ∷ p.touches }) same
    by_record (records.Hist y) same = ap (λ (p : Parts). record p { hists = y ∷ p.hists }) same
    by_record (records.Piece y) same = ap (λ (p : Parts). record p { pieces = y ∷ p.pieces }) same
    by_record (records.Counters y) same = ap (λ (p : Parts). record p { counters = y ∷ p.counters }) same
    by_record (records.Table y) same = ap (λ (p : Parts). record p { tables = y ∷ p.tables }) same
    by_record (records.Space y) same = ap (λ (p : Parts). record p { spaces = y ∷ p.spaces }) same
    by_record (records.Version y) same = ap (λ (p : Parts). record p { versions = y ∷ p.versions }) same
    by_record (records.Row y) same = ap (λ (p : Parts). record p { rows = y ∷ p.rows }) same
    by_record (records.Lock y) same = ap (λ (p : Parts). record p { locks = y ∷ p.locks }) same
    by_record (records.Turn y) same = ap (λ (p : Parts). record p { turns = y ∷ p.turns }) same

-- ---- what the batch makes of the records

-- where pieces alone come, the other kinds are as they were
pieces_alone : (p : Parts) (news : List PieceRecord) → record p { rows = p.rows ++ []; pieces = p.pieces ++ news; touches = p.touches ++ []; hists = p.hists ++ [] } ≡ record p { pieces = p.pieces ++ news }
pieces_alone p news = rw (append-nil p.rows, append-nil p.touches, append-nil p.hists) refl

pub record PutOn (ss : List Stored) (cs : List Change) (new : Counters) (a b : Space) (y : Version) (news : List PieceRecord) : Type 0 where
  pub front : List Space
  pub back : List Space
  pub old : (parts_of ss).spaces ≡ front ++ a ∷ back
  pub is : parts_of (applied cs ss) ≡ put_on (parts_of ss) new front a back b y news

pub parts-put_on : (ss : List Stored) (counters_id space_id id : ℕ) (old new : Counters) (a b : Space) (y : Version) (news : List PieceRecord) (ids : List ℕ) → Places ss counters_id space_id id old a → AreDropped (keeps_unmarked a.number) ids ss
    → PutOn ss (rebase_batch counters_id new space_id (rebased_on y.parent b.log_length a) ids id y (turn_record a.number a b) news) new a b y news
parts-put_on ss counters_id space_id id old new a b y news ids at are = by_split (split_of first space_id (records.Space a) space_still)
  where
    now : Space
    now = rebased_on y.parent b.log_length a

    turn : Turn
    turn = turn_record a.number a b

    keep : Record → Bool
    keep = keeps_unmarked a.number

    first : List Stored
    first = set_at counters_id (Some (records.Counters new)) ss

    second : List Stored
    second = set_at space_id (Some (records.Space now)) first

    third : List Stored
    third = filter (λ (s : Stored). keep s.record) second

    fourth : List Stored
    fourth = set_at id (Some (records.Version y)) third

    fifth : List Stored
    fifth = set_at (id + 1) (Some (records.Turn turn)) fourth

    coming : List Change
    coming = put_all id (records.Version y ∷ records.Turn turn ∷ map records.Piece news)

    sorted_first : Ascend first
    sorted_first = Ascend-set counters_id (Some (records.Counters new)) ss at.sorted

    space_still : record_at first space_id ≡ Some (records.Space a)
    space_still = found_still ss counters_id space_id old new (records.Space a) at.sorted at.counters at.space (λ c f. cc)

    dropped_first : AreDropped keep ids first
    dropped_first = dropped-set keep ids ss counters_id (records.Counters new) at.sorted refl (are counters_id (records.Counters old) at.counters) are

    dropped_second : applied (map drop_one ids) second ≡ third
    dropped_second =
        dropped keep ids second (Ascend-set space_id (Some (records.Space now)) first sorted_first)
        (dropped-set keep ids first space_id (records.Space now) sorted_first refl (dropped_first space_id (records.Space a) space_still) dropped_first)

    under_third : AllUnder id third
    under_third = AllUnder-filter id (λ (s : Stored). keep s.record) second
        (AllUnder-set id first space_id (records.Space a) (records.Space now) sorted_first space_still
        (AllUnder-set id ss counters_id (records.Counters old) (records.Counters new) at.sorted at.counters at.under))

    under_fourth : AllUnder (id + 1) fourth
    under_fourth = AllUnder-more id third (records.Version y) under_third

    under_fifth : AllUnder (id + 1 + 1) fifth
    under_fifth = AllUnder-more (id + 1) fourth (records.Turn turn) under_fourth

    parts_first : parts_of first ≡ recounted (parts_of ss) new
    parts_first = counted ss counters_id old new at.sorted at.counters at.one

    -- what comes behind
    parts_behind : parts_of (applied (put_all (id + 1 + 1) (map records.Piece news)) fifth)
        ≡ record (parts_of third) { versions = (parts_of third).versions ++ y ∷ []; pieces = (parts_of third).pieces ++ news; turns = (parts_of third).turns ++ turn ∷ [] }
    parts_behind =
        ap (λ rs. parts_of (applied (put_all (id + 1 + 1) rs) fifth)) (sym (append-nil (map records.Piece news)))
        ∙ parts-entered (id + 1 + 1) [] news [] [] fifth under_fifth
        ∙ pieces_alone (parts_of fifth) news
        ∙ ap (λ (p : Parts). record p { pieces = p.pieces ++ news }) (more_turn fourth (id + 1) turn under_fourth)
        ∙ ap (λ (p : Parts). record p { pieces = p.pieces ++ news; turns = p.turns ++ turn ∷ [] }) (more_version third id y under_third)

    by_split : Split first space_id (records.Space a) → PutOn ss (rebase_batch counters_id new space_id now ids id y turn news) new a b y news
    by_split s =
        let spaces : (parts_of first).spaces ≡ kinds as_space s.front ++ a ∷ kinds as_space s.back = ap (λ xs. (parts_of xs).spaces) s.is ∙ spaces-split s.front s.back space_id a in
        let parts_second : parts_of second ≡ record (recounted (parts_of ss) new) { spaces = kinds as_space s.front ++ now ∷ kinds as_space s.back } =
        ap parts_of (ap (set_at space_id (Some (records.Space now))) s.is ∙ set-split s.front s.back space_id (records.Space a) (records.Space now) (subst (λ xs. Ascend xs) s.is sorted_first))
        ∙ parts-spaced s.front s.back space_id a now
        ∙ ap (λ xs. record (parts_of xs) { spaces = kinds as_space s.front ++ now ∷ kinds as_space s.back }) (sym s.is)
        ∙ ap (λ (p : Parts). record p { spaces = kinds as_space s.front ++ now ∷ kinds as_space s.back }) parts_first in
        record {
          front = kinds as_space s.front;
          back = kinds as_space s.back;
          old = sym (ap (λ (p : Parts). p.spaces) parts_first) ∙ spaces;
          is =
              ap parts_of (applied-append (map drop_one ids) coming second ∙ ap (applied coming) dropped_second)
              ∙ parts_behind
              ∙ ap (λ (p : Parts). record p { versions = p.versions ++ y ∷ []; pieces = p.pieces ++ news; turns = p.turns ++ turn ∷ [] })
              (parts-unmarked a.number second ∙ ap (λ (p : Parts). record p { marks = filter (is_elsewhere a.number) p.marks }) parts_second);
        }

-- ---- its ids

-- ids from one on are none of those below it
ids-behind : (id : ℕ) (rs : List Record) (ids : List ℕ) → ids_differ ids ≡ true → are_under id ids ≡ true → ids_differ (ids ++ map (λ (c : Change). c.id) (put_all id rs)) ≡ true
ids-behind id [] ids differ under = ap ids_differ (append-nil ids) ∙ differ
ids-behind id (r ∷ rs) ids differ under =
    ap ids_differ (sym (append_assoc ids (id ∷ []) (map (λ (c : Change). c.id) (put_all (id + 1) rs))))
    ∙ ids-behind (id + 1) rs (ids ++ id ∷ []) (ids_differ-push id ids differ under) (are_under-push id ids under)

-- they differ
pub changes-put_on : (rs : List Stored) (counters_id space_id id : ℕ) (c new : Counters) (a now : Space) (ids : List ℕ) (y : Version) (u : Turn) (news : List PieceRecord) → Places rs counters_id space_id id c a → AreMarksOf rs a.number ids
    → AreChanges (rebase_batch counters_id new space_id now ids id y u news)
changes-put_on rs counters_id space_id id c new a now ids y u news at marks =
    ap (λ xs. ids_differ (counters_id ∷ space_id ∷ xs)) (ids_of-dropped ids _)
    ∙ ids-behind id (records.Version y ∷ records.Turn u ∷ map records.Piece news) (counters_id ∷ space_id ∷ ids)
    (two_before counters_id space_id ids (ne_eqb space_id counters_id (λ same. apart.apart (sym same))) (marks.gone counters_id (records.Counters c) at.counters) (marks.gone space_id (records.Space a) at.space) marks.once)
    (and_from (nat_lt counters_id id) _ (lt-ltb counters_id id apart.counters) (and_from (nat_lt space_id id) (are_under id ids) (lt-ltb space_id id apart.space) (all_below rs id ids at.under marks.there)))
  where
    apart : PlacesApart counters_id space_id id
    apart = places_apart rs counters_id space_id id c a at

-- ---- the rules, and what the records stand for

module _ (ss : List Stored) (counters_id space_id id : ℕ) (old new : Counters) (a b : Space) (emptied : Bool) (y : Version) (news : List PieceRecord) (ids : List ℕ) (at : Places ss counters_id space_id id old a)
    (are : AreDropped (keeps_unmarked a.number) ids ss) (may : (front back : List Space) → (parts_of ss).spaces ≡ front ++ a ∷ back → MayRebase (parts_of ss) old new front a back b emptied y news) where
  its : PutOn ss (rebase_batch counters_id new space_id (rebased_on y.parent b.log_length a) ids id y (turn_record a.number a b) news) new a b y news
  its = parts-put_on ss counters_id space_id id old new a b y news ids at are

  -- the records keep the rules
  pub keep_plan_rebased : keep_rules (parts_of ss) ≡ true → keep_rules (parts_of (applied (rebase_batch counters_id new space_id (rebased_on y.parent b.log_length a) ids id y (turn_record a.number a b) news) ss)) ≡ true
  keep_plan_rebased rules = ap keep_rules its.is ∙ keep-rebased (parts_of ss) old new its.front a its.back b emptied y news (may its.front its.back its.old) rules

  counted_still : (u : Durable) → CountersStand (recounted (parts_of ss) new) u → CountersStand (put_on (parts_of ss) new its.front a its.back b y news) u
  counted_still u stands = record {
    counters = stands.counters;
    one = stands.one;
    next_stamp = stands.next_stamp;
    last_moment = stands.last_moment;
    limit = stands.limit;
    work = stands.work;
  }

  -- agree with the state in which the workspace was rebased
  pub agree_rebased : (w pw : Workspace) (s u : Durable) → keep_rules (parts_of ss) ≡ true → FieldsStand (parts_of ss) s → IsRebase s a.number w pw → u.spaces ≡ with_space a.number (rebased emptied pw) s.spaces → u.tables ≡ s.tables
      → CountersStand (recounted (parts_of ss) new) u → FieldsStand (parts_of (applied (rebase_batch counters_id new space_id (rebased_on y.parent b.log_length a) ids id y (turn_record a.number a b) news) ss)) u
  agree_rebased w pw s u rules st g spaces tables stands =
      subst (λ p. FieldsStand p u) (sym its.is) (FieldsStand-put_on (parts_of ss) old new its.front a its.back b emptied y news w pw s u rules st (may its.front its.back its.old) g spaces tables (counted_still u stands))

  -- and stand for it
  pub plan_rebased : (w pw : Workspace) (s u : Durable) → Stands (parts_of ss) s → IsRebase s a.number w pw → u.spaces ≡ with_space a.number (rebased emptied pw) s.spaces → u.tables ≡ s.tables → u.locks ≡ s.locks
      → CountersStand (recounted (parts_of ss) new) u → Stands (parts_of (applied (rebase_batch counters_id new space_id (rebased_on y.parent b.log_length a) ids id y (turn_record a.number a b) news) ss)) u
  plan_rebased w pw s u st g spaces tables locks stands =
      subst (λ p. Stands p u) (sym its.is) (Stands-put_on (parts_of ss) old new its.front a its.back b emptied y news w pw s u st (may its.front its.back its.old) g spaces tables locks (counted_still u stands))
