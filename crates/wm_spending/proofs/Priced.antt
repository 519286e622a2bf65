-- What each edit of a merge or a refresh costs, by the stretches of the cells that it is about, and what it leaves.
use Rattle.std.proofs.Common.{◌≡◌, ℕ, ◌+◌, ◌*◌, ◌≤◌, ◌==◌, Bool, true, false, if◌then◌else◌, List, [], ◌∷◌, ◌++◌, map, length, Some, refl, sym, ap, subst, ◌∙◌, arith}
use Rattle.std.proofs.lemmas.List.{length-map}
use Rattle.std.specs.List.{All}
use Rattle.wm_graph.specs.Parts.{parts_of}
use Rattle.wm_model.specs.Merged.{gain_edits, keep_edits, replay_edits}
use Rattle.wm_model.specs.Step.{unlock_edits}
use Rattle.wm_net.specs.Counts.{IsSteady, cut_count, has_cuts}
use Rattle.wm_prices.proofs.Beside.{beside_same, few_more}
use Rattle.wm_prices.specs.Prices.{ChangesBeside, KeepsMarks, Spends, Spent, holds_counters, is_head, marks_at, pieces_at, touch_price}
use Rattle.wm_spec.specs.Lists.{Cell, Entry, touched}
use Rattle.wm_spec.specs.declared.record.Record.{Record}
use Rattle.wm_spec.specs.declared.record.stored.Stored.{Stored}
use Rattle.wm_state.proofs.Logging.{log_of-found}
use Rattle.wm_state.proofs.Spaces.{record_is}
use Rattle.wm_state.specs.Editing.{drafted_by, entry_of, rebased}
use Rattle.wm_state.specs.Standing.{IsReal, Stands, latest}
use Rattle.wm_state.specs.State.{Durable, Workspace, workspace_of}
use Rattle.wm_state.specs.declared.edit.Edit.{Edit}
use Rattle.wm_state.specs.declared.edit.Edit.TheVariants as edits
use Rattle.wm_state.specs.declared.edit.NewEntry.{NewEntry}
use Rattle.wm_spending.proofs.Ends.{EndIn, all_second}
use Rattle.wm_spending.proofs.Made.{pieces_few, pieces_none}
use Rattle.wm_spending.proofs.Meeting.{touches_priced}
use Rattle.wm_spending.proofs.Steps.{IsAt, gained_is, kept_stays, rebased_is, rebased_stays, replayed_is, replayed_stays}

-- ---- lists of edits

-- a first part of edits, and the rest
pub record Parted (m : ℕ) (old : List Stored) (xs ys : List Edit) (new : List Stored) : Type 0 where
  pub between : List Stored
  pub first : Spends m old xs between
  pub rest : Spends m between ys new

pub parted : (m : ℕ) (old : List Stored) (xs ys : List Edit) (new : List Stored) → Spends m old (xs ++ ys) new → Parted m old xs ys new
parted m old [] ys new spends = record { between = old; first = refl; rest = spends }
parted m old (x ∷ xs) ys new spends =
    let r = parted m spends.next xs ys new spends.rest in
    record { between = r.between; first = record { next = spends.next; spent = spends.spent; rest = r.first }; rest = r.rest }

-- new records at a price beside some, with a state that they stand for, of which something is known
pub record Leaves (head : Record → Bool) (most : ℕ) (old new : List Stored) (Known : Durable → Type 0) : Type 0 where
  pub state : Durable
  pub stands : Stands (parts_of new) state
  pub known : Known state
  pub changes : ChangesBeside head most old new

-- ---- entries that are in a log behind an edit

-- are real
real_behind : (q : List Stored) (d : Durable) (n : ℕ) (log es : List Entry) (parent : ℕ) → Stands (parts_of q) d → IsAt d.spaces n (log ++ es) parent → All (IsReal d.tables) es
real_behind q d n log es parent st at =
    all_second (IsReal d.tables) log es (subst (All (IsReal d.tables)) (log_of-found d.spaces n at.now at.found ∙ at.log_is) (st.entries.logs n))

-- the price of what they meet
met_price : (old : List Stored) (d : Durable) (n : ℕ) (log : List Entry) (parent : ℕ) (tables : _) (es all : List Entry) (f : Cell → Bool) → Stands (parts_of old) d → IsAt d.spaces n log parent → All (IsReal tables) es → IsSteady all f
    → EndIn log all → ((c : Cell) → touched es c ≡ true → f c ≡ true) → touch_price (parts_of old) n es ≤ 2 * cut_count all f
met_price old d n log parent tables es all f st at real steady ends covered =
    let r = record_is (parts_of old) d n at.now st at.found in
    touches_priced (parts_of old) d n at.now r.recorded st r.is tables es all f real steady (subst (λ (l : List Entry). EndIn l all) (sym at.log_is) ends) covered

-- what is as it was has the marks that it had
marks_same : (old new : List Stored) → new ≡ old → KeepsMarks old new
marks_same old new = ap (λ (ss : List Stored). (parts_of ss).marks)

-- ---- edits

-- an implicit savepoint
pub keep_priced : (m n k : ℕ) (keeps : Bool) (old new : List Stored) (d : Durable) (log above_log : List Entry) (parent above_parent : ℕ) → Stands (parts_of old) d → IsAt d.spaces n log parent → IsAt d.spaces k above_log above_parent
    → Spends m old (keep_edits keeps k) new → Leaves (is_head k) 1 old new (λ e. IsAt e.spaces n log parent × IsAt e.spaces k above_log above_parent × KeepsMarks old new)
keep_priced m n k false old new d log above_log parent above_parent st at above spends = record {
  state = d;
  stands = subst (λ (ss : List Stored). Stands (parts_of ss) d) (sym spends) st;
  known = (at, above, marks_same old new spends);
  changes = few_more (is_head k) 0 1 old new (omega arith) (beside_same (is_head k) old new spends);
}
keep_priced m n k true old new d log above_log parent above_parent st at above spends =
    let x = spends.spent in
    let now = spends.rest in
    record {
      state = drafted_by x.work m (edits.Keep k ∷ []) d;
      stands = subst (λ (ss : List Stored). Stands (parts_of ss) (drafted_by x.work m (edits.Keep k ∷ []) d)) (sym (now ∙ x.is)) (x.drafts.stands d st);
      known = (kept_stays m k d n log parent at, kept_stays m k d k above_log above_parent above, subst (KeepsMarks old) (sym now) x.costs.1);
      changes = subst (ChangesBeside (is_head k) 1 old) (sym now) x.costs.0;
    }

-- entries that are replayed in another workspace: six for each stretch, and a version
pub replay_priced : (m n k : ℕ) (own : List NewEntry) (old new : List Stored) (d : Durable) (log above_log : List Entry) (parent above_parent : ℕ) (all : List Entry) (f : Cell → Bool) → (n == k) ≡ false → Stands (parts_of old) d
    → IsAt d.spaces n log parent → IsAt d.spaces k above_log above_parent → EndIn above_log all → IsSteady all f → ((c : Cell) → touched (map entry_of own) c ≡ true → f c ≡ true) → length (map entry_of own) ≤ cut_count all f
    → Spends m old (replay_edits k own) new → Leaves (is_head k) (1 + 6 * cut_count all f) old new (λ e. IsAt e.spaces n log parent × ((v : Workspace) × (workspace_of e.spaces k ≡ Some v)) × KeepsMarks old new)
replay_priced m n k own old new d log above_log parent above_parent all f other st at above ends steady covered few = by_some (length own == 0)
  where
    es : List Entry
    es = map entry_of own

    by_some : (b : Bool) → Spends m old (if b then [] else edits.Replay k own ∷ []) new → Leaves (is_head k) (1 + 6 * cut_count all f) old new (λ e. IsAt e.spaces n log parent × ((v : Workspace) × (workspace_of e.spaces k ≡ Some v)) × KeepsMarks old new)
    by_some true spends = record {
      state = d;
      stands = subst (λ (ss : List Stored). Stands (parts_of ss) d) (sym spends) st;
      known = (at, (above.now, above.found), marks_same old new spends);
      changes = few_more (is_head k) 0 (1 + 6 * cut_count all f) old new (omega arith) (beside_same (is_head k) old new spends);
    }
    by_some false spends =
        let x = spends.spent in
        let now = spends.rest in
        let after : Durable = drafted_by x.work m (edits.Replay k own ∷ []) d in
        let stands = x.drafts.stands d st in
        let moved : IsAt after.spaces k (above_log ++ es) above_parent = replayed_is k es d above_log above_parent above in
        let price = met_price old d k above_log above_parent after.tables es all f st above (real_behind _ after k above_log es above_parent stands moved) steady ends covered in
        let many : length es ≡ length own = length-map own entry_of in
        record {
          state = after;
          stands = subst (λ (ss : List Stored). Stands (parts_of ss) after) (sym (now ∙ x.is)) stands;
          known = (replayed_stays k es d n log parent other at, (moved.now, moved.found), subst (KeepsMarks old) (sym now) x.costs.1);
          changes = few_more (is_head k) (1 + 4 * length own + touch_price (parts_of old) k es) (1 + 6 * cut_count all f) old new (omega (arith, price, few, many)) (subst (ChangesBeside (is_head k) _ old) (sym now) x.costs.0);
        }

-- entries that a log gains: five for each stretch
pub gain_priced : (m n : ℕ) (gained : List NewEntry) (old new : List Stored) (d : Durable) (log : List Entry) (parent : ℕ) (all : List Entry) (f : Cell → Bool) → Stands (parts_of old) d → IsAt d.spaces n log parent → EndIn log all → IsSteady all f
    → ((c : Cell) → touched (map entry_of gained) c ≡ true → f c ≡ true) → length (map entry_of gained) ≤ cut_count all f → Spends m old (gain_edits n gained) new → ChangesBeside (is_head n) (5 * cut_count all f) old new
gain_priced m n gained old new d log parent all f st at ends steady covered few = by_some (length gained == 0)
  where
    es : List Entry
    es = map entry_of gained

    by_some : (b : Bool) → Spends m old (if b then [] else edits.Gain n gained ∷ []) new → ChangesBeside (is_head n) (5 * cut_count all f) old new
    by_some true spends = few_more (is_head n) 0 (5 * cut_count all f) old new (omega arith) (beside_same (is_head n) old new spends)
    by_some false spends =
        let x = spends.spent in
        let after : Durable = drafted_by x.work m (edits.Gain n gained ∷ []) d in
        let moved : IsAt after.spaces n (log ++ es) parent = gained_is n es d log parent at in
        let price = met_price old d n log parent after.tables es all f st at (real_behind _ after n log es parent (x.drafts.stands d st) moved) steady ends covered in
        let many : length es ≡ length gained = length-map gained entry_of in
        few_more (is_head n) (3 * length gained + touch_price (parts_of old) n es) (5 * cut_count all f) old new (omega (arith, price, few, many)) (subst (ChangesBeside (is_head n) _ old) (sym spends.rest) x.costs)

-- a rebase that keeps what is own: a version, a turn, one piece for each stretch, and the marks that go
pub rebase_priced : (m n : ℕ) (old new : List Stored) (d : Durable) (w p : Workspace) (all : List Entry) → Stands (parts_of old) d → workspace_of d.spaces n ≡ Some w → workspace_of d.spaces w.parent ≡ Some p → has_cuts all w.lists.own ≡ true
    → EndIn w.lists.own all → Spent m old (edits.Rebase n false) new → Leaves (is_head n) (2 + cut_count all (touched w.lists.own) + length (marks_at (parts_of old) n)) old new (λ e. IsAt e.spaces n w.lists.log w.parent)
rebase_priced m n old new d w p all st found above cut ends x =
    let after : Durable = drafted_by x.work m (edits.Rebase n false ∷ []) d in
    let stands : Stands (parts_of new) after = subst (λ (ss : List Stored). Stands (parts_of ss) after) (sym x.is) (x.drafts.stands d st) in
    let found_now : workspace_of after.spaces n ≡ Some (rebased false p w) = rebased_is n false d w p found above in
    let r = record_is (parts_of new) after n (rebased false p w) stands found_now in
    let pieces = pieces_few (parts_of new) after n (rebased false p w) r.recorded stands r.is all cut ends in
    record {
      state = after;
      stands = stands;
      known = rebased_stays n false d n w.lists.log w.parent (record { now = w; found = found; log_is = refl; parent_is = refl });
      changes = few_more (is_head n) (2 + length (pieces_at (parts_of new) (latest (parts_of new) n)) + length (marks_at (parts_of old) n)) (2 + cut_count all (touched w.lists.own) + length (marks_at (parts_of old) n)) old new (omega (arith, pieces)) x.costs;
    }

-- one behind which nothing is own: a version, a turn, and the marks that go
pub rebase_bare : (m n : ℕ) (old new : List Stored) (d : Durable) (log : List Entry) (parent : ℕ) (p : Workspace) → Stands (parts_of old) d → IsAt d.spaces n log parent → workspace_of d.spaces parent ≡ Some p
    → Spent m old (edits.Rebase n true) new → Leaves (is_head n) (2 + length (marks_at (parts_of old) n)) old new (λ e. IsAt e.spaces n log parent)
rebase_bare m n old new d log parent p st at above x =
    let after : Durable = drafted_by x.work m (edits.Rebase n true ∷ []) d in
    let stands : Stands (parts_of new) after = subst (λ (ss : List Stored). Stands (parts_of ss) after) (sym x.is) (x.drafts.stands d st) in
    let found_now : workspace_of after.spaces n ≡ Some (rebased true p at.now) = rebased_is n true d at.now p at.found (ap (workspace_of d.spaces) at.parent_is ∙ above) in
    let r = record_is (parts_of new) after n (rebased true p at.now) stands found_now in
    let pieces = pieces_none (parts_of new) after n (rebased true p at.now) r.recorded stands r.is refl in
    record {
      state = after;
      stands = stands;
      known = rebased_stays n true d n log parent at;
      changes = few_more (is_head n) (2 + length (pieces_at (parts_of new) (latest (parts_of new) n)) + length (marks_at (parts_of old) n)) (2 + length (marks_at (parts_of old) n)) old new (omega (arith, pieces)) x.costs;
    }

-- locks that go: each of them
pub unlock_priced : (m : ℕ) (makings : List ℕ) (old new : List Stored) → Spends m old (unlock_edits makings) new → ChangesBeside holds_counters (length makings) old new
unlock_priced m [] old new spends = beside_same holds_counters old new spends
unlock_priced m (making ∷ makings) old new spends = subst (ChangesBeside holds_counters (length (making ∷ makings)) old) (sym spends.rest) spends.spent.costs
