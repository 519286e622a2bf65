-- The records keep the rules and stand for the state after the batch of a log that gains entries.
use Rattle.std.proofs.Common.{◌≡◌, ℕ, true, List, [], ◌∷◌, ◌++◌, map, length, append-nil, refl, sym, ap, subst, ◌∙◌}
use Rattle.std.specs.List.{filter, slice_index_or}
use Rattle.std.specs.Option.{option_map}
use Rattle.wm_graph.specs.Parts.{Parts, parts_of}
use Rattle.wm_graph.specs.Rules.{are_pieces, keep_rules}
use Rattle.wm_spec.specs.Lists.{Entry}
use Rattle.wm_spec.specs.declared.record.batch.Change.{Change}
use Rattle.wm_spec.specs.declared.record.counters.Counters.{Counters}
use Rattle.wm_spec.specs.declared.record.piece.PieceRecord.{PieceRecord}
use Rattle.wm_spec.specs.declared.record.row.RowRecord.{RowRecord}
use Rattle.wm_spec.specs.declared.record.space.Space.{Space}
use Rattle.wm_spec.specs.declared.record.stored.Stored.{Stored}
use Rattle.wm_state.specs.ById.{applied}
use Rattle.wm_state.specs.Entries.{hists_kept}
use Rattle.wm_state.specs.Standing.{CountersStand, FieldsStand, HasRow, Stands}
use Rattle.wm_state.specs.State.{with_gained, with_space, Durable}
use Rattle.wm_state.specs.Touching.{is_unmet, marks_of, trace_of}
use Rattle.wm_state.proofs.Apart.{ruled}
use Rattle.wm_state.proofs.Growing.{same_counters}
use Rattle.wm_state.proofs.Settled.{Places}
use Rattle.wm_written.proofs.KeepWritten.{Entering, all_written}
use Rattle.wm_written.proofs.PlannedWritten.{Put, parts-written}
use Rattle.wm_gained.specs.Gaining.{Gained, Retraced, gain_batch}
use Rattle.wm_gained.proofs.Gained.{FieldsStand-gained}
use Rattle.wm_gained.proofs.GainingStands.{Stands-gained}
use Rattle.wm_gained.proofs.KeepLogged.{all_logged, keep-logged}
use Rattle.wm_gained.proofs.LoggedOld.{AreTraced, MayLog, coming, may_come, space_longer, space_still, spaces_count, touched_then}
use Rattle.wm_state.specs.Drafts.{IsCopied}

-- ---- what the batch makes of the records

-- a row that is the one of its stamp has the values
pub copied_row : (p : Parts) (e : Entry) → IsCopied p e → HasRow p e
copied_row p e copied row is = ap (option_map (λ (r : RowRecord). r.values)) (copied row is)

-- the records with what comes
abbrev pub gained_parts : Parts → Counters → List Space → Space → List Space → ℕ → List Entry → List PieceRecord → Parts
gained_parts p new front a back place es traced = all_logged p new front a back (length es) (coming p a place es traced p.pieces)

module _ (p : Parts) (old new : Counters) (a : Space) (place : ℕ) (es : List Entry) (traced : List PieceRecord) (front back : List Space) (rules : keep_rules p ≡ true) (may : MayLog p old new a es)
    (are : AreTraced p a place es traced) (spaces : p.spaces ≡ front ++ a ∷ back) where
  -- the log gained the entries
  pub gained_so : Gained p (gained_parts p new front a back place es traced) a.number es
  gained_so = record {
    count = spaces_count p old new a place es traced front back rules may are spaces;
    old = a;
    old_is = may.space;
    here = space_longer p old new a place es traced front back rules may are spaces;
    elsewhere = space_still p old new a place es traced front back rules may are spaces;
    real = may.made.real;
    rows = λ k d lt history. copied_row p (slice_index_or es k d) (may.copied k d lt history);
    place = place;
    last = are.last;
    touches = touched_then p old new a place es traced front back rules may are spaces;
    hists = refl;
    rest = refl;
  }

  -- and the rules are kept
  pub keep-gained : keep_rules (gained_parts p new front a back place es traced) ≡ true
  keep-gained =
      keep-logged p old new front a back (length es) (coming p a place es traced p.pieces)
      (may_come p old new a place es traced front back rules may are spaces p.pieces pieces_before) rules
    where
      pieces_before : are_pieces p old.next_stamp ≡ true
      pieces_before = ap (λ (c : Counters). are_pieces p c.next_stamp) (same_counters p (ruled p rules).counters old (ruled p rules).one may.one) ∙ (ruled p rules).pieces

-- what is kept by a test that all pass is all
all_pass : {A : Type 0} (xs : List A) → filter (λ (x : A). true) xs ≡ xs
all_pass [] = refl
all_pass (x ∷ xs) = ap (λ ys. x ∷ ys) (all_pass xs)

-- what comes, as where a line writes
abbrev entering_old : Parts → Space → ℕ → List Entry → List PieceRecord → Entering
entering_old p a place es traced = record {
  keep = λ x. true;
  stay = is_unmet a.number (marks_of place a.log_length es);
  rows = [];
  pieces = [];
  touches = map (trace_of a.number) traced;
  hists = hists_kept p.tables a.number a.log_length es;
}

-- no row and no piece comes or goes
none_written : (p : Parts) (new : Counters) (front : List Space) (a : Space) (back : List Space) (place : ℕ) (es : List Entry) (traced : List PieceRecord)
    → all_written p new front a back (length es) (entering_old p a place es traced) ≡ gained_parts p new front a back place es traced
none_written p new front a back place es traced = rw (append-nil p.rows, append-nil (filter (λ (x : PieceRecord). true) p.pieces), all_pass p.pieces) refl

-- ---- the laws of the batch

-- entries may come into the log of a workspace, where the records stand, and the touches that they meet go
pub record GainsIn (ss : List Stored) (counters_id space_id id : ℕ) (old new : Counters) (a : Space) (es : List Entry) (ids : List ℕ) (traced : List PieceRecord) : Type 0 where
  pub at : Places ss counters_id space_id id old a
  pub may : MayLog (parts_of ss) old new a es
  pub retraced : Retraced ss a es ids traced

module _ (ss : List Stored) (counters_id space_id id : ℕ) (old new : Counters) (a : Space) (es : List Entry) (ids : List ℕ) (traced : List PieceRecord) (w : GainsIn ss counters_id space_id id old new a es ids traced) where
  abbrev batch : List Change
  batch = gain_batch (parts_of ss).tables counters_id new space_id a ids id es traced

  abbrev place : ℕ
  place = w.retraced.place

  are : AreTraced (parts_of ss) a place es traced
  are = record { last = w.retraced.last; marks = w.retraced.marks }

  pub written : Put ss batch new a (length es) (entering_old (parts_of ss) a place es traced)
  written = parts-written ss counters_id space_id id old new a (length es) (entering_old (parts_of ss) a place es traced) ids w.at w.retraced.gone

  -- the records then
  pub parts-gained : parts_of (applied batch ss) ≡ gained_parts (parts_of ss) new written.front a written.back place es traced
  parts-gained = written.is ∙ none_written (parts_of ss) new written.front a written.back place es traced

  -- the rules hold after it
  pub keep_plan_gained : keep_rules (parts_of ss) ≡ true → keep_rules (parts_of (applied batch ss)) ≡ true
  keep_plan_gained rules = ap keep_rules parts-gained ∙ keep-gained (parts_of ss) old new a place es traced written.front written.back rules w.may are written.old

  -- the records agree with the state whose log gained the entries
  pub agree_gained : (s u : Durable) → keep_rules (parts_of ss) ≡ true → FieldsStand (parts_of ss) s → u.spaces ≡ with_space a.number (with_gained es) s.spaces → u.tables ≡ s.tables
      → ((q : Parts) → q.counters ≡ new ∷ [] → CountersStand q u) → FieldsStand (parts_of (applied batch ss)) u
  agree_gained s u rules st spaces tables counted_so =
      let q = gained_parts (parts_of ss) new written.front a written.back place es traced in
      subst (λ p. FieldsStand p u) (sym parts-gained)
      (FieldsStand-gained (parts_of ss) q s u a.number es (gained_so (parts_of ss) old new a place es traced written.front written.back rules w.may are written.old) st spaces tables (counted_so q refl))

  -- and stand for it
  pub plan_gained : (s u : Durable) → Stands (parts_of ss) s → u.spaces ≡ with_space a.number (with_gained es) s.spaces → u.tables ≡ s.tables → u.locks ≡ s.locks
      → ((q : Parts) → q.counters ≡ new ∷ [] → CountersStand q u) → Stands (parts_of (applied batch ss)) u
  plan_gained s u st spaces tables locks counted_so =
      let q = gained_parts (parts_of ss) new written.front a written.back place es traced in
      subst (λ p. Stands p u) (sym parts-gained)
      (Stands-gained (parts_of ss) q s u a.number es (gained_so (parts_of ss) old new a place es traced written.front written.back st.rules w.may are written.old) st spaces tables locks (counted_so q refl)
      (keep-gained (parts_of ss) old new a place es traced written.front written.back st.rules w.may are written.old))
