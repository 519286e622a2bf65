-- What is put where cells of a workspace are settled is a draft of it.
use Rattle.std.proofs.Common.{◌≡◌, ℕ, ◌+◌, ◌≤◌, true, List, [], ◌∷◌, ◌++◌, map, None, Some, refl, sym, ap, subst, ◌∙◌}
use Rattle.std.specs.List.{flat_map}
use Rattle.wm_graph.specs.Parts.{parts_of, space_of}
use Rattle.wm_graph.specs.Rules.{keep_rules}
use Rattle.wm_spec.specs.Records.{record_at}
use Rattle.wm_spec.specs.declared.record.Record.{Record}
use Rattle.wm_spec.specs.declared.record.Record.TheVariants as records
use Rattle.wm_spec.specs.declared.record.batch.Change.{Change}
use Rattle.wm_spec.specs.declared.record.counters.Counters.{Counters}
use Rattle.wm_spec.specs.declared.record.piece.PieceRecord.{PieceRecord}
use Rattle.wm_spec.specs.declared.record.space.Space.{Space}
use Rattle.wm_spec.specs.declared.record.stored.Stored.{Stored}
use Rattle.wm_spec.specs.declared.record.trace.Trace.{Trace}
use Rattle.wm_state.specs.Batches.{drop_one, put}
use Rattle.wm_state.specs.Drafts.{CanSettle, CanWork, DraftsBy}
use Rattle.wm_state.specs.Points.{moved}
use Rattle.wm_state.specs.Touching.{trace_at, trace_of}
use Rattle.wm_state.specs.Writes.{put_all}
use Rattle.wm_state.specs.declared.edit.Edit.TheVariants as edits
use Rattle.wm_state.specs.declared.edit.NewMark.{NewMark}
use Rattle.wm_state.proofs.Growing.{same_counters}
use Rattle.wm_state.proofs.Named.{space_number}
use Rattle.wm_written.proofs.Ids.{under_next}
use Rattle.wm_forked.proofs.DraftedSaved.{home_there}
use Rattle.wm_settled.specs.Settling.{settle_batch}
use Rattle.wm_settled.proofs.DraftedSettled.{drafts_settle}
use Rattle.wm_append.specs.Layers.{mark_in}
use Rattle.wm_append.specs.Redraw.{IsRedrawn}
use Rattle.wm_settle.specs.Leaving.{AreMarked, left_of}
use Rattle.wm_settle.proofs.Ordered.{left_news}
use Rattle.wm_settle.proofs.Remarked.{marks_back, remarked_so}

-- a change, those that drop ids and others, one behind the other
pub put_first : (front one two three puts : List Change) (x p : Change) (ids dropped : List ℕ) → front ≡ [] → one ≡ front ++ x ∷ [] → x ≡ p → two ≡ one ++ map drop_one ids → ids ≡ dropped → three ≡ two ++ puts
    → three ≡ p ∷ (map drop_one dropped ++ puts)
put_first front one two three puts x p ids dropped none first x_is second ids_are third = third ∙ rw (second, first, none, x_is, ids_are) refl

batch_so : (changes : List Change) (counters d : Counters) (counters_id id n : ℕ) (dropped : List ℕ) (news : List Record) (drawn : List PieceRecord) (marks : List Trace)
    → changes ≡ put counters_id (records.Counters counters) ∷ (map drop_one dropped ++ put_all id news) → counters ≡ d → news ≡ map records.Mark marks → marks ≡ map (trace_of n) drawn → changes ≡ settle_batch counters_id d n dropped id drawn
batch_so changes counters d counters_id id n dropped news drawn marks are count come back = rw (are, count, come, back) refl

settles_own : (rs : List Stored) (m work place id : ℕ) (marks : List NewMark) (a : Space) (c counters : Counters) (changes : List Change) (drawn : List PieceRecord) (dropped : List ℕ) (news : List Record) → keep_rules (parts_of rs) ≡ true
    → CanWork (parts_of rs) m work → CanSettle (parts_of rs) a.number marks → space_of (parts_of rs).spaces a.number ≡ Some a → (parts_of rs).counters ≡ c ∷ [] → ((i : ℕ) → id ≤ i → record_at rs i ≡ None)
    → a.next_place ≡ place + 1 → counters ≡ moved c m work → IsRedrawn (mark_in a.number) rs (flat_map (left_of rs a.number place) marks) dropped drawn → news ≡ map records.Mark (map (trace_at a.number place) drawn)
    → AreMarked rs counters id dropped news changes → DraftsBy work rs m (edits.Settle a.number marks ∷ []) changes
settles_own rs m work place id marks a c counters changes drawn dropped news rules can_work can there one above last counts redrawn come w =
    subst (DraftsBy work rs m (edits.Settle a.number marks ∷ []))
    (sym
    (batch_so changes counters (moved c m work) w.counters_id id a.number dropped news drawn (map (trace_at a.number place) drawn) w.are counts come
    (marks_back rs a.number place (flat_map (left_of rs a.number place) marks) dropped drawn (left_news rs w.sorted a.number place marks can.cells can.sorted can.apart) redrawn)))
    (drafts_settle rs m work marks a c w.counters_id id dropped drawn rules can_work can there
    (record {
      sorted = w.sorted;
      counters = w.counters_at ∙ ap (λ (k : Counters). Some (records.Counters k)) (sym (same_counters (parts_of rs) w.old c w.one one));
      one = one;
      under = under_next id rs above;
    })
    (remarked_so rs a place marks dropped drawn w.sorted last can.apart redrawn))

-- told of the number by which the workspace was found
pub drafts_settling : (rs : List Stored) (m work n place id : ℕ) (marks : List NewMark) (a : Space) (c counters : Counters) (changes : List Change) (drawn : List PieceRecord) (dropped : List ℕ) (news : List Record) → keep_rules (parts_of rs) ≡ true
    → CanWork (parts_of rs) m work → CanSettle (parts_of rs) n marks → space_of (parts_of rs).spaces n ≡ Some a → (parts_of rs).counters ≡ c ∷ [] → ((i : ℕ) → id ≤ i → record_at rs i ≡ None)
    → a.next_place ≡ place + 1 → counters ≡ moved c m work → IsRedrawn (mark_in n) rs (flat_map (left_of rs n place) marks) dropped drawn → news ≡ map records.Mark (map (trace_at n place) drawn)
    → AreMarked rs counters id dropped news changes → DraftsBy work rs m (edits.Settle n marks ∷ []) changes
drafts_settling rs m work n place id marks a c counters changes drawn dropped news rules can_work can found one above last counts redrawn come w =
    subst
    (λ k. CanSettle (parts_of rs) k marks → IsRedrawn (mark_in k) rs (flat_map (left_of rs k place) marks) dropped drawn → news ≡ map records.Mark (map (trace_at k place) drawn)
    → DraftsBy work rs m (edits.Settle k marks ∷ []) changes)
    (space_number (parts_of rs) n a found)
    (λ own drawn_so comes. settles_own rs m work place id marks a c counters changes drawn dropped news rules can_work own (home_there (parts_of rs) n a found) one above last counts drawn_so comes w) can redrawn come
