-- What is written where entries that were made before come into a log, or into a workspace, is a draft of it.
use Rattle.std.proofs.Common.{◌≡◌, ℕ, ◌+◌, ◌≤◌, true, List, [], ◌∷◌, ◌++◌, length, map, Some, None, refl, sym, ap, subst, ◌∙◌}
use Rattle.wm_append.proofs.Appended.{counted_so, written_places}
use Rattle.wm_append.proofs.Written.{in_order}
use Rattle.wm_append.specs.Appending.{AreWritten}
use Rattle.wm_append.specs.Layers.{touch_in}
use Rattle.wm_append.specs.Redraw.{IsRedrawn}
use Rattle.wm_forked.proofs.DraftedSaved.{home_there}
use Rattle.wm_gained.proofs.DraftedGained.{drafts_gain}
use Rattle.wm_gained.proofs.DraftedReplayed.{drafts_replay}
use Rattle.wm_graph.specs.Parts.{parts_of, space_of}
use Rattle.wm_graph.specs.Rules.{keep_rules}
use Rattle.wm_replay.proofs.Marked.{retraced_so, traces_back}
use Rattle.wm_spec.specs.Lists.{Entry}
use Rattle.wm_spec.specs.Records.{record_at}
use Rattle.wm_spec.specs.declared.record.Record.{Record}
use Rattle.wm_spec.specs.declared.record.Record.TheVariants as records
use Rattle.wm_spec.specs.declared.record.batch.Change.{Change}
use Rattle.wm_spec.specs.declared.record.counters.Counters.{Counters}
use Rattle.wm_spec.specs.declared.record.piece.PieceRecord.{PieceRecord}
use Rattle.wm_spec.specs.declared.record.space.Space.{Space}
use Rattle.wm_spec.specs.declared.record.stored.Stored.{Stored}
use Rattle.wm_spec.specs.declared.record.trace.Trace.{Trace}
use Rattle.wm_state.proofs.Named.{space_number}
use Rattle.wm_state.specs.Batches.{drop_one, put}
use Rattle.wm_state.specs.Drafts.{CanGain, CanReplay, CanWork, DraftsBy}
use Rattle.wm_state.specs.Entries.{hists_kept, pieces_of}
use Rattle.wm_state.specs.Points.{moved, next_version, versioned}
use Rattle.wm_state.specs.Standing.{latest}
use Rattle.wm_state.specs.Touching.{marks_of, trace_at, trace_of}
use Rattle.wm_state.specs.Writes.{longer_by, put_all}
use Rattle.wm_state.specs.declared.edit.Edit.TheVariants as edits
use Rattle.wm_state.specs.declared.edit.NewEntry.{NewEntry}
use Rattle.wm_written.proofs.DraftedWritten.{entries_in}

-- ---- what comes

-- what a workspace's log gains: its new touches, and behind them what the log keeps of the entries
pub record Comes (rs : List Stored) (n place : ℕ) (a : Space) (es : List Entry) (drawn : List PieceRecord) (hists front news : List Record) : Type 0 where
  pub touches : List Record
  pub first : touches ≡ front ++ map records.Touch (map (trace_at n place) drawn)
  pub kept : hists ≡ map records.Hist (hists_kept (parts_of rs).tables a.number a.log_length es)
  pub behind : news ≡ touches ++ hists

comes_so : (rs : List Stored) (place : ℕ) (a : Space) (es : List Entry) (ids : List ℕ) (drawn : List PieceRecord) (hists front news : List Record) → Comes rs a.number place a es drawn hists front news
    → IsRedrawn (touch_in a.number) rs (marks_of place a.log_length es) ids drawn
    → news ≡ front ++ (map records.Touch (map (trace_of a.number) drawn) ++ map records.Hist (hists_kept (parts_of rs).tables a.number a.log_length es))
comes_so rs place a es ids drawn hists front news comes redrawn =
    in_order [] front (map records.Touch (map (trace_at a.number place) drawn)) hists front comes.touches news refl comes.first comes.behind
    ∙ ap (λ (ts : List Trace). front ++ (map records.Touch ts ++ hists)) (traces_back rs a place es ids drawn redrawn)
    ∙ ap (λ (xs : List Record). front ++ (map records.Touch (map (trace_of a.number) drawn) ++ xs)) comes.kept

-- ---- the batch

pub batch_so : (changes front first : List Change) (counters d : Counters) (counters_id space_id id from : ℕ) (longer space : Space) (dropped : List ℕ) (news all : List Record)
    → changes ≡ front ++ (put counters_id (records.Counters counters) ∷ put space_id (records.Space longer) ∷ (map drop_one dropped ++ put_all id news)) → front ≡ first → counters ≡ d → longer ≡ space → id ≡ from → news ≡ all
    → changes ≡ first ++ (put counters_id (records.Counters d) ∷ put space_id (records.Space space) ∷ (map drop_one dropped ++ put_all from all))
batch_so changes front first counters d counters_id space_id id from longer space dropped news all are begins count long starts come = rw (are, begins, count, long, starts, come) refl

-- ---- a log gains entries

gains_own : (rs : List Stored) (m work place id count : ℕ) (entries : List NewEntry) (a longer : Space) (c counters : Counters) (front changes : List Change) (drawn : List PieceRecord) (dropped : List ℕ) (hists news : List Record)
    → keep_rules (parts_of rs) ≡ true → CanWork (parts_of rs) m work → CanGain (parts_of rs) a.number (entries_in entries) → space_of (parts_of rs).spaces a.number ≡ Some a → (parts_of rs).counters ≡ c ∷ [] → ((i : ℕ) → id ≤ i → record_at rs i ≡ None)
    → a.next_place ≡ place + 1 → counters ≡ moved c m work → count ≡ length entries → longer ≡ longer_by count a → front ≡ [] → IsRedrawn (touch_in a.number) rs (marks_of place a.log_length (entries_in entries)) dropped drawn
    → Comes rs a.number place a (entries_in entries) drawn hists [] news → AreWritten rs front counters longer id dropped news changes → DraftsBy work rs m (edits.Gain a.number entries ∷ []) changes
gains_own rs m work place id count entries a longer c counters front changes drawn dropped hists news rules can_work can there one above last counts many longer_is none redrawn comes w =
    subst (DraftsBy work rs m (edits.Gain a.number entries ∷ []))
    (sym
    (batch_so changes front [] counters (moved c m work) w.counters_id w.space_id id id longer (longer_by (length es) a) dropped news
    (map records.Touch (map (trace_of a.number) drawn) ++ map records.Hist (hists_kept (parts_of rs).tables a.number a.log_length es)) w.are none counts
    (longer_is ∙ ap (λ k. longer_by k a) (counted_so entries count many)) refl (comes_so rs place a es dropped drawn hists [] news comes redrawn)))
    (drafts_gain rs m work entries a c w.counters_id w.space_id id dropped drawn rules can_work can there
    (written_places rs front counters c a longer id id dropped news changes one there (ap (λ (b : Space). b.number) longer_is) above w) (retraced_so rs a place es dropped drawn last redrawn))
  where
    es : List Entry
    es = entries_in entries

-- told of the number by which the workspace was found
pub drafts_gaining : (rs : List Stored) (m work n place id count : ℕ) (entries : List NewEntry) (a longer : Space) (c counters : Counters) (front changes : List Change) (drawn : List PieceRecord) (dropped : List ℕ) (hists news : List Record)
    → keep_rules (parts_of rs) ≡ true → CanWork (parts_of rs) m work → CanGain (parts_of rs) n (entries_in entries) → space_of (parts_of rs).spaces n ≡ Some a → (parts_of rs).counters ≡ c ∷ [] → ((i : ℕ) → id ≤ i → record_at rs i ≡ None)
    → a.next_place ≡ place + 1 → counters ≡ moved c m work → count ≡ length entries → longer ≡ longer_by count a → front ≡ [] → IsRedrawn (touch_in n) rs (marks_of place a.log_length (entries_in entries)) dropped drawn
    → Comes rs n place a (entries_in entries) drawn hists [] news → AreWritten rs front counters longer id dropped news changes → DraftsBy work rs m (edits.Gain n entries ∷ []) changes
drafts_gaining rs m work n place id count entries a longer c counters front changes drawn dropped hists news rules can_work can found one above last counts many longer_is none redrawn comes w =
    subst
    (λ k. CanGain (parts_of rs) k (entries_in entries) → IsRedrawn (touch_in k) rs (marks_of place a.log_length (entries_in entries)) dropped drawn → Comes rs k place a (entries_in entries) drawn hists [] news
    → DraftsBy work rs m (edits.Gain k entries ∷ []) changes)
    (space_number (parts_of rs) n a found)
    (λ own drawn_so comes_in.
    gains_own rs m work place id count entries a longer c counters front changes drawn dropped hists news rules can_work own (home_there (parts_of rs) n a found) one above last counts many longer_is none drawn_so comes_in w)
    can redrawn comes

-- ---- entries come into a workspace

-- the version, and behind it the batch
replays_own : (rs : List Stored) (m work place id next parent count : ℕ) (entries : List NewEntry) (a longer : Space) (c counters : Counters) (front changes : List Change) (drawn pieces : List PieceRecord) (dropped : List ℕ) (hists first news : List Record)
    → keep_rules (parts_of rs) ≡ true → CanWork (parts_of rs) m work → CanReplay (parts_of rs) a.number (entries_in entries) → space_of (parts_of rs).spaces a.number ≡ Some a → (parts_of rs).counters ≡ c ∷ []
    → ((i : ℕ) → id ≤ i → record_at rs i ≡ None) → next ≡ id + 1 → a.next_place ≡ place + 1 → counters ≡ versioned c m work → count ≡ length entries → longer ≡ longer_by count a
    → front ≡ put id (records.Version (record { number = c.next_version; space = a.number; parent = parent })) ∷ [] → parent ≡ latest (parts_of rs) a.number → pieces ≡ pieces_of c.next_version (entries_in entries)
    → first ≡ map records.Piece pieces → IsRedrawn (touch_in a.number) rs (marks_of place a.log_length (entries_in entries)) dropped drawn → Comes rs a.number place a (entries_in entries) drawn hists first news
    → AreWritten rs front counters longer next dropped news changes → DraftsBy work rs m (edits.Replay a.number entries ∷ []) changes
replays_own rs m work place id next parent count entries a longer c counters front changes drawn pieces dropped hists first news rules can_work can there one above after last counts many longer_is begins newest pieces_are first_is redrawn comes w =
    subst (DraftsBy work rs m (edits.Replay a.number entries ∷ []))
    (sym
    (batch_so changes front (put id (records.Version (next_version (parts_of rs) a.number c)) ∷ []) counters (versioned c m work) w.counters_id w.space_id next (id + 1) longer (longer_by (length es) a) dropped news
    (map records.Piece (pieces_of c.next_version es) ++ (map records.Touch (map (trace_of a.number) drawn) ++ map records.Hist (hists_kept (parts_of rs).tables a.number a.log_length es))) w.are
    (begins ∙ ap (λ k. put id (records.Version (record { number = c.next_version; space = a.number; parent = k })) ∷ []) newest) counts (longer_is ∙ ap (λ k. longer_by k a) (counted_so entries count many)) after
    (comes_so rs place a es dropped drawn hists first news comes redrawn
    ∙ ap (λ (xs : List Record). xs ++ (map records.Touch (map (trace_of a.number) drawn) ++ map records.Hist (hists_kept (parts_of rs).tables a.number a.log_length es)))
    (first_is ∙ ap (λ (xs : List PieceRecord). map records.Piece xs) pieces_are))))
    (drafts_replay rs m work entries a c w.counters_id w.space_id id dropped drawn rules can_work can there
    (written_places rs front counters c a longer id next dropped news changes one there (ap (λ (b : Space). b.number) longer_is) above w) (retraced_so rs a place es dropped drawn last redrawn))
  where
    es : List Entry
    es = entries_in entries

pub drafts_replaying : (rs : List Stored) (m work n place id next parent count : ℕ) (entries : List NewEntry) (a longer : Space) (c counters : Counters) (front changes : List Change) (drawn pieces : List PieceRecord) (dropped : List ℕ) (hists first news : List Record)
    → keep_rules (parts_of rs) ≡ true → CanWork (parts_of rs) m work → CanReplay (parts_of rs) n (entries_in entries) → space_of (parts_of rs).spaces n ≡ Some a → (parts_of rs).counters ≡ c ∷ []
    → ((i : ℕ) → id ≤ i → record_at rs i ≡ None) → next ≡ id + 1 → a.next_place ≡ place + 1 → counters ≡ versioned c m work → count ≡ length entries → longer ≡ longer_by count a
    → front ≡ put id (records.Version (record { number = c.next_version; space = n; parent = parent })) ∷ [] → parent ≡ latest (parts_of rs) n → pieces ≡ pieces_of c.next_version (entries_in entries)
    → first ≡ map records.Piece pieces → IsRedrawn (touch_in n) rs (marks_of place a.log_length (entries_in entries)) dropped drawn → Comes rs n place a (entries_in entries) drawn hists first news
    → AreWritten rs front counters longer next dropped news changes → DraftsBy work rs m (edits.Replay n entries ∷ []) changes
drafts_replaying rs m work n place id next parent count entries a longer c counters front changes drawn pieces dropped hists first news rules can_work can found one above after last counts many longer_is begins newest pieces_are first_is redrawn comes w =
    subst
    (λ k. CanReplay (parts_of rs) k (entries_in entries) → front ≡ put id (records.Version (record { number = c.next_version; space = k; parent = parent })) ∷ [] → parent ≡ latest (parts_of rs) k
    → IsRedrawn (touch_in k) rs (marks_of place a.log_length (entries_in entries)) dropped drawn → Comes rs k place a (entries_in entries) drawn hists first news → DraftsBy work rs m (edits.Replay k entries ∷ []) changes)
    (space_number (parts_of rs) n a found)
    (λ own begins_in newest_in drawn_so comes_in.
    replays_own rs m work place id next parent count entries a longer c counters front changes drawn pieces dropped hists first news rules can_work own (home_there (parts_of rs) n a found) one above after last counts many longer_is
    begins_in newest_in pieces_are first_is drawn_so comes_in w)
    can begins newest redrawn comes
