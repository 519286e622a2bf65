-- What a workspace keeps of its own, as records, and the draft of a workspace that stands on its parent as that is now.
use Rattle.std.proofs.Common.{◌≡◌, ℕ, ◌+◌, ◌<◌, ◌≤◌, Bool, true, if◌then◌else◌, List, [], ◌∷◌, ◌++◌, append_assoc, append-nil, get_or, take, length, map, Option, Some, None, Bor, is_some, refl, sym, ap, subst, ◌∙◌}
use Rattle.std.proofs.lemmas.List.{map-append, take_more}
use Rattle.std.proofs.lemmas.Bool.{true≢false}
use Rattle.std.specs.Option.{IsSome, option_copied}
use Rattle.wm_append.proofs.Appended.{written_places}
use Rattle.wm_append.specs.Appending.{AreWritten}
use Rattle.wm_forked.proofs.DraftedSaved.{home_there}
use Rattle.wm_graph.specs.Parts.{parts_of, space_of}
use Rattle.wm_graph.specs.Rules.{keep_rules}
use Rattle.wm_index.specs.Sought.{MarksIn, ids_with, is_sought}
use Rattle.wm_pending.specs.Owned.{key_pieces}
use Rattle.wm_pending.specs.declared.own.OwnKey.{OwnKey}
use Rattle.wm_rebased.proofs.DraftedRebased.{drafts_rebase, rebase_to}
use Rattle.wm_rebased.proofs.RebasingFields.{parent_recorded}
use Rattle.wm_rebased.specs.Rebasing.{rebased_on, turn_record}
use Rattle.wm_replay.proofs.Drafted.{batch_so}
use Rattle.wm_replay.proofs.Marks.{marks_are}
use Rattle.wm_spec.specs.Records.{record_at}
use Rattle.wm_spec.specs.declared.record.Record.{Record}
use Rattle.wm_spec.specs.declared.record.Record.TheVariants as records
use Rattle.wm_spec.specs.declared.record.batch.Change.{Change}
use Rattle.wm_spec.specs.declared.record.counters.Counters.{Counters}
use Rattle.wm_spec.specs.declared.record.piece.PieceRecord.{PieceRecord}
use Rattle.wm_spec.specs.declared.record.space.Space.{Space}
use Rattle.wm_spec.specs.declared.record.stored.Stored.{Stored}
use Rattle.wm_state.proofs.Named.{space_number}
use Rattle.wm_state.specs.Copied.{AreCopied, KeyPieces, piece_for, pieces_for}
use Rattle.wm_state.specs.Drafts.{CanRebase, CanWork, DraftsBy}
use Rattle.wm_state.specs.Points.{versioned}
use Rattle.wm_state.specs.Standing.{latest, owned}
use Rattle.wm_state.specs.declared.edit.Edit.TheVariants as edits

-- ---- the pieces of keys

pieces-push : (version : ℕ) (ks : List KeyPieces) (k : KeyPieces) → pieces_for version (ks ++ k ∷ []) ≡ pieces_for version ks ++ map (piece_for version k.table k.key) k.pieces
pieces-push version [] k = append-nil (map (piece_for version k.table k.key) k.pieces)
pieces-push version (j ∷ ks) k =
    ap (λ xs. map (piece_for version j.table j.key) j.pieces ++ xs) (pieces-push version ks k)
    ∙ sym (append_assoc (map (piece_for version j.table j.key) j.pieces) (pieces_for version ks) (map (piece_for version k.table k.key) k.pieces))

-- those of one key more are behind others
pub key_behind : (version : ℕ) (keys : List OwnKey) (i : ℕ) (own : OwnKey) (front before after : List Record) → i < length keys → own ≡ get_or keys i own → before ≡ front ++ map records.Piece (pieces_for version (map key_pieces (take i keys)))
    → after ≡ before ++ map records.Piece (map (piece_for version own.table own.key) own.pieces) → after ≡ front ++ map records.Piece (pieces_for version (map key_pieces (take (i + 1) keys)))
key_behind version keys i own front before after within at is pushed =
    pushed ∙ ap (λ (rs : List Record). rs ++ map records.Piece its) is ∙ append_assoc front (map records.Piece old) (map records.Piece its)
    ∙ ap (λ (rs : List Record). front ++ rs)
    (sym (map-append records.Piece old its)
    ∙ ap (λ (xs : List PieceRecord). map records.Piece xs)
    (sym (pieces-push version (map key_pieces (take i keys)) (key_pieces own))
    ∙ ap (pieces_for version)
    (sym (map-append key_pieces (take i keys) (own ∷ [])) ∙ ap (λ (ks : List OwnKey). map key_pieces ks) (ap (λ (k : OwnKey). take i keys ++ k ∷ []) at ∙ sym (take_more keys i own within)))))
  where
    old : List PieceRecord
    old = pieces_for version (map key_pieces (take i keys))

    its : List PieceRecord
    its = map (piece_for version own.table own.key) own.pieces

-- ---- the draft

-- the batch is that of the rebase
pub rebases_as : (rs : List Stored) (m work base id : ℕ) (a b new : Space) (c counters : Counters) (front changes : List Change) (ks : List KeyPieces) (dropped : List ℕ) (first news : List Record) → base ≡ latest (parts_of rs) a.parent
    → first ≡ records.Version (record { number = c.next_version; space = a.number; parent = base }) ∷ records.Turn (turn_record a.number a b) ∷ [] → news ≡ first ++ map records.Piece (pieces_for c.next_version ks)
    → counters ≡ versioned c m work → new ≡ rebased_on base b.log_length a → front ≡ [] → (w : AreWritten rs front counters new id dropped news changes) → changes ≡ rebase_to (parts_of rs) m work w.counters_id c w.space_id a b dropped id ks
rebases_as rs m work base id a b new c counters front changes ks dropped first news newest begins behind counts rebased none w =
    batch_so changes front [] counters (versioned c m work) w.counters_id w.space_id id id new (rebased_on (latest (parts_of rs) a.parent) b.log_length a) dropped news (all (latest (parts_of rs) a.parent)) w.are none counts
    (rebased ∙ ap (λ v. rebased_on v b.log_length a) newest) refl (behind ∙ ap (λ (rs : List Record). rs ++ pieces) begins ∙ ap all newest)
  where
    pieces : List Record
    pieces = map records.Piece (pieces_for c.next_version ks)

    all : ℕ → List Record
    all v = records.Version (record { number = c.next_version; space = a.number; parent = v }) ∷ records.Turn (turn_record a.number a b) ∷ pieces

rebases_own : (rs : List Stored) (m work base id : ℕ) (emptied : Bool) (a b new : Space) (c counters : Counters) (front changes : List Change) (ks : List KeyPieces) (dropped : List ℕ) (first news : List Record) → keep_rules (parts_of rs) ≡ true
    → CanWork (parts_of rs) m work → CanRebase (parts_of rs) a.number emptied → space_of (parts_of rs).spaces a.number ≡ Some a → space_of (parts_of rs).spaces a.parent ≡ Some b → (parts_of rs).counters ≡ c ∷ []
    → ((i : ℕ) → id ≤ i → record_at rs i ≡ None) → AreCopied (λ k. if emptied then None else owned (parts_of rs) a.base_version a.number k) ks → base ≡ latest (parts_of rs) a.parent
    → first ≡ records.Version (record { number = c.next_version; space = a.number; parent = base }) ∷ records.Turn (turn_record a.number a b) ∷ [] → news ≡ first ++ map records.Piece (pieces_for c.next_version ks)
    → counters ≡ versioned c m work → new ≡ rebased_on base b.log_length a → front ≡ [] → dropped ≡ ids_with (is_sought (MarksIn a.number)) rs → AreWritten rs front counters new id dropped news changes
    → DraftsBy work rs m (edits.Rebase a.number emptied ∷ []) changes
rebases_own rs m work base id emptied a b new c counters front changes ks dropped first news rules can_work can there parent one above copied newest begins behind counts rebased none gone w =
    subst (DraftsBy work rs m (edits.Rebase a.number emptied ∷ [])) (sym (rebases_as rs m work base id a b new c counters front changes ks dropped first news newest begins behind counts rebased none w))
    (drafts_rebase rs m work emptied c a b w.counters_id w.space_id id dropped ks rules can_work can there parent
    (written_places rs front counters c a new id id dropped news changes one there (ap (λ (r : Space). r.number) rebased) above w) (marks_are rs a.number dropped w.sorted gone) copied)

-- told of the number by which the workspace was found
pub drafts_rebasing : (rs : List Stored) (m work n base id : ℕ) (emptied : Bool) (a b new : Space) (c counters : Counters) (front changes : List Change) (ks : List KeyPieces) (dropped : List ℕ) (first news : List Record) → keep_rules (parts_of rs) ≡ true
    → CanWork (parts_of rs) m work → CanRebase (parts_of rs) n emptied → space_of (parts_of rs).spaces n ≡ Some a → space_of (parts_of rs).spaces a.parent ≡ Some b → (parts_of rs).counters ≡ c ∷ []
    → ((i : ℕ) → id ≤ i → record_at rs i ≡ None) → AreCopied (λ k. if emptied then None else owned (parts_of rs) a.base_version a.number k) ks → base ≡ latest (parts_of rs) a.parent
    → first ≡ records.Version (record { number = c.next_version; space = n; parent = base }) ∷ records.Turn (turn_record n a b) ∷ [] → news ≡ first ++ map records.Piece (pieces_for c.next_version ks)
    → counters ≡ versioned c m work → new ≡ rebased_on base b.log_length a → front ≡ [] → dropped ≡ ids_with (is_sought (MarksIn n)) rs → AreWritten rs front counters new id dropped news changes → DraftsBy work rs m (edits.Rebase n emptied ∷ []) changes
drafts_rebasing rs m work n base id emptied a b new c counters front changes ks dropped first news rules can_work can found parent one above copied newest begins behind counts rebased none gone w =
    subst
    (λ k. CanRebase (parts_of rs) k emptied → first ≡ records.Version (record { number = c.next_version; space = k; parent = base }) ∷ records.Turn (turn_record k a b) ∷ [] → dropped ≡ ids_with (is_sought (MarksIn k)) rs
    → DraftsBy work rs m (edits.Rebase k emptied ∷ []) changes)
    (space_number (parts_of rs) n a found)
    (λ own begins_in gone_in.
    rebases_own rs m work base id emptied a b new c counters front changes ks dropped first news rules can_work own (home_there (parts_of rs) n a found) parent one above copied newest begins_in behind counts rebased none gone_in w)
    can begins gone

-- ---- what is looked up

-- the parent is there
pub parent_there : (rs : List Stored) (n : ℕ) (a : Space) (r : Option (Bor Space)) → keep_rules (parts_of rs) ≡ true → 0 < n → space_of (parts_of rs).spaces n ≡ Some a → option_copied r ≡ space_of (parts_of rs).spaces a.parent → IsSome r
parent_there rs n a r rules some found same = by_result r (ap is_some same ∙ parent_recorded (parts_of rs) rules n a some found)
  where
    by_result : (o : Option (Bor Space)) → is_some (option_copied o) ≡ true → IsSome o
    by_result None none = absurd (true≢false (sym none))
    by_result (Some b) there = refl

-- the workspace is there, as it stands on its parent
pub there_rebased : (rs : List Stored) (n version from : ℕ) (a new : Space) → space_of (parts_of rs).spaces n ≡ Some a → new ≡ rebased_on version from a → is_some (space_of (parts_of rs).spaces new.number) ≡ true
there_rebased rs n version from a new found is = ap (λ (b : Space). is_some (space_of (parts_of rs).spaces b.number)) is ∙ ap is_some (home_there (parts_of rs) n a found)
