-- How many records edits change.
use Rattle.std.specs.Prelude.{ℕ, ◌≡◌, ◌≤◌, ◌+◌, ◌-◌, ◌*◌, ◌==◌, Bool, true, false, List, [], ◌∷◌, map, length}
use Rattle.std.specs.List.{filter, list_any}
use Rattle.std.specs.Option.{option_map_or}
use Rattle.wm_graph.specs.Parts.{Parts, parts_of, space_of}
use Rattle.wm_spec.specs.Lists.{Entry}
use Rattle.wm_spec.specs.Records.{record_at}
use Rattle.wm_spec.specs.declared.record.Record.{Record}
use Rattle.wm_spec.specs.declared.record.Record.TheVariants as records
use Rattle.wm_spec.specs.declared.record.batch.Change.{Change}
use Rattle.wm_spec.specs.declared.record.piece.PieceRecord.{PieceRecord}
use Rattle.wm_spec.specs.declared.record.space.Space.{Space}
use Rattle.wm_spec.specs.declared.record.stored.Stored.{Stored}
use Rattle.wm_spec.specs.declared.record.trace.Trace.{Trace}
use Rattle.wm_state.specs.ById.{applied}
use Rattle.wm_state.specs.Drafts.{DraftsBy}
use Rattle.wm_state.specs.Drawing.{touched as met_by}
use Rattle.wm_state.specs.Editing.{entry_of}
use Rattle.wm_state.specs.Standing.{latest}
use Rattle.wm_state.specs.Touching.{drawn_all, marks_of}
use Rattle.wm_state.specs.declared.edit.Edit.{Edit}
use Rattle.wm_state.specs.declared.edit.Edit.TheVariants as edits

-- ---- records that differ

-- records differ at so many ids at most
pub record ChangesAtMost (most : ℕ) (old new : List Stored) : Type 0 where
  pub ids : List ℕ
  pub few : length ids ≤ most
  pub others : (id : ℕ) → list_any (λ k. k == id) ids ≡ false → record_at new id ≡ record_at old id

-- beside those whose old record passes a test
pub record ChangesBeside (head : Record → Bool) (most : ℕ) (old new : List Stored) : Type 0 where
  pub ids : List ℕ
  pub few : length ids ≤ most
  pub others : (id : ℕ) → list_any (λ k. k == id) ids ≡ false → option_map_or head (record_at old id) false ≡ false → record_at new id ≡ record_at old id

-- the record is that of the counters, or that of the workspace of a number: several edits of a line change it, but it counts once
abbrev pub is_head : ℕ → Record → Bool
is_head n (records.Counters c) = true
is_head n (records.Space r) = r.number == n
is_head n r = false

-- the record is that of the counters
abbrev pub holds_counters : Record → Bool
holds_counters (records.Counters c) = true
holds_counters r = false

-- ---- what an edit costs

-- the touches of a workspace at the last place that was given there which share a cell with entries
abbrev pub met_touches : Parts → Space → List Entry → List PieceRecord
met_touches p a es = met_by (marks_of (a.next_place - 1) a.log_length es) (drawn_all a.number p.touches)

-- each of them goes, and one may come in its place
abbrev pub touch_price : Parts → ℕ → List Entry → ℕ
touch_price p n es = option_map_or (λ (a : Space). 2 * length (met_touches p a es)) (space_of p.spaces n) 0

-- the pieces of a version
abbrev pub pieces_at : Parts → ℕ → List PieceRecord
pieces_at p version = filter (λ (x : PieceRecord). x.version == version) p.pieces

-- the marks of a workspace
abbrev pub marks_at : Parts → ℕ → List Trace
marks_at p n = filter (λ (x : Trace). x.space == n) p.marks

-- no mark comes or goes
abbrev pub KeepsMarks : List Stored → List Stored → Type 0
KeepsMarks old new = (parts_of new).marks ≡ (parts_of old).marks

-- beside the counters and its workspace an implicit savepoint changes one record; entries that are replayed change four each, a piece, two
-- touches and an entry of the log, and the version that has them; entries that a log gains three each; a rebase changes a version, a turn,
-- the pieces of that version and the marks of the workspace; locks that go change one for each making; nothing is said of other edits
abbrev pub Costs : List Stored → Edit → List Stored → Type 0
Costs old (edits.Keep n) new = ChangesBeside (is_head n) 1 old new × KeepsMarks old new
Costs old (edits.Replay n entries) new = ChangesBeside (is_head n) (1 + 4 * length entries + touch_price (parts_of old) n (map entry_of entries)) old new × KeepsMarks old new
Costs old (edits.Gain n entries) new = ChangesBeside (is_head n) (3 * length entries + touch_price (parts_of old) n (map entry_of entries)) old new
Costs old (edits.Rebase n emptied) new = ChangesBeside (is_head n) (2 + length (pieces_at (parts_of new) (latest (parts_of new) n)) + length (marks_at (parts_of old) n)) old new
Costs old (edits.Unlock makings) new = ChangesBeside holds_counters (length makings) old new
Costs old e new = Unit {0}

-- ---- what edits cost, one after another

-- an edit at a moment made new records of others, at its price
pub record Spent (m : ℕ) (old : List Stored) (e : Edit) (new : List Stored) : Type 0 where
  pub work : ℕ
  pub changes : List Change
  pub drafts : DraftsBy work old m (e ∷ []) changes
  pub is : new ≡ applied changes old
  pub costs : Costs old e new

-- and what it made is as asked
pub record SpentThen (m : ℕ) (old : List Stored) (e : Edit) (Rest : List Stored → Type 0) : Type 0 where
  pub next : List Stored
  pub spent : Spent m old e next
  pub rest : Rest next

-- each edit made of what the ones before it left what the ones behind it found, and the last one the new records, each at its price
abbrev pub Spends : ℕ → List Stored → List Edit → List Stored → Type 0
Spends m old [] new = new ≡ old
Spends m old (e ∷ es) new = SpentThen m old e (λ next. Spends m next es new)
