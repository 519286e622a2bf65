-- Cells can be settled behind entries that come into the workspace, where what is asked for each holds of the first records.
use Rattle.std.proofs.Common.{◌≡◌, ℕ, ◌==◌, Bool, true, cond, List, [], ◌∷◌, map, Option, Some, refl, sym, ◌∙◌}
use Rattle.std.proofs.lemmas.Bool.{eq-eqb}
use Rattle.std.specs.Option.{option_map}
use Rattle.wm_graph.specs.Parts.{Parts, parts_of, space_of, table_of}
use Rattle.wm_graph.specs.Rules.{are_cells, keep_rules}
use Rattle.wm_spec.specs.declared.record.batch.Change.{Change}
use Rattle.wm_spec.specs.declared.record.space.Space.{Space}
use Rattle.wm_spec.specs.declared.record.stored.Stored.{Stored}
use Rattle.wm_state.specs.ById.{Ascend, applied}
use Rattle.wm_state.specs.Drafts.{CanEditAll, CanReplay, CanSettle, DraftsBy, cells_in}
use Rattle.wm_state.specs.Editing.{drafted_by, entry_of}
use Rattle.wm_state.specs.Standing.{FieldsStand}
use Rattle.wm_state.specs.State.{Durable, Workspace, with_entries, workspace_of}
use Rattle.wm_state.specs.declared.edit.Edit.TheVariants as edits
use Rattle.wm_state.specs.declared.edit.NewEntry.{NewEntry}
use Rattle.wm_state.specs.declared.edit.NewMark.{NewMark}
use Rattle.wm_state.proofs.Changing.{workspace_of-changed}
use Rattle.wm_state.proofs.FieldsThere.{fields_there}
use Rattle.wm_state.proofs.Ready.{tables_found}
use Rattle.wm_state.proofs.Spaces.{record_there, space_there}
use Rattle.wm_state.proofs.Tests.{all_if}

-- ---- behind entries that come into the workspace

module _ (rs : List Stored) (m work n : ℕ) (entries : List NewEntry) (cs : List Change) (rules : keep_rules (parts_of rs) ≡ true) (drafts : DraftsBy work rs m (edits.Replay n entries ∷ []) cs) where
  abbrev p : Parts
  p = parts_of rs

  abbrev q : Parts
  q = parts_of (applied cs rs)

  -- a state that agrees with the records before, and what the entries make of it
  abbrev was : Durable
  was = (fields_there p rules).0

  abbrev now : Durable
  now = drafted_by work m (edits.Replay n entries ∷ []) was

  before : FieldsStand p was
  before = (fields_there p rules).1

  after : FieldsStand q now
  after = drafts.fields was before

  tables_still : (k : ℕ) → table_of q.tables k ≡ table_of p.tables k
  tables_still k = sym (tables_found q now after.tables k) ∙ tables_found p was before.tables k

  -- the workspace is there still
  there_still : (a : Space) → space_of p.spaces n ≡ Some a → (b : Space) × (space_of q.spaces n ≡ Some b)
  there_still a there =
      let w = space_there p was n a before.spaces there in
      let r = record_there q now n (with_entries (map entry_of entries) w.workspace) after.spaces
      (workspace_of-changed n (with_entries (map entry_of entries)) (λ v. refl) was.spaces n ∙ by_test (n == n) (eq-eqb n n refl) (workspace_of was.spaces n) w.workspace w.is.found) in
      (r.recorded, r.is.recorded)
    where
      by_test : (b : Bool) → b ≡ true → (o : Option Workspace) (v : Workspace) → o ≡ Some v → cond b (option_map (with_entries (map entry_of entries)) o) o ≡ Some (with_entries (map entry_of entries) v)
      by_test b e o v found = rw (e, found) refl

  pub can_settle_next : (ms : List NewMark) → CanSettle p n ms → CanSettle q n ms
  can_settle_next ms can =
      let y = there_still can.space can.there in
      record {
        space = y.0;
        there = y.1;
        some = can.some;
        cells = all_if (λ (k : NewMark). are_cells (table_of p.tables) (cells_in k)) (λ (k : NewMark). are_cells (table_of q.tables) (cells_in k)) (λ k is. still k ∙ is) ms can.cells;
        kept = can.kept;
        sorted = can.sorted;
        apart = can.apart;
      }
    where
      still : (k : NewMark) → are_cells (table_of q.tables) (cells_in k) ≡ are_cells (table_of p.tables) (cells_in k)
      still k = rw (tables_still k.table) refl

pub settles_behind : (rs : List Stored) (m n : ℕ) (entries : List NewEntry) (marks : List NewMark) → Ascend rs → keep_rules (parts_of rs) ≡ true → CanReplay (parts_of rs) n (map entry_of entries) → CanSettle (parts_of rs) n marks
    → CanEditAll rs m (edits.Replay n entries ∷ edits.Settle n marks ∷ [])
settles_behind rs m n entries marks sorted rules replay settle =
    (replay, λ work cs drafts. (can_settle_next rs m work n entries cs rules drafts marks settle, λ more ds then. tt))
