-- Plans that refresh a workspace, or merge it and let it be.
use Rattle.std.specs.Prelude.{ℕ, ◌≡◌, Bool, true, false, List, [], map}
use Rattle.wm_graph.specs.Parts.{parts_of}
use Rattle.wm_spec.specs.declared.record.space.Space.{Space}
use Rattle.wm_spec.specs.declared.record.stored.Stored.{Stored}
use Rattle.wm_state.specs.Editing.{entry_of}
use Rattle.wm_state.specs.declared.edit.Edit.{Edit}
use Rattle.wm_state.specs.declared.edit.NewEntry.{NewEntry}
use Rattle.wm_telling.specs.Telling.{IsHeldListing, gained_held, own_held}
use Rattle.wm_model.specs.Merged.{NamesFamily, makings_of, merge_edits, refresh_edits}
use Rattle.wm_model.specs.Step.{Asked}

-- the workspace of a name is refreshed, or it is merged and stays
pub record Net : Type 0 where
  pub workspace : List ℕ
  pub merges : Bool

abbrev pub refresh_of : List ℕ → Net
refresh_of workspace = record { workspace = workspace; merges = false }

abbrev pub merge_of : List ℕ → Net
merge_of workspace = record { workspace = workspace; merges = true }

-- the edits refresh the workspace of a name: its log gains what it gains of its parent
pub record AreRefresh (rs : List Stored) (workspace : List ℕ) (edits : List Edit) : Type 0 where
  pub space : Space
  pub parent : Space
  pub family : NamesFamily rs workspace space parent
  pub moment : ℕ
  pub user : List ℕ
  pub gained : List NewEntry
  pub listed : IsHeldListing (parts_of rs) moment user (gained_held (parts_of rs) space parent) (map entry_of gained)
  pub are : edits ≡ refresh_edits space.number gained

-- they merge it into its parent, which has what is its own then, and it stays without its locks
pub record AreMerge (rs : List Stored) (workspace : List ℕ) (edits : List Edit) : Type 0 where
  pub space : Space
  pub parent : Space
  pub family : NamesFamily rs workspace space parent
  pub moment : ℕ
  pub user : List ℕ
  pub asked : Asked
  pub stays : asked.removes ≡ false
  pub even : Bool
  pub own : List NewEntry
  pub own_listed : IsHeldListing (parts_of rs) moment user (own_held (parts_of rs) space) (map entry_of own)
  pub gained : List NewEntry
  pub gained_listed : IsHeldListing (parts_of rs) moment user (gained_held (parts_of rs) space parent) (map entry_of gained)
  pub are : edits ≡ merge_edits asked even space.number parent.number own gained (makings_of space.number (parts_of rs).locks)

-- there are none, or they do what is asked for
pub data AreNets (rs : List Stored) (net : Net) (edits : List Edit) : Type 0 where
  Nothing : edits ≡ [] → AreNets rs net edits
  Refresh : net.merges ≡ false → AreRefresh rs net.workspace edits → AreNets rs net edits
  Merge : net.merges ≡ true → AreMerge rs net.workspace edits → AreNets rs net edits
