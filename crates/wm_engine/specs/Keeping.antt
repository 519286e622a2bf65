-- What is kept of what a line makes of the records.
use Rattle.std.specs.Prelude.{ℕ, ◌≡◌, List}
use Rattle.wm_spec.specs.declared.record.batch.Change.{Change}
use Rattle.wm_spec.specs.declared.record.stored.Stored.{Stored}
use Rattle.wm_state.specs.ById.{applied}
use Rattle.wm_state.specs.Drafts.{Drafts}
use Rattle.wm_state.specs.declared.edit.Edit.{Edit}
use Rattle.wm_engine.specs.Working.{HoldsSorted}

-- the records are what changes make of others that draft edits at a moment
pub record AreDrafted (rs : List Stored) (m : ℕ) (es : List Edit) (new : List Stored) : Type 0 where
  pub changes : List Change
  pub drafts : Drafts rs m es changes
  pub is : new ≡ applied changes rs

-- a file holds such records
pub record HoldsDrafted (file : List ℕ) (rs : List Stored) (m : ℕ) (es : List Edit) : Type 0 where
  pub new : List Stored
  pub drafted : AreDrafted rs m es new
  pub holds : HoldsSorted file new
