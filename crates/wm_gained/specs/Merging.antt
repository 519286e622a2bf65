-- The edits of a merge, and what is asked of the records before the first of them.
use Rattle.std.specs.Prelude.{ℕ, ◌≡◌, ◌==◌, Bool, true, false, if◌then◌else◌, List, [], ◌∷◌, map, Option, Some, None}
use Rattle.wm_graph.specs.Parts.{Parts}
use Rattle.wm_state.specs.Drafts.{CanGain, CanKeep, CanRebase, CanRemove, CanReplay}
use Rattle.wm_state.specs.Editing.{entry_of}
use Rattle.wm_state.specs.declared.edit.Edit.{Edit}
use Rattle.wm_state.specs.declared.edit.Edit.TheVariants as edits
use Rattle.wm_state.specs.declared.edit.NewEntry.{NewEntry}

-- ---- the edits

-- what becomes of the workspace itself: whether it goes; else, whether it is rebased with nothing of its own, and what its log gains then,
-- if there is something
pub record Leaving : Type 0 where
  pub removes : Bool
  pub rebases : Bool
  pub gained : Option (List NewEntry)

-- a merge: whether what is newest in the parent is kept first, what comes into the parent, if there is something, and what becomes of the
-- workspace
pub record Merge : Type 0 where
  pub keeps : Bool
  pub own : Option (List NewEntry)
  pub leaving : Leaving

-- an edit that brings entries, where there are some, before others
abbrev pub bringing : (List NewEntry → Edit) → Option (List NewEntry) → List Edit → List Edit
bringing edit None es = es
bringing edit (Some entries) es = edit entries ∷ es

-- the edits of a workspace of this number
abbrev pub leave_edits : ℕ → Leaving → List Edit
leave_edits n l = if l.removes then edits.Remove n ∷ [] else (if l.rebases then edits.Rebase n true ∷ bringing (edits.Gain n) l.gained [] else [])

-- those of its merge into a parent
abbrev pub merge_edits : ℕ → ℕ → Merge → List Edit
merge_edits parent n x = let behind = bringing (edits.Replay parent) x.own (leave_edits n x.leaving) in if x.keeps then edits.Keep parent ∷ behind else behind

-- ---- what is asked

-- of the workspace
pub record CanLeave (p : Parts) (n : ℕ) (l : Leaving) : Type 0 where
  pub remove : l.removes ≡ true → CanRemove p n
  pub rebase : l.removes ≡ false → l.rebases ≡ true → CanRebase p n true
  pub gain : l.removes ≡ false → l.rebases ≡ true → (entries : List NewEntry) → l.gained ≡ Some entries → CanGain p n (map entry_of entries)

-- and of its parent, which is another one
pub record CanMerge (p : Parts) (parent n : ℕ) (x : Merge) : Type 0 where
  pub other : (n == parent) ≡ false
  pub keep : x.keeps ≡ true → CanKeep p parent
  pub replay : (entries : List NewEntry) → x.own ≡ Some entries → CanReplay p parent (map entry_of entries)
  pub leave : CanLeave p n x.leaving
