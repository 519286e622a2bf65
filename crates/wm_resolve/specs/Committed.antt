-- What CommitResolve makes of the records.
use Rattle.std.specs.Prelude.{ℕ, List, [], ◌∷◌, ◌++◌}
use Rattle.wm_model.specs.Merged.{replay_edits}
use Rattle.wm_state.specs.declared.edit.Edit.{Edit}
use Rattle.wm_state.specs.declared.edit.Edit.TheVariants as edits
use Rattle.wm_state.specs.declared.edit.NewEntry.{NewEntry}
use Rattle.wm_state.specs.declared.edit.NewMark.{NewMark}

-- entries come into a workspace, if there are any, and its cells are settled
abbrev pub commit_edits : ℕ → List NewEntry → List NewMark → List Edit
commit_edits n entries marks = replay_edits n entries ++ edits.Settle n marks ∷ []
