-- What sources ask for that is not there, by the records alone.
use Rattle.std.proofs.Common.{◌≡◌, ℕ, List, [], Option, refl, sym, ap, ◌∙◌}
use Rattle.wm_syntax.specs.Trees.{Query, Src}
use Rattle.wm_syntax.specs.Views.{srcs_view}
use Rattle.wm_syntax.specs.declared.query.Src.{Src as SrcNode}
use Rattle.wm_graph.specs.Parts.{Parts, parts_of}
use Rattle.wm_model.proofs.Selecting.{point_lost, space_lost}
use Rattle.wm_model.specs.Step.{first_lost, savepoint_lost, workspace_lost}
use Rattle.wm_outline.specs.Outline.{outline_of}
use Rattle.wm_spec.specs.declared.record.stored.Stored.{Stored}
use Rattle.wm_state.specs.State.{Session}
use Rattle.wm_view_rows.specs.declared.view.View.{View}
use Rattle.wm_view_rows.specs.declared.view.View.TheVariants.{Rows, Conflicts, Differences, History, Locks}

module _ (p : Parts) (xs : List Session) (m : ℕ) (session : Session) where
  workspace_by : (v : View) → workspace_lost (outline_of p xs m) session v ≡ workspace_lost (outline_of p [] 0) session v
  workspace_by Rows = refl
  workspace_by Conflicts = refl
  workspace_by Differences = refl
  workspace_by History = refl
  workspace_by Locks = refl

  savepoint_by : (v : View) → savepoint_lost (outline_of p xs m) session v ≡ savepoint_lost (outline_of p [] 0) session v
  savepoint_by Rows = refl
  savepoint_by Conflicts = refl
  savepoint_by Differences = refl
  savepoint_by History = refl
  savepoint_by Locks = refl

  pub workspaces_by : (sources : List Src) → first_lost (workspace_lost (outline_of p xs m) session) sources ≡ first_lost (workspace_lost (outline_of p [] 0) session) sources
  workspaces_by sources = λ i. first_lost (λ v. workspace_by v i) sources

  pub savepoints_by : (sources : List Src) → first_lost (savepoint_lost (outline_of p xs m) session) sources ≡ first_lost (savepoint_lost (outline_of p [] 0) session) sources
  savepoints_by sources = λ i. first_lost (λ v. savepoint_by v i) sources

-- what the code finds of it is what is refused by the records
pub space_lost_is : (rs : List Stored) (xs : List Session) (m : ℕ) (session : Session) (query : Query) (sources : List SrcNode) (lost : Option (List ℕ)) → srcs_view sources ≡ query.sources
    → lost ≡ first_lost (workspace_lost (outline_of (parts_of rs) xs m) session) (srcs_view sources) → space_lost rs session query ≡ lost
space_lost_is rs xs m session query sources lost same is = sym (is ∙ workspaces_by (parts_of rs) xs m session (srcs_view sources) ∙ ap (first_lost (workspace_lost (outline_of (parts_of rs) [] 0) session)) same)

pub point_lost_is : (rs : List Stored) (xs : List Session) (m : ℕ) (session : Session) (query : Query) (sources : List SrcNode) (lost : Option (List ℕ)) → srcs_view sources ≡ query.sources
    → lost ≡ first_lost (savepoint_lost (outline_of (parts_of rs) xs m) session) (srcs_view sources) → point_lost rs session query ≡ lost
point_lost_is rs xs m session query sources lost same is = sym (is ∙ savepoints_by (parts_of rs) xs m session (srcs_view sources) ∙ ap (first_lost (savepoint_lost (outline_of (parts_of rs) [] 0) session)) same)
