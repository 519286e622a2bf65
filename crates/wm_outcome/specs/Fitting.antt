-- What is known of a plan over records, whatever it is refused for.
use Rattle.std.specs.Prelude.{◌≡◌, ℕ, true, List, []}
use Rattle.wm_graph.specs.Parts.{parts_of}
use Rattle.wm_model.specs.Planning.{SeatsStaged, Stay, is_idle}
use Rattle.wm_model.specs.Step.{Plan, outcome}
use Rattle.wm_spec.specs.declared.record.stored.Stored.{Stored}
use Rattle.wm_state.specs.Drafts.{CanDraft}

-- what comes of it can be drafted, leaves the sessions with nothing but decisions that are staged, and changes nothing where its answer
-- is that of a line that changes nothing
pub record Fits (rs : List Stored) (m : ℕ) (q : Plan) : Type 0 where
  pub can : CanDraft rs m (outcome q).edits
  pub seats : SeatsStaged (parts_of rs) (outcome q).seating
  pub idle : is_idle (outcome q).answer ≡ true → ((outcome q).edits ≡ []) × ((outcome q).seating ≡ Stay)
