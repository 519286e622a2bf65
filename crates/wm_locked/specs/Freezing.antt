-- The record of a workspace in the place of another one, which sees the same versions; and the batch.
use Rattle.std.specs.Prelude.{ℕ, ◌≡◌, ◌==◌, false, List, [], ◌∷◌, length, Some}
use Rattle.wm_graph.specs.Parts.{Parts, space_of}
use Rattle.wm_spec.specs.declared.record.Record.TheVariants as records
use Rattle.wm_spec.specs.declared.record.batch.Change.{Change}
use Rattle.wm_spec.specs.declared.record.counters.Counters.{Counters}
use Rattle.wm_spec.specs.declared.record.space.Space.{Space}
use Rattle.wm_state.specs.Batches.{put}
use Rattle.wm_state.specs.State.{Workspace}

-- a workspace has another record, which sees the same versions; but for counters all else is as it was
pub record Renewed (p q : Parts) (n : ℕ) (a b : Space) : Type 0 where
  pub old : space_of p.spaces n ≡ Some a
  pub here : space_of q.spaces n ≡ Some b
  pub elsewhere : (m : ℕ) → (m == n) ≡ false → space_of q.spaces m ≡ space_of p.spaces m
  pub count : length q.spaces ≡ length p.spaces
  pub birth : b.birth_version ≡ a.birth_version
  pub base : b.base_version ≡ a.base_version
  pub rest : record q { counters = p.counters; spaces = p.spaces } ≡ p

-- what becomes of a workspace leaves all of it that records name
pub record Leaves (act : Workspace → Workspace) : Type 0 where
  pub number : (w : Workspace) → (act w).number ≡ w.number
  pub parent : (w : Workspace) → (act w).parent ≡ w.parent
  pub lists : (w : Workspace) → (act w).lists ≡ w.lists
  pub rebases : (w : Workspace) → (act w).rebases ≡ w.rebases
  pub place : (w : Workspace) → (act w).next_place ≡ w.next_place
  pub savepoints : (w : Workspace) → (act w).savepoints ≡ w.savepoints
  pub turns : (w : Workspace) → (act w).turns ≡ w.turns
  pub settled : (w : Workspace) → (act w).settled ≡ w.settled

-- the record of a workspace is put
abbrev pub renew_batch : ℕ → Counters → ℕ → Space → List Change
renew_batch counters_id counters space_id b = put counters_id (records.Counters counters) ∷ put space_id (records.Space b) ∷ []
