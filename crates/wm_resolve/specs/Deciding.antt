-- ResolveConflicts over a table, by what is decided.
use Rattle.std.specs.Prelude.{ℕ, ◌≡◌, Bool, List, Option}
use Rattle.std.specs.List.{All}
use Rattle.wm_syntax.specs.Trees.{Cond}
use Rattle.wm_decided.specs.Staged.{IsStaged}
use Rattle.wm_decided.specs.declared.keep.Keep.{Keep}
use Rattle.wm_decided.specs.declared.keep.Keep.TheVariants.{Parent, Child, Base}
use Rattle.wm_graph.specs.Parts.{Parts, parts_of}
use Rattle.wm_print.specs.Texts.{Answer}
use Rattle.wm_spec.specs.declared.record.space.Space.{Space}
use Rattle.wm_spec.specs.declared.record.stored.Stored.{Stored}
use Rattle.wm_spec.specs.declared.record.table.Table.{Table}
use Rattle.wm_state.specs.Standing.{latest}
use Rattle.wm_state.specs.State.{Decision, Session, State}
use Rattle.wm_model.specs.Planning.{StandsAt}
use Rattle.wm_model.specs.Step.{decide, decide_on, unless, unless_empty_period, unresolved_fault, with_named}

-- what ResolveConflicts does with a table that is ready for rows, where nothing is wrong with its arguments and its condition
abbrev pub resolve_to : Session → List ℕ → Table → Option Cond → Keep → Bool → State → State × Answer
resolve_to session workspace table condition keep empty s =
    with_named s workspace (λ w. unless_empty_period empty s (unless (unresolved_fault session w) s (decide_on session table condition keep s w)))

-- a function of the state makes these decisions of each state that the records stand for, and they can be committed
pub record Decides (rs : List Stored) (xs : List Session) (m : ℕ) (session : Session) (ds : List Decision) (act : State → State × Answer) : Type 0 where
  pub made : (s : State) → StandsAt rs xs m s → act s ≡ decide session ds s
  pub staged : (s : State) → StandsAt rs xs m s → All (IsStaged (parts_of rs)) ds

-- the version from which is copied: the parent's newest, or the one that the workspace sees under its own
abbrev pub version_kept : Parts → Keep → Space → Space → ℕ
version_kept p Parent a b = latest p b.number
version_kept p Child a b = a.base_version
version_kept p Base a b = a.base_version
