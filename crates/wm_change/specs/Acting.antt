-- What a plan does in the workspace that a session stands in.
use Rattle.std.specs.Prelude.{ℕ, ◌≡◌, ◌<◌, true, List, length, Option, Some, None}
use Rattle.std.specs.List.{list_all}
use Rattle.wm_syntax.specs.Trees.{Cond, Set}
use Rattle.wm_base.specs.declared.instant.TheConstants.{END}
use Rattle.wm_base.specs.declared.row.Row.{Row}
use Rattle.wm_change.specs.declared.site.Site.{Site}
use Rattle.wm_graph.specs.Parts.{parts_of, space_of, table_of}
use Rattle.wm_graph.specs.Rules.{has_key, is_table, keep_rules}
use Rattle.wm_spec.specs.declared.record.table.Table.{Table}
use Rattle.wm_spec.specs.Expressions.{has_no_empty_period}
use Rattle.wm_typing.specs.Changing.{update_fault}
use Rattle.wm_model.specs.Lawful.{is_full_row}
use Rattle.wm_model.specs.Planning.{StandsAt}
use Rattle.wm_print.specs.Texts.{Answer}
use Rattle.wm_spec.specs.declared.record.space.Space.{Space}
use Rattle.wm_spec.specs.declared.record.stored.Stored.{Stored}
use Rattle.wm_state.specs.State.{State, Session, Workspace, workspace_of}
use Rattle.wm_plan.specs.Planning.{DoesIt}
use Rattle.wm_plan.specs.declared.planned.Planned.{Planned}

-- the workspace is the one that a session stands in, and as long is its log as the record says
pub record IsHome (s : State) (session : Session) (a : Space) (w : Workspace) : Type 0 where
  pub is : workspace_of s.durable.spaces session.space ≡ Some w
  pub number : w.number ≡ session.space
  pub log : a.log_length ≡ length w.lists.log

-- the function does, to each state that records, sessions and a moment stand for, what is done there in the session's workspace
abbrev pub ActsAs : List Stored → List Session → ℕ → Session → Space → (State → Workspace → State × Answer) → (State → State × Answer) → Type 0
ActsAs rs xs m session a done act =
    (s : State) → StandsAt rs xs m s → (w : Workspace) × IsHome s session a w × (act s ≡ done s w)

-- the plan does and answers what each such function does and answers
abbrev pub DoesAs : List Stored → ℕ → Session → Space → (State → Workspace → State × Answer) → Planned → Type 0
DoesAs rs m session a done p = (xs : List Session) (act : State → State × Answer) → ActsAs rs xs m session a done act → DoesIt rs xs m p act

-- the table and the workspace are those of the records, which keep the rules
pub record IsSite (s : Site) : Type 0 where
  pub rules : keep_rules (parts_of s.image.now) ≡ true
  pub moment : s.moment < END
  pub there : table_of (parts_of s.image.now).tables s.table.now.number ≡ Some s.table.now
  pub on : s.table.now.versioned ≡ true
  pub home : space_of (parts_of s.image.now).spaces s.session.now.space ≡ Some s.space.now

abbrev pub DoesAt : Site → (State → Workspace → State × Answer) → Planned → Type 0
DoesAt s done p = DoesAs s.image.now s.moment s.session.now s.space.now done p

-- the sets are those of an UPDATE of a table in workspaces that is not wrong for the table, and has no empty period
pub record IsUpdate (t : Table) (sets : List Set) : Type 0 where
  pub filter : Option Cond
  pub fine : update_fault t sets filter ≡ None
  pub well : is_table t ≡ true
  pub keyed : has_key t ≡ true
  pub lasting : list_all (λ (x : Set). has_no_empty_period x.becomes) sets ≡ true

-- no text in the rows is empty, in each state that records and a moment stand for
pub record AreFull (rs : List Stored) (m : ℕ) (session : Session) (a : Space) (rows : List Row) : Type 0 where
  pub full : (xs : List Session) (s : State) (w : Workspace) → StandsAt rs xs m s → IsHome s session a w → list_all is_full_row rows ≡ true
