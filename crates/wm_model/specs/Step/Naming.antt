-- Names that are made, and what is looked up by its name.
use Rattle.std.specs.Prelude.{ℕ, List, Bool, ◌&&◌, ◌||◌, nat_le, nat_eq, length, unwrap_or, Option, None, Some, codes}
use Rattle.std.specs.List.{find, list_all, starts_with}
use Rattle.std.specs.Str.{bytes_eq}
use Rattle.wm_spec.specs.declared.record.table.Table.{Table}
use Rattle.wm_state.specs.State.{State, Workspace, Session, fresh_live, workspace_of, table_named, workspace_named}
use Rattle.wm_state.specs.Editing.{implicit_front}
use Rattle.wm_print.specs.Texts.{Answer}
use Rattle.wm_model.specs.Step.Refusing.{no_table, no_workspace}

-- ---- names

-- 1 to 30 plain bytes
abbrev pub is_name : List ℕ → Bool
is_name name = (nat_le 1 (length name) && nat_le (length name) 30) && list_all (λ b. nat_le 32 b && nat_le b 126) name

-- a name that views show in place of a workspace's
abbrev pub names_no_workspace : List ℕ → Bool
names_no_workspace name = bytes_eq name (codes "BASE") || bytes_eq name (codes "DiffBase")

-- the name of what is newest in a workspace
abbrev pub latest : List ℕ
latest = codes "LATEST"

-- a name that no savepoint is given by its own line
abbrev pub names_no_savepoint : List ℕ → Bool
names_no_savepoint name = bytes_eq name latest || starts_with nat_eq name implicit_front

-- ---- what is looked up by name

-- the session of this name, where it is open
abbrev pub session_of : List ℕ → List Session → Option Session
session_of name sessions = find (λ (x : Session). bytes_eq name x.name) sessions

-- what is done with the table of this name, or that there is none
abbrev pub with_table : State → List ℕ → (Table → State × Answer) → State × Answer
with_table s name act = on (table_named name s.durable.tables)
  where
    on : Option Table → State × Answer
    on None = (s, no_table name)
    on (Some table) = act table

-- what is done with the workspace of this name, or that there is none
abbrev pub with_named : State → List ℕ → (Workspace → State × Answer) → State × Answer
with_named s name act = on (workspace_named name s.durable.spaces)
  where
    on : Option Workspace → State × Answer
    on None = (s, no_workspace name)
    on (Some w) = act w

-- the workspace that a session stands in; it is there in each state that lines lead to
abbrev pub home_of : State → Session → Workspace
home_of s session = unwrap_or (workspace_of s.durable.spaces session.space) fresh_live

-- what is done with it
abbrev pub at_home : State → Session → (Workspace → State × Answer) → State × Answer
at_home s session act = act (home_of s session)

-- the parent of a workspace; it is there in each state that lines lead to
abbrev pub parent_in : State → Workspace → Workspace
parent_in s w = unwrap_or (workspace_of s.durable.spaces w.parent) fresh_live
