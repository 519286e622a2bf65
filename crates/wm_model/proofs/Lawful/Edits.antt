-- What edits make of a lawful state is lawful: those of tables and savepoints, and the birth of a workspace.
use Rattle.std.proofs.Common.{◌≡◌, ℕ, Bool, true, false, List, [], ◌∷◌, ◌++◌, unwrap_or, Option, Some, None, option_map, refl}
use Rattle.std.specs.Option.{option_and_then}
use Rattle.wm_print.specs.Texts.{Fine}
use Rattle.wm_spec.specs.declared.record.table.Table.{Table}
use Rattle.wm_state.specs.Editing.{bear_in, born, edited, enable_named, implicit_name, save_in, saved_at, stand_of}
use Rattle.wm_state.specs.State.{Savepoint, State, Workspace, table_named, workspace_of}
use Rattle.wm_state.specs.declared.edit.Edit.TheVariants as edits
use Rattle.wm_model.specs.Lawful.{LawfulState}
use Rattle.wm_model.proofs.Lawful.Leaves.{leaves_born, leaves_saved}
use Rattle.wm_model.proofs.Lawful.Spaces.{at_its_number}

-- tables are in no law
lawful_tables : (tables : List Table) (s : State) → LawfulState s → LawfulState (record s { durable = record s.durable { tables = tables } })
lawful_tables tables s l = record { durable = record { spaces = l.durable.spaces; entries = l.durable.entries }; seats = l.seats }

pub lawful_created : (t : Table) (s : State) → LawfulState s → LawfulState (record s { durable = edited s.moment (edits.Create t) s.durable })
lawful_created t s l = lawful_tables (s.durable.tables ++ t ∷ []) s l

pub lawful_enabled : (name : List ℕ) (valid history : Bool) (s : State) → LawfulState s → LawfulState (record s { durable = edited s.moment (edits.Enable name valid history) s.durable })
lawful_enabled name valid history s l = by_table (table_named name s.durable.tables)
  where
    by_table : (o : Option Table) → LawfulState (record s { durable = unwrap_or (option_map (enable_named (record { valid = valid; history = history }) s.durable) o) s.durable })
    by_table None = l
    by_table (Some t) = lawful_tables _ s l

pub lawful_saved_in : (n : ℕ) (name : List ℕ) (s : State) → LawfulState s → LawfulState (record s { durable = edited s.moment (edits.Save n name) s.durable })
lawful_saved_in n name s l = by_space (workspace_of s.durable.spaces n) refl
  where
    by_space : (o : Option Workspace) → workspace_of s.durable.spaces n ≡ o → LawfulState (record s { durable = unwrap_or (option_and_then (save_in s.moment name s.durable) o) s.durable })
    by_space None is = l
    by_space (Some w) is = (leaves_saved w name false w.next_implicit _ s Fine l (at_its_number s.durable.spaces n w is) refl).lawful

pub lawful_born_in : (n : ℕ) (at : Option ℕ) (name : List ℕ) (s : State) → LawfulState s → LawfulState (record s { durable = edited s.moment (edits.Bear n at name) s.durable })
lawful_born_in n at name s l = by_space (workspace_of s.durable.spaces n) refl
  where
    by_savepoint : (w : Workspace) → workspace_of s.durable.spaces w.number ≡ Some w → (o : Option Savepoint) → saved_at s.moment s.durable.spaces w (stand_of at) (implicit_name w) true ≡ o
        → LawfulState (record s { durable = unwrap_or (option_map (λ (k : Savepoint). born s.moment w (stand_of at) name k s.durable) o) s.durable })
    by_savepoint w there None is = l
    by_savepoint w there (Some k) is = (leaves_born w (stand_of at) name (implicit_name w) k s Fine l there is).lawful

    by_space : (o : Option Workspace) → workspace_of s.durable.spaces n ≡ o → LawfulState (record s { durable = unwrap_or (option_and_then (bear_in s.moment (stand_of at) name s.durable) o) s.durable })
    by_space None is = l
    by_space (Some w) is = by_savepoint w (at_its_number s.durable.spaces n w is) (saved_at s.moment s.durable.spaces w (stand_of at) (implicit_name w) true) refl
