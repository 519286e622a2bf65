-- CREATE TABLE and EnableVersioning.
use Rattle.std.specs.Prelude.{ℕ, List, [], ◌∷◌, Bool, true, false, not, ◌||◌, nat_le, nat_lt, length, is_some, Option, None, Some, codes}
use Rattle.std.specs.Str.{bytes_eq}
use Rattle.wm_calls.specs.Arguments.{is_true_given, text_given}
use Rattle.wm_calls.specs.Faults.{argument_fault}
use Rattle.wm_grammar.specs.declared.procedure.Procedure.TheVariants.{EnableVersioning}
use Rattle.wm_grammar.specs.declared.procedure.Parameter.TheVariants as parameters
use Rattle.wm_graph.specs.Rules.{has_key}
use Rattle.wm_making.specs.Creating.{names_fault, shape_fault, table_of}
use Rattle.wm_outline.specs.Outline.{Outline}
use Rattle.wm_reader.specs.Reading.{folded}
use Rattle.wm_spec.specs.declared.record.table.Table.{Table}
use Rattle.wm_state.specs.State.{Readiness, next_table, table_named}
use Rattle.wm_state.specs.declared.edit.Edit.TheVariants as edits
use Rattle.wm_syntax.specs.declared.statement.Arg.{Arg}
use Rattle.wm_syntax.specs.declared.statement.CreateItem.{CreateItem}
use Rattle.wm_model.specs.Step.Given.{misfit}
use Rattle.wm_model.specs.Step.Plans.{Plan, also, doing, for_table, for_text, spent}
use Rattle.wm_model.specs.Step.Refusing.{long_name, most_tables, no_key, no_table, refused_if, table_there, versioning}

-- ---- CREATE TABLE

-- there is no room for another table
abbrev pub is_full : List Table → Bool
is_full tables = nat_le 256 (length tables) || nat_lt 65535 (next_table tables)

-- CREATE TABLE makes a table
abbrev pub create_plan : List ℕ → List CreateItem → Outline → Plan
create_plan name items o =
    doing
    (names_fault name items
    ∷ refused_if (is_some (table_named name o.tables)) (table_there name)
    ∷ shape_fault items
    ∷ refused_if (is_full o.tables) most_tables
    ∷ spent o
    ∷ [])
    (edits.Create (table_of (next_table o.tables) name items) ∷ [])

-- ---- EnableVersioning

-- the word with which a table keeps its history
abbrev pub keeps_history : Option (List ℕ) → Bool
keeps_history None = false
keeps_history (Some word) = bytes_eq (folded word) (codes "VIEW_WO_OVERWRITE")

-- how the arguments ask for a table to become ready
abbrev pub readiness_given : List Arg → Readiness
readiness_given args = record {
  valid = is_true_given EnableVersioning args parameters.ValidTime;
  history = keeps_history (text_given EnableVersioning args parameters.Hist);
}

abbrev pub enabling : List ℕ → List Arg → Outline → Table → Plan
enabling name args o t =
    let how = readiness_given args in
    doing
    (refused_if t.versioned (versioning name true)
    ∷ misfit EnableVersioning args
    ∷ refused_if (not (has_key t)) (no_key name)
    ∷ spent o
    ∷ [])
    (edits.Enable name how.valid how.history ∷ [])

-- EnableVersioning makes a table ready for rows, once
abbrev pub enable_plan : List Arg → Outline → Plan
enable_plan args o =
    for_text (text_given EnableVersioning args parameters.TableName) (argument_fault EnableVersioning args)
    (λ text.
    let name = folded text in
    also (refused_if (nat_lt 25 (length name)) long_name ∷ []) (for_table (no_table name) (enabling name args o) (table_named name o.tables)))
