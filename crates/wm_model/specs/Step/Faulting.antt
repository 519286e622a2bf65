-- What is wrong with a call that has a condition over key columns.
use Rattle.std.specs.Prelude.{ℕ, List, Option}
use Rattle.std.specs.Option.{option_map, option_or}
use Rattle.wm_base.specs.declared.refusal.FormRefusal.TheVariants.{Wm012}
use Rattle.wm_base.specs.declared.refusal.Refusal.{Refusal}
use Rattle.wm_base.specs.declared.refusal.Refusal.TheVariants.{Form}
use Rattle.wm_calls.specs.Faults.{argument_fault, misfit_before}
use Rattle.wm_decided.specs.Keys.{columns_of_keys}
use Rattle.wm_grammar.specs.declared.procedure.Procedure.{Procedure}
use Rattle.wm_grammar.specs.declared.procedure.Parameter.TheVariants as parameters
use Rattle.wm_spec.specs.declared.record.table.Table.{Table}
use Rattle.wm_syntax.specs.Trees.{Cond}
use Rattle.wm_syntax.specs.declared.statement.Arg.{Arg}
use Rattle.wm_typing.specs.Names.{unknown_in_filter}

-- the first name in a condition that is none of a key column
abbrev pub unkeyed_fault : Table → Option Cond → Option Refusal
unkeyed_fault table condition = option_map (λ (name : List ℕ). Form (Wm012 name)) (unknown_in_filter (columns_of_keys table) condition)

-- what is wrong with the arguments of a call with a condition, by what is of a wrong type first in that: an argument before it that does not
-- fit comes first, then the condition, then what is behind it and what is missing
abbrev pub fault_around : Procedure → List Arg → Option (List ℕ) → Option (List ℕ)
fault_around procedure args inside = option_or (misfit_before procedure parameters.WhereClause args) (option_or inside (argument_fault procedure args))
