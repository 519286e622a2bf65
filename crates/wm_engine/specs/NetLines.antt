-- Lines that refresh a workspace, or merge it and let it be.
use Rattle.std.specs.Prelude.{List, [], if◌then◌else◌, Option, Some, None, unwrap_or, Result, Ok, Err}
use Rattle.wm_syntax.specs.Trees.{Line, Run, Statement, Call}
use Rattle.wm_syntax.specs.declared.statement.Arg.{Arg}
use Rattle.wm_calls.specs.Arguments.{is_true_given, text_given}
use Rattle.wm_grammar.specs.Calls.{procedure_of}
use Rattle.wm_grammar.specs.Parsed.{Bad}
use Rattle.wm_grammar.specs.declared.procedure.Parameter.TheVariants as parameters
use Rattle.wm_grammar.specs.declared.procedure.Procedure.{Procedure}
use Rattle.wm_grammar.specs.declared.procedure.Procedure.TheVariants as procedures
use Rattle.wm_spending.specs.Nets.{Net, merge_of, refresh_of}

-- what workspace a call refreshes, or merges without removing it
abbrev pub nets_call : Option Procedure → List Arg → Option Net
nets_call (Some procedures.RefreshWorkspace) args = Some (refresh_of (unwrap_or (text_given procedures.RefreshWorkspace args parameters.Workspace) []))
nets_call (Some procedures.MergeWorkspace) args =
    if is_true_given procedures.MergeWorkspace args parameters.RemoveWorkspace then None else Some (merge_of (unwrap_or (text_given procedures.MergeWorkspace args parameters.Workspace) []))
nets_call _ args = None

-- that of a statement
abbrev pub nets : Statement → Option Net
nets (Call procedure args condition) = nets_call (procedure_of procedure) args
nets _ = None

-- that of a line
abbrev pub nets_of_line : Line → Option Net
nets_of_line (Run session statement) = nets statement
nets_of_line _ = None

-- so it was read
abbrev pub nets_into : Result Line Bad → Option Net
nets_into (Ok line) = nets_of_line line
nets_into (Err bad) = None
