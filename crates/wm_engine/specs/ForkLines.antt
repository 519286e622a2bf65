-- Lines that make a savepoint or a workspace.
use Rattle.std.specs.Prelude.{Bool, true, false, Option, Some, Result, Ok, Err}
use Rattle.wm_syntax.specs.Trees.{Line, Run, Statement, Call}
use Rattle.wm_grammar.specs.Calls.{procedure_of}
use Rattle.wm_grammar.specs.declared.procedure.Procedure.{Procedure}
use Rattle.wm_grammar.specs.declared.procedure.Procedure.TheVariants as procedures
use Rattle.wm_grammar.specs.Parsed.{Bad}

-- the call makes a savepoint, or a workspace and so a savepoint
abbrev pub forks_call : Option Procedure → Bool
forks_call (Some procedures.CreateWorkspace) = true
forks_call (Some procedures.CreateSavepoint) = true
forks_call _ = false

-- the statement is such a call
abbrev pub forks : Statement → Bool
forks (Call procedure args condition) = forks_call (procedure_of procedure)
forks _ = false

-- the line has such a statement
abbrev pub is_fork_line : Line → Bool
is_fork_line (Run session statement) = forks statement
is_fork_line _ = false

-- so it was read
abbrev pub is_fork : Result Line Bad → Bool
is_fork (Ok line) = is_fork_line line
is_fork (Err bad) = false
