-- What is known of arguments that are gathered.
use Rattle.std.specs.Prelude.{◌≡◌, List, [], ◌∷◌, ◌++◌, Option, Result, Ok, Err}
use Rattle.wm_syntax.specs.declared.statement.Arg.{Arg}
use Rattle.wm_syntax.specs.Trees.{Cond}
use Rattle.wm_syntax.specs.Views.{filter_view}
use Rattle.wm_grammar.specs.declared.procedure.Procedure.{Procedure}
use Rattle.wm_grammar.specs.Symbols.{Symbol}
use Rattle.wm_grammar.specs.Reading.{Reader, gives_at, ◌>>=◌}
use Rattle.wm_grammar.specs.Calls.{first_some}
use Rattle.wm_grammar.specs.CallReaders.{arg_at, next_arg_at}
use Rattle.wm_terms.specs.declared.error.ParseError.{ParseError}
use Rattle.wm_terms.specs.Telling.{Fails}
use Rattle.wm_call_lines.specs.declared.calls.Gathered.{Gathered}

abbrev pub gathered_view : Gathered → List Arg × Option Cond
gathered_view g = (g.list.items, filter_view g.condition)

-- the first argument, alone
abbrev pub first_at : Procedure → Reader (List Arg × Option Cond)
first_at procedure = do first ← arg_at procedure []; gives_at {A = List Arg × Option Cond} (first.0 ∷ [], first.1)

-- an argument is read behind these, and it and its condition are gathered
pub record Grown (procedure : Procedure) (old new : List Arg × Option Cond) (all rest : List Symbol) : Type 0 where
  pub arg : Arg
  pub condition : Option Cond
  pub reads : next_arg_at procedure old.0 all ≡ Ok ((arg, condition), rest)
  pub list : new.0 ≡ old.0 ++ arg ∷ []
  pub first : new.1 ≡ first_some old.1 condition

-- the next argument is gathered, or the fault is its reader's
abbrev pub Gathers : {X : Type 0} → Result X ParseError → Procedure → List Arg × Option Cond → List Arg × Option Cond → List Symbol → List Symbol → Type 0
Gathers (Ok x) procedure old new all rest = Grown procedure old new all rest
Gathers (Err e) procedure old new all rest = Fails e (next_arg_at procedure old.0 all)
