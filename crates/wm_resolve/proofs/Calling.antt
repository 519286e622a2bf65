-- What ResolveConflicts and CommitResolve do, by what is given and what is wrong with it.
use Rattle.std.proofs.Common.{◌≡◌, ℕ, Bool, true, false, not, if◌then◌else◌, List, [], Option, None, Some, unwrap_or, option_map, refl, sym, ap, ◌∙◌}
use Rattle.std.proofs.lemmas.Slice.Eq.{bytes_eq-Decides}
use Rattle.std.specs.Option.{option_or}
use Rattle.std.specs.Str.{bytes_eq}
use Rattle.wm_syntax.specs.Trees.{Cond}
use Rattle.wm_base.specs.declared.refusal.FormRefusal.TheVariants.{Wm012}
use Rattle.wm_base.specs.declared.refusal.Refusal.TheVariants.{Form}
use Rattle.wm_syntax.specs.declared.statement.Arg.{Arg}
use Rattle.wm_calls.specs.Arguments.{text_given}
use Rattle.wm_calls.specs.Faults.{argument_fault, misfit_before}
use Rattle.wm_decided.specs.Keys.{columns_of_keys}
use Rattle.wm_decided.specs.declared.keep.Keep.{Keep}
use Rattle.wm_grammar.specs.declared.procedure.Parameter.TheVariants as parameters
use Rattle.wm_grammar.specs.declared.procedure.Procedure.{Procedure}
use Rattle.wm_grammar.specs.declared.procedure.Procedure.TheVariants as procedures
use Rattle.wm_graph.specs.Parts.{parts_of}
use Rattle.wm_model.specs.Planning.{Does, StandsAt, Stay, named}
use Rattle.wm_model.specs.Step.{call, call_with, commit_resolve, fault_around, given, keep_given, mistyped, no_table, resolve_conflicts, unkeyed_fault, unless, unless_mistyped, versioning}
use Rattle.wm_model.proofs.Doing.{does_nothing}
use Rattle.wm_model.proofs.Homes.{with_none, with_some}
use Rattle.wm_print.specs.Texts.{Answer, Refused}
use Rattle.wm_reader.specs.Reading.{folded}
use Rattle.wm_spec.specs.declared.record.stored.Stored.{Stored}
use Rattle.wm_spec.specs.declared.record.table.Table.{Table}
use Rattle.wm_state.specs.Standing.{by_number}
use Rattle.wm_state.specs.State.{Session, State}
use Rattle.wm_state.proofs.Mapped.{find-passes}
use Rattle.wm_typing.specs.Names.{unknown_in_filter}
use Rattle.wm_typing.specs.Types.{mistyped_in_filter}
use Rattle.wm_resolve.specs.Deciding.{resolve_to}

unless_some : (fault : Option (List ℕ)) (parameter : List ℕ) (s : State) (done : State × Answer) → fault ≡ Some parameter → unless_mistyped fault s done ≡ (s, mistyped parameter)
unless_some fault parameter s done some = ap (λ f. unless_mistyped f s done) some

unless_none : (fault : Option (List ℕ)) (s : State) (done : State × Answer) → fault ≡ None → unless_mistyped fault s done ≡ done
unless_none fault s done none = ap (λ f. unless_mistyped f s done) none

-- ---- CommitResolve

pub commit_mistyped : (session : Session) (args : List Arg) (s : State) (parameter : List ℕ) → argument_fault procedures.CommitResolve args ≡ Some parameter → call session (Some procedures.CommitResolve) args s ≡ (s, mistyped parameter)
commit_mistyped session args s parameter wrong = unless_some (argument_fault procedures.CommitResolve args) parameter s _ wrong

pub commit_done : (session : Session) (args : List Arg) (s : State) (workspace : List ℕ) → argument_fault procedures.CommitResolve args ≡ None → workspace ≡ unwrap_or (text_given procedures.CommitResolve args parameters.Workspace) []
    → call session (Some procedures.CommitResolve) args s ≡ commit_resolve session workspace s
commit_done session args s workspace right is = unless_none (argument_fault procedures.CommitResolve args) s _ right ∙ ap (λ w. commit_resolve session w s) (sym is)

-- ---- ResolveConflicts

-- no table is named
pub resolve_lacking : (session : Session) (args : List Arg) (condition : Option Cond) (empty : Bool) (s : State) → text_given procedures.ResolveConflicts args parameters.TableName ≡ None
    → call_with session (Some procedures.ResolveConflicts) args condition empty s ≡ (s, mistyped (unwrap_or (argument_fault procedures.ResolveConflicts args) []))
resolve_lacking session args condition empty s none = rw none refl

-- one is
pub resolve_named : (session : Session) (args : List Arg) (condition : Option Cond) (empty : Bool) (s : State) (text name : List ℕ) → text_given procedures.ResolveConflicts args parameters.TableName ≡ Some text → name ≡ folded text
    → call_with session (Some procedures.ResolveConflicts) args condition empty s
    ≡ resolve_conflicts session (unwrap_or (text_given procedures.ResolveConflicts args parameters.Workspace) []) name condition (keep_given args) (fault_around procedures.ResolveConflicts args) empty s
resolve_named session args condition empty s text name some is =
    ap
    (λ (o : Option (List ℕ)).
    given o (argument_fault procedures.ResolveConflicts args) s
    (λ n. resolve_conflicts session (unwrap_or (text_given procedures.ResolveConflicts args parameters.Workspace) []) (folded n) condition (keep_given args) (fault_around procedures.ResolveConflicts args) empty s))
    some
    ∙ ap (λ n. resolve_conflicts session (unwrap_or (text_given procedures.ResolveConflicts args parameters.Workspace) []) n condition (keep_given args) (fault_around procedures.ResolveConflicts args) empty s) (sym is)

-- where nothing is wrong around a condition, nothing is in it
pub inside_none : (p : Procedure) (args : List Arg) (inside : Option (List ℕ)) → fault_around p args inside ≡ None → inside ≡ None
inside_none p args inside none = by_faults (misfit_before p parameters.WhereClause args) inside none
  where
    by_faults : (before inside : Option (List ℕ)) → option_or before (option_or inside (argument_fault p args)) ≡ None → inside ≡ None
    by_faults (Some x) inside e = absurd (cc)
    by_faults None (Some x) e = absurd (cc)
    by_faults None None e = refl

-- the table of a name has the name
pub name_found : (rs : List Stored) (name : List ℕ) (table : Table) → named rs name ≡ Some table → table.name ≡ name
name_found rs name table is = sym ((bytes_eq-Decides name table.name).0 (find-passes (λ (t : Table). bytes_eq name t.name) (by_number (parts_of rs).tables) table is))

module _ (rs : List Stored) (xs : List Session) (m : ℕ) (session : Session) (workspace name : List ℕ) (condition : Option Cond) (keep : Keep) (fault : Option (List ℕ) → Option (List ℕ)) (empty : Bool) where
  abbrev line : State → State × Answer
  line s = resolve_conflicts session workspace name condition keep fault empty s

  -- what is done with a table
  abbrev over : Table → State → State × Answer
  over table s =
      if not table.versioned then (s, versioning name false) else
      unless (unkeyed_fault table condition) s (unless_mistyped (fault (mistyped_in_filter (columns_of_keys table) condition)) s (resolve_to session workspace table condition keep empty s))

  pub resolve_tableless : named rs name ≡ None → Does rs xs m [] Stay (no_table name) line
  resolve_tableless none = does_nothing rs xs m (no_table name) line (λ s st. with_none rs xs m s name (λ table. over table s) st none)

  module _ (table : Table) (is : named rs name ≡ Some table) where
    pub resolve_unready : table.versioned ≡ false → Does rs xs m [] Stay (versioning name false) line
    resolve_unready off =
        does_nothing rs xs m (versioning name false) line
        (λ s st.
        with_some rs xs m s name (λ t. over t s) table st is
        ∙ ap
        (λ (b : Bool).
        if not b then (s, versioning name false) else
        unless (unkeyed_fault table condition) s (unless_mistyped (fault (mistyped_in_filter (columns_of_keys table) condition)) s (resolve_to session workspace table condition keep empty s)))
        off)

    module _ (on : table.versioned ≡ true) where
      ready : (s : State) → StandsAt rs xs m s
          → line s ≡ unless (unkeyed_fault table condition) s (unless_mistyped (fault (mistyped_in_filter (columns_of_keys table) condition)) s (resolve_to session workspace table condition keep empty s))
      ready s st =
          with_some rs xs m s name (λ t. over t s) table st is
          ∙ ap
          (λ (b : Bool).
          if not b then (s, versioning name false) else
          unless (unkeyed_fault table condition) s (unless_mistyped (fault (mistyped_in_filter (columns_of_keys table) condition)) s (resolve_to session workspace table condition keep empty s)))
          on

      pub resolve_unkeyed : (unknown : List ℕ) → unknown_in_filter (columns_of_keys table) condition ≡ Some unknown → Does rs xs m [] Stay (Refused (Form (Wm012 unknown))) line
      resolve_unkeyed unknown some =
          does_nothing rs xs m (Refused (Form (Wm012 unknown))) line
          (λ s st.
          ready s st
          ∙ ap
          (λ o. unless (option_map (λ (n : List ℕ). Form (Wm012 n)) o) s (unless_mistyped (fault (mistyped_in_filter (columns_of_keys table) condition)) s (resolve_to session workspace table condition keep empty s)))
          some)

      keyed : (s : State) → StandsAt rs xs m s → unknown_in_filter (columns_of_keys table) condition ≡ None
          → line s ≡ unless_mistyped (fault (mistyped_in_filter (columns_of_keys table) condition)) s (resolve_to session workspace table condition keep empty s)
      keyed s st none =
          ready s st
          ∙ ap (λ o. unless (option_map (λ (n : List ℕ). Form (Wm012 n)) o) s (unless_mistyped (fault (mistyped_in_filter (columns_of_keys table) condition)) s (resolve_to session workspace table condition keep empty s))) none

      pub resolve_mistyped : (parameter : List ℕ) → unknown_in_filter (columns_of_keys table) condition ≡ None → fault (mistyped_in_filter (columns_of_keys table) condition) ≡ Some parameter → Does rs xs m [] Stay (mistyped parameter) line
      resolve_mistyped parameter none wrong =
          does_nothing rs xs m (mistyped parameter) line
          (λ s st. keyed s st none ∙ unless_some (fault (mistyped_in_filter (columns_of_keys table) condition)) parameter s (resolve_to session workspace table condition keep empty s) wrong)

      pub resolve_right : (s : State) → StandsAt rs xs m s → unknown_in_filter (columns_of_keys table) condition ≡ None → fault (mistyped_in_filter (columns_of_keys table) condition) ≡ None
          → line s ≡ resolve_to session workspace table condition keep empty s
      resolve_right s st none right = keyed s st none ∙ unless_none (fault (mistyped_in_filter (columns_of_keys table) condition)) s (resolve_to session workspace table condition keep empty s) right
