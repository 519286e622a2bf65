-- The readers of statements that change, and of lines, are exact.
use Rattle.std.proofs.Common.{◌≡◌, ℕ, Bool, true, false, List, [], ◌∷◌, Option, Some, None, refl}
use Rattle.std.specs.Prelude.{not, ◌&&◌, ◌==◌, if◌then◌else◌}
use Rattle.std.specs.List.{list_all}
use Rattle.wm_syntax.specs.declared.statement.ColumnType.TheVariants as types
use Rattle.wm_syntax.specs.declared.statement.CreateItem.TheVariants as items
use Rattle.wm_syntax.specs.Trees.{Set}
use Rattle.wm_syntax.specs.Trees as trees
use Rattle.wm_grammar.specs.Sorts as sorts
use Rattle.wm_grammar.specs.Forms.{many_from}
use Rattle.wm_grammar.specs.Reading.{many_from_at}
use Rattle.wm_grammar.specs.Operands.{plain_name, name}
use Rattle.wm_grammar.specs.OperandReaders.{plain_name_at}
use Rattle.wm_grammar.specs.Expressions.{expr}
use Rattle.wm_grammar.specs.ExpressionReaders.{expr_at}
use Rattle.wm_grammar.specs.Queries.{list_of}
use Rattle.wm_grammar.specs.QueryReaders.{list_of_at}
use Rattle.wm_grammar.specs.Statements.{size_of, precision, column_type, column_option, also, all_also, column_options, column_item, key_columns, create_item, next_item, is_key, keyed_by, create_items, create, name_list, insert, set, update, delete, statement, run, line}
use Rattle.wm_grammar.specs.StatementReaders.{precision_at, column_type_at, column_option_at, option_sorts, column_options_at, column_item_at, key_columns_at, create_item_at, next_item_at, create_items_at, create_at, name_list_at, insert_at, set_at, update_at, delete_at, statement_at, run_at, line_at}
use Rattle.wm_grammar.proofs.Lists.{within}
use Rattle.wm_grammar.proofs.Laws.{Shape, Exact, gives_exact, never_exact, one_exact, one_for_exact, mark_exact, then_exact, or_exact, optional_exact, loosened}
use Rattle.wm_grammar.proofs.Repeating.{item_shape, many_shape, many_exact, many_from_exact}
use Rattle.wm_grammar.proofs.OperandLaws.{solid, names, plain_names, word_exact, integer_exact, plain_name_exact, name_exact, instant_exact}
use Rattle.wm_grammar.proofs.ExpressionLaws.{factor_sorts, expr_next, cond_next, expr_exact}
use Rattle.wm_grammar.proofs.QueryLaws.{filter_exact, query_next, query_exact}
use Rattle.wm_grammar.proofs.CallLaws.{call_sorts, call_exact}

-- ---- types

pub precision_exact : Exact precision precision_at (solid (sorts.OPEN ∷ []) [] (sorts.OPEN ∷ []))
unfolding precision precision_at
precision_exact =
    loosened (solid (sorts.OPEN ∷ []) [] (sorts.OPEN ∷ []))
    (then_exact (mark_exact sorts.OPEN) (λ _. then_exact integer_exact (λ _. then_exact (optional_exact (then_exact (mark_exact sorts.COMMA) (λ _. one_for_exact sorts.INT (λ t. if list_all (λ b. b == 48) t.text then Some tt else None)) refl) refl refl) (λ _. mark_exact sorts.CLOSE) refl) refl) refl)
    refl refl refl refl

abbrev pub type_sorts : List ℕ
type_sorts = sorts.NUMBER ∷ sorts.INTEGER ∷ sorts.VARCHAR2 ∷ sorts.DATE ∷ sorts.TIMESTAMP ∷ []

pub column_type_exact : Exact column_type column_type_at (solid type_sorts (sorts.OPEN ∷ []) type_sorts)
unfolding column_type column_type_at
column_type_exact =
    loosened (solid type_sorts (sorts.OPEN ∷ []) type_sorts)
    (or_exact (then_exact (mark_exact sorts.NUMBER) (λ _. then_exact (optional_exact precision_exact refl refl) (λ _. gives_exact types.Number) refl) refl)
    (or_exact (then_exact (mark_exact sorts.INTEGER) (λ _. gives_exact types.Number) refl)
    (or_exact (then_exact (mark_exact sorts.VARCHAR2) (λ _. then_exact (mark_exact sorts.OPEN) (λ _. then_exact (one_exact sorts.INT size_of) (λ n. then_exact (mark_exact sorts.CLOSE) (λ _. gives_exact (types.Text n)) refl) refl) refl) refl)
    (or_exact (then_exact (mark_exact sorts.DATE) (λ _. gives_exact types.Time) refl)
    (then_exact (mark_exact sorts.TIMESTAMP) (λ _. gives_exact types.Time) refl)
    refl refl refl) refl refl refl) refl refl refl) refl refl refl)
    refl refl refl refl

-- ---- CREATE TABLE

pub column_option_exact : (primary not_null : Bool) → Exact (column_option primary not_null) (column_option_at primary not_null) (item_shape (option_sorts primary not_null) [])
unfolding column_option column_option_at
column_option_exact false false =
    loosened (item_shape (option_sorts false false) [])
    (or_exact (then_exact (mark_exact sorts.PRIMARY) (λ _. then_exact (mark_exact sorts.KEY) (λ _. gives_exact true) refl) refl) (then_exact (mark_exact sorts.NOT) (λ _. then_exact (mark_exact sorts.NULL) (λ _. gives_exact false) refl) refl) refl refl refl)
    refl refl refl refl
column_option_exact false true = loosened (item_shape (option_sorts false true) []) (then_exact (mark_exact sorts.PRIMARY) (λ _. then_exact (mark_exact sorts.KEY) (λ _. gives_exact true) refl) refl) refl refl refl refl
column_option_exact true false = loosened (item_shape (option_sorts true false) []) (then_exact (mark_exact sorts.NOT) (λ _. then_exact (mark_exact sorts.NULL) (λ _. gives_exact false) refl) refl) refl refl refl refl
column_option_exact true true = loosened (item_shape [] []) never_exact refl refl refl refl

abbrev pub all_options : List ℕ
all_options = sorts.PRIMARY ∷ sorts.NOT ∷ []

abbrev pub options_shape : Shape
options_shape = record { empty = true; first = all_options; next = all_options; sure = [] }

options_exact : (keyed : Bool) → Exact (many_from also (λ given. column_option given.0 given.1) (keyed, false)) (many_from_at also (λ given. option_sorts given.0 given.1) (λ given. column_option_at given.0 given.1) (keyed, false)) (many_shape all_options [])
options_exact keyed =
    many_from_exact {S = Bool × Bool} also (λ given. option_sorts given.0 given.1) all_options [] (λ given. column_option_exact given.0 given.1) (λ given. inside given.0 given.1) refl (keyed, false)
  where
    inside : (p n : Bool) → within (option_sorts p n) all_options ≡ true
    inside false false = refl
    inside false true = refl
    inside true false = refl
    inside true true = refl

pub column_options_exact : (keyed : Bool) → Exact (column_options keyed) (column_options_at keyed) options_shape
unfolding column_options column_options_at
column_options_exact keyed = loosened options_shape (then_exact (options_exact keyed) (λ options. gives_exact (all_also (keyed, false) options)) refl) refl refl refl refl

abbrev pub column_next : List ℕ
column_next = sorts.PRIMARY ∷ sorts.NOT ∷ sorts.OPEN ∷ []

pub column_item_exact : (keyed : Bool) → Exact (column_item keyed) (column_item_at keyed) (solid plain_names column_next plain_names)
unfolding column_item column_item_at
column_item_exact keyed =
    loosened (solid plain_names column_next plain_names)
    (then_exact plain_name_exact (λ n. then_exact column_type_exact (λ of. then_exact (column_options_exact keyed) (λ given. gives_exact (items.Column n of (not keyed && given.0) given.1)) refl) refl) refl)
    refl refl refl refl

pub plain_name_list_exact : Exact (list_of plain_name) (list_of_at plain_name_at) (solid plain_names (sorts.COMMA ∷ []) [])
plain_name_list_exact =
    loosened (solid plain_names (sorts.COMMA ∷ []) [])
    (then_exact plain_name_exact (λ first. then_exact (many_exact (then_exact (mark_exact sorts.COMMA) (λ _. plain_name_exact) refl) refl refl refl) (λ others. gives_exact (first ∷ others)) refl) refl)
    refl refl refl refl

pub key_columns_exact : (keyed : Bool) (constraint : Option (List ℕ)) → Exact (key_columns keyed constraint) (key_columns_at keyed constraint) (solid (sorts.PRIMARY ∷ []) [] [])
unfolding key_columns key_columns_at
key_columns_exact true constraint = loosened (solid (sorts.PRIMARY ∷ []) [] []) never_exact refl refl refl refl
key_columns_exact false constraint =
    loosened (solid (sorts.PRIMARY ∷ []) [] [])
    (then_exact (mark_exact sorts.PRIMARY) (λ _. then_exact (mark_exact sorts.KEY) (λ _. then_exact (mark_exact sorts.OPEN) (λ _. then_exact plain_name_list_exact (λ columns. then_exact (mark_exact sorts.CLOSE) (λ _.
    gives_exact (items.Primary constraint columns)) refl) refl) refl) refl) refl)
    refl refl refl refl

abbrev pub item_sorts : List ℕ
item_sorts = sorts.ID ∷ sorts.VALIDFROM ∷ sorts.VALIDTILL ∷ sorts.CONSTRAINT ∷ sorts.PRIMARY ∷ []

pub create_item_exact : (keyed : Bool) → Exact (create_item keyed) (create_item_at keyed) (solid item_sorts column_next [])
unfolding create_item create_item_at
create_item_exact keyed =
    loosened (solid item_sorts column_next [])
    (or_exact (column_item_exact keyed)
    (then_exact (optional_exact (then_exact (mark_exact sorts.CONSTRAINT) (λ _. word_exact sorts.ID) refl) refl refl) (λ constraint. key_columns_exact keyed constraint) refl) refl refl refl)
    refl refl refl refl

pub next_item_exact : (keyed : Bool) → Exact (next_item keyed) (next_item_at keyed) (item_shape (sorts.COMMA ∷ []) column_next)
next_item_exact keyed = loosened (item_shape (sorts.COMMA ∷ []) column_next) (then_exact (mark_exact sorts.COMMA) (λ _. create_item_exact keyed) refl) refl refl refl refl

other_items_exact : (keyed : Bool) → Exact (many_from keyed_by next_item keyed) (many_from_at keyed_by (λ _. sorts.COMMA ∷ []) next_item_at keyed) (many_shape (sorts.COMMA ∷ []) column_next)
other_items_exact keyed = many_from_exact keyed_by (λ _. sorts.COMMA ∷ []) (sorts.COMMA ∷ []) column_next next_item_exact (λ _. refl) refl keyed

pub create_items_exact : Exact create_items create_items_at (solid item_sorts (sorts.COMMA ∷ column_next) [])
unfolding create_items create_items_at
create_items_exact =
    loosened (solid item_sorts (sorts.COMMA ∷ column_next) []) (then_exact (create_item_exact false) (λ first. then_exact (other_items_exact (is_key first)) (λ others. gives_exact (first ∷ others)) refl) refl) refl refl refl refl

abbrev pub one_sort : ℕ → List ℕ → Shape
one_sort s next = solid (s ∷ []) next (s ∷ [])

pub create_exact : Exact create create_at (one_sort sorts.CREATE [])
unfolding create create_at
create_exact =
    loosened (one_sort sorts.CREATE [])
    (then_exact (mark_exact sorts.CREATE) (λ _. then_exact (mark_exact sorts.TABLE) (λ _. then_exact (word_exact sorts.ID) (λ table. then_exact (mark_exact sorts.OPEN) (λ _. then_exact create_items_exact (λ list.
    then_exact (mark_exact sorts.CLOSE) (λ _. gives_exact (trees.Create table list)) refl) refl) refl) refl) refl) refl)
    refl refl refl refl

-- ---- INSERT, UPDATE, DELETE

pub name_list_exact : Exact name_list name_list_at (solid (sorts.OPEN ∷ []) [] (sorts.OPEN ∷ []))
unfolding name_list name_list_at
name_list_exact =
    loosened (solid (sorts.OPEN ∷ []) [] (sorts.OPEN ∷ []))
    (then_exact (mark_exact sorts.OPEN) (λ _. then_exact (then_exact name_exact (λ first. then_exact (many_exact (then_exact (mark_exact sorts.COMMA) (λ _. name_exact) refl) refl refl refl) (λ others. gives_exact (first ∷ others)) refl) refl)
    (λ ns. then_exact (mark_exact sorts.CLOSE) (λ _. gives_exact ns) refl) refl) refl)
    refl refl refl refl

pub exprs_exact : (depth : ℕ) → Exact (list_of (expr depth)) (list_of_at (expr_at depth)) (solid factor_sorts (sorts.COMMA ∷ expr_next) [])
exprs_exact depth =
    loosened (solid factor_sorts (sorts.COMMA ∷ expr_next) [])
    (then_exact (expr_exact depth) (λ first. then_exact (many_exact (then_exact (mark_exact sorts.COMMA) (λ _. expr_exact depth) refl) refl refl refl) (λ others. gives_exact (first ∷ others)) refl) refl)
    refl refl refl refl

pub insert_exact : (depth : ℕ) → Exact (insert depth) (insert_at depth) (one_sort sorts.INSERT [])
unfolding insert insert_at
insert_exact depth =
    loosened (one_sort sorts.INSERT [])
    (then_exact (mark_exact sorts.INSERT) (λ _. then_exact (mark_exact sorts.INTO) (λ _. then_exact (word_exact sorts.ID) (λ table. then_exact (optional_exact name_list_exact refl refl) (λ names. then_exact (mark_exact sorts.VALUES) (λ _.
    then_exact (mark_exact sorts.OPEN) (λ _. then_exact (exprs_exact depth) (λ values. then_exact (mark_exact sorts.CLOSE) (λ _. gives_exact (trees.Insert table names values)) refl) refl) refl) refl) refl) refl) refl) refl)
    refl refl refl refl

pub set_exact : (depth : ℕ) → Exact (set depth) (set_at depth) (solid names expr_next names)
unfolding set set_at
set_exact depth =
    loosened (solid names expr_next names)
    (then_exact name_exact (λ n. then_exact (mark_exact sorts.EQ) (λ _. then_exact (expr_exact depth) (λ e. gives_exact {A = Set} (record { name = n; becomes = e })) refl) refl) refl)
    refl refl refl refl

pub sets_exact : (depth : ℕ) → Exact (list_of (set depth)) (list_of_at (set_at depth)) (solid names (sorts.COMMA ∷ expr_next) [])
sets_exact depth =
    loosened (solid names (sorts.COMMA ∷ expr_next) [])
    (then_exact (set_exact depth) (λ first. then_exact (many_exact (then_exact (mark_exact sorts.COMMA) (λ _. set_exact depth) refl) refl refl refl) (λ others. gives_exact (first ∷ others)) refl) refl)
    refl refl refl refl

abbrev pub update_next : List ℕ
update_next = sorts.WHERE ∷ sorts.COMMA ∷ sorts.OR ∷ sorts.AND ∷ expr_next

pub update_exact : (depth : ℕ) → Exact (update depth) (update_at depth) (one_sort sorts.UPDATE update_next)
unfolding update update_at
update_exact depth =
    loosened (one_sort sorts.UPDATE update_next)
    (then_exact (mark_exact sorts.UPDATE) (λ _. then_exact (word_exact sorts.ID) (λ table. then_exact (mark_exact sorts.SET) (λ _. then_exact (sets_exact depth) (λ sets. then_exact (filter_exact depth) (λ test.
    gives_exact (trees.Update table sets test)) refl) refl) refl) refl) refl)
    refl refl refl refl

pub delete_exact : (depth : ℕ) → Exact (delete depth) (delete_at depth) (one_sort sorts.DELETE (sorts.WHERE ∷ cond_next))
unfolding delete delete_at
delete_exact depth =
    loosened (one_sort sorts.DELETE (sorts.WHERE ∷ cond_next))
    (then_exact (mark_exact sorts.DELETE) (λ _. then_exact (optional_exact (mark_exact sorts.FROM) refl refl) (λ _. then_exact (word_exact sorts.ID) (λ table. then_exact (filter_exact depth) (λ test. gives_exact (trees.Delete table test)) refl) refl) refl) refl)
    refl refl refl refl

-- ---- lines

abbrev pub statement_sorts : List ℕ
statement_sorts = sorts.CREATE ∷ sorts.INSERT ∷ sorts.UPDATE ∷ sorts.DELETE ∷ sorts.SELECT ∷ call_sorts

abbrev pub statement_next : List ℕ
statement_next = sorts.PLUS ∷ sorts.MINUS ∷ sorts.STAR ∷ query_next

pub statement_exact : (depth : ℕ) → Exact (statement depth) (statement_at depth) (solid statement_sorts statement_next statement_sorts)
unfolding statement statement_at
statement_exact depth =
    loosened (solid statement_sorts statement_next statement_sorts)
    (or_exact create_exact (or_exact (insert_exact depth) (or_exact (update_exact depth) (or_exact (delete_exact depth)
    (or_exact (then_exact (query_exact depth) (λ q. gives_exact (trees.Select q)) refl) call_exact refl refl refl) refl refl refl) refl refl refl) refl refl refl) refl refl refl)
    refl refl refl refl

abbrev pub run_shape : Shape
run_shape = one_sort sorts.COLON (sorts.SEMICOLON ∷ statement_next)

pub run_exact : (depth : ℕ) (session : List ℕ) → Exact (run depth session) (run_at depth session) run_shape
unfolding run run_at
run_exact depth session =
    loosened run_shape
    (then_exact (mark_exact sorts.COLON) (λ _. then_exact (statement_exact depth) (λ s. then_exact (optional_exact (mark_exact sorts.SEMICOLON) refl refl) (λ _. gives_exact (trees.Run session s)) refl) refl) refl)
    refl refl refl refl

abbrev pub line_sorts : List ℕ
line_sorts = sorts.CONNECT ∷ sorts.DISCONNECT ∷ sorts.AT ∷ sorts.ID ∷ []

abbrev pub line_shape : Shape
line_shape = solid line_sorts (sorts.SEMICOLON ∷ statement_next) line_sorts

pub line_exact : (depth : ℕ) → Exact (line depth) (line_at depth) line_shape
unfolding line line_at
line_exact depth =
    loosened line_shape
    (or_exact (then_exact (word_exact sorts.CONNECT) (λ w. or_exact (run_exact depth w) (then_exact (word_exact sorts.ID) (λ s. then_exact (word_exact sorts.ID) (λ u. gives_exact (trees.Connect s u)) refl) refl) refl refl refl) refl)
    (or_exact (then_exact (word_exact sorts.DISCONNECT) (λ w. or_exact (run_exact depth w) (then_exact (word_exact sorts.ID) (λ s. gives_exact (trees.Disconnect s)) refl) refl refl refl) refl)
    (or_exact (then_exact (word_exact sorts.AT) (λ w. or_exact (run_exact depth w) (then_exact instant_exact (λ t. gives_exact (trees.At t)) refl) refl refl refl) refl)
    (then_exact (word_exact sorts.ID) (λ s. run_exact depth s) refl)
    refl refl refl) refl refl refl) refl refl refl)
    refl refl refl refl
