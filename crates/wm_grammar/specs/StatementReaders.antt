-- The readers of statements that change, and of lines.
use Rattle.std.specs.Prelude.{ℕ, Bool, true, false, not, ◌&&◌, ◌==◌, if◌then◌else◌, List, [], ◌∷◌, Option, Some, None}
use Rattle.wm_syntax.specs.declared.statement.ColumnType.{ColumnType}
use Rattle.std.specs.List.{list_all}
use Rattle.wm_syntax.specs.declared.statement.ColumnType.TheVariants as types
use Rattle.wm_syntax.specs.declared.statement.CreateItem.{CreateItem}
use Rattle.wm_syntax.specs.declared.statement.CreateItem.TheVariants as items
use Rattle.wm_syntax.specs.Trees.{Expr, Set, Statement, Line}
use Rattle.wm_syntax.specs.Trees as trees
use Rattle.wm_grammar.specs.Sorts as sorts
use Rattle.wm_grammar.specs.Reading.{Reader, gives_at, never_at, one_for_at, mark_at, ◌>>=◌, ◌>>◌, choose_at, optional_at, many_from_at}
use Rattle.wm_grammar.specs.OperandReaders.{id_at, word_at, integer_at, plain_name_at, name_at, instant_at}
use Rattle.wm_grammar.specs.ExpressionReaders.{expr_at}
use Rattle.wm_grammar.specs.QueryReaders.{list_of_at, filter_at, query_at}
use Rattle.wm_grammar.specs.CallReaders.{call_at}
use Rattle.wm_grammar.specs.Statements.{size_of, also, all_also, is_key, keyed_by}

abbrev pub no_scale_at : Reader (Unit {0})
no_scale_at = one_for_at sorts.INT (λ t. if list_all (λ b. b == 48) t.text then Some tt else None)

abbrev pub size_at : Reader ℕ
size_at = one_for_at sorts.INT (λ t. Some (size_of t))

unfoldable pub precision_at : Reader (Unit {0})
precision_at = do
  mark_at sorts.OPEN
  integer_at
  optional_at (sorts.COMMA ∷ []) (do mark_at sorts.COMMA; no_scale_at)
  mark_at sorts.CLOSE

unfoldable pub column_type_at : Reader ColumnType
column_type_at =
    choose_at (sorts.NUMBER ∷ []) (do mark_at sorts.NUMBER; optional_at (sorts.OPEN ∷ []) precision_at; gives_at types.Number)
    (choose_at (sorts.INTEGER ∷ []) (do mark_at sorts.INTEGER; gives_at types.Number)
    (choose_at (sorts.VARCHAR2 ∷ []) (do mark_at sorts.VARCHAR2; mark_at sorts.OPEN; n ← size_at; mark_at sorts.CLOSE; gives_at (types.Text n))
    (choose_at (sorts.DATE ∷ []) (do mark_at sorts.DATE; gives_at types.Time)
    (do mark_at sorts.TIMESTAMP; gives_at types.Time))))

abbrev pub primary_key_at : Reader Bool
primary_key_at = do mark_at sorts.PRIMARY; mark_at sorts.KEY; gives_at true

abbrev pub never_null_at : Reader Bool
never_null_at = do mark_at sorts.NOT; mark_at sorts.NULL; gives_at false

unfoldable pub column_option_at : Bool → Bool → Reader Bool
column_option_at false false = choose_at (sorts.PRIMARY ∷ []) primary_key_at never_null_at
column_option_at false true = primary_key_at
column_option_at true false = never_null_at
column_option_at true true = never_at

-- what begins an option, where these have been given
abbrev pub option_sorts : Bool → Bool → List ℕ
option_sorts false false = sorts.PRIMARY ∷ sorts.NOT ∷ []
option_sorts false true = sorts.PRIMARY ∷ []
option_sorts true false = sorts.NOT ∷ []
option_sorts true true = []

unfoldable pub column_options_at : Bool → Reader (Bool × Bool)
column_options_at keyed = do
  options ← many_from_at also (λ given. option_sorts given.0 given.1) (λ given. column_option_at given.0 given.1) (keyed, false)
  gives_at (all_also (keyed, false) options)

unfoldable pub column_item_at : Bool → Reader CreateItem
column_item_at keyed = do
  n ← plain_name_at
  of ← column_type_at
  given ← column_options_at keyed
  gives_at (items.Column n of (not keyed && given.0) given.1)

-- the columns of a key, and what is made of them
abbrev pub key_list_at : (List (List ℕ) → CreateItem) → Reader CreateItem
key_list_at make = do
  mark_at sorts.PRIMARY
  mark_at sorts.KEY
  mark_at sorts.OPEN
  columns ← list_of_at plain_name_at
  mark_at sorts.CLOSE
  gives_at (make columns)

unfoldable pub key_columns_at : Bool → Option (List ℕ) → Reader CreateItem
key_columns_at true constraint = never_at
key_columns_at false constraint = key_list_at (items.Primary constraint)

abbrev pub plain_name_sorts : List ℕ
plain_name_sorts = sorts.ID ∷ sorts.VALIDFROM ∷ sorts.VALIDTILL ∷ []

unfoldable pub create_item_at : Bool → Reader CreateItem
create_item_at keyed =
    choose_at plain_name_sorts (column_item_at keyed)
    (do constraint ← optional_at (sorts.CONSTRAINT ∷ []) (do mark_at sorts.CONSTRAINT; id_at); key_columns_at keyed constraint)

abbrev pub next_item_at : Bool → Reader CreateItem
next_item_at keyed = mark_at sorts.COMMA >> create_item_at keyed

unfoldable pub create_items_at : Reader (List CreateItem)
create_items_at = do
  first ← create_item_at false
  others ← many_from_at keyed_by (λ _. sorts.COMMA ∷ []) next_item_at (is_key first)
  gives_at (first ∷ others)

unfoldable pub create_at : Reader Statement
create_at = do
  mark_at sorts.CREATE
  mark_at sorts.TABLE
  table ← id_at
  mark_at sorts.OPEN
  list ← create_items_at
  mark_at sorts.CLOSE
  gives_at (trees.Create table list)

unfoldable pub name_list_at : Reader (List (List ℕ))
name_list_at = do mark_at sorts.OPEN; ns ← list_of_at name_at; mark_at sorts.CLOSE; gives_at ns

-- the values of an INSERT, and what is made of them
abbrev pub row_at : ℕ → (List Expr → Statement) → Reader Statement
row_at depth make = do
  mark_at sorts.VALUES
  mark_at sorts.OPEN
  values ← list_of_at (expr_at depth)
  mark_at sorts.CLOSE
  gives_at (make values)

-- what stands behind the table of an INSERT
abbrev pub named_row_at : ℕ → List ℕ → Reader Statement
named_row_at depth table = do
  names ← optional_at (sorts.OPEN ∷ []) name_list_at
  row_at depth (trees.Insert table names)

unfoldable pub insert_at : ℕ → Reader Statement
insert_at depth = do
  mark_at sorts.INSERT
  mark_at sorts.INTO
  table ← id_at
  named_row_at depth table

unfoldable pub set_at : ℕ → Reader Set
set_at depth = do
  n ← name_at
  mark_at sorts.EQ
  e ← expr_at depth
  gives_at (record { name = n; becomes = e })

unfoldable pub update_at : ℕ → Reader Statement
update_at depth = do
  mark_at sorts.UPDATE
  table ← id_at
  mark_at sorts.SET
  sets ← list_of_at (set_at depth)
  test ← filter_at depth
  gives_at (trees.Update table sets test)

unfoldable pub delete_at : ℕ → Reader Statement
delete_at depth = do
  mark_at sorts.DELETE
  optional_at (sorts.FROM ∷ []) (mark_at sorts.FROM)
  table ← id_at
  test ← filter_at depth
  gives_at (trees.Delete table test)

unfoldable pub statement_at : ℕ → Reader Statement
statement_at depth =
    choose_at (sorts.CREATE ∷ []) create_at
    (choose_at (sorts.INSERT ∷ []) (insert_at depth)
    (choose_at (sorts.UPDATE ∷ []) (update_at depth)
    (choose_at (sorts.DELETE ∷ []) (delete_at depth)
    (choose_at (sorts.SELECT ∷ []) (do q ← query_at depth; gives_at (trees.Select q))
    call_at))))

unfoldable pub run_at : ℕ → List ℕ → Reader Line
run_at depth session = do
  mark_at sorts.COLON
  s ← statement_at depth
  optional_at (sorts.SEMICOLON ∷ []) (mark_at sorts.SEMICOLON)
  gives_at (trees.Run session s)

unfoldable pub line_at : ℕ → Reader Line
line_at depth =
    choose_at (sorts.CONNECT ∷ []) (do w ← word_at sorts.CONNECT; choose_at (sorts.COLON ∷ []) (run_at depth w) (do s ← id_at; u ← id_at; gives_at (trees.Connect s u)))
    (choose_at (sorts.DISCONNECT ∷ []) (do w ← word_at sorts.DISCONNECT; choose_at (sorts.COLON ∷ []) (run_at depth w) (do s ← id_at; gives_at (trees.Disconnect s)))
    (choose_at (sorts.AT ∷ []) (do w ← word_at sorts.AT; choose_at (sorts.COLON ∷ []) (run_at depth w) (do t ← instant_at; gives_at (trees.At t)))
    (do s ← id_at; run_at depth s)))
