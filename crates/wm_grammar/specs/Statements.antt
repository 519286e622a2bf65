-- Statements that change, and lines.
use Rattle.std.specs.Prelude.{ℕ, Bool, true, false, not, ◌||◌, ◌&&◌, ◌==◌, nat_le, if◌then◌else◌, List, [], ◌∷◌, Option, Some, None}
use Rattle.wm_syntax.specs.declared.statement.ColumnType.{ColumnType}
use Rattle.std.specs.List.{list_all}
use Rattle.wm_syntax.specs.declared.statement.ColumnType.TheVariants as types
use Rattle.wm_syntax.specs.declared.statement.CreateItem.{CreateItem}
use Rattle.wm_syntax.specs.declared.statement.CreateItem.TheVariants as items
use Rattle.wm_syntax.specs.Trees.{Set, Statement, Line}
use Rattle.wm_syntax.specs.Trees as trees
use Rattle.wm_grammar.specs.Symbols.{Symbol}
use Rattle.wm_grammar.specs.Sorts as sorts
use Rattle.wm_grammar.specs.Meaning.{number_of}
use Rattle.wm_grammar.specs.Forms.{Form, gives, one_for, mark, never, ◌>>=◌, ◌>>◌, ◌or◌, optional, many_from}
use Rattle.wm_grammar.specs.Operands.{id, word, integer, plain_name, name, instant}
use Rattle.wm_grammar.specs.Expressions.{expr}
use Rattle.wm_grammar.specs.Queries.{list_of, filter, query}
use Rattle.wm_grammar.specs.CallForms.{call}

-- ---- types

-- the scale of a number is 0: all its digits are
abbrev pub no_scale : Form (Unit {0})
no_scale = one_for sorts.INT (λ t. if list_all (λ b. b == 48) t.text then Some tt else None)

-- the size of a text; one that is not 1 to 2000 stands for 0, and is a literal out of range
abbrev pub size_of : Symbol → ℕ
size_of t = if nat_le 1 (number_of t.text) && nat_le (number_of t.text) 2000 then number_of t.text else 0

abbrev pub size : Form ℕ
size = one_for sorts.INT (λ t. Some (size_of t))

-- "(" int ["," int] ")"
unfoldable pub precision : Form (Unit {0})
precision = do
  mark sorts.OPEN
  integer
  optional (do mark sorts.COMMA; no_scale)
  mark sorts.CLOSE

-- type = NUMBER ["(" int ["," int] ")"] | INTEGER | VARCHAR2 "(" int ")" | DATE | TIMESTAMP
unfoldable pub column_type : Form ColumnType
column_type =
    (do mark sorts.NUMBER; optional precision; gives types.Number)
    or (do mark sorts.INTEGER; gives types.Number)
    or (do mark sorts.VARCHAR2; mark sorts.OPEN; n ← size; mark sorts.CLOSE; gives (types.Text n))
    or (do mark sorts.DATE; gives types.Time)
    or (do mark sorts.TIMESTAMP; gives types.Time)

-- ---- CREATE TABLE

-- PRIMARY KEY, which is true, or NOT NULL, where the first or the second has not been given yet
unfoldable pub column_option : Bool → Bool → Form Bool
column_option false false = (do mark sorts.PRIMARY; mark sorts.KEY; gives true) or (do mark sorts.NOT; mark sorts.NULL; gives false)
column_option false true = do mark sorts.PRIMARY; mark sorts.KEY; gives true
column_option true false = do mark sorts.NOT; mark sorts.NULL; gives false
column_option true true = never

-- what has been given: PRIMARY KEY, in the column or in the table, and NOT NULL
abbrev pub also : Bool × Bool → Bool → Bool × Bool
also given true = (true, given.1)
also given false = (given.0, true)

abbrev pub all_also : Bool × Bool → List Bool → Bool × Bool
all_also given [] = given
all_also given (o ∷ os) = all_also (also given o) os

-- {PRIMARY KEY | NOT NULL}, in a table that has a key or has none yet: what has been given then
unfoldable pub column_options : Bool → Form (Bool × Bool)
column_options keyed = do
  options ← many_from also (λ given. column_option given.0 given.1) (keyed, false)
  gives (all_also (keyed, false) options)

-- id type {PRIMARY KEY | NOT NULL}, in a table that has a key or has none yet
unfoldable pub column_item : Bool → Form CreateItem
column_item keyed = do
  n ← plain_name
  of ← column_type
  given ← column_options keyed
  gives (items.Column n of (not keyed && given.0) given.1)

-- PRIMARY KEY "(" id {"," id} ")", in a table that has no key yet
unfoldable pub key_columns : Bool → Option (List ℕ) → Form CreateItem
key_columns true constraint = never
key_columns false constraint = do
  mark sorts.PRIMARY
  mark sorts.KEY
  mark sorts.OPEN
  columns ← list_of plain_name
  mark sorts.CLOSE
  gives (items.Primary constraint columns)

-- item = id type {PRIMARY KEY | NOT NULL} | [CONSTRAINT id] PRIMARY KEY "(" id {"," id} ")"
unfoldable pub create_item : Bool → Form CreateItem
create_item keyed =
    column_item keyed
    or (do constraint ← optional (do mark sorts.CONSTRAINT; id); key_columns keyed constraint)

-- the item gives the table its key
abbrev pub is_key : CreateItem → Bool
is_key (items.Column n of primary not_null) = primary
is_key (items.Primary constraint columns) = true

abbrev pub keyed_by : Bool → CreateItem → Bool
keyed_by keyed item = keyed || is_key item

abbrev pub next_item : Bool → Form CreateItem
next_item keyed = mark sorts.COMMA >> create_item keyed

-- item {"," item}
unfoldable pub create_items : Form (List CreateItem)
create_items = do
  first ← create_item false
  others ← many_from keyed_by next_item (is_key first)
  gives (first ∷ others)

-- create = CREATE TABLE id "(" item {"," item} ")"
unfoldable pub create : Form Statement
create = do
  mark sorts.CREATE
  mark sorts.TABLE
  table ← id
  mark sorts.OPEN
  list ← create_items
  mark sorts.CLOSE
  gives (trees.Create table list)

-- ---- INSERT, UPDATE, DELETE

-- "(" name {"," name} ")"
unfoldable pub name_list : Form (List (List ℕ))
name_list = do mark sorts.OPEN; ns ← list_of name; mark sorts.CLOSE; gives ns

-- insert = INSERT INTO id ["(" name {"," name} ")"] VALUES "(" expr {"," expr} ")"
unfoldable pub insert : ℕ → Form Statement
insert depth = do
  mark sorts.INSERT
  mark sorts.INTO
  table ← id
  names ← optional name_list
  mark sorts.VALUES
  mark sorts.OPEN
  values ← list_of (expr depth)
  mark sorts.CLOSE
  gives (trees.Insert table names values)

-- name "=" expr
unfoldable pub set : ℕ → Form Set
set depth = do
  n ← name
  mark sorts.EQ
  e ← expr depth
  gives (record { name = n; becomes = e })

-- update = UPDATE id SET name "=" expr {"," name "=" expr} [WHERE cond]
unfoldable pub update : ℕ → Form Statement
update depth = do
  mark sorts.UPDATE
  table ← id
  mark sorts.SET
  sets ← list_of (set depth)
  test ← filter depth
  gives (trees.Update table sets test)

-- delete = DELETE [FROM] id [WHERE cond]
unfoldable pub delete : ℕ → Form Statement
delete depth = do
  mark sorts.DELETE
  optional (mark sorts.FROM)
  table ← id
  test ← filter depth
  gives (trees.Delete table test)

-- ---- lines

-- stmt = create | insert | update | delete | select | execute
unfoldable pub statement : ℕ → Form Statement
statement depth =
    create
    or insert depth
    or update depth
    or delete depth
    or (do q ← query depth; gives (trees.Select q))
    or call

-- ":" stmt [";"], behind the name of a session
unfoldable pub run : ℕ → List ℕ → Form Line
run depth session = do
  mark sorts.COLON
  s ← statement depth
  optional (mark sorts.SEMICOLON)
  gives (trees.Run session s)

-- line = CONNECT id id | DISCONNECT id | AT when | id ":" stmt [";"], where CONNECT, DISCONNECT and AT are ids before a ":"
unfoldable pub line : ℕ → Form Line
line depth =
    (do w ← word sorts.CONNECT; run depth w or (do s ← id; u ← id; gives (trees.Connect s u)))
    or (do w ← word sorts.DISCONNECT; run depth w or (do s ← id; gives (trees.Disconnect s)))
    or (do w ← word sorts.AT; run depth w or (do t ← instant; gives (trees.At t)))
    or (do s ← id; run depth s)
