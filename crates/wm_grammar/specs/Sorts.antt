-- The sorts of symbols, as numbers.
use Rattle.std.specs.Prelude.{ℕ}
use Rattle.wm_grammar.specs.declared.sort.Sort.{Sort}
use Rattle.wm_grammar.specs.declared.sort.Sort.TheVariants as s

-- the reserved words
abbrev pub CONNECT : ℕ
CONNECT = 0

abbrev pub DISCONNECT : ℕ
DISCONNECT = 1

abbrev pub AT : ℕ
AT = 2

abbrev pub CREATE : ℕ
CREATE = 3

abbrev pub TABLE : ℕ
TABLE = 4

abbrev pub PRIMARY : ℕ
PRIMARY = 5

abbrev pub KEY : ℕ
KEY = 6

abbrev pub NOT : ℕ
NOT = 7

abbrev pub NULL : ℕ
NULL = 8

abbrev pub CONSTRAINT : ℕ
CONSTRAINT = 9

abbrev pub NUMBER : ℕ
NUMBER = 10

abbrev pub INTEGER : ℕ
INTEGER = 11

abbrev pub VARCHAR2 : ℕ
VARCHAR2 = 12

abbrev pub DATE : ℕ
DATE = 13

abbrev pub TIMESTAMP : ℕ
TIMESTAMP = 14

abbrev pub INSERT : ℕ
INSERT = 15

abbrev pub INTO : ℕ
INTO = 16

abbrev pub VALUES : ℕ
VALUES = 17

abbrev pub UPDATE : ℕ
UPDATE = 18

abbrev pub SET : ℕ
SET = 19

abbrev pub WHERE : ℕ
WHERE = 20

abbrev pub DELETE : ℕ
DELETE = 21

abbrev pub FROM : ℕ
FROM = 22

abbrev pub SELECT : ℕ
SELECT = 23

abbrev pub DISTINCT : ℕ
DISTINCT = 24

abbrev pub INNER : ℕ
INNER = 25

abbrev pub JOIN : ℕ
JOIN = 26

abbrev pub ON : ℕ
ON = 27

abbrev pub GROUP : ℕ
GROUP = 28

abbrev pub BY : ℕ
BY = 29

abbrev pub ORDER : ℕ
ORDER = 30

abbrev pub AS : ℕ
AS = 31

abbrev pub COUNT : ℕ
COUNT = 32

abbrev pub SUM : ℕ
SUM = 33

abbrev pub MIN : ℕ
MIN = 34

abbrev pub MAX : ℕ
MAX = 35

abbrev pub ASC : ℕ
ASC = 36

abbrev pub DESC : ℕ
DESC = 37

abbrev pub VALIDFROM : ℕ
VALIDFROM = 38

abbrev pub VALIDTILL : ℕ
VALIDTILL = 39

abbrev pub WM_VALID : ℕ
WM_VALID = 40

abbrev pub SYSDATE : ℕ
SYSDATE = 41

abbrev pub DBMS_WM : ℕ
DBMS_WM = 42

abbrev pub UNTIL_CHANGED : ℕ
UNTIL_CHANGED = 43

abbrev pub TO_DATE : ℕ
TO_DATE = 44

abbrev pub WMSYS : ℕ
WMSYS = 45

abbrev pub WM_PERIOD : ℕ
WM_PERIOD = 46

abbrev pub OR : ℕ
OR = 47

abbrev pub AND : ℕ
AND = 48

abbrev pub IS : ℕ
IS = 49

abbrev pub IN : ℕ
IN = 50

abbrev pub BETWEEN : ℕ
BETWEEN = 51

abbrev pub EXECUTE : ℕ
EXECUTE = 52

abbrev pub EXEC : ℕ
EXEC = 53

abbrev pub TRUE : ℕ
TRUE = 54

abbrev pub FALSE : ℕ
FALSE = 55

-- the marks
-- (
abbrev pub OPEN : ℕ
OPEN = 56

-- )
abbrev pub CLOSE : ℕ
CLOSE = 57

-- ,
abbrev pub COMMA : ℕ
COMMA = 58

-- .
abbrev pub DOT : ℕ
DOT = 59

-- :
abbrev pub COLON : ℕ
COLON = 60

-- ;
abbrev pub SEMICOLON : ℕ
SEMICOLON = 61

-- *
abbrev pub STAR : ℕ
STAR = 62

-- +
abbrev pub PLUS : ℕ
PLUS = 63

-- -
abbrev pub MINUS : ℕ
MINUS = 64

-- =
abbrev pub EQ : ℕ
EQ = 65

-- <
abbrev pub LT : ℕ
LT = 66

-- >
abbrev pub GT : ℕ
GT = 67

-- <>
abbrev pub NOT_EQ : ℕ
NOT_EQ = 68

-- !=
abbrev pub BANG_EQ : ℕ
BANG_EQ = 69

-- <=
abbrev pub LE : ℕ
LE = 70

-- >=
abbrev pub GE : ℕ
GE = 71

-- =>
abbrev pub ARROW : ℕ
ARROW = 72

-- words that are not reserved, integers, texts, what no form continues, and the end of the line
abbrev pub ID : ℕ
ID = 73

abbrev pub INT : ℕ
INT = 74

abbrev pub TEXT : ℕ
TEXT = 75

abbrev pub BAD : ℕ
BAD = 76

abbrev pub END : ℕ
END = 77

-- the number of a sort
abbrev pub code_of : Sort → ℕ
code_of s.Connect = 0
code_of s.Disconnect = 1
code_of s.At = 2
code_of s.Create = 3
code_of s.Table = 4
code_of s.Primary = 5
code_of s.Key = 6
code_of s.Not = 7
code_of s.Null = 8
code_of s.Constraint = 9
code_of s.Number = 10
code_of s.Integer = 11
code_of s.Varchar2 = 12
code_of s.Date = 13
code_of s.Timestamp = 14
code_of s.Insert = 15
code_of s.Into = 16
code_of s.Values = 17
code_of s.Update = 18
code_of s.Set = 19
code_of s.Where = 20
code_of s.Delete = 21
code_of s.From = 22
code_of s.Select = 23
code_of s.Distinct = 24
code_of s.Inner = 25
code_of s.Join = 26
code_of s.On = 27
code_of s.Group = 28
code_of s.By = 29
code_of s.Order = 30
code_of s.As = 31
code_of s.Count = 32
code_of s.Sum = 33
code_of s.Min = 34
code_of s.Max = 35
code_of s.Asc = 36
code_of s.Desc = 37
code_of s.Validfrom = 38
code_of s.Validtill = 39
code_of s.WmValid = 40
code_of s.Sysdate = 41
code_of s.DbmsWm = 42
code_of s.UntilChanged = 43
code_of s.ToDate = 44
code_of s.Wmsys = 45
code_of s.WmPeriod = 46
code_of s.Or = 47
code_of s.And = 48
code_of s.Is = 49
code_of s.In = 50
code_of s.Between = 51
code_of s.Execute = 52
code_of s.Exec = 53
code_of s.True = 54
code_of s.False = 55
code_of s.Open = 56
code_of s.Close = 57
code_of s.Comma = 58
code_of s.Dot = 59
code_of s.Colon = 60
code_of s.Semicolon = 61
code_of s.Star = 62
code_of s.Plus = 63
code_of s.Minus = 64
code_of s.Eq = 65
code_of s.Lt = 66
code_of s.Gt = 67
code_of s.NotEq = 68
code_of s.BangEq = 69
code_of s.Le = 70
code_of s.Ge = 71
code_of s.Arrow = 72
code_of s.Id = 73
code_of s.Int = 74
code_of s.Text = 75
code_of s.Bad = 76
code_of s.End = 77
