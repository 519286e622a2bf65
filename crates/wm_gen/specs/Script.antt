-- Scripts that are drawn from a number: eight lines that open two sessions and make a table and a workspace, and then as
-- many drawn lines as are asked for.
use Rattle.std.specs.Prelude.{ℕ, zero, suc, ◌≡◌, ◌+◌, ◌*◌, ◌/◌, ◌%◌, ◌^◌, ◌==◌, nat_lt, if◌then◌else◌, List, [], ◌∷◌, ◌++◌, Option, Some, None, codes}
use Rattle.std.specs.List.{flat_map}
use Rattle.std.specs.Fmt.{decimal}

-- the state behind a state
unfoldable pub next : ℕ → ℕ
next state = (state * 6364136223846793005 + 1442695040888963407) % 2 ^ 64

-- what is drawn in a state, of the numbers below a bound; the next draw is made in the next state
unfoldable pub draw : ℕ → ℕ → ℕ
draw bound state = next state / 2 ^ 33 % bound

-- the session that says a line: A stands in LIVE, and B in the workspace
abbrev pub session : ℕ → List ℕ
session side = if side == 0 then codes "A" else codes "B"

-- the procedure of a drawn call
abbrev pub procedure : ℕ → List ℕ
procedure half = if half % 2 == 0 then codes "RefreshWorkspace" else codes "MergeWorkspace"

-- what stands behind the session, by the form, half of the key, the key and the value
abbrev pub statement : ℕ → ℕ → ℕ → ℕ → List ℕ
statement form half key value =
    if nat_lt form 3 then codes ": INSERT INTO G VALUES (" ++ (decimal key ++ (codes ", " ++ (decimal value ++ codes ")"))) else
    (if nat_lt form 5 then codes ": UPDATE G SET X = " ++ (decimal value ++ (codes " WHERE ID = " ++ decimal key)) else
    (if form == 5 then codes ": DELETE FROM G WHERE ID = " ++ decimal key else
    (if form == 6 then codes ": EXECUTE DBMS_WM." ++ (procedure half ++ codes "('W')") else codes ": SELECT COUNT(*) FROM G")))

-- the line of four draws; the keys of A are even, and those of B odd
abbrev pub line_of : ℕ → ℕ → ℕ → ℕ → List ℕ
line_of side form half value = session side ++ statement form half (2 * half + side) value

-- the line that is drawn in a state
unfoldable pub line_for : ℕ → List ℕ
line_for state = line_of (draw 2 state) (draw 8 (next state)) (draw 500 (next (next state))) (draw 1000000 (next (next (next state))))

-- so many lines that are drawn from a state on, each by four draws
abbrev pub drawn_lines : ℕ → ℕ → List (List ℕ)
drawn_lines state zero = []
drawn_lines state (suc count) = line_for state ∷ drawn_lines (next (next (next (next state)))) count

-- the lines before the drawn ones
unfoldable pub opening_lines : List (List ℕ)
opening_lines =
    codes "CONNECT A ANN" ∷
    codes "CONNECT B BEN" ∷
    codes "A: CREATE TABLE G (ID NUMBER PRIMARY KEY, X NUMBER)" ∷
    codes "A: EXECUTE DBMS_WM.EnableVersioning('G', 'NONE', FALSE, TRUE)" ∷
    codes "A: EXECUTE DBMS_WM.CreateWorkspace('W')" ∷
    codes "B: EXECUTE DBMS_WM.GotoWorkspace('W')" ∷
    codes "A: EXECUTE DBMS_WM.SetValidTime(DATE '2020-01-01', DATE '2021-01-01')" ∷
    codes "B: EXECUTE DBMS_WM.SetValidTime(DATE '2020-07-01', DATE '2021-07-01')" ∷ []

-- the lines of the script of a seed, with so many drawn ones
abbrev pub script_lines : ℕ → ℕ → List (List ℕ)
script_lines seed count = opening_lines ++ drawn_lines seed count

-- its bytes: each line ends with LF
abbrev pub script : ℕ → ℕ → List ℕ
script seed count = flat_map (λ line. line ++ codes "\n") (script_lines seed count)

-- the first of the lines that were to come was given, and the others are to come; none is given only where none was to come
abbrev pub Gives : List (List ℕ) → Option (List ℕ) → List (List ℕ) → Type 0
Gives coming (Some line) left = coming ≡ line ∷ left
Gives coming None left = (coming ≡ []) × (left ≡ [])
