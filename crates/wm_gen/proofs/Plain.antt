-- No byte of a line is below the blank. So neither LF nor CR stands in one.
use Rattle.std.proofs.Common.{◌≡◌, ◌∙◌, ◌==◌, ◌+◌, ◌*◌, ◌^◌, ◌<◌, ◌%◌, ◌/◌, Bool, true, false, ℕ, zero, suc, cond, codes, List, [], ◌∷◌, ◌++◌, refl, arith, nat_lt, nat_le}
use Rattle.std.specs.List.{list_all}
use Rattle.std.specs.Fmt.{decimal}
use Rattle.std.proofs.Math.Nat.{mod-lt}
use Rattle.std.proofs.lemmas.Bool.{le-leb}
use Rattle.std.proofs.lemmas.Fmt.{decimal_by_steps}
use Rattle.std.proofs.lemmas.List.Folds.{list_all-append}
use Rattle.wm_gen.specs.Script.{draw, drawn_lines, line_for, line_of, next, opening_lines, procedure, script_lines, session, statement}

-- no byte is below the blank
abbrev pub is_plain : List ℕ → Bool
is_plain line = list_all (λ byte. nat_le 32 byte) line

both : (a b : List ℕ) → is_plain a ≡ true → is_plain b ≡ true → is_plain (a ++ b) ≡ true
both a b front back = list_all-append (λ byte. nat_le 32 byte) a b ∙ rw (front, back) refl

digit : (n : ℕ) → is_plain ((48 + n) ∷ []) ≡ true
digit n = rw (le-leb 32 (48 + n) (omega arith)) refl

number : (n : ℕ) → n < 2 ^ 64 → is_plain (decimal n) ≡ true
number = decimal_by_steps (λ n digits. is_plain digits ≡ true) (λ n small. digit n) (λ n digits large front. both digits ((48 + n % 10) ∷ []) front (digit (n % 10)))

choice : (b : Bool) (x y : List ℕ) → is_plain x ≡ true → is_plain y ≡ true → is_plain (cond b x y) ≡ true
choice true x y first second = first
choice false x y first second = second

statement_plain : (form half key value : ℕ) → key < 2 ^ 64 → value < 2 ^ 64 → is_plain (statement form half key value) ≡ true
statement_plain form half key value k v =
    let closed : List ℕ = decimal value ++ codes ")" in
    let values : List ℕ = codes ", " ++ closed in
    let insert : List ℕ = codes ": INSERT INTO G VALUES (" ++ (decimal key ++ values) in
    let at_key : List ℕ = codes " WHERE ID = " ++ decimal key in
    let update : List ℕ = codes ": UPDATE G SET X = " ++ (decimal value ++ at_key) in
    let delete : List ℕ = codes ": DELETE FROM G WHERE ID = " ++ decimal key in
    let call : List ℕ = codes ": EXECUTE DBMS_WM." ++ (procedure half ++ codes "('W')") in
    let count : List ℕ = codes ": SELECT COUNT(*) FROM G" in
    let from_six : List ℕ = cond (form == 6) call count in
    let from_five : List ℕ = cond (form == 5) delete from_six in
    let from_three : List ℕ = cond (nat_lt form 5) update from_five in
    choice (nat_lt form 3) insert from_three
    (both (codes ": INSERT INTO G VALUES (") (decimal key ++ values) refl
    (both (decimal key) values (number key k) (both (codes ", ") closed refl (both (decimal value) (codes ")") (number value v) refl))))
    (choice (nat_lt form 5) update from_five
    (both (codes ": UPDATE G SET X = ") (decimal value ++ at_key) refl (both (decimal value) at_key (number value v) (both (codes " WHERE ID = ") (decimal key) refl (number key k))))
    (choice (form == 5) delete from_six (both (codes ": DELETE FROM G WHERE ID = ") (decimal key) refl (number key k))
    (choice (form == 6) call count
    (both (codes ": EXECUTE DBMS_WM.") (procedure half ++ codes "('W')") refl
    (both (procedure half) (codes "('W')") (choice (half % 2 == 0) (codes "RefreshWorkspace") (codes "MergeWorkspace") refl refl) refl)) refl)))

line_plain : (side form half value : ℕ) → 2 * half + side < 2 ^ 64 → value < 2 ^ 64 → is_plain (line_of side form half value) ≡ true
line_plain side form half value k v =
    both (session side) (statement form half (2 * half + side) value) (choice (side == 0) (codes "A") (codes "B") refl refl) (statement_plain form half (2 * half + side) value k v)

drawn_below : (bound state : ℕ) → 0 < bound → draw bound state < bound
unfolding draw
drawn_below bound state some = mod-lt (next state / 2 ^ 33) some

drawn_plain : (state : ℕ) → is_plain (line_for state) ≡ true
unfolding line_for
drawn_plain state =
    let side : draw 2 state < 2 = drawn_below 2 state (omega arith) in
    let half : draw 500 (next (next state)) < 500 = drawn_below 500 (next (next state)) (omega arith) in
    let value : draw 1000000 (next (next (next state))) < 1000000 = drawn_below 1000000 (next (next (next state))) (omega arith) in
    line_plain (draw 2 state) (draw 8 (next state)) (draw 500 (next (next state))) (draw 1000000 (next (next (next state)))) (omega (arith, side, half)) (omega (arith, value))

all_drawn_plain : (state count : ℕ) → list_all is_plain (drawn_lines state count) ≡ true
all_drawn_plain state zero = refl
all_drawn_plain state (suc count) = rw (drawn_plain state, all_drawn_plain (next (next (next (next state)))) count) refl

pub plain_lines : (seed count : ℕ) → list_all is_plain (script_lines seed count) ≡ true
unfolding opening_lines
plain_lines seed count = list_all-append is_plain opening_lines (drawn_lines seed count) ∙ rw (all_drawn_plain seed count) refl
