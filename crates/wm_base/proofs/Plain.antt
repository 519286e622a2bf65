-- Plain facts of options and tests that proofs of several crates need and std does not have.
use Rattle.std.proofs.Common.{◌≡◌, ◌≢◌, ℕ, ◌+◌, ◌<◌, ◌≤◌, ◌==◌, nat_lt, nat_le, Bool, true, false, ◌&&◌, ◌||◌, cond, if◌then◌else◌, Option, None, Some, is_some, Bor, option_copied, refl, arith}
use Rattle.std.specs.Option.{option_map, option_or}

-- ---- options

pub option_or-none : {T : Type 0} (o : Option T) → option_or o None ≡ o
option_or-none None = refl
option_or-none (Some x) = refl

pub option_or_assoc : {T : Type 0} (a b c : Option T) → option_or (option_or a b) c ≡ option_or a (option_or b c)
option_or_assoc None b c = refl
option_or_assoc (Some x) b c = refl

-- what is nothing where either is, is nothing in both
pub option_or_parts : {T : Type 0} (a b : Option T) → option_or a b ≡ None → (a ≡ None) × (b ≡ None)
option_or_parts None b e = (refl, e)
option_or_parts (Some x) b e = cc

pub none_since : {T : Type 0} (o : Option T) → is_some o ≡ false → o ≡ None
none_since None e = refl
none_since (Some x) e = cc

pub none_mapped : {S T : Type 0} (f : S → T) (o : Option S) → option_map f o ≡ None → o ≡ None
none_mapped f None e = refl
none_mapped f (Some x) e = cc

-- one option is not both
pub none_some : {T : Type 0} (o : Option T) (x : T) → o ≡ None → o ≡ Some x → ⊥
none_some o x none some = cc

pub some_mapped : {S T : Type 0} (f : S → T) (o : Option S) → is_some (option_map f o) ≡ is_some o
some_mapped f None = refl
some_mapped f (Some x) = refl

-- there is one where its copy is
pub copied_some : {T : Type 0} (b : Option (Bor T)) (o : Option T) → option_copied b ≡ o → is_some o ≡ true → is_some b ≡ true
copied_some None o same e = cc
copied_some (Some x) o same e = refl

-- ---- tests

-- what a test lets through behind another that fails
pub unless_parts : (a b : Bool) → cond a false b ≡ true → (a ≡ false) × (b ≡ true)
unless_parts true b e = cc
unless_parts false b e = (refl, e)

-- what neither of two tests finds
pub either_parts : (a b : Bool) → cond a true b ≡ false → (a ≡ false) × (b ≡ false)
either_parts true b e = cc
either_parts false b e = (refl, e)

-- what is left of two tests, where the first says nothing
pub and_last : (a b : Bool) → a ≡ true → (a && b) ≡ false → b ≡ false
and_last true b e f = f
and_last false b e f = cc

pub or_last : (a b : Bool) → a ≡ false → (a || b) ≡ true → b ≡ true
or_last true b e f = cc
or_last false b e f = f

pub and_swap : (a b c : Bool) → (a && (b && c)) ≡ (b && (a && c))
and_swap true true c = refl
and_swap true false c = refl
and_swap false true c = refl
and_swap false false c = refl

pub or_swap : (a b c : Bool) → (a || (b || c)) ≡ (b || (a || c))
or_swap true true c = refl
or_swap true false c = refl
or_swap false true c = refl
or_swap false false c = refl

-- each of two tests lets another through
pub either_if : (a b c d : Bool) → (a ≡ true → c ≡ true) → (b ≡ true → d ≡ true) → (a || b) ≡ true → (c || d) ≡ true
either_if true b c d one two e = let first : c ≡ true = one refl in cc
either_if false b true d one two e = refl
either_if false b false d one two e = two e

-- and the second of a choice does
pub else_if : (t a b c : Bool) → (b ≡ true → c ≡ true) → (if t then a else b) ≡ true → (if t then a else c) ≡ true
else_if true a b c follows e = e
else_if false a b c follows e = follows e

-- ---- tests of numbers

pub nonzero : (n : ℕ) → 0 < n → (n == 0) ≡ false
nonzero n some = grind (arith, some)

pub less_apart : (m n : ℕ) → m < n → (m == n) ≡ false
less_apart m n less = grind (arith, less)

pub eqb-turned : (m n : ℕ) → (m == n) ≡ false → (n == m) ≡ false
eqb-turned m n apart = grind (arith, apart)

pub nat_lt-apart : (m n : ℕ) → nat_lt m n ≡ true → (m == n) ≡ false
nat_lt-apart m n less = grind (arith, less)

pub nat_lt-other : (m n : ℕ) → nat_lt m n ≡ true → (n == m) ≡ false
nat_lt-other m n less = grind (arith, less)

pub nat_lt-turned : (m n : ℕ) → nat_lt m n ≡ true → nat_lt n m ≡ false
nat_lt-turned m n less = grind (arith, less)

pub nat_lt-next : (n : ℕ) → nat_lt n (n + 1) ≡ true
nat_lt-next n = grind arith

pub nat_lt-zero : (n : ℕ) → nat_lt n 0 ≡ false
nat_lt-zero n = grind arith

-- what is behind the greater of two is not below the lesser
pub nat_lt-past : (m n k : ℕ) → nat_le m n ≡ true → n ≤ k → nat_lt k m ≡ false
nat_lt-past m n k most behind = grind (arith, most, behind)

pub not_less : (m n : ℕ) → nat_lt m n ≡ false → m ≢ n → n < m
not_less m n most other = grind (arith, most, other)

pub nat_le-itself : (n : ℕ) → nat_le n n ≡ true
nat_le-itself n = grind arith

pub nat_le-more : (n k : ℕ) → nat_le n (n + k) ≡ true
nat_le-more n k = grind arith

pub nat_le-trans : (a b c : ℕ) → nat_le a b ≡ true → nat_le b c ≡ true → nat_le a c ≡ true
nat_le-trans a b c e f = grind (arith, e, f)

pub nat_le-antisym : (m n : ℕ) → nat_le m n ≡ true → nat_le n m ≡ true → m ≡ n
nat_le-antisym m n e f = grind (arith, e, f)
