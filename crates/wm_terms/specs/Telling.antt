-- What a function of the parser tells of a reader.
use Rattle.std.specs.Prelude.{◌≡◌, ℕ, List, Result, Ok, Err}
use Rattle.wm_grammar.specs.Symbols.{Symbol}
use Rattle.wm_terms.specs.declared.error.ParseError.{ParseError}
use Rattle.wm_terms.specs.declared.error.ParseError.TheVariants.{Memory, Syntax}

abbrev pub Fails : {Y : Type 0} → ParseError → Result (Y × List Symbol) ℕ → Type 0
Fails Memory read = Unit {0}
Fails (Syntax left) read = read ≡ Err left

-- The value, seen by the view, and the symbols behind it are what the reader finds, or the fault is the reader's, unless memory ran out.
abbrev pub Told : {X Y : Type 0} → (X → Y) → Result X ParseError → List Symbol → Result (Y × List Symbol) ℕ → Type 0
Told view (Ok x) now read = read ≡ Ok (view x, now)
Told view (Err e) now read = Fails e read

abbrev pub FailsAll : {Y : Type 0} → ParseError → Result Y ℕ → Type 0
FailsAll Memory read = Unit {0}
FailsAll (Syntax left) read = read ≡ Err left

-- The value, seen by the view, is what is read of all the symbols, or the fault is its fault, unless memory ran out.
abbrev pub Tells : {X Y : Type 0} → (X → Y) → Result X ParseError → Result Y ℕ → Type 0
Tells view (Ok x) read = read ≡ Ok (view x)
Tells view (Err e) read = FailsAll e read
