-- Lists of page numbers, each with the page's bytes.
use Rattle.std.specs.Prelude.{◌≡◌, ℕ, Bool, true, false, ◌==◌, if◌then◌else◌, List, [], ◌∷◌, length}

-- the page is among them
abbrev pub is_named : ℕ → List (ℕ × List ℕ) → Bool
is_named p [] = false
is_named p (e ∷ es) = if p == e.0 then true else is_named p es

-- no page stands twice
abbrev pub no_page_twice : List (ℕ × List ℕ) → Bool
no_page_twice [] = true
no_page_twice (e ∷ es) = if is_named e.0 es then false else no_page_twice es

-- the first entry of this page, or else these bytes
abbrev pub found : ℕ → List (ℕ × List ℕ) → List ℕ → List ℕ
found p [] otherwise = otherwise
found p (e ∷ es) otherwise = if p == e.0 then e.1 else found p es otherwise

-- each has the bytes of a whole page
abbrev pub AreWhole : List (ℕ × List ℕ) → Type 0
AreWhole [] = Unit {0}
AreWhole (e ∷ es) = (length e.1 ≡ 4096) × AreWhole es
