-- A journal, as it is read page by page.
use Rattle.std.proofs.Common.{◌≡◌, ◌≢◌, ℕ, suc, ◌+◌, ◌-◌, ◌*◌, ◌^◌, ◌<◌, ◌≤◌, ◌⊎◌, inl, inr, true, false, List, [], ◌∷◌, ◌++◌, refl, sym, ◌∙◌, ap, arith}
use Rattle.std.specs.Prelude.{All}
use Rattle.std.specs.List.{AllByRecursion}
use Rattle.std.proofs.lemmas.Bool.Decides.{nat_tests}
use Rattle.std.proofs.lemmas.Grind.{common_steps}
use Rattle.std.proofs.lemmas.List.{append_assoc, append-nil}
use Rattle.std.proofs.lemmas.List.Elements.{All-from_recursion}
use Rattle.wm_page.specs.Batch.{entries}
use Rattle.wm_page.specs.Entries.{is_named, no_page_twice}
use Rattle.wm_page.specs.Fields.{number_at}
use Rattle.wm_page.specs.declared.write.PageWrite.{PageWrite}
use Rattle.wm_station.specs.History.{stretch}
use Rattle.wm_journal.specs.Disk.{images_at, journal_at, directory_pages, are_below, may_name}

-- the next page
images_step : (file : List ℕ) (k numbers images : ℕ) → images_at file (suc k) numbers images ≡ (number_at file numbers, stretch file images 4096) ∷ images_at file k (numbers + 8) (images + 4096)
unfolding images_at
images_step file k numbers images = refl

images_same : (file : List ℕ) (m n a b c d : ℕ) → m ≡ n → a ≡ b → c ≡ d → images_at file m a c ≡ images_at file n b d
images_same file m n a b c d one two three = ap (λ (k : ℕ). images_at file k a c) one ∙ ap (λ (k : ℕ). images_at file n k c) two ∙ ap (images_at file n b) three

images_next : (file : List ℕ) (n i numbers images : ℕ) → i < n → images_at file (n - i) (numbers + i * 8) (images + i * 4096) ≡ (number_at file (numbers + i * 8), stretch file (images + i * 4096) 4096) ∷ images_at file (n - (i + 1)) (numbers + (i + 1) * 8) (images + (i + 1) * 4096)
images_next file n i numbers images lt =
    images_same file (n - i) (suc (n - (i + 1))) (numbers + i * 8) (numbers + i * 8) (images + i * 4096) (images + i * 4096) (omega arith) refl refl
    ∙ images_step file (n - (i + 1)) (numbers + i * 8) (images + i * 4096)
    ∙ ap (λ (l : List (ℕ × List ℕ)). (number_at file (numbers + i * 8), stretch file (images + i * 4096) 4096) ∷ l)
    (images_same file (n - (i + 1)) (n - (i + 1)) (numbers + i * 8 + 8) (numbers + (i + 1) * 8) (images + i * 4096 + 4096) (images + (i + 1) * 4096) refl (omega arith) (omega arith))

-- what is left of the journal where so many pages were read
pub record Read (file : List ℕ) (s n i numbers images : ℕ) (es : List (ℕ × List ℕ)) : Type 0 where
  pub left : es ++ images_at file (n - i) (numbers + i * 8) (images + i * 4096) ≡ journal_at file s n

pub read_none : (file : List ℕ) (s n numbers images : ℕ) → numbers ≡ s * 4096 → images ≡ (s + directory_pages n) * 4096 → Read file s n 0 numbers images []
read_none file s n numbers images one two = record { left = images_same file (n - 0) n (numbers + 0 * 8) (s * 4096) (images + 0 * 4096) ((s + directory_pages n) * 4096) (omega arith) (omega arith) (omega arith) }

-- the pages, and the next one
pub read_next : (file : List ℕ) (s n i numbers images : ℕ) (es : List (ℕ × List ℕ)) → i < n → Read file s n i numbers images es → es ++ (number_at file (numbers + i * 8), stretch file (images + i * 4096) 4096) ∷ images_at file (n - (i + 1)) (numbers + (i + 1) * 8) (images + (i + 1) * 4096) ≡ journal_at file s n
read_next file s n i numbers images es lt read = ap (λ (l : List (ℕ × List ℕ)). es ++ l) (sym (images_next file n i numbers images lt)) ∙ read.left

pub read_more : (file : List ℕ) (s n i numbers images p : ℕ) (bytes : List ℕ) (es : List (ℕ × List ℕ)) → i < n → Read file s n i numbers images es → p ≡ number_at file (numbers + i * 8) → bytes ≡ stretch file (images + i * 4096) 4096 → Read file s n (i + 1) numbers images (es ++ (p, bytes) ∷ [])
read_more file s n i numbers images p bytes es lt read one two =
    let rest = images_at file (n - (i + 1)) (numbers + (i + 1) * 8) (images + (i + 1) * 4096) in
    let same : (p, bytes) ∷ rest ≡ (number_at file (numbers + i * 8), stretch file (images + i * 4096) 4096) ∷ rest = pair_same p (number_at file (numbers + i * 8)) bytes (stretch file (images + i * 4096) 4096) rest one two in
    record { left = append_assoc es ((p, bytes) ∷ []) rest ∙ ap (λ (l : List (ℕ × List ℕ)). es ++ l) same ∙ read_next file s n i numbers images es lt read }
  where
    pair_same : (x y : ℕ) (a b : List ℕ) (l : List (ℕ × List ℕ)) → x ≡ y → a ≡ b → (x, a) ∷ l ≡ (y, b) ∷ l
    pair_same x y a b l one two = cc

none_left : (f : List ℕ) (k a b : ℕ) → k ≡ 0 → images_at f k a b ≡ []
unfolding images_at
none_left f k a b same = ap (λ (m : ℕ). images_at f m a b) same

pub read_all : (file : List ℕ) (s n i numbers images : ℕ) (es : List (ℕ × List ℕ)) → n ≤ i → Read file s n i numbers images es → es ≡ journal_at file s n
read_all file s n i numbers images es done read =
    sym (append-nil es) ∙ ap (λ (l : List (ℕ × List ℕ)). es ++ l) (sym (none_left file (n - i) (numbers + i * 8) (images + i * 4096) (omega arith))) ∙ read.left

-- one page more that may be named
below_more : (s : ℕ) (es : List (ℕ × List ℕ)) (e : ℕ × List ℕ) → are_below s es ≡ true → 0 < e.0 → e.0 < s → are_below s (es ++ e ∷ []) ≡ true
below_more s [] e below low high = grind (arith, nat_tests)
below_more s (f ∷ es) e below low high = grind (arith, nat_tests, below_more s es e)

named_more : (p : ℕ) (es : List (ℕ × List ℕ)) (e : ℕ × List ℕ) → is_named p es ≡ false → p ≢ e.0 → is_named p (es ++ e ∷ []) ≡ false
named_more p [] e not other = grind (arith, nat_tests)
named_more p (f ∷ es) e not other = grind (arith, nat_tests, named_more p es e)

once_more : (es : List (ℕ × List ℕ)) (e : ℕ × List ℕ) → no_page_twice es ≡ true → is_named e.0 es ≡ false → no_page_twice (es ++ e ∷ []) ≡ true
once_more [] e once not = refl
once_more (f ∷ es) e once not = grind (arith, nat_tests, named_more f.0 es e, once_more es e)

pub may_name_more : (s : ℕ) (es : List (ℕ × List ℕ)) (e : ℕ × List ℕ) → may_name s es ≡ true → 0 < e.0 → e.0 < s → is_named e.0 es ≡ false → may_name s (es ++ e ∷ []) ≡ true
may_name_more s es e may low high not = grind (arith, below_more s es e, once_more es e)

-- a page that may not be named
not_below : (s : ℕ) (es rest : List (ℕ × List ℕ)) (e : ℕ × List ℕ) → (e.0 ≡ 0) ⊎ (s ≤ e.0) → are_below s (es ++ e ∷ rest) ≡ false
not_below s [] rest e out = grind (arith, nat_tests)
not_below s (f ∷ es) rest e out = grind (arith, nat_tests, not_below s es rest e out)

named_there : (es rest : List (ℕ × List ℕ)) (e : ℕ × List ℕ) → is_named e.0 (es ++ e ∷ rest) ≡ true
named_there [] rest e = grind (arith, nat_tests)
named_there (f ∷ es) rest e = grind (arith, nat_tests, named_there es rest e)

twice : (es rest : List (ℕ × List ℕ)) (e : ℕ × List ℕ) → is_named e.0 es ≡ true → no_page_twice (es ++ e ∷ rest) ≡ false
twice [] rest e named = grind arith
twice (f ∷ es) rest e named = grind (arith, nat_tests, named_there es rest e, twice es rest e)

pub may_not_name : (s : ℕ) (es rest : List (ℕ × List ℕ)) (e : ℕ × List ℕ) → ((e.0 ≡ 0) ⊎ (s ≤ e.0)) ⊎ (is_named e.0 es ≡ true) → may_name s (es ++ e ∷ rest) ≡ false
may_not_name s es rest e (inl out) = let below : are_below s (es ++ e ∷ rest) ≡ false = not_below s es rest e out in grind arith
may_not_name s es rest e (inr named) = let once : no_page_twice (es ++ e ∷ rest) ≡ false = twice es rest e named in grind arith

small_each : (s : ℕ) (ws : List PageWrite) → s * 4096 < 2 ^ 64 → are_below s (entries ws) ≡ true → AllByRecursion (λ (w : PageWrite). w.page * 4096 < 2 ^ 64) ws
small_each s [] small below = tt
small_each s (w ∷ ws) small below = (small_one s w.page small (grind (arith, common_steps)), small_each s ws small (grind (arith, common_steps)))
  where
    small_one : (t p : ℕ) → t * 4096 < 2 ^ 64 → p < t → p * 4096 < 2 ^ 64
    small_one t p fits lt = omega arith

pub all_small : (s : ℕ) (ws : List PageWrite) → s * 4096 < 2 ^ 64 → may_name s (entries ws) ≡ true → All (λ (w : PageWrite). w.page * 4096 < 2 ^ 64) ws
all_small s ws small may = All-from_recursion (λ (w : PageWrite). w.page * 4096 < 2 ^ 64) ws (small_each s ws small (grind arith))
