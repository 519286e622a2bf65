-- A journal that was written is read.
use Rattle.std.proofs.Common.{◌≡◌, ℕ, ◌+◌, ◌-◌, ◌*◌, ◌^◌, ◌<◌, ◌≤◌, List, [], ◌∷◌, ◌++◌, length, replicate, refl, sym, ◌∙◌, ap, arith, take}
use Rattle.std.proofs.lemmas.List.{length-append, length-replicate, append_assoc, take_all, take_at}
use Rattle.wm_page.specs.Entries.{AreWhole}
use Rattle.wm_page.specs.Fields.{number_at, eight_bytes}
use Rattle.wm_page.proofs.Numbers.{length-eight_bytes, number_at-eight_bytes}
use Rattle.wm_station.specs.History.{stretch, Written}
use Rattle.wm_journal.specs.Disk.{images_at, journal_at, directory_pages}
use Rattle.wm_journal.specs.Writes.{numbers_of, images_of, journal_bytes}
use Rattle.wm_journal.proofs.Kept.{stretch_front, stretch_rest}

-- each number fits eight bytes
abbrev pub FitAll : List (ℕ × List ℕ) → Type 0
FitAll [] = Unit {0}
FitAll (e ∷ es) = (e.0 < 2 ^ 64) × FitAll es

pub length-numbers_of : (es : List (ℕ × List ℕ)) → length (numbers_of es) ≡ 8 * length es
length-numbers_of [] = refl
length-numbers_of (e ∷ es) = omega (arith, length-append (eight_bytes e.0) (numbers_of es), length-eight_bytes e.0, length-numbers_of es)

pub length-images_of : (es : List (ℕ × List ℕ)) → AreWhole es → length (images_of es) ≡ 4096 * length es
length-images_of [] whole = refl
length-images_of (e ∷ es) whole = omega (arith, length-append e.1 (images_of es), whole.0, length-images_of es whole.1)

entry_same : (x y : ℕ) (a b : List ℕ) (l m : List (ℕ × List ℕ)) → x ≡ y → a ≡ b → l ≡ m → (x, a) ∷ l ≡ (y, b) ∷ m
entry_same x y a b l m one two three = cc

-- what stands in a journal
pub images_read : (file : List ℕ) (es : List (ℕ × List ℕ)) (numbers images : ℕ) → FitAll es → AreWhole es → stretch file numbers (8 * length es) ≡ numbers_of es → stretch file images (4096 * length es) ≡ images_of es → images_at file (length es) numbers images ≡ es
unfolding images_at stretch
images_read file [] numbers images fits whole first second = refl
images_read file (e ∷ es) numbers images fits whole first second =
    let eight : length (eight_bytes e.0) ≡ 8 = length-eight_bytes e.0 in
    let here : stretch file numbers 8 ≡ eight_bytes e.0 = ap (stretch file numbers) (sym eight) ∙ stretch_front file (eight_bytes e.0) (numbers_of es) numbers (8 * length (e ∷ es)) first (omega arith) in
    let there : stretch file images 4096 ≡ e.1 = ap (stretch file images) (sym whole.0) ∙ stretch_front file e.1 (images_of es) images (4096 * length (e ∷ es)) second (omega arith) in
    let numbers_rest : stretch file (numbers + 8) (8 * length es) ≡ numbers_of es = ap (λ (k : ℕ). stretch file (numbers + k) (8 * length es)) (sym eight) ∙ stretch_rest file (eight_bytes e.0) (numbers_of es) numbers (8 * length (e ∷ es)) (8 * length es) first (omega arith) in
    let images_rest : stretch file (images + 4096) (4096 * length es) ≡ images_of es = ap (λ (k : ℕ). stretch file (images + k) (4096 * length es)) (sym whole.0) ∙ stretch_rest file e.1 (images_of es) images (4096 * length (e ∷ es)) (4096 * length es) second (omega arith) in
    let rest : images_at file (length es) (numbers + 8) (images + 4096) ≡ es = images_read file es (numbers + 8) (images + 4096) fits.1 whole.1 numbers_rest images_rest in
    let number : number_at file numbers ≡ e.0 = number_at-eight_bytes file numbers e.0 fits.0 here in
    entry_same (number_at file numbers) e.0 (stretch file images 4096) e.1 (images_at file (length es) (numbers + 8) (images + 4096)) es number there rest

pub length-journal_bytes : (es : List (ℕ × List ℕ)) → AreWhole es → length (journal_bytes es) ≡ (directory_pages (length es) + length es) * 4096
unfolding journal_bytes
length-journal_bytes es whole =
    let pad = directory_pages (length es) * 4096 - length es * 8 in
    omega (arith, length-append (numbers_of es ++ replicate pad 0) (images_of es), length-append (numbers_of es) (replicate pad 0), length-replicate {A = ℕ} pad 0, length-numbers_of es, length-images_of es whole)

-- a journal that was written is there
pub journal_written : (s : ℕ) (es : List (ℕ × List ℕ)) (old new : List ℕ) → FitAll es → AreWhole es → Written (s * 4096) (journal_bytes es) old new → journal_at new s (length es) ≡ es
unfolding journal_bytes
journal_written s es old new fits whole done =
    let n = length es in
    let d = directory_pages n in
    let pad = replicate (d * 4096 - n * 8) 0 in
    let total = length (journal_bytes es) in
    let here : stretch new (s * 4096) total ≡ numbers_of es ++ pad ++ images_of es = done.here in
    let size : total ≡ (d + n) * 4096 = length-journal_bytes es whole in
    let first : stretch new (s * 4096) (8 * n) ≡ numbers_of es = ap (stretch new (s * 4096)) (sym (length-numbers_of es)) ∙ stretch_front new (numbers_of es) (pad ++ images_of es) (s * 4096) total (here ∙ append_assoc (numbers_of es) pad (images_of es)) (omega (arith, length-numbers_of es)) in
    let front : length (numbers_of es ++ pad) ≡ d * 4096 = omega (arith, length-append (numbers_of es) pad, length-replicate {A = ℕ} (d * 4096 - n * 8) 0, length-numbers_of es) in
    let place : s * 4096 + length (numbers_of es ++ pad) ≡ (s + d) * 4096 = omega arith in
    let second : stretch new ((s + d) * 4096) (4096 * n) ≡ images_of es = ap (λ (k : ℕ). stretch new k (4096 * n)) (sym place) ∙ stretch_rest new (numbers_of es ++ pad) (images_of es) (s * 4096) total (4096 * n) here (omega arith) in
    images_read new es (s * 4096) ((s + d) * 4096) fits whole first second

-- a number at the front of what was filled up to n bytes
pub number_front : (x n : ℕ) (items bytes rest : List ℕ) → x < 2 ^ 64 → 8 ≤ n → items ≡ eight_bytes x → bytes ≡ take n items ++ rest → number_at bytes 0 ≡ x
number_front x n items bytes rest fits le one two =
    let size : length items ≡ 8 = ap length one ∙ length-eight_bytes x in
    let all : take n items ≡ items = take_all n items (omega arith) in
    number_at-eight_bytes bytes 0 x fits (ap (take 8) (two ∙ ap (λ (l : List ℕ). l ++ rest) all) ∙ take_at items rest 8 size ∙ one)
