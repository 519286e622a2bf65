-- What stays of a file where a write does not reach.
use Rattle.std.proofs.Common.{◌≡◌, ℕ, zero, suc, ◌+◌, ◌*◌, ◌<◌, ◌≤◌, ◌⊎◌, inl, inr, List, ◌++◌, length, take, drop, slice_index, refl, sym, ◌∙◌, ap, arith}
use Rattle.std.proofs.lemmas.List.{get_or-take, get_or-drop, drop-take, drop-drop, take-take, take_at, drop_at}
use Rattle.wm_page.specs.Fields.{number_at}
use Rattle.wm_page.proofs.Numbers.{number_at-same}
use Rattle.wm_station.specs.History.{stretch, Torn}
use Rattle.wm_journal.specs.Disk.{page, images_at}

-- one byte of a stretch
pub slice_index-stretch : (xs : List ℕ) (a n i : ℕ) → i < n → slice_index (stretch xs a n) i ≡ slice_index xs (a + i)
unfolding stretch
slice_index-stretch xs a n i lt = get_or-take n (drop a xs) i 0 lt ∙ get_or-drop a xs i 0

pub byte_same : (xs ys : List ℕ) (a : ℕ) → stretch xs a 1 ≡ stretch ys a 1 → slice_index xs a ≡ slice_index ys a
byte_same xs ys a same =
    let place : a + 0 ≡ a = omega arith in
    let left : slice_index (stretch xs a 1) 0 ≡ slice_index xs a = slice_index-stretch xs a 1 0 (omega arith) ∙ ap (slice_index xs) place in
    let right : slice_index (stretch ys a 1) 0 ≡ slice_index ys a = slice_index-stretch ys a 1 0 (omega arith) ∙ ap (slice_index ys) place in
    sym left ∙ ap (λ (l : List ℕ). slice_index l 0) same ∙ right

-- a byte that a write does not reach
pub byte_kept : (at n a : ℕ) (d c : List ℕ) → Torn at n d c → a < length d → (a < at) ⊎ (at + n ≤ a) → slice_index c a ≡ slice_index d a
byte_kept at n a d c torn within (inl before) = byte_same c d a (torn.same a 1 (omega arith) (inl (omega arith)))
byte_kept at n a d c torn within (inr behind) = byte_same c d a (torn.same a 1 (omega arith) (inr behind))

-- a number that it does not reach
pub number_kept : (at n a : ℕ) (d c : List ℕ) → Torn at n d c → a + 8 ≤ length d → (a + 8 ≤ at) ⊎ (at + n ≤ a) → number_at c a ≡ number_at d a
unfolding stretch
number_kept at n a d c torn within apart = number_at-same c d a a (torn.same a 8 within apart)

-- a page that it does not reach
pub page_kept : (at n p : ℕ) (d c : List ℕ) → Torn at n d c → (p + 1) * 4096 ≤ length d → ((p + 1) * 4096 ≤ at) ⊎ (at + n ≤ p * 4096) → page c p ≡ page d p
unfolding page
page_kept at n p d c torn within (inl before) = torn.same (p * 4096) 4096 (omega arith) (inl (omega arith))
page_kept at n p d c torn within (inr behind) = torn.same (p * 4096) 4096 (omega arith) (inr behind)

-- a journal that it does not reach
pub images_kept : (at w : ℕ) (d c : List ℕ) → Torn at w d c → (n numbers images : ℕ) → at + w ≤ numbers → numbers + 8 * n ≤ images → images + 4096 * n ≤ length d → images_at c n numbers images ≡ images_at d n numbers images
unfolding images_at
images_kept at w d c torn zero numbers images behind room within = refl
images_kept at w d c torn (suc n) numbers images behind room within =
    let number : number_at c numbers ≡ number_at d numbers = number_kept at w numbers d c torn (omega arith) (inr behind) in
    let image : stretch c images 4096 ≡ stretch d images 4096 = torn.same images 4096 (omega arith) (inr (omega arith)) in
    let rest : images_at c n (numbers + 8) (images + 4096) ≡ images_at d n (numbers + 8) (images + 4096) = images_kept at w d c torn n (numbers + 8) (images + 4096) (omega arith) (omega arith) (omega arith) in
    cc

-- the front of what stands there
pub stretch_front : (file xs ys : List ℕ) (at n : ℕ) → stretch file at n ≡ xs ++ ys → length xs ≤ n → stretch file at (length xs) ≡ xs
unfolding stretch
stretch_front file xs ys at n same within =
    sym (take-take (length xs) n (drop at file) within) ∙ ap (take (length xs)) same ∙ take_at xs ys (length xs) refl

-- the rest of what stands there
pub stretch_rest : (file xs ys : List ℕ) (at n m : ℕ) → stretch file at n ≡ xs ++ ys → n ≡ length xs + m → stretch file (at + length xs) m ≡ ys
unfolding stretch
stretch_rest file xs ys at n m same e =
    let cut : take m (drop (length xs) (drop at file)) ≡ drop (length xs) (take n (drop at file)) = sym (drop-take (length xs) m (drop at file)) ∙ ap (λ (k : ℕ). drop (length xs) (take k (drop at file))) (sym e) in
    ap (take m) (sym (drop-drop (length xs) at file)) ∙ cut ∙ ap (drop (length xs)) same ∙ drop_at xs ys (length xs) refl
