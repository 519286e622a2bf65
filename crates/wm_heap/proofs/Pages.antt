-- The page of slots.
use Rattle.std.proofs.Common.{◌≡◌, ℕ, ◌-◌, ◌<◌, ◌≤◌, ◌^◌, List, [], ◌++◌, length, replicate, refl, ap, ◌∙◌, arith, Some, Vec, Global, vec_len}
use Rattle.std.specs.List.{flat_map, AllByRecursion}
use Rattle.std.proofs.lemmas.List.{length-append, length-replicate}
use Rattle.wm_codec.specs.Fields.{u16}
use Rattle.wm_codec.proofs.Exact.{IsExact, pair_exact, fields_exact}
use Rattle.wm_codec.proofs.ExactFields.{u16_exact, u64_exact, text_exact}
use Rattle.wm_codec.proofs.ExactValues.{times_again}
use Rattle.wm_heap.specs.declared.slot.Slot.{Slot}
use Rattle.wm_heap.specs.Slots.{slot, slots_bytes, page_of, slots_of, used}
use Rattle.wm_heap.proofs.Sizes.{length-slots_bytes, length-used}

-- the number of slots that a page has room for fits two bytes
pub count_fits : (slots : List Slot) → used slots ≤ 4096 → length slots < 2 ^ 16
count_fits slots room = omega (arith, length-used slots)

-- what was put so far has room
pub filled_fits : (slots : List Slot) (start counted filled : List ℕ) (n : ℕ) → start ≡ [] → counted ≡ start ++ u16.spell n → n ≡ length slots → filled ≡ counted ++ flat_map slot.spell slots → used slots ≤ 4096 → length filled ≤ 4096
filled_fits slots start counted filled n empty number number_is all room =
    let bytes : filled ≡ slots_bytes slots = all ∙ ap (λ t. t ++ flat_map slot.spell slots) (number ∙ ap (λ s. s ++ u16.spell n) empty ∙ ap u16.spell number_is) in
    omega (arith, ap length bytes, length-slots_bytes slots)

-- the number, the slots and the zeros are the page
pub is_page : (slots : List Slot) (start counted filled page zeros : List ℕ) (n len : ℕ) → start ≡ [] → counted ≡ start ++ u16.spell n → n ≡ length slots → filled ≡ counted ++ flat_map slot.spell slots → len ≡ length filled
    → zeros ≡ replicate (4096 - len) 0 → page ≡ filled ++ zeros → page ≡ page_of slots
unfolding page_of
is_page slots start counted filled page zeros n len empty number number_is all len_is zeros_are whole =
    let bytes : filled ≡ slots_bytes slots = all ∙ ap (λ t. t ++ flat_map slot.spell slots) (number ∙ ap (λ s. s ++ u16.spell n) empty ∙ ap u16.spell number_is) in
    whole ∙ ap (λ z. filled ++ z) (zeros_are ∙ ap (λ k. replicate (4096 - k) 0) (len_is ∙ ap length bytes)) ∙ ap (λ t. t ++ replicate (4096 - length (slots_bytes slots)) 0) bytes

pub bytes_counted : (bytes : Vec ℕ Global) (len : ℕ) → len ≡ vec_len bytes → len ≡ length bytes.items
bytes_counted bytes len is = omega (arith, is)

-- a page of slots is whole
pub length-page_of : (slots : List Slot) → used slots ≤ 4096 → length (page_of slots) ≡ 4096
unfolding page_of
length-page_of slots room = omega (arith, length-append (slots_bytes slots) (replicate (4096 - length (slots_bytes slots)) 0), length-replicate {A = ℕ}, length-slots_bytes slots)

pub slot_exact : IsExact slot
slot_exact = fields_exact _ _ _ (λ b. refl) (λ a. refl) (pair_exact _ _ u64_exact text_exact)

-- the slots of the page of slots are they
pub slots_of-page_of : (slots : List Slot) → length slots < 2 ^ 16 → AllByRecursion slot.Fits slots → slots_of (page_of slots) ≡ Some slots
unfolding slots_of page_of
slots_of-page_of slots few fits =
    let zeros = replicate (4096 - length (slots_bytes slots)) 0 in
    let count = u16_exact.again (length slots) (flat_map slot.spell slots ++ zeros) few in
    rw (count, times_again slot slot_exact slots zeros fits) refl
