-- How many bytes slots take.
use Rattle.std.proofs.Common.{◌≡◌, ℕ, zero, suc, ◌+◌, ◌≤◌, Bool, true, false, cond, ltb, List, [], ◌∷◌, ◌++◌, length, filter, take, drop, Option, Some, None, refl, ap, ◌∙◌, arith}
use Rattle.std.specs.Int.{w16, w64, to_be_bytes, from_be_bytes}
use Rattle.std.specs.List.{flat_map}
use Rattle.std.specs.Option.{option_and_then, option_map}
use Rattle.std.proofs.lemmas.Bool.{ltb-false}
use Rattle.std.proofs.lemmas.List.{length-append, length-take, length-drop}
use Rattle.std.proofs.lemmas.List.Concat.{flat_map-cons}
use Rattle.std.proofs.lemmas.Option.{same_Some}
use Rattle.wm_codec.specs.Format.{times}
use Rattle.wm_codec.specs.Fields.{u16, text_at, number_at}
use Rattle.wm_codec.proofs.Exact.{then_some, map_some, guard_some}
use Rattle.wm_heap.specs.declared.blob.Blob.{Blob}
use Rattle.wm_heap.specs.declared.slot.Slot.{Slot}
use Rattle.wm_heap.specs.Blobs.{slots_of_bytes, slots_put}
use Rattle.wm_heap.specs.Draft.{slots_with, slot_size}
use Rattle.wm_heap.specs.Slots.{slot, slots_bytes, slots_of, used}

length-short : (n : ℕ) → length (to_be_bytes w16 n) ≡ 2
length-short n = refl

length-long : (n : ℕ) → length (to_be_bytes w64 n) ≡ 8
length-long n = refl

-- ---- spelled

pub length-slot : (s : Slot) → length (slot.spell s) ≡ 10 + length s.bytes
length-slot s = omega (arith, length-append (to_be_bytes w64 s.id) (to_be_bytes w16 (length s.bytes) ++ s.bytes), length-append (to_be_bytes w16 (length s.bytes)) s.bytes, length-long s.id, length-short (length s.bytes))

pub length-slots : (slots : List Slot) → length (flat_map slot.spell slots) + 2 ≡ used slots
length-slots [] = refl
length-slots (s ∷ slots) =
    let one = ap length (flat_map-cons slot.spell s slots) ∙ length-append (slot.spell s) (flat_map slot.spell slots) in
    omega (arith, length-slots slots, one, length-slot s)

pub length-slots_bytes : (slots : List Slot) → length (slots_bytes slots) ≡ used slots
length-slots_bytes slots = omega (arith, length-append (u16.spell (length slots)) (flat_map slot.spell slots), length-short (length slots), length-slots slots)

pub used-least : (slots : List Slot) → 2 ≤ used slots
used-least [] = omega arith
used-least (s ∷ slots) = omega (arith, used-least slots)

pub length-used : (slots : List Slot) → length slots ≤ used slots
length-used [] = omega arith
length-used (s ∷ slots) = omega (arith, length-used slots)

pub used-append : (slots more : List Slot) → used (slots ++ more) + 2 ≡ used slots + used more
used-append [] more = omega arith
used-append (x ∷ slots) more = omega (arith, used-append slots more)

pub used-push : (slots : List Slot) (s : Slot) → used (slots ++ s ∷ []) ≡ used slots + 10 + length s.bytes
used-push slots s = omega (arith, used-append slots (s ∷ []))

pub used-with : (slots : List Slot) (id : ℕ) (what : Option (List ℕ)) → used (slots_with slots id what) ≡ used slots + slot_size what
used-with slots id None = omega arith
used-with slots id (Some bytes) = omega (arith, used-push slots (record { id = id; bytes = bytes }))

pub used-put : (b : Blob) (blobs : List Blob) → used (slots_put (b ∷ blobs)) ≡ slot_size b.bytes + used (slots_put blobs)
used-put b blobs = by_bytes b.bytes
  where
    by_bytes : (o : Option (List ℕ)) → used (slots_of_bytes b.id o ++ slots_put blobs) ≡ slot_size o + used (slots_put blobs)
    by_bytes None = omega arith
    by_bytes (Some bytes) = omega arith

pub used-filter : (p : Slot → Bool) (slots : List Slot) → used (filter p slots) ≤ used slots
used-filter p [] = omega arith
used-filter p (s ∷ slots) = by_test (p s) (used-filter p slots)
  where
    by_test : (b : Bool) → used (filter p slots) ≤ used slots → used (cond b (s ∷ filter p slots) (filter p slots)) ≤ 10 + length s.bytes + used slots
    by_test true rest = omega arith
    by_test false rest = omega arith

-- ---- read

number_takes : (bytes rest : List ℕ) (n len : ℕ) (value : List ℕ → ℕ) → cond {A = Option (ℕ × List ℕ)} (ltb (length bytes) len) None (Some (value (take len bytes), drop len bytes)) ≡ Some (n, rest) → length bytes ≡ len + length rest
number_takes bytes rest n len value e =
    let g = guard_some (ltb (length bytes) len) (value (take len bytes), drop len bytes) (n, rest) e in
    let long : len ≤ length bytes = ltb-false (length bytes) len g.0 in
    let is : drop len bytes ≡ rest = ap (λ p. p.1) g.1 in
    omega (arith, length-drop len bytes, ap length is)

text_takes : (bytes rest t : List ℕ) → text_at bytes ≡ Some (t, rest) → length bytes ≡ 2 + length t + length rest
unfolding text_at
text_takes bytes rest t e =
    let n = then_some (number_at w16 bytes) (λ n. cond (ltb (length n.1) n.0) None (Some (take n.0 n.1, drop n.0 n.1))) (t, rest) e in
    let front = number_takes bytes n.0.1 n.0.0 2 (from_be_bytes w16) n.1 in
    let g = guard_some (ltb (length n.0.1) n.0.0) (take n.0.0 n.0.1, drop n.0.0 n.0.1) (t, rest) n.2 in
    let long : n.0.0 ≤ length n.0.1 = ltb-false (length n.0.1) n.0.0 g.0 in
    let text_is : take n.0.0 n.0.1 ≡ t = ap (λ p. p.0) g.1 in
    let rest_is : drop n.0.0 n.0.1 ≡ rest = ap (λ p. p.1) g.1 in
    omega (arith, front, length-take n.0.0 n.0.1, length-drop n.0.0 n.0.1, ap length text_is, ap length rest_is)

slot_takes : (bytes rest : List ℕ) (s : Slot) → slot.read bytes ≡ Some (s, rest) → length bytes ≡ 10 + length s.bytes + length rest
slot_takes bytes rest s e =
    let m = map_some (option_and_then (λ a. option_and_then (λ b. Some ((a.0, b.0), b.1)) (text_at a.1)) (number_at w64 bytes)) (λ b. ((let it : Slot = record { id = b.0.0; bytes = b.0.1 } in it), b.1)) (s, rest) e in
    let a = then_some (number_at w64 bytes) (λ a. option_and_then (λ b. Some ((a.0, b.0), b.1)) (text_at a.1)) m.0 m.1 in
    let b = then_some (text_at a.0.1) (λ b. Some ((a.0.0, b.0), b.1)) m.0 a.2 in
    let front = number_takes bytes a.0.1 a.0.0 8 (from_be_bytes w64) a.1 in
    let back = text_takes a.0.1 b.0.1 b.0.0 b.1 in
    let pair_is : ((a.0.0, b.0.0), b.0.1) ≡ m.0 = same_Some ((a.0.0, b.0.0), b.0.1) m.0 b.2 in
    let bytes_are : b.0.0 ≡ s.bytes = ap (λ p. p.0.1) pair_is ∙ ap (λ p. p.0.bytes) m.2 in
    let rest_is : b.0.1 ≡ rest = ap (λ p. p.1) pair_is ∙ ap (λ p. p.1) m.2 in
    omega (arith, front, back, ap length bytes_are, ap length rest_is)

pub times_takes : (n : ℕ) (bytes rest : List ℕ) (slots : List Slot) → times slot n bytes ≡ Some (slots, rest) → used slots + length rest ≡ length bytes + 2
times_takes zero bytes rest slots e =
    let p = same_Some ([], bytes) (slots, rest) e in
    let slots_are : [] ≡ slots = ap (λ p. p.0) p in
    let rest_is : bytes ≡ rest = ap (λ p. p.1) p in
    rw (← slots_are) (omega (arith, ap length rest_is))
times_takes (suc n) bytes rest slots e =
    let first = then_some (slot.read bytes) (λ first. option_and_then (λ others. Some (first.0 ∷ others.0, others.1)) (times slot n first.1)) (slots, rest) e in
    let others = then_some (times slot n first.0.1) (λ others. Some (first.0.0 ∷ others.0, others.1)) (slots, rest) first.2 in
    let p = same_Some (first.0.0 ∷ others.0.0, others.0.1) (slots, rest) others.2 in
    let slots_are : first.0.0 ∷ others.0.0 ≡ slots = ap (λ p. p.0) p in
    let rest_is : others.0.1 ≡ rest = ap (λ p. p.1) p in
    let front = slot_takes bytes first.0.1 first.0.0 first.1 in
    let back = times_takes n first.0.1 others.0.1 others.0.0 others.1 in
    omega (arith, front, back, ap used slots_are, ap length rest_is)

-- the slots of a page take no more bytes than it has
pub used-slots_of : (page : List ℕ) (slots : List Slot) → slots_of page ≡ Some slots → used slots ≤ length page
unfolding slots_of
used-slots_of page slots e =
    let count = then_some (u16.read page) (λ count. option_map (λ x. x.0) (times slot count.0 count.1)) slots e in
    let x = map_some (times slot count.0.0 count.0.1) (λ x. x.0) slots count.2 in
    let front = number_takes page count.0.1 count.0.0 2 (from_be_bytes w16) count.1 in
    let back = times_takes count.0.0 count.0.1 x.0.1 x.0.0 x.1 in
    omega (arith, front, back, ap used x.2)
