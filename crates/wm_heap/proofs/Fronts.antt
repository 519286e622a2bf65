-- The slot that bytes begin with, by its parts.
use Rattle.std.proofs.Common.{◌≡◌, ◌≢◌, ℕ, zero, suc, ◌-◌, ◌<◌, ◌≤◌, List, [], ◌∷◌, length, take, drop, Some, None, refl, ap, arith}
use Rattle.std.specs.Int.{w16, w64, from_be_bytes}
use Rattle.std.proofs.lemmas.Bool.{lt-ltb, le-ltb}
use Rattle.wm_codec.specs.Fields.{text_at}
use Rattle.wm_heap.specs.declared.slot.Slot.{Slot}
use Rattle.wm_heap.specs.Slots.{slot, slots_at}

pub no_length : (bytes rest : List ℕ) → 8 ≤ length bytes → rest ≡ drop 8 bytes → length rest < 2 → slot.read bytes ≡ None
unfolding text_at
no_length bytes rest long is short = rw (le-ltb (length bytes) 8 long, ← is, lt-ltb (length rest) 2 short) refl

pub no_record : (bytes rest more : List ℕ) (n : ℕ) → 8 ≤ length bytes → rest ≡ drop 8 bytes → 2 ≤ length rest → more ≡ drop 2 rest → n ≡ from_be_bytes w16 (take 2 rest) → length more < n → slot.read bytes ≡ None
unfolding text_at
no_record bytes rest more n long is enough more_is n_is short =
    rw (le-ltb (length bytes) 8 long, ← is, le-ltb (length rest) 2 enough, ← more_is, ← n_is, lt-ltb (length more) n short) refl

pub front_slot : (bytes rest more record_bytes after : List ℕ) (id n : ℕ) → 8 ≤ length bytes → rest ≡ drop 8 bytes → 2 ≤ length rest → more ≡ drop 2 rest → n ≡ from_be_bytes w16 (take 2 rest) → n ≤ length more
    → id ≡ from_be_bytes w64 (take 8 bytes) → record_bytes ≡ take n more → after ≡ drop n more → slot.read bytes ≡ Some ((let s : Slot = record { id = id; bytes = record_bytes } in s), after)
unfolding text_at
front_slot bytes rest more record_bytes after id n long is enough more_is n_is fits id_is record_is after_is =
    rw (le-ltb (length bytes) 8 long, ← is, le-ltb (length rest) 2 enough, ← more_is, ← n_is, le-ltb (length more) n fits, ← id_is, ← record_is, ← after_is) refl

-- ---- what so many slots begin with

pub slots_at-none : (n : ℕ) (bytes : List ℕ) → n ≡ 0 → slots_at n bytes ≡ []
unfolding slots_at
slots_at-none n bytes none = rw none refl

pub slots_at-no_slot : (n : ℕ) (bytes : List ℕ) → slot.read bytes ≡ None → slots_at n bytes ≡ []
unfolding slots_at
slots_at-no_slot zero bytes none = refl
slots_at-no_slot (suc n) bytes none = rw none refl

pub slots_at-slot : (n : ℕ) (bytes rest : List ℕ) (s : Slot) → n ≢ 0 → slot.read bytes ≡ Some (s, rest) → slots_at n bytes ≡ s ∷ slots_at (n - 1) rest
unfolding slots_at
slots_at-slot zero bytes rest s some is = absurd (some refl)
slots_at-slot (suc n) bytes rest s some is = rw is (let less : n ≡ suc n - 1 = omega arith in ap (λ k. s ∷ slots_at k rest) less)

-- one slot fewer is left behind the first
pub fewer_slots : (slots rest : List Slot) (s : Slot) → slots ≡ s ∷ rest → length rest < length slots
fewer_slots slots rest s is = omega (arith, ap length is)
