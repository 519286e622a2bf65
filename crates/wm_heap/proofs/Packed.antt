-- Slots one behind another in bytes.
use Rattle.std.proofs.Common.{◌≡◌, ℕ, zero, suc, ◌+◌, ◌-◌, ◌^◌, ◌<◌, ◌≤◌, Bool, true, false, cond, List, [], ◌∷◌, ◌++◌, length, filter, take, drop, Option, Some, None, unwrap_or, refl, sym, ap, subst, ◌∙◌, append_assoc, arith, Vec, Global}
use Rattle.std.specs.Int.{w16, from_be_bytes}
use Rattle.std.specs.List.{flat_map, AllByRecursion}
use Rattle.std.specs.Option.{option_and_then, option_map}
use Rattle.std.proofs.lemmas.Bool.{lt-ltb, le-ltb}
use Rattle.std.proofs.lemmas.List.{length-append, append-nil, length-drop, take_all, take_at, drop_at, take-append-drop}
use Rattle.std.proofs.lemmas.List.Concat.{flat_map-cons}
use Rattle.std.proofs.lemmas.Option.{same_Some}
use Rattle.wm_codec.specs.Format.{Format, times}
use Rattle.wm_codec.specs.Writing.{Appends, AppendsEach}
use Rattle.wm_codec.proofs.Appending.{no_items, one_more}
use Rattle.wm_codec.proofs.Exact.{IsBytes, IsBytes-rest, IsExact, then_some, map_some}
use Rattle.wm_heap.specs.declared.slot.Slot.{Slot}
use Rattle.wm_heap.specs.Slots.{slot, slots_at, slots_of, used, IsPacked}
use Rattle.wm_heap.proofs.Pages.{slot_exact}
use Rattle.wm_heap.proofs.Sizes.{length-slots, length-slot, length-used, times_takes, used-least}

-- ---- what is read of packed slots

-- the first of some values that are spelled one behind the other
first_again : {A : Type 0} (item : Format A) → IsExact item → (x : A) (xs : List A) (rest : List ℕ) → item.Fits x → item.read (flat_map item.spell (x ∷ xs) ++ rest) ≡ Some (x, flat_map item.spell xs ++ rest)
first_again item exact x xs rest fits = rw (flat_map-cons item.spell x xs, append_assoc (item.spell x) (flat_map item.spell xs) rest) (exact.again x (flat_map item.spell xs ++ rest) fits)

first_slot : (x : Slot) (xs : List Slot) → slot.Fits x → slot.read (flat_map slot.spell (x ∷ xs)) ≡ Some (x, flat_map slot.spell xs)
first_slot x xs fits =
    ap slot.read (sym (append-nil (flat_map slot.spell (x ∷ xs)))) ∙ first_again slot slot_exact x xs [] fits ∙ ap (λ b. Some (x, b)) (append-nil (flat_map slot.spell xs))

slots_at-spelled : (xs : List Slot) (rest : List ℕ) → AllByRecursion slot.Fits xs → slots_at (length xs) (flat_map slot.spell xs ++ rest) ≡ xs
unfolding slots_at
slots_at-spelled [] rest fits = refl
slots_at-spelled (x ∷ xs) rest fits =
    ap (λ o. unwrap_or (option_map (λ p. p.0 ∷ slots_at (length xs) p.1) o) []) (first_again slot slot_exact x xs rest fits.0) ∙ ap (λ l. x ∷ l) (slots_at-spelled xs rest fits.1)

pub slots_at-packed : (xs : List Slot) (count : ℕ) (bytes : List ℕ) → IsPacked xs count bytes → slots_at count bytes ≡ xs
slots_at-packed xs count bytes packed =
    ap (λ n. slots_at n bytes) packed.count_is ∙ ap (slots_at (length xs)) (packed.bytes_are.is ∙ sym (append-nil (flat_map slot.spell xs))) ∙ slots_at-spelled xs [] packed.bytes_are.fits

-- packed slots are packed as what they are read as
pub packed_again : (xs : List Slot) (count : ℕ) (bytes : List ℕ) → IsPacked xs count bytes → IsPacked (slots_at count bytes) count bytes
packed_again xs count bytes packed = subst (λ l. IsPacked l count bytes) (sym (slots_at-packed xs count bytes packed)) packed

packed_none : IsPacked [] 0 []
packed_none = record { count_is = refl; bytes_are = no_items slot [] }

pub packed_empty : (bytes : List ℕ) → bytes ≡ [] → IsPacked (slots_at 0 bytes) 0 bytes
packed_empty bytes empty = packed_again [] 0 bytes (subst (IsPacked [] 0) (sym empty) packed_none)

pub packed_more : (xs : List Slot) (count : ℕ) (bytes new : List ℕ) (s : Slot) → IsPacked xs count bytes → Appends slot bytes new s → IsPacked (xs ++ s ∷ []) (count + 1) new
packed_more xs count bytes new s packed put = record {
  count_is = omega (arith, packed.count_is, length-append xs (s ∷ []));
  bytes_are = one_more slot [] bytes new xs s packed.bytes_are put;
}

-- ---- sizes

pub packed_size : (xs : List Slot) (count : ℕ) (bytes : List ℕ) → IsPacked xs count bytes → length bytes + 2 ≡ used xs
packed_size xs count bytes packed = ap (λ b. length b + 2) packed.bytes_are.is ∙ length-slots xs

pub packed_count : (xs : List Slot) (count : ℕ) (bytes : Vec ℕ Global) → IsPacked xs count bytes.items → count + 1 < 2 ^ 64
packed_count xs count bytes packed =
    let size = packed_size xs count bytes.items packed in
    let number = packed.count_is in
    let most = length-used xs in
    omega arith

-- ---- slots that are dropped

-- the slots of which some were dropped: those kept, up to a place in the bytes, and those still to be looked at
pub record Dropping (keep : Slot → Bool) (xs : List Slot) (count from : ℕ) (bytes : List ℕ) : Type 0 where
  pub done : List Slot
  pub todo : List Slot
  pub all : done ++ filter keep todo ≡ filter keep xs
  pub count_is : count ≡ length done + length todo
  pub bytes_are : bytes ≡ flat_map slot.spell done ++ flat_map slot.spell todo
  pub from_is : from ≡ length (flat_map slot.spell done)
  pub done_fit : AllByRecursion slot.Fits done
  pub todo_fit : AllByRecursion slot.Fits todo

-- what is read of the bytes from a place on
pub read_from : (bytes items : List ℕ) (from : ℕ) (o : Option (Slot × List ℕ)) → bytes ≡ items → o ≡ slot.read (take (length bytes - from) (drop from bytes)) → slot.read (drop from items) ≡ o
read_from bytes items from o is e =
    ap slot.read (ap (drop from) (sym is) ∙ sym (take_all (length bytes - from) (drop from bytes) (omega (arith, length-drop from bytes)))) ∙ sym e

pub dropping_none : (keep : Slot → Bool) (xs : List Slot) (count : ℕ) (bytes : List ℕ) → IsPacked xs count bytes → Dropping keep xs count 0 bytes
dropping_none keep xs count bytes packed = record {
  done = [];
  todo = xs;
  all = refl;
  count_is = omega (arith, packed.count_is);
  bytes_are = packed.bytes_are.is;
  from_is = refl;
  done_fit = tt;
  todo_fit = packed.bytes_are.fits;
}

-- what is still to be looked at
pub dropping_rest : (keep : Slot → Bool) (xs : List Slot) (count from : ℕ) (bytes : List ℕ) (d : Dropping keep xs count from bytes) → drop from bytes ≡ flat_map slot.spell d.todo
dropping_rest keep xs count from bytes d = ap (drop from) d.bytes_are ∙ drop_at (flat_map slot.spell d.done) (flat_map slot.spell d.todo) from (sym d.from_is)

-- the first of them is what is read
first_read : (xs : List Slot) (s : Slot) (rest : List ℕ) → AllByRecursion slot.Fits xs → slot.read (flat_map slot.spell xs) ≡ Some (s, rest) → (more : List Slot) × (xs ≡ s ∷ more) × (rest ≡ flat_map slot.spell more)
first_read [] s rest fits e = absurd cc
first_read (x ∷ xs) s rest fits e =
    let same = same_Some (x, flat_map slot.spell xs) (s, rest) (sym (first_slot x xs fits.0) ∙ e) in
    (xs, ap (λ p. p.0 ∷ xs) same, sym (ap (λ p. p.1) same))

none_read : (xs : List Slot) → AllByRecursion slot.Fits xs → slot.read (flat_map slot.spell xs) ≡ None → xs ≡ []
none_read [] fits e = refl
none_read (x ∷ xs) fits e = absurd (let clash : Some (x, flat_map slot.spell xs) ≡ None = sym (first_slot x xs fits.0) ∙ e in cc)

-- what a slot that is read takes
pub dropping_slot : (keep : Slot → Bool) (xs : List Slot) (count from : ℕ) (bytes : List ℕ) (d : Dropping keep xs count from bytes) (s : Slot) (rest : List ℕ) → slot.read (drop from bytes) ≡ Some (s, rest) → (from + 10 ≤ length bytes - length rest) × (0 < count)
dropping_slot keep xs count from bytes d s rest e =
    let f = first_read d.todo s rest d.todo_fit (ap slot.read (sym (dropping_rest keep xs count from bytes d)) ∙ e) in
    let parts : bytes ≡ flat_map slot.spell d.done ++ (slot.spell s ++ flat_map slot.spell f.0) = d.bytes_are ∙ ap (λ t. flat_map slot.spell d.done ++ flat_map slot.spell t) f.1 ∙ ap (λ t. flat_map slot.spell d.done ++ t) (flat_map-cons slot.spell s f.0) in
    let size = ap length parts ∙ length-append (flat_map slot.spell d.done) (slot.spell s ++ flat_map slot.spell f.0) in
    let inner = length-append (slot.spell s) (flat_map slot.spell f.0) in
    let rest_size = ap length f.2 in
    let head = length-slot s in
    let number = ap length f.1 in
    let at = d.from_is in
    let counted = d.count_is in
    (omega arith, omega arith)

pub dropping_kept : (keep : Slot → Bool) (xs : List Slot) (count from : ℕ) (bytes : List ℕ) (d : Dropping keep xs count from bytes) (s : Slot) (rest : List ℕ) → slot.read (drop from bytes) ≡ Some (s, rest) → keep s ≡ true → (till : ℕ) → till ≡ length bytes - length rest → Dropping keep xs count till bytes
dropping_kept keep xs count from bytes d s rest e kept till till_is =
    let f = first_read d.todo s rest d.todo_fit (ap slot.read (sym (dropping_rest keep xs count from bytes d)) ∙ e) in
    let fit = subst (AllByRecursion slot.Fits) f.1 d.todo_fit in
    let front : AppendsEach slot [] (flat_map slot.spell d.done) d.done = record { is = refl; fits = d.done_fit } in
    let one : Appends slot (flat_map slot.spell d.done) (flat_map slot.spell d.done ++ slot.spell s) s = record { is = refl; fits = fit.0 } in
    let more = one_more slot [] (flat_map slot.spell d.done) (flat_map slot.spell d.done ++ slot.spell s) d.done s front one in
    let parts : bytes ≡ flat_map slot.spell (d.done ++ s ∷ []) ++ flat_map slot.spell f.0 =
    d.bytes_are ∙ ap (λ t. flat_map slot.spell d.done ++ flat_map slot.spell t) f.1 ∙ ap (λ t. flat_map slot.spell d.done ++ t) (flat_map-cons slot.spell s f.0)
    ∙ sym (append_assoc (flat_map slot.spell d.done) (slot.spell s) (flat_map slot.spell f.0)) ∙ ap (λ t. t ++ flat_map slot.spell f.0) more.is in
    record {
      done = d.done ++ s ∷ [];
      todo = f.0;
      all = append_assoc d.done (s ∷ []) (filter keep f.0) ∙ sym (ap (λ t. d.done ++ filter keep t) f.1 ∙ ap (λ b. d.done ++ cond b (s ∷ filter keep f.0) (filter keep f.0)) kept) ∙ d.all;
      count_is = omega (arith, d.count_is, length-append d.done (s ∷ []), ap length f.1);
      bytes_are = parts;
      from_is = omega (arith, till_is, ap length parts ∙ length-append (flat_map slot.spell (d.done ++ s ∷ [])) (flat_map slot.spell f.0), ap length f.2);
      done_fit = more.fits;
      todo_fit = fit.1;
    }

pub dropping_cut : (keep : Slot → Bool) (xs : List Slot) (count from : ℕ) (bytes new : List ℕ) (d : Dropping keep xs count from bytes) (s : Slot) (rest : List ℕ) → slot.read (drop from bytes) ≡ Some (s, rest) → keep s ≡ false → (till : ℕ) → till ≡ length bytes - length rest → new ≡ take from bytes ++ drop till bytes → Dropping keep xs (count - 1) from new
dropping_cut keep xs count from bytes new d s rest e dropped till till_is is =
    let f = first_read d.todo s rest d.todo_fit (ap slot.read (sym (dropping_rest keep xs count from bytes d)) ∙ e) in
    let front : take from bytes ≡ flat_map slot.spell d.done = ap (take from) d.bytes_are ∙ take_at (flat_map slot.spell d.done) (flat_map slot.spell d.todo) from (sym d.from_is) in
    let parts : bytes ≡ (flat_map slot.spell d.done ++ slot.spell s) ++ flat_map slot.spell f.0 =
    d.bytes_are ∙ ap (λ t. flat_map slot.spell d.done ++ flat_map slot.spell t) f.1 ∙ ap (λ t. flat_map slot.spell d.done ++ t) (flat_map-cons slot.spell s f.0)
    ∙ sym (append_assoc (flat_map slot.spell d.done) (slot.spell s) (flat_map slot.spell f.0)) in
    let front_size : length (flat_map slot.spell d.done ++ slot.spell s) ≡ till = omega (arith, till_is, ap length parts ∙ length-append (flat_map slot.spell d.done ++ slot.spell s) (flat_map slot.spell f.0), ap length f.2) in
    let back : drop till bytes ≡ flat_map slot.spell f.0 = ap (drop till) parts ∙ drop_at (flat_map slot.spell d.done ++ slot.spell s) (flat_map slot.spell f.0) till front_size in
    record {
      done = d.done;
      todo = f.0;
      all = sym (ap (λ t. d.done ++ filter keep t) f.1 ∙ ap (λ b. d.done ++ cond b (s ∷ filter keep f.0) (filter keep f.0)) dropped) ∙ d.all;
      count_is = omega (arith, d.count_is, ap length f.1);
      bytes_are = is ∙ ap (λ t. t ++ drop till bytes) front ∙ ap (λ t. flat_map slot.spell d.done ++ t) back;
      from_is = d.from_is;
      done_fit = d.done_fit;
      todo_fit = (subst (AllByRecursion slot.Fits) f.1 d.todo_fit).1;
    }

pub dropping_all : (keep : Slot → Bool) (xs : List Slot) (count from : ℕ) (bytes : List ℕ) (d : Dropping keep xs count from bytes) → slot.read (drop from bytes) ≡ None → IsPacked (filter keep xs) count bytes
dropping_all keep xs count from bytes d none =
    let empty = none_read d.todo d.todo_fit (ap slot.read (sym (dropping_rest keep xs count from bytes d)) ∙ none) in
    let are : d.done ≡ filter keep xs = sym (ap (λ t. d.done ++ filter keep t) empty ∙ append-nil d.done) ∙ d.all in
    let packed : IsPacked d.done count bytes = record {
      count_is = omega (arith, d.count_is, ap length empty);
      bytes_are = record {
        is = d.bytes_are ∙ ap (λ t. flat_map slot.spell d.done ++ flat_map slot.spell t) empty ∙ append-nil (flat_map slot.spell d.done);
        fits = d.done_fit;
      };
    } in
    subst (λ l. IsPacked l count bytes) are packed

-- ---- slots that are read off a page

-- bytes that are read as values are their spellings, and what is behind them
spelled : {A : Type 0} (item : Format A) → IsExact item → (n : ℕ) (bytes rest : List ℕ) (xs : List A) → IsBytes bytes → times item n bytes ≡ Some (xs, rest) → (bytes ≡ flat_map item.spell xs ++ rest) × (n ≡ length xs) × AllByRecursion item.Fits xs
spelled item exact zero bytes rest xs fits e =
    subst (λ p. (bytes ≡ flat_map item.spell p.0 ++ p.1) × (0 ≡ length p.0) × AllByRecursion item.Fits p.0) (same_Some ([], bytes) (xs, rest) e) (refl, refl, tt)
spelled item exact (suc n) bytes rest xs fits e =
    let first = then_some (item.read bytes) (λ first. option_and_then (λ others. Some (first.0 ∷ others.0, others.1)) (times item n first.1)) (xs, rest) e in
    let others = then_some (times item n first.0.1) (λ others. Some (first.0.0 ∷ others.0, others.1)) (xs, rest) first.2 in
    let t = exact.takes bytes first.0.1 first.0.0 fits first.1 in
    let behind = IsBytes-rest (item.spell first.0.0) first.0.1 (subst IsBytes t.0 fits) in
    let u = spelled item exact n first.0.1 others.0.1 others.0.0 behind others.1 in
    let parts : bytes ≡ flat_map item.spell (first.0.0 ∷ others.0.0) ++ others.0.1 =
    rw (flat_map-cons item.spell first.0.0 others.0.0) (t.0 ∙ ap (λ t. item.spell first.0.0 ++ t) u.0 ∙ sym (append_assoc (item.spell first.0.0) (flat_map item.spell others.0.0) others.0.1)) in
    subst (λ p. (bytes ≡ flat_map item.spell p.0 ++ p.1) × (suc n ≡ length p.0) × AllByRecursion item.Fits p.0) (same_Some (first.0.0 ∷ others.0.0, others.0.1) (xs, rest) others.2) (parts, ap suc u.1, (t.1, u.2))

-- the bytes before what is behind them are the slots
packed_read : (n : ℕ) (bytes rest : List ℕ) (xs : List Slot) → IsBytes bytes → times slot n bytes ≡ Some (xs, rest) → IsPacked xs n (take (length bytes - length rest) bytes)
packed_read n bytes rest xs fits e =
    let t = spelled slot slot_exact n bytes rest xs fits e in
    let size : length (flat_map slot.spell xs) ≡ length bytes - length rest = omega (arith, ap length t.0 ∙ length-append (flat_map slot.spell xs) rest) in
    record {
      count_is = t.1;
      bytes_are = record {
        is = ap (take (length bytes - length rest)) t.0 ∙ take_at (flat_map slot.spell xs) rest (length bytes - length rest) size;
        fits = t.2;
      };
    }

behind_first : {A : Type 0} (x : A) (o : Option (List A × List ℕ)) → option_map (λ (p : List A × List ℕ). p.1) (option_and_then (λ (others : List A × List ℕ). Some (x ∷ others.0, others.1)) o) ≡ option_map (λ (p : List A × List ℕ). p.1) o
behind_first x (Some p) = refl
behind_first x None = refl

-- one value fewer is read behind the first
pub behind_more : {A : Type 0} (item : Format A) (count i : ℕ) (bytes after : List ℕ) (x : A) → i < count → item.read bytes ≡ Some (x, after) → option_map (λ p. p.1) (times item (count - i) bytes) ≡ option_map (λ p. p.1) (times item (count - (i + 1)) after)
behind_more item count i bytes after x more is =
    let next : count - i ≡ suc (count - (i + 1)) = omega arith in
    rw (next, is) (behind_first x (times item (count - (i + 1)) after))

-- ---- a page

pub no_count : (page : List ℕ) → length page < 2 → slots_of page ≡ None
unfolding slots_of
no_count page short = rw (lt-ltb (length page) 2 short) refl

-- the slots of a page are those behind their number
pub slots_of-counted : (page bytes : List ℕ) (n : ℕ) → 2 ≤ length page → bytes ≡ drop 2 page → n ≡ from_be_bytes w16 (take 2 page) → slots_of page ≡ option_map (λ x. x.0) (times slot n bytes)
unfolding slots_of
slots_of-counted page bytes n long bytes_are n_is = rw (le-ltb (length page) 2 long, ← n_is, ← bytes_are) refl

pub no_slots : (n : ℕ) (bytes : List ℕ) → None ≡ option_map (λ x. x.1) (times slot n bytes) → option_map (λ x. x.0) (times slot n bytes) ≡ None
no_slots n bytes e = by_read (times slot n bytes) e
  where
    by_read : (o : Option (List Slot × List ℕ)) → None ≡ option_map (λ x. x.1) o → option_map (λ x. x.0) o ≡ None
    by_read None e = refl
    by_read (Some p) e = absurd cc

some_slots : (n : ℕ) (bytes rest : List ℕ) → Some rest ≡ option_map (λ x. x.1) (times slot n bytes) → (xs : List Slot) × (times slot n bytes ≡ Some (xs, rest))
some_slots n bytes rest e =
    let m = map_some (times slot n bytes) (λ x. x.1) rest (sym e) in
    (m.0.0, m.1 ∙ ap (λ r. Some (m.0.0, r)) m.2)

pub rest_within : (n : ℕ) (bytes rest : List ℕ) → Some rest ≡ option_map (λ x. x.1) (times slot n bytes) → length rest ≤ length bytes
rest_within n bytes rest e =
    let t = some_slots n bytes rest e in
    omega (arith, times_takes n bytes rest t.0 t.1, used-least t.0)

-- what stands before the rest is the slots of the page
pub page_slots : (page bytes rest front : List ℕ) (n : ℕ) → IsBytes page → 2 ≤ length page → bytes ≡ drop 2 page → n ≡ from_be_bytes w16 (take 2 page) → Some rest ≡ option_map (λ x. x.1) (times slot n bytes) → front ≡ take (length bytes - length rest) bytes
    → (Some (slots_at n front) ≡ slots_of page) × IsPacked (slots_at n front) n front
page_slots page bytes rest front n fits long bytes_are n_is e front_is =
    let behind : IsBytes bytes = subst IsBytes (sym bytes_are) (IsBytes-rest (take 2 page) (drop 2 page) (subst IsBytes (sym (take-append-drop 2 page)) fits)) in
    let t = some_slots n bytes rest e in
    let packed : IsPacked t.0 n front = subst (IsPacked t.0 n) (sym front_is) (packed_read n bytes rest t.0 behind t.1) in
    (ap Some (slots_at-packed t.0 n front packed) ∙ sym (slots_of-counted page bytes n long bytes_are n_is ∙ ap (option_map (λ x. x.0)) t.1), packed_again t.0 n front packed)
