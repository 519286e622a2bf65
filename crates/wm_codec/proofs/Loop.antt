-- Reading values one after the other, as a loop does.
use Rattle.std.proofs.Common.{◌≡◌, ℕ, suc, ◌-◌, ◌+◌, ◌≤◌, ◌<◌, List, [], ◌∷◌, ◌++◌, Option, Some, None, refl, sym, ap, ◌∙◌, append_assoc, arith}
use Rattle.std.specs.Option.{option_map, option_and_then}
use Rattle.std.proofs.lemmas.List.{append-nil}
use Rattle.wm_codec.specs.declared.fault.ReadFault.{ReadFault}
use Rattle.wm_codec.specs.declared.fault.ReadFault.TheVariants as faults
use Rattle.wm_codec.specs.Format.{Format, times}
use Rattle.wm_codec.specs.Reading.{Fails}

-- what was read before, and what is still read
abbrev pub with_front : {A : Type 0} → List A → Option (List A × List ℕ) → Option (List A × List ℕ)
with_front front read = option_map (λ x. (front ++ x.0, x.1)) read

regroup : {A : Type 0} (front : List A) (n : A) (read : Option (List A × List ℕ)) → with_front front (option_and_then (λ others. Some (n ∷ others.0, others.1)) read) ≡ with_front (front ++ n ∷ []) read
regroup front n (Some x) = ap (λ ns. Some (ns, x.1)) (sym (append_assoc front (n ∷ []) x.0))
regroup front n None = refl

pub goes_on : {A : Type 0} (item : Format A) (front : List A) (count i : ℕ) (bytes : List ℕ) (n : A) (after : List ℕ) (total : Option (List A × List ℕ)) → i < count → item.read bytes ≡ Some (n, after)
    → with_front front (times item (count - i) bytes) ≡ total → with_front (front ++ n ∷ []) (times item (count - (i + 1)) after) ≡ total
goes_on item front count i bytes n after total lt h so_far =
    let k : count - i ≡ suc (count - (i + 1)) = omega arith in
    let one : with_front front (times item (count - i) bytes) ≡ with_front (front ++ n ∷ []) (times item (count - (i + 1)) after) = rw (k, h) (regroup front n (times item (count - (i + 1)) after)) in
    sym one ∙ so_far

pub ends : {A : Type 0} (e : ReadFault) (item : Format A) (front : List A) (count i : ℕ) (bytes : List ℕ) (total : Option (List A × List ℕ)) → i < count → Fails e (item.read bytes)
    → with_front front (times item (count - i) bytes) ≡ total → Fails e total
ends faults.Memory item front count i bytes total lt h so_far = tt
ends faults.NoRecord item front count i bytes total lt h so_far =
    let k : count - i ≡ suc (count - (i + 1)) = omega arith in
    let one : with_front front (times item (count - i) bytes) ≡ None = rw (k, h) refl in
    sym so_far ∙ one

pub is_done : {A : Type 0} (item : Format A) (front : List A) (count i : ℕ) (bytes : List ℕ) (total : Option (List A × List ℕ)) → count ≤ i → with_front front (times item (count - i) bytes) ≡ total → total ≡ Some (front, bytes)
is_done item front count i bytes total le so_far =
    let k : count - i ≡ 0 = omega arith in
    let one : with_front front (times item (count - i) bytes) ≡ Some (front, bytes) = rw k (ap (λ ns. Some (ns, bytes)) (append-nil front)) in
    sym so_far ∙ one
