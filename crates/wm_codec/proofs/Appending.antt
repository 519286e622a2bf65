-- Fields that are written one behind the other.
use Rattle.std.proofs.Common.{◌≡◌, ℕ, ◌<◌, List, [], ◌∷◌, ◌++◌, length, sym, ap, ◌∙◌, append_assoc, get_or, Result, Ok, Err, OnOk}
use Rattle.std.specs.List.{flat_map, AllByRecursion}
use Rattle.std.proofs.lemmas.Grind.{flat_map-append}
use Rattle.std.proofs.lemmas.List.{append-nil}
use Rattle.std.proofs.lemmas.List.Concat.{flat_map-cons}
use Rattle.wm_codec.specs.Format.{Format, ◌▸◌, counted}
use Rattle.wm_spec.specs.declared.record.Record.{Record}
use Rattle.wm_base.specs.declared.memory.Memory.{Memory}
use Rattle.wm_codec.specs.Spelling.{spelling, HasSpelling}
use Rattle.wm_codec.specs.Writing.{Appends, AppendsEach, AppendsRecord}

-- one field behind another
pub behind : {A B : Type 0} {first : Format A} {second : Format B} {old mid new : List ℕ} {a : A} {b : B} → Appends first old mid a → Appends second mid new b → Appends (first ▸ second) old new (a, b)
behind {first = first} {second = second} {old = old} {a = a} {b = b} p q = record {
  is = q.is ∙ ap (λ t. t ++ second.spell b) p.is ∙ append_assoc old (first.spell a) (second.spell b);
  fits = (p.fits, q.fits);
}

-- ---- lists

pub no_items : {A : Type 0} (format : Format A) (bytes : List ℕ) → AppendsEach format bytes bytes []
no_items format bytes = record { is = sym (append-nil bytes); fits = tt }

all_more : {A : Type 0} (P : A → Type 0) (xs : List A) (x : A) → AllByRecursion P xs → P x → AllByRecursion P (xs ++ x ∷ [])
all_more P [] x h p = (p, tt)
all_more P (y ∷ ys) x h p = (h.0, all_more P ys x h.1 p)

flat_more : {A : Type 0} (f : A → List ℕ) (xs : List A) (x : A) → flat_map f (xs ++ x ∷ []) ≡ flat_map f xs ++ f x
flat_more f xs x = rw (flat_map-append f xs (x ∷ []), flat_map-cons f x []) (ap (λ t. flat_map f xs ++ t) (append-nil (f x)))

pub one_more : {A : Type 0} (format : Format A) (old mid new : List ℕ) (xs : List A) (x : A) → AppendsEach format old mid xs → Appends format mid new x → AppendsEach format old new (xs ++ x ∷ [])
one_more format old mid new xs x p q = record {
  is = rw (flat_more format.spell xs x) (q.is ∙ ap (λ t. t ++ format.spell x) p.is ∙ append_assoc old (flat_map format.spell xs) (format.spell x));
  fits = all_more format.Fits xs x p.fits q.fits;
}

-- a list with the byte that counts it
pub with_count : {A : Type 0} (format : Format A) (old mid new : List ℕ) (xs : List A) → length xs < 256 → mid ≡ old ++ (length xs) ∷ [] → AppendsEach format mid new xs → Appends (counted format) old new xs
with_count format old mid new xs short p q = record {
  is = q.is ∙ ap (λ t. t ++ flat_map format.spell xs) p ∙ append_assoc old (length xs ∷ []) (flat_map format.spell xs);
  fits = (short, q.fits);
}

-- ---- records

-- the byte with which the spelling of a record begins, and its fields behind it
pub tagged : {A : Type 0} (answer : Result (Unit {0}) Memory) (format : Format A) (tag byte : ℕ) (old mid new : List ℕ) (it : A) (r : Record) → spelling r ≡ tag ∷ format.spell it → (format.Fits it → HasSpelling r)
    → get_or (spelling r) 0 0 ≡ byte → mid ≡ old ++ byte ∷ [] → OnOk answer (Appends format mid new it) → OnOk answer (AppendsRecord old new r)
tagged (Ok x) format tag byte old mid new it r spelled fits begins p q =
    let first : tag ≡ byte = ap (λ bytes. get_or bytes 0 0) (sym spelled) ∙ begins in
    let put : mid ≡ old ++ tag ∷ [] = rw first p in
    record {
      is = q.is ∙ ap (λ t. t ++ format.spell it) put ∙ append_assoc old (tag ∷ []) (format.spell it) ∙ ap (λ t. old ++ t) (sym spelled);
      fits = fits q.fits;
    }
tagged (Err e) format tag byte old mid new it r spelled fits begins p q = tt
