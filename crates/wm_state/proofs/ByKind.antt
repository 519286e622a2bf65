-- What a change of one record makes of the records of each kind.
use Rattle.std.proofs.Common.{◌≡◌, ◌≢◌, ℕ, ◌<◌, nat_lt, false, List, [], ◌∷◌, ◌++◌, map, Option, Some, None, refl, sym, ap, subst, ◌∙◌, ◌⊎◌, inl, inr, append-nil, arith}
use Rattle.std.proofs.lemmas.Bool.{cases_eq, eq-eqb, ne_eqb}
use Rattle.std.proofs.lemmas.List.{map-append}
use Rattle.std.proofs.lemmas.List.Elements.{filter_map-append}
use Rattle.std.proofs.lemmas.Option.{same_Some}
use Rattle.std.specs.List.{filter_map}
use Rattle.wm_base.proofs.Plain.{none_some}
use Rattle.wm_spec.specs.Records.{record_at}
use Rattle.wm_spec.specs.declared.record.Record.{Record}
use Rattle.wm_spec.specs.declared.record.stored.Stored.{Stored}
use Rattle.wm_state.specs.Batches.{AllUnder}
use Rattle.wm_state.specs.ById.{AllAbove, Ascend, set_at}
use Rattle.wm_state.proofs.ById.{record_at-here, record_at-away, record_at-none}

-- the records of a kind
abbrev pub kinds : {A : Type 0} → (Record → Option A) → List Stored → List A
kinds as_kind ss = filter_map as_kind (map (λ (s : Stored). s.record) ss)

abbrev pub stored : ℕ → Record → Stored
stored id r = record { id = id; «record» = r }

kinds-append : {A : Type 0} (as_kind : Record → Option A) (xs ys : List Stored) → kinds as_kind (xs ++ ys) ≡ kinds as_kind xs ++ kinds as_kind ys
kinds-append as_kind xs ys = ap (filter_map as_kind) (map-append (λ (s : Stored). s.record) xs ys) ∙ filter_map-append as_kind (map (λ (s : Stored). s.record) xs) (map (λ (s : Stored). s.record) ys)

-- ---- a record in its place

pub record Split (ss : List Stored) (id : ℕ) (r : Record) : Type 0 where
  pub front : List Stored
  pub back : List Stored
  pub is : ss ≡ front ++ stored id r ∷ back

pub split_of : (ss : List Stored) (id : ℕ) (r : Record) → record_at ss id ≡ Some r → Split ss id r
split_of [] id r found = absurd (none_some (record_at [] id) r (record_at-none id) found)
split_of (s ∷ ss) id r found = by_id (cases_eq s.id id) (split_of ss id r)
  where
    same_stored : s.id ≡ id → s.record ≡ r → s ≡ stored id r
    same_stored e f = ap (λ (k : ℕ). stored k s.record) e ∙ ap (stored id) f

    by_id : (s.id ≡ id) ⊎ (s.id ≢ id) → (record_at ss id ≡ Some r → Split ss id r) → Split (s ∷ ss) id r
    by_id (inl here) rest = record { front = []; back = ss; is = ap (λ (x : Stored). x ∷ ss) (same_stored here (same_Some s.record r (sym (record_at-here s ss id here) ∙ found))) }
    by_id (inr away) rest = let q = rest (sym (record_at-away s ss id away) ∙ found) in record { front = s ∷ q.front; back = q.back; is = ap (λ (xs : List Stored). s ∷ xs) q.is }

above-middle : (low : ℕ) (front back : List Stored) (s : Stored) → AllAbove low (front ++ s ∷ back) → low < s.id
above-middle low [] back s above = above.0
above-middle low (x ∷ front) back s above = above-middle low front back s above.1

-- a record takes the place of the one of its id
pub set-split : (front back : List Stored) (id : ℕ) (r q : Record) → Ascend (front ++ stored id r ∷ back) → set_at id (Some q) (front ++ stored id r ∷ back) ≡ front ++ stored id q ∷ back
set-split [] back id r q sorted = rw (eq-eqb id id refl) refl
set-split (x ∷ front) back id r q sorted =
    let lt : x.id < id = above-middle x.id front back (stored id r) sorted.0 in
    rw (ne_eqb x.id id (λ e. omega (arith, lt, e)), not_less x.id id lt) (ap (λ (xs : List Stored). x ∷ xs) (set-split front back id r q sorted.1))
  where
    not_less : (a b : ℕ) → a < b → nat_lt b a ≡ false
    not_less a b lt = grind (arith, lt)

-- a record of a greater id comes behind all others
pub set-behind : (ss : List Stored) (id : ℕ) (q : Record) → AllUnder id ss → set_at id (Some q) ss ≡ ss ++ stored id q ∷ []
set-behind [] id q under = refl
set-behind (s ∷ ss) id q under = rw (ne_eqb s.id id (λ e. omega (arith, under.0, e)), not_less s.id id under.0) (ap (λ (xs : List Stored). s ∷ xs) (set-behind ss id q under.1))
  where
    not_less : (a b : ℕ) → a < b → nat_lt b a ≡ false
    not_less a b lt = grind (arith, lt)

-- ---- a kind after a change

-- a kind of which neither the old record nor the new one is
pub kinds-same : {A : Type 0} (as_kind : Record → Option A) (front back : List Stored) (id : ℕ) (r q : Record) → as_kind r ≡ None → as_kind q ≡ None
    → kinds as_kind (front ++ stored id q ∷ back) ≡ kinds as_kind (front ++ stored id r ∷ back)
kinds-same {A = A} as_kind front back id r q none_r none_q =
    kinds-append as_kind front (stored id q ∷ back)
    ∙ ap (λ xs. kinds as_kind front ++ xs) (one q none_q ∙ sym (one r none_r))
    ∙ sym (kinds-append as_kind front (stored id r ∷ back))
  where
    one : (x : Record) → as_kind x ≡ None → kinds as_kind (stored id x ∷ back) ≡ kinds as_kind back
    one x none = rw none refl

-- a kind of which both are
pub kinds-one : {A : Type 0} (as_kind : Record → Option A) (front back : List Stored) (id : ℕ) (r : Record) (a : A) → as_kind r ≡ Some a
    → kinds as_kind (front ++ stored id r ∷ back) ≡ kinds as_kind front ++ a ∷ kinds as_kind back
kinds-one as_kind front back id r a some = kinds-append as_kind front (stored id r ∷ back) ∙ ap (λ xs. kinds as_kind front ++ xs) (rw some refl)

-- a record more behind all
pub kinds-more : {A : Type 0} (as_kind : Record → Option A) (ss : List Stored) (id : ℕ) (r : Record) (a : A) → as_kind r ≡ Some a → kinds as_kind (ss ++ stored id r ∷ []) ≡ kinds as_kind ss ++ a ∷ []
kinds-more as_kind ss id r a some = kinds-append as_kind ss (stored id r ∷ []) ∙ ap (λ xs. kinds as_kind ss ++ xs) (rw some refl)

pub kinds-no_more : {A : Type 0} (as_kind : Record → Option A) (ss : List Stored) (id : ℕ) (r : Record) → as_kind r ≡ None → kinds as_kind (ss ++ stored id r ∷ []) ≡ kinds as_kind ss
kinds-no_more as_kind ss id r none = kinds-append as_kind ss (stored id r ∷ []) ∙ ap (λ xs. kinds as_kind ss ++ xs) (rw none refl) ∙ append-nil (kinds as_kind ss)

-- a record that is found has an id below
pub under_found : (n : ℕ) (ss : List Stored) (id : ℕ) (r : Record) → AllUnder n ss → record_at ss id ≡ Some r → id < n
under_found n ss id r under found = by_split (split_of ss id r found)
  where
    under_middle : (front back : List Stored) → AllUnder n (front ++ stored id r ∷ back) → id < n
    under_middle [] back u = u.0
    under_middle (x ∷ front) back u = under_middle front back u.1

    by_split : Split ss id r → id < n
    by_split s = under_middle s.front s.back (subst (λ xs. AllUnder n xs) s.is under)
