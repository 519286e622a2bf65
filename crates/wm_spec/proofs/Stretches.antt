-- Laws of the maximal stretches of a function of the moment, and of the rows of a list.
use Rattle.std.proofs.Common.{◌≡◌, ℕ, ◌<◌, ◌≤◌, ◌⊎◌, inl, inr, List, [], ◌∷◌, Option, None, Some, Bool, true, false, ◌&&◌, ◌||◌, ◌==◌, nat_le, nat_lt, refl, sym, ap, ◌∙◌, arith, ⊎_elim}
use Rattle.std.proofs.lemmas.Bool.{and_parts, eq-eqb, eqb-true, ltb-false, ltb-true}
use Rattle.std.specs.Bool.{then_some}
use Rattle.std.specs.Option.{option_or, option_and_then}
use Rattle.wm_base.proofs.Plain.{option_or-none, option_or_assoc}
use Rattle.wm_spec.specs.Lists.{Entry, Cell, told, told_of, is_of, has_time, stamp_at, standing_stamp}
use Rattle.wm_spec.specs.Stretches.{Stretch, value_at, joined, onto, stretches, cut_in, cuts, rows_of_key, IsApart, AreMaximal}
use Rattle.wm_base.specs.declared.value.Value.{Value}

-- the cuts ascend from an instant on
abbrev pub Up : ℕ → List ℕ → Type 0
Up low [] = Unit {0}
Up low (cut ∷ cuts) = (low < cut) × Up cut cuts

-- a function of the moment changes at the cuts only, and gives nothing behind the last
abbrev pub Steady : {A : Type 0} → (ℕ → Option A) → ℕ → List ℕ → Type 0
Steady f low [] = (t : ℕ) → low ≤ t → f t ≡ None
Steady f low (cut ∷ cuts) = ((t : ℕ) → low ≤ t → t < cut → f t ≡ f low) × Steady f cut cuts

-- an instant is not between two neighbouring cuts
abbrev pub Off : ℕ → ℕ → List ℕ → Type 0
Off n low [] = n ≤ low
Off n low (cut ∷ cuts) = ((n ≤ low) ⊎ (cut ≤ n)) × Off n cut cuts

pub by_test : {P : Type 0} (test : Bool) → (test ≡ true → P) → (test ≡ false → P) → P
by_test true yes' no' = yes' refl
by_test false yes' no' = no' refl

-- ---- cuts

pub Up-cut : (n low : ℕ) (cs : List ℕ) → Up low cs → Up low (cut_in n low cs)
Up-cut n low [] up = by_test (nat_le n low) (λ e. rw e tt) (λ e. rw e (grind (arith, e), tt))
Up-cut n low (a ∷ cs) up =
    by_test (nat_le n low) (λ e. rw e up) (λ e.
    by_test (nat_lt n a)
    (λ f. rw (e, f) (grind (arith, e), (grind (arith, f), up.1)))
    (λ f. rw (e, f) (up.0, Up-cut n a cs up.1)))

-- more cuts keep a function steady
pub Steady-cut : {A : Type 0} (f : ℕ → Option A) (n low : ℕ) (cs : List ℕ) → Steady f low cs → Steady f low (cut_in n low cs)
Steady-cut f n low [] steady =
    by_test (nat_le n low) (λ e. rw e steady) (λ e. rw e
    (λ t le lt. steady t le ∙ sym (steady low (omega arith)), λ t le. steady t (grind (arith, e, le))))
Steady-cut f n low (a ∷ cs) steady =
    by_test (nat_le n low) (λ e. rw e steady) (λ e.
    by_test (nat_lt n a)
    (λ g. rw (e, g) (
      λ t le lt. steady.0 t le (grind (arith, g, lt)),
      (λ t le lt. steady.0 t (grind (arith, e, le)) lt ∙ sym (steady.0 n (grind (arith, e)) (grind (arith, g))), steady.1),
    ))
    (λ g. rw (e, g) (steady.0, Steady-cut f n a cs steady.1)))

-- an instant below all cuts is not between two of them
pub Off-below : (n low : ℕ) (cs : List ℕ) → n ≤ low → Up low cs → Off n low cs
Off-below n low [] le up = le
Off-below n low (a ∷ cs) le up = (inl le, Off-below n a cs (omega (arith, le, up.0)) up.1)

-- and stays so where more is cut
pub Off-cut : (m n low : ℕ) (cs : List ℕ) → Off m low cs → Up low cs → Off m low (cut_in n low cs)
Off-cut m n low [] off up = by_test (nat_le n low) (λ e. rw e off) (λ e. rw e (inl off, grind (arith, e, off)))
Off-cut m n low (a ∷ cs) off up =
    by_test (nat_le n low) (λ e. rw e off) (λ e.
    by_test (nat_lt n a)
    (λ g. rw (e, g) (⊎_elim (λ le. (inl le, (inl (grind (arith, e, le)), off.1))) (λ ge. (inr (grind (arith, g, ge)), (inr ge, off.1))) off.0))
    (λ g. rw (e, g) (off.0, Off-cut m n a cs off.1 up.1)))

-- an instant that was cut at is not between two neighbouring cuts
pub Off-own : (n low : ℕ) (cs : List ℕ) → Up low cs → Off n low (cut_in n low cs)
Off-own n low [] up = by_test (nat_le n low) (λ e. rw e (grind (arith, e))) (λ e. rw e (inr (omega arith), omega arith))
Off-own n low (a ∷ cs) up =
    by_test (nat_le n low)
    (λ e. rw e (inl (grind (arith, e)), Off-below n a cs (grind (arith, e, up.0)) up.1))
    (λ e. by_test (nat_lt n a)
    (λ g. rw (e, g) (inr (omega arith), (inl (omega arith), Off-below n a cs (grind (arith, g)) up.1)))
    (λ g. rw (e, g) (inr (grind (arith, g)), Off-own n a cs up.1)))

-- ---- steady functions

pub Steady-alike : {A : Type 0} (f g : ℕ → Option A) (low : ℕ) (cs : List ℕ) → ((t : ℕ) → f t ≡ g t) → Steady f low cs → Steady g low cs
Steady-alike f g low [] same steady = λ t le. sym (same t) ∙ steady t le
Steady-alike f g low (a ∷ cs) same steady = (λ t le lt. sym (same t) ∙ (steady.0 t le lt ∙ same low), Steady-alike f g a cs same steady.1)

pub Steady-or : {A : Type 0} (f g : ℕ → Option A) (low : ℕ) (cs : List ℕ) → Steady f low cs → Steady g low cs → Steady (λ t. option_or (f t) (g t)) low cs
Steady-or f g low [] one two = λ t le. rw (one t le) (two t le)
Steady-or f g low (a ∷ cs) one two = (λ t le lt. rw (one.0 t le lt, two.0 t le lt) refl, Steady-or f g a cs one.1 two.1)

pub Steady-then : {A B : Type 0} (act : A → Option B) (f : ℕ → Option A) (low : ℕ) (cs : List ℕ) → Steady f low cs → Steady (λ t. option_and_then act (f t)) low cs
Steady-then act f low [] steady = λ t le. rw (steady t le) refl
Steady-then act f low (a ∷ cs) steady = (λ t le lt. rw (steady.0 t le lt) refl, Steady-then act f a cs steady.1)

-- the period from one instant to another has the moment
abbrev has : ℕ → ℕ → ℕ → Bool
has from till t = nat_le from t && nat_lt t till

has-behind : (from till low t : ℕ) → till ≤ low → low ≤ t → has from till t ≡ false
has-behind from till low t ended le = grind (arith, ended, le)

has-between : (from till low a t : ℕ) → low < a → (from ≤ low) ⊎ (a ≤ from) → (till ≤ low) ⊎ (a ≤ till) → low ≤ t → t < a → has from till t ≡ has from till low
has-between from till low a t up (inl x) (inl y) le lt = grind (arith, x, y, le, lt)
has-between from till low a t up (inl x) (inr y) le lt = grind (arith, x, y, le, lt, up)
has-between from till low a t up (inr x) y le lt = grind (arith, x, le, lt, up)

-- what stands over a period, and nothing elsewhere, is steady where its ends are not between two cuts
pub Steady-period : {A : Type 0} (x : A) (from till low : ℕ) (cs : List ℕ) → Up low cs → Off from low cs → Off till low cs
    → Steady (λ t. then_some (has from till t) x) low cs
Steady-period x from till low [] up off1 off2 = λ t le. rw (has-behind from till low t off2 le) refl
Steady-period x from till low (a ∷ cs) up off1 off2 = (
  λ t le lt. rw (has-between from till low a t up.0 off1.0 off2.0 le lt) refl,
  Steady-period x from till a cs up.1 off1.1 off2.1,
)

-- ---- the cuts of a list

pub Up-cuts : (es : List Entry) (table : ℕ) (key : List Value) → Up 0 (cuts es table key)
Up-cuts [] table key = tt
Up-cuts (e ∷ es) table key =
    by_test (is_of table key e)
    (λ h. rw h (Up-cut e.from 0 (cut_in e.till 0 (cuts es table key)) (Up-cut e.till 0 (cuts es table key) (Up-cuts es table key))))
    (λ h. rw h (Up-cuts es table key))

-- the cell of a table and a key at a moment
abbrev cell : ℕ → List Value → ℕ → Cell
cell table key t = record { table = table; key = key; time = t }

Steady-told : (es : List Entry) (table : ℕ) (key : List Value) → Steady (λ t. told es (cell table key t)) 0 (cuts es table key)
Steady-told [] table key = λ t le. refl
Steady-told (e ∷ es) table key =
    by_test (is_of table key e)
    (λ h. rw h (Steady-or (λ t. told es (cell table key t)) (λ t. then_some (true && has_time t e) (told_of e)) 0 _
    (Steady-cut _ e.from 0 _ (Steady-cut _ e.till 0 _ (Steady-told es table key)))
    (Steady-period (told_of e) e.from e.till 0 _
    (Up-cut e.from 0 _ (Up-cut e.till 0 _ (Up-cuts es table key)))
    (Off-own e.from 0 _ (Up-cut e.till 0 _ (Up-cuts es table key)))
    (Off-cut e.till e.from 0 _ (Off-own e.till 0 _ (Up-cuts es table key)) (Up-cut e.till 0 _ (Up-cuts es table key))))))
    (λ h. rw h (Steady-alike (λ t. told es (cell table key t)) (λ t. option_or (told es (cell table key t)) None) 0 _
    (λ t. sym (option_or-none (told es (cell table key t)))) (Steady-told es table key)))

pub Steady-stamps : (es : List Entry) (table : ℕ) (key : List Value) → Steady (stamp_at es table key) 0 (cuts es table key)
Steady-stamps es table key = Steady-then standing_stamp (λ t. told es (cell table key t)) 0 (cuts es table key) (Steady-told es table key)

-- ---- stretches

AreMaximal-lower : (low high : ℕ) (ss : List Stretch) → low ≤ high → AreMaximal high ss → AreMaximal low ss
AreMaximal-lower low high [] le max = tt
AreMaximal-lower low high (s ∷ ss) le max = (omega (arith, le, max.0), max.1, max.2, max.3)

IsApart-stamp : (till a b : ℕ) (ss : List Stretch) → a ≡ b → IsApart till b ss → IsApart till a ss
IsApart-stamp till a b [] same apart = tt
IsApart-stamp till a b (s ∷ ss) same apart = λ meets equal. apart meets (sym same ∙ equal)

and-false : (a b : Bool) → (a && b) ≡ false → a ≡ true → b ≡ true → ⊥
and-false a b e x y = let it : true ≡ false = sym (rw (x, y) refl) ∙ e in cc

AreMaximal-joined : (from till stamp : ℕ) (ss : List Stretch) → from < till → AreMaximal till ss → AreMaximal from (joined from till stamp ss)
AreMaximal-joined from till stamp [] lt max = (omega arith, lt, tt, tt)
AreMaximal-joined from till stamp (s ∷ ss) lt max =
    by_test ((till == s.from) && (stamp == s.stamp))
    (λ e. rw e (
      omega arith,
      omega (arith, lt, max.0, max.1),
      IsApart-stamp s.till stamp s.stamp ss (eqb-true stamp s.stamp (and_parts (till == s.from) (stamp == s.stamp) e).1) max.2,
      max.3,
    ))
    (λ e. rw e (
      omega arith,
      lt,
      (λ meets equal. and-false (till == s.from) (stamp == s.stamp) e (eq-eqb till s.from meets) (eq-eqb stamp s.stamp equal)),
      (max.0, max.1, max.2, max.3),
    ))

AreMaximal-onto : (from till : ℕ) (o : Option ℕ) (ss : List Stretch) → from < till → AreMaximal till ss → AreMaximal from (onto from till o ss)
AreMaximal-onto from till None ss lt max = AreMaximal-lower from till ss (omega (arith, lt)) max
AreMaximal-onto from till (Some stamp) ss lt max = AreMaximal-joined from till stamp ss lt max

-- stretches are in order, none is empty, and no two neighbours could be one
pub AreMaximal-stretches : (f : ℕ → Option ℕ) (low : ℕ) (cs : List ℕ) → Up low cs → AreMaximal low (stretches f low cs)
AreMaximal-stretches f low [] up = tt
AreMaximal-stretches f low (a ∷ cs) up = AreMaximal-onto low a (f low) (stretches f a cs) up.0 (AreMaximal-stretches f a cs up.1)

-- two periods that meet are one
has-joined : (from middle till t : ℕ) → from < middle → middle < till → (has from middle t || has middle till t) ≡ has from till t
has-joined from middle till t lt1 lt2 = grind (arith, lt1, lt2)

chosen-or : (a b : Bool) (x : ℕ) → option_or (then_some b x) (then_some a x) ≡ then_some (a || b) x
chosen-or true true x = refl
chosen-or true false x = refl
chosen-or false true x = refl
chosen-or false false x = refl

-- so a stretch that is made longer holds what the two held
pub merged : (v : Option ℕ) (from middle till stamp t : ℕ) → from < middle → middle < till
    → option_or v (then_some (has from till t) stamp) ≡ option_or (option_or v (then_some (has middle till t) stamp)) (then_some (has from middle t) stamp)
merged v from middle till stamp t lt1 lt2 =
    sym (option_or_assoc v (then_some (has middle till t) stamp) (then_some (has from middle t) stamp)
    ∙ ap (λ (o : Option ℕ). option_or v o)
    (chosen-or (has from middle t) (has middle till t) stamp ∙ ap (λ (b : Bool). then_some b stamp) (has-joined from middle till t lt1 lt2)))

value-joined : (from till stamp t : ℕ) (ss : List Stretch) → from < till → AreMaximal till ss
    → value_at (joined from till stamp ss) t ≡ option_or (value_at ss t) (then_some (has from till t) stamp)
value-joined from till stamp t [] lt max = refl
value-joined from till stamp t (s ∷ ss) lt max =
    by_test ((till == s.from) && (stamp == s.stamp))
    (λ e. rw e (rw (← eqb-true till s.from (and_parts (till == s.from) (stamp == s.stamp) e).0, ← eqb-true stamp s.stamp (and_parts (till == s.from) (stamp == s.stamp) e).1)
    (merged (value_at ss t) from till s.till stamp t lt (omega (arith, max.0, max.1, eqb-true till s.from (and_parts (till == s.from) (stamp == s.stamp) e).0)))))
    (λ e. rw e refl)

value-onto : (from till t : ℕ) (o : Option ℕ) (ss : List Stretch) → from < till → AreMaximal till ss
    → value_at (onto from till o ss) t ≡ option_or (value_at ss t) (option_and_then (λ stamp. then_some (has from till t) stamp) o)
value-onto from till t None ss lt max = sym (option_or-none (value_at ss t))
value-onto from till t (Some stamp) ss lt max = value-joined from till stamp t ss lt max

-- nothing stands before the first
pub value-before : (t low : ℕ) (ss : List Stretch) → t < low → AreMaximal low ss → value_at ss t ≡ None
value-before t low [] lt max = refl
value-before t low (s ∷ ss) lt max =
    rw (value-before t s.till ss (omega (arith, lt, max.0, max.1)) max.3, has-not t s.from s.till (omega (arith, lt, max.0))) refl
  where
    has-not : (t' from till : ℕ) → t' < from → has from till t' ≡ false
    has-not t' from till below = grind (arith, below)

kept : (o : Option ℕ) → option_and_then (λ stamp. then_some true stamp) o ≡ o
kept None = refl
kept (Some stamp) = refl

let_go : (o : Option ℕ) → option_and_then (λ stamp. then_some false stamp) o ≡ None
let_go None = refl
let_go (Some stamp) = refl

has-within : (from till t : ℕ) → from ≤ t → t < till → has from till t ≡ true
has-within from till t le lt = grind (arith, le, lt)

-- stretches hold what the function gives
pub value-stretches : (f : ℕ → Option ℕ) (low : ℕ) (cs : List ℕ) → Up low cs → Steady f low cs → (t : ℕ) → low ≤ t → value_at (stretches f low cs) t ≡ f t
value-stretches f low [] up steady t le = sym (steady t le)
value-stretches f low (a ∷ cs) up steady t le =
    value-onto low a t (f low) (stretches f a cs) up.0 (AreMaximal-stretches f a cs up.1)
    ∙ by_test (nat_lt t a)
    (λ e. rw (value-before t a (stretches f a cs) (ltb-true t a e) (AreMaximal-stretches f a cs up.1), has-within low a t le (ltb-true t a e), kept (f low))
    (sym (steady.0 t le (ltb-true t a e))))
    (λ e. rw (has-behind low a a t (omega arith) (ltb-false t a e), let_go (f low), option_or-none (value_at (stretches f a cs) t))
    (value-stretches f a cs up.1 steady.1 t (ltb-false t a e)))

-- at each moment the rows of a key hold what the list holds there
pub value-rows : (es : List Entry) (table : ℕ) (key : List Value) (t : ℕ) → value_at (rows_of_key es table key) t ≡ stamp_at es table key t
value-rows es table key t =
    value-stretches (stamp_at es table key) 0 (cuts es table key) (Up-cuts es table key) (Steady-stamps es table key) t (omega arith)

-- and they are as long as they can be
pub AreMaximal-rows : (es : List Entry) (table : ℕ) (key : List Value) → AreMaximal 0 (rows_of_key es table key)
AreMaximal-rows es table key = AreMaximal-stretches (stamp_at es table key) 0 (cuts es table key) (Up-cuts es table key)
