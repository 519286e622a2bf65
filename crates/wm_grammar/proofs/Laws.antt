-- What makes a reader exact: it finds the longest front that begins the form, and whether that is a whole one.
use Rattle.std.proofs.Common.{◌≡◌, ℕ, Bool, true, false, cond, List, [], ◌∷◌, ◌++◌, refl, sym, ap, subst, ◌∙◌, append_assoc, inl, inr, Option, Some, None, Result, Ok, Err}
use Rattle.std.specs.Prelude.{◌⊎◌, ◌==◌, ◌||◌, ◌&&◌}
use Rattle.std.proofs.lemmas.List.{append-nil}
use Rattle.std.proofs.lemmas.Bool.{eqb-true, eq-eqb, or_cases, or_left, or_right}
use Rattle.wm_grammar.specs.Symbols.{Symbol, left_of, has, next_in}
use Rattle.wm_grammar.specs.Forms as forms
use Rattle.wm_grammar.specs.Forms.{Form, gives, one_for, never, ◌or◌, optional}
use Rattle.wm_grammar.specs.Reading as reading
use Rattle.wm_grammar.specs.Reading.{Reader, bind, gives_at, never_at, taken, one_for_at, choose_at, optional_at}
use Rattle.wm_grammar.proofs.Lists.{two_cuts, joins, within, apart, off, within_has, apart_has, has_left, has_right, joins_left, joins_right, apart_nil, within_itself}

-- ---- what is told of a form by sorts alone

pub record Shape : Type 0 where
  pub empty : Bool  -- nothing may be a whole one
  pub first : List ℕ  -- no other sorts begin one
  pub next : List ℕ  -- no other sorts continue a whole one
  pub sure : List ℕ  -- each symbol of these sorts begins one

pub record Orderly {A : Type 0} (f : Form A) (h : Shape) : Type 0 where
  pub none : f.Begins []
  pub whole : {u : List Symbol} {x : A} → f.Whole u x → f.Begins u
  pub front : (u v : List Symbol) → f.Begins (u ++ v) → f.Begins u
  pub only : {u : List Symbol} {x y : A} → f.Whole u x → f.Whole u y → x ≡ y
  pub full : h.empty ≡ false → {x : A} → f.Whole [] x → ⊥
  pub first : (c : Symbol) (v : List Symbol) → f.Begins (c ∷ v) → has h.first c.sort ≡ true
  pub next : (u : List Symbol) (x : A) (c : Symbol) (v : List Symbol) → f.Whole u x → f.Begins (u ++ c ∷ v) → has h.next c.sort ≡ true
  pub sure : (c : Symbol) → has h.sure c.sort ≡ true → f.Begins (c ∷ [])

-- ---- what a reader finds

-- the next symbol does not go on
abbrev pub Stuck : {A : Type 0} → Form A → List Symbol → List Symbol → Type 0
Stuck f used rest = (c : Symbol) (e : List Symbol) → rest ≡ c ∷ e → f.Begins (used ++ c ∷ []) → ⊥

pub record Read {A : Type 0} (f : Form A) (ts : List Symbol) (x : A) (rest : List Symbol) : Type 0 where
  pub used : List Symbol
  pub is : ts ≡ used ++ rest
  pub whole : f.Whole used x
  pub stuck : Stuck f used rest

pub record Bad {A : Type 0} (f : Form A) (ts : List Symbol) (n : ℕ) : Type 0 where
  pub used : List Symbol
  pub rest : List Symbol
  pub is : ts ≡ used ++ rest
  pub count : n ≡ left_of rest
  pub begins : f.Begins used
  pub stuck : Stuck f used rest
  pub unfinished : (x : A) → f.Whole used x → ⊥

abbrev pub Found : {A : Type 0} → Form A → List Symbol → Result (A × List Symbol) ℕ → Type 0
Found f ts (Ok q) = Read f ts q.0 q.1
Found f ts (Err n) = Bad f ts n

pub record Exact {A : Type 0} (f : Form A) (r : Reader A) (h : Shape) : Type 0 where
  pub orderly : Orderly f h
  pub reads : (ts : List Symbol) → Found f ts (r ts)

-- ---- nothing

abbrev pub gives_shape : Shape
gives_shape = record { empty = true; first = []; next = []; sure = [] }

pub gives_exact : {A : Type 0} (x : A) → Exact (gives x) (gives_at x) gives_shape
gives_exact x = record {
  orderly = record {
    none = refl;
    whole = λ w. w.0;
    front = λ u v b. nil_front u v b;
    only = λ p q. p.1 ∙ sym q.1;
    full = λ e w. cc;
    first = λ c v b. absurd cc;
    next = λ u y c v w b. absurd (not_nil u c v b);
    sure = λ c h. absurd cc;
  };
  reads = λ ts. record { used = []; is = refl; whole = (refl, refl); stuck = λ c e is b. cc };
}
  where
    nil_front : (u v : List Symbol) → u ++ v ≡ [] → u ≡ []
    nil_front [] v b = refl
    nil_front (c ∷ u) v b = absurd cc

    not_nil : (u : List Symbol) (c : Symbol) (v : List Symbol) → u ++ c ∷ v ≡ [] → ⊥
    not_nil [] c v b = cc
    not_nil (d ∷ u) c v b = cc

-- ---- what no symbol continues

abbrev pub never_shape : Shape
never_shape = record { empty = false; first = []; next = []; sure = [] }

prefix_nil : (u v : List Symbol) → u ++ v ≡ [] → u ≡ []
prefix_nil [] v b = refl
prefix_nil (c ∷ u) v b = absurd cc

pub never_exact : {A : Type 0} → Exact {A = A} never never_at never_shape
never_exact {A} = record {
  orderly = record {
    none = refl;
    whole = λ w. absurd w;
    front = λ u v b. prefix_nil u v b;
    only = λ p q. absurd p;
    full = λ e w. w;
    first = λ c v b. absurd cc;
    next = λ u y c v w b. absurd w;
    sure = λ c h. absurd cc;
  };
  reads = λ ts. record { used = []; rest = ts; is = refl; count = refl; begins = refl; stuck = λ c e is b. cc; unfinished = λ x w. w };
}

-- ---- one symbol

abbrev pub one_shape : ℕ → List ℕ → Shape
one_shape sort sure = record { empty = false; first = sort ∷ []; next = []; sure = sure }

one_front : {A : Type 0} (sort : ℕ) (value : Symbol → Option A) (u v : List Symbol) → (one_for sort value).Begins (u ++ v) → (one_for sort value).Begins u
one_front sort value [] v b = inl refl
one_front {A} sort value (c ∷ u) v b =
    elim b [
      | inl e ↦ absurd cc
      | inr p ↦
          let rest : u ++ v ≡ [] = cc (p.2) in
          let none : u ≡ [] = prefix_nil u v rest in
          let head : c ≡ p.0 = cc (p.2) in
          inr (p.0, p.1, cc, p.3, p.4)
    ]

one_none_at : {A : Type 0} (sort : ℕ) (value : Symbol → Option A) (t : Symbol) (ts : List Symbol) (used : List Symbol) → ((y : A) → t.sort ≡ sort → value t ≡ Some y → ⊥)
    → Stuck (one_for sort value) [] (t ∷ ts)
one_none_at sort value t ts used none c e is b =
    elim b [
      | inl p ↦ cc
      | inr p ↦ let same : t ≡ p.0 = cc (is, p.2) in none p.1 (ap (λ (s : Symbol). s.sort) same ∙ p.3) (ap value same ∙ p.4)
    ]

one_refused : {A : Type 0} (sort : ℕ) (value : Symbol → Option A) (t : Symbol) (ts : List Symbol) → ((y : A) → t.sort ≡ sort → value t ≡ Some y → ⊥) → Bad (one_for sort value) (t ∷ ts) t.left
one_refused sort value t ts none = record {
  used = [];
  rest = t ∷ ts;
  is = refl;
  count = refl;
  begins = inl refl;
  stuck = one_none_at sort value t ts [] none;
  unfinished = λ x w. let e : [] ≡ w.0 ∷ [] = w.1 in cc;
}

one_taken : {A : Type 0} (sort : ℕ) (value : Symbol → Option A) (t : Symbol) (ts : List Symbol) (o : Option A) → value t ≡ o → t.sort ≡ sort → Found (one_for sort value) (t ∷ ts) (taken o t ts)
one_taken sort value t ts None v s = one_refused sort value t ts (λ y e w. cc (v, w))
one_taken sort value t ts (Some y) v s = record {
  used = t ∷ [];
  is = refl;
  whole = (t, refl, s, v);
  stuck = λ c e is b. elim b [ inl p ↦ cc | inr p ↦ cc (p.2) ];
}

one_reads : {A : Type 0} (sort : ℕ) (value : Symbol → Option A) (ts : List Symbol) → Found (one_for sort value) ts (one_for_at sort value ts)
one_reads sort value [] = record {
  used = [];
  rest = [];
  is = refl;
  count = refl;
  begins = inl refl;
  stuck = λ c e is b. cc;
  unfinished = λ x w. let e : [] ≡ w.0 ∷ [] = w.1 in cc;
}
one_reads sort value (t ∷ ts) = go (t.sort == sort) refl
  where
    go : (b : Bool) → (t.sort == sort) ≡ b → Found (one_for sort value) (t ∷ ts) (cond b (taken (value t) t ts) (Err t.left))
    go true e = one_taken sort value t ts (value t) refl (eqb-true t.sort sort e)
    go false e = one_refused sort value t ts (λ y s w. let k : (t.sort == sort) ≡ true = eq-eqb t.sort sort s in cc)

one_only : {A : Type 0} (value : Symbol → Option A) (s t : Symbol) (x y : A) → s ∷ [] ≡ t ∷ [] → value s ≡ Some x → value t ≡ Some y → x ≡ y
one_only value s t x y e p q =
    let same : s ≡ t = cc in
    let here : value s ≡ value t = ap value same in
    cc

one_orderly : {A : Type 0} (sort : ℕ) (value : Symbol → Option A) (sure : List ℕ) → ((c : Symbol) → has sure c.sort ≡ true → (one_for sort value).Begins (c ∷ [])) → Orderly (one_for sort value) (one_shape sort sure)
one_orderly sort value sure begins = record {
  none = inl refl;
  whole = λ {u} {x} w. inr (w.0, x, w.1, w.2, w.3);
  front = one_front sort value;
  only = λ {u} {x} {y} p q. one_only value p.0 q.0 x y (sym p.1 ∙ q.1) p.3 q.3;
  full = λ e {x} w. let e : [] ≡ w.0 ∷ [] = w.1 in cc;
  first = λ c v b. elim b [
    | inl p ↦ absurd cc
    | inr p ↦ let same : c ≡ p.0 = cc (p.2) in or_left (c.sort == sort) false (eq-eqb c.sort sort (ap (λ (s : Symbol). s.sort) same ∙ p.3))
  ];
  next = λ u x c v w b. absurd (elim b [
    | inl p ↦ let e : u ≡ w.0 ∷ [] = w.1 in cc
    | inr p ↦ let e : u ≡ w.0 ∷ [] = w.1 in cc (p.2)
  ]);
  sure = begins;
}

-- a symbol of this sort, if it has a value
pub one_for_exact : {A : Type 0} (sort : ℕ) (value : Symbol → Option A) → Exact (one_for sort value) (one_for_at sort value) (one_shape sort [])
one_for_exact sort value = record { orderly = one_orderly sort value [] (λ c h. absurd cc); reads = one_reads sort value }

-- each symbol of this sort has a value
pub one_exact : {A : Type 0} (sort : ℕ) (value : Symbol → A) → Exact (one_for sort (λ t. Some (value t))) (one_for_at sort (λ t. Some (value t))) (one_shape sort (sort ∷ []))
one_exact {A} sort value = record {
  orderly = one_orderly sort (λ t. Some (value t)) (sort ∷ [])
      (λ c h. elim (or_cases (c.sort == sort) false h) [ inl e ↦ inr (c, value c, refl, eqb-true c.sort sort e, refl) | inr e ↦ absurd cc ]);
  reads = one_reads sort (λ t. Some (value t));
}

pub mark_exact : (sort : ℕ) → Exact (forms.mark sort) (reading.mark_at sort) (one_shape sort (sort ∷ []))
mark_exact sort = one_exact sort (λ _. tt)

pub text_exact : (sort : ℕ) → Exact (forms.text_of sort) (reading.text_at sort) (one_shape sort (sort ∷ []))
text_exact sort = one_exact sort (λ t. t.text)

-- ---- two parts

abbrev pub then_shape : Shape → Shape → Shape
then_shape h k = record {
  empty = h.empty && k.empty;
  first = joins h.empty h.first k.first;
  next = joins k.empty k.next h.next;
  sure = h.sure;
}

pub append_nil_is : {A : Type 0} (u v : List A) → [] ≡ u ++ v → (u ≡ []) × (v ≡ [])
append_nil_is [] v e = (refl, sym e)
append_nil_is (x ∷ u) v e = absurd cc

module _ {A B : Type 0} (f : Form A) (g : A → Form B) (h k : Shape) (of : Orderly f h) (og : (x : A) → Orderly (g x) k) (free : apart h.next k.first ≡ true) where
  -- what continues a whole first part does not begin the second
  clash : (x y : A) (u : List Symbol) (c : Symbol) (m n : List Symbol) → f.Whole u x → f.Begins (u ++ c ∷ m) → (g y).Begins (c ∷ n) → ⊥
  clash x y u c m n w b d = apart_has h.next k.first c.sort free (of.next u x c m w b) ((og y).first c n d)

  then_front : (u v : List Symbol) → (forms.◌>>=◌ f g).Begins (u ++ v) → (forms.◌>>=◌ f g).Begins u
  then_front u v b =
      elim b [
        | inl p ↦ inl (of.front u v p)
        | inr p ↦ elim (two_cuts p.1 p.2 u v (sym p.3)) [
          | inl q ↦ let e : p.2 ≡ q.between ++ v = q.back in
              inr (p.0, p.1, q.between, q.front, p.4, (og p.0).front q.between v (subst (λ (w : List Symbol). (g p.0).Begins w) e p.5))
          | inr q ↦ let e : p.1 ≡ u ++ (q.next ∷ q.between) = q.front in
              inl (of.front u (q.next ∷ q.between) (subst (λ (w : List Symbol). f.Begins w) e (of.whole p.4)))
        ]
      ]

  -- a second cut where a whole first part and a beginning of the second stand is the same cut
  same_cut : (x y : A) (a b c d : List Symbol) → a ++ b ≡ c ++ d → f.Whole a x → f.Whole c y → (g x).Begins b → (g y).Begins d → (a ≡ c) × (b ≡ d) × (x ≡ y)
  same_cut x y a b c d e wa wc gb gd =
      elim (two_cuts a b c d e) [
        | inl q ↦ behind q.between q.front q.back
        | inr q ↦
            absurd (clash y x c q.next q.between (q.between ++ b) wc (subst (λ (w : List Symbol). f.Begins w) q.front (of.whole wa)) (absurd (clash y y c q.next q.between (q.between ++ b) wc (subst (λ (w : List Symbol). f.Begins w) q.front (of.whole wa)) (subst (λ (w : List Symbol). (g y).Begins w) q.back gd))))
      ]
    where
      behind : (m : List Symbol) → c ≡ a ++ m → b ≡ m ++ d → (a ≡ c) × (b ≡ d) × (x ≡ y)
      behind [] p q =
          let same : c ≡ a = p ∙ append-nil a in
          (sym same, q, of.only wa (subst (λ (w : List Symbol). f.Whole w y) same wc))
      behind (s ∷ m) p q =
          absurd (clash x x a s m (m ++ d) wa (subst (λ (w : List Symbol). f.Begins w) p (of.whole wc)) (subst (λ (w : List Symbol). (g x).Begins w) q gb))

  then_only : {u : List Symbol} {y z : B} → (forms.◌>>=◌ f g).Whole u y → (forms.◌>>=◌ f g).Whole u z → y ≡ z
  then_only {u} {y} {z} p q =
      let same = same_cut p.0 q.0 p.1 p.2 q.1 q.2 (sym p.3 ∙ q.3) p.4 q.4 ((og p.0).whole p.5) ((og q.0).whole q.5) in
      let w : (g q.0).Whole q.2 y = subst (λ (x : A). (g x).Whole q.2 y) same.2 (subst (λ (v : List Symbol). (g p.0).Whole v y) same.1 p.5) in
      (og q.0).only w q.5

  then_full : (h.empty && k.empty) ≡ false → {y : B} → (forms.◌>>=◌ f g).Whole [] y → ⊥
  then_full e {y} w =
      let nil = append_nil_is w.1 w.2 w.3 in
      go h.empty k.empty refl refl e (subst (λ (v : List Symbol). f.Whole v w.0) nil.0 w.4) (subst (λ (v : List Symbol). (g w.0).Whole v y) nil.1 w.5)
    where
      go : (a b : Bool) → h.empty ≡ a → k.empty ≡ b → (a && b) ≡ false → f.Whole [] w.0 → (g w.0).Whole [] y → ⊥
      go true b ea eb e fw gw = (og w.0).full (eb ∙ e) gw
      go false b ea eb e fw gw = of.full ea fw

  empty_of : {x : A} → f.Whole [] x → h.empty ≡ true
  empty_of {x} w = go h.empty refl
    where
      go : (b : Bool) → h.empty ≡ b → b ≡ true
      go true e = refl
      go false e = absurd (of.full e w)

  empty_then : (x : A) (y : B) → (g x).Whole [] y → k.empty ≡ true
  empty_then x y w = go k.empty refl
    where
      go : (b : Bool) → k.empty ≡ b → b ≡ true
      go true e = refl
      go false e = absurd ((og x).full e w)

  then_first : (c : Symbol) (v : List Symbol) → (forms.◌>>=◌ f g).Begins (c ∷ v) → has (joins h.empty h.first k.first) c.sort ≡ true
  then_first c v b =
      elim b [
        | inl p ↦ joins_left h.empty h.first k.first c.sort (of.first c v p)
        | inr p ↦ go p.0 p.1 p.2 p.3 p.4 p.5
      ]
    where
      go : (x : A) (u w : List Symbol) → c ∷ v ≡ u ++ w → f.Whole u x → (g x).Begins w → has (joins h.empty h.first k.first) c.sort ≡ true
      go x [] w e fw gw = joins_right h.empty h.first k.first c.sort (empty_of fw) ((og x).first c v (subst (λ (z : List Symbol). (g x).Begins z) (sym e) gw))
      go x (d ∷ u) w e fw gw = let same : c ≡ d = cc in joins_left h.empty h.first k.first c.sort (rw same (of.first d u (of.whole fw)))

  then_next : (u : List Symbol) (y : B) (c : Symbol) (v : List Symbol) → (forms.◌>>=◌ f g).Whole u y → (forms.◌>>=◌ f g).Begins (u ++ c ∷ v) → has (joins k.empty k.next h.next) c.sort ≡ true
  then_next u y c v w b =
      elim b [
        | inl p ↦ longer w.0 w.1 w.2 w.3 w.4 w.5 p
        | inr p ↦ cut p.0 p.1 p.2 p.3 p.4 p.5
      ]
    where
      longer : (x : A) (a d : List Symbol) → u ≡ a ++ d → f.Whole a x → (g x).Whole d y → f.Begins (u ++ c ∷ v) → has (joins k.empty k.next h.next) c.sort ≡ true
      longer x a [] e fw gw p =
          let same : u ≡ a = e ∙ append-nil a in
          joins_right k.empty k.next h.next c.sort (empty_then x y gw) (of.next a x c v fw (subst (λ (z : List Symbol). f.Begins (z ++ c ∷ v)) same p))
      longer x a (s ∷ d) e fw gw p =
          let long : u ++ c ∷ v ≡ a ++ s ∷ (d ++ c ∷ v) = ap (λ (z : List Symbol). z ++ c ∷ v) e ∙ append_assoc a (s ∷ d) (c ∷ v) in
          absurd (clash x x a s (d ++ c ∷ v) d fw (subst (λ (z : List Symbol). f.Begins z) long p) ((og x).whole gw))

      cut : (x : A) (a d : List Symbol) → u ++ c ∷ v ≡ a ++ d → f.Whole a x → (g x).Begins d → has (joins k.empty k.next h.next) c.sort ≡ true
      cut x a d e fw gd =
          let own : (w.1 ++ (w.2 ++ c ∷ v)) ≡ a ++ d = sym (ap (λ (z : List Symbol). z ++ c ∷ v) w.3 ∙ append_assoc w.1 w.2 (c ∷ v)) ∙ e in
          elim (two_cuts w.1 (w.2 ++ c ∷ v) a d own) [
            | inl q ↦ behind q.between q.front q.back
            | inr q ↦
                absurd (clash x x a q.next q.between (q.between ++ (w.2 ++ c ∷ v)) fw (subst (λ (z : List Symbol). f.Begins z) q.front (of.whole w.4)) (subst (λ (z : List Symbol). (g x).Begins z) q.back gd))
          ]
        where
          behind : (m : List Symbol) → a ≡ w.1 ++ m → w.2 ++ c ∷ v ≡ m ++ d → has (joins k.empty k.next h.next) c.sort ≡ true
          behind [] p q =
              let same : a ≡ w.1 = p ∙ append-nil w.1 in
              let value : w.0 ≡ x = of.only w.4 (subst (λ (z : List Symbol). f.Whole z x) same fw) in
              let gd2 : (g w.0).Begins (w.2 ++ c ∷ v) = subst (λ (z : List Symbol). (g w.0).Begins z) (sym q) (subst (λ (z : A). (g z).Begins d) (sym value) gd) in
              joins_left k.empty k.next h.next c.sort ((og w.0).next w.2 y c v w.5 gd2)
          behind (s ∷ m) p q = at_next w.2 refl s m p q
            where
              at_next : (z : List Symbol) → w.2 ≡ z → (s : Symbol) (m : List Symbol) → a ≡ w.1 ++ s ∷ m → w.2 ++ c ∷ v ≡ s ∷ m ++ d → has (joins k.empty k.next h.next) c.sort ≡ true
              at_next [] e s m p q =
                  let head : c ∷ v ≡ s ∷ (m ++ d) = sym (ap (λ (z : List Symbol). z ++ c ∷ v) e) ∙ q in
                  let same : c ≡ s = cc in
                  joins_right k.empty k.next h.next c.sort (empty_then w.0 y (subst (λ (z : List Symbol). (g w.0).Whole z y) e w.5))
                  (rw same (of.next w.1 w.0 s m w.4 (subst (λ (z : List Symbol). f.Begins z) p (of.whole fw))))
              at_next (t ∷ z) e s m p q =
                  let head : t ∷ (z ++ c ∷ v) ≡ s ∷ (m ++ d) = sym (ap (λ (z : List Symbol). z ++ c ∷ v) e) ∙ q in
                  let same : t ≡ s = cc in
                  absurd (clash w.0 w.0 w.1 s m z w.4 (subst (λ (z : List Symbol). f.Begins z) p (of.whole fw))
                  (subst (λ (r : Symbol). (g w.0).Begins (r ∷ z)) same (subst (λ (z : List Symbol). (g w.0).Begins z) e ((og w.0).whole w.5))))

  pub then_orderly : Orderly (forms.◌>>=◌ f g) (then_shape h k)
  then_orderly = record {
    none = inl of.none;
    whole = λ {u} {x} w. inr (w.0, w.1, w.2, w.3, w.4, (og w.0).whole w.5);
    front = then_front;
    only = then_only;
    full = then_full;
    first = then_first;
    next = then_next;
    sure = λ c s. inl (of.sure c s);
  }

  -- how the symbols go on behind a whole first part
  stuck_first : (x : A) (used rest : List Symbol) → f.Whole used x → Stuck f used rest → (m : List Symbol) (s : Symbol) (w e : List Symbol) → w ≡ s ∷ m → rest ≡ w ++ e → f.Begins (used ++ s ∷ []) → ⊥
  stuck_first x used rest wf st m s w e p q b = st s (m ++ e) (q ∙ ap (λ (z : List Symbol). z ++ e) p) b

  -- the only cut of a whole first part, which does not go on, and a front of what follows it
  cut_is : (x : A) (used rest : List Symbol) → f.Whole used x → Stuck f used rest → (w e : List Symbol) → rest ≡ w ++ e
      → (y : A) (a d : List Symbol) → used ++ w ≡ a ++ d → f.Whole a y → (g y).Begins d → (a ≡ used) × (d ≡ w) × (y ≡ x)
  cut_is x used rest wf st w e re y a d eq wa gd =
      elim (two_cuts used w a d eq) [
        | inl q ↦ behind q.between q.front q.back
        | inr q ↦ absurd (clash y y a q.next q.between (q.between ++ w) wa (subst (λ (z : List Symbol). f.Begins z) q.front (of.whole wf)) (subst (λ (z : List Symbol). (g y).Begins z) q.back gd))
      ]
    where
      behind : (m : List Symbol) → a ≡ used ++ m → w ≡ m ++ d → (a ≡ used) × (d ≡ w) × (y ≡ x)
      behind [] p q =
          let same : a ≡ used = p ∙ append-nil used in
          (same, sym q, of.only (subst (λ (z : List Symbol). f.Whole z y) same wa) wf)
      behind (s ∷ m) p q =
          let long : a ≡ (used ++ s ∷ []) ++ m = p ∙ sym (append_assoc used (s ∷ []) m) in
          absurd (st s (m ++ d ++ e) (re ∙ ap (λ (z : List Symbol). z ++ e) q)
          (of.front (used ++ s ∷ []) m (subst (λ (z : List Symbol). f.Begins z) long (of.whole wa))))

  then_stuck : (x : A) (used rest more left : List Symbol) → f.Whole used x → Stuck f used rest → rest ≡ more ++ left → (g x).Begins more → Stuck (g x) more left → Stuck (forms.◌>>=◌ f g) (used ++ more) left
  then_stuck x used rest more left wf st re gb sg c e le b =
      elim b [
        | inl p ↦ longer more re (subst (λ (z : List Symbol). f.Begins z) (append_assoc used more (c ∷ [])) p)
        | inr p ↦
            let eq : used ++ (more ++ c ∷ []) ≡ p.1 ++ p.2 = sym (append_assoc used more (c ∷ [])) ∙ p.3 in
            let whole_rest : rest ≡ (more ++ c ∷ []) ++ e = re ∙ ap (λ (z : List Symbol). more ++ z) le ∙ sym (append_assoc more (c ∷ []) e) in
            let is = cut_is x used rest wf st (more ++ c ∷ []) e whole_rest p.0 p.1 p.2 eq p.4 p.5 in
            sg c e le (subst (λ (z : List Symbol). (g x).Begins z) is.1 (subst (λ (z : A). (g z).Begins p.2) is.2 p.5))
      ]
    where
      longer : (w : List Symbol) → rest ≡ w ++ left → f.Begins (used ++ (w ++ c ∷ [])) → ⊥
      longer [] re b = st c e (re ∙ le) b
      longer (s ∷ w) re b =
          st s (w ++ left) re (of.front (used ++ s ∷ []) (w ++ c ∷ []) (subst (λ (z : List Symbol). f.Begins z) (sym (append_assoc used (s ∷ []) (w ++ c ∷ []))) b))

  pub then_after : (x : A) (ts used rest : List Symbol) → ts ≡ used ++ rest → f.Whole used x → Stuck f used rest → (o : Result (B × List Symbol) ℕ) → Found (g x) rest o → Found (forms.◌>>=◌ f g) ts o
  then_after x ts used rest is wf st (Ok q) p = record {
    used = used ++ p.used;
    is = is ∙ ap (λ (z : List Symbol). used ++ z) p.is ∙ sym (append_assoc used p.used q.1);
    whole = (x, used, p.used, refl, wf, p.whole);
    stuck = then_stuck x used rest p.used q.1 wf st p.is ((og x).whole p.whole) p.stuck;
  }
  then_after x ts used rest is wf st (Err n) p = record {
    used = used ++ p.used;
    rest = p.rest;
    is = is ∙ ap (λ (z : List Symbol). used ++ z) p.is ∙ sym (append_assoc used p.used p.rest);
    count = p.count;
    begins = inr (x, used, p.used, refl, wf, p.begins);
    stuck = then_stuck x used rest p.used p.rest wf st p.is p.begins p.stuck;
    unfinished = λ y w.
        let cut = cut_is x used rest wf st p.used p.rest p.is w.0 w.1 w.2 w.3 w.4 ((og w.0).whole w.5) in
        p.unfinished y (subst (λ (z : List Symbol). (g x).Whole z y) cut.1 (subst (λ (z : A). (g z).Whole w.2 y) cut.2 w.5));
  }

  -- a first part that is not whole
  pub then_bad : (ts : List Symbol) (n : ℕ) → Bad f ts n → Bad (forms.◌>>=◌ f g) ts n
  then_bad ts n p = record {
    used = p.used;
    rest = p.rest;
    is = p.is;
    count = p.count;
    begins = inl p.begins;
    stuck = λ c e re b. elim b [
      | inl q ↦ p.stuck c e re q
      | inr q ↦ elim (two_cuts p.used (c ∷ []) q.1 q.2 q.3) [
        | inl r ↦ behind c e re q.0 q.1 q.4 r.between q.2 r.front r.back
        | inr r ↦ clash q.0 q.0 q.1 r.next r.between (r.between ++ c ∷ []) q.4 (subst (λ (z : List Symbol). f.Begins z) r.front p.begins) (subst (λ (z : List Symbol). (g q.0).Begins z) r.back q.5)
      ]
    ];
    unfinished = λ y w. cut w.0 w.1 w.2 w.3 w.4 ((og w.0).whole w.5);
  }
    where
      behind : (c : Symbol) (e : List Symbol) → p.rest ≡ c ∷ e → (x : A) (a : List Symbol) → f.Whole a x → (m d : List Symbol) → a ≡ p.used ++ m → c ∷ [] ≡ m ++ d → ⊥
      behind c e re x a wa [] d k l = p.unfinished x (subst (λ (z : List Symbol). f.Whole z x) (k ∙ append-nil p.used) wa)
      behind c e re x a wa (s ∷ m) d k l =
          let same : c ≡ s = cc in
          let long : a ≡ (p.used ++ c ∷ []) ++ m = k ∙ ap (λ (z : Symbol). p.used ++ z ∷ m) (sym same) ∙ sym (append_assoc p.used (c ∷ []) m) in
          p.stuck c e re (of.front (p.used ++ c ∷ []) m (subst (λ (z : List Symbol). f.Begins z) long (of.whole wa)))

      cut : (x : A) (a d : List Symbol) → p.used ≡ a ++ d → f.Whole a x → (g x).Begins d → ⊥
      cut x a [] k wa gd = p.unfinished x (subst (λ (z : List Symbol). f.Whole z x) (sym (k ∙ append-nil a)) wa)
      cut x a (s ∷ d) k wa gd = clash x x a s d d wa (subst (λ (z : List Symbol). f.Begins z) k p.begins) gd

  pub then_found : (s : A → Reader B) → ((x : A) (ts : List Symbol) → Found (g x) ts (s x ts)) → (ts : List Symbol) (o : Result (A × List Symbol) ℕ) → Found f ts o
      → Found (forms.◌>>=◌ f g) ts (bind o (λ q. s q.0 q.1))
  then_found s gs ts (Ok q) p = then_after q.0 ts p.used q.1 p.is p.whole p.stuck (s q.0 q.1) (gs q.0 q.1)
  then_found s gs ts (Err n) p = then_bad ts n p

-- a first part, and then a second one that does not begin as the first goes on
pub then_exact : {A B : Type 0} {f : Form A} {g : A → Form B} {r : Reader A} {s : A → Reader B} {h k : Shape} → Exact f r h → ((x : A) → Exact (g x) (s x) k) → apart h.next k.first ≡ true
    → Exact (forms.◌>>=◌ f g) (reading.◌>>=◌ r s) (then_shape h k)
then_exact {A} {B} {f} {g} {r} {s} {h} {k} ef eg free = record {
  orderly = then_orderly f g h k ef.orderly (λ x. (eg x).orderly) free;
  reads = λ ts. then_found f g h k ef.orderly (λ x. (eg x).orderly) free s (λ x us. (eg x).reads us) ts (r ts) (ef.reads ts);
}

-- ---- one of two

abbrev pub or_shape : Shape → Shape → Shape
or_shape h k = record {
  empty = k.empty;
  first = h.first ++ k.first;
  next = joins k.empty (h.next ++ k.next) h.first;
  sure = h.sure ++ k.sure;
}

-- where nothing is a whole second choice, it is told by the next symbol alone whether the first one is begun
abbrev pub decided : Shape → Shape → Bool
decided h k = off k.empty || within h.first h.sure

module _ {A : Type 0} (f g : Form A) (h k : Shape) (of : Orderly f h) (og : Orderly g k) (solid : h.empty ≡ false) (free : apart h.first k.first ≡ true) where
  -- no symbols but none begin both
  clash_or : (c : Symbol) (m n : List Symbol) → f.Begins (c ∷ m) → g.Begins (c ∷ n) → ⊥
  clash_or c m n a b = apart_has h.first k.first c.sort free (of.first c m a) (og.first c n b)

  or_only : {u : List Symbol} {x y : A} → (forms.◌or◌ f g).Whole u x → (forms.◌or◌ f g).Whole u y → x ≡ y
  or_only {u} {x} {y} p q =
      elim p [
        | inl a ↦ elim q [ inl b ↦ of.only a b | inr b ↦ mixed u a b ]
        | inr a ↦ elim q [ inl b ↦ sym (mixed u b a) | inr b ↦ og.only a b ]
      ]
    where
      mixed : (u : List Symbol) {x y : A} → f.Whole u x → g.Whole u y → x ≡ y
      mixed [] a b = absurd (of.full solid a)
      mixed (c ∷ u) a b = absurd (clash_or c u u (of.whole a) (og.whole b))

  or_next : (u : List Symbol) (x : A) (c : Symbol) (v : List Symbol) → (forms.◌or◌ f g).Whole u x → (forms.◌or◌ f g).Begins (u ++ c ∷ v) → has (joins k.empty (h.next ++ k.next) h.first) c.sort ≡ true
  or_next u x c v w b =
      elim w [
        | inl a ↦ elim b [
          | inl p ↦ joins_left k.empty (h.next ++ k.next) h.first c.sort (has_left h.next k.next c.sort (of.next u x c v a p))
          | inr p ↦ first u a p
        ]
        | inr a ↦ elim b [
          | inl p ↦ second u a p
          | inr p ↦ joins_left k.empty (h.next ++ k.next) h.first c.sort (has_right h.next k.next c.sort (og.next u x c v a p))
        ]
      ]
    where
      first : (u : List Symbol) → f.Whole u x → g.Begins (u ++ c ∷ v) → has (joins k.empty (h.next ++ k.next) h.first) c.sort ≡ true
      first [] a p = absurd (of.full solid a)
      first (d ∷ u) a p = absurd (clash_or d u (u ++ c ∷ v) (of.whole a) p)

      second : (u : List Symbol) → g.Whole u x → f.Begins (u ++ c ∷ v) → has (joins k.empty (h.next ++ k.next) h.first) c.sort ≡ true
      second [] a p = joins_right k.empty (h.next ++ k.next) h.first c.sort (go k.empty refl) (of.first c v p)
        where
          go : (b : Bool) → k.empty ≡ b → b ≡ true
          go true e = refl
          go false e = absurd (og.full e a)
      second (d ∷ u) a p = absurd (clash_or d (u ++ c ∷ v) u p (og.whole a))

  or_orderly : Orderly (forms.◌or◌ f g) (or_shape h k)
  or_orderly = record {
    none = inl of.none;
    whole = λ {u} {x} w. elim w [ inl a ↦ inl (of.whole a) | inr a ↦ inr (og.whole a) ];
    front = λ u v b. elim b [ inl p ↦ inl (of.front u v p) | inr p ↦ inr (og.front u v p) ];
    only = or_only;
    full = λ e {x} w. elim w [ inl a ↦ of.full solid a | inr a ↦ og.full e a ];
    first = λ c v b. elim b [ inl p ↦ has_left h.first k.first c.sort (of.first c v p) | inr p ↦ has_right h.first k.first c.sort (og.first c v p) ];
    next = or_next;
    sure = λ c s. sure_or c s;
  }
    where
      has_either : (xs ys : List ℕ) (s : ℕ) → has (xs ++ ys) s ≡ true → (has xs s ≡ true) ⊎ (has ys s ≡ true)
      has_either [] ys s e = inr e
      has_either (x ∷ xs) ys s e =
          elim (or_cases (s == x) (has (xs ++ ys) s) e) [
            | inl p ↦ inl (or_left (s == x) (has xs s) p)
            | inr p ↦ elim (has_either xs ys s p) [ inl q ↦ inl (or_right (s == x) (has xs s) q) | inr q ↦ inr q ]
          ]

      sure_or : (c : Symbol) → has (h.sure ++ k.sure) c.sort ≡ true → (forms.◌or◌ f g).Begins (c ∷ [])
      sure_or c s = elim (has_either h.sure k.sure c.sort s) [ inl p ↦ inl (of.sure c p) | inr p ↦ inr (og.sure c p) ]

  -- the next symbol begins the first choice, perhaps
  first_stuck : (t : Symbol) (ts used rest : List Symbol) → has h.first t.sort ≡ true → t ∷ ts ≡ used ++ rest → f.Begins used → Stuck f used rest → Stuck (forms.◌or◌ f g) used rest
  first_stuck t ts [] rest ht is b st c e re p =
      elim p [
        | inl q ↦ st c e re q
        | inr q ↦ let same : t ≡ c = cc in apart_has h.first k.first t.sort free ht (rw same (og.first c [] q))
      ]
  first_stuck t ts (d ∷ used) rest ht is b st c e re p =
      elim p [
        | inl q ↦ st c e re q
        | inr q ↦ clash_or d used (used ++ c ∷ []) b q
      ]

  none_second : (t : Symbol) (ts used rest : List Symbol) → decided h k ≡ true → has h.first t.sort ≡ true → t ∷ ts ≡ used ++ rest → f.Begins used → Stuck f used rest → (x : A) → g.Whole used x → ⊥
  none_second t ts [] rest de ht is b st x w = go k.empty refl de
    where
      go : (z : Bool) → k.empty ≡ z → (off z || within h.first h.sure) ≡ true → ⊥
      go false e d = og.full e w
      go true e d = st t ts (sym is) (of.sure t (within_has h.first h.sure t.sort d ht))
  none_second t ts (d ∷ used) rest de ht is b st x w = clash_or d used used b (og.whole w)

  pub first_found : (t : Symbol) (ts : List Symbol) → decided h k ≡ true → has h.first t.sort ≡ true → (o : Result (A × List Symbol) ℕ) → Found f (t ∷ ts) o → Found (forms.◌or◌ f g) (t ∷ ts) o
  first_found t ts de ht (Ok q) p = record {
    used = p.used;
    is = p.is;
    whole = inl p.whole;
    stuck = first_stuck t ts p.used q.1 ht p.is (of.whole p.whole) p.stuck;
  }
  first_found t ts de ht (Err n) p = record {
    used = p.used;
    rest = p.rest;
    is = p.is;
    count = p.count;
    begins = inl p.begins;
    stuck = first_stuck t ts p.used p.rest ht p.is p.begins p.stuck;
    unfinished = λ x w. elim w [ inl a ↦ p.unfinished x a | inr a ↦ none_second t ts p.used p.rest de ht p.is p.begins p.stuck x a ];
  }

  second_stuck : (ts used rest : List Symbol) → next_in h.first ts ≡ false → ts ≡ used ++ rest → g.Begins used → Stuck g used rest → Stuck (forms.◌or◌ f g) used rest
  second_stuck ts [] rest ht is b st c e re p =
      elim p [
        | inl q ↦ let here : ts ≡ c ∷ e = is ∙ re in
            let test : has h.first c.sort ≡ false = sym (ap (next_in h.first) here) ∙ ht in
            let yes' : has h.first c.sort ≡ true = of.first c [] q in cc
        | inr q ↦ st c e re q
      ]
  second_stuck ts (d ∷ used) rest ht is b st c e re p =
      elim p [
        | inl q ↦ clash_or d (used ++ c ∷ []) used q b
        | inr q ↦ st c e re q
      ]

  none_first : (used : List Symbol) → g.Begins used → (x : A) → f.Whole used x → ⊥
  none_first [] b x w = of.full solid w
  none_first (d ∷ used) b x w = clash_or d used used (of.whole w) b

  second_found : (ts : List Symbol) → next_in h.first ts ≡ false → (o : Result (A × List Symbol) ℕ) → Found g ts o → Found (forms.◌or◌ f g) ts o
  second_found ts ht (Ok q) p = record {
    used = p.used;
    is = p.is;
    whole = inr p.whole;
    stuck = second_stuck ts p.used q.1 ht p.is (og.whole p.whole) p.stuck;
  }
  second_found ts ht (Err n) p = record {
    used = p.used;
    rest = p.rest;
    is = p.is;
    count = p.count;
    begins = inr p.begins;
    stuck = second_stuck ts p.used p.rest ht p.is p.begins p.stuck;
    unfinished = λ x w. elim w [ inl a ↦ none_first p.used p.begins x a | inr a ↦ p.unfinished x a ];
  }

  or_found : (r s : Reader A) → decided h k ≡ true → ((us : List Symbol) → Found f us (r us)) → ((us : List Symbol) → Found g us (s us)) → (ts : List Symbol) → Found (forms.◌or◌ f g) ts (choose_at h.first r s ts)
  or_found r s de fr gs [] = second_found [] refl (s []) (gs [])
  or_found r s de fr gs (t ∷ ts) = go (has h.first t.sort) refl
    where
      go : (b : Bool) → has h.first t.sort ≡ b → Found (forms.◌or◌ f g) (t ∷ ts) (cond b (r (t ∷ ts)) (s (t ∷ ts)))
      go true e = first_found t ts de e (r (t ∷ ts)) (fr (t ∷ ts))
      go false e = second_found (t ∷ ts) e (s (t ∷ ts)) (gs (t ∷ ts))

-- two choices that the next symbol tells apart
pub or_exact : {A : Type 0} {f g : Form A} {r s : Reader A} {h k : Shape} → Exact f r h → Exact g s k → h.empty ≡ false → apart h.first k.first ≡ true → decided h k ≡ true
    → Exact (forms.◌or◌ f g) (choose_at h.first r s) (or_shape h k)
or_exact {A} {f} {g} {r} {s} {h} {k} ef eg solid free de = record {
  orderly = or_orderly f g h k ef.orderly eg.orderly solid free;
  reads = or_found f g h k ef.orderly eg.orderly solid free r s de ef.reads eg.reads;
}

-- ---- a shape that says less

pub loosened : {A : Type 0} {f : Form A} {r : Reader A} {h : Shape} (k : Shape) → Exact f r h → (off h.empty || k.empty) ≡ true → within h.first k.first ≡ true → within h.next k.next ≡ true → within k.sure h.sure ≡ true → Exact f r k
loosened {A} {f} {r} {h} k e hollow first next sure = record {
  orderly = record {
    none = e.orderly.none;
    whole = e.orderly.whole;
    front = e.orderly.front;
    only = e.orderly.only;
    full = λ z {x} w. e.orderly.full (solid h.empty k.empty hollow z) w;
    first = λ c v b. within_has h.first k.first c.sort first (e.orderly.first c v b);
    next = λ u x c v w b. within_has h.next k.next c.sort next (e.orderly.next u x c v w b);
    sure = λ c s. e.orderly.sure c (within_has k.sure h.sure c.sort sure s);
  };
  reads = e.reads;
}
  where
    solid : (a b : Bool) → (off a || b) ≡ true → b ≡ false → a ≡ false
    solid true b p q = absurd cc
    solid false b p q = refl

-- ---- forms that are begun and made by the same symbols

pub record Same {A : Type 0} (f g : Form A) : Type 0 where
  pub whole_to : (u : List Symbol) (x : A) → f.Whole u x → g.Whole u x
  pub whole_from : (u : List Symbol) (x : A) → g.Whole u x → f.Whole u x
  pub begins_to : (u : List Symbol) → f.Begins u → g.Begins u
  pub begins_from : (u : List Symbol) → g.Begins u → f.Begins u

pub same_found : {A : Type 0} {f g : Form A} (ts : List Symbol) → Same f g → (o : Result (A × List Symbol) ℕ) → Found f ts o → Found g ts o
same_found {A} {f} {g} ts m (Ok q) p = record {
  used = p.used;
  is = p.is;
  whole = m.whole_to p.used q.0 p.whole;
  stuck = λ c e re b. p.stuck c e re (m.begins_from (p.used ++ c ∷ []) b);
}
same_found {A} {f} {g} ts m (Err n) p = record {
  used = p.used;
  rest = p.rest;
  is = p.is;
  count = p.count;
  begins = m.begins_to p.used p.begins;
  stuck = λ c e re b. p.stuck c e re (m.begins_from (p.used ++ c ∷ []) b);
  unfinished = λ x w. p.unfinished x (m.whole_from p.used x w);
}

pub same_exact : {A : Type 0} {f g : Form A} {r : Reader A} {h : Shape} → Same f g → Exact f r h → Exact g r h
same_exact {A} {f} {g} {r} {h} m e = record {
  orderly = record {
    none = m.begins_to [] e.orderly.none;
    whole = λ {u} {x} w. m.begins_to u (e.orderly.whole (m.whole_from u x w));
    front = λ u v b. m.begins_to u (e.orderly.front u v (m.begins_from (u ++ v) b));
    only = λ {u} {x} {y} p q. e.orderly.only (m.whole_from u x p) (m.whole_from u y q);
    full = λ z {x} w. e.orderly.full z (m.whole_from [] x w);
    first = λ c v b. e.orderly.first c v (m.begins_from (c ∷ v) b);
    next = λ u x c v w b. e.orderly.next u x c v (m.whole_from u x w) (m.begins_from (u ++ c ∷ v) b);
    sure = λ c s. m.begins_to (c ∷ []) (e.orderly.sure c s);
  };
  reads = λ ts. same_found ts m (r ts) (e.reads ts);
}

-- ---- a part in square brackets

abbrev pub solid_shape : Shape → Shape
solid_shape h = record { empty = false; first = h.first; next = h.next; sure = h.sure }

abbrev pub optional_shape : Shape → Shape
optional_shape h = record { empty = true; first = h.first; next = h.next ++ h.first; sure = [] }

some_exact : {A : Type 0} {f : Form A} {r : Reader A} {h : Shape} → Exact f r h → h.empty ≡ false → Exact (forms.◌>>=◌ f (λ x. gives (Some x))) (reading.◌>>=◌ r (λ x. gives_at (Some x))) (solid_shape h)
some_exact {A} {f} {r} {h} e solid =
    loosened (solid_shape h) (then_exact e (λ x. gives_exact (Some x)) (apart_nil h.next)) (rw solid refl) (rw solid (within_itself h.first)) (within_itself h.next) (within_itself h.sure)

pub optional_exact : {A : Type 0} {f : Form A} {r : Reader A} {h : Shape} → Exact f r h → h.empty ≡ false → within h.first h.sure ≡ true → Exact (optional f) (optional_at h.first r) (optional_shape h)
optional_exact {A} {f} {r} {h} e solid sure =
    loosened (optional_shape h) (or_exact (some_exact e solid) (gives_exact None) refl (apart_nil h.first) sure) refl
    (rw (append-nil h.first) (within_itself h.first)) (rw (append-nil h.next) (within_itself (h.next ++ h.first))) refl
