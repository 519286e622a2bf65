-- Items one after another: the reader that reads as many as there are is exact.
use Rattle.std.proofs.Common.{◌≡◌, ℕ, zero, suc, Bool, true, false, cond, List, [], ◌∷◌, ◌++◌, length, refl, sym, ap, subst, ◌∙◌, append_assoc, inl, inr, arith, ◌≤◌, Result, Ok, Err}
use Rattle.std.specs.Prelude.{◌⊎◌}
use Rattle.std.proofs.lemmas.List.{append-nil, length-append}
use Rattle.std.proofs.Math.Nat.{le_refl}
use Rattle.wm_grammar.specs.Symbols.{Symbol, has}
use Rattle.wm_grammar.specs.Forms as forms
use Rattle.wm_grammar.specs.Forms.{Form, gives, ◌or◌, Items, OneMore, many_from}
use Rattle.wm_grammar.specs.Reading as reading
use Rattle.wm_grammar.specs.Reading.{Reader, bind, gives_at, turns_at, many_from_at}
use Rattle.wm_grammar.proofs.Lists.{Behind, Before, two_cuts, within, apart, within_has, apart_has, has_left, has_right, apart_nil, within_itself}
use Rattle.wm_grammar.proofs.Laws.{Shape, Orderly, Found, Exact, gives_shape, gives_exact, then_shape, append_nil_is, loosened, Same, same_found, first_found, then_after, then_bad, then_found, then_orderly}

-- ---- items one after another

abbrev pub item_shape : List ℕ → List ℕ → Shape
item_shape cs nx = record { empty = false; first = cs; next = nx; sure = cs }

abbrev pub many_shape : List ℕ → List ℕ → Shape
many_shape all nx = record { empty = true; first = all; next = nx ++ all; sure = [] }

module _ {S B : Type 0} (after : S → B → S) (cs : S → List ℕ) (item : S → Form B) (all nx : List ℕ)
    (oi : (s : S) → Orderly (item s) (item_shape (cs s) nx)) (inside : (s : S) → within (cs s) all ≡ true) (free : apart nx all ≡ true) where
  in_all : (s : S) (n : ℕ) → has (cs s) n ≡ true → has all n ≡ true
  in_all s n e = within_has (cs s) all n (inside s) e

  -- what begins an item begins with one of its sorts
  more_first : (s : S) (xs : List B) (c : Symbol) (v : List Symbol) → OneMore after item s (c ∷ v) xs → has (cs s) c.sort ≡ true
  more_first s [] c v b = (oi s).first c v b
  more_first s (x ∷ xs) c v b = go b.0 b.1 b.2 b.3
    where
      go : (u w : List Symbol) → c ∷ v ≡ u ++ w → (item s).Whole u x → has (cs s) c.sort ≡ true
      go [] w e p = absurd ((oi s).full refl p)
      go (d ∷ u) w e p = let same : c ≡ d = cc in rw same ((oi s).first d u ((oi s).whole p))

  items_whole : (s : S) (u : List Symbol) (xs : List B) → Items after item s u xs → OneMore after item s u xs
  items_whole s u [] w = subst (λ (z : List Symbol). (item s).Begins z) (sym w) (oi s).none
  items_whole s u (x ∷ xs) w = (w.0, w.1, w.2, w.3, items_whole (after s x) w.1 xs w.4)

  more_front : (s : S) (u v : List Symbol) (xs : List B) → OneMore after item s (u ++ v) xs → (ys : List B) × OneMore after item s u ys
  more_front s u v [] b = ([], (oi s).front u v b)
  more_front s u v (x ∷ xs) b = go (λ y z. more_front (after s x) y z xs) (two_cuts b.0 b.1 u v (sym b.2))
    where
      go : ((u v : List Symbol) → OneMore after item (after s x) (u ++ v) xs → (ys : List B) × OneMore after item (after s x) u ys)
          → Behind b.0 b.1 u v ⊎ Before b.0 b.1 u v → (ys : List B) × OneMore after item s u ys
      go rec (inl q) =
          let r = rec q.between v (subst (λ (z : List Symbol). OneMore after item (after s x) z xs) q.back b.4) in
          (x ∷ r.0, (b.0, q.between, q.front, b.3, r.1))
      go rec (inr q) = ([], (oi s).front u (q.next ∷ q.between) (subst (λ (z : List Symbol). (item s).Begins z) q.front ((oi s).whole b.3)))

  -- what continues an item begins no other
  clash_item : (s t : S) (x : B) (u : List Symbol) (c : Symbol) (m n : List Symbol) (xs : List B) → (item s).Whole u x → (item s).Begins (u ++ c ∷ m) → OneMore after item t (c ∷ n) xs → ⊥
  clash_item s t x u c m n xs w b o = apart_has nx all c.sort free ((oi s).next u x c m w b) (in_all t c.sort (more_first t xs c n o))

  items_only : (s : S) (u : List Symbol) (xs ys : List B) → Items after item s u xs → Items after item s u ys → xs ≡ ys
  items_only s u [] [] p q = refl
  items_only s u [] (y ∷ ys) p q =
      let nil = append_nil_is q.0 q.1 (sym p ∙ q.2) in
      absurd ((oi s).full refl (subst (λ (z : List Symbol). (item s).Whole z y) nil.0 q.3))
  items_only s u (x ∷ xs) [] p q =
      let nil = append_nil_is p.0 p.1 (sym q ∙ p.2) in
      absurd ((oi s).full refl (subst (λ (z : List Symbol). (item s).Whole z x) nil.0 p.3))
  items_only s u (x ∷ xs) (y ∷ ys) p q = go (λ v. items_only (after s x) v xs ys) (two_cuts p.0 p.1 q.0 q.1 (sym p.2 ∙ q.2))
    where
      behind : ((v : List Symbol) → Items after item (after s x) v xs → Items after item (after s x) v ys → xs ≡ ys) → (m : List Symbol) → q.0 ≡ p.0 ++ m → p.1 ≡ m ++ q.1 → x ∷ xs ≡ y ∷ ys
      behind rec [] e k =
          let same : q.0 ≡ p.0 = e ∙ append-nil p.0 in
          let value : x ≡ y = (oi s).only p.3 (subst (λ (z : List Symbol). (item s).Whole z y) same q.3) in
          let other : Items after item (after s x) p.1 ys = subst (λ (z : List Symbol). Items after item (after s x) z ys) (sym k) (subst (λ (z : B). Items after item (after s z) q.1 ys) (sym value) q.4) in
          let tail : xs ≡ ys = rec p.1 p.4 other in
          cc
      behind rec (c ∷ m) e k =
          absurd (clash_item s (after s x) x p.0 c m (m ++ q.1) xs p.3 (subst (λ (z : List Symbol). (item s).Begins z) e ((oi s).whole q.3))
          (subst (λ (z : List Symbol). OneMore after item (after s x) z xs) k (items_whole (after s x) p.1 xs p.4)))

      go : ((v : List Symbol) → Items after item (after s x) v xs → Items after item (after s x) v ys → xs ≡ ys) → Behind p.0 p.1 q.0 q.1 ⊎ Before p.0 p.1 q.0 q.1 → x ∷ xs ≡ y ∷ ys
      go rec (inl r) = behind rec r.between r.front r.back
      go rec (inr r) =
          absurd (clash_item s (after s y) y q.0 r.next r.between (r.between ++ p.1) ys q.3 (subst (λ (z : List Symbol). (item s).Begins z) r.front ((oi s).whole p.3))
          (subst (λ (z : List Symbol). OneMore after item (after s y) z ys) r.back (items_whole (after s y) q.1 ys q.4)))

  -- behind an item stands nothing, or another one begins there
  items_next : (s : S) (xs : List B) (u : List Symbol) (ys : List B) (c : Symbol) (v : List Symbol) → Items after item s u xs → OneMore after item s (u ++ c ∷ v) ys → has (nx ++ all) c.sort ≡ true
  items_next s [] u ys c v p q =
      has_right nx all c.sort (in_all s c.sort (more_first s ys c v (subst (λ (z : List Symbol). OneMore after item s (z ++ c ∷ v) ys) p q)))
  items_next s (x ∷ xs) u [] c v p q = at_rest p.1 refl
    where
      at_rest : (z : List Symbol) → p.1 ≡ z → has (nx ++ all) c.sort ≡ true
      at_rest [] e =
          let same : u ++ c ∷ v ≡ p.0 ++ c ∷ v = ap (λ (z : List Symbol). z ++ c ∷ v) (p.2 ∙ ap (λ (z : List Symbol). p.0 ++ z) e ∙ append-nil p.0) in
          has_left nx all c.sort ((oi s).next p.0 x c v p.3 (subst (λ (z : List Symbol). (item s).Begins z) same q))
      at_rest (d ∷ z) e =
          let same : u ++ c ∷ v ≡ p.0 ++ d ∷ (z ++ c ∷ v) = ap (λ (z : List Symbol). z ++ c ∷ v) (p.2 ∙ ap (λ (z : List Symbol). p.0 ++ z) e) ∙ append_assoc p.0 (d ∷ z) (c ∷ v) in
          absurd (clash_item s (after s x) x p.0 d (z ++ c ∷ v) z xs p.3 (subst (λ (z : List Symbol). (item s).Begins z) same q)
          (subst (λ (z : List Symbol). OneMore after item (after s x) z xs) e (items_whole (after s x) p.1 xs p.4)))
  items_next s (x ∷ xs) u (y ∷ ys) c v p q =
      go (λ w. items_next (after s x) xs w ys c v) (two_cuts p.0 (p.1 ++ c ∷ v) q.0 q.1 (sym (ap (λ (z : List Symbol). z ++ c ∷ v) p.2 ∙ append_assoc p.0 p.1 (c ∷ v)) ∙ q.2))
    where
      at_rest : (z : List Symbol) → p.1 ≡ z → (d : Symbol) (m : List Symbol) → q.0 ≡ p.0 ++ d ∷ m → p.1 ++ c ∷ v ≡ d ∷ m ++ q.1 → has (nx ++ all) c.sort ≡ true
      at_rest [] e d m k l =
          let head : c ∷ v ≡ d ∷ (m ++ q.1) = sym (ap (λ (z : List Symbol). z ++ c ∷ v) e) ∙ l in
          let same : c ≡ d = cc in
          rw same (has_left nx all d.sort ((oi s).next p.0 x d m p.3 (subst (λ (z : List Symbol). (item s).Begins z) k ((oi s).whole q.3))))
      at_rest (t ∷ z) e d m k l =
          let head : t ∷ (z ++ c ∷ v) ≡ d ∷ (m ++ q.1) = sym (ap (λ (z : List Symbol). z ++ c ∷ v) e) ∙ l in
          let same : t ≡ d = cc in
          let here : OneMore after item (after s x) (t ∷ z) xs = subst (λ (z : List Symbol). OneMore after item (after s x) z xs) e (items_whole (after s x) p.1 xs p.4) in
          absurd (clash_item s (after s x) x p.0 d m z xs p.3 (subst (λ (z : List Symbol). (item s).Begins z) k ((oi s).whole q.3))
          (subst (λ (r : Symbol). OneMore after item (after s x) (r ∷ z) xs) same here))

      behind : ((w : List Symbol) → Items after item (after s x) w xs → OneMore after item (after s x) (w ++ c ∷ v) ys → has (nx ++ all) c.sort ≡ true) → (m : List Symbol) → q.0 ≡ p.0 ++ m → p.1 ++ c ∷ v ≡ m ++ q.1
          → has (nx ++ all) c.sort ≡ true
      behind rec [] k l =
          let same : q.0 ≡ p.0 = k ∙ append-nil p.0 in
          let value : x ≡ y = (oi s).only p.3 (subst (λ (z : List Symbol). (item s).Whole z y) same q.3) in
          rec p.1 p.4 (subst (λ (z : List Symbol). OneMore after item (after s x) z ys) (sym l) (subst (λ (z : B). OneMore after item (after s z) q.1 ys) (sym value) q.4))
      behind rec (d ∷ m) k l = at_rest p.1 refl d m k l

      go : ((w : List Symbol) → Items after item (after s x) w xs → OneMore after item (after s x) (w ++ c ∷ v) ys → has (nx ++ all) c.sort ≡ true) → Behind p.0 (p.1 ++ c ∷ v) q.0 q.1 ⊎ Before p.0 (p.1 ++ c ∷ v) q.0 q.1
          → has (nx ++ all) c.sort ≡ true
      go rec (inl r) = behind rec r.between r.front r.back
      go rec (inr r) =
          absurd (clash_item s (after s y) y q.0 r.next r.between (r.between ++ (p.1 ++ c ∷ v)) ys q.3 (subst (λ (z : List Symbol). (item s).Begins z) r.front ((oi s).whole p.3))
          (subst (λ (z : List Symbol). OneMore after item (after s y) z ys) r.back q.4))

  many_orderly : (s : S) → Orderly (many_from after item s) (many_shape all nx)
  many_orderly s = record {
    none = ([], (oi s).none);
    whole = λ {u} {x} w. (x, items_whole s u x w);
    front = λ u v b. more_front s u v b.0 b.1;
    only = λ {u} {x} {y} p q. items_only s u x y p q;
    full = λ e {x} w. cc;
    first = λ c v b. in_all s c.sort (more_first s b.0 c v b.1);
    next = λ u x c v w b. items_next s x u b.0 c v w b.1;
    sure = λ c h. absurd cc;
  }

  -- no item, or one and then more of them
  abbrev unrolled : S → Form (List B)
  unrolled s = forms.◌or◌ (forms.◌>>=◌ (item s) (λ x. forms.◌>>=◌ (many_from after item (after s x)) (λ xs. gives (x ∷ xs)))) (gives [])

  is_unrolled : (s : S) → Same (unrolled s) (many_from after item s)
  is_unrolled s = record {
    whole_to = λ u xs w. elim w [ inl p ↦ to u xs p | inr p ↦ nothing u xs p.0 p.1 ];
    whole_from = from;
    begins_to = λ u b. elim b [ inl p ↦ elim p [ inl q ↦ ([], q) | inr q ↦ begins_rest u q.0 q.1 q.2 q.3 q.4 q.5 ] | inr p ↦ ([], subst (λ (z : List Symbol). (item s).Begins z) (sym p) (oi s).none) ];
    begins_from = λ u b. begins_back u b.0 b.1;
  }
    where
      nothing : (u : List Symbol) (xs : List B) → u ≡ [] → xs ≡ [] → Items after item s u xs
      nothing u [] e k = e
      nothing u (y ∷ xs) e k = absurd cc

      to : (u : List Symbol) (xs : List B) → (x : B) × (a : List Symbol) × (b : List Symbol) × (u ≡ a ++ b) × (item s).Whole a x × (forms.◌>>=◌ (many_from after item (after s x)) (λ ys. gives (x ∷ ys))).Whole b xs → Items after item s u xs
      to u xs (x, a, b, e, w, (ys, c, d, k, i, (n, is))) =
          let same : b ≡ c = k ∙ ap (λ (z : List Symbol). c ++ z) n ∙ append-nil c in
          subst (λ (z : List B). Items after item s u z) (sym is) (a, b, e, w, subst (λ (z : List Symbol). Items after item (after s x) z ys) (sym same) i)

      from : (u : List Symbol) (xs : List B) → Items after item s u xs → (unrolled s).Whole u xs
      from u [] w = inr (w, refl)
      from u (x ∷ xs) w = inl (x, w.0, w.1, w.2, w.3, (xs, w.1, [], sym (append-nil w.1), w.4, (refl, refl)))

      begins_rest : (u : List Symbol) (x : B) (a b : List Symbol) → u ≡ a ++ b → (item s).Whole a x → (forms.◌>>=◌ (many_from after item (after s x)) (λ ys. gives (x ∷ ys))).Begins b → (many_from after item s).Begins u
      begins_rest u x a b e w (inl q) = (x ∷ q.0, (a, b, e, w, q.1))
      begins_rest u x a b e w (inr (ys, c, d, k, i, n)) =
          let same : b ≡ c = k ∙ ap (λ (z : List Symbol). c ++ z) n ∙ append-nil c in
          (x ∷ ys, (a, b, e, w, items_whole (after s x) b ys (subst (λ (z : List Symbol). Items after item (after s x) z ys) (sym same) i)))

      begins_back : (u : List Symbol) (xs : List B) → OneMore after item s u xs → (unrolled s).Begins u
      begins_back u [] b = inl (inl b)
      begins_back u (x ∷ xs) b = inl (inr (x, b.0, b.1, b.2, b.3, inl (xs, b.4)))

  abbrev rest_shape : Shape
  rest_shape = then_shape (many_shape all nx) gives_shape

  rest_orderly : (s : S) (x : B) → Orderly (forms.◌>>=◌ (many_from after item s) (λ xs. gives (x ∷ xs))) rest_shape
  rest_orderly s x = then_orderly (many_from after item s) (λ xs. gives (x ∷ xs)) (many_shape all nx) gives_shape (many_orderly s) (λ xs. (gives_exact (x ∷ xs)).orderly) (apart_nil (nx ++ all))

  free_rest : apart nx rest_shape.first ≡ true
  free_rest = rw (append-nil all) free

  item_orderly : (s : S) → Orderly (forms.◌>>=◌ (item s) (λ x. forms.◌>>=◌ (many_from after item (after s x)) (λ xs. gives (x ∷ xs)))) (then_shape (item_shape (cs s) nx) rest_shape)
  item_orderly s = then_orderly (item s) (λ x. forms.◌>>=◌ (many_from after item (after s x)) (λ xs. gives (x ∷ xs))) (item_shape (cs s) nx) rest_shape (oi s) (λ x. rest_orderly (after s x) x) free_rest

  module _ (r : S → Reader B) (ri : (s : S) (ts : List Symbol) → Found (item s) ts (r s ts)) where
    -- what is read behind the first symbol, one turn less being left
    rest_found : (n : ℕ) → ((s : S) (us : List Symbol) → length us ≤ n → Found (many_from after item s) us (turns_at after cs r n s us)) → (s : S) (x : B) (us : List Symbol) → length us ≤ n
        → Found (forms.◌>>=◌ (many_from after item s) (λ xs. gives (x ∷ xs))) us (bind (turns_at after cs r n s us) (λ q. Ok (x ∷ q.0, q.1)))
    rest_found n rec s x us le =
        then_found (many_from after item s) (λ xs. gives (x ∷ xs)) (many_shape all nx) gives_shape (many_orderly s) (λ xs. (gives_exact (x ∷ xs)).orderly) (apart_nil (nx ++ all))
        (λ xs. gives_at (x ∷ xs)) (λ xs vs. (gives_exact (x ∷ xs)).reads vs) us (turns_at after cs r n s us) (rec s us le)

    shorter : (s : S) (t : Symbol) (ts : List Symbol) (n : ℕ) (x : B) (used rest : List Symbol) → length (t ∷ ts) ≤ suc n → t ∷ ts ≡ used ++ rest → (item s).Whole used x → length rest ≤ n
    shorter s t ts n x [] rest le e w = absurd ((oi s).full refl w)
    shorter s t ts n x (c ∷ used) rest le e w =
        let tail : ts ≡ used ++ rest = cc in
        let size : length ts ≡ length (used ++ rest) = ap length tail in
        omega (arith, size, length-append used rest)

    turn_found : (n : ℕ) → ((s : S) (us : List Symbol) → length us ≤ n → Found (many_from after item s) us (turns_at after cs r n s us)) → (s : S) (t : Symbol) (ts : List Symbol) → length (t ∷ ts) ≤ suc n
        → (o : Result (B × List Symbol) ℕ) → Found (item s) (t ∷ ts) o
        → Found (forms.◌>>=◌ (item s) (λ x. forms.◌>>=◌ (many_from after item (after s x)) (λ xs. gives (x ∷ xs)))) (t ∷ ts) (bind o (λ p. bind (turns_at after cs r n (after s p.0) p.1) (λ q. Ok (p.0 ∷ q.0, q.1))))
    turn_found n rec s t ts le (Ok p) i =
        then_after (item s) (λ x. forms.◌>>=◌ (many_from after item (after s x)) (λ xs. gives (x ∷ xs))) (item_shape (cs s) nx) rest_shape (oi s) (λ x. rest_orderly (after s x) x) free_rest
        p.0 (t ∷ ts) i.used p.1 i.is i.whole i.stuck (bind (turns_at after cs r n (after s p.0) p.1) (λ q. Ok (p.0 ∷ q.0, q.1)))
        (rest_found n rec (after s p.0) p.0 p.1 (shorter s t ts n p.0 i.used p.1 le i.is i.whole))
    turn_found n rec s t ts le (Err m) i =
        then_bad (item s) (λ x. forms.◌>>=◌ (many_from after item (after s x)) (λ xs. gives (x ∷ xs))) (item_shape (cs s) nx) rest_shape (oi s) (λ x. rest_orderly (after s x) x) free_rest (t ∷ ts) m i

    turns_found : (n : ℕ) (s : S) (ts : List Symbol) → length ts ≤ n → Found (many_from after item s) ts (turns_at after cs r n s ts)
    turns_found zero s [] le = record { used = []; is = refl; whole = refl; stuck = λ c e is b. cc }
    turns_found zero s (t ∷ ts) le = absurd (omega arith)
    turns_found (suc n) s [] le = record { used = []; is = refl; whole = refl; stuck = λ c e is b. cc }
    turns_found (suc n) s (t ∷ ts) le = go (λ q us k. turns_found n q us k) (has (cs s) t.sort) refl
      where
        go : ((s : S) (us : List Symbol) → length us ≤ n → Found (many_from after item s) us (turns_at after cs r n s us)) → (b : Bool) → has (cs s) t.sort ≡ b
            → Found (many_from after item s) (t ∷ ts) (cond b (bind (r s (t ∷ ts)) (λ p. bind (turns_at after cs r n (after s p.0) p.1) (λ q. Ok (p.0 ∷ q.0, q.1)))) (Ok ([], t ∷ ts)))
        go rec true e =
            same_found (t ∷ ts) (is_unrolled s) (bind (r s (t ∷ ts)) (λ p. bind (turns_at after cs r n (after s p.0) p.1) (λ q. Ok (p.0 ∷ q.0, q.1))))
            (first_of_two s (bind (r s (t ∷ ts)) (λ p. bind (turns_at after cs r n (after s p.0) p.1) (λ q. Ok (p.0 ∷ q.0, q.1)))) e (turn_found n rec s t ts le (r s (t ∷ ts)) (ri s (t ∷ ts))))
          where
            first_of_two : (s : S) (o : Result (List B × List Symbol) ℕ) → has (cs s) t.sort ≡ true → Found (forms.◌>>=◌ (item s) (λ x. forms.◌>>=◌ (many_from after item (after s x)) (λ xs. gives (x ∷ xs)))) (t ∷ ts) o
                → Found (unrolled s) (t ∷ ts) o
            first_of_two s o e p =
                first_found (forms.◌>>=◌ (item s) (λ x. forms.◌>>=◌ (many_from after item (after s x)) (λ xs. gives (x ∷ xs)))) (gives []) (then_shape (item_shape (cs s) nx) rest_shape) gives_shape
                (item_orderly s) (gives_exact []).orderly refl (apart_nil (cs s)) t ts (within_itself (cs s)) e o p
        go rec false e = record {
          used = [];
          is = refl;
          whole = refl;
          stuck = λ c v is b.
              let same : t ≡ c = cc in
              let h : has (cs s) c.sort ≡ true = more_first s b.0 c [] b.1 in
              let k : has (cs s) t.sort ≡ true = rw same h in cc;
        }

-- items, each of which is begun by the sorts of its state
pub many_from_exact : {S B : Type 0} {item : S → Form B} {r : S → Reader B} (after : S → B → S) (cs : S → List ℕ) (all nx : List ℕ) → ((s : S) → Exact (item s) (r s) (item_shape (cs s) nx))
    → ((s : S) → within (cs s) all ≡ true) → apart nx all ≡ true → (s : S) → Exact (many_from after item s) (many_from_at after cs r s) (many_shape all nx)
many_from_exact {S} {B} {item} {r} after cs all nx ei inside free s = record {
  orderly = many_orderly after cs item all nx (λ q. (ei q).orderly) inside free s;
  reads = λ ts. turns_found after cs item all nx (λ q. (ei q).orderly) inside free r (λ q us. (ei q).reads us) (length ts) s ts (le_refl (length ts));
}

pub many_exact : {B : Type 0} {item : Form B} {r : Reader B} {h : Shape} → Exact item r h → h.empty ≡ false → within h.first h.sure ≡ true → apart h.next h.first ≡ true
    → Exact (forms.many item) (reading.many_at h.first r) (many_shape h.first h.next)
many_exact {B} {item} {r} {h} e solid sure free =
    many_from_exact (λ s _. s) (λ _. h.first) h.first h.next (λ _. loosened (item_shape h.first h.next) e (rw solid refl) (within_itself h.first) (within_itself h.next) sure) (λ _. within_itself h.first) free tt
