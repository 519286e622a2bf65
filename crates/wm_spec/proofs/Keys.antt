-- Laws of the keys of a list.
use Rattle.std.proofs.Common.{◌≡◌, ℕ, ◌==◌, ◌&&◌, ◌||◌, Bool, true, false, if◌then◌else◌, List, [], ◌∷◌, refl, sym, ap, ◌∙◌}
use Rattle.std.specs.List.{list_any}
use Rattle.std.specs.Ordering.{is_eq, is_lt}
use Rattle.std.specs.declared.cmp.Ordering.{Ordering}
use Rattle.std.specs.declared.cmp.Ordering.TheVariants.{Less, Equal, Greater}
use Rattle.wm_base.proofs.Plain.{or_swap}
use Rattle.wm_base.specs.Key.{key_order}
use Rattle.wm_base.specs.Orders.{key_order_total, key_order-equal}
use Rattle.wm_base.specs.declared.value.Value.{Value}
use Rattle.wm_spec.specs.Lists.{Entry, is_of}
use Rattle.wm_spec.specs.Stretches.{keys, key_in, ComesBefore, KeysAscend, is_key_in}

-- a key before one that comes before others comes before these
pub before-more : (j k : List Value) (ks : List (List Value)) → key_order j k ≡ Less → ComesBefore k ks → ComesBefore j ks
before-more j k [] lt before = tt
before-more j k (x ∷ ks) lt before = (key_order_total.trans j k x lt before.0, before-more j k ks lt before.1)

before-in : (j k : List Value) (ks : List (List Value)) → key_order j k ≡ Less → ComesBefore j ks → ComesBefore j (key_in k ks)
before-in j k [] lt before = (lt, tt)
before-in j k (x ∷ ks) lt before = by_test (is_lt (key_order k x)) (is_eq (key_order k x)) (before-in j k ks lt before.1)
  where
    by_test : (a b : Bool) → ComesBefore j (key_in k ks) → ComesBefore j (if a then k ∷ x ∷ ks else (if b then x ∷ ks else x ∷ key_in k ks))
    by_test true b rest = (lt, before)
    by_test false true rest = before
    by_test false false rest = (before.0, rest)

-- keys that ascend do so with one more
pub key_in-ascends : (k : List Value) (ks : List (List Value)) → KeysAscend ks → KeysAscend (key_in k ks)
key_in-ascends k [] up = (tt, tt)
key_in-ascends k (x ∷ ks) up = by_order (key_order k x) refl (key_in-ascends k ks up.1)
  where
    by_order : (o : Ordering) → key_order k x ≡ o → KeysAscend (key_in k ks) → KeysAscend (if is_lt o then k ∷ x ∷ ks else (if is_eq o then x ∷ ks else x ∷ key_in k ks))
    by_order Less e rest = ((e, before-more k x ks e up.0), up)
    by_order Equal e rest = up
    by_order Greater e rest = (before-in x k ks (key_order_total.antisymm x k ∙ rw e refl) up.0, rest)

-- the keys of a table ascend, each once
pub keys-ascend : (es : List Entry) (table : ℕ) → KeysAscend (keys es table)
keys-ascend [] table = tt
keys-ascend (e ∷ es) table = by_table (e.table == table) (keys-ascend es table)
  where
    by_table : (b : Bool) → KeysAscend (keys es table) → KeysAscend (if b then key_in e.key (keys es table) else keys es table)
    by_table true rest = key_in-ascends e.key (keys es table) rest
    by_table false rest = rest

-- a key is one of them with one more where it is that one or one of them
pub key_in-has : (k j : List Value) (ks : List (List Value)) → is_key_in j (key_in k ks) ≡ (is_eq (key_order k j) || is_key_in j ks)
key_in-has k j [] = refl
key_in-has k j (x ∷ ks) = by_order (key_order k x) refl (key_in-has k j ks)
  where
    twice : (a b c : Bool) → a ≡ b → (b || c) ≡ (a || (b || c))
    twice true b c e = rw (sym e) refl
    twice false b c e = refl

    by_order : (o : Ordering) → key_order k x ≡ o → is_key_in j (key_in k ks) ≡ (is_eq (key_order k j) || is_key_in j ks)
        → is_key_in j (if is_lt o then k ∷ x ∷ ks else (if is_eq o then x ∷ ks else x ∷ key_in k ks)) ≡ (is_eq (key_order k j) || (is_eq (key_order x j) || is_key_in j ks))
    by_order Less e rest = refl
    by_order Equal e rest = twice (is_eq (key_order k j)) (is_eq (key_order x j)) (is_key_in j ks) (ap (λ y. is_eq (key_order y j)) (key_order-equal k x e))
    by_order Greater e rest = ap (λ b. is_eq (key_order x j) || b) rest ∙ or_swap (is_eq (key_order x j)) (is_eq (key_order k j)) (is_key_in j ks)

-- they are the keys of the entries of the table, and no others
pub keys-of_entries : (es : List Entry) (table : ℕ) (key : List Value) → is_key_in key (keys es table) ≡ list_any (is_of table key) es
keys-of_entries [] table key = refl
keys-of_entries (e ∷ es) table key = by_table (e.table == table) (keys-of_entries es table key)
  where
    by_table : (b : Bool) → is_key_in key (keys es table) ≡ list_any (is_of table key) es
        → is_key_in key (if b then key_in e.key (keys es table) else keys es table) ≡ ((b && is_eq (key_order e.key key)) || list_any (is_of table key) es)
    by_table true rest = key_in-has e.key key (keys es table) ∙ ap (λ b. is_eq (key_order e.key key) || b) rest
    by_table false rest = rest
