-- The pieces of a version of a key of a table, changed.
use Rattle.std.proofs.Common.{◌≡◌, ℕ, suc, ◌<◌, ◌≤◌, ◌+◌, ◌==◌, ◌&&◌, Bool, true, false, cond, List, [], ◌∷◌, length, get_or, insert, remove, take, drop, Option, Some, None, unwrap_or, refl, sym, ap, subst, ◌∙◌, arith}
use Rattle.std.proofs.Math.ListN.{set}
use Rattle.std.proofs.lemmas.Bool.{eqb-true}
use Rattle.std.proofs.lemmas.Cmp.{tied_itself}
use Rattle.std.proofs.lemmas.List.{nil_from_length}
use Rattle.std.specs.BTreeMap.{is_at}
use Rattle.std.specs.Cmp.{Equal-is}
use Rattle.std.specs.List.{AllByRecursion}
use Rattle.std.specs.Map.{lookup}
use Rattle.std.specs.Ordering.{is_eq}
use Rattle.std.specs.Vec.{vec_len}
use Rattle.std.specs.declared.alloc.Global.{Global}
use Rattle.std.specs.declared.vec.Vec.{Vec}
use Rattle.wm_base.specs.Key.{key_order}
use Rattle.wm_base.specs.Orders.{key_order-equal, key_order_total}
use Rattle.wm_base.specs.declared.value.Value.{Value}
use Rattle.wm_chunks.proofs.Rising.{key_standing}
use Rattle.wm_ids.proofs.Placing.{All-without, fits_under, insert_rises, insert_spanned, insert_under, remove_rises, remove_spanned, remove_under, set_rises, set_spanned, set_under, stands_under}
use Rattle.wm_ids.proofs.Widening.{next, one_spanned, put_widens, remove_widens, set_widens, there_spanned, widened_rises, widened_spanned, widened_under, widened_widens}
use Rattle.wm_ids.specs.Ids.{placed, without}
use Rattle.wm_chunks.specs.Rising.{FitsAt, StandsAt}
use Rattle.wm_ids.specs.Versioned.{AreNested, ChangedOn, ChangedWhere, Encloses, HasLess, HasMore, IsSpanned, IsWithin, Versions, entry_version, ids_under, versions_found, versions_in, versions_on, widened_from}
use Rattle.wm_ids.specs.declared.versioned.Versioned.{Versioned}
use Rattle.wm_spec.specs.declared.record.piece.PieceRecord.{PieceRecord}
use Rattle.wm_spec.specs.declared.record.stored.Stored.{Stored}

-- ---- an id more, or less

-- a version that stands there has it
pub more_there : (es : List Versioned) (i id : ℕ) (x : PieceRecord) (d new : Versioned) → AreNested es → StandsAt entry_version x.version es i → i < length es → d ≡ get_or es i d
    → new.version ≡ d.version → new.from ≡ d.from → new.till ≡ d.till → new.ids ≡ placed id d.ids → HasMore id x es (widened_from x i (set es i new))
more_there es i id x d new nested at within is same from till put = record {
  ids = λ v. widened_under x i (set es i new) v ∙ set_under es x.version i new at version v ∙ by_test v (x.version == v) refl;
  nested = record {
    rises = widened_rises x i 0 (set es i new) (set_rises 0 es x.version i new at version nested.rises);
    widens = widened_widens x i (set es i new) (set_widens es i d new (from ∙ ap (λ (e : Versioned). e.from) is) (till ∙ ap (λ (e : Versioned). e.till) is) nested.widens);
  };
  spanned = λ ss piece all.
      there_spanned ss id x es i d new within (from ∙ ap (λ (e : Versioned). e.from) is) (till ∙ ap (λ (e : Versioned). e.till) is) (put ∙ ap (λ (e : Versioned). placed id e.ids) is) piece all;
}
  where
    version : new.version ≡ x.version
    version = same ∙ ap (λ (e : Versioned). e.version) is ∙ key_standing entry_version es x.version i d at

    by_test : (v : ℕ) (b : Bool) → (x.version == v) ≡ b → cond b new.ids (ids_under es v) ≡ cond b (placed id (ids_under es v)) (ids_under es v)
    by_test v true here = put ∙ ap (placed id) (ap (λ (e : Versioned). e.ids) is ∙ sym (stands_under es x.version i d at) ∙ ap (ids_under es) (eqb-true x.version v here))
    by_test v false here = refl

more_next : (es : List Versioned) (i id : ℕ) (x : PieceRecord) (new : Versioned) → AreNested es → FitsAt entry_version x.version es i → i ≤ length es → new.version ≡ x.version → new.ids ≡ id ∷ []
    → new.from ≤ x.cells.from → x.cells.till ≤ new.till → AllByRecursion (Encloses new) (take i es) → AllByRecursion (IsWithin x new.from new.till) (drop i es)
    → HasMore id x es (widened_from x (i + 1) (insert es i new))
more_next es i id x new nested at within version put low high older newer = subst (λ n. HasMore id x es (widened_from x n (insert es i new))) (next i) more
  where
    more : HasMore id x es (widened_from x (suc i) (insert es i new))
    more = record {
      ids = λ v. widened_under x (suc i) (insert es i new) v ∙ insert_under es x.version i new at version v ∙ by_test v (x.version == v) refl;
      nested = record {
        rises = widened_rises x (suc i) 0 (insert es i new) (insert_rises 0 es x.version i new at version (omega arith) nested.rises);
        widens = put_widens x i es new within older newer nested.widens;
      };
      spanned = λ ss piece all.
          widened_spanned ss x (suc i) (insert es i new) (insert_spanned ss es x.version i new at (one_spanned ss id x new.from new.till new.ids put low high piece) all);
    }
      where
        by_test : (v : ℕ) (b : Bool) → (x.version == v) ≡ b → cond b new.ids (ids_under es v) ≡ cond b (placed id (ids_under es v)) (ids_under es v)
        by_test v true here = put ∙ ap (placed id) (sym (fits_under 0 es x.version i at nested.rises) ∙ ap (ids_under es) (eqb-true x.version v here))
        by_test v false here = refl

-- a version that is put there has it
pub more_put : (es : List Versioned) (i id : ℕ) (x : PieceRecord) (new : Versioned) (from till : ℕ) → AreNested es → FitsAt entry_version x.version es i → i ≤ length es → new.version ≡ x.version → new.from ≡ from → new.till ≡ till
    → new.ids ≡ id ∷ [] → from ≤ x.cells.from → x.cells.till ≤ till → AllByRecursion (λ (e : Versioned). (from ≤ e.from) × (e.till ≤ till)) (take i es) → AllByRecursion (IsWithin x from till) (drop i es)
    → HasMore id x es (widened_from x (i + 1) (insert es i new))
more_put es i id x new from till nested at within version low high put early late older newer =
    more_next es i id x new nested at within version put (subst (λ n. n ≤ x.cells.from) (sym low) early) (subst (λ n. x.cells.till ≤ n) (sym high) late)
    (subst (λ n. AllByRecursion (λ (e : Versioned). (n ≤ e.from) × (e.till ≤ new.till)) (take i es)) (sym low) (subst (λ n. AllByRecursion (λ (e : Versioned). (from ≤ e.from) × (e.till ≤ n)) (take i es)) (sym high) older))
    (subst (λ n. AllByRecursion (IsWithin x n new.till) (drop i es)) (sym low) (subst (λ n. AllByRecursion (IsWithin x from n) (drop i es)) (sym high) newer))

-- a version that stands there has it no more
pub less_there : (es : List Versioned) (v i id : ℕ) (d new : Versioned) → AreNested es → StandsAt entry_version v es i → i < length es → d ≡ get_or es i d
    → new.version ≡ d.version → new.from ≡ d.from → new.till ≡ d.till → new.ids ≡ without id d.ids → HasLess id v es (set es i new)
less_there es v i id d new nested at within is same from till left = record {
  ids = λ w. set_under es v i new at version w ∙ by_test w (v == w) refl;
  nested = record {
    rises = set_rises 0 es v i new at version nested.rises;
    widens = set_widens es i d new (from ∙ ap (λ (e : Versioned). e.from) is) (till ∙ ap (λ (e : Versioned). e.till) is) nested.widens;
  };
  spanned = λ ss all. set_spanned ss es i d new within (subst (λ (e : Versioned). AllByRecursion (IsSpanned ss e.from e.till) e.ids → AllByRecursion (IsSpanned ss new.from new.till) new.ids) is (fewer ss)) all;
}
  where
    version : new.version ≡ v
    version = same ∙ ap (λ (e : Versioned). e.version) is ∙ key_standing entry_version es v i d at

    fewer : (ss : List Stored) → AllByRecursion (IsSpanned ss d.from d.till) d.ids → AllByRecursion (IsSpanned ss new.from new.till) new.ids
    fewer ss all =
        subst (λ f. AllByRecursion (IsSpanned ss f new.till) new.ids) (sym from)
        (subst (λ t. AllByRecursion (IsSpanned ss d.from t) new.ids) (sym till)
        (subst (AllByRecursion (IsSpanned ss d.from d.till)) (sym left) (All-without (IsSpanned ss d.from d.till) id d.ids all)))

    by_test : (w : ℕ) (b : Bool) → (v == w) ≡ b → cond b new.ids (ids_under es w) ≡ cond b (without id (ids_under es w)) (ids_under es w)
    by_test w true here = left ∙ ap (without id) (ap (λ (e : Versioned). e.ids) is ∙ sym (stands_under es v i d at) ∙ ap (ids_under es) (eqb-true v w here))
    by_test w false here = refl

-- and goes where it has none left
pub less_gone : (es : List Versioned) (v i id : ℕ) (d : Versioned) → AreNested es → StandsAt entry_version v es i → i < length es → d ≡ get_or es i d → without id d.ids ≡ [] → HasLess id v es (remove es i)
less_gone es v i id d nested at within is left = record {
  ids = λ w. remove_under 0 es v i at nested.rises w ∙ by_test w (v == w) refl;
  nested = record { rises = remove_rises 0 es v i at nested.rises; widens = remove_widens es i within nested.widens };
  spanned = λ ss all. remove_spanned ss es v i at all;
}
  where
    by_test : (w : ℕ) (b : Bool) → (v == w) ≡ b → cond b [] (ids_under es w) ≡ cond b (without id (ids_under es w)) (ids_under es w)
    by_test w true here = sym left ∙ ap (without id) (ap (λ (e : Versioned). e.ids) is ∙ sym (stands_under es v i d at) ∙ ap (ids_under es) (eqb-true v w here))
    by_test w false here = refl

-- a version that is not there has none
pub less_none : (es : List Versioned) (v id : ℕ) → AreNested es → ids_under es v ≡ [] → HasLess id v es es
less_none es v id nested none = record { ids = λ w. by_test w (v == w) refl; nested = nested; spanned = λ ss all. all }
  where
    by_test : (w : ℕ) (b : Bool) → (v == w) ≡ b → ids_under es w ≡ cond b (without id (ids_under es w)) (ids_under es w)
    by_test w true here = let empty : ids_under es w ≡ [] = sym (ap (ids_under es) (eqb-true v w here)) ∙ none in empty ∙ sym (ap (without id) empty)
    by_test w false here = refl

-- ---- by key and by table

-- what is under one key is changed
pub changed_key : (changed : List Versioned → List Versioned → Type 0) (old next : List (List Value × Vec Versioned Global)) (key : List Value) (items : List Versioned)
    → changed (versions_in old key) items → versions_in next key ≡ items → ((k : List Value) → is_eq (key_order key k) ≡ false → versions_in next k ≡ versions_in old k)
    → (k : List Value) → ChangedWhere changed (is_eq (key_order key k)) (versions_in old k) (versions_in next k)
changed_key changed old next key items change here away k = by_test (is_eq (key_order key k)) refl
  where
    by_test : (b : Bool) → is_eq (key_order key k) ≡ b → ChangedWhere changed b (versions_in old k) (versions_in next k)
    by_test true tie = subst (λ j. changed (versions_in old j) (versions_in next j)) (key_order-equal key k ((Equal-is (key_order key k)).0 tie)) (subst (changed (versions_in old key)) (sym here) change)
    by_test false apart = away k apart

-- what is changed where it stands
pub put_key : (changed : List Versioned → List Versioned → Type 0) (old next : List (List Value × Vec Versioned Global)) (key : List Value) (was : List Versioned) (v : Vec Versioned Global)
    → was ≡ versions_in old key → changed was v.items
    → ((k : List Value) → lookup (is_at (key_order k)) next ≡ cond (is_at (key_order key) k) (Some v) (lookup (is_at (key_order k)) old))
    → (k : List Value) → ChangedWhere changed (is_eq (key_order key k)) (versions_in old k) (versions_in next k)
put_key changed old next key was v is change put =
    changed_key changed old next key v.items (subst (λ es. changed es v.items) is change)
    (ap versions_found (put key ∙ ap (λ b. cond b (Some v) (lookup (is_at (key_order key)) old)) (ap is_eq (tied_itself key_order_total key))))
    (λ k apart. ap versions_found (put k ∙ ap (λ b. cond b (Some v) (lookup (is_at (key_order k)) old)) apart))

-- and goes, where nothing is left
pub gone_key : (changed : List Versioned → List Versioned → Type 0) (old mid next : List (List Value × Vec Versioned Global)) (key : List Value) (was : List Versioned) (v : Vec Versioned Global)
    → was ≡ versions_in old key → changed was v.items → v.items ≡ []
    → ((k : List Value) → lookup (is_at (key_order k)) mid ≡ cond (is_at (key_order key) k) (Some v) (lookup (is_at (key_order k)) old))
    → ((k : List Value) → lookup (is_at (key_order k)) next ≡ cond (is_at (key_order key) k) None (lookup (is_at (key_order k)) mid))
    → (k : List Value) → ChangedWhere changed (is_eq (key_order key k)) (versions_in old k) (versions_in next k)
gone_key changed old mid next key was v is change none put taken =
    changed_key changed old next key v.items (subst (λ es. changed es v.items) is change)
    (ap versions_found (taken key ∙ ap (λ b. cond b (let nothing : Option (Vec Versioned Global) = None in nothing) (lookup (is_at (key_order key)) mid)) (ap is_eq (tied_itself key_order_total key))) ∙ sym none)
    (λ k apart. ap versions_found
    (taken k ∙ ap (λ b. cond b (let nothing : Option (Vec Versioned Global) = None in nothing) (lookup (is_at (key_order k)) mid)) apart
    ∙ put k ∙ ap (λ b. cond b (Some v) (lookup (is_at (key_order k)) old)) apart))

-- a key that has no versions has an id no more
pub less_absent : (old : List (List Value × Vec Versioned Global)) (key : List Value) (id version : ℕ) → AreNested (versions_in old key) → versions_in old key ≡ []
    → (k : List Value) → ChangedWhere (HasLess id version) (is_eq (key_order key k)) (versions_in old k) (versions_in old k)
less_absent old key id version nested none =
    changed_key (HasLess id version) old old key (versions_in old key) (less_none (versions_in old key) version id nested (ap (λ es. ids_under es version) none)) refl (λ k apart. refl)

-- the versions of a key, or none
pub versions_or : (found : Option (Vec Versioned Global)) (none : Vec Versioned Global) → none.items ≡ [] → (unwrap_or found none).items ≡ versions_found found
versions_or None none empty = empty
versions_or (Some v) none empty = refl

-- where nothing is counted nothing is there
pub empty_from : (v : Vec Versioned Global) (b : Bool) → b ≡ (vec_len v == 0) → b ≡ true → v.items ≡ []
empty_from v b is empty = let none : vec_len v ≡ 0 = eqb-true (vec_len v) 0 (sym is ∙ empty) in nil_from_length v.items (omega (arith, none))

-- ---- the ids of each version

pub more_ids : (old next : List (ℕ × Versions)) (id : ℕ) (x : PieceRecord) → ChangedOn (HasMore id x) old next x.cells.table x.cells.key → (t : ℕ) (k : List Value) (v : ℕ)
    → ids_under (versions_on next t k) v ≡ cond ((x.cells.table == t) && (is_eq (key_order x.cells.key k) && (x.version == v))) (placed id (ids_under (versions_on old t k) v)) (ids_under (versions_on old t k) v)
more_ids old next id x change t k v = by_tests (x.cells.table == t) (is_eq (key_order x.cells.key k)) (change t k)
  where
    by_tests : (a b : Bool) → ChangedWhere (HasMore id x) (a && b) (versions_on old t k) (versions_on next t k)
        → ids_under (versions_on next t k) v ≡ cond (a && (b && (x.version == v))) (placed id (ids_under (versions_on old t k) v)) (ids_under (versions_on old t k) v)
    by_tests true true more = more.ids v
    by_tests true false same = ap (λ es. ids_under es v) same
    by_tests false b same = ap (λ es. ids_under es v) same

pub less_ids : (old next : List (ℕ × Versions)) (id : ℕ) (x : PieceRecord) → ChangedOn (HasLess id x.version) old next x.cells.table x.cells.key → (t : ℕ) (k : List Value) (v : ℕ)
    → ids_under (versions_on next t k) v ≡ cond ((x.cells.table == t) && (is_eq (key_order x.cells.key k) && (x.version == v))) (without id (ids_under (versions_on old t k) v)) (ids_under (versions_on old t k) v)
less_ids old next id x change t k v = by_tests (x.cells.table == t) (is_eq (key_order x.cells.key k)) (change t k)
  where
    by_tests : (a b : Bool) → ChangedWhere (HasLess id x.version) (a && b) (versions_on old t k) (versions_on next t k)
        → ids_under (versions_on next t k) v ≡ cond (a && (b && (x.version == v))) (without id (ids_under (versions_on old t k) v)) (ids_under (versions_on old t k) v)
    by_tests true true less = less.ids v
    by_tests true false same = ap (λ es. ids_under es v) same
    by_tests false b same = ap (λ es. ids_under es v) same
