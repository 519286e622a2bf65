-- The index of some records that stand by id, when it gains one more of them.
use Rattle.std.proofs.Common.{◌≡◌, ℕ, ◌<◌, ◌+◌, ◌==◌, Bool, true, false, cond, not, List, [], ◌∷◌, ◌++◌, append_assoc, length, take, drop, get_or, reverse, Some, refl, sym, ap, subst, ◌∙◌, arith}
use Rattle.std.proofs.lemmas.Bool.{eq-eqb, eqb-true}
use Rattle.std.proofs.lemmas.List.{append-nil, drop_more, reverse-append, reverse-reverse, take-append-drop, take_more}
use Rattle.std.proofs.lemmas.List.Elements.{filter-append}
use Rattle.std.specs.List.{AllByRecursion}
use Rattle.std.specs.List.Sorted.{IsStrictlySortedBy}
use Rattle.std.specs.Ordering.{nat_cmp}
use Rattle.wm_chunks.specs.Numbers.{AreOrdered, Numbers}
use Rattle.wm_ids.proofs.Placing.{none_from}
use Rattle.wm_ids.specs.Ids.{placed}
use Rattle.wm_ids.specs.Versioned.{AllNested, AllSpanned, AreSpanned, Gains, IsSpanned, VersionsFrom, ids_under, versions_on}
use Rattle.wm_ids.specs.declared.versioned.Versioned.{Versioned}
use Rattle.wm_image.specs.Indexing.{IsIndexOf, is_piece_or_touch, others}
use Rattle.wm_index.specs.Indexed.{Adds, IdsAscend, IsIndexed, ids_at, listed}
use Rattle.wm_index.specs.Sought.{Sought, PieceAt, is_sought, ids_with}
use Rattle.wm_index.specs.declared.index.Index.{Index}
use Rattle.wm_records.proofs.Ascending.{ascending-with}
use Rattle.wm_records.proofs.Lists.{ids_with-between, record_at-between}
use Rattle.wm_records.proofs.Pieced.{gains_nested, gains_spanned}
use Rattle.wm_spec.specs.Records.{record_at}
use Rattle.wm_spec.specs.declared.record.Record.{Record}
use Rattle.wm_spec.specs.declared.record.stored.Stored.{Stored}
use Rattle.wm_state.specs.ById.{AllAbove, Ascend}

-- ---- some of the records stand by id as all do

AllAbove-front : (id : ℕ) (xs ys : List Stored) → AllAbove id (xs ++ ys) → AllAbove id xs
AllAbove-front id [] ys above = tt
AllAbove-front id (x ∷ xs) ys above = (above.0, AllAbove-front id xs ys above.1)

Ascend-front : (xs ys : List Stored) → Ascend (xs ++ ys) → Ascend xs
Ascend-front [] ys sorted = tt
Ascend-front (x ∷ xs) ys sorted = (AllAbove-front x.id xs ys sorted.0, Ascend-front xs ys sorted.1)

AllAbove-others : (id : ℕ) (xs ys : List Stored) → AllAbove id (xs ++ ys) → AllAbove id (others xs ++ ys)
AllAbove-others id [] ys above = above
AllAbove-others id (x ∷ xs) ys above = by_test (not (is_piece_or_touch x.record)) (AllAbove-others id xs ys above.1)
  where
    by_test : (b : Bool) → AllAbove id (others xs ++ ys) → AllAbove id (cond b (x ∷ others xs) (others xs) ++ ys)
    by_test true rest = (above.0, rest)
    by_test false rest = rest

Ascend-others : (xs ys : List Stored) → Ascend (xs ++ ys) → Ascend (others xs ++ ys)
Ascend-others [] ys sorted = sorted
Ascend-others (x ∷ xs) ys sorted = by_test (not (is_piece_or_touch x.record)) (Ascend-others xs ys sorted.1)
  where
    by_test : (b : Bool) → Ascend (others xs ++ ys) → Ascend (cond b (x ∷ others xs) (others xs) ++ ys)
    by_test true rest = (AllAbove-others x.id xs ys sorted.0, rest)
    by_test false rest = rest

-- the ids in their index ascend
ids_ascend : (ss some : List Stored) (x : Index) → Ascend some → IsIndexOf ss some x → IdsAscend x
ids_ascend ss some x sorted is q = subst (IsStrictlySortedBy nat_cmp) (sym (is.told q)) (ascending-with (is_sought q) some sorted)

-- ---- one record more

gained : (ss xs ys : List Stored) (s : Stored) (old next : Index) → Ascend ss → ss ≡ xs ++ s ∷ ys → (us vs : List Stored) → Ascend (us ++ s ∷ vs) → IsIndexOf ss (us ++ vs) old
    → Adds old next s.id s.record → Gains old.pieces.entries next.pieces.entries s.id s.record → IsIndexOf ss (us ++ s ∷ vs) next
gained ss xs ys s old next sorted split us vs some is adds gains = record {
  told = λ q. adds q ∙ ap (λ ids. cond (is_sought q s.record) (placed s.id ids) ids) (is.told q) ∙ sym (ids_with-between (is_sought q) us s vs some);
  nested = gains_nested old.pieces.entries next.pieces.entries s.id (Some s.record) gains is.nested;
  spanned = gains_spanned ss old.pieces.entries next.pieces.entries s.id (Some s.record)
      (ap (λ l. record_at l s.id) split ∙ record_at-between xs s ys (subst Ascend split sorted)) gains is.spanned;
}

-- one record more, or none, when only others are told
others-push : (xs : List Stored) (s : Stored) → others (xs ++ s ∷ []) ≡ others xs ++ cond (not (is_piece_or_touch s.record)) (s ∷ []) []
others-push xs s = filter-append (λ (t : Stored). not (is_piece_or_touch t.record)) xs (s ∷ [])

other_is : (xs : List Stored) (s : Stored) → is_piece_or_touch s.record ≡ false → others (xs ++ s ∷ []) ≡ others xs ++ s ∷ []
other_is xs s other = others-push xs s ∙ ap (λ b. others xs ++ cond (not b) (s ∷ []) []) other

none_is : (xs : List Stored) (s : Stored) → is_piece_or_touch s.record ≡ true → others (xs ++ s ∷ []) ≡ others xs
none_is xs s none = others-push xs s ∙ ap (λ b. others xs ++ cond (not b) (s ∷ []) []) none ∙ append-nil (others xs)

-- ---- from the first on

-- the records up to a place, the one that stands there, and those behind it
split_at : (ss : List Stored) (i : ℕ) (s : Stored) → i < length ss → s ≡ get_or ss i s → ss ≡ take i ss ++ s ∷ drop (i + 1) ss
split_at ss i s within is = sym (take-append-drop i ss) ∙ ap (λ l. take i ss ++ l) (drop_more ss i s within ∙ ap (λ t. t ∷ drop (i + 1) ss) (sym is))

taken_more : (ss : List Stored) (i : ℕ) (s : Stored) → i < length ss → s ≡ get_or ss i s → take (i + 1) ss ≡ take i ss ++ s ∷ []
taken_more ss i s within is = take_more ss i s within ∙ ap (λ t. take i ss ++ t ∷ []) (sym is)

pub others_ascend : (ss : List Stored) (i : ℕ) (x : Index) → Ascend ss → IsIndexOf ss (others (take i ss)) x → IdsAscend x
others_ascend ss i x sorted is =
    ids_ascend ss (others (take i ss)) x
    (Ascend-front (others (take i ss)) (drop i ss) (Ascend-others (take i ss) (drop i ss) (subst Ascend (sym (take-append-drop i ss)) sorted))) is

pub others_more : (ss : List Stored) (i : ℕ) (s : Stored) (old next : Index) → Ascend ss → i < length ss → s ≡ get_or ss i s → is_piece_or_touch s.record ≡ false
    → IsIndexOf ss (others (take i ss)) old → Adds old next s.id s.record → Gains old.pieces.entries next.pieces.entries s.id s.record → IsIndexOf ss (others (take (i + 1) ss)) next
others_more ss i s old next sorted within here other is adds gains =
    subst (λ l. IsIndexOf ss l next) (sym (ap others (taken_more ss i s within here) ∙ other_is front s other))
    (gained ss front back s old next sorted split (others front) []
    (Ascend-front (others front ++ s ∷ []) back (subst Ascend (sym (append_assoc (others front) (s ∷ []) back)) (Ascend-others front (s ∷ back) (subst Ascend split sorted))))
    (subst (λ l. IsIndexOf ss l old) (sym (append-nil (others front))) is) adds gains)
  where
    front : List Stored
    front = take i ss

    back : List Stored
    back = drop (i + 1) ss

    split : ss ≡ front ++ s ∷ back
    split = split_at ss i s within here

pub others_still : (ss : List Stored) (i : ℕ) (s : Stored) (x : Index) → i < length ss → s ≡ get_or ss i s → is_piece_or_touch s.record ≡ true
    → IsIndexOf ss (others (take i ss)) x → IsIndexOf ss (others (take (i + 1) ss)) x
others_still ss i s x within here none is = subst (λ l. IsIndexOf ss l x) (sym (ap others (taken_more ss i s within here) ∙ none_is (take i ss) s none)) is

-- ---- from the last on, over all others

-- the index has all from a place on, and the others before it
abbrev pub HasFrom : List Stored → List Stored → Index → Type 0
HasFrom ss back x = (front : List Stored) → ss ≡ front ++ back → IsIndexOf ss (others front ++ back) x

-- what was gone through from the last on stands behind the rest
front_of : (ss ys : List Stored) (n : ℕ) → ys ≡ take n (reverse ss) → (front : List Stored) × (ss ≡ front ++ reverse ys)
front_of ss ys n are = (
  reverse (drop n (reverse ss)),
  sym (reverse-reverse ss) ∙ ap reverse (sym (take-append-drop n (reverse ss))) ∙ reverse-append (take n (reverse ss)) (drop n (reverse ss))
      ∙ ap (λ l. reverse (drop n (reverse ss)) ++ reverse l) (sym are),
)

pub from_ascend : (ss ys : List Stored) (n : ℕ) (x : Index) → Ascend ss → ys ≡ take n (reverse ss) → HasFrom ss (reverse ys) x → IdsAscend x
from_ascend ss ys n x sorted are is =
    let h = front_of ss ys n are in
    ids_ascend ss (others h.0 ++ reverse ys) x (Ascend-others h.0 (reverse ys) (subst Ascend h.1 sorted)) (is h.0 h.1)

pub from_nested : (ss ys : List Stored) (n : ℕ) (x : Index) → ys ≡ take n (reverse ss) → HasFrom ss (reverse ys) x → AllNested x.pieces.entries
from_nested ss ys n x are is = let h = front_of ss ys n are in (is h.0 h.1).nested

reverse-push : (ys : List Stored) (s : Stored) → reverse (ys ++ s ∷ []) ≡ s ∷ reverse ys
reverse-push ys s = reverse-append ys (s ∷ [])

pub from_more : (ss ys : List Stored) (s : Stored) (old next : Index) → Ascend ss → is_piece_or_touch s.record ≡ true → HasFrom ss (reverse ys) old
    → Adds old next s.id s.record → Gains old.pieces.entries next.pieces.entries s.id s.record → HasFrom ss (reverse (ys ++ s ∷ [])) next
from_more ss ys s old next sorted own is adds gains = subst (λ l. HasFrom ss l next) (sym (reverse-push ys s)) (λ front split.
    gained ss front (reverse ys) s old next sorted split (others front) (reverse ys) (Ascend-others front (s ∷ reverse ys) (subst Ascend split sorted))
    (subst (λ l. IsIndexOf ss (l ++ reverse ys) old) (none_is front s own) (is (front ++ s ∷ []) (split ∙ sym (append_assoc front (s ∷ []) (reverse ys)))))
    adds gains)

pub from_still : (ss ys : List Stored) (s : Stored) (x : Index) → is_piece_or_touch s.record ≡ false → HasFrom ss (reverse ys) x → HasFrom ss (reverse (ys ++ s ∷ [])) x
from_still ss ys s x other is = subst (λ l. HasFrom ss l x) (sym (reverse-push ys s)) (λ front split.
    subst (λ l. IsIndexOf ss l x) (ap (λ l. l ++ reverse ys) (other_is front s other) ∙ append_assoc (others front) (s ∷ []) (reverse ys))
    (is (front ++ s ∷ []) (split ∙ sym (append_assoc front (s ∷ []) (reverse ys)))))

-- behind them all the index has all
pub from_all : (ss ys : List Stored) (x : Index) → ys ≡ reverse ss → HasFrom ss (reverse ys) x → IsIndexOf ss ss x
from_all ss ys x all is = subst (λ l. IsIndexOf ss l x) same (is [] (sym same))
  where
    same : reverse ys ≡ ss
    same = ap reverse all ∙ reverse-reverse ss

-- ---- none, and all

spans_none : (ss : List Stored) (b : ℕ) (es : List Versioned) → VersionsFrom b es → ((v : ℕ) → ids_under es v ≡ []) → AreSpanned ss es
spans_none ss b [] up none = tt
spans_none ss b (e ∷ es) up none =
    (subst (AllByRecursion (IsSpanned ss e.from e.till)) (sym here) tt, spans_none ss (e.version + 1) es up.1 (λ v. by_test v (e.version == v) refl (none v)))
  where
    here : e.ids ≡ []
    here = ap (λ b. cond b e.ids (ids_under es e.version)) (sym (eq-eqb e.version e.version refl)) ∙ none e.version

    by_test : (v : ℕ) (b : Bool) → (e.version == v) ≡ b → cond b e.ids (ids_under es v) ≡ [] → ids_under es v ≡ []
    by_test v true is h = ap (ids_under es) (sym (eqb-true e.version v is)) ∙ none_from (e.version + 1) e.version es up.1 (omega arith)
    by_test v false is h = h

-- the index of no records
pub index_of_none : (ss : List Stored) (kept : Numbers Record) (x : Index) → IsIndexed kept x → listed kept.entries ≡ [] → IsIndexOf ss [] x
index_of_none ss kept x is empty = record {
  told = told;
  nested = is.nested;
  spanned = λ t k. spans_none ss 0 (versions_on x.pieces.entries t k) (is.nested t k).rises (λ v. told (PieceAt t k v));
}
  where
    told : (q : Sought) → ids_at x q ≡ ids_with (is_sought q) []
    told q = is.told q ∙ ap (ids_with (is_sought q)) empty

-- the index of all
pub index_of_all : (ss : List Stored) (x : Index) → IsIndexOf ss ss x → (next : Numbers Record) → AreOrdered next.entries → listed next.entries ≡ ss → IsIndexed next x
index_of_all ss x is next ordered same = record {
  ordered = ordered;
  told = λ q. is.told q ∙ ap (ids_with (is_sought q)) (sym same);
  nested = is.nested;
  spanned = subst (λ l. AllSpanned l x.pieces.entries) (sym same) is.spanned;
}
