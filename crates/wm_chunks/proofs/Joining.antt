-- Chunks one behind another: what is found in them, and what a change of one of them changes.
use Rattle.std.proofs.Common.{◌≡◌, ◌≢◌, ℕ, zero, suc, ◌<◌, ◌≤◌, ◌+◌, ◌-◌, ◌*◌, ◌/◌, Bool, true, false, cond, List, [], ◌∷◌, ◌++◌, length, vec_len, ◌==◌, Option, Some, None, refl, sym, ap, subst, ◌∙◌, ◌⊎◌, inl, inr, arith}
use Rattle.std.proofs.lemmas.Bool.{cases_eq, cases_lt, eq-eqb, eqb-true, true≢false}
use Rattle.std.proofs.lemmas.List.{append-nil, nil_from_length}
use Rattle.std.proofs.lemmas.Map.Keys.{sorted_head, sorted_tail}
use Rattle.std.specs.BTreeMap.{is_at}
use Rattle.std.specs.List.{AllByRecursion, slice_get}
use Rattle.std.specs.List.Sorted.{IsStrictlySortedBy}
use Rattle.std.specs.Map.{keys_of, lookup, set_value}
use Rattle.std.specs.Option.{option_or}
use Rattle.std.specs.Ordering.{nat_cmp}
use Rattle.std.specs.declared.alloc.Global.{Global}
use Rattle.std.specs.declared.cmp.Ordering.TheVariants.{Less}
use Rattle.std.specs.declared.vec.Vec.{Vec}
use Rattle.wm_chunks.proofs.Placing.{is_at-apart, is_at-same, none_above, none_below, within_from}
use Rattle.wm_chunks.proofs.Rising.{from_less, less_than}
use Rattle.wm_chunks.specs.Numbers.{AreChunks, IsChunk, RiseWithin, Sets, entries_found, entry_number, joined, last_number, value_at}
use Rattle.wm_chunks.specs.Rising.{RiseFrom}

-- each chunk has the numbers of its place, and stands behind those before it
abbrev pub ChunksFrom : {V : Type 0} → ℕ → List (ℕ × Vec (ℕ × V) Global) → Type 0
ChunksFrom low [] = Unit {0}
ChunksFrom low (c ∷ cs) = (low ≤ c.0) × IsChunk c.0 c.1.items × ChunksFrom (c.0 + 1) cs

-- what a chunk has is found among all
later : {V : Type 0} (c : ℕ × Vec (ℕ × V) Global) (cs : List (ℕ × Vec (ℕ × V) Global)) (place : ℕ) (d : Vec (ℕ × V) Global) → AllByRecursion (λ k. nat_cmp c.0 k ≡ Less) (keys_of cs)
    → lookup (is_at (nat_cmp place)) cs ≡ Some d → lookup (is_at (nat_cmp place)) (c ∷ cs) ≡ Some d
later {V} c cs place d above is = ap (λ b. cond b (Some c.1) (lookup (is_at (nat_cmp place)) cs)) (is_at-apart place c.0 (λ same. behind cs above is same)) ∙ is
  where
    behind : (ds : List (ℕ × Vec (ℕ × V) Global)) → AllByRecursion (λ k. nat_cmp c.0 k ≡ Less) (keys_of ds) → lookup (is_at (nat_cmp place)) ds ≡ Some d → place ≡ c.0 → ⊥
    behind [] over found same = cc
    behind (e ∷ ds) over found same =
        let less : c.0 < e.0 = less_than c.0 e.0 over.0 in
        behind ds over.1 (sym (ap (λ b. cond b (Some e.1) (lookup (is_at (nat_cmp place)) ds)) (is_at-apart place e.0 (λ e2. omega (arith, less, same, e2)))) ∙ found) same

chunks_from : {V : Type 0} (low : ℕ) (cs : List (ℕ × Vec (ℕ × V) Global)) → IsStrictlySortedBy nat_cmp (keys_of cs) → AllByRecursion (λ k. low ≤ k) (keys_of cs)
    → ((place : ℕ) (d : Vec (ℕ × V) Global) → lookup (is_at (nat_cmp place)) cs ≡ Some d → IsChunk place d.items) → ChunksFrom low cs
chunks_from low [] sorted least own = tt
chunks_from {V} low (c ∷ cs) sorted least own =
    let over = sorted_head nat_cmp c.0 (keys_of cs) sorted in (
      least.0,
      own c.0 c.1 (ap (λ b. cond b (Some c.1) (lookup (is_at (nat_cmp c.0)) cs)) (is_at-same c.0 c.0 refl)),
      chunks_from (c.0 + 1) cs (sorted_tail nat_cmp c.0 (keys_of cs) sorted) (above cs over) (λ place d is. own place d (later c cs place d over is)),
    )
  where
    above : (ds : List (ℕ × Vec (ℕ × V) Global)) → AllByRecursion (λ k. nat_cmp c.0 k ≡ Less) (keys_of ds) → AllByRecursion (λ k. c.0 + 1 ≤ k) (keys_of ds)
    above [] over = tt
    above (e ∷ ds) over = (let less : c.0 < e.0 = less_than c.0 e.0 over.0 in omega (arith, less), above ds over.1)

all_from : {V : Type 0} (cs : List (ℕ × Vec (ℕ × V) Global)) → AllByRecursion (λ k. 0 ≤ k) (keys_of cs)
all_from [] = tt
all_from (c ∷ cs) = (omega arith, all_from cs)

chunked : {V : Type 0} (cs : List (ℕ × Vec (ℕ × V) Global)) → AreChunks cs → ChunksFrom 0 cs
chunked cs are = chunks_from 0 cs are.ordered (all_from cs) (λ place d is. (are.own place d is).0)

-- ---- they ascend

pub rise-append : {V : Type 0} (low high : ℕ) (es fs : List (ℕ × V)) → RiseWithin low high es → RiseFrom entry_number high fs → RiseFrom entry_number low (es ++ fs)
rise-append low high [] fs up more = from_less entry_number low high fs up more
rise-append low high (e ∷ es) fs up more = (up.0, rise-append (e.0 + 1) high es fs up.1 more)

joined_rises : {V : Type 0} (low : ℕ) (cs : List (ℕ × Vec (ℕ × V) Global)) → ChunksFrom low cs → RiseFrom entry_number (low * 32) (joined cs)
joined_rises low [] up = tt
joined_rises low (c ∷ cs) up =
    let first : low ≤ c.0 = up.0 in
    from_less entry_number (low * 32) (c.0 * 32) (joined (c ∷ cs)) (omega (arith, first))
    (rise-append (c.0 * 32) (c.0 * 32 + 32) c.1.items (joined cs) up.1
    (from_less entry_number (c.0 * 32 + 32) ((c.0 + 1) * 32) (joined cs) (omega arith) (joined_rises (c.0 + 1) cs up.2)))

pub all_rise : {V : Type 0} (cs : List (ℕ × Vec (ℕ × V) Global)) → AreChunks cs → RiseFrom entry_number 0 (joined cs)
all_rise cs are = from_less entry_number 0 (0 * 32) (joined cs) (omega arith) (joined_rises 0 cs (chunked cs are))

-- ---- what is found in them

pub value-append : {V : Type 0} (es fs : List (ℕ × V)) (q : ℕ) → value_at (es ++ fs) q ≡ option_or (value_at es q) (value_at fs q)
value-append [] fs q = refl
value-append {V} (e ∷ es) fs q = by_test (is_at (nat_cmp q) e.0) (value-append es fs q)
  where
    by_test : (b : Bool) → value_at (es ++ fs) q ≡ option_or (value_at es q) (value_at fs q) → cond b (Some e.1) (value_at (es ++ fs) q) ≡ option_or (cond b (Some e.1) (value_at es q)) (value_at fs q)
    by_test true rest = refl
    by_test false rest = rest

pub or_none : {T : Type 0} (o p : Option T) → p ≡ None → option_or o p ≡ o
or_none None p is = is
or_none (Some x) p is = refl

value-joined : {V : Type 0} (low : ℕ) (cs : List (ℕ × Vec (ℕ × V) Global)) (q : ℕ) → ChunksFrom low cs → value_at (joined cs) q ≡ value_at (entries_found (lookup (is_at (nat_cmp (q / 32))) cs)) q
value-joined low [] q up = refl
value-joined {V} low (c ∷ cs) q up = value-append c.1.items (joined cs) q ∙ by_place (cases_eq (q / 32) c.0) (value-joined (c.0 + 1) cs q up.2)
  where
    other : (q / 32 ≢ c.0) → (q < c.0 * 32) ⊎ (c.0 * 32 ≤ q) → value_at c.1.items q ≡ None
    other away (inl less) = none_below (c.0 * 32) q c.1.items (within_from (c.0 * 32) (c.0 * 32 + 32) c.1.items up.1) less
    other away (inr more) = none_above (c.0 * 32) (c.0 * 32 + 32) q c.1.items up.1 (omega (arith, away, more))

    by_place : (q / 32 ≡ c.0) ⊎ (q / 32 ≢ c.0) → value_at (joined cs) q ≡ value_at (entries_found (lookup (is_at (nat_cmp (q / 32))) cs)) q
        → option_or (value_at c.1.items q) (value_at (joined cs) q) ≡ value_at (entries_found (cond (is_at (nat_cmp (q / 32)) c.0) (Some c.1) (lookup (is_at (nat_cmp (q / 32))) cs))) q
    by_place (inl here) rest =
        or_none (value_at c.1.items q) (value_at (joined cs) q) (none_below ((c.0 + 1) * 32) q (joined cs) (joined_rises (c.0 + 1) cs up.2) (omega (arith, here)))
        ∙ sym (ap (λ b. value_at (entries_found (cond b (Some c.1) (lookup (is_at (nat_cmp (q / 32))) cs))) q) (is_at-same (q / 32) c.0 here))
    by_place (inr away) rest =
        ap (λ (o : Option V). option_or o (value_at (joined cs) q)) (other away (cases_lt q (c.0 * 32)))
        ∙ rest
        ∙ sym (ap (λ b. value_at (entries_found (cond b (Some c.1) (lookup (is_at (nat_cmp (q / 32))) cs))) q) (is_at-apart (q / 32) c.0 away))

pub value_in : {V : Type 0} (cs : List (ℕ × Vec (ℕ × V) Global)) (q : ℕ) → AreChunks cs → value_at (joined cs) q ≡ value_at (entries_found (lookup (is_at (nat_cmp (q / 32))) cs)) q
value_in cs q are = value-joined 0 cs q (chunked cs are)

pub found_in : {V : Type 0} (cs : List (ℕ × Vec (ℕ × V) Global)) (q : ℕ) (c : Vec (ℕ × V) Global) → AreChunks cs → lookup (is_at (nat_cmp (q / 32))) cs ≡ Some c → value_at (joined cs) q ≡ value_at c.items q
found_in {V} cs q c are is = value_in cs q are ∙ ap (λ (o : Option (Vec (ℕ × V) Global)). value_at (entries_found o) q) is

pub found_none : {V : Type 0} (cs : List (ℕ × Vec (ℕ × V) Global)) (q : ℕ) → AreChunks cs → lookup (is_at (nat_cmp (q / 32))) cs ≡ None → value_at (joined cs) q ≡ None
found_none {V} cs q are is = value_in cs q are ∙ ap (λ (o : Option (Vec (ℕ × V) Global)). value_at (entries_found o) q) is

-- ---- one chunk changed

abbrev pub Changes : {V : Type 0} → ℕ → Option (Vec (ℕ × V) Global) → List (ℕ × Vec (ℕ × V) Global) → List (ℕ × Vec (ℕ × V) Global) → Type 0
Changes place c old new = (p : ℕ) → lookup (is_at (nat_cmp p)) new ≡ cond (is_at (nat_cmp place) p) c (lookup (is_at (nat_cmp p)) old)

-- they are chunks as before
pub changed_chunks : {V : Type 0} (old new : List (ℕ × Vec (ℕ × V) Global)) (place : ℕ) (c : Option (Vec (ℕ × V) Global)) → AreChunks old → IsStrictlySortedBy nat_cmp (keys_of new)
    → ((d : Vec (ℕ × V) Global) → c ≡ Some d → IsChunk place d.items × (0 < length d.items)) → Changes place c old new → AreChunks new
changed_chunks {V} old new place c are sorted good changes = record { ordered = sorted; own = λ p d is. by_place p d (cases_eq place p) is }
  where
    by_place : (p : ℕ) (d : Vec (ℕ × V) Global) → (place ≡ p) ⊎ (place ≢ p) → lookup (is_at (nat_cmp p)) new ≡ Some d → IsChunk p d.items × (0 < length d.items)
    by_place p d (inl here) is =
        subst (λ n. IsChunk n d.items × (0 < length d.items)) here
        (good d (sym (changes p ∙ ap (λ b. cond b c (lookup (is_at (nat_cmp p)) old)) (is_at-same place p here)) ∙ is))
    by_place p d (inr away) is = are.own p d (sym (changes p ∙ ap (λ b. cond b c (lookup (is_at (nat_cmp p)) old)) (is_at-apart place p away)) ∙ is)

pub set_chunks : {V : Type 0} (old new : List (ℕ × Vec (ℕ × V) Global)) (place : ℕ) (c : Vec (ℕ × V) Global) → AreChunks old → IsStrictlySortedBy nat_cmp (keys_of new)
    → IsChunk place c.items → 0 < length c.items → Changes place (Some c) old new → AreChunks new
set_chunks {V} old new place c are sorted good some changes = changed_chunks old new place (Some c) are sorted (λ d is. given d is) changes
  where
    one : (d : Vec (ℕ × V) Global) → Some c ≡ Some d → c ≡ d
    one d is = cc

    given : (d : Vec (ℕ × V) Global) → Some c ≡ Some d → IsChunk place d.items × (0 < length d.items)
    given d is = subst (λ (v : Vec (ℕ × V) Global). IsChunk place v.items × (0 < length v.items)) (one d is) (good, some)

pub drop_chunks : {V : Type 0} (old new : List (ℕ × Vec (ℕ × V) Global)) (place : ℕ) → AreChunks old → IsStrictlySortedBy nat_cmp (keys_of new) → Changes place None old new → AreChunks new
drop_chunks {V} old new place are sorted changes = changed_chunks old new place None are sorted (λ d is. given d is) changes
  where
    given : (d : Vec (ℕ × V) Global) → None ≡ Some d → IsChunk place d.items × (0 < length d.items)
    given d is = cc

-- a chunk changed twice
pub changes_twice : {V : Type 0} (old mid new : List (ℕ × Vec (ℕ × V) Global)) (place : ℕ) (c d : Option (Vec (ℕ × V) Global)) → Changes place c old mid → Changes place d mid new → Changes place d old new
changes_twice {V} old mid new place c d first second p = second p ∙ by_test (is_at (nat_cmp place) p) (first p)
  where
    by_test : (b : Bool) → lookup (is_at (nat_cmp p)) mid ≡ cond b c (lookup (is_at (nat_cmp p)) old) → cond b d (lookup (is_at (nat_cmp p)) mid) ≡ cond b d (lookup (is_at (nat_cmp p)) old)
    by_test true is = refl
    by_test false is = is

-- a chunk with the entries that it had
pub joined_kept : {V : Type 0} (test : ℕ → Bool) (cs : List (ℕ × Vec (ℕ × V) Global)) (c d : Vec (ℕ × V) Global) → lookup test cs ≡ Some c → d.items ≡ c.items → joined (set_value test cs d) ≡ joined cs
joined_kept test [] c d is same = cc
joined_kept {V} test (e ∷ cs) c d is same = by_test (test e.0) is (joined_kept test cs c d)
  where
    one : Some e.1 ≡ Some c → e.1 ≡ c
    one h = cc

    by_test : (b : Bool) → cond b (Some e.1) (lookup test cs) ≡ Some c → (lookup test cs ≡ Some c → d.items ≡ c.items → joined (set_value test cs d) ≡ joined cs)
        → joined (cond b ((e.0, d) ∷ cs) (e ∷ set_value test cs d)) ≡ e.1.items ++ joined cs
    by_test true h rest = ap (λ (es : List (ℕ × V)). es ++ joined cs) (same ∙ sym (ap (λ (v : Vec (ℕ × V) Global). v.items) (one h)))
    by_test false h rest = ap (λ (es : List (ℕ × V)). e.1.items ++ es) (rest h same)

-- what is set in the chunk of a number is set among all
pub changed_values : {V : Type 0} (old new : List (ℕ × Vec (ℕ × V) Global)) (n : ℕ) (c : Option (Vec (ℕ × V) Global)) (becomes : Option V) → AreChunks old → AreChunks new
    → Changes (n / 32) c old new → Sets n becomes (entries_found (lookup (is_at (nat_cmp (n / 32))) old)) (entries_found c) → Sets n becomes (joined old) (joined new)
changed_values {V} old new n c becomes are_old are_new changes sets q =
    value_in new q are_new ∙ ap (λ (o : Option (Vec (ℕ × V) Global)). value_at (entries_found o) q) (changes (q / 32)) ∙ by_place (cases_eq (n / 32) (q / 32))
    ∙ ap (cond (is_at (nat_cmp n) q) becomes) (sym (value_in old q are_old))
  where
    by_place : (n / 32 ≡ q / 32) ⊎ (n / 32 ≢ q / 32)
        → value_at (entries_found (cond (is_at (nat_cmp (n / 32)) (q / 32)) c (lookup (is_at (nat_cmp (q / 32))) old))) q
        ≡ cond (is_at (nat_cmp n) q) becomes (value_at (entries_found (lookup (is_at (nat_cmp (q / 32))) old)) q)
    by_place (inl here) =
        ap (λ b. value_at (entries_found (cond b c (lookup (is_at (nat_cmp (q / 32))) old))) q) (is_at-same (n / 32) (q / 32) here)
        ∙ sets q
        ∙ ap (λ p. cond (is_at (nat_cmp n) q) becomes (value_at (entries_found (lookup (is_at (nat_cmp p)) old)) q)) here
    by_place (inr away) =
        ap (λ b. value_at (entries_found (cond b c (lookup (is_at (nat_cmp (q / 32))) old))) q) (is_at-apart (n / 32) (q / 32) away)
        ∙ sym (ap (λ b. cond b becomes (value_at (entries_found (lookup (is_at (nat_cmp (q / 32))) old)) q)) (is_at-apart n q (λ same. away (ap (λ m. m / 32) same))))

-- a number set in its chunk, which stays or begins
pub set_told : {V : Type 0} (old new : List (ℕ × Vec (ℕ × V) Global)) (n : ℕ) (c : Vec (ℕ × V) Global) (becomes : Option V) → AreChunks old → IsStrictlySortedBy nat_cmp (keys_of new)
    → IsChunk (n / 32) c.items → 0 < length c.items → Changes (n / 32) (Some c) old new → Sets n becomes (entries_found (lookup (is_at (nat_cmp (n / 32))) old)) c.items
    → Sets n becomes (joined old) (joined new)
set_told old new n c becomes are sorted good some changes sets =
    changed_values old new n (Some c) becomes are (set_chunks old new (n / 32) c are sorted good some changes) changes sets

-- a number taken out of its chunk, which goes
pub drop_told : {V : Type 0} (old new : List (ℕ × Vec (ℕ × V) Global)) (n : ℕ) → AreChunks old → IsStrictlySortedBy nat_cmp (keys_of new)
    → Changes (n / 32) None old new → Sets n None (entries_found (lookup (is_at (nat_cmp (n / 32))) old)) [] → Sets n None (joined old) (joined new)
drop_told old new n are sorted changes sets = changed_values old new n None None are (drop_chunks old new (n / 32) are sorted changes) changes sets

-- ---- the last chunk has the last number

last-append : {V : Type 0} (es : List (ℕ × V)) (f : ℕ × V) (fs : List (ℕ × V)) → last_number (es ++ f ∷ fs) ≡ last_number (f ∷ fs)
last-append [] f fs = refl
last-append (e ∷ []) f fs = refl
last-append (e ∷ g ∷ es) f fs = last-append (g ∷ es) f fs

pub last-behind : {V : Type 0} (es fs : List (ℕ × V)) → 0 < length fs → last_number (es ++ fs) ≡ last_number fs
last-behind es [] some = absurd (omega (arith, some))
last-behind es (f ∷ fs) some = last-append es f fs

length-behind : {V : Type 0} (es fs : List (ℕ × V)) → 0 < length fs → 0 < length (es ++ fs)
length-behind [] fs some = some
length-behind (e ∷ es) fs some = omega arith

last_joined : {V : Type 0} (cs : List (ℕ × Vec (ℕ × V) Global)) (i : ℕ) (c : ℕ × Vec (ℕ × V) Global) → i + 1 ≡ length cs → slice_get cs i ≡ Some c → 0 < length c.1.items
    → (last_number (joined cs) ≡ last_number c.1.items) × (0 < length (joined cs))
last_joined [] i c last is some = absurd (omega (arith, last))
last_joined {V} (d ∷ []) zero c last is some =
    let same : d ≡ c = only is in
    subst (λ (e : ℕ × Vec (ℕ × V) Global). (last_number (d.1.items ++ []) ≡ last_number e.1.items) × (0 < length (d.1.items ++ []))) same
    (rw (append-nil d.1.items) (refl, subst (λ (e : ℕ × Vec (ℕ × V) Global). 0 < length e.1.items) (sym same) some))
  where
    only : Some d ≡ Some c → d ≡ c
    only e = cc
last_joined (d ∷ []) (suc i) c last is some = absurd (omega (arith, last))
last_joined (d ∷ e ∷ cs) zero c last is some = absurd (omega (arith, last))
last_joined (d ∷ e ∷ cs) (suc i) c last is some =
    let more = last_joined (e ∷ cs) i c (omega (arith, last)) is some in
    (last-behind d.1.items (joined (e ∷ cs)) more.1 ∙ more.0, length-behind d.1.items (joined (e ∷ cs)) more.1)

last_index : {X : Type 0} (xs : List X) (x : X) → slice_get xs (length xs - 1) ≡ Some x → length xs - 1 + 1 ≡ length xs
last_index [] x is = cc
last_index (y ∷ xs) x is = omega arith

pub last_in : {V : Type 0} (cs : List (ℕ × Vec (ℕ × V) Global)) (place : ℕ) (c : Vec (ℕ × V) Global) → AreChunks cs → slice_get cs (length cs - 1) ≡ Some (place, c)
    → lookup (is_at (nat_cmp place)) cs ≡ Some c → last_number c.items ≡ last_number (joined cs)
last_in cs place c are is found = sym (last_joined cs (length cs - 1) (place, c) (last_index cs (place, c) is) is (are.own place c found).1).0

-- ---- a chunk that has none left

pub none_left : {V : Type 0} (c : Vec (ℕ × V) Global) (b : Bool) → b ≡ (vec_len c == 0) → b ≡ true → c.items ≡ []
none_left c b is empty = let none : vec_len c ≡ 0 = eqb-true (vec_len c) 0 (sym is ∙ empty) in nil_from_length c.items (omega (arith, none))

pub some_left : {V : Type 0} (c : Vec (ℕ × V) Global) (b : Bool) → b ≡ (vec_len c == 0) → b ≡ false → 0 < length c.items
some_left c b is some = by_length (cases_eq (vec_len c) 0)
  where
    by_length : (vec_len c ≡ 0) ⊎ (vec_len c ≢ 0) → 0 < length c.items
    by_length (inl none) = absurd (true≢false (sym (eq-eqb (vec_len c) 0 none) ∙ sym is ∙ some))
    by_length (inr apart) = omega (arith, apart)
