-- A newest chunk behind the older ones: what is found in both, and what a change of one of them changes.
use Rattle.std.proofs.Common.{◌≡◌, ◌≢◌, ℕ, ◌<◌, ◌≤◌, ◌+◌, ◌*◌, ◌/◌, cond, List, [], ◌∷◌, ◌++◌, length, Option, Some, None, Result, Ok, Err, OnErr, OnOk, refl, sym, ap, subst, ◌∙◌, ◌⊎◌, inl, inr, arith}
use Rattle.std.proofs.lemmas.Bool.{cases_eq, cases_lt}
use Rattle.std.proofs.lemmas.List.{append-nil}
use Rattle.std.specs.BTreeMap.{is_at}
use Rattle.std.specs.List.Sorted.{IsStrictlySortedBy}
use Rattle.std.specs.Map.{keys_of, lookup}
use Rattle.std.specs.Option.{option_or}
use Rattle.std.specs.Ordering.{nat_cmp}
use Rattle.std.specs.declared.alloc.Global.{Global}
use Rattle.std.specs.declared.vec.Vec.{Vec}
use Rattle.wm_chunks.proofs.Joining.{Changes, all_rise, last-behind, or_none, rise-append, set_chunks, value-append, value_in}
use Rattle.wm_chunks.proofs.Placing.{TellsLast, is_at-apart, is_at-same, last_told, none_above, none_below, rising_ordered, value-apart, value-same, within_from}
use Rattle.wm_chunks.specs.Numbers.{AreChunks, AreOrdered, IsChunk, IsNewest, Numbers, RiseWithin, Sets, entries_found, entry_number, joined, last_number, numbers, value_at}
use Rattle.wm_chunks.specs.Rising.{RiseFrom}

-- ---- they ascend

rise_before : {V : Type 0} (low high : ℕ) (es : List (ℕ × V)) → RiseFrom entry_number low es → low ≤ high → ((q : ℕ) → high ≤ q → value_at es q ≡ None) → RiseWithin low high es
rise_before low high [] up le none = le
rise_before {V} low high (e ∷ es) up le none = by_place (cases_lt e.0 high) (rise_before (e.0 + 1) high es up.1)
  where
    valued : Some e.1 ≡ None → RiseWithin low high (e ∷ es)
    valued is = cc

    by_place : (e.0 < high) ⊎ (high ≤ e.0) → (e.0 + 1 ≤ high → ((q : ℕ) → high ≤ q → value_at es q ≡ None) → RiseWithin (e.0 + 1) high es) → RiseWithin low high (e ∷ es)
    by_place (inl less) rest = (up.0, rest (omega (arith, less)) (λ q more. sym (value-apart e es q (λ same. omega (arith, less, more, same))) ∙ none q more))
    by_place (inr more) rest = valued (sym (value-same e es e.0 refl) ∙ none e.0 more)

module _ {V : Type 0} where
  newest_rises : (cs : List (ℕ × Vec (ℕ × V) Global)) (place : ℕ) (es : List (ℕ × V)) → IsNewest cs place es → RiseFrom entry_number 0 (joined cs ++ es)
  newest_rises cs place es is =
      rise-append 0 (place * 32) (joined cs) es (rise_before 0 (place * 32) (joined cs) (all_rise cs is.older) (omega arith) is.below)
      (within_from (place * 32) (place * 32 + 32) es is.own)

  pub newest_ordered : (cs : List (ℕ × Vec (ℕ × V) Global)) (place : ℕ) (es : List (ℕ × V)) → IsNewest cs place es → AreOrdered (joined cs ++ es)
  newest_ordered cs place es is = rising_ordered 0 (joined cs ++ es) (newest_rises cs place es is)

  -- ---- what is found in them

  none_newest : (cs : List (ℕ × Vec (ℕ × V) Global)) (place : ℕ) (es : List (ℕ × V)) (q : ℕ) → IsNewest cs place es → q / 32 < place → value_at es q ≡ None
  none_newest cs place es q is less = none_below (place * 32) q es (within_from (place * 32) (place * 32 + 32) es is.own) (omega (arith, less))

  pub found_older : (cs : List (ℕ × Vec (ℕ × V) Global)) (place : ℕ) (es : List (ℕ × V)) (q : ℕ) → IsNewest cs place es → q / 32 < place → value_at (joined cs ++ es) q ≡ value_at (joined cs) q
  found_older cs place es q is less = value-append (joined cs) es q ∙ or_none (value_at (joined cs) q) (value_at es q) (none_newest cs place es q is less)

  pub found_newest : (cs : List (ℕ × Vec (ℕ × V) Global)) (place : ℕ) (es : List (ℕ × V)) (q : ℕ) → IsNewest cs place es → place ≤ q / 32 → value_at (joined cs ++ es) q ≡ value_at es q
  found_newest cs place es q is le = value-append (joined cs) es q ∙ ap (λ (o : Option V). option_or o (value_at es q)) (is.below q (omega (arith, le)))

  pub found_nowhere : (cs : List (ℕ × Vec (ℕ × V) Global)) (place : ℕ) (es : List (ℕ × V)) (q : ℕ) → IsNewest cs place es → place < q / 32 → value_at (joined cs ++ es) q ≡ None
  found_nowhere cs place es q is less = found_newest cs place es q is (omega (arith, less)) ∙ none_above (place * 32) (place * 32 + 32) q es is.own (omega (arith, less))

  -- ---- the greatest number

  pub older_tells : (cs : List (ℕ × Vec (ℕ × V) Global)) (place : ℕ) (es : List (ℕ × V)) (m : Numbers V) (r : Option ℕ) → IsNewest cs place es → numbers (joined cs ++ es) ≡ m
      → es ≡ [] → r ≡ last_number (joined cs) → TellsLast m.entries r
  older_tells cs place es m r is view none last =
      subst (λ (n : Numbers V). TellsLast n.entries r) view
      (last_told 0 (joined cs ++ es) r (newest_rises cs place es is) (last ∙ ap last_number (sym (append-nil (joined cs)) ∙ ap (λ (fs : List (ℕ × V)). joined cs ++ fs) (sym none))))

  pub newest_tells : (cs : List (ℕ × Vec (ℕ × V) Global)) (place : ℕ) (es : List (ℕ × V)) (m : Numbers V) (r : Option ℕ) → IsNewest cs place es → numbers (joined cs ++ es) ≡ m
      → 0 < length es → r ≡ last_number es → TellsLast m.entries r
  newest_tells cs place es m r is view some last =
      subst (λ (n : Numbers V). TellsLast n.entries r) view
      (last_told 0 (joined cs ++ es) r (newest_rises cs place es is) (last ∙ sym (last-behind (joined cs) es some)))

  -- ---- an older chunk is changed

  pub older_sets : (cs : List (ℕ × Vec (ℕ × V) Global)) (place : ℕ) (es fs : List (ℕ × V)) (n : ℕ) (becomes : Option V) → IsNewest cs place es → n / 32 < place
      → Sets n becomes (joined cs) fs → Sets n becomes (joined cs ++ es) (fs ++ es)
  older_sets cs place es fs n becomes is less sets q =
      value-append fs es q ∙ ap (λ (o : Option V). option_or o (value_at es q)) (sets q) ∙ by_place (cases_eq n q)
      ∙ ap (cond (is_at (nat_cmp n) q) becomes) (sym (value-append (joined cs) es q))
    where
      by_place : (n ≡ q) ⊎ (n ≢ q) → option_or (cond (is_at (nat_cmp n) q) becomes (value_at (joined cs) q)) (value_at es q)
          ≡ cond (is_at (nat_cmp n) q) becomes (option_or (value_at (joined cs) q) (value_at es q))
      by_place (inl here) =
          ap (λ b. option_or (cond b becomes (value_at (joined cs) q)) (value_at es q)) (is_at-same n q here)
          ∙ or_none becomes (value_at es q) (none_newest cs place es q is (subst (λ p. p / 32 < place) here less))
          ∙ sym (ap (λ b. cond b becomes (option_or (value_at (joined cs) q) (value_at es q))) (is_at-same n q here))
      by_place (inr away) =
          ap (λ b. option_or (cond b becomes (value_at (joined cs) q)) (value_at es q)) (is_at-apart n q away)
          ∙ sym (ap (λ b. cond b becomes (option_or (value_at (joined cs) q) (value_at es q))) (is_at-apart n q away))

  pub older_changed : (cs ds : List (ℕ × Vec (ℕ × V) Global)) (place : ℕ) (es : List (ℕ × V)) (n : ℕ) (becomes : Option V) → IsNewest cs place es → n / 32 < place → AreChunks ds
      → Sets n becomes (joined cs) (joined ds) → IsNewest ds place es
  older_changed cs ds place es n becomes is less are sets = record {
    older = are;
    own = is.own;
    below = λ q le. sets q ∙ ap (λ b. cond b becomes (value_at (joined cs) q)) (is_at-apart n q (λ same. omega (arith, less, le, same))) ∙ is.below q le;
  }

  -- a number is put in one, unless there is no memory
  pub older_put : {A E : Type 0} (cs ds : List (ℕ × Vec (ℕ × V) Global)) (place : ℕ) (es : List (ℕ × V)) (n : ℕ) (v : V) (r : Result A E) → IsNewest cs place es → n / 32 < place → AreChunks ds
      → OnOk r (Sets n (Some v) (joined cs) (joined ds)) → OnErr r (joined ds ≡ joined cs) → IsNewest ds place es
  older_put cs ds place es n v (Ok x) is less are sets same = older_changed cs ds place es n (Some v) is less are sets
  older_put cs ds place es n v (Err x) is less are sets same =
      record { older = are; own = is.own; below = λ q le. ap (λ (fs : List (ℕ × V)). value_at fs q) same ∙ is.below q le }

  -- ---- the newest chunk is changed

  pub newest_sets : (cs : List (ℕ × Vec (ℕ × V) Global)) (place : ℕ) (es fs : List (ℕ × V)) (n : ℕ) (becomes : Option V) → IsNewest cs place es → place ≤ n / 32
      → Sets n becomes es fs → Sets n becomes (joined cs ++ es) (joined cs ++ fs)
  newest_sets cs place es fs n becomes is le sets q =
      value-append (joined cs) fs q ∙ ap (option_or (value_at (joined cs) q)) (sets q) ∙ by_place (cases_eq n q)
      ∙ ap (cond (is_at (nat_cmp n) q) becomes) (sym (value-append (joined cs) es q))
    where
      by_place : (n ≡ q) ⊎ (n ≢ q) → option_or (value_at (joined cs) q) (cond (is_at (nat_cmp n) q) becomes (value_at es q))
          ≡ cond (is_at (nat_cmp n) q) becomes (option_or (value_at (joined cs) q) (value_at es q))
      by_place (inl here) =
          ap (λ (o : Option V). option_or o (cond (is_at (nat_cmp n) q) becomes (value_at es q))) (is.below q (omega (arith, le, here)))
          ∙ ap (λ b. cond b becomes (value_at es q)) (is_at-same n q here)
          ∙ sym (ap (λ b. cond b becomes (option_or (value_at (joined cs) q) (value_at es q))) (is_at-same n q here))
      by_place (inr away) =
          ap (λ b. option_or (value_at (joined cs) q) (cond b becomes (value_at es q))) (is_at-apart n q away)
          ∙ sym (ap (λ b. cond b becomes (option_or (value_at (joined cs) q) (value_at es q))) (is_at-apart n q away))

  pub newest_changed : (cs : List (ℕ × Vec (ℕ × V) Global)) (place : ℕ) (es fs : List (ℕ × V)) (n : ℕ) → IsNewest cs place es → place ≤ n / 32 → n / 32 ≤ place → IsChunk (n / 32) fs
      → IsNewest cs place fs
  newest_changed cs place es fs n is le ge own =
      let same : n / 32 ≡ place = omega (arith, le, ge) in
      record { older = is.older; own = subst (λ p. IsChunk p fs) same own; below = is.below }

  -- ---- it joins the older ones, and another begins

  pub moved_chunks : (old new : List (ℕ × Vec (ℕ × V) Global)) (place : ℕ) (c : Vec (ℕ × V) Global) → IsNewest old place c.items → IsStrictlySortedBy nat_cmp (keys_of new)
      → 0 < length c.items → Changes place (Some c) old new → AreChunks new
  moved_chunks old new place c is sorted some changes = set_chunks old new place c is.older sorted is.own some changes

  pub moved_same : (old new : List (ℕ × Vec (ℕ × V) Global)) (place : ℕ) (c : Vec (ℕ × V) Global) → IsNewest old place c.items → IsStrictlySortedBy nat_cmp (keys_of new)
      → 0 < length c.items → Changes place (Some c) old new → (q : ℕ) → value_at (joined new) q ≡ value_at (joined old ++ c.items) q
  moved_same old new place c is sorted some changes q =
      value_in new q (moved_chunks old new place c is sorted some changes)
      ∙ ap (λ (o : Option (Vec (ℕ × V) Global)). value_at (entries_found o) q) (changes (q / 32))
      ∙ by_place (cases_eq place (q / 32))
    where
      by_order : (place ≢ q / 32) → (q / 32 < place) ⊎ (place ≤ q / 32) → value_at (joined old) q ≡ value_at (joined old ++ c.items) q
      by_order away (inl less) = sym (found_older old place c.items q is less)
      by_order away (inr le) = is.below q (omega (arith, le)) ∙ sym (found_nowhere old place c.items q is (omega (arith, away, le)))

      by_place : (place ≡ q / 32) ⊎ (place ≢ q / 32) → value_at (entries_found (cond (is_at (nat_cmp place) (q / 32)) (Some c) (lookup (is_at (nat_cmp (q / 32))) old))) q
          ≡ value_at (joined old ++ c.items) q
      by_place (inl here) =
          ap (λ b. value_at (entries_found (cond b (Some c) (lookup (is_at (nat_cmp (q / 32))) old))) q) (is_at-same place (q / 32) here)
          ∙ sym (found_newest old place c.items q is (omega (arith, here)))
      by_place (inr away) =
          ap (λ b. value_at (entries_found (cond b (Some c) (lookup (is_at (nat_cmp (q / 32))) old))) q) (is_at-apart place (q / 32) away)
          ∙ sym (value_in old q is.older)
          ∙ by_order away (cases_lt (q / 32) place)

  pub begun_newest : (old new : List (ℕ × Vec (ℕ × V) Global)) (place : ℕ) (es : List (ℕ × V)) (n : ℕ) (v : V) → IsNewest old place es → place < n / 32 → AreChunks new
      → ((q : ℕ) → value_at (joined new) q ≡ value_at (joined old ++ es) q) → IsNewest new (n / 32) ((n, v) ∷ [])
  begun_newest old new place es n v is less are same = record {
    older = are;
    own = (omega arith, omega arith);
    below = λ q le. same q ∙ found_nowhere old place es q is (omega (arith, less, le));
  }

  pub begun_told : (old new : List (ℕ × Vec (ℕ × V) Global)) (place : ℕ) (es : List (ℕ × V)) (n : ℕ) (v : V) → IsNewest old place es → place < n / 32
      → ((q : ℕ) → value_at (joined new) q ≡ value_at (joined old ++ es) q) → Sets n (Some v) (joined old ++ es) (joined new ++ (n, v) ∷ [])
  begun_told old new place es n v is less same q = value-append (joined new) ((n, v) ∷ []) q ∙ by_place (cases_eq n q)
    where
      by_place : (n ≡ q) ⊎ (n ≢ q) → option_or (value_at (joined new) q) (value_at ((n, v) ∷ []) q) ≡ cond (is_at (nat_cmp n) q) (Some v) (value_at (joined old ++ es) q)
      by_place (inl here) =
          ap (λ (o : Option V). option_or o (value_at ((n, v) ∷ []) q)) (same q ∙ found_nowhere old place es q is (omega (arith, less, here)))
          ∙ value-same (n, v) [] q here
          ∙ sym (ap (λ b. cond b (Some v) (value_at (joined old ++ es) q)) (is_at-same n q here))
      by_place (inr away) =
          or_none (value_at (joined new) q) (value_at ((n, v) ∷ []) q) (value-apart (n, v) [] q (λ e. away (sym e)))
          ∙ same q
          ∙ sym (ap (λ b. cond b (Some v) (value_at (joined old ++ es) q)) (is_at-apart n q away))
