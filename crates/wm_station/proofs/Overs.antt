-- What a write in place does to a file.
use Rattle.std.proofs.Common.{◌≡◌, ℕ, ◌+◌, ◌-◌, ◌<◌, ◌≤◌, max, ⊎_elim, inl, inr, List, [], ◌∷◌, ◌++◌, length, take, drop, replicate, refl, sym, ◌∙◌, ap, subst, arith, length-append}
use Rattle.std.proofs.lemmas.List.{length-drop, length-replicate, take-append-le, drop-append-le, drop-take, drop-drop, take-take, take_at, drop_at, length-take-le}
use Rattle.wm_station.specs.History.{History, Wrote, now, stretch, Torn, Written, DidWrite, MayHaveWritten}
use Rattle.wm_station.specs.Replay.{padded, over}

-- two lists with the same beginning have the same stretches there
stretch-front : (xs ys : List ℕ) (a m n : ℕ) → a + m ≤ n → take n xs ≡ take n ys → stretch xs a m ≡ stretch ys a m
unfolding stretch
stretch-front xs ys a m n le same =
    let front : take (a + m) xs ≡ take (a + m) ys = sym (take-take (a + m) n xs le) ∙ ap (take (a + m)) same ∙ take-take (a + m) n ys le in
    sym (drop-take a m xs) ∙ ap (drop a) front ∙ drop-take a m ys

-- two lists with the same end have the same stretches there
stretch-back : (xs ys : List ℕ) (a m n : ℕ) → n ≤ a → drop n xs ≡ drop n ys → stretch xs a m ≡ stretch ys a m
unfolding stretch
stretch-back xs ys a m n le same =
    let place : n + (a - n) ≡ a = omega arith in
    let back : drop a xs ≡ drop a ys = ap (λ (k : ℕ). drop k xs) (sym place) ∙ sym (drop-drop (a - n) n xs) ∙ ap (drop (a - n)) same ∙ drop-drop (a - n) n ys ∙ ap (λ (k : ℕ). drop k ys) place in
    ap (take m) back

length-padded : (n : ℕ) (old : List ℕ) → length (padded n old) ≡ max (length old) n
length-padded n old = omega (arith, length-append old (replicate (n - length old) 0), length-replicate {A = ℕ} (n - length old) 0)

stretch-padded : (n : ℕ) (old : List ℕ) (a m : ℕ) → a + m ≤ length old → stretch (padded n old) a m ≡ stretch old a m
stretch-padded n old a m le = stretch-front (padded n old) old a m (a + m) (omega arith) (take-append-le (a + m) old (replicate (n - length old) 0) le)

-- a list with a part of it replaced by as many bytes
record Replaced (at end : ℕ) (bytes file new : List ℕ) : Type 0 where
  size : length new ≡ length file
  front : take at new ≡ take at file
  here : stretch new at (length bytes) ≡ bytes
  back : drop end new ≡ drop end file

replaced : (at end : ℕ) (bytes file : List ℕ) → end ≡ at + length bytes → end ≤ length file → Replaced at end bytes file (take at file ++ bytes ++ drop end file)
unfolding stretch
replaced at end bytes file e le =
    let front = take at file in
    let back = drop end file in
    let there : length front ≡ at = length-take-le at file (omega arith) in
    let both : length (front ++ bytes) ≡ end = omega (arith, length-append front bytes) in
    let within : at ≤ length (front ++ bytes) = omega arith in
    record {
      size = omega (arith, length-append (front ++ bytes) back, length-drop end file);
      front = take-append-le at (front ++ bytes) back within ∙ take_at front bytes at there;
      here = ap (take (length bytes)) (drop-append-le at (front ++ bytes) back within ∙ ap (λ (l : List ℕ). l ++ back) (drop_at front bytes at there)) ∙ take_at bytes back (length bytes) refl;
      back = drop_at (front ++ bytes) back end both;
    }

over_some : (at end : ℕ) (bytes old new : List ℕ) → end ≡ at + length bytes → 0 < length bytes → Replaced at end bytes (padded end old) new → Written at bytes old new
over_some at end bytes old new e some parts = record {
  here = parts.here;
  same = λ a m within apart. ⊎_elim
      (λ before. stretch-front new (padded end old) a m at before parts.front ∙ stretch-padded end old a m within)
      (λ behind. stretch-back new (padded end old) a m end (omega arith) parts.back ∙ stretch-padded end old a m within)
      apart;
  size = λ some. omega (arith, parts.size, length-padded end old);
  nothing = λ none. absurd (omega arith);
}

-- a write in place is a write
pub over-Written : (at : ℕ) (bytes old : List ℕ) → Written at bytes old (over at bytes old)
unfolding stretch
over-Written at [] old = record { here = refl; same = λ a m within apart. refl; size = λ some. absurd (omega arith); nothing = λ none. refl }
over-Written at (b ∷ bs) old =
    let end = at + length (b ∷ bs) in
    over_some at end (b ∷ bs) old (over at (b ∷ bs) old) refl (omega arith)
    (replaced at end (b ∷ bs) (padded end old) refl (omega (arith, length-padded end old)))

-- a write within a range leaves no more than one to the range that was cut short
pub Torn-Written : (at n place : ℕ) (bytes old new : List ℕ) → at ≤ place → place + length bytes ≤ at + n → Written place bytes old new → Torn at n old new
Torn-Written at n place bytes old new from till done = record {
  same = λ a m within apart. done.same a m within (⊎_elim (λ before. inl (omega arith)) (λ behind. inr (omega arith)) apart);
  no_shorter = grind (arith, done.size, done.nothing);
  no_longer = grind (arith, done.size, done.nothing);
}

-- a call that wrote these bytes in place
pub did_write : (at : ℕ) (bytes : List ℕ) (old new : History) → new ≡ Wrote old at (length bytes) (over at bytes (now old)) → DidWrite at bytes old new
did_write at bytes old new told = record { image = over at bytes (now old); told = told; written = over-Written at bytes (now old) }

-- a call that wrote these at the front of a range
pub may_have_written : (at n : ℕ) (bytes : List ℕ) (old new : History) → length bytes ≤ n → new ≡ Wrote old at n (over at bytes (now old)) → MayHaveWritten at n old new
may_have_written at n bytes old new within told =
    inr (over at bytes (now old), told, Torn-Written at n at bytes (now old) (over at bytes (now old)) (omega arith) (omega arith) (over-Written at bytes (now old)))

-- these bytes at a place within a range
pub over_within : (at n place : ℕ) (bytes old new : List ℕ) → at ≤ place → place + length bytes ≤ at + n → new ≡ over place bytes old → Torn at n old new
over_within at n place bytes old new from till same = subst (λ (l : List ℕ). Torn at n old l) (sym same) (Torn-Written at n place bytes old (over place bytes old) from till (over-Written place bytes old))
