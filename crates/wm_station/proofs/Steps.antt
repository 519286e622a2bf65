-- How what is said of a run goes on over one call more, and over one run after another.
use Rattle.std.proofs.Common.{◌≡◌, ℕ, ◌≤◌, suc, ◌⊎◌, ⊎_elim, inl, inr, List, ◌++◌, length, take, refl, sym, ◌∙◌, subst, arith}
use Rattle.wm_station.specs.History.{History, Begin, Wrote, Synced, Said, Torn, Written, DidWrite, MayHaveWritten, now, said, moment, Leaves, Since}
use Rattle.wm_station.specs.Moments.{Holds, During, Silent, Ended}

-- no moment of a history is later than its last
pub Since-le : (h : History) (t : ℕ) (c s : List ℕ) → Since h t c s → t ≤ moment h
Since-le (Begin image) t c s since = since.0
Since-le (Wrote h at n image) t c s (inl since) = since.0
Since-le (Wrote h at n image) t c s (inr since) = let le : t ≤ moment h = Since-le h t c s since in omega arith
Since-le (Synced h) t c s (inl since) = since.0
Since-le (Synced h) t c s (inr since) = let le : t ≤ moment h = Since-le h t c s since in omega arith
Since-le (Said h piece n) t c s (inl since) = since.0
Since-le (Said h piece n) t c s (inr (inl since)) = let le : t ≤ moment h = since.0 in omega arith
Since-le (Said h piece n) t c s (inr (inr since)) = let le : t ≤ moment h = Since-le h t c s since in omega arith

too_late : (h : History) (c s : List ℕ) → Since h (suc (moment h)) c s → ⊥
too_late h c s since = let le : suc (moment h) ≤ moment h = Since-le h (suc (moment h)) c s since in omega arith

-- a crash at this moment
pub Since-moment : (h : History) (c s : List ℕ) → Since h (moment h) c s → Leaves h c × (s ≡ said h)
Since-moment (Begin image) c s since = (since.1, since.2)
Since-moment (Wrote h at n image) c s (inl since) = (since.1, since.2)
Since-moment (Wrote h at n image) c s (inr since) = absurd (too_late h c s since)
Since-moment (Synced h) c s (inl since) = (since.1, since.2)
Since-moment (Synced h) c s (inr since) = absurd (too_late h c s since)
Since-moment (Said h piece n) c s (inl since) = (since.1, since.2)
Since-moment (Said h piece n) c s (inr (inl since)) = absurd (let le : suc (moment h) ≤ moment h = since.0 in omega arith)
Since-moment (Said h piece n) c s (inr (inr since)) = absurd (too_late h c s since)

-- a run of no call
pub during_begun : (h : History) (P : List ℕ → List ℕ → Type 0) → ((c : List ℕ) → Leaves h c → P c (said h)) → During h h P
during_begun h P holds = record {
  later = omega arith;
  each = λ c s since. let at_end = Since-moment h c s since in subst (λ (v : List ℕ). P c v) (sym at_end.1) (holds c at_end.0);
  before = λ t c s le since. inl since;
}

-- a write more
pub during_wrote : (start h : History) (at n : ℕ) (image : List ℕ) (P : List ℕ → List ℕ → Type 0) → During start h P → ((c : List ℕ) → Leaves (Wrote h at n image) c → P c (said h)) → During start (Wrote h at n image) P
during_wrote start h at n image P run holds = record {
  later = omega (arith, run.later);
  each = λ c s. elim_each c s;
  before = λ t c s le. elim_before t c s le;
}
  where
    elim_each : (c s : List ℕ) → Since (Wrote h at n image) (moment start) c s → P c s
    elim_each c s (inl since) = subst (λ (v : List ℕ). P c v) (sym since.2) (holds c since.1)
    elim_each c s (inr since) = run.each c s since

    elim_before : (t : ℕ) (c s : List ℕ) → t ≤ moment start → Since (Wrote h at n image) t c s → Since start t c s ⊎ P c s
    elim_before t c s le (inl since) = inr (subst (λ (v : List ℕ). P c v) (sym since.2) (holds c since.1))
    elim_before t c s le (inr since) = run.before t c s le since

-- a sync more
pub during_synced : (start h : History) (P : List ℕ → List ℕ → Type 0) → During start h P → P (now h) (said h) → During start (Synced h) P
during_synced start h P run holds = record {
  later = omega (arith, run.later);
  each = λ c s. elim_each c s;
  before = λ t c s le. elim_before t c s le;
}
  where
    at_sync : (c s : List ℕ) → c ≡ now h → s ≡ said h → P c s
    at_sync c s same quiet = subst (λ (v : List ℕ). P c v) (sym quiet) (subst (λ (v : List ℕ). P v (said h)) (sym same) holds)

    elim_each : (c s : List ℕ) → Since (Synced h) (moment start) c s → P c s
    elim_each c s (inl since) = at_sync c s since.1 since.2
    elim_each c s (inr since) = run.each c s since

    elim_before : (t : ℕ) (c s : List ℕ) → t ≤ moment start → Since (Synced h) t c s → Since start t c s ⊎ P c s
    elim_before t c s le (inl since) = inr (at_sync c s since.1 since.2)
    elim_before t c s le (inr since) = run.before t c s le since

-- a say more
pub during_said : (start h : History) (piece : List ℕ) (n : ℕ) (P : List ℕ → List ℕ → Type 0) → n ≤ length piece → During start h P → ((c : List ℕ) (k : ℕ) → Leaves h c → k ≤ length piece → P c (said h ++ take k piece)) → During start (Said h piece n) P
during_said start h piece n P within run holds = record {
  later = omega (arith, run.later);
  each = λ c s. elim_each c s;
  before = λ t c s le. elim_before t c s le;
}
  where
    at_say : (c s : List ℕ) (k : ℕ) → Leaves h c → k ≤ length piece → s ≡ said h ++ take k piece → P c s
    at_say c s k left le same = subst (λ (v : List ℕ). P c v) (sym same) (holds c k left le)

    elim_each : (c s : List ℕ) → Since (Said h piece n) (moment start) c s → P c s
    elim_each c s (inl since) = at_say c s n since.1 within since.2
    elim_each c s (inr (inl since)) = at_say c s since.1.1.0 since.1.0 since.1.1.1 since.1.1.2
    elim_each c s (inr (inr since)) = run.each c s since

    elim_before : (t : ℕ) (c s : List ℕ) → t ≤ moment start → Since (Said h piece n) t c s → Since start t c s ⊎ P c s
    elim_before t c s le (inl since) = inr (at_say c s n since.1 within since.2)
    elim_before t c s le (inr (inl since)) = inr (at_say c s since.1.1.0 since.1.0 since.1.1.1 since.1.1.2)
    elim_before t c s le (inr (inr since)) = run.before t c s le since

-- one run after another
pub followed : (old middle new : History) (P Q : List ℕ → List ℕ → Type 0) → During old middle P → During middle new Q → During old new (λ c s. P c s ⊎ Q c s)
followed old middle new P Q first second = record {
  later = omega (arith, first.later, second.later);
  each = λ c s since. ⊎_elim (λ was. inl (first.each c s was)) (λ now. inr now) (second.before (moment old) c s first.later since);
  before = λ t c s le since. ⊎_elim (λ was. ⊎_elim (λ before. inl before) (λ now. inr (inl now)) (first.before t c s le was)) (λ now. inr (inr now)) (second.before t c s (omega (arith, first.later)) since);
}

pub weaken : (old new : History) (P Q : List ℕ → List ℕ → Type 0) → ((c s : List ℕ) → P c s → Q c s) → During old new P → During old new Q
weaken old new P Q to during = record {
  later = during.later;
  each = λ c s since. to c s (during.each c s since);
  before = λ t c s le since. ⊎_elim (λ was. inl was) (λ now. inr (to c s now)) (during.before t c s le since);
}

-- A run in which nothing was said so far: each crash since its start leaves what has T, and now P holds of what a read
-- gives and of each file that a crash may leave.
pub record Stage (start h : History) (T P : List ℕ → Type 0) : Type 0 where
  pub during : During start h (Silent start T)
  pub holds : Holds h P
  pub quiet : said h ≡ said start

pub begun : (h : History) (T P : List ℕ → Type 0) → Holds h P → ((c : List ℕ) → P c → T c) → Stage h h T P
begun h T P holds to = record {
  during = during_begun h (Silent h T) (λ c left. (to c (holds.left c left), refl));
  holds = holds;
  quiet = refl;
}

pub wrote : (start h : History) (at n : ℕ) (image : List ℕ) (T P Q : List ℕ → Type 0) → Stage start h T P → Torn at n (now h) image → ((d c : List ℕ) → P d → Torn at n d c → Q c) → ((c : List ℕ) → Q c → T c) → Stage start (Wrote h at n image) T Q
wrote start h at n image T P Q stage torn keeps to = record {
  during = during_wrote start h at n image (Silent start T) stage.during (λ c left. (to c (after c left), stage.quiet));
  holds = record { here = keeps (now h) image stage.holds.here torn; left = after };
  quiet = stage.quiet;
}
  where
    after : (c : List ℕ) → Leaves (Wrote h at n image) c → Q c
    after c left = keeps left.0 c (stage.holds.left left.0 left.1) left.2

-- a write that succeeded is no more than one that was cut short
pub Torn-done : (at : ℕ) (bytes old new : List ℕ) → Written at bytes old new → Torn at (length bytes) old new
Torn-done at bytes old new done = record {
  same = done.same;
  no_shorter = grind (arith, done.size, done.nothing);
  no_longer = grind (arith, done.size, done.nothing);
}

pub did_write : (start h new : History) (at : ℕ) (bytes : List ℕ) (T P Q : List ℕ → Type 0) → Stage start h T P → DidWrite at bytes h new → ((d c : List ℕ) → P d → Torn at (length bytes) d c → Q c) → ((c : List ℕ) → Q c → T c) → Stage start new T Q
did_write start h new at bytes T P Q stage did keeps to =
    subst (λ (v : History). Stage start v T Q) (sym did.told)
    (wrote start h at (length bytes) did.image T P Q stage (Torn-done at bytes (now h) did.image did.written) keeps to)

pub synced : (start h : History) (T P Q : List ℕ → Type 0) → Stage start h T P → Q (now h) → T (now h) → Stage start (Synced h) T Q
synced start h T P Q stage here to = record {
  during = during_synced start h (Silent start T) stage.during (to, stage.quiet);
  holds = record { here = here; left = λ c same. subst Q (sym same) here };
  quiet = stage.quiet;
}

pub ended : (start h : History) (T P : List ℕ → Type 0) → Stage start h T P → ((c : List ℕ) → P c → T c) → Ended start h T
ended start h T P stage to = record { during = stage.during; here = to (now h) stage.holds.here; quiet = stage.quiet }

-- after a write that failed
pub may_have_written : (start h new : History) (at n : ℕ) (T P Q : List ℕ → Type 0) → Stage start h T P → MayHaveWritten at n h new → ((c : List ℕ) → P c → T c) → ((d c : List ℕ) → P d → Torn at n d c → Q c) → ((c : List ℕ) → Q c → T c) → Ended start new T
may_have_written start h new at n T P Q stage (inl same) from keeps to = subst (λ (v : History). Ended start v T) (sym same) (ended start h T P stage from)
may_have_written start h new at n T P Q stage (inr did) from keeps to =
    subst (λ (v : History). Ended start v T) (sym did.1)
    (ended start (Wrote h at n did.0) T Q (wrote start h at n did.0 T P Q stage did.2 keeps to) to)

pub weaker : (start h : History) (T U : List ℕ → Type 0) → ((c : List ℕ) → T c → U c) → Ended start h T → Ended start h U
weaker start h T U to run = record {
  during = weaken start h (Silent start T) (Silent start U) (λ c s silent. (to c silent.0, silent.1)) run.during;
  here = to (now h) run.here;
  quiet = run.quiet;
}

-- one run in which nothing was said after another
pub joined : (start middle new : History) (T : List ℕ → Type 0) → Ended start middle T → Ended middle new T → Ended start new T
joined start middle new T first second = record {
  during = weaken start new (λ c s. Silent start T c s ⊎ Silent middle T c s) (Silent start T)
      (λ c s either. ⊎_elim (λ one. one) (λ two. (two.0, two.1 ∙ first.quiet)) either)
      (followed start middle new (Silent start T) (Silent middle T) first.during second.during);
  here = second.here;
  quiet = second.quiet ∙ first.quiet;
}
