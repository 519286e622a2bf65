-- A commit, step by step: each crash leaves the old pages or the new ones.
use Rattle.std.proofs.Common.{◌≡◌, ℕ, ◌+◌, ◌*◌, ◌^◌, ◌<◌, ◌≤◌, ◌⊎◌, ⊎_elim, inl, inr, max, true, false, List, [], ◌∷◌, ◌++◌, length, sym, ◌∙◌, ap, subst, arith}
use Rattle.std.proofs.lemmas.List.{length-append}
use Rattle.wm_page.specs.Entries.{is_named}
use Rattle.wm_page.specs.Fields.{number_at, eight_bytes}
use Rattle.wm_page.proofs.Numbers.{length-eight_bytes, number_at-eight_bytes}
use Rattle.wm_station.specs.History.{History, Synced, now, stretch, Torn, Written, DidWrite}
use Rattle.wm_station.specs.Moments.{Ended}
use Rattle.wm_station.proofs.Steps.{Stage, did_write, may_have_written, synced, ended, Torn-done}
use Rattle.wm_journal.specs.Disk.{is_open, directory_pages, journal_at}
use Rattle.wm_journal.specs.Store.{Stores, Rests, over}
use Rattle.wm_journal.specs.Writes.{Did, DidPart, arming, gating, journal_bytes}
use Rattle.wm_journal.proofs.Kept.{images_kept, stretch_front, stretch_rest}
use Rattle.wm_journal.proofs.ReadBack.{FitAll, journal_written, length-journal_bytes}
use Rattle.wm_journal.proofs.Phases.{Sound, Ready, Armed, rests_torn}

-- what is known of a commit of these pages, by a journal at page s, from one page count to another
pub record Commits (s limit limit' : ℕ) (es : List (ℕ × List ℕ)) : Type 0 where
  pub sound : Sound s es
  pub fits : FitAll es
  pub start_fits : s < 2 ^ 64
  pub size_fits : length es < 2 ^ 64
  pub low : 1 ≤ limit
  pub old_below : limit ≤ s
  pub new_below : limit' ≤ s
  pub grown : (p : ℕ) → limit ≤ p → p < limit' → is_named p es ≡ true

-- all old pages or all new ones
abbrev pub Either : (ℕ → List ℕ) → ℕ → ℕ → List (ℕ × List ℕ) → List ℕ → Type 0
Either content limit limit' es c = Stores content limit c ⊎ Stores (over es content) limit' c

fields_read : (s n : ℕ) (old new : List ℕ) → s < 2 ^ 64 → n < 2 ^ 64 → Written 16 (eight_bytes s ++ eight_bytes n) old new → (number_at new 16 ≡ s) × (number_at new 24 ≡ n)
unfolding stretch
fields_read s n old new one two done =
    let first : length (eight_bytes s) ≡ 8 = length-eight_bytes s in
    let total : length (eight_bytes s ++ eight_bytes n) ≡ 16 = omega (arith, length-append (eight_bytes s) (eight_bytes n), length-eight_bytes n) in
    let here : stretch new 16 16 ≡ eight_bytes s ++ eight_bytes n = ap (stretch new 16) (sym total) ∙ done.here in
    let front : stretch new 16 8 ≡ eight_bytes s = ap (stretch new 16) (sym first) ∙ stretch_front new (eight_bytes s) (eight_bytes n) 16 16 here (omega arith) in
    let place : 16 + length (eight_bytes s) ≡ 24 = omega arith in
    let back : stretch new 24 8 ≡ eight_bytes n = ap (λ (k : ℕ). stretch new k 8) (sym place) ∙ stretch_rest new (eight_bytes s) (eight_bytes n) 16 16 8 here (omega arith) in
    (number_at-eight_bytes new 16 s one front, number_at-eight_bytes new 24 n two back)

-- after the journal and its fields were written
ready_now : (s limit limit' : ℕ) (es : List (ℕ × List ℕ)) (content : ℕ → List ℕ) (old one two : List ℕ) → Commits s limit limit' es → Written (s * 4096) (journal_bytes es) old one → Written 16 (eight_bytes s ++ eight_bytes (length es)) one two → Rests content limit two → Ready s es two
ready_now s limit limit' es content old one two known first second rests =
    let n = length es in
    let size : length (journal_bytes es) ≡ (directory_pages n + n) * 4096 = length-journal_bytes es known.sound.whole in
    let some : 0 < n = known.sound.some in
    let low : 2 ≤ s = known.sound.low in
    let grown : length one ≡ max (length old) (s * 4096 + length (journal_bytes es)) = first.size (omega arith) in
    let fields : length (eight_bytes s ++ eight_bytes n) ≡ 16 = omega (arith, length-append (eight_bytes s) (eight_bytes n), length-eight_bytes s, length-eight_bytes n) in
    let torn : Torn 16 16 one two = subst (λ (k : ℕ). Torn 16 k one two) fields (Torn-done 16 (eight_bytes s ++ eight_bytes n) one two second) in
    let there : journal_at one s n ≡ es = journal_written s es old one known.fits known.sound.whole first in
    let read = fields_read s n one two known.start_fits known.size_fits second in
    record {
      made = rests.made;
      format = rests.format;
      start = read.0;
      images = read.1;
      journal = images_kept 16 16 one two torn n (s * 4096) ((s + directory_pages n) * 4096) (omega arith) (omega arith) (omega arith) ∙ there;
      room = omega (arith, torn.no_shorter);
    }

-- what a read gives after a write
now_written : (at : ℕ) (bytes : List ℕ) (old new : History) → DidWrite at bytes old new → Written at bytes (now old) (now new)
now_written at bytes old new did = subst (λ (h : History). Written at bytes (now old) (now h)) (sym did.told) did.written

rests_journal : (s limit limit' : ℕ) (es : List (ℕ × List ℕ)) (content : ℕ → List ℕ) → Commits s limit limit' es → (d c : List ℕ) → Rests content limit d → Torn (s * 4096) (length (journal_bytes es)) d c → Rests content limit c
rests_journal s limit limit' es content known d c rests torn =
    let low : 2 ≤ s = known.sound.low in
    let below : limit ≤ s = known.old_below in
    rests_torn content limit (s * 4096) (length (journal_bytes es)) d c known.low rests torn (omega arith) (inl (omega arith))

rests_fields : (s n limit : ℕ) (content : ℕ → List ℕ) → 1 ≤ limit → (d c : List ℕ) → Rests content limit d → Torn 16 (length (eight_bytes s ++ eight_bytes n)) d c → Rests content limit c
rests_fields s n limit content low d c rests torn =
    rests_torn content limit 16 (length (eight_bytes s ++ eight_bytes n)) d c low rests torn (omega arith)
    (inr (omega (arith, length-append (eight_bytes s) (eight_bytes n), length-eight_bytes s, length-eight_bytes n)))

-- a journal that is whole, behind a gate that is closed
abbrev pub ArmedClosed : ℕ → List (ℕ × List ℕ) → (ℕ → List ℕ) → ℕ → List ℕ → Type 0
ArmedClosed s es content limit c = Armed s es content limit c × (is_open c ≡ false)

armed_now : (s limit limit' : ℕ) (es : List (ℕ × List ℕ)) (content : ℕ → List ℕ) (old one two : List ℕ) → Commits s limit limit' es → Written (s * 4096) (journal_bytes es) old one → Written 16 (eight_bytes s ++ eight_bytes (length es)) one two → Rests content limit two → ArmedClosed s es content limit two
armed_now s limit limit' es content old one two known first second rests =
    (record { ready = ready_now s limit limit' es content old one two known first second rests; whole = rests.whole; pages = rests.pages }, rests.closed)

pub arm_did : (s limit limit' : ℕ) (es : List (ℕ × List ℕ)) (content : ℕ → List ℕ) (start h new : History) (T : List ℕ → Type 0) → Commits s limit limit' es → ((c : List ℕ) → Rests content limit c → T c) → Stage start h T (Rests content limit) → Did (arming s (length es) (journal_bytes es)) h new → Stage start new T (ArmedClosed s es content limit)
unfolding arming
arm_did s limit limit' es content start h new T known to stage did =
    let R = Rests content limit in
    let one = did.0 in
    let two = did.2.0 in
    let fields = eight_bytes s ++ eight_bytes (length es) in
    let first : Stage start one T R = did_write start h one (s * 4096) (journal_bytes es) T R R stage did.1 (rests_journal s limit limit' es content known) to in
    let second : Stage start two T R = did_write start one two 16 fields T R R first did.2.1 (rests_fields s (length es) limit content known.low) to in
    let armed : ArmedClosed s es content limit (now two) = armed_now s limit limit' es content (now h) (now one) (now two) known (now_written (s * 4096) (journal_bytes es) h one did.1) (now_written 16 fields one two did.2.1) second.holds.here in
    subst (λ (v : History). Stage start v T (ArmedClosed s es content limit)) (sym did.2.2) (synced start two T R (ArmedClosed s es content limit) second armed (to (now two) second.holds.here))

pub arm_part : (s limit limit' : ℕ) (es : List (ℕ × List ℕ)) (content : ℕ → List ℕ) (start h new : History) (T : List ℕ → Type 0) → Commits s limit limit' es → ((c : List ℕ) → Rests content limit c → T c) → Stage start h T (Rests content limit) → DidPart (arming s (length es) (journal_bytes es)) h new → Ended start new T
unfolding arming
arm_part s limit limit' es content start h new T known to stage (inl torn) =
    let R = Rests content limit in
    may_have_written start h new (s * 4096) (length (journal_bytes es)) T R R stage torn to (rests_journal s limit limit' es content known) to
arm_part s limit limit' es content start h new T known to stage (inr did) =
    let R = Rests content limit in
    let one = did.0 in
    let fields = eight_bytes s ++ eight_bytes (length es) in
    let first : Stage start one T R = did_write start h one (s * 4096) (journal_bytes es) T R R stage did.1 (rests_journal s limit limit' es content known) to in
    ⊎_elim
    (λ torn. may_have_written start one new 16 (length fields) T R R first torn to (rests_fields s (length es) limit content known.low) to)
    (λ both. let second : Stage start both.0 T R = did_write start one both.0 16 fields T R R first both.1 (rests_fields s (length es) limit content known.low) to in
    ⊎_elim
    (λ same. subst (λ (v : History). Ended start v T) (sym same) (ended start both.0 T R second to))
    (λ last. subst (λ (v : History). Ended start v T) (sym last) (ended start (Synced both.0) T R (synced start both.0 T R R second second.holds.here (to (now both.0) second.holds.here)) to))
    both.2)
    did.2

-- the gate, and a sync
pub gating_did : (start h new : History) (byte : ℕ) (T P Q : List ℕ → Type 0) → ((d c : List ℕ) → P d → Torn 8 1 d c → P c) → ((c : List ℕ) → P c → T c) → ((d c : List ℕ) → P d → Written 8 (byte ∷ []) d c → Q c) → Stage start h T P → Did (gating byte) h new → Stage start new T Q
gating_did start h new byte T P Q keeps to gives stage did =
    let one = did.0 in
    let first : Stage start one T P = did_write start h one 8 (byte ∷ []) T P P stage did.1 keeps to in
    subst (λ (v : History). Stage start v T Q) (sym did.2) (synced start one T P Q first (gives (now h) (now one) stage.holds.here (now_written 8 (byte ∷ []) h one did.1)) (to (now one) first.holds.here))

pub gating_part : (start h new : History) (byte : ℕ) (T P : List ℕ → Type 0) → ((d c : List ℕ) → P d → Torn 8 1 d c → P c) → ((c : List ℕ) → P c → T c) → Stage start h T P → DidPart (gating byte) h new → Ended start new T
gating_part start h new byte T P keeps to stage (inl torn) = may_have_written start h new 8 1 T P P stage torn to keeps to
gating_part start h new byte T P keeps to stage (inr did) =
    let one = did.0 in
    let first : Stage start one T P = did_write start h one 8 (byte ∷ []) T P P stage did.1 keeps to in
    ⊎_elim
    (λ same. subst (λ (v : History). Ended start v T) (sym same) (ended start one T P first to))
    (λ last. subst (λ (v : History). Ended start v T) (sym last) (ended start (Synced one) T P (synced start one T P P first first.holds.here (to (now one) first.holds.here)) to))
    did.2
