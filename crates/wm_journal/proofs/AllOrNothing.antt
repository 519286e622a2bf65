-- A whole commit, or one that stopped: all old pages or all new ones.
use Rattle.std.proofs.Common.{◌≡◌, ℕ, ◌<◌, ◌≤◌, ⊎_elim, inl, inr, true, false, List, [], ◌∷◌, ◌++◌, length, slice_index, refl, sym, ◌∙◌, ap, arith}
use Rattle.std.specs.Prelude.{◌==◌}
use Rattle.std.proofs.lemmas.Bool.{cases_lt}
use Rattle.wm_page.specs.Entries.{is_named, no_page_twice}
use Rattle.wm_station.specs.History.{History, now, Torn, Written}
use Rattle.wm_station.specs.Moments.{Holds, Ended}
use Rattle.wm_station.proofs.Steps.{Stage, begun, Torn-done}
use Rattle.wm_journal.specs.Disk.{is_open}
use Rattle.wm_journal.specs.Store.{Rests, over}
use Rattle.wm_journal.specs.Writes.{Did, DidPart, arming, gating, placing, committing, journal_bytes}
use Rattle.wm_journal.proofs.Commits.{Commits, Either, ArmedClosed, arm_did, arm_part, gating_did, gating_part}
use Rattle.wm_journal.proofs.Kept.{slice_index-stretch, page_kept}
use Rattle.wm_journal.proofs.Names.{found_unnamed}
use Rattle.wm_journal.proofs.Phases.{Armed, Placing, ready_torn}
use Rattle.wm_journal.proofs.Places.{Placed, rest_all, placing_torn, placing_did, placing_part}
use Rattle.wm_journal.proofs.Sequences.{did_split, part_split}
use Rattle.wm_journal.proofs.Stored.{either, rests_stores, stores_open, stores_closed, stores_new}

-- a write of the gate keeps all but the gate
pub armed_torn : (s limit : ℕ) (es : List (ℕ × List ℕ)) (content : ℕ → List ℕ) (d c : List ℕ) → 1 ≤ s → Armed s es content limit d → Torn 8 1 d c → Armed s es content limit c
armed_torn s limit es content d c low armed torn = record {
  ready = ready_torn s 8 1 es d c low armed.ready torn (omega arith) (omega arith) (inl (omega arith));
  whole = omega (arith, armed.whole, torn.no_shorter);
  pages = λ p one under. page_kept 8 1 p d c torn (omega (arith, armed.whole)) (inr (omega arith)) ∙ armed.pages p one under;
}

-- the gate's byte, once it is written
pub gate_written : (byte : ℕ) (d c : List ℕ) → Written 8 (byte ∷ []) d c → slice_index c 8 ≡ byte
gate_written byte d c done = sym (slice_index-stretch c 8 1 0 (omega arith)) ∙ ap (λ (l : List ℕ). slice_index l 0) done.here

-- a page that is new is named
below_old : (s limit limit' : ℕ) (es : List (ℕ × List ℕ)) (p : ℕ) → Commits s limit limit' es → p < limit' → is_named p es ≡ false → p < limit
below_old s limit limit' es p known under not =
    ⊎_elim (λ below. below) (λ above. absurd (let named : is_named p es ≡ true = known.grown p above under in cc)) (cases_lt p limit)

-- all old pages where the gate is closed, all new ones where it is open
pub armed_either : (s limit limit' : ℕ) (es : List (ℕ × List ℕ)) (content : ℕ → List ℕ) (c : List ℕ) → Commits s limit limit' es → Armed s es content limit c → Either content limit limit' es c
armed_either s limit limit' es content c known armed = ⊎_elim
    (λ open_. inr (stores_open s limit' es content c known.sound armed.ready open_ (omega (arith, armed.ready.room, known.new_below)) (λ p one under not. armed.pages p one (below_old s limit limit' es p known under not))))
    (λ closed. inl (stores_closed s limit es content c armed closed))
    (either (is_open c))

pub placing_either : (s limit limit' : ℕ) (es : List (ℕ × List ℕ)) (content : ℕ → List ℕ) (c : List ℕ) → Commits s limit limit' es → Placing s es content limit c → Either content limit limit' es c
placing_either s limit limit' es content c known placing =
    inr (stores_open s limit' es content c known.sound placing.ready placing.open_ (omega (arith, placing.ready.room, known.new_below)) (λ p one under not. placing.pages p one (below_old s limit limit' es p known under not) not))

weaker_stage : (start h : History) (T P Q : List ℕ → Type 0) → ((c : List ℕ) → P c → Q c) → Stage start h T P → Stage start h T Q
weaker_stage start h T P Q to stage = record {
  during = stage.during;
  holds = record { here = to (now h) stage.holds.here; left = λ c left. to c (stage.holds.left c left) };
  quiet = stage.quiet;
}

-- the gate was opened
opened : (s limit : ℕ) (es : List (ℕ × List ℕ)) (content : ℕ → List ℕ) (d c : List ℕ) → 1 ≤ s → Armed s es content limit d → Written 8 (71 ∷ []) d c → Placing s es content limit c
opened s limit es content d c low armed done =
    let after : Armed s es content limit c = armed_torn s limit es content d c low armed (Torn-done 8 (71 ∷ []) d c done) in
    record { ready = after.ready; open_ = ap (λ (b : ℕ). b == 71) (gate_written 71 d c done); whole = after.whole; pages = λ p one under not. after.pages p one under }

-- the gate was closed
pub closed : (s limit : ℕ) (es : List (ℕ × List ℕ)) (content : ℕ → List ℕ) (d c : List ℕ) → 1 ≤ s → Armed s es content limit d → Written 8 (0 ∷ []) d c → Rests content limit c
closed s limit es content d c low armed done =
    let after : Armed s es content limit c = armed_torn s limit es content d c low armed (Torn-done 8 (0 ∷ []) d c done) in
    record { made = after.ready.made; format = after.ready.format; closed = ap (λ (b : ℕ). b == 71) (gate_written 0 d c done); whole = after.whole; pages = after.pages }

-- the pages that the journal does not name are as they were
placed_none : (s limit limit' : ℕ) (es : List (ℕ × List ℕ)) (content : ℕ → List ℕ) (c : List ℕ) → Commits s limit limit' es → Placing s es content limit c → Placed es es content limit' c
placed_none s limit limit' es content c known placing p one under not =
    placing.pages p one (below_old s limit limit' es p known under not) not ∙ sym (found_unnamed p es (content p) not)

-- the stages of a commit
record Stages (s limit limit' : ℕ) (es : List (ℕ × List ℕ)) (content : ℕ → List ℕ) (old : History) : Type 0 where
  known : Commits s limit limit' es
  once : no_page_twice es ≡ true
  holds : Holds old (Rests content limit)

started : (s limit limit' : ℕ) (es : List (ℕ × List ℕ)) (content : ℕ → List ℕ) (old : History) → Stages s limit limit' es content old → Stage old old (Either content limit limit' es) (Rests content limit)
started s limit limit' es content old facts = begun old (Either content limit limit' es) (Rests content limit) facts.holds (λ c rests. inl (rests_stores content limit c rests))

armed_stage : (s limit limit' : ℕ) (es : List (ℕ × List ℕ)) (content : ℕ → List ℕ) (old one : History) → Stages s limit limit' es content old → Did (arming s (length es) (journal_bytes es)) old one → Stage old one (Either content limit limit' es) (Armed s es content limit)
armed_stage s limit limit' es content old one facts did =
    weaker_stage old one (Either content limit limit' es) (ArmedClosed s es content limit) (Armed s es content limit) (λ c both. both.0)
    (arm_did s limit limit' es content old old one (Either content limit limit' es) facts.known (λ c rests. inl (rests_stores content limit c rests)) (started s limit limit' es content old facts) did)

open_stage : (s limit limit' : ℕ) (es : List (ℕ × List ℕ)) (content : ℕ → List ℕ) (old one two : History) → Stages s limit limit' es content old → Did (arming s (length es) (journal_bytes es)) old one → Did (gating 71) one two → Stage old two (Either content limit limit' es) (Placing s es content limit)
open_stage s limit limit' es content old one two facts first second =
    let low : 1 ≤ s = omega (arith, facts.known.sound.low) in
    gating_did old one two 71 (Either content limit limit' es) (Armed s es content limit) (Placing s es content limit)
    (λ d c. armed_torn s limit es content d c low) (λ c. armed_either s limit limit' es content c facts.known) (λ d c. opened s limit es content d c low)
    (armed_stage s limit limit' es content old one facts first) second

placed_stage : (s limit limit' : ℕ) (es : List (ℕ × List ℕ)) (content : ℕ → List ℕ) (old one two three : History) → Stages s limit limit' es content old → Did (arming s (length es) (journal_bytes es)) old one → Did (gating 71) one two → Did (placing es) two three → Stage old three (Either content limit limit' es) (Armed s es (over es content) limit')
placed_stage s limit limit' es content old one two three facts first second third =
    let stage = open_stage s limit limit' es content old one two facts first second in
    let P = Placing s es content limit in
    placing_did limit' es es content old two three (Either content limit limit' es) P (Armed s es (over es content) limit') (λ c placing. omega (arith, placing.ready.room, facts.known.new_below))
    (rest_all es facts.once facts.known.sound.whole) (λ q n d c. placing_torn s limit es content q n d c facts.known.sound) (λ c. placing_either s limit limit' es content c facts.known)
    (λ c placing placed. record { ready = placing.ready; whole = omega (arith, placing.ready.room, facts.known.new_below); pages = λ p one under. placed p one under refl }) stage
    (placed_none s limit limit' es content (now two) facts.known stage.holds.here) third

-- a commit that was done
pub commit_did : (s limit limit' : ℕ) (es : List (ℕ × List ℕ)) (content : ℕ → List ℕ) (old new : History) → Commits s limit limit' es → no_page_twice es ≡ true → Holds old (Rests content limit) → Did (committing s (length es) (journal_bytes es) es) old new → Stage old new (Either content limit limit' es) (Rests (over es content) limit')
unfolding committing
commit_did s limit limit' es content old new known once holds did =
    let facts : Stages s limit limit' es content old = record { known = known; once = once; holds = holds } in
    let low : 1 ≤ s = omega (arith, known.sound.low) in
    let one = did_split (arming s (length es) (journal_bytes es)) (gating 71 ++ (placing es ++ gating 0)) old new did in
    let two = did_split (gating 71) (placing es ++ gating 0) one.0 new one.2 in
    let three = did_split (placing es) (gating 0) two.0 new two.2 in
    gating_did old three.0 new 0 (Either content limit limit' es) (Armed s es (over es content) limit') (Rests (over es content) limit')
    (λ d c. armed_torn s limit' es (over es content) d c low) (λ c armed. inr (stores_new s limit' es content c known.sound armed)) (λ d c. closed s limit' es (over es content) d c low)
    (placed_stage s limit limit' es content old one.0 two.0 three.0 facts one.1 two.1 three.1) three.2

-- one that failed at some step
pub commit_part : (s limit limit' : ℕ) (es : List (ℕ × List ℕ)) (content : ℕ → List ℕ) (old new : History) → Commits s limit limit' es → no_page_twice es ≡ true → Holds old (Rests content limit) → DidPart (committing s (length es) (journal_bytes es) es) old new → Ended old new (Either content limit limit' es)
unfolding committing
commit_part s limit limit' es content old new known once holds did =
    let facts : Stages s limit limit' es content old = record { known = known; once = once; holds = holds } in
    let low : 1 ≤ s = omega (arith, known.sound.low) in
    let T = Either content limit limit' es in
    ⊎_elim
    (λ at_arming. arm_part s limit limit' es content old old new T known (λ c rests. inl (rests_stores content limit c rests)) (started s limit limit' es content old facts) at_arming)
    (λ one. ⊎_elim
    (λ at_gate. gating_part old one.0 new 71 T (Armed s es content limit) (λ d c. armed_torn s limit es content d c low) (λ c. armed_either s limit limit' es content c known)
    (armed_stage s limit limit' es content old one.0 facts one.1) at_gate)
    (λ two. ⊎_elim
    (λ at_place. placing_part es es old two.0 new T (Placing s es content limit) (rest_all es once known.sound.whole) (λ q n d c. placing_torn s limit es content q n d c known.sound) (λ c. placing_either s limit limit' es content c known)
    (open_stage s limit limit' es content old one.0 two.0 facts one.1 two.1) at_place)
    (λ three. gating_part old three.0 new 0 T (Armed s es (over es content) limit') (λ d c. armed_torn s limit' es (over es content) d c low) (λ c armed. inr (stores_new s limit' es content c known.sound armed))
    (placed_stage s limit limit' es content old one.0 two.0 three.0 facts one.1 two.1 three.1) three.2)
    (part_split (placing es) (gating 0) two.0 new two.2))
    (part_split (gating 71) (placing es ++ gating 0) one.0 new one.2))
    (part_split (arming s (length es) (journal_bytes es)) (gating 71 ++ (placing es ++ gating 0)) old new did)
