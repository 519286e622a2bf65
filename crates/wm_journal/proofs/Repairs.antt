-- Opening, step by step: the file goes on saying what it said.
use Rattle.std.proofs.Common.{◌≡◌, ℕ, ◌≤◌, ◌⊎◌, ⊎_elim, inl, inr, true, false, List, [], ◌∷◌, refl, sym, ◌∙◌, subst, arith}
use Rattle.wm_station.specs.History.{History, Synced, now, said, Leaves, Written}
use Rattle.wm_station.specs.Moments.{During, Ended, Silent}
use Rattle.wm_station.proofs.Steps.{Stage, begun, ended, during_begun, during_synced, followed, weaken, Torn-done}
use Rattle.wm_journal.specs.Disk.{page, is_made, has_format, is_open, journal_page, journal}
use Rattle.wm_journal.specs.Opening.{replaying, Repaired, RepairedPart}
use Rattle.wm_journal.specs.Store.{Keeps, Settles, over}
use Rattle.wm_journal.specs.Writes.{Did, DidPart, gating, placing}
use Rattle.wm_journal.proofs.AllOrNothing.{closed}
use Rattle.wm_journal.proofs.Commits.{gating_did, gating_part}
use Rattle.wm_journal.proofs.Names.{found_unnamed}
use Rattle.wm_journal.proofs.Places.{Placed, rest_all, placing_did, placing_part}
use Rattle.wm_journal.proofs.Replays.{Open, Copying, Copied, Closed, whole_pages, open_sound, open_once, copying_start, copying_torn, copied_torn, copying_keeps, copied_keeps, closed_keeps, keeps_itself}
use Rattle.wm_journal.proofs.Sequences.{did_split, part_split}

-- a crash leaves what a read gives, and nothing else
abbrev pub Durable : History → Type 0
Durable h = (c : List ℕ) → Leaves h c → c ≡ now h

replay_begun : (h : History) → Open (now h) → Durable h → Stage h h (Keeps (now h)) (Copying (now h))
replay_begun h open_ durable =
    begun h (Keeps (now h)) (Copying (now h))
    (record { here = copying_start (now h) open_; left = λ c left. subst (Copying (now h)) (sym (durable c left)) (copying_start (now h) open_) })
    (copying_keeps (now h) open_)

placed_none : (a c : List ℕ) → Copying a c → Placed (journal a) (journal a) (page a) (whole_pages a) c
placed_none a c copying p one under not = copying.placing.pages p one under not ∙ sym (found_unnamed p (journal a) (page a p) not)

placed_all : (a c : List ℕ) → Copying a c → Placed (journal a) [] (page a) (whole_pages a) c → Copied a c
placed_all a c copying placed = record {
  armed = record { ready = copying.placing.ready; whole = copying.placing.whole; pages = λ p one under. placed p one under refl };
  size = copying.size;
}

replay_placed : (h new : History) → Open (now h) → Durable h → Did (placing (journal (now h))) h new → Stage h new (Keeps (now h)) (Copied (now h))
replay_placed h new open_ durable did =
    let a = now h in
    placing_did (whole_pages a) (journal a) (journal a) (page a) h h new (Keeps a) (Copying a) (Copied a) (λ c copying. copying.placing.whole) (rest_all (journal a) (open_once a open_) (open_sound a open_).whole)
    (copying_torn a open_) (copying_keeps a open_) (placed_all a) (replay_begun h open_ durable) (placed_none a a (copying_start a open_)) did

closing : (a : List ℕ) → Open a → (d c : List ℕ) → Copied a d → Written 8 (0 ∷ []) d c → Closed a c
closing a open_ d c copied done =
    let low : 2 ≤ journal_page a = (open_sound a open_).low in
    record {
      rests = closed (journal_page a) (whole_pages a) (journal a) (over (journal a) (page a)) d c (omega arith) copied.armed done;
      size = (copied_torn a open_ d c copied (Torn-done 8 (0 ∷ []) d c done)).size;
    }

-- a whole replay
pub replay_did : (h new : History) → Open (now h) → Durable h → Did (replaying (now h)) h new → Stage h new (Keeps (now h)) (Closed (now h))
replay_did h new open_ durable did =
    let a = now h in
    let parts = did_split (placing (journal a)) (gating 0) h new did in
    gating_did h parts.0 new 0 (Keeps a) (Copied a) (Closed a) (copied_torn a open_) (copied_keeps a open_) (closing a open_) (replay_placed h parts.0 open_ durable parts.1) parts.2

-- one that failed at some step
pub replay_part : (h new : History) → Open (now h) → Durable h → DidPart (replaying (now h)) h new → Ended h new (Keeps (now h))
replay_part h new open_ durable did =
    let a = now h in
    ⊎_elim
    (λ placing_failed. placing_part (journal a) (journal a) h h new (Keeps a) (Copying a) (rest_all (journal a) (open_once a open_) (open_sound a open_).whole) (copying_torn a open_) (copying_keeps a open_) (replay_begun h open_ durable) placing_failed)
    (λ parts. gating_part h parts.0 new 0 (Keeps a) (Copied a) (copied_torn a open_) (copied_keeps a open_) (replay_placed h parts.0 open_ durable parts.1) parts.2)
    (part_split (placing (journal a)) (gating 0) h new did)

-- after a write of the gate and a sync
gating_durable : (byte : ℕ) (h new : History) → Did (gating byte) h new → Durable new
gating_durable byte h new did = subst Durable (sym did.2) (λ c left. left)

-- what a call of opening leaves, whatever its answer
pub record Kept (old new : History) : Type 0 where
  pub keeps : Keeps (now old) (now new)
  pub during : During old new (λ c s. (Leaves old c ⊎ Keeps (now old) c) × (s ≡ said old))
  pub settles : Settles old new (Keeps (now old))
  pub quiet : said new ≡ said old

pub kept_none : (old : History) → Kept old old
kept_none old = record {
  keeps = keeps_itself (now old);
  during = during_begun old (λ c s. (Leaves old c ⊎ Keeps (now old) c) × (s ≡ said old)) (λ c left. (inl left, refl));
  settles = inl refl;
  quiet = refl;
}

-- after the first sync
pub kept_synced : (old : History) → Kept old (Synced old)
kept_synced old = record {
  keeps = keeps_itself (now old);
  during = during_synced old old (λ c s. (Leaves old c ⊎ Keeps (now old) c) × (s ≡ said old)) (kept_none old).during (inr (keeps_itself (now old)), refl);
  settles = inr (during_begun (Synced old) (Silent old (Keeps (now old))) (λ c left. (subst (Keeps (now old)) (sym left) (keeps_itself (now old)), refl)));
  quiet = refl;
}

-- after a run behind it
kept_run : (old new : History) → Ended (Synced old) new (Keeps (now old)) → Kept old new
kept_run old new run =
    let P : List ℕ → List ℕ → Type 0 = λ c s. (Leaves old c ⊎ Keeps (now old) c) × (s ≡ said old) in
    record {
      keeps = run.here;
      during = weaken old new (λ c s. P c s ⊎ Silent (Synced old) (Keeps (now old)) c s) P
          (λ c s any. ⊎_elim (λ before. before) (λ silent. (inr silent.0, silent.1)) any)
          (followed old (Synced old) new P (Silent (Synced old) (Keeps (now old))) (kept_synced old).during run.during);
      settles = inr run.during;
      quiet = run.quiet;
    }

pub kept_part : (old new : History) → is_made (now old) ≡ true → has_format (now old) ≡ true → RepairedPart (Synced old) new → Kept old new
kept_part old new made format (inl same) = subst (Kept old) (sym same) (kept_synced old)
kept_part old new made format (inr did) =
    kept_run old new (replay_part (Synced old) new (record { made = made; format = format; open_ = did.0; order = did.1 }) (λ c left. left) did.2)

-- what opening leaves where all went well so far: a closed file that says what it said, and no other after a crash
pub record Mended (old new : History) : Type 0 where
  pub kept : Kept old new
  pub closed : is_open (now new) ≡ false
  pub durable : Durable new
  pub made : is_made (now new) ≡ true
  pub format : has_format (now new) ≡ true

pub mended : (old new : History) → is_made (now old) ≡ true → has_format (now old) ≡ true → Repaired (Synced old) new → Mended old new
mended old new made format (inl same) = subst (Mended old) (sym same.1) (record { kept = kept_synced old; closed = same.0; durable = λ c left. left; made = made; format = format })
mended old new made format (inr did) =
    let a = now old in
    let open_ : Open a = record { made = made; format = format; open_ = did.0; order = did.1 } in
    let stage : Stage (Synced old) new (Keeps a) (Closed a) = replay_did (Synced old) new open_ (λ c left. left) did.2 in
    let parts = did_split (placing (journal a)) (gating 0) (Synced old) new did.2 in
    record {
      kept = kept_run old new (ended (Synced old) new (Keeps a) (Closed a) stage (closed_keeps a open_));
      closed = stage.holds.here.rests.closed;
      durable = gating_durable 0 parts.0 new parts.2;
      made = stage.holds.here.rests.made;
      format = stage.holds.here.rests.format;
    }
