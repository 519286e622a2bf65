-- What the fields of a header say of the journal.
use Rattle.std.proofs.Common.{◌≡◌, ℕ, ◌+◌, ◌*◌, ◌<◌, ◌≤◌, true, false, List, ◌++◌, length, sym, ◌∙◌, ap, subst, inr}
use Rattle.wm_page.specs.Batch.{entries}
use Rattle.wm_page.specs.declared.write.PageWrite.{PageWrite}
use Rattle.wm_station.specs.History.{History, now}
use Rattle.wm_journal.specs.Disk.{is_open, is_in_order, journal, journal_at, journal_page, journal_size, directory_pages, may_name}
use Rattle.wm_journal.specs.Header.{IsHeader}
use Rattle.wm_journal.specs.Opening.{Repaired, RepairedPart, replaying}
use Rattle.wm_journal.specs.Writes.{Did, DidPart, placing, gating}
use Rattle.wm_journal.specs.declared.header.Header.{Header}
use Rattle.wm_journal.proofs.Replays.{not_within, not_nameable}
use Rattle.wm_journal.proofs.Stored.{journal_same, order_of}

-- the journal's place and size are such as they may be
abbrev pub LiesWithin : ℕ → ℕ → ℕ → Type 0
LiesWithin s n size = (2 ≤ s) × (0 < n) × ((s + directory_pages n + n) * 4096 ≤ size)

pub header_journal : (h : Header) (a : List ℕ) → IsHeader h a → journal_at a h.start h.images ≡ journal a
header_journal h a is = journal_same a h.start (journal_page a) h.images (journal_size a) is.start is.images

lies_same : (s t m n size long : ℕ) → s ≡ t → m ≡ n → size ≡ long → LiesWithin t n long → LiesWithin s m size
lies_same s t m n size long one two three lies = subst (λ (k : ℕ). LiesWithin k m size) (sym one) (subst (λ (k : ℕ). LiesWithin t k size) (sym two) (subst (λ (k : ℕ). LiesWithin t n k) (sym three) lies))

pub header_outside : (h : Header) (a : List ℕ) (size : ℕ) → IsHeader h a → size ≡ length a → (LiesWithin h.start h.images size → ⊥) → is_in_order a ≡ false
header_outside h a size is long out = not_within a (λ lies. out (lies_same h.start (journal_page a) h.images (journal_size a) size (length a) is.start is.images long lies))

pub header_unnameable : (h : Header) (a : List ℕ) → IsHeader h a → may_name h.start (journal_at a h.start h.images) ≡ false → is_in_order a ≡ false
header_unnameable h a is names =
    not_nameable a (subst (λ (k : ℕ). may_name k (journal a) ≡ false) is.start (subst (λ (l : List (ℕ × List ℕ)). may_name h.start l ≡ false) (header_journal h a is) names))

pub header_order : (h : Header) (a : List ℕ) (size : ℕ) → IsHeader h a → size ≡ length a → LiesWithin h.start h.images size → may_name h.start (journal_at a h.start h.images) ≡ true → is_in_order a ≡ true
header_order h a size is long lies names =
    order_of a h.start h.images (journal_at a h.start h.images) (sym is.start) (sym is.images) (sym (header_journal h a is)) lies.0 lies.1 (subst (λ (k : ℕ). (h.start + directory_pages h.images + h.images) * 4096 ≤ k) long lies.2) names

-- the pages that were read are those of the journal
replay_same : (h : Header) (a : List ℕ) (ws vs : List PageWrite) → IsHeader h a → vs ≡ ws → entries ws ≡ journal_at a h.start h.images → placing (entries vs) ++ gating 0 ≡ replaying a
replay_same h a ws vs is one two = ap (λ (l : List (ℕ × List ℕ)). placing l ++ gating 0) (ap entries one ∙ two ∙ header_journal h a is)

pub header_repaired : (h : Header) (size : ℕ) (old middle new : History) (ws vs : List PageWrite) → IsHeader h (now old) → is_open (now old) ≡ true → size ≡ length (now old) → LiesWithin h.start h.images size → middle ≡ old → vs ≡ ws → entries ws ≡ journal_at (now old) h.start h.images → may_name h.start (entries ws) ≡ true → Did (placing (entries vs) ++ gating 0) middle new → Repaired old new
header_repaired h size old middle new ws vs is open_ long lies told one two names did =
    inr (
      open_,
      header_order h (now old) size is long lies (subst (λ (l : List (ℕ × List ℕ)). may_name h.start l ≡ true) two names),
      subst (λ (steps : _). Did steps old new) (replay_same h (now old) ws vs is one two) (subst (λ (v : History). Did (placing (entries vs) ++ gating 0) v new) told did),
    )

pub header_part : (h : Header) (size : ℕ) (old middle new : History) (ws vs : List PageWrite) → IsHeader h (now old) → is_open (now old) ≡ true → size ≡ length (now old) → LiesWithin h.start h.images size → middle ≡ old → vs ≡ ws → entries ws ≡ journal_at (now old) h.start h.images → may_name h.start (entries ws) ≡ true → DidPart (placing (entries vs) ++ gating 0) middle new → RepairedPart old new
header_part h size old middle new ws vs is open_ long lies told one two names did =
    inr (
      open_,
      header_order h (now old) size is long lies (subst (λ (l : List (ℕ × List ℕ)). may_name h.start l ≡ true) two names),
      subst (λ (steps : _). DidPart steps old new) (replay_same h (now old) ws vs is one two) (subst (λ (v : History). DidPart (placing (entries vs) ++ gating 0) v new) told did),
    )
