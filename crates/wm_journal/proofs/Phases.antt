-- What stands in a file at each point of a commit.
use Rattle.std.proofs.Common.{◌≡◌, ℕ, ◌+◌, ◌*◌, ◌<◌, ◌≤◌, ◌⊎◌, ⊎_elim, inl, inr, true, false, List, length, ◌∙◌, ap, arith}
use Rattle.std.specs.Prelude.{◌==◌}
use Rattle.wm_page.specs.Entries.{is_named, AreWhole}
use Rattle.wm_station.specs.History.{Torn}
use Rattle.wm_journal.specs.Disk.{page, is_made, has_format, is_open, journal_page, journal_size, directory_pages, journal_at, may_name}
use Rattle.wm_journal.specs.Store.{Rests}
use Rattle.wm_journal.proofs.Kept.{byte_kept, number_kept, page_kept, images_kept}

-- pages that a journal at page s may hold
pub record Sound (s : ℕ) (es : List (ℕ × List ℕ)) : Type 0 where
  pub low : 2 ≤ s
  pub some : 0 < length es
  pub names : may_name s es ≡ true
  pub whole : AreWhole es

-- a store with these pages in a whole journal at page s
pub record Ready (s : ℕ) (es : List (ℕ × List ℕ)) (c : List ℕ) : Type 0 where
  pub made : is_made c ≡ true
  pub format : has_format c ≡ true
  pub start : journal_page c ≡ s
  pub images : journal_size c ≡ length es
  pub journal : journal_at c s (length es) ≡ es
  pub room : (s + directory_pages (length es) + length es) * 4096 ≤ length c

-- the same, with these pages in their places, and any gate
pub record Armed (s : ℕ) (es : List (ℕ × List ℕ)) (content : ℕ → List ℕ) (limit : ℕ) (c : List ℕ) : Type 0 where
  pub ready : Ready s es c
  pub whole : limit * 4096 ≤ length c
  pub pages : (p : ℕ) → 1 ≤ p → p < limit → page c p ≡ content p

-- the same with an open gate, for the pages that the journal does not name
pub record Placing (s : ℕ) (es : List (ℕ × List ℕ)) (content : ℕ → List ℕ) (limit : ℕ) (c : List ℕ) : Type 0 where
  pub ready : Ready s es c
  pub open_ : is_open c ≡ true
  pub whole : limit * 4096 ≤ length c
  pub pages : (p : ℕ) → 1 ≤ p → p < limit → is_named p es ≡ false → page c p ≡ content p

-- a store stays one where its first two bytes are not reached
pub made_kept : (at n : ℕ) (d c : List ℕ) → Torn at n d c → 2 ≤ length d → 2 ≤ at → is_made d ≡ true → is_made c ≡ true
made_kept at n d c torn within behind made = ap (λ (b : ℕ). b == 0x5A) (byte_kept at n 0 d c torn (omega arith) (inl (omega arith))) ∙ made

pub format_kept : (at n : ℕ) (d c : List ℕ) → Torn at n d c → 2 ≤ length d → 2 ≤ at → has_format d ≡ true → has_format c ≡ true
format_kept at n d c torn within behind format = ap (λ (b : ℕ). b == 1) (byte_kept at n 1 d c torn (omega arith) (inl (omega arith))) ∙ format

pub gate_kept : (at n : ℕ) (d c : List ℕ) → Torn at n d c → 9 ≤ length d → 9 ≤ at → is_open c ≡ is_open d
gate_kept at n d c torn within behind = ap (λ (b : ℕ). b == 0x47) (byte_kept at n 8 d c torn (omega arith) (inl (omega arith)))

-- a closed store stays so under a write behind its pages, and to bytes 16 to 31
pub rests_torn : (content : ℕ → List ℕ) (limit at n : ℕ) (d c : List ℕ) → 1 ≤ limit → Rests content limit d → Torn at n d c → 9 ≤ at → (limit * 4096 ≤ at) ⊎ (at + n ≤ 4096) → Rests content limit c
rests_torn content limit at n d c low rests torn behind apart = record {
  made = made_kept at n d c torn (omega (arith, rests.whole)) (omega arith) rests.made;
  format = format_kept at n d c torn (omega (arith, rests.whole)) (omega arith) rests.format;
  closed = gate_kept at n d c torn (omega (arith, rests.whole)) behind ∙ rests.closed;
  whole = omega (arith, rests.whole, torn.no_shorter);
  pages = λ p one below. page_kept at n p d c torn (omega (arith, rests.whole)) (⊎_elim (λ far. inl (omega arith)) (λ near. inr (omega arith)) apart) ∙ rests.pages p one below;
}

-- a whole journal stays so under a write before it that does not reach the fields
pub ready_torn : (s at n : ℕ) (es : List (ℕ × List ℕ)) (d c : List ℕ) → 1 ≤ s → Ready s es d → Torn at n d c → 2 ≤ at → at + n ≤ s * 4096 → (at + n ≤ 16) ⊎ (32 ≤ at) → Ready s es c
ready_torn s at n es d c low ready torn behind before apart =
    let size : (s + directory_pages (length es) + length es) * 4096 ≤ length d = ready.room in
    let far : 4096 ≤ s * 4096 = omega arith in
    record {
      made = made_kept at n d c torn (omega arith) behind ready.made;
      format = format_kept at n d c torn (omega arith) behind ready.format;
      start = number_kept at n 16 d c torn (omega arith) (⊎_elim (λ front. inr front) (λ back. inl (omega arith)) apart) ∙ ready.start;
      images = number_kept at n 24 d c torn (omega arith) (⊎_elim (λ front. inr (omega arith)) (λ back. inl (omega arith)) apart) ∙ ready.images;
      journal = images_kept at n d c torn (length es) (s * 4096) ((s + directory_pages (length es)) * 4096) before (omega arith) (omega arith) ∙ ready.journal;
      room = omega (arith, torn.no_shorter);
    }
