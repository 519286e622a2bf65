-- The pages of a journal, written to their places, and the whole of a commit.
use Rattle.std.proofs.Common.{◌≡◌, ◌≢◌, ℕ, ◌+◌, ◌*◌, ◌<◌, ◌≤◌, ◌⊎◌, ⊎_elim, inl, inr, true, false, List, [], ◌∷◌, length, refl, sym, ◌∙◌, ap, subst, arith}
use Rattle.std.proofs.lemmas.Bool.{cases_eq}
use Rattle.wm_page.specs.Entries.{is_named, no_page_twice, found, AreWhole}
use Rattle.wm_station.specs.History.{History, Synced, now, stretch, Torn, Written, DidWrite}
use Rattle.wm_station.specs.Moments.{Ended}
use Rattle.wm_station.proofs.Steps.{Stage, did_write, may_have_written, synced, ended, Torn-done}
use Rattle.wm_journal.specs.Disk.{page, are_below, may_name}
use Rattle.wm_journal.specs.Store.{over}
use Rattle.wm_journal.specs.Writes.{Did, DidPart, placing}
use Rattle.wm_journal.proofs.Kept.{page_kept}
use Rattle.wm_journal.proofs.Names.{below_named}
use Rattle.wm_journal.proofs.Phases.{Sound, Placing, ready_torn, gate_kept}

-- the last of the pages, of which these are still to be written
pub record Rest (es rest : List (ℕ × List ℕ)) : Type 0 where
  pub among : (p : ℕ) → is_named p rest ≡ true → is_named p es ≡ true
  pub once : no_page_twice rest ≡ true
  pub whole : AreWhole rest
  pub agrees : (p : ℕ) (x : List ℕ) → is_named p rest ≡ true → found p es x ≡ found p rest x

pub named_first : (e : ℕ × List ℕ) (rest : List (ℕ × List ℕ)) → is_named e.0 (e ∷ rest) ≡ true
named_first e rest = grind arith

pub found_first : (e : ℕ × List ℕ) (rest : List (ℕ × List ℕ)) (x : List ℕ) → found e.0 (e ∷ rest) x ≡ e.1
found_first e rest x = grind arith

named_later : (e : ℕ × List ℕ) (rest : List (ℕ × List ℕ)) (p : ℕ) → is_named p rest ≡ true → is_named p (e ∷ rest) ≡ true
named_later e rest p named = grind arith

pub unnamed_later : (e : ℕ × List ℕ) (rest : List (ℕ × List ℕ)) (p : ℕ) → p ≢ e.0 → is_named p rest ≡ false → is_named p (e ∷ rest) ≡ false
unnamed_later e rest p other not = grind arith

once_first : (e : ℕ × List ℕ) (rest : List (ℕ × List ℕ)) → no_page_twice (e ∷ rest) ≡ true → (is_named e.0 rest ≡ false) × (no_page_twice rest ≡ true)
once_first e rest once = grind arith

found_later : (e : ℕ × List ℕ) (rest : List (ℕ × List ℕ)) (p : ℕ) (x : List ℕ) → p ≢ e.0 → found p (e ∷ rest) x ≡ found p rest x
found_later e rest p x other = grind arith

not_first : (e : ℕ × List ℕ) (rest : List (ℕ × List ℕ)) (p : ℕ) → is_named e.0 rest ≡ false → is_named p rest ≡ true → p ≢ e.0
not_first e rest p not named same = let here : is_named p rest ≡ false = ap (λ (q : ℕ). is_named q rest) same ∙ not in cc

pub rest_more : (es : List (ℕ × List ℕ)) (e : ℕ × List ℕ) (rest : List (ℕ × List ℕ)) → Rest es (e ∷ rest) → Rest es rest
rest_more es e rest left =
    let once = once_first e rest left.once in
    record {
      among = λ p named. left.among p (named_later e rest p named);
      once = once.1;
      whole = left.whole.1;
      agrees = λ p x named. left.agrees p x (named_later e rest p named) ∙ found_later e rest p x (not_first e rest p once.0 named);
    }

pub rest_all : (es : List (ℕ × List ℕ)) → no_page_twice es ≡ true → AreWhole es → Rest es es
rest_all es once whole = record { among = λ p named. named; once = once; whole = whole; agrees = λ p x named. refl }

-- the pages that are not still to be written are as they are to be
abbrev pub Placed : List (ℕ × List ℕ) → List (ℕ × List ℕ) → (ℕ → List ℕ) → ℕ → List ℕ → Type 0
Placed es rest content limit c = (p : ℕ) → 1 ≤ p → p < limit → is_named p rest ≡ false → page c p ≡ over es content p

-- pages that a journal at page s names
pub sound_below : (s : ℕ) (es : List (ℕ × List ℕ)) (p : ℕ) → Sound s es → is_named p es ≡ true → (1 ≤ p) × (p < s)
sound_below s es p sound named = below_named s p es (names_below s es sound.names) named
  where
    names_below : (t : ℕ) (fs : List (ℕ × List ℕ)) → may_name t fs ≡ true → are_below t fs ≡ true
    names_below t fs names = grind arith

pub apart : (p q : ℕ) → p ≢ q → ((p + 1) * 4096 ≤ q * 4096) ⊎ (q * 4096 + 4096 ≤ p * 4096)
apart p q other = grind arith

-- a write to the place of a page that the journal names
pub placing_torn : (s limit : ℕ) (es : List (ℕ × List ℕ)) (content : ℕ → List ℕ) (q n : ℕ) (d c : List ℕ) → Sound s es → n ≡ 4096 → is_named q es ≡ true → Placing s es content limit d → Torn (q * 4096) n d c → Placing s es content limit c
placing_torn s limit es content q n d c sound size named placing torn =
    let range = sound_below s es q sound named in
    let one : 1 ≤ q = range.0 in
    let below : q < s = range.1 in
    let low : 2 ≤ s = sound.low in
    let room : s * 4096 ≤ length d = omega (arith, placing.ready.room) in
    record {
      ready = ready_torn s (q * 4096) n es d c (omega arith) placing.ready torn (omega arith) (omega arith) (inr (omega arith));
      open_ = gate_kept (q * 4096) n d c torn (omega arith) (omega arith) ∙ placing.open_;
      whole = omega (arith, placing.whole, torn.no_shorter);
      pages = λ p first under not.
          let other : p ≢ q = λ same. let here : is_named p es ≡ true = ap (λ (k : ℕ). is_named k es) same ∙ named in cc in
          page_kept (q * 4096) n p d c torn (omega (arith, placing.whole)) (⊎_elim (λ before. inl before) (λ behind. inr (omega arith)) (apart p q other)) ∙ placing.pages p first under not;
    }

-- one page more in its place
placed_more : (bound : ℕ) (es : List (ℕ × List ℕ)) (content : ℕ → List ℕ) (e : ℕ × List ℕ) (rest : List (ℕ × List ℕ)) (d c : List ℕ) → bound * 4096 ≤ length d → Rest es (e ∷ rest) → Written (e.0 * 4096) e.1 d c → Placed es (e ∷ rest) content bound d → Placed es rest content bound c
unfolding page
placed_more bound es content e rest d c room left done placed p one under not =
    ⊎_elim
    (λ same.
    let size : length e.1 ≡ 4096 = left.whole.0 in
    let here : stretch c (e.0 * 4096) 4096 ≡ e.1 = ap (stretch c (e.0 * 4096)) (sym size) ∙ done.here in
    let wanted : found p es (content p) ≡ e.1 = ap (λ (q : ℕ). found q es (content p)) same ∙ left.agrees e.0 (content p) (named_first e rest) ∙ found_first e rest (content p) in
    ap (λ (q : ℕ). stretch c (q * 4096) 4096) same ∙ here ∙ sym wanted)
    (λ other.
    let torn : Torn (e.0 * 4096) (length e.1) d c = Torn-done (e.0 * 4096) e.1 d c done in
    let size : length e.1 ≡ 4096 = left.whole.0 in
    page_kept (e.0 * 4096) (length e.1) p d c torn (omega arith) (⊎_elim (λ before. inl before) (λ behind. inr (omega arith)) (apart p e.0 other))
    ∙ placed p one under (unnamed_later e rest p other not))
    (cases_eq p e.0)

-- what a read gives after a write
pub now_written : (at : ℕ) (bytes : List ℕ) (old new : History) → DidWrite at bytes old new → Written at bytes (now old) (now new)
now_written at bytes old new did = subst (λ (h : History). Written at bytes (now old) (now h)) (sym did.told) did.written

-- Each page of the rest is written, where P stays so under such a write, and Q holds once all are in their places.
pub placing_did : (bound : ℕ) (es rest : List (ℕ × List ℕ)) (content : ℕ → List ℕ) (start h new : History) (T P Q : List ℕ → Type 0) → ((c : List ℕ) → P c → bound * 4096 ≤ length c) → Rest es rest
    → ((q n : ℕ) (d c : List ℕ) → n ≡ 4096 → is_named q es ≡ true → P d → Torn (q * 4096) n d c → P c) → ((c : List ℕ) → P c → T c) → ((c : List ℕ) → P c → Placed es [] content bound c → Q c)
    → Stage start h T P → Placed es rest content bound (now h) → Did (placing rest) h new → Stage start new T Q
placing_did bound es [] content start h new T P Q room left keeps to gives stage placed did =
    subst (λ (v : History). Stage start v T Q) (sym did) (synced start h T P Q stage (gives (now h) stage.holds.here placed) (to (now h) stage.holds.here))
placing_did bound es (e ∷ rest) content start h new T P Q room left keeps to gives stage placed did =
    let kept : (d c : List ℕ) → P d → Torn (e.0 * 4096) (length e.1) d c → P c = λ d c. keeps e.0 (length e.1) d c left.whole.0 (left.among e.0 (named_first e rest)) in
    let next : Stage start did.0 T P = did_write start h did.0 (e.0 * 4096) e.1 T P P stage did.1 kept to in
    placing_did bound es rest content start did.0 new T P Q room (rest_more es e rest left) keeps to gives next
    (placed_more bound es content e rest (now h) (now did.0) (room (now h) stage.holds.here) left (now_written (e.0 * 4096) e.1 h did.0 did.1) placed) did.2

pub placing_part : (es rest : List (ℕ × List ℕ)) (start h new : History) (T P : List ℕ → Type 0) → Rest es rest
    → ((q n : ℕ) (d c : List ℕ) → n ≡ 4096 → is_named q es ≡ true → P d → Torn (q * 4096) n d c → P c) → ((c : List ℕ) → P c → T c)
    → Stage start h T P → DidPart (placing rest) h new → Ended start new T
placing_part es [] start h new T P left keeps to stage (inl same) = subst (λ (v : History). Ended start v T) (sym same) (ended start h T P stage to)
placing_part es [] start h new T P left keeps to stage (inr last) =
    subst (λ (v : History). Ended start v T) (sym last) (ended start (Synced h) T P (synced start h T P P stage stage.holds.here (to (now h) stage.holds.here)) to)
placing_part es (e ∷ rest) start h new T P left keeps to stage (inl torn) =
    may_have_written start h new (e.0 * 4096) (length e.1) T P P stage torn to (λ d c. keeps e.0 (length e.1) d c left.whole.0 (left.among e.0 (named_first e rest))) to
placing_part es (e ∷ rest) start h new T P left keeps to stage (inr did) =
    let next : Stage start did.0 T P = did_write start h did.0 (e.0 * 4096) e.1 T P P stage did.1 (λ d c. keeps e.0 (length e.1) d c left.whole.0 (left.among e.0 (named_first e rest))) to in
    placing_part es rest start did.0 new T P (rest_more es e rest left) keeps to next did.2
