-- The replay of a journal: the file goes on saying what it said.
use Rattle.std.proofs.Common.{◌≡◌, ℕ, zero, suc, ◌+◌, ◌*◌, ◌/◌, ◌<◌, ◌≤◌, ⊎_elim, Bool, true, false, List, length, drop, slice_index, refl, sym, ◌∙◌, ap, subst, arith}
use Rattle.std.proofs.lemmas.Bool.{eqb-true, leb-true, ltb-true}
use Rattle.std.specs.Prelude.{◌&&◌, not, nat_lt, nat_le}
use Rattle.std.proofs.lemmas.List.{length-take, length-drop}
use Rattle.wm_page.specs.Entries.{is_named, no_page_twice, AreWhole}
use Rattle.wm_page.specs.Fields.{number_at}
use Rattle.wm_station.specs.History.{stretch, Torn}
use Rattle.wm_journal.specs.Disk.{page, is_made, has_format, is_open, journal_page, journal_size, directory_pages, images_at, journal_at, journal, may_name, is_in_order, held, count_of, damage_of}
use Rattle.wm_journal.specs.Store.{Stores, Rests, Keeps, over}
use Rattle.wm_journal.proofs.AllOrNothing.{armed_torn}
use Rattle.wm_journal.proofs.Phases.{Sound, Ready, Armed, Placing}
use Rattle.wm_journal.proofs.Places.{placing_torn, sound_below}
use Rattle.wm_journal.proofs.Verdicts.{verdict, damage_is}
use Rattle.wm_journal.proofs.Stored.{either, held_open, rests_stores, stores_open, stores_new}

-- a file whose journal is open and in order
pub record Open (a : List ℕ) : Type 0 where
  pub made : is_made a ≡ true
  pub format : has_format a ≡ true
  pub open_ : is_open a ≡ true
  pub order : is_in_order a ≡ true

-- what the test says
pub record Order (a : List ℕ) : Type 0 where
  pub low : 2 ≤ journal_page a
  pub some : 0 < journal_size a
  pub room : (journal_page a + directory_pages (journal_size a) + journal_size a) * 4096 ≤ length a
  pub names : may_name (journal_page a) (journal a) ≡ true

split_four : (a b c d : Bool) → (a && b && c && d) ≡ true → (a ≡ true) × (b ≡ true) × (c ≡ true) × (d ≡ true)
split_four a b c d all = grind arith

pub order : (a : List ℕ) → is_in_order a ≡ true → Order a
unfolding is_in_order
order a test =
    let s = journal_page a in
    let n = journal_size a in
    let parts = split_four (nat_le 2 s) (nat_lt 0 n) (nat_le ((s + directory_pages n + n) * 4096) (length a)) (may_name s (journal a)) test in
    record { low = leb-true 2 s parts.0; some = ltb-true 0 n parts.1; room = leb-true ((s + directory_pages n + n) * 4096) (length a) parts.2; names = parts.3 }

length-images_at : (a : List ℕ) (n numbers images : ℕ) → length (images_at a n numbers images) ≡ n
unfolding images_at
length-images_at a zero numbers images = refl
length-images_at a (suc n) numbers images = omega (arith, length-images_at a n (numbers + 8) (images + 4096))

whole_images : (a : List ℕ) (n numbers images : ℕ) → images + 4096 * n ≤ length a → AreWhole (images_at a n numbers images)
unfolding images_at stretch
whole_images a zero numbers images within = tt
whole_images a (suc n) numbers images within = (omega (arith, length-take 4096 (drop images a), length-drop images a), whole_images a n (numbers + 8) (images + 4096) (omega arith))

-- the pages that the file names
pub open_sound : (a : List ℕ) → Open a → Sound (journal_page a) (journal a)
open_sound a open_ =
    let facts = order a open_.order in
    let s = journal_page a in
    let n = journal_size a in
    let room : (s + directory_pages n + n) * 4096 ≤ length a = facts.room in
    record {
      low = facts.low;
      some = omega (arith, length-images_at a n (s * 4096) ((s + directory_pages n) * 4096), facts.some);
      names = facts.names;
      whole = whole_images a n (s * 4096) ((s + directory_pages n) * 4096) (omega arith);
    }

pub open_ready : (a : List ℕ) → Open a → Ready (journal_page a) (journal a) a
open_ready a open_ =
    let facts = order a open_.order in
    let s = journal_page a in
    let n = journal_size a in
    let size : length (journal a) ≡ n = length-images_at a n (s * 4096) ((s + directory_pages n) * 4096) in
    record {
      made = open_.made;
      format = open_.format;
      start = refl;
      images = sym size;
      journal = ap (journal_at a s) size;
      room = subst (λ (k : ℕ). (s + directory_pages k + k) * 4096 ≤ length a) (sym size) facts.room;
    }

-- the order of the tests, for two files that pass the same
damage_same : (a c : List ℕ) → length c ≡ length a → has_format a ≡ true → has_format c ≡ true → (is_open a && not (is_in_order a)) ≡ false → (is_open c && not (is_in_order c)) ≡ false → count_of c ≡ count_of a → damage_of c ≡ damage_of a
damage_same a c size one two three four five =
    let verdicts : verdict (length c) (has_format c) (is_open c && not (is_in_order c)) (count_of c) ≡ verdict (length a) (has_format a) (is_open a && not (is_in_order a)) (count_of a) =
    same_verdict (length c) (length a) (has_format c) (has_format a) (is_open c && not (is_in_order c)) (is_open a && not (is_in_order a)) (count_of c) (count_of a) size (two ∙ sym one) (four ∙ sym three) five in
    damage_is c ∙ verdicts ∙ sym (damage_is a)
  where
    same_verdict : (m n : ℕ) (f g d e : Bool) (k l : ℕ) → m ≡ n → f ≡ g → d ≡ e → k ≡ l → verdict m f d k ≡ verdict n g e l
    same_verdict m n f g d e k l one two three four = cc

order_passes : (b d : Bool) → (b ≡ true → d ≡ true) → (b && not d) ≡ false
order_passes true true to = refl
order_passes true false to = absurd (let e : false ≡ true = to refl in cc)
order_passes false d to = refl

-- each page that is whole in the file
abbrev pub whole_pages : List ℕ → ℕ
whole_pages a = length a / 4096

-- a file of the same length that holds the same pages says the same
pub stores_keeps : (a c : List ℕ) → Open a → Stores (over (journal a) (page a)) (whole_pages a) c → length c ≡ length a → Keeps a c
stores_keeps a c open_ stores size =
    let facts = order a open_.order in
    let pages : (p : ℕ) → 1 ≤ p → p < whole_pages a → held c p ≡ held a p = λ p one under. stores.pages p one under ∙ sym (held_open a (journal a) p open_.open_ refl) in
    let one : slice_index c 0 ≡ 90 = eqb-true (slice_index c 0) 90 stores.made in
    let two : slice_index a 0 ≡ 90 = eqb-true (slice_index a 0) 90 open_.made in
    record {
      made = one ∙ sym two;
      damage = damage_same a c size open_.format stores.format (order_passes (is_open a) (is_in_order a) (λ _. open_.order)) (order_passes (is_open c) (is_in_order c) stores.order)
          (ap (λ (l : List ℕ). number_at l 0) (pages 1 (omega arith) (omega (arith, facts.room, facts.low))));
      size = size;
      pages = pages;
    }

pub keeps_itself : (a : List ℕ) → Keeps a a
keeps_itself a = record { made = refl; damage = refl; size = refl; pages = λ p one under. refl }

-- while the pages go to their places
pub record Copying (a c : List ℕ) : Type 0 where
  pub placing : Placing (journal_page a) (journal a) (page a) (whole_pages a) c
  pub size : length c ≡ length a

-- once they are there
pub record Copied (a c : List ℕ) : Type 0 where
  pub armed : Armed (journal_page a) (journal a) (over (journal a) (page a)) (whole_pages a) c
  pub size : length c ≡ length a

-- once the gate is closed
pub record Closed (a c : List ℕ) : Type 0 where
  pub rests : Rests (over (journal a) (page a)) (whole_pages a) c
  pub size : length c ≡ length a

pub copying_torn : (a : List ℕ) → Open a → (q n : ℕ) (d c : List ℕ) → n ≡ 4096 → is_named q (journal a) ≡ true → Copying a d → Torn (q * 4096) n d c → Copying a c
copying_torn a open_ q n d c size named copying torn =
    let sound = open_sound a open_ in
    let range = sound_below (journal_page a) (journal a) q sound named in
    let below : q < journal_page a = range.1 in
    record {
      placing = placing_torn (journal_page a) (whole_pages a) (journal a) (page a) q n d c sound size named copying.placing torn;
      size = omega (arith, copying.size, torn.no_shorter, torn.no_longer, copying.placing.ready.room);
    }

pub copied_torn : (a : List ℕ) → Open a → (d c : List ℕ) → Copied a d → Torn 8 1 d c → Copied a c
copied_torn a open_ d c copied torn =
    let low : 2 ≤ journal_page a = (open_sound a open_).low in
    record {
      armed = armed_torn (journal_page a) (whole_pages a) (journal a) (over (journal a) (page a)) d c (omega arith) copied.armed torn;
      size = omega (arith, copied.size, torn.no_shorter, torn.no_longer, copied.armed.ready.room);
    }

pub copying_keeps : (a : List ℕ) → Open a → (c : List ℕ) → Copying a c → Keeps a c
copying_keeps a open_ c copying =
    stores_keeps a c open_ (stores_open (journal_page a) (whole_pages a) (journal a) (page a) c (open_sound a open_) copying.placing.ready copying.placing.open_ copying.placing.whole copying.placing.pages) copying.size

pub copied_keeps : (a : List ℕ) → Open a → (c : List ℕ) → Copied a c → Keeps a c
copied_keeps a open_ c copied = stores_keeps a c open_ (stores_new (journal_page a) (whole_pages a) (journal a) (page a) c (open_sound a open_) copied.armed) copied.size

pub closed_keeps : (a : List ℕ) → Open a → (c : List ℕ) → Closed a c → Keeps a c
closed_keeps a open_ c closed = stores_keeps a c open_ (rests_stores (over (journal a) (page a)) (whole_pages a) c closed.rests) closed.size

-- at the start of a replay
pub copying_start : (a : List ℕ) → Open a → Copying a a
copying_start a open_ = record {
  placing = record { ready = open_ready a open_; open_ = open_.open_; whole = omega arith; pages = λ p one under not. refl };
  size = refl;
}

pub copying_room : (a c : List ℕ) → Copying a c → journal_page a * 4096 ≤ length c
copying_room a c copying = omega (arith, copying.placing.ready.room)

pub open_once : (a : List ℕ) → Open a → no_page_twice (journal a) ≡ true
open_once a open_ = once_of (journal_page a) (journal a) (open_sound a open_).names
  where
    once_of : (s : ℕ) (es : List (ℕ × List ℕ)) → may_name s es ≡ true → no_page_twice es ≡ true
    once_of s es names = grind arith

-- a journal whose fields are not in order
pub not_within : (a : List ℕ) → ((2 ≤ journal_page a) × (0 < journal_size a) × ((journal_page a + directory_pages (journal_size a) + journal_size a) * 4096 ≤ length a) → ⊥) → is_in_order a ≡ false
not_within a out = ⊎_elim (λ test. absurd (let facts = order a test in out (facts.low, facts.some, facts.room))) (λ not. not) (either (is_in_order a))

pub not_nameable : (a : List ℕ) → may_name (journal_page a) (journal a) ≡ false → is_in_order a ≡ false
not_nameable a names = ⊎_elim (λ test. absurd (let two : may_name (journal_page a) (journal a) ≡ true = (order a test).names in cc)) (λ not. not) (either (is_in_order a))
