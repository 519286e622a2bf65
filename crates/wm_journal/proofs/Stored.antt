-- Files that opening finds to hold a store's pages.
use Rattle.std.proofs.Common.{◌≡◌, ℕ, ◌+◌, ◌*◌, ◌<◌, ◌≤◌, ◌⊎◌, ⊎_elim, inl, inr, Bool, true, false, List, length, refl, sym, ◌∙◌, ap, subst, arith}
use Rattle.std.proofs.lemmas.Bool.{le-leb, lt-ltb}
use Rattle.std.specs.Prelude.{nat_le, nat_lt, ◌&&◌}
use Rattle.wm_page.specs.Entries.{is_named, found}
use Rattle.wm_journal.specs.Disk.{page, is_open, journal_page, journal_size, directory_pages, journal_at, journal, may_name, is_in_order, held}
use Rattle.wm_journal.specs.Store.{Stores, Rests, over}
use Rattle.wm_journal.proofs.Names.{found_named, found_found}
use Rattle.wm_journal.proofs.Phases.{Sound, Ready, Armed}

pub either : (b : Bool) → (b ≡ true) ⊎ (b ≡ false)
either true = inl refl
either false = inr refl

pub journal_same : (c : List ℕ) (s t m n : ℕ) → s ≡ t → m ≡ n → journal_at c s m ≡ journal_at c t n
journal_same c s t m n one two = ap (λ (k : ℕ). journal_at c k m) one ∙ ap (journal_at c t) two

-- the journal of a file is the one that stands in it
pub ready_journal : (s : ℕ) (es : List (ℕ × List ℕ)) (c : List ℕ) → Ready s es c → journal c ≡ es
ready_journal s es c ready = journal_same c (journal_page c) s (journal_size c) (length es) ready.start ready.images ∙ ready.journal

all_four : (a b c d : Bool) → a ≡ true → b ≡ true → c ≡ true → d ≡ true → (a && b && c && d) ≡ true
all_four a b c d one two three four = grind arith

size_same : (s t m n size : ℕ) → s ≡ t → m ≡ n → (t + directory_pages n + n) * 4096 ≤ size → (s + directory_pages m + m) * 4096 ≤ size
size_same s t m n size one two le = subst (λ (k : ℕ). (k + directory_pages m + m) * 4096 ≤ size) (sym one) (subst (λ (k : ℕ). (t + directory_pages k + k) * 4096 ≤ size) (sym two) le)

pub order_of : (c : List ℕ) (s n : ℕ) (es : List (ℕ × List ℕ)) → journal_page c ≡ s → journal_size c ≡ n → journal c ≡ es → 2 ≤ s → 0 < n → (s + directory_pages n + n) * 4096 ≤ length c → may_name s es ≡ true → is_in_order c ≡ true
unfolding is_in_order
order_of c s n es start size same low some room names =
    let named : may_name (journal_page c) (journal c) ≡ true = subst (λ (l : List (ℕ × List ℕ)). may_name (journal_page c) l ≡ true) (sym same) (subst (λ (k : ℕ). may_name k es ≡ true) (sym start) names) in
    all_four (nat_le 2 (journal_page c)) (nat_lt 0 (journal_size c)) (nat_le ((journal_page c + directory_pages (journal_size c) + journal_size c) * 4096) (length c)) (may_name (journal_page c) (journal c))
    (le-leb 2 (journal_page c) (omega arith)) (lt-ltb 0 (journal_size c) (omega arith)) (le-leb ((journal_page c + directory_pages (journal_size c) + journal_size c) * 4096) (length c) (size_same (journal_page c) s (journal_size c) n (length c) start size room)) named

pub ready_order : (s : ℕ) (es : List (ℕ × List ℕ)) (c : List ℕ) → Sound s es → Ready s es c → is_in_order c ≡ true
ready_order s es c sound ready = order_of c s (length es) es ready.start ready.images (ready_journal s es c ready) sound.low sound.some ready.room sound.names

pub held_closed : (c : List ℕ) (p : ℕ) → is_open c ≡ false → held c p ≡ page c p
unfolding held
held_closed c p closed = rw closed

pub held_open : (c : List ℕ) (es : List (ℕ × List ℕ)) (p : ℕ) → is_open c ≡ true → journal c ≡ es → held c p ≡ found p es (page c p)
unfolding held
held_open c es p open_ same = rw open_ (ap (λ (l : List (ℕ × List ℕ)). found p l (page c p)) same)

-- a closed store holds the pages that stand in their places
pub rests_stores : (content : ℕ → List ℕ) (limit : ℕ) (c : List ℕ) → Rests content limit c → Stores content limit c
rests_stores content limit c rests = record {
  made = rests.made;
  format = rests.format;
  order = λ open_. absurd (let two : is_open c ≡ false = rests.closed in cc);
  whole = rests.whole;
  pages = λ p one below. held_closed c p rests.closed ∙ rests.pages p one below;
}

-- a whole journal that is open holds its pages, and the others as they stand
pub stores_open : (s limit : ℕ) (es : List (ℕ × List ℕ)) (content : ℕ → List ℕ) (c : List ℕ) → Sound s es → Ready s es c → is_open c ≡ true → limit * 4096 ≤ length c → ((p : ℕ) → 1 ≤ p → p < limit → is_named p es ≡ false → page c p ≡ content p) → Stores (over es content) limit c
stores_open s limit es content c sound ready open_ whole others = record {
  made = ready.made;
  format = ready.format;
  order = λ _. ready_order s es c sound ready;
  whole = whole;
  pages = λ p one below. held_open c es p open_ (ready_journal s es c ready) ∙ ⊎_elim (λ named. found_named p es (page c p) (content p) named) (λ not. ap (found p es) (others p one below not)) (either (is_named p es));
}

pub stores_closed : (s limit : ℕ) (es : List (ℕ × List ℕ)) (content : ℕ → List ℕ) (c : List ℕ) → Armed s es content limit c → is_open c ≡ false → Stores content limit c
stores_closed s limit es content c armed closed = rests_stores content limit c (record { made = armed.ready.made; format = armed.ready.format; closed = closed; whole = armed.whole; pages = armed.pages })

pub stores_same : (content other : ℕ → List ℕ) (limit : ℕ) (c : List ℕ) → ((p : ℕ) → content p ≡ other p) → Stores content limit c → Stores other limit c
stores_same content other limit c same stores = record {
  made = stores.made;
  format = stores.format;
  order = stores.order;
  whole = stores.whole;
  pages = λ p one below. stores.pages p one below ∙ same p;
}

-- with the new pages in their places the gate makes no difference
pub stores_new : (s limit : ℕ) (es : List (ℕ × List ℕ)) (content : ℕ → List ℕ) (c : List ℕ) → Sound s es → Armed s es (over es content) limit c → Stores (over es content) limit c
stores_new s limit es content c sound armed = ⊎_elim
    (λ open_. stores_same (over es (over es content)) (over es content) limit c (λ p. found_found p es (content p)) (stores_open s limit es (over es content) c sound armed.ready open_ armed.whole (λ p one below not. armed.pages p one below)))
    (λ closed. stores_closed s limit es (over es content) c armed closed)
    (either (is_open c))
