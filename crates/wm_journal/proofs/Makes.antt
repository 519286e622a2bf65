-- A store that was made.
use Rattle.std.proofs.Common.{◌≡◌, ℕ, ◌+◌, ◌*◌, ◌<◌, ◌≤◌, ⊎_elim, inl, inr, max, true, false, List, [], ◌∷◌, ◌++◌, length, take, drop, set, get_or, replicate, slice_index, refl, sym, ◌∙◌, ap, subst, arith}
use Rattle.std.specs.Prelude.{◌==◌, ◌^◌, All}
use Rattle.std.proofs.lemmas.Bool.{and_from, cases_eq}
use Rattle.std.proofs.lemmas.List.{length-set, length-replicate, get_or-set_same, get_or-set_other, get_or-replicate, set_split, drop-take}
use Rattle.std.proofs.Math.Seq.{take-add}
use Rattle.wm_page.specs.Entries.{is_named, no_page_twice, found, AreWhole}
use Rattle.wm_page.specs.Fields.{number_at}
use Rattle.wm_page.specs.Batch.{entries}
use Rattle.wm_page.specs.declared.write.PageWrite.{PageWrite}
use Rattle.wm_station.specs.History.{History, Synced, now, said, stretch, Torn, Written, Leaves}
use Rattle.wm_station.proofs.Steps.{Torn-done}
use Rattle.wm_journal.specs.Disk.{page, are_below}
use Rattle.wm_journal.specs.Store.{Rests, IsAtRest, count_after, made_page}
use Rattle.wm_journal.specs.Writes.{Step, Write, Sync, Did, DidPart, placing, marking, rooting, making, root_page}
use Rattle.wm_journal.proofs.Committed.{count_found, whole_entries}
use Rattle.wm_journal.proofs.Reading.{all_small}
use Rattle.wm_journal.proofs.Kept.{page_kept, slice_index-stretch}
use Rattle.wm_journal.proofs.Names.{below_named}
use Rattle.wm_journal.proofs.Places.{Rest, rest_all, rest_more, named_first, found_first, unnamed_later, apart, now_written}
use Rattle.wm_journal.proofs.Sequences.{did_split}

-- nothing is said in any of these steps
pub said_did : (steps : List Step) (old new : History) → Did steps old new → said new ≡ said old
said_did [] old new same = ap said same
said_did (Write at bytes ∷ steps) old new did = said_did steps did.0 new did.2 ∙ ap said did.1.told
said_did (Sync ∷ steps) old new did = said_did steps (Synced old) new did

pub said_part : (steps : List Step) (old new : History) → DidPart steps old new → said new ≡ said old
said_part [] old new same = ap said same
said_part (Write at bytes ∷ steps) old new (inl (inl same)) = ap said same
said_part (Write at bytes ∷ steps) old new (inl (inr torn)) = ap said torn.1
said_part (Write at bytes ∷ steps) old new (inr did) = said_part steps did.0 new did.2 ∙ ap said did.1.told
said_part (Sync ∷ steps) old new (inl same) = ap said same
said_part (Sync ∷ steps) old new (inr did) = said_part steps (Synced old) new did

-- the pages that are in their places, behind this root, in a file that had this length
pub record Placing3 (root : List ℕ) (size : ℕ) (es rest : List (ℕ × List ℕ)) (c : List ℕ) : Type 0 where
  pub first : page c 0 ≡ root
  pub low : size ≤ length c
  pub root_in : 4096 ≤ length c
  pub high : length c ≤ max 12288 size
  pub pages : (p : ℕ) → is_named p es ≡ true → is_named p rest ≡ false → ((p + 1) * 4096 ≤ length c) × (page c p ≡ found p es [])

-- one page more
placing3_more : (root : List ℕ) (size : ℕ) (es : List (ℕ × List ℕ)) (e : ℕ × List ℕ) (rest : List (ℕ × List ℕ)) (d c : List ℕ) → 1 ≤ e.0 → e.0 < 3 → Rest es (e ∷ rest) → Written (e.0 * 4096) e.1 d c → Placing3 root size es (e ∷ rest) d → Placing3 root size es rest c
unfolding page
placing3_more root size es e rest d c one below left done so_far =
    let torn : Torn (e.0 * 4096) (length e.1) d c = Torn-done (e.0 * 4096) e.1 d c done in
    let whole : length e.1 ≡ 4096 = left.whole.0 in
    let long : length c ≡ max (length d) (e.0 * 4096 + length e.1) = done.size (omega arith) in
    record {
      first = page_kept (e.0 * 4096) (length e.1) 0 d c torn (omega (arith, so_far.root_in)) (inl (omega arith)) ∙ so_far.first;
      low = omega (arith, so_far.low);
      root_in = omega (arith, so_far.root_in);
      high = omega (arith, so_far.high);
      pages = λ p named not. ⊎_elim
          (λ same.
          let here : stretch c (e.0 * 4096) 4096 ≡ e.1 = ap (stretch c (e.0 * 4096)) (sym whole) ∙ done.here in
          let wanted : found p es [] ≡ e.1 = ap (λ (q : ℕ). found q es []) same ∙ left.agrees e.0 [] (named_first e rest) ∙ found_first e rest [] in
          (omega arith, ap (λ (q : ℕ). stretch c (q * 4096) 4096) same ∙ here ∙ sym wanted))
          (λ other.
          let before = so_far.pages p named (unnamed_later e rest p other not) in
          (omega (arith, before.0), page_kept (e.0 * 4096) (length e.1) p d c torn before.0 (⊎_elim (λ front. inl front) (λ behind. inr (omega arith)) (apart p e.0 other)) ∙ before.1))
          (cases_eq p e.0);
    }

placing3_did : (root : List ℕ) (size : ℕ) (es rest : List (ℕ × List ℕ)) (h new : History) → are_below 3 es ≡ true → Rest es rest → Placing3 root size es rest (now h) → Did (placing rest) h new → Placing3 root size es [] (now new)
placing3_did root size es [] h new below left so_far did = subst (λ (v : History). Placing3 root size es [] (now v)) (sym did) so_far
placing3_did root size es (e ∷ rest) h new below left so_far did =
    let range = below_named 3 e.0 es below (left.among e.0 (named_first e rest)) in
    placing3_did root size es rest did.0 new below (rest_more es e rest left)
    (placing3_more root size es e rest (now h) (now did.0) range.0 range.1 left (now_written (e.0 * 4096) e.1 h did.0 did.1) so_far) did.2

-- after page 0 was written
placing3_start : (root : List ℕ) (es : List (ℕ × List ℕ)) (old one two : List ℕ) → length root ≡ 4096 → Written 0 (0 ∷ []) old one → Written 0 root one two → Placing3 root (length old) es es two
unfolding page
placing3_start root es old one two size first second =
    let grown : length one ≡ max (length old) 1 = first.size (omega arith) in
    let long : length two ≡ max (length one) (0 + length root) = second.size (omega arith) in
    record {
      first = ap (stretch two 0) (sym size) ∙ second.here;
      low = omega arith;
      root_in = omega arith;
      high = omega arith;
      pages = λ p named not. absurd (cc);
    }

front_made : (n : ℕ) (root d c : List ℕ) (byte : ℕ) → 0 < length root → take (1 + n) d ≡ root → take 1 c ≡ byte ∷ [] → take n (drop 1 c) ≡ take n (drop 1 d) → take (1 + n) c ≡ set root 0 byte
front_made n root d c byte some first here same =
    let rest : drop 1 root ≡ take n (drop 1 d) = ap (drop 1) (sym first) ∙ drop-take 1 n d in
    let split : take (1 + n) c ≡ take 1 c ++ take n (drop 1 c) = take-add 1 n c in
    let both : take 1 c ++ take n (drop 1 c) ≡ (byte ∷ []) ++ take n (drop 1 d) = ap (λ (l : List ℕ). l ++ take n (drop 1 c)) here ∙ ap (λ (l : List ℕ). (byte ∷ []) ++ l) same in
    split ∙ both ∙ ap (λ (l : List ℕ). byte ∷ l) (sym rest) ∙ sym (set_split root 0 byte some)

-- page 0, once its first byte is another
root_made : (root d c : List ℕ) (byte : ℕ) → 0 < length root → page d 0 ≡ root → 4096 ≤ length d → Written 0 (byte ∷ []) d c → page c 0 ≡ set root 0 byte
unfolding page stretch
root_made root d c byte some first long done = front_made 4095 root d c byte some first done.here (done.same 1 4095 long (inr (omega arith)))

-- a byte of page 0
byte_of_root : (c root : List ℕ) (i : ℕ) → i < 4096 → page c 0 ≡ root → slice_index c i ≡ slice_index root i
unfolding page
byte_of_root c root i lt same = ap (slice_index c) (let e : i ≡ 0 + i = omega arith in e) ∙ sym (slice_index-stretch c 0 4096 i lt) ∙ ap (λ (l : List ℕ). slice_index l i) same

abbrev zeros : ℕ → List ℕ
zeros n = replicate n 0

-- the bytes of page 0 that say what it is
root_byte : (n : ℕ) → 9 ≤ n → (get_or (set (set (zeros n) 1 1) 0 90) 0 0 ≡ 90) × (get_or (set (set (zeros n) 1 1) 0 90) 1 0 ≡ 1) × (get_or (set (set (zeros n) 1 1) 0 90) 8 0 ≡ 0)
root_byte n le =
    let none : List ℕ = zeros n in
    let root : List ℕ = set none 1 1 in
    let long : length none ≡ n = length-replicate {A = ℕ} n 0 in
    let size : length root ≡ n = length-set none 1 1 ∙ long in (
      get_or-set_same root 0 90 0 (omega arith),
      get_or-set_other root 0 1 90 0 (omega arith) ∙ get_or-set_same none 1 1 0 (omega arith),
      get_or-set_other root 0 8 90 0 (omega arith) ∙ get_or-set_other none 1 8 1 0 (omega arith) ∙ get_or-replicate n 8 0 0 (omega arith),
    )

root_size : (n : ℕ) → length (set (zeros n) 1 1) ≡ n
root_size n = length-set (zeros n) 1 1 ∙ length-replicate {A = ℕ} n 0

root_page_size : length root_page ≡ 4096
unfolding root_page
root_page_size = root_size 4096

made_bytes : (slice_index made_page 0 ≡ 90) × (slice_index made_page 1 ≡ 1) × (slice_index made_page 8 ≡ 0)
unfolding made_page root_page
made_bytes = root_byte 4096 (omega arith)

-- all that making gives
pub record Made (es : List (ℕ × List ℕ)) (old new : History) : Type 0 where
  pub rests : IsAtRest new 3
  pub durable : (c : List ℕ) → Leaves new c → c ≡ now new
  pub pages : (p : ℕ) → 1 ≤ p → p < 3 → page (now new) p ≡ found p es []
  pub root : page (now new) 0 ≡ made_page
  pub size : length (now new) ≡ max 12288 (length (now old))

-- the file at the end
made_file : (es : List (ℕ × List ℕ)) (size : ℕ) (d c : List ℕ) → is_named 1 es ≡ true → is_named 2 es ≡ true → Placing3 root_page size es [] d → Written 0 (90 ∷ []) d c
    → (page c 0 ≡ made_page) × (length c ≡ max 12288 size) × ((p : ℕ) → 1 ≤ p → p < 3 → page c p ≡ found p es [])
unfolding made_page
made_file es size d c one two placed done =
    let root_in : 4096 ≤ length d = placed.root_in in
    let torn : Torn 0 1 d c = Torn-done 0 (90 ∷ []) d c done in
    let second : 3 * 4096 ≤ length d = (placed.pages 2 two refl).0 in
    let same : length c ≡ max (length d) (0 + 1) = done.size (omega arith) in (
      root_made root_page d c 90 (omega (arith, root_page_size)) placed.first root_in done,
      omega (arith, placed.low, placed.high),
      λ p low high. let named : is_named p es ≡ true = named_either es p one two low high in
          let there = placed.pages p named refl in
          page_kept 0 1 p d c torn there.0 (inr (omega arith)) ∙ there.1,
    )
  where
    named_either : (fs : List (ℕ × List ℕ)) (q : ℕ) → is_named 1 fs ≡ true → is_named 2 fs ≡ true → 1 ≤ q → q < 3 → is_named q fs ≡ true
    named_either fs q first second low high = ⊎_elim (λ is_one. ap (λ (k : ℕ). is_named k fs) is_one ∙ first) (λ other. let is_two : q ≡ 2 = omega arith in ap (λ (k : ℕ). is_named k fs) is_two ∙ second) (cases_eq q 1)

zero_number : number_at [] 0 ≡ 0
unfolding number_at
zero_number = refl

made_all : (es : List (ℕ × List ℕ)) (old new : History) → ((c : List ℕ) → Leaves new c → c ≡ now new) → count_after 0 es ≡ 3 → page (now new) 0 ≡ made_page → length (now new) ≡ max 12288 (length (now old)) → ((p : ℕ) → 1 ≤ p → p < 3 → page (now new) p ≡ found p es []) → Made es old new
made_all es old new durable count root size pages =
    let here : Rests (page (now new)) 3 (now new) = record {
      made = ap (λ (b : ℕ). b == 90) (byte_of_root (now new) made_page 0 (omega arith) root ∙ made_bytes.0);
      format = ap (λ (b : ℕ). b == 1) (byte_of_root (now new) made_page 1 (omega arith) root ∙ made_bytes.1);
      closed = ap (λ (b : ℕ). b == 71) (byte_of_root (now new) made_page 8 (omega arith) root ∙ made_bytes.2);
      whole = omega arith;
      pages = λ p one under. refl;
    } in
    record {
      rests = record {
        rests = record { here = here; left = λ c left. subst (Rests (page (now new)) 3) (sym (durable c left)) here };
        counted = ap (λ (l : List ℕ). number_at l 0) (pages 1 (omega arith) (omega arith)) ∙ count_found es [] 0 zero_number ∙ count;
      };
      durable = durable;
      pages = pages;
      root = root;
      size = size;
    }

pub made_did : (es : List (ℕ × List ℕ)) (old new : History) → are_below 3 es ≡ true → no_page_twice es ≡ true → AreWhole es → is_named 1 es ≡ true → is_named 2 es ≡ true → count_after 0 es ≡ 3 → Did (making root_page es) old new → Made es old new
unfolding making
made_did es old new below once whole one two count did =
    let front = did_split (marking 0) (rooting root_page es ++ marking 90) old new did in
    let back = did_split (rooting root_page es) (marking 90) front.0 new front.2 in
    let first = now_written 0 (0 ∷ []) old front.1.0 front.1.1 in
    let unmade : now front.0 ≡ now front.1.0 = ap now front.1.2 in
    let second : Written 0 root_page (now front.0) (now back.1.0) = now_written 0 root_page front.0 back.1.0 back.1.1 in
    let start : Placing3 root_page (length (now old)) es es (now back.1.0) = placing3_start root_page es (now old) (now front.0) (now back.1.0) root_page_size (subst (λ (l : List ℕ). Written 0 (0 ∷ []) (now old) l) (sym unmade) first) second in
    let placed : Placing3 root_page (length (now old)) es [] (now back.0) = placing3_did root_page (length (now old)) es es back.1.0 back.0 below (rest_all es once whole) start back.1.2 in
    let last : Written 0 (90 ∷ []) (now back.0) (now back.2.0) = now_written 0 (90 ∷ []) back.0 back.2.0 back.2.1 in
    let there : now new ≡ now back.2.0 = ap now back.2.2 in
    let file = made_file es (length (now old)) (now back.0) (now back.2.0) one two placed last in
    made_all es old new (subst (λ (h : History). (c : List ℕ) → Leaves h c → c ≡ now h) (sym back.2.2) (λ c left. left)) count
    (ap (λ (l : List ℕ). page l 0) there ∙ file.0) (ap length there ∙ file.1) (λ p low high. ap (λ (l : List ℕ). page l p) there ∙ file.2 p low high)

-- the same, of what the code has
pub make_given : (ws vs : List PageWrite) (old middle new : History) → vs ≡ ws → middle ≡ old → are_below 3 (entries ws) ≡ true → no_page_twice (entries ws) ≡ true → is_named 1 (entries ws) ≡ true → is_named 2 (entries ws) ≡ true → count_after 0 (entries ws) ≡ 3 → Did (making root_page (entries vs)) middle new → Made (entries ws) old new
make_given ws vs old middle new one told below once first second count did =
    made_did (entries ws) old new below once (whole_entries ws) first second count
    (subst (λ (h : History). Did (making root_page (entries ws)) h new) told (subst (λ (v : List PageWrite). Did (making root_page (entries v)) middle new) one did))

pub make_small : (ws vs : List PageWrite) → vs ≡ ws → are_below 3 (entries ws) ≡ true → no_page_twice (entries ws) ≡ true → All (λ (w : PageWrite). w.page * 4096 < 2 ^ 64) vs
make_small ws vs one below once = subst (λ (v : List PageWrite). All (λ (w : PageWrite). w.page * 4096 < 2 ^ 64) v) (sym one) (all_small 3 ws (omega arith) (and_from (are_below 3 (entries ws)) (no_page_twice (entries ws)) below once))
