-- What a commit is asked for and what it gives, of a batch as it is handed in.
use Rattle.std.proofs.Common.{◌≡◌, ℕ, ◌^◌, ◌<◌, ◌≤◌, inl, inr, max, true, List, [], ◌∷◌, length, sym, ◌∙◌, ap, subst, arith}
use Rattle.std.proofs.lemmas.Bool.{and_from}
use Rattle.std.specs.Prelude.{All}
use Rattle.std.specs.List.{AllByRecursion}
use Rattle.std.proofs.lemmas.Grind.{common_steps}
use Rattle.std.proofs.lemmas.List.Elements.{All-from_recursion}
use Rattle.wm_page.proofs.Batches.{length-entries}
use Rattle.wm_page.specs.Batch.{entries}
use Rattle.wm_page.specs.Entries.{is_named, no_page_twice, found, AreWhole}
use Rattle.wm_page.specs.Fields.{number_at}
use Rattle.wm_page.specs.declared.write.PageWrite.{PageWrite}
use Rattle.wm_station.specs.History.{History, now}
use Rattle.wm_station.specs.Moments.{Holds, Ended}
use Rattle.wm_station.proofs.Steps.{Stage, begun, ended}
use Rattle.wm_journal.specs.Disk.{page, are_below}
use Rattle.wm_journal.specs.Store.{Rests, IsAtRest, OldOrNew, over, count_after, commit_steps}
use Rattle.wm_journal.specs.Writes.{Did, DidPart, committing, journal_bytes}
use Rattle.wm_journal.proofs.AllOrNothing.{commit_did, commit_part}
use Rattle.wm_journal.proofs.Commits.{Commits, Either}
use Rattle.wm_journal.proofs.Names.{below_fit}
use Rattle.wm_journal.proofs.Stored.{rests_stores}

-- what a commit asks
pub record Asked (count : ℕ) (ws : List PageWrite) (old : History) : Type 0 where
  pub some : 0 < length ws
  pub pages : are_below (max count (count_after count (entries ws))) (entries ws) ≡ true
  pub root : 3 ≤ count_after count (entries ws)
  pub grown : (p : ℕ) → count ≤ p → p < count_after count (entries ws) → is_named p (entries ws) ≡ true
  pub distinct : no_page_twice (entries ws) ≡ true
  pub enough : 3 ≤ count
  pub rests : IsAtRest old count

pub whole_entries : (ws : List PageWrite) → AreWhole (entries ws)
whole_entries [] = tt
whole_entries (w ∷ ws) = (w.whole, whole_entries ws)

below_each : (s : ℕ) (ws : List PageWrite) → are_below s (entries ws) ≡ true → AllByRecursion (λ (w : PageWrite). w.page < s) ws
below_each s [] below = tt
below_each s (w ∷ ws) below = (grind (arith, common_steps), below_each s ws (grind (arith, common_steps)))

-- each page is below the journal
pub all_below : (s : ℕ) (ws : List PageWrite) → are_below s (entries ws) ≡ true → All (λ (w : PageWrite). w.page < s) ws
all_below s ws below = All-from_recursion (λ (w : PageWrite). w.page < s) ws (below_each s ws below)

commits : (count : ℕ) (ws : List PageWrite) (old : History) → Asked count ws old → max count (count_after count (entries ws)) < 2 ^ 64 → length ws < 2 ^ 64 → Commits (max count (count_after count (entries ws))) count (count_after count (entries ws)) (entries ws)
commits count ws old asked fits few =
    let es = entries ws in
    let s = max count (count_after count es) in
    record {
      sound = record { low = omega (arith, asked.root); some = omega (arith, asked.some, length-entries ws); names = and_from (are_below s es) (no_page_twice es) asked.pages asked.distinct; whole = whole_entries ws };
      fits = below_fit s es (omega arith) asked.pages;
      start_fits = fits;
      size_fits = omega (arith, length-entries ws);
      low = omega (arith, asked.enough);
      old_below = omega arith;
      new_below = omega arith;
      grown = asked.grown;
    }

-- the steps, as they are told
told : (s : ℕ) (ws : List PageWrite) (bytes : List ℕ) → bytes ≡ journal_bytes (entries ws) → committing s (length ws) bytes (entries ws) ≡ committing s (length (entries ws)) (journal_bytes (entries ws)) (entries ws)
told s ws bytes same = ap (λ (n : ℕ). committing s n bytes (entries ws)) (sym (length-entries ws)) ∙ ap (λ (l : List ℕ). committing s (length (entries ws)) l (entries ws)) same

-- before any step
pub commit_none : (count : ℕ) (ws : List PageWrite) (old : History) → Asked count ws old → Ended old old (OldOrNew (page (now old)) count (entries ws))
commit_none count ws old asked =
    let T = OldOrNew (page (now old)) count (entries ws) in
    let R = Rests (page (now old)) count in
    ended old old T R (begun old T R asked.rests.rests (λ c rests. inl (rests_stores (page (now old)) count c rests))) (λ c rests. inl (rests_stores (page (now old)) count c rests))

-- after a step that failed
pub commit_failed : (count : ℕ) (ws : List PageWrite) (bytes : List ℕ) (old new : History) → Asked count ws old → max count (count_after count (entries ws)) < 2 ^ 64 → length ws < 2 ^ 64 → bytes ≡ journal_bytes (entries ws) → DidPart (committing (max count (count_after count (entries ws))) (length ws) bytes (entries ws)) old new → Ended old new (OldOrNew (page (now old)) count (entries ws))
commit_failed count ws bytes old new asked fits few same did =
    let es = entries ws in
    let s = max count (count_after count es) in
    commit_part s count (count_after count es) es (page (now old)) old new (commits count ws old asked fits few) asked.distinct asked.rests.rests
    (subst (λ (steps : _). DidPart steps old new) (told s ws bytes same) did)

-- the count that page 1 says
pub count_found : (es : List (ℕ × List ℕ)) (x : List ℕ) (count : ℕ) → number_at x 0 ≡ count → number_at (found 1 es x) 0 ≡ count_after count es
count_found [] x count same = same
count_found (e ∷ es) x count same = grind (arith, count_found es x count same)

-- what is at rest
rests_alike : (content : ℕ → List ℕ) (limit : ℕ) (h : History) → Holds h (Rests content limit) → Holds h (Rests (page (now h)) limit)
rests_alike content limit h holds =
    let alike : (c : List ℕ) → Rests content limit c → Rests (page (now h)) limit c = λ c rests. record {
      made = rests.made;
      format = rests.format;
      closed = rests.closed;
      whole = rests.whole;
      pages = λ p one under. rests.pages p one under ∙ sym (holds.here.pages p one under);
    } in
    record { here = alike (now h) holds.here; left = λ c left. alike c (holds.left c left) }

-- what a commit that was done gives
pub record Gave (count : ℕ) (ws : List PageWrite) (old new : History) : Type 0 where
  pub rests : IsAtRest new (count_after count (entries ws))
  pub pages : (p : ℕ) → 1 ≤ p → p < count_after count (entries ws) → page (now new) p ≡ over (entries ws) (page (now old)) p
  pub any_moment : Ended old new (OldOrNew (page (now old)) count (entries ws))

pub commit_done : (count : ℕ) (ws : List PageWrite) (bytes : List ℕ) (old new : History) → Asked count ws old → max count (count_after count (entries ws)) < 2 ^ 64 → length ws < 2 ^ 64 → bytes ≡ journal_bytes (entries ws) → Did (committing (max count (count_after count (entries ws))) (length ws) bytes (entries ws)) old new → Gave count ws old new
commit_done count ws bytes old new asked fits few same did =
    let es = entries ws in
    let s = max count (count_after count es) in
    let content : ℕ → List ℕ = page (now old) in
    let limit = count_after count es in
    let stage : Stage old new (Either content count limit es) (Rests (over es content) limit) =
    commit_did s count limit es content old new (commits count ws old asked fits few) asked.distinct asked.rests.rests (subst (λ (steps : _). Did steps old new) (told s ws bytes same) did) in
    let here : Rests (over es content) limit (now new) = stage.holds.here in
    let root : page (now new) 1 ≡ found 1 es (content 1) = here.pages 1 (omega arith) (omega (arith, asked.root)) in
    record {
      rests = record {
        rests = rests_alike (over es content) limit new stage.holds;
        counted = ap (λ (l : List ℕ). number_at l 0) root ∙ count_found es (content 1) count asked.rests.counted;
      };
      pages = here.pages;
      any_moment = ended old new (Either content count limit es) (Rests (over es content) limit) stage (λ c rests. inr (rests_stores (over es content) limit c rests));
    }

-- the same, of what the code has: the pages, the new count and the journal's page by other names
pub given_done : (count next start : ℕ) (ws vs : List PageWrite) (bytes : List ℕ) (old new : History) → Asked count ws old → vs ≡ ws → next ≡ count_after count (entries vs) → start ≡ max count next → start < 2 ^ 64 → length vs < 2 ^ 64 → bytes ≡ journal_bytes (entries vs) → Did (committing start (length vs) bytes (entries vs)) old new → Gave count ws old new
given_done count next start ws vs bytes old new asked one two three fits few same did =
    let place : start ≡ max count (count_after count (entries ws)) = three ∙ ap (max count) (two ∙ ap (λ (v : List PageWrite). count_after count (entries v)) one) in
    commit_done count ws bytes old new asked (subst (λ (k : ℕ). k < 2 ^ 64) place fits) (subst (λ (v : List PageWrite). length v < 2 ^ 64) one few) (same ∙ ap (λ (v : List PageWrite). journal_bytes (entries v)) one)
    (subst (λ (k : ℕ). Did (committing k (length ws) bytes (entries ws)) old new) place (subst (λ (v : List PageWrite). Did (committing start (length v) bytes (entries v)) old new) one did))

pub given_part : (count next start : ℕ) (ws vs : List PageWrite) (bytes : List ℕ) (old new : History) → Asked count ws old → vs ≡ ws → next ≡ count_after count (entries vs) → start ≡ max count next → start < 2 ^ 64 → length vs < 2 ^ 64 → bytes ≡ journal_bytes (entries vs) → DidPart (committing start (length vs) bytes (entries vs)) old new → Ended old new (OldOrNew (page (now old)) count (entries ws))
given_part count next start ws vs bytes old new asked one two three fits few same did =
    let place : start ≡ max count (count_after count (entries ws)) = three ∙ ap (max count) (two ∙ ap (λ (v : List PageWrite). count_after count (entries v)) one) in
    commit_failed count ws bytes old new asked (subst (λ (k : ℕ). k < 2 ^ 64) place fits) (subst (λ (v : List PageWrite). length v < 2 ^ 64) one few) (same ∙ ap (λ (v : List PageWrite). journal_bytes (entries v)) one)
    (subst (λ (k : ℕ). DidPart (committing k (length ws) bytes (entries ws)) old new) place (subst (λ (v : List PageWrite). DidPart (committing start (length v) bytes (entries v)) old new) one did))

pub given_steps : (count next start : ℕ) (ws vs : List PageWrite) (bytes : List ℕ) → vs ≡ ws → next ≡ count_after count (entries vs) → start ≡ max count next → bytes ≡ journal_bytes (entries vs) → committing start (length vs) bytes (entries vs) ≡ commit_steps count (entries ws)
given_steps count next start ws vs bytes one two three same =
    let place : start ≡ max count (count_after count (entries vs)) = three ∙ ap (max count) two in
    ap (λ (k : ℕ). committing k (length vs) bytes (entries vs)) place ∙ told (max count (count_after count (entries vs))) vs bytes same ∙ ap (λ (v : List PageWrite). commit_steps count (entries v)) one
