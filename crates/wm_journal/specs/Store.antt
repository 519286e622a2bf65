-- Files that hold the pages of a store.
use Rattle.std.specs.Prelude.{◌≡◌, ℕ, max, ◌*◌, ◌/◌, ◌<◌, ◌≤◌, ◌⊎◌, true, false, List, length, slice_index, ◌==◌, if◌then◌else◌, [], ◌∷◌, slice_set}
use Rattle.wm_page.specs.Entries.{found}
use Rattle.wm_page.specs.Fields.{number_at}
use Rattle.wm_journal.specs.Disk.{page, is_made, has_format, is_open, is_in_order, held, damage_of}
use Rattle.wm_journal.specs.Writes.{Step, root_page, journal_bytes, committing}
use Rattle.wm_station.specs.History.{History, Synced, now}
use Rattle.wm_station.specs.Moments.{During, Holds, Silent}

-- the file is a store that opening finds to hold these pages, from page 1 to before the limit
pub record Stores (content : ℕ → List ℕ) (limit : ℕ) (file : List ℕ) : Type 0 where
  pub made : is_made file ≡ true
  pub format : has_format file ≡ true
  pub order : is_open file ≡ true → is_in_order file ≡ true
  pub whole : limit * 4096 ≤ length file
  pub pages : (p : ℕ) → 1 ≤ p → p < limit → held file p ≡ content p

-- the same, with the gate closed, so that the pages stand in their places
pub record Rests (content : ℕ → List ℕ) (limit : ℕ) (file : List ℕ) : Type 0 where
  pub made : is_made file ≡ true
  pub format : has_format file ≡ true
  pub closed : is_open file ≡ false
  pub whole : limit * 4096 ≤ length file
  pub pages : (p : ℕ) → 1 ≤ p → p < limit → page file p ≡ content p

-- what a read gives and each file that a crash may leave are closed stores with the same pages, as many as the count tells
pub record IsAtRest (h : History) (count : ℕ) : Type 0 where
  pub rests : Holds h (Rests (page (now h)) count)
  pub counted : number_at (page (now h) 1) 0 ≡ count

-- nothing was done; or there was a sync first, and each crash behind it leaves a file that has P, with nothing more said
abbrev pub Settles : History → History → (List ℕ → Type 0) → Type 0
Settles old new P = (new ≡ old) ⊎ During (Synced old) new (Silent old P)

-- the pages with a batch over them
abbrev pub over : List (ℕ × List ℕ) → (ℕ → List ℕ) → ℕ → List ℕ
over es content p = found p es (content p)

-- the page count after a batch: what page 1 in it says, or else as before
abbrev pub count_after : ℕ → List (ℕ × List ℕ) → ℕ
count_after count [] = count
count_after count (e ∷ es) = if 1 == e.0 then number_at e.1 0 else count_after count es

-- what a commit writes over so many pages, with its journal behind the old pages and the new
abbrev pub commit_steps : ℕ → List (ℕ × List ℕ) → List Step
commit_steps count es = committing (max count (count_after count es)) (length es) (journal_bytes es) es

-- all old pages, or all new ones
abbrev pub OldOrNew : (ℕ → List ℕ) → ℕ → List (ℕ × List ℕ) → List ℕ → Type 0
OldOrNew content count es file = Stores content count file ⊎ Stores (over es content) (count_after count es) file

-- the file says what the old one says: whether a store was made, the first test that fails, and each page whole in the file
pub record Keeps (old file : List ℕ) : Type 0 where
  pub made : slice_index file 0 ≡ slice_index old 0
  pub damage : damage_of file ≡ damage_of old
  pub size : length file ≡ length old
  pub pages : (p : ℕ) → 1 ≤ p → p < length old / 4096 → held file p ≡ held old p

-- page 0 of a store that was made
unfoldable pub made_page : List ℕ
made_page = slice_set root_page 0 0x5A
