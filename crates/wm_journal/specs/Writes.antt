-- Writes and syncs in order, as data.
use Rattle.std.specs.Prelude.{◌≡◌, ℕ, ◌-◌, ◌*◌, ◌⊎◌, List, [], ◌∷◌, ◌++◌, length, replicate, slice_set}
use Rattle.std.specs.List.{flat_map}
use Rattle.wm_page.specs.Fields.{eight_bytes}
use Rattle.wm_journal.specs.Disk.{directory_pages}
use Rattle.wm_station.specs.History.{History, Synced, DidWrite, MayHaveWritten}

pub data Step : Type 0 where
  Write : (at : ℕ) (bytes : List ℕ) → Step
  Sync : Step

-- these steps were done, one after another
abbrev pub Did : List Step → History → History → Type 0
Did [] old new = new ≡ old
Did (Write at bytes ∷ steps) old new = (middle : History) × DidWrite at bytes old middle × Did steps middle new
Did (Sync ∷ steps) old new = Did steps (Synced old) new

-- the first of these steps were done, and the next one, if any, failed
abbrev pub DidPart : List Step → History → History → Type 0
DidPart [] old new = new ≡ old
DidPart (Write at bytes ∷ steps) old new = MayHaveWritten at (length bytes) old new ⊎ ((middle : History) × DidWrite at bytes old middle × DidPart steps middle new)
DidPart (Sync ∷ steps) old new = (new ≡ old) ⊎ DidPart steps (Synced old) new

-- each page in its place, and a sync
abbrev pub placing : List (ℕ × List ℕ) → List Step
placing [] = Sync ∷ []
placing (e ∷ es) = Write (e.0 * 4096) e.1 ∷ placing es

-- the gate byte, and a sync
abbrev pub gating : ℕ → List Step
gating byte = Write 8 (byte ∷ []) ∷ Sync ∷ []

-- the bytes of a journal: the numbers of its pages, up to the end of a page, and then their images
abbrev pub numbers_of : List (ℕ × List ℕ) → List ℕ
numbers_of es = flat_map (λ e. eight_bytes e.0) es

abbrev pub images_of : List (ℕ × List ℕ) → List ℕ
images_of es = flat_map (λ e. e.1) es

unfoldable pub journal_bytes : List (ℕ × List ℕ) → List ℕ
journal_bytes es = numbers_of es ++ replicate (directory_pages (length es) * 4096 - length es * 8) 0 ++ images_of es

-- a journal of n pages at page s, its fields on page 0, and a sync
unfoldable pub arming : ℕ → ℕ → List ℕ → List Step
arming s n bytes = Write (s * 4096) bytes ∷ Write 16 (eight_bytes s ++ eight_bytes n) ∷ Sync ∷ []

-- the journal, the gate opened, the pages in their places, the gate closed
unfoldable pub committing : ℕ → ℕ → List ℕ → List (ℕ × List ℕ) → List Step
committing s n bytes es = arming s n bytes ++ (gating 0x47 ++ (placing es ++ gating 0))

-- page 0 with the format and nothing else, as it is written before a store is made
unfoldable pub root_page : List ℕ
root_page = slice_set (replicate 4096 0) 1 1

-- byte 0, and a sync
abbrev pub marking : ℕ → List Step
marking byte = Write 0 (byte ∷ []) ∷ Sync ∷ []

-- page 0 and the others in their places
abbrev pub rooting : List ℕ → List (ℕ × List ℕ) → List Step
rooting root es = Write 0 root ∷ placing es

-- byte 0 closed, all pages in their places, byte 0 made
unfoldable pub making : List ℕ → List (ℕ × List ℕ) → List Step
making root es = marking 0 ++ (rooting root es ++ marking 0x5A)
