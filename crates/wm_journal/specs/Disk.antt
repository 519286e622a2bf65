-- What the bytes of a file say: its pages, its journal, and the pages that it holds.
use Rattle.std.specs.Prelude.{ℕ, zero, suc, ◌+◌, ◌*◌, ◌/◌, Bool, true, not, ◌&&◌, ◌==◌, nat_lt, nat_le, if◌then◌else◌, List, [], ◌∷◌, length, slice_index, Option, Some, None}
use Rattle.wm_faults.specs.declared.fault.Damage.{Damage}
use Rattle.wm_faults.specs.declared.fault.Damage.TheVariants.{Short, Format, Journal, Root}
use Rattle.wm_page.specs.Entries.{no_page_twice, found}
use Rattle.wm_page.specs.Fields.{number_at}
use Rattle.wm_station.specs.History.{stretch}

-- page p of a file
unfoldable pub page : List ℕ → ℕ → List ℕ
page file p = stretch file (p * 4096) 4096

-- byte 0 says that a store was made here
abbrev pub is_made : List ℕ → Bool
is_made file = slice_index file 0 == 0x5A

-- byte 1 is the format
abbrev pub has_format : List ℕ → Bool
has_format file = slice_index file 1 == 1

-- byte 8 is the gate of the journal
abbrev pub is_open : List ℕ → Bool
is_open file = slice_index file 8 == 0x47

-- the first page of the journal
abbrev pub journal_page : List ℕ → ℕ
journal_page file = number_at file 16

-- how many pages the journal has images of
abbrev pub journal_size : List ℕ → ℕ
journal_size file = number_at file 24

-- how many pages the numbers of so many pages take
abbrev pub directory_pages : ℕ → ℕ
directory_pages n = (n + 511) / 512

-- n pages, with their numbers from one place on and their images from another
unfoldable pub images_at : List ℕ → ℕ → ℕ → ℕ → List (ℕ × List ℕ)
images_at file zero numbers images = []
images_at file (suc n) numbers images = (number_at file numbers, stretch file images 4096) ∷ images_at file n (numbers + 8) (images + 4096)

-- a journal of n pages that begins at page s
abbrev pub journal_at : List ℕ → ℕ → ℕ → List (ℕ × List ℕ)
journal_at file s n = images_at file n (s * 4096) ((s + directory_pages n) * 4096)

-- the pages that the journal has, with their images
abbrev pub journal : List ℕ → List (ℕ × List ℕ)
journal file = journal_at file (journal_page file) (journal_size file)

-- each page is at least 1 and below s
abbrev pub are_below : ℕ → List (ℕ × List ℕ) → Bool
are_below s [] = true
are_below s (e ∷ es) = nat_lt 0 e.0 && nat_lt e.0 s && are_below s es

-- pages that a journal at page s may name
abbrev pub may_name : ℕ → List (ℕ × List ℕ) → Bool
may_name s es = are_below s es && no_page_twice es

-- the fields of the journal are in order
unfoldable pub is_in_order : List ℕ → Bool
is_in_order file =
    let s = journal_page file in
    let n = journal_size file in
    nat_le 2 s && nat_lt 0 n && nat_le ((s + directory_pages n + n) * 4096) (length file) && may_name s (journal file)

-- the page that a file holds: with the journal's images over what stands there, where the gate is open
unfoldable pub held : List ℕ → ℕ → List ℕ
held file p = if is_open file then found p (journal file) (page file p) else page file p

-- how many pages are in use
abbrev pub count_of : List ℕ → ℕ
count_of file = number_at (held file 1) 0

-- the first test of opening on pages 0 and 1 that fails, with the page
unfoldable pub damage_of : List ℕ → Option (ℕ × Damage)
damage_of file =
    if nat_lt (length file) 4096 then Some (0, Short) else
    if not (has_format file) then Some (0, Format) else
    if is_open file && not (is_in_order file) then Some (0, Journal) else
    if nat_lt (length file) 8192 then Some (1, Short) else
    if nat_lt (count_of file) 3 then Some (1, Root) else
    None
