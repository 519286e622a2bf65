-- What was read of page 0.
use Rattle.std.specs.Prelude.{◌≡◌, ◌≤◌, true, ℕ, List, length}
use Rattle.wm_journal.specs.Disk.{is_made, has_format, is_open, journal_page, journal_size}
use Rattle.wm_journal.specs.declared.header.Header.{Header}

-- a made file of this format, whose fields these are
pub record IsHeader (h : Header) (file : List ℕ) : Type 0 where
  pub made : is_made file ≡ true
  pub format : has_format file ≡ true
  pub size : 4096 ≤ length file
  pub open_ : h.open ≡ is_open file
  pub start : h.start ≡ journal_page file
  pub images : h.images ≡ journal_size file
