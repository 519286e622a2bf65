-- What a frozen workspace allows.
use Rattle.std.specs.Prelude.{ℕ, Bool, true, false, not, ◌||◌, List, [], Option, None, Some, codes}
use Rattle.std.specs.Str.{bytes_eq}
use Rattle.wm_guard.specs.declared.access.Class.{Class}
use Rattle.wm_guard.specs.declared.access.Class.TheVariants.{Enter, Write, Manage}
use Rattle.wm_guard.specs.declared.access.Hold as declared
use Rattle.wm_guard.specs.declared.access.Hold.TheVariants as holds
use Rattle.wm_spec.specs.declared.record.space.FreezeMode.{FreezeMode}
use Rattle.wm_spec.specs.declared.record.space.FreezeMode.TheVariants as modes

-- how a workspace is frozen, or that it is free; for one writer alone, a user, or for the session alone that froze it
pub data Hold : Type 0 where
  Free : Hold
  NoAccess : Hold
  ReadOnly : Hold
  OneWriter : (user : List ℕ) → Hold
  OneSession : (session : List ℕ) → Hold
  WmOnly : Hold

abbrev pub hold_view : declared.Hold → Hold
hold_view holds.Free = Free
hold_view holds.NoAccess = NoAccess
hold_view holds.ReadOnly = ReadOnly
hold_view (holds.OneWriter user) = OneWriter user.now
hold_view (holds.OneSession session) = OneSession session.now
hold_view holds.WmOnly = WmOnly

-- ---- what it allows

abbrev pub enters : Class → Bool
enters Enter = true
enters Write = false
enters Manage = false

abbrev pub writes : Class → Bool
writes Enter = false
writes Write = true
writes Manage = false

-- the table of the modes: whether a session of a user may do what is of a class
abbrev pub allows : Hold → Class → (user session : List ℕ) → Bool
allows Free class user session = true
allows NoAccess class user session = false
allows ReadOnly class user session = enters class
allows (OneWriter writer) class user session = enters class || bytes_eq writer user
allows (OneSession holder) class user session = enters class || bytes_eq holder session
allows WmOnly class user session = not (writes class)

-- the word of a mode
abbrev pub word_of : Hold → List ℕ
word_of Free = []
word_of NoAccess = codes "NO_ACCESS"
word_of ReadOnly = codes "READ_ONLY"
word_of (OneWriter user) = codes "1WRITER"
word_of (OneSession session) = codes "1WRITER_SESSION"
word_of WmOnly = codes "WM_ONLY"

-- ---- how a workspace is held

abbrev pub hold_kept : FreezeMode → List ℕ → Hold
hold_kept modes.Free writer = Free
hold_kept modes.NoAccess writer = NoAccess
hold_kept modes.ReadOnly writer = ReadOnly
hold_kept modes.OneWriter writer = OneWriter writer
hold_kept modes.WmOnly writer = WmOnly

-- by the session that froze it for itself, if one did, and else by the mode that is kept, with its writer
abbrev pub held_by : Option (List ℕ) → FreezeMode → List ℕ → Hold
held_by None mode writer = hold_kept mode writer
held_by (Some session) mode writer = OneSession session

abbrev pub is_free : Hold → Bool
is_free Free = true
is_free hold = false

-- ---- how one is to be held

-- what is kept of it: nothing where it is held by a session
abbrev pub mode_of : Hold → FreezeMode
mode_of Free = modes.Free
mode_of NoAccess = modes.NoAccess
mode_of ReadOnly = modes.ReadOnly
mode_of (OneWriter user) = modes.OneWriter
mode_of (OneSession session) = modes.Free
mode_of WmOnly = modes.WmOnly

abbrev pub writer_of : Hold → List ℕ
writer_of (OneWriter user) = user
writer_of hold = []

-- LIVE may be held so
abbrev pub suits_live : Hold → Bool
suits_live ReadOnly = true
suits_live (OneWriter user) = true
suits_live hold = false
