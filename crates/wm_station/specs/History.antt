-- What a station did, and what that says of its file and of the bytes said, now and after a crash.
use Rattle.std.specs.Prelude.{◌≡◌, ℕ, ◌+◌, ◌<◌, ◌≤◌, suc, max, ◌⊎◌, List, [], ◌++◌, length, take, drop}

-- the n bytes from this place on
unfoldable pub stretch : List ℕ → ℕ → ℕ → List ℕ
stretch xs at n = take n (drop at xs)

-- after a write of n bytes that may have been cut short: any bytes in the range and past the old end, the same elsewhere
pub record Torn (at n : ℕ) (old new : List ℕ) : Type 0 where
  pub same : (a m : ℕ) → a + m ≤ length old → (a + m ≤ at) ⊎ (at + n ≤ a) → stretch new a m ≡ stretch old a m
  pub no_shorter : length old ≤ length new
  pub no_longer : length new ≤ max (length old) (at + n)

-- after a write that succeeded: these bytes in the range, the same elsewhere in the old file; nothing changes where there are none
pub record Written (at : ℕ) (bytes old new : List ℕ) : Type 0 where
  pub here : stretch new at (length bytes) ≡ bytes
  pub same : (a m : ℕ) → a + m ≤ length old → (a + m ≤ at) ⊎ (at + length bytes ≤ a) → stretch new a m ≡ stretch old a m
  pub size : 0 < length bytes → length new ≡ max (length old) (at + length bytes)
  pub nothing : length bytes ≡ 0 → length new ≡ length old

pub data History : Type 0 where
  -- a file with this content, all of it on the disk, and nothing said
  Begin : (image : List ℕ) → History
  -- a write to n bytes, after which a read gives this image
  Wrote : (before : History) (at n : ℕ) (image : List ℕ) → History
  Synced : (before : History) → History
  -- the first n bytes of the piece were said
  Said : (before : History) (piece : List ℕ) (n : ℕ) → History

-- what a read gives
abbrev pub now : History → List ℕ
now (Begin image) = image
now (Wrote h at n image) = image
now (Synced h) = now h
now (Said h piece n) = now h

-- the bytes said
abbrev pub said : History → List ℕ
said (Begin image) = []
said (Wrote h at n image) = said h
said (Synced h) = said h
said (Said h piece n) = said h ++ take n piece

-- the time on the station's clock
abbrev pub moment : History → ℕ
moment (Begin image) = 0
moment (Wrote h at n image) = suc (moment h)
moment (Synced h) = suc (moment h)
moment (Said h piece n) = suc (moment h)

-- a crash at this moment may leave this file
abbrev pub Leaves : History → List ℕ → Type 0
Leaves (Begin image) c = c ≡ image
Leaves (Wrote h at n image) c = (d : List ℕ) × Leaves h d × Torn at n d c
Leaves (Synced h) c = c ≡ now h
Leaves (Said h piece n) c = Leaves h c

-- a crash within the last call may leave this file with these bytes said, where that is not among what one after it may leave
abbrev pub Within : History → List ℕ → List ℕ → Type 0
Within (Begin image) c s = ⊥
Within (Wrote h at n image) c s = ⊥
Within (Synced h) c s = ⊥
Within (Said h piece n) c s = Leaves h c × ((k : ℕ) × (k ≤ length piece) × (s ≡ said h ++ take k piece))

-- a crash at a moment since t may leave this file with these bytes said
abbrev pub Since : History → ℕ → List ℕ → List ℕ → Type 0
Since (Begin image) t c s = (t ≤ 0) × (c ≡ image) × (s ≡ [])
Since (Wrote h at n image) t c s = ((t ≤ suc (moment h)) × Leaves (Wrote h at n image) c × (s ≡ said h)) ⊎ Since h t c s
Since (Synced h) t c s = ((t ≤ suc (moment h)) × (c ≡ now h) × (s ≡ said h)) ⊎ Since h t c s
Since (Said h piece n) t c s = ((t ≤ suc (moment h)) × Leaves h c × (s ≡ said h ++ take n piece)) ⊎ (((t ≤ moment h) × Within (Said h piece n) c s) ⊎ Since h t c s)

-- what a write that succeeded did
pub record DidWrite (at : ℕ) (bytes : List ℕ) (old new : History) : Type 0 where
  pub image : List ℕ
  pub told : new ≡ Wrote old at (length bytes) image
  pub written : Written at bytes (now old) image

-- what one that failed may have done
abbrev pub MayHaveWritten : ℕ → ℕ → History → History → Type 0
MayHaveWritten at n old new = (new ≡ old) ⊎ ((image : List ℕ) × (new ≡ Wrote old at n image) × Torn at n (now old) image)

-- what a say that failed may have done
abbrev pub MayHaveSaid : List ℕ → History → History → Type 0
MayHaveSaid piece old new = (new ≡ old) ⊎ (new ≡ Said old piece 0)
