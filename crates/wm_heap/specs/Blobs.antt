-- What is to become of the bytes under some ids.
use Rattle.std.specs.Prelude.{◌≡◌, ℕ, ◌<◌, ◌≤◌, ◌⊎◌, Bool, true, not, ◌||◌, ◌==◌, if◌then◌else◌, List, [], ◌∷◌, ◌++◌, map, length, slice_index, Option, Some, None, is_some, IfSome}
use Rattle.std.specs.Bool.{beq}
use Rattle.std.specs.List.{list_any}
use Rattle.std.specs.Option.{option_eq}
use Rattle.std.specs.Str.{bytes_eq}
use Rattle.wm_spec.specs.Records.{ids_differ}
use Rattle.wm_heap.specs.declared.blob.Blob.{Blob}
use Rattle.wm_heap.specs.declared.heap.Read.{Read}
use Rattle.wm_heap.specs.declared.slot.Slot.{Slot}
use Rattle.wm_heap.specs.Content.{slots_in}

-- what is said of an id: nothing, or its bytes, which may be none
abbrev pub blob_at : List Blob → ℕ → Option (Option (List ℕ))
blob_at [] id = None
blob_at (b ∷ blobs) id = if b.id == id then Some b.bytes else blob_at blobs id

-- what stands under an id after a change of it
abbrev pub after : {A : Type 0} → Option (Option A) → Option A → Option A
after None kept = kept
after (Some becomes) kept = becomes

-- no id stands twice
abbrev pub AreBlobs : List Blob → Type 0
AreBlobs blobs = ids_differ (map (λ (b : Blob). b.id) blobs) ≡ true

-- the bytes of each fit one page
abbrev pub AreSmall : List Blob → Type 0
AreSmall [] = Unit {0}
AreSmall (b ∷ blobs) = IfSome b.bytes (λ bytes. length bytes ≤ 4084) × AreSmall blobs

-- the slot of an id, where it has bytes
abbrev pub slots_of_bytes : ℕ → Option (List ℕ) → List Slot
slots_of_bytes id None = []
slots_of_bytes id (Some bytes) = (record { id = id; bytes = bytes }) ∷ []

-- the slots of those that put bytes, in order
abbrev pub slots_put : List Blob → List Slot
slots_put [] = []
slots_put (b ∷ blobs) = slots_of_bytes b.id b.bytes ++ slots_put blobs

-- one of them puts bytes, or drops some that are there
abbrev pub change_something : (ℕ → Bool) → List Blob → Bool
change_something there blobs = list_any (λ b. is_some b.bytes || there b.id) blobs

-- a blob puts bytes under an id that has none, or drops some that are there
abbrev pub moves : (ℕ → Bool) → Blob → Bool
moves there b = not (beq (is_some b.bytes) (there b.id))

-- a blob says something else than stands under its id
abbrev pub alters : (ℕ → Option (List ℕ)) → Blob → Bool
alters standing b = not (option_eq bytes_eq (standing b.id) b.bytes)

-- some of the blobs, in order
abbrev pub AreSomeOf : List Blob → List Blob → Type 0
AreSomeOf [] blobs = Unit {0}
AreSomeOf (s ∷ some) [] = ⊥
AreSomeOf (s ∷ some) (b ∷ blobs) = ((s ≡ b) × AreSomeOf some blobs) ⊎ AreSomeOf (s ∷ some) blobs

-- each item is a byte, where there are some
abbrev pub AreBytes : Option (List ℕ) → Type 0
AreBytes None = Unit {0}
AreBytes (Some bytes) = (i : ℕ) → slice_index bytes i < 256

-- what stands under the id of each of them that puts bytes are bytes
abbrev pub OverBytes : (ℕ → Option (List ℕ)) → List Blob → Type 0
OverBytes standing [] = Unit {0}
OverBytes standing (b ∷ blobs) = (is_some b.bytes ≡ true → AreBytes (standing b.id)) × OverBytes standing blobs

-- the page that was read last, if any, has these slots
abbrev pub WasRead : Option Read → (ℕ → List ℕ) → Type 0
WasRead last held = IfSome last (λ read. read.slots ≡ slots_in held read.page)
