-- The changes of a batch, each record spelled in bytes.
use Rattle.std.specs.Prelude.{◌≤◌, List, [], ◌∷◌, map, length, IfSome}
use Rattle.std.specs.Option.{option_map}
use Rattle.wm_spec.specs.declared.record.batch.Change.{Change}
use Rattle.wm_codec.specs.Spelling.{CanSpell, HasSpelling, spelling}
use Rattle.wm_heap.specs.declared.blob.Blob.{Blob}

-- each record has a spelling of at most 4,084 bytes, so that it fits one page
abbrev pub FitPages : List Change → Type 0
FitPages [] = Unit {0}
FitPages (c ∷ changes) = IfSome c.becomes (λ r. CanSpell r × (length (spelling r) ≤ 4084)) × FitPages changes

-- the same once they were spelled: each of their numbers fits its bytes too
abbrev pub HaveSpellings : List Change → Type 0
HaveSpellings [] = Unit {0}
HaveSpellings (c ∷ changes) = IfSome c.becomes (λ r. HasSpelling r × (length (spelling r) ≤ 4084)) × HaveSpellings changes

abbrev pub blob_of : Change → Blob
blob_of c = record { id = c.id; bytes = option_map spelling c.becomes }

-- what the heap is to put and drop
abbrev pub blobs_of : List Change → List Blob
blobs_of changes = map blob_of changes
