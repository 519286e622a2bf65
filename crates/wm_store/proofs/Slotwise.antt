-- One slot after another is read, and one change after another is spelled.
use Rattle.std.proofs.Common.{◌≡◌, ℕ, ◌+◌, ◌<◌, ◌≤◌, ◌↔◌, List, [], ◌∷◌, ◌++◌, length, get_or, take, drop, Option, Some, None, IfSome, refl, sym, ap, subst, ◌∙◌}
use Rattle.std.proofs.lemmas.List.{take_more, drop_more}
use Rattle.wm_spec.specs.declared.record.Record.{Record}
use Rattle.wm_spec.specs.declared.record.stored.Stored.{Stored}
use Rattle.wm_spec.specs.declared.record.batch.Change.{Change}
use Rattle.wm_codec.specs.Reading.{record_of}
use Rattle.wm_codec.specs.Spelling.{CanSpell, HasSpelling, spelling}
use Rattle.wm_codec.proofs.Exact.{IsBytes}
use Rattle.wm_codec.proofs.ExactRecords.{record_takes, record_again}
use Rattle.wm_heap.specs.declared.blob.Blob.{Blob}
use Rattle.wm_heap.specs.declared.slot.Slot.{Slot}
use Rattle.wm_store.specs.Opened.{records_in, are_records}
use Rattle.wm_store.specs.Spelled.{FitPages, HaveSpellings, blob_of, blobs_of}

-- what is decoded is the record that the bytes spell
pub decoded : (found : Option Record) (bytes : List ℕ) → IsBytes bytes → ((it : Record) → (found ≡ Some it) ↔ (HasSpelling it × (bytes ≡ spelling it))) → found ≡ record_of bytes
decoded (Some r) bytes fits iff = let t = (iff r).0 refl in sym (ap record_of t.1 ∙ record_again r t.0)
decoded None bytes fits iff = by_case (record_of bytes) refl
  where
    by_case : (o : Option Record) → record_of bytes ≡ o → None ≡ o
    by_case None e = refl
    by_case (Some r) e = (iff r).1 (record_takes bytes r fits e)

-- the records of the slots up to the rest
pub record ReadSlots (old now : List Stored) (slots rest : List Slot) : Type 0 where
  pub are : are_records rest ≡ are_records slots
  pub read : now ++ records_in rest ≡ old ++ records_in slots

-- ---- changes spelled

HaveSpellings-push : (changes : List Change) (c : Change) → HaveSpellings changes → IfSome c.becomes (λ r. HasSpelling r × (length (spelling r) ≤ 4084)) → HaveSpellings (changes ++ c ∷ [])
HaveSpellings-push [] c all one = (one, tt)
HaveSpellings-push (d ∷ changes) c all one = (all.0, HaveSpellings-push changes c all.1 one)

blobs_of-push : (changes : List Change) (c : Change) → blobs_of (changes ++ c ∷ []) ≡ blobs_of changes ++ blob_of c ∷ []
blobs_of-push [] c = refl
blobs_of-push (d ∷ changes) c = ap (λ l. blob_of d ∷ l) (blobs_of-push changes c)

pub record Spelling (blobs : List Blob) (changes : List Change) (i : ℕ) : Type 0 where
  pub fit : FitPages (drop i changes)
  pub blobs_are : blobs ≡ blobs_of (take i changes)
  pub spelled : HaveSpellings (take i changes)

pub spell_fits : (changes : List Change) (i : ℕ) (c : Change) → i < length changes → c ≡ get_or changes i c → FitPages (drop i changes) → IfSome c.becomes (λ r. CanSpell r × (length (spelling r) ≤ 4084))
spell_fits changes i c within is fit =
    let at_i : drop i changes ≡ c ∷ drop (i + 1) changes = drop_more changes i c within ∙ ap (λ x. x ∷ drop (i + 1) changes) (sym is) in
    let all : FitPages (c ∷ drop (i + 1) changes) = subst FitPages at_i fit in
    all.0

pub spell_more : (blobs new : List Blob) (changes : List Change) (i : ℕ) (c : Change) (b : Blob) → i < length changes → c ≡ get_or changes i c → Spelling blobs changes i → b ≡ blob_of c → new ≡ blobs ++ b ∷ []
    → IfSome c.becomes (λ r. HasSpelling r × (length (spelling r) ≤ 4084)) → Spelling new changes (i + 1)
spell_more blobs new changes i c b within is so_far b_is pushed one =
    let at_i : drop i changes ≡ c ∷ drop (i + 1) changes = drop_more changes i c within ∙ ap (λ x. x ∷ drop (i + 1) changes) (sym is) in
    let up_to : take (i + 1) changes ≡ take i changes ++ c ∷ [] = take_more changes i c within ∙ ap (λ x. take i changes ++ x ∷ []) (sym is) in
    let all : FitPages (c ∷ drop (i + 1) changes) = subst FitPages at_i so_far.fit in
    record {
      fit = all.1;
      blobs_are = pushed ∙ ap (λ l. l ++ b ∷ []) so_far.blobs_are ∙ ap (λ x. blobs_of (take i changes) ++ x ∷ []) b_is ∙ sym (blobs_of-push (take i changes) c) ∙ ap blobs_of (sym up_to);
      spelled = subst HaveSpellings (sym up_to) (HaveSpellings-push (take i changes) c so_far.spelled one);
    }
