-- What a commit makes of the records that an engine keeps over its store.
use Rattle.std.proofs.Common.{◌≡◌, ℕ, List, [], ◌⊎◌, inl, inr, ap, sym, ◌∙◌, refl, suc, true, false, ◌==◌, ◌∷◌, length, arith}
use Rattle.wm_spec.specs.Records.{AreChanges, AfterBatch}
use Rattle.wm_spec.specs.declared.record.batch.Change.{Change}
use Rattle.wm_spec.specs.declared.record.stored.Stored.{Stored}
use Rattle.wm_state.specs.ById.{by_id, applied}
use Rattle.wm_state.proofs.Batches.{after_batch}
use Rattle.wm_station.specs.History.{History, now}
use Rattle.wm_station.specs.Moments.{Holds, Ended, Silent}
use Rattle.wm_station.proofs.Steps.{during_begun, weaken}
use Rattle.wm_store.specs.Opened.{Held}
use Rattle.wm_store.specs.Stores.{IsStoreOf, OldOrAfter}
use Rattle.wm_store.specs.declared.store.Store.{Store}
use Rattle.wm_store.proofs.Distinct.{held_differ}
use Rattle.wm_engine.specs.Working.{HoldsSorted, KeepsOver}
use Rattle.std.proofs.lemmas.Bool.Decides.{nat_tests}

-- what is said of a run of calls with less said of its files
pub ended_weaken : (old new : History) (P Q : List ℕ → Type 0) → ((file : List ℕ) → P file → Q file) → Ended old new P → Ended old new Q
ended_weaken old new P Q to ended = record {
  during = weaken old new (Silent old P) (Silent old Q) (λ c s p. (to c p.0, p.1)) ended.during;
  here = to (now new) ended.here;
  quiet = ended.quiet;
}

-- a call that did nothing
pub ended_begun : (h : History) (T : List ℕ → Type 0) → Holds h T → Ended h h T
ended_begun h T holds = record {
  during = during_begun h (Silent h T) (λ c leaves. (holds.left c leaves, refl));
  here = holds.here;
  quiet = refl;
}

-- what holds of each file, with less said of it
pub holds_weaken : (h : History) (P Q : List ℕ → Type 0) → ((file : List ℕ) → P file → Q file) → Holds h P → Holds h Q
holds_weaken h P Q to holds = record { here = to (now h) holds.here; left = λ c leaves. to c (holds.left c leaves) }

-- records after a batch, in the order of their ids
sorted_after : (rs old new : List Stored) (cs : List Change) (file here : List ℕ) → rs ≡ by_id old → Held old here → AreChanges cs → AfterBatch old cs new → Held new file → HoldsSorted file (applied cs rs)
sorted_after rs old new cs file here same held once after holds = record {
  records = new;
  held = holds;
  same = ap (applied cs) same ∙ sym (after_batch old new cs (held_differ old here held) (held_differ new file holds) once after);
}

-- a read after a commit, and each file that a crash since its start may leave, holds the old records or the new ones
pub commit_ended : (store : Store) (rs : List Stored) (cs : List Change) (old new : History) → KeepsOver store rs old → AreChanges cs
    → ((records : List Stored) → Held records (now old) → Ended old new (OldOrAfter records cs)) → Ended old new (λ file. HoldsSorted file rs ⊎ HoldsSorted file (applied cs rs))
commit_ended store rs cs old new works once ended =
    ended_weaken old new (OldOrAfter at.records cs) (λ file. HoldsSorted file rs ⊎ HoldsSorted file (applied cs rs)) (λ file. by_side file) (ended at.records at.held)
  where
    at : HoldsSorted (now old) rs
    at = works.holds.here

    by_side : (file : List ℕ) → OldOrAfter at.records cs file → HoldsSorted file rs ⊎ HoldsSorted file (applied cs rs)
    by_side file (inl held) = inl (record { records = at.records; held = held; same = at.same })
    by_side file (inr after) = inr (sorted_after rs at.records after.0 cs file (now old) at.same at.held once after.1 after.2)

-- the records after a commit that went well
pub commit_works : (store after : Store) (rs : List Stored) (cs : List Change) (old new : History) → KeepsOver store rs old → AreChanges cs → IsStoreOf after new
    → ((records : List Stored) → Held records (now old) → (made : List Stored) × AfterBatch records cs made × Holds new (Held made)) → KeepsOver after (applied cs rs) new
commit_works store after rs cs old new works once is held = by_made (held at.records at.held)
  where
    at : HoldsSorted (now old) rs
    at = works.holds.here

    by_made : (made : List Stored) × AfterBatch at.records cs made × Holds new (Held made) → KeepsOver after (applied cs rs) new
    by_made made = record {
      store_is = is;
      holds = holds_weaken new (Held made.0) (λ file. HoldsSorted file (applied cs rs)) (λ file h. sorted_after rs at.records made.0 cs file (now old) at.same at.held once made.1 h) made.2;
    }

-- where nothing changes a call that did nothing is a commit
pub nothing_ended : (store : Store) (rs : List Stored) (cs : List Change) (h : History) → KeepsOver store rs h → cs ≡ [] → Ended h h (λ file. HoldsSorted file rs ⊎ HoldsSorted file (applied cs rs))
nothing_ended store rs cs h works none = ended_begun h (λ file. HoldsSorted file rs ⊎ HoldsSorted file (applied cs rs)) (holds_weaken h (λ file. HoldsSorted file rs) (λ file. HoldsSorted file rs ⊎ HoldsSorted file (applied cs rs)) (λ file held. inl held) works.holds)

-- a list of no length is empty, and one of some length is not
pub none_counted : {A : Type 0} (xs : List A) → true ≡ (length xs == 0) → xs ≡ []
none_counted [] e = refl
none_counted (x ∷ xs) e = absurd (more (length xs) e)
  where
    more : (n : ℕ) → true ≡ (suc n == 0) → ⊥
    more n e = grind (arith, nat_tests, e)

pub some_counted : {A : Type 0} (xs : List A) → false ≡ (length xs == 0) → xs ≡ [] → ⊥
some_counted [] e none = absurd (let f : false ≡ true = e in cc)
some_counted (x ∷ xs) e none = cc
