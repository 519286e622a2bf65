-- A file that is a store whose records keep the rules stays one.
use Rattle.std.proofs.Common.{◌≡◌, ℕ, true, List, ◌⊎◌, inl, inr}
use Rattle.wm_graph.specs.Parts.{parts_of}
use Rattle.wm_graph.specs.Rules.{keep_rules}
use Rattle.wm_spec.specs.declared.record.stored.Stored.{Stored}
use Rattle.wm_state.specs.declared.edit.Edit.{Edit}
use Rattle.wm_station.specs.History.{History}
use Rattle.wm_station.specs.Moments.{Ended, Holds}
use Rattle.wm_store.specs.declared.store.Store.{Store}
use Rattle.wm_engine.proofs.Committing.{ended_begun, ended_weaken, holds_weaken}
use Rattle.wm_engine.proofs.Keeping.{kept_rules}
use Rattle.wm_engine.specs.Keeping.{HoldsDrafted}
use Rattle.wm_engine.specs.Working.{HoldsSorted, IsSound, KeepsOver}

-- what a read gives, and each file that a crash may leave
pub sound_over : (store : Store) (rs : List Stored) (h : History) → KeepsOver store rs h → keep_rules (parts_of rs) ≡ true → Holds h IsSound
sound_over store rs h works rules = holds_weaken h (λ file. HoldsSorted file rs) IsSound (λ file holds. record { records = rs; holds = holds; rules = rules }) works.holds

-- where nothing was done
pub sound_begun : (store : Store) (rs : List Stored) (h : History) → KeepsOver store rs h → keep_rules (parts_of rs) ≡ true → Ended h h IsSound
sound_begun store rs h works rules = ended_begun h IsSound (sound_over store rs h works rules)

-- where edits were drafted and committed, or not
pub sound_kept : (rs : List Stored) (m : ℕ) (es : List Edit) (old new : History) → keep_rules (parts_of rs) ≡ true → Ended old new (λ file. HoldsSorted file rs ⊎ HoldsDrafted file rs m es) → Ended old new IsSound
sound_kept rs m es old new rules ended = ended_weaken old new (λ file. HoldsSorted file rs ⊎ HoldsDrafted file rs m es) IsSound (λ file. by_side file) ended
  where
    by_side : (file : List ℕ) → HoldsSorted file rs ⊎ HoldsDrafted file rs m es → IsSound file
    by_side file (inl holds) = record { records = rs; holds = holds; rules = rules }
    by_side file (inr made) = record { records = made.new; holds = made.holds; rules = kept_rules rs made.new m es made.drafted }
