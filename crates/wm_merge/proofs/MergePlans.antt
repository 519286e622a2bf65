-- What is told of the plans of a merge.
use Rattle.std.proofs.Common.{◌≡◌, ◌⊎◌, ℕ, ◌+◌, ◌&&◌, not, nat_lt, max, Bool, true, false, List, map, Option, Result, Ok, Err, IfOk, sym, ap, ◌∙◌, arith}
use Rattle.std.proofs.lemmas.Bool.Decides.{nat_tests}
use Rattle.std.proofs.lemmas.Bool.{and_parts}
use Rattle.std.specs.List.{list_all, list_any}
use Rattle.wm_base.specs.declared.memory.Memory.{Memory}
use Rattle.wm_base.specs.declared.refusal.Refusal.{Refusal}
use Rattle.wm_graph.specs.Parts.{Parts, parts_of}
use Rattle.wm_model.specs.Merged.{Clashed, Merges, NamesFamily, is_even_at, is_idle_at, is_ready_entry, merging_refusal}
use Rattle.wm_model.specs.Step.{Asked, merge_workspace}
use Rattle.wm_plan.specs.Planning.{DoesIt}
use Rattle.wm_plan.specs.declared.planned.Planned.{Planned}
use Rattle.wm_spec.specs.Lists.{Entry}
use Rattle.wm_spec.specs.declared.record.space.Space.{Space}
use Rattle.wm_spec.specs.declared.record.stored.Stored.{Stored}
use Rattle.wm_state.specs.Drafts.{is_turn}
use Rattle.wm_state.specs.Editing.{entry_of}
use Rattle.wm_state.specs.State.{Session}
use Rattle.wm_state.specs.declared.edit.NewEntry.{NewEntry}
use Rattle.wm_merge.specs.Views.{has_next_turn}
use Rattle.wm_merge.proofs.Answered.{first_holds, lacks_or_turned}

-- ---- whether its edits can be made

-- what is tested of its entries and of the workspace
pub record MayMerge (rs : List Stored) (a : Space) (own es : List Entry) : Type 0 where
  pub own_ready : list_all (is_ready_entry (parts_of rs)) own ≡ true
  pub ready : list_all (is_ready_entry (parts_of rs)) es ≡ true
  pub unturned : has_next_turn (parts_of rs) a ≡ false

module _ (rs : List Stored) (a : Space) (given_own own given es : List NewEntry) (own_is : given_own ≡ own) (is : given ≡ es) where
  abbrev can_write : List NewEntry → List NewEntry → Bool
  can_write xs ys = list_all (is_ready_entry (parts_of rs)) (map entry_of xs) && list_all (is_ready_entry (parts_of rs)) (map entry_of ys)

  same_test : (can_write given_own given && not (has_next_turn (parts_of rs) a)) ≡ (can_write own es && not (has_next_turn (parts_of rs) a))
  same_test = ap (λ xs. can_write xs given && not (has_next_turn (parts_of rs) a)) own_is ∙ ap (λ ys. can_write own ys && not (has_next_turn (parts_of rs) a)) is

  pub may_merge : true ≡ (can_write given_own given && not (has_next_turn (parts_of rs) a)) → MayMerge rs a (map entry_of own) (map entry_of es)
  may_merge test =
      let two = first_holds (can_write own es) (has_next_turn (parts_of rs) a) (test ∙ same_test) in
      let ready = and_parts (list_all (is_ready_entry (parts_of rs)) (map entry_of own)) (list_all (is_ready_entry (parts_of rs)) (map entry_of es)) two.0 in
      record { own_ready = ready.0; ready = ready.1; unturned = two.1 }

  pub lacks_merge : false ≡ (can_write given_own given && not (has_next_turn (parts_of rs) a)) → (can_write own es ≡ false) ⊎ (list_any (is_turn a.number (a.rebases + 1)) (parts_of rs).turns ≡ true)
  lacks_merge test = lacks_or_turned (can_write own es) (parts_of rs) a (test ∙ same_test)

-- whether nothing is to be merged and nothing is pending
pub even_told : (a b : Space) (given own : List NewEntry) (even : Bool) → given ≡ own → even ≡ is_even_at a b (map entry_of given) → even ≡ is_even_at a b (map entry_of own)
even_told a b given own even is test = test ∙ ap (λ xs. is_even_at a b (map entry_of xs)) is

-- whether there is nothing to do
pub idle_told : (asked : Asked) (a b : Space) (own : List NewEntry) (even : Bool) (given listed makings : List ℕ) (test : Bool) → even ≡ is_even_at a b (map entry_of own) → given ≡ listed → listed ≡ makings → test ≡ is_idle_at asked even given
    → is_idle_at asked (is_even_at a b (map entry_of own)) makings ≡ test
idle_told asked a b own even given listed makings test is same known told =
    ap (λ e. is_idle_at asked e makings) (sym is) ∙ ap (is_idle_at asked even) (sym (same ∙ known)) ∙ sym told

-- what a merge is refused for
pub refusal_told : (session : Session) (asked : Asked) (p : Parts) (xs : List Session) (a b : Space) (found : Option Clashed) (given own : List NewEntry) (told is : Option Refusal) → given ≡ own → told ≡ merging_refusal session asked p xs a b found (map entry_of given)
    → told ≡ is → merging_refusal session asked p xs a b found (map entry_of own) ≡ is
refusal_told session asked p xs a b found given own told is same test says = ap (λ ys. merging_refusal session asked p xs a b found (map entry_of ys)) (sym same) ∙ sym test ∙ says

-- both logs have room where the longer one has
pub room_of : (limit k l : ℕ) → nat_lt limit (max k l) ≡ false → (nat_lt limit k ≡ false) × (nat_lt limit l ≡ false)
room_of limit k l room = (grind (arith, nat_tests, room), grind (arith, nat_tests, room))

-- ---- the plans

-- a plan for whatever is merged and gained is one for this
pub merges_as : (rs : List Stored) (xs : List Session) (m : ℕ) (r : Result Planned Memory) (session : Session) (asked : Asked) (a b : Space) (own es : List Entry)
    → ((workspace : List ℕ) → NamesFamily rs workspace a b → Merges rs m xs session asked workspace a b own es)
    → IfOk r (λ p. (xs : List Session) (session : Session) (workspace : List ℕ) → Merges rs m xs session asked workspace a b own es → DoesIt rs xs m p (merge_workspace session asked workspace))
    → IfOk r (λ p. (workspace : List ℕ) → NamesFamily rs workspace a b → DoesIt rs xs m p (merge_workspace session asked workspace))
merges_as rs xs m (Ok p) session asked a b own es may does = λ workspace family. does xs session workspace (may workspace family)
merges_as rs xs m (Err e) session asked a b own es may does = tt

-- one for each name of the workspace is one for this name
pub merges_named : (rs : List Stored) (xs : List Session) (m : ℕ) (r : Result Planned Memory) (session : Session) (asked : Asked) (workspace : List ℕ) (a b : Space) → NamesFamily rs workspace a b
    → IfOk r (λ p. (workspace : List ℕ) → NamesFamily rs workspace a b → DoesIt rs xs m p (merge_workspace session asked workspace)) → IfOk r (λ p. DoesIt rs xs m p (merge_workspace session asked workspace))
merges_named rs xs m (Ok p) session asked workspace a b family does = does workspace family
merges_named rs xs m (Err e) session asked workspace a b family does = tt
