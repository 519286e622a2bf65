-- What is told of the plans of a refresh.
use Rattle.std.proofs.Common.{◌≡◌, ◌⊎◌, ℕ, ◌+◌, ◌&&◌, not, Bool, true, false, List, [], map, Option, Some, None, Result, Ok, Err, IfOk, sym, ap, ◌∙◌}
use Rattle.std.proofs.lemmas.Bool.{and_parts}
use Rattle.std.specs.List.{list_all, list_any}
use Rattle.std.specs.Option.{option_map_or}
use Rattle.wm_base.specs.declared.memory.Memory.{Memory}
use Rattle.wm_base.specs.declared.refusal.Refusal.{Refusal}
use Rattle.wm_graph.specs.Parts.{parts_of}
use Rattle.wm_model.proofs.RefreshingLine.{refresh_open, refresh_quiet}
use Rattle.wm_model.specs.Merged.{NamesFamily, Refreshes, are_keys_kept, is_quiet_at, is_ready_entry}
use Rattle.wm_model.specs.Planning.{Does, Stay}
use Rattle.wm_model.specs.Step.{refresh_workspace}
use Rattle.wm_model.specs.Undone.{resolving_refusal}
use Rattle.wm_print.specs.Texts.{Fine, Refused}
use Rattle.wm_plan.specs.Planning.{DoesIt}
use Rattle.wm_plan.specs.declared.planned.Planned.{Planned}
use Rattle.wm_spec.specs.Lists.{Entry}
use Rattle.wm_spec.specs.declared.record.space.Space.{Space}
use Rattle.wm_spec.specs.declared.record.stored.Stored.{Stored}
use Rattle.wm_state.specs.Copied.{KeyPieces}
use Rattle.wm_state.specs.Drafts.{is_turn}
use Rattle.wm_state.specs.Editing.{entry_of}
use Rattle.wm_state.specs.State.{Session}
use Rattle.wm_state.specs.declared.edit.NewEntry.{NewEntry}
use Rattle.wm_telling.specs.Telling.{AreOwn}
use Rattle.wm_merge.specs.Views.{has_next_turn}
use Rattle.wm_merge.proofs.Answered.{first_holds, lacks_or_turned}

-- ---- whether its edits can be made

-- what is tested of its entries and of the workspace
pub record MayRefresh (rs : List Stored) (a : Space) (ks : List KeyPieces) (es : List Entry) : Type 0 where
  pub own : AreOwn (parts_of rs) a ks
  pub keys : are_keys_kept ks ≡ true
  pub ready : list_all (is_ready_entry (parts_of rs)) es ≡ true
  pub unturned : has_next_turn (parts_of rs) a ≡ false

module _ (rs : List Stored) (a : Space) (ks : List KeyPieces) (given es : List NewEntry) (is : given ≡ es) where
  abbrev can_write : List NewEntry → Bool
  can_write xs = are_keys_kept ks && list_all (is_ready_entry (parts_of rs)) (map entry_of xs)

  pub may_refresh : AreOwn (parts_of rs) a ks → true ≡ (can_write given && not (has_next_turn (parts_of rs) a)) → MayRefresh rs a ks (map entry_of es)
  may_refresh own test =
      let two = first_holds (can_write es) (has_next_turn (parts_of rs) a) (test ∙ ap (λ xs. can_write xs && not (has_next_turn (parts_of rs) a)) is) in
      let ready = and_parts (are_keys_kept ks) (list_all (is_ready_entry (parts_of rs)) (map entry_of es)) two.0 in
      record { own = own; keys = ready.0; ready = ready.1; unturned = two.1 }

  pub lacks_refresh : false ≡ (can_write given && not (has_next_turn (parts_of rs) a)) → (can_write es ≡ false) ⊎ (list_any (is_turn a.number (a.rebases + 1)) (parts_of rs).turns ≡ true)
  lacks_refresh test = lacks_or_turned (can_write es) (parts_of rs) a (test ∙ ap (λ xs. can_write xs && not (has_next_turn (parts_of rs) a)) is)

-- ---- where nothing is pending

-- an open resolve refuses it all the same
pub quiet_told : (rs : List Stored) (xs : List Session) (m : ℕ) (session : Session) (workspace : List ℕ) (a b : Space) (refusal : Option Refusal) → NamesFamily rs workspace a b → is_quiet_at a b ≡ true → refusal ≡ resolving_refusal xs a
    → Does rs xs m [] Stay (option_map_or Refused refusal Fine) (refresh_workspace session workspace)
quiet_told rs xs m session workspace a b None family quiet is = refresh_quiet rs xs m session workspace a b family (sym is) quiet
quiet_told rs xs m session workspace a b (Some refusal) family quiet is = refresh_open rs xs m session workspace a b refusal family (sym is)

-- ---- the plans

-- a plan for whatever may be gained is one for this
pub refreshes_as : (rs : List Stored) (xs : List Session) (m : ℕ) (r : Result Planned Memory) (session : Session) (a b : Space) (es : List Entry)
    → ((workspace : List ℕ) → NamesFamily rs workspace a b → Refreshes rs m xs session workspace a b es)
    → IfOk r (λ p. (xs : List Session) (session : Session) (workspace : List ℕ) (parent : Space) → Refreshes rs m xs session workspace a parent es → DoesIt rs xs m p (refresh_workspace session workspace))
    → IfOk r (λ p. (workspace : List ℕ) → NamesFamily rs workspace a b → DoesIt rs xs m p (refresh_workspace session workspace))
refreshes_as rs xs m (Ok p) session a b es may does = λ workspace family. does xs session workspace b (may workspace family)
refreshes_as rs xs m (Err e) session a b es may does = tt

-- one for each name of the workspace is one for this name
pub refreshes_named : (rs : List Stored) (xs : List Session) (m : ℕ) (r : Result Planned Memory) (session : Session) (workspace : List ℕ) (a b : Space) → NamesFamily rs workspace a b
    → IfOk r (λ p. (workspace : List ℕ) → NamesFamily rs workspace a b → DoesIt rs xs m p (refresh_workspace session workspace))
    → IfOk r (λ p. DoesIt rs xs m p (refresh_workspace session workspace))
refreshes_named rs xs m (Ok p) session workspace a b family does = does workspace family
refreshes_named rs xs m (Err e) session workspace a b family does = tt
