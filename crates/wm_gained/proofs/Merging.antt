-- The edits of a refresh, and those of a merge, can be made one behind the other, where what is asked for each holds of the first records.
use Rattle.std.proofs.Common.{◌≡◌, ℕ, ◌==◌, Bool, true, false, List, [], ◌∷◌, map, Option, Some, None, refl}
use Rattle.wm_graph.specs.Parts.{parts_of}
use Rattle.wm_graph.specs.Rules.{keep_rules}
use Rattle.wm_spec.specs.declared.record.batch.Change.{Change}
use Rattle.wm_spec.specs.declared.record.stored.Stored.{Stored}
use Rattle.wm_state.specs.ById.{Ascend, applied}
use Rattle.wm_state.specs.Drafts.{CanEditAll, CanGain, CanRebase, CanReplay, DraftsBy, leaves_turns}
use Rattle.wm_state.specs.Editing.{edited, entry_of}
use Rattle.wm_state.specs.declared.edit.Edit.{Edit}
use Rattle.wm_state.specs.declared.edit.Edit.TheVariants as edits
use Rattle.wm_state.specs.declared.edit.NewEntry.{NewEntry}
use Rattle.wm_state.proofs.Batches.{Ascend-applied}
use Rattle.wm_gained.specs.Behind.{LeavesLog, LeavesParents, LeavesSpace}
use Rattle.wm_gained.specs.Merging.{CanLeave, CanMerge, Leaving, Merge, bringing, leave_edits, merge_edits}
use Rattle.wm_gained.proofs.AskedBehind.{can_gain_next, can_rebase_next, can_remove_next, can_replay_next}
use Rattle.wm_gained.proofs.LeftBehind.{keep_leaves_parents, keep_leaves_space, leaves_keep, leaves_rebase, leaves_replay, replay_leaves_parents, replay_leaves_space}

-- ---- a rebase, and what the log gains behind it

gains_behind : (rs : List Stored) (m n : ℕ) (emptied : Bool) (entries : List NewEntry) → Ascend rs → keep_rules (parts_of rs) ≡ true → CanRebase (parts_of rs) n emptied → CanGain (parts_of rs) n (map entry_of entries)
    → CanEditAll rs m (edits.Rebase n emptied ∷ edits.Gain n entries ∷ [])
gains_behind rs m n emptied entries sorted rules rebase gain = (
  rebase,
  λ work cs drafts. (can_gain_next rs m work (edits.Rebase n emptied) cs rules drafts n (map entry_of entries) sorted (leaves_rebase m n n emptied) gain, λ more ds then. tt),
)

-- so it is of a refresh
pub can_refresh : (rs : List Stored) (m n : ℕ) (entries : List NewEntry) → Ascend rs → keep_rules (parts_of rs) ≡ true → CanRebase (parts_of rs) n false → CanGain (parts_of rs) n (map entry_of entries)
    → CanEditAll rs m (edits.Rebase n false ∷ edits.Gain n entries ∷ [])
can_refresh rs m n entries = gains_behind rs m n false entries

-- ---- a merge

-- what becomes of the workspace
can_leave : (rs : List Stored) (m n : ℕ) (l : Leaving) → Ascend rs → keep_rules (parts_of rs) ≡ true → CanLeave (parts_of rs) n l → CanEditAll rs m (leave_edits n l)
can_leave rs m n l sorted rules can = by_parts l.removes l.rebases refl refl
  where
    by_parts : (removes rebases : Bool) → l.removes ≡ removes → l.rebases ≡ rebases → CanEditAll rs m (leave_edits n (record l { removes = removes; rebases = rebases }))
    by_parts true rebases goes rebased = (can.remove goes, λ work cs drafts. tt)
    by_parts false true goes rebased = by_gained l.gained refl
      where
        by_gained : (gained : Option (List NewEntry)) → l.gained ≡ gained → CanEditAll rs m (edits.Rebase n true ∷ bringing (edits.Gain n) gained [])
        by_gained None none = (can.rebase goes rebased, λ work cs drafts. tt)
        by_gained (Some entries) some = gains_behind rs m n true entries sorted rules (can.rebase goes rebased) (can.gain goes rebased entries some)
    by_parts false false goes rebased = tt

-- is asked still behind an edit of another one
can_leave_next : (rs : List Stored) (m work : ℕ) (e : Edit) (cs : List Change) (n : ℕ) (l : Leaving) → Ascend rs → keep_rules (parts_of rs) ≡ true → DraftsBy work rs m (e ∷ []) cs → LeavesLog (edited m e) n → LeavesSpace (edited m e) n
    → LeavesParents (edited m e) → leaves_turns e ≡ true → CanLeave (parts_of rs) n l → CanLeave (parts_of (applied cs rs)) n l
can_leave_next rs m work e cs n l sorted rules drafts log space parents turns can = record {
  remove = λ goes. can_remove_next rs m work e cs rules drafts parents n (can.remove goes);
  rebase = λ goes rebased. can_rebase_next rs m work e cs rules drafts n space turns (can.rebase goes rebased);
  gain = λ goes rebased entries some. can_gain_next rs m work e cs rules drafts n (map entry_of entries) sorted log (can.gain goes rebased entries some);
}

-- what comes into the parent, and that behind it
replays_then : (rs : List Stored) (m k n : ℕ) (own : Option (List NewEntry)) (l : Leaving) → Ascend rs → keep_rules (parts_of rs) ≡ true → (n == k) ≡ false
    → ((entries : List NewEntry) → own ≡ Some entries → CanReplay (parts_of rs) k (map entry_of entries)) → CanLeave (parts_of rs) n l → CanEditAll rs m (bringing (edits.Replay k) own (leave_edits n l))
replays_then rs m k n None l sorted rules other replay leave = can_leave rs m n l sorted rules leave
replays_then rs m k n (Some entries) l sorted rules other replay leave = (
  replay entries refl,
  λ work cs drafts.
      can_leave (applied cs rs) m n l (Ascend-applied cs rs sorted) drafts.keeps
      (can_leave_next rs m work (edits.Replay k entries) cs n l sorted rules drafts (leaves_replay m k n entries other) (replay_leaves_space m k n entries other) (replay_leaves_parents m k entries) refl leave),
)

pub can_merge : (rs : List Stored) (m k n : ℕ) (x : Merge) → Ascend rs → keep_rules (parts_of rs) ≡ true → CanMerge (parts_of rs) k n x → CanEditAll rs m (merge_edits k n x)
can_merge rs m k n x sorted rules can = by_keeps x.keeps refl
  where
    by_keeps : (keeps : Bool) → x.keeps ≡ keeps → CanEditAll rs m (merge_edits k n (record x { keeps = keeps }))
    by_keeps true keeps = (
      can.keep keeps,
      λ work cs drafts.
          replays_then (applied cs rs) m k n x.own x.leaving (Ascend-applied cs rs sorted) drafts.keeps can.other
          (λ entries some. can_replay_next rs m work (edits.Keep k) cs rules drafts k (map entry_of entries) sorted (leaves_keep m k k) (can.replay entries some))
          (can_leave_next rs m work (edits.Keep k) cs n x.leaving sorted rules drafts (leaves_keep m k n) (keep_leaves_space m k n can.other) (keep_leaves_parents m k) refl can.leave),
    )
    by_keeps false keeps = replays_then rs m k n x.own x.leaving sorted rules can.other can.replay can.leave
