-- What is asked before the edits of a merge, where nothing refuses it and its entries can be written again.
use Rattle.std.proofs.Common.{◌≡◌, ℕ, ◌+◌, ◌≤◌, ◌==◌, nat_lt, Bool, true, false, not, if◌then◌else◌, List, [], ◌∷◌, ◌++◌, map, length, Option, Some, None, is_some, refl, sym, ap, ◌∙◌, subst, append_assoc, arith}
use Rattle.std.proofs.lemmas.List.{length-append}
use Rattle.std.proofs.lemmas.Bool.{true≢false, not-true}
use Rattle.wm_base.specs.declared.instant.TheConstants.{END}
use Rattle.wm_graph.specs.Parts.{parts_of}
use Rattle.wm_graph.specs.Rules.{keep_rules}
use Rattle.wm_spec.specs.declared.record.counters.Counters.{Counters}
use Rattle.wm_spec.specs.declared.record.space.Space.{Space}
use Rattle.wm_spec.specs.declared.record.stored.Stored.{Stored}
use Rattle.wm_state.specs.ById.{Ascend, applied}
use Rattle.wm_state.specs.Drafts.{CanDraft, CanEditAll, CanGain, CanRebase, CanRemove, CanReplay}
use Rattle.wm_state.specs.Editing.{counter_limit, entry_of, line_work}
use Rattle.wm_state.specs.State.{Session}
use Rattle.wm_state.specs.declared.edit.Edit.{Edit}
use Rattle.wm_state.specs.declared.edit.Edit.TheVariants as edits
use Rattle.wm_state.specs.declared.edit.NewEntry.{NewEntry}
use Rattle.wm_gained.specs.Merging as edited
use Rattle.wm_gained.proofs.Merging.{can_merge}
use Rattle.wm_telling.specs.Telling.{gained_held, own_held}
use Rattle.wm_telling.proofs.Storing.{stores_gained, stores_own}
use Rattle.wm_model.proofs.MergedEdits.{merge_lockless}
use Rattle.wm_model.proofs.Recorded.{childless, named_numbered}
use Rattle.wm_model.specs.Merged.{Merges, after_edits, is_even_at, keep_edits, leaving_refusal, merge_edits, rebase_edits, replay_edits}
use Rattle.wm_model.specs.Step.{Asked, unlock_edits}
use Rattle.wm_model.specs.Undone.{going_refusal}
use Rattle.wm_merge.proofs.Asked.{can_draft, can_gain, can_replay, can_work, few_gains, other_number, parent_there, some_entries}
use Rattle.wm_merge.proofs.Answered.{turn_free}
use Rattle.wm_merge.proofs.MergePlans.{MayMerge}
use Rattle.wm_merge.proofs.Clear.{MergeClear, can_keep, merge_clear, merge_left}

-- ---- the edits, as what becomes of the parent and of the workspace

-- entries, where there are some
abbrev present : Bool → List NewEntry → Option (List NewEntry)
present none entries = if none then None else Some entries

abbrev leaving : Bool → Bool → List NewEntry → edited.Leaving
leaving removes even entries = record { removes = removes; rebases = not even; gained = present (length entries == 0) entries }

abbrev merging : Asked → Bool → List NewEntry → List NewEntry → edited.Merge
merging asked even own entries = record { keeps = asked.keeps; own = present (length own == 0) own; leaving = leaving asked.removes even entries }

gain_is : (none : Bool) (n : ℕ) (entries : List NewEntry) → (if none then [] else edits.Gain n entries ∷ []) ≡ edited.bringing (edits.Gain n) (present none entries) []
gain_is true n entries = refl
gain_is false n entries = refl

-- what goes of the locks where the workspace stays
abbrev unlocks : Bool → List ℕ → List Edit
unlocks removes makings = if removes then [] else unlock_edits makings

leave_is : (removes even : Bool) (n : ℕ) (entries : List NewEntry) (makings : List ℕ) → after_edits removes even n entries makings ≡ edited.leave_edits n (leaving removes even entries) ++ unlocks removes makings
leave_is true even n entries makings = refl
leave_is false true n entries makings = refl
leave_is false false n entries makings = ap (λ (es : List Edit). edits.Rebase n true ∷ (es ++ unlock_edits makings)) (gain_is (length entries == 0) n entries)

replay_is : (none : Bool) (n : ℕ) (own : List NewEntry) (es : List Edit) → (if none then [] else edits.Replay n own ∷ []) ++ es ≡ edited.bringing (edits.Replay n) (present none own) es
replay_is true n own es = refl
replay_is false n own es = refl

keep_is : (keeps : Bool) (n : ℕ) (es : List Edit) → keep_edits keeps n ++ es ≡ (if keeps then edits.Keep n ∷ es else es)
keep_is true n es = refl
keep_is false n es = refl

merge_is : (asked : Asked) (even : Bool) (n parent : ℕ) (own entries : List NewEntry) (makings : List ℕ)
    → merge_edits asked even n parent own entries makings ≡ edited.merge_edits parent n (merging asked even own entries) ++ unlocks asked.removes makings
merge_is asked even n parent own entries makings =
    let leave = edited.leave_edits n (leaving asked.removes even entries) in
    let gone = unlocks asked.removes makings in
    ap (λ (es : List Edit). keep_edits asked.keeps parent ++ (replay_edits parent own ++ es)) (leave_is asked.removes even n entries makings)
    ∙ ap (λ (es : List Edit). keep_edits asked.keeps parent ++ es) (sym (append_assoc (replay_edits parent own) leave gone))
    ∙ sym (append_assoc (keep_edits asked.keeps parent) (replay_edits parent own ++ leave) gone)
    ∙ ap (λ (es : List Edit). (keep_edits asked.keeps parent ++ es) ++ gone) (replay_is (length own == 0) parent own leave)
    ∙ ap (λ (es : List Edit). es ++ gone) (keep_is asked.keeps parent (edited.bringing (edits.Replay parent) (present (length own == 0) own) leave))

-- locks may go behind whatever may be made
can_unlock : (m : ℕ) (makings : List ℕ) (rs : List Stored) → CanEditAll rs m (unlock_edits makings)
can_unlock m [] rs = tt
can_unlock m (making ∷ makings) rs = (tt, λ work changes drafts. tt)

can_unlocks : (m : ℕ) (removes : Bool) (makings : List ℕ) (es : List Edit) (rs : List Stored) → CanEditAll rs m es → CanEditAll rs m (es ++ unlocks removes makings)
can_unlocks m true makings [] rs can = tt
can_unlocks m false makings [] rs can = can_unlock m makings rs
can_unlocks m removes makings (e ∷ es) rs can = (can.0, λ work changes drafts. can_unlocks m removes makings es (applied changes rs) (can.1 work changes drafts))

-- ---- how many they are

few_keeps : (keeps : Bool) (n : ℕ) → length (keep_edits keeps n) ≤ 1
few_keeps true n = omega arith
few_keeps false n = omega arith

few_replays : (none : Bool) (n : ℕ) (own : List NewEntry) → length (if none then [] else edits.Replay n own ∷ []) ≤ 1
few_replays true n own = omega arith
few_replays false n own = omega arith

few_rebases : (even : Bool) (n : ℕ) (entries : List NewEntry) → length (rebase_edits even n entries) ≤ 2
few_rebases true n entries = omega arith
few_rebases false n entries = omega (arith, few_gains n entries)

few_unlocks : (makings : List ℕ) → length (unlock_edits makings) ≤ 1
few_unlocks [] = omega arith
few_unlocks (making ∷ makings) = omega arith

few_after : (removes even : Bool) (n : ℕ) (entries : List NewEntry) (makings : List ℕ) → length (after_edits removes even n entries makings) ≤ 3
few_after true even n entries makings = omega arith
few_after false even n entries makings = omega (arith, length-append (rebase_edits even n entries) (unlock_edits makings), few_rebases even n entries, few_unlocks makings)

few_merges : (asked : Asked) (even : Bool) (n parent : ℕ) (own entries : List NewEntry) (makings : List ℕ) → length (merge_edits asked even n parent own entries makings) ≤ 2048
few_merges asked even n parent own entries makings =
    few (length (keep_edits asked.keeps parent)) (length (replay_edits parent own)) (length (after_edits asked.removes even n entries makings)) (length (replay_edits parent own ++ after_edits asked.removes even n entries makings))
    (length (merge_edits asked even n parent own entries makings)) (length-append (keep_edits asked.keeps parent) (replay_edits parent own ++ after_edits asked.removes even n entries makings))
    (length-append (replay_edits parent own) (after_edits asked.removes even n entries makings)) (few_keeps asked.keeps parent) (few_replays (length own == 0) parent own) (few_after asked.removes even n entries makings)
  where
    few : (k r l rest all : ℕ) → all ≡ k + rest → rest ≡ r + l → k ≤ 1 → r ≤ 1 → l ≤ 3 → all ≤ 2048
    few k r l rest all e f a b c = omega (arith, e, f, a, b, c)

-- ---- what is asked

is_present : (none : Bool) (given entries : List NewEntry) → present none given ≡ Some entries → (none ≡ false) × (given ≡ entries)
is_present true given entries is = absurd (cc)
is_present false given entries is = (refl, cc)

module _ (rs : List Stored) (m : ℕ) (xs : List Session) (session : Session) (asked : Asked) (workspace : List ℕ) (a b : Space) (c : Counters) (own entries : List NewEntry)
    (merges : Merges rs m xs session asked workspace a b (map entry_of own) (map entry_of entries)) (may : MayMerge rs a (map entry_of own) (map entry_of entries))
    (one : (parts_of rs).counters ≡ c ∷ []) (own_room : nat_lt counter_limit (b.log_length + length (map entry_of own)) ≡ false) (room : nat_lt counter_limit (a.log_length + length (map entry_of entries)) ≡ false) where
  abbrev even : Bool
  even = is_even_at a b (map entry_of own)

  rules : keep_rules (parts_of rs) ≡ true
  rules = merges.family.space.rules

  clear : MergeClear asked (parts_of rs) xs a b (map entry_of own)
  clear = merge_clear session asked (parts_of rs) xs a b merges.found (map entry_of own) merges.clear

  -- of the parent
  replays : (given : List NewEntry) → present (length own == 0) own ≡ Some given → CanReplay (parts_of rs) b.number (map entry_of given)
  replays given is =
      let two = is_present (length own == 0) own given is in
      subst (λ (x : List NewEntry). CanReplay (parts_of rs) b.number (map entry_of x)) two.1
      (can_replay (parts_of rs) m session.user c rules one merges.user (own_held (parts_of rs) a) (stores_own (parts_of rs) a) (map entry_of own) merges.own_listed may.own_ready (some_entries own two.0) b.number b
      (parent_there rs workspace a b merges.family) own_room)

  -- of the workspace
  removes : asked.removes ≡ true → CanRemove (parts_of rs) a.number
  removes goes =
      let going : going_refusal (parts_of rs) xs a ≡ None = sym (ap (λ (r : Bool). leaving_refusal r (parts_of rs) xs a) goes) ∙ clear.leaving in
      record {
        some = merges.family.child;
        there = some_space (named_numbered rs workspace a merges.family.space);
        childless = childless rs xs a rules merges.family.child going;
      }
    where
      some_space : {o : Option Space} → o ≡ Some a → is_some o ≡ true
      some_space e = ap is_some e

  rebases : not even ≡ true → CanRebase (parts_of rs) a.number true
  rebases odd =
      let left = merge_left a b (map entry_of own) clear.rebasing (not-true even odd) in
      record {
        some = merges.family.child;
        space = a;
        there = named_numbered rs workspace a merges.family.space;
        rebases = left;
        unturned = turn_free (parts_of rs) a left may.unturned;
        kept = λ stays. absurd (true≢false stays);
      }

  gains : (given : List NewEntry) → present (length entries == 0) entries ≡ Some given → CanGain (parts_of rs) a.number (map entry_of given)
  gains given is =
      let two = is_present (length entries == 0) entries given is in
      subst (λ (x : List NewEntry). CanGain (parts_of rs) a.number (map entry_of x)) two.1
      (can_gain (parts_of rs) m session.user c rules one merges.user (gained_held (parts_of rs) a b) (stores_gained (parts_of rs) a b) (map entry_of entries) merges.gained_listed may.ready (some_entries entries two.0)
      a.number a (named_numbered rs workspace a merges.family.space) room)

  can : edited.CanMerge (parts_of rs) b.number a.number (merging asked even own entries)
  can = record {
    other = other_number rs workspace a b merges.family;
    keep = can_keep asked.keeps (parts_of rs) b (parent_there rs workspace a b merges.family) clear.naming clear.keeping;
    replay = replays;
    leave = record { remove = removes; rebase = λ stays. rebases; gain = λ stays odd. gains };
  }

  pub drafts_merge : (makings : List ℕ) → Ascend rs → nat_lt counter_limit (c.work + line_work) ≡ false → nat_lt m END ≡ true → CanDraft rs m (merge_edits asked even a.number b.number own entries makings)
  drafts_merge makings sorted spare early =
      can_draft rs m (merge_edits asked even a.number b.number own entries makings) (merge_lockless asked even a.number b.number own entries makings) (can_work (parts_of rs) m c one spare early)
      (few_merges asked even a.number b.number own entries makings)
      (subst (CanEditAll rs m) (sym (merge_is asked even a.number b.number own entries makings))
      (can_unlocks m asked.removes makings (edited.merge_edits b.number a.number (merging asked even own entries)) rs (can_merge rs m b.number a.number (merging asked even own entries) sorted rules can)))
