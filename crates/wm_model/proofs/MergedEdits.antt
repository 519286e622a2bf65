-- What the edits of a refresh and of a merge make of a state.
use Rattle.std.proofs.Common.{arith, ◌≡◌, ◌≢◌, ℕ, suc, not, ◌==◌, length, Bool, true, false, cond, if◌then◌else◌, ◌+◌, ◌&&◌, ◌||◌, List, [], ◌∷◌, ◌++◌, append-nil, map, Option, Some, unwrap_or, refl, sym, ap, subst, ◌∙◌}
use Rattle.std.proofs.lemmas.Bool.{eq-eqb, ne_eqb}
use Rattle.std.specs.List.{filter}
use Rattle.std.specs.Option.{option_and_then, option_map}
use Rattle.wm_spec.specs.Lists.{Entry}
use Rattle.wm_spec.specs.declared.record.lock.Lock.{Lock}
use Rattle.wm_state.specs.Editing.{all_edited, entry_of, gained_in, implicit_name, keep_in, kept_in, locks_by, locks_in, parent_of, rebased, rebased_in, rebased_so, replayed_in, stays_locked, unlocked, unlocked_of, without}
use Rattle.wm_state.specs.State.{Durable, Savepoint, Workspace, next_making, with_entries, with_gained, with_savepoint, with_space, workspace_of}
use Rattle.wm_state.specs.declared.edit.Edit.{Edit}
use Rattle.wm_state.specs.declared.edit.Edit.TheVariants as edits
use Rattle.wm_state.specs.declared.edit.NewEntry.{NewEntry}
use Rattle.wm_state.proofs.Changing.{workspace_of-changed}
use Rattle.wm_state.proofs.EditedLater.{all_edited_append}
use Rattle.wm_model.specs.Merged.{after_edits, gain_edits, is_idle_at, keep_edits, merge_edits, rebase_edits, refresh_edits, replay_edits}
use Rattle.wm_model.specs.Step.{Asked, merged, refreshed, unlock_edits}

-- ---- a workspace among others

-- one that becomes what it was
pub with_space-same : (n : ℕ) (act : Workspace → Workspace) → ((w : Workspace) → act w ≡ w) → (ws : List Workspace) → with_space n act ws ≡ ws
with_space-same n act same [] = refl
with_space-same n act same (w ∷ ws) = by_test (w.number == n) (with_space-same n act same ws)
  where
    by_test : (b : Bool) → with_space n act ws ≡ ws → cond b (act w ∷ ws) (w ∷ with_space n act ws) ≡ w ∷ ws
    by_test true rest = ap (λ v. v ∷ ws) (same w)
    by_test false rest = ap (λ vs. w ∷ vs) rest

-- one that becomes another twice
pub with_space-again : (n : ℕ) (act more : Workspace → Workspace) → ((w : Workspace) → (act w).number ≡ w.number) → (ws : List Workspace) → with_space n more (with_space n act ws) ≡ with_space n (λ w. more (act w)) ws
with_space-again n act more keeps [] = refl
with_space-again n act more keeps (w ∷ ws) = by_test (w.number == n) refl (with_space-again n act more keeps ws)
  where
    by_test : (b : Bool) → (w.number == n) ≡ b → with_space n more (with_space n act ws) ≡ with_space n (λ v. more (act v)) ws
        → with_space n more (cond b (act w ∷ ws) (w ∷ with_space n act ws)) ≡ cond b (more (act w) ∷ ws) (w ∷ with_space n (λ v. more (act v)) ws)
    by_test true is rest = ap (λ c. cond c (more (act w) ∷ ws) (act w ∷ with_space n more ws)) (ap (λ k. k == n) (keeps w) ∙ is)
    by_test false is rest = ap (λ c. cond c (more w ∷ with_space n act ws) (w ∷ with_space n more (with_space n act ws))) is ∙ ap (λ vs. w ∷ vs) rest

-- one that becomes another and goes
pub without-changed : (n : ℕ) (act : Workspace → Workspace) → ((w : Workspace) → (act w).number ≡ w.number) → (ws : List Workspace) → without n (with_space n act ws) ≡ without n ws
without-changed n act keeps [] = refl
without-changed n act keeps (w ∷ ws) = by_test (w.number == n) refl (without-changed n act keeps ws)
  where
    by_test : (b : Bool) → (w.number == n) ≡ b → without n (with_space n act ws) ≡ without n ws → without n (cond b (act w ∷ ws) (w ∷ with_space n act ws)) ≡ without n (w ∷ ws)
    by_test true is rest =
        ap (λ c. cond (not c) (act w ∷ without n ws) (without n ws)) (ap (λ k. k == n) (keeps w) ∙ is) ∙ sym (ap (λ c. cond (not c) (w ∷ without n ws) (without n ws)) is)
    by_test false is rest =
        ap (λ c. cond (not c) (w ∷ without n (with_space n act ws)) (without n (with_space n act ws))) is
        ∙ ap (λ vs. w ∷ vs) rest
        ∙ sym (ap (λ c. cond (not c) (w ∷ without n ws) (without n ws)) is)

-- what is found where one becomes another
changed_here : (n : ℕ) (act : Workspace → Workspace) (ws : List Workspace) (w : Workspace) → ((v : Workspace) → (act v).number ≡ v.number) → workspace_of ws n ≡ Some w → workspace_of (with_space n act ws) n ≡ Some (act w)
changed_here n act ws w keeps found =
    workspace_of-changed n act keeps ws n
    ∙ ap (λ c. cond c (option_map act (workspace_of ws n)) (workspace_of ws n)) (eq-eqb n n refl)
    ∙ ap (option_map act) found

changed_other : (n k : ℕ) (act : Workspace → Workspace) (ws : List Workspace) (w : Workspace) → ((v : Workspace) → (act v).number ≡ v.number) → k ≢ n → workspace_of ws k ≡ Some w → workspace_of (with_space n act ws) k ≡ Some w
changed_other n k act ws w keeps other found =
    workspace_of-changed n act keeps ws k
    ∙ ap (λ c. cond c (option_map act (workspace_of ws k)) (workspace_of ws k)) (ne_eqb k n other)
    ∙ found

-- ---- edits that are made only where there is something to do

-- no entries leave a workspace as it is
append_none : (es : List Entry) (w : Workspace) → es ≡ [] → with_gained es w ≡ w
append_none es w none = ap (λ (xs : List Entry). with_gained xs w) none ∙ ap (λ (xs : List Entry). record w { lists = record w.lists { log = xs } }) (append-nil w.lists.log)

append_none_own : (es : List Entry) (w : Workspace) → es ≡ [] → with_entries es w ≡ w
append_none_own es w none =
    ap (λ (xs : List Entry). with_entries xs w) none
    ∙ ap (λ (xs : List Entry). record w { lists = record w.lists { own = xs; log = w.lists.log ++ [] } }) (append-nil w.lists.own)
    ∙ ap (λ (xs : List Entry). record w { lists = record w.lists { log = xs } }) (append-nil w.lists.log)

-- a list without elements
pub nothing_listed : {A : Type 0} (xs : List A) → (length xs == 0) ≡ true → xs ≡ []
nothing_listed [] none = refl
nothing_listed (x ∷ xs) none = absurd (apart (length xs) none)
  where
    apart : (n : ℕ) → (suc n == 0) ≡ true → ⊥
    apart n e = grind (arith, e)

none_mapped : (xs : List NewEntry) → (length xs == 0) ≡ true → map entry_of xs ≡ []
none_mapped xs none = ap (map entry_of) (nothing_listed xs none)

-- entries that a log gains
pub all_gained : (m n : ℕ) (entries : List NewEntry) (d : Durable) → all_edited m (gain_edits n entries) d ≡ gained_in n (map entry_of entries) d
all_gained m n entries d = by_test (length entries == 0) refl
  where
    by_test : (b : Bool) → (length entries == 0) ≡ b → all_edited m (cond b [] (edits.Gain n entries ∷ [])) d ≡ gained_in n (map entry_of entries) d
    by_test true none =
        ap (λ (ws : List Workspace). record d { spaces = ws })
        (sym (with_space-same n (with_gained (map entry_of entries)) (λ w. append_none (map entry_of entries) w (none_mapped entries none)) d.spaces))
    by_test false some = refl

-- entries that come into a workspace again
pub all_replayed : (m n : ℕ) (entries : List NewEntry) (d : Durable) → all_edited m (replay_edits n entries) d ≡ replayed_in n (map entry_of entries) d
all_replayed m n entries d = by_test (length entries == 0) refl
  where
    by_test : (b : Bool) → (length entries == 0) ≡ b → all_edited m (cond b [] (edits.Replay n entries ∷ [])) d ≡ replayed_in n (map entry_of entries) d
    by_test true none =
        ap (λ (ws : List Workspace). record d { spaces = ws })
        (sym (with_space-same n (with_entries (map entry_of entries)) (λ w. append_none_own (map entry_of entries) w (none_mapped entries none)) d.spaces))
    by_test false some = refl

-- locks that go
unlocked_none : (xs : List Lock) → filter (stays_locked []) xs ≡ xs
unlocked_none [] = refl
unlocked_none (x ∷ xs) = ap (λ ys. x ∷ ys) (unlocked_none xs)

pub all_unlocked : (m : ℕ) (makings : List ℕ) (d : Durable) → all_edited m (unlock_edits makings) d ≡ unlocked makings d
all_unlocked m [] d = ap (λ (xs : List Lock). record d { locks = xs }) (sym (unlocked_none d.locks))
all_unlocked m (making ∷ makings) d = refl

-- ---- a workspace on its parent

-- the parent of a workspace is there, and says of a rebase what this one does
record HasParent (ws : List Workspace) (n : ℕ) (q : Workspace) : Type 0 where
  parent : Workspace
  is : parent_of ws n ≡ Some parent
  same : (emptied : Bool) (v : Workspace) → rebased emptied parent v ≡ rebased emptied q v

has_parent : (ws : List Workspace) (n : ℕ) (w q : Workspace) → workspace_of ws n ≡ Some w → workspace_of ws w.parent ≡ Some q → HasParent ws n q
has_parent ws n w q found above = record { parent = q; is = ap (option_and_then (λ (v : Workspace). workspace_of ws v.parent)) found ∙ above; same = λ emptied v. refl }

-- a rebase and what the log gains then, where nothing is gained too
rebased_gained : (m n : ℕ) (emptied : Bool) (q : Workspace) (entries : List NewEntry) (d : Durable) → HasParent d.spaces n q
    → all_edited m (edits.Rebase n emptied ∷ gain_edits n entries) d ≡ record d { spaces = with_space n (λ v. rebased emptied q (with_gained (map entry_of entries) v)) d.spaces }
rebased_gained m n emptied q entries d has =
    all_gained m n entries (rebased_so n emptied d)
    ∙ ap (λ (o : Option Workspace). gained_in n es (unwrap_or (option_map (rebased_in n emptied d) o) d)) has.is
    ∙ ap (λ (ws : List Workspace). record d { spaces = ws }) (with_space-again n (rebased emptied has.parent) (with_gained es) (λ v. refl) d.spaces)
    ∙ ap (λ (act : Workspace → Workspace). record d { spaces = with_space n act d.spaces }) (λ i v. has.same emptied (with_gained es v) i)
  where
    es : List Entry
    es = map entry_of entries

-- ---- a refresh

pub all_refreshed : (m : ℕ) (w q : Workspace) (entries : List NewEntry) (d : Durable) → workspace_of d.spaces w.number ≡ Some w → workspace_of d.spaces w.parent ≡ Some q
    → all_edited m (refresh_edits w.number entries) d ≡ record d { spaces = with_space w.number (refreshed (map entry_of entries) q) d.spaces }
all_refreshed m w q entries d found above = rebased_gained m w.number false q entries d (has_parent d.spaces w.number w q found above)

-- ---- a merge

-- where a savepoint of the parent is kept first, if it is, and what is merged stands in the parent then
abbrev kept_first : Bool → ℕ → Workspace → Durable → Durable
kept_first keeps m q d = if keeps then kept_in m q.number d else d

-- the workspace goes, where that is asked for, and its locks go
abbrev left_so : Bool → ℕ → Durable → Durable
left_so removes n d = record d { spaces = if removes then without n d.spaces else d.spaces; locks = unlocked_of n d.locks }

-- what becomes of a state by a merge, whether anything is pending or merged being told
abbrev pub merged_by : Asked → Bool → ℕ → List Entry → List Entry → Workspace → Workspace → Durable → Durable
merged_by asked even m own es q w d = left_so asked.removes w.number (if even then kept_first asked.keeps m q d else merged own es q w (kept_first asked.keeps m q d))

module _ (m : ℕ) (w q : Workspace) (d : Durable) (found : workspace_of d.spaces w.number ≡ Some w) (above : workspace_of d.spaces q.number ≡ Some q) (parent : w.parent ≡ q.number) (apart : w.number ≢ q.number) where
  -- the workspace and its parent, which may have a savepoint more
  record Kept (ws : List Workspace) : Type 0 where
    kept : Workspace
    child : workspace_of ws w.number ≡ Some w
    is : workspace_of ws q.number ≡ Some kept
    same : (own : List Entry) (emptied : Bool) (v : Workspace) → rebased emptied (with_entries own kept) v ≡ rebased emptied (with_entries own q) v

  kept : (keeps : Bool) → Kept (kept_first keeps m q d).spaces
  kept false = record { kept = q; child = found; is = above; same = λ own emptied v. refl }
  kept true = subst Kept (ap (λ (o : Option Workspace). (unwrap_or (option_and_then (keep_in m d) o) d).spaces) (sym above)) (record {
    kept = with_savepoint (q.next_place + 1) (q.next_implicit + 1) k q;
    child = changed_other q.number w.number (with_savepoint (q.next_place + 1) (q.next_implicit + 1) k) d.spaces w (λ v. refl) apart found;
    is = changed_here q.number (with_savepoint (q.next_place + 1) (q.next_implicit + 1) k) d.spaces q (λ v. refl) above;
    same = λ own emptied v. refl;
  })
    where
      k : Savepoint
      k = record {
        making = next_making d.spaces;
        name = implicit_name q;
        implicit = true;
        place = q.next_place;
        moment = m;
        base = q.lists.base;
        own = q.lists.own;
        from = q.from;
        log_length = length q.lists.log;
        rebases = q.rebases;
      }

  -- what is merged stands in the parent, and the workspace on it
  has_merged : (own : List Entry) (e : Durable) → Kept e.spaces → HasParent (replayed_in q.number own e).spaces w.number (with_entries own q)
  has_merged own e k = record {
    parent = with_entries own k.kept;
    is =
        ap (option_and_then (λ (v : Workspace). workspace_of (replayed_in q.number own e).spaces v.parent)) (changed_other q.number w.number (with_entries own) e.spaces w (λ v. refl) apart k.child)
        ∙ ap (workspace_of (replayed_in q.number own e).spaces) parent
        ∙ changed_here q.number (with_entries own) e.spaces k.kept (λ v. refl) k.is;
    same = k.same own;
  }

  all_kept : (keeps : Bool) (fs : List Edit) → all_edited m (keep_edits keeps q.number ++ fs) d ≡ all_edited m fs (kept_first keeps m q d)
  all_kept true fs = refl
  all_kept false fs = refl

  -- where nothing is merged, nothing comes into the parent
  replayed_none : (own : List Entry) (e : Durable) → own ≡ [] → replayed_in q.number own e ≡ e
  replayed_none own e none = ap (λ (ws : List Workspace). record e { spaces = ws }) (with_space-same q.number (with_entries own) (λ v. append_none_own own v none) e.spaces)

  -- the workspace on its parent
  all_rebased : (even : Bool) (own : List Entry) (entries : List NewEntry) (e : Durable) → Kept e.spaces → (even ≡ true → own ≡ [])
      → all_edited m (rebase_edits even w.number entries) (replayed_in q.number own e) ≡ (if even then e else merged own (map entry_of entries) q w e)
  all_rebased true own entries e k none = replayed_none own e (none refl)
  all_rebased false own entries e k none = rebased_gained m w.number true (with_entries own q) entries (replayed_in q.number own e) (has_merged own e k)

  -- what comes behind
  all_after : (removes even : Bool) (own : List Entry) (entries : List NewEntry) (makings : List ℕ) (e : Durable) → Kept e.spaces → (even ≡ true → own ≡ []) → filter (stays_locked makings) e.locks ≡ unlocked_of w.number e.locks
      → all_edited m (after_edits removes even w.number entries makings) (replayed_in q.number own e) ≡ left_so removes w.number (if even then e else merged own (map entry_of entries) q w e)
  all_after true true own entries makings e k none goes = ap (left_so true w.number) (replayed_none own e (none refl))
  all_after true false own entries makings e k none goes =
      ap (λ (ws : List Workspace). record e { spaces = ws; locks = unlocked_of w.number e.locks })
      (sym (without-changed w.number (λ v. rebased true (with_entries own q) (with_gained (map entry_of entries) v)) (λ v. refl) (with_space q.number (with_entries own) e.spaces)))
  all_after false even own entries makings e k none goes =
      all_edited_append m (rebase_edits even w.number entries) (unlock_edits makings) (replayed_in q.number own e)
      ∙ ap (all_edited m (unlock_edits makings)) (all_rebased even own entries e k none)
      ∙ all_unlocked m makings (if even then e else merged own (map entry_of entries) q w e)
      ∙ by_even even
    where
      by_even : (b : Bool) → unlocked makings (if b then e else merged own (map entry_of entries) q w e) ≡ left_so false w.number (if b then e else merged own (map entry_of entries) q w e)
      by_even true = ap (λ (xs : List Lock). record e { locks = xs }) goes
      by_even false = ap (λ (xs : List Lock). record (merged own (map entry_of entries) q w e) { locks = xs }) goes

  -- a savepoint more leaves the locks
  kept_locks : (keeps : Bool) → (kept_first keeps m q d).locks ≡ d.locks
  kept_locks false = refl
  kept_locks true = ap (λ (o : Option Workspace). (unwrap_or (option_and_then (keep_in m d) o) d).locks) above

  -- where locks of these makings are those of the workspace
  pub all_merged : (asked : Asked) (even : Bool) (own entries : List NewEntry) (makings : List ℕ) → (even ≡ true → map entry_of own ≡ []) → filter (stays_locked makings) d.locks ≡ unlocked_of w.number d.locks
      → all_edited m (merge_edits asked even w.number q.number own entries makings) d ≡ merged_by asked even m (map entry_of own) (map entry_of entries) q w d
  all_merged asked even own entries makings none goes =
      all_kept asked.keeps (replay_edits q.number own ++ after_edits asked.removes even w.number entries makings)
      ∙ all_edited_append m (replay_edits q.number own) (after_edits asked.removes even w.number entries makings) (kept_first asked.keeps m q d)
      ∙ ap (all_edited m (after_edits asked.removes even w.number entries makings)) (all_replayed m q.number own (kept_first asked.keeps m q d))
      ∙ all_after asked.removes even (map entry_of own) entries makings (kept_first asked.keeps m q d) (kept asked.keeps) none
      (ap (filter (stays_locked makings)) (kept_locks asked.keeps) ∙ goes ∙ sym (ap (unlocked_of w.number) (kept_locks asked.keeps)))

-- none of the edits locks
gain_lockless : (n : ℕ) (entries : List NewEntry) → locks_in (gain_edits n entries) ≡ 0
gain_lockless n entries = by_test (length entries == 0)
  where
    by_test : (b : Bool) → locks_in (cond b [] (edits.Gain n entries ∷ [])) ≡ 0
    by_test true = refl
    by_test false = refl

pub refresh_lockless : (n : ℕ) (entries : List NewEntry) → locks_in (refresh_edits n entries) ≡ 0
refresh_lockless n entries = ap (λ k. 0 + k) (gain_lockless n entries)

unlock_lockless : (makings : List ℕ) → locks_in (unlock_edits makings) ≡ 0
unlock_lockless [] = refl
unlock_lockless (making ∷ makings) = refl

-- edits behind others
lockless_append : (es fs : List Edit) → locks_in es ≡ 0 → locks_in fs ≡ 0 → locks_in (es ++ fs) ≡ 0
lockless_append [] fs none more = more
lockless_append (e ∷ es) fs none more = let h = both (locks_by e) (locks_in es) none in ap (λ k. locks_by e + k) (lockless_append es fs h.1 more) ∙ ap (λ k. k + 0) h.0
  where
    both : (j k : ℕ) → j + k ≡ 0 → (j ≡ 0) × (k ≡ 0)
    both j k e = (omega (arith, e), omega (arith, e))

pub merge_lockless : (asked : Asked) (even : Bool) (n parent : ℕ) (own entries : List NewEntry) (makings : List ℕ) → locks_in (merge_edits asked even n parent own entries makings) ≡ 0
merge_lockless asked even n parent own entries makings =
    lockless_append (keep_edits asked.keeps parent) (replay_edits parent own ++ after_edits asked.removes even n entries makings) (by_keeps asked.keeps)
    (lockless_append (replay_edits parent own) (after_edits asked.removes even n entries makings) (by_own (length own == 0)) (by_removes asked.removes))
  where
    by_keeps : (b : Bool) → locks_in (keep_edits b parent) ≡ 0
    by_keeps true = refl
    by_keeps false = refl

    by_own : (b : Bool) → locks_in (cond b [] (edits.Replay parent own ∷ [])) ≡ 0
    by_own true = refl
    by_own false = refl

    by_even : (b : Bool) → locks_in (rebase_edits b n entries) ≡ 0
    by_even true = refl
    by_even false = ap (λ k. 0 + k) (gain_lockless n entries)

    by_removes : (b : Bool) → locks_in (after_edits b even n entries makings) ≡ 0
    by_removes true = refl
    by_removes false = lockless_append (rebase_edits even n entries) (unlock_edits makings) (by_even even) (unlock_lockless makings)

-- a merge that does anything makes an edit
pub merge_some : (asked : Asked) (even : Bool) (n k : ℕ) (own entries : List NewEntry) (makings : List ℕ) → is_idle_at asked even makings ≡ false → merge_edits asked even n k own entries makings ≡ [] → ⊥
merge_some asked even n k own entries makings some none = by_asked asked.keeps asked.removes even makings some (replay_edits k own) none
  where
    behind : (front : List Edit) (e : Edit) (back : List Edit) → front ++ e ∷ back ≡ [] → ⊥
    behind [] e back h = absurd (cc)
    behind (f ∷ front) e back h = absurd (cc)

    by_asked : (keeps removes b : Bool) (xs : List ℕ) → (b && ((length xs == 0) && not (keeps || removes))) ≡ false → (front : List Edit) → keep_edits keeps k ++ (front ++ after_edits removes b n entries xs) ≡ [] → ⊥
    by_asked true removes b xs h front e = absurd (cc)
    by_asked false true b xs h front e = behind front (edits.Remove n) [] e
    by_asked false false true [] h front e = absurd (cc)
    by_asked false false true (x ∷ xs) h front e = behind front (edits.Unlock (x ∷ xs)) [] e
    by_asked false false false xs h front e = behind front (edits.Rebase n true) (gain_edits n entries ++ unlock_edits xs) e
