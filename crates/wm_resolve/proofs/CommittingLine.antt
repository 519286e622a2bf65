-- What CommitResolve does to each state that the records stand for.
use Rattle.std.proofs.Common.{◌≡◌, ℕ, ◌+◌, ◌-◌, ◌==◌, nat_lt, length, Bool, true, false, if◌then◌else◌, List, [], ◌∷◌, ◌++◌, map, Option, Some, None, refl, sym, ap, ◌∙◌, codes, subst}
use Rattle.std.proofs.lemmas.List.Elements.{All-head, All-nil, All-tail}
use Rattle.std.proofs.lemmas.Option.{same_Some}
use Rattle.std.specs.List.{All, find}
use Rattle.std.specs.Str.{bytes_eq}
use Rattle.std.specs.Option.{option_map_or}
use Rattle.wm_base.specs.declared.refusal.Refusal.{Refusal}
use Rattle.wm_decided.specs.Netted.{entries_decided, marks_of}
use Rattle.wm_decided.specs.Staged.{AreStaged, IsStaged, IsStagedResolve}
use Rattle.wm_graph.specs.Parts.{parts_of}
use Rattle.wm_net.specs.Conflicts.{Settled}
use Rattle.wm_outline.proofs.Outlines.{outline_is}
use Rattle.wm_outline.specs.Outline.{Outline, outline, outline_of}
use Rattle.wm_print.specs.Texts.{Answer, Fine, Refused}
use Rattle.wm_spec.specs.Lists.{Entry}
use Rattle.wm_spec.specs.declared.record.counters.Counters.{Counters}
use Rattle.wm_spec.specs.declared.record.space.Space.{Space}
use Rattle.wm_spec.specs.declared.record.stored.Stored.{Stored}
use Rattle.wm_state.specs.Drafts.{CanDraft}
use Rattle.wm_state.specs.Editing.{all_edited, drafted, entry_of, settled_by, settled_in, with_marks}
use Rattle.wm_state.specs.Standing.{SpaceFields}
use Rattle.wm_state.specs.State.{Decision, Durable, Resolve, Session, State, Workspace, with_entries, with_space, workspace_of}
use Rattle.wm_state.specs.declared.edit.Edit.{Edit}
use Rattle.wm_state.specs.declared.edit.Edit.TheVariants as edits
use Rattle.wm_state.specs.declared.edit.NewEntry.{NewEntry}
use Rattle.wm_state.specs.declared.edit.NewMark.{NewMark}
use Rattle.wm_model.specs.Planning.{StandsAt, Does, IsOpen, Set, Stay}
use Rattle.wm_model.specs.Step.{at_its_end, cells_of, claim_of, commit, commit_resolve, counter_limit, decisions_of, durably, has_open, line_work, lock_fault, resolved, set_of, unless}
use Rattle.wm_model.specs.Step.Sessions as settings
use Rattle.wm_model.specs.Undone.{NamesSpace}
use Rattle.wm_state.proofs.EditedLater.{all_edited_append}
use Rattle.wm_model.specs.Merged.{replay_edits}
use Rattle.wm_model.proofs.MergedEdits.{all_replayed, with_space-again}
use Rattle.wm_model.proofs.Doing.{does_nothing, does_seat, not_spent_at, spent_at, spent_log}
use Rattle.wm_model.proofs.Recorded.{home}
use Rattle.wm_resolve.proofs.OpeningLine.{resolving}
use Rattle.wm_resolve.specs.Committed.{commit_edits}

abbrev pub commit_to : Session → Workspace → State → State × Answer
commit_to session w s = commit session (decisions_of session) w s

-- a workspace among others that becomes what another function makes of it
with_space-here : (n : ℕ) (act other : Workspace → Workspace) (w : Workspace) (ws : List Workspace) → workspace_of ws n ≡ Some w → act w ≡ other w → with_space n act ws ≡ with_space n other ws
with_space-here n act other w [] found same = refl
with_space-here n act other w (v ∷ vs) found same = by_test (v.number == n) found (λ there. with_space-here n act other w vs there same)
  where
    by_test : (b : Bool) → (if b then Some v else workspace_of vs n) ≡ Some w → (workspace_of vs n ≡ Some w → with_space n act vs ≡ with_space n other vs)
        → (if b then act v ∷ vs else v ∷ with_space n act vs) ≡ (if b then other v ∷ vs else v ∷ with_space n other vs)
    by_test true is rest = ap (λ (x : Workspace). x ∷ vs) (subst (λ (x : Workspace). act x ≡ other x) (sym (same_Some v w is)) same)
    by_test false is rest = ap (λ (xs : List Workspace). v ∷ xs) (rest is)

-- edits that are some are counted
some_edits : (m n : ℕ) (none : Bool) (entries : List NewEntry) (marks : List NewMark) (d : Durable)
    → let es : List Edit = (if none then [] else edits.Replay n entries ∷ []) ++ edits.Settle n marks ∷ [] in drafted m es d ≡ record (all_edited m es d) { last_moment = m; work = d.work + line_work }
some_edits m n true entries marks d = refl
some_edits m n false entries marks d = refl

-- nothing was decided
pub commit_empty : (rs : List Stored) (xs : List Session) (m : ℕ) (session : Session) (workspace : List ℕ) (a : Space) → NamesSpace rs workspace a → has_open a.number session ≡ true → decisions_of session ≡ []
    → Does rs xs m [] (Set session.name settings.End) Fine (commit_resolve session workspace)
commit_empty rs xs m session workspace a names has none =
    does_seat rs xs m (Set session.name settings.End) Fine (commit_resolve session workspace) tt
    (λ s st. let w : Workspace = (home rs xs m workspace a s names st).workspace in
    resolving rs xs m session workspace (commit_to session) a true s names st has ∙ ap (λ ds. commit session ds w s) none)

-- something was: what the entries and marks come to, and an answer
abbrev committed : Session → State → ℕ → List Entry → List Settled → State × Answer
committed session s n es ms = (record (set_of session settings.End s) { durable = record s.durable { spaces = with_space n (resolved es ms) s.durable.spaces } }, Fine)

-- a session that has a resolve of a workspace open, in which something is decided, and what that comes to
pub record Commits (rs : List Stored) (m : ℕ) (session : Session) (workspace : List ℕ) (a : Space) (ds : List Decision) (es : List Entry) : Type 0 where
  pub names : NamesSpace rs workspace a
  pub has : has_open a.number session ≡ true
  pub decisions : decisions_of session ≡ ds
  pub some : (ds ≡ []) → ⊥
  pub entries : es ≡ entries_decided m session.user ds

module _ (rs : List Stored) (xs : List Session) (m : ℕ) (session : Session) (workspace : List ℕ) (a : Space) (ds : List Decision) (es : List Entry) (c : Commits rs m session workspace a ds es) where
  -- what locks refuse the line for
  abbrev pub barred_by : Option Refusal
  barred_by = lock_fault (outline_of (parts_of rs) xs m) (claim_of session a.number) (map cells_of es)

  -- the line, by the entries and the log
  commits : (s : State) (st : StandsAt rs xs m s) → let w : Workspace = (home rs xs m workspace a s c.names st).workspace in
      commit_resolve session workspace s ≡ unless barred_by s (durably s (a.log_length + length es) (committed session s w.number es (marks_of (w.next_place - 1) ds)))
  commits s st =
      let h = home rs xs m workspace a s c.names st in
      let w : Workspace = h.workspace in
      resolving rs xs m session workspace (commit_to session) a true s c.names st c.has
      ∙ ap (λ ys. commit session ys w s) c.decisions
      ∙ some_decided ds w c.some
      ∙ ap (λ n. at (outline s) w.number w (length w.lists.log) (entries_decided n session.user ds) ds) (sym st.moment_is)
      ∙ ap (λ (ys : List Entry). at (outline s) w.number w (length w.lists.log) ys ds) (sym c.entries)
      ∙ ap (λ (x : SpaceFields). at (outline s) w.number w x.log_length es ds) (sym h.is.fields)
      ∙ ap (λ (o : Outline). at o w.number w a.log_length es ds) (sym (outline_is (parts_of rs) xs m s st.stands st.sessions_are st.moment_is))
      ∙ ap (λ n. at (outline_of (parts_of rs) xs m) n w a.log_length es ds) h.is.number
    where
      at : Outline → ℕ → Workspace → ℕ → List Entry → List Decision → State × Answer
      at o n w log ys xs = unless (lock_fault o (claim_of session n) (map cells_of ys)) s (durably s (log + length ys) (committed session s w.number ys (marks_of (w.next_place - 1) xs)))

      some_decided : (xs : List Decision) (w : Workspace) → ((xs ≡ []) → ⊥) → commit session xs w s ≡ at (outline s) w.number w (length w.lists.log) (entries_decided s.moment session.user xs) xs
      some_decided [] w some = absurd (some refl)
      some_decided (x ∷ xs) w some = refl

  -- a lock bars it
  pub commit_locked : (refusal : Refusal) → barred_by ≡ Some refusal → Does rs xs m [] Stay (Refused refusal) (commit_resolve session workspace)
  commit_locked refusal some =
      does_nothing rs xs m (Refused refusal) (commit_resolve session workspace)
      (λ s st. let w : Workspace = (home rs xs m workspace a s c.names st).workspace in
      commits s st ∙ ap (λ o. unless o s (durably s (a.log_length + length es) (committed session s w.number es (marks_of (w.next_place - 1) ds)))) some)

  -- none does
  clears : (s : State) (st : StandsAt rs xs m s) → barred_by ≡ None → let w : Workspace = (home rs xs m workspace a s c.names st).workspace in
      commit_resolve session workspace s ≡ durably s (a.log_length + length es) (committed session s w.number es (marks_of (w.next_place - 1) ds))
  clears s st none =
      let w : Workspace = (home rs xs m workspace a s c.names st).workspace in
      commits s st ∙ ap (λ o. unless o s (durably s (a.log_length + length es) (committed session s w.number es (marks_of (w.next_place - 1) ds)))) none

  pub commit_long : barred_by ≡ None → nat_lt counter_limit (a.log_length + length es) ≡ true → Does rs xs m [] Stay (at_its_end (codes "LOG")) (commit_resolve session workspace)
  commit_long none long =
      does_nothing rs xs m (at_its_end (codes "LOG")) (commit_resolve session workspace)
      (λ s st. let w : Workspace = (home rs xs m workspace a s c.names st).workspace in
      clears s st none ∙ spent_log s (a.log_length + length es) (committed session s w.number es (marks_of (w.next_place - 1) ds)) long)

  pub commit_spent : (k : Counters) → barred_by ≡ None → nat_lt counter_limit (a.log_length + length es) ≡ false → (parts_of rs).counters ≡ k ∷ [] → nat_lt counter_limit (k.work + line_work) ≡ true
      → Does rs xs m [] Stay (at_its_end (codes "WORK")) (commit_resolve session workspace)
  commit_spent k none short one much =
      does_nothing rs xs m (at_its_end (codes "WORK")) (commit_resolve session workspace)
      (λ s st. let w : Workspace = (home rs xs m workspace a s c.names st).workspace in
      clears s st none ∙ spent_at rs xs m s (a.log_length + length es) k (committed session s w.number es (marks_of (w.next_place - 1) ds)) st one short much)

  -- what a session that is open has staged can be committed
  pub commit_unstaged : (answer : Answer) → IsOpen xs session → (All (IsStaged (parts_of rs)) ds → ⊥) → Does rs xs m [] Stay answer (commit_resolve session workspace)
  commit_unstaged answer among never =
      does_nothing rs xs m answer (commit_resolve session workspace)
      (λ s st. absurd (never (subst (All (IsStaged (parts_of rs))) c.decisions (by_resolve session.resolve (staged_found (λ (x : Session). bytes_eq among.name x.name) xs session st.staged among.found)))))
    where
      staged_found : (test : Session → Bool) (ys : List Session) (x : Session) → AreStaged (parts_of rs) ys → find test ys ≡ Some x → IsStagedResolve (parts_of rs) x.resolve
      staged_found test [] x each found = absurd (cc)
      staged_found test (y ∷ ys) x each found = by_test (test y) (staged_found test ys x (All-tail (λ (z : Session). IsStagedResolve (parts_of rs) z.resolve) y ys each)) found
        where
          by_test : (b : Bool) → (find test ys ≡ Some x → IsStagedResolve (parts_of rs) x.resolve) → (if b then Some y else find test ys) ≡ Some x → IsStagedResolve (parts_of rs) x.resolve
          by_test true rest is = subst (λ (z : Session). IsStagedResolve (parts_of rs) z.resolve) (same_Some y x is) (All-head (λ (z : Session). IsStagedResolve (parts_of rs) z.resolve) y ys each)
          by_test false rest is = rest is

      by_resolve : (o : Option Resolve) → IsStagedResolve (parts_of rs) o → All (IsStaged (parts_of rs)) (option_map_or (λ (r : Resolve). r.decisions) o [])
      by_resolve None staged = All-nil (IsStaged (parts_of rs))
      by_resolve (Some r) staged = staged

  -- ---- the plan

  made : (w : Workspace) (entries : List NewEntry) (marks : List NewMark) (d : Durable) → w.number ≡ a.number → workspace_of d.spaces a.number ≡ Some w → es ≡ map entry_of entries
      → map (settled_by (w.next_place - 1)) marks ≡ marks_of (w.next_place - 1) ds
      → all_edited m (commit_edits a.number entries marks) d ≡ record d { spaces = with_space w.number (resolved es (marks_of (w.next_place - 1) ds)) d.spaces }
  made w entries marks d number found is marked =
      all_edited_append m (replay_edits a.number entries) (edits.Settle a.number marks ∷ []) d
      ∙ ap (settled_in a.number marks) (all_replayed m a.number entries d)
      ∙ ap (λ (ws : List Workspace). record d { spaces = ws })
      (with_space-again a.number (with_entries (map entry_of entries)) (with_marks marks) (λ v. refl) d.spaces
      ∙ with_space-here a.number (λ v. with_marks marks (with_entries (map entry_of entries) v)) (resolved es (marks_of (w.next_place - 1) ds)) w d.spaces found
      (λ i. resolved (sym is i) (marked i) w)
      ∙ ap (λ n. with_space n (resolved es (marks_of (w.next_place - 1) ds)) d.spaces) (sym number))

  pub does_commit : (k : Counters) (entries : List NewEntry) (marks : List NewMark) → barred_by ≡ None → es ≡ map entry_of entries → ((place : ℕ) → map (settled_by place) marks ≡ marks_of place ds)
      → CanDraft rs m (commit_edits a.number entries marks) → nat_lt counter_limit (a.log_length + length es) ≡ false → (parts_of rs).counters ≡ k ∷ [] → nat_lt counter_limit (k.work + line_work) ≡ false
      → Does rs xs m (commit_edits a.number entries marks) (Set session.name settings.End) Fine (commit_resolve session workspace)
  does_commit k entries marks none is marked can short one spare = record {
    can = can;
    seats = tt;
    does = λ s st. let h = home rs xs m workspace a s c.names st in
        let w = h.workspace in
        clears s st none
        ∙ not_spent_at rs xs m s (a.log_length + length es) k (committed session s w.number es (marks_of (w.next_place - 1) ds)) st one short spare
        ∙ ap (λ (d : Durable). (record (set_of session settings.End s) { durable = record d { last_moment = m; work = s.durable.work + line_work } }, Fine)) (sym (made w entries marks s.durable h.is.number h.is.found is (marked (w.next_place - 1))))
        ∙ ap (λ (d : Durable). (record (set_of session settings.End s) { durable = d }, Fine)) (sym (some_edits m a.number (length entries == 0) entries marks s.durable))
        ∙ ap (λ n. (record (set_of session settings.End s) { durable = drafted m (commit_edits a.number entries marks) s.durable; moment = n }, Fine)) (sym st.moment_is);
  }
