-- What RefreshWorkspace does to each state that the records stand for.
use Rattle.std.proofs.Common.{◌≡◌, ℕ, ◌+◌, ◌≤◌, ◌&&◌, not, nat_le, nat_lt, length, Bool, true, false, cond, List, [], ◌∷◌, map, Option, Some, None, is_some, refl, sym, ap, ◌∙◌, codes, arith, ◌⊎◌, inl, inr}
use Rattle.std.proofs.lemmas.List.{length-map}
use Rattle.std.proofs.lemmas.Bool.{and_from, true≢false}
use Rattle.std.specs.Bool.{then_some}
use Rattle.std.specs.List.{find, list_all, list_any}
use Rattle.std.specs.Str.{bytes_eq}
use Rattle.wm_base.specs.declared.refusal.Refusal.{Refusal as Fault}
use Rattle.wm_graph.specs.Parts.{parts_of}
use Rattle.wm_graph.specs.Rules.{keep_rules}
use Rattle.wm_print.specs.Texts.{Answer, Fine, Refused}
use Rattle.wm_spec.proofs.Reaching.{reach_within}
use Rattle.wm_spec.specs.Lists.{Cell, Entry, reach}
use Rattle.wm_spec.specs.declared.record.counters.Counters.{Counters}
use Rattle.wm_spec.specs.declared.record.space.Space.{Space}
use Rattle.wm_spec.specs.declared.record.stored.Stored.{Stored}
use Rattle.wm_state.specs.Copied.{KeyPieces}
use Rattle.wm_state.specs.Drafts.{CanDraft, is_turn}
use Rattle.wm_state.specs.Editing.{all_edited, entry_of}
use Rattle.wm_state.specs.Standing.{SpaceFields}
use Rattle.wm_state.specs.State.{Durable, Session, State, Workspace, with_space, workspace_of}
use Rattle.wm_state.specs.declared.edit.NewEntry.{NewEntry}
use Rattle.wm_telling.specs.Telling.{AreOwn, clash_held, is_unsettled, own_held, stamps_of}
use Rattle.wm_telling.proofs.Beside.{pending_reach}
use Rattle.wm_model.specs.Merged.{Clashed, IsClash, NamesFamily, Refreshes, are_keys_kept, clash_fault, is_quiet_at, is_ready_entry, refresh_edits, refreshing_refusal}
use Rattle.wm_model.specs.Planning.{StandsAt, Does, Stay}
use Rattle.wm_model.specs.Step.{at_its_end, counter_limit, durably, first_fault, gained_of, is_quiet, line_work, no_parent, no_workspace, number_limit, refresh, refresh_workspace, refreshed, refreshing_faults, refused_if, resolving_fault, unless}
use Rattle.wm_model.specs.Undone.{NamesSpace, resolving_refusal}
use Rattle.wm_model.proofs.Doing.{does_nothing, not_spent_at, spent_at, spent_log}
use Rattle.wm_model.proofs.Families.{Family, conflict_same, does_edits, does_homeless, does_liveless, family, gained_same, quiet_same}
use Rattle.wm_model.proofs.MergedEdits.{all_refreshed, refresh_lockless}
use Rattle.wm_model.proofs.Recorded.{resolving_same}
use Rattle.wm_model.proofs.Unready.{gained_ready, keys_kept, unturned}

-- ---- refusals by names

abbrev refresh_to : Session → Workspace → Workspace → State → State × Answer
refresh_to session p w s = unless (first_fault (refreshing_faults s p w)) s (refresh session p w s)

pub refresh_homeless : (rs : List Stored) (xs : List Session) (m : ℕ) (session : Session) (workspace : List ℕ) → keep_rules (parts_of rs) ≡ true → find (λ (r : Space). bytes_eq workspace r.name) (parts_of rs).spaces ≡ None
    → Does rs xs m [] Stay (no_workspace workspace) (refresh_workspace session workspace)
refresh_homeless rs xs m session workspace rules none = does_homeless rs xs m workspace (refresh_to session) rules none

pub refresh_liveless : (rs : List Stored) (xs : List Session) (m : ℕ) (session : Session) (workspace : List ℕ) (a : Space) → NamesSpace rs workspace a → a.number ≡ 0
    → Does rs xs m [] Stay (no_parent workspace) (refresh_workspace session workspace)
refresh_liveless rs xs m session workspace a names live = does_liveless rs xs m workspace a (refresh_to session) names live

-- ---- what it is refused for

module _ (rs : List Stored) (xs : List Session) (m : ℕ) (workspace : List ℕ) (a b : Space) (s : State) (st : StandsAt rs xs m s) (f : Family rs workspace a b s) where
  -- by what is looked up in the records
  open_same : resolving_fault s f.w ≡ resolving_refusal xs a
  open_same = resolving_same (parts_of rs) a s f.w f.is ∙ ap (λ ys. resolving_refusal ys a) (sym st.sessions_are)

  rebasing_same : (quiet : Bool) → is_quiet_at a b ≡ quiet
      → refused_if (not (is_quiet f.q f.w) && nat_lt number_limit (f.w.rebases + 1)) (at_its_end (codes "REBASE")) ≡ refused_if (not quiet && nat_lt number_limit (a.rebases + 1)) (at_its_end (codes "REBASE"))
  rebasing_same quiet is =
      ap (λ t. refused_if (not t && nat_lt number_limit (f.w.rebases + 1)) (at_its_end (codes "REBASE"))) (quiet_same rs workspace a b s f ∙ is)
      ∙ ap (λ (x : SpaceFields). refused_if (not quiet && nat_lt number_limit (x.rebases + 1)) (at_its_end (codes "REBASE"))) (sym f.is.fields)

  faults_same : (found : Option Clashed) (quiet : Bool) → IsClash (parts_of rs) a b found → is_quiet_at a b ≡ quiet
      → first_fault (refreshing_faults s f.q f.w)
      ≡ first_fault (resolving_refusal xs a ∷ clash_fault (parts_of rs) found ∷ refused_if (not quiet && nat_lt number_limit (a.rebases + 1)) (at_its_end (codes "REBASE")) ∷ [])
  faults_same found quiet clash is = λ i. first_fault (open_same i ∷ conflict_same rs workspace a b s f found clash i ∷ rebasing_same quiet is i ∷ [])

  -- the line, by its refusal
  by_refusal : (session : Session) (o : Option Fault) → first_fault (refreshing_faults s f.q f.w) ≡ o → refresh_workspace session workspace s ≡ unless o s (refresh session f.q f.w s)
  by_refusal session o is = f.line (refresh_to session) ∙ ap (λ r. unless r s (refresh session f.q f.w s)) is

-- ---- a parent that changed nothing

-- nothing is in conflict there
no_clash : (rs : List Stored) (workspace : List ℕ) (a b : Space) (s : State) → Family rs workspace a b s → is_quiet_at a b ≡ true → (c : Cell) → clash_held (parts_of rs) a b c ≡ None
no_clash rs workspace a b s f quiet c =
    ap (λ t. then_some (is_some (own_held (parts_of rs) a c) && (t && is_unsettled (parts_of rs) a b c)) (stamps_of (parts_of rs) a b c))
    (pending_reach (parts_of rs) s.durable a.number f.w f.q a b f.beside c
    ∙ inside f.w.from (reach f.q.lists.log c) (length f.q.lists.log) (reach_within f.q.lists.log c) (quiet_same rs workspace a b s f ∙ quiet))
    ∙ by_own (is_some (own_held (parts_of rs) a c))
  where
    inside : (from reached log : ℕ) → reached ≤ log → nat_le log from ≡ true → nat_lt from reached ≡ false
    inside from reached log le within = grind (arith, le, within)

    by_own : (t : Bool) → then_some (t && false) (stamps_of (parts_of rs) a b c) ≡ None
    by_own true = refl
    by_own false = refl

pub refresh_quiet : (rs : List Stored) (xs : List Session) (m : ℕ) (session : Session) (workspace : List ℕ) (a b : Space) → NamesFamily rs workspace a b → resolving_refusal xs a ≡ None → is_quiet_at a b ≡ true
    → Does rs xs m [] Stay Fine (refresh_workspace session workspace)
refresh_quiet rs xs m session workspace a b names clear quiet =
    does_nothing rs xs m Fine (refresh_workspace session workspace)
    (λ s st. let f = family rs xs m workspace a b s names st in
    by_refusal rs xs m workspace a b s st f session None
    (faults_same rs xs m workspace a b s st f None true (no_clash rs workspace a b s f quiet) quiet ∙ ap (λ o. first_fault (o ∷ None ∷ None ∷ [])) clear)
    ∙ at_rest f.q f.w s (quiet_same rs workspace a b s f ∙ quiet))
  where
    at_rest : (q w : Workspace) (s : State) → is_quiet q w ≡ true → refresh session q w s ≡ (s, Fine)
    at_rest q w s is = rw is refl

-- ---- the plans

-- a resolve of the workspace is open
pub refresh_open : (rs : List Stored) (xs : List Session) (m : ℕ) (session : Session) (workspace : List ℕ) (a b : Space) (refusal : Fault) → NamesFamily rs workspace a b → resolving_refusal xs a ≡ Some refusal
    → Does rs xs m [] Stay (Refused refusal) (refresh_workspace session workspace)
refresh_open rs xs m session workspace a b refusal names is =
    does_nothing rs xs m (Refused refusal) (refresh_workspace session workspace)
    (λ s st. let f = family rs xs m workspace a b s names st in
    by_refusal rs xs m workspace a b s st f session (Some refusal) (first_one _ (open_same rs xs m workspace a b s st f ∙ is)))
  where
    first_one : {fault : Option Fault} (others : List (Option Fault)) → fault ≡ Some refusal → first_fault (fault ∷ others) ≡ Some refusal
    first_one others e = ap (λ o. first_fault (o ∷ others)) e

pub refresh_refused : (rs : List Stored) (xs : List Session) (m : ℕ) (session : Session) (workspace : List ℕ) (a b : Space) (found : Option Clashed) (refusal : Fault) → NamesFamily rs workspace a b → is_quiet_at a b ≡ false
    → IsClash (parts_of rs) a b found → refreshing_refusal (parts_of rs) xs a found ≡ Some refusal → Does rs xs m [] Stay (Refused refusal) (refresh_workspace session workspace)
refresh_refused rs xs m session workspace a b found refusal names pending clash is =
    does_nothing rs xs m (Refused refusal) (refresh_workspace session workspace)
    (λ s st. let f = family rs xs m workspace a b s names st in by_refusal rs xs m workspace a b s st f session (Some refusal) (faults_same rs xs m workspace a b s st f found false clash pending ∙ is))

-- a workspace that gained entries, and an answer
abbrev gained_in_state : State → Workspace → Workspace → List Entry → State × Answer
gained_in_state s q w es = (record s { durable = record s.durable { spaces = with_space w.number (refreshed es q) s.durable.spaces } }, Fine)

-- the line where nothing refuses it, by the entries and the log
gains : (rs : List Stored) (xs : List Session) (m : ℕ) (session : Session) (workspace : List ℕ) (a b : Space) (es : List Entry) (s : State) (r : Refreshes rs m xs session workspace a b es) (st : StandsAt rs xs m s) (f : Family rs workspace a b s)
    → refresh_workspace session workspace s ≡ durably s (a.log_length + length es) (gained_in_state s f.q f.w es)
gains rs xs m session workspace a b es s r st f =
    by_refusal rs xs m workspace a b s st f session None (faults_same rs xs m workspace a b s st f r.found false r.clash r.pending ∙ r.clear)
    ∙ ap (λ t. cond t (s, Fine) (durably s (length f.w.lists.log + length (gained_of s.moment session.user f.q f.w)) (gained_in_state s f.q f.w (gained_of s.moment session.user f.q f.w)))) (quiet_same rs workspace a b s f ∙ r.pending)
    ∙ ap (λ (ys : List Entry). durably s (length f.w.lists.log + length ys) (gained_in_state s f.q f.w ys)) (ap (λ n. gained_of n session.user f.q f.w) (sym st.moment_is) ∙ sym (gained_same rs workspace a b s f m session.user es r.listed))
    ∙ ap (λ (x : SpaceFields). durably s (x.log_length + length es) (gained_in_state s f.q f.w es)) (sym f.is.fields)

pub refresh_long : (rs : List Stored) (xs : List Session) (m : ℕ) (session : Session) (workspace : List ℕ) (a b : Space) (es : List Entry) → Refreshes rs m xs session workspace a b es → nat_lt counter_limit (a.log_length + length es) ≡ true
    → Does rs xs m [] Stay (at_its_end (codes "LOG")) (refresh_workspace session workspace)
refresh_long rs xs m session workspace a b es r long =
    does_nothing rs xs m (at_its_end (codes "LOG")) (refresh_workspace session workspace)
    (λ s st. let f = family rs xs m workspace a b s r.family st in
    gains rs xs m session workspace a b es s r st f ∙ spent_log s (a.log_length + length es) (gained_in_state s f.q f.w es) long)

pub refresh_spent : (rs : List Stored) (xs : List Session) (m : ℕ) (session : Session) (workspace : List ℕ) (a b : Space) (es : List Entry) (c : Counters) → Refreshes rs m xs session workspace a b es
    → nat_lt counter_limit (a.log_length + length es) ≡ false → (parts_of rs).counters ≡ c ∷ [] → nat_lt counter_limit (c.work + line_work) ≡ true → Does rs xs m [] Stay (at_its_end (codes "WORK")) (refresh_workspace session workspace)
refresh_spent rs xs m session workspace a b es c r short one much =
    does_nothing rs xs m (at_its_end (codes "WORK")) (refresh_workspace session workspace)
    (λ s st. let f = family rs xs m workspace a b s r.family st in
    gains rs xs m session workspace a b es s r st f ∙ spent_at rs xs m s (a.log_length + length es) c (gained_in_state s f.q f.w es) st one short much)

pub does_refresh : (rs : List Stored) (xs : List Session) (m : ℕ) (session : Session) (workspace : List ℕ) (a b : Space) (c : Counters) (entries : List NewEntry) → Refreshes rs m xs session workspace a b (map entry_of entries)
    → CanDraft rs m (refresh_edits a.number entries) → nat_lt counter_limit (a.log_length + length entries) ≡ false → (parts_of rs).counters ≡ c ∷ [] → nat_lt counter_limit (c.work + line_work) ≡ false
    → Does rs xs m (refresh_edits a.number entries) Stay Fine (refresh_workspace session workspace)
does_refresh rs xs m session workspace a b c entries r can short one spare =
    does_edits rs xs m (refresh_edits a.number entries) Stay Fine (refresh_workspace session workspace) tt can (λ none. absurd (cc)) (refresh_lockless a.number entries)
    (λ s st. let f = family rs xs m workspace a b s r.family st in
    gains rs xs m session workspace a b es s r st f
    ∙ not_spent_at rs xs m s (a.log_length + length es) c (gained_in_state s f.q f.w es) st one (ap (λ n. nat_lt counter_limit (a.log_length + n)) (length-map entries entry_of) ∙ short) spare
    ∙ ap (λ (d : Durable). (record s { durable = record d { last_moment = m; work = s.durable.work + line_work } }, Fine))
    (sym (ap (λ n. all_edited m (refresh_edits n entries) s.durable) (sym f.is.number) ∙ all_refreshed m f.w f.q entries s.durable (ap (workspace_of s.durable.spaces) f.is.number ∙ f.is.found) f.beside.above)))
  where
    es : List Entry
    es = map entry_of entries

-- in a lawful state all that is gained can be written, and all that is own copied
pub refresh_unready : (rs : List Stored) (xs : List Session) (m : ℕ) (session : Session) (workspace : List ℕ) (a b : Space) (ks : List KeyPieces) (es : List Entry) (answer : Answer) → Refreshes rs m xs session workspace a b es → AreOwn (parts_of rs) a ks
    → ((are_keys_kept ks && list_all (is_ready_entry (parts_of rs)) es) ≡ false) ⊎ (list_any (is_turn a.number (a.rebases + 1)) (parts_of rs).turns ≡ true) → Does rs xs m [] Stay answer (refresh_workspace session workspace)
refresh_unready rs xs m session workspace a b ks es answer r own bad =
    does_nothing rs xs m answer (refresh_workspace session workspace) (λ s st. absurd (never s st (family rs xs m workspace a b s r.family st) bad))
  where
    never : (s : State) → StandsAt rs xs m s → Family rs workspace a b s → ((are_keys_kept ks && list_all (is_ready_entry (parts_of rs)) es) ≡ false) ⊎ (list_any (is_turn a.number (a.rebases + 1)) (parts_of rs).turns ≡ true) → ⊥
    never s st f (inl unready) =
        true≢false
        (sym (and_from (are_keys_kept ks) _ (keys_kept rs workspace a b xs m s st f ks own.copied.each)
        (ap (list_all (is_ready_entry (parts_of rs))) (gained_same rs workspace a b s f m session.user es r.listed) ∙ gained_ready rs workspace a b xs m s st f m session.user))
        ∙ unready)
    never s st f (inr turned) = true≢false (sym turned ∙ unturned rs workspace a b xs m s st f)
