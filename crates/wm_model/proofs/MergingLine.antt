-- What MergeWorkspace does to each state that the records stand for.
use Rattle.std.proofs.Common.{◌≡◌, ℕ, ◌+◌, ◌==◌, ◌&&◌, ◌||◌, not, max, nat_lt, length, Bool, true, false, cond, List, [], ◌∷◌, map, Option, Some, None, refl, sym, ap, ◌∙◌, codes, arith, ◌⊎◌, inl, inr}
use Rattle.std.proofs.lemmas.Bool.{and_from, and_parts, true≢false}
use Rattle.std.specs.List.{find, list_all, list_any}
use Rattle.std.specs.Str.{bytes_eq}
use Rattle.wm_base.specs.declared.refusal.Refusal.{Refusal as Fault}
use Rattle.wm_graph.specs.Parts.{parts_of}
use Rattle.wm_graph.specs.Rules.{keep_rules}
use Rattle.wm_net.specs.Nets.{net}
use Rattle.wm_print.specs.Texts.{Answer, Fine, Refused}
use Rattle.wm_spec.specs.Lists.{Entry}
use Rattle.wm_spec.specs.declared.record.counters.Counters.{Counters}
use Rattle.wm_spec.specs.declared.record.space.Space.{Space}
use Rattle.wm_spec.specs.declared.record.stored.Stored.{Stored}
use Rattle.wm_state.specs.Drafts.{CanDraft, is_turn}
use Rattle.wm_state.specs.Editing.{all_edited, entry_of, unlocked_of}
use Rattle.wm_state.specs.Standing.{SpaceFields}
use Rattle.wm_state.specs.State.{Durable, Session, State, Workspace, workspace_of}
use Rattle.wm_state.specs.declared.edit.NewEntry.{NewEntry}
use Rattle.wm_telling.specs.Telling.{IsHeldListing, own_held}
use Rattle.wm_model.specs.Merged.{Clashed, IsClash, Merges, NamesFamily, freeing, is_even_at, is_idle_at, is_quiet_at, is_ready_entry, longer_log_at, makings_of, merge_edits, merging_refusal}
use Rattle.wm_model.specs.Planning.{StandsAt, Does, SeatsStaged, Stay, Thaw, seated, thawed}
use Rattle.wm_model.specs.Step.{Asked, at_its_end, counter_limit, durably, first_fault, freed_by, gained_of, has_locks, is_even, line_work, merge, merge_workspace, merging_faults, no_parent, no_workspace, unless}
use Rattle.wm_model.specs.Undone.{NamesSpace}
use Rattle.wm_model.proofs.Doing.{does_nothing, not_spent_at, spent_at, spent_log}
use Rattle.wm_model.proofs.Families.{Family, does_edits, does_homeless, does_liveless, family, gained_same, own_same}
use Rattle.wm_model.proofs.MergedEdits.{all_merged, merge_lockless, merge_some, merged_by, nothing_listed}
use Rattle.wm_model.proofs.MergedLocks.{idle_same, unlocked_same}
use Rattle.wm_model.proofs.MergingFaults.{even_same, merging_same}
use Rattle.wm_model.proofs.Unready.{gained_ready, net_ready, unturned}

-- ---- refusals by names

abbrev merge_to : Session → Asked → Workspace → Workspace → State → State × Answer
merge_to session asked p w s = unless (first_fault (merging_faults session asked s p w)) s (merge session asked p w s)

pub merge_homeless : (rs : List Stored) (xs : List Session) (m : ℕ) (session : Session) (workspace : List ℕ) (asked : Asked) → keep_rules (parts_of rs) ≡ true
    → find (λ (r : Space). bytes_eq workspace r.name) (parts_of rs).spaces ≡ None → Does rs xs m [] Stay (no_workspace workspace) (merge_workspace session asked workspace)
merge_homeless rs xs m session workspace asked rules none = does_homeless rs xs m workspace (merge_to session asked) rules none

pub merge_liveless : (rs : List Stored) (xs : List Session) (m : ℕ) (session : Session) (workspace : List ℕ) (asked : Asked) (a : Space) → NamesSpace rs workspace a → a.number ≡ 0
    → Does rs xs m [] Stay (no_parent workspace) (merge_workspace session asked workspace)
merge_liveless rs xs m session workspace asked a names live = does_liveless rs xs m workspace a (merge_to session asked) names live

-- ---- what it is refused for

by_refusal : (rs : List Stored) (session : Session) (workspace : List ℕ) (asked : Asked) (a b : Space) (s : State) (f : Family rs workspace a b s) (o : Option Fault) → first_fault (merging_faults session asked s f.q f.w) ≡ o
    → merge_workspace session asked workspace s ≡ unless o s (merge session asked f.q f.w s)
by_refusal rs session workspace asked a b s f o is = f.line (merge_to session asked) ∙ ap (λ r. unless r s (merge session asked f.q f.w s)) is

pub merge_refused : (rs : List Stored) (xs : List Session) (m : ℕ) (session : Session) (workspace : List ℕ) (asked : Asked) (a b : Space) (found : Option Clashed) (own : List Entry) (refusal : Fault) → NamesFamily rs workspace a b
    → IsClash (parts_of rs) a b found → IsHeldListing (parts_of rs) m session.user (own_held (parts_of rs) a) own → merging_refusal session asked (parts_of rs) xs a b found own ≡ Some refusal
    → Does rs xs m [] Stay (Refused refusal) (merge_workspace session asked workspace)
merge_refused rs xs m session workspace asked a b found own refusal names clash listed is =
    does_nothing rs xs m (Refused refusal) (merge_workspace session asked workspace)
    (λ s st. let f = family rs xs m workspace a b s names st in
    by_refusal rs session workspace asked a b s f (Some refusal) (merging_same rs workspace a b xs m s st f session asked found own clash listed ∙ is))

-- ---- the plans

-- what is merged, and an answer
abbrev merged_state : Asked → Bool → ℕ → State → Workspace → Workspace → List Entry → List Entry → State × Answer
merged_state asked even m s q w own es = (record s { durable = merged_by asked even m own es q w s.durable; sessions = freed_by asked w s.sessions }, Fine)

-- the line where nothing refuses it, by whether there is anything to do
merges : (rs : List Stored) (xs : List Session) (m : ℕ) (session : Session) (workspace : List ℕ) (asked : Asked) (a b : Space) (own es : List Entry) (idle : Bool) (s : State) (r : Merges rs m xs session asked workspace a b own es)
    (st : StandsAt rs xs m s) (f : Family rs workspace a b s) → is_idle_at asked (is_even_at a b own) (makings_of a.number (parts_of rs).locks) ≡ idle
    → merge_workspace session asked workspace s ≡ cond idle (s, Fine) (durably s (longer_log_at a b own es) (merged_state asked (is_even_at a b own) m s f.q f.w own es))
merges rs xs m session workspace asked a b own es idle s r st f is =
    by_refusal rs session workspace asked a b s f None (merging_same rs workspace a b xs m s st f session asked r.found own r.clash r.own_listed ∙ r.clear)
    ∙ ap (λ n. done n (is_even f.q f.w) (net n session.user f.w.lists.own) (gained_of n session.user f.q f.w) (length f.q.lists.log) (length f.w.lists.log)) (sym st.moment_is)
    ∙ ap (λ t. done m t (net m session.user f.w.lists.own) (gained_of m session.user f.q f.w) (length f.q.lists.log) (length f.w.lists.log)) (even_same rs workspace a b xs m s st f m session.user own r.own_listed)
    ∙ ap (λ ys. done m (is_even_at a b own) ys (gained_of m session.user f.q f.w) (length f.q.lists.log) (length f.w.lists.log)) (sym (own_same rs workspace a b s f m session.user own r.own_listed))
    ∙ ap (λ ys. done m (is_even_at a b own) own ys (length f.q.lists.log) (length f.w.lists.log)) (sym (gained_same rs workspace a b s f m session.user es r.gained_listed))
    ∙ ap (λ (x : SpaceFields). done m (is_even_at a b own) own es x.log_length (length f.w.lists.log)) (sym f.above.fields)
    ∙ ap (λ (x : SpaceFields). done m (is_even_at a b own) own es b.log_length x.log_length) (sym f.is.fields)
    ∙ ap (λ t. cond t (s, Fine) (durably s (longer_log_at a b own es) (merged_state asked (is_even_at a b own) m s f.q f.w own es)))
    (ap (λ n. is_even_at a b own && not (has_locks n s.durable.locks || (asked.keeps || asked.removes))) f.is.number ∙ idle_same (parts_of rs) s.durable a.number asked (is_even_at a b own) st.stands ∙ is)
  where
    done : ℕ → Bool → List Entry → List Entry → ℕ → ℕ → State × Answer
    done n even ys zs above below = cond (even && not (has_locks f.w.number s.durable.locks || (asked.keeps || asked.removes))) (s, Fine) (durably s (max (above + length ys) (below + length zs)) (merged_state asked even n s f.q f.w ys zs))

pub merge_idle : (rs : List Stored) (xs : List Session) (m : ℕ) (session : Session) (workspace : List ℕ) (asked : Asked) (a b : Space) (own es : List Entry) → Merges rs m xs session asked workspace a b own es
    → is_idle_at asked (is_even_at a b own) (makings_of a.number (parts_of rs).locks) ≡ true → Does rs xs m [] Stay Fine (merge_workspace session asked workspace)
merge_idle rs xs m session workspace asked a b own es r idle =
    does_nothing rs xs m Fine (merge_workspace session asked workspace) (λ s st. merges rs xs m session workspace asked a b own es true s r st (family rs xs m workspace a b s r.family st) idle)

pub merge_long : (rs : List Stored) (xs : List Session) (m : ℕ) (session : Session) (workspace : List ℕ) (asked : Asked) (a b : Space) (own es : List Entry) → Merges rs m xs session asked workspace a b own es
    → is_idle_at asked (is_even_at a b own) (makings_of a.number (parts_of rs).locks) ≡ false → nat_lt counter_limit (longer_log_at a b own es) ≡ true → Does rs xs m [] Stay (at_its_end (codes "LOG")) (merge_workspace session asked workspace)
merge_long rs xs m session workspace asked a b own es r some long =
    does_nothing rs xs m (at_its_end (codes "LOG")) (merge_workspace session asked workspace)
    (λ s st. let f = family rs xs m workspace a b s r.family st in
    merges rs xs m session workspace asked a b own es false s r st f some
    ∙ spent_log s (longer_log_at a b own es) (merged_state asked (is_even_at a b own) m s f.q f.w own es) long)

pub merge_spent : (rs : List Stored) (xs : List Session) (m : ℕ) (session : Session) (workspace : List ℕ) (asked : Asked) (a b : Space) (own es : List Entry) (c : Counters) → Merges rs m xs session asked workspace a b own es
    → is_idle_at asked (is_even_at a b own) (makings_of a.number (parts_of rs).locks) ≡ false → nat_lt counter_limit (longer_log_at a b own es) ≡ false → (parts_of rs).counters ≡ c ∷ [] → nat_lt counter_limit (c.work + line_work) ≡ true
    → Does rs xs m [] Stay (at_its_end (codes "WORK")) (merge_workspace session asked workspace)
merge_spent rs xs m session workspace asked a b own es c r some short one much =
    does_nothing rs xs m (at_its_end (codes "WORK")) (merge_workspace session asked workspace)
    (λ s st. let f = family rs xs m workspace a b s r.family st in
    merges rs xs m session workspace asked a b own es false s r st f some
    ∙ spent_at rs xs m s (longer_log_at a b own es) c (merged_state asked (is_even_at a b own) m s f.q f.w own es) st one short much)

-- in a lawful state all that is merged or gained can be written
pub merge_unready : (rs : List Stored) (xs : List Session) (m : ℕ) (session : Session) (workspace : List ℕ) (asked : Asked) (a b : Space) (own es : List Entry) (answer : Answer) → Merges rs m xs session asked workspace a b own es
    → ((list_all (is_ready_entry (parts_of rs)) own && list_all (is_ready_entry (parts_of rs)) es) ≡ false) ⊎ (list_any (is_turn a.number (a.rebases + 1)) (parts_of rs).turns ≡ true)
    → Does rs xs m [] Stay answer (merge_workspace session asked workspace)
merge_unready rs xs m session workspace asked a b own es answer r bad =
    does_nothing rs xs m answer (merge_workspace session asked workspace) (λ s st. absurd (never s st (family rs xs m workspace a b s r.family st) bad))
  where
    never : (s : State) → StandsAt rs xs m s → Family rs workspace a b s
        → ((list_all (is_ready_entry (parts_of rs)) own && list_all (is_ready_entry (parts_of rs)) es) ≡ false) ⊎ (list_any (is_turn a.number (a.rebases + 1)) (parts_of rs).turns ≡ true) → ⊥
    never s st f (inl unready) =
        true≢false
        (sym (and_from (list_all (is_ready_entry (parts_of rs)) own) _
        (ap (list_all (is_ready_entry (parts_of rs))) (own_same rs workspace a b s f m session.user own r.own_listed) ∙ net_ready rs workspace a b xs m s st f m session.user)
        (ap (list_all (is_ready_entry (parts_of rs))) (gained_same rs workspace a b s f m session.user es r.gained_listed) ∙ gained_ready rs workspace a b xs m s st f m session.user))
        ∙ unready)
    never s st f (inr turned) = true≢false (sym turned ∙ unturned rs workspace a b xs m s st f)

-- what becomes of the sessions leaves what is staged
freeing_staged : (rs : List Stored) (asked : Asked) (n : ℕ) → SeatsStaged (parts_of rs) (freeing asked n)
freeing_staged rs asked n = by_removes asked.removes
  where
    by_removes : (b : Bool) → SeatsStaged (parts_of rs) (cond b (Thaw n) Stay)
    by_removes true = tt
    by_removes false = tt

-- and is what the line makes of them
freeing_seats : (asked : Asked) (n : ℕ) (w : Workspace) (xs : List Session) → w.number ≡ n → freed_by asked w xs ≡ seated xs (freeing asked n)
freeing_seats asked n w xs is = ap (λ k. cond asked.removes (map (thawed k) xs) xs) is ∙ by_removes asked.removes
  where
    by_removes : (b : Bool) → cond b (map (thawed n) xs) xs ≡ seated xs (cond b (Thaw n) Stay)
    by_removes true = refl
    by_removes false = refl

pub does_merge : (rs : List Stored) (xs : List Session) (m : ℕ) (session : Session) (workspace : List ℕ) (asked : Asked) (a b : Space) (c : Counters) (own es : List NewEntry)
    → Merges rs m xs session asked workspace a b (map entry_of own) (map entry_of es) → is_idle_at asked (is_even_at a b (map entry_of own)) (makings_of a.number (parts_of rs).locks) ≡ false
    → CanDraft rs m (merge_edits asked (is_even_at a b (map entry_of own)) a.number b.number own es (makings_of a.number (parts_of rs).locks)) → nat_lt counter_limit (longer_log_at a b (map entry_of own) (map entry_of es)) ≡ false
    → (parts_of rs).counters ≡ c ∷ [] → nat_lt counter_limit (c.work + line_work) ≡ false
    → Does rs xs m (merge_edits asked (is_even_at a b (map entry_of own)) a.number b.number own es (makings_of a.number (parts_of rs).locks)) (freeing asked a.number) Fine (merge_workspace session asked workspace)
does_merge rs xs m session workspace asked a b c own es r some can short one spare =
    does_edits rs xs m (merge_edits asked even a.number b.number own es makings) (freeing asked a.number) Fine (merge_workspace session asked workspace) (freeing_staged rs asked a.number) can
    (merge_some asked even a.number b.number own es makings some) (merge_lockless asked even a.number b.number own es makings)
    (λ s st. let f = family rs xs m workspace a b s r.family st in
    merges rs xs m session workspace asked a b (map entry_of own) (map entry_of es) false s r st f some
    ∙ not_spent_at rs xs m s (longer_log_at a b (map entry_of own) (map entry_of es)) c (merged_state asked even m s f.q f.w (map entry_of own) (map entry_of es)) st one short spare
    ∙ ap (λ (d : Durable). (record s { durable = record d { last_moment = m; work = s.durable.work + line_work }; sessions = freed_by asked f.w s.sessions }, Fine)) (sym (made s st f))
    ∙ ap (λ (ys : List Session). (record s { durable = record (all_edited m (merge_edits asked even a.number b.number own es makings) s.durable) { last_moment = m; work = s.durable.work + line_work }; sessions = ys }, Fine))
    (freeing_seats asked a.number f.w s.sessions f.is.number))
  where
    even : Bool
    even = is_even_at a b (map entry_of own)

    makings : List ℕ
    makings = makings_of a.number (parts_of rs).locks

    made : (s : State) (st : StandsAt rs xs m s) (f : Family rs workspace a b s)
        → all_edited m (merge_edits asked even a.number b.number own es makings) s.durable ≡ merged_by asked even m (map entry_of own) (map entry_of es) f.q f.w s.durable
    made s st f =
        ap (λ n. all_edited m (merge_edits asked even n b.number own es makings) s.durable) (sym f.is.number)
        ∙ ap (λ k. all_edited m (merge_edits asked even f.w.number k own es makings) s.durable) (sym f.above.number)
        ∙ all_merged m f.w f.q s.durable (ap (workspace_of s.durable.spaces) f.is.number ∙ f.is.found) (ap (workspace_of s.durable.spaces) f.above.number ∙ f.above.found) f.parent
        (λ same. absurd (omega (arith, same, f.older))) asked even own es makings
        (λ is. nothing_listed (map entry_of own) (and_parts (length (map entry_of own) == 0) (is_quiet_at a b) is).0)
        (unlocked_same (parts_of rs) s.durable a.number st.stands ∙ ap (λ n. unlocked_of n s.durable.locks) (sym f.is.number))
