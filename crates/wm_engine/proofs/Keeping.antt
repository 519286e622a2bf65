-- What a file stands for once a line was run over the records that it holds.
use Rattle.std.proofs.Common.{◌≤◌, ◌+◌, length, ◌≡◌, ℕ, true, List, [], ◌∷◌, ◌⊎◌, inl, inr, refl, sym, ap, subst, ◌∙◌, arith}
use Rattle.std.specs.List.{list_all}
use Rattle.wm_decided.specs.Staged.{AreStaged}
use Rattle.wm_graph.specs.Parts.{parts_of}
use Rattle.wm_graph.specs.Rules.{keep_rules}
use Rattle.wm_model.proofs.Lawful.Runs.{lawful_durable}
use Rattle.wm_model.specs.Lawful.{LawfulState}
use Rattle.wm_model.specs.Planning.{StandsAt, DoesAt, Seating, seated}
use Rattle.wm_print.specs.Texts.{Answer, answer_text}
use Rattle.wm_spec.specs.declared.record.batch.Change.{Change}
use Rattle.wm_spec.specs.declared.record.stored.Stored.{Stored}
use Rattle.wm_state.specs.ById.{Ascend, applied}
use Rattle.wm_forked.proofs.FewChanged.{forks_few}
use Rattle.wm_state.specs.Drafts.{ChangesFew, Drafts, is_fork as is_fork_edit}
use Rattle.wm_state.specs.Editing.{locks_in, work_of, drafted as drafted_state}
use Rattle.wm_state.specs.Standing.{Stands}
use Rattle.wm_state.specs.State.{Durable, State, Session}
use Rattle.wm_state.specs.declared.edit.Edit.{Edit}
use Rattle.wm_station.specs.History.{History}
use Rattle.wm_station.specs.Moments.{Ended}
use Rattle.wm_store.specs.declared.store.Store.{Store}
use Rattle.wm_engine.proofs.Committing.{ended_begun, ended_weaken, holds_weaken}
use Rattle.wm_engine.proofs.Staging.{staged_behind}
use Rattle.wm_engine.proofs.Working.{file_stands}
use Rattle.wm_engine.specs.Keeping.{AreDrafted, HoldsDrafted}
use Rattle.wm_engine.specs.Working.{FileStands, HoldsSorted, KeepsOver}

-- where nothing was done the file stands for what it stood for
pub begun_stands : (store : Store) (rs : List Stored) (xs : List Session) (m : ℕ) (h : History) (s t : State) → KeepsOver store rs h → StandsAt rs xs m s → Ended h h (λ file. FileStands file s ⊎ FileStands file t)
begun_stands store rs xs m h s t works stands =
    ended_begun h (λ file. FileStands file s ⊎ FileStands file t) (holds_weaken h (λ file. HoldsSorted file rs) (λ file. FileStands file s ⊎ FileStands file t) (λ file holds. inl (file_stands file rs s holds stands.stands (lawful_durable s stands.lawful))) works.holds)

-- records that were made by changes that draft edits
pub drafted_as : (rs new : List Stored) (m : ℕ) (es : List Edit) (changes : List Change) → Drafts rs m es changes → new ≡ applied changes rs → AreDrafted rs m es new
drafted_as rs new m es changes drafts is = record { changes = changes; drafts = drafts; is = is }

-- where nothing was done the file holds what it held, and where the changes were committed it holds the records before them or after them
pub begun_drafted : (store : Store) (rs : List Stored) (m : ℕ) (es : List Edit) (h : History) → KeepsOver store rs h → Ended h h (λ file. HoldsSorted file rs ⊎ HoldsDrafted file rs m es)
begun_drafted store rs m es h works =
    ended_begun h (λ file. HoldsSorted file rs ⊎ HoldsDrafted file rs m es) (holds_weaken h (λ file. HoldsSorted file rs) (λ file. HoldsSorted file rs ⊎ HoldsDrafted file rs m es) (λ file holds. inl holds) works.holds)

pub ended_drafted : (rs : List Stored) (m : ℕ) (es : List Edit) (changes : List Change) (old new : History) → Drafts rs m es changes → Ended old new (λ file. HoldsSorted file rs ⊎ HoldsSorted file (applied changes rs))
    → Ended old new (λ file. HoldsSorted file rs ⊎ HoldsDrafted file rs m es)
ended_drafted rs m es changes old new drafts ended =
    ended_weaken old new (λ file. HoldsSorted file rs ⊎ HoldsSorted file (applied changes rs)) (λ file. HoldsSorted file rs ⊎ HoldsDrafted file rs m es) (λ file. by_side file) ended
  where
    by_side : (file : List ℕ) → HoldsSorted file rs ⊎ HoldsSorted file (applied changes rs) → HoldsSorted file rs ⊎ HoldsDrafted file rs m es
    by_side file (inl holds) = inl holds
    by_side file (inr holds) = inr (record { new = applied changes rs; drafted = drafted_as rs (applied changes rs) m es changes drafts refl; holds = holds })

-- records that were drafted for a plan stand for the state that the plan makes
pub drafted_stands : (rs new : List Stored) (xs : List Session) (m : ℕ) (es : List Edit) (seating : Seating) (after : ℕ) (answer : Answer) (act : State → State × Answer) → DoesAt rs xs m es seating after answer act → AreDrafted rs m es new
    → (s : State) → StandsAt rs xs m s → Stands (parts_of new) (act s).0.durable
drafted_stands rs new xs m es seating after answer act does drafted s st =
    subst (λ (r : State × Answer). Stands (parts_of new) r.0.durable) (sym (does.does s st))
    (subst (λ ss. Stands (parts_of ss) (drafted_state m es s.durable)) (sym drafted.is) (drafted.drafts.stands s.durable st.stands))

-- once a plan was kept the file stands for the state before it or after it
pub kept_stands : (rs : List Stored) (xs : List Session) (m : ℕ) (es made : List Edit) (seating : Seating) (after : ℕ) (answer : Answer) (act : State → State × Answer) (old new : History) (s : State)
    → DoesAt rs xs m es seating after answer act → ((t : State) → LawfulState t → LawfulState (act t).0) → made ≡ es → StandsAt rs xs m s → Ended old new (λ file. HoldsSorted file rs ⊎ HoldsDrafted file rs m made) → Ended old new (λ file. FileStands file s ⊎ FileStands file (act s).0)
kept_stands rs xs m es made seating after answer act old new s does keeps same stands ended =
    ended_weaken old new (λ file. HoldsSorted file rs ⊎ HoldsDrafted file rs m made) (λ file. FileStands file s ⊎ FileStands file (act s).0) (λ file. by_side file) ended
  where
    by_side : (file : List ℕ) → HoldsSorted file rs ⊎ HoldsDrafted file rs m made → FileStands file s ⊎ FileStands file (act s).0
    by_side file (inl holds) = inl (file_stands file rs s holds stands.stands (lawful_durable s stands.lawful))
    by_side file (inr h) = inr (file_stands file h.new (act s).0 h.holds (drafted_stands rs h.new xs m es seating after answer act does (subst (λ ds. AreDrafted rs m ds h.new) same h.drafted) s stands) (lawful_durable (act s).0 (keeps s stands.lawful)))

-- what was kept of a plan does what the plan does
pub kept_does : (rs new : List Stored) (xs now : List Session) (m moment : ℕ) (es made : List Edit) (seating : Seating) (answer : Answer) (act : State → State × Answer) (bytes : List ℕ) → DoesAt rs xs m es seating moment answer act
    → ((t : State) → LawfulState t → LawfulState (act t).0) → made ≡ es → Ascend rs → AreDrafted rs m made new → now ≡ seated xs seating → bytes ≡ answer_text answer → (s : State) → StandsAt rs xs m s → StandsAt new now moment (act s).0 × (bytes ≡ answer_text (act s).1)
kept_does rs new xs now m moment es made seating answer act bytes does keeps same sorted drafted sessions says s st = (
  record {
    stands = drafted_stands rs new xs m es seating moment answer act does (subst (λ ds. AreDrafted rs m ds new) same drafted) s st;
    lawful = keeps s st.lawful;
    sessions_are = sessions ∙ ap (λ ys. seated ys seating) st.sessions_are ∙ ap (λ (r : State × Answer). r.0.sessions) (sym (does.does s st));
    moment_is = ap (λ (r : State × Answer). r.0.moment) (sym (does.does s st));
    staged = subst (λ (ys : List Session). AreStaged (parts_of new) ys) (sym sessions) (staged_behind rs new xs m made seating s.durable sorted st.stands drafted does.seats st.staged);
  },
  says ∙ ap (λ (r : State × Answer). answer_text r.1) (sym (does.does s st)),
)

pub kept_rules : (rs new : List Stored) (m : ℕ) (es : List Edit) → AreDrafted rs m es new → keep_rules (parts_of new) ≡ true
kept_rules rs new m es drafted = subst (λ ss. keep_rules (parts_of ss) ≡ true) (sym drafted.is) drafted.drafts.keeps

-- without edits the records stay
pub kept_same : (rs new : List Stored) (m : ℕ) (es : List Edit) → AreDrafted rs m es new → es ≡ [] → new ≡ rs
kept_same rs new m es drafted none = drafted.is ∙ ap (λ cs. applied cs rs) (drafted.drafts.nothing none)

-- edits are counted as work, so a line that counts none makes none
pub workless_edits : (m : ℕ) (es : List Edit) (s : Durable) → (drafted_state m es s).work ≡ s.work → es ≡ []
workless_edits m [] s same = refl
workless_edits m (e ∷ es) s same = absurd (counts s.work (locks_in (e ∷ es)) same)
  where
    counts : (w locks : ℕ) → w + (locks + 4096) ≡ w → ⊥
    counts w locks h = omega (arith, h)

-- so is a plan that does what a line does which counts none
pub workless_plan : (rs : List Stored) (xs : List Session) (m : ℕ) (es made : List Edit) (seating : Seating) (after : ℕ) (answer : Answer) (act : State → State × Answer) → DoesAt rs xs m es seating after answer act → made ≡ es
    → (s : State) → StandsAt rs xs m s → (act s).0.durable.work ≡ s.durable.work → made ≡ []
workless_plan rs xs m es made seating after answer act does same s st workless =
    same ∙ workless_edits m es s.durable (ap (λ (r : State × Answer). r.0.durable.work) (sym (does.does s st)) ∙ workless)

-- savepoints and workspaces change few records
pub kept_few : (rs new : List Stored) (m : ℕ) (es made : List Edit) → made ≡ es → AreDrafted rs m made new → (list_all is_fork_edit es ≡ true) × (length es ≤ 1) → ChangesFew rs new
kept_few rs new m es made same drafted forks =
    subst (λ ss. ChangesFew rs ss) (sym drafted.is)
    (forks_few (work_of made) rs m made drafted.changes drafted.drafts (ap (list_all is_fork_edit) same ∙ forks.0) (subst (λ (ds : List Edit). length ds ≤ 1) (sym same) forks.1))
