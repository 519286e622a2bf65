-- What lines do that ask for a resolve that a session has open, to each state that the records stand for.
use Rattle.std.proofs.Common.{◌≡◌, ℕ, Bool, true, false, cond, if◌then◌else◌, List, [], None, refl, sym, ap, ◌∙◌}
use Rattle.std.specs.List.{find}
use Rattle.std.specs.Str.{bytes_eq}
use Rattle.wm_graph.specs.Parts.{parts_of}
use Rattle.wm_graph.specs.Rules.{keep_rules}
use Rattle.wm_print.specs.Texts.{Answer}
use Rattle.wm_spec.specs.declared.record.space.Space.{Space}
use Rattle.wm_spec.specs.declared.record.stored.Stored.{Stored}
use Rattle.wm_state.specs.Standing.{SpaceFields}
use Rattle.wm_state.specs.State.{Session, State, Workspace}
use Rattle.wm_state.proofs.Spaces.{named_no_space}
use Rattle.wm_model.specs.Planning.{StandsAt, Does, Stay}
use Rattle.wm_model.specs.Step.{has_open, no_resolve, no_workspace, refused_if, unless, unresolved_fault, with_named}
use Rattle.wm_model.specs.Undone.{NamesSpace}
use Rattle.wm_model.proofs.Doing.{does_nothing}
use Rattle.wm_model.proofs.Recorded.{home}

-- no workspace has the name
pub nameless : (rs : List Stored) (xs : List Session) (m : ℕ) (workspace : List ℕ) (to : State → Workspace → State × Answer) → keep_rules (parts_of rs) ≡ true
    → find (λ (r : Space). bytes_eq workspace r.name) (parts_of rs).spaces ≡ None → Does rs xs m [] Stay (no_workspace workspace) (λ s. with_named s workspace (to s))
nameless rs xs m workspace to rules none =
    does_nothing rs xs m (no_workspace workspace) (λ s. with_named s workspace (to s)) (λ s st. rw (named_no_space (parts_of rs) s.durable workspace st.stands none) refl)

-- ---- lines of a session that has a resolve of the workspace open

-- what is done then
abbrev pub over_resolve : Session → (Workspace → State → State × Answer) → List ℕ → State → State × Answer
over_resolve session to name s = with_named s name (λ w. unless (unresolved_fault session w) s (to w s))

-- the line, by whether it has
pub resolving : (rs : List Stored) (xs : List Session) (m : ℕ) (session : Session) (workspace : List ℕ) (to : Workspace → State → State × Answer) (a : Space) (has : Bool) (s : State) (names : NamesSpace rs workspace a) (st : StandsAt rs xs m s)
    → has_open a.number session ≡ has
    → let w : Workspace = (home rs xs m workspace a s names st).workspace in
    over_resolve session to workspace s ≡ cond has (to w s) (s, no_resolve a.name)
resolving rs xs m session workspace to a has s names st is =
    let h = home rs xs m workspace a s names st in
    let w = h.workspace in
    rw (h.named)
    (ap (λ n. unless (if has_open n session then None else refused_if true (no_resolve w.name)) s (to w s)) h.is.number
    ∙ ap (λ (b : Bool). unless (if b then None else refused_if true (no_resolve w.name)) s (to w s)) is
    ∙ by_open has
    ∙ ap (λ (x : SpaceFields). cond has (to w s) (s, no_resolve x.name)) (sym h.is.fields))
  where
    by_open : (b : Bool) → let w : Workspace = (home rs xs m workspace a s names st).workspace in
        unless (if b then None else refused_if true (no_resolve w.name)) s (to w s) ≡ cond b (to w s) (s, no_resolve w.name)
    by_open true = refl
    by_open false = refl

pub resolve_nameless : (rs : List Stored) (xs : List Session) (m : ℕ) (session : Session) (workspace : List ℕ) (to : Workspace → State → State × Answer) → keep_rules (parts_of rs) ≡ true
    → find (λ (r : Space). bytes_eq workspace r.name) (parts_of rs).spaces ≡ None → Does rs xs m [] Stay (no_workspace workspace) (over_resolve session to workspace)
resolve_nameless rs xs m session workspace to rules none = nameless rs xs m workspace (λ s w. unless (unresolved_fault session w) s (to w s)) rules none

pub resolve_closed : (rs : List Stored) (xs : List Session) (m : ℕ) (session : Session) (workspace : List ℕ) (to : Workspace → State → State × Answer) (a : Space) → NamesSpace rs workspace a → has_open a.number session ≡ false
    → Does rs xs m [] Stay (no_resolve a.name) (over_resolve session to workspace)
resolve_closed rs xs m session workspace to a names none =
    does_nothing rs xs m (no_resolve a.name) (over_resolve session to workspace) (λ s st. resolving rs xs m session workspace to a false s names st none)
