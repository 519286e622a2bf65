-- What is looked up in the records of workspaces is looked up in each state that they stand for: a workspace of a name, a resolve of it
-- that is open, and its children.
use Rattle.std.proofs.Common.{◌≡◌, ℕ, ◌<◌, ◌==◌, nat_le, Bool, true, false, not, ◌&&◌, ◌||◌, List, [], ◌∷◌, option_map, Option, Some, None, refl, sym, ap, ◌∙◌}
use Rattle.std.proofs.Math.Dec.{leb-zero}
use Rattle.std.proofs.lemmas.Bool.{eqb-true, ne_eqb}
use Rattle.std.specs.List.{find, list_all}
use Rattle.wm_base.proofs.Plain.{none_mapped}
use Rattle.wm_graph.specs.Parts.{Parts, parts_of, space_of}
use Rattle.wm_graph.specs.Rules.{keep_rules}
use Rattle.wm_outline.specs.Outline.{SpaceOutline, below, outline, outline_by, outline_in, space_by}
use Rattle.wm_outline.proofs.Looks.{first_at, first_by, none_by, named_numbered as number_of_named}
use Rattle.wm_outline.proofs.Outlines.{outline_is}
use Rattle.wm_spec.specs.declared.record.space.Space.{Space}
use Rattle.wm_spec.specs.declared.record.stored.Stored.{Stored}
use Rattle.wm_state.specs.Editing.{is_other}
use Rattle.wm_state.specs.Firsts.{first_recorded, first_space, is_child_from}
use Rattle.wm_state.specs.Standing.{SpaceFields, space_after}
use Rattle.wm_state.specs.State.{Session, State, Workspace}
use Rattle.wm_state.proofs.Climbing.{parent_apart}
use Rattle.wm_state.proofs.Named.{space_number}
use Rattle.wm_state.proofs.Spaces.{IsSpace, NamedSpace, named_space}
use Rattle.wm_model.specs.Planning.{StandsAt}
use Rattle.wm_model.specs.Step.{first_fault, first_name, first_named, first_session, has_child, is_child, is_child_of, is_inside, refused_for, resolve_open, resolves, resolving_fault, session_inside}
use Rattle.wm_model.specs.Undone.{NamesSpace, first_child, going_refusal, resolving_refusal}
use Rattle.wm_model.proofs.Lawful.Firsts.{no_faults, none_refused}

-- ---- a workspace of a name

-- what a name finds, its number finds
pub named_numbered : (rs : List Stored) (workspace : List ℕ) (a : Space) → NamesSpace rs workspace a → space_of (parts_of rs).spaces a.number ≡ Some a
named_numbered rs workspace a names = number_of_named (parts_of rs) names.rules workspace a names.found

-- the workspace of the name
pub home : (rs : List Stored) (xs : List Session) (m : ℕ) (workspace : List ℕ) (a : Space) (s : State) → NamesSpace rs workspace a → StandsAt rs xs m s → NamedSpace (parts_of rs) s.durable workspace a
home rs xs m workspace a s names st = named_space (parts_of rs) s.durable workspace a st.stands names.found

-- whether a session has a resolve of the workspace open
pub resolving_same : (p : Parts) (a : Space) (s : State) (w : Workspace) → IsSpace p s.durable a.number a w → resolving_fault s w ≡ resolving_refusal s.sessions a
resolving_same p a s w is =
    ap (λ (f : SpaceFields). refused_for (resolve_open f.name) (first_session (resolves w.number) s.sessions)) (sym is.fields)
    ∙ ap (λ n. refused_for (resolve_open a.name) (first_session (resolves n) s.sessions)) is.number

-- ---- children

-- the first workspace that passes a test has the name of the first that is told of
named_first : (test : SpaceOutline → Bool) (s : State) → first_name (λ w. test (outline_in w)) s ≡ first_named test (outline s)
named_first test s = mapped (first_space (λ w. test (outline_in w)) s.durable.spaces) ∙ ap (option_map (λ (x : SpaceOutline). x.fields.name)) (sym (first_at s.durable test))
  where
    mapped : (o : Option Workspace) → option_map (λ (w : Workspace). w.name) o ≡ option_map (λ (x : SpaceOutline). x.fields.name) (option_map outline_in o)
    mapped None = refl
    mapped (Some w) = refl

-- a record of a child is one of a child from any place on
child_from : (p : Parts) (n : ℕ) (r : Space) → is_child_of n (outline_by p r) ≡ is_child_from n 0 0 r
child_from p n r = ap (λ b. (r.parent == n) && b) (anywhere (not (r.number == n)) (nat_le 0 r.birth_place) (nat_le 0 r.from) (leb-zero r.birth_place))
  where
    anywhere : (b c d : Bool) → c ≡ true → b ≡ (b && (c || d))
    anywhere true true d e = refl
    anywhere false true d e = refl
    anywhere b false d e = absurd (cc)

-- the first child has the name that its record has
child_named : (rs : List Stored) (xs : List Session) (m : ℕ) (s : State) (n : ℕ) → StandsAt rs xs m s → first_named (is_child_of n) (outline s) ≡ first_child (parts_of rs) n 0 0
child_named rs xs m s n st =
    ap (first_named (is_child_of n)) (sym (outline_is (parts_of rs) xs m s st.stands st.sessions_are st.moment_is))
    ∙ ap (option_map (λ (x : SpaceOutline). x.fields.name)) (first_by (parts_of rs) (is_child_of n))
    ∙ mapped (first_recorded (λ (r : Space). is_child_of n (outline_by (parts_of rs) r)) (parts_of rs).spaces)
    ∙ ap (λ (test : Space → Bool). option_map (λ (r : Space). r.name) (first_recorded test (parts_of rs).spaces)) (λ i r. child_from (parts_of rs) n r i)
  where
    mapped : (o : Option Space) → option_map (λ (x : SpaceOutline). x.fields.name) (option_map (outline_by (parts_of rs)) o) ≡ option_map (λ (r : Space). r.name) o
    mapped None = refl
    mapped (Some r) = refl

-- what a workspace is refused for that would go
pub going_same : (rs : List Stored) (xs : List Session) (m : ℕ) (a : Space) (s : State) (st : StandsAt rs xs m s) (w : Workspace) (is : IsSpace (parts_of rs) s.durable a.number a w)
    → first_fault (refused_for (session_inside w.name) (first_session (is_inside w) s.sessions) ∷ refused_for (has_child w.name) (first_name (is_child w) s) ∷ []) ≡ going_refusal (parts_of rs) s.sessions a
going_same rs xs m a s st w is =
    ap (λ (f : SpaceFields). first_fault (refused_for (session_inside f.name) (first_session (is_inside w) s.sessions) ∷ refused_for (has_child f.name) (first_name (is_child w) s) ∷ [])) (sym is.fields)
    ∙ ap (λ o. first_fault (refused_for (session_inside a.name) (first_session (is_inside w) s.sessions) ∷ refused_for (has_child a.name) o ∷ [])) (named_first (is_child_of w.number) s)
    ∙ ap (λ n. first_fault (refused_for (session_inside a.name) (first_session (λ (x : Session). x.space == n) s.sessions) ∷ refused_for (has_child a.name) (first_named (is_child_of n) (outline s)) ∷ [])) is.number
    ∙ ap (λ o. first_fault (refused_for (session_inside a.name) (first_session (λ (x : Session). x.space == a.number) s.sessions) ∷ refused_for (has_child a.name) o ∷ [])) (child_named rs xs m s a.number st)

-- where nothing refuses it, no workspace stands under it
pub childless : (rs : List Stored) (xs : List Session) (a : Space) → keep_rules (parts_of rs) ≡ true → 0 < a.number → going_refusal (parts_of rs) xs a ≡ None
    → list_all (λ (r : Space). is_other a.number r.parent) (parts_of rs).spaces ≡ true
childless rs xs a rules some clear =
    none_by (parts_of rs) (is_child_of a.number) (λ (r : Space). is_other a.number r.parent) rules none_outlined (λ n r found fails. by_itself n r found fails (r.number == a.number) refl)
  where
    none : first_recorded (is_child_from a.number 0 0) (parts_of rs).spaces ≡ None
    none =
        let h = no_faults (refused_for (session_inside a.name) (first_session (λ (x : Session). x.space == a.number) xs) ∷ refused_for (has_child a.name) (first_child (parts_of rs) a.number 0 0) ∷ []) clear in
        none_mapped (λ (r : Space). r.name) _ (none_refused (has_child a.name) (λ _. refl) _ h.1.0)

    none_outlined : find (is_child_of a.number) (below (space_after (parts_of rs).spaces) (space_by (parts_of rs))) ≡ None
    none_outlined =
        first_by (parts_of rs) (is_child_of a.number)
        ∙ ap (option_map (outline_by (parts_of rs)))
        (ap (λ (test : Space → Bool). first_recorded test (parts_of rs).spaces) (λ i r. child_from (parts_of rs) a.number r i) ∙ none)

    -- one that is none has another parent
    outside : (b c : Bool) → c ≡ false → (b && not c) ≡ false → not b ≡ true
    outside false c other fails = refl
    outside true true other fails = absurd (cc)
    outside true false other fails = absurd (cc)

    by_itself : (n : ℕ) (r : Space) → space_of (parts_of rs).spaces n ≡ Some r → is_child_of a.number (outline_by (parts_of rs) r) ≡ false → (b : Bool) → (r.number == a.number) ≡ b → is_other a.number r.parent ≡ true
    by_itself n r found fails true same =
        let number : n ≡ a.number = sym (space_number (parts_of rs) n r found) ∙ eqb-true r.number a.number same in
        let apart = parent_apart (parts_of rs) rules a.number r some (ap (space_of (parts_of rs).spaces) (sym number) ∙ found) in
        ap not (ne_eqb r.parent a.number (λ e. apart (sym e)))
    by_itself n r found fails false other = outside (r.parent == a.number) (r.number == a.number) other fails
