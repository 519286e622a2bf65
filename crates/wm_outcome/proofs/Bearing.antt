-- The plan of CreateWorkspace: what it is refused for stands in the order of the rows, what it drafts can be drafted, and that is a
-- workspace at most.
use Rattle.std.proofs.Common.{◌≡◌, ◌+◌, ◌≤◌, ℕ, nat_le, nat_lt, true, false, not, List, [], ◌∷◌, length, Option, None, Some, is_some, refl, sym, ap, ◌∙◌, arith, codes}
use Rattle.std.proofs.lemmas.Bool.{true≢false}
use Rattle.std.specs.List.{find, list_all}
use Rattle.std.specs.Option.{option_map}
use Rattle.std.specs.Str.{bytes_eq}
use Rattle.wm_base.specs.declared.instant.TheConstants.{END}
use Rattle.wm_calls.specs.Arguments.{text_given}
use Rattle.wm_calls.specs.Faults.{argument_fault}
use Rattle.wm_grammar.specs.declared.procedure.Parameter.TheVariants as parameters
use Rattle.wm_grammar.specs.declared.procedure.Procedure.TheVariants as procedures
use Rattle.wm_graph.specs.Parts.{Parts, parts_of, space_of}
use Rattle.wm_graph.specs.Rules.{is_short, keep_rules}
use Rattle.wm_model.specs.Step.{also, at_its_end, bearing, bearing_faults, create_workspace_plan, for_home, implicit_next, is_dated, is_spent, least, making_stood, most_savepoints, most_workspaces, names_no_workspace, no_savepoint, no_workspace, not_latest, number_limit, outcome, place_after, savepoint_called, savepoint_there, space_named, space_numbered, stands_nowhere, workspace_there}
use Rattle.wm_outcome.proofs.Faults.{Ranked, at_if, least_first, least_none}
use Rattle.wm_outcome.proofs.Fitting.{fits_doing, fits_home, fits_text}
use Rattle.wm_outcome.proofs.Forking.{forks_named, forks_outcome, forks_text}
use Rattle.wm_outcome.proofs.Named.{InOrder}
use Rattle.wm_outcome.proofs.Naming.{fits_behind, front, name_short, untold}
use Rattle.wm_outcome.proofs.Ordered.{From, from_ranked}
use Rattle.wm_outcome.proofs.Plans.{drafts_one}
use Rattle.wm_outcome.proofs.Savepoints.{has_room, made_by}
use Rattle.wm_outcome.specs.Fitting.{Fits}
use Rattle.wm_outline.proofs.Looks.{named_by}
use Rattle.wm_outline.specs.Outline.{Outline, SpaceOutline, outline_by, outline_of}
use Rattle.wm_spec.specs.declared.record.savepoint.Savepoint.{Savepoint}
use Rattle.wm_spec.specs.declared.record.space.Space.{Space}
use Rattle.wm_spec.specs.declared.record.stored.Stored.{Stored}
use Rattle.wm_state.proofs.Named.{space_number}
use Rattle.wm_state.specs.Drafts.{CanDraft, is_fork}
use Rattle.wm_state.specs.Editing.{stand_of}
use Rattle.wm_state.specs.Points.{Point, next_place_at, point_at, saved_point}
use Rattle.wm_state.specs.Standing.{saved_as, saved_fields}
use Rattle.wm_state.specs.State.{At, Dated, Latest, Session, Stand}
use Rattle.wm_state.specs.declared.edit.Edit.TheVariants as edits
use Rattle.wm_syntax.specs.declared.statement.Arg.{Arg}

-- ---- its faults

bearing_ranked : (stand : Stand) (name : List ℕ) (o : Outline) (x : SpaceOutline) → Ranked (20 ∷ 21 ∷ 22 ∷ 24 ∷ 44 ∷ 45 ∷ 49 ∷ 49 ∷ 49 ∷ 49 ∷ []) (bearing_faults stand name o x)
bearing_ranked stand name o x = (
  at_if 20 (is_some (space_named name o)) (workspace_there name) refl,
  (
    at_if 21 (stands_nowhere x stand) (no_savepoint []) refl,
    (
      at_if 22 (is_some (savepoint_called (implicit_next x) x)) (savepoint_there (implicit_next x)) refl,
      (
        at_if 24 (is_dated stand) not_latest refl,
        (
          at_if 44 (nat_le 1024 o.space_count) most_workspaces refl,
          (
            at_if 45 (nat_le 4096 (length x.savepoints)) most_savepoints refl,
            (
              at_if 49 (nat_lt number_limit (place_after x stand)) (at_its_end (codes "PLACE")) refl,
              (
                at_if 49 (nat_lt number_limit (x.fields.next_implicit + 1)) (at_its_end (codes "ICP")) refl,
                (at_if 49 (nat_lt number_limit o.next_space) (at_its_end (codes "WORKSPACE")) refl, (at_if 49 (is_spent o) (at_its_end (codes "WORK")) refl, tt)),
              ),
            ),
          ),
        ),
      ),
    ),
  ),
)

pub bearing_order : (stand : Stand) (name : List ℕ) (o : Outline) (x : SpaceOutline) → InOrder (bearing_faults stand name o x)
bearing_order stand name o x = least_first (20 ∷ 21 ∷ 22 ∷ 24 ∷ 44 ∷ 45 ∷ 49 ∷ 49 ∷ 49 ∷ 49 ∷ []) (bearing_faults stand name o x) (bearing_ranked stand name o x) refl

pub bearing_from : (session : Session) (name : List ℕ) (o : Outline) (x : SpaceOutline) → From 19 (bearing session name o x)
bearing_from session name o x =
    from_ranked 19 (20 ∷ 21 ∷ 22 ∷ 24 ∷ 44 ∷ 45 ∷ 49 ∷ 49 ∷ 49 ∷ 49 ∷ []) (bearing_faults session.stand name o x) (bearing_ranked session.stand name o x) refl

-- ---- where one stands

-- one who stands on no date, and at no savepoint that is not there, stands at a point of the workspace
stood : (p : Parts) (r : Space) (m : ℕ) (stand : Stand) → keep_rules p ≡ true → stands_nowhere (outline_by p r) stand ≡ false → is_dated stand ≡ false
    → (pt : Point) × (point_at p r m (stand_of (making_stood stand)) ≡ Some pt)
stood p r m Latest rules there plain = (_, refl)
stood p r m (At making) rules there plain = by_record (saved_as p r.number making) refl
  where
    by_record : (o : Option Savepoint) → saved_as p r.number making ≡ o → (pt : Point) × (option_map saved_point (saved_as p r.number making) ≡ Some pt)
    by_record None none = absurd (true≢false (sym (ap (λ (o : Option Savepoint). not (is_some (option_map saved_fields o))) none) ∙ ap (λ o. not (is_some o)) (sym (made_by p r making rules)) ∙ there))
    by_record (Some x) found = (saved_point x, ap (option_map saved_point) found)
stood p r m (Dated date) rules there plain = absurd (true≢false plain)

-- the place behind it
placed : (p : Parts) (r : Space) (n : ℕ) (stand : Stand) → is_dated stand ≡ false → nat_lt n (place_after (outline_by p r) stand) ≡ false → nat_lt n (next_place_at r (stand_of (making_stood stand))) ≡ false
placed p r n Latest plain places = places
placed p r n (At making) plain places = places
placed p r n (Dated date) plain places = absurd (true≢false plain)

-- ---- what it drafts

module _ (rs : List Stored) (xs : List Session) (m : ℕ) (rules : keep_rules (parts_of rs) ≡ true) (early : nat_lt m END ≡ true) where
  -- no record has the name
  unnamed : (name : List ℕ) → is_some (space_named name (outline_of (parts_of rs) xs m)) ≡ false → find (λ (q : Space). bytes_eq name q.name) (parts_of rs).spaces ≡ None
  unnamed name new = none (find (λ (q : Space). bytes_eq name q.name) (parts_of rs).spaces) (ap is_some (sym (named_by (parts_of rs) rules name)) ∙ new)
    where
      none : (o : Option Space) → is_some (option_map (outline_by (parts_of rs)) o) ≡ false → o ≡ None
      none None e = refl
      none (Some r) e = cc

  bears_one : (stand : Stand) (name : List ℕ) (r : Space) → is_short name ≡ true → space_of (parts_of rs).spaces r.number ≡ Some r
      → least (bearing_faults stand name (outline_of (parts_of rs) xs m) (outline_by (parts_of rs) r)) ≡ None → CanDraft rs m (edits.Bear r.number (making_stood stand) name ∷ [])
  bears_one stand name r short there clear =
      let p = parts_of rs in
      let new = least_none _ _ clear in
      let nowhere = least_none _ _ new.1 in
      let implicit = least_none _ _ nowhere.1 in
      let dated = least_none _ _ implicit.1 in
      let spaces = least_none _ _ dated.1 in
      let savepoints = least_none _ _ spaces.1 in
      let places = least_none _ _ savepoints.1 in
      let implicits = least_none _ _ places.1 in
      let numbers = least_none _ _ implicits.1 in
      let work = least_none _ _ numbers.1 in
      let point = stood p r m stand rules (untold _ _ nowhere.0) (untold _ _ dated.0) in
      drafts_one rs xs m (edits.Bear r.number (making_stood stand) name) rules early refl (untold _ _ work.0)
      (record {
        space = r;
        there = there;
        point = point.0;
        stands = point.1;
        short = short;
        new = unnamed name (untold _ _ new.0);
        few = untold _ _ spaces.0;
        room = has_room p r (implicit_next (outline_by p r)) (untold _ _ implicit.0) (untold _ _ savepoints.0);
        places = placed p r number_limit stand (untold _ _ dated.0) (untold _ _ places.0);
        implicits = untold _ _ implicits.0;
        numbers = untold _ _ numbers.0;
      })

  pub fits_create_workspace : (session : Session) (args : List Arg) → Fits rs m (create_workspace_plan session args (outline_of (parts_of rs) xs m))
  fits_create_workspace session args =
      let o = outline_of (parts_of rs) xs m in
      fits_text rs m _ _ _
      (λ name. fits_behind rs m (front procedures.CreateWorkspace args name (names_no_workspace name)) _
      (λ clear. fits_home rs xs m (bearing session name o) session rules
      (λ r found. fits_doing rs m (bearing_faults session.stand name o (outline_by (parts_of rs) r)) (edits.Bear r.number (making_stood session.stand) name ∷ [])
      (bears_one session.stand name r (name_short procedures.CreateWorkspace args name (names_no_workspace name) clear) (ap (space_of (parts_of rs).spaces) (space_number (parts_of rs) session.space r found) ∙ found)))))

pub forks_create_workspace : (session : Session) (args : List Arg) (o : Outline)
    → (list_all is_fork (outcome (create_workspace_plan session args o)).edits ≡ true) × (length (outcome (create_workspace_plan session args o)).edits ≤ 1)
forks_create_workspace session args o =
    forks_outcome (create_workspace_plan session args o)
    (forks_text (text_given procedures.CreateWorkspace args parameters.Workspace) (argument_fault procedures.CreateWorkspace args)
    (λ name. also (front procedures.CreateWorkspace args name (names_no_workspace name)) (for_home (bearing session name o) session o))
    (λ name. forks_named (no_workspace []) (bearing session name o) (space_numbered session.space o) (λ x. (refl, omega arith))))
