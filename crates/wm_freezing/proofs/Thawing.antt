-- The plan of UnfreezeWorkspace: its faults stand in the order of their rows, what it drafts can be drafted, and it is answered that it is done.
use Rattle.std.proofs.Common.{◌≡◌, ℕ, nat_lt, true, false, List, [], ◌∷◌, Option, Some, None, unwrap_or, refl, sym, ap, ◌∙◌, subst}
use Rattle.std.proofs.lemmas.Bool.{false≢true}
use Rattle.std.specs.List.{find}
use Rattle.std.specs.Str.{bytes_eq}
use Rattle.wm_base.specs.declared.instant.TheConstants.{END}
use Rattle.wm_base.specs.declared.refusal.FormRefusal.TheVariants.{Wm013}
use Rattle.wm_base.specs.declared.refusal.Refusal.{Refusal}
use Rattle.wm_base.specs.declared.refusal.Refusal.TheVariants.{Form}
use Rattle.wm_calls.specs.Arguments.{text_given}
use Rattle.wm_calls.specs.Faults.{argument_fault}
use Rattle.wm_outcome.proofs.Told.{also_clear, told_idle}
use Rattle.wm_freezing.proofs.Freezing.{at_spent, unspent}
use Rattle.wm_freezing.specs.Freeing.{freeing}
use Rattle.wm_grammar.specs.declared.procedure.Parameter.TheVariants as parameters
use Rattle.wm_grammar.specs.declared.procedure.Procedure.TheVariants as procedures
use Rattle.wm_graph.specs.Parts.{Parts, parts_of, space_of}
use Rattle.wm_graph.specs.Rules.{keep_rules}
use Rattle.wm_guard.specs.Access.{Hold, Free, NoAccess, ReadOnly, OneWriter, OneSession, WmOnly}
use Rattle.wm_model.specs.Planning.{SeatsStaged}
use Rattle.wm_model.specs.Seating.{Stay, Thaw}
use Rattle.wm_model.specs.Step.Places.{least}
use Rattle.wm_model.specs.Step.{Outcome, Plan, first_fault, for_named, hold_on, mistyped, no_workspace, not_frozen, outcome, refused_for, refused_if, space_named, spent, thawing, unfreeze_plan}
use Rattle.wm_outcome.proofs.Faults.{at_for, least_first, least_none}
use Rattle.wm_outcome.proofs.Named.{InOrder, can_named, fronted, of_named, seats_named}
use Rattle.wm_outcome.proofs.Plans.{drafts_one}
use Rattle.wm_outcome.specs.Fitting.{Fits}
use Rattle.wm_outline.proofs.Looks.{named_numbered}
use Rattle.wm_outline.specs.Outline.{Outline, SpaceOutline, outline_by, outline_of}
use Rattle.wm_plan.specs.Idle.{is_idle}
use Rattle.wm_print.specs.Texts.{Fine}
use Rattle.wm_spec.specs.declared.record.space.Space.{Space}
use Rattle.wm_spec.specs.declared.record.stored.Stored.{Stored}
use Rattle.wm_state.specs.Drafts.{CanDraft}
use Rattle.wm_state.specs.State.{Session}
use Rattle.wm_syntax.specs.declared.statement.Arg.{Arg}

-- ---- by how it is held

abbrev pub thawing_by : Hold → Outline → SpaceOutline → Plan
thawing_by Free o x = record { faults = refused_if true (not_frozen x.fields.name) ∷ []; edits = []; seating = Stay; answer = Fine }
thawing_by (OneSession session) o x = record { faults = []; edits = []; seating = Thaw x.number; answer = Fine }
thawing_by NoAccess o x = freeing o x.number
thawing_by ReadOnly o x = freeing o x.number
thawing_by (OneWriter user) o x = freeing o x.number
thawing_by WmOnly o x = freeing o x.number

pub held_so : (hold : Hold) (o : Outline) (x : SpaceOutline) → hold_on o.sessions x ≡ hold → thawing o x ≡ thawing_by hold o x
held_so Free o x is = rw is refl
held_so (OneSession session) o x is = rw is refl
held_so NoAccess o x is = rw is refl
held_so ReadOnly o x is = rw is refl
held_so (OneWriter user) o x is = rw is refl
held_so WmOnly o x is = rw is refl

-- what holds however it is held
by_hold : (P : Plan → Type 0) (o : Outline) (x : SpaceOutline) → ((hold : Hold) → P (thawing_by hold o x)) → P (thawing o x)
by_hold P o x each = subst P (sym (held_so (hold_on o.sessions x) o x refl)) (each (hold_on o.sessions x))

-- ---- in order

pub thaw_order : (name : List ℕ) (fault : Option (List ℕ)) (o : Outline) (found : Option SpaceOutline) → InOrder (refused_for mistyped fault ∷ (for_named (no_workspace name) (thawing o) found).faults)
thaw_order name fault o None = least_first (14 ∷ 19 ∷ []) _ (at_for 14 mistyped (λ y. refl) fault, (refl, tt)) refl
thaw_order name fault o (Some x) = by_hold (λ p. InOrder (refused_for mistyped fault ∷ p.faults)) o x each
  where
    spent_order : InOrder (refused_for mistyped fault ∷ spent o ∷ [])
    spent_order = least_first (14 ∷ 49 ∷ []) _ (at_for 14 mistyped (λ y. refl) fault, (at_spent o, tt)) refl

    each : (hold : Hold) → InOrder (refused_for mistyped fault ∷ (thawing_by hold o x).faults)
    each Free = least_first (14 ∷ 30 ∷ []) _ (at_for 14 mistyped (λ y. refl) fault, (refl, tt)) refl
    each (OneSession session) = least_first (14 ∷ []) _ (at_for 14 mistyped (λ y. refl) fault, tt) refl
    each NoAccess = spent_order
    each ReadOnly = spent_order
    each (OneWriter user) = spent_order
    each WmOnly = spent_order

-- ---- what it drafts

abbrev pub name_in : List Arg → List ℕ
name_in args = unwrap_or (text_given procedures.UnfreezeWorkspace args parameters.Workspace) []

abbrev pub faults_in : List Arg → List (Option Refusal)
faults_in args = refused_for mistyped (argument_fault procedures.UnfreezeWorkspace args) ∷ []

module _ (rs : List Stored) (xs : List Session) (m : ℕ) (rules : keep_rules (parts_of rs) ≡ true) (early : nat_lt m END ≡ true) where
  frees_one : (hold : Hold) (r : Space) → space_of (parts_of rs).spaces r.number ≡ Some r → least (thawing_by hold (outline_of (parts_of rs) xs m) (outline_by (parts_of rs) r)).faults ≡ None
      → CanDraft rs m (thawing_by hold (outline_of (parts_of rs) xs m) (outline_by (parts_of rs) r)).edits
  frees_one Free r here clear = tt
  frees_one (OneSession session) r here clear = tt
  frees_one NoAccess r here clear = drafts_one rs xs m _ rules early refl (unspent _ (least_none _ _ clear).0) (record { space = r; there = here; short = refl })
  frees_one ReadOnly r here clear = drafts_one rs xs m _ rules early refl (unspent _ (least_none _ _ clear).0) (record { space = r; there = here; short = refl })
  frees_one (OneWriter user) r here clear = drafts_one rs xs m _ rules early refl (unspent _ (least_none _ _ clear).0) (record { space = r; there = here; short = refl })
  frees_one WmOnly r here clear = drafts_one rs xs m _ rules early refl (unspent _ (least_none _ _ clear).0) (record { space = r; there = here; short = refl })

  can_unfreeze : (args : List Arg) (q : Outcome) → q ≡ outcome (unfreeze_plan args (outline_of (parts_of rs) xs m)) → CanDraft rs m q.edits
  can_unfreeze args q is = subst (λ (q : Outcome). CanDraft rs m q.edits) (sym is) (can_named (faults_in args) (no_workspace (name_in args)) (thawing (outline_of (parts_of rs) xs m)) rs xs m (name_in args) rules each)
    where
      each : (r : Space) → find (λ (s : Space). bytes_eq (name_in args) s.name) (parts_of rs).spaces ≡ Some r → least (thawing (outline_of (parts_of rs) xs m) (outline_by (parts_of rs) r)).faults ≡ None
          → CanDraft rs m (thawing (outline_of (parts_of rs) xs m) (outline_by (parts_of rs) r)).edits
      each r found = by_hold (λ p. least p.faults ≡ None → CanDraft rs m p.edits) (outline_of (parts_of rs) xs m) (outline_by (parts_of rs) r) (λ hold. frees_one hold r (named_numbered (parts_of rs) rules (name_in args) r found))

-- ---- what becomes of the sessions, and the answer

module _ (args : List Arg) (o : Outline) where
  unfreeze_seats : (p : Parts) (q : Outcome) → q ≡ outcome (unfreeze_plan args o) → SeatsStaged p q.seating
  unfreeze_seats p q is = subst (λ (q : Outcome). SeatsStaged p q.seating) (sym is) (seats_named (faults_in args) (no_workspace (name_in args)) (thawing o) p (λ x. by_hold (λ q. SeatsStaged p q.seating) o x (each x)) (space_named (name_in args) o))
    where
      each : (x : SpaceOutline) (hold : Hold) → SeatsStaged p (thawing_by hold o x).seating
      each x Free = tt
      each x (OneSession session) = tt
      each x NoAccess = tt
      each x ReadOnly = tt
      each x (OneWriter user) = tt
      each x WmOnly = tt

  unfreeze_idles : is_idle (unfreeze_plan args o).answer ≡ true → ((unfreeze_plan args o).edits ≡ []) × ((unfreeze_plan args o).seating ≡ Stay)
  unfreeze_idles e = absurd (false≢true (sym (of_named (faults_in args) (no_workspace (name_in args)) (thawing o) (λ p. is_idle p.answer ≡ false) refl (λ x. by_hold (λ p. is_idle p.answer ≡ false) o x (each x)) (space_named (name_in args) o)) ∙ e))
    where
      each : (x : SpaceOutline) (hold : Hold) → is_idle (thawing_by hold o x).answer ≡ false
      each x Free = refl
      each x (OneSession session) = refl
      each x NoAccess = refl
      each x ReadOnly = refl
      each x (OneWriter user) = refl
      each x WmOnly = refl

-- ---- it fits the records

pub fits_unfreeze : (rs : List Stored) (xs : List Session) (m : ℕ) → keep_rules (parts_of rs) ≡ true → nat_lt m END ≡ true → (args : List Arg) → Fits rs m (unfreeze_plan args (outline_of (parts_of rs) xs m))
fits_unfreeze rs xs m rules early args =
    let p = unfreeze_plan args (outline_of (parts_of rs) xs m) in
    record {
      can = can_unfreeze rs xs m rules early args (outcome p) refl;
      seats = unfreeze_seats args (outline_of (parts_of rs) xs m) (parts_of rs) (outcome p) refl;
      idle = told_idle p (unfreeze_idles args (outline_of (parts_of rs) xs m));
    }

-- ---- what comes of it

module _ (args : List Arg) (o : Outline) (q : Outcome) where
  pub thaw_told : (parameter : List ℕ) → Some parameter ≡ argument_fault procedures.UnfreezeWorkspace args → q ≡ record { edits = []; seating = Stay; answer = mistyped parameter } → q ≡ outcome (unfreeze_plan args o)
  thaw_told parameter is says =
      fronted (faults_in args) (no_workspace (name_in args)) (thawing o) (space_named (name_in args) o) (Form (Wm013 parameter)) q
      (thaw_order (name_in args) (argument_fault procedures.UnfreezeWorkspace args) o (space_named (name_in args) o)) (ap (λ f. first_fault (refused_for mistyped f ∷ [])) is) says

  pub thaw_clear : (name : List ℕ) → name ≡ name_in args → None ≡ argument_fault procedures.UnfreezeWorkspace args → q ≡ outcome (for_named (no_workspace name) (thawing o) (space_named name o)) → q ≡ outcome (unfreeze_plan args o)
  thaw_clear name names is says =
      also_clear (faults_in args) (for_named (no_workspace (name_in args)) (thawing o) (space_named (name_in args) o)) q (ap (λ f. first_fault (refused_for mistyped f ∷ [])) is)
      (says ∙ ap (λ n. outcome (for_named (no_workspace n) (thawing o) (space_named n o))) names)
