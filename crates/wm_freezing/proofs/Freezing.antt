-- The plan of FreezeWorkspace: its faults stand in the order of their rows, what it drafts can be drafted, and it is answered that it is done.
use Rattle.std.proofs.Common.{◌≡◌, ℕ, ◌==◌, nat_lt, Bool, true, false, not, if◌then◌else◌, List, [], ◌∷◌, ◌++◌, Option, Some, None, unwrap_or, refl, sym, ap, ◌∙◌, subst, codes}
use Rattle.std.proofs.lemmas.Bool.{and_parts, false≢true}
use Rattle.std.specs.Option.{option_map_or}
use Rattle.wm_base.specs.declared.instant.TheConstants.{END}
use Rattle.wm_base.specs.declared.refusal.Refusal.{Refusal}
use Rattle.wm_calls.specs.Arguments.{argument, text_given}
use Rattle.wm_calls.specs.Faults.{argument_fault}
use Rattle.wm_calls.specs.Takes.{is_written}
use Rattle.wm_grammar.specs.declared.procedure.Parameter.TheVariants as parameters
use Rattle.wm_grammar.specs.declared.procedure.Procedure.TheVariants as procedures
use Rattle.wm_graph.specs.Parts.{Parts, parts_of, space_of}
use Rattle.wm_graph.specs.Rules.{is_short, keep_rules}
use Rattle.wm_guard.specs.Access.{Hold, Free, NoAccess, ReadOnly, OneWriter, OneSession, WmOnly, is_free, writer_of}
use Rattle.wm_model.specs.Seating.{Stay}
use Rattle.wm_model.specs.Planning.{SeatsStaged}
use Rattle.wm_model.specs.Step.{Outcome, already_frozen, at_its_end, bad_name, first_fault, first_session, for_named, freeze_faults, freeze_plan, freezing, freezing_edits, freezing_seating, hold_asked, hold_on, hold_worded, inside_fault, is_name, is_spent, mistyped, mode_word, no_workspace, outcome, refusal_of, refused_if, refused_with, reserved_name, session_inside, space_named, spares_live, spent, work_fault, writer_given}
use Rattle.wm_outcome.proofs.Faults.{AtPlace, Ranked, at_for, at_if, least_first, least_none, ranked_behind}
use Rattle.wm_outcome.proofs.Told.{also_clear, told_idle}
use Rattle.wm_outcome.proofs.Named.{InOrder, can_named, can_outcome, fronted, of_named, seats_named}
use Rattle.wm_outcome.proofs.Plans.{drafts_one}
use Rattle.wm_outcome.specs.Fitting.{Fits}
use Rattle.wm_outline.proofs.Looks.{named_numbered}
use Rattle.wm_outline.specs.Outline.{Outline, SpaceOutline, outline_of}
use Rattle.wm_plan.specs.Idle.{is_idle}
use Rattle.wm_spec.specs.declared.record.space.Space.{Space}
use Rattle.wm_spec.specs.declared.record.stored.Stored.{Stored}
use Rattle.wm_state.specs.Drafts.{CanDraft}
use Rattle.wm_state.specs.State.{Session}
use Rattle.wm_syntax.specs.declared.statement.Arg.{Arg}

-- ---- in order

at_inside : (hold : Hold) (o : Outline) (x : SpaceOutline) → AtPlace 31 (inside_fault hold o x)
at_inside NoAccess o x = at_for 31 (session_inside x.fields.name) (λ y. refl) (first_session (λ (y : Session). y.space == x.number) o.sessions)
at_inside Free o x = tt
at_inside ReadOnly o x = tt
at_inside (OneWriter user) o x = tt
at_inside (OneSession session) o x = tt
at_inside WmOnly o x = tt

pub at_spent : (o : Outline) → AtPlace 49 (spent o)
at_spent o = at_if 49 (is_spent o) (at_its_end (codes "WORK")) refl

at_work : (hold : Hold) (o : Outline) → AtPlace 49 (work_fault hold o)
at_work (OneSession session) o = tt
at_work Free o = at_spent o
at_work NoAccess o = at_spent o
at_work ReadOnly o = at_spent o
at_work (OneWriter user) o = at_spent o
at_work WmOnly o = at_spent o

-- the faults of a workspace that is there
freezing_ranked : (hold : Hold) (o : Outline) (x : SpaceOutline) → Ranked (29 ∷ 31 ∷ 49 ∷ []) (freezing hold o x).faults
freezing_ranked hold o x = (at_if 29 (not (is_free (hold_on o.sessions x))) (already_frozen x.fields.name) refl, (at_inside hold o x, (at_work hold o, tt)))

pub freezing_order : (hold : Hold) (o : Outline) (x : SpaceOutline) → InOrder (freezing hold o x).faults
freezing_order hold o x = least_first (29 ∷ 31 ∷ 49 ∷ []) (freezing hold o x).faults (freezing_ranked hold o x) refl

-- and those of what is given, in front of them
module _ (name : List ℕ) (writer : Option (List ℕ)) (hold : Hold) (fault : Option (List ℕ)) where
  front_ranked : Ranked (7 ∷ 8 ∷ 14 ∷ []) (freeze_faults name writer hold fault)
  front_ranked =
      (at_if 7 (option_map_or (λ (user : List ℕ). not (is_name user)) writer false) bad_name refl, (at_if 8 (spares_live name hold) (reserved_name name) refl, (at_for 14 mistyped (λ y. refl) fault, tt)))

  pub freeze_order : (o : Outline) (found : Option SpaceOutline) → InOrder (freeze_faults name writer hold fault ++ (for_named (no_workspace name) (freezing hold o) found).faults)
  freeze_order o None = least_first (7 ∷ 8 ∷ 14 ∷ 19 ∷ []) _ (ranked_behind (7 ∷ 8 ∷ 14 ∷ []) (19 ∷ []) (freeze_faults name writer hold fault) (refusal_of (no_workspace name) ∷ []) front_ranked (refl, tt)) refl
  freeze_order o (Some x) = least_first (7 ∷ 8 ∷ 14 ∷ 29 ∷ 31 ∷ 49 ∷ []) _ (ranked_behind (7 ∷ 8 ∷ 14 ∷ []) (29 ∷ 31 ∷ 49 ∷ []) (freeze_faults name writer hold fault) (freezing hold o x).faults front_ranked (freezing_ranked hold o x)) refl

-- ---- the one who may write

-- a name is short
name_short : (user : List ℕ) → is_name user ≡ true → is_short user ≡ true
name_short user e = (and_parts _ _ (and_parts _ _ e).0).1

worded_short : (word writer session : List ℕ) → is_short writer ≡ true → is_short (writer_of (hold_worded word writer session)) ≡ true
worded_short word writer session short = by_tests (is_written word (codes "NO_ACCESS")) (is_written word (codes "READ_ONLY")) (is_written word (codes "1WRITER")) (is_written word (codes "1WRITER_SESSION")) (is_written word (codes "WM_ONLY"))
  where
    by_tests : (a b c d e : Bool) → is_short (writer_of (if a then NoAccess else (if b then ReadOnly else (if c then OneWriter writer else (if d then OneSession session else (if e then WmOnly else Free)))))) ≡ true
    by_tests true b c d e = refl
    by_tests false true c d e = refl
    by_tests false false true d e = short
    by_tests false false false true e = refl
    by_tests false false false false true = refl
    by_tests false false false false false = refl

-- so is the one who is given, or else the session's user
given_short : (writer : Option (List ℕ)) (user : List ℕ) → refused_if (option_map_or (λ (user : List ℕ). not (is_name user)) writer false) bad_name ≡ None → is_short user ≡ true → is_short (unwrap_or writer user) ≡ true
given_short None user named short = short
given_short (Some given) user named short = name_short given (by_test (is_name given) named)
  where
    by_test : (b : Bool) → refused_if (not b) bad_name ≡ None → b ≡ true
    by_test true h = refl
    by_test false h = absurd (cc)

asked_short : (session : Session) (args : List Arg) → refused_if (option_map_or (λ (user : List ℕ). not (is_name user)) (writer_given args) false) bad_name ≡ None → is_short session.user ≡ true → is_short (writer_of (hold_asked session args)) ≡ true
asked_short session args named short = by_word (mode_word (argument procedures.FreezeWorkspace args parameters.FreezeMode))
  where
    by_word : (o : Option (List ℕ)) → is_short (writer_of (option_map_or (λ word. hold_worded word (unwrap_or (writer_given args) session.user) session.name) o Free)) ≡ true
    by_word None = refl
    by_word (Some word) = worded_short word (unwrap_or (writer_given args) session.user) session.name (given_short (writer_given args) session.user named short)

-- how it is asked to be held
pub hold_is : (session : Session) (args : List Arg) (hold : Hold) (given : Option (List ℕ)) (own writer : List ℕ) → given ≡ writer_given args → own ≡ session.user → writer ≡ unwrap_or given own
    → hold ≡ option_map_or (λ (word : List ℕ). hold_worded word writer session.name) (mode_word (argument procedures.FreezeWorkspace args parameters.FreezeMode)) Free → hold ≡ hold_asked session args
hold_is session args hold given own writer gives owns writes holds =
    holds
    ∙ ap (λ (user : List ℕ). option_map_or (λ (word : List ℕ). hold_worded word user session.name) (mode_word (argument procedures.FreezeWorkspace args parameters.FreezeMode)) Free)
    (writes ∙ ap (λ (o : Option (List ℕ)). unwrap_or o own) gives ∙ ap (unwrap_or (writer_given args)) owns)

-- ---- what it drafts

abbrev pub name_in : List Arg → List ℕ
name_in args = unwrap_or (text_given procedures.FreezeWorkspace args parameters.Workspace) []

abbrev pub faults_in : Session → List Arg → List (Option Refusal)
faults_in session args = freeze_faults (name_in args) (writer_given args) (hold_asked session args) (argument_fault procedures.FreezeWorkspace args)

some_none : (r : Refusal) → Some r ≡ None → ⊥
some_none r e = cc

pub unspent : (b : Bool) → refused_if b (at_its_end (codes "WORK")) ≡ None → b ≡ false
unspent true h = absurd (cc)
unspent false h = refl

module _ (rs : List Stored) (xs : List Session) (m : ℕ) (rules : keep_rules (parts_of rs) ≡ true) (early : nat_lt m END ≡ true) where
  holds_one : (hold : Hold) (r : Space) → space_of (parts_of rs).spaces r.number ≡ Some r → is_short (writer_of hold) ≡ true → work_fault hold (outline_of (parts_of rs) xs m) ≡ None → CanDraft rs m (freezing_edits hold r.number)
  holds_one (OneSession session) r here short room = tt
  holds_one Free r here short room = drafts_one rs xs m _ rules early refl (unspent _ room) (record { space = r; there = here; short = short })
  holds_one NoAccess r here short room = drafts_one rs xs m _ rules early refl (unspent _ room) (record { space = r; there = here; short = short })
  holds_one ReadOnly r here short room = drafts_one rs xs m _ rules early refl (unspent _ room) (record { space = r; there = here; short = short })
  holds_one (OneWriter user) r here short room = drafts_one rs xs m _ rules early refl (unspent _ room) (record { space = r; there = here; short = short })
  holds_one WmOnly r here short room = drafts_one rs xs m _ rules early refl (unspent _ room) (record { space = r; there = here; short = short })

  can_freeze : (session : Session) (args : List Arg) (q : Outcome) → is_short session.user ≡ true → q ≡ outcome (freeze_plan session args (outline_of (parts_of rs) xs m)) → CanDraft rs m q.edits
  can_freeze session args q short is = subst (λ (q : Outcome). CanDraft rs m q.edits) (sym is) (by_writer (refused_if (option_map_or (λ (user : List ℕ). not (is_name user)) (writer_given args) false) bad_name) refl)
    where
      by_writer : (f : Option Refusal) → refused_if (option_map_or (λ (user : List ℕ). not (is_name user)) (writer_given args) false) bad_name ≡ f → CanDraft rs m (outcome (freeze_plan session args (outline_of (parts_of rs) xs m))).edits
      by_writer (Some r) wrong = can_outcome rs m (freeze_plan session args (outline_of (parts_of rs) xs m)) (λ clear. absurd (some_none r (sym wrong ∙ (least_none _ _ clear).0)))
      by_writer None right =
          can_named (faults_in session args) (no_workspace (name_in args)) (freezing (hold_asked session args) (outline_of (parts_of rs) xs m)) rs xs m (name_in args) rules
          (λ r found clear.
          let free = least_none _ _ clear in
          let inside = least_none _ _ free.1 in
          holds_one (hold_asked session args) r (named_numbered (parts_of rs) rules (name_in args) r found) (asked_short session args right short) (least_none _ _ inside.1).0)

-- ---- what becomes of the sessions, and the answer

module _ (session : Session) (args : List Arg) (o : Outline) where
  freeze_seats : (p : Parts) (q : Outcome) → q ≡ outcome (freeze_plan session args o) → SeatsStaged p q.seating
  freeze_seats p q is = subst (λ (q : Outcome). SeatsStaged p q.seating) (sym is) (seats_named (faults_in session args) (no_workspace (name_in args)) (freezing (hold_asked session args) o) p (λ x. by_hold (hold_asked session args) x.number) (space_named (name_in args) o))
    where
      by_hold : (hold : Hold) (n : ℕ) → SeatsStaged p (freezing_seating hold n)
      by_hold (OneSession name) n = tt
      by_hold Free n = tt
      by_hold NoAccess n = tt
      by_hold ReadOnly n = tt
      by_hold (OneWriter user) n = tt
      by_hold WmOnly n = tt

  freeze_idles : is_idle (freeze_plan session args o).answer ≡ true → ((freeze_plan session args o).edits ≡ []) × ((freeze_plan session args o).seating ≡ Stay)
  freeze_idles e = absurd (false≢true (sym (of_named (faults_in session args) (no_workspace (name_in args)) (freezing (hold_asked session args) o) (λ p. is_idle p.answer ≡ false) refl (λ x. refl) (space_named (name_in args) o)) ∙ e))

-- ---- it fits the records

pub fits_freeze : (rs : List Stored) (xs : List Session) (m : ℕ) → keep_rules (parts_of rs) ≡ true → nat_lt m END ≡ true → (session : Session) (args : List Arg) → is_short session.user ≡ true → Fits rs m (freeze_plan session args (outline_of (parts_of rs) xs m))
fits_freeze rs xs m rules early session args short =
    let p = freeze_plan session args (outline_of (parts_of rs) xs m) in
    record {
      can = can_freeze rs xs m rules early session args (outcome p) short refl;
      seats = freeze_seats session args (outline_of (parts_of rs) xs m) (parts_of rs) (outcome p) refl;
      idle = told_idle p (freeze_idles session args (outline_of (parts_of rs) xs m));
    }

-- ---- what comes of it

module _ (session : Session) (args : List Arg) (o : Outline) (q : Outcome) (name : List ℕ) (writer : Option (List ℕ)) (hold : Hold) (names : name ≡ name_in args) (writes : writer ≡ writer_given args) (holds : hold ≡ hold_asked session args) where
  faults_are : first_fault (freeze_faults name writer hold (argument_fault procedures.FreezeWorkspace args)) ≡ first_fault (faults_in session args)
  faults_are =
      ap (λ n. first_fault (freeze_faults n writer hold (argument_fault procedures.FreezeWorkspace args))) names
      ∙ ap (λ w. first_fault (freeze_faults (name_in args) w hold (argument_fault procedures.FreezeWorkspace args))) writes
      ∙ ap (λ h. first_fault (freeze_faults (name_in args) (writer_given args) h (argument_fault procedures.FreezeWorkspace args))) holds

  pub freeze_told : (r : Refusal) → Some r ≡ first_fault (freeze_faults name writer hold (argument_fault procedures.FreezeWorkspace args)) → q ≡ refused_with r → q ≡ outcome (freeze_plan session args o)
  freeze_told r is says =
      fronted (faults_in session args) (no_workspace (name_in args)) (freezing (hold_asked session args) o) (space_named (name_in args) o) r q
      (freeze_order (name_in args) (writer_given args) (hold_asked session args) (argument_fault procedures.FreezeWorkspace args) o (space_named (name_in args) o)) (is ∙ faults_are) says

  pub freeze_clear : None ≡ first_fault (freeze_faults name writer hold (argument_fault procedures.FreezeWorkspace args)) → q ≡ outcome (for_named (no_workspace name) (freezing hold o) (space_named name o)) → q ≡ outcome (freeze_plan session args o)
  freeze_clear is says =
      also_clear (faults_in session args) (for_named (no_workspace (name_in args)) (freezing (hold_asked session args) o) (space_named (name_in args) o)) q (is ∙ faults_are)
      (says
      ∙ ap (λ n. outcome (for_named (no_workspace n) (freezing hold o) (space_named n o))) names
      ∙ ap (λ h. outcome (for_named (no_workspace (name_in args)) (freezing h o) (space_named (name_in args) o))) holds)
