-- What a statement that changes rows of a table does to each state that the records stand for, up to the workspace where it does it.
use Rattle.std.proofs.Common.{◌≡◌, ℕ, Bool, true, false, not, if◌then◌else◌, List, [], Option, Some, None, refl, ap, ◌∙◌}
use Rattle.wm_base.specs.declared.refusal.Refusal.{Refusal}
use Rattle.wm_graph.specs.Parts.{parts_of, space_of}
use Rattle.wm_graph.specs.Rules.{keep_rules}
use Rattle.wm_print.specs.Texts.{Answer, Refused}
use Rattle.wm_spec.specs.declared.record.space.Space.{Space}
use Rattle.wm_spec.specs.declared.record.stored.Stored.{Stored}
use Rattle.wm_spec.specs.declared.record.table.Table.{Table}
use Rattle.wm_state.specs.State.{State, Session, Workspace, Stand, Latest, At, Dated}
use Rattle.wm_model.specs.Planning.{StandsAt, Does, Stay, named}
use Rattle.wm_model.specs.Step.{at_home, at_latest, at_newest, empty_period, no_table, not_latest, unless, unless_empty_period, versioning}
use Rattle.wm_model.proofs.Doing.{does_nothing}
use Rattle.wm_model.proofs.Homes.{home_is, home_some, with_none, with_some}

-- what is done with a table in a workspace
abbrev pub Acts : Type 0
Acts = Table → State → Workspace → State × Answer

-- ---- the table

abbrev in_home : Session → Bool → Acts → State → Table → Workspace → State × Answer
in_home session empty act s table w = at_latest s session.stand (unless_empty_period empty s (act table s w))

abbrev in_table : Session → List ℕ → (Table → Option Refusal) → Bool → Acts → State → Table → State × Answer
in_table session name fault empty act s table =
    if not table.versioned then (s, versioning name false) else unless (fault table) s (at_home s session (in_home session empty act s table))

pub newest_none : (rs : List Stored) (xs : List Session) (m : ℕ) (session : Session) (name : List ℕ) (fault : Table → Option Refusal) (empty : Bool) (act : Acts) → keep_rules (parts_of rs) ≡ true → named rs name ≡ None
    → Does rs xs m [] Stay (no_table name) (at_newest session name fault empty act)
newest_none rs xs m session name fault empty act rules none =
    does_nothing rs xs m (no_table name) (at_newest session name fault empty act) (λ s st. with_none rs xs m s name (in_table session name fault empty act s) st none)

-- the table is not ready for rows
pub newest_off : (rs : List Stored) (xs : List Session) (m : ℕ) (session : Session) (name : List ℕ) (fault : Table → Option Refusal) (empty : Bool) (act : Acts) (t : Table) → keep_rules (parts_of rs) ≡ true → named rs name ≡ Some t
    → t.versioned ≡ false → Does rs xs m [] Stay (versioning name false) (at_newest session name fault empty act)
newest_off rs xs m session name fault empty act t rules some off =
    does_nothing rs xs m (versioning name false) (at_newest session name fault empty act) (λ s st. with_some rs xs m s name (in_table session name fault empty act s) t st some ∙ rw off refl)

-- the table is ready for rows
pub record IsReady (rs : List Stored) (name : List ℕ) (t : Table) : Type 0 where
  pub rules : keep_rules (parts_of rs) ≡ true
  pub some : named rs name ≡ Some t
  pub on : t.versioned ≡ true

on_table : (rs : List Stored) (xs : List Session) (m : ℕ) (session : Session) (name : List ℕ) (fault : Table → Option Refusal) (empty : Bool) (act : Acts) (t : Table) (s : State) → IsReady rs name t → StandsAt rs xs m s
    → at_newest session name fault empty act s ≡ unless (fault t) s (at_home s session (in_home session empty act s t))
on_table rs xs m session name fault empty act t s ready st = with_some rs xs m s name (in_table session name fault empty act s) t st ready.some ∙ taken ready.on
  where
    taken : t.versioned ≡ true → in_table session name fault empty act s t ≡ unless (fault t) s (at_home s session (in_home session empty act s t))
    taken on = rw on refl

-- the statement is wrong for the table
pub newest_faulty : (rs : List Stored) (xs : List Session) (m : ℕ) (session : Session) (name : List ℕ) (fault : Table → Option Refusal) (empty : Bool) (act : Acts) (t : Table) (refusal : Refusal) → IsReady rs name t
    → fault t ≡ Some refusal → Does rs xs m [] Stay (Refused refusal) (at_newest session name fault empty act)
newest_faulty rs xs m session name fault empty act t refusal ready bad =
    does_nothing rs xs m (Refused refusal) (at_newest session name fault empty act)
    (λ s st. on_table rs xs m session name fault empty act t s ready st ∙ ap (λ f. unless f s (at_home s session (in_home session empty act s t))) bad)

-- ---- the workspace

-- nothing is wrong with it
pub record IsGood (rs : List Stored) (name : List ℕ) (fault : Table → Option Refusal) (t : Table) : Type 0 where
  pub ready : IsReady rs name t
  pub good : fault t ≡ None

comes_home : (rs : List Stored) (xs : List Session) (m : ℕ) (session : Session) (name : List ℕ) (fault : Table → Option Refusal) (empty : Bool) (act : Acts) (t : Table) (s : State) → IsGood rs name fault t
    → StandsAt rs xs m s → at_newest session name fault empty act s ≡ at_home s session (in_home session empty act s t)
comes_home rs xs m session name fault empty act t s g st =
    on_table rs xs m session name fault empty act t s g.ready st ∙ ap (λ f. unless f s (at_home s session (in_home session empty act s t))) g.good

at_stand : (rs : List Stored) (xs : List Session) (m : ℕ) (session : Session) (name : List ℕ) (fault : Table → Option Refusal) (empty : Bool) (act : Acts) (t : Table) (a : Space) (stand : Stand) (s : State) → IsGood rs name fault t
    → (found : space_of (parts_of rs).spaces session.space ≡ Some a) → session.stand ≡ stand → (st : StandsAt rs xs m s)
    → at_newest session name fault empty act s ≡ at_latest s stand (unless_empty_period empty s (act t s (home_is rs xs m s session.space a st found).space))
at_stand rs xs m session name fault empty act t a stand s g found at st =
    comes_home rs xs m session name fault empty act t s g st ∙ home_some rs xs m s session (in_home session empty act s t) a st found
    ∙ ap (λ x. at_latest s x (unless_empty_period empty s (act t s (home_is rs xs m s session.space a st found).space))) at

-- the session stands at a savepoint
pub newest_elsewhere : (rs : List Stored) (xs : List Session) (m : ℕ) (session : Session) (name : List ℕ) (fault : Table → Option Refusal) (empty : Bool) (act : Acts) (t : Table) (a : Space) (making : ℕ) → IsGood rs name fault t
    → space_of (parts_of rs).spaces session.space ≡ Some a → session.stand ≡ At making → Does rs xs m [] Stay not_latest (at_newest session name fault empty act)
newest_elsewhere rs xs m session name fault empty act t a making g found at =
    does_nothing rs xs m not_latest (at_newest session name fault empty act) (λ s st. at_stand rs xs m session name fault empty act t a (At making) s g found at st)

-- it stands on a date
pub newest_dated : (rs : List Stored) (xs : List Session) (m : ℕ) (session : Session) (name : List ℕ) (fault : Table → Option Refusal) (empty : Bool) (act : Acts) (t : Table) (a : Space) (date : ℕ) → IsGood rs name fault t
    → space_of (parts_of rs).spaces session.space ≡ Some a → session.stand ≡ Dated date → Does rs xs m [] Stay not_latest (at_newest session name fault empty act)
newest_dated rs xs m session name fault empty act t a date g found at =
    does_nothing rs xs m not_latest (at_newest session name fault empty act) (λ s st. at_stand rs xs m session name fault empty act t a (Dated date) s g found at st)

-- the session stands at what is newest in its workspace
pub record ComesTo (rs : List Stored) (session : Session) (name : List ℕ) (fault : Table → Option Refusal) (t : Table) (a : Space) : Type 0 where
  pub good : IsGood rs name fault t
  pub found : space_of (parts_of rs).spaces session.space ≡ Some a
  pub at : session.stand ≡ Latest

-- a period of the statement is empty
pub newest_empty : (rs : List Stored) (xs : List Session) (m : ℕ) (session : Session) (name : List ℕ) (fault : Table → Option Refusal) (empty : Bool) (act : Acts) (t : Table) (a : Space) → ComesTo rs session name fault t a
    → empty ≡ true → Does rs xs m [] Stay empty_period (at_newest session name fault empty act)
newest_empty rs xs m session name fault empty act t a to none =
    does_nothing rs xs m empty_period (at_newest session name fault empty act)
    (λ s st. at_stand rs xs m session name fault empty act t a Latest s to.good to.found to.at st ∙ ap (λ b. unless_empty_period b s (act t s (home_is rs xs m s session.space a st to.found).space)) none)

-- none is: this is done
pub comes_to : (rs : List Stored) (xs : List Session) (m : ℕ) (session : Session) (name : List ℕ) (fault : Table → Option Refusal) (empty : Bool) (act : Acts) (t : Table) (a : Space) (s : State) (to : ComesTo rs session name fault t a)
    → empty ≡ false → (st : StandsAt rs xs m s) → at_newest session name fault empty act s ≡ act t s (home_is rs xs m s session.space a st to.found).space
comes_to rs xs m session name fault empty act t a s to lasting st =
    at_stand rs xs m session name fault empty act t a Latest s to.good to.found to.at st ∙ ap (λ b. unless_empty_period b s (act t s (home_is rs xs m s session.space a st to.found).space)) lasting
