-- Plans over records fit them, where the plans fit of which they are made.
use Rattle.std.proofs.Common.{◌≡◌, ℕ, true, false, List, [], ◌++◌, Option, Some, None, unwrap_or, refl, sym, ap, ◌∙◌, subst}
use Rattle.std.proofs.lemmas.Bool.{false≢true}
use Rattle.std.specs.List.{find}
use Rattle.std.specs.Option.{option_map}
use Rattle.std.specs.Str.{bytes_eq}
use Rattle.wm_base.specs.declared.refusal.Refusal.{Refusal}
use Rattle.wm_graph.specs.Parts.{parts_of, space_of}
use Rattle.wm_graph.specs.Rules.{keep_rules}
use Rattle.wm_model.specs.Planning.{SeatsStaged, SetsStaged, Stay, is_idle}
use Rattle.wm_model.specs.Step.{Outcome, Plan, Setting, also, done_so, doing, for_home, for_named, for_savepoint, for_table, for_text, least, mistyped, no_workspace, outcome, refused_or, refusing, setting, space_named}
use Rattle.wm_outcome.proofs.Faults.{least_behind}
use Rattle.wm_outcome.proofs.Named.{can_outcome, seats_outcome}
use Rattle.wm_outcome.proofs.Numbered.{numbered_by}
use Rattle.wm_outcome.specs.Fitting.{Fits}
use Rattle.wm_outline.proofs.Looks.{named_by, named_numbered}
use Rattle.wm_outline.specs.Outline.{SpaceOutline, outline_by, outline_of}
use Rattle.wm_print.specs.Texts.{Answer}
use Rattle.wm_spec.specs.declared.record.space.Space.{Space}
use Rattle.wm_spec.specs.declared.record.stored.Stored.{Stored}
use Rattle.wm_spec.specs.declared.record.table.Table.{Table}
use Rattle.wm_state.specs.Drafts.{CanDraft}
use Rattle.wm_state.specs.Standing.{SavepointFields}
use Rattle.wm_state.specs.State.{Session}
use Rattle.wm_state.specs.declared.edit.Edit.{Edit}

-- what is refused fits, and so does what is done where that fits
fits_by : (rs : List Stored) (m : ℕ) (q : Plan) → ((f : Option Refusal) → least q.faults ≡ f → (is_idle (refused_or f (done_so q)).answer ≡ true → ((refused_or f (done_so q)).edits ≡ []) × ((refused_or f (done_so q)).seating ≡ Stay)))
    → (least q.faults ≡ None → CanDraft rs m q.edits) → SeatsStaged (parts_of rs) q.seating → Fits rs m q
fits_by rs m q idle can staged = record {
  can = can_outcome rs m q can;
  seats = seats_outcome (parts_of rs) q staged;
  idle = idle (least q.faults) refl;
}

pub fits_done : (rs : List Stored) (m : ℕ) (q : Plan) → (least q.faults ≡ None → CanDraft rs m q.edits) → SeatsStaged (parts_of rs) q.seating → is_idle q.answer ≡ false → Fits rs m q
fits_done rs m q can staged busy = fits_by rs m q (λ f is. by_fault f) can staged
  where
    by_fault : (f : Option Refusal) → is_idle (refused_or f (done_so q)).answer ≡ true → ((refused_or f (done_so q)).edits ≡ []) × ((refused_or f (done_so q)).seating ≡ Stay)
    by_fault None idle = absurd (false≢true (sym busy ∙ idle))
    by_fault (Some refusal) idle = (refl, refl)

pub fits_refusing : (rs : List Stored) (m : ℕ) (answer : Answer) → Fits rs m (refusing answer)
fits_refusing rs m answer = fits_done rs m (refusing answer) (λ clear. tt) tt refl

pub fits_setting : (rs : List Stored) (m : ℕ) (faults : List (Option Refusal)) (session : Session) (what : Setting) → SetsStaged (parts_of rs) what → Fits rs m (setting faults session what)
fits_setting rs m faults session what staged = fits_done rs m (setting faults session what) (λ clear. tt) staged refl

pub fits_doing : (rs : List Stored) (m : ℕ) (faults : List (Option Refusal)) (es : List Edit) → (least faults ≡ None → CanDraft rs m es) → Fits rs m (doing faults es)
fits_doing rs m faults es can = fits_done rs m (doing faults es) can tt refl

-- faults in front
pub fits_also : (rs : List Stored) (m : ℕ) (front : List (Option Refusal)) (q : Plan) → Fits rs m q → Fits rs m (also front q)
fits_also rs m front q fits = by_least (least (front ++ q.faults)) refl
  where
    by_least : (f : Option Refusal) → least (front ++ q.faults) ≡ f → Fits rs m (also front q)
    by_least (Some r) is = let told : outcome (also front q) ≡ refused_or (Some r) (done_so q) = ap (λ g. refused_or g (done_so q)) is in
        record {
          can = subst (λ (o : Outcome). CanDraft rs m o.edits) (sym told) tt;
          seats = subst (λ (o : Outcome). SeatsStaged (parts_of rs) o.seating) (sym told) tt;
          idle = λ said. (ap (λ (o : Outcome). o.edits) told, ap (λ (o : Outcome). o.seating) told);
        }
    by_least None is = let told : outcome (also front q) ≡ outcome q = ap (λ g. refused_or g (done_so q)) (is ∙ sym (least_behind front q.faults is)) in
        record {
          can = subst (λ (o : Outcome). CanDraft rs m o.edits) (sym told) fits.can;
          seats = subst (λ (o : Outcome). SeatsStaged (parts_of rs) o.seating) (sym told) fits.seats;
          idle = λ said. let h = fits.idle (ap (λ (o : Outcome). is_idle o.answer) (sym told) ∙ said) in (ap (λ (o : Outcome). o.edits) told ∙ h.0, ap (λ (o : Outcome). o.seating) told ∙ h.1);
        }

-- ---- what was looked up

pub fits_text : (rs : List Stored) (m : ℕ) (text fault : Option (List ℕ)) (act : List ℕ → Plan) → ((name : List ℕ) → Fits rs m (act name)) → Fits rs m (for_text text fault act)
fits_text rs m None fault act each = fits_refusing rs m (mistyped (unwrap_or fault []))
fits_text rs m (Some name) fault act each = each name

pub fits_table : (rs : List Stored) (m : ℕ) (lacks : Answer) (act : Table → Plan) (found : Option Table) → ((t : Table) → found ≡ Some t → Fits rs m (act t)) → Fits rs m (for_table lacks act found)
fits_table rs m lacks act None each = fits_refusing rs m lacks
fits_table rs m lacks act (Some t) each = each t refl

pub fits_savepoint : (rs : List Stored) (m : ℕ) (lacks : Answer) (act : SavepointFields → Plan) (found : Option SavepointFields) → ((k : SavepointFields) → found ≡ Some k → Fits rs m (act k)) → Fits rs m (for_savepoint lacks act found)
fits_savepoint rs m lacks act None each = fits_refusing rs m lacks
fits_savepoint rs m lacks act (Some k) each = each k refl

-- of a workspace of the records
fits_space : (rs : List Stored) (m : ℕ) (lacks : Answer) (act : SpaceOutline → Plan) (found : Option Space) → ((r : Space) → found ≡ Some r → Fits rs m (act (outline_by (parts_of rs) r)))
    → Fits rs m (for_named lacks act (option_map (outline_by (parts_of rs)) found))
fits_space rs m lacks act None each = fits_refusing rs m lacks
fits_space rs m lacks act (Some r) each = each r refl

pub fits_named : (rs : List Stored) (xs : List Session) (m : ℕ) (lacks : Answer) (act : SpaceOutline → Plan) (name : List ℕ) → keep_rules (parts_of rs) ≡ true
    → ((r : Space) → space_of (parts_of rs).spaces r.number ≡ Some r → Fits rs m (act (outline_by (parts_of rs) r))) → Fits rs m (for_named lacks act (space_named name (outline_of (parts_of rs) xs m)))
fits_named rs xs m lacks act name rules each =
    subst (λ (o : Option SpaceOutline). Fits rs m (for_named lacks act o)) (sym (named_by (parts_of rs) rules name))
    (fits_space rs m lacks act (find (λ (s : Space). bytes_eq name s.name) (parts_of rs).spaces) (λ r found. each r (named_numbered (parts_of rs) rules name r found)))

pub fits_home : (rs : List Stored) (xs : List Session) (m : ℕ) (act : SpaceOutline → Plan) (session : Session) → keep_rules (parts_of rs) ≡ true
    → ((r : Space) → space_of (parts_of rs).spaces session.space ≡ Some r → Fits rs m (act (outline_by (parts_of rs) r))) → Fits rs m (for_home act session (outline_of (parts_of rs) xs m))
fits_home rs xs m act session rules each =
    subst (λ (o : Option SpaceOutline). Fits rs m (for_named (no_workspace []) act o)) (sym (numbered_by (parts_of rs) xs m session.space)) (fits_space rs m (no_workspace []) act (space_of (parts_of rs).spaces session.space) each)
