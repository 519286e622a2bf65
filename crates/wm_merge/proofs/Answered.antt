-- What is told of plans that only answer, and of the tests that lead to them.
use Rattle.std.proofs.Common.{◌≡◌, ◌⊎◌, ⊎_elim, inl, inr, ℕ, ◌+◌, nat_lt, Bool, true, false, not, ◌&&◌, List, [], map, length, IfSome, IfNone, Option, Some, None, refl, sym, ap, ◌∙◌, subst}
use Rattle.std.proofs.lemmas.List.{length-map}
use Rattle.std.proofs.lemmas.Bool.{and_parts, true≢false}
use Rattle.std.specs.List.{list_any}
use Rattle.std.specs.Option.{option_map}
use Rattle.wm_graph.specs.Parts.{Parts}
use Rattle.wm_print.specs.Texts.{Answer}
use Rattle.wm_period.specs.Pieces.{Held}
use Rattle.wm_spec.specs.Lists.{Cell, Entry}
use Rattle.wm_spec.specs.declared.record.space.Space.{Space}
use Rattle.wm_spec.specs.declared.record.stored.Stored.{Stored}
use Rattle.wm_state.specs.Drafts.{is_turn}
use Rattle.wm_state.specs.Editing.{counter_limit, entry_of, number_limit}
use Rattle.wm_state.specs.State.{Session, State}
use Rattle.wm_state.specs.declared.edit.NewEntry.{NewEntry}
use Rattle.wm_telling.specs.Telling.{IsFirstClash, IsHeldListing, clash_held}
use Rattle.wm_pending.specs.declared.clash.Clash.{Clash}
use Rattle.wm_model.specs.Merged.{IsClash}
use Rattle.wm_model.specs.Planning.{Does, Stay}
use Rattle.wm_plan.proofs.Planning.{told}
use Rattle.wm_plan.specs.Planning.{DoesIt}
use Rattle.wm_plan.specs.Views.{answer_view, seating_view}
use Rattle.wm_plan.specs.declared.planned.Planned.{Planned}
use Rattle.wm_plan.specs.declared.seating.Seating.TheVariants as seatings
use Rattle.wm_merge.specs.Views.{clashed, has_next_turn}

-- a plan that changes nothing
pub told_nothing : (rs : List Stored) (xs : List Session) (m : ℕ) (p : Planned) (answer : Answer) (act : State → State × Answer) → p.edits.items ≡ [] → p.seating ≡ seatings.Stay → answer_view p.answer ≡ answer
    → Does rs xs m [] Stay answer act → DoesIt rs xs m p act
told_nothing rs xs m p answer act none stays says does = told rs xs m p [] Stay answer act none (ap seating_view stays) says does

-- the first conflict that is found, or that there is none
pub clash_found : (p : Parts) (a b : Space) (found : Option Clash) → IfSome found (λ clash. IsFirstClash p a b clash.table clash.key clash.period.from clash.period.till)
    → IfNone found ((c : Cell) → clash_held p a b c ≡ None) → IsClash p a b (option_map clashed found)
clash_found p a b (Some x) some none = some
clash_found p a b None some none = none

-- entries that are listed for a user
pub listed_for : (p : Parts) (m : ℕ) (given user : List ℕ) (f : Cell → Option Held) (es : List Entry) → given ≡ user → IsHeldListing p m given f es → IsHeldListing p m user f es
listed_for p m given user f es is listed = subst (λ u. IsHeldListing p m u f es) is listed

-- a log with entries more
pub log_test : (log_length : ℕ) (given es : List NewEntry) (b : Bool) → given ≡ es → b ≡ nat_lt counter_limit (log_length + length given) → nat_lt counter_limit (log_length + length es) ≡ b
log_test log_length given es b is test = ap (λ (l : List NewEntry). nat_lt counter_limit (log_length + length l)) (sym is) ∙ sym test

-- so it is as they are listed
pub listed_test : (log_length : ℕ) (es : List NewEntry) (b : Bool) → nat_lt counter_limit (log_length + length es) ≡ b → nat_lt counter_limit (log_length + length (map entry_of es)) ≡ b
listed_test log_length es b test = ap (λ k. nat_lt counter_limit (log_length + k)) (length-map es entry_of) ∙ test

-- ---- tests of two parts

pub first_holds : (a b : Bool) → true ≡ (a && not b) → (a ≡ true) × (b ≡ false)
first_holds true false e = (refl, refl)
first_holds true true e = absurd (true≢false e)
first_holds false b e = absurd (true≢false e)

one_fails : (a b : Bool) → false ≡ (a && not b) → (a ≡ false) ⊎ (b ≡ true)
one_fails true true e = inr refl
one_fails true false e = absurd (true≢false (sym e))
one_fails false b e = inl refl

-- ---- the turn of the next rebase

abbrev turn_there : Parts → Space → Bool
turn_there p a = list_any (is_turn a.number (a.rebases + 1)) p.turns

-- where the workspace may be rebased
pub turn_free : (p : Parts) (a : Space) → nat_lt number_limit (a.rebases + 1) ≡ false → has_next_turn p a ≡ false → list_any (is_turn a.number (a.rebases + 1)) p.turns ≡ false
turn_free p a left free = sym (ap (λ b. not b && turn_there p a) left) ∙ free

pub lacks_or_turned : (b : Bool) (p : Parts) (a : Space) → false ≡ (b && not (has_next_turn p a)) → (b ≡ false) ⊎ (list_any (is_turn a.number (a.rebases + 1)) p.turns ≡ true)
lacks_or_turned b p a test = ⊎_elim (λ e. inl e) (λ e. inr (and_parts (not (nat_lt number_limit (a.rebases + 1))) (turn_there p a) e).1) (one_fails b (has_next_turn p a) test)
