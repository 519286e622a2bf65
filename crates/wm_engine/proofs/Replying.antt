-- What a reply that tells a refusal says of the line.
use Rattle.std.proofs.Common.{◌≡◌, true, List, ℕ, Option, refl, ap, ◌∙◌}
use Rattle.std.specs.Prelude.{IfSome, OnSome}
use Rattle.wm_base.specs.declared.refusal.Refusal.{Refusal}
use Rattle.wm_spec.specs.declared.record.stored.Stored.{Stored}
use Rattle.wm_state.specs.State.{Session}
use Rattle.wm_store.specs.declared.store.Store.{Store}
use Rattle.wm_print.specs.Texts.{Answer, Nothing, Fine, Done, Listing, Refused, answer_text}
use Rattle.wm_plan.specs.Idle.{is_idle}
use Rattle.wm_model.specs.Step.Refusing.{refusal_of}
use Rattle.wm_engine.specs.Working.{Engaged, engaged}

-- what an idle line leaves a refused one leaves
pub of_refusal : (T : Type 0) (answer : Answer) (refused : Option Refusal) → refused ≡ refusal_of answer → (is_idle answer ≡ true → T) → OnSome refused T
of_refusal T Nothing refused is idle = rw is tt
of_refusal T Fine refused is idle = rw is tt
of_refusal T (Done count) refused is idle = rw is tt
of_refusal T (Listing rows) refused is idle = rw is tt
of_refusal T (Refused refusal) refused is idle = rw is (idle refl)

-- the bytes of the answer tell the refusal
pub tells_refusal : (answer : Answer) (refused : Option Refusal) (bytes : List ℕ) → refused ≡ refusal_of answer → bytes ≡ answer_text answer → IfSome refused (λ refusal. bytes ≡ answer_text (Refused refusal))
tells_refusal Nothing refused bytes is text = rw is tt
tells_refusal Fine refused bytes is text = rw is tt
tells_refusal (Done count) refused bytes is text = rw is tt
tells_refusal (Listing rows) refused bytes is text = rw is tt
tells_refusal (Refused refusal) refused bytes is text = rw is text

-- engines of the same store, records, sessions and moment
pub engaged_same : (a b : Engaged) → a.store ≡ b.store → a.records ≡ b.records → a.sessions ≡ b.sessions → a.moment ≡ b.moment → a ≡ b
engaged_same a b store records sessions moment =
    ap (λ (s : Store). engaged s a.records a.sessions a.moment) store
    ∙ ap (λ (rs : List Stored). engaged b.store rs a.sessions a.moment) records
    ∙ ap (λ (xs : List Session). engaged b.store b.records xs a.moment) sessions
    ∙ ap (λ (m : ℕ). engaged b.store b.records b.sessions m) moment
