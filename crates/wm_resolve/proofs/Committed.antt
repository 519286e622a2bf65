-- What is told of the plan of a commit.
use Rattle.std.proofs.Common.{◌≡◌, ℕ, ◌+◌, ◌<◌, nat_lt, Bool, true, List, [], map, length, Option, None, sym, ap, ◌∙◌, arith}
use Rattle.std.proofs.lemmas.List.{length-map}
use Rattle.wm_base.specs.declared.refusal.Refusal.{Refusal}
use Rattle.wm_decided.specs.Netted.{entries_decided}
use Rattle.wm_graph.specs.Parts.{parts_of}
use Rattle.wm_outline.specs.Outline.{outline_of}
use Rattle.wm_spec.specs.declared.record.space.Space.{Space}
use Rattle.wm_spec.specs.declared.record.stored.Stored.{Stored}
use Rattle.wm_state.specs.Editing.{counter_limit, entry_of}
use Rattle.wm_state.specs.State.{Decision, Session}
use Rattle.wm_state.specs.declared.edit.NewEntry.{NewEntry}
use Rattle.wm_model.specs.Step.{cells_of, claim_of, decisions_of, has_open, lock_fault}
use Rattle.wm_model.specs.Undone.{NamesSpace}
use Rattle.wm_resolve.proofs.CommittingLine.{Commits}

-- decisions that are some
pub some_decisions : (ds : List Decision) → 0 < length ds → ds ≡ [] → ⊥
some_decisions ds some none = let empty = ap length none in omega (arith, some, empty)

-- a log with entries more
pub long_test : (log_length : ℕ) (given es : List NewEntry) (b : Bool) → given ≡ es → b ≡ nat_lt counter_limit (log_length + length given) → nat_lt counter_limit (log_length + length (map entry_of es)) ≡ b
long_test log_length given es b is test =
    ap (λ k. nat_lt counter_limit (log_length + k)) (length-map es entry_of) ∙ ap (λ (l : List NewEntry). nat_lt counter_limit (log_length + length l)) (sym is) ∙ sym test

-- what locks refuse is asked of the entries that were netted, for the user of the session
pub barred_told : (rs : List Stored) (xs : List Session) (m n : ℕ) (session : Session) (user : List ℕ) (given es : List NewEntry) (o fault : Option Refusal) → user ≡ session.user → given ≡ es
    → fault ≡ lock_fault (outline_of (parts_of rs) xs m) (record { space = n; user = user; except = None }) (map cells_of (map entry_of given)) → fault ≡ o
    → lock_fault (outline_of (parts_of rs) xs m) (claim_of session n) (map cells_of (map entry_of es)) ≡ o
barred_told rs xs m n session user given es o fault by is told found =
    (λ i. lock_fault (outline_of (parts_of rs) xs m) (record { space = n; user = sym by i; except = None }) (map cells_of (map entry_of (sym is i)))) ∙ sym told ∙ found

pub commits_of : (rs : List Stored) (m : ℕ) (session : Session) (workspace : List ℕ) (a : Space) (ds : List Decision) (es : List NewEntry) (user : List ℕ) → NamesSpace rs workspace a → has_open a.number session ≡ true → decisions_of session ≡ ds
    → 0 < length ds → user ≡ session.user → map entry_of es ≡ entries_decided m user ds → Commits rs m session workspace a ds (map entry_of es)
commits_of rs m session workspace a ds es user names has decisions some by are = record {
  names = names;
  has = has;
  decisions = decisions;
  some = some_decisions ds some;
  entries = are ∙ ap (λ u. entries_decided m u ds) by;
}
