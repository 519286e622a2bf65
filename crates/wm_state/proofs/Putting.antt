-- What records have at an id once one is put or dropped among them, in whatever order they stand.
use Rattle.std.proofs.Common.{◌≡◌, ◌≢◌, ◌⊎◌, inl, inr, ℕ, nat_lt, Bool, true, false, List, [], ◌∷◌, Option, Some, None, refl, sym, ◌∙◌}
use Rattle.std.proofs.lemmas.Bool.{cases_eq, eq-eqb, ne_eqb}
use Rattle.wm_spec.specs.Records.{record_at}
use Rattle.wm_spec.specs.declared.record.Record.{Record}
use Rattle.wm_spec.specs.declared.record.stored.Stored.{Stored}
use Rattle.wm_state.specs.ById.{perhaps_before, set_at}
use Rattle.wm_state.proofs.ById.{record_at-away, record_at-here}

-- ---- another id

perhaps_other : (id : ℕ) (becomes : Option Record) (ss : List Stored) (other : ℕ) → id ≢ other → record_at (perhaps_before id becomes ss) other ≡ record_at ss other
perhaps_other id None ss other apart = refl
perhaps_other id (Some r) ss other apart = record_at-away _ ss other apart

-- it has what it had
pub set_other : (id : ℕ) (becomes : Option Record) (ss : List Stored) (other : ℕ) → id ≢ other → record_at (set_at id becomes ss) other ≡ record_at ss other
set_other id becomes [] other apart = perhaps_other id becomes [] other apart
set_other id becomes (s ∷ ss) other apart = by_test (cases_eq s.id id) (nat_lt id s.id) refl (set_other id becomes ss other apart)
  where
    behind : (s.id ≡ other) ⊎ (s.id ≢ other) → record_at (set_at id becomes ss) other ≡ record_at ss other → record_at (s ∷ set_at id becomes ss) other ≡ record_at (s ∷ ss) other
    behind (inl same) rest = record_at-here s _ other same ∙ sym (record_at-here s ss other same)
    behind (inr away) rest = record_at-away s _ other away ∙ rest ∙ sym (record_at-away s ss other away)

    by_test : (s.id ≡ id) ⊎ (s.id ≢ id) → (b : Bool) → nat_lt id s.id ≡ b → record_at (set_at id becomes ss) other ≡ record_at ss other → record_at (set_at id becomes (s ∷ ss)) other ≡ record_at (s ∷ ss) other
    by_test (inl here) b e rest = rw (eq-eqb _ _ here) (perhaps_other id becomes ss other apart ∙ sym (record_at-away s ss other (λ h. apart (sym here ∙ h))))
    by_test (inr away) true e rest = rw (ne_eqb _ _ away, e) (perhaps_other id becomes (s ∷ ss) other apart)
    by_test (inr away) false e rest = rw (ne_eqb _ _ away, e) (behind (cases_eq s.id other) rest)

-- ---- the id itself

-- it has the record that is put
pub set_here : (id : ℕ) (r : Record) (ss : List Stored) → record_at (set_at id (Some r) ss) id ≡ Some r
set_here id r [] = record_at-here _ [] id refl
set_here id r (s ∷ ss) = by_test (cases_eq s.id id) (nat_lt id s.id) refl (set_here id r ss)
  where
    by_test : (s.id ≡ id) ⊎ (s.id ≢ id) → (b : Bool) → nat_lt id s.id ≡ b → record_at (set_at id (Some r) ss) id ≡ Some r → record_at (set_at id (Some r) (s ∷ ss)) id ≡ Some r
    by_test (inl here) b e rest = rw (eq-eqb _ _ here) (record_at-here _ ss id refl)
    by_test (inr away) true e rest = rw (ne_eqb _ _ away, e) (record_at-here _ (s ∷ ss) id refl)
    by_test (inr away) false e rest = rw (ne_eqb _ _ away, e) (record_at-away s _ id away ∙ rest)
