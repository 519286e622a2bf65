-- Each state that lines lead to from a fresh store, over runs, is lawful.
use Rattle.std.proofs.Common.{◌≡◌, ℕ, Bool, true, false, cond, List, [], ◌∷◌, Some, None, refl, sym, ap, subst, arith, ◌==◌}
use Rattle.std.proofs.lemmas.Option.{same_Some}
use Rattle.wm_base.specs.declared.kind.Kind.TheVariants.{Insert}
use Rattle.wm_spec.specs.Lists.{Told}
use Rattle.wm_state.specs.State.{State, Workspace, begin, fresh, fresh_live, workspace_of}
use Rattle.wm_model.specs.Lawful.{Holds, IsSound, Lawful, LawfulEntries, LawfulSpace, LawfulSpaces, LawfulState, Reached, Made, Begun, Stepped}
use Rattle.wm_model.specs.Running.{after}
use Rattle.wm_model.specs.Step.{step}
use Rattle.wm_model.proofs.Lawful.Spaces.{number_is}
use Rattle.wm_model.proofs.Lawful.Step.{lawful_step}

-- ---- a fresh store

-- LIVE alone is there
pub one_live : (n : ℕ) (w : Workspace) → workspace_of (fresh_live ∷ []) n ≡ Some w → w ≡ fresh_live
one_live n w found = by_test (0 == n) found
  where
    by_test : (b : Bool) → cond b (Some fresh_live) None ≡ Some w → w ≡ fresh_live
    by_test true h = sym (same_Some fresh_live w h)
    by_test false h = absurd (cc)

fresh_lawful : LawfulSpace fresh_live
fresh_lawful = record {
  latest = record { same = λ c. refl };
  marks = λ P k found. absurd (cc);
  rises = λ P Q a b found other. absurd (cc);
  made = λ P k found. absurd (cc);
  first = λ t found. absurd (cc);
  last = λ t found. absurd (cc);
  live = λ none. refl;
  turns = refl;
}

fresh_holds : (tells : ℕ → Told) (next : ℕ) → Holds (IsSound tells next) fresh_live
fresh_holds tells next = record { at_birth = tt; base = tt; own = tt; log = tt; marks = λ Q k found. absurd (cc); turns = λ i t found. absurd (cc) }

pub lawful_fresh : (limit : ℕ) → LawfulState (fresh limit)
unfolding fresh
lawful_fresh limit = record { durable = record { spaces = spaces; entries = entries }; seats = tt }
  where
    spaces : LawfulSpaces (fresh_live ∷ [])
    spaces = record {
      live = refl;
      once = refl;
      each = λ n w found. subst LawfulSpace (sym (one_live n w found)) fresh_lawful;
      bases = λ n w above found. absurd (omega (arith, above, number_is (fresh_live ∷ []) n w found, ap (λ (x : Workspace). x.number) (one_live n w found)));
    }

    tells : ℕ → Told
    tells stamp = record { stamp = stamp; kind = Insert; row = None }

    entries : LawfulEntries 1 (fresh_live ∷ []) []
    entries = record { tells = tells; each = λ n w found. subst (Holds (IsSound tells 1)) (sym (one_live n w found)) (fresh_holds tells 1); staged = tt }

-- ---- runs

-- what a store keeps of a lawful state is lawful
pub lawful_durable : (s : State) → LawfulState s → Lawful s.durable []
lawful_durable s l = record { spaces = l.durable.spaces; entries = record { tells = l.durable.entries.tells; each = l.durable.entries.each; staged = tt } }

pub lawful_begin : (s : State) (now : ℕ) → LawfulState s → LawfulState (begin s now)
unfolding begin
lawful_begin s now l = record { durable = lawful_durable s l; seats = tt }

pub lawful_after : (s : State) (lines : List (List ℕ)) → LawfulState s → LawfulState (after s lines)
unfolding after
lawful_after s [] l = l
lawful_after s (line ∷ lines) l = lawful_after (step s line).0 lines (lawful_step s line l)

pub lawful_reached : (s : State) → Reached s → LawfulState s
lawful_reached _ (Made limit) = lawful_fresh limit
lawful_reached _ (Begun s now r) = lawful_begin s now (lawful_reached s r)
lawful_reached _ (Stepped s line r) = lawful_step s line (lawful_reached s r)
