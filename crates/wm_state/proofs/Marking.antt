-- What is kept of marks where each thing that is looked up is as it was before: MarksStand-kept, a workspace at a time; MarksStand-alike, where each
-- has the marks that it had (by part-changed where one was changed); MarksStand-same, where the workspaces are those of before.
use Rattle.std.proofs.Common.{◌≡◌, ℕ, ◌==◌, false, List, [], ◌∷◌, Some, refl, sym, ap, subst, ◌∙◌, ◌⊎◌, inl, ⊎_elim}
use Rattle.std.proofs.lemmas.List.Elements.{All-nil}
use Rattle.std.proofs.lemmas.Bool.{or_parts}
use Rattle.std.specs.List.{All, list_any}
use Rattle.std.specs.Option.{option_map}
use Rattle.wm_graph.specs.Parts.{Parts}
use Rattle.wm_net.specs.Conflicts.{Settled}
use Rattle.wm_spec.specs.Lists.{Cell}
use Rattle.wm_spec.specs.declared.record.trace.Trace.{Trace}
use Rattle.wm_state.specs.State.{Durable, Workspace, workspace_of}
use Rattle.wm_state.specs.Standing.{IsRealMark, MarksStand, marked_at, settled_from}
use Rattle.wm_state.proofs.Staying.{WasTold, was_told}

-- the marks of a workspace
abbrev pub marks_in : Workspace → List Settled
marks_in w = w.settled

-- each workspace has those that it had
abbrev pub SameMarks : List Workspace → List Workspace → Type 0
SameMarks was now = (n : ℕ) → option_map marks_in (workspace_of now n) ≡ option_map marks_in (workspace_of was n)

-- the marks of a workspace have records that say the same, and each is over a period
pub record AreMarked (marks : List Trace) (n : ℕ) (w : Workspace) : Type 0 where
  pub same : (place : ℕ) (c : Cell) → marked_at marks n place c ≡ settled_from w.settled place c
  pub real : All IsRealMark w.settled

-- the records of the marks of a workspace say what they said
abbrev pub SayMarked : List Trace → List Trace → ℕ → Type 0
SayMarked was now n = (place : ℕ) (c : Cell) → marked_at now n place c ≡ marked_at was n place c

-- so it is of each that has the marks that it had, of which the records say what they said, or they say so of it
pub MarksStand-kept : (p q : Parts) (s t : Durable) → ((n : ℕ) (w : Workspace) → workspace_of t.spaces n ≡ Some w → (WasTold marks_in s.spaces n w × SayMarked p.marks q.marks n) ⊎ AreMarked q.marks n w) → MarksStand p s → MarksStand q t
MarksStand-kept p q s t each stand = record { same = λ n w place c is. (marked_now n w is).same place c; real = λ n w is. (marked_now n w is).real }
  where
    was : (n : ℕ) (w : Workspace) → WasTold marks_in s.spaces n w → SayMarked p.marks q.marks n → AreMarked q.marks n w
    was n w y still = record {
      same = λ place c. still place c ∙ stand.same n y.old place c y.is ∙ ap (λ ms. settled_from ms place c) (sym y.same);
      real = subst (λ ms. All IsRealMark ms) (sym y.same) (stand.real n y.old y.is);
    }

    marked_now : (n : ℕ) (w : Workspace) → workspace_of t.spaces n ≡ Some w → AreMarked q.marks n w
    marked_now n w is = ⊎_elim (λ (h : WasTold marks_in s.spaces n w × SayMarked p.marks q.marks n). was n w h.0 h.1) (λ (h : AreMarked q.marks n w). h) (each n w is)

-- where each workspace has the marks that it had, and the records are those of before
pub MarksStand-alike : (p q : Parts) (s t : Durable) → q.marks ≡ p.marks → SameMarks s.spaces t.spaces → MarksStand p s → MarksStand q t
MarksStand-alike p q s t marks alike = MarksStand-kept p q s t (λ n w is. inl (was_told marks_in s.spaces t.spaces n w (alike n) is, λ place c. ap (λ xs. marked_at xs n place c) marks))

-- where marks and workspaces are those of before
pub MarksStand-same : (p q : Parts) (s t : Durable) → q.marks ≡ p.marks → t.spaces ≡ s.spaces → MarksStand p s → MarksStand q t
MarksStand-same p q s t marks spaces = MarksStand-alike p q s t marks (λ n. ap (λ ws. option_map marks_in (workspace_of ws n)) spaces)

-- records of which none is of a workspace say that it has no marks
pub marked-none : (marks : List Trace) (n place : ℕ) (c : Cell) → list_any (λ (x : Trace). x.space == n) marks ≡ false → marked_at marks n place c ≡ 0
marked-none [] n place c e = refl
marked-none (x ∷ xs) n place c e = let h = or_parts (x.space == n) (list_any (λ (x : Trace). x.space == n) xs) e in rw (h.0, marked-none xs n place c h.1) refl

pub unmarked : (marks : List Trace) (n : ℕ) (w : Workspace) → w.settled ≡ [] → list_any (λ (x : Trace). x.space == n) marks ≡ false → AreMarked marks n w
unmarked marks n w none away = record {
  same = λ place c. marked-none marks n place c away ∙ ap (λ ms. settled_from ms place c) (sym none);
  real = subst (λ ms. All IsRealMark ms) (sym none) (All-nil IsRealMark);
}
