-- Marks that pass a test say of a place what all of them say there, where each that was made there passes; and nothing, where none does.
use Rattle.std.proofs.Common.{◌≡◌, ◌≢◌, ℕ, ◌+◌, ◌==◌, nat_lt, max, Bool, true, false, not, ◌&&◌, ◌||◌, cond, if◌then◌else◌, List, [], ◌∷◌, Some, refl, sym, ap, ◌∙◌, arith}
use Rattle.std.proofs.lemmas.Bool.{eqb-true, ne_eqb, and_parts, true≢false}
use Rattle.std.proofs.lemmas.List.Elements.{All-filter}
use Rattle.std.specs.List.{filter}
use Rattle.wm_graph.specs.Parts.{Parts}
use Rattle.wm_net.specs.Conflicts.{Settled, as_entry}
use Rattle.wm_spec.specs.Lists.{Cell, covers}
use Rattle.wm_spec.specs.declared.record.trace.Trace.{Trace}
use Rattle.wm_state.specs.Editing.{is_settled_below}
use Rattle.wm_state.specs.Standing.{IsRealMark, MarksStand, in_cells, marked_at, settled_from}
use Rattle.wm_state.specs.State.{Durable, Savepoint, Workspace, workspace_of}
use Rattle.wm_state.proofs.Marking.{AreMarked, SayMarked}
use Rattle.wm_undone.specs.Restoring.{restored, stays_marked}

-- one more of them
one_more : (a b d keep : Bool) (i r f : ℕ) → (a ≡ true → b ≡ keep) → f ≡ cond keep r 0 → cond b (max (if a && d then i else 0) f) f ≡ cond keep (max (if a && d then i else 0) r) 0
one_more true true d true i r f its same = ap (max (if d then i else 0)) same
one_more true true d false i r f its same = absurd (true≢false (its refl))
one_more true false d true i r f its same = absurd (true≢false (sym (its refl)))
one_more true false d false i r f its same = same
one_more false b d keep i r f its same = none b f ∙ same ∙ ap (λ k. cond keep k 0) (sym (none true r))
  where
    none : (c : Bool) (m : ℕ) → cond c (max 0 m) m ≡ m
    none true m = omega arith
    none false m = refl

-- and none
nothing : (keep : Bool) (z : ℕ) → z ≡ cond keep z z
nothing true z = refl
nothing false z = refl

pub marked-filter : (k : Trace → Bool) (keep : Bool) (m place : ℕ) → ((x : Trace) → ((x.space == m) && (x.place == place)) ≡ true → k x ≡ keep) → (xs : List Trace) (c : Cell) → marked_at (filter k xs) m place c ≡ cond keep (marked_at xs m place c) 0
marked-filter k keep m place its [] c = nothing keep 0
marked-filter k keep m place its (x ∷ xs) c =
    spread (k x)
    ∙ one_more ((x.space == m) && (x.place == place)) (k x) (in_cells x.cells c) keep (x.position + 1) (marked_at xs m place c) (marked_at (filter k xs) m place c) (its x) (marked-filter k keep m place its xs c)
  where
    spread : (b : Bool) → marked_at (cond b (x ∷ filter k xs) (filter k xs)) m place c ≡ cond b (marked_at (x ∷ filter k xs) m place c) (marked_at (filter k xs) m place c)
    spread true = refl
    spread false = refl

settled-filter : (k : Settled → Bool) (keep : Bool) (place : ℕ) → ((x : Settled) → (x.place == place) ≡ true → k x ≡ keep) → (xs : List Settled) (c : Cell) → settled_from (filter k xs) place c ≡ cond keep (settled_from xs place c) 0
settled-filter k keep place its [] c = nothing keep 0
settled-filter k keep place its (x ∷ xs) c =
    spread (k x)
    ∙ one_more (x.place == place) (k x) (covers (as_entry x) c) keep (x.position + 1) (settled_from xs place c) (settled_from (filter k xs) place c) (its x) (settled-filter k keep place its xs c)
  where
    spread : (b : Bool) → settled_from (cond b (x ∷ filter k xs) (filter k xs)) place c ≡ cond b (settled_from (x ∷ filter k xs) place c) (settled_from (filter k xs) place c)
    spread true = refl
    spread false = refl

-- where a workspace goes back to a place, the records of another say what they said
pub marked_beside : (n low m : ℕ) (xs : List Trace) → m ≢ n → SayMarked xs (filter (stays_marked n low) xs) m
marked_beside n low m xs away place c =
    marked-filter (stays_marked n low) true m place
    (λ x is. ap (λ b. not b || nat_lt x.place low) (ne_eqb x.space n (λ same. away (sym (eqb-true x.space m (and_parts (x.space == m) (x.place == place) is).0) ∙ same)))) xs c

-- and its own what is settled in it then
pub marked_back : (n : ℕ) (k : Savepoint) (w : Workspace) (p : Parts) (s : Durable) → workspace_of s.spaces n ≡ Some w → MarksStand p s → AreMarked (filter (stays_marked n k.place) p.marks) n (restored k w)
marked_back n k w p s found stand = record {
  same = λ place c.
      let keep = nat_lt place k.place in
      marked-filter (stays_marked n k.place) keep n place (λ x is. let h = and_parts (x.space == n) (x.place == place) is in goes x.space x.place place h.0 h.1) p.marks c
      ∙ ap (λ r. cond keep r 0) (stand.same n w place c found)
      ∙ sym (settled-filter (is_settled_below k.place) keep place (λ x is. ap (λ i. nat_lt i k.place) (eqb-true x.place place is)) w.settled c);
  real = All-filter (is_settled_below k.place) IsRealMark w.settled (stand.real n w found);
}
  where
    goes : (m i place : ℕ) → (m == n) ≡ true → (i == place) ≡ true → (not (m == n) || nat_lt i k.place) ≡ nat_lt place k.place
    goes m i place space at = ap (λ b. not b || nat_lt i k.place) space ∙ ap (λ j. nat_lt j k.place) (eqb-true i place at)
