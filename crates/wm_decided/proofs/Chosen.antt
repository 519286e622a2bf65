-- The decision that counts at a cell, and where it changes.
use Rattle.std.proofs.Common.{◌≡◌, ℕ, ◌+◌, ◌<◌, ◌≤◌, List, [], ◌∷◌, map, zero, suc, slice_get, Option, None, Some, option_map, Bool, true, false, refl, sym, ap, ◌∙◌, arith, subst}
use Rattle.std.proofs.lemmas.Bool.{and_parts}
use Rattle.std.specs.Bool.{then_some}
use Rattle.std.specs.List.{flat_map}
use Rattle.std.specs.Option.{option_and_then, option_or}
use Rattle.wm_net.proofs.Conflicting.{Steady-last}
use Rattle.wm_net.proofs.Netting.{told_replayed}
use Rattle.wm_net.proofs.Stretching.{Cut, Cut-cuts, Cut-left, Cut-right, Steady-told}
use Rattle.wm_net.specs.Groups.{Group, cell, same_group}
use Rattle.wm_net.specs.Listed.{Stretch, value_at}
use Rattle.wm_net.specs.Nets.{replayed}
use Rattle.wm_spec.proofs.Stretches.{Steady, Steady-alike, Steady-then, Up, Up-cuts}
use Rattle.wm_spec.specs.Lists.{Cell, Entry, Told, covers, told}
use Rattle.wm_spec.specs.Stretches.{cuts}
use Rattle.wm_state.specs.State.{Decision}
use Rattle.wm_net.proofs.Listing.{Changes}
use Rattle.wm_decided.specs.Counted.{copy_from, decision_in, place_at}
use Rattle.wm_decided.specs.Netted.{Copy, cells_decided, chosen_at, copied_at, ends_decided}

-- ---- the decision that counts

-- the decision at the place that counts is there, and covers the cell
pub place_covers : (ds : List Decision) (c : Cell) (n : ℕ) → place_at ds c ≡ Some n → (slice_get ds n ≡ Some (decision_in ds n)) × (covers (cells_decided (decision_in ds n)) c ≡ true)
place_covers [] c n e = absurd (cc)
place_covers (d ∷ ds) c n e = by_last (place_at ds c) (covers (cells_decided d) c) refl (place_covers ds c) e
  where
    by_last : (o : Option ℕ) (b : Bool) → covers (cells_decided d) c ≡ b → ((k : ℕ) → o ≡ Some k → (slice_get ds k ≡ Some (decision_in ds k)) × (covers (cells_decided (decision_in ds k)) c ≡ true))
        → option_or (option_map (λ (k : ℕ). k + 1) o) (then_some b 0) ≡ Some n
        → (slice_get (d ∷ ds) n ≡ Some (decision_in (d ∷ ds) n)) × (covers (cells_decided (decision_in (d ∷ ds) n)) c ≡ true)
    by_last (Some k) b is rest e =
        let one : k + 1 ≡ n = cc in
        let two : suc k ≡ n = omega (arith, one) in
        subst (λ (m : ℕ). (slice_get (d ∷ ds) m ≡ Some (decision_in (d ∷ ds) m)) × (covers (cells_decided (decision_in (d ∷ ds) m)) c ≡ true)) two (rest k refl)
    by_last None true is rest e =
        let one : 0 ≡ n = cc in
        subst (λ (m : ℕ). (slice_get (d ∷ ds) m ≡ Some (decision_in (d ∷ ds) m)) × (covers (cells_decided (decision_in (d ∷ ds) m)) c ≡ true)) one (refl, is)
    by_last None false is rest e = absurd (cc)

abbrev pub choice_in : List Decision → ℕ → ℕ × Decision
choice_in ds n = (n, decision_in ds n)

pub chosen_is : (ds : List Decision) (c : Cell) → option_map (choice_in ds) (place_at ds c) ≡ chosen_at ds c
chosen_is ds c = by_place (place_at ds c) refl
  where
    by_place : (o : Option ℕ) → place_at ds c ≡ o → option_map (choice_in ds) o ≡ option_and_then (λ (n : ℕ). option_map (λ (d : Decision). (n, d)) (slice_get ds n)) o
    by_place None e = refl
    by_place (Some n) e = ap (λ (o : Option Decision). option_map (λ (d : Decision). (n, d)) o) (sym (place_covers ds c n e).0)

abbrev copied_by : ℕ → ℕ × Decision → Option Copy
copied_by t x = option_map (λ (y : Told). let made : Copy = record { place = x.0; told = y } in made) (value_at x.1.copied t)

pub copied_is : (ds : List Decision) (c : Cell) → copy_from ds c.time (place_at ds c) ≡ copied_at ds c
copied_is ds c = by_place (place_at ds c) ∙ ap (λ (o : Option (ℕ × Decision)). option_and_then (copied_by c.time) o) (chosen_is ds c)
  where
    by_place : (o : Option ℕ) → copy_from ds c.time o ≡ option_and_then (copied_by c.time) (option_map (choice_in ds) o)
    by_place None = refl
    by_place (Some n) = refl

-- ---- where it changes

pub Changes-chosen : (ds : List Decision) → Changes (map cells_decided ds) (chosen_at ds)
Changes-chosen ds = record {
  steady = λ g.
      let cs = cuts (map cells_decided ds) g.table g.key in
      Steady-then (λ (n : ℕ). option_map (λ (d : Decision). (n, d)) (slice_get ds n)) (λ t. place_at ds (cell g t)) 0 cs
      (Steady-last g (map cells_decided ds) cs (Up-cuts (map cells_decided ds) g.table g.key) (Cut-cuts g (map cells_decided ds)));
}

-- what is given by a value that changes at cuts alone, each in a way that does
Steady-by : {A B : Type 0} (f : ℕ → Option A) (h : A → ℕ → Option B) (low : ℕ) (cs : List ℕ) → Steady f low cs → ((x : A) (t : ℕ) → f t ≡ Some x → Steady (h x) low cs)
    → Steady (λ t. option_and_then (λ x. h x t) (f t)) low cs
Steady-by f h low [] s each = λ t le. rw (s t le) refl
Steady-by {A = A} f h low (a ∷ cs) s each = ((λ t le lt. rw (s.0 t le lt) (by_value t le lt (f low) refl)), Steady-by f h a cs s.1 (λ x t e. (each x t e).1))
  where
    by_value : (t : ℕ) → low ≤ t → t < a → (o : Option A) → f low ≡ o → option_and_then (λ x. h x t) o ≡ option_and_then (λ x. h x low) o
    by_value t le lt None e = refl
    by_value t le lt (Some x) e = (each x low e).0 t le lt

Cut-cells : (g : Group) (ds : List Decision) (cs : List ℕ) → Cut g (flat_map ends_decided ds) cs → Cut g (map cells_decided ds) cs
Cut-cells g [] cs cut = tt
Cut-cells g (d ∷ ds) cs cut = (cut.0, Cut-cells g ds cs (Cut-right g (ends_decided d) (flat_map ends_decided ds) cs cut))

Cut-one : (g : Group) (ds : List Decision) (cs : List ℕ) (n : ℕ) (d : Decision) → slice_get ds n ≡ Some d → Cut g (flat_map ends_decided ds) cs → Cut g (ends_decided d) cs
Cut-one g [] cs n d is cut = absurd (cc)
Cut-one g (x ∷ ds) cs zero d is cut =
    let one : x ≡ d = cc in subst (λ (y : Decision). Cut g (ends_decided y) cs) one (Cut-left g (ends_decided x) (flat_map ends_decided ds) cs cut)
Cut-one g (x ∷ ds) cs (suc n) d is cut = Cut-one g ds cs n d is (Cut-right g (ends_decided x) (flat_map ends_decided ds) cs cut)

-- what a decision copies in its own group
Steady-copied : (g : Group) (d : Decision) (cs : List ℕ) → same_group (record { table = d.table; key = d.key }) g ≡ true → Up 0 cs → Cut g (ends_decided d) cs → Steady (λ t. value_at d.copied t) 0 cs
Steady-copied g d cs own up cut =
    let es : List Entry = map (λ (s : Stretch Told). replayed 0 [] (record { table = d.table; key = d.key }) s) d.copied in
    Steady-alike (λ t. told es (cell g t)) (λ t. value_at d.copied t) 0 cs
    (λ t. told_replayed 0 [] (record { table = d.table; key = d.key }) d.copied (cell g t) ∙ rw own refl)
    (Steady-told g es cs up cut.1)

pub Changes-copied : (ds : List Decision) → Changes (flat_map ends_decided ds) (copied_at ds)
Changes-copied ds = record { steady = λ g. in_group g (cuts (flat_map ends_decided ds) g.table g.key) (Up-cuts (flat_map ends_decided ds) g.table g.key) (Cut-cuts g (flat_map ends_decided ds)) }
  where
    in_group : (g : Group) (cs : List ℕ) → Up 0 cs → Cut g (flat_map ends_decided ds) cs → Steady (λ t. copied_at ds (cell g t)) 0 cs
    in_group g cs up cut =
        Steady-alike (λ t. copy_from ds t (place_at ds (cell g t))) (λ t. copied_at ds (cell g t)) 0 cs (λ t. copied_is ds (cell g t))
        (Steady-by (λ t. place_at ds (cell g t)) (λ n t. option_map (λ (x : Told). let c : Copy = record { place = n; told = x } in c) (value_at (decision_in ds n).copied t)) 0 cs
        (Steady-last g (map cells_decided ds) cs up (Cut-cells g ds cs cut))
        (λ n t e.
        let at = place_covers ds (cell g t) n e in
        let d = decision_in ds n in
        let own = (and_parts (same_group (record { table = d.table; key = d.key }) g) _ at.1).0 in
        steady_map (λ (x : Told). let c : Copy = record { place = n; told = x } in c) (λ t. value_at d.copied t) 0 cs (Steady-copied g d cs own up (Cut-one g ds cs n d at.0 cut))))
      where
        steady_map : {A B : Type 0} (act : A → B) (f : ℕ → Option A) (low : ℕ) (cs : List ℕ) → Steady f low cs → Steady (λ t. option_map act (f t)) low cs
        steady_map act f low [] s = λ t l. rw (s t l) refl
        steady_map act f low (a ∷ cs) s = ((λ t l k. rw (s.0 t l k) refl), steady_map act f a cs s.1)
