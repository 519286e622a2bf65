-- The greatest making of a savepoint, in the state and in the records.
use Rattle.std.proofs.Common.{◌≡◌, ℕ, ◌==◌, nat_lt, nat_le, max, Bool, true, false, cond, List, [], ◌∷◌, map, Option, Some, None, refl, sym, ap, ◌∙◌, arith}
use Rattle.std.proofs.lemmas.Bool.{eq-eqb, and_from, and_parts}
use Rattle.std.proofs.Math.Dec.{leb-zero}
use Rattle.std.specs.List.{list_all, filter}
use Rattle.wm_base.proofs.Plain.{nat_le-antisym, nat_le-trans}
use Rattle.wm_graph.specs.Parts.{Parts}
use Rattle.wm_graph.specs.Rules.{differ}
use Rattle.wm_spec.specs.declared.record.savepoint.Savepoint.{Savepoint as Record}
use Rattle.wm_state.specs.State.{Durable, Workspace, Savepoint, workspace_of}
use Rattle.wm_state.specs.Standing.{SavepointFields, saved_fields, fields_saved, place_making, by_making, saved_in, SavepointsStand}
use Rattle.wm_state.proofs.Apart.{found-passes}
use Rattle.wm_state.proofs.Frames.{savepoints_of-found, savepoints_of-none}
use Rattle.wm_state.proofs.Making.{all-making}
use Rattle.wm_state.proofs.Makings.{greatest_making}
use Rattle.wm_state.proofs.Mapped.{all-alike, all-found}
use Rattle.wm_state.proofs.Tests.{all_if, all_filter}

-- the greatest making of the savepoints of a workspace, and of any workspace: 0 where there is none
abbrev pub greatest_kept : List Savepoint → ℕ
greatest_kept [] = 0
greatest_kept (k ∷ ks) = max k.making (greatest_kept ks)

abbrev pub greatest_in : List Workspace → ℕ
greatest_in [] = 0
greatest_in (w ∷ ws) = max (greatest_kept w.savepoints) (greatest_in ws)

-- no two workspaces have one number
abbrev pub workspaces_differ : List Workspace → Bool
workspaces_differ ws = differ (λ (v w : Workspace). v.number == w.number) ws

-- ---- greatest ones and bounds

le_left : (a b : ℕ) → nat_le a (max a b) ≡ true
le_left a b = grind arith

le_right : (a b c : ℕ) → nat_le a b ≡ true → nat_le a (max c b) ≡ true
le_right a b c le = grind (arith, le)

max_under : (a b n : ℕ) → nat_le a n ≡ true → nat_le b n ≡ true → nat_le (max a b) n ≡ true
max_under a b n le also = grind (arith, le, also)

records_under : (xs : List Record) → list_all (λ (x : Record). nat_le x.making (greatest_making xs)) xs ≡ true
records_under [] = refl
records_under (x ∷ xs) =
    and_from (nat_le x.making (max x.making (greatest_making xs))) _ (le_left x.making (greatest_making xs))
    (all_if (λ (y : Record). nat_le y.making (greatest_making xs)) (λ (y : Record). nat_le y.making (max x.making (greatest_making xs))) (λ y le. le_right y.making (greatest_making xs) x.making le) xs (records_under xs))

greatest_records : (xs : List Record) (n : ℕ) → list_all (λ (x : Record). nat_le x.making n) xs ≡ true → nat_le (greatest_making xs) n ≡ true
greatest_records [] n all = leb-zero n
greatest_records (x ∷ xs) n all = let h = and_parts (nat_le x.making n) (list_all (λ (y : Record). nat_le y.making n) xs) all in max_under x.making (greatest_making xs) n h.0 (greatest_records xs n h.1)

kept_under : (ks : List Savepoint) → list_all (λ (k : Savepoint). nat_le k.making (greatest_kept ks)) ks ≡ true
kept_under [] = refl
kept_under (k ∷ ks) =
    and_from (nat_le k.making (max k.making (greatest_kept ks))) _ (le_left k.making (greatest_kept ks))
    (all_if (λ (j : Savepoint). nat_le j.making (greatest_kept ks)) (λ (j : Savepoint). nat_le j.making (max k.making (greatest_kept ks))) (λ j le. le_right j.making (greatest_kept ks) k.making le) ks (kept_under ks))

greatest_savepoints : (ks : List Savepoint) (n : ℕ) → list_all (λ (k : Savepoint). nat_le k.making n) ks ≡ true → nat_le (greatest_kept ks) n ≡ true
greatest_savepoints [] n all = leb-zero n
greatest_savepoints (k ∷ ks) n all = let h = and_parts (nat_le k.making n) (list_all (λ (j : Savepoint). nat_le j.making n) ks) all in max_under k.making (greatest_kept ks) n h.0 (greatest_savepoints ks n h.1)

greatest_spaces : (ws : List Workspace) (n : ℕ) → list_all (λ (w : Workspace). nat_le (greatest_kept w.savepoints) n) ws ≡ true → nat_le (greatest_in ws) n ≡ true
greatest_spaces [] n all = leb-zero n
greatest_spaces (w ∷ ws) n all =
    let h = and_parts (nat_le (greatest_kept w.savepoints) n) (list_all (λ (v : Workspace). nat_le (greatest_kept v.savepoints) n) ws) all in
    max_under (greatest_kept w.savepoints) (greatest_in ws) n h.0 (greatest_spaces ws n h.1)

spaces_under : (ws : List Workspace) → list_all (λ (w : Workspace). nat_le (greatest_kept w.savepoints) (greatest_in ws)) ws ≡ true
spaces_under [] = refl
spaces_under (w ∷ ws) =
    and_from (nat_le (greatest_kept w.savepoints) (max (greatest_kept w.savepoints) (greatest_in ws))) _ (le_left (greatest_kept w.savepoints) (greatest_in ws))
    (all_if (λ (v : Workspace). nat_le (greatest_kept v.savepoints) (greatest_in ws)) (λ (v : Workspace). nat_le (greatest_kept v.savepoints) (max (greatest_kept w.savepoints) (greatest_in ws)))
    (λ v le. le_right (greatest_kept v.savepoints) (greatest_in ws) (greatest_kept w.savepoints) le) ws (spaces_under ws))

-- ---- the records of each workspace are all records

place-back : (Q : Record → Bool) (y : Record) (ys : List Record) → list_all Q (place_making y ys) ≡ true → list_all Q (y ∷ ys) ≡ true
place-back Q y [] all = all
place-back Q y (z ∷ zs) all = by_test (nat_lt z.making y.making) all (place-back Q y zs)
  where
    by_test : (b : Bool) → list_all Q (cond b (z ∷ place_making y zs) (y ∷ z ∷ zs)) ≡ true → (list_all Q (place_making y zs) ≡ true → list_all Q (y ∷ zs) ≡ true) → list_all Q (y ∷ z ∷ zs) ≡ true
    by_test true e rest =
        let h = and_parts (Q z) (list_all Q (place_making y zs)) e in
        let g = and_parts (Q y) (list_all Q zs) (rest h.1) in
        and_from (Q y) (list_all Q (z ∷ zs)) g.0 (and_from (Q z) (list_all Q zs) h.0 g.1)
    by_test false e rest = e

making-back : (Q : Record → Bool) (xs : List Record) → list_all Q (by_making xs) ≡ true → list_all Q xs ≡ true
making-back Q [] all = refl
making-back Q (x ∷ xs) all = let h = and_parts (Q x) (list_all Q (by_making xs)) (place-back Q x (by_making xs) all) in and_from (Q x) (list_all Q xs) h.0 (making-back Q xs h.1)

all_spaces : (Q : Record → Bool) (xs : List Record) → ((n : ℕ) → list_all Q (filter (λ (x : Record). x.space == n) xs) ≡ true) → list_all Q xs ≡ true
all_spaces Q [] each = refl
all_spaces Q (x ∷ xs) each = and_from (Q x) (list_all Q xs) (here (each x.space)) (all_spaces Q xs (λ n. behind n (x.space == n) (each n)))
  where
    here : list_all Q (cond (x.space == x.space) (x ∷ filter (λ (y : Record). y.space == x.space) xs) (filter (λ (y : Record). y.space == x.space) xs)) ≡ true → Q x ≡ true
    here e =
        (and_parts (Q x) (list_all Q (filter (λ (y : Record). y.space == x.space) xs))
        (sym (ap (λ b. list_all Q (cond b (x ∷ filter (λ (y : Record). y.space == x.space) xs) (filter (λ (y : Record). y.space == x.space) xs))) (eq-eqb x.space x.space refl)) ∙ e)).0

    behind : (n : ℕ) (b : Bool) → list_all Q (cond b (x ∷ filter (λ (y : Record). y.space == n) xs) (filter (λ (y : Record). y.space == n) xs)) ≡ true → list_all Q (filter (λ (y : Record). y.space == n) xs) ≡ true
    behind n true e = (and_parts (Q x) (list_all Q (filter (λ (y : Record). y.space == n) xs)) e).1
    behind n false e = e

-- ---- they are one

none_mapped : (xs : List Record) → map saved_fields xs ≡ (let nothing : List SavepointFields = [] in nothing) → xs ≡ []
none_mapped [] e = refl
none_mapped (x ∷ xs) e = cc

-- where no two workspaces have one number, the greatest making of the state is that of the records
pub greatest_same : (p : Parts) (s : Durable) → SavepointsStand p s → workspaces_differ s.spaces ≡ true → greatest_in s.spaces ≡ greatest_making p.savepoints
greatest_same p s stand apart = nat_le-antisym (greatest_in s.spaces) (greatest_making p.savepoints) below above
  where
    alike : (n : ℕ) (w : Workspace) → workspace_of s.spaces n ≡ Some w → map saved_fields (saved_in p n) ≡ map fields_saved w.savepoints
    alike n w found = stand.same n ∙ ap (map fields_saved) (savepoints_of-found s.spaces n w found)

    below : nat_le (greatest_in s.spaces) (greatest_making p.savepoints) ≡ true
    below = greatest_spaces s.spaces (greatest_making p.savepoints)
        (all-found (λ (w : Workspace). w.number) (λ (w : Workspace). nat_le (greatest_kept w.savepoints) (greatest_making p.savepoints)) s.spaces apart
        (λ n w found. greatest_savepoints w.savepoints (greatest_making p.savepoints)
        (sym (all-alike saved_fields fields_saved (λ f. nat_le f.making (greatest_making p.savepoints)) (saved_in p n) w.savepoints (alike n w found))
        ∙ all-making (λ (y : Record). nat_le y.making (greatest_making p.savepoints)) (filter (λ (x : Record). x.space == n) p.savepoints)
        (all_filter (λ (y : Record). nat_le y.making (greatest_making p.savepoints)) (λ (x : Record). x.space == n) p.savepoints (records_under p.savepoints)))))

    of_space : (n : ℕ) → list_all (λ (y : Record). nat_le y.making (greatest_in s.spaces)) (saved_in p n) ≡ true
    of_space n = by_space (workspace_of s.spaces n) refl
      where
        by_space : (o : Option Workspace) → workspace_of s.spaces n ≡ o → list_all (λ (y : Record). nat_le y.making (greatest_in s.spaces)) (saved_in p n) ≡ true
        by_space None none = ap (list_all (λ (y : Record). nat_le y.making (greatest_in s.spaces))) (none_mapped (saved_in p n) (stand.same n ∙ ap (map fields_saved) (savepoints_of-none s.spaces n none)))
        by_space (Some w) found =
            all-alike saved_fields fields_saved (λ f. nat_le f.making (greatest_in s.spaces)) (saved_in p n) w.savepoints (alike n w found)
            ∙ all_if (λ (k : Savepoint). nat_le k.making (greatest_kept w.savepoints)) (λ (k : Savepoint). nat_le k.making (greatest_in s.spaces))
            (λ k le. nat_le-trans k.making (greatest_kept w.savepoints) (greatest_in s.spaces) le
            (found-passes (λ (v : Workspace). v.number == n) (λ (v : Workspace). nat_le (greatest_kept v.savepoints) (greatest_in s.spaces)) s.spaces w found (spaces_under s.spaces)).1)
            w.savepoints (kept_under w.savepoints)

    above : nat_le (greatest_making p.savepoints) (greatest_in s.spaces) ≡ true
    above = greatest_records p.savepoints (greatest_in s.spaces)
        (all_spaces (λ (y : Record). nat_le y.making (greatest_in s.spaces)) p.savepoints
        (λ n. making-back (λ (y : Record). nat_le y.making (greatest_in s.spaces)) (filter (λ (x : Record). x.space == n) p.savepoints) (of_space n)))
