-- What is looked up in the state and in the records that stand for it: a workspace by number and by name, and what comes next. The
-- module SavedAs has the like for the savepoints of a workspace.
use Rattle.std.proofs.Common.{◌≡◌, ℕ, ◌+◌, ◌<◌, ◌≤◌, ◌==◌, nat_lt, nat_le, max, true, ◌&&◌, List, [], ◌∷◌, length, Option, Some, None, is_some, refl, sym, ap, ◌∙◌, arith}
use Rattle.std.proofs.lemmas.Bool.{eq-eqb, eqb-true, and_from, and_parts, true≢false}
use Rattle.std.proofs.lemmas.Slice.Eq.{bytes_eq-Decides}
use Rattle.std.proofs.lemmas.Option.{same_Some}
use Rattle.std.proofs.Math.Dec.{leb-zero}
use Rattle.std.specs.List.{list_all, find}
use Rattle.std.specs.Option.{option_map}
use Rattle.std.specs.Str.{bytes_eq}
use Rattle.wm_base.proofs.Plain.{nat_le-antisym, none_some}
use Rattle.wm_graph.specs.Parts.{Parts, space_of}
use Rattle.wm_graph.specs.Rules.{keep_rules, is_space, differ}
use Rattle.wm_spec.specs.declared.record.counters.Counters.{Counters}
use Rattle.wm_spec.specs.declared.record.savepoint.Savepoint.{Savepoint as Record}
use Rattle.wm_spec.specs.declared.record.space.Space.{Space}
use Rattle.wm_state.specs.State.{Durable, Workspace, Savepoint, workspace_of, workspace_named, next_space, making_after, next_making}
use Rattle.wm_state.specs.Standing.{SpaceFields, fields_of, fields_in, space_after, making_behind, SpacesStand, OnceStand, SavepointsStand, Stands}
use Rattle.wm_state.proofs.Apart.{ruled, found-passes}
use Rattle.wm_state.proofs.Greatest.{greatest_kept, greatest_in, greatest_same}
use Rattle.wm_state.proofs.Makings.{greatest_making, made_before, greatest_room}
use Rattle.wm_state.proofs.Mapped.{find-passes, find-again, find-else, found-fails, none-found, all-found}
use Rattle.wm_state.proofs.Tests.{all_if}

-- ---- what the rules say

pub record RuledSpaces (rs : List Space) : Type 0 where
  pub few : nat_le (length rs) 1024 ≡ true
  pub live : is_some (space_of rs 0) ≡ true
  pub numbers : differ (λ (r q : Space). r.number == q.number) rs ≡ true
  pub names : differ (λ (r q : Space). bytes_eq r.name q.name) rs ≡ true
  pub each : list_all (is_space (space_of rs)) rs ≡ true

pub ruled_spaces : (p : Parts) → keep_rules p ≡ true → RuledSpaces p.spaces
ruled_spaces p rules =
    let h = and_parts (nat_le (length p.spaces) 1024 && is_some (space_of p.spaces 0)) _ (ruled p rules).spaces in
    let f = and_parts (nat_le (length p.spaces) 1024) (is_some (space_of p.spaces 0)) h.0 in
    let g = and_parts (differ (λ (r q : Space). r.number == q.number) p.spaces) _ h.1 in
    let k = and_parts (differ (λ (r q : Space). bytes_eq r.name q.name) p.spaces) (list_all (is_space (space_of p.spaces)) p.spaces) g.1 in
    record { few = f.0; live = f.1; numbers = g.0; names = k.0; each = k.1 }

-- ---- by number

-- a workspace and its record, by their number
pub record IsSpace (p : Parts) (s : Durable) (n : ℕ) (r : Space) (w : Workspace) : Type 0 where
  pub found : workspace_of s.spaces n ≡ Some w
  pub recorded : space_of p.spaces n ≡ Some r
  pub fields : fields_of r ≡ fields_in w
  pub number : w.number ≡ n
  pub record_number : r.number ≡ n

pub record SpaceIs (p : Parts) (s : Durable) (n : ℕ) (r : Space) : Type 0 where
  pub workspace : Workspace
  pub is : IsSpace p s n r workspace

pub record RecordIs (p : Parts) (s : Durable) (n : ℕ) (w : Workspace) : Type 0 where
  pub recorded : Space
  pub is : IsSpace p s n recorded w

is_space_of : (p : Parts) (s : Durable) (n : ℕ) (r : Space) (w : Workspace) → SpacesStand p s → space_of p.spaces n ≡ Some r → workspace_of s.spaces n ≡ Some w → IsSpace p s n r w
is_space_of p s n r w st recorded found = record {
  found = found;
  recorded = recorded;
  fields = same_Some (fields_of r) (fields_in w) (sym (ap (option_map fields_of) recorded) ∙ st.same n ∙ ap (option_map fields_in) found);
  number = eqb-true w.number n (find-passes (λ (v : Workspace). v.number == n) s.spaces w found);
  record_number = eqb-true r.number n (find-passes (λ (q : Space). q.number == n) p.spaces r recorded);
}

-- a record has its workspace
pub space_there : (p : Parts) (s : Durable) (n : ℕ) (r : Space) → SpacesStand p s → space_of p.spaces n ≡ Some r → SpaceIs p s n r
space_there p s n r st recorded = by_workspace (workspace_of s.spaces n) refl
  where
    same : option_map fields_in (workspace_of s.spaces n) ≡ Some (fields_of r)
    same = sym (st.same n) ∙ ap (option_map fields_of) recorded

    by_workspace : (o : Option Workspace) → workspace_of s.spaces n ≡ o → SpaceIs p s n r
    by_workspace None none = absurd (none_some (option_map fields_in (workspace_of s.spaces n)) (fields_of r) (ap (option_map fields_in) none) same)
    by_workspace (Some w) found = record { workspace = w; is = is_space_of p s n r w st recorded found }

-- and a workspace its record
pub record_there : (p : Parts) (s : Durable) (n : ℕ) (w : Workspace) → SpacesStand p s → workspace_of s.spaces n ≡ Some w → RecordIs p s n w
record_there p s n w st found = by_record (space_of p.spaces n) refl
  where
    same : option_map fields_of (space_of p.spaces n) ≡ Some (fields_in w)
    same = st.same n ∙ ap (option_map fields_in) found

    by_record : (o : Option Space) → space_of p.spaces n ≡ o → RecordIs p s n w
    by_record None none = absurd (none_some (option_map fields_of (space_of p.spaces n)) (fields_in w) (ap (option_map fields_of) none) same)
    by_record (Some r) recorded = record { recorded = r; is = is_space_of p s n r w st recorded found }

-- so it is where the records stand for the state
pub space_is : (p : Parts) (s : Durable) (n : ℕ) (r : Space) → Stands p s → space_of p.spaces n ≡ Some r → SpaceIs p s n r
space_is p s n r st recorded = space_there p s n r st.spaces recorded

pub record_is : (p : Parts) (s : Durable) (n : ℕ) (w : Workspace) → Stands p s → workspace_of s.spaces n ≡ Some w → RecordIs p s n w
record_is p s n w st found = record_there p s n w st.spaces found

-- ---- by name

-- the record of a name is that of the workspace of the name
pub record NamedSpace (p : Parts) (s : Durable) (name : List ℕ) (r : Space) : Type 0 where
  pub workspace : Workspace
  pub named : workspace_named name s.spaces ≡ Some workspace
  pub is : IsSpace p s r.number r workspace

-- what a name finds, its number finds
record_numbered : (p : Parts) (name : List ℕ) (r : Space) → keep_rules p ≡ true → find (λ (q : Space). bytes_eq name q.name) p.spaces ≡ Some r → space_of p.spaces r.number ≡ Some r
record_numbered p name r rules recorded =
    find-again (λ (q t : Space). q.number == t.number) (λ q. eq-eqb q.number q.number refl) (λ (q : Space). bytes_eq name q.name) p.spaces r (ruled_spaces p rules).numbers recorded

workspace_numbered : (p : Parts) (s : Durable) (name : List ℕ) (w : Workspace) → Stands p s → workspace_named name s.spaces ≡ Some w → workspace_of s.spaces w.number ≡ Some w
workspace_numbered p s name w st named =
    find-again (λ (u v : Workspace). u.number == v.number) (λ v. eq-eqb v.number v.number refl) (λ (v : Workspace). bytes_eq name v.name) s.spaces w st.once.numbers named

-- the record of a workspace of the name has the name, and is the one that the name finds
record_named : (p : Parts) (s : Durable) (name : List ℕ) (r : Space) (w : Workspace) → Stands p s → workspace_named name s.spaces ≡ Some w → IsSpace p s w.number r w → find (λ (q : Space). bytes_eq name q.name) p.spaces ≡ Some r
record_named p s name r w st named is =
    find-else (λ (q : Space). bytes_eq name q.name) (λ (q : Space). q.number == w.number) (λ (q t : Space). bytes_eq q.name t.name)
    (λ q t one other. (bytes_eq-Decides q.name t.name).1 (sym ((bytes_eq-Decides name q.name).0 one) ∙ (bytes_eq-Decides name t.name).0 other))
    p.spaces r (ruled_spaces p st.rules).names is.recorded
    (ap (λ (f : SpaceFields). bytes_eq name f.name) is.fields ∙ find-passes (λ (v : Workspace). bytes_eq name v.name) s.spaces w named)

pub named_space : (p : Parts) (s : Durable) (name : List ℕ) (r : Space) → Stands p s → find (λ (q : Space). bytes_eq name q.name) p.spaces ≡ Some r → NamedSpace p s name r
named_space p s name r st recorded = by_name (space_is p s r.number r st (record_numbered p name r st.rules recorded)) (workspace_named name s.spaces) refl
  where
    by_name : SpaceIs p s r.number r → (o : Option Workspace) → workspace_named name s.spaces ≡ o → NamedSpace p s name r
    by_name x None none = absurd (true≢false (sym passes ∙ found-fails (λ (v : Workspace). v.number == r.number) (λ (v : Workspace). bytes_eq name v.name) s.spaces x.workspace x.is.found
        (none-found (λ (v : Workspace). bytes_eq name v.name) s.spaces none)))
      where
        passes : bytes_eq name x.workspace.name ≡ true
        passes = ap (λ (f : SpaceFields). bytes_eq name f.name) (sym x.is.fields) ∙ find-passes (λ (q : Space). bytes_eq name q.name) p.spaces r recorded
    by_name x (Some v) named =
        let y = record_is p s v.number v st (workspace_numbered p s name v st named) in
        let one : y.recorded ≡ r = same_Some y.recorded r (sym (record_named p s name y.recorded v st named y.is) ∙ recorded) in
        let number : v.number ≡ r.number = sym y.is.record_number ∙ ap (λ (q : Space). q.number) one in
        let same : v ≡ x.workspace = same_Some v x.workspace (sym y.is.found ∙ ap (workspace_of s.spaces) number ∙ x.is.found) in
        record { workspace = x.workspace; named = named ∙ ap Some same; is = x.is }

pub named_no_space : (p : Parts) (s : Durable) (name : List ℕ) → Stands p s → find (λ (q : Space). bytes_eq name q.name) p.spaces ≡ None → workspace_named name s.spaces ≡ None
named_no_space p s name st none = by_name (workspace_named name s.spaces) refl
  where
    by_name : (o : Option Workspace) → workspace_named name s.spaces ≡ o → workspace_named name s.spaces ≡ None
    by_name None is = is
    by_name (Some w) named =
        let y = record_is p s w.number w st (workspace_numbered p s name w st named) in
        absurd (none_some (find (λ (q : Space). bytes_eq name q.name) p.spaces) y.recorded none (record_named p s name y.recorded w st named y.is))

-- ---- the number of the next workspace

next_left : (a b : ℕ) → nat_lt a (max (a + 1) b) ≡ true
next_left a b = grind arith

next_right : (a b c : ℕ) → nat_lt a b ≡ true → nat_lt a (max c b) ≡ true
next_right a b c lt = grind (arith, lt)

next_both : (a b c : ℕ) → nat_lt a c ≡ true → nat_le b c ≡ true → nat_le (max (a + 1) b) c ≡ true
next_both a b c lt le = grind (arith, lt, le)

-- each record has a smaller number
pub numbers_under : (rs : List Space) → list_all (λ (r : Space). nat_lt r.number (space_after rs)) rs ≡ true
numbers_under [] = refl
numbers_under (r ∷ rs) =
    and_from (nat_lt r.number (max (r.number + 1) (space_after rs))) _ (next_left r.number (space_after rs))
    (all_if (λ (q : Space). nat_lt q.number (space_after rs)) (λ (q : Space). nat_lt q.number (max (r.number + 1) (space_after rs))) (λ q lt. next_right q.number (space_after rs) (r.number + 1) lt) rs (numbers_under rs))

after_least : (rs : List Space) (n : ℕ) → list_all (λ (r : Space). nat_lt r.number n) rs ≡ true → nat_le (space_after rs) n ≡ true
after_least [] n all = leb-zero n
after_least (r ∷ rs) n all = let h = and_parts (nat_lt r.number n) (list_all (λ (q : Space). nat_lt q.number n) rs) all in next_both r.number (space_after rs) n h.0 (after_least rs n h.1)

-- and so has each workspace
workspaces_under : (ws : List Workspace) → list_all (λ (w : Workspace). nat_lt w.number (next_space ws)) ws ≡ true
workspaces_under [] = refl
workspaces_under (w ∷ ws) =
    and_from (nat_lt w.number (max (w.number + 1) (next_space ws))) _ (next_left w.number (next_space ws))
    (all_if (λ (v : Workspace). nat_lt v.number (next_space ws)) (λ (v : Workspace). nat_lt v.number (max (w.number + 1) (next_space ws))) (λ v lt. next_right v.number (next_space ws) (w.number + 1) lt) ws (workspaces_under ws))

next_least : (ws : List Workspace) (n : ℕ) → list_all (λ (w : Workspace). nat_lt w.number n) ws ≡ true → nat_le (next_space ws) n ≡ true
next_least [] n all = leb-zero n
next_least (w ∷ ws) n all = let h = and_parts (nat_lt w.number n) (list_all (λ (v : Workspace). nat_lt v.number n) ws) all in next_both w.number (next_space ws) n h.0 (next_least ws n h.1)

pub next_space_there : (p : Parts) (s : Durable) → keep_rules p ≡ true → SpacesStand p s → OnceStand p s → next_space s.spaces ≡ space_after p.spaces
next_space_there p s rules st once = nat_le-antisym (next_space s.spaces) (space_after p.spaces) below above
  where
    below : nat_le (next_space s.spaces) (space_after p.spaces) ≡ true
    below = next_least s.spaces (space_after p.spaces) (all-found (λ (w : Workspace). w.number) (λ (w : Workspace). nat_lt w.number (space_after p.spaces)) s.spaces once.numbers
        (λ n w found.
        let y = record_there p s n w st found in
        ap (λ k. nat_lt k (space_after p.spaces)) (y.is.number ∙ sym y.is.record_number)
        ∙ (found-passes (λ (r : Space). r.number == n) (λ (r : Space). nat_lt r.number (space_after p.spaces)) p.spaces y.recorded y.is.recorded (numbers_under p.spaces)).1))

    above : nat_le (space_after p.spaces) (next_space s.spaces) ≡ true
    above = after_least p.spaces (next_space s.spaces) (all-found (λ (r : Space). r.number) (λ (r : Space). nat_lt r.number (next_space s.spaces)) p.spaces (ruled_spaces p rules).numbers
        (λ n r recorded.
        let y = space_there p s n r st recorded in
        ap (λ k. nat_lt k (next_space s.spaces)) (y.is.record_number ∙ sym y.is.number)
        ∙ (found-passes (λ (w : Workspace). w.number == n) (λ (w : Workspace). nat_lt w.number (next_space s.spaces)) s.spaces y.workspace y.is.found (workspaces_under s.spaces)).1))

pub next_space_same : (p : Parts) (s : Durable) → Stands p s → next_space s.spaces ≡ space_after p.spaces
next_space_same p s st = next_space_there p s st.rules st.spaces st.once

-- ---- the making of the next savepoint

more_both : (a b : ℕ) → max (a + 1) (b + 1) ≡ max a b + 1
more_both a b = grind arith

behind_greatest : (xs : List Record) → making_behind xs ≡ greatest_making xs + 1
behind_greatest [] = refl
behind_greatest (x ∷ xs) = ap (max (x.making + 1)) (behind_greatest xs) ∙ more_both x.making (greatest_making xs)

after_greatest : (ks : List Savepoint) → making_after ks ≡ greatest_kept ks + 1
after_greatest [] = refl
after_greatest (k ∷ ks) = ap (max (k.making + 1)) (after_greatest ks) ∙ more_both k.making (greatest_kept ks)

next_greatest : (ws : List Workspace) → next_making ws ≡ greatest_in ws + 1
next_greatest [] = refl
next_greatest (w ∷ ws) =
    ap (λ k. max k (next_making ws)) (after_greatest w.savepoints) ∙ ap (max (greatest_kept w.savepoints + 1)) (next_greatest ws) ∙ more_both (greatest_kept w.savepoints) (greatest_in ws)

pub next_making_there : (p : Parts) (s : Durable) → SavepointsStand p s → OnceStand p s → next_making s.spaces ≡ making_behind p.savepoints
next_making_there p s st once = next_greatest s.spaces ∙ ap (λ k. k + 1) (greatest_same p s st once.numbers) ∙ sym (behind_greatest p.savepoints)

-- each record of a savepoint was made before
pub makings_under : (xs : List Record) → list_all (λ (x : Record). nat_lt x.making (making_behind xs)) xs ≡ true
makings_under xs = made_before xs (making_behind xs) (below (greatest_making xs) (making_behind xs) (behind_greatest xs))
  where
    below : (a b : ℕ) → b ≡ a + 1 → a < b
    below a b same = omega (arith, same)

-- the work allows the next making but for one
pub making_behind_room : (p : Parts) (c : Counters) → keep_rules p ≡ true → p.counters ≡ c ∷ [] → making_behind p.savepoints ≤ c.work + 3
making_behind_room p c rules one = room (greatest_making p.savepoints) (making_behind p.savepoints) c.work (behind_greatest p.savepoints) (greatest_room p c rules one)
  where
    room : (a b k : ℕ) → b ≡ a + 1 → a ≤ k + 2 → b ≤ k + 3
    room a b k same le = omega (arith, same, le)
