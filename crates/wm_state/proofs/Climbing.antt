-- A workspace and its record: its parent is another one. The first version of a workspace on the path of a new version is that of its parent's path.
use Rattle.std.proofs.Common.{◌≡◌, ◌≢◌, ℕ, ◌<◌, ◌==◌, nat_lt, nat_le, Bool, true, false, ◌&&◌, if◌then◌else◌, List, ◌∷◌, length, Option, Some, None, is_some, refl, sym, ap, ◌∙◌, arith}
use Rattle.std.proofs.lemmas.Bool.{and_parts}
use Rattle.std.proofs.lemmas.Option.{same_Some, none-some}
use Rattle.std.specs.List.{list_all}
use Rattle.std.specs.Option.{option_map}
use Rattle.std.specs.Str.{bytes_eq}
use Rattle.wm_base.proofs.Plain.{nonzero}
use Rattle.wm_graph.specs.Parts.{Parts, space_of}
use Rattle.wm_graph.specs.Rules.{keep_rules, is_space, is_placed, is_short, live, differ}
use Rattle.wm_spec.specs.declared.record.space.Space.{Space}
use Rattle.wm_tree.specs.declared.version.Version.{Version as Node}
use Rattle.wm_state.specs.State.{Durable, Workspace, workspace_of}
use Rattle.wm_state.specs.Standing.{newest_first, first_in, SpaceFields, fields_of, fields_in, SpacesStand}
use Rattle.wm_state.proofs.Newest.{Descend, Descend-newest}
use Rattle.wm_state.proofs.Apart.{ruled, ruled_versions, found-passes}
use Rattle.wm_state.proofs.Named.{space_number}
use Rattle.wm_state.proofs.FirstIn.{first-beside, first-under}

-- ---- a workspace and its record

pub record Recorded (p : Parts) (n : ℕ) (w : Workspace) : Type 0 where
  pub space : Space
  pub found : space_of p.spaces n ≡ Some space
  pub fields : fields_of space ≡ fields_in w

pub recorded_of : (p : Parts) (s : Durable) → SpacesStand p s → (n : ℕ) (w : Workspace) → workspace_of s.spaces n ≡ Some w → Recorded p n w
recorded_of p s stand n w found = by_record (space_of p.spaces n) refl (stand.same n ∙ ap (option_map fields_in) found)
  where
    by_record : (o : Option Space) → space_of p.spaces n ≡ o → option_map fields_of o ≡ Some (fields_in w) → Recorded p n w
    by_record None is e = absurd (none-some (fields_in w) e)
    by_record (Some r) is e = record { space = r; found = is; fields = same_Some (fields_of r) (fields_in w) e }

-- the parent of a workspace other than LIVE is another one
pub parent_apart : (p : Parts) → keep_rules p ≡ true → (n : ℕ) (r : Space) → 0 < n → space_of p.spaces n ≡ Some r → n ≢ r.parent
parent_apart p rules n r some found same = by_live (r.number == 0) (ap (λ k. k == 0) number ∙ nonzero n some) placed
  where
    number : r.number ≡ n
    number = space_number p n r found

    placed : is_placed (space_of p.spaces) r ≡ true
    placed =
        let x = and_parts (nat_le (length p.spaces) 1024 && is_some (space_of p.spaces 0)) _ (ruled p rules).spaces in
        let y = and_parts (differ (λ (s t : Space). s.number == t.number) p.spaces) _ x.1 in
        let z = and_parts (differ (λ (s t : Space). bytes_eq s.name t.name) p.spaces) (list_all (is_space (space_of p.spaces)) p.spaces) y.1 in
        let w = found-passes (λ (x : Space). x.number == n) (is_space (space_of p.spaces)) p.spaces r found z.1 in
        (and_parts (is_placed (space_of p.spaces) r) (is_short r.name && is_short r.writer) (and_parts (is_placed (space_of p.spaces) r && (is_short r.name && is_short r.writer)) _ w.1).0).0

    not_below : (a b : ℕ) → nat_lt a b ≡ true → b ≡ a → ⊥
    not_below a b lt e = grind (arith, lt, e)

    by_live : (b : Bool) → b ≡ false → (if b then bytes_eq r.name live else nat_lt r.parent r.number && is_some (space_of p.spaces r.parent)) ≡ true → ⊥
    by_live true h is = cc
    by_live false h is = not_below r.parent r.number (and_parts (nat_lt r.parent r.number) (is_some (space_of p.spaces r.parent)) is).0 (number ∙ same)

-- the versions stand the newest first, and the parent of each workspace but LIVE is another one
pub record Ordered (p : Parts) (was : List Workspace) : Type 0 where
  pub down : Descend (newest_first p.versions)
  pub lower : (n : ℕ) (w : Workspace) → 0 < n → workspace_of was n ≡ Some w → n ≢ w.parent

pub ordered_of : (p : Parts) (s : Durable) → keep_rules p ≡ true → SpacesStand p s → Ordered p s.spaces
ordered_of p s rules stand = record {
  down = Descend-newest p.versions (ruled_versions p (ruled p rules).counters.next_version (ruled p rules).versions).numbers;
  lower = λ n w some found same.
      let r = recorded_of p s stand n w found in parent_apart p rules n r.space some r.found (same ∙ ap (λ (f : SpaceFields). f.parent) (sym r.fields));
}

-- its parent is that of its record
pub parent_recorded : (p : Parts) (s : Durable) → SpacesStand p s → (n : ℕ) (w : Workspace) (r : Space) → workspace_of s.spaces n ≡ Some w → space_of p.spaces n ≡ Some r → w.parent ≡ r.parent
parent_recorded p s stand n w r found recorded =
    let y = recorded_of p s stand n w found in
    ap (λ (f : SpaceFields). f.parent) (sym y.fields) ∙ ap (λ (z : Space). z.parent) (same_Some y.space r (sym y.found ∙ recorded))

pub above_zero : (n : ℕ) → n ≢ 0 → 0 < n
above_zero n other = grind (arith, other)

-- the new version is led up from its parent
pub first-sprout : (q : Parts) (x : Node) (older : List Node) → newest_first q.versions ≡ x ∷ older → x.parent < x.number → (space first : ℕ) → x.space ≢ space
    → first_in (newest_first q.versions) space x.parent ≡ Some first → first_in (newest_first q.versions) space x.number ≡ Some first
first-sprout q x older versions lt space first other found =
    ap (λ nodes. first_in nodes space x.number) versions ∙ first-under x older space other ∙ sym (first-beside x older space x.parent lt) ∙ ap (λ nodes. first_in nodes space x.parent) (sym versions) ∙ found
