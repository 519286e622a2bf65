-- In records that keep the rules, the newest version of a workspace is no other workspace's, and not what it sees under its own.
use Rattle.std.proofs.Common.{◌≡◌, ℕ, ◌==◌, nat_lt, nat_le, Bool, true, false, ◌&&◌, cond, if◌then◌else◌, List, [], ◌∷◌, Option, Some, None, is_some, refl, sym, ap, ◌∙◌, length, arith}
use Rattle.std.proofs.lemmas.Bool.{eq-eqb, ne_eqb, eqb-true, and_from, and_parts, true≢false}
use Rattle.std.proofs.lemmas.Option.{same_Some}
use Rattle.std.specs.List.{list_all, find}
use Rattle.std.specs.Option.{option_map, option_map_or}
use Rattle.std.specs.Str.{bytes_eq}
use Rattle.wm_base.proofs.Plain.{none_some}
use Rattle.wm_graph.specs.Parts.{Parts, space_of, version_of, has_version}
use Rattle.wm_graph.specs.Rules.{keep_rules, keep_rules_with, are_counters, are_tables, are_spaces, is_space, is_placed, is_short, live, are_versions, is_version, has_versions, stands_under, is_version_of, are_savepoints, are_rows, are_pieces, are_hists, are_touches, are_locks, are_marks, are_turns, differ}
use Rattle.wm_spec.specs.declared.record.counters.Counters.{Counters}
use Rattle.wm_spec.specs.declared.record.space.Space.{Space}
use Rattle.wm_spec.specs.declared.record.version.Version.{Version}
use Rattle.wm_tree.specs.Versions.{version_in}
use Rattle.wm_tree.specs.declared.version.Version.{Version as Node}
use Rattle.wm_state.specs.Standing.{node_of, newest_first, latest}
use Rattle.wm_state.specs.Effects.{IsApart}
use Rattle.wm_state.proofs.Newest.{numbers_differ, Descend-newest, version_in-newest, has-newest, IsNewest, newest_there}

-- what is found passes the test, and is one of the list
pub found-passes : {A : Type 0} (P Q : A → Bool) (xs : List A) (x : A) → find P xs ≡ Some x → list_all Q xs ≡ true → (P x ≡ true) × (Q x ≡ true)
found-passes P Q [] x e all = cc
found-passes {A = A} P Q (y ∷ ys) x e all = by_test (P y) refl (and_parts (Q y) (list_all Q ys) all) (found-passes P Q ys x)
  where
    by_test : (b : Bool) → P y ≡ b → (Q y ≡ true) × (list_all Q ys ≡ true) → (find P ys ≡ Some x → list_all Q ys ≡ true → (P x ≡ true) × (Q x ≡ true)) → (P x ≡ true) × (Q x ≡ true)
    by_test true h q rest = let same : y ≡ x = same_Some y x (sym (ap (λ b. cond b (Some y) (find P ys)) h) ∙ e) in (ap P (sym same) ∙ h, ap Q (sym same) ∙ q.0)
    by_test false h q rest = rest (sym (ap (λ b. cond b (Some y) (find P ys)) h) ∙ e) q.1

-- ---- what the rules say

pub record Ruled (p : Parts) : Type 0 where
  pub counters : Counters
  pub one : p.counters ≡ counters ∷ []
  pub counted : are_counters counters ≡ true
  pub tables : are_tables p.tables ≡ true
  pub spaces : are_spaces p.spaces ≡ true
  pub versions : are_versions p counters.next_version ≡ true
  pub savepoints : are_savepoints p counters.work ≡ true
  pub rows : are_rows p counters.next_stamp ≡ true
  pub pieces : are_pieces p counters.next_stamp ≡ true
  pub hists : are_hists p counters.next_stamp ≡ true
  pub touches : are_touches p ≡ true
  pub locks : are_locks p counters.work ≡ true
  pub marks : are_marks p ≡ true
  pub turns : are_turns p ≡ true

pub ruled : (p : Parts) → keep_rules p ≡ true → Ruled p
unfolding keep_rules
ruled p e = by_counters p.counters refl e
  where
    by_counters : (cs : List Counters) → p.counters ≡ cs → keep_rules_with p cs ≡ true → Ruled p
    by_counters [] is h = absurd (true≢false (sym h))
    by_counters (c ∷ d ∷ cs) is h = absurd (true≢false (sym h))
    by_counters (c ∷ []) is h =
        let a = and_parts (are_counters c) _ h in
        let b = and_parts (are_tables p.tables) _ a.1 in
        let d = and_parts (are_spaces p.spaces) _ b.1 in
        let f = and_parts (are_versions p c.next_version) _ d.1 in
        let g = and_parts (are_savepoints p c.work) _ f.1 in
        let k = and_parts (are_rows p c.next_stamp) _ g.1 in
        let l = and_parts (are_pieces p c.next_stamp) _ k.1 in
        let m = and_parts (are_hists p c.next_stamp) _ l.1 in
        let n = and_parts (are_touches p) _ m.1 in
        let o = and_parts (are_locks p c.work) _ n.1 in
        let q = and_parts (are_marks p) (are_turns p) o.1 in
        record {
          counters = c;
          one = is;
          counted = a.0;
          tables = b.0;
          spaces = d.0;
          versions = f.0;
          savepoints = g.0;
          rows = k.0;
          pieces = l.0;
          hists = m.0;
          touches = n.0;
          locks = o.0;
          marks = q.0;
          turns = q.1;
        }

-- the rules hold where all of them do
pub keeps_all : (p : Parts) (c : Counters) → p.counters ≡ c ∷ [] → are_counters c ≡ true → are_tables p.tables ≡ true → are_spaces p.spaces ≡ true → are_versions p c.next_version ≡ true
    → are_savepoints p c.work ≡ true → are_rows p c.next_stamp ≡ true → are_pieces p c.next_stamp ≡ true → are_hists p c.next_stamp ≡ true → are_touches p ≡ true → are_locks p c.work ≡ true
    → are_marks p ≡ true → are_turns p ≡ true → keep_rules p ≡ true
unfolding keep_rules
keeps_all p c one counters tables spaces versions savepoints rows pieces hists touches locks marks turns =
    ap (keep_rules_with p) one
    ∙ and_from (are_counters c) _ counters
    (and_from (are_tables p.tables) _ tables
    (and_from (are_spaces p.spaces) _ spaces
    (and_from (are_versions p c.next_version) _ versions
    (and_from (are_savepoints p c.work) _ savepoints
    (and_from (are_rows p c.next_stamp) _ rows
    (and_from (are_pieces p c.next_stamp) _ pieces
    (and_from (are_hists p c.next_stamp) _ hists (and_from (are_touches p) _ touches (and_from (are_locks p c.work) _ locks (and_from (are_marks p) (are_turns p) marks turns))))))))))

-- a workspace that is there is in order
pub each_space : (spaces : List Space) → are_spaces spaces ≡ true → list_all (is_space (space_of spaces)) spaces ≡ true
each_space spaces e =
    let first = and_parts (nat_le (length spaces) 1024 && is_some (space_of spaces 0)) _ e in
    let numbers = and_parts (differ (λ (s t : Space). s.number == t.number) spaces) _ first.1 in
    (and_parts (differ (λ (s t : Space). bytes_eq s.name t.name) spaces) (list_all (is_space (space_of spaces)) spaces) numbers.1).1

pub record RuledVersions (p : Parts) (next : ℕ) : Type 0 where
  pub numbers : numbers_differ p.versions
  pub each : list_all (is_version (space_of p.spaces) (version_of p.versions) next) p.versions ≡ true
  pub spaces : list_all (has_versions (has_version p.versions) (version_of p.versions)) p.spaces ≡ true

pub ruled_versions : (p : Parts) (next : ℕ) → are_versions p next ≡ true → RuledVersions p next
ruled_versions p next e =
    let h = and_parts (differ (λ (v w : Version). v.number == w.number) p.versions) _ e in
    let g = and_parts (list_all (is_version (space_of p.spaces) (version_of p.versions) next) p.versions) (list_all (has_versions (has_version p.versions) (version_of p.versions)) p.spaces) h.1 in
    record { numbers = h.0; each = g.0; spaces = g.1 }

-- ---- the newest version

-- a workspace that has a record has a newest version
newest_of : (p : Parts) → keep_rules p ≡ true → (n : ℕ) (s : Space) → space_of p.spaces n ≡ Some s → IsNewest (newest_first p.versions) n
newest_of p rules n s is =
    let r = ruled p rules in
    let v = ruled_versions p r.counters.next_version r.versions in
    let h = found-passes (λ (x : Space). x.number == n) (has_versions (has_version p.versions) (version_of p.versions)) p.spaces s is v.spaces in
    newest_there (newest_first p.versions) n (Descend-newest p.versions v.numbers)
    (has-newest p.versions n ∙ ap (has_version p.versions) (sym (eqb-true s.number n h.0)) ∙ (and_parts (has_version p.versions s.number) _ h.1).0)

-- it is the version of a record
pub newest_record : (p : Parts) → keep_rules p ≡ true → (n : ℕ) (s : Space) → space_of p.spaces n ≡ Some s → (v : Version) × (version_of p.versions (latest p n) ≡ Some v) × (v.space ≡ n)
newest_record p rules n s is =
    let r = ruled p rules in
    let v = ruled_versions p r.counters.next_version r.versions in
    by_record (version_of p.versions (latest p n)) refl (newest_of p rules n s is) (version_in-newest p.versions v.numbers (latest p n))
  where
    by_record : (o : Option Version) → version_of p.versions (latest p n) ≡ o → IsNewest (newest_first p.versions) n → version_in (newest_first p.versions) (latest p n) ≡ option_map node_of (version_of p.versions (latest p n))
        → (v : Version) × (version_of p.versions (latest p n) ≡ Some v) × (v.space ≡ n)
    by_record None none newest same = absurd (none_some (option_map node_of (version_of p.versions (latest p n))) newest.node (ap (option_map node_of) none) (sym same ∙ newest.found))
    by_record (Some v) found newest same =
        let is_node : node_of v ≡ newest.node = same_Some (node_of v) newest.node (sym (ap (option_map node_of) found) ∙ sym same ∙ newest.found) in
        (v, found, ap (λ (x : Node). x.space) is_node ∙ newest.space)

-- a version has a number above 0
above_zero : (v : Version) (versions : ℕ → Option Version) (spaces : ℕ → Option Space) (next : ℕ) → is_version spaces versions next v ≡ true → (v.number == 0) ≡ false
above_zero v versions spaces next is_one = by_space (spaces v.space) (and_parts (nat_lt v.number next) _ is_one).1
  where
    by_parent : (t : Space) (b : Bool) → (if b then v.number == 1 else stands_under versions v t) ≡ true → (v.number == 0) ≡ false
    by_parent t true g = ne_eqb _ _ (λ zero_is. omega (arith, eqb-true v.number 1 g, zero_is))
    by_parent t false g = positive v.parent v.number (and_parts (nat_lt v.parent v.number) _ g).0
      where
        positive : (a b : ℕ) → nat_lt a b ≡ true → (b == 0) ≡ false
        positive a b lt = grind (arith, lt)

    by_space : (o : Option Space) → option_map_or (λ (s : Space). if v.parent == 0 then v.number == 1 else stands_under versions v s) o false ≡ true → (v.number == 0) ≡ false
    by_space None h = absurd (true≢false (sym h))
    by_space (Some t) h = by_parent t (v.parent == 0) h

-- and so has the newest version of a workspace
pub newest_some : (p : Parts) → keep_rules p ≡ true → (n : ℕ) (s : Space) → space_of p.spaces n ≡ Some s → (latest p n == 0) ≡ false
newest_some p rules n s is =
    let rule = ruled p rules in
    let v = ruled_versions p rule.counters.next_version rule.versions in
    let a = newest_record p rules n s is in
    let g = found-passes (λ (x : Version). x.number == latest p n) (is_version (space_of p.spaces) (version_of p.versions) rule.counters.next_version) p.versions a.0 a.1 v.each in
    sym (ap (λ k. k == 0) (eqb-true _ _ g.0)) ∙ above_zero a.0 (version_of p.versions) (space_of p.spaces) rule.counters.next_version g.1

pub apart_of : (p : Parts) → keep_rules p ≡ true → (n : ℕ) (s : Space) → space_of p.spaces n ≡ Some s → IsApart p n
apart_of p rules n s is = record {
  there = (newest_of p rules n s is).there;
  others = λ m other there. by_space m other (space_of p.spaces m) refl there;
  above = λ r found. above_of r (same_Some r s (sym found ∙ is));
}
  where
    above_of : (r : Space) → r ≡ s → (latest p n == r.base_version) ≡ false
    above_of r same =
        let rule = ruled p rules in
        let v = ruled_versions p rule.counters.next_version rule.versions in
        let a = newest_record p rules n s is in
        let h = found-passes (λ (x : Space). x.number == n) (has_versions (has_version p.versions) (version_of p.versions)) p.spaces s is v.spaces in
        ap (λ (x : Space). latest p n == x.base_version) same
        ∙ by_live (s.number == 0) refl (and_parts (has_version p.versions s.number) _ h.1).1 (newest_some p rules n s is) a
      where
        placed : is_placed (space_of p.spaces) s ≡ true
        placed =
            let rule = ruled p rules in
            let x = and_parts (nat_le (length p.spaces) 1024 && is_some (space_of p.spaces 0)) _ rule.spaces in
            let y = and_parts (differ (λ (s t : Space). s.number == t.number) p.spaces) _ x.1 in
            let z = and_parts (differ (λ (s t : Space). bytes_eq s.name t.name) p.spaces) (list_all (is_space (space_of p.spaces)) p.spaces) y.1 in
            let w = found-passes (λ (x : Space). x.number == n) (is_space (space_of p.spaces)) p.spaces s is z.1 in
            (and_parts (is_placed (space_of p.spaces) s) (is_short s.name && is_short s.writer) (and_parts (is_placed (space_of p.spaces) s && (is_short s.name && is_short s.writer)) _ w.1).0).0

        by_live : (b : Bool) → (s.number == 0) ≡ b
            → (if b then (s.birth_version == 1) && (s.base_version == 0) else is_version_of (version_of p.versions) s.birth_version s.parent && is_version_of (version_of p.versions) s.base_version s.parent) ≡ true
            → (latest p n == 0) ≡ false → ((v : Version) × (version_of p.versions (latest p n) ≡ Some v) × (v.space ≡ n)) → (latest p n == s.base_version) ≡ false
        by_live true e h some a = ap (λ k. latest p n == k) (eqb-true _ _ (and_parts (s.birth_version == 1) (s.base_version == 0) h).1) ∙ some
        by_live false e h some a = ne_eqb _ _ (λ same.
            let base = (and_parts (is_version_of (version_of p.versions) s.birth_version s.parent) (is_version_of (version_of p.versions) s.base_version s.parent) h).1 in
            let parent : a.0.space ≡ s.parent =
            eqb-true _ _ (sym (ap (λ (o : Option Version). option_map_or (λ (v : Version). v.space == s.parent) o false) (ap (version_of p.versions) (sym same) ∙ a.1)) ∙ base) in
            let number : s.number ≡ n = eqb-true _ _ (found-passes (λ (x : Space). x.number == n) (λ x. true) p.spaces s is (all_true p.spaces)).0 in
            let below = (and_parts (nat_lt s.parent s.number) (is_some (space_of p.spaces s.parent)) (sym (ap (λ b. if b then bytes_eq s.name live else nat_lt s.parent s.number && is_some (space_of p.spaces s.parent)) e) ∙ placed)).0 in
            not_below s.parent s.number below (number ∙ sym a.2 ∙ parent))
          where
            not_below : (a b : ℕ) → nat_lt a b ≡ true → b ≡ a → ⊥
            not_below a b lt e = grind (arith, lt, e)

            all_true : (xs : List Space) → list_all (λ x. true) xs ≡ true
            all_true [] = refl
            all_true (x ∷ xs) = all_true xs

    by_space : (m : ℕ) → (m == n) ≡ false → (o : Option Space) → space_of p.spaces m ≡ o → is_some o ≡ true → (latest p m == latest p n) ≡ false
    by_space m other None none there = absurd (true≢false (sym there))
    by_space m other (Some t) found there = ne_eqb _ _ (λ same.
        let a = newest_record p rules m t found in
        let b = newest_record p rules n s is in
        let v : a.0 ≡ b.0 = same_Some a.0 b.0 (sym a.1 ∙ ap (version_of p.versions) same ∙ b.1) in
        true≢false (sym (eq-eqb m n (sym a.2 ∙ ap (λ (x : Version). x.space) v ∙ b.2)) ∙ other))
