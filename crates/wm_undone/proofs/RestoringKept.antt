-- The records with a workspace as it was at a savepoint keep every rule, and stand for the state that was gone back to.
use Rattle.std.proofs.Common.{◌≡◌, ◌≢◌, ℕ, ◌+◌, ◌≤◌, ◌^◌, ◌==◌, nat_lt, nat_le, Bool, true, false, ◌&&◌, if◌then◌else◌, List, [], ◌∷◌, ◌++◌, length, Some, is_some, refl, sym, ap, ◌∙◌, ◌⊎◌, inl, inr, length-append}
use Rattle.std.proofs.lemmas.Bool.{cases_eq, eq-eqb, and_from, and_parts, le-leb, or_left, true≢false}
use Rattle.std.proofs.lemmas.Option.{same_Some}
use Rattle.std.specs.List.{list_all, filter}
use Rattle.std.specs.Option.{option_map_or}
use Rattle.std.specs.Str.{bytes_eq}
use Rattle.wm_base.proofs.Plain.{nat_le-itself, nat_le-trans, nat_lt-apart, nat_lt-next}
use Rattle.wm_graph.specs.Parts.{Parts, has_version, space_of, version_of}
use Rattle.wm_graph.specs.Rules.{keep_rules, are_counters, are_hists, are_locks, are_pieces, are_rows, are_savepoints, are_spaces, are_versions, differ, has_few, has_versions, is_base_of, is_placed, is_short, is_space, is_version, is_version_of, stands_under}
use Rattle.wm_spec.specs.declared.record.counters.Counters.{Counters}
use Rattle.wm_spec.specs.declared.record.savepoint.Savepoint.{Savepoint as Record}
use Rattle.wm_spec.specs.declared.record.space.Space.{Space}
use Rattle.wm_spec.specs.declared.record.version.Version.{Version}
use Rattle.wm_state.specs.State.{Durable, Workspace, Savepoint, with_space}
use Rattle.wm_state.specs.Standing.{CountersStand, FieldsStand, Stands, latest, newest_first, node_of, saved_as}
use Rattle.wm_state.specs.Effects.{Forked}
use Rattle.wm_state.proofs.Apart.{Ruled, keeps_all, ruled, ruled_versions}
use Rattle.wm_state.proofs.Growing.{below-next, forked, forked_of, found-below, same_counters, newest-push, has_push}
use Rattle.wm_state.proofs.Keeping.{KeepRows-same, KeepTables-same, KeepVersions, KeepVersions-push, are_pieces-kept, is_version_of-kept, le_next}
use Rattle.wm_state.proofs.KeepingTurns.{turned-swap}
use Rattle.wm_state.proofs.Named.{SavedThere, ruled_savepoints, saved_there, version_there}
use Rattle.wm_state.proofs.Respaced.{space_elsewhere, space_here}
use Rattle.wm_state.proofs.Tests.{all_if, all_middle, all_push, all_swap, differ_push, differ_swap, none_if, some_swap}
use Rattle.wm_forked.proofs.KeepBorn.{version_numbered}
use Rattle.wm_forked.proofs.KeptSpaces.{has_versions-kept}
use Rattle.wm_undone.specs.Restoring.{GoesBack, RestoredTo, restored, restored_to, stays_logged, stays_marked, stays_saved, stays_touched, stays_held}
use Rattle.wm_undone.proofs.RestoringFields.{FieldsStand-restored}
use Rattle.wm_undone.proofs.RestoringRules.{KeepBack, SpaceBack, base_back, hists_back, locks_back, marks_back, saves_back, touches_back, turns_back, version_back}
use Rattle.wm_undone.proofs.RestoringStands.{Stands-restored}

-- the records with a workspace's record as it was at a savepoint, a version more, without later savepoints, touched cells, marks and
-- entries of its log, and with other counters
abbrev pub gone_back : Parts → Counters → List Space → Space → List Space → Version → Record → Parts
gone_back p c front a back y x = record p {
  counters = c ∷ [];
  spaces = front ++ restored_to x a ∷ back;
  versions = p.versions ++ y ∷ [];
  savepoints = filter (stays_saved x) p.savepoints;
  touches = filter (stays_touched x.space x.place x.log_length) p.touches;
  marks = filter (stays_marked x.space x.place) p.marks;
  locks = filter (stays_held x.space x.place) p.locks;
  hists = filter (stays_logged x.space x.log_length) p.hists;
}

-- what these are asked: the next version of the workspace, under the savepoint's
pub record MayGoBack (p : Parts) (old new : Counters) (front : List Space) (a : Space) (back : List Space) (making : ℕ) (y : Version) (x : Record) : Type 0 where
  pub one : p.counters ≡ old ∷ []
  pub counters : are_counters new ≡ true
  pub stamps : new.next_stamp ≡ old.next_stamp
  pub next : new.next_version ≡ old.next_version + 1
  pub work : old.work ≤ new.work
  pub spaces : p.spaces ≡ front ++ a ∷ back
  pub space : a.number ≡ x.space
  pub saved : saved_as p x.space making ≡ Some x
  pub number : y.number ≡ old.next_version
  pub its : y.space ≡ x.space
  pub parent : y.parent ≡ x.version

-- ---- the rule on workspaces

-- the record of a workspace may stand in the place of one with a longer log
spaces_back : (front back : List Space) (a : Space) (x : Record) → nat_le x.log_length a.log_length ≡ true → are_spaces (front ++ a ∷ back) ≡ true → are_spaces (front ++ restored_to x a ∷ back) ≡ true
spaces_back front back a x log e =
    let old = front ++ a ∷ back in
    let new = front ++ restored_to x a ∷ back in
    let first = and_parts (nat_le (length old) 1024 && is_some (space_of old 0)) _ e in
    let sized = and_parts (nat_le (length old) 1024) (is_some (space_of old 0)) first.0 in
    let numbers = and_parts (differ (λ (s t : Space). s.number == t.number) old) _ first.1 in
    let names = and_parts (differ (λ (s t : Space). bytes_eq s.name t.name) old) (list_all (is_space (space_of old)) old) numbers.1 in
    and_from (nat_le (length new) 1024 && is_some (space_of new 0)) _
    (and_from (nat_le (length new) 1024) (is_some (space_of new 0))
    (ap (λ n. nat_le n 1024) (length-append front (restored_to x a ∷ back) ∙ sym (length-append front (a ∷ back))) ∙ sized.0)
    (some_swap (λ (s : Space). s.number == 0) a (restored_to x a) refl front back ∙ sized.1))
    (and_from (differ (λ (s t : Space). s.number == t.number) new) _
    (differ_swap (λ (s t : Space). s.number == t.number) a (restored_to x a) (λ s. refl) (λ s. refl) front back ∙ numbers.0)
    (and_from (differ (λ (s t : Space). bytes_eq s.name t.name) new) (list_all (is_space (space_of new)) new)
    (differ_swap (λ (s t : Space). bytes_eq s.name t.name) a (restored_to x a) (λ s. refl) (λ s. refl) front back ∙ names.0)
    (all_swap (is_space (space_of old)) (is_space (space_of new)) a (restored_to x a) front back still (shorter (still a (all_middle (is_space (space_of old)) a front back names.1))) names.1)))
  where
    placed_same : (s : Space) → is_placed (space_of (front ++ restored_to x a ∷ back)) s ≡ is_placed (space_of (front ++ a ∷ back)) s
    placed_same s = rw (some_swap (λ (z : Space). z.number == s.parent) a (restored_to x a) refl front back) refl

    still : (s : Space) → is_space (space_of (front ++ a ∷ back)) s ≡ true → is_space (space_of (front ++ restored_to x a ∷ back)) s ≡ true
    still s is = rw (placed_same s) is

    shorter : is_space (space_of (front ++ restored_to x a ∷ back)) a ≡ true → is_space (space_of (front ++ restored_to x a ∷ back)) (restored_to x a) ≡ true
    shorter is =
        let h = and_parts (is_placed (space_of (front ++ restored_to x a ∷ back)) a && (is_short a.name && is_short a.writer)) (nat_le 1 a.next_place && (nat_le 1 a.next_implicit && nat_le a.log_length (2 ^ 62))) is in
        let k = and_parts (nat_le 1 a.next_place) (nat_le 1 a.next_implicit && nat_le a.log_length (2 ^ 62)) h.1 in
        let l = and_parts (nat_le 1 a.next_implicit) (nat_le a.log_length (2 ^ 62)) k.1 in
        and_from (is_placed (space_of (front ++ restored_to x a ∷ back)) a && (is_short a.name && is_short a.writer)) _ h.0
        (and_from (nat_le 1 a.next_place) _ k.0 (and_from (nat_le 1 a.next_implicit) (nat_le x.log_length (2 ^ 62)) l.0 (nat_le-trans x.log_length a.log_length (2 ^ 62) log l.1)))

module _ (p : Parts) (old new : Counters) (front : List Space) (a : Space) (back : List Space) (making : ℕ) (y : Version) (x : Record) (may : MayGoBack p old new front a back making y x) (rules : keep_rules p ≡ true) where
  r : Ruled p
  r = ruled p rules

  same : r.counters ≡ old
  same = same_counters p old r.counters may.one r.one

  -- the record of the workspace, and the savepoint in it
  found : space_of p.spaces x.space ≡ Some a
  found = ap (λ ss. space_of ss x.space) may.spaces ∙ space_here front back a x.space (ap are_spaces (sym may.spaces) ∙ r.spaces) may.space

  point : SavedThere p x.space making x
  point = saved_there p rules x.space making x may.saved

  point_in : point.space ≡ a
  point_in = same_Some point.space a (sym point.found ∙ found)

  spaces : are_spaces (front ++ restored_to x a ∷ back) ≡ true
  spaces = spaces_back front back a x (ap (λ (s : Space). nat_le x.log_length s.log_length) (sym point_in) ∙ point.log) (ap are_spaces (sym may.spaces) ∙ r.spaces)

  here : space_of (front ++ restored_to x a ∷ back) x.space ≡ Some (restored_to x a)
  here = space_here front back (restored_to x a) x.space spaces may.space

  elsewhere : (m : ℕ) → m ≢ x.space → space_of (front ++ restored_to x a ∷ back) m ≡ space_of p.spaces m
  elsewhere m away = space_elsewhere front back a (restored_to x a) m (λ same. away (sym same ∙ may.space)) (λ same. away (sym same ∙ may.space)) ∙ ap (λ ss. space_of ss m) (sym may.spaces)

  keep_back : KeepBack p (gone_back p new front a back y x) x
  keep_back m s is = by_number (cases_eq m x.space)
    where
      by_number : (m ≡ x.space) ⊎ (m ≢ x.space) → SpaceBack (gone_back p new front a back y x) x m s
      by_number (inl at) =
          let one : a ≡ s = same_Some a s (sym found ∙ ap (space_of p.spaces) (sym at) ∙ is) in
          record {
            new = restored_to x a;
            is = ap (space_of (front ++ restored_to x a ∷ back)) at ∙ here;
            number = ap (λ (z : Space). z.number) one;
            parent = ap (λ (z : Space). z.parent) one;
            place = ap (λ (z : Space). z.next_place) one;
            rebases = ap (λ (z : Space). z.rebases) one;
            log = inl (at, refl);
          }
      by_number (inr away) = record { new = s; is = elsewhere m away ∙ is; number = refl; parent = refl; place = refl; rebases = refl; log = inr (away, refl) }

  -- ---- the rules on versions

  keep_versions : KeepVersions p (gone_back p new front a back y x)
  keep_versions = KeepVersions-push p (gone_back p new front a back y x) y refl

  old_versions : are_versions p old.next_version ≡ true
  old_versions = ap (λ (c : Counters). are_versions p c.next_version) (sym same) ∙ r.versions

  -- the savepoint's version is older than the new one
  under : nat_lt y.parent y.number ≡ true
  under =
      ap (λ k. nat_lt k y.number) may.parent
      ∙ ap (nat_lt x.version) may.number
      ∙ found-below p.versions old.next_version x.version (below-next p old.next_version old_versions) (version_there (version_of p.versions) x.version x.space point.version)

  -- the new version itself
  new_version : is_version (space_of (front ++ restored_to x a ∷ back)) (version_of (p.versions ++ y ∷ [])) (old.next_version + 1) y ≡ true
  new_version =
      and_from (nat_lt y.number (old.next_version + 1)) _ (ap (λ k. nat_lt k (old.next_version + 1)) may.number ∙ nat_lt-next old.next_version)
      (ap (λ o. option_map_or stands o false) (ap (space_of (front ++ restored_to x a ∷ back)) may.its ∙ here)
      ∙ ap (λ b. if b then y.number == 1 else stands_under (version_of (p.versions ++ y ∷ [])) y (restored_to x a)) (ap (λ k. k == 0) may.parent ∙ version_numbered p old.next_version x.version x.space old_versions point.version)
      ∙ and_from (nat_lt y.parent y.number) _ under (or_left (is_version_of (version_of (p.versions ++ y ∷ [])) y.parent y.space) (is_version_of (version_of (p.versions ++ y ∷ [])) y.parent a.parent) its_own))
    where
      stands : Space → Bool
      stands s = if y.parent == 0 then y.number == 1 else stands_under (version_of (p.versions ++ y ∷ [])) y s

      its_own : is_version_of (version_of (p.versions ++ y ∷ [])) y.parent y.space ≡ true
      its_own =
          ap (λ k. is_version_of (version_of (p.versions ++ y ∷ [])) k y.space) may.parent
          ∙ ap (is_version_of (version_of (p.versions ++ y ∷ [])) x.version) may.its
          ∙ is_version_of-kept p (gone_back p new front a back y x) keep_versions x.version x.space point.version

  -- what the workspace sees under its own is a version of its parent
  has_back : has_versions (has_version p.versions) (version_of p.versions) a ≡ true → has_versions (has_version (p.versions ++ y ∷ [])) (version_of (p.versions ++ y ∷ [])) (restored_to x a) ≡ true
  has_back e =
      let h = and_parts (has_version (p.versions ++ y ∷ []) a.number) _ (has_versions-kept p (gone_back p new front a back y x) keep_versions a (has_push p.versions y a.number) e) in
      and_from (has_version (p.versions ++ y ∷ []) a.number) _ h.0
      (by_live (a.number == 0) h.1
      (base_back p (gone_back p new front a back y x) x keep_back keep_versions x.base_version a a refl refl (ap (is_base_of (version_of p.versions) x.base_version) (sym point_in) ∙ point.base)))
    where
      by_live : (b : Bool) → (if b then (a.birth_version == 1) && (a.base_version == 0) else is_version_of (version_of (p.versions ++ y ∷ [])) a.birth_version a.parent && is_version_of (version_of (p.versions ++ y ∷ [])) a.base_version a.parent) ≡ true
          → (if b then x.base_version == 0 else is_version_of (version_of (p.versions ++ y ∷ [])) x.base_version a.parent) ≡ true
          → (if b then (a.birth_version == 1) && (x.base_version == 0) else is_version_of (version_of (p.versions ++ y ∷ [])) a.birth_version a.parent && is_version_of (version_of (p.versions ++ y ∷ [])) x.base_version a.parent) ≡ true
      by_live true h base = and_from (a.birth_version == 1) (x.base_version == 0) (and_parts (a.birth_version == 1) (a.base_version == 0) h).0 base
      by_live false h base =
          and_from (is_version_of (version_of (p.versions ++ y ∷ [])) a.birth_version a.parent) (is_version_of (version_of (p.versions ++ y ∷ [])) x.base_version a.parent)
          (and_parts (is_version_of (version_of (p.versions ++ y ∷ [])) a.birth_version a.parent) (is_version_of (version_of (p.versions ++ y ∷ [])) a.base_version a.parent) h).0 base

  versions : are_versions (gone_back p new front a back y x) (old.next_version + 1) ≡ true
  versions =
      let h = ruled_versions p old.next_version old_versions in
      let q = gone_back p new front a back y x in
      let there : list_all (has_versions (has_version p.versions) (version_of p.versions)) (front ++ a ∷ back) ≡ true = ap (list_all (has_versions (has_version p.versions) (version_of p.versions))) (sym may.spaces) ∙ h.spaces in
      and_from (differ (λ (v w : Version). v.number == w.number) q.versions) _
      (differ_push (λ (v w : Version). v.number == w.number) p.versions y h.numbers
      (none_if (λ (w : Version). nat_lt w.number old.next_version) (λ (w : Version). w.number == y.number) (λ w lt. ap (λ k. w.number == k) may.number ∙ nat_lt-apart w.number old.next_version lt) p.versions
      (below-next p old.next_version old_versions)))
      (and_from (list_all (is_version (space_of q.spaces) (version_of q.versions) (old.next_version + 1)) q.versions) (list_all (has_versions (has_version q.versions) (version_of q.versions)) q.spaces)
      (all_push (is_version (space_of q.spaces) (version_of q.versions) (old.next_version + 1)) p.versions y
      (all_if (is_version (space_of p.spaces) (version_of p.versions) old.next_version) (is_version (space_of q.spaces) (version_of q.versions) (old.next_version + 1))
      (version_back p q x keep_back old.next_version (old.next_version + 1) (le_next old.next_version) keep_versions) p.versions h.each)
      new_version)
      (all_swap (has_versions (has_version p.versions) (version_of p.versions)) (has_versions (has_version q.versions) (version_of q.versions)) a (restored_to x a) front back
      (λ s. has_versions-kept p q keep_versions s (has_push p.versions y s.number))
      (has_back (all_middle (has_versions (has_version p.versions) (version_of p.versions)) a front back there)) there))

  -- ---- all rules

  pub keep-restored : keep_rules (gone_back p new front a back y x) ≡ true
  keep-restored =
      let q = gone_back p new front a back y x in
      let more = le-leb old.work new.work may.work in
      let saves : are_savepoints p old.work ≡ true = ap (λ (c : Counters). are_savepoints p c.work) (sym same) ∙ r.savepoints in
      keeps_all q new refl may.counters r.tables spaces
      (ap (are_versions q) may.next ∙ versions)
      (saves_back p q x keep_back old.work new.work more keep_versions refl (few (ruled_savepoints p old.work saves).few) saves)
      (ap (are_rows p) may.stamps ∙ ap (λ (c : Counters). are_rows p c.next_stamp) (sym same) ∙ r.rows)
      (ap (are_pieces q) may.stamps ∙ are_pieces-kept p q old.next_stamp old.next_stamp (nat_le-itself old.next_stamp) (KeepTables-same p q refl) keep_versions (KeepRows-same p q refl) refl
      (ap (λ (c : Counters). are_pieces p c.next_stamp) (sym same) ∙ r.pieces))
      (ap (are_hists q) may.stamps ∙ hists_back p q x keep_back old.next_stamp refl refl refl (ap (λ (c : Counters). are_hists p c.next_stamp) (sym same) ∙ r.hists))
      (touches_back p q x keep_back (KeepTables-same p q refl) refl r.touches)
      (locks_back p q x keep_back old.work new.work more (KeepTables-same p q refl) refl (ap (λ (c : Counters). are_locks p c.work) (sym same) ∙ r.locks))
      (marks_back p q x keep_back (KeepTables-same p q refl) refl r.marks)
      (turns_back p q x keep_back refl (turned-swap p q front back a (restored_to x a) refl refl may.spaces refl r.turns) r.turns)
    where
      few : list_all (has_few p.savepoints) p.spaces ≡ true → list_all (has_few p.savepoints) (front ++ restored_to x a ∷ back) ≡ true
      few e =
          let all : list_all (has_few p.savepoints) (front ++ a ∷ back) ≡ true = ap (list_all (has_few p.savepoints)) (sym may.spaces) ∙ e in
          all_swap (has_few p.savepoints) (has_few p.savepoints) a (restored_to x a) front back (λ s h. h) (all_middle (has_few p.savepoints) a front back all) all

  -- ---- what becomes of the records

  pub restored_of : RestoredTo p (gone_back p new front a back y x) x.space y.number a x
  restored_of = record {
    old = found;
    some = fork.some;
    below = fork.below;
    versions = newest-push y p.versions below ∙ ap (λ z. z ∷ newest_first p.versions) (same_node y x.space x.version may.its may.parent);
    empty = fork.empty;
    count = length-append front (restored_to x a ∷ back) ∙ sym (length-append front (a ∷ back)) ∙ sym (ap length may.spaces);
    here = here;
    elsewhere = λ m other. elsewhere m (λ at. true≢false (sym (eq-eqb m x.space at) ∙ other));
    savepoints = refl;
    touches = refl;
    marks = refl;
    locks = refl;
    hists = refl;
    rest = refl;
  }
    where
      -- what holds of the next version holds of it wherever it stands
      beside : Version
      beside = record { number = y.number; space = x.space; parent = latest p x.space }

      fork : Forked p (forked p new beside) x.space y.number
      fork = forked_of p old new a x.space beside
          (record { one = may.one; counters = may.counters; stamps = may.stamps; next = may.next; work = may.work; there = found; number = may.number; space = refl; parent = refl }) rules

      below : list_all (λ (w : Version). nat_lt w.number y.number) p.versions ≡ true
      below = ap (λ k. list_all (λ (w : Version). nat_lt w.number k) p.versions) may.number ∙ below-next p old.next_version old_versions

      same_node : (w : Version) (n k : ℕ) → w.space ≡ n → w.parent ≡ k → node_of w ≡ record { number = w.number; space = n; parent = k }
      same_node w n k f g = rw (sym f, sym g) refl

-- ---- the records stand for the state that was gone back to

pub FieldsStand-back : (p : Parts) (old new : Counters) (front : List Space) (a : Space) (back : List Space) (making : ℕ) (y : Version) (x : Record) (w : Workspace) (k : Savepoint) (s t : Durable) → keep_rules p ≡ true → FieldsStand p s
    → MayGoBack p old new front a back making y x → GoesBack p s x.space making w k x → t.spaces ≡ with_space x.space (restored k) s.spaces → t.tables ≡ s.tables → CountersStand (gone_back p new front a back y x) t
    → FieldsStand (gone_back p new front a back y x) t
FieldsStand-back p old new front a back making y x w k s t rules st may g spaces tables counters =
    FieldsStand-restored p (gone_back p new front a back y x) s t x.space y.number making a w k x (restored_of p old new front a back making y x may rules) g rules st spaces tables counters

pub Stands-back : (p : Parts) (old new : Counters) (front : List Space) (a : Space) (back : List Space) (making : ℕ) (y : Version) (x : Record) (w : Workspace) (k : Savepoint) (s t : Durable) → Stands p s
    → MayGoBack p old new front a back making y x → GoesBack p s x.space making w k x → t.spaces ≡ with_space x.space (restored k) s.spaces → t.tables ≡ s.tables → t.locks ≡ filter (stays_held x.space k.place) s.locks → CountersStand (gone_back p new front a back y x) t
    → Stands (gone_back p new front a back y x) t
Stands-back p old new front a back making y x w k s t st may g spaces tables locks counters =
    Stands-restored p (gone_back p new front a back y x) s t x.space y.number making a w k x (restored_of p old new front a back making y x may st.rules) st g spaces tables locks counters
    (keep-restored p old new front a back making y x may st.rules)
