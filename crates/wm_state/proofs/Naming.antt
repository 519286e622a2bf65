-- What records name still tells what it told: a law for edits. Versions that are named were named before, or are shown to tell what they are
-- named for (NamedStand-kept), where paths that led up are carried (Carries); what is own was own before, or is shown to be covered
-- (OwnsStand-kept). Where no savepoint and no workspace is new, Framed says what is named: the newest versions of workspaces, and what was named.
use Rattle.std.proofs.Common.{◌≡◌, ◌≢◌, ℕ, ◌<◌, ◌≤◌, ◌==◌, Bool, true, false, cond, List, ◌∷◌, Some, is_some, refl, sym, ap, subst, ◌∙◌, ◌⊎◌, inl, inr, ⊎_elim}
use Rattle.std.proofs.lemmas.Bool.{cases_eq, eq-eqb}
use Rattle.std.specs.Option.{option_map}
use Rattle.wm_graph.specs.Parts.{Parts, space_of, version_of}
use Rattle.wm_graph.specs.Rules.{keep_rules, is_version_of}
use Rattle.wm_spec.specs.Lists.{Entry, Cell}
use Rattle.wm_spec.specs.declared.record.space.Space.{Space}
use Rattle.wm_tree.specs.Versions.{AllBelow}
use Rattle.wm_tree.specs.declared.version.Version.{Version as Node}
use Rattle.wm_state.specs.Effects.{IsFree}
use Rattle.wm_state.specs.State.{Durable, Workspace, Savepoint, Turn, content, workspace_of, with_space, savepoint_made, turn_of}
use Rattle.wm_state.specs.Standing.{newest_first, latest, seen, saved_as, first_in, Climbs, Top, Up, SpacesStand, Names, Newest, Kept, Birth, Base, KeptBase, Tells, NamedStand, Owns, Own, KeptOwn, Covers, OwnsStand}
use Rattle.wm_state.proofs.Apart.{ruled, ruled_versions, newest_record}
use Rattle.wm_state.proofs.Changing.{workspace_of-changed}
use Rattle.wm_state.proofs.Climbing.{Ordered, above_zero, first-sprout, ordered_of, parent_recorded, recorded_of}
use Rattle.wm_state.proofs.FirstIn.{IsOf, ruled_of, of-below, first-of, first-below, first-beside}
use Rattle.wm_state.proofs.Frames.{KeepRows, HasRows-kept}
use Rattle.wm_state.proofs.Named.{saved_there, saved_base, bases_there, version_there}
use Rattle.wm_state.proofs.Newest.{Descend, Descend-newest}

-- ---- paths that are carried

-- a workspace has the parent and the turns that it had
pub record Stays (now : List Workspace) (n : ℕ) (w : Workspace) : Type 0 where
  pub new : Workspace
  pub is : workspace_of now n ≡ Some new
  pub parent : new.parent ≡ w.parent
  pub turns : (r : ℕ) (t : Turn) → turn_of w r ≡ Some t → turn_of new r ≡ Some t

-- so it is of each, and the first version of another workspace on the path of each workspace's versions is the same, and holds the same;
-- and the rows are there
pub record Carries (p q : Parts) (was now : List Workspace) : Type 0 where
  pub stays : (n : ℕ) (w : Workspace) → workspace_of was n ≡ Some w → Stays now n w
  pub path : (space version first : ℕ) → first_in (newest_first p.versions) space version ≡ Some first → first_in (newest_first q.versions) space version ≡ Some first
  pub sees : (n space version first : ℕ) → n ≢ space → IsOf (newest_first p.versions) version n → first_in (newest_first p.versions) space version ≡ Some first
      → (c : Cell) → seen q first c ≡ seen p first c
  pub rows : KeepRows p q

-- where the workspaces are the same
pub stays-same : (was now : List Workspace) → now ≡ was → (n : ℕ) (w : Workspace) → workspace_of was n ≡ Some w → Stays now n w
stays-same was now same n w found = record { new = w; is = ap (λ ws. workspace_of ws n) same ∙ found; parent = refl; turns = λ r t turn. turn }

-- where one was changed, but for its number, its parent and its turns
pub stays-changed : (was now : List Workspace) (m : ℕ) (act : Workspace → Workspace) → ((w : Workspace) → (act w).number ≡ w.number) → ((w : Workspace) → (act w).parent ≡ w.parent)
    → ((w : Workspace) → (act w).turns ≡ w.turns) → now ≡ with_space m act was → (n : ℕ) (w : Workspace) → workspace_of was n ≡ Some w → Stays now n w
stays-changed was now m act number parent turns same n w found = by_test (n == m) (ap (λ ws. workspace_of ws n) same ∙ workspace_of-changed m act number was n)
  where
    by_test : (b : Bool) → workspace_of now n ≡ cond b (option_map act (workspace_of was n)) (workspace_of was n) → Stays now n w
    by_test true is = record { new = act w; is = is ∙ ap (option_map act) found; parent = parent w; turns = λ r t turn. rw (turns w) turn }
    by_test false is = record { new = w; is = is ∙ found; parent = refl; turns = λ r t turn. turn }

-- where versions and pieces are the same
pub carries-same : (p q : Parts) (was now : List Workspace) → q.versions ≡ p.versions → q.pieces ≡ p.pieces → ((n : ℕ) (w : Workspace) → workspace_of was n ≡ Some w → Stays now n w) → KeepRows p q → Carries p q was now
carries-same p q was now versions pieces stays rows = record {
  stays = stays;
  path = λ space version first found. ap (λ vs. first_in (newest_first vs) space version) versions ∙ found;
  sees = λ n space version first other is found c. rw (versions, pieces) refl;
  rows = rows;
}

-- where a version more stands above all others
pub carries-more : (p q : Parts) (was now : List Workspace) (x : Node) → keep_rules p ≡ true → newest_first q.versions ≡ x ∷ newest_first p.versions → AllBelow x.number (newest_first p.versions)
    → ((version : ℕ) (c : Cell) → version < x.number → seen q version c ≡ seen p version c) → ((n : ℕ) (w : Workspace) → workspace_of was n ≡ Some w → Stays now n w) → KeepRows p q → Carries p q was now
carries-more p q was now x rules versions below same stays rows = record {
  stays = stays;
  path = λ space version first found.
      ap (λ nodes. first_in nodes space version) versions ∙ first-beside x (newest_first p.versions) space version (first-below (newest_first p.versions) x.number space version first below found) ∙ found;
  sees = λ n space version first other is found c. same first c (of-below (newest_first p.versions) x.number first space below (first-of (newest_first p.versions) down space version first found));
  rows = rows;
}
  where
    down : Descend (newest_first p.versions)
    down = Descend-newest p.versions (ruled_versions p (ruled p rules).counters.next_version (ruled p rules).versions).numbers

-- a path that led up does so still
pub Climbs-carried : (p q : Parts) (was now : List Workspace) → Carries p q was now → Ordered p was → (version n r : ℕ) → IsOf (newest_first p.versions) version n → Climbs p was version n r → Climbs q now version n r
Climbs-carried p q was now k o version n r is (Top zero_is) = Top zero_is
Climbs-carried p q was now k o version n r is (Up u w t there turn first sees up) =
    by_number (cases_eq n 0) (Climbs-carried p q was now k o u w.parent t.rebases (first-of (newest_first p.versions) o.down w.parent version u first) up)
  where
    y : Stays now n w
    y = k.stays n w there

    by_number : (n ≡ 0) ⊎ (n ≢ 0) → Climbs q now u w.parent t.rebases → Climbs q now version n r
    by_number (inl zero_is) rest = Top zero_is
    by_number (inr other) rest =
        Up u y.new t y.is (y.turns r t turn)
        (ap (λ m. first_in (newest_first q.versions) m version) y.parent ∙ k.path w.parent version u first)
        (λ c. k.sees n w.parent version u (o.lower n w (above_zero n other) there) is first c ∙ sees c)
        (subst (λ m. Climbs q now u m t.rebases) (sym y.parent) rest)

-- the path of a new version leads up where its parent's does and is of its workspace
pub Climbs-sprout : (q : Parts) (now : List Workspace) (x : Node) (older : List Node) (r : ℕ) → newest_first q.versions ≡ x ∷ older → x.parent < x.number
    → ((n : ℕ) (w : Workspace) → 0 < n → workspace_of now n ≡ Some w → n ≢ w.parent) → Climbs q now x.parent x.space r → Climbs q now x.number x.space r
Climbs-sprout q now x older r versions lt lower (Top zero_is) = Top zero_is
Climbs-sprout q now x older r versions lt lower (Up u w t there turn first sees up) = by_number (cases_eq x.space 0)
  where
    by_number : (x.space ≡ 0) ⊎ (x.space ≢ 0) → Climbs q now x.number x.space r
    by_number (inl zero_is) = Top zero_is
    by_number (inr other) = Up u w t there turn (first-sprout q x older versions lt w.parent u (lower x.space w (above_zero x.space other) there) first) sees up

-- ---- versions that are named

-- a version is named, whatever equations tell it
pub Named-as : (p : Parts) (d : Durable) (v n r : ℕ) (es : List Entry) (u m s : ℕ) (fs : List Entry) → v ≡ u → n ≡ m → r ≡ s → es ≡ fs → Names p d u m s fs → Names p d v n r es
Named-as p d v n r es u m s fs a b c e x = rw (a, b, c, e) x

pub Tells-as : (p : Parts) (spaces : List Workspace) (v n r : ℕ) (es : List Entry) (u m s : ℕ) (fs : List Entry) → v ≡ u → n ≡ m → r ≡ s → es ≡ fs → Tells p spaces u m s fs → Tells p spaces v n r es
Tells-as p spaces v n r es u m s fs a b c e x = rw (a, b, c, e) x

-- its record says that it is of the workspace
pub version_named : (p : Parts) (d : Durable) → keep_rules p ≡ true → SpacesStand p d → (v n r : ℕ) (es : List Entry) → Names p d v n r es → is_version_of (version_of p.versions) v n ≡ true
version_named p d rules stand v n r es (Newest w is) = let y = recorded_of p d stand n w is in let x = newest_record p rules n y.space y.found in rw x.1 (eq-eqb x.0.space n x.2)
version_named p d rules stand v n r es (Kept making w k x is made saved) = (saved_there p rules n making x saved).version
version_named p d rules stand v n r es (Birth {n = i} w a t some is recorded turn) =
    ap (is_version_of (version_of p.versions) a.birth_version) (parent_recorded p d stand i w a is recorded) ∙ (bases_there p rules i a some recorded).birth
version_named p d rules stand v n r es (Base {n = i} w a t some is recorded turn) =
    ap (is_version_of (version_of p.versions) a.base_version) (parent_recorded p d stand i w a is recorded) ∙ (bases_there p rules i a some recorded).base
version_named p d rules stand v n r es (KeptBase {n = i} making w k x t some is made saved turn) =
    let y = saved_there p rules i making x saved in
    ap (is_version_of (version_of p.versions) x.base_version) (parent_recorded p d stand i w y.space is y.found) ∙ saved_base p i making x y some

-- so it is one of the workspace, and is there
pub named_of : (p : Parts) (d : Durable) → keep_rules p ≡ true → SpacesStand p d → (v n r : ℕ) (es : List Entry) → Names p d v n r es → IsOf (newest_first p.versions) v n
named_of p d rules stand v n r es x = ruled_of p rules v n (version_named p d rules stand v n r es x)

pub there_of : (p : Parts) (d : Durable) → keep_rules p ≡ true → SpacesStand p d → (v n r : ℕ) (es : List Entry) → Names p d v n r es → is_some (version_of p.versions v) ≡ true
there_of p d rules stand v n r es x = version_there (version_of p.versions) v n (version_named p d rules stand v n r es x)

-- ---- the law of an edit

-- a version that is named was named before, and sees what it saw
pub record WasNamed (p q : Parts) (d : Durable) (v n r : ℕ) (es : List Entry) : Type 0 where
  pub named : Names p d v n r es
  pub sees : (c : Cell) → seen q v c ≡ seen p v c

-- its path leads up
pub climbs_kept : (p q : Parts) (d e : Durable) → keep_rules p ≡ true → SpacesStand p d → NamedStand p d → Carries p q d.spaces e.spaces → (v n r : ℕ) (es : List Entry) → Names p d v n r es → Climbs q e.spaces v n r
climbs_kept p q d e rules stand before k v n r es x =
    Climbs-carried p q d.spaces e.spaces k (ordered_of p d rules stand) v n r (named_of p d rules stand v n r es x) (before.tells v n r es x).climbs

-- each version that is named was named before, or tells what it is named for
pub NamedStand-kept : (p q : Parts) (d e : Durable) → keep_rules p ≡ true → SpacesStand p d → NamedStand p d → Carries p q d.spaces e.spaces
    → ((v n r : ℕ) (es : List Entry) → Names q e v n r es → WasNamed p q d v n r es ⊎ Tells q e.spaces v n r es) → NamedStand q e
NamedStand-kept p q d e rules stand before k each = record { tells = λ v n r es x. ⊎_elim (was v n r es) (λ (h : Tells q e.spaces v n r es). h) (each v n r es x) }
  where
    was : (v n r : ℕ) (es : List Entry) → WasNamed p q d v n r es → Tells q e.spaces v n r es
    was v n r es y =
        let t = before.tells v n r es y.named in
        record { holds = λ c. y.sees c ∙ t.holds c; climbs = climbs_kept p q d e rules stand before k v n r es y.named; rows = HasRows-kept p q k.rows es t.rows }

-- ---- what is own

pub Owned-as : (p : Parts) (d : Durable) (base version : ℕ) (es : List Entry) (under over : ℕ) (fs : List Entry) → base ≡ under → version ≡ over → es ≡ fs → Owns p d under over fs → Owns p d base version es
Owned-as p d base version es under over fs a b e x = rw (a, b, e) x

pub Covers-as : (q : Parts) (base version : ℕ) (es : List Entry) (under over : ℕ) (fs : List Entry) → base ≡ under → version ≡ over → es ≡ fs → Covers q under over fs → Covers q base version es
Covers-as q base version es under over fs a b e x = rw (a, b, e) x

-- the version over a base is there
pub own_there : (p : Parts) (d : Durable) → keep_rules p ≡ true → SpacesStand p d → (base version : ℕ) (es : List Entry) → Owns p d base version es → is_some (version_of p.versions version) ≡ true
own_there p d rules stand base version es (Own n w r found recorded) = there_of p d rules stand _ _ _ _ (Newest w found)
own_there p d rules stand base version es (KeptOwn n making w k x found made saved based) = there_of p d rules stand _ _ _ _ (Kept making w k x found made saved)

-- what is own was own before, and covers and ends as it did, or does so now
pub OwnsStand-kept : (p q : Parts) (d e : Durable) → OwnsStand p d
    → ((base version : ℕ) (es : List Entry) → Owns q e base version es → (Owns p d base version es × (Covers p base version es → Covers q base version es)) ⊎ Covers q base version es)
    → ((n making : ℕ) (w : Workspace) (k : Savepoint) → workspace_of e.spaces n ≡ Some w → savepoint_made making w.savepoints ≡ Some k → k.rebases ≤ w.rebases) → OwnsStand q e
OwnsStand-kept p q d e before each past = record {
  covers = λ base version es x. ⊎_elim (λ (h : Owns p d base version es × (Covers p base version es → Covers q base version es)). h.1 (before.covers base version es h.0)) (λ (h : Covers q base version es). h) (each base version es x);
  past = past;
}

-- ---- where no savepoint and no workspace is new

-- a workspace is one of before, but for its own changes, its log and its fields
pub record Still (d : Durable) (n : ℕ) (w : Workspace) : Type 0 where
  pub old : Workspace
  pub is : workspace_of d.spaces n ≡ Some old
  pub parent : w.parent ≡ old.parent
  pub savepoints : w.savepoints ≡ old.savepoints
  pub rebases : w.rebases ≡ old.rebases
  pub turns : w.turns ≡ old.turns
  pub base : w.lists.base ≡ old.lists.base

-- its record names the versions that it named
pub record StillNames (p : Parts) (n : ℕ) (r : Space) : Type 0 where
  pub old : Space
  pub is : space_of p.spaces n ≡ Some old
  pub birth : r.birth_version ≡ old.birth_version
  pub base : r.base_version ≡ old.base_version

-- so it is of each
pub record Framed (p q : Parts) (d e : Durable) : Type 0 where
  pub savepoints : q.savepoints ≡ p.savepoints
  pub still : (n : ℕ) (w : Workspace) → workspace_of e.spaces n ≡ Some w → Still d n w
  pub names : (n : ℕ) (r : Space) → space_of q.spaces n ≡ Some r → StillNames p n r

-- where workspaces and their records are those of before
pub framed_same : (p q : Parts) (d e : Durable) → q.savepoints ≡ p.savepoints → q.spaces ≡ p.spaces → e.spaces ≡ d.spaces → Framed p q d e
framed_same p q d e savepoints recorded same = record {
  savepoints = savepoints;
  still = λ n w is. record { old = w; is = ap (λ ws. workspace_of ws n) (sym same) ∙ is; parent = refl; savepoints = refl; rebases = refl; turns = refl; base = refl };
  names = λ n r is. record { old = r; is = ap (λ rs. space_of rs n) (sym recorded) ∙ is; birth = refl; base = refl };
}

-- the newest version of a workspace
pub record IsNewest (q : Parts) (e : Durable) (v n r : ℕ) (es : List Entry) : Type 0 where
  pub now : Workspace
  pub is : workspace_of e.spaces n ≡ Some now
  pub version : v ≡ latest q n
  pub rebases : r ≡ now.rebases
  pub content : es ≡ content now

-- a version that is named before, and is not the newest one of a workspace: it is no free one
pub record IsMarked (p : Parts) (d : Durable) (v n r : ℕ) (es : List Entry) : Type 0 where
  pub named : Names p d v n r es
  pub free : (version : ℕ) → IsFree p version → (v == version) ≡ false

-- each version that is named is the newest of a workspace, or was named before
pub named_framed : (p q : Parts) (d e : Durable) → Framed p q d e → (v n r : ℕ) (es : List Entry) → Names q e v n r es → IsMarked p d v n r es ⊎ IsNewest q e v n r es
named_framed p q d e f v n r es (Newest w is) = inr (record { now = w; is = is; version = refl; rebases = refl; content = refl })
named_framed p q d e f v n r es (Kept making w k x is made saved) =
    let y = f.still n w is in
    let found : saved_as p n making ≡ Some x = rw (sym f.savepoints) saved in
    inl (record { named = Kept making y.old k x y.is (rw (sym y.savepoints) made) found; free = λ version free. free.kept n making x found })
named_framed p q d e f v n r es (Birth {n = i} w a t some is recorded turn) =
    let y = f.still i w is in
    let z = f.names i a recorded in
    inl (record {
      named = Named-as p d _ _ _ _ _ _ _ _ z.birth y.parent refl refl (Birth y.old z.old t some y.is z.is (rw (sym y.turns) turn));
      free = λ version free. ap (λ k. k == version) z.birth ∙ free.births i z.old some z.is;
    })
named_framed p q d e f v n r es (Base {n = i} w a t some is recorded turn) =
    let y = f.still i w is in
    let z = f.names i a recorded in
    inl (record {
      named = Named-as p d _ _ _ _ _ _ _ _ z.base y.parent refl refl (Base y.old z.old t some y.is z.is (rw (sym y.turns, sym y.rebases) turn));
      free = λ version free. ap (λ k. k == version) z.base ∙ free.bases i z.old some z.is;
    })
named_framed p q d e f v n r es (KeptBase {n = i} making w k x t some is made saved turn) =
    let y = f.still i w is in
    let found : saved_as p i making ≡ Some x = rw (sym f.savepoints) saved in
    inl (record {
      named = Named-as p d _ _ _ _ _ _ _ _ refl y.parent refl refl (KeptBase making y.old k x t some y.is (rw (sym y.savepoints) made) found (rw (sym y.turns) turn));
      free = λ version free. free.kept_bases i making x some found;
    })

-- what is own to a savepoint was so before, over a version that is no free one
pub record IsKeptOwn (p : Parts) (d : Durable) (base version : ℕ) (es : List Entry) : Type 0 where
  pub owned : Owns p d base version es
  pub free : (other : ℕ) → IsFree p other → (version == other) ≡ false

-- what is own to a workspace
pub record IsNewestOwn (p q : Parts) (e : Durable) (base version : ℕ) (es : List Entry) : Type 0 where
  pub number : ℕ
  pub now : Workspace
  pub is : workspace_of e.spaces number ≡ Some now
  pub old : Space
  pub recorded : space_of p.spaces number ≡ Some old
  pub under : base ≡ old.base_version
  pub over : version ≡ latest q number
  pub own : es ≡ now.lists.own

-- what is own is a savepoint's and was so before, or a workspace's
pub owns_framed : (p q : Parts) (d e : Durable) → Framed p q d e → (base version : ℕ) (es : List Entry) → Owns q e base version es → IsKeptOwn p d base version es ⊎ IsNewestOwn p q e base version es
owns_framed p q d e f base version es (Own n w r is recorded) =
    let z = f.names n r recorded in inr (record { number = n; now = w; is = is; old = z.old; recorded = z.is; under = z.base; over = refl; own = refl })
owns_framed p q d e f base version es (KeptOwn n making w k x is made saved based) =
    let y = f.still n w is in
    let found : saved_as p n making ≡ Some x = rw (sym f.savepoints) saved in
    inl (record { owned = KeptOwn n making y.old k x y.is (rw (sym y.savepoints) made) found (based ∙ y.rebases); free = λ other free. free.kept n making x found })

-- and no savepoint has more rebases than its workspace
pub past_framed : (p q : Parts) (d e : Durable) → Framed p q d e → OwnsStand p d → (n making : ℕ) (w : Workspace) (k : Savepoint) → workspace_of e.spaces n ≡ Some w → savepoint_made making w.savepoints ≡ Some k
    → k.rebases ≤ w.rebases
past_framed p q d e f stand n making w k is made =
    let y = f.still n w is in subst (λ (b : ℕ). k.rebases ≤ b) (sym y.rebases) (stand.past n making y.old k y.is (rw (sym y.savepoints) made))
