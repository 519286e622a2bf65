-- A workspace was rebased: what is looked up then, and the fields of the records. RebasingNamed and RebasingStands have the clauses on
-- what is held.
use Rattle.std.proofs.Common.{◌≡◌, ◌≢◌, ℕ, zero, suc, ◌+◌, ◌<◌, ◌≤◌, ◌==◌, nat_lt, Bool, true, false, ◌&&◌, cond, if◌then◌else◌, List, [], ◌∷◌, ◌++◌, length, Option, Some, None, is_some, refl, sym, ap, ◌∙◌, ◌⊎◌, inl, inr, arith}
use Rattle.std.proofs.lemmas.Bool.{cases_eq, eq-eqb, ne_eqb, and_parts, true≢false}
use Rattle.std.proofs.lemmas.Option.{same_Some}
use Rattle.std.specs.List.{slice_get}
use Rattle.std.specs.Option.{option_map, option_or}
use Rattle.std.specs.Str.{bytes_eq}
use Rattle.wm_base.proofs.Plain.{none_some, nonzero}
use Rattle.wm_graph.specs.Parts.{Parts, space_of}
use Rattle.wm_graph.specs.Rules.{is_placed, is_short, is_space, keep_rules, live}
use Rattle.wm_spec.specs.declared.record.piece.PieceRecord.{PieceRecord}
use Rattle.wm_spec.specs.declared.record.space.Space.{Space}
use Rattle.wm_state.specs.State.{Durable, Workspace, savepoints_of, turn_of, with_space, workspace_of}
use Rattle.wm_state.specs.Standing.{CountersStand, FieldsStand, SpaceFields, SpacesStand, TurnsStand, by_number, fields_in, fields_of, latest}
use Rattle.wm_state.proofs.Apart.{found-passes}
use Rattle.wm_state.proofs.Changing.{WasChanged, told_still, was_changed, workspace_of-changed}
use Rattle.wm_state.proofs.Climbing.{recorded_of}
use Rattle.wm_state.proofs.Frames.{OnceStand-changed, SavepointsStand-same, savepoints_of-found, savepoints_of-none}
use Rattle.wm_state.proofs.Named.{space_number}
use Rattle.wm_state.proofs.Spaces.{ruled_spaces, space_there}
use Rattle.wm_rebased.specs.Rebasing.{IsRebase, RebasedTo, rebased_on}
use Rattle.wm_state.specs.Editing.{rebased, turn_on}

-- ---- one more behind a list

pub slice_get-push : {A : Type 0} (xs : List A) (x : A) (i : ℕ) → slice_get (xs ++ x ∷ []) i ≡ option_or (slice_get xs i) (cond (i == length xs) (Some x) None)
slice_get-push [] x zero = refl
slice_get-push [] x (suc i) = rw (not_zero i) refl
  where
    not_zero : (k : ℕ) → (suc k == 0) ≡ false
    not_zero k = grind arith
slice_get-push (y ∷ ys) x zero = refl
slice_get-push {A = A} (y ∷ ys) x (suc i) = slice_get-push ys x i ∙ ap more (one_less i (length ys))
  where
    more : Bool → Option A
    more c = option_or (slice_get ys i) (cond c (Some x) None)

    one_less : (k l : ℕ) → (k == l) ≡ (suc k == suc l)
    one_less k l = grind arith

-- what was at a place is there still
pub slice_get-front : {A : Type 0} (xs : List A) (x : A) (i : ℕ) (y : A) → slice_get xs i ≡ Some y → slice_get (xs ++ x ∷ []) i ≡ Some y
slice_get-front xs x i y is = slice_get-push xs x i ∙ ap (λ o. option_or o (cond (i == length xs) (Some x) None)) is

-- what is at a place that the list has was there
pub slice_get-before : {A : Type 0} (xs : List A) (x : A) (i : ℕ) → i < length xs → slice_get (xs ++ x ∷ []) i ≡ slice_get xs i
slice_get-before {A = A} xs x i lt = slice_get-push xs x i ∙ ap (λ b. option_or (slice_get xs i) (cond b (Some x) None)) (ne_eqb i (length xs) (λ same. omega (arith, lt, same))) ∙ or-none (slice_get xs i)
  where
    or-none : (o : Option A) → option_or o (cond false (Some x) None) ≡ o
    or-none None = refl
    or-none (Some a) = refl

-- and behind it is the one more
pub slice_get-behind : {A : Type 0} (xs : List A) (x : A) → slice_get (xs ++ x ∷ []) (length xs) ≡ Some x
slice_get-behind [] x = refl
slice_get-behind (y ∷ ys) x = slice_get-behind ys x

-- ---- a workspace of after, by what it was before

pub record WasRebased (n : ℕ) (emptied : Bool) (parent : Workspace) (ws : List Workspace) (m : ℕ) (new : Workspace) : Type 0 where
  pub old : Workspace
  pub is : workspace_of ws m ≡ Some old
  pub parent_is : new.parent ≡ old.parent
  pub savepoints : new.savepoints ≡ old.savepoints
  pub place : new.next_place ≡ old.next_place
  pub log : new.lists.log ≡ old.lists.log
  pub how : ((m ≡ n) × (new ≡ rebased emptied parent old)) ⊎ ((m ≢ n) × (new ≡ old))

was_rebased : (n : ℕ) (emptied : Bool) (parent : Workspace) (ws : List Workspace) (m : ℕ) (new : Workspace) → workspace_of (with_space n (rebased emptied parent) ws) m ≡ Some new → WasRebased n emptied parent ws m new
was_rebased n emptied parent ws m new is = by_case (was_changed n (rebased emptied parent) (λ w. refl) ws m new is)
  where
    by_case : WasChanged n (rebased emptied parent) ws m new → WasRebased n emptied parent ws m new
    by_case x = record {
      old = x.old;
      is = x.is;
      parent_is = told_still n (rebased emptied parent) ws m new (λ (w : Workspace). w.parent) (λ w. refl) x;
      savepoints = told_still n (rebased emptied parent) ws m new (λ (w : Workspace). w.savepoints) (λ w. refl) x;
      place = told_still n (rebased emptied parent) ws m new (λ (w : Workspace). w.next_place) (λ w. refl) x;
      log = told_still n (rebased emptied parent) ws m new (λ (w : Workspace). w.lists.log) (λ w. refl) x;
      how = x.how;
    }

-- the record of a workspace of after, by what it was before
pub record WasSpace (p : Parts) (n version : ℕ) (m : ℕ) (new : Space) : Type 0 where
  pub old : Space
  pub is : space_of p.spaces m ≡ Some old
  pub birth : new.birth_version ≡ old.birth_version
  pub base : ((m ≡ n) × (new.base_version ≡ version)) ⊎ ((m ≢ n) × (new.base_version ≡ old.base_version))

-- fields with another from and another count of rebases
abbrev based_at : ℕ → ℕ → SpaceFields → SpaceFields
based_at from rebases f = record f { from = from; rebases = rebases }

module _ (p q : Parts) (s t : Durable) (n number : ℕ) (emptied : Bool) (a b : Space) (news : List PieceRecord) (w pw : Workspace) (v : RebasedTo p q n number emptied a b news) (g : IsRebase s n w pw) (there : SpacesStand p s)
    (spaces : t.spaces ≡ with_space n (rebased emptied pw) s.spaces) where
  -- ---- the workspace, its parent and their records

  pub recorded_here : fields_of a ≡ fields_in w
  recorded_here = let r = recorded_of p s there n w g.found in ap fields_of (same_Some a r.space (sym v.old ∙ r.found)) ∙ r.fields

  pub same_parent : a.parent ≡ w.parent
  same_parent = ap (λ (f : SpaceFields). f.parent) recorded_here

  pub recorded_parent : fields_of b ≡ fields_in pw
  recorded_parent = let r = recorded_of p s there w.parent pw g.parent in ap fields_of (same_Some b r.space (sym v.parent ∙ ap (space_of p.spaces) same_parent ∙ r.found)) ∙ r.fields

  -- ---- workspaces

  pub found_here : workspace_of t.spaces n ≡ Some (rebased emptied pw w)
  found_here =
      ap (λ ws. workspace_of ws n) spaces
      ∙ workspace_of-changed n (rebased emptied pw) (λ o. refl) s.spaces n
      ∙ ap (λ c. cond c (option_map (rebased emptied pw) (workspace_of s.spaces n)) (workspace_of s.spaces n)) (eq-eqb n n refl)
      ∙ ap (option_map (rebased emptied pw)) g.found

  pub found_away : (m : ℕ) → m ≢ n → workspace_of t.spaces m ≡ workspace_of s.spaces m
  found_away m away =
      ap (λ ws. workspace_of ws m) spaces
      ∙ workspace_of-changed n (rebased emptied pw) (λ o. refl) s.spaces m
      ∙ ap (λ c. cond c (option_map (rebased emptied pw) (workspace_of s.spaces m)) (workspace_of s.spaces m)) (ne_eqb _ _ away)

  pub before : (m : ℕ) (new : Workspace) → workspace_of t.spaces m ≡ Some new → WasRebased n emptied pw s.spaces m new
  before m new is = was_rebased n emptied pw s.spaces m new (ap (λ ws. workspace_of ws m) (sym spaces) ∙ is)

  -- the one that was rebased is the one
  pub old_here : (m : ℕ) (old : Workspace) → workspace_of s.spaces m ≡ Some old → m ≡ n → old ≡ w
  old_here m old is here = same_Some old w (sym is ∙ ap (workspace_of s.spaces) here ∙ g.found)

  pub new_here : (m : ℕ) (new : Workspace) → workspace_of t.spaces m ≡ Some new → m ≡ n → new ≡ rebased emptied pw w
  new_here m new is here = same_Some new (rebased emptied pw w) (sym is ∙ ap (workspace_of t.spaces) here ∙ found_here)

  -- ---- turns

  -- there is one for the birth and one for each rebase
  pub turns_many : TurnsStand p s → length w.turns ≡ w.rebases + 1
  turns_many turns = turns.counted n w v.child g.found

  -- the new one is behind them, and what was taken is taken still
  pub turn_new : TurnsStand p s → turn_of (rebased emptied pw w) (w.rebases + 1) ≡ Some (turn_on pw)
  turn_new turns = ap (slice_get (w.turns ++ turn_on pw ∷ [])) (sym (turns_many turns)) ∙ slice_get-behind w.turns (turn_on pw)

  pub turn_before : TurnsStand p s → (i : ℕ) → i ≤ w.rebases → turn_of (rebased emptied pw w) i ≡ turn_of w i
  turn_before turns i le = slice_get-before w.turns (turn_on pw) i (below i w.rebases (length w.turns) le (turns_many turns))
    where
      below : (k r l : ℕ) → k ≤ r → l ≡ r + 1 → k < l
      below k r l le is = omega (arith, le, is)

  -- ---- records of workspaces

  pub space_before : (m : ℕ) (new : Space) → space_of q.spaces m ≡ Some new → WasSpace p n (latest p a.parent) m new
  space_before m new is = by_number (cases_eq m n)
    where
      by_number : (m ≡ n) ⊎ (m ≢ n) → WasSpace p n (latest p a.parent) m new
      by_number (inl here) =
          let same = same_Some new (rebased_on (latest p a.parent) b.log_length a) (sym is ∙ ap (space_of q.spaces) here ∙ v.here) in
          record { old = a; is = ap (space_of p.spaces) here ∙ v.old; birth = ap (λ (c : Space). c.birth_version) same; base = inl (here, ap (λ (c : Space). c.base_version) same) }
      by_number (inr away) = record { old = new; is = sym (v.elsewhere m (ne_eqb _ _ away)) ∙ is; birth = refl; base = inr (away, refl) }

  pub base_here : (m : ℕ) (new : Space) → m ≡ n → WasSpace p n (latest p a.parent) m new → new.base_version ≡ latest p a.parent
  base_here m new here y = by_base y.base
    where
      by_base : ((m ≡ n) × (new.base_version ≡ latest p a.parent)) ⊎ ((m ≢ n) × (new.base_version ≡ y.old.base_version)) → new.base_version ≡ latest p a.parent
      by_base (inl h) = h.1
      by_base (inr h) = absurd (h.0 here)

  pub base_away : (m : ℕ) (new : Space) → m ≢ n → (y : WasSpace p n (latest p a.parent) m new) → new.base_version ≡ y.old.base_version
  base_away m new away y = by_base y.base
    where
      by_base : ((m ≡ n) × (new.base_version ≡ latest p a.parent)) ⊎ ((m ≢ n) × (new.base_version ≡ y.old.base_version)) → new.base_version ≡ y.old.base_version
      by_base (inl h) = absurd (away h.0)
      by_base (inr h) = h.1

  -- ---- the fields

  SpacesStand-rebased : SpacesStand q t
  SpacesStand-rebased = record { same = λ m. by_number m (cases_eq m n) }
    where
      -- the record and the workspace have the fields of before, but for two
      here_is : Some (fields_of (rebased_on (latest p a.parent) b.log_length a)) ≡ Some (fields_in (rebased emptied pw w))
      here_is = ap Some
          (ap (based_at b.log_length (a.rebases + 1)) recorded_here
          ∙ ap (λ i. based_at i (a.rebases + 1) (fields_in w)) (ap (λ (f : SpaceFields). f.log_length) recorded_parent)
          ∙ ap (λ i. based_at (length pw.lists.log) (i + 1) (fields_in w)) (ap (λ (f : SpaceFields). f.rebases) recorded_here))

      by_number : (m : ℕ) → (m ≡ n) ⊎ (m ≢ n) → option_map fields_of (space_of q.spaces m) ≡ option_map fields_in (workspace_of t.spaces m)
      by_number m (inl here) =
          ap (λ i. option_map fields_of (space_of q.spaces i)) here ∙ ap (option_map fields_of) v.here ∙ here_is ∙ ap (option_map fields_in) (sym found_here) ∙ ap (λ i. option_map fields_in (workspace_of t.spaces i)) (sym here)
      by_number m (inr away) = ap (option_map fields_of) (v.elsewhere m (ne_eqb _ _ away)) ∙ there.same m ∙ ap (option_map fields_in) (sym (found_away m away))

  -- each workspace has the savepoints that it had
  points_same : (m : ℕ) → savepoints_of t.spaces m ≡ savepoints_of s.spaces m
  points_same m = by_new (workspace_of t.spaces m) refl
    where
      by_old : workspace_of t.spaces m ≡ None → (o : Option Workspace) → workspace_of s.spaces m ≡ o → savepoints_of t.spaces m ≡ savepoints_of s.spaces m
      by_old none None found = savepoints_of-none t.spaces m none ∙ sym (savepoints_of-none s.spaces m found)
      by_old none (Some old) found = absurd (by_number (cases_eq m n))
        where
          by_number : (m ≡ n) ⊎ (m ≢ n) → ⊥
          by_number (inl here) = none_some (workspace_of t.spaces m) (rebased emptied pw w) none (ap (workspace_of t.spaces) here ∙ found_here)
          by_number (inr away) = none_some (workspace_of t.spaces m) old none (found_away m away ∙ found)

      by_new : (o : Option Workspace) → workspace_of t.spaces m ≡ o → savepoints_of t.spaces m ≡ savepoints_of s.spaces m
      by_new None none = by_old none (workspace_of s.spaces m) refl
      by_new (Some new) is = let y = before m new is in savepoints_of-found t.spaces m new is ∙ y.savepoints ∙ sym (savepoints_of-found s.spaces m y.old y.is)

-- ---- the records agree with the state

pub FieldsStand-rebased : (p q : Parts) (s t : Durable) (n number : ℕ) (emptied : Bool) (a b : Space) (news : List PieceRecord) (w pw : Workspace) → RebasedTo p q n number emptied a b news → IsRebase s n w pw → FieldsStand p s
    → t.spaces ≡ with_space n (rebased emptied pw) s.spaces → t.tables ≡ s.tables → CountersStand q t → FieldsStand q t
FieldsStand-rebased p q s t n number emptied a b news w pw v g st spaces tables counters = record {
  counters = counters;
  tables = record { same = ap (λ (z : Parts). by_number z.tables) v.rest ∙ st.tables.same ∙ sym tables };
  spaces = SpacesStand-rebased p q s t n number emptied a b news w pw v g st.spaces spaces;
  once = OnceStand-changed p q s t n (rebased emptied pw) (λ o. refl) spaces v.count st.once;
  savepoints = SavepointsStand-same p q s t (ap (λ (z : Parts). z.savepoints) v.rest) (points_same p q s t n number emptied a b news w pw v g st.spaces spaces) st.savepoints;
}

-- ---- what is asked, told by records

-- where the records of a workspace and of its parent are there, both are there in each state with which the records agree
pub record Based (d : Durable) (n : ℕ) : Type 0 where
  pub workspace : Workspace
  pub parent : Workspace
  pub is : IsRebase d n workspace parent

pub based_there : (p : Parts) (s : Durable) (n : ℕ) (a b : Space) → SpacesStand p s → space_of p.spaces n ≡ Some a → space_of p.spaces a.parent ≡ Some b → Based s n
based_there p s n a b there old parent =
    let w = space_there p s n a there old in
    let u = space_there p s a.parent b there parent in
    record {
      workspace = w.workspace;
      parent = u.workspace;
      is = record { found = w.is.found; parent = ap (workspace_of s.spaces) (ap (λ (f : SpaceFields). f.parent) (sym w.is.fields)) ∙ u.is.found };
    }

-- the parent of a workspace other than LIVE has a record
pub parent_recorded : (p : Parts) → keep_rules p ≡ true → (n : ℕ) (a : Space) → 0 < n → space_of p.spaces n ≡ Some a → is_some (space_of p.spaces a.parent) ≡ true
parent_recorded p rules n a child found = by_live (a.number == 0) (ap (λ k. k == 0) (space_number p n a found) ∙ nonzero n child) placed
  where
    placed : is_placed (space_of p.spaces) a ≡ true
    placed =
        let w = found-passes (λ (x : Space). x.number == n) (is_space (space_of p.spaces)) p.spaces a found (ruled_spaces p rules).each in
        (and_parts (is_placed (space_of p.spaces) a) (is_short a.name && is_short a.writer) (and_parts (is_placed (space_of p.spaces) a && (is_short a.name && is_short a.writer)) _ w.1).0).0

    by_live : (b : Bool) → b ≡ false → (if b then bytes_eq a.name live else nat_lt a.parent a.number && is_some (space_of p.spaces a.parent)) ≡ true → is_some (space_of p.spaces a.parent) ≡ true
    by_live true is_live is = absurd (true≢false is_live)
    by_live false is_live is = (and_parts (nat_lt a.parent a.number) (is_some (space_of p.spaces a.parent)) is).1
