-- Lawful workspaces of which one goes on, and with one more.
use Rattle.std.proofs.Common.{◌≡◌, ◌≢◌, ℕ, ◌<◌, ◌≤◌, ◌==◌, Bool, true, false, cond, List, [], ◌∷◌, ◌++◌, length, Option, Some, None, is_some, refl, sym, ap, ◌∙◌, subst, arith, length-append, ◌⊎◌, inl, inr, le_refl, append-nil, slice_get}
use Rattle.std.proofs.lemmas.Bool.{cases_eq, eqb-true, eq-eqb, ne_eqb}
use Rattle.std.proofs.lemmas.Option.{same_Some}
use Rattle.std.specs.List.{find}
use Rattle.std.specs.Str.{bytes_eq}
use Rattle.wm_graph.specs.Rules.{differ}
use Rattle.wm_spec.specs.Lists.{Entry, Alike}
use Rattle.wm_state.specs.Editing.{child_of, turn_at_birth}
use Rattle.wm_state.specs.State.{Savepoint, Session, Stand, Latest, At, Dated, Turn, Workspace, next_space, savepoint_made, turn_of, with_entries, with_savepoint, with_space, workspace_named, workspace_of}
use Rattle.wm_state.proofs.Changing.{workspace_of-changed}
use Rattle.wm_state.proofs.Mapped.{find-again, find-passes, none-found}
use Rattle.wm_state.proofs.Tests.{differ_push, find_push}
use Rattle.wm_model.specs.Lawful.{Based, IsAt, IsPlace, LawfulMark, LawfulSpace, LawfulSpaces, Seats, one_number, point}
use Rattle.wm_model.proofs.Lawful.Lists.{found_either, one_turn}
use Rattle.wm_net.proofs.Merging.{point_longer}

-- ---- what is found

pub number_is : (ws : List Workspace) (n : ℕ) (w : Workspace) → workspace_of ws n ≡ Some w → w.number ≡ n
number_is ws n w found = eqb-true w.number n (find-passes (λ (v : Workspace). v.number == n) ws w found)

-- what a name finds, its number finds
pub numbered : (ws : List Workspace) (name : List ℕ) (w : Workspace) → LawfulSpaces ws → workspace_named name ws ≡ Some w → workspace_of ws w.number ≡ Some w
numbered ws name w l named = find-again one_number (λ v. eq-eqb v.number v.number refl) (λ (v : Workspace). bytes_eq name v.name) ws w l.once named

-- what a number finds, its own number finds
pub at_its_number : (ws : List Workspace) (n : ℕ) (w : Workspace) → workspace_of ws n ≡ Some w → workspace_of ws w.number ≡ Some w
at_its_number ws n w found = ap (workspace_of ws) (number_is ws n w found) ∙ found

-- each has a smaller number than the next one
pub under : (ws : List Workspace) (n : ℕ) (w : Workspace) → workspace_of ws n ≡ Some w → w.number < next_space ws
under [] n w found = absurd (cc)
under (v ∷ ws) n w found = by_test (v.number == n) found (under ws n w)
  where
    by_test : (b : Bool) → cond b (Some v) (workspace_of ws n) ≡ Some w → (workspace_of ws n ≡ Some w → w.number < next_space ws) → w.number < next_space (v ∷ ws)
    by_test true h rest = let same : v.number ≡ w.number = ap (λ (x : Workspace). x.number) (same_Some v w h) in omega (arith, same)
    by_test false h rest = let less : w.number < next_space ws = rest h in omega (arith, less)

pub none_at : (ws : List Workspace) → workspace_of ws (next_space ws) ≡ None
none_at ws = by_found (workspace_of ws (next_space ws)) refl
  where
    by_found : (o : Option Workspace) → workspace_of ws (next_space ws) ≡ o → o ≡ None
    by_found None is = refl
    by_found (Some w) is = absurd (omega (arith, under ws (next_space ws) w is, number_is ws (next_space ws) w is))

-- ---- a workspace goes on

-- its log only grows, no savepoint goes, and it stands on its parent as before
pub record Goes (w v : Workspace) : Type 0 where
  pub number : v.number ≡ w.number
  pub parent : v.parent ≡ w.parent
  pub from : v.from ≡ w.from
  pub rebases : v.rebases ≡ w.rebases
  pub turns : v.turns ≡ w.turns
  pub first : v.lists.at_birth ≡ w.lists.at_birth
  pub more : List Entry
  pub log : v.lists.log ≡ w.lists.log ++ more
  pub marks : (making : ℕ) → is_some (savepoint_made making w.savepoints) ≡ true → is_some (savepoint_made making v.savepoints) ≡ true

pub goes_appended : (es : List Entry) (w : Workspace) → Goes w (with_entries es w)
goes_appended es w = record { number = refl; parent = refl; from = refl; rebases = refl; turns = refl; first = refl; more = es; log = refl; marks = λ making there. there }

pub goes_saved : (place implicit : ℕ) (k : Savepoint) (w : Workspace) → Goes w (with_savepoint place implicit k w)
goes_saved place implicit k w = record {
  number = refl;
  parent = refl;
  from = refl;
  rebases = refl;
  turns = refl;
  first = refl;
  more = [];
  log = sym (append-nil w.lists.log);
  marks = λ making there. stays (λ (x : Savepoint). x.making == making) (find (λ (x : Savepoint). x.making == making) w.savepoints) refl there;
}
  where
    stays : (P : Savepoint → Bool) (o : Option Savepoint) → find P w.savepoints ≡ o → is_some o ≡ true → is_some (find P (w.savepoints ++ k ∷ [])) ≡ true
    stays P None is there = absurd (cc)
    stays P (Some x) is there = ap (λ (o : Option Savepoint). is_some o) (find_push P w.savepoints k x is)

-- of one number another workspace is found than before, and of each other one the same
pub record Swapped (ws vs : List Workspace) (n : ℕ) (w v : Workspace) : Type 0 where
  pub was : workspace_of ws n ≡ Some w
  pub now : workspace_of vs n ≡ Some v
  pub others : (m : ℕ) → m ≢ n → workspace_of vs m ≡ workspace_of ws m

pub swapped : (ws : List Workspace) (n : ℕ) (act : Workspace → Workspace) (w : Workspace) → ((x : Workspace) → (act x).number ≡ x.number) → workspace_of ws n ≡ Some w → Swapped ws (with_space n act ws) n w (act w)
swapped ws n act w same found = record {
  was = found;
  now = workspace_of-changed n act same ws n ∙ rw (eq-eqb n n refl, found) refl;
  others = λ m other. workspace_of-changed n act same ws m ∙ rw (ne_eqb m n other) refl;
}

pub found_swapped : (ws vs : List Workspace) (n : ℕ) (w v : Workspace) → Swapped ws vs n w v → (m : ℕ) (x : Workspace) → workspace_of vs m ≡ Some x → ((m ≡ n) × (x ≡ v)) ⊎ ((m ≢ n) × (workspace_of ws m ≡ Some x))
found_swapped ws vs n w v k m x found = by_number (cases_eq m n)
  where
    by_number : (m ≡ n) ⊎ (m ≢ n) → ((m ≡ n) × (x ≡ v)) ⊎ ((m ≢ n) × (workspace_of ws m ≡ Some x))
    by_number (inl here) = inl (here, same_Some x v (sym found ∙ ap (workspace_of vs) here ∙ k.now))
    by_number (inr other) = inr (other, sym (k.others m other) ∙ found)

-- a workspace becomes another one of its number: what its children took of it is in the log of both, they are alike at each length that
-- both logs have, and it was rebased no less often
pub record Becomes (ws vs : List Workspace) (n : ℕ) (w v : Workspace) : Type 0 where
  pub swap : Swapped ws vs n w v
  pub rebases : w.rebases ≤ v.rebases
  pub children : (m : ℕ) (x : Workspace) → 0 < m → workspace_of ws m ≡ Some x → x.parent ≡ n → x.from ≤ length v.lists.log
  pub points : (i : ℕ) → i ≤ length w.lists.log → i ≤ length v.lists.log → point v i ≡ point w i

-- what stands on its parent before stands on it after
based_become : (ws vs : List Workspace) (n : ℕ) (w v x y : Workspace) → Becomes ws vs n w v → (x.parent ≡ n → x.from ≤ length v.lists.log) → y.number ≡ x.number → y.parent ≡ x.parent → y.from ≡ x.from → y.turns ≡ x.turns → Based ws x → Based vs y
based_become ws vs n w v x y k child number parent from turns b = by_parent (cases_eq x.parent n)
  where
    turn : (i : ℕ) (t : Turn) → turn_of y i ≡ Some t → turn_of x i ≡ Some t
    turn i t found = ap (λ (ts : List Turn). slice_get ts i) (sym turns) ∙ found

    older : y.parent < y.number
    older = rw (parent, number) b.older

    by_parent : (x.parent ≡ n) ⊎ (x.parent ≢ n) → Based vs y
    by_parent (inr other) = record {
      parent = b.parent;
      is = rw parent (k.swap.others x.parent other ∙ b.is);
      older = older;
      within = rw from b.within;
      before = λ i t found. rw from (b.before i t (turn i t found));
      alike = λ i t found. b.alike i t (turn i t found);
    }
    by_parent (inl here) =
        let same : b.parent ≡ w = same_Some b.parent w (sym b.is ∙ ap (workspace_of ws) here ∙ k.swap.was) in
        let log : length b.parent.lists.log ≡ length w.lists.log = ap (λ (u : Workspace). length u.lists.log) same in
        let within : x.from ≤ length v.lists.log = child here in
        record {
          parent = v;
          is = rw (parent, here) k.swap.now;
          older = older;
          within = rw from within;
          before = λ i t found.
              let old = b.before i t (turn i t found) in
              (rw from old.0, omega (arith, old.1, k.rebases, ap (λ (u : Workspace). u.rebases) same));
          alike = λ i t found.
              let old = b.alike i t (turn i t found) in
              let upto : t.log_length ≤ x.from = (b.before i t (turn i t found)).0 in
              subst (Alike t.content) (ap (λ (u : Workspace). point u t.log_length) same ∙ sym (k.points t.log_length (omega (arith, upto, log, b.within)) (omega (arith, upto, within)))) old;
        }

-- the one that becomes another, where it stands on its parent as it did
pub based_as_before : (ws vs : List Workspace) (n : ℕ) (w v : Workspace) → LawfulSpaces ws → Becomes ws vs n w v → v.number ≡ w.number → v.parent ≡ w.parent → v.from ≡ w.from → v.turns ≡ w.turns → 0 < n → Based vs v
based_as_before ws vs n w v l k number parent from turns above = based_become ws vs n w v w v k (k.children n w above k.swap.was) number parent from turns (l.bases n w above k.swap.was)

pub spaces_become : (ws vs : List Workspace) (n : ℕ) (w v : Workspace) → LawfulSpaces ws → Becomes ws vs n w v → differ one_number vs ≡ true → LawfulSpace v → (0 < n → Based vs v) → LawfulSpaces vs
spaces_become ws vs n w v l k once lawful based = record {
  live = live (cases_eq 0 n);
  once = once;
  each = λ m x found. each m x (found_swapped ws vs n w v k.swap m x found);
  bases = λ m x above found. bases m x above (found_swapped ws vs n w v k.swap m x found);
}
  where
    live : (0 ≡ n) ⊎ (0 ≢ n) → is_some (workspace_of vs 0) ≡ true
    live (inl here) = rw (here, k.swap.now) refl
    live (inr other) = rw (k.swap.others 0 other) l.live

    each : (m : ℕ) (x : Workspace) → ((m ≡ n) × (x ≡ v)) ⊎ ((m ≢ n) × (workspace_of ws m ≡ Some x)) → LawfulSpace x
    each m x (inl here) = subst LawfulSpace (sym here.1) lawful
    each m x (inr other) = l.each m x other.1

    bases : (m : ℕ) (x : Workspace) → 0 < m → ((m ≡ n) × (x ≡ v)) ⊎ ((m ≢ n) × (workspace_of ws m ≡ Some x)) → Based vs x
    bases m x above (inl here) = subst (Based vs) (sym here.1) (based (omega (arith, above, here.0)))
    bases m x above (inr other) = based_become ws vs n w v x x k (k.children m x above other.1) refl refl refl refl (l.bases m x above other.1)

-- what is found by a number before is found after, but for the one that goes on
pub record Kept (ws vs : List Workspace) (n : ℕ) (w v : Workspace) : Type 0 where
  pub swap : Swapped ws vs n w v
  pub goes : Goes w v

pub changed : (ws : List Workspace) (n : ℕ) (act : Workspace → Workspace) (w : Workspace) → ((x : Workspace) → (act x).number ≡ x.number) → workspace_of ws n ≡ Some w → Goes w (act w) → Kept ws (with_space n act ws) n w (act w)
changed ws n act w same found goes = record { swap = swapped ws n act w same found; goes = goes }

kept_becomes : (ws vs : List Workspace) (n : ℕ) (w v : Workspace) → LawfulSpaces ws → Kept ws vs n w v → Becomes ws vs n w v
kept_becomes ws vs n w v l k = record {
  swap = k.swap;
  rebases = omega (arith, k.goes.rebases);
  children = λ m x above found here.
      let b = l.bases m x above found in
      let log : length b.parent.lists.log ≡ length w.lists.log = ap (λ (u : Workspace). length u.lists.log) (same_Some b.parent w (sym b.is ∙ ap (workspace_of ws) here ∙ k.swap.was)) in
      omega (arith, log, b.within, ap (λ (l : List Entry). length l) k.goes.log, length-append w.lists.log k.goes.more);
  points = λ i le under. rw (k.goes.first, k.goes.log) (point_longer w.lists.at_birth w.lists.log k.goes.more i le);
}

pub spaces_kept : (ws vs : List Workspace) (n : ℕ) (w v : Workspace) → LawfulSpaces ws → Kept ws vs n w v → differ one_number vs ≡ true → LawfulSpace v → LawfulSpaces vs
spaces_kept ws vs n w v l k once lawful =
    let b = kept_becomes ws vs n w v l k in
    spaces_become ws vs n w v l b once lawful (based_as_before ws vs n w v l b k.goes.number k.goes.parent k.goes.from k.goes.turns)

-- where one stands stays, where it does in the workspace that is another now
pub place_swapped : (ws vs : List Workspace) (n : ℕ) (w v : Workspace) (m : ℕ) (stand : Stand) → Swapped ws vs n w v → (m ≡ n → IsAt w stand → IsAt v stand) → IsPlace ws m stand → IsPlace vs m stand
place_swapped ws vs n w v m stand swap at p = by_number (cases_eq m n)
  where
    by_number : (m ≡ n) ⊎ (m ≢ n) → IsPlace vs m stand
    by_number (inl here) = record {
      space = v;
      is = rw here swap.now;
      stands = at here (subst (λ (x : Workspace). IsAt x stand) (same_Some p.space w (sym p.is ∙ ap (workspace_of ws) here ∙ swap.was)) p.stands);
    }
    by_number (inr other) = record { space = p.space; is = swap.others m other ∙ p.is; stands = p.stands }

-- where each session stands stays
pub seats_swapped : (ws vs : List Workspace) (n : ℕ) (w v : Workspace) → Swapped ws vs n w v → ((stand : Stand) → IsAt w stand → IsAt v stand) → (xs : List Session) → Seats ws xs → Seats vs xs
seats_swapped ws vs n w v swap at [] s = tt
seats_swapped ws vs n w v swap at (x ∷ xs) s = (place_swapped ws vs n w v x.space x.stand swap (λ here. at x.stand) s.0, seats_swapped ws vs n w v swap at xs s.1)

pub seats_kept : (ws vs : List Workspace) (n : ℕ) (w v : Workspace) (xs : List Session) → Kept ws vs n w v → Seats ws xs → Seats vs xs
seats_kept ws vs n w v xs k s = seats_swapped ws vs n w v k.swap at xs s
  where
    at : (stand : Stand) → IsAt w stand → IsAt v stand
    at Latest stood = tt
    at (Dated date) stood = tt
    at (At making) stood = k.goes.marks making stood

-- ---- a workspace more

found_more : (ws : List Workspace) (c : Workspace) (m : ℕ) (x : Workspace) → workspace_of ws m ≡ Some x → workspace_of (ws ++ c ∷ []) m ≡ Some x
found_more ws c m x found = find_push (λ (v : Workspace). v.number == m) ws c x found

based_more : (ws : List Workspace) (c x : Workspace) → Based ws x → Based (ws ++ c ∷ []) x
based_more ws c x b = record {
  parent = b.parent;
  is = found_more ws c x.parent b.parent b.is;
  older = b.older;
  within = b.within;
  before = b.before;
  alike = b.alike;
}

pub spaces_more : (ws : List Workspace) (c : Workspace) → LawfulSpaces ws → workspace_of ws c.number ≡ None → LawfulSpace c → Based ws c → LawfulSpaces (ws ++ c ∷ [])
spaces_more ws c l none lawful based = record {
  live = live (workspace_of ws 0) refl l.live;
  once = differ_push one_number ws c l.once (none-found (λ (v : Workspace). v.number == c.number) ws none);
  each = λ m x found. each m x (found_either (λ (v : Workspace). v.number == m) ws c x found);
  bases = λ m x above found. bases m x above (found_either (λ (v : Workspace). v.number == m) ws c x found);
}
  where
    live : (o : Option Workspace) → workspace_of ws 0 ≡ o → is_some o ≡ true → is_some (workspace_of (ws ++ c ∷ []) 0) ≡ true
    live None is there = absurd (cc)
    live (Some w) is there = ap (λ (o : Option Workspace). is_some o) (found_more ws c 0 w is)

    each : (m : ℕ) (x : Workspace) → (workspace_of ws m ≡ Some x) ⊎ (x ≡ c) → LawfulSpace x
    each m x (inl found) = l.each m x found
    each m x (inr new) = subst LawfulSpace (sym new) lawful

    bases : (m : ℕ) (x : Workspace) → 0 < m → (workspace_of ws m ≡ Some x) ⊎ (x ≡ c) → Based (ws ++ c ∷ []) x
    bases m x above (inl found) = based_more ws c x (l.bases m x above found)
    bases m x above (inr new) = subst (Based (ws ++ c ∷ [])) (sym new) (based_more ws c c based)

pub seats_more : (ws : List Workspace) (c : Workspace) (xs : List Session) → Seats ws xs → Seats (ws ++ c ∷ []) xs
seats_more ws c [] s = tt
seats_more ws c (x ∷ xs) s = (record { space = s.0.space; is = found_more ws c x.space s.0.space s.0.is; stands = s.0.stands }, seats_more ws c xs s.1)

-- one that is born at a savepoint of another stands on that one
pub child_based : (m : ℕ) (spaces vs : List Workspace) (w v : Workspace) (k : Savepoint) (name : List ℕ) → workspace_of vs w.number ≡ Some v → w.number < next_space spaces → LawfulMark v k → Based vs (child_of m spaces w k name)
child_based m spaces vs w v k name there older mark = record {
  parent = v;
  is = there;
  older = older;
  within = mark.within;
  before = λ i t found. subst (λ (u : Turn). (u.log_length ≤ k.log_length) × (u.rebases ≤ v.rebases)) (sym (one_turn (turn_at_birth k) t i found)) (le_refl k.log_length, mark.past);
  alike = λ i t found. subst (λ (u : Turn). Alike u.content (point v u.log_length)) (sym (one_turn (turn_at_birth k) t i found)) mark.alike;
}
