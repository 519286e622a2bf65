-- A workspace that goes back to one of its savepoints, and workspaces of which one goes, leave a lawful state.
use Rattle.std.proofs.Common.{◌≡◌, ◌≢◌, ℕ, zero, suc, ◌<◌, ◌≤◌, ◌==◌, Bool, true, false, not, ◌&&◌, ◌||◌, nat_le, nat_lt, if◌then◌else◌, List, [], ◌∷◌, ◌++◌, length, map, take, drop, unwrap_or, Option, Some, None, is_some, option_map, refl, sym, ap, ◌∙◌, append_assoc, subst, arith, ◌⊎◌, inl, inr, le_refl}
use Rattle.std.proofs.lemmas.Bool.{cases_eq, eq-eqb, eqb-true, leb-true, ne_eqb, and_parts, ltb-false, not-false, not-true, or_parts, true≢false}
use Rattle.std.proofs.lemmas.List.{append_cancel_right, drop-append-le, length-take-le, take-append-drop}
use Rattle.std.specs.List.{find, list_any}
use Rattle.std.specs.Option.{option_map_or}
use Rattle.wm_base.proofs.Plain.{and_last}
use Rattle.wm_base.specs.declared.refusal.Refusal.{Refusal}
use Rattle.wm_net.proofs.Merging.{point_cut}
use Rattle.wm_outline.specs.Outline.{outline, outline_in}
use Rattle.wm_print.specs.Texts.{Fine}
use Rattle.wm_spec.specs.Lists.{Entry}
use Rattle.wm_syntax.specs.declared.statement.Arg.{Arg}
use Rattle.wm_state.specs.Editing.{edited, is_other, restored, restored_in, stays_at, unlocked_of, without}
use Rattle.wm_state.specs.State.{Durable, Savepoint, Session, Stand, Latest, At, Dated, Workspace, savepoint_made, turn_of, with_space, workspace_of}
use Rattle.wm_state.specs.Standing.{SavepointFields, fields_saved}
use Rattle.wm_state.specs.declared.edit.Edit.TheVariants as edits
use Rattle.wm_state.proofs.Changing.{differ-changed}
use Rattle.wm_state.proofs.Frames.{savepoints_of-found}
use Rattle.wm_state.proofs.Mapped.{find-filter, find-passes}
use Rattle.wm_state.proofs.Tests.{differ_filter}
use Rattle.wm_model.specs.Lawful.{Based, Each, Holds, IsAt, IsPlace, IsSound, Lawful, LawfulMark, LawfulSpace, LawfulSpaces, LawfulState, Seats, one_number}
use Rattle.wm_model.specs.Seating.{Stay, planned, thawed}
use Rattle.wm_model.specs.Step.{Answer, State, dependent_child, depends, has_child, is_child, is_child_of, is_inside, is_still, no_parent, rebased_since, remove_plan, removing, rollback_plan, rolling, rolling_faults, run, session_inside, stands_behind, stays_behind, unless, would_go}
use Rattle.wm_model.proofs.Lawful.Entries.{all_swapped}
use Rattle.wm_model.proofs.Lawful.Firsts.{NoFaults, none_inside, none_outlined, none_refused, not_refused}
use Rattle.wm_model.proofs.Lawful.Leaves.{Keeps, Leaves, leaves_run, leaves_thawed, stays}
use Rattle.wm_model.proofs.Lawful.Plans.{keeping, planned_edit}
use Rattle.wm_model.proofs.Lawful.Lists.{found_both, found_mapped}
use Rattle.wm_model.proofs.Lawful.Spaces.{Becomes, Swapped, based_as_before, number_is, place_swapped, spaces_become, swapped}

-- ---- sessions that pass no test

-- where each session stands stays, where it does for each that fails a test, and all fail
seats_unless : (ws vs : List Workspace) (test : Session → Bool) → ((x : Session) → test x ≡ false → IsPlace ws x.space x.stand → IsPlace vs x.space x.stand) → (xs : List Session) → list_any test xs ≡ false → Seats ws xs → Seats vs xs
seats_unless ws vs test to [] none s = tt
seats_unless ws vs test to (x ∷ xs) none s = let h = or_parts (test x) (list_any test xs) none in (to x h.0 s.0, seats_unless ws vs test to xs h.1 s.1)

-- ---- back to a savepoint

-- what stays is no later, and had no more of the log
left_shorter : (k x : Savepoint) → stays_at k x ≡ true → x.log_length ≤ k.log_length
left_shorter k x stays = leb-true x.log_length k.log_length (and_parts (nat_le x.place k.place) (nat_le x.log_length k.log_length) stays).1

-- it is found by its test and by another one
found_left : (P : Savepoint → Bool) (w : Workspace) (k x : Savepoint) → find P (restored k w).savepoints ≡ Some x → find (λ y. stays_at k y && P y) w.savepoints ≡ Some x
found_left P w k x found = sym (find-filter (stays_at k) P w.savepoints) ∙ found

left_stays : (P : Savepoint → Bool) (w : Workspace) (k x : Savepoint) → find P (restored k w).savepoints ≡ Some x → stays_at k x ≡ true
left_stays P w k x found = (and_parts (stays_at k x) (P x) (find-passes (λ y. stays_at k y && P y) w.savepoints x (found_left P w k x found))).0

-- what was logged since a savepoint that stays, and behind the other one
logged_between : (n m : ℕ) (log : List Entry) → n ≤ m → m ≤ length log → drop n log ≡ drop n (take m log) ++ drop m log
logged_between n m log upto within =
    ap (drop n) (sym (take-append-drop m log)) ∙ drop-append-le n (take m log) (drop m log) (let cut : length (take m log) ≡ m = length-take-le m log within in omega (arith, upto, cut))

mark_cut : (w : Workspace) (k x : Savepoint) → LawfulMark w k → k.rebases ≡ w.rebases → x.log_length ≤ k.log_length → LawfulMark w x → LawfulMark (restored k w) x
mark_cut w k x m same under y = record {
  alike = rw (point_cut w.lists.at_birth w.lists.log x.log_length k.log_length under) y.alike;
  within = rw (length-take-le k.log_length w.lists.log m.within) under;
  past = y.past;
  place = y.place;
  turn = y.turn;
  base = λ e. (let a = y.base e in let b = m.base same in (a.0 ∙ sym b.0, a.1 ∙ sym b.1));
  since = λ e.
      append_cancel_right k.own (x.own ++ drop x.log_length (take k.log_length w.lists.log)) (drop k.log_length w.lists.log)
      (sym (m.since same) ∙ y.since e ∙ ap (λ (l : List Entry). x.own ++ l) (logged_between x.log_length k.log_length w.lists.log under m.within)
      ∙ sym (append_assoc x.own (drop x.log_length (take k.log_length w.lists.log)) (drop k.log_length w.lists.log)));
}

space_restored : (w : Workspace) (P : Savepoint → Bool) (k : Savepoint) → LawfulSpace w → find P w.savepoints ≡ Some k → k.rebases ≡ w.rebases → LawfulSpace (restored k w)
space_restored w P k l found same = let m = l.marks P k found in record {
  latest = m.alike;
  marks = λ Q x other. mark_cut w k x m same (left_shorter k x (left_stays Q w k x other)) (l.marks (λ y. stays_at k y && Q y) x (found_left Q w k x other));
  rises = λ Q R a b one other. l.rises (λ y. stays_at k y && Q y) (λ y. stays_at k y && R y) a b (found_left Q w k a one) (found_left R w k b other);
  made = λ Q x other. made x (left_stays Q w k x other) (l.made (λ y. stays_at k y && Q y) x (found_left Q w k x other));
  first = l.first;
  last = λ t turned. m.turn t (ap (turn_of w) same ∙ turned);
  live = l.live;
  turns = l.turns;
}
  where
    made : (x : Savepoint) → stays_at k x ≡ true → savepoint_made x.making w.savepoints ≡ Some x → savepoint_made x.making (restored k w).savepoints ≡ Some x
    made x stays there = let P = λ (y : Savepoint). y.making == x.making in find-filter (stays_at k) P w.savepoints ∙ found_both (stays_at k) P w.savepoints x there stays

each_take : (P : Entry → Type 0) (n : ℕ) (xs : List Entry) → Each P xs → Each P (take n xs)
each_take P zero xs each = tt
each_take P (suc n) [] each = tt
each_take P (suc n) (x ∷ xs) each = (each.0, each_take P n xs each.1)

holds_restored : (P : Entry → Type 0) (Q : Savepoint → Bool) (w : Workspace) (k : Savepoint) → Holds P w → find Q w.savepoints ≡ Some k → Holds P (restored k w)
holds_restored P Q w k h found = let m = h.marks Q k found in record {
  at_birth = h.at_birth;
  base = m.0;
  own = m.1;
  log = each_take P k.log_length w.lists.log h.log;
  marks = λ R x other. h.marks (λ y. stays_at k y && R y) x (found_left R w k x other);
  turns = h.turns;
}

-- no workspace took what came behind the savepoint
abbrev NoneDepends : List Session → Durable → Workspace → Savepoint → Type 0
NoneDepends xs d w k = (n : ℕ) (x : Workspace) → workspace_of d.spaces n ≡ Some x → depends xs (outline_in w) (fields_saved k) (outline_in x) ≡ false

-- a child that does not took no more of the log than the savepoint had
took_less : (xs : List Session) (w x : Workspace) (k : Savepoint) → x.parent ≡ w.number → x.number ≢ w.number → depends xs (outline_in w) (fields_saved k) (outline_in x) ≡ false → x.from ≤ k.log_length
took_less xs w x k here other none =
    let child : is_child w x ≡ true = rw (eq-eqb x.parent w.number here, ne_eqb x.number w.number other) refl in
    let late = or_parts (nat_lt k.place x.birth_place || nat_lt k.log_length x.from) _ (and_last (is_child w x) _ child none) in
    ltb-false k.log_length x.from (or_parts (nat_lt k.place x.birth_place) (nat_lt k.log_length x.from) late.0).1

becomes_restored : {staged : List Entry} (xs : List Session) (w : Workspace) (P : Savepoint → Bool) (k : Savepoint) (d : Durable) → Lawful d staged → workspace_of d.spaces w.number ≡ Some w → find P w.savepoints ≡ Some k → k.rebases ≡ w.rebases
    → NoneDepends xs d w k
    → Becomes d.spaces (with_space w.number (restored k) d.spaces) w.number w (restored k w)
becomes_restored xs w P k d l known found same none =
    let m = (l.spaces.each w.number w known).marks P k found in
    let cut : length (take k.log_length w.lists.log) ≡ k.log_length = length-take-le k.log_length w.lists.log m.within in
    record {
      swap = swapped d.spaces w.number (restored k) w (λ _. refl) known;
      rebases = le_refl w.rebases;
      children = λ n x above is here.
          let older = (l.spaces.bases n x above is).older in
          rw cut (took_less xs w x k here (λ (e : x.number ≡ w.number). absurd (omega (arith, older, here, e))) (none n x is));
      points = λ i le under. point_cut w.lists.at_birth w.lists.log i k.log_length (omega (arith, under, cut));
    }

lawful_restored : {staged : List Entry} (xs : List Session) (w : Workspace) (P : Savepoint → Bool) (k : Savepoint) (d : Durable) → Lawful d staged → workspace_of d.spaces w.number ≡ Some w → find P w.savepoints ≡ Some k → k.rebases ≡ w.rebases
    → NoneDepends xs d w k → Lawful (restored_in w.number d k) staged
lawful_restored xs w P k d l known found same none =
    let vs = with_space w.number (restored k) d.spaces in
    let b = becomes_restored xs w P k d l known found same none in
    let space = l.spaces.each w.number w known in
    record {
      spaces = spaces_become d.spaces vs w.number w (restored k w) l.spaces b (differ-changed w.number (restored k) (λ _. refl) d.spaces ∙ l.spaces.once) (space_restored w P k space found same)
          (based_as_before d.spaces vs w.number w (restored k w) l.spaces b refl refl ((space.marks P k found).base same).1 refl);
      entries = record {
        tells = l.entries.tells;
        each = all_swapped (IsSound l.entries.tells d.next_stamp) d.spaces vs w.number w (restored k w) l.entries.each b.swap (holds_restored (IsSound l.entries.tells d.next_stamp) P w k (l.entries.each w.number w known) found);
        staged = l.entries.staged;
      };
    }

-- one stands so still, where a rollback leaves what one stands at
stands_restored : (w : Workspace) (k : Savepoint) (stand : Stand) → would_go (outline_in w) (fields_saved k) stand ≡ false → IsAt w stand → IsAt (restored k w) stand
stands_restored w k Latest none stood = tt
stands_restored w k (Dated date) none stood = tt
stands_restored w k (At making) none stood = by_savepoint (savepoint_made making w.savepoints) refl (ap (λ o. option_map_or goes o false) (found_mapped fields_saved (λ (y : SavepointFields). y.making == making) w.savepoints) ∙ none) stood
  where
    goes : SavepointFields → Bool
    goes j = not (stays_behind (fields_saved k) j)

    by_savepoint : (o : Option Savepoint) → savepoint_made making w.savepoints ≡ o → option_map_or goes (option_map fields_saved o) false ≡ false → is_some o ≡ true → is_some (savepoint_made making (restored k w).savepoints) ≡ true
    by_savepoint None is none stood = absurd (cc)
    by_savepoint (Some j) is none stood =
        let P = λ (y : Savepoint). y.making == making in
        ap (λ (o : Option Savepoint). is_some o) (find-filter (stays_at k) P w.savepoints ∙ found_both (stays_at k) P w.savepoints j is (not-false (stays_at k j) none))

place_restored : (ws vs : List Workspace) (w : Workspace) (k : Savepoint) (x : Session) → Swapped ws vs w.number w (restored k w) → stands_behind (outline_in w) (fields_saved k) x ≡ false → IsPlace ws x.space x.stand → IsPlace vs x.space x.stand
place_restored ws vs w k x swap none p =
    place_swapped ws vs w.number w (restored k w) x.space x.stand swap
    (λ here. stands_restored w k x.stand (and_last (x.space == w.number) (would_go (outline_in w) (fields_saved k) x.stand) (eq-eqb x.space w.number here) none)) p

state_restored : (w : Workspace) (P : Savepoint → Bool) (k : Savepoint) (s : State) → LawfulState s → workspace_of s.durable.spaces w.number ≡ Some w → find P w.savepoints ≡ Some k → k.rebases ≡ w.rebases
    → NoneDepends s.sessions s.durable w k → list_any (stands_behind (outline_in w) (fields_saved k)) s.sessions ≡ false → LawfulState (record s { durable = restored_in w.number s.durable k })
state_restored w P k s l known found same none away = record {
  durable = lawful_restored s.sessions w P k s.durable l.durable known found same none;
  seats = seats_unless s.durable.spaces (with_space w.number (restored k) s.durable.spaces) (stands_behind (outline_in w) (fields_saved k))
      (λ x out. place_restored s.durable.spaces (with_space w.number (restored k) s.durable.spaces) w k x (swapped s.durable.spaces w.number (restored k) w (λ _. refl) known) out)
      s.sessions away l.seats;
}

-- ---- a workspace goes

-- what is found by another number stays
found_other : (n m : ℕ) → m ≢ n → (ws : List Workspace) → workspace_of (without n ws) m ≡ workspace_of ws m
found_other n m away [] = refl
found_other n m away (w ∷ ws) = by_number (cases_eq w.number n) (found_other n m away ws)
  where
    by_number : (w.number ≡ n) ⊎ (w.number ≢ n) → workspace_of (without n ws) m ≡ workspace_of ws m → workspace_of (without n (w ∷ ws)) m ≡ workspace_of (w ∷ ws) m
    by_number (inl here) rest = rw (eq-eqb w.number n here, ne_eqb w.number m (λ same. away (sym same ∙ here))) rest
    by_number (inr other) rest = rw (ne_eqb w.number n other) (ap (λ (o : Option Workspace). if w.number == m then Some w else o) rest)

-- what is found is of another number, and was found
was_found : (n m : ℕ) (ws : List Workspace) (x : Workspace) → workspace_of (without n ws) m ≡ Some x → (m ≢ n) × (workspace_of ws m ≡ Some x)
was_found n m ws x found = (away, sym (found_other n m away ws) ∙ found)
  where
    is : find (λ (v : Workspace). is_other n v.number && (v.number == m)) ws ≡ Some x
    is = sym (find-filter (λ (v : Workspace). is_other n v.number) (λ (v : Workspace). v.number == m) ws) ∙ found

    away : m ≢ n
    away same =
        let h = and_parts (is_other n x.number) (x.number == m) (find-passes (λ (v : Workspace). is_other n v.number && (v.number == m)) ws x is) in
        true≢false (sym (eq-eqb x.number n (eqb-true x.number m h.1 ∙ same)) ∙ not-true (x.number == n) h.0)

-- no workspace is a child of the one that goes
abbrev pub NoChild : List Workspace → Workspace → Type 0
NoChild ws w = (n : ℕ) (x : Workspace) → workspace_of ws n ≡ Some x → is_child w x ≡ false

based_left : (ws : List Workspace) (w x : Workspace) → x.number ≢ w.number → is_child w x ≡ false → Based ws x → Based (without w.number ws) x
based_left ws w x other none b = record {
  parent = b.parent;
  is = found_other w.number x.parent away ws ∙ b.is;
  older = b.older;
  within = b.within;
  before = b.before;
  alike = b.alike;
}
  where
    away : x.parent ≢ w.number
    away here = true≢false (sym (let child : is_child w x ≡ true = rw (eq-eqb x.parent w.number here, ne_eqb x.number w.number other) refl in child) ∙ none)

spaces_left : (ws : List Workspace) (w : Workspace) → LawfulSpaces ws → 0 < w.number → NoChild ws w → LawfulSpaces (without w.number ws)
spaces_left ws w l above none = record {
  live = ap (λ (o : Option Workspace). is_some o) (found_other w.number 0 (λ same. absurd (omega (arith, above, same))) ws) ∙ l.live;
  once = differ_filter one_number (λ (v : Workspace). is_other w.number v.number) ws l.once;
  each = λ m x found. l.each m x (was_found w.number m ws x found).1;
  bases = λ m x over found.
      let h = was_found w.number m ws x found in
      let number : x.number ≡ m = number_is ws m x h.1 in
      based_left ws w x (λ same. h.0 (sym number ∙ same)) (none m x h.1) (l.bases m x over h.1);
}

place_left : (ws : List Workspace) (w : Workspace) (x : Session) → is_inside w x ≡ false → IsPlace ws x.space x.stand → IsPlace (without w.number ws) x.space x.stand
place_left ws w x none p = record {
  space = p.space;
  is = found_other w.number x.space (λ here. true≢false (sym (eq-eqb x.space w.number here) ∙ none)) ws ∙ p.is;
  stands = p.stands;
}

-- the state without a workspace, with all that is its own; no session holds it for itself any more
abbrev pub removed : Workspace → State → State
removed w s = record s {
  durable = record s.durable { spaces = without w.number s.durable.spaces; locks = unlocked_of w.number s.durable.locks };
  sessions = map (thawed w.number) s.sessions;
}

pub leaves_left : (w : Workspace) (s : State) (answer : Answer) → LawfulState s → 0 < w.number → NoChild s.durable.spaces w → list_any (is_inside w) s.sessions ≡ false → Leaves (removed w s, answer)
leaves_left w s answer l above none away = leaves_thawed w.number (record s { durable = left }) answer (record {
  durable = record {
    spaces = spaces_left s.durable.spaces w l.durable.spaces above none;
    entries = record {
      tells = l.durable.entries.tells;
      each = λ n x found. l.durable.entries.each n x (was_found w.number n s.durable.spaces x found).1;
      staged = l.durable.entries.staged;
    };
  };
  seats = seats_unless s.durable.spaces (without w.number s.durable.spaces) (is_inside w) (λ x out. place_left s.durable.spaces w x out) s.sessions away l.seats;
})
  where
    left : Durable
    left = record s.durable { spaces = without w.number s.durable.spaces; locks = unlocked_of w.number s.durable.locks }

-- ---- calls

-- what is done where nothing is wrong
pub leaves_faultless : (fault : Option Refusal) (s : State) (done : State × Answer) → LawfulState s → (fault ≡ None → Leaves done) → Leaves (unless fault s done)
leaves_faultless None s done l d = d refl
leaves_faultless (Some refusal) s done l d = stays s _ l

-- a savepoint of the workspace that is found by its name is found by its making
restored_there : (w : Workspace) (P : Savepoint → Bool) (k : Savepoint) (s : State) → LawfulState s → workspace_of s.durable.spaces w.number ≡ Some w → find P w.savepoints ≡ Some k
    → edited s.moment (edits.Restore w.number k.making) s.durable ≡ restored_in w.number s.durable k
restored_there w P k s l known found =
    ap (λ (o : Option Savepoint). unwrap_or (option_map (restored_in w.number s.durable) o) s.durable)
    (ap (savepoint_made k.making) (savepoints_of-found s.durable.spaces w.number w known) ∙ (l.durable.spaces.each w.number w known).made P k found)

keeps_rolling : (w : Workspace) (P : Savepoint → Bool) (k : Savepoint) (s : State) → LawfulState s → workspace_of s.durable.spaces w.number ≡ Some w → find P w.savepoints ≡ Some k → Keeps s (rolling (outline s) (outline_in w) (fields_saved k))
keeps_rolling w P k s l known found = record { lawful = λ none. by_still (is_still (outline s) (outline_in w) (fields_saved k)) none }
  where
    back : NoFaults (rolling_faults (outline s) (outline_in w) (fields_saved k)) → LawfulState (record s { durable = restored_in w.number s.durable k })
    back h =
        let inside = none_refused (session_inside w.name) (λ _. refl) _ h.0 in
        let dependent = none_refused dependent_child (λ _. refl) _ h.1.0 in
        let rebased = not_refused (not (k.rebases == w.rebases)) (rebased_since k.name) refl h.1.1.0 in
        state_restored w P k s l known found (eqb-true k.rebases w.rebases (not-false (k.rebases == w.rebases) rebased))
        (none_outlined (depends s.sessions (outline_in w) (fields_saved k)) s dependent)
        (none_inside (stands_behind (outline_in w) (fields_saved k)) s.sessions inside)

    by_still : (b : Bool) → NoFaults (rolling_faults (outline s) (outline_in w) (fields_saved k)) → LawfulState (planned s.moment s.moment (if b then [] else edits.Restore w.number k.making ∷ []) Stay s)
    by_still true none = l
    by_still false none = planned_edit (edits.Restore w.number k.making) s (subst (λ (d : Durable). LawfulState (record s { durable = d })) (sym (restored_there w P k s l known found)) (back none))

pub leaves_rollback : (args : List Arg) (s : State) → LawfulState s → Leaves (run (rollback_plan args (outline s)) s)
leaves_rollback args s l = leaves_run (rollback_plan args (outline s)) s l (search (keeping, keeps_rolling) depth 12)

keeps_removing : (name : List ℕ) (w : Workspace) (s : State) → LawfulState s → Keeps s (removing name (outline s) (outline_in w))
keeps_removing name w s l = record {
  lawful = λ h.
      let live = not_refused (w.number == 0) (no_parent name) refl h.0 in
      let inside = none_refused (session_inside w.name) (λ _. refl) _ h.1.0 in
      let child = none_refused (has_child w.name) (λ _. refl) _ h.1.1.0 in
      let k = (leaves_left w s Fine l (above live) (none_outlined (is_child_of w.number) s child) (none_inside (is_inside w) s.sessions inside)).lawful in
      record { durable = record { spaces = k.durable.spaces; entries = k.durable.entries }; seats = k.seats };
}
  where
    above : (w.number == 0) ≡ false → 0 < w.number
    above other = let some : w.number ≢ 0 = λ e. true≢false (sym (eq-eqb w.number 0 e) ∙ other) in omega (arith, some)

pub leaves_remove : (args : List Arg) (s : State) → LawfulState s → Leaves (run (remove_plan args (outline s)) s)
leaves_remove args s l = leaves_run (remove_plan args (outline s)) s l (search (keeping, keeps_removing) depth 10)
