-- What a line does step by step leaves a lawful state: one law for each way in which Step puts it together, and one for each change.
use Rattle.std.proofs.Common.{◌≡◌, ℕ, ◌+◌, Bool, true, false, nat_lt, if◌then◌else◌, List, [], ◌∷◌, ◌++◌, map, Option, Some, None, is_some, refl, ◌∙◌, arith}
use Rattle.std.specs.List.{filter}
use Rattle.std.specs.Str.{bytes_eq}
use Rattle.wm_base.specs.declared.refusal.Refusal.{Refusal}
use Rattle.wm_print.specs.Texts.{Answer}
use Rattle.wm_spec.specs.Lists.{Entry}
use Rattle.wm_spec.specs.declared.record.table.Table.{Table}
use Rattle.wm_state.specs.State as state
use Rattle.wm_state.specs.State.{Durable, Savepoint, Session, State, Workspace, Latest, next_space, table_named, with_entries, with_savepoint, with_space, workspace_named, workspace_of}
use Rattle.wm_state.proofs.Changing.{differ-changed}
use Rattle.wm_model.specs.Lawful.{Each, IsPlace, IsSound, Lawful, LawfulState, Seats, staged_in}
use Rattle.wm_model.specs.Seating.{planned, thawed}
use Rattle.wm_model.specs.Step.{Plan, Setting, altered, at_latest, barred, born, child_of, comes, counter_limit, done_so, durably, durably_by, given, is_before, least, line_work, no_table, no_workspace, place_behind, refused_or, run, saved, saved_at, unless, unless_empty_period, unless_mistyped, with_named, with_setting, with_table, written_all}
use Rattle.wm_model.proofs.Lawful.Entries.{Written, all_more, all_saved, entries_more, mark_holds}
use Rattle.wm_model.proofs.Lawful.Firsts.{NoFaults, none_told}
use Rattle.wm_model.proofs.Lawful.Saving.{child_lawful, fits, space_appended, space_saved}
use Rattle.wm_model.proofs.Lawful.Staging.{staged_altered, staged_thawed, staged_with}
use Rattle.wm_model.proofs.Lawful.Spaces.{at_its_number, changed, child_based, goes_appended, goes_saved, none_at, numbered, seats_kept, seats_more, spaces_kept, spaces_more, under}

-- what a line or a part of it leaves is lawful
pub record Leaves (r : State × Answer) : Type 0 where
  pub lawful : LawfulState r.0

-- ---- combinators

pub stays : (s : State) (answer : Answer) → LawfulState s → Leaves (s, answer)
stays s answer l = record { lawful = l }

pub leaves_if : (b : Bool) (x y : State × Answer) → Leaves x → Leaves y → Leaves (if b then x else y)
leaves_if true x y one two = one
leaves_if false x y one two = two

pub leaves_unless : (fault : Option Refusal) (s : State) (done : State × Answer) → LawfulState s → Leaves done → Leaves (unless fault s done)
leaves_unless None s done l d = d
leaves_unless (Some refusal) s done l d = record { lawful = l }

pub leaves_unless_mistyped : (fault : Option (List ℕ)) (s : State) (done : State × Answer) → LawfulState s → Leaves done → Leaves (unless_mistyped fault s done)
leaves_unless_mistyped None s done l d = d
leaves_unless_mistyped (Some parameter) s done l d = record { lawful = l }

pub leaves_durably_by : (work : ℕ) (s : State) (log : ℕ) (done : State × Answer) → LawfulState s → Leaves done → Leaves (durably_by work s log done)
leaves_durably_by work s log done l d =
    leaves_if (nat_lt counter_limit log) _ _ (stays s _ l)
    (leaves_if (nat_lt counter_limit (s.durable.work + work)) _ _ (stays s _ l)
    (record { lawful = record { durable = record { spaces = d.lawful.durable.spaces; entries = d.lawful.durable.entries }; seats = d.lawful.seats } }))

pub leaves_durably : (s : State) (log : ℕ) (done : State × Answer) → LawfulState s → Leaves done → Leaves (durably s log done)
leaves_durably s log done l d = leaves_durably_by line_work s log done l d

pub leaves_with_table : (s : State) (name : List ℕ) (act : Table → State × Answer) → LawfulState s → ((t : Table) → Leaves (act t)) → Leaves (with_table s name act)
leaves_with_table s name act l a = by_table (table_named name s.durable.tables)
  where
    by_table : (o : Option Table) → Leaves (elim o as (λ _. State × Answer) [ None ↦ (s, no_table name) | Some t ↦ act t ])
    by_table None = stays s _ l
    by_table (Some t) = a t

-- the workspace is found by its number
pub leaves_with_named : (s : State) (name : List ℕ) (act : Workspace → State × Answer) → LawfulState s → ((w : Workspace) → workspace_of s.durable.spaces w.number ≡ Some w → Leaves (act w)) → Leaves (with_named s name act)
leaves_with_named s name act l a = by_space (workspace_named name s.durable.spaces) refl
  where
    by_space : (o : Option Workspace) → workspace_named name s.durable.spaces ≡ o → Leaves (elim o as (λ _. State × Answer) [ None ↦ (s, no_workspace name) | Some w ↦ act w ])
    by_space None is = stays s _ l
    by_space (Some w) is = a w (numbered s.durable.spaces name w l.durable.spaces is)

pub leaves_at_latest : (s : State) (stand : state.Stand) (done : State × Answer) → LawfulState s → Leaves done → Leaves (at_latest s stand done)
leaves_at_latest s Latest done l d = d
leaves_at_latest s (state.At making) done l d = stays s _ l
leaves_at_latest s (state.Dated date) done l d = stays s _ l

pub leaves_unless_empty_period : (empty : Bool) (s : State) (done : State × Answer) → LawfulState s → Leaves done → Leaves (unless_empty_period empty s done)
leaves_unless_empty_period empty s done l d = leaves_if empty _ _ (stays s _ l) d

pub leaves_given : (text fault : Option (List ℕ)) (s : State) (act : List ℕ → State × Answer) → LawfulState s → ((name : List ℕ) → Leaves (act name)) → Leaves (given text fault s act)
leaves_given None fault s act l a = stays s _ l
leaves_given (Some name) fault s act l a = a name

-- a line that is refused for this too
pub leaves_barred : (fault : Option Refusal) (s : State) (done : State × Answer) → LawfulState s → Leaves done → Leaves (barred fault s done)
leaves_barred None s done l d = d
leaves_barred (Some refusal) s done l d = leaves_if (is_before done.1 refusal) _ _ d (stays s _ l)

-- what a plan makes of the state where nothing refuses it
abbrev pub IsLawful : State → Plan → Type 0
IsLawful s p = LawfulState (planned s.moment s.moment p.edits p.seating s)

-- which is lawful where nothing is a fault
pub record Keeps (s : State) (p : Plan) : Type 0 where
  pub lawful : NoFaults p.faults → IsLawful s p

pub leaves_run : (p : Plan) (s : State) → LawfulState s → Keeps s p → Leaves (run p s)
leaves_run p s l keeps = by_fault (least p.faults) refl
  where
    by_fault : (fault : Option Refusal) → least p.faults ≡ fault → Leaves (comes (refused_or fault (done_so p)) s)
    by_fault None clear = record { lawful = keeps.lawful (none_told p.faults clear) }
    by_fault (Some refusal) told = record { lawful = l }

-- one rule for each combinator
pub ruleset leaving = (stays, leaves_if, leaves_unless, leaves_unless_mistyped, leaves_durably, leaves_with_table, leaves_with_named, leaves_at_latest, leaves_unless_empty_period, leaves_given, at_its_number)

-- ---- changes of what is kept

-- entries more in a workspace
lawful_written : {staged : List Entry} (n : ℕ) (w : Workspace) (es : List Entry) (d : Durable) → Lawful d staged → workspace_of d.spaces n ≡ Some w → Written d.next_stamp es → Lawful (written_all n es d) staged
lawful_written n w es d l found num =
    let k = changed d.spaces n (with_entries es) w (λ _. refl) found (goes_appended es w) in
    record {
      spaces = spaces_kept d.spaces (with_space n (with_entries es) d.spaces) n w (with_entries es w) l.spaces k (differ-changed n (with_entries es) (λ _. refl) d.spaces ∙ l.spaces.once) (space_appended w es (l.spaces.each n w found));
      entries = entries_more d.spaces (with_space n (with_entries es) d.spaces) n d.next_stamp w es l.entries k num;
    }

-- what is saved where one stands is sound
mark_of : {staged : List Entry} (m : ℕ) (w : Workspace) (stand : state.Stand) (name : List ℕ) (implicit : Bool) (k : Savepoint) (d : Durable) (l : Lawful d staged) → workspace_of d.spaces w.number ≡ Some w → saved_at m d.spaces w stand name implicit ≡ Some k
    → Each (IsSound l.entries.tells d.next_stamp) k.base × Each (IsSound l.entries.tells d.next_stamp) k.own
mark_of m w stand name implicit k d l found is = mark_holds (IsSound l.entries.tells d.next_stamp) m d.spaces w stand name implicit k (l.entries.each w.number w found) is

-- a savepoint more in a workspace
lawful_saved : {staged : List Entry} (m : ℕ) (w : Workspace) (stand : state.Stand) (name : List ℕ) (implicit : Bool) (icp : ℕ) (k : Savepoint) (d : Durable) → Lawful d staged → workspace_of d.spaces w.number ≡ Some w → saved_at m d.spaces w stand name implicit ≡ Some k
    → Lawful (saved w.number (place_behind w stand) icp k d) staged
lawful_saved m w stand name implicit icp k d l found is =
    let lawful = l.spaces.each w.number w found in
    let act = with_savepoint (place_behind w stand) icp k in
    let c = changed d.spaces w.number act w (λ _. refl) found (goes_saved (place_behind w stand) icp k w) in
    record {
      spaces = spaces_kept d.spaces (with_space w.number act d.spaces) w.number w (act w) l.spaces c (differ-changed w.number act (λ _. refl) d.spaces ∙ l.spaces.once)
          (space_saved w (place_behind w stand) icp k lawful (fits m d.spaces w stand name implicit icp k lawful found is));
      entries = record {
        tells = l.entries.tells;
        each = all_saved (IsSound l.entries.tells d.next_stamp) d.spaces (with_space w.number act d.spaces) w.number (place_behind w stand) icp w k l.entries.each c (mark_of m w stand name implicit k d l found is);
        staged = l.entries.staged;
      };
    }

-- a workspace more
lawful_born : {staged : List Entry} (m : ℕ) (w : Workspace) (stand : state.Stand) (name implicit_name : List ℕ) (k : Savepoint) (d : Durable) → Lawful d staged → workspace_of d.spaces w.number ≡ Some w → saved_at m d.spaces w stand implicit_name true ≡ Some k
    → Lawful (born m w stand name k d) staged
lawful_born m w stand name implicit_name k d l found is =
    let lawful = l.spaces.each w.number w found in
    let act = with_savepoint (place_behind w stand) (w.next_implicit + 1) k in
    let c = changed d.spaces w.number act w (λ _. refl) found (goes_saved (place_behind w stand) (w.next_implicit + 1) k w) in
    let t = lawful_saved m w stand implicit_name true (w.next_implicit + 1) k d l found is in
    let mark = mark_of m w stand implicit_name true k d l found is in
    let P = IsSound l.entries.tells d.next_stamp in
    let all = all_saved P d.spaces (with_space w.number act d.spaces) w.number (place_behind w stand) (w.next_implicit + 1) w k l.entries.each c mark in
    let child = child_of m d.spaces w k name in
    let older = under d.spaces w.number w found in
    let fit = fits m d.spaces w stand implicit_name true (w.next_implicit + 1) k lawful found is in
    record {
      spaces = spaces_more (with_space w.number act d.spaces) child t.spaces (c.swap.others (next_space d.spaces) (λ e. absurd (omega (arith, older, e))) ∙ none_at d.spaces) (child_lawful m d.spaces w k name older)
          (child_based m d.spaces (with_space w.number act d.spaces) w (act w) k name c.swap.now older fit.mark);
      entries = record { tells = l.entries.tells; each = all_more P m d.spaces (with_space w.number act d.spaces) w k name all mark; staged = l.entries.staged };
    }

-- ---- and of the state with it

pub leaves_written : (w : Workspace) (es : List Entry) (s : State) (answer : Answer) → LawfulState s → workspace_of s.durable.spaces w.number ≡ Some w → Written s.durable.next_stamp es
    → Leaves (record s { durable = written_all w.number es s.durable }, answer)
leaves_written w es s answer l found num = record {
  lawful = record {
    durable = lawful_written w.number w es s.durable l.durable found num;
    seats = seats_kept s.durable.spaces (with_space w.number (with_entries es) s.durable.spaces) w.number w (with_entries es w) s.sessions
        (changed s.durable.spaces w.number (with_entries es) w (λ _. refl) found (goes_appended es w)) l.seats;
  };
}

seats_saved : (place icp : ℕ) (w : Workspace) (k : Savepoint) (s : State) → LawfulState s → workspace_of s.durable.spaces w.number ≡ Some w → Seats (with_space w.number (with_savepoint place icp k) s.durable.spaces) s.sessions
seats_saved place icp w k s l found =
    let act = with_savepoint place icp k in
    seats_kept s.durable.spaces (with_space w.number act s.durable.spaces) w.number w (act w) s.sessions (changed s.durable.spaces w.number act w (λ _. refl) found (goes_saved place icp k w)) l.seats

pub leaves_saved : (w : Workspace) (name : List ℕ) (implicit : Bool) (icp : ℕ) (k : Savepoint) (s : State) (answer : Answer) → LawfulState s → workspace_of s.durable.spaces w.number ≡ Some w
    → saved_at s.moment s.durable.spaces w Latest name implicit ≡ Some k → Leaves (record s { durable = saved w.number (w.next_place + 1) icp k s.durable }, answer)
leaves_saved w name implicit icp k s answer l found is = record {
  lawful = record { durable = lawful_saved s.moment w Latest name implicit icp k s.durable l.durable found is; seats = seats_saved (w.next_place + 1) icp w k s l found };
}

pub leaves_born : (w : Workspace) (stand : state.Stand) (name implicit_name : List ℕ) (k : Savepoint) (s : State) (answer : Answer) → LawfulState s → workspace_of s.durable.spaces w.number ≡ Some w
    → saved_at s.moment s.durable.spaces w stand implicit_name true ≡ Some k → Leaves (record s { durable = born s.moment w stand name k s.durable }, answer)
leaves_born w stand name implicit_name k s answer l found is = record {
  lawful = record {
    durable = lawful_born s.moment w stand name implicit_name k s.durable l.durable found is;
    seats = seats_more (with_space w.number (with_savepoint (place_behind w stand) (w.next_implicit + 1) k) s.durable.spaces) (child_of s.moment s.durable.spaces w k name) s.sessions
        (seats_saved (place_behind w stand) (w.next_implicit + 1) w k s l found);
  };
}

-- ---- sessions

-- what sessions have staged of what a state keeps
abbrev pub AreSound : (s : State) → LawfulState s → List Entry → Type 0
AreSound s l es = Each (IsSound l.durable.entries.tells s.durable.next_stamp) es

pub leaves_seated : (s : State) (sessions : List Session) (answer : Answer) (l : LawfulState s) → Seats s.durable.spaces sessions → AreSound s l (staged_in sessions) → Leaves (record s { sessions = sessions }, answer)
leaves_seated s sessions answer l seats staged = record {
  lawful = record {
    durable = record { spaces = l.durable.spaces; entries = record { tells = l.durable.entries.tells; each = l.durable.entries.each; staged = staged } };
    seats = seats;
  };
}

pub seats_push : (ws : List Workspace) (xs : List Session) (x : Session) → Seats ws xs → IsPlace ws x.space x.stand → Seats ws (xs ++ x ∷ [])
seats_push ws [] x s p = (p, tt)
seats_push ws (y ∷ ys) x s p = (s.0, seats_push ws ys x s.1 p)

-- LIVE is there
pub live_place : (ws : List Workspace) → is_some (workspace_of ws 0) ≡ true → IsPlace ws 0 Latest
live_place ws live = by_space (workspace_of ws 0) refl live
  where
    by_space : (o : Option Workspace) → workspace_of ws 0 ≡ o → is_some o ≡ true → IsPlace ws 0 Latest
    by_space None is there = absurd (cc)
    by_space (Some w) is there = record { space = w; is = is; stands = tt }

pub seats_filter : (ws : List Workspace) (P : Session → Bool) (xs : List Session) → Seats ws xs → Seats ws (filter P xs)
seats_filter ws P [] s = tt
seats_filter ws P (x ∷ xs) s = by_test (P x) (seats_filter ws P xs s.1)
  where
    by_test : (b : Bool) → Seats ws (filter P xs) → Seats ws (if b then x ∷ filter P xs else filter P xs)
    by_test true rest = (s.0, rest)
    by_test false rest = rest

-- sessions of which something is set stand where that says, or where they did
pub seats_altered : (ws : List Workspace) (name : List ℕ) (setting : Setting) (xs : List Session) → ((x : Session) → IsPlace ws x.space x.stand → IsPlace ws (with_setting setting x).space (with_setting setting x).stand) → Seats ws xs
    → Seats ws (altered name setting xs)
seats_altered ws name setting [] to s = tt
seats_altered ws name setting (x ∷ xs) to s = (by_name (bytes_eq name x.name), seats_altered ws name setting xs to s.1)
  where
    by_name : (b : Bool) → IsPlace ws (if b then with_setting setting x else x).space (if b then with_setting setting x else x).stand
    by_name true = to x s.0
    by_name false = s.0

-- something is set of a session, which leaves it where something is, and stages what is sound
pub leaves_set : (name : List ℕ) (setting : Setting) (s : State) (answer : Answer) (l : LawfulState s)
    → ((x : Session) → IsPlace s.durable.spaces x.space x.stand → IsPlace s.durable.spaces (with_setting setting x).space (with_setting setting x).stand) → AreSound s l (staged_with setting)
    → Leaves (record s { sessions = altered name setting s.sessions }, answer)
leaves_set name setting s answer l to new =
    leaves_seated s _ answer l (seats_altered s.durable.spaces name setting s.sessions to l.seats)
    (staged_altered (IsSound l.durable.entries.tells s.durable.next_stamp) name setting s.sessions new l.durable.entries.staged)

-- no session holds a workspace any more, and nobody goes
seats_thawed : (ws : List Workspace) (n : ℕ) (xs : List Session) → Seats ws xs → Seats ws (map (thawed n) xs)
seats_thawed ws n [] s = tt
seats_thawed ws n (x ∷ xs) s = (s.0, seats_thawed ws n xs s.1)

pub leaves_thawed : (n : ℕ) (s : State) (answer : Answer) → LawfulState s → Leaves (record s { sessions = map (thawed n) s.sessions }, answer)
leaves_thawed n s answer l =
    leaves_seated s (map (thawed n) s.sessions) answer l (seats_thawed s.durable.spaces n s.sessions l.seats)
    (staged_thawed (IsSound l.durable.entries.tells s.durable.next_stamp) n s.sessions l.durable.entries.staged)
