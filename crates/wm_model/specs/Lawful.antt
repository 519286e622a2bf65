-- What holds in each state that lines lead to: private copies and logs say the same.
use Rattle.std.specs.Prelude.{ℕ, ◌≡◌, ◌+◌, ◌<◌, ◌≤◌, Bool, true, ◌==◌, if◌then◌else◌, List, [], ◌∷◌, ◌++◌, length, map, take, drop, Some, is_some}
use Rattle.std.specs.List.{find, flat_map, list_all}
use Rattle.std.specs.Option.{option_map_or}
use Rattle.wm_base.specs.declared.row.Row.{Row}
use Rattle.wm_decided.specs.Staged.{copy_of}
use Rattle.wm_graph.specs.Rules.{differ}
use Rattle.wm_making.specs.Rows.{is_filled}
use Rattle.wm_model.specs.Step.{decisions_of, step}
use Rattle.wm_spec.specs.Lists.{Alike, Entry, Told, told_of}
use Rattle.wm_state.specs.State.{Decision, Durable, Savepoint, Session, Stand, Latest, At, Dated, State, Turn, Workspace, begin, content, fresh, kept, savepoint_made, turn_of, workspace_of}

-- ---- one workspace

-- all that a workspace was: what it was born with, and its log
abbrev pub whole : Workspace → List Entry
whole w = w.lists.at_birth ++ w.lists.log

-- what it was when its log was so long
abbrev pub point : Workspace → ℕ → List Entry
point w n = w.lists.at_birth ++ take n w.lists.log

-- a savepoint of a workspace keeps what the workspace was at a length of its log, over what it took at the turn of its rebases; where it
-- was not rebased since, it has the base still, and its own changes are those of the savepoint and what was logged since
pub record LawfulMark (w : Workspace) (k : Savepoint) : Type 0 where
  pub alike : Alike (kept k) (point w k.log_length)
  pub within : k.log_length ≤ length w.lists.log
  pub past : k.rebases ≤ w.rebases
  pub place : k.place < w.next_place
  pub turn : (t : Turn) → turn_of w k.rebases ≡ Some t → (t.content ≡ k.base) × (t.log_length ≡ k.from)
  pub base : k.rebases ≡ w.rebases → (k.base ≡ w.lists.base) × (k.from ≡ w.from)
  pub since : k.rebases ≡ w.rebases → w.lists.own ≡ k.own ++ drop k.log_length w.lists.log

-- of two savepoints the one that stands no further has no longer a log
abbrev pub Rises : Savepoint → Savepoint → Type 0
Rises a b = a.place ≤ b.place → a.log_length ≤ b.log_length

-- a workspace holds what it was born with and its log do; P, Q: by name, by making, or however a savepoint is looked for, and what is found
-- is found by its making. Its first turn took what it was born with, and its last one its base. LIVE was born with nothing
pub record LawfulSpace (w : Workspace) : Type 0 where
  pub latest : Alike (content w) (whole w)
  pub marks : (P : Savepoint → Bool) (k : Savepoint) → find P w.savepoints ≡ Some k → LawfulMark w k
  pub rises : (P Q : Savepoint → Bool) (a b : Savepoint) → find P w.savepoints ≡ Some a → find Q w.savepoints ≡ Some b → Rises a b
  pub made : (P : Savepoint → Bool) (k : Savepoint) → find P w.savepoints ≡ Some k → savepoint_made k.making w.savepoints ≡ Some k
  pub first : (t : Turn) → turn_of w 0 ≡ Some t → t.content ≡ w.lists.at_birth
  pub last : (t : Turn) → turn_of w w.rebases ≡ Some t → (t.content ≡ w.lists.base) × (t.log_length ≡ w.from)
  pub live : w.number ≡ 0 → w.lists.at_birth ≡ []
  pub turns : length w.turns ≡ (if w.number == 0 then 0 else w.rebases + 1)

-- ---- a workspace and its parent

-- the parent of a workspace is there and older; what each turn took is alike what the parent was at a length of its log, and no turn
-- names a longer one, or more rebases, than the parent has
pub record Based (spaces : List Workspace) (w : Workspace) : Type 0 where
  pub parent : Workspace
  pub is : workspace_of spaces w.parent ≡ Some parent
  pub older : w.parent < w.number
  pub within : w.from ≤ length parent.lists.log
  pub before : (number : ℕ) (t : Turn) → turn_of w number ≡ Some t → (t.log_length ≤ w.from) × (t.rebases ≤ parent.rebases)
  pub alike : (number : ℕ) (t : Turn) → turn_of w number ≡ Some t → Alike t.content (point parent t.log_length)

abbrev pub one_number : Workspace → Workspace → Bool
one_number v w = v.number == w.number

-- LIVE is there, no two workspaces have one number, and each is lawful; each but LIVE stands on its parent
pub record LawfulSpaces (spaces : List Workspace) : Type 0 where
  pub live : is_some (workspace_of spaces 0) ≡ true
  pub once : differ one_number spaces ≡ true
  pub each : (n : ℕ) (w : Workspace) → workspace_of spaces n ≡ Some w → LawfulSpace w
  pub bases : (n : ℕ) (w : Workspace) → 0 < n → workspace_of spaces n ≡ Some w → Based spaces w

-- ---- entries

-- so it is with each of the entries
abbrev pub Each : (Entry → Type 0) → List Entry → Type 0
Each P [] = Unit {0}
Each P (e ∷ es) = P e × Each P es

-- and in each list of a workspace
pub record Holds (P : Entry → Type 0) (w : Workspace) : Type 0 where
  pub at_birth : Each P w.lists.at_birth
  pub base : Each P w.lists.base
  pub own : Each P w.lists.own
  pub log : Each P w.lists.log
  pub marks : (Q : Savepoint → Bool) (k : Savepoint) → find Q w.savepoints ≡ Some k → Each P k.base × Each P k.own
  pub turns : (number : ℕ) (t : Turn) → turn_of w number ≡ Some t → Each P t.content

-- no text of the row is empty
abbrev pub is_full_row : Row → Bool
is_full_row r = list_all is_filled r.values

-- an entry in order: its stamp was given and tells its row and kind, and no text of its row or of its key is empty
pub record IsSound (tells : ℕ → Told) (next : ℕ) (e : Entry) : Type 0 where
  pub given : e.stamp < next
  pub told : told_of e ≡ tells e.stamp
  pub filled : option_map_or is_full_row e.row true ≡ true
  pub keyed : list_all is_filled e.key ≡ true

-- so is each entry of each list, also those that lie under others, and each of those that sessions have staged
pub record LawfulEntries (next : ℕ) (spaces : List Workspace) (copies : List Entry) : Type 0 where
  pub tells : ℕ → Told
  pub each : (n : ℕ) (w : Workspace) → workspace_of spaces n ≡ Some w → Holds (IsSound tells next) w
  pub staged : Each (IsSound tells next) copies

-- what a store keeps is lawful, and so is what was staged of it
pub record Lawful (d : Durable) (staged : List Entry) : Type 0 where
  pub spaces : LawfulSpaces d.spaces
  pub entries : LawfulEntries d.next_stamp d.spaces staged

-- ---- sessions

-- what sessions have staged to be copied
abbrev pub staged_of : Decision → List Entry
staged_of d = map (copy_of d) d.copied

abbrev pub staged_in : List Session → List Entry
staged_in xs = flat_map (λ (x : Session). flat_map staged_of (decisions_of x)) xs

-- one may stand so in a workspace
abbrev pub IsAt : Workspace → Stand → Type 0
IsAt w Latest = Unit {0}
IsAt w (At making) = is_some (savepoint_made making w.savepoints) ≡ true
IsAt w (Dated date) = Unit {0}

-- where one stands is there
pub record IsPlace (spaces : List Workspace) (n : ℕ) (stand : Stand) : Type 0 where
  pub space : Workspace
  pub is : workspace_of spaces n ≡ Some space
  pub stands : IsAt space stand

-- where each session stands is there
abbrev pub Seats : List Workspace → List Session → Type 0
Seats spaces [] = Unit {0}
Seats spaces (x ∷ xs) = IsPlace spaces x.space x.stand × Seats spaces xs

-- a state that lines lead to: what a store keeps of it is lawful, and so is what sessions have staged; each session stands somewhere
pub record LawfulState (s : State) : Type 0 where
  pub durable : Lawful s.durable (staged_in s.sessions)
  pub seats : Seats s.durable.spaces s.sessions

-- a state that lines lead to from a fresh store, over runs
pub data Reached : State → Type 0 where
  Made : (limit : ℕ) → Reached (fresh limit)
  Begun : (s : State) (now : ℕ) → Reached s → Reached (begin s now)
  Stepped : (s : State) (line : List ℕ) → Reached s → Reached (step s line).0
