-- What is looked up in the records where a workspace is refreshed or merged.
use Rattle.std.specs.Prelude.{ℕ, ◌≡◌, ◌+◌, ◌<◌, Bool, true, false, not, ◌&&◌, ◌||◌, ◌==◌, nat_le, nat_lt, if◌then◌else◌, List, [], ◌∷◌, ◌++◌, length, map, max, Option, Some, None, is_some, codes}
use Rattle.std.specs.List.{count_by, find, list_all}
use Rattle.std.specs.Str.{bytes_eq}
use Rattle.wm_base.specs.Period.{Span}
use Rattle.wm_base.specs.declared.refusal.Refusal.{Refusal}
use Rattle.wm_base.specs.declared.value.Value.{Value}
use Rattle.wm_graph.specs.Parts.{Parts, parts_of, space_of, table_of}
use Rattle.wm_graph.specs.Rules.{is_short}
use Rattle.wm_spec.specs.Lists.{Cell, Entry}
pub use Rattle.wm_guard.specs.Barring.{makings_of}
use Rattle.wm_outline.specs.Outline.{outline_of}
use Rattle.wm_spec.specs.declared.record.savepoint.Savepoint.{Savepoint}
use Rattle.wm_spec.specs.declared.record.space.Space.{Space}
use Rattle.wm_spec.specs.declared.record.stored.Stored.{Stored}
use Rattle.wm_spec.specs.declared.record.table.Table.{Table}
use Rattle.wm_state.specs.Copied.{KeyPieces}
use Rattle.wm_state.specs.Drafts.{can_keep, can_keep_entry}
use Rattle.wm_state.specs.Points.{implicit_of}
use Rattle.wm_state.specs.Standing.{is_ready, saved_in}
use Rattle.wm_state.specs.State.{Session}
use Rattle.wm_state.specs.declared.edit.Edit.{Edit}
use Rattle.wm_state.specs.declared.edit.Edit.TheVariants as edits
use Rattle.wm_state.specs.declared.edit.NewEntry.{NewEntry}
use Rattle.wm_telling.specs.Telling.{IsFirstClash, IsHeldListing, clash_held, gained_held, own_held}
use Rattle.wm_print.specs.Texts.{Answer}
use Rattle.wm_model.specs.Seating.{Seating, Stay, Thaw}
use Rattle.wm_model.specs.Step.{Asked, at_its_end, cells_of, first_fault, in_conflict, lock_fault, most_savepoints, number_limit, refused_for, refused_if, savepoint_there, told_period, unlock_edits}
use Rattle.wm_model.specs.Undone.{NamesSpace, going_refusal, resolving_refusal}

-- ---- conflicts

-- a stretch of conflict, as it is found
pub record Clashed : Type 0 where
  pub table : ℕ
  pub key : List Value
  pub period : Span

-- the first one that there is, or that there is none
abbrev pub IsClash : Parts → Space → Space → Option Clashed → Type 0
IsClash p a b (Some x) = IsFirstClash p a b x.table x.key x.period.from x.period.till
IsClash p a b None = (c : Cell) → clash_held p a b c ≡ None

-- how it is told, of its table
abbrev pub clash_answer : Clashed → Option Table → Answer
clash_answer x None = in_conflict [] x.key None
clash_answer x (Some table) = in_conflict table.name x.key (told_period table x.period)

abbrev pub clash_fault : Parts → Option Clashed → Option Refusal
clash_fault p found = refused_for (λ (x : Clashed). clash_answer x (table_of p.tables x.table)) found

-- ---- a workspace beside its parent

-- the workspace of a name is there and is not LIVE, and so is its parent
pub record NamesFamily (rs : List Stored) (workspace : List ℕ) (a b : Space) : Type 0 where
  pub space : NamesSpace rs workspace a
  pub child : 0 < a.number
  pub parent : space_of (parts_of rs).spaces a.parent ≡ Some b

-- the parent changed nothing since
abbrev pub is_quiet_at : Space → Space → Bool
is_quiet_at a b = nat_le b.log_length a.from

-- an entry can be written again: its table is ready for rows, and a record can keep its values
abbrev pub is_ready_entry : Parts → Entry → Bool
is_ready_entry p e = is_ready p.tables e.table && can_keep_entry e

-- and it can keep each key that has pieces
abbrev pub are_keys_kept : List KeyPieces → Bool
are_keys_kept ks = list_all (λ (k : KeyPieces). (length k.pieces == 0) || list_all can_keep k.key) ks

-- ---- a refresh

abbrev pub rebase_fault : Space → Option Refusal
rebase_fault a = refused_if (nat_lt number_limit (a.rebases + 1)) (at_its_end (codes "REBASE"))

-- what RefreshWorkspace is refused for where something is pending; else it is for an open resolve alone
abbrev pub refreshing_refusal : Parts → List Session → Space → Option Clashed → Option Refusal
refreshing_refusal p xs a found = first_fault (resolving_refusal xs a ∷ clash_fault p found ∷ rebase_fault a ∷ [])

-- something is pending that the workspace may gain, and nothing refuses it
pub record Refreshes (rs : List Stored) (m : ℕ) (xs : List Session) (session : Session) (workspace : List ℕ) (a b : Space) (es : List Entry) : Type 0 where
  pub user : is_short session.user ≡ true
  pub family : NamesFamily rs workspace a b
  pub pending : is_quiet_at a b ≡ false
  pub found : Option Clashed
  pub clash : IsClash (parts_of rs) a b found
  pub clear : refreshing_refusal (parts_of rs) xs a found ≡ None
  pub listed : IsHeldListing (parts_of rs) m session.user (gained_held (parts_of rs) a b) es

-- entries that a log gains, where there are some
abbrev pub gain_edits : ℕ → List NewEntry → List Edit
gain_edits n entries = if length entries == 0 then [] else edits.Gain n entries ∷ []

abbrev pub refresh_edits : ℕ → List NewEntry → List Edit
refresh_edits n entries = edits.Rebase n false ∷ gain_edits n entries

-- ---- a merge

-- what a merge with removal is refused for
abbrev pub leaving_refusal : Bool → Parts → List Session → Space → Option Refusal
leaving_refusal removes p xs a = if removes then going_refusal p xs a else None

-- a merge that keeps the parent first is refused for the name of its savepoint
abbrev pub naming_refusal : Bool → Parts → Space → Option Refusal
naming_refusal keeps p b = refused_if (keeps && is_some (find (λ (x : Savepoint). bytes_eq (implicit_of b) x.name) (saved_in p b.number))) (savepoint_there (implicit_of b))

-- and where there is no room for it
abbrev pub keeping_refusal : Bool → Parts → Space → Option Refusal
keeping_refusal keeps p b =
    first_fault
    (refused_if (keeps && nat_le 4096 (count_by (λ (x : Savepoint). x.space == b.number) p.savepoints)) most_savepoints
    ∷ refused_if (keeps && nat_lt number_limit (b.next_place + 1)) (at_its_end (codes "PLACE"))
    ∷ refused_if (keeps && nat_lt number_limit (b.next_implicit + 1)) (at_its_end (codes "ICP"))
    ∷ [])

-- nothing is to be merged, and nothing is pending
abbrev pub is_even_at : Space → Space → List Entry → Bool
is_even_at a b own = (length own == 0) && is_quiet_at a b

-- a lock bars the merge; the locks of the workspace itself do not
abbrev pub merge_lock_refusal : Session → Parts → Space → Space → List Entry → Option Refusal
merge_lock_refusal session p a b own = lock_fault (outline_of p [] 0) (record { space = b.number; user = session.user; except = Some a.number }) (map cells_of own)

-- what MergeWorkspace is refused for
abbrev pub merging_refusal : Session → Asked → Parts → List Session → Space → Space → Option Clashed → List Entry → Option Refusal
merging_refusal session asked p xs a b found own =
    first_fault
    (naming_refusal asked.keeps p b
    ∷ leaving_refusal asked.removes p xs a
    ∷ resolving_refusal xs a
    ∷ clash_fault p found
    ∷ merge_lock_refusal session p a b own
    ∷ keeping_refusal asked.keeps p b
    ∷ (if is_even_at a b own then None else rebase_fault a)
    ∷ [])

-- what is merged, and what is gained in turn, and nothing refuses it
pub record Merges (rs : List Stored) (m : ℕ) (xs : List Session) (session : Session) (asked : Asked) (workspace : List ℕ) (a b : Space) (own es : List Entry) : Type 0 where
  pub user : is_short session.user ≡ true
  pub family : NamesFamily rs workspace a b
  pub found : Option Clashed
  pub clash : IsClash (parts_of rs) a b found
  pub clear : merging_refusal session asked (parts_of rs) xs a b found own ≡ None
  pub own_listed : IsHeldListing (parts_of rs) m session.user (own_held (parts_of rs) a) own
  pub gained_listed : IsHeldListing (parts_of rs) m session.user (gained_held (parts_of rs) a b) es

-- the longer of both logs
abbrev pub longer_log_at : Space → Space → List Entry → List Entry → ℕ
longer_log_at a b own es = max (b.log_length + length own) (a.log_length + length es)

abbrev pub keep_edits : Bool → ℕ → List Edit
keep_edits keeps n = if keeps then edits.Keep n ∷ [] else []

abbrev pub replay_edits : ℕ → List NewEntry → List Edit
replay_edits n entries = if length entries == 0 then [] else edits.Replay n entries ∷ []

-- the workspace stands on its parent, unless nothing was merged or pending
abbrev pub rebase_edits : Bool → ℕ → List NewEntry → List Edit
rebase_edits even n entries = if even then [] else edits.Rebase n true ∷ gain_edits n entries

-- there is nothing to do: nothing is to be merged or pending, the workspace has no locks, and nothing is asked for besides
abbrev pub is_idle_at : Asked → Bool → List ℕ → Bool
is_idle_at asked even makings = even && ((length makings == 0) && not (asked.keeps || asked.removes))

-- how the workspace stands behind it: it goes, or it stands on its parent and its locks go
abbrev pub after_edits : Bool → Bool → ℕ → List NewEntry → List ℕ → List Edit
after_edits removes even n entries makings = if removes then edits.Remove n ∷ [] else rebase_edits even n entries ++ unlock_edits makings

abbrev pub merge_edits : Asked → Bool → ℕ → ℕ → List NewEntry → List NewEntry → List ℕ → List Edit
merge_edits asked even n parent own entries makings = keep_edits asked.keeps parent ++ (replay_edits parent own ++ after_edits asked.removes even n entries makings)

-- and of the sessions: where the workspace goes, none holds it any more
abbrev pub freeing : Asked → ℕ → Seating
freeing asked n = if asked.removes then Thaw n else Stay
