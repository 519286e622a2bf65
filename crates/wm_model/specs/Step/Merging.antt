-- RefreshWorkspace and MergeWorkspace.
use Rattle.std.specs.Prelude.{ℕ, ◌+◌, List, [], ◌∷◌, Bool, true, false, not, ◌&&◌, ◌||◌, ◌==◌, nat_le, nat_lt, if◌then◌else◌, length, map, drop, max, slice_get, is_some, Option, None, Some, codes}
use Rattle.wm_base.specs.declared.refusal.Refusal.{Refusal}
use Rattle.wm_graph.specs.Parts.{table_of}
use Rattle.wm_net.specs.Conflicts.{Stamps, conflicts}
use Rattle.wm_net.specs.Groups.{Group}
use Rattle.wm_net.specs.Listed.{Stretch}
use Rattle.wm_net.specs.Nets.{gained, net}
use Rattle.wm_spec.specs.Lists.{Entry}
use Rattle.wm_spec.specs.declared.record.table.Table.{Table}
use Rattle.wm_state.specs.State.{Durable, State, Session, Workspace, savepoint_named, with_entries, with_gained, with_space}
use Rattle.wm_state.specs.Editing.{implicit_name, kept_in, number_limit, rebased, unlocked_of, without}
pub use Rattle.wm_telling.specs.Sides.{sides}
use Rattle.wm_outline.specs.Outline.{outline}
use Rattle.wm_print.specs.Texts.{Answer, Fine}
use Rattle.wm_model.specs.Seating.{thawed}
use Rattle.wm_model.specs.Step.Refusing.{at_its_end, first_fault, has_child, in_conflict, most_savepoints, no_parent, refused_for, refused_if, savepoint_there, session_inside, unless}
use Rattle.wm_model.specs.Step.Counting.{durably}
use Rattle.wm_model.specs.Step.Locks.{Claim, cells_of, has_locks, lock_fault}
use Rattle.wm_model.specs.Step.Periods.{told_period}
pub use Rattle.wm_model.specs.Step.Naming.{parent_in}
use Rattle.wm_model.specs.Step.Naming.{with_named}
use Rattle.wm_model.specs.Step.Older.{first_name, is_child, is_inside, resolving_fault}
use Rattle.wm_model.specs.Step.Undoing.{first_session}

-- ---- a workspace beside its parent

-- what the parent changed since the workspace took its copy
abbrev pub pending : Workspace → Workspace → List Entry
pending p w = drop w.from p.lists.log

abbrev pub is_quiet : Workspace → Workspace → Bool
is_quiet p w = nat_le (length p.lists.log) w.from

-- what the workspace gains of its parent, as entries of a line
abbrev pub gained_of : ℕ → List ℕ → Workspace → Workspace → List Entry
gained_of moment user p w = gained moment user w.lists.own (pending p w)

-- ---- conflicts

-- the refusal for a stretch of conflict; its table is there in each state that lines lead to
abbrev pub conflict_told : List Table → Group × Stretch Stamps → Answer
conflict_told tables x = of (table_of tables x.0.table)
  where
    of : Option Table → Answer
    of None = in_conflict [] x.0.key None
    of (Some table) = in_conflict table.name x.0.key (told_period table (record { from = x.1.from; till = x.1.till }))

-- the first one, by table, key and from
abbrev pub conflict_fault : State → Workspace → Workspace → Option Refusal
conflict_fault s p w = refused_for (conflict_told s.durable.tables) (slice_get (conflicts (sides p w)) 0)

-- ---- a refresh

-- what RefreshWorkspace is refused for
abbrev pub refreshing_faults : State → Workspace → Workspace → List (Option Refusal)
refreshing_faults s p w =
    resolving_fault s w
    ∷ conflict_fault s p w
    ∷ refused_if (not (is_quiet p w) && nat_lt number_limit (w.rebases + 1)) (at_its_end (codes "REBASE"))
    ∷ []

-- a workspace that gained what is pending, on its parent as that is now
abbrev pub refreshed : List Entry → Workspace → Workspace → Workspace
refreshed es p w = rebased false p (with_gained es w)

abbrev pub refresh : Session → Workspace → Workspace → State → State × Answer
refresh session p w s =
    let es = gained_of s.moment session.user p w in
    if is_quiet p w then (s, Fine) else
    durably s (length w.lists.log + length es) (record s { durable = record s.durable { spaces = with_space w.number (refreshed es p) s.durable.spaces } }, Fine)

-- RefreshWorkspace brings into a workspace, which is not LIVE, what its parent gained since
abbrev pub refresh_workspace : Session → List ℕ → State → State × Answer
refresh_workspace session name s = with_named s name (λ w. if w.number == 0 then (s, no_parent name) else to (parent_in s w) w)
  where
    to : Workspace → Workspace → State × Answer
    to p w = unless (first_fault (refreshing_faults s p w)) s (refresh session p w s)

-- ---- a merge

-- what MergeWorkspace is asked to do besides: to make an implicit savepoint of the parent first, and to remove the workspace
pub record Asked : Type 0 where
  pub keeps : Bool
  pub removes : Bool

-- nothing is to be merged, and nothing is pending
abbrev pub is_even : Workspace → Workspace → Bool
is_even p w = (length w.lists.own == 0) && is_quiet p w

-- what a merge with removal is refused for
abbrev pub leaving_faults : Bool → State → Workspace → List (Option Refusal)
leaving_faults removes s w =
    (if removes then refused_for (session_inside w.name) (first_session (is_inside w) s.sessions) else None)
    ∷ (if removes then refused_for (has_child w.name) (first_name (is_child w) s) else None)
    ∷ []

-- what a merge is refused for whose savepoint the parent has no room for
abbrev pub keeping_faults : Bool → Workspace → List (Option Refusal)
keeping_faults keeps p =
    refused_if (keeps && nat_le 4096 (length p.savepoints)) most_savepoints
    ∷ refused_if (keeps && nat_lt number_limit (p.next_place + 1)) (at_its_end (codes "PLACE"))
    ∷ refused_if (keeps && nat_lt number_limit (p.next_implicit + 1)) (at_its_end (codes "ICP"))
    ∷ []

-- the merge changes in the parent what the workspace has of its own; the locks of the workspace itself do not bar it
abbrev pub merge_claim : Session → Workspace → Workspace → Claim
merge_claim session p w = record { space = p.number; user = session.user; except = Some w.number }

abbrev pub merge_lock_fault : Session → State → Workspace → Workspace → Option Refusal
merge_lock_fault session s p w = lock_fault (outline s) (merge_claim session p w) (map cells_of (net s.moment session.user w.lists.own))

-- what MergeWorkspace is refused for
abbrev pub merging_faults : Session → Asked → State → Workspace → Workspace → List (Option Refusal)
merging_faults session asked s p w =
    refused_if (asked.keeps && is_some (savepoint_named (implicit_name p) p.savepoints)) (savepoint_there (implicit_name p))
    ∷ first_fault (leaving_faults asked.removes s w)
    ∷ resolving_fault s w
    ∷ conflict_fault s p w
    ∷ merge_lock_fault session s p w
    ∷ first_fault (keeping_faults asked.keeps p)
    ∷ refused_if (not (is_even p w) && nat_lt number_limit (w.rebases + 1)) (at_its_end (codes "REBASE"))
    ∷ []

-- the parent with what is merged, and the workspace on it
abbrev pub merged : List Entry → List Entry → Workspace → Workspace → Durable → Durable
merged own es p w d = record d { spaces = with_space w.number (λ v. rebased true (with_entries own p) (with_gained es v)) (with_space p.number (with_entries own) d.spaces) }

-- where something is to be merged or pending
abbrev pub merged_with : List Entry → List Entry → Workspace → Workspace → Durable → Durable
merged_with own es p w d = if is_even p w then d else merged own es p w d

-- what was asked for besides comes before and behind; the locks of the workspace go
abbrev pub merged_as : Asked → ℕ → List ℕ → Workspace → Workspace → Durable → Durable
merged_as asked moment user p w d =
    let own = net moment user w.lists.own in
    let es = gained_of moment user p w in
    let e = merged_with own es p w (if asked.keeps then kept_in moment p.number d else d) in
    record e { spaces = if asked.removes then without w.number e.spaces else e.spaces; locks = unlocked_of w.number e.locks }

-- the length of the longer of both logs
abbrev pub longer_log : ℕ → List ℕ → Workspace → Workspace → ℕ
longer_log moment user p w = max (length p.lists.log + length (net moment user w.lists.own)) (length w.lists.log + length (gained_of moment user p w))

-- where the workspace goes, the session that froze it for itself, if one did, does not hold it any more
abbrev pub freed_by : Asked → Workspace → List Session → List Session
freed_by asked w sessions = if asked.removes then map (thawed w.number) sessions else sessions

abbrev pub merge : Session → Asked → Workspace → Workspace → State → State × Answer
merge session asked p w s =
    if is_even p w && not (has_locks w.number s.durable.locks || (asked.keeps || asked.removes)) then (s, Fine) else
    durably s (longer_log s.moment session.user p w)
    (record s { durable = merged_as asked s.moment session.user p w s.durable; sessions = freed_by asked w s.sessions }, Fine)

-- MergeWorkspace brings what a workspace, which is not LIVE, has of its own into its parent
abbrev pub merge_workspace : Session → Asked → List ℕ → State → State × Answer
merge_workspace session asked name s = with_named s name (λ w. if w.number == 0 then (s, no_parent name) else to (parent_in s w) w)
  where
    to : Workspace → Workspace → State × Answer
    to p w = unless (first_fault (merging_faults session asked s p w)) s (merge session asked p w s)
