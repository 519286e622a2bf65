-- What is refused, and what is done behind a refusal.
use Rattle.std.specs.Prelude.{ℕ, List, [], ◌∷◌, Bool, if◌then◌else◌, Option, None, Some}
use Rattle.wm_base.specs.Period.{Span}
use Rattle.wm_base.specs.declared.value.Value.{Value}
use Rattle.wm_base.specs.declared.refusal.Refusal.TheVariants.{Form, Limit}
use Rattle.wm_base.specs.declared.refusal.Refusal.TheVariants as refusals
use Rattle.wm_base.specs.declared.refusal.FormRefusal.TheVariants.{Wm001, Wm002, Wm003, Wm004, Wm005, Wm010, Wm011, Wm013, Wm014, Wm015, Wm016, Wm018, Wm019}
use Rattle.wm_base.specs.declared.refusal.SpaceRefusal.TheVariants.{Wm020, Wm021, Wm022, Wm023, Wm024, Wm025, Wm030, Wm031, Wm032, Wm033, Wm040, Wm041, Wm042, Wm043, Wm044, Wm045, Wm046}
use Rattle.wm_base.specs.declared.refusal.CellRefusal.TheVariants.{Wm050, Wm051, Wm052, Wm053, Wm060, Wm064, Wm065}
use Rattle.wm_base.specs.declared.refusal.LimitRefusal.TheVariants.{Wm070, Wm071, Wm072, Wm073, Wm074, Wm075, Wm076, Wm099}
use Rattle.wm_base.specs.declared.refusal.Refusal.{Refusal}
use Rattle.wm_state.specs.State.{State}
use Rattle.wm_print.specs.Texts.{Answer, Nothing, Fine, Done, Listing, Refused}

-- ---- refusals

abbrev pub not_built : Answer
not_built = Refused (Limit Wm099)

-- the line has more bytes than a line may have, or is no text
abbrev pub too_long_line : Answer
too_long_line = Refused (Form Wm001)

abbrev pub no_text : Answer
no_text = Refused (Form Wm002)

abbrev pub syntax : ℕ → Answer
syntax column = Refused (Form (Wm003 column))

abbrev pub bad_literal : ℕ → Answer
bad_literal column = Refused (refusals.Cell (Wm065 column))

abbrev pub no_session : List ℕ → Answer
no_session name = Refused (Form (Wm004 name))

abbrev pub session_there : List ℕ → Answer
session_there name = Refused (Form (Wm005 name))

-- a name to be made is not of 1 to 30 plain bytes
abbrev pub bad_name : Answer
bad_name = Refused (Form (Wm016 30))

-- a table of such a name has no views
abbrev pub long_name : Answer
long_name = Refused (Form (Wm016 25))

-- an argument of a call does not fit its parameter, or is missing
abbrev pub mistyped : List ℕ → Answer
mistyped parameter = Refused (Form (Wm013 parameter))

abbrev pub reserved_name : List ℕ → Answer
reserved_name name = Refused (refusals.Space (Wm024 name))

abbrev pub no_table : List ℕ → Answer
no_table name = Refused (Form (Wm010 name))

-- the table keeps none
abbrev pub no_history : List ℕ → Answer
no_history name = Refused (Form (Wm018 name))

abbrev pub table_there : List ℕ → Answer
table_there name = Refused (Form (Wm011 name))

-- a table is ready for rows, or it is not
abbrev pub versioning : List ℕ → Bool → Answer
versioning name on = Refused (Form (Wm019 name on))

abbrev pub no_key : List ℕ → Answer
no_key name = Refused (Form (Wm015 name))

abbrev pub no_workspace : List ℕ → Answer
no_workspace name = Refused (refusals.Space (Wm020 name))

abbrev pub workspace_there : List ℕ → Answer
workspace_there name = Refused (refusals.Space (Wm021 name))

-- so many arguments are asked for
abbrev pub miscounted : ℕ → Answer
miscounted count = Refused (Form (Wm014 count))

abbrev pub no_savepoint : List ℕ → Answer
no_savepoint name = Refused (refusals.Space (Wm022 name))

abbrev pub savepoint_there : List ℕ → Answer
savepoint_there name = Refused (refusals.Space (Wm023 name))

-- LIVE has no parent
abbrev pub no_parent : List ℕ → Answer
no_parent name = Refused (refusals.Space (Wm025 name))

-- a workspace is frozen in a mode, is so already, or is not
abbrev pub frozen : List ℕ → List ℕ → Answer
frozen workspace mode = Refused (refusals.Space (Wm040 workspace mode))

abbrev pub already_frozen : List ℕ → Answer
already_frozen workspace = Refused (refusals.Space (Wm041 workspace))

abbrev pub not_frozen : List ℕ → Answer
not_frozen workspace = Refused (refusals.Space (Wm042 workspace))

-- a session stands where what it sees would go
abbrev pub session_inside : List ℕ → List ℕ → Answer
session_inside workspace session = Refused (refusals.Space (Wm043 workspace session))

abbrev pub has_child : List ℕ → List ℕ → Answer
has_child workspace child = Refused (refusals.Space (Wm044 workspace child))

-- a child took of its parent what would go
abbrev pub dependent_child : List ℕ → Answer
dependent_child child = Refused (refusals.Space (Wm045 child))

-- the workspace was rebased behind a savepoint
abbrev pub rebased_since : List ℕ → Answer
rebased_since name = Refused (refusals.Space (Wm046 name))

abbrev pub not_latest : Answer
not_latest = Refused (refusals.Space Wm030)

-- a date is before the birth of a workspace
abbrev pub date_before : List ℕ → ℕ → Answer
date_before workspace birth = Refused (refusals.Space (Wm032 workspace birth))

-- the moment is later than one that is to be set
abbrev pub moment_back : ℕ → Answer
moment_back moment = Refused (refusals.Space (Wm031 moment))

-- a row of the key stands, in a table with valid time in this period
abbrev pub key_there : List Value → Option Span → Answer
key_there key period = Refused (refusals.Cell (Wm060 key period))

-- a workspace and its parent both changed a key of a table, in a table with valid time in this period
abbrev pub in_conflict : List ℕ → List Value → Option Span → Answer
in_conflict table key period = Refused (refusals.Cell (Wm051 table key period))

-- a lock of a user, in a workspace and a mode, keeps the line from a key, in a table with valid time in this period
abbrev pub locked : (workspace user mode : List ℕ) → List Value → Option Span → Answer
locked workspace user mode key period = Refused (refusals.Cell (Wm050 workspace user mode key period))

-- a session has a resolve of the workspace open
abbrev pub resolve_open : List ℕ → List ℕ → Answer
resolve_open workspace session = Refused (refusals.Cell (Wm052 workspace session))

-- and the one that asks has not
abbrev pub no_resolve : List ℕ → Answer
no_resolve workspace = Refused (refusals.Cell (Wm053 workspace))

-- a period has no moment
abbrev pub empty_period : Answer
empty_period = Refused (refusals.Space Wm033)

abbrev pub change_limit : ℕ → Answer
change_limit limit = Refused (Limit (Wm070 limit))

abbrev pub most_workspaces : Answer
most_workspaces = Refused (Limit Wm071)

abbrev pub most_savepoints : Answer
most_savepoints = Refused (Limit Wm072)

abbrev pub most_tables : Answer
most_tables = Refused (Limit Wm073)

abbrev pub most_rows : Answer
most_rows = Refused (Limit Wm074)

abbrev pub most_sessions : Answer
most_sessions = Refused (Limit Wm075)

abbrev pub out_of_range : Answer
out_of_range = Refused (refusals.Cell Wm064)

abbrev pub at_its_end : List ℕ → Answer
at_its_end counter = Refused (Limit (Wm076 counter))

-- the refusal that an answer is, if it is one
abbrev pub refusal_of : Answer → Option Refusal
refusal_of Nothing = None
refusal_of Fine = None
refusal_of (Done count) = None
refusal_of (Listing rows) = None
refusal_of (Refused refusal) = Some refusal

-- ---- one refusal behind another

-- this refusal where the test holds
abbrev pub refused_if : Bool → Answer → Option Refusal
refused_if test answer = if test then refusal_of answer else None

-- the refusal for what was found, if anything was
abbrev pub refused_for : {A : Type 0} → (A → Answer) → Option A → Option Refusal
refused_for tells None = None
refused_for tells (Some x) = refusal_of (tells x)

-- the first of what a line is refused for, in the order in which it is told
abbrev pub first_fault : List (Option Refusal) → Option Refusal
first_fault [] = None
first_fault (None ∷ others) = first_fault others
first_fault (Some refusal ∷ others) = Some refusal

-- the refusal where there is one, and else what is done
abbrev pub unless : Option Refusal → State → State × Answer → State × Answer
unless None s done = done
unless (Some refusal) s done = (s, Refused refusal)

-- so for an argument that does not fit
abbrev pub unless_mistyped : Option (List ℕ) → State → State × Answer → State × Answer
unless_mistyped None s done = done
unless_mistyped (Some parameter) s done = (s, mistyped parameter)

-- what is done where no period that the statement has is empty
abbrev pub unless_empty_period : Bool → State → State × Answer → State × Answer
unless_empty_period empty s done = if empty then (s, empty_period) else done
