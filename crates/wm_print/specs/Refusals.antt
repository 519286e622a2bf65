-- The texts of refusals: identifiers and modes plain, names of workspaces and savepoints between quotes, keys as values.
use Rattle.std.specs.Prelude.{ℕ, List, ◌++◌, Bool, ◌||◌, if◌then◌else◌, codes, nat_eq}
use Rattle.std.specs.List.{starts_with}
use Rattle.std.specs.Str.{bytes_eq}
use Rattle.std.specs.Fmt.{decimal}
use Rattle.wm_base.specs.declared.refusal.Refusal.{Refusal}
use Rattle.wm_base.specs.declared.refusal.Refusal.TheVariants.{Form, Space, Cell, Limit}
use Rattle.wm_base.specs.declared.refusal.FormRefusal.{FormRefusal}
use Rattle.wm_base.specs.declared.refusal.FormRefusal.TheVariants.{Wm001, Wm002, Wm003, Wm004, Wm005, Wm010, Wm011, Wm012, Wm013, Wm014, Wm015, Wm016, Wm017, Wm018, Wm019}
use Rattle.wm_base.specs.declared.refusal.SpaceRefusal.{SpaceRefusal}
use Rattle.wm_base.specs.declared.refusal.SpaceRefusal.TheVariants.{Wm020, Wm021, Wm022, Wm023, Wm024, Wm025, Wm030, Wm031, Wm032, Wm033, Wm040, Wm041, Wm042, Wm043, Wm044, Wm045, Wm046}
use Rattle.wm_base.specs.declared.refusal.CellRefusal.{CellRefusal}
use Rattle.wm_base.specs.declared.refusal.CellRefusal.TheVariants.{Wm050, Wm051, Wm052, Wm053, Wm060, Wm061, Wm062, Wm063, Wm064, Wm065}
use Rattle.wm_base.specs.declared.refusal.LimitRefusal.{LimitRefusal}
use Rattle.wm_base.specs.declared.refusal.LimitRefusal.TheVariants.{Wm070, Wm071, Wm072, Wm073, Wm074, Wm075, Wm076, Wm099}
use Rattle.wm_instants.specs.Texts.{instant_text}
use Rattle.wm_print.specs.Values.{quoted, place_text}

-- whether versioning is on
abbrev pub switch_text : Bool → List ℕ
switch_text on = if on then codes " on" else codes " off"

-- a reserved name is one of a workspace or a savepoint
abbrev pub names_place : List ℕ → Bool
names_place name =
    bytes_eq name (codes "BASE") || (bytes_eq name (codes "DiffBase") || (bytes_eq name (codes "LATEST")
    || (bytes_eq name (codes "LIVE") || starts_with nat_eq name (codes "ICP-"))))

-- a reserved name: between quotes where it is one of a workspace or a savepoint
unfoldable pub reserved_text : List ℕ → List ℕ
reserved_text name = if names_place name then quoted name else name

-- what is wrong with the line itself
unfoldable pub form_text : FormRefusal → List ℕ
form_text Wm001 = codes "WM-001 line too long"
form_text Wm002 = codes "WM-002 not UTF-8"
form_text (Wm003 column) = codes "WM-003 syntax " ++ decimal column
form_text (Wm004 session) = codes "WM-004 no session " ++ session
form_text (Wm005 session) = codes "WM-005 session exists " ++ session
form_text (Wm010 table) = codes "WM-010 no table " ++ table
form_text (Wm011 table) = codes "WM-011 table exists " ++ table
form_text (Wm012 column) = codes "WM-012 no column " ++ column
form_text (Wm013 name) = codes "WM-013 type " ++ name
form_text (Wm014 count) = codes "WM-014 count " ++ decimal count
form_text (Wm015 table) = codes "WM-015 no primary key " ++ table
form_text (Wm016 bytes) = codes "WM-016 bad name " ++ decimal bytes
form_text (Wm017 table) = codes "WM-017 not valid-time " ++ table
form_text (Wm018 table) = codes "WM-018 no history " ++ table
form_text (Wm019 table on) = codes "WM-019 versioning " ++ (table ++ switch_text on)

-- what is wrong with the workspaces, savepoints and moments that the line names
unfoldable pub space_text : SpaceRefusal → List ℕ
space_text (Wm020 workspace) = codes "WM-020 no workspace " ++ quoted workspace
space_text (Wm021 workspace) = codes "WM-021 workspace exists " ++ quoted workspace
space_text (Wm022 savepoint) = codes "WM-022 no savepoint " ++ quoted savepoint
space_text (Wm023 savepoint) = codes "WM-023 savepoint exists " ++ quoted savepoint
space_text (Wm024 name) = codes "WM-024 reserved " ++ reserved_text name
space_text (Wm025 workspace) = codes "WM-025 no parent " ++ quoted workspace
space_text Wm030 = codes "WM-030 not at LATEST"
space_text (Wm031 moment) = codes "WM-031 moment goes back " ++ instant_text moment
space_text (Wm032 workspace birth) = codes "WM-032 date before " ++ (quoted workspace ++ (codes " " ++ instant_text birth))
space_text Wm033 = codes "WM-033 empty period"
space_text (Wm040 workspace mode) = codes "WM-040 frozen " ++ (quoted workspace ++ (codes " " ++ mode))
space_text (Wm041 workspace) = codes "WM-041 already frozen " ++ quoted workspace
space_text (Wm042 workspace) = codes "WM-042 not frozen " ++ quoted workspace
space_text (Wm043 workspace session) = codes "WM-043 session inside " ++ (quoted workspace ++ (codes " " ++ session))
space_text (Wm044 workspace child) = codes "WM-044 has child " ++ (quoted workspace ++ (codes " " ++ quoted child))
space_text (Wm045 child) = codes "WM-045 dependent child " ++ quoted child
space_text (Wm046 savepoint) = codes "WM-046 rebased since " ++ quoted savepoint

-- what is wrong with the cells that the line reads, writes or locks
unfoldable pub cell_text : CellRefusal → List ℕ
cell_text (Wm050 workspace user mode key period) =
    codes "WM-050 locked " ++ (quoted workspace ++ (codes " " ++ (user ++ (codes " " ++ (mode ++ (codes " " ++ place_text key period))))))
cell_text (Wm051 table key period) = codes "WM-051 conflict " ++ (table ++ (codes " " ++ place_text key period))
cell_text (Wm052 workspace session) = codes "WM-052 resolve open " ++ (quoted workspace ++ (codes " " ++ session))
cell_text (Wm053 workspace) = codes "WM-053 no resolve open " ++ quoted workspace
cell_text (Wm060 key period) = codes "WM-060 key there " ++ place_text key period
cell_text (Wm061 column) = codes "WM-061 NULL in " ++ column
cell_text (Wm062 column) = codes "WM-062 key column " ++ column
cell_text (Wm063 column) = codes "WM-063 too heavy " ++ column
cell_text Wm064 = codes "WM-064 out of range"
cell_text (Wm065 column) = codes "WM-065 literal " ++ decimal column

-- what the store does not do, or has no room for
unfoldable pub limit_text : LimitRefusal → List ℕ
limit_text (Wm070 limit) = codes "WM-070 change limit " ++ decimal limit
limit_text Wm071 = codes "WM-071 workspaces 1024"
limit_text Wm072 = codes "WM-072 savepoints 4096"
limit_text Wm073 = codes "WM-073 tables 256"
limit_text Wm074 = codes "WM-074 answer rows 100000"
limit_text Wm075 = codes "WM-075 sessions 256"
limit_text (Wm076 counter) = codes "WM-076 counter " ++ counter
limit_text Wm099 = codes "WM-099 not built yet"

-- the text of a refusal, without the LF behind it
unfoldable pub refusal_text : Refusal → List ℕ
refusal_text (Form refusal) = form_text refusal
refusal_text (Space refusal) = space_text refusal
refusal_text (Cell refusal) = cell_text refusal
refusal_text (Limit refusal) = limit_text refusal
