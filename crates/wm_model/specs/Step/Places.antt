-- The order in which refusals are told: the rows of their table.
use Rattle.std.specs.Prelude.{ℕ, nat_le, if◌then◌else◌, List, [], ◌∷◌, Option, None, Some}
use Rattle.wm_base.specs.declared.refusal.Refusal.{Refusal}
use Rattle.wm_base.specs.declared.refusal.Refusal.TheVariants as refusals
use Rattle.wm_base.specs.declared.refusal.FormRefusal.{FormRefusal}
use Rattle.wm_base.specs.declared.refusal.FormRefusal.TheVariants.{Wm001, Wm002, Wm003, Wm004, Wm005, Wm010, Wm011, Wm012, Wm013, Wm014, Wm015, Wm016, Wm017, Wm018, Wm019}
use Rattle.wm_base.specs.declared.refusal.SpaceRefusal.{SpaceRefusal}
use Rattle.wm_base.specs.declared.refusal.SpaceRefusal.TheVariants.{Wm020, Wm021, Wm022, Wm023, Wm024, Wm025, Wm030, Wm031, Wm032, Wm033, Wm040, Wm041, Wm042, Wm043, Wm044, Wm045, Wm046}
use Rattle.wm_base.specs.declared.refusal.CellRefusal.{CellRefusal}
use Rattle.wm_base.specs.declared.refusal.CellRefusal.TheVariants.{Wm050, Wm051, Wm052, Wm053, Wm060, Wm061, Wm062, Wm063, Wm064, Wm065}
use Rattle.wm_base.specs.declared.refusal.LimitRefusal.{LimitRefusal}
use Rattle.wm_base.specs.declared.refusal.LimitRefusal.TheVariants.{Wm070, Wm071, Wm072, Wm073, Wm074, Wm075, Wm076, Wm099}

abbrev pub form_place : FormRefusal → ℕ
form_place Wm001 = 1
form_place Wm002 = 2
form_place (Wm003 column) = 3
form_place (Wm004 name) = 5
form_place (Wm005 name) = 6
form_place (Wm016 most) = 7
form_place (Wm010 name) = 9
form_place (Wm011 name) = 10
form_place (Wm019 name on) = 11
form_place (Wm012 name) = 12
form_place (Wm014 count) = 13
form_place (Wm013 name) = 14
form_place (Wm015 name) = 15
form_place (Wm017 name) = 17
form_place (Wm018 name) = 18

abbrev pub space_place : SpaceRefusal → ℕ
space_place (Wm024 name) = 8
space_place (Wm020 name) = 19
space_place (Wm021 name) = 20
space_place (Wm022 name) = 21
space_place (Wm023 name) = 22
space_place (Wm025 name) = 23
space_place Wm030 = 24
space_place (Wm031 moment) = 25
space_place (Wm032 name moment) = 26
space_place Wm033 = 27
space_place (Wm040 name mode) = 28
space_place (Wm041 name) = 29
space_place (Wm042 name) = 30
space_place (Wm043 name session) = 31
space_place (Wm044 name child) = 32
space_place (Wm045 child) = 33
space_place (Wm046 name) = 34

abbrev pub cell_place : CellRefusal → ℕ
cell_place (Wm065 column) = 4
cell_place (Wm062 name) = 16
cell_place (Wm052 name session) = 35
cell_place (Wm053 name) = 36
cell_place Wm064 = 37
cell_place (Wm061 name) = 38
cell_place (Wm063 name) = 39
cell_place (Wm060 key period) = 40
cell_place (Wm051 table key period) = 41
cell_place (Wm050 workspace user mode key period) = 42

abbrev pub limit_place : LimitRefusal → ℕ
limit_place (Wm070 limit) = 43
limit_place Wm071 = 44
limit_place Wm072 = 45
limit_place Wm073 = 46
limit_place Wm074 = 47
limit_place Wm075 = 48
limit_place (Wm076 counter) = 49
limit_place Wm099 = 50

abbrev pub place : Refusal → ℕ
place (refusals.Form r) = form_place r
place (refusals.Space r) = space_place r
place (refusals.Cell r) = cell_place r
place (refusals.Limit r) = limit_place r

-- of two faults the one that is told: the one of the lesser place, and of one place the first
abbrev pub sooner : Option Refusal → Option Refusal → Option Refusal
sooner None other = other
sooner (Some r) None = Some r
sooner (Some r) (Some q) = if nat_le (place r) (place q) then Some r else Some q

-- what is told of all faults
unfoldable pub least : List (Option Refusal) → Option Refusal
least [] = None
least (fault ∷ faults) = sooner fault (least faults)
