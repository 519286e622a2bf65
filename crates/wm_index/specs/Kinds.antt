-- Those of a kind among the records of some ids, and what is made of them.
use Rattle.std.specs.Prelude.{ℕ, ◌+◌, Bool, max, List, [], ◌∷◌, Option, Some, None}
use Rattle.std.specs.Bool.{then_some}
use Rattle.std.specs.List.{filter_map}
use Rattle.wm_spec.specs.Records.{record_at}
use Rattle.wm_spec.specs.declared.record.Record.{Record}
use Rattle.wm_spec.specs.declared.record.stored.Stored.{Stored}
use Rattle.wm_spec.specs.declared.record.version.Version.{Version}

-- those of a kind among the records of some ids
abbrev pub kind_at : {A : Type 0} → (Record → Option A) → List Stored → List ℕ → List A
kind_at kind ss ids = filter_map kind (filter_map (record_at ss) ids)

-- the greatest number of versions, 0 where there is none
abbrev pub greatest : List Version → ℕ
greatest [] = 0
greatest (v ∷ vs) = max v.number (greatest vs)

-- a value, where it passes a test
abbrev pub passing : {A : Type 0} → (A → Bool) → Option A → Option A
passing p None = None
passing p (Some x) = then_some (p x) x

-- the number after the last, and another where there is none
abbrev pub after : ℕ → Option ℕ → ℕ
after none None = none
after none (Some n) = n + 1
