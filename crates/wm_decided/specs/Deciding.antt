-- Decisions on the conflicts of a workspace with its parent.
use Rattle.std.specs.Prelude.{ℕ, Bool, if◌then◌else◌, List, [], length, is_some, Option, None, Some}
use Rattle.std.specs.List.{filter, filter_map}
use Rattle.std.specs.Option.{option_map}
use Rattle.wm_base.specs.declared.value.Value.{Value}
use Rattle.wm_net.specs.Conflicts.{Sides, Stamps, conflicts_in}
use Rattle.wm_net.specs.Groups.{Group, cell}
use Rattle.wm_net.specs.Listed.{Stretch, stretches, within}
use Rattle.wm_net.specs.Nets.{one_stamp}
use Rattle.wm_spec.specs.Lists.{Entry, Told, told}
use Rattle.wm_spec.specs.Stretches.{cut_in, cuts}
use Rattle.wm_state.specs.State.{Decision}
use Rattle.wm_decided.specs.declared.keep.Keep.{Keep}
use Rattle.wm_decided.specs.declared.keep.Keep.TheVariants.{Parent, Child, Base}

-- what a list says at the moments of a stretch of a key, each period as long as can be
abbrev pub told_on : List Entry → Group → Stretch Stamps → List (Stretch Told)
told_on es g s = stretches one_stamp (λ t. if within s.from s.till t then told es (cell g t) else None) 0 (cut_in s.from 0 (cut_in s.till 0 (cuts es g.table g.key)))

-- what is copied of a stretch of conflict: what the parent says there, gone or not, nothing, or the row of the base; where the base has no
-- row, the stretch is passed over
abbrev pub copied_on : Keep → Sides → Group × Stretch Stamps → Option (List (Stretch Told))
copied_on Parent s x = Some (told_on s.parent x.0 x.1)
copied_on Child s x = Some []
copied_on Base s x = if is_some x.1.value.base then Some (told_on s.base x.0 x.1) else None

-- the decision that copies this
abbrev pub decision_of : Group × Stretch Stamps → ℕ → List (Stretch Told) → Decision
decision_of x position copied = record { table = x.0.table; key = x.0.key; from = x.1.from; till = x.1.till; copied = copied; position = position }

-- a decision on a stretch of conflict, at the length of the parent's log
abbrev pub decided_on : Keep → Sides → Group × Stretch Stamps → Option Decision
decided_on keep s x = option_map (decision_of x (length s.log)) (copied_on keep s x)

-- decisions on the stretches of conflict of a table whose keys pass a test
abbrev pub decisions_in : Keep → Sides → ℕ → (List Value → Bool) → List Decision
decisions_in keep s table test = filter_map (decided_on keep s) (filter (λ (x : Group × Stretch Stamps). test x.0.key) (conflicts_in table s))
