-- What is found of conflicts and asked of a merge, as the code has it, and whether the turn of a rebase is there.
use Rattle.std.specs.Prelude.{◌+◌, ◌&&◌, Bool, not, nat_lt}
use Rattle.std.specs.List.{list_any}
use Rattle.wm_graph.specs.Parts.{Parts}
use Rattle.wm_model.specs.Merged.{Clashed}
use Rattle.wm_model.specs.Step as step
use Rattle.wm_model.specs.Step.{number_limit}
use Rattle.wm_merge.specs.declared.merging.Asked.{Asked}
use Rattle.wm_pending.specs.declared.clash.Clash.{Clash}
use Rattle.wm_spec.specs.declared.record.space.Space.{Space}
use Rattle.wm_state.specs.Drafts.{is_turn}

abbrev pub clashed : Clash → Clashed
clashed x = record { table = x.table; key = x.key; period = x.period }

abbrev pub asked_view : Asked → step.Asked
asked_view a = record { keeps = a.keeps; removes = a.removes }

-- a workspace may be rebased once more, and the turn that this makes is there already
abbrev pub has_next_turn : Parts → Space → Bool
has_next_turn p a = not (nat_lt number_limit (a.rebases + 1)) && list_any (is_turn a.number (a.rebases + 1)) p.turns
