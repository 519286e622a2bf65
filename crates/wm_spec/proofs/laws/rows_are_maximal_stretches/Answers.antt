use Rattle.wm_spec.proofs.Stretches.{value-rows, AreMaximal-rows}
use Rattle.wm_spec.proofs.laws.rows_are_maximal_stretches.Goals as goal

pub returns-clause-held : goal.returns-clause-held
returns-clause-held c = value-rows

pub returns-clause-maximal : goal.returns-clause-maximal
returns-clause-maximal c = AreMaximal-rows
