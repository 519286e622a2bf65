use Rattle.std.proofs.Common.{Result, Ok, Err, IfOk}
use Rattle.wm_draft.proofs.drafting.draft_one.Goals as goal

-- nothing is said of what other edits cost
says_nothing : {A E : Type 0} (r : Result A E) → IfOk r (λ x. Unit {0})
says_nothing (Ok x) = tt
says_nothing (Err e) = tt

pub returns-in-Create-clause-costs : goal.returns-in-Create-clause-costs
returns-in-Create-clause-costs c = rw c.in-Create.is (says_nothing c.create.result)

pub returns-in-Append-clause-costs : goal.returns-in-Append-clause-costs
returns-in-Append-clause-costs c = rw c.in-Append.is (says_nothing c.append.result)

pub returns-in-Save-clause-costs : goal.returns-in-Save-clause-costs
returns-in-Save-clause-costs c = rw c.in-Save.is (says_nothing c.save.result)

pub returns-in-Bear-clause-costs : goal.returns-in-Bear-clause-costs
returns-in-Bear-clause-costs c = rw c.in-Bear.is (says_nothing c.bear.result)

pub returns-in-Restore-clause-costs : goal.returns-in-Restore-clause-costs
returns-in-Restore-clause-costs c = rw c.in-Restore.is (says_nothing c.restore.result)

pub returns-in_ok-enabled-in-Enable-clause-costs : goal.returns-in_ok-enabled-in-Enable-clause-costs
returns-in_ok-enabled-in-Enable-clause-costs c = rw c.in-Enable.is tt

pub returns-in_ok-remove-in-Remove-clause-costs : goal.returns-in_ok-remove-in-Remove-clause-costs
returns-in_ok-remove-in-Remove-clause-costs c = rw c.in-Remove.is tt
