use Rattle.std.proofs.Common.{arith}
use Rattle.wm_heap.proofs.Sizes.{used-least}
use Rattle.wm_heap.proofs.slot.Slots.fit_with.Goals as goal

pub returns-then-len-gt4084-clause-no : goal.returns-then-len-gt4084-clause-no
returns-then-len-gt4084-clause-no c = λ _. omega (arith, used-least c.args.self.now)
