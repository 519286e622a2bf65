use Rattle.std.proofs.Common.{◌≡◌, ℕ, List, [], ◌∷◌, length, eqb-true, arith, refl, sym, ap, ◌∙◌}
use Rattle.std.proofs.lemmas.Result.{IfOk-weaker}
use Rattle.std.specs.List.{list_all}
use Rattle.wm_graph.specs.Parts.{parts_of}
use Rattle.wm_guard.specs.Orders.{nows}
use Rattle.wm_locks.proofs.Looking.{at_told}
use Rattle.wm_barred.specs.Alone.{is_timed}
use Rattle.wm_barred.proofs.Timed.{timed_at}
use Rattle.wm_barred.proofs.held.locks_on.Goals as goal

none_is : (xs : List ℕ) → length xs ≡ 0 → xs ≡ []
none_is [] e = refl
none_is (x ∷ xs) e = absurd (let never : ⊥ = omega arith in never)

pub returns-then-is_empty-clause-locks : goal.returns-then-is_empty-clause-locks
returns-then-is_empty-clause-locks c =
    ap nows c.new.ensures.items
    ∙ at_told c.args.image.now c.law_of_order.ensures c.requires.rules c.args.cells.table c.args.cells.key.now [] (sym (none_is c.locks_on.result.now (eqb-true (length c.locks_on.result.now) 0 (sym c.if-is_empty.ensures))) ∙ c.locks_on.ensures)

pub returns-clause-timed : goal.returns-clause-timed
returns-clause-timed c =
    IfOk-weaker c.locks_at.result _ _ (λ list are. ap (list_all is_timed) are ∙ timed_at (parts_of c.args.image.now) c.requires.rules c.args.cells.table c.args.cells.key.now) c.locks_at.ensures
