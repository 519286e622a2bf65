use Rattle.std.proofs.Common.{List, sym, ap, subst, ◌∙◌}
use Rattle.wm_graph.specs.Parts.{parts_of}
use Rattle.wm_records.specs.Hops.{AreHops}
use Rattle.wm_spec.specs.declared.record.stored.Stored.{Stored}
use Rattle.wm_records.proofs.records.change_one.Goals as goal

pub returns-in_ok-set-in-Ok-clause-indexed : goal.returns-in_ok-set-in-Ok-clause-indexed
returns-in_ok-set-in-Ok-clause-indexed c = c.in-Ok.ensures.indexed c.set.new.kept c.in_ok-set-in-Ok.ensures.ordered c.in_ok-set-in-Ok.ensures.listed

pub returns-in_ok-set-in-Ok-clause-tables : goal.returns-in_ok-set-in-Ok-clause-tables
returns-in_ok-set-in-Ok-clause-tables c = λ untouched. ap (λ (ss : List Stored). (parts_of ss).tables) c.in_ok-set-in-Ok.ensures.listed ∙ c.in-Ok.ensures.tables untouched

pub returns-in_ok-set-in-Ok-clause-hops : goal.returns-in_ok-set-in-Ok-clause-hops
returns-in_ok-set-in-Ok-clause-hops c = subst (λ (ss : List Stored). AreHops (parts_of ss).versions c.reindex.new.hops) (sym c.in_ok-set-in-Ok.ensures.listed) c.in-Ok.ensures.hops
