use Rattle.std.proofs.Common.{◌≡◌, ◌+◌, ◌++◌, [], ◌∷◌, ℕ, List, length, drop, append_assoc, append-nil, sym, ap, subst, ◌∙◌}
use Rattle.std.proofs.lemmas.Iterator.Adapters.{YieldsList-from_vec}
use Rattle.std.proofs.lemmas.Iterator.Consumers.{YieldsList-turn, YieldsList-end}
use Rattle.std.proofs.Math.Seq.{drop-length}
use Rattle.std.proofs.lemmas.List.{length_push}
use Rattle.wm_graph.specs.Rules.{differ}
use Rattle.wm_spec.specs.declared.record.table.Table.{Table}
use Rattle.wm_catalog.specs.Catalog.{same_name}
use Rattle.wm_catalog.proofs.Entries.{next_between, unnamed_before}
use Rattle.wm_catalog.proofs.catalog.Catalog.from_tables.Goals as goal

pub loop-table-preserved : goal.loop-table-preserved
loop-table-preserved c = λ differs.
    let all = c.args.tables.items in
    let front = c.loop-table.catalog in
    let n = length c.loop-table.yielded in
    let at = YieldsList-turn (YieldsList-from_vec {s = c.into_iter-table-iterator.result} all c.into_iter-table-iterator.ensures.into_iter_gives.0 (c.into_iter-table-iterator.ensures.into_iter_gives.1 ∙ c.args.tables.ok.0))
    c.loop-table.yielded c.loop-table.table-iterator c.loop-table.yielded_by c.next.result c.next.new.self c.in-Some.table c.in-Some.is c.next.ensures.steps in
    let are = next_between front all n c.in-Some.table at (c.loop-table.invariant differs) in
    let free = unnamed_before front (drop (n + 1) all) c.in-Some.table (ap (λ (ts : List Table). differ same_name ts) are ∙ differs) in
    subst (λ (k : ℕ). c.put.new.self ++ drop k all ≡ all) (sym (length_push c.loop-table.yielded c.in-Some.table))
    (ap (λ (ts : List Table). ts ++ drop (n + 1) all) (c.in_ok-put.ensures free) ∙ append_assoc front (c.in-Some.table ∷ []) (drop (n + 1) all) ∙ are)

pub returns : goal.returns
returns c = λ differs.
    let all = c.args.tables.items in
    let end = YieldsList-end (YieldsList-from_vec {s = c.into_iter-table-iterator.result} all c.into_iter-table-iterator.ensures.into_iter_gives.0 (c.into_iter-table-iterator.ensures.into_iter_gives.1 ∙ c.args.tables.ok.0))
    c.loop-table.yielded c.loop-table.table-iterator c.loop-table.yielded_by c.next.result c.next.new.self c.in-None.is c.next.ensures.steps in
    sym (append-nil c.loop-table.catalog)
    ∙ ap (λ (ts : List Table). c.loop-table.catalog ++ ts) (sym (ap (λ (k : ℕ). drop k all) end.1 ∙ drop-length all))
    ∙ c.loop-table.invariant differs
