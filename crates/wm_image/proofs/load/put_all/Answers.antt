use Rattle.std.proofs.Common.{◌≡◌, List, [], ◌∷◌, ◌++◌, append_assoc, Some, sym, ap, subst, ◌∙◌}
use Rattle.std.proofs.lemmas.Iterator.Adapters.{YieldsList-from_vec}
use Rattle.std.proofs.lemmas.Iterator.Consumers.{YieldsList-end}
use Rattle.std.proofs.lemmas.List.{append-nil, map-id}
use Rattle.wm_image.proofs.Gaining.{index_of_none}
use Rattle.wm_image.proofs.Loading.{set_at-last}
use Rattle.wm_records.proofs.Lists.{record_at-before}
use Rattle.wm_spec.specs.Records.{record_at}
use Rattle.wm_spec.specs.declared.record.stored.Stored.{Stored}
use Rattle.wm_state.specs.ById.{Ascend, set_at}
use Rattle.wm_image.proofs.load.put_all.Goals as goal

pub add_all-requires-clause-empty : goal.add_all-requires-clause-empty
add_all-requires-clause-empty c = index_of_none c.as_slice.result.now c.args.kept.now c.args.index.now c.requires.indexed c.requires.empty

pub loop-one-preserved : goal.loop-one-preserved
loop-one-preserved c =
    let before : List Stored = c.loop-one.yielded in
    let one : Stored = c.in-Some.one in
    let sorted : (rest : List Stored) → Ascend ((before ++ one ∷ []) ++ rest) → Ascend (before ++ one ∷ rest) = λ rest up. subst Ascend (append_assoc before (one ∷ []) rest) up in
    record {
      ordered = c.in_ok-put_one.ensures.ordered;
      are = λ rest up.
          c.in_ok-put_one.ensures.listed
          ∙ ap (set_at one.id (Some one.record)) (c.loop-one.invariant.are (one ∷ rest) (sorted rest up))
          ∙ set_at-last before one rest (sorted rest up);
      hops = λ rest up.
          c.in_ok-put_one.ensures.hops
          (ap (λ (ss : List Stored). record_at ss one.id) (c.loop-one.invariant.are (one ∷ rest) (sorted rest up)) ∙ record_at-before before one rest (sorted rest up))
          (c.loop-one.invariant.hops (one ∷ rest) (sorted rest up));
    }

-- all are put, and stand by id
all_put : (c : goal.After-drop-one-iterator-2) → c.loop-one.yielded ≡ c.args.records
all_put c =
    let gives = c.into_iter-one-iterator.ensures.into_iter_gives in
    let all = YieldsList-end (YieldsList-from_vec {s = c.into_iter-one-iterator.result} c.into_vec-one-items.result.items gives.0 (gives.1 ∙ c.into_vec-one-items.result.ok.0)) c.loop-one.yielded c.loop-one.one-iterator
    c.loop-one.yielded_by c.next.result c.next.new.self c.in-None.is c.next.ensures.steps in
    sym (map-id c.loop-one.yielded) ∙ all.0 ∙ c.into_vec-one-items.ensures

up : (c : goal.After-drop-one-iterator-2) → Ascend (c.loop-one.yielded ++ [])
up c = subst Ascend (sym (append-nil c.loop-one.yielded ∙ all_put c)) c.requires.ascend

pub returns-clause-listed : goal.returns-clause-listed
returns-clause-listed c = c.loop-one.invariant.are [] (up c) ∙ all_put c

pub returns-clause-indexed : goal.returns-clause-indexed
returns-clause-indexed c =
    c.in_ok-add_all.ensures c.loop-one.kept c.loop-one.invariant.ordered (c.loop-one.invariant.are [] (up c) ∙ all_put c ∙ sym c.as_slice.ensures)

pub returns-clause-hops : goal.returns-clause-hops
returns-clause-hops c = c.loop-one.invariant.hops [] (up c)
