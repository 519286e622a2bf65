use Rattle.std.proofs.Common.{Bool, rules, sym, ap, ◌∙◌}
use Rattle.std.proofs.lemmas.Fn.{always_returns_same}
use Rattle.std.proofs.lemmas.List.Sorted.{ranks_by}
use Rattle.std.specs.Cmp.{IsStrictWeakOrder}
use Rattle.std.specs.Ordering.{is_lt}
use denote.Ref.{Bor}
use Rattle.wm_ordering.specs.Sorting.{sorted}
use Rattle.wm_ordering.proofs.SortLemmas.{sorted_is}
use Rattle.wm_spec.specs.declared.record.lock.Lock.{Lock}
use Rattle.wm_guard.specs.Orders.{key_places, nows}
use Rattle.wm_guard.proofs.Order.{comes_first, key_places_total, sorted_map}
use Rattle.wm_guard.proofs.barring.sort_on_key.Goals as goal

pub returns : goal.returns
returns c =
    let now : Bor Lock → Lock = λ b. b.now in
    let lt : Bor Lock → Bor Lock → Bool = λ a b. is_lt (key_places a.now b.now) in
    let ranks : IsStrictWeakOrder lt = ranks_by key_places_total now in
    ap nows (sorted_is lt ranks c.args.locks.now.items c.sort_by.new.self.items
    (c.in_ok-sort_by.ensures.sorted lt ranks (always_returns_same _ _ _ (λ a r f k. search rules)))
    (c.in_ok-sort_by.ensures.stable lt ranks (always_returns_same _ _ _ (λ a r f k. search rules))))
    ∙ sym (sorted_map now (λ (x y : Lock). is_lt (key_places x y)) c.args.locks.now.items)
    ∙ (λ i. sorted (λ x y. comes_first x y i) (nows c.args.locks.now.items))
