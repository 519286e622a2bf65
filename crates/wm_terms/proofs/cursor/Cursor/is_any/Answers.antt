use Rattle.std.proofs.Common.{◌≡◌, ◌∙◌, subst, sym, drop, map, ℕ}
use Rattle.wm_grammar.specs.Symbols.{has}
use Rattle.wm_grammar.specs.Sorts.{code_of}
use Rattle.wm_terms.proofs.Peeking.{found_among, none_among}
use Rattle.wm_terms.proofs.cursor.Cursor.is_any.Goals as goal

pub returns-then-next-code : goal.returns-then-next-code
returns-then-next-code c =
    let same : has (map code_of c.args.sorts.now) (code_of c.self.inside.next) ≡ has (map code_of (drop c.loop-sort.sort-index c.args.sorts.now)) (code_of c.self.inside.next)
    = subst (λ (n : ℕ). has (map code_of c.args.sorts.now) n ≡ has (map code_of (drop c.loop-sort.sort-index c.args.sorts.now)) n) c.code-next.ensures c.loop-sort.invariant in
    found_among c.self.inside.rest.now (code_of c.self.inside.next) c.self.inside.size c.args.sorts.now _ c.loop-sort.sort-index c.code.result c.args.self.now c.self.invariant.peeks c.self.view_is c.requires same c.loop-sort-test.true
    (sym c.code-next.ensures ∙ c.if-next-code.true) c.code.ensures

pub returns : goal.returns
returns c =
    let same : has (map code_of c.args.sorts.now) (code_of c.self.inside.next) ≡ has (map code_of (drop c.loop-sort.sort-index c.args.sorts.now)) (code_of c.self.inside.next)
    = subst (λ (n : ℕ). has (map code_of c.args.sorts.now) n ≡ has (map code_of (drop c.loop-sort.sort-index c.args.sorts.now)) n) c.code-next.ensures c.loop-sort.invariant in
    none_among c.self.inside.rest.now (code_of c.self.inside.next) c.self.inside.size c.args.sorts.now c.loop-sort.sort-index c.args.self.now c.self.invariant.peeks c.self.view_is c.requires same c.loop-sort-test.false
