use Rattle.std.proofs.Common.{ℕ, ◌+◌, ◌*◌, ◌/◌, rules}
use Rattle.std.proofs.lemmas.Fn.{always_returns_same}
use Rattle.std.specs.Ordering.{nat_cmp}
use Rattle.wm_chunks.proofs.Placing.{within_from}
use Rattle.wm_chunks.proofs.Rising.{fitting_place, found_place}
use Rattle.wm_chunks.specs.Numbers.{entry_number}
use Rattle.wm_chunks.proofs.chunk.search.Goals as goal

pub returns-clause-found : goal.returns-clause-found
returns-clause-found g c =
    let low : ℕ = c.args.number / 32 * 32 in
    found_place entry_number low c.args.chunk.now c.args.number c.binary_search_by.result (within_from low (low + 32) c.args.chunk.now c.requires) c.binary_search_by.ensures.bound
    (c.binary_search_by.ensures.position (λ e. nat_cmp e.0 c.args.number) (always_returns_same _ _ _ (λ a r q e. search rules)))

pub returns-clause-fits : goal.returns-clause-fits
returns-clause-fits g c =
    let low : ℕ = c.args.number / 32 * 32 in
    fitting_place entry_number low c.args.chunk.now c.args.number c.binary_search_by.result (within_from low (low + 32) c.args.chunk.now c.requires) c.binary_search_by.ensures.bound
    (c.binary_search_by.ensures.position (λ e. nat_cmp e.0 c.args.number) (always_returns_same _ _ _ (λ a r q e. search rules)))
