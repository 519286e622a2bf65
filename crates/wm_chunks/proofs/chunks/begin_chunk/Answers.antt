use Rattle.std.proofs.Common.{◌≡◌, ℕ, ◌/◌, ◌++◌, [], ◌∷◌, Some, ap, ◌∙◌, arith}
use Rattle.wm_chunks.proofs.Joining.{set_chunks, set_told}
use Rattle.wm_chunks.proofs.Placing.{one_told}
use Rattle.wm_chunks.proofs.chunks.begin_chunk.Goals as goal

pub returns-clause-chunks : goal.returns-clause-chunks
returns-clause-chunks g c =
    let n : ℕ = c.args.number in
    let one : c.push.new.self.items ≡ (n, c.args.value) ∷ [] = c.in_ok-push.ensures.items ∙ ap (λ es. es ++ (n, c.args.value) ∷ []) c.new-chunk.ensures.items in
    set_chunks c.args.chunks.now.entries c.insert.new.self.entries (n / 32) c.push.new.self c.requires.chunks c.insert.ensures.ordered (rw one (omega arith, omega arith)) (rw one (omega arith))
    c.in_ok-insert.ensures.updates.0

pub returns-clause-sets : goal.returns-clause-sets
returns-clause-sets g c =
    let n : ℕ = c.args.number in
    let one : c.push.new.self.items ≡ (n, c.args.value) ∷ [] = c.in_ok-push.ensures.items ∙ ap (λ es. es ++ (n, c.args.value) ∷ []) c.new-chunk.ensures.items in
    set_told c.args.chunks.now.entries c.insert.new.self.entries n c.push.new.self (Some c.args.value) c.requires.chunks c.insert.ensures.ordered (rw one (omega arith, omega arith)) (rw one (omega arith))
    c.in_ok-insert.ensures.updates.0 (rw (c.requires.none, one) (one_told n c.args.value))
