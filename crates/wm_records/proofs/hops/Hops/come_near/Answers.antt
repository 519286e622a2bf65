use Rattle.std.proofs.Common.{◌≡◌, ℕ, Bool, true, false, cond, [], None, sym, ap, ◌∙◌}
use Rattle.wm_records.proofs.Hopping.{none_at}
use Rattle.wm_records.specs.Hops.{hop_at, is_near}
use Rattle.wm_records.specs.declared.hops.Hops.{Hops}
use Rattle.wm_records.proofs.hops.Hops.come_near.Goals as goal

-- the hops as they are where they go near a number, and none where they begin anew
hops_stay : (near : Bool) (hops : Hops) → near ≡ true → (n : ℕ) → hop_at hops n ≡ cond near (hop_at hops n) None
hops_stay near hops is n = ap (λ b. cond b (hop_at hops n) None) (sym is)

hops_begin : (near : Bool) (old new : Hops) → near ≡ false → new.by_number.items ≡ [] → (n : ℕ) → hop_at new n ≡ cond near (hop_at old n) None
hops_begin near old new far empty n = none_at new empty n ∙ ap (λ b. cond b (hop_at old n) None) (sym far)

pub returns-then-is_near-clause-hops : goal.returns-then-is_near-clause-hops
returns-then-is_near-clause-hops c = hops_stay (is_near c.args.self.now c.args.number) c.args.self.now (sym c.is_near.ensures ∙ c.if-is_near.true)

pub returns-clause-hops : goal.returns-clause-hops
returns-clause-hops c =
    hops_begin (is_near c.args.self.now c.args.number) c.args.self.now
    record { by_number = c.clear.new.self; first = c.args.number; greatest = c.args.self.now.greatest }
    (sym c.is_near.ensures ∙ c.if-is_near.false) c.clear.ensures.items
