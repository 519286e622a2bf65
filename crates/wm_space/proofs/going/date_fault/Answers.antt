use Rattle.std.proofs.Common.{◌≡◌, Option, sym, ap, subst}
use Rattle.std.specs.Option.{option_and_then}
use Rattle.std.specs.Prelude.{IfOk}
use Rattle.wm_base.specs.declared.refusal.Refusal.{Refusal}
use Rattle.wm_graph.specs.Parts.{parts_of}
use Rattle.wm_model.specs.Step.{early_fault}
use Rattle.wm_space.proofs.going.date_fault.Goals as goal

pub returns-in-Some : goal.returns-in-Some
returns-in-Some c =
    subst (λ (x : Option Refusal). IfOk c.early_fault.result (λ fault. fault ≡ x)) (sym (ap (option_and_then (early_fault c.args.date)) c.in-Some.ensures)) (c.early_fault.ensures (parts_of c.args.ground.image.now))
