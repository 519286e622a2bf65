-- A record that is made of what was returned.
use Rattle.std.proofs.Common.{◌≡◌, Option, Some, Result, Ok, Err, MatchResult, IsOkAnd, sym, ap, subst, ◌∙◌}
use Rattle.wm_spec.specs.declared.record.Record.{Record}
use Rattle.wm_codec.specs.Reading.{Gives}
use Rattle.wm_codec.specs.declared.fault.ReadFault.{ReadFault}

pub gives_made : {T : Type 0} (make : T → Record) (read : Result T ReadFault) (made : Result Record ReadFault) (found : Option Record)
    → Gives make read found → MatchResult read (λ x. IsOkAnd made (λ r. r ≡ make x)) (λ e. made ≡ Err e) → Gives (λ x. x) made found
gives_made make (Ok x) (Ok r) found gives is = gives ∙ ap Some (sym is)
gives_made make (Ok x) (Err e) found gives is = absurd is
gives_made make (Err e) made found gives is = subst (λ m. Gives (λ x. x) m found) (sym is) gives
