use Rattle.std.proofs.Common.{ℕ, List, sym, ap, ◌∙◌, subst}
use Rattle.std.specs.List.Sorted.{IsStrictlySortedBy}
use Rattle.std.specs.Map.{keys_of}
use Rattle.std.specs.Option.{option_copied}
use Rattle.std.specs.Ordering.{nat_cmp}
use Rattle.wm_ids.proofs.TableLists.{keys_found, no_keys}
use Rattle.wm_ids.proofs.keyed.last_in.Goals as goal

pub returns-in-None-clause-ordered : goal.returns-in-None-clause-ordered
returns-in-None-clause-ordered c =
    subst (λ (es : List (ℕ × List ℕ)). IsStrictlySortedBy nat_cmp (keys_of es)) (ap keys_found (sym (sym c.get.ensures.value ∙ ap option_copied c.in-None.is))) (no_keys nat_cmp)
