-- What is shown of the rows of a version that is not there.
use Rattle.std.proofs.Common.{◌≡◌, ℕ, Bool, true, List, []}
use Rattle.std.proofs.lemmas.Option.{none-some}
use Rattle.std.specs.List.{filter_map}
use Rattle.wm_base.specs.Period.{Span}
use Rattle.wm_base.specs.declared.row.Row.{Row}
use Rattle.wm_graph.specs.Parts.{Parts}
use Rattle.wm_graph.specs.Rules.{keep_rules}
use Rattle.wm_spec.specs.Stretches.{rows}
use Rattle.wm_state.specs.Listing.{IsShowing, row_shown}
use Rattle.wm_state.proofs.Listed.{showing_of}
use Rattle.wm_state.proofs.Numbered.{none_seen}

-- no version has the number 0, and nothing is shown of it
pub none_shown : (p : Parts) (table : ℕ) (valid : Bool) (within : Span) (out : List Row) → keep_rules p ≡ true → IsShowing p 0 table valid within out
    → out ≡ filter_map (row_shown [] table valid within) (rows [] table)
none_shown p table valid within out rules is = showing_of p 0 [] table valid within out (λ c. none_seen p c rules) (λ c t row there h. absurd (none-some t there)) is
