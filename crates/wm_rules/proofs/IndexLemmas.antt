-- What an index finds, as a function.
use Rattle.std.proofs.Common.{◌≡◌, ℕ, ◌==◌, Bool, List, ap, ◌∙◌}
use Rattle.std.specs.BTreeSet.{BTreeSet, contains}
use Rattle.std.specs.List.{find}
use Rattle.std.specs.Ordering.{nat_cmp}
use Rattle.wm_cells.specs.Lookups.{found, referred}
use Rattle.wm_graph.specs.Parts.{has_version}
use Rattle.wm_graph.specs.Rules.{differ}
use Rattle.wm_spec.specs.declared.record.version.Version.{Version}
use denote.Ref.{Bor}

pub finds_by : {A : Type 0} (number : A → ℕ) (items list : List (Bor A)) (entries : List (ℕ × Bor A)) → list ≡ items → ((n : ℕ) → found entries n ≡ find (λ x. number x == n) (referred list)) → found entries ≡ (λ n. find (λ x. number x == n) (referred items))
finds_by number items list entries same finds = λ i n. (finds n ∙ ap (λ l. find (λ x. number x == n) (referred l)) same) i

pub differ_by : {A : Type 0} (number : A → ℕ) (items list : List (Bor A)) (b : Bool) → list ≡ items → b ≡ differ (λ x y. number x == number y) (referred list) → b ≡ differ (λ x y. number x == number y) (referred items)
differ_by number items list b same is = is ∙ ap (λ l. differ (λ x y. number x == number y) (referred l)) same

pub has_by : (items list : List (Bor Version)) (spaces : BTreeSet ℕ) → list ≡ items → ((n : ℕ) → contains nat_cmp spaces n ≡ has_version (referred list) n) → contains nat_cmp spaces ≡ has_version (referred items)
has_by items list spaces same has = λ i n. (has n ∙ ap (λ l. has_version (referred l) n) same) i
