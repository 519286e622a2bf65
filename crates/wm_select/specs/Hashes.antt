-- What a hash is fed of lists of values.
use Rattle.std.proofs.Common.{ap, ◌≡◌}
use Rattle.std.specs.Prelude.{ℕ, List, [], ◌∷◌, ◌++◌, IsTrue}
use Rattle.std.specs.Hash as fed
use Rattle.std.specs.List.{flat_map}
use Rattle.std.specs.Ordering.{eq_by_cmp}
use Rattle.wm_base.specs.declared.value.Value.{Value}
use Rattle.wm_base.specs.declared.value.Value.TheVariants as values
use Rattle.wm_ordering.specs.Orders.{same_list}
use Rattle.wm_ordering.specs.Sorting.{left_to_right}

-- the writes that a value makes
abbrev pub writes_of : Value → List (List ℕ)
writes_of values.Null = []
writes_of (values.Num n) = fed.i64 n
writes_of (values.Text t) = t ∷ []
writes_of (values.Time seconds) = fed.u64 seconds
writes_of (values.Span period) = fed.u64 period.from ++ fed.u64 period.till

-- those of a list, value by value
abbrev pub all_writes : List Value → List (List ℕ)
all_writes vs = flat_map writes_of vs

-- lists that the order finds equal make the same writes
pub equal_writes : (vs ws : List Value) → IsTrue (eq_by_cmp left_to_right vs ws) → all_writes vs ≡ all_writes ws
equal_writes vs ws e = ap all_writes (same_list vs ws e)
