-- The order of keys, which are lists of values.
use Rattle.std.specs.Prelude.{List}
use Rattle.std.specs.declared.cmp.Ordering.{Ordering}
use Rattle.std.specs.Cmp.Lexicographic.{slice_cmp}
use Rattle.wm_base.specs.Value.{value_order}
use Rattle.wm_base.specs.declared.value.Value.{Value}

-- value by value, a front before what it begins
abbrev pub key_order : List Value → List Value → Ordering
key_order = slice_cmp value_order
