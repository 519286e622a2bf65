-- What a key holds.
use Rattle.std.specs.Prelude.{List, [], ◌∷◌}
use Rattle.wm_base.specs.declared.key.Held.{Held}
use Rattle.wm_base.specs.declared.key.Held.TheVariants as held
use Rattle.wm_base.specs.declared.value.Value.{Value}

-- the values that are held
abbrev pub held_values : Held → List Value
held_values (held.One value) = value ∷ []
held_values (held.Values values) = values
