-- Tables under their names.
use Rattle.std.specs.Prelude.{ℕ, ◌≡◌, List, [], ◌∷◌}
use Rattle.std.specs.declared.vec.Vec.{Vec}
use Rattle.std.specs.declared.alloc.Global.{Global}
use Rattle.wm_spec.specs.declared.record.table.Table.{Table}

-- each table stands under its own name
abbrev pub IsNamed : List (Vec ℕ Global × Table) → Type 0
IsNamed [] = Unit {0}
IsNamed (e ∷ es) = (e.0.items ≡ e.1.name) × IsNamed es
