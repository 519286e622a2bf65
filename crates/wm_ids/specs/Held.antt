-- What a list of ids holds.
use Rattle.std.specs.Prelude.{ℕ, List, [], ◌∷◌}
use Rattle.wm_ids.specs.declared.id_list.Held.{Held}
use Rattle.wm_ids.specs.declared.id_list.Held.TheVariants as held

-- the ids that are held
abbrev pub held_ids : Held → List ℕ
held_ids held.Nothing = []
held_ids (held.One id) = id ∷ []
held_ids (held.Several ids) = ids.value.items
