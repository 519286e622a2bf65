use Rattle.std.proofs.Common.{◌≡◌, false, ℕ, List, nat_eq, subst}
use Rattle.std.specs.List.{list_any}
use Rattle.wm_rows.proofs.Writing.{seen-dropped}
use Rattle.wm_rows.specs.Maps.{maps_of}
use Rattle.wm_rows.specs.Rows.{Layers, seen_in}
use Rattle.wm_rows.specs.declared.row_key.RowKey.{RowKey}
use Rattle.wm_tree.specs.Versions.{path_in}
use Rattle.wm_tree.specs.declared.version.Version.{Version}
use Rattle.wm_rows.proofs.rows.Rows.drop_versions.Goals as goal

pub returns-clause-elsewhere : goal.returns-clause-elsewhere
returns-clause-elsewhere c =
    let P : Layers → Type 0 = λ s. (tree : List Version) (v : ℕ) (row : RowKey) (t : ℕ) → list_any (λ w. list_any (nat_eq w) c.args.versions.now) (path_in tree v) ≡ false
    → seen_in tree (maps_of c.drop_all_counted.new.layers.entries) v row t ≡ seen_in tree s v row t in
    subst P c.self.view_is
    (seen-dropped (maps_of c.self.inside.layers.entries) (maps_of c.drop_all_counted.new.layers.entries) c.args.versions.now c.drop_all_counted.ensures.groups)
