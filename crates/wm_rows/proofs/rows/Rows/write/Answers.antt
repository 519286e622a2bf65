use Rattle.std.proofs.Common.{◌≡◌, ◌&&◌, false, ℕ, List, eqb, nat_eq, subst}
use Rattle.std.specs.Bool.{then_some}
use Rattle.std.specs.List.{list_any}
use Rattle.std.specs.Option.{IsSome, option_or}
use Rattle.std.specs.Prelude.{OnOk}
use Rattle.wm_base.specs.Period.{covers}
use Rattle.wm_period.specs.Pieces.{held, put_in}
use Rattle.wm_rows.proofs.Writing.{on_ok, on_ok2, stored-written, seen-here, seen-written}
use Rattle.wm_rows.specs.Maps.{maps_of}
use Rattle.wm_rows.specs.Rows.{Layers, groups_in, pieces_in, is_same, stored, seen_in}
use Rattle.wm_rows.specs.declared.row_key.RowKey.{RowKey}
use Rattle.wm_tree.specs.Versions.{IsTree, version_in, path_in}
use Rattle.wm_tree.specs.declared.version.Version.{Version}
use Rattle.wm_rows.proofs.rows.Rows.write.Goals as goal

-- the row that is written
row : goal.After-write_counted → RowKey
row c = record { table = c.args.table; key = c.args.key.now }

pub returns-clause-ok : goal.returns-clause-ok
unfolding row
returns-clause-ok c =
    let P : Layers → Type 0 = λ s. OnOk c.write_counted.result ((v : ℕ) (q : RowKey) (t : ℕ)
    → stored (maps_of c.write_counted.new.layers.entries) v q t ≡ option_or (then_some ((eqb c.args.version v && is_same (row c) q) && covers c.args.piece.period t) (held c.args.piece)) (stored s v q t)) in
    subst P c.self.view_is
    (on_ok2 c.write_counted.result
    (stored-written (maps_of c.self.inside.layers.entries) (maps_of c.write_counted.new.layers.entries) c.args.version (row c) c.args.piece)
    c.write_counted.ensures.groups c.write_counted.ensures.cells)

pub returns-clause-here : goal.returns-clause-here
unfolding row
returns-clause-here c =
    let P : Layers → Type 0 = λ s. OnOk c.write_counted.result ((tree : List Version) (q : RowKey) (t : ℕ) → IsTree tree → IsSome (version_in tree c.args.version)
    → seen_in tree (maps_of c.write_counted.new.layers.entries) c.args.version q t ≡ option_or (then_some (is_same (row c) q && covers c.args.piece.period t) (held c.args.piece)) (seen_in tree s c.args.version q t)) in
    subst P c.self.view_is
    (on_ok2 c.write_counted.result
    (seen-here (maps_of c.self.inside.layers.entries) (maps_of c.write_counted.new.layers.entries) c.args.version (row c) c.args.piece)
    c.write_counted.ensures.groups c.write_counted.ensures.cells)

pub returns-clause-elsewhere : goal.returns-clause-elsewhere
unfolding row
returns-clause-elsewhere c =
    let P : Layers → Type 0 = λ s. OnOk c.write_counted.result ((tree : List Version) (v : ℕ) (q : RowKey) (t : ℕ)
    → list_any (nat_eq c.args.version) (path_in tree v) ≡ false → seen_in tree (maps_of c.write_counted.new.layers.entries) v q t ≡ seen_in tree s v q t) in
    subst P c.self.view_is
    (on_ok c.write_counted.result
    (seen-written (maps_of c.self.inside.layers.entries) (maps_of c.write_counted.new.layers.entries) c.args.version (row c)
    (put_in c.args.piece (pieces_in (groups_in (maps_of c.self.inside.layers.entries) c.args.version) (row c))))
    c.write_counted.ensures.groups)
