use Rattle.std.proofs.Common.{◌≡◌, ap, arith, length}
use Rattle.std.specs.Option.{option_copied}
use Rattle.wm_making.specs.Creating.{key_name, key_places, columns_of}
use Rattle.wm_making.proofs.Shapes.{few_columns, made_in_order}
use Rattle.wm_making.proofs.table.table_of.Goals as goal

pub key_places-requires : goal.key_places-requires
key_places-requires c =
    let made : c.as_slice-3.result.now ≡ columns_of (option_copied c.key_name-key.result) c.args.items.now = let told : c.in_ok-columns.columns ≡ columns_of (option_copied c.key_name-key.result) c.as_slice-2.result.now = c.in_ok-columns.ensures in cc (told) in
    let few = few_columns (option_copied c.key_name-key.result) c.args.items.now c.requires in
    record { some = omega (arith, few.0, ap length made); few = omega (arith, few.1, ap length made) }

pub returns-clause-in_order : goal.returns-clause-in_order
returns-clause-in_order c = λ names.
    let key : option_copied c.key_name-key.result ≡ key_name c.args.items.now = cc in
    let made : c.in_ok-columns.columns ≡ columns_of (key_name c.args.items.now) c.args.items.now = let told : c.in_ok-columns.columns ≡ columns_of (option_copied c.key_name-key.result) c.as_slice-2.result.now = c.in_ok-columns.ensures in cc (key, told) in
    let places : c.in_ok-key_columns.key_columns ≡ key_places (key_name c.args.items.now) (columns_of (key_name c.args.items.now) c.args.items.now) = let told : c.in_ok-key_columns.key_columns ≡ key_places (option_copied c.key_name-key.result) c.as_slice-3.result.now = c.in_ok-key_columns.ensures in cc (key, made, told) in
    made_in_order c.args.number c.args.name c.args.items.now c.in_ok-key_columns.key_columns c.in_ok-columns.columns made places c.requires names
