use Rattle.std.proofs.Common.{◌≡◌, ◌+◌, ◌∷◌, [], get_or, sym, ap, ◌∙◌, arith}
use Rattle.std.specs.Option.{option_copied}
use Rattle.wm_syntax.specs.Views.{query_view}
use Rattle.wm_chosen.proofs.KeyAsked.{alone}
use Rattle.wm_chosen.proofs.KeyAskedAt.{key_fixed_at}
use Rattle.wm_chosen.proofs.keyed.key_asked_at.Goals as goal

pub returns-in-Some : goal.returns-in-Some
returns-in-Some c =
    let one : c.args.table.now.key_columns ≡ get_or c.as_slice.result.now 0 0 ∷ [] = sym c.as_slice.ensures ∙ alone c.as_slice.result.now (omega arith) (omega arith) in
    key_fixed_at c.key_of_constant.result c.args.table.now (query_view c.args.query.now) c.args.columns.now c.args.before (get_or c.as_slice.result.now 0 0) (c.args.before + c.from.result) (option_copied c.asked_by.result) c.in-Some.constant.now c.requires.well
    one (ap (λ n. c.args.before + n) c.from.ensures) c.asked_by.ensures (ap option_copied c.in-Some.is) c.key_of_constant.ensures
