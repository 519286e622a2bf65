use Rattle.std.proofs.Common.{◌≡◌, ◌∷◌, [], get_or, sym, ap, ◌∙◌, arith}
use Rattle.std.specs.Option.{option_copied}
use Rattle.wm_syntax.specs.Views.{cond_view, filter_view}
use Rattle.wm_chosen.proofs.KeyAsked.{alone, key_fixed}
use Rattle.wm_chosen.specs.Keyed.{asked}
use Rattle.wm_chosen.proofs.keyed.key_asked.Goals as goal

pub returns-in-Some-asked : goal.returns-in-Some-asked
returns-in-Some-asked c =
    let one : c.args.table.now.key_columns ≡ get_or c.as_slice.result.now 0 0 ∷ [] = sym c.as_slice.ensures ∙ alone c.as_slice.result.now (omega arith) (omega arith) in
    key_fixed c.key_of_constant.result c.args.table.now (filter_view c.args.filter.now) (cond_view c.in-Some.cond) c.as_slice-2.result.now (get_or c.as_slice.result.now 0 0) (option_copied c.asked.result) c.in-Some-asked.constant.now
    (ap filter_view c.in-Some.is) (c.as_slice-2.ensures ∙ c.requires) one (c.asked.ensures ∙ ap (λ n. asked c.as_slice-2.result.now n (cond_view c.in-Some.cond)) c.from-place.ensures) (ap option_copied c.in-Some-asked.is) c.key_of_constant.ensures
