use Rattle.std.proofs.Common.{sym, ap}
use Rattle.wm_syntax.specs.Views.{cond_view, filter_view}
use Rattle.wm_joining.specs.Kept.{where_of}
use Rattle.wm_chosen.proofs.ChosenRows.{kept_all, kept_so}
use Rattle.wm_chosen.proofs.choosing.chosen_of.Goals as goal

pub returns-in-Some : goal.returns-in-Some
returns-in-Some c =
    kept_so c.chosen_with.result c.args.columns.now (cond_view c.in-Some.cond) (filter_view c.args.filter.now) c.args.rows.items (sym (ap (λ f. where_of (filter_view f)) c.in-Some.is)) c.chosen_with.ensures

pub returns-in-None : goal.returns-in-None
returns-in-None c = λ t own. kept_all t (filter_view c.args.filter.now) c.args.rows.items (ap (λ f. filter_view f) c.in-None.is)
