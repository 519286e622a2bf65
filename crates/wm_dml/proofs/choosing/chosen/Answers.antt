use Rattle.std.proofs.Common.{ap, ◌∙◌}
use Rattle.std.specs.List.{list_all}
use Rattle.wm_syntax.specs.Views.{cond_view}
use Rattle.wm_base.specs.declared.row.Row.{Row}
use Rattle.wm_graph.specs.Rules.{differ}
use Rattle.wm_spec.specs.Conditions.{truth_of, is_yes}
use Rattle.wm_dml.specs.Changing.{declared_values, row_key}
use Rattle.wm_dml.specs.Standing.{is_shown, all_stand, keys_of}
use Rattle.wm_dml.proofs.Picked.{where_chosen, chosen_pass, kept_differ, chosen_differ}
use Rattle.wm_dml.proofs.choosing.chosen.Goals as goal

pub returns-clause-chosen : goal.returns-clause-chosen
returns-clause-chosen g c = λ t condition own stands.
    c.in_ok-kept.ensures ∙ where_chosen t condition (cond_view c.args.test.now.cond.now) c.args.test.now.columns.now c.args.rows.items own stands

pub returns-clause-pass : goal.returns-clause-pass
returns-clause-pass g c = λ test all.
    ap (list_all test) c.in_ok-kept.ensures
    ∙ chosen_pass (λ row. is_yes (truth_of (cond_view c.args.test.now.cond.now) c.args.test.now.columns.now row)) test c.args.rows.items all

pub returns-clause-differ : goal.returns-clause-differ
returns-clause-differ g c = λ same all.
    ap (differ same) c.in_ok-kept.ensures
    ∙ kept_differ (λ row. is_yes (truth_of (cond_view c.args.test.now.cond.now) c.args.test.now.columns.now row)) same c.args.rows.items all

pub returns-clause-stand : goal.returns-clause-stand
returns-clause-stand g c = λ t all.
    ap (all_stand t) c.in_ok-kept.ensures
    ∙ chosen_pass (λ row. is_yes (truth_of (cond_view c.args.test.now.cond.now) c.args.test.now.columns.now row)) (λ (r : Row). is_shown t r.values) c.args.rows.items all

pub returns-clause-apart : goal.returns-clause-apart
returns-clause-apart g c = λ t same all.
    ap (λ rows. differ same (keys_of t rows)) c.in_ok-kept.ensures
    ∙ chosen_differ (λ (r : Row). row_key t (declared_values t r.values)) (λ row. is_yes (truth_of (cond_view c.args.test.now.cond.now) c.args.test.now.columns.now row)) same c.args.rows.items all
