use Rattle.std.proofs.Common.{sym, ap, ◌∙◌}
use Rattle.std.specs.Option.{option_copied}
use Rattle.wm_rows.proofs.Maps.{map_at-some, map_at-none}
use Rattle.wm_rows.specs.Rows.{Groups, group_in}
use Rattle.wm_rows.proofs.layers.group.Goals as goal

pub returns-in_err-get : goal.returns-in_err-get
returns-in_err-get c =
    ap option_copied c.from_residual.ensures
    ∙ ap (λ (g : Groups). group_in g c.args.row.now) (sym (map_at-none c.args.layers.now.entries c.args.version (sym c.get.ensures.value ∙ ap option_copied c.in_err-get.was)))

pub returns : goal.returns
returns c =
    c.get-2.ensures.value
    ∙ ap (λ (g : Groups). group_in g c.args.row.now) (sym (map_at-some c.args.layers.now.entries c.args.version c.in_ok-get.field-0.now (sym c.get.ensures.value ∙ ap option_copied c.in_ok-get.was)))
