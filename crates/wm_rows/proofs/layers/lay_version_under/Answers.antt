use Rattle.std.proofs.Common.{◌≡◌, ℕ, sym, ap, ◌∙◌, subst}
use Rattle.std.specs.Option.{option_copied, option_or}
use Rattle.std.specs.Prelude.{OnOk}
use Rattle.wm_base.proofs.Plain.{option_or-none}
use Rattle.wm_period.specs.Pieces.{held_at}
use Rattle.wm_rows.proofs.Maps.{map_at-some, map_at-none}
use Rattle.wm_rows.specs.Rows.{Groups, pieces_in}
use Rattle.wm_rows.specs.declared.row_key.RowKey.{RowKey}
use Rattle.wm_rows.proofs.layers.lay_version_under.Goals as goal

pub returns-in-Some : goal.returns-in-Some
returns-in-Some c =
    let P : Groups → Type 0 = λ g. OnOk c.lay_under.result ((row : RowKey) (t : ℕ) → held_at (pieces_in c.lay_under.new.upper.entries row) t ≡ option_or (held_at (pieces_in c.args.upper.now.entries row) t) (held_at (pieces_in g row) t)) in
    subst P (sym (map_at-some c.args.layers.now.entries c.args.version c.in-Some.layer.now (sym c.get.ensures.value ∙ ap option_copied c.in-Some.is))) c.lay_under.ensures

pub returns-in-None : goal.returns-in-None
returns-in-None c = λ row t.
    sym (option_or-none (held_at (pieces_in c.args.upper.now.entries row) t))
    ∙ ap (λ (g : Groups). option_or (held_at (pieces_in c.args.upper.now.entries row) t) (held_at (pieces_in g row) t))
    (sym (map_at-none c.args.layers.now.entries c.args.version (sym c.get.ensures.value ∙ ap option_copied c.in-None.is)))
