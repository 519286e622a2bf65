use Rattle.std.proofs.Common.{ℕ, List, sym, ap, ◌∙◌}
use Rattle.std.specs.Option.{option_or}
use Rattle.wm_graph.specs.Parts.{as_piece, parts_of}
use Rattle.wm_version_rows.proofs.Along.{is_on, not_on}
use Rattle.wm_image.specs.Shown.{first_held}
use Rattle.wm_index.specs.Kinds.{kind_at}
use Rattle.wm_period.specs.Pieces.{held_at}
use Rattle.wm_state.specs.Standing.{newest_first}
use Rattle.wm_tree.specs.Versions.{path_in}
use Rattle.wm_version_rows.proofs.laying.lay_entry.Goals as goal

pub returns-then-not-is_reached : goal.returns-then-not-is_reached
returns-then-not-is_reached c = λ t less.
    not_on c.args.image.now (path_in (newest_first (parts_of c.args.image.now).versions) c.args.at) c.args.entry.now t (held_at c.args.upper t)
    (sym c.is_reached.ensures ∙ c.if-not-is_reached.true)

pub returns : goal.returns
returns c = λ t less.
    c.in_ok-both.ensures t less
    ∙ ap (λ (ids : List ℕ). option_or (held_at c.args.upper t) (first_held (kind_at as_piece c.args.image.now ids) c.args.entry.now.version t)) c.as_slice.ensures
    ∙ ap (option_or (held_at c.args.upper t))
    (is_on c.args.image.now (path_in (newest_first (parts_of c.args.image.now).versions) c.args.at) c.args.entry.now t (sym c.is_reached.ensures ∙ c.if-not-is_reached.false))
