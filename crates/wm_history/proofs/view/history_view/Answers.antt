use Rattle.std.proofs.Common.{List, reverse, ap, ◌∙◌}
use Rattle.std.proofs.lemmas.List.{reverse-reverse}
use Rattle.wm_base.specs.declared.row.Row.{Row}
use Rattle.wm_graph.specs.Parts.{as_hist, parts_of}
use Rattle.wm_history.proofs.Logged.{are_logged}
use Rattle.wm_history.specs.Later.{events_at}
use Rattle.wm_index.specs.Kinds.{kind_at}
use Rattle.wm_view_rows.specs.Rows.{history_rows}
use Rattle.wm_history.proofs.view.history_view.Goals as goal

pub returns : goal.returns
returns c =
    let ss = c.args.image.now in
    record {
      logged = kind_at as_hist ss c.in_ok-ids.ids.items;
      are_logged = are_logged (parts_of ss) c.args.space.now.number c.args.table.now.number (kind_at as_hist ss c.in_ok-ids.ids.items) c.in_ok-ids.ensures;
      are =
          c.from_vec.ensures
          ∙ c.reverse.ensures.items
          ∙ ap (λ (rows : List Row). reverse rows) c.in_ok-rows.ensures
          ∙ reverse-reverse (history_rows c.args.space.now.name c.args.table.now (events_at ss c.in_ok-ids.ids.items));
    }
