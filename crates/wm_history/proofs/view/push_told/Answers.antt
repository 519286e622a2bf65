use Rattle.std.proofs.Common.{◌≡◌, ◌++◌, List, [], ◌∷◌, Some, sym, ap, subst, ◌∙◌}
use Rattle.std.proofs.lemmas.Result.{on_ok_weaker}
use Rattle.std.specs.Option.{option_and_then}
use Rattle.wm_base.specs.declared.row.Row.{Row}
use Rattle.wm_graph.specs.Parts.{as_hist, parts_of}
use Rattle.wm_history.proofs.Logged.{HasTime, has_time}
use Rattle.wm_history.proofs.Telling.{events_one, told_more}
use Rattle.wm_history.specs.Later.{AreTold}
use Rattle.wm_spec.specs.Records.{record_at}
use Rattle.wm_view_rows.specs.Rows.{Event}
use Rattle.wm_history.proofs.view.push_told.Goals as goal

-- the entry of the id
found : (c : goal.In-Some) → option_and_then as_hist (record_at c.args.image.now c.args.id) ≡ Some c.in-Some.hist.now
found c = ap (option_and_then as_hist) (sym c.record.ensures) ∙ sym c.in-Some.ensures

time : (c : goal.In-Some) → HasTime c.in-Some.hist.now.cells
time c = has_time c.args.image.now c.args.id c.in-Some.hist.now c.requires (found c)

pub row_told-requires-clause-some : goal.row_told-requires-clause-some
row_told-requires-clause-some c = (time c).some

pub row_told-requires-clause-till : goal.row_told-requires-clause-till
row_told-requires-clause-till c = (time c).till

pub returns : goal.returns
returns c =
    let there : option_and_then as_hist (record_at c.args.image.now c.args.id) ≡ Some c.in-Some.hist.now = ap (option_and_then as_hist) (sym c.record.ensures) ∙ sym c.in-Some.ensures in
    on_ok_weaker c.add_written.result
    (λ wrote done told.
    subst (λ (es : List Event). AreTold c.args.space.now.name c.args.table.now (es ++ done) c.add_written.new.later.entries c.push.new.self.items) (sym (events_one c.args.image.now c.args.id c.in-Some.hist.now there))
    (told_more c.args.space.now.name c.args.table.now (parts_of c.args.image.now) c.in-Some.hist.now done c.args.later.now.entries c.add_written.new.later.entries c.args.rows.now.items c.push.new.self.items told
    (c.in_ok-push.ensures.items ∙ ap (λ (row : Row). c.args.rows.now.items ++ row ∷ []) c.in_ok-row.ensures) wrote))
    c.add_written.ensures
