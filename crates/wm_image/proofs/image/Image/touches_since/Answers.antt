use Rattle.std.proofs.Common.{ℕ, ◌==◌, List, false, ap, ◌∙◌}
use Rattle.std.specs.List.{list_any}
use Rattle.std.specs.Option.{option_map_or}
use Rattle.wm_index.proofs.Touched.{touches_told}
use Rattle.wm_index.specs.Sought.{is_touch_since}
use Rattle.wm_spec.specs.Records.{record_at}
use Rattle.wm_spec.specs.declared.record.stored.Stored.{Stored}
use Rattle.wm_image.proofs.image.Image.touches_since.Goals as goal

pub returns : goal.returns
returns c = λ id.
    ap (λ (ids : List ℕ). list_any (λ k. k == id) ids) c.in_ok-ids.ensures
    ∙ touches_told c.self.inside.kept c.self.inside.index c.self.invariant.0 c.args.space c.args.from id
    ∙ ap (λ (ss : List Stored). option_map_or (is_touch_since c.args.space c.args.from) (record_at ss id) false) c.self.view_is
