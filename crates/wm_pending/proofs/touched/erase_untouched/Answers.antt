use Rattle.std.proofs.Common.{◌≡◌, Bool, true, false, cond, not, is_some, List, Option, None, refl, ap, ◌∙◌}
use Rattle.wm_graph.specs.Parts.{parts_of}
use Rattle.wm_period.specs.Pieces.{Held, held_at}
use Rattle.wm_period.specs.declared.piece.Piece.{Piece}
use Rattle.wm_spec.specs.Lists.{Cell}
use Rattle.wm_pending.specs.Touched.{is_touched}
use Rattle.wm_pending.proofs.touched.erase_untouched.Goals as goal

turned : (b : Bool) (o : Option Held) → cond (not b) None o ≡ cond b o None
turned true o = refl
turned false o = refl

pub returns : goal.returns
returns c = λ t less.
    let old : Option Held = held_at c.args.pieces.now t in
    let at : Cell = record { table = c.args.table; key = c.args.key.now; time = t } in
    c.in_ok-erased.ensures t
    ∙ ap (λ (ps : List Piece). cond (is_some (held_at ps t)) None old) c.list.ensures.value
    ∙ ap (λ (b : Bool). cond b None old) (c.in_ok-quiet.ensures t less)
    ∙ turned (is_touched (parts_of c.args.image.now).touches c.args.since at) old
