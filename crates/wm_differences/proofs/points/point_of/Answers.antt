use Rattle.std.proofs.Common.{List, ℕ, Some, sym, ap, ◌∙◌}
use Rattle.std.specs.List.{find}
use Rattle.std.specs.Str.{bytes_eq}
use Rattle.wm_graph.specs.Parts.{parts_of}
use Rattle.wm_spec.specs.declared.record.savepoint.Savepoint.{Savepoint}
use Rattle.wm_spec.specs.declared.record.space.Space.{Space}
use Rattle.wm_state.specs.Standing.{saved_in}
use Rattle.wm_state.specs.State.{Viewpoint}
use Rattle.wm_differences.proofs.Meant.{saved_meant}
use Rattle.wm_differences.proofs.points.point_of.Goals as goal

pub returns-in_ok-savepoint-in-Some : goal.returns-in_ok-savepoint-in-Some
returns-in_ok-savepoint-in-Some c =
    ap Some c.saved.ensures
    ∙ saved_meant (parts_of c.args.image.now) c.args.viewpoint.now c.in-Some.name c.in_ok-space.space.now c.in_ok-savepoint-in-Some.savepoint.now
    (c.in_ok-space.ensures
    ∙ ap (λ (name : List ℕ). find (λ (s : Space). bytes_eq name s.name) (parts_of c.args.image.now).spaces) (c.as_bytes.ensures ∙ ap (λ (v : Viewpoint). v.workspace) c.viewpoint.view_is))
    (sym (ap (λ (v : Viewpoint). v.savepoint) c.viewpoint.view_is) ∙ c.in-Some.is)
    (c.in_ok-savepoint-in-Some.ensures
    ∙ ap (λ (name : List ℕ). find (λ (x : Savepoint). bytes_eq name x.name) (saved_in (parts_of c.args.image.now) c.in_ok-space.space.now.number)) c.as_bytes-in-Some.ensures)
