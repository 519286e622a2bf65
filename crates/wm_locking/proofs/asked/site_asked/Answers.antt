use Rattle.std.proofs.Common.{[], None, Some, sym, ap, subst, ◌∙◌}
use Rattle.wm_graph.specs.Parts.{parts_of}
use Rattle.wm_ground.proofs.Grounds.{named_on}
use Rattle.wm_ground.specs.Grounds.{outline_on}
use Rattle.wm_ground.specs.Outcomes.{outcome_view}
use Rattle.wm_model.specs.Seating.{Stay}
use Rattle.wm_model.specs.Step.{Answer, Outcome, no_workspace, outcome}
use Rattle.wm_outline.proofs.Looks.{named_numbered}
use Rattle.wm_outline.specs.Outline.{outline_by}
use Rattle.wm_locking.proofs.Fronts.{emptied, given_told, sited, spaceless}
use Rattle.wm_locking.proofs.Sites.{nothing}
use Rattle.wm_locking.specs.Asked.{IsTable, IsTabled, asking_view}
use Rattle.wm_locking.proofs.asked.site_asked.Goals as goal

pub returns-in-Some : goal.returns-in-Some
returns-in-Some c =
    let a = asking_view c.args.asking in
    let is : IsTable c.args.ground a c.in-Ok.table.now = subst (IsTabled c.args.ground a) c.in-Ok.is c.in_ok-table.ensures in
    let o = outline_on c.args.ground in
    let q = outcome_view c.refused.result in
    nothing c.args.ground a c.refused.result _ c.refused.ensures
    (λ act late. given_told a act o c.in-Ok.table.now late c.in-Some.refusal q (sym c.in-Some.is ∙ c.in_ok-refusal.ensures.exact) c.refused.ensures ∙ ap outcome (sym (is.comes act)))

pub returns-in_default-space_named : goal.returns-in_default-space_named
returns-in_default-space_named c =
    let a = asking_view c.args.asking in
    let is : IsTable c.args.ground a c.in-Ok.table.now = subst (IsTabled c.args.ground a) c.in-Ok.is c.in_ok-table.ensures in
    let p = parts_of c.args.ground.image.now in
    let o = outline_on c.args.ground in
    let says = c.answered.ensures ∙ ap (λ (x : Answer). let q : Outcome = record { edits = []; seating = Stay; answer = x } in q) (c.no_workspace.ensures ∙ ap no_workspace c.in_ok-name.ensures) in
    nothing c.args.ground a c.answered.result _ says
    (λ act late.
    spaceless a act o c.in-Ok.table.now (sym c.in_default.is ∙ c.in_ok-refusal.ensures.exact) c.bytes_given-name.result.now (outcome_view c.answered.result) c.bytes_given-name.ensures
    (sym (named_on p c.args.ground.sessions.now c.args.ground.moment c.bytes_given-name.result.now None c.args.ground.rules c.in_default-space_named.ensures)) says
    ∙ ap outcome (sym (is.comes act)))

pub returns-then-asking : goal.returns-then-asking
returns-then-asking c =
    let a = asking_view c.args.asking in
    let is : IsTable c.args.ground a c.in-Ok.table.now = subst (IsTabled c.args.ground a) c.in-Ok.is c.in_ok-table.ensures in
    let p = parts_of c.args.ground.image.now in
    let o = outline_on c.args.ground in
    let says = c.answered-then-asking.ensures ∙ ap (λ (x : Answer). let q : Outcome = record { edits = []; seating = Stay; answer = x } in q) c.empty_period.ensures in
    nothing c.args.ground a c.answered-then-asking.result _ says
    (λ act late.
    emptied a act o c.in-Ok.table.now (sym c.in_default.is ∙ c.in_ok-refusal.ensures.exact) c.bytes_given-name.result.now (outline_by p c.in-Some-space_named.space.now) c.bytes_given-name.ensures
    (named_on p c.args.ground.sessions.now c.args.ground.moment c.bytes_given-name.result.now (Some c.in-Some-space_named.space.now) c.args.ground.rules c.in-Some-space_named.ensures) late (outcome_view c.answered-then-asking.result) c.if-asking.true says
    ∙ ap outcome (sym (is.comes act)))

pub returns : goal.returns
returns c =
    let a = asking_view c.args.asking in
    let is : IsTable c.args.ground a c.in-Ok.table.now = subst (IsTabled c.args.ground a) c.in-Ok.is c.in_ok-table.ensures in
    let p = parts_of c.args.ground.image.now in
    let o = outline_on c.args.ground in
    record {
      well = is.well;
      there = is.there;
      home = named_numbered p c.args.ground.rules c.bytes_given-name.result.now c.in-Some-space_named.space.now (sym c.in-Some-space_named.ensures);
      typed = c.in_ok-refusal.ensures.typed (c.in_default.is);
      comes = λ act late.
          sited a act o c.in-Ok.table.now (sym c.in_default.is ∙ c.in_ok-refusal.ensures.exact) c.bytes_given-name.result.now (outline_by p c.in-Some-space_named.space.now) c.bytes_given-name.ensures
          (named_on p c.args.ground.sessions.now c.args.ground.moment c.bytes_given-name.result.now (Some c.in-Some-space_named.space.now) c.args.ground.rules c.in-Some-space_named.ensures) c.if-asking.false
          ∙ ap outcome (sym (is.comes act));
    }
