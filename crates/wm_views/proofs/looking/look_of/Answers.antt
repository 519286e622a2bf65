use Rattle.std.proofs.Common.{◌≡◌, Some, refl, sym, subst}
use Rattle.wm_graph.specs.Parts.{parts_of, space_of}
use Rattle.wm_model.specs.Looking.{IsFamilyOf}
use Rattle.wm_spec.specs.declared.record.space.Space.{Space}
use Rattle.wm_views.proofs.Querying.{conflicting_there, numbered}
use Rattle.wm_views.specs.Looking.{family_view}
use Rattle.wm_views.proofs.looking.look_of.Goals as goal

pub family_of-requires-clause-there : goal.family_of-requires-clause-there
family_of-requires-clause-there c =
    subst (λ (a : Space). space_of (parts_of c.args.image.now).spaces a.number ≡ Some a) (sym c.conflicting_space-space.ensures)
    (conflicting_there (parts_of c.args.image.now) c.args.session.now.conflict c.args.home.now c.requires.rules (numbered (parts_of c.args.image.now) c.args.session.now.space c.args.home.now c.requires.home))

pub returns-clause-look : goal.returns-clause-look
returns-clause-look c = record {
  reading = λ t. refl;
  period = λ t. refl;
  home = c.requires.home;
  family = subst (λ (a : Space). IsFamilyOf (parts_of c.args.image.now) a (family_view c.family_of.result)) c.conflicting_space-space.ensures c.family_of.ensures;
  difference = refl;
}
