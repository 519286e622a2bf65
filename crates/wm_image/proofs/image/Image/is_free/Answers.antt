use Rattle.std.proofs.Common.{◌≡◌, List, ap, sym, ◌∙◌}
use Rattle.wm_graph.specs.Parts.{parts_of}
use Rattle.wm_image.proofs.Spaced.{is_unnamed, free_by, free_where}
use Rattle.wm_spec.specs.declared.record.stored.Stored.{Stored}
use Rattle.wm_image.proofs.image.Image.is_free.Goals as goal

-- the lists are empty where nothing names the version
told : (c : goal.After-are_empty) → c.are_empty.result ≡ is_unnamed (parts_of c.args.self.now) c.args.version
told c =
    c.are_empty.ensures
    ∙ free_by c.self.inside.kept c.self.inside.index c.self.invariant.0 c.args.version c.ids_of.result.now c.ids_of-2.result.now c.ids_of-3.result.now c.ids_of-4.result.now c.ids_of.ensures c.ids_of-2.ensures c.ids_of-3.ensures c.ids_of-4.ensures
    ∙ ap (λ (ss : List Stored). is_unnamed (parts_of ss) c.args.version) c.self.view_is

pub returns-clause-exact : goal.returns-clause-exact
returns-clause-exact c = told c

pub returns-clause-free : goal.returns-clause-free
returns-clause-free c = λ free. free_where (parts_of c.args.self.now) c.args.version (sym (told c) ∙ free)
