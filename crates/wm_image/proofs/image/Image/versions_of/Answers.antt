use Rattle.std.proofs.Common.{◌≡◌, List, sym, ap, subst, ◌∙◌}
use Rattle.wm_graph.specs.Parts.{as_piece, parts_of}
use Rattle.wm_image.proofs.Keyed.{held_told}
use Rattle.wm_image.specs.Shown.{first_held}
use Rattle.wm_ids.specs.Versioned.{AreNested, AreSpanned, ids_under}
use Rattle.wm_ids.specs.declared.versioned.Versioned.{Versioned}
use Rattle.wm_index.specs.Indexed.{ids_at, listed}
use Rattle.wm_index.specs.Kinds.{kind_at}
use Rattle.wm_index.specs.Sought.{PieceAt}
use Rattle.wm_spec.specs.Lists.{Cell}
use Rattle.wm_spec.specs.declared.record.stored.Stored.{Stored}
use Rattle.wm_state.specs.Standing.{stored_at}
use Rattle.wm_image.proofs.image.Image.versions_of.Goals as goal

pub returns-clause-nested : goal.returns-clause-nested
returns-clause-nested c = subst AreNested (sym c.versions_of_key.ensures) (c.self.invariant.0.nested c.args.table c.args.key.now)

pub returns-clause-spanned : goal.returns-clause-spanned
returns-clause-spanned c =
    subst (λ (ss : List Stored). AreSpanned ss c.versions_of_key.result.now) c.self.view_is
    (subst (λ (es : List Versioned). AreSpanned (listed c.self.inside.kept.entries) es) (sym c.versions_of_key.ensures) (c.self.invariant.0.spanned c.args.table c.args.key.now))

pub returns-clause-held : goal.returns-clause-held
returns-clause-held c = λ v t.
    let cell : Cell = record { table = c.args.table; key = c.args.key.now; time = t } in
    ap (λ (es : List Versioned). first_held (kind_at as_piece c.args.self.now (ids_under es v)) v t) c.versions_of_key.ensures
    ∙ subst (λ (ss : List Stored). first_held (kind_at as_piece ss (ids_at c.self.inside.index (PieceAt c.args.table c.args.key.now v))) v t ≡ stored_at (parts_of ss).pieces v cell) c.self.view_is
    (held_told c.self.inside.kept c.self.inside.index c.self.invariant.0 cell v)
