use Rattle.std.proofs.Common.{Option, is_some, sym, ap, ◌∙◌}
use Rattle.wm_graph.specs.Parts.{parts_of}
use Rattle.wm_records.proofs.Descending.{reached, missed}
use Rattle.wm_records.proofs.Hopping.{there_by_hop}
use Rattle.wm_records.proofs.Paths.{ruled}
use Rattle.wm_spec.specs.declared.record.version.Version.{Version}
use Rattle.wm_version_rows.proofs.descent.is_reached.Goals as goal

pub returns-then-is_some : goal.returns-then-is_some
returns-then-is_some c =
    c.if-is_some.true
    ∙ sym (there_by_hop (parts_of c.args.image.now).versions c.args.at c.hop.result c.hop.ensures (sym c.is_some.ensures ∙ c.if-is_some.true))
    ∙ reached (parts_of c.args.image.now).versions c.args.at c.args.version (ruled (parts_of c.args.image.now) c.requires.rules) c.if-version-at.true

pub returns-else-is_some : goal.returns-else-is_some
returns-else-is_some c =
    c.is_some-else-is_some.ensures
    ∙ ap (λ (o : Option Version). is_some o) c.version.ensures
    ∙ reached (parts_of c.args.image.now).versions c.args.at c.args.version (ruled (parts_of c.args.image.now) c.requires.rules) c.if-version-at.true

pub returns-else-version-at : goal.returns-else-version-at
returns-else-version-at c =
    missed (parts_of c.args.image.now).versions c.args.at c.args.version (ruled (parts_of c.args.image.now) c.requires.rules) c.requires.down c.if-version-at.false
