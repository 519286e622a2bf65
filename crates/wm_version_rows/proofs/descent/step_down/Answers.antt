use Rattle.std.proofs.Common.{sym, arith}
use Rattle.wm_graph.specs.Parts.{parts_of}
use Rattle.wm_records.proofs.Descending.{passed, ended}
use Rattle.wm_records.proofs.Hopping.{hopped, stepped}
use Rattle.wm_records.proofs.Paths.{ruled, path_goes_on}
use Rattle.wm_version_rows.proofs.descent.step_down.Goals as goal

pub returns-then-sought-hop-clause-path : goal.returns-then-sought-hop-clause-path
returns-then-sought-hop-clause-path c = λ v low.
    hopped (parts_of c.args.image.now).versions c.args.number v c.in-Some.hop (ruled (parts_of c.args.image.now) c.requires.rules) c.in-Some.ensures (omega (arith, low, c.if-sought-hop.true))

pub returns-in-Some-clause-older : goal.returns-in-Some-clause-older
returns-in-Some-clause-older c =
    (stepped (parts_of c.args.image.now).versions c.args.number c.args.sought c.in-Some.hop (ruled (parts_of c.args.image.now) c.requires.rules) c.in-Some.ensures c.requires.newer).0

pub returns-in-Some-clause-path : goal.returns-in-Some-clause-path
returns-in-Some-clause-path c = λ v low.
    (stepped (parts_of c.args.image.now).versions c.args.number v c.in-Some.hop (ruled (parts_of c.args.image.now) c.requires.rules) c.in-Some.ensures (omega (arith, low, c.requires.newer))).1

pub returns-in-Some-version-clause-older : goal.returns-in-Some-version-clause-older
returns-in-Some-version-clause-older c =
    (path_goes_on (parts_of c.args.image.now).versions c.args.number c.in-Some-version.node (ruled (parts_of c.args.image.now) c.requires.rules) (sym c.in-Some-version.ensures)).1

pub returns-in-Some-version-clause-path : goal.returns-in-Some-version-clause-path
returns-in-Some-version-clause-path c = λ v low.
    passed (parts_of c.args.image.now).versions c.args.number v c.in-Some-version.node (ruled (parts_of c.args.image.now) c.requires.rules) (sym c.in-Some-version.ensures) (omega (arith, low, c.requires.newer))

pub returns-in-None-clause-path : goal.returns-in-None-clause-path
returns-in-None-clause-path c = λ v low.
    ended (parts_of c.args.image.now).versions c.args.number v (ruled (parts_of c.args.image.now) c.requires.rules) (sym c.in-None.ensures)
