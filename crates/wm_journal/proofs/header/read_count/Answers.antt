use Rattle.std.proofs.Common.{◌≡◌, ℕ, ◌≤◌, List, length, sym, ◌∙◌, subst, arith}
use Rattle.wm_faults.specs.declared.fault.OpenFault.{OpenFault}
use Rattle.wm_station.specs.History.{now}
use Rattle.wm_journal.specs.Disk.{count_of}
use Rattle.wm_journal.specs.Opening.{Says}
use Rattle.wm_journal.proofs.Verdicts.{short_root, bad_root, no_damage, count_read}
use Rattle.wm_journal.proofs.header.read_count.Goals as goal

pub returns-then-size-lt8192-clause-fault : goal.returns-then-size-lt8192-clause-fault
returns-then-size-lt8192-clause-fault g c = λ t.
    let file : List ℕ = now (g.P.Station.history c.args.station.now) in
    let size : c.args.size ≡ length file = c.requires.size t in
    let le : 4096 ≤ length file = c.requires.whole t in
    subst (λ (e : OpenFault). Says e file) (sym c.damaged.ensures) (c.requires.made t, short_root file le (c.requires.format t) (c.requires.closed t) (omega arith))

pub returns-then-count-lt3-clause-fault : goal.returns-then-count-lt3-clause-fault
returns-then-count-lt3-clause-fault g c = λ t.
    let file : List ℕ = now (g.P.Station.history c.args.station.now) in
    let size : c.args.size ≡ length file = c.requires.size t in
    let count : c.read_number-count.result ≡ count_of file = c.read_number-count.ensures ∙ count_read file c.read.new.into (c.requires.closed t) (c.in_default.ensures.bytes t) in
    subst (λ (e : OpenFault). Says e file) (sym c.damaged-then-count-lt3.ensures) (c.requires.made t, bad_root file (c.requires.format t) (c.requires.closed t) (omega arith) (omega arith))

pub returns-clause-count : goal.returns-clause-count
returns-clause-count g c = λ t.
    c.read_number-count.ensures ∙ count_read (now (g.P.Station.history c.args.station.now)) c.read.new.into (c.requires.closed t) (c.in_default.ensures.bytes t)

pub returns-clause-store : goal.returns-clause-store
returns-clause-store g c = λ t.
    let file : List ℕ = now (g.P.Station.history c.args.station.now) in
    let size : c.args.size ≡ length file = c.requires.size t in
    let count : c.read_number-count.result ≡ count_of file = c.read_number-count.ensures ∙ count_read file c.read.new.into (c.requires.closed t) (c.in_default.ensures.bytes t) in
    no_damage file (c.requires.format t) (c.requires.closed t) (omega arith) (omega arith)
