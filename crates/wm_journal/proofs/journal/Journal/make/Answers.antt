use Rattle.std.proofs.Common.{List, sym, ◌∙◌, ap, subst}
use Rattle.wm_page.specs.Batch.{entries}
use Rattle.wm_page.specs.declared.write.PageWrite.{PageWrite}
use Rattle.wm_station.specs.History.{History, said}
use Rattle.wm_journal.specs.Writes.{Step, DidPart, making, root_page}
use Rattle.wm_journal.proofs.Makes.{Made, make_given, make_small, said_did, said_part}
use Rattle.wm_journal.proofs.Sequences.{nothing_done}
use Rattle.wm_journal.proofs.journal.Journal.make.Goals as goal

pub write_made-requires : goal.write_made-requires
write_made-requires g c = make_small c.args.batch.now.pages c.as_slice.result.now c.as_slice.ensures c.requires.pages c.args.batch.now.distinct

pub returns-in-Ok-clause-rests : goal.returns-in-Ok-clause-rests
returns-in-Ok-clause-rests g c = λ t.
    let old : History = g.P.Station.history c.args.station.now in
    let ws : List PageWrite = c.args.batch.now.pages in
    let all : Made (entries ws) old (g.P.Station.history c.write_made.new.station) =
    make_given ws c.as_slice.result.now old (g.P.Station.history c.is_made.new.station) (g.P.Station.history c.write_made.new.station) c.as_slice.ensures (c.in-Ok-false.ensures.told t) c.requires.pages c.args.batch.now.distinct c.requires.first c.requires.second c.requires.root (c.in-Ok.ensures.did t) in
    all.rests

pub returns-in-Ok-clause-durable : goal.returns-in-Ok-clause-durable
returns-in-Ok-clause-durable g c = λ t.
    let old : History = g.P.Station.history c.args.station.now in
    let ws : List PageWrite = c.args.batch.now.pages in
    let all : Made (entries ws) old (g.P.Station.history c.write_made.new.station) =
    make_given ws c.as_slice.result.now old (g.P.Station.history c.is_made.new.station) (g.P.Station.history c.write_made.new.station) c.as_slice.ensures (c.in-Ok-false.ensures.told t) c.requires.pages c.args.batch.now.distinct c.requires.first c.requires.second c.requires.root (c.in-Ok.ensures.did t) in
    all.durable

pub returns-in-Ok-clause-pages : goal.returns-in-Ok-clause-pages
returns-in-Ok-clause-pages g c = λ t.
    let old : History = g.P.Station.history c.args.station.now in
    let ws : List PageWrite = c.args.batch.now.pages in
    let all : Made (entries ws) old (g.P.Station.history c.write_made.new.station) =
    make_given ws c.as_slice.result.now old (g.P.Station.history c.is_made.new.station) (g.P.Station.history c.write_made.new.station) c.as_slice.ensures (c.in-Ok-false.ensures.told t) c.requires.pages c.args.batch.now.distinct c.requires.first c.requires.second c.requires.root (c.in-Ok.ensures.did t) in
    all.pages

pub returns-in-Ok-clause-root : goal.returns-in-Ok-clause-root
returns-in-Ok-clause-root g c = λ t.
    let old : History = g.P.Station.history c.args.station.now in
    let ws : List PageWrite = c.args.batch.now.pages in
    let all : Made (entries ws) old (g.P.Station.history c.write_made.new.station) =
    make_given ws c.as_slice.result.now old (g.P.Station.history c.is_made.new.station) (g.P.Station.history c.write_made.new.station) c.as_slice.ensures (c.in-Ok-false.ensures.told t) c.requires.pages c.args.batch.now.distinct c.requires.first c.requires.second c.requires.root (c.in-Ok.ensures.did t) in
    all.root

pub returns-in-Ok-clause-size : goal.returns-in-Ok-clause-size
returns-in-Ok-clause-size g c = λ t.
    let old : History = g.P.Station.history c.args.station.now in
    let ws : List PageWrite = c.args.batch.now.pages in
    let all : Made (entries ws) old (g.P.Station.history c.write_made.new.station) =
    make_given ws c.as_slice.result.now old (g.P.Station.history c.is_made.new.station) (g.P.Station.history c.write_made.new.station) c.as_slice.ensures (c.in-Ok-false.ensures.told t) c.requires.pages c.args.batch.now.distinct c.requires.first c.requires.second c.requires.root (c.in-Ok.ensures.did t) in
    all.size

pub returns-in-Ok-clause-quiet : goal.returns-in-Ok-clause-quiet
returns-in-Ok-clause-quiet g c = λ t.
    said_did (making root_page (entries c.as_slice.result.now)) (g.P.Station.history c.is_made.new.station) (g.P.Station.history c.write_made.new.station) (c.in-Ok.ensures.did t) ∙ ap said (c.in-Ok-false.ensures.told t)

pub returns-in-Err-write_made-clause-quiet : goal.returns-in-Err-write_made-clause-quiet
returns-in-Err-write_made-clause-quiet g c = λ t.
    said_part (making root_page (entries c.as_slice.result.now)) (g.P.Station.history c.is_made.new.station) (g.P.Station.history c.write_made.new.station) (c.in-Err-write_made.ensures.part t) ∙ ap said (c.in-Ok-false.ensures.told t)

pub returns-in-Ok-true-clause-part : goal.returns-in-Ok-true-clause-part
returns-in-Ok-true-clause-part g c = λ t.
    let steps : List Step = making root_page (entries c.args.batch.now.pages) in
    let old : History = g.P.Station.history c.args.station.now in
    subst (λ (h : History). DidPart steps old h) (sym (c.in-Ok-true.ensures.told t)) (nothing_done steps old)

pub returns-in-Err-clause-part : goal.returns-in-Err-clause-part
returns-in-Err-clause-part g c = λ t.
    let steps : List Step = making root_page (entries c.args.batch.now.pages) in
    let old : History = g.P.Station.history c.args.station.now in
    subst (λ (h : History). DidPart steps old h) (sym (c.in-Err.ensures.told t)) (nothing_done steps old)
