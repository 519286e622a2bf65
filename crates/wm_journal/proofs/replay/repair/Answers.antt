use Rattle.std.proofs.Common.{◌≡◌, ℕ, true, false, List, sym, ◌∙◌, subst}
use Rattle.wm_faults.specs.declared.fault.OpenFault.{OpenFault}
use Rattle.wm_page.specs.Batch.{entries}
use Rattle.wm_page.specs.declared.write.PageWrite.{PageWrite}
use Rattle.wm_station.specs.History.{History, now}
use Rattle.wm_journal.specs.Disk.{is_open, is_in_order, journal_at, may_name}
use Rattle.wm_journal.specs.Header.{IsHeader}
use Rattle.wm_journal.specs.Opening.{Says}
use Rattle.wm_journal.specs.declared.header.Header.{Header}
use Rattle.wm_journal.proofs.Headers.{LiesWithin, header_outside, header_unnameable, header_repaired, header_part}
use Rattle.wm_journal.proofs.Verdicts.{bad_journal}
use Rattle.wm_journal.proofs.replay.repair.Goals as goal

pub returns-then-not-lies_within-clause-fault : goal.returns-then-not-lies_within-clause-fault
returns-then-not-lies_within-clause-fault g c = λ t.
    let file : List ℕ = now (g.P.Station.history c.args.station.now) in
    let h : Header = c.args.header.now in
    let is : IsHeader h file = c.requires.header t in
    let open_ : is_open file ≡ true = sym is.open_ ∙ c.if-not-header.false in
    let disorder : is_in_order file ≡ false = header_outside h file c.args.size is (c.requires.size t) (λ lies. let yes : c.lies_within.result ≡ true = c.lies_within.ensures.1 lies in cc) in
    subst (λ (e : OpenFault). Says e file) (sym c.damaged.ensures) (is.made, bad_journal file is.size is.format open_ disorder)

pub returns-in-Ok-None-clause-fault : goal.returns-in-Ok-None-clause-fault
returns-in-Ok-None-clause-fault g c = λ t.
    let file : List ℕ = now (g.P.Station.history c.args.station.now) in
    let h : Header = c.args.header.now in
    let is : IsHeader h file = c.requires.header t in
    let open_ : is_open file ≡ true = sym is.open_ ∙ c.if-not-header.false in
    let names : may_name h.start (journal_at file h.start h.images) ≡ false = rw c.in-Ok-None.field-0-is at (c.in-Ok-None.ensures.pages t) in
    subst (λ (e : OpenFault). Says e file) (sym c.damaged-in-Ok-None.ensures) (is.made, bad_journal file is.size is.format open_ (header_unnameable h file is names))

pub returns-in-Ok-clause-done : goal.returns-in-Ok-clause-done
returns-in-Ok-clause-done g c = λ t.
    let old : History = g.P.Station.history c.args.station.now in
    let h : Header = c.args.header.now in
    let is : IsHeader h (now old) = c.requires.header t in
    let open_ : is_open (now old) ≡ true = sym is.open_ ∙ c.if-not-header.false in
    let lies : LiesWithin h.start h.images c.args.size = c.lies_within.ensures.0 c.if-not-lies_within.false in
    let ws : List PageWrite = c.in-Ok-Some.pages.items in
    let read : (entries ws ≡ journal_at (now old) h.start h.images) × (may_name h.start (entries ws) ≡ true) = rw c.in-Ok-Some.field-0-is at (c.in-Ok-Some.ensures.pages t) in
    header_repaired h c.args.size old (g.P.Station.history c.read_pages.new.station) (g.P.Station.history c.put_back.new.station) ws c.deref.result.now is open_ (c.requires.size t) lies (c.in-Ok-Some.ensures.told t) c.deref.ensures.value read.0 read.1 (c.in-Ok.ensures.did t)

pub returns-clause-part : goal.returns-clause-part
returns-clause-part g c = λ t.
    let old : History = g.P.Station.history c.args.station.now in
    let h : Header = c.args.header.now in
    let is : IsHeader h (now old) = c.requires.header t in
    let open_ : is_open (now old) ≡ true = sym is.open_ ∙ c.if-not-header.false in
    let lies : LiesWithin h.start h.images c.args.size = c.lies_within.ensures.0 c.if-not-lies_within.false in
    let ws : List PageWrite = c.in-Ok-Some.pages.items in
    let read : (entries ws ≡ journal_at (now old) h.start h.images) × (may_name h.start (entries ws) ≡ true) = rw c.in-Ok-Some.field-0-is at (c.in-Ok-Some.ensures.pages t) in
    header_part h c.args.size old (g.P.Station.history c.read_pages.new.station) (g.P.Station.history c.put_back.new.station) ws c.deref.result.now is open_ (c.requires.size t) lies (c.in-Ok-Some.ensures.told t) c.deref.ensures.value read.0 read.1 (c.in-Err-put_back.ensures.part t)
