use Rattle.std.proofs.Common.{◌≡◌, ◌∙◌}
use Rattle.std.proofs.lemmas.Result.{err_from_is_err_and}
use Rattle.wm_station.specs.History.{History, Synced, now}
use Rattle.wm_journal.specs.Header.{IsHeader}
use Rattle.wm_journal.specs.declared.header.Header.{Header}
use Rattle.wm_journal.proofs.Opens.{Opened, opened, kept_before, kept_after, kept_failed, kept_told, mended_all, size_mended, whole_mended, says_keeps}
use Rattle.wm_journal.proofs.Repairs.{Mended}
use Rattle.wm_journal.proofs.journal.Journal.open.Goals as goal

pub returns-in_err-settle-clause-any_moment : goal.returns-in_err-settle-clause-any_moment
returns-in_err-settle-clause-any_moment g c = λ t.
    let old : History = g.P.Station.history c.args.station.now in
    (kept_before old (g.P.Station.history c.settle.new.station) (c.in_err-settle.ensures.err t)).during

pub returns-in_err-settle-clause-settles : goal.returns-in_err-settle-clause-settles
returns-in_err-settle-clause-settles g c = λ t.
    let old : History = g.P.Station.history c.args.station.now in
    (kept_before old (g.P.Station.history c.settle.new.station) (c.in_err-settle.ensures.err t)).settles

pub returns-in_err-size-clause-any_moment : goal.returns-in_err-size-clause-any_moment
returns-in_err-size-clause-any_moment g c = λ t.
    let old : History = g.P.Station.history c.args.station.now in
    let sized : History = g.P.Station.history c.settle.new.station in
    let settled : sized ≡ Synced old = c.in_ok-settle.ensures.ok t in
    (kept_after old (g.P.Station.history c.size_of.new.station) (c.in_err-size.ensures.told t ∙ settled)).during

pub returns-in_err-size-clause-settles : goal.returns-in_err-size-clause-settles
returns-in_err-size-clause-settles g c = λ t.
    let old : History = g.P.Station.history c.args.station.now in
    let sized : History = g.P.Station.history c.settle.new.station in
    let settled : sized ≡ Synced old = c.in_ok-settle.ensures.ok t in
    (kept_after old (g.P.Station.history c.size_of.new.station) (c.in_err-size.ensures.told t ∙ settled)).settles

pub returns-in_err-header-clause-any_moment : goal.returns-in_err-header-clause-any_moment
returns-in_err-header-clause-any_moment g c = λ t.
    let old : History = g.P.Station.history c.args.station.now in
    let sized : History = g.P.Station.history c.settle.new.station in
    let settled : sized ≡ Synced old = c.in_ok-settle.ensures.ok t in
    let at : History = g.P.Station.history c.size_of.new.station in
    let at_is : at ≡ Synced old = c.in_ok-size.ensures.told t ∙ settled in
    (kept_after old (g.P.Station.history c.read_header.new.station) (c.in_err-header.ensures.told t ∙ at_is)).during

pub returns-in_err-header-clause-settles : goal.returns-in_err-header-clause-settles
returns-in_err-header-clause-settles g c = λ t.
    let old : History = g.P.Station.history c.args.station.now in
    let sized : History = g.P.Station.history c.settle.new.station in
    let settled : sized ≡ Synced old = c.in_ok-settle.ensures.ok t in
    let at : History = g.P.Station.history c.size_of.new.station in
    let at_is : at ≡ Synced old = c.in_ok-size.ensures.told t ∙ settled in
    (kept_after old (g.P.Station.history c.read_header.new.station) (c.in_err-header.ensures.told t ∙ at_is)).settles

pub returns-in_err-repair-clause-keeps : goal.returns-in_err-repair-clause-keeps
returns-in_err-repair-clause-keeps g c = λ t.
    let old : History = g.P.Station.history c.args.station.now in
    let sized : History = g.P.Station.history c.settle.new.station in
    let settled : sized ≡ Synced old = c.in_ok-settle.ensures.ok t in
    let at : History = g.P.Station.history c.size_of.new.station in
    let at_is : at ≡ Synced old = c.in_ok-size.ensures.told t ∙ settled in
    let from : History = g.P.Station.history c.read_header.new.station in
    let from_is : from ≡ Synced old = c.in_ok-header.ensures.told t ∙ at_is in
    let header : Header = c.in_ok-header.header in
    let is : IsHeader header (now at) = c.in_ok-header.ensures.header t in
    let fixed : History = g.P.Station.history c.repair.new.station in
    (kept_failed header old at from fixed at_is from_is is (c.in_err-repair.ensures.part t)).keeps

pub returns-in_err-repair-clause-any_moment : goal.returns-in_err-repair-clause-any_moment
returns-in_err-repair-clause-any_moment g c = λ t.
    let old : History = g.P.Station.history c.args.station.now in
    let sized : History = g.P.Station.history c.settle.new.station in
    let settled : sized ≡ Synced old = c.in_ok-settle.ensures.ok t in
    let at : History = g.P.Station.history c.size_of.new.station in
    let at_is : at ≡ Synced old = c.in_ok-size.ensures.told t ∙ settled in
    let from : History = g.P.Station.history c.read_header.new.station in
    let from_is : from ≡ Synced old = c.in_ok-header.ensures.told t ∙ at_is in
    let header : Header = c.in_ok-header.header in
    let is : IsHeader header (now at) = c.in_ok-header.ensures.header t in
    let fixed : History = g.P.Station.history c.repair.new.station in
    (kept_failed header old at from fixed at_is from_is is (c.in_err-repair.ensures.part t)).during

pub returns-in_err-repair-clause-settles : goal.returns-in_err-repair-clause-settles
returns-in_err-repair-clause-settles g c = λ t.
    let old : History = g.P.Station.history c.args.station.now in
    let sized : History = g.P.Station.history c.settle.new.station in
    let settled : sized ≡ Synced old = c.in_ok-settle.ensures.ok t in
    let at : History = g.P.Station.history c.size_of.new.station in
    let at_is : at ≡ Synced old = c.in_ok-size.ensures.told t ∙ settled in
    let from : History = g.P.Station.history c.read_header.new.station in
    let from_is : from ≡ Synced old = c.in_ok-header.ensures.told t ∙ at_is in
    let header : Header = c.in_ok-header.header in
    let is : IsHeader header (now at) = c.in_ok-header.ensures.header t in
    let fixed : History = g.P.Station.history c.repair.new.station in
    (kept_failed header old at from fixed at_is from_is is (c.in_err-repair.ensures.part t)).settles

pub returns-in_err-repair-clause-quiet : goal.returns-in_err-repair-clause-quiet
returns-in_err-repair-clause-quiet g c = λ t.
    let old : History = g.P.Station.history c.args.station.now in
    let sized : History = g.P.Station.history c.settle.new.station in
    let settled : sized ≡ Synced old = c.in_ok-settle.ensures.ok t in
    let at : History = g.P.Station.history c.size_of.new.station in
    let at_is : at ≡ Synced old = c.in_ok-size.ensures.told t ∙ settled in
    let from : History = g.P.Station.history c.read_header.new.station in
    let from_is : from ≡ Synced old = c.in_ok-header.ensures.told t ∙ at_is in
    let header : Header = c.in_ok-header.header in
    let is : IsHeader header (now at) = c.in_ok-header.ensures.header t in
    let fixed : History = g.P.Station.history c.repair.new.station in
    (kept_failed header old at from fixed at_is from_is is (c.in_err-repair.ensures.part t)).quiet

pub read_count-requires-clause-size : goal.read_count-requires-clause-size
read_count-requires-clause-size g c = λ t.
    let old : History = g.P.Station.history c.args.station.now in
    let sized : History = g.P.Station.history c.settle.new.station in
    let settled : sized ≡ Synced old = c.in_ok-settle.ensures.ok t in
    let at : History = g.P.Station.history c.size_of.new.station in
    let at_is : at ≡ Synced old = c.in_ok-size.ensures.told t ∙ settled in
    let from : History = g.P.Station.history c.read_header.new.station in
    let from_is : from ≡ Synced old = c.in_ok-header.ensures.told t ∙ at_is in
    let header : Header = c.in_ok-header.header in
    let is : IsHeader header (now at) = c.in_ok-header.ensures.header t in
    let fixed : History = g.P.Station.history c.repair.new.station in
    let mended : Mended old fixed = mended_all header old at from fixed at_is from_is is (c.in_ok-repair.ensures.done t) in
    size_mended c.in_ok-size.size old sized fixed settled mended (c.in_ok-size.ensures.size t)

pub read_count-requires-clause-made : goal.read_count-requires-clause-made
read_count-requires-clause-made g c = λ t.
    let old : History = g.P.Station.history c.args.station.now in
    let sized : History = g.P.Station.history c.settle.new.station in
    let settled : sized ≡ Synced old = c.in_ok-settle.ensures.ok t in
    let at : History = g.P.Station.history c.size_of.new.station in
    let at_is : at ≡ Synced old = c.in_ok-size.ensures.told t ∙ settled in
    let from : History = g.P.Station.history c.read_header.new.station in
    let from_is : from ≡ Synced old = c.in_ok-header.ensures.told t ∙ at_is in
    let header : Header = c.in_ok-header.header in
    let is : IsHeader header (now at) = c.in_ok-header.ensures.header t in
    let fixed : History = g.P.Station.history c.repair.new.station in
    let mended : Mended old fixed = mended_all header old at from fixed at_is from_is is (c.in_ok-repair.ensures.done t) in
    mended.made

pub read_count-requires-clause-format : goal.read_count-requires-clause-format
read_count-requires-clause-format g c = λ t.
    let old : History = g.P.Station.history c.args.station.now in
    let sized : History = g.P.Station.history c.settle.new.station in
    let settled : sized ≡ Synced old = c.in_ok-settle.ensures.ok t in
    let at : History = g.P.Station.history c.size_of.new.station in
    let at_is : at ≡ Synced old = c.in_ok-size.ensures.told t ∙ settled in
    let from : History = g.P.Station.history c.read_header.new.station in
    let from_is : from ≡ Synced old = c.in_ok-header.ensures.told t ∙ at_is in
    let header : Header = c.in_ok-header.header in
    let is : IsHeader header (now at) = c.in_ok-header.ensures.header t in
    let fixed : History = g.P.Station.history c.repair.new.station in
    let mended : Mended old fixed = mended_all header old at from fixed at_is from_is is (c.in_ok-repair.ensures.done t) in
    mended.format

pub read_count-requires-clause-closed : goal.read_count-requires-clause-closed
read_count-requires-clause-closed g c = λ t.
    let old : History = g.P.Station.history c.args.station.now in
    let sized : History = g.P.Station.history c.settle.new.station in
    let settled : sized ≡ Synced old = c.in_ok-settle.ensures.ok t in
    let at : History = g.P.Station.history c.size_of.new.station in
    let at_is : at ≡ Synced old = c.in_ok-size.ensures.told t ∙ settled in
    let from : History = g.P.Station.history c.read_header.new.station in
    let from_is : from ≡ Synced old = c.in_ok-header.ensures.told t ∙ at_is in
    let header : Header = c.in_ok-header.header in
    let is : IsHeader header (now at) = c.in_ok-header.ensures.header t in
    let fixed : History = g.P.Station.history c.repair.new.station in
    let mended : Mended old fixed = mended_all header old at from fixed at_is from_is is (c.in_ok-repair.ensures.done t) in
    mended.closed

pub read_count-requires-clause-whole : goal.read_count-requires-clause-whole
read_count-requires-clause-whole g c = λ t.
    let old : History = g.P.Station.history c.args.station.now in
    let sized : History = g.P.Station.history c.settle.new.station in
    let settled : sized ≡ Synced old = c.in_ok-settle.ensures.ok t in
    let at : History = g.P.Station.history c.size_of.new.station in
    let at_is : at ≡ Synced old = c.in_ok-size.ensures.told t ∙ settled in
    let from : History = g.P.Station.history c.read_header.new.station in
    let from_is : from ≡ Synced old = c.in_ok-header.ensures.told t ∙ at_is in
    let header : Header = c.in_ok-header.header in
    let is : IsHeader header (now at) = c.in_ok-header.ensures.header t in
    let fixed : History = g.P.Station.history c.repair.new.station in
    let mended : Mended old fixed = mended_all header old at from fixed at_is from_is is (c.in_ok-repair.ensures.done t) in
    whole_mended header old at fixed at_is is mended

pub returns-in_err-count-clause-fault : goal.returns-in_err-count-clause-fault
returns-in_err-count-clause-fault g c = λ t.
    let old : History = g.P.Station.history c.args.station.now in
    let sized : History = g.P.Station.history c.settle.new.station in
    let settled : sized ≡ Synced old = c.in_ok-settle.ensures.ok t in
    let at : History = g.P.Station.history c.size_of.new.station in
    let at_is : at ≡ Synced old = c.in_ok-size.ensures.told t ∙ settled in
    let from : History = g.P.Station.history c.read_header.new.station in
    let from_is : from ≡ Synced old = c.in_ok-header.ensures.told t ∙ at_is in
    let header : Header = c.in_ok-header.header in
    let is : IsHeader header (now at) = c.in_ok-header.ensures.header t in
    let fixed : History = g.P.Station.history c.repair.new.station in
    let mended : Mended old fixed = mended_all header old at from fixed at_is from_is is (c.in_ok-repair.ensures.done t) in
    let p = err_from_is_err_and c.from_residual-in_err-count.result c.from_residual-in_err-count.ensures.1 in
    rw (p.1, p.2) (says_keeps (now old) (now fixed) mended.kept.keeps _ (c.in_err-count.ensures.fault t))

pub returns-in_err-count-clause-keeps : goal.returns-in_err-count-clause-keeps
returns-in_err-count-clause-keeps g c = λ t.
    let old : History = g.P.Station.history c.args.station.now in
    let sized : History = g.P.Station.history c.settle.new.station in
    let settled : sized ≡ Synced old = c.in_ok-settle.ensures.ok t in
    let at : History = g.P.Station.history c.size_of.new.station in
    let at_is : at ≡ Synced old = c.in_ok-size.ensures.told t ∙ settled in
    let from : History = g.P.Station.history c.read_header.new.station in
    let from_is : from ≡ Synced old = c.in_ok-header.ensures.told t ∙ at_is in
    let header : Header = c.in_ok-header.header in
    let is : IsHeader header (now at) = c.in_ok-header.ensures.header t in
    let fixed : History = g.P.Station.history c.repair.new.station in
    let mended : Mended old fixed = mended_all header old at from fixed at_is from_is is (c.in_ok-repair.ensures.done t) in
    let new : History = g.P.Station.history c.read_count.new.station in
    (kept_told old fixed new mended (c.in_err-count.ensures.told t)).keeps

pub returns-in_err-count-clause-any_moment : goal.returns-in_err-count-clause-any_moment
returns-in_err-count-clause-any_moment g c = λ t.
    let old : History = g.P.Station.history c.args.station.now in
    let sized : History = g.P.Station.history c.settle.new.station in
    let settled : sized ≡ Synced old = c.in_ok-settle.ensures.ok t in
    let at : History = g.P.Station.history c.size_of.new.station in
    let at_is : at ≡ Synced old = c.in_ok-size.ensures.told t ∙ settled in
    let from : History = g.P.Station.history c.read_header.new.station in
    let from_is : from ≡ Synced old = c.in_ok-header.ensures.told t ∙ at_is in
    let header : Header = c.in_ok-header.header in
    let is : IsHeader header (now at) = c.in_ok-header.ensures.header t in
    let fixed : History = g.P.Station.history c.repair.new.station in
    let mended : Mended old fixed = mended_all header old at from fixed at_is from_is is (c.in_ok-repair.ensures.done t) in
    let new : History = g.P.Station.history c.read_count.new.station in
    (kept_told old fixed new mended (c.in_err-count.ensures.told t)).during

pub returns-in_err-count-clause-settles : goal.returns-in_err-count-clause-settles
returns-in_err-count-clause-settles g c = λ t.
    let old : History = g.P.Station.history c.args.station.now in
    let sized : History = g.P.Station.history c.settle.new.station in
    let settled : sized ≡ Synced old = c.in_ok-settle.ensures.ok t in
    let at : History = g.P.Station.history c.size_of.new.station in
    let at_is : at ≡ Synced old = c.in_ok-size.ensures.told t ∙ settled in
    let from : History = g.P.Station.history c.read_header.new.station in
    let from_is : from ≡ Synced old = c.in_ok-header.ensures.told t ∙ at_is in
    let header : Header = c.in_ok-header.header in
    let is : IsHeader header (now at) = c.in_ok-header.ensures.header t in
    let fixed : History = g.P.Station.history c.repair.new.station in
    let mended : Mended old fixed = mended_all header old at from fixed at_is from_is is (c.in_ok-repair.ensures.done t) in
    let new : History = g.P.Station.history c.read_count.new.station in
    (kept_told old fixed new mended (c.in_err-count.ensures.told t)).settles

pub returns-in_err-count-clause-quiet : goal.returns-in_err-count-clause-quiet
returns-in_err-count-clause-quiet g c = λ t.
    let old : History = g.P.Station.history c.args.station.now in
    let sized : History = g.P.Station.history c.settle.new.station in
    let settled : sized ≡ Synced old = c.in_ok-settle.ensures.ok t in
    let at : History = g.P.Station.history c.size_of.new.station in
    let at_is : at ≡ Synced old = c.in_ok-size.ensures.told t ∙ settled in
    let from : History = g.P.Station.history c.read_header.new.station in
    let from_is : from ≡ Synced old = c.in_ok-header.ensures.told t ∙ at_is in
    let header : Header = c.in_ok-header.header in
    let is : IsHeader header (now at) = c.in_ok-header.ensures.header t in
    let fixed : History = g.P.Station.history c.repair.new.station in
    let mended : Mended old fixed = mended_all header old at from fixed at_is from_is is (c.in_ok-repair.ensures.done t) in
    let new : History = g.P.Station.history c.read_count.new.station in
    (kept_told old fixed new mended (c.in_err-count.ensures.told t)).quiet

pub returns-clause-store : goal.returns-clause-store
returns-clause-store g c = λ t.
    let old : History = g.P.Station.history c.args.station.now in
    let sized : History = g.P.Station.history c.settle.new.station in
    let settled : sized ≡ Synced old = c.in_ok-settle.ensures.ok t in
    let at : History = g.P.Station.history c.size_of.new.station in
    let at_is : at ≡ Synced old = c.in_ok-size.ensures.told t ∙ settled in
    let from : History = g.P.Station.history c.read_header.new.station in
    let from_is : from ≡ Synced old = c.in_ok-header.ensures.told t ∙ at_is in
    let header : Header = c.in_ok-header.header in
    let is : IsHeader header (now at) = c.in_ok-header.ensures.header t in
    let fixed : History = g.P.Station.history c.repair.new.station in
    let mended : Mended old fixed = mended_all header old at from fixed at_is from_is is (c.in_ok-repair.ensures.done t) in
    let new : History = g.P.Station.history c.read_count.new.station in
    let all : Opened old new c.in_ok-count.count = opened old fixed new c.in_ok-count.count mended (c.in_ok-count.ensures.told t) (whole_mended header old at fixed at_is is mended) (c.in_ok-count.ensures.count t) (c.in_ok-count.ensures.store t) in
    (all.made, all.damage)

pub returns-clause-count : goal.returns-clause-count
returns-clause-count g c = λ t.
    let old : History = g.P.Station.history c.args.station.now in
    let sized : History = g.P.Station.history c.settle.new.station in
    let settled : sized ≡ Synced old = c.in_ok-settle.ensures.ok t in
    let at : History = g.P.Station.history c.size_of.new.station in
    let at_is : at ≡ Synced old = c.in_ok-size.ensures.told t ∙ settled in
    let from : History = g.P.Station.history c.read_header.new.station in
    let from_is : from ≡ Synced old = c.in_ok-header.ensures.told t ∙ at_is in
    let header : Header = c.in_ok-header.header in
    let is : IsHeader header (now at) = c.in_ok-header.ensures.header t in
    let fixed : History = g.P.Station.history c.repair.new.station in
    let mended : Mended old fixed = mended_all header old at from fixed at_is from_is is (c.in_ok-repair.ensures.done t) in
    let new : History = g.P.Station.history c.read_count.new.station in
    let all : Opened old new c.in_ok-count.count = opened old fixed new c.in_ok-count.count mended (c.in_ok-count.ensures.told t) (whole_mended header old at fixed at_is is mended) (c.in_ok-count.ensures.count t) (c.in_ok-count.ensures.store t) in
    all.count_is

pub returns-clause-keeps : goal.returns-clause-keeps
returns-clause-keeps g c = λ t.
    let old : History = g.P.Station.history c.args.station.now in
    let sized : History = g.P.Station.history c.settle.new.station in
    let settled : sized ≡ Synced old = c.in_ok-settle.ensures.ok t in
    let at : History = g.P.Station.history c.size_of.new.station in
    let at_is : at ≡ Synced old = c.in_ok-size.ensures.told t ∙ settled in
    let from : History = g.P.Station.history c.read_header.new.station in
    let from_is : from ≡ Synced old = c.in_ok-header.ensures.told t ∙ at_is in
    let header : Header = c.in_ok-header.header in
    let is : IsHeader header (now at) = c.in_ok-header.ensures.header t in
    let fixed : History = g.P.Station.history c.repair.new.station in
    let mended : Mended old fixed = mended_all header old at from fixed at_is from_is is (c.in_ok-repair.ensures.done t) in
    let new : History = g.P.Station.history c.read_count.new.station in
    let all : Opened old new c.in_ok-count.count = opened old fixed new c.in_ok-count.count mended (c.in_ok-count.ensures.told t) (whole_mended header old at fixed at_is is mended) (c.in_ok-count.ensures.count t) (c.in_ok-count.ensures.store t) in
    all.mended.kept.keeps

pub returns-clause-closed : goal.returns-clause-closed
returns-clause-closed g c = λ t.
    let old : History = g.P.Station.history c.args.station.now in
    let sized : History = g.P.Station.history c.settle.new.station in
    let settled : sized ≡ Synced old = c.in_ok-settle.ensures.ok t in
    let at : History = g.P.Station.history c.size_of.new.station in
    let at_is : at ≡ Synced old = c.in_ok-size.ensures.told t ∙ settled in
    let from : History = g.P.Station.history c.read_header.new.station in
    let from_is : from ≡ Synced old = c.in_ok-header.ensures.told t ∙ at_is in
    let header : Header = c.in_ok-header.header in
    let is : IsHeader header (now at) = c.in_ok-header.ensures.header t in
    let fixed : History = g.P.Station.history c.repair.new.station in
    let mended : Mended old fixed = mended_all header old at from fixed at_is from_is is (c.in_ok-repair.ensures.done t) in
    let new : History = g.P.Station.history c.read_count.new.station in
    let all : Opened old new c.in_ok-count.count = opened old fixed new c.in_ok-count.count mended (c.in_ok-count.ensures.told t) (whole_mended header old at fixed at_is is mended) (c.in_ok-count.ensures.count t) (c.in_ok-count.ensures.store t) in
    all.mended.closed

pub returns-clause-durable : goal.returns-clause-durable
returns-clause-durable g c = λ t.
    let old : History = g.P.Station.history c.args.station.now in
    let sized : History = g.P.Station.history c.settle.new.station in
    let settled : sized ≡ Synced old = c.in_ok-settle.ensures.ok t in
    let at : History = g.P.Station.history c.size_of.new.station in
    let at_is : at ≡ Synced old = c.in_ok-size.ensures.told t ∙ settled in
    let from : History = g.P.Station.history c.read_header.new.station in
    let from_is : from ≡ Synced old = c.in_ok-header.ensures.told t ∙ at_is in
    let header : Header = c.in_ok-header.header in
    let is : IsHeader header (now at) = c.in_ok-header.ensures.header t in
    let fixed : History = g.P.Station.history c.repair.new.station in
    let mended : Mended old fixed = mended_all header old at from fixed at_is from_is is (c.in_ok-repair.ensures.done t) in
    let new : History = g.P.Station.history c.read_count.new.station in
    let all : Opened old new c.in_ok-count.count = opened old fixed new c.in_ok-count.count mended (c.in_ok-count.ensures.told t) (whole_mended header old at fixed at_is is mended) (c.in_ok-count.ensures.count t) (c.in_ok-count.ensures.store t) in
    all.mended.durable

pub returns-clause-rests : goal.returns-clause-rests
returns-clause-rests g c = λ t.
    let old : History = g.P.Station.history c.args.station.now in
    let sized : History = g.P.Station.history c.settle.new.station in
    let settled : sized ≡ Synced old = c.in_ok-settle.ensures.ok t in
    let at : History = g.P.Station.history c.size_of.new.station in
    let at_is : at ≡ Synced old = c.in_ok-size.ensures.told t ∙ settled in
    let from : History = g.P.Station.history c.read_header.new.station in
    let from_is : from ≡ Synced old = c.in_ok-header.ensures.told t ∙ at_is in
    let header : Header = c.in_ok-header.header in
    let is : IsHeader header (now at) = c.in_ok-header.ensures.header t in
    let fixed : History = g.P.Station.history c.repair.new.station in
    let mended : Mended old fixed = mended_all header old at from fixed at_is from_is is (c.in_ok-repair.ensures.done t) in
    let new : History = g.P.Station.history c.read_count.new.station in
    let all : Opened old new c.in_ok-count.count = opened old fixed new c.in_ok-count.count mended (c.in_ok-count.ensures.told t) (whole_mended header old at fixed at_is is mended) (c.in_ok-count.ensures.count t) (c.in_ok-count.ensures.store t) in
    all.rests

pub returns-clause-any_moment : goal.returns-clause-any_moment
returns-clause-any_moment g c = λ t.
    let old : History = g.P.Station.history c.args.station.now in
    let sized : History = g.P.Station.history c.settle.new.station in
    let settled : sized ≡ Synced old = c.in_ok-settle.ensures.ok t in
    let at : History = g.P.Station.history c.size_of.new.station in
    let at_is : at ≡ Synced old = c.in_ok-size.ensures.told t ∙ settled in
    let from : History = g.P.Station.history c.read_header.new.station in
    let from_is : from ≡ Synced old = c.in_ok-header.ensures.told t ∙ at_is in
    let header : Header = c.in_ok-header.header in
    let is : IsHeader header (now at) = c.in_ok-header.ensures.header t in
    let fixed : History = g.P.Station.history c.repair.new.station in
    let mended : Mended old fixed = mended_all header old at from fixed at_is from_is is (c.in_ok-repair.ensures.done t) in
    let new : History = g.P.Station.history c.read_count.new.station in
    let all : Opened old new c.in_ok-count.count = opened old fixed new c.in_ok-count.count mended (c.in_ok-count.ensures.told t) (whole_mended header old at fixed at_is is mended) (c.in_ok-count.ensures.count t) (c.in_ok-count.ensures.store t) in
    all.mended.kept.during

pub returns-clause-settles : goal.returns-clause-settles
returns-clause-settles g c = λ t.
    let old : History = g.P.Station.history c.args.station.now in
    let sized : History = g.P.Station.history c.settle.new.station in
    let settled : sized ≡ Synced old = c.in_ok-settle.ensures.ok t in
    let at : History = g.P.Station.history c.size_of.new.station in
    let at_is : at ≡ Synced old = c.in_ok-size.ensures.told t ∙ settled in
    let from : History = g.P.Station.history c.read_header.new.station in
    let from_is : from ≡ Synced old = c.in_ok-header.ensures.told t ∙ at_is in
    let header : Header = c.in_ok-header.header in
    let is : IsHeader header (now at) = c.in_ok-header.ensures.header t in
    let fixed : History = g.P.Station.history c.repair.new.station in
    let mended : Mended old fixed = mended_all header old at from fixed at_is from_is is (c.in_ok-repair.ensures.done t) in
    let new : History = g.P.Station.history c.read_count.new.station in
    let all : Opened old new c.in_ok-count.count = opened old fixed new c.in_ok-count.count mended (c.in_ok-count.ensures.told t) (whole_mended header old at fixed at_is is mended) (c.in_ok-count.ensures.count t) (c.in_ok-count.ensures.store t) in
    all.mended.kept.settles

pub returns-clause-quiet : goal.returns-clause-quiet
returns-clause-quiet g c = λ t.
    let old : History = g.P.Station.history c.args.station.now in
    let sized : History = g.P.Station.history c.settle.new.station in
    let settled : sized ≡ Synced old = c.in_ok-settle.ensures.ok t in
    let at : History = g.P.Station.history c.size_of.new.station in
    let at_is : at ≡ Synced old = c.in_ok-size.ensures.told t ∙ settled in
    let from : History = g.P.Station.history c.read_header.new.station in
    let from_is : from ≡ Synced old = c.in_ok-header.ensures.told t ∙ at_is in
    let header : Header = c.in_ok-header.header in
    let is : IsHeader header (now at) = c.in_ok-header.ensures.header t in
    let fixed : History = g.P.Station.history c.repair.new.station in
    let mended : Mended old fixed = mended_all header old at from fixed at_is from_is is (c.in_ok-repair.ensures.done t) in
    let new : History = g.P.Station.history c.read_count.new.station in
    let all : Opened old new c.in_ok-count.count = opened old fixed new c.in_ok-count.count mended (c.in_ok-count.ensures.told t) (whole_mended header old at fixed at_is is mended) (c.in_ok-count.ensures.count t) (c.in_ok-count.ensures.store t) in
    all.mended.kept.quiet
