use Rattle.std.proofs.Common.{◌≡◌, ◌*◌, ◌/◌, ◌≤◌, ◌⊎◌, length, sym, subst, ◌∙◌}
use Rattle.std.proofs.lemmas.Result.{err_from_is_err_and}
use Rattle.wm_faults.specs.declared.fault.OpenFault.TheVariants as faults
use Rattle.wm_station.specs.History.{History, now, said, Leaves}
use Rattle.wm_station.specs.Moments.{Holds, During}
use Rattle.wm_journal.specs.Disk.{page}
use Rattle.wm_journal.specs.Store.{Settles}
use Rattle.wm_heap.specs.Content.{slots_in}
use Rattle.wm_heap.specs.Places.{IsHeapOf}
use Rattle.wm_heap.specs.Room.{KnowsRoom}
use Rattle.wm_store.specs.Opened.{Held, SaysAs, HoldsAs}
use Rattle.wm_store.specs.Stores.{IsStoreOf, KnowsRoomOf}
use Rattle.wm_store.proofs.Opening.{opened-closed}
use Rattle.wm_store.proofs.Mending.{untouched_by, says_of, says_as, says_in, moments_say, holds_as, moments_hold, settles_hold, behind_page_0, held_on, store_on}
use Rattle.wm_store.proofs.store.Store.open.Goals as goal

pub returns-in_err-journal-clause-fault : goal.returns-in_err-journal-clause-fault
returns-in_err-journal-clause-fault g c = λ t.
    let p = err_from_is_err_and c.from_residual.result c.from_residual.ensures.1 in
    rw (p.1, p.2) (says_of c.in_err-journal.field-0.0 (now (g.P.Station.history c.args.station.now)) (c.in_err-journal.ensures.fault t))

pub returns-in_err-journal-clause-same : goal.returns-in_err-journal-clause-same
returns-in_err-journal-clause-same g c = λ t. says_as (now (g.P.Station.history c.args.station.now)) (now (g.P.Station.history c.open.new.station)) (c.in_err-journal.ensures.keeps t)

pub returns-in_err-journal-clause-any_moment : goal.returns-in_err-journal-clause-any_moment
returns-in_err-journal-clause-any_moment g c = λ t. moments_say (g.P.Station.history c.args.station.now) (g.P.Station.history c.open.new.station) (c.in_err-journal.ensures.any_moment t)

pub returns-in_err-journal-clause-untouched : goal.returns-in_err-journal-clause-untouched
returns-in_err-journal-clause-untouched g c = λ t.
    let p = err_from_is_err_and c.from_residual.result c.from_residual.ensures.1 in
    rw (p.1, p.2) (λ is. untouched_by c.in_err-journal.field-0.0 (g.P.Station.history c.args.station.now) (g.P.Station.history c.open.new.station) (c.in_err-journal.ensures.untouched t) (let same : c.in_err-journal.field-0.0 ≡ faults.NotStore = cc in same))

pub returns-in_err-heap-clause-fault : goal.returns-in_err-heap-clause-fault
returns-in_err-heap-clause-fault g c = λ t.
    let p = err_from_is_err_and c.from_residual-in_err-heap.result c.from_residual-in_err-heap.ensures.1 in
    rw (p.1, p.2) (says_in c.in_err-heap.field-0.0 (now (g.P.Station.history c.args.station.now)) (now (g.P.Station.history c.open.new.station)) c.count.result (c.in_ok-journal.ensures.store t).0 (opened-closed (now (g.P.Station.history c.args.station.now)) (now (g.P.Station.history c.open.new.station)) c.count.result (c.in_ok-journal.ensures.store t).1 (c.in_ok-journal.ensures.keeps t) (c.in_ok-journal.ensures.closed t) (c.count.ensures.value ∙ c.in_ok-journal.ensures.count t)) (c.in_err-heap.ensures.fault t))

pub returns-in_err-heap-clause-same : goal.returns-in_err-heap-clause-same
returns-in_err-heap-clause-same g c = λ t.
    subst (λ (h : History). SaysAs (now (g.P.Station.history c.args.station.now)) (now h)) (sym (c.in_err-heap.ensures.told t)) (says_as (now (g.P.Station.history c.args.station.now)) (now (g.P.Station.history c.open.new.station)) (c.in_ok-journal.ensures.keeps t))

pub returns-in_err-heap-clause-any_moment : goal.returns-in_err-heap-clause-any_moment
returns-in_err-heap-clause-any_moment g c = λ t.
    subst (λ (h : History). During (g.P.Station.history c.args.station.now) h (λ f s. (Leaves (g.P.Station.history c.args.station.now) f ⊎ SaysAs (now (g.P.Station.history c.args.station.now)) f) × (s ≡ said (g.P.Station.history c.args.station.now)))) (sym (c.in_err-heap.ensures.told t)) (moments_say (g.P.Station.history c.args.station.now) (g.P.Station.history c.open.new.station) (c.in_ok-journal.ensures.any_moment t))

pub returns-clause-records : goal.returns-clause-records
returns-clause-records g c = λ t. (record { made = (c.in_ok-journal.ensures.store t).0; opens = (opened-closed (now (g.P.Station.history c.args.station.now)) (now (g.P.Station.history c.open.new.station)) c.count.result (c.in_ok-journal.ensures.store t).1 (c.in_ok-journal.ensures.keeps t) (c.in_ok-journal.ensures.closed t) (c.count.ensures.value ∙ c.in_ok-journal.ensures.count t)) ∙ c.in_ok-heap.ensures.records t })

pub returns-clause-held : goal.returns-clause-held
returns-clause-held g c = λ t.
    subst (λ (h : History). Holds h (Held c.in_ok-heap.records)) (sym (c.in_ok-heap.ensures.told t)) (held_on (g.P.Station.history c.args.station.now) (g.P.Station.history c.open.new.station) c.in_ok-heap.records (record { made = (c.in_ok-journal.ensures.store t).0; opens = (opened-closed (now (g.P.Station.history c.args.station.now)) (now (g.P.Station.history c.open.new.station)) c.count.result (c.in_ok-journal.ensures.store t).1 (c.in_ok-journal.ensures.keeps t) (c.in_ok-journal.ensures.closed t) (c.count.ensures.value ∙ c.in_ok-journal.ensures.count t)) ∙ c.in_ok-heap.ensures.records t }) (c.in_ok-journal.ensures.keeps t) (c.in_ok-journal.ensures.durable t))

pub returns-clause-store : goal.returns-clause-store
returns-clause-store g c = λ t.
    let count_is = c.count.ensures.value in
    subst (λ (h : History). IsStoreOf (record { journal = c.in_ok-journal.journal; heap = c.in_ok-heap.heap }) h) (sym (c.in_ok-heap.ensures.told t))
    (store_on (g.P.Station.history c.open.new.station) (record { journal = c.in_ok-journal.journal; heap = c.in_ok-heap.heap }) c.in_ok-heap.records
    (c.in_ok-journal.ensures.rests t (subst (λ n. n * 4096 ≤ length (now (g.P.Station.history c.open.new.station))) count_is (c.in_ok-heap.ensures.size t)))
    (subst (λ n. IsHeapOf c.in_ok-heap.heap (page (now (g.P.Station.history c.open.new.station))) n) count_is (c.in_ok-heap.ensures.heap t))
    (held_on (g.P.Station.history c.args.station.now) (g.P.Station.history c.open.new.station) c.in_ok-heap.records (record { made = (c.in_ok-journal.ensures.store t).0; opens = (opened-closed (now (g.P.Station.history c.args.station.now)) (now (g.P.Station.history c.open.new.station)) c.count.result (c.in_ok-journal.ensures.store t).1 (c.in_ok-journal.ensures.keeps t) (c.in_ok-journal.ensures.closed t) (c.count.ensures.value ∙ c.in_ok-journal.ensures.count t)) ∙ c.in_ok-heap.ensures.records t }) (c.in_ok-journal.ensures.keeps t) (c.in_ok-journal.ensures.durable t)))

pub returns-clause-room : goal.returns-clause-room
returns-clause-room g c = λ t.
    subst (KnowsRoomOf (record { journal = c.in_ok-journal.journal; heap = c.in_ok-heap.heap })) (sym (c.in_ok-heap.ensures.told t))
    (subst (KnowsRoom c.in_ok-heap.heap.room (slots_in (page (now (g.P.Station.history c.open.new.station))))) c.count.ensures.value (c.in_ok-heap.ensures.room t))

pub returns-clause-same : goal.returns-clause-same
returns-clause-same g c = λ t.
    subst (λ (h : History). SaysAs (now (g.P.Station.history c.args.station.now)) (now h)) (sym (c.in_ok-heap.ensures.told t)) (says_as (now (g.P.Station.history c.args.station.now)) (now (g.P.Station.history c.open.new.station)) (c.in_ok-journal.ensures.keeps t))

pub returns-clause-any_moment : goal.returns-clause-any_moment
returns-clause-any_moment g c = λ t.
    subst (λ (h : History). During (g.P.Station.history c.args.station.now) h (λ f s. (Leaves (g.P.Station.history c.args.station.now) f ⊎ SaysAs (now (g.P.Station.history c.args.station.now)) f) × (s ≡ said (g.P.Station.history c.args.station.now)))) (sym (c.in_ok-heap.ensures.told t)) (moments_say (g.P.Station.history c.args.station.now) (g.P.Station.history c.open.new.station) (c.in_ok-journal.ensures.any_moment t))

pub returns-in_err-journal-clause-pages : goal.returns-in_err-journal-clause-pages
returns-in_err-journal-clause-pages g c = λ t. holds_as (now (g.P.Station.history c.args.station.now)) (now (g.P.Station.history c.open.new.station)) (c.in_err-journal.ensures.keeps t)

pub returns-in_err-journal-clause-pages_any_moment : goal.returns-in_err-journal-clause-pages_any_moment
returns-in_err-journal-clause-pages_any_moment g c = λ t. moments_hold (g.P.Station.history c.args.station.now) (g.P.Station.history c.open.new.station) (c.in_err-journal.ensures.any_moment t)

pub returns-in_err-journal-clause-settles : goal.returns-in_err-journal-clause-settles
returns-in_err-journal-clause-settles g c = λ t. settles_hold (g.P.Station.history c.args.station.now) (g.P.Station.history c.open.new.station) (c.in_err-journal.ensures.settles t)

pub returns-in_err-journal-clause-synced : goal.returns-in_err-journal-clause-synced
returns-in_err-journal-clause-synced g c = λ t.
    let p = err_from_is_err_and c.from_residual.result c.from_residual.ensures.1 in
    rw (p.1, p.2) (c.in_err-journal.ensures.untouched t)

pub returns-in_err-heap-clause-synced : goal.returns-in_err-heap-clause-synced
returns-in_err-heap-clause-synced g c = λ t.
    let p = err_from_is_err_and c.from_residual-in_err-heap.result c.from_residual-in_err-heap.ensures.1 in
    rw (p.1, p.2) (λ untouched. absurd (behind_page_0 c.in_err-heap.field-0.0 (page (now (g.P.Station.history c.open.new.station))) c.count.result (length (now (g.P.Station.history c.open.new.station)) / 4096) (c.in_err-heap.ensures.fault t) untouched))

pub returns-in_err-heap-clause-pages : goal.returns-in_err-heap-clause-pages
returns-in_err-heap-clause-pages g c = λ t.
    subst (λ (h : History). HoldsAs (now (g.P.Station.history c.args.station.now)) (now h)) (sym (c.in_err-heap.ensures.told t)) (holds_as (now (g.P.Station.history c.args.station.now)) (now (g.P.Station.history c.open.new.station)) (c.in_ok-journal.ensures.keeps t))

pub returns-in_err-heap-clause-pages_any_moment : goal.returns-in_err-heap-clause-pages_any_moment
returns-in_err-heap-clause-pages_any_moment g c = λ t.
    subst (λ (h : History). During (g.P.Station.history c.args.station.now) h (λ f s. (Leaves (g.P.Station.history c.args.station.now) f ⊎ HoldsAs (now (g.P.Station.history c.args.station.now)) f) × (s ≡ said (g.P.Station.history c.args.station.now)))) (sym (c.in_err-heap.ensures.told t)) (moments_hold (g.P.Station.history c.args.station.now) (g.P.Station.history c.open.new.station) (c.in_ok-journal.ensures.any_moment t))

pub returns-in_err-heap-clause-settles : goal.returns-in_err-heap-clause-settles
returns-in_err-heap-clause-settles g c = λ t.
    subst (λ (h : History). Settles (g.P.Station.history c.args.station.now) h (HoldsAs (now (g.P.Station.history c.args.station.now)))) (sym (c.in_err-heap.ensures.told t)) (settles_hold (g.P.Station.history c.args.station.now) (g.P.Station.history c.open.new.station) (c.in_ok-journal.ensures.settles t))

pub returns-clause-pages : goal.returns-clause-pages
returns-clause-pages g c = λ t.
    subst (λ (h : History). HoldsAs (now (g.P.Station.history c.args.station.now)) (now h)) (sym (c.in_ok-heap.ensures.told t)) (holds_as (now (g.P.Station.history c.args.station.now)) (now (g.P.Station.history c.open.new.station)) (c.in_ok-journal.ensures.keeps t))

pub returns-clause-pages_any_moment : goal.returns-clause-pages_any_moment
returns-clause-pages_any_moment g c = λ t.
    subst (λ (h : History). During (g.P.Station.history c.args.station.now) h (λ f s. (Leaves (g.P.Station.history c.args.station.now) f ⊎ HoldsAs (now (g.P.Station.history c.args.station.now)) f) × (s ≡ said (g.P.Station.history c.args.station.now)))) (sym (c.in_ok-heap.ensures.told t)) (moments_hold (g.P.Station.history c.args.station.now) (g.P.Station.history c.open.new.station) (c.in_ok-journal.ensures.any_moment t))

pub returns-clause-settles : goal.returns-clause-settles
returns-clause-settles g c = λ t.
    subst (λ (h : History). Settles (g.P.Station.history c.args.station.now) h (HoldsAs (now (g.P.Station.history c.args.station.now)))) (sym (c.in_ok-heap.ensures.told t)) (settles_hold (g.P.Station.history c.args.station.now) (g.P.Station.history c.open.new.station) (c.in_ok-journal.ensures.settles t))
