use Rattle.std.proofs.Common.{◌+◌, ◌<◌, ◌≤◌, ◌⊎◌, inl, inr, arith}
use Rattle.wm_heap.specs.Draft.{slots_now}
use Rattle.wm_heap.proofs.Knowing.{whatever, none_found, found_leaves}
use Rattle.wm_heap.proofs.Standing.{then_ok}
use Rattle.wm_heap.proofs.room.take_roomy.Goals.{then-page-lt2-via-then-page-lt2, then-page-lt2-via-else-page-lt2+then-page-count}
use Rattle.wm_heap.proofs.room.take_roomy.Goals as goal

pub returns-then-page-lt2-clause-spread : goal.returns-then-page-lt2-clause-spread
returns-then-page-lt2-clause-spread g c = λ t knows.
    let slots = slots_now c.args.changed.now.entries (g.G.Pages.held c.args.pages.now) in
    let small = c.requires.small in
    let out : (c.unwrap_or-page.result < 2) ⊎ (c.args.count ≤ c.unwrap_or-page.result) = elim c.then-page-lt2.branch [
      | then-page-lt2-via-then-page-lt2 w ↦ inl w.if-page-lt2.true
      | then-page-lt2-via-else-page-lt2+then-page-count w ↦ inr w.if-page-count.true
    ] in
    let leaves = c.page_for.ensures.some slots c.args.count knows (omega arith) (omega (arith, small)) in
    let none = none_found slots c.args.count (10 + c.args.len) c.unwrap_or-page.result c.page_for.result leaves c.unwrap_or-page.ensures out in
    whatever c.take_last.result _ (λ found e. c.page_for.ensures.none slots c.args.count knows none)

pub returns-then-page-lt2-clause-knows : goal.returns-then-page-lt2-clause-knows
returns-then-page-lt2-clause-knows g c = λ t knows.
    then_ok c.take_last.result _ _ (λ all. all (slots_now c.args.changed.now.entries (g.G.Pages.held c.args.pages.now)) c.args.count knows) c.take_last.ensures.knows

pub returns-in_default-clause-spread : goal.returns-in_default-clause-spread
returns-in_default-clause-spread g c = λ t knows.
    let slots = slots_now c.args.changed.now.entries (g.G.Pages.held c.args.pages.now) in
    let small = c.requires.small in
    let leaves = c.page_for.ensures.some slots c.args.count knows (omega arith) (omega (arith, small)) in
    let fits = found_leaves slots c.args.count (10 + c.args.len) c.unwrap_or-page.result c.page_for.result leaves c.unwrap_or-page.ensures c.if-page-lt2.false in
    let full = c.in_ok-slots.ensures.none t c.in_default.is in
    absurd (omega (arith, fits, full))

pub returns-in_default-clause-knows : goal.returns-in_default-clause-knows
returns-in_default-clause-knows g c = λ t knows.
    let slots = slots_now c.args.changed.now.entries (g.G.Pages.held c.args.pages.now) in
    let small = c.requires.small in
    let leaves = c.page_for.ensures.some slots c.args.count knows (omega arith) (omega (arith, small)) in
    let fits = found_leaves slots c.args.count (10 + c.args.len) c.unwrap_or-page.result c.page_for.result leaves c.unwrap_or-page.ensures c.if-page-lt2.false in
    let full = c.in_ok-slots.ensures.none t c.in_default.is in
    absurd (omega (arith, fits, full))

pub returns-clause-knows : goal.returns-clause-knows
returns-clause-knows g c = λ t knows. c.prefer.ensures (slots_now c.args.changed.now.entries (g.G.Pages.held c.args.pages.now)) c.args.count knows
