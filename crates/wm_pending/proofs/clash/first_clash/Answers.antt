use Rattle.std.proofs.Common.{◌≡◌, ℕ, Option, None, subst}
use Rattle.std.proofs.lemmas.List.Elements.{All-more}
use Rattle.std.specs.Option.{IfNone, IfSome}
use Rattle.wm_graph.specs.Parts.{parts_of}
use Rattle.wm_net.specs.Firsts.{IsFirst}
use Rattle.wm_telling.specs.Telling.{own_held}
use Rattle.wm_pending.proofs.Clashing.{Quiet, first_found, none_clash, quiet_more}
use Rattle.wm_pending.proofs.Netted.{held_of}
use Rattle.wm_pending.specs.Sides.{asked_clash}
use Rattle.wm_pending.specs.Walks.{stretch_in}
use Rattle.wm_pending.specs.declared.walk.Contest.{Contest}
use Rattle.wm_pending.proofs.clash.first_clash.Goals as goal

pub first_of_key-requires-clause-order : goal.first_of_key-requires-clause-order
first_of_key-requires-clause-order c =
    (held_of (own_held (parts_of c.args.image.now) c.args.space.now) c.args.own.now c.loop-key.key-index c.key-item.result c.loop-key-test.true c.key-item.is c.requires.own.copied.each).lie

pub returns-in-Some-clause-some : goal.returns-in-Some-clause-some
returns-in-Some-clause-some c =
    let p = parts_of c.args.image.now in
    let k = c.key-item.result in
    let q = c.asked_about-asked.result in
    first_found p c.args.space.now c.args.parent.now c.args.own.now c.loop-key.key-index k q c.in_ok-copy.field-0 (stretch_in c.in-Some.contest) c.requires.own c.loop-key.invariant c.loop-key-test.true c.key-item.is
    c.asked_about-asked.ensures
    (subst (λ (o : Option Contest). IfSome o (λ x. IsFirst (asked_clash p q k) 0 (stretch_in x))) c.in-Some.is c.in_ok-contest.ensures.some)
    c.in_ok-copy.ensures

pub loop-key-preserved : goal.loop-key-preserved
loop-key-preserved c =
    let p = parts_of c.args.image.now in
    let k = c.key-item.result in
    let q = c.asked_about-asked.result in
    All-more (Quiet p c.args.space.now c.args.parent.now) c.args.own.now c.loop-key.key-index k c.loop-key-test.true c.loop-key.invariant
    (quiet_more p c.args.space.now c.args.parent.now c.args.own.now c.loop-key.key-index k q c.loop-key-test.true c.key-item.is c.requires.own c.asked_about-asked.ensures
    (subst (λ (o : Option Contest). IfNone o ((t : ℕ) → asked_clash p q k t ≡ None)) c.in_default.is c.in_ok-contest.ensures.none))

pub returns-clause-none : goal.returns-clause-none
returns-clause-none c =
    none_clash (parts_of c.args.image.now) c.args.space.now c.args.parent.now c.args.own.now c.loop-key.key-index c.requires.own c.loop-key-test.false c.loop-key.invariant
