use Rattle.std.proofs.Common.{List, refl, sym, subst, ap, ◌∙◌}
use Rattle.wm_model.proofs.Lawful.Step.{lawful_step}
use Rattle.wm_model.specs.Planning.{StandsAt, seated}
use Rattle.wm_model.specs.Step.{step}
use Rattle.wm_model.specs.Step.Refusing.{refusal_of}
use Rattle.wm_plan.specs.Idle.{is_idle}
use Rattle.wm_plan.specs.Views.{answer_view, seating_view}
use Rattle.wm_plan.specs.declared.seating.Seating.{Seating}
use Rattle.wm_print.specs.Texts.{Answer}
use Rattle.wm_spending.proofs.Counted.{spends_few}
use Rattle.wm_state.specs.State.{State, Session}
use Rattle.wm_engine.specs.Kinds.{kind_of}
use Rattle.wm_engine.specs.Working.{StandsFor, engaged}
use Rattle.wm_engine.proofs.Keeping.{begun_stands, kept_does, kept_few, kept_rules, kept_same, kept_stands, workless_plan}
use Rattle.wm_engine.proofs.Pages.{fork_most}
use Rattle.wm_engine.proofs.Replying.{engaged_same, of_refusal, tells_refusal}
use Rattle.wm_engine.proofs.Sounding.{sound_begun, sound_kept}
use Rattle.wm_engine.proofs.Working.{stands_at, stands_for}
use Rattle.wm_engine.proofs.keep.run_line.Goals as goal

-- ---- nothing was done

pub returns-in_err-planned-clause-keeps : goal.returns-in_err-planned-clause-keeps
returns-in_err-planned-clause-keeps g c = record {
  unwritten = λ told s for idle. refl;
  workless_unwritten = λ told s for workless. refl;
  any_moment = λ told s for.
      begun_stands c.args.store.now c.args.image.now c.args.sessions.now.items c.args.moment (g.P.Station.history c.args.station.now) s (step s c.args.line.now).0 (c.requires.works told)
      (stands_at (engaged c.args.store.now c.args.image.now c.args.sessions.now.items c.args.moment) s for);
  sound = λ told rules. sound_begun c.args.store.now c.args.image.now (g.P.Station.history c.args.station.now) (c.requires.works told) rules;
}

pub returns-in-Err-clause-keeps : goal.returns-in-Err-clause-keeps
returns-in-Err-clause-keeps g c = record {
  unwritten = λ told s for idle. refl;
  workless_unwritten = λ told s for workless. refl;
  any_moment = λ told s for.
      begun_stands c.args.store.now c.args.image.now c.args.sessions.now.items c.args.moment (g.P.Station.history c.args.station.now) s (step s c.args.line.now).0 (c.requires.works told)
      (stands_at (engaged c.args.store.now c.args.image.now c.args.sessions.now.items c.args.moment) s for);
  sound = λ told rules. sound_begun c.args.store.now c.args.image.now (g.P.Station.history c.args.station.now) (c.requires.works told) rules;
}

-- ---- the plan was kept, or not

pub returns-in-Err-keep-clause-keeps : goal.returns-in-Err-keep-clause-keeps
returns-in-Err-keep-clause-keeps g c =
    let at : (s : State) → StandsFor (engaged c.args.store.now c.args.image.now c.args.sessions.now.items c.args.moment) s → StandsAt c.args.image.now c.as_slice.result.now c.args.moment s = λ s for.
    subst (λ (xs : List Session). StandsAt c.args.image.now xs c.args.moment s) (sym c.as_slice.ensures.value) (stands_at (engaged c.args.store.now c.args.image.now c.args.sessions.now.items c.args.moment) s for) in
    record {
      unwritten = λ told s for idle.
          c.in-Err-keep.ensures.writes.nothing told (c.in_ok-planned.ensures.idle (ap (λ (r : State × Answer). is_idle r.1) (sym (c.in_ok-planned.ensures.does.does s (at s for))) ∙ idle)).0;
      workless_unwritten = λ told s for workless.
          c.in-Err-keep.ensures.writes.nothing told
          (workless_plan c.args.image.now c.as_slice.result.now c.args.moment c.in_ok-planned.field-0.planned.edits.items c.in_ok-planned.field-0.planned.edits.items (seating_view c.in_ok-planned.field-0.planned.seating) c.in_ok-planned.field-0.moment
          (answer_view c.in_ok-planned.field-0.planned.answer) (λ t. step t c.args.line.now) c.in_ok-planned.ensures.does refl s (at s for) workless);
      any_moment = λ told s for.
          kept_stands c.args.image.now c.as_slice.result.now c.args.moment c.in_ok-planned.field-0.planned.edits.items c.in_ok-planned.field-0.planned.edits.items (seating_view c.in_ok-planned.field-0.planned.seating) c.in_ok-planned.field-0.moment
          (answer_view c.in_ok-planned.field-0.planned.answer) (λ t. step t c.args.line.now) (g.P.Station.history c.args.station.now) (g.P.Station.history c.keep.new.station) s c.in_ok-planned.ensures.does
          (λ t. lawful_step t c.args.line.now) refl (at s for) (c.in-Err-keep.ensures.writes.any_moment told);
      sound = λ told rules.
          sound_kept c.args.image.now c.args.moment c.in_ok-planned.field-0.planned.edits.items (g.P.Station.history c.args.station.now) (g.P.Station.history c.keep.new.station) rules (c.in-Err-keep.ensures.writes.any_moment told);
    }

pub returns-in-Ok-keep-clause-keeps : goal.returns-in-Ok-keep-clause-keeps
returns-in-Ok-keep-clause-keeps g c =
    let at : (s : State) → StandsFor (engaged c.args.store.now c.args.image.now c.args.sessions.now.items c.args.moment) s → StandsAt c.args.image.now c.as_slice.result.now c.args.moment s = λ s for.
    subst (λ (xs : List Session). StandsAt c.args.image.now xs c.args.moment s) (sym c.as_slice.ensures.value) (stands_at (engaged c.args.store.now c.args.image.now c.args.sessions.now.items c.args.moment) s for) in
    record {
      unwritten = λ told s for idle.
          c.in-Ok-keep.ensures.writes.nothing told (c.in_ok-planned.ensures.idle (ap (λ (r : State × Answer). is_idle r.1) (sym (c.in_ok-planned.ensures.does.does s (at s for))) ∙ idle)).0;
      workless_unwritten = λ told s for workless.
          c.in-Ok-keep.ensures.writes.nothing told
          (workless_plan c.args.image.now c.as_slice.result.now c.args.moment c.in_ok-planned.field-0.planned.edits.items c.in_ok-planned.field-0.planned.edits.items (seating_view c.in_ok-planned.field-0.planned.seating) c.in_ok-planned.field-0.moment
          (answer_view c.in_ok-planned.field-0.planned.answer) (λ t. step t c.args.line.now) c.in_ok-planned.ensures.does refl s (at s for) workless);
      any_moment = λ told s for.
          kept_stands c.args.image.now c.as_slice.result.now c.args.moment c.in_ok-planned.field-0.planned.edits.items c.in_ok-planned.field-0.planned.edits.items (seating_view c.in_ok-planned.field-0.planned.seating) c.in_ok-planned.field-0.moment
          (answer_view c.in_ok-planned.field-0.planned.answer) (λ t. step t c.args.line.now) (g.P.Station.history c.args.station.now) (g.P.Station.history c.keep.new.station) s c.in_ok-planned.ensures.does
          (λ t. lawful_step t c.args.line.now) refl (at s for) (c.in-Ok-keep.ensures.writes.any_moment told);
      sound = λ told rules.
          sound_kept c.args.image.now c.args.moment c.in_ok-planned.field-0.planned.edits.items (g.P.Station.history c.args.station.now) (g.P.Station.history c.keep.new.station) rules (c.in-Ok-keep.ensures.writes.any_moment told);
    }

pub returns-in-Ok-keep-clause-done : goal.returns-in-Ok-keep-clause-done
returns-in-Ok-keep-clause-done g c =
    let at : (s : State) → StandsFor (engaged c.args.store.now c.args.image.now c.args.sessions.now.items c.args.moment) s → StandsAt c.args.image.now c.as_slice.result.now c.args.moment s = λ s for.
    subst (λ (xs : List Session). StandsAt c.args.image.now xs c.args.moment s) (sym c.as_slice.ensures.value) (stands_at (engaged c.args.store.now c.args.image.now c.args.sessions.now.items c.args.moment) s for) in
    record {
      answered = λ s for.
          let does = kept_does c.args.image.now c.keep.new.image c.as_slice.result.now c.keep.new.sessions.items c.args.moment c.in_ok-planned.field-0.moment c.in_ok-planned.field-0.planned.edits.items c.in_ok-planned.field-0.planned.edits.items
          (seating_view c.in_ok-planned.field-0.planned.seating) (answer_view c.in_ok-planned.field-0.planned.answer) (λ t. step t c.args.line.now) c.in-Ok.reply.bytes c.in_ok-planned.ensures.does (λ t. lawful_step t c.args.line.now) refl
          c.law_of_order.ensures c.in-Ok-keep.ensures.writes.image
          (c.in-Ok-keep.ensures.sessions ∙ ap (λ (xs : List Session). seated xs (seating_view c.in_ok-planned.field-0.planned.seating)) (sym c.as_slice.ensures.value))
          c.in-Ok.ensures.bytes s (at s for) in
          (stands_for (engaged c.keep.new.store c.keep.new.image c.keep.new.sessions.items c.in_ok-planned.field-0.moment) (step s c.args.line.now).0 does.0, does.1);
      kind = λ s for. c.in-Ok.ensures.kind ∙ ap (λ (r : State × Answer). kind_of r.1) (sym (c.in_ok-planned.ensures.does.does s (at s for)));
      refused = λ s for. c.in-Ok.ensures.refused ∙ ap (λ (r : State × Answer). refusal_of r.1) (sym (c.in_ok-planned.ensures.does.does s (at s for)));
      refusal = tells_refusal (answer_view c.in_ok-planned.field-0.planned.answer) c.in-Ok.reply.refused c.in-Ok.reply.bytes c.in-Ok.ensures.refused c.in-Ok.ensures.bytes;
      unmoved =
          of_refusal _ (answer_view c.in_ok-planned.field-0.planned.answer) c.in-Ok.reply.refused c.in-Ok.ensures.refused
          (λ idle. let quiet = c.in_ok-planned.ensures.idle idle in
          engaged_same _ _ (c.in-Ok-keep.ensures.writes.same_store quiet.0)
          (kept_same c.args.image.now c.keep.new.image c.args.moment c.in_ok-planned.field-0.planned.edits.items c.in-Ok-keep.ensures.writes.image quiet.0)
          (c.in-Ok-keep.ensures.sessions ∙ ap (λ (x : Seating). seated c.args.sessions.now.items (seating_view x)) quiet.1)
          (c.in_ok-planned.ensures.stays idle));
      untouched = λ told.
          of_refusal _ (answer_view c.in_ok-planned.field-0.planned.answer) c.in-Ok.reply.refused c.in-Ok.ensures.refused
          (λ idle. c.in-Ok-keep.ensures.writes.nothing told (c.in_ok-planned.ensures.idle idle).0);
      works = λ told. c.in-Ok-keep.ensures.writes.works told;
      rules = kept_rules c.args.image.now c.keep.new.image c.args.moment c.in_ok-planned.field-0.planned.edits.items c.in-Ok-keep.ensures.writes.image;
      few = λ fork. kept_few c.args.image.now c.keep.new.image c.args.moment c.in_ok-planned.field-0.planned.edits.items c.in_ok-planned.field-0.planned.edits.items refl c.in-Ok-keep.ensures.writes.image (c.in_ok-planned.ensures.few fork);
      few_pages = λ told fork. c.in-Ok-keep.ensures.writes.pages told 6 (fork_most c.args.image.now c.keep.new.image (kept_few c.args.image.now c.keep.new.image c.args.moment c.in_ok-planned.field-0.planned.edits.items c.in_ok-planned.field-0.planned.edits.items refl c.in-Ok-keep.ensures.writes.image (c.in_ok-planned.ensures.few fork)));
      pages = λ told n. c.in-Ok-keep.ensures.writes.pages told n;
      still = λ told. c.in-Ok-keep.ensures.writes.still told;
      net = λ net named s for.
          spends_few c.args.image.now c.keep.new.image c.args.sessions.now.items c.args.moment c.args.moment net c.in_ok-planned.field-0.planned.edits.items s
          (stands_at (engaged c.args.store.now c.args.image.now c.args.sessions.now.items c.args.moment) s for) (c.in_ok-planned.ensures.nets net named) c.in-Ok-keep.ensures.writes.spends;
      idle = λ s for idle.
          let quiet_is = ap (λ (r : State × Answer). is_idle r.1) (sym (c.in_ok-planned.ensures.does.does s (at s for))) ∙ idle in
          let quiet = c.in_ok-planned.ensures.idle quiet_is in (
            kept_same c.args.image.now c.keep.new.image c.args.moment c.in_ok-planned.field-0.planned.edits.items c.in-Ok-keep.ensures.writes.image quiet.0,
            c.in-Ok-keep.ensures.sessions ∙ ap (λ (x : Seating). seated c.args.sessions.now.items (seating_view x)) quiet.1,
            c.in_ok-planned.ensures.stays quiet_is,
          );
      workless = λ s for workless.
          kept_same c.args.image.now c.keep.new.image c.args.moment c.in_ok-planned.field-0.planned.edits.items c.in-Ok-keep.ensures.writes.image
          (workless_plan c.args.image.now c.as_slice.result.now c.args.moment c.in_ok-planned.field-0.planned.edits.items c.in_ok-planned.field-0.planned.edits.items (seating_view c.in_ok-planned.field-0.planned.seating) c.in_ok-planned.field-0.moment
          (answer_view c.in_ok-planned.field-0.planned.answer) (λ t. step t c.args.line.now) c.in_ok-planned.ensures.does refl s (at s for) workless);
    }
