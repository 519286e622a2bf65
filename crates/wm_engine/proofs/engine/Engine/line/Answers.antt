use Rattle.std.proofs.Common.{List, [], Option, unwrap_or, inl, refl, sym, ap, ◌∙◌}
use Rattle.wm_spec.specs.declared.record.stored.Stored.{Stored}
use Rattle.wm_engine.proofs.Committing.{ended_begun}
use Rattle.wm_engine.proofs.Replying.{engaged_same}
use Rattle.wm_engine.proofs.Sounding.{sound_begun}
use Rattle.wm_engine.proofs.Working.{done_same, keeps_same, stands_over}
use Rattle.wm_engine.proofs.engine.Engine.line.Goals as goal

-- the engine was given up
pub returns-in_default-clause-keeps : goal.returns-in_default-clause-keeps
returns-in_default-clause-keeps g c = record {
  unwritten = λ told s for idle. refl;
  workless_unwritten = λ told s for workless. refl;
  any_moment = λ told s for.
      let holds = stands_over _ _ s (c.requires.works told) for in ended_begun _ _ (record { here = inl holds.here; left = λ f leaves. inl (holds.left f leaves) });
  sound = λ told rules. sound_begun _ _ _ (c.requires.works told) rules;
}

pub returns-in-Ok-clause-done : goal.returns-in-Ok-clause-done
returns-in-Ok-clause-done g c =
    let here = ap (λ (o : Option (List Stored)). unwrap_or o []) (sym c.in-Some.ensures.value) in
    let after = ap (λ (o : Option (List Stored)). unwrap_or o []) (sym c.replace.ensures.after) in
    done_same g.P.Station.tells c.args.line.now _ _ _ _ _ _ c.in-Ok.kept.reply c.in-Ok.ensures.done (engaged_same _ _ refl (sym here) refl refl ∙ c.self.view_is) (engaged_same _ _ refl after refl refl)

pub returns-in-Ok-clause-keeps : goal.returns-in-Ok-clause-keeps
returns-in-Ok-clause-keeps g c =
    let here = ap (λ (o : Option (List Stored)). unwrap_or o []) (sym c.in-Some.ensures.value) in
    keeps_same g.P.Station.tells c.args.line.now _ _ _ _ c.in-Ok.ensures.keeps (engaged_same _ _ refl (sym here) refl refl ∙ c.self.view_is)

pub returns-in-Err-clause-keeps : goal.returns-in-Err-clause-keeps
returns-in-Err-clause-keeps g c =
    let here = ap (λ (o : Option (List Stored)). unwrap_or o []) (sym c.in-Some.ensures.value) in
    keeps_same g.P.Station.tells c.args.line.now _ _ _ _ c.in-Err.ensures.keeps (engaged_same _ _ refl (sym here) refl refl ∙ c.self.view_is)
