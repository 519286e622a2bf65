use Rattle.std.proofs.Common.{refl}
use Rattle.wm_host.proofs.host.Host.run_line.Goals as goal

pub line-requires : goal.line-requires
line-requires g c = record { works = λ t. (c.requires.works t).works }

pub returns-in_err-reply-clause-sound : goal.returns-in_err-reply-clause-sound
returns-in_err-reply-clause-sound g c = λ t. c.in_err-reply.ensures.keeps.sound t (c.requires.works t).rules

pub returns-clause-sound : goal.returns-clause-sound
returns-clause-sound g c = λ t. c.in_ok-reply.ensures.keeps.sound t (c.requires.works t).rules

pub returns-clause-ok : goal.returns-clause-ok
returns-clause-ok g c = record {
  lines = refl;
  stands = λ s for. (c.in_ok-reply.ensures.done.answered s for).0;
  kind_is = c.in_ok-reply.ensures.done.kind;
  works = λ t. record { works = c.in_ok-reply.ensures.done.works t; rules = c.in_ok-reply.ensures.done.rules };
}
