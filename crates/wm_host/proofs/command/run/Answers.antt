use Rattle.std.proofs.Common.{◌∙◌, Some, Option, ap, sym, subst, refl, map, string_bytes, rules}
use Rattle.wm_host.specs.Ends.{EndsAs}
use Rattle.wm_host.proofs.Unread.{ends_unread, ends_usage, source_untouched}
use Rattle.wm_words.specs.declared.command.Command.{Command}
use Rattle.wm_words.specs.Words.{command_of as command_in}
use Rattle.wm_host.proofs.command.run.Goals as goal

pub returns-in-Init : goal.returns-in-Init
returns-in-Init g c = record {
  usage = search (rules, c.init.ensures.ends.statuses);
  command_ends = subst (λ (command : Option Command). EndsAs g.S.Source g.P.Station command c.args.source.now c.args.source.now c.args.station.now c.init.new.station c.init.result)
      (sym (ap (λ (command : Command). Some command) c.in-Init.is) ∙ sym c.in-Some.is ∙ c.in-Ok.ensures.value)
      (c.init.ensures.ends, refl);
  store = c.init.ensures.store;
  source_is = source_untouched g.S.Source c.args.source.now c.init.result (search (rules, c.init.ensures.ends.statuses)) (search (rules, c.init.ensures.ends.statuses));
  faults = c.init.ensures.faults;
}

pub returns-in-Run : goal.returns-in-Run
returns-in-Run g c = record {
  usage = search (rules, c.run_store.ensures.ends.statuses);
  command_ends = subst (λ (command : Option Command). EndsAs g.S.Source g.P.Station command c.args.source.now c.run_store.new.source c.args.station.now c.run_store.new.station c.run_store.result)
      (sym (ap (λ (command : Command). Some command) c.in-Run.is) ∙ sym c.in-Some.is ∙ c.in-Ok.ensures.value)
      c.run_store.ensures.ends;
  store = c.run_store.ensures.store;
  source_is = c.run_store.ensures.source;
  faults = c.run_store.ensures.faults;
}

pub returns-in-Check : goal.returns-in-Check
returns-in-Check g c = record {
  usage = search (rules, c.check.ensures.ends.statuses);
  command_ends = subst (λ (command : Option Command). EndsAs g.S.Source g.P.Station command c.args.source.now c.args.source.now c.args.station.now c.check.new.station c.check.result)
      (sym (ap (λ (command : Command). Some command) c.in-Check.is) ∙ sym c.in-Some.is ∙ c.in-Ok.ensures.value)
      (c.check.ensures.ends, refl);
  store = c.check.ensures.store;
  source_is = source_untouched g.S.Source c.args.source.now c.check.result (search (rules, c.check.ensures.ends.statuses)) (search (rules, c.check.ensures.ends.statuses));
  faults = c.check.ensures.faults;
}

pub returns-in-Load : goal.returns-in-Load
returns-in-Load g c = record {
  usage = search (rules, c.load.ensures.ends.statuses);
  command_ends = subst (λ (command : Option Command). EndsAs g.S.Source g.P.Station command c.args.source.now c.args.source.now c.args.station.now c.load.new.station c.load.result)
      (sym (ap (λ (command : Command). Some command) c.in-Load.is) ∙ sym c.in-Some.is ∙ c.in-Ok.ensures.value)
      (c.load.ensures.ends, refl);
  store = c.load.ensures.store;
  source_is = source_untouched g.S.Source c.args.source.now c.load.result (search (rules, c.load.ensures.ends.statuses)) (search (rules, c.load.ensures.ends.statuses));
  faults = c.load.ensures.faults;
}

-- the words are none
pub returns-in_default-read : goal.returns-in_default-read
returns-in_default-read g c =
    ends_usage g.S.Source g.P.Station (command_in (map string_bytes c.args.words.now)) c.args.source.now c.args.station.now c.usage.result c.usage.ensures.status c.usage.ensures.lines c.usage.ensures.place
    (sym c.in_default-read.is ∙ c.in-Ok.ensures.value)

-- where memory is wanting for the words, nothing was done, whatever command they give
pub returns-in_default : goal.returns-in_default
returns-in_default g c =
    ends_unread g.S.Source g.P.Station (command_in (map string_bytes c.args.words.now)) c.args.source.now c.args.station.now c.unread.result c.unread.ensures.status c.unread.ensures.lines c.unread.ensures.place
