use Rattle.std.proofs.Common.{◌≡◌, ◌<◌, ◌^◌, drop}
use Rattle.wm_words.specs.Values.{number_behind}
use Rattle.wm_words.proofs.command.number_of.Given as goal

abbrev pub invariant-loop-digit : goal.invariant-loop-digit
invariant-loop-digit l = record {
  rest : number_behind l.number (drop l.digit-index l.digits) ≡ number_behind 0 l.digits;
  small : l.number < 10 ^ l.digit-index;
}
