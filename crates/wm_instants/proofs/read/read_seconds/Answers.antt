use Rattle.std.proofs.Common.{arith, ◌∙◌, ap, sym, ◌≡◌, length}
use Rattle.std.proofs.lemmas.Grind.{common_steps}
use Rattle.std.proofs.lemmas.List.{take_rest}
use Rattle.wm_instants.specs.Fields.{clock_in}
use Rattle.wm_instants.specs.Instants.{seconds_form}
use Rattle.wm_instants.proofs.JoinedLemmas.{read_by-seconds, read_by-length, read_by-mark, read_by-parts}
use Rattle.wm_instants.proofs.read.read_seconds.Goals as goal
use Rattle.wm_instants.proofs.read.read_seconds.Goals.{then-text-ne19-via-then-text-ne19, then-text-ne19-via-else-text-ne19+then-text-mark}

pub returns-then-text-ne19 : goal.returns-then-text-ne19
returns-then-text-ne19 c =
    elim c.then-text-ne19.branch [
      | then-text-ne19-via-then-text-ne19 w ↦ sym (read_by-length (seconds_form c.args.mark) c.args.text.now (omega arith))
      | then-text-ne19-via-else-text-ne19+then-text-mark w ↦ sym (read_by-mark c.args.mark c.args.text.now c.requires (omega arith) (omega arith))
    ]

pub returns-in_default : goal.returns-in_default
returns-in_default c =
    let whole : length c.args.text.now ≡ 19 = omega arith in
    grind (arith, common_steps, read_by-seconds c.args.mark c.args.text.now c.requires whole)

pub returns-in_default-time_of_day : goal.returns-in_default-time_of_day
returns-in_default-time_of_day c =
    let whole : length c.args.text.now ≡ 19 = omega arith in
    grind (arith, common_steps, read_by-seconds c.args.mark c.args.text.now c.requires whole)

pub returns : goal.returns
returns c =
    let whole : length c.args.text.now ≡ 19 = omega arith in
    let e = read_by-parts c.args.mark c.args.text.now c.in-Some.day c.in-Some-time_of_day.clock c.requires whole (omega arith) c.in-Some.ensures.value (c.in-Some-time_of_day.ensures.value ∙ ap clock_in (take_rest c.args.text.now 11)) in
    c.instant_of_fields.ensures ∙ sym e
