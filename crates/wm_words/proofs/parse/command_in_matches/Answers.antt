use Rattle.std.proofs.Common.{◌≡◌, ◌∙◌, true≢false, is_some, Option, Some, None, option_map, ap, sym}
use Rattle.std.specs.Prelude.{unwrap_or}
use Rattle.std.specs.Box.{box_value}
use Rattle.clap.specs.Words.{found_of, rows_of}
use Rattle.clap.specs.declared.parser.matches.ArgMatches.TheViews.{out-ArgMatches, out-SubCommand}
use Rattle.wm_words.specs.Parse.{command_by}
use Rattle.wm_words.proofs.parse.command_in_matches.Goals as goal

abbrev paired : {X Y Z : Type 0} (f : X → Y) (g : X → Z) → X → Y × Z
paired f g x = (f x, g x)

-- what both parts of a pair are found to be, the pair is
pair_is : {X Y Z : Type 0} (found : Option X) (f : X → Y) (g : X → Z) (y : Y) (z : Z) → Some y ≡ option_map f found → Some z ≡ option_map (λ (p : Y × Z). p.1) (option_map (paired f g) found)
    → option_map (paired f g) found ≡ Some (y, z)
pair_is None f g y z first second = absurd (true≢false (ap is_some first))
pair_is (Some x) f g y z first second = λ i. Some (ap (λ o. unwrap_or o y) (sym first) i, ap (λ o. unwrap_or o z) (sym second) i)

pub returns-clause-value : goal.returns-clause-value
returns-clause-value c =
    c.command_with.ensures.value
    ∙ sym
    (ap command_by
    (pair_is (out-ArgMatches c.args.matches.now).subcommand (λ b. (out-SubCommand (box_value b)).name.now) (λ b. rows_of (found_of (out-SubCommand (box_value b)).matches)) c.in_ok-name.name.now
    (rows_of (found_of c.in_ok-name.options.now)) c.in_ok-name.ensures.name c.in_ok-name.ensures.rows))
