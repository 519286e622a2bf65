use Rattle.std.proofs.Common.{◌≡◌, ◌∙◌, ap, sym, false, map, string_bytes}
use Rattle.std.specs.List.{list_any}
use Rattle.clap.specs.Words.{is_simple, is_simple_and_free, subcommand_rows_of}
use Rattle.clap.specs.Simple.{app_of}
use Rattle.clap.proofs.WalkLemmas.{list_any-map}
use Rattle.wm_words.specs.Parse.{is_barred}
use Rattle.wm_words.proofs.Looks.{barred_none}
use Rattle.wm_words.proofs.Top.{accepted, is_free, refused, simple}
use Rattle.wm_words.proofs.parse.command_of.Goals as goal

pub returns-then-has_barred_word-clause-value : goal.returns-then-has_barred_word-clause-value
returns-then-has_barred_word-clause-value c =
    sym (barred_none (map string_bytes c.args.words.now) (sym (list_any-map is_barred string_bytes c.args.words.now) ∙ sym c.has_barred_word.ensures ∙ c.if-has_barred_word.true))

pub returns-in-Ok-clause-value : goal.returns-in-Ok-clause-value
returns-in-Ok-clause-value c =
    let clear : list_any is_barred (map string_bytes c.args.words.now) ≡ false = sym (list_any-map is_barred string_bytes c.args.words.now) ∙ sym c.has_barred_word.ensures ∙ c.if-has_barred_word.false in
    c.command_in_matches.ensures.value
    ∙ accepted (app_of c.in_ok-grammar.grammar) (map string_bytes c.args.words.now) (subcommand_rows_of c.in-Ok.matches) c.in_ok-grammar.ensures clear
    (c.in-Ok.ensures.kinds (ap is_simple_and_free c.in_ok-grammar.ensures ∙ is_free)) (c.in-Ok.ensures.matches (ap is_simple c.in_ok-grammar.ensures ∙ simple)).1

pub returns : goal.returns
returns c =
    let clear : list_any is_barred (map string_bytes c.args.words.now) ≡ false = sym (list_any-map is_barred string_bytes c.args.words.now) ∙ sym c.has_barred_word.ensures ∙ c.if-has_barred_word.false in
    record {
      value =
          sym (refused (app_of c.in_ok-grammar.grammar) (map string_bytes c.args.words.now) c.in-Err.error c.in_ok-grammar.ensures clear
          (c.in-Err.ensures.kinds (ap is_simple_and_free c.in_ok-grammar.ensures ∙ is_free)) (λ h. c.in_default.not-OutOfMemory (c.kind.ensures ∙ h)));
      bounds = tt;
    }
