use Rattle.std.proofs.Common.{◌∙◌, ap, ap₂}
use Rattle.std.proofs.lemmas.Result.{IfOk-weaker}
use Rattle.clap.specs.Simple.{App, with_subcommand}
use Rattle.wm_words.proofs.parse.grammar.Goals as goal

pub returns : goal.returns
returns c =
    let one = c.in_ok-subcommand.ensures.shape c.in_ok-init_grammar.ensures.1 ∙ ap₂ with_subcommand c.settings.ensures (ap (λ (a : App). a.top) c.in_ok-init_grammar.ensures.0) in
    let two = c.in_ok-subcommand-2.ensures.shape c.in_ok-run_grammar.ensures.1 ∙ ap₂ with_subcommand one (ap (λ (a : App). a.top) c.in_ok-run_grammar.ensures.0) in
    let three = c.in_ok-subcommand-3.ensures.shape c.new.ensures.local ∙ ap₂ with_subcommand two (ap (λ (a : App). a.top) c.new.ensures.app) in
    IfOk-weaker c.subcommand-4.result _ _ (λ r h. h.shape c.in_ok-load_grammar.ensures.1 ∙ ap₂ with_subcommand three (ap (λ (a : App). a.top) c.in_ok-load_grammar.ensures.0)) c.subcommand-4.ensures
