use Rattle.std.proofs.Common.{refl, sym, subst}
use Rattle.std.specs.Prelude.{Bool}
use Rattle.wm_grammar.specs.Statements.{also, all_also}
use Rattle.wm_grammar.specs.StatementReaders.{column_option_at, option_sorts, column_options_at}
use Rattle.wm_grammar.proofs.Loops.{Going, going_on, takes_one}
use Rattle.wm_grammar.proofs.StatementLaws.{column_option_exact}
use Rattle.wm_statements.proofs.statements.column_options.Goals as goal

pub options-smaller : goal.options-smaller
options-smaller c = takes_one (column_option_exact c.options.given.0 c.options.given.1) refl c.options.cursor c.in_ok-key.key c.column_option.new.cursor c.in_ok-key.ensures

pub options-preserved : goal.options-preserved
options-preserved c =
    subst (λ (g : Bool × Bool). Going also (λ given. option_sorts given.0 given.1) (λ given. column_option_at given.0 given.1) all_also g g c.column_option.new.cursor (column_options_at c.args.keyed c.args.cursor.now)) (sym c.also-given.ensures)
    (going_on also (λ given. option_sorts given.0 given.1) (λ given. column_option_at given.0 given.1) all_also c.options.given c.options.given c.options.cursor (column_options_at c.args.keyed c.args.cursor.now)
    c.in_ok-key.key c.column_option.new.cursor (also c.options.given c.in_ok-key.key) (sym c.options-test.ensures) c.in_ok-key.ensures
    (takes_one (column_option_exact c.options.given.0 c.options.given.1) refl c.options.cursor c.in_ok-key.key c.column_option.new.cursor c.in_ok-key.ensures)
    (λ xs. refl) c.options.invariant)
