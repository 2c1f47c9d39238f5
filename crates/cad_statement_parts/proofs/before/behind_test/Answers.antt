use Rattle.std.proofs.Common.{option_map}
use Rattle.cad_grammar.specs.Views.{expr_of}
use Rattle.cad_environment.specs.Views.{environment_of}
use Rattle.cad_statement_parts.proofs.Told.{behind_both, on_ok}
use Rattle.cad_statement_parts.proofs.before.behind_test.Goals as goal

pub returns : goal.returns
returns c =
    on_ok c.behind_message.result (λ x h. behind_both (expr_of c.args.test.now) (option_map expr_of c.args.text.now) (environment_of c.args.env) _ (environment_of x) c.in_ok-middle.ensures h) c.behind_message.ensures
