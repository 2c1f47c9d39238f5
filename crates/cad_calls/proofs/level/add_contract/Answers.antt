use Rattle.cad_evaluation.specs.Adding as adding
use Rattle.cad_execution.proofs.Passed.{finds_boxed}
use Rattle.cad_rows.specs.Views.{pure_row}
use Rattle.cad_calls.proofs.level.add_contract.Goals as goal

pub returns : goal.returns
returns g c =
    finds_boxed (adding.add (g.E.FrontEnd.front c.args.end.now) (g.I.Initializers.calls c.args.by.now) (pure_row c.args.arguments.items) c.args.address) c.args.state.now c.add.new.state c.add.result c.boxed.result c.boxed.ensures c.add.ensures
