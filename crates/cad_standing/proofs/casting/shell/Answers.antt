use Rattle.cad_rows.specs.Views.{pure_tree}
use Rattle.cad_standing.proofs.CastSteps.{shell_stands, nothing_free, nothing_out}
use Rattle.cad_standing.proofs.casting.shell.Goals as goal

pub returns-in-Ok : goal.returns-in-Ok
returns-in-Ok c = λ type. shell_stands type c.args.x (pure_tree c.in-Full.tree.now) (pure_tree c.in-Ok.own) c.args.state.now c.in-Full.ensures c.in-Ok.ensures

pub returns-in-Free : goal.returns-in-Free
returns-in-Free c = λ type. nothing_free type c.args.x c.args.state.now c.in-Free.ensures

pub returns-in-Out : goal.returns-in-Out
returns-in-Out c = λ type. nothing_out type c.args.x c.args.state.now c.in-Out.ensures
