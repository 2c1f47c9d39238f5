use Rattle.cad_rows.specs.Views.{pure_row}
use Rattle.cad_expression_leaves.proofs.Adding.{quiet_adds}
use Rattle.cad_expression_leaves.proofs.callees.QuietCallees.add.Goals as goal

pub returns : goal.returns
returns g c = quiet_adds (g.C.Callees.front c.args.self.now.inner.now) (g.C.Callees.calls c.args.self.now.inner.now) (pure_row c.args.arguments.items) c.args.address c.args.state.now c.add.new.state c.add.result c.add.ensures
