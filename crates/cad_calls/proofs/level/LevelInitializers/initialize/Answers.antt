use Rattle.cad_rows.specs.Views.{pure_row}
use Rattle.cad_evaluation.specs.Callees.{initializer}
use Rattle.cad_evaluation.specs.Evaluation.{calls_to}
use Rattle.cad_calls.proofs.Levels.{content_found}
use Rattle.cad_calls.proofs.level.LevelInitializers.initialize.Goals as goal

pub returns : goal.returns
returns g c =
    content_found (calls_to (g.E.FrontEnd.front c.args.self.now.end.now) c.args.self.now.fuel (initializer c.args.of.now c.args.label) (pure_row c.args.arguments.items)) c.args.state.now c.run.new.arg4 c.run.result c.unbox.result c.unbox.ensures (c.requires.does _ _ _ _ _ c.run.ensures)
