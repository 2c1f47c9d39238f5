use Rattle.std.proofs.Common.{◌∷◌}
use Rattle.cad_rows.specs.Views.{pure_tree}
use Rattle.cad_expressions.proofs.Destroying.{next_emitted, none_emitted}
use Rattle.cad_expressions.proofs.ends.emit_next.Goals as goal

pub returns-in-Ok : goal.returns-in-Ok
returns-in-Ok c = λ whole start rest h. next_emitted whole start (pure_tree c.args.event) rest c.args.state.now c.emit.new.state c.args.emitted c.emit.result c.in-Ok.is c.emit.ensures h

pub returns-in-Err : goal.returns-in-Err
returns-in-Err c = λ whole start rest h. none_emitted whole start (pure_tree c.args.event ∷ rest) rest c.args.state.now c.args.state.now c.args.emitted c.in-Err.stop c.in-Err.is h
