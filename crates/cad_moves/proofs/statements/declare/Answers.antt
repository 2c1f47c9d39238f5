use Rattle.std.proofs.Common.{◌≡◌, ap, ◌∙◌, sym, map}
use Rattle.cad_declarations.specs.Views.{variable_of}
use Rattle.cad_moves.specs.Views.{item_of, reading_of}
use Rattle.cad_moves.specs.Code.Rows.{row_over}
use Rattle.cad_moves.proofs.Turns.{scope_step}
use Rattle.cad_moves.proofs.statements.declare.Goals as goal

pub returns-in_ok-push_variable : goal.returns-in_ok-push_variable
returns-in_ok-push_variable c = λ rest. c.in_ok-push_variable.ensures rest
    ∙ ap (row_over (map item_of c.args.items.now.items)) (scope_step (reading_of c.args.reading.now) (variable_of c.args.variable.now) c.args.at rest (sym c.is_scope.ensures ∙ c.if-is_scope.true))
