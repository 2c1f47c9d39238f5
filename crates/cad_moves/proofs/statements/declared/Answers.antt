use Rattle.std.proofs.Common.{◌≡◌, ap, ◌∙◌, sym, map}
use Rattle.cad_declarations.specs.Views.{variable_of}
use Rattle.cad_paths.specs.Paths.{scope}
use Rattle.cad_paths.specs.Bodies.{path_variable}
use Rattle.cad_moves.specs.Views.{body_of, item_of, reading_of}
use Rattle.cad_moves.specs.Code.Rows.{row_over}
use Rattle.cad_moves.proofs.Rows.{over_end}
use Rattle.cad_moves.proofs.Turns.{scope_step}
use Rattle.cad_moves.proofs.statements.declared.Goals as goal

pub returns-in_ok-push_last : goal.returns-in_ok-push_last
returns-in_ok-push_last c =
    c.block.ensures ∙ over_end _ ∙ c.in_ok-push_last.ensures _ ∙ c.in_ok-push_variable.ensures _
    ∙ ap (λ z. row_over (map item_of z) (scope (path_variable (variable_of c.args.variable.now)) c.args.at (body_of c.args.a))) c.new-items.ensures.items
    ∙ scope_step (reading_of c.args.reading.now) (variable_of c.args.variable.now) c.args.at (body_of c.args.a) (sym c.is_scope.ensures ∙ c.if-is_scope.true)
