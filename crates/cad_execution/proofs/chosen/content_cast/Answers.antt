use Rattle.cad_statement_leaves.proofs.ChoiceLaws.{cast_some}
use Rattle.cad_execution.proofs.chosen.content_cast.Goals as goal

pub returns-in-Some : goal.returns-in-Some
returns-in-Some c =
    cast_some c.args.found c.in-Some.tree c.args.state.now c.content_of.new.state c.content_of.result c.in-Some.is c.content_of.ensures
