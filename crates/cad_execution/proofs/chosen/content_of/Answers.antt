use Rattle.cad_expressions.specs.Passed.{tree_in}
use Rattle.cad_rows.specs.Views.{pure_tree}
use Rattle.cad_state.specs.Views.{CarriesOut}
use Rattle.cad_statement_leaves.proofs.Contents.{content_carried}
use Rattle.cad_statement_leaves.specs.Code.Parts as parts
use Rattle.std.proofs.Common.{subst}
use Rattle.std.specs.Prelude.{option_map}
use Rattle.cad_execution.proofs.chosen.content_of.Goals as goal

pub returns : goal.returns
returns c =
    content_carried (parts.content_of c.args.moved (tree_in c.args.value)) c.args.state.now c.open_or_nil.new.state c.open_or_nil.result c.boxed_content.result c.boxed_content.ensures (subst (λ t. CarriesOut (option_map pure_tree) (parts.content_of c.args.moved (pure_tree t)) c.args.state.now c.open_or_nil.new.state c.open_or_nil.result) c.unboxed.ensures c.open_or_nil.ensures)
