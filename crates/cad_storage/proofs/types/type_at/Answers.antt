use Rattle.cad_evaluation.specs.Storage.{type_of_stored}
use Rattle.cad_rows.specs.Views.{pure_tree}
use Rattle.cad_state.specs.Views.{FindsAndCarriesOut}
use Rattle.cad_storage.specs.Code.{at_stored}
use Rattle.cad_syntax.specs.declared.text.Name.{Name}
use Rattle.cad_world.specs.State.{with_some}
use Rattle.std.proofs.Common.{Option, subst}
use Rattle.cad_storage.proofs.types.type_at.Goals as goal

pub returns-in-Some : goal.returns-in-Some
returns-in-Some c = subst (λ (o : Option Name). FindsAndCarriesOut pure_tree (with_some o (λ (n : Name). at_stored (type_of_stored) c.args.address n)) c.args.state.now c.type_told.new.state c.type_told.result) c.in-Some.ensures c.type_told.ensures
