use Rattle.cad_evaluation.specs.Storage.{loaded}
use Rattle.cad_rows.specs.Views.{pure_tree}
use Rattle.cad_state.specs.Views.{FindsAndCarriesOut}
use Rattle.cad_storage.specs.Code.{at_stored}
use Rattle.cad_syntax.specs.Types.{pure_type}
use Rattle.cad_syntax.specs.declared.text.Name.{Name}
use Rattle.cad_world.specs.State.{with_some}
use Rattle.std.proofs.Common.{Option, subst}
use Rattle.cad_storage.proofs.loads.load.Goals as goal

pub returns-in-Some : goal.returns-in-Some
returns-in-Some c = subst (λ (o : Option Name). FindsAndCarriesOut pure_tree (with_some o (λ (n : Name). at_stored (loaded c.args.address n (pure_type c.args.wanted.now)) c.args.address n)) c.args.state.now c.load_at.new.state c.load_at.result) c.in-Some.ensures c.load_at.ensures
