use Rattle.cad_rows.specs.Views.{pure_tree}
use Rattle.cad_state.specs.Views.{FindsAndCarriesOut}
use Rattle.cad_storage.specs.Code.{at_stored, checked}
use Rattle.cad_syntax.specs.Types.{pure_type}
use Rattle.cad_syntax.specs.declared.text.Name.{Name}
use Rattle.cad_world.specs.State.{with_some}
use Rattle.std.proofs.Common.{Option, subst}
use Rattle.cad_storage.proofs.checks.check.Goals as goal

pub returns-in-Some : goal.returns-in-Some
returns-in-Some c = subst (λ (o : Option Name). FindsAndCarriesOut pure_tree (with_some o (λ (n : Name). at_stored (checked (pure_type c.args.wanted.now)) c.args.address n)) c.args.state.now c.check_at.new.state c.check_at.result) c.in-Some.ensures c.check_at.ensures
