use Rattle.cad_rows.specs.Views.{pure_row, pure_tree}
use Rattle.cad_services.specs.Code.Services.{stored_member}
use Rattle.cad_state.specs.Views.{FindsAndCarriesOut}
use Rattle.cad_syntax.specs.Types.{PureType}
use Rattle.cad_world.specs.State.{with_some}
use Rattle.std.proofs.Common.{Option, subst}
use Rattle.cad_services.proofs.storage.typed_member.Goals as goal

pub returns-in-Some : goal.returns-in-Some
returns-in-Some c = subst (λ (o : Option PureType). FindsAndCarriesOut pure_tree (with_some o (λ t. stored_member c.args.member t (pure_row c.args.row.now) c.args.address)) c.args.state.now c.stored_member.new.state c.stored_member.result) c.in-Some.ensures c.stored_member.ensures
