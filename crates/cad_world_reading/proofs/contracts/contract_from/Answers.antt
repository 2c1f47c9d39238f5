use Rattle.std.proofs.Common.{◌≡◌, subst}
use Rattle.std.specs.Prelude.{IfOk}
use Rattle.cad_loads.specs.Views.{source_of}
use Rattle.cad_state.specs.Views.{contract_of}
use Rattle.cad_world.specs.Rows.{Row}
use Rattle.cad_world_reading.specs.Loading.{contract_from, program_in}
use Rattle.cad_world_reading.proofs.contracts.contract_from.Goals as goal

pub returns-in-Ok : goal.returns-in-Ok
returns-in-Ok c =
    subst (λ (r : Row). IfOk c.contract_in.result (λ x. contract_of x ≡ contract_from (source_of c.args.source.now) (program_in c.args.checked) r)) c.in-Ok.ensures c.contract_in.ensures
