use Rattle.std.proofs.Common.{ap}
use Rattle.cad_loads.specs.Loads.{Source}
use Rattle.cad_rows.specs.Views.{pure_row}
use Rattle.cad_world_reading.specs.Loading.{contract_from, program_in}
use Rattle.cad_world_reading.proofs.contracts.contract_in.Goals as goal

pub returns-in-Ok : goal.returns-in-Ok
returns-in-Ok c = ap (λ (s : Source). contract_from s (program_in c.args.checked) (pure_row c.args.row.items)) c.in-Ok.ensures
