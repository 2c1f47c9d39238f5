use Rattle.std.proofs.Common.{rules}
use Rattle.std.specs.Prelude.{option_map}
use Rattle.cad_loads.specs.Views.{source_of}
use Rattle.cad_state.specs.Views.{program_of}
use Rattle.cad_tables.specs.Views.{contracts_of}
use Rattle.cad_loading.proofs.Verdicts.{accepted_told, refused_told}
use Rattle.cad_loading.proofs.loading.standing_program.Goals as goal

pub returns-in-Ok-Ok : goal.returns-in-Ok-Ok
returns-in-Ok-Ok c =
    accepted_told c.one_acceptance.ensures (contracts_of c.args.deployed.now) (source_of c.args.source.now) c.as_slice.result.now c.in-Ok-Ok.field-0 c.in-Ok-Ok.checked (option_map program_of c.fitting.result)
    (search rules) c.in-Ok-Ok.field-0-is c.in-Ok-Ok.ensures c.fitting.ensures

pub returns-in-Ok-Err : goal.returns-in-Ok-Err
returns-in-Ok-Err c =
    refused_told c.no_stop_of_accepted.ensures (contracts_of c.args.deployed.now) (source_of c.args.source.now) c.as_slice.result.now c.in-Ok-Err.field-0 c.in-Ok-Err.rejected
    (search rules) c.in-Ok-Err.field-0-is c.in-Ok-Err.ensures
