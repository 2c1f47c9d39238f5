use Rattle.std.proofs.Common.{map}
use Rattle.cad_world_reading.proofs.Loaded as loading
use Rattle.cad_world_registers.specs.Meaning.{value_row}
use Rattle.cad_world_reading.proofs.contracts.load_contracts.Goals as goal

pub join_contracts-requires-clause-programs : goal.join_contracts-requires-clause-programs
join_contracts-requires-clause-programs c =
    loading.as_many_programs c.args.sources.items c.as_slice.result.now c.as_slice.ensures.value c.in-Ok-Some.field-0 c.in-Ok-Some.ensures c.in-Ok-Some.programs c.in-Ok-Some.field-0-is

pub returns-in-Ok-Some : goal.returns-in-Ok-Some
returns-in-Ok-Some c =
    loading.contracts_known c.args.sources.items c.as_slice.result.now c.as_slice.ensures.value c.in-Ok-Some.field-0 c.in-Ok-Some.ensures c.in-Ok-Some.programs c.in-Ok-Some.field-0-is
    (map value_row c.args.values.items) c.join_contracts.result c.one_loading.ensures c.join_contracts.ensures
