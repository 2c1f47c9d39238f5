use Rattle.std.proofs.Common.{◌∙◌}
use Rattle.cad_world_registers.proofs.Again.{name_found, name_none}
use Rattle.cad_world_registers.proofs.fields.name_in.Goals as goal

pub returns-in_ok-from_str-in-Ok : goal.returns-in_ok-from_str-in-Ok
returns-in_ok-from_str-in-Ok c =
    name_found c.args.bytes.now c.in_ok-from_str-in-Ok.field-0 c.in-Ok.ensures.cases.1 (c.in_ok-from_str-in-Ok.ensures ∙ c.in-Ok.ensures.cases.0)

pub returns-in-Err : goal.returns-in-Err
returns-in-Err c = name_none c.args.bytes.now c.in-Err.ensures.cases.0
