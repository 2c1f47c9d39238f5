-- Contracts of their codes, their programs and their values.
use Rattle.std.specs.Prelude.{false}
use Rattle.std.specs.declared.alloc.Global.{Global}
use Rattle.std.specs.declared.rc.Rc.{Rc}
use Rattle.cad_declarations.specs.declared.program.Checked.{Checked}
use Rattle.cad_loads.specs.Loads.{Source}
use Rattle.cad_state.specs.Views.{program_of}
use Rattle.cad_world.specs.Rows.{Row}
use Rattle.cad_world.specs.State.{Contract, Program}

-- a program that others may hold
abbrev pub program_in : Rc Checked Global → Program
program_in x = program_of x.value

-- the contract of a code, with its program and the row of its value
abbrev pub contract_from : Source → Program → Row → Contract
contract_from s program row = record { id = s.id; code = s.code; program = program; value = row; is_running = false }
