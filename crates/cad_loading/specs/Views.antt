-- What the programs of contracts are.
use Rattle.std.specs.Prelude.{Option, List, map, option_map}
use Rattle.std.specs.declared.alloc.Global.{Global}
use Rattle.std.specs.declared.rc.Rc.{Rc}
use Rattle.std.specs.declared.vec.Vec.{Vec}
use Rattle.cad_declarations.specs.declared.program.Checked.{Checked}
use Rattle.cad_loads.specs.Loads as loads
use Rattle.cad_state.specs.Views.{program_of}
use Rattle.cad_world.specs.State.{Program}
use Rattle.cad_loading.specs.declared.held.Held.{Held}

abbrev pub shared_program : Rc Checked Global → Program
shared_program c = program_of c.value

abbrev pub programs_of : Vec (Rc Checked Global) Global → List Program
programs_of x = map shared_program x.items

abbrev pub slot_of : Option (Rc Checked Global) → Option Program
slot_of x = option_map shared_program x

abbrev pub slots_of : Vec (Option (Rc Checked Global)) Global → List (Option Program)
slots_of x = map slot_of x.items

abbrev pub held_of : Held → loads.Loaded
held_of x = record { id = x.source.id; code = x.source.code.value; program = shared_program x.checked }
