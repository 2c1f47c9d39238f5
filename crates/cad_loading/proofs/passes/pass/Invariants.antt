use Rattle.std.proofs.Common.{map}
use Rattle.cad_loading.specs.Views.{slots_of}
use Rattle.cad_loads.specs.Views.{source_of}
use Rattle.cad_tables.specs.Views.{contracts_of}
use Rattle.cad_loading.proofs.Turns.{PassedTo}
use Rattle.cad_loading.proofs.passes.pass.Given as goal

abbrev pub invariant-loop-at : goal.invariant-loop-at
invariant-loop-at l =
    PassedTo (map source_of l.sources) (slots_of l.fn.state.slots) (contracts_of l.fn.state.deployed) l.at (slots_of l.state.slots) (contracts_of l.state.deployed) l.is_any
