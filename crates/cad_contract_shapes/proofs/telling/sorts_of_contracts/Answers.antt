use Rattle.std.proofs.Common.{map, sym, subst}
use Rattle.cad_state.specs.Views.{contract_of}
use Rattle.cad_types.specs.Declarations.{IsClosed}
use Rattle.cad_world.specs.Declared.{types_of}
use Rattle.cad_contract_shapes.proofs.Told.{sorts_closed}
use Rattle.cad_contract_shapes.proofs.telling.sorts_of_contracts.Goals as goal

pub new-requires : goal.new-requires
new-requires c = record { closed = subst IsClosed (sym c.in_ok-all.ensures) (sorts_closed (types_of (map contract_of c.args.contracts.now))) }
