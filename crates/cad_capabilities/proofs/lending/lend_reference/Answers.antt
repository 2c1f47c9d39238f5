use Rattle.std.proofs.Common.{Bool, Option}
use Rattle.cad_capabilities.specs.Code.{stored_as}
use Rattle.cad_capabilities.specs.Views.{lent_of}
use Rattle.cad_evaluation.specs.Capabilities.{reference_if}
use Rattle.cad_evaluation.specs.Storage.{stored_reference}
use Rattle.cad_outcomes.proofs.Steps.{gives_here, stops_on, then}
use Rattle.cad_state.specs.Views.{state_over}
use Rattle.cad_syntax.specs.Types.{PureType, pure_type}
use Rattle.cad_syntax.specs.declared.address.Address.{Address}
use Rattle.cad_syntax.specs.declared.text.Name.{Name}
use Rattle.cad_syntax.specs.declared.types.Authorization.{Authorization}
use Rattle.cad_world.specs.Rows.{Tree}
use Rattle.cad_world.specs.State.{Action, give}
use Rattle.cad_capabilities.proofs.lending.lend_reference.Goals as goal

-- what is lent, told whether what is stored is of the type
abbrev lent_if : Address → Name → Authorization → PureType → Bool → Action (Option Tree)
lent_if a name own type x = give (reference_if x (stored_reference a name own type))

pub returns-in-Ok : goal.returns-in-Ok
returns-in-Ok c = λ w ready.
    let s = state_over w c.args.state.now in
    let u = state_over w c.is_stored_as.new.state in
    let type = pure_type c.args.target.now in
    let f = lent_if c.args.address c.args.name.now c.args.own.now type in
    then lent_of (stored_as type c.args.address c.args.name.now) f c.in-Ok.passes s u u c.reference_if.result (c.in-Ok.ensures w ready)
    (gives_here lent_of (f c.in-Ok.passes) c.reference_if.result u c.reference_if.ensures)

pub returns-in-Err : goal.returns-in-Err
returns-in-Err c = λ w ready.
    let type = pure_type c.args.target.now in
    stops_on (stored_as type c.args.address c.args.name.now (state_over w c.args.state.now)) (lent_if c.args.address c.args.name.now c.args.own.now type) c.in-Err.stop (c.in-Err.ensures w ready)
