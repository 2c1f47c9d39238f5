-- What capabilities, the identifiers of controllers and what is lent are.
use Rattle.std.specs.Prelude.{Option, option_map}
use Rattle.cad_capabilities.specs.declared.controllers.ControllerId.{ControllerId}
use Rattle.cad_evaluation.specs.Capabilities as c
use Rattle.cad_syntax.specs.Types.{pure_type}
use Rattle.cad_values.specs.Values.{pure_value}
use Rattle.cad_values.specs.declared.value.Cap.{Cap}
use Rattle.cad_values.specs.declared.value.Value.{Value}
use Rattle.cad_world.specs.Rows.{Tree}
use Rattle.cad_world.specs.Trees.{of_plain}

abbrev pub capability_of : Cap → c.Capability
capability_of x = record { address = x.address; number = x.id; lent = pure_type x.borrow }

abbrev pub id_of : ControllerId → c.ControllerId
id_of x = record { address = x.address; number = x.number }

-- what is lent, which has no parts
abbrev pub lent_of : Option Value → Option Tree
lent_of o = option_map (λ v. of_plain (pure_value v)) o
