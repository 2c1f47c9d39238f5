-- The definitions' values that values of the program are.
use Rattle.std.specs.Prelude.{map}
use Rattle.cad_syntax.specs.Types.{pure_type}
use Rattle.cad_declarations.specs.Typed.{arguments_of}
use Rattle.cad_declarations.specs.Views.{place_of, argument_of}
use Rattle.cad_typing.specs.Places as places
use Rattle.cad_infer_targets.specs.declared.target.Target.{Target}
use Rattle.cad_infer_targets.specs.declared.emission.Emission.{Emission}

abbrev pub target_of : Target → places.Target
target_of x = record { place = place_of x.place; type = pure_type x.declared; is_own_field = x.is_own_field }

abbrev pub emission_of : Emission → places.Emission
emission_of x = record { event = x.event; arguments = arguments_of (map argument_of x.arguments.items) }
