-- What the program's values are to the definitions.
use Rattle.std.specs.Prelude.{Option, Some, None, option_copied, map}
use Rattle.cad_typing.specs.Calls as calls
use Rattle.cad_typing.specs.Containers as c
use Rattle.cad_typing.specs.Environments.{Typing}
use Rattle.cad_environment.specs.Views.{typing_of}
use Rattle.cad_environment.specs.declared.typing.Typing as code
use Rattle.cad_parameters.specs.declared.parameter.Takes.{Takes}
use Rattle.cad_parameters.specs.Views.{parameter_view, takes_view}
use Rattle.cad_infer_containers.specs.declared.arguments.Next.{Next}

-- a key and a value
abbrev pub typings_of : code.Typing × code.Typing → Typing × Typing
typings_of p = (typing_of p.0, typing_of p.1)

-- what an argument may be: behind all parameters anything that is no resource
abbrev pub taken_by : Option Takes → calls.Takes
taken_by None = calls.any_plain
taken_by (Some takes) = takes_view takes

abbrev pub next_of : Next → c.Next
next_of x = record { takes = taken_by (option_copied x.takes); others = map parameter_view x.others.now }
