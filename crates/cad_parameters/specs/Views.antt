-- Parameters, as values of the program are.
use Rattle.cad_syntax.specs.Types.{pure_type}
use Rattle.cad_typing.specs.Calls as c
use Rattle.cad_parameters.specs.declared.parameter.Takes.{Takes}
use Rattle.cad_parameters.specs.declared.parameter.Takes.TheVariants as takes
use Rattle.cad_parameters.specs.declared.parameter.Parameter.{Parameter}
use Rattle.cad_parameters.specs.declared.parameter.Count.{Count}
use Rattle.cad_parameters.specs.declared.parameter.Count.TheVariants as count

abbrev pub takes_view : Takes → c.Takes
takes_view (takes.Fitting t) = c.fitting (pure_type t)
takes_view takes.AnyNumber = c.any_number
takes_view takes.AnyStorable = c.any_storable
takes_view takes.AnyPlain = c.any_plain

abbrev pub parameter_view : Parameter → c.Parameter
parameter_view x = record { label = x.label; takes = takes_view x.takes }

abbrev pub count_view : Count → c.Count
count_view count.Exactly = c.exactly
count_view count.LastOptional = c.last_optional
count_view count.MoreFollow = c.more_follow
