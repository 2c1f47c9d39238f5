-- The error of an empty place.
use Rattle.cad_outcomes.specs.declared.error.RunError.TheVariants.{ContractUnset, ReferenceInvalid}
use Rattle.cad_outcomes.specs.declared.stop.Stop.{Stop}
use Rattle.cad_outcomes.specs.declared.stop.Stop.TheVariants.{Failed, IllTyped}
use Rattle.cad_world.specs.Locations.{Location, part, element, entry}

abbrev pub empty_stop : Location → Stop
empty_stop (part l i) = Failed ContractUnset
empty_stop (element l i) = Failed ReferenceInvalid
empty_stop (entry l key) = Failed ReferenceInvalid
empty_stop _ = IllTyped
