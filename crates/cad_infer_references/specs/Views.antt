-- What is asked for, to the definitions.
use Rattle.cad_syntax.specs.Types.{pure_type}
use Rattle.cad_typing.specs.References as r
use Rattle.cad_infer_references.specs.declared.references.Asked.{Asked}

abbrev pub asked_of : Asked → r.Asked
asked_of x = record { grant = x.grant; target = pure_type x.target; is_optional = x.is_optional }
