use Rattle.cad_wire.proofs.FieldLaws.{number_again, length_again, bytes_again}
use Rattle.cad_wire.proofs.laws.fields_again.Goals as goal

pub returns-clause-number : goal.returns-clause-number
returns-clause-number c = number_again

pub returns-clause-length : goal.returns-clause-length
returns-clause-length c = length_again

pub returns-clause-bytes : goal.returns-clause-bytes
returns-clause-bytes c = bytes_again
