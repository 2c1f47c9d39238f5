use Rattle.cad_wire.proofs.FieldLaws.{byte_takes, number_takes, length_takes, bytes_take}
use Rattle.cad_wire.proofs.laws.fields_found.Goals as goal

pub returns-clause-byte : goal.returns-clause-byte
returns-clause-byte c = λ all rest b fits e. (byte_takes all b rest fits e).parts

pub returns-clause-number : goal.returns-clause-number
returns-clause-number c = λ all rest n fits e. let t = number_takes all n rest fits e in (t.1, t.0.parts)

pub returns-clause-length : goal.returns-clause-length
returns-clause-length c = λ all rest n fits e. let t = length_takes all n rest fits e in (t.1, t.0.parts)

pub returns-clause-bytes : goal.returns-clause-bytes
returns-clause-bytes c = λ all rest bytes fits e. let t = bytes_take all bytes rest fits e in (t.1, t.0.parts)
