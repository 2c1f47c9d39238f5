use Rattle.std.proofs.Common.{arith}
use Rattle.cad_syntax.specs.Types.{pure_type}
use Rattle.cad_codec.proofs.Decoded.{decoded, only}
use Rattle.cad_codec.proofs.TypeFormats.{whole_types}
use Rattle.cad_codec.proofs.reading.decode_type.Goals as goal

pub returns-clause-found : goal.returns-clause-found
returns-clause-found c = decoded pure_type whole_types c.args.bytes.now c.read_all_of_type.result (λ i. omega (arith, c.type_inv.bytes i)) c.read_all_of_type.ensures

pub returns-clause-only : goal.returns-clause-only
returns-clause-only c = only pure_type whole_types c.args.bytes.now c.read_all_of_type.result c.read_all_of_type.ensures
