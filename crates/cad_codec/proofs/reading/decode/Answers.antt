use Rattle.std.proofs.Common.{arith}
use Rattle.cad_values.specs.Values.{pure_value}
use Rattle.cad_codec.proofs.Decoded.{decoded, only}
use Rattle.cad_codec.proofs.ValueFormats.{values_with_bytes}
use Rattle.cad_codec.proofs.reading.decode.Goals as goal

pub returns-clause-found : goal.returns-clause-found
returns-clause-found c = decoded pure_value values_with_bytes c.args.bytes.now c.read_all.result (λ i. omega (arith, c.type_inv.bytes i)) c.read_all.ensures

pub returns-clause-only : goal.returns-clause-only
returns-clause-only c = only pure_value values_with_bytes c.args.bytes.now c.read_all.result c.read_all.ensures
