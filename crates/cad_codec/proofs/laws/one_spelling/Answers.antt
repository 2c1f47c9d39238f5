use Rattle.cad_codec.proofs.Decoded.{one}
use Rattle.cad_codec.proofs.TypeFormats.{whole_types}
use Rattle.cad_codec.proofs.ValueFormats.{values_with_bytes}
use Rattle.cad_codec.proofs.laws.one_spelling.Goals as goal

pub returns-clause-values : goal.returns-clause-values
returns-clause-values c = one values_with_bytes

pub returns-clause-types : goal.returns-clause-types
returns-clause-types c = one whole_types
