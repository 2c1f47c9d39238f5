use Rattle.std.proofs.Common.{sym, arith}
use Rattle.std.proofs.lemmas.Option.{slice_get_past}
use Rattle.cad_codec.specs.Code.Types.{basics}
use Rattle.cad_codec.proofs.reading_types.basic_of.Goals as goal

pub returns-in_default : goal.returns-in_default
returns-in_default c = sym (slice_get_past basics c.args.byte (omega arith))
