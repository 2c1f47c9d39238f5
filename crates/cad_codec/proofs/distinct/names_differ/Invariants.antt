use Rattle.std.proofs.Common.{map}
use Rattle.cad_values.specs.Values.{pure_field}
use Rattle.cad_codec.proofs.Seen.{Added}
use Rattle.cad_codec.proofs.distinct.names_differ.Given as goal

abbrev pub invariant-loop-field : goal.invariant-loop-field
invariant-loop-field l = Added l.seen (map (λ x. x.name.0) (map pure_field l.fields)) l.field-index
