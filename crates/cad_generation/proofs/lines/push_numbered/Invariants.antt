use Rattle.std.proofs.Common.{◌≡◌, ◌++◌}
use Rattle.cad_generation.specs.Lines.{transfers}
use Rattle.cad_generation.specs.Numbers.{number}
use Rattle.cad_generation.specs.Programs.{lines_text}
use Rattle.cad_generation.proofs.lines.push_numbered.Given as goal

abbrev pub invariant-loop : goal.invariant-loop
invariant-loop l = (l.bytes.items ≡ l.fn.bytes.items ++ lines_text (transfers l.n l.counter)) × (l.x ≡ number l.n l.counter)
