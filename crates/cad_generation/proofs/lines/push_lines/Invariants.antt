use Rattle.std.proofs.Common.{◌≡◌, ◌++◌, drop}
use Rattle.cad_generation.specs.Programs.{lines_text}
use Rattle.cad_generation.proofs.lines.push_lines.Given as goal

abbrev pub invariant-loop-line : goal.invariant-loop-line
invariant-loop-line l = l.bytes.items ++ lines_text (drop l.line-index l.lines) ≡ l.fn.bytes.items ++ lines_text l.fn.lines
